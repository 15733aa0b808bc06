-- The instructions that an operator and types choose. The first operand is in t0, the second in t1, and the result is in t0.
use Rattle.std.specs.Prelude.{ℕ, ℤ, pos, negsuc, List, [], ◌∷◌, if◌then◌else◌}
use Rattle.rv64_isa.specs.declared.instr.Instr.{Instr}
use Rattle.rv64_isa.specs.declared.instr.Instr.TheVariants.{Beq, Bne, Blt, Bge, Bltu, Bgeu, Lbu, Lw, Ld, Sb, Sw, Sd, Sltiu, Xori, Slli, Srli, Addiw, Add, Sll, Slt, Sltu, Xor, Srl, Or, And, Sub, Sra, Mul, Div, Divu, Rem, Remu, Addw, Sllw, Srlw, Subw, Sraw, Mulw, Divw, Divuw, Remw, Remuw}
use Rattle.rv64_abi.specs.Registers.{t0, t1}
use Rattle.gimple_ir.specs.declared.types.ScalarType.{ScalarType}
use Rattle.gimple_ir.specs.declared.types.ScalarType.TheVariants.{Int, UnsignedInt, LongInt, LongUnsignedInt}
use Rattle.gimple_ir.specs.declared.types.ElementType.{ElementType}
use Rattle.gimple_ir.specs.declared.types.ElementType.TheVariants as element
use Rattle.gimple_ir.specs.declared.types.UnaryOp.{UnaryOp}
use Rattle.gimple_ir.specs.declared.types.UnaryOp.TheVariants as unary
use Rattle.gimple_ir.specs.declared.types.BinaryOp.{BinaryOp}
use Rattle.gimple_ir.specs.declared.types.BinaryOp.TheVariants as binary
use Rattle.gimple_ir.specs.Values.{is_signed}

-- one for each type: `int`, `unsigned int`, `long int`, `long unsigned int`
abbrev pub by_type : {A : Type 0} → ScalarType → A → A → A → A → A
by_type Int a b c d = a
by_type UnsignedInt a b c d = b
by_type LongInt a b c d = c
by_type LongUnsignedInt a b c d = d

-- ---- branches

-- To the second word behind it, where the comparison of operands of this type holds. An operator that is no comparison has no branch.
abbrev pub branch : BinaryOp → ScalarType → List Instr
branch binary.Eq ty = Beq t0 t1 (pos 8) ∷ []
branch binary.Ne ty = Bne t0 t1 (pos 8) ∷ []
branch binary.Lt ty = (if is_signed ty then Blt t0 t1 (pos 8) else Bltu t0 t1 (pos 8)) ∷ []
branch binary.Ge ty = (if is_signed ty then Bge t0 t1 (pos 8) else Bgeu t0 t1 (pos 8)) ∷ []
branch binary.Gt ty = (if is_signed ty then Blt t1 t0 (pos 8) else Bltu t1 t0 (pos 8)) ∷ []
branch binary.Le ty = (if is_signed ty then Bge t1 t0 (pos 8) else Bgeu t1 t0 (pos 8)) ∷ []
branch _ ty = []

-- ---- operations

-- an instruction on t0 and t1
abbrev pub both : (ℕ → ℕ → ℕ → Instr) → Instr
both make = make t0 t0 t1

-- whether one register is less than another, in this type
abbrev pub less : ScalarType → ℕ → ℕ → Instr
less ty a b = if is_signed ty then Slt t0 a b else Sltu t0 a b

abbrev pub operation : BinaryOp → ScalarType → List Instr
operation binary.Add ty = by_type ty (both Addw) (both Addw) (both Add) (both Add) ∷ []
operation binary.Sub ty = by_type ty (both Subw) (both Subw) (both Sub) (both Sub) ∷ []
operation binary.Mul ty = by_type ty (both Mulw) (both Mulw) (both Mul) (both Mul) ∷ []
operation binary.Div ty = by_type ty (both Divw) (both Divuw) (both Div) (both Divu) ∷ []
operation binary.Rem ty = by_type ty (both Remw) (both Remuw) (both Rem) (both Remu) ∷ []
operation binary.And ty = both And ∷ []
operation binary.Or ty = both Or ∷ []
operation binary.Xor ty = both Xor ∷ []
operation binary.Shl ty = by_type ty (both Sllw) (both Sllw) (both Sll) (both Sll) ∷ []
operation binary.Shr ty = by_type ty (both Sraw) (both Srlw) (both Sra) (both Srl) ∷ []
operation binary.Eq ty = both Sub ∷ (Sltiu t0 t0 (pos 1) ∷ [])
operation binary.Ne ty = both Sub ∷ (Sltu t0 0 t0 ∷ [])
operation binary.Lt ty = less ty t0 t1 ∷ []
operation binary.Gt ty = less ty t1 t0 ∷ []
operation binary.Le ty = less ty t1 t0 ∷ (Xori t0 t0 (pos 1) ∷ [])
operation binary.Ge ty = less ty t0 t1 ∷ (Xori t0 t0 (pos 1) ∷ [])

abbrev pub unary_operation : UnaryOp → ScalarType → List Instr
unary_operation unary.Neg ty = by_type ty (Subw t0 0 t0) (Subw t0 0 t0) (Sub t0 0 t0) (Sub t0 0 t0) ∷ []
unary_operation unary.Not ty = Xori t0 t0 (negsuc 0) ∷ []

-- to 64 bits from `unsigned int`, which is held sign-extended
abbrev pub zero_extension : List Instr
zero_extension = Slli t0 t0 (pos 32) ∷ (Srli t0 t0 (pos 32) ∷ [])

-- to the first type, from the second
abbrev pub conversion : ScalarType → ScalarType → List Instr
conversion Int from = Addiw t0 t0 (pos 0) ∷ []
conversion UnsignedInt from = Addiw t0 t0 (pos 0) ∷ []
conversion LongInt UnsignedInt = zero_extension
conversion LongInt _ = []
conversion LongUnsignedInt UnsignedInt = zero_extension
conversion LongUnsignedInt _ = []

-- ---- elements of arrays

-- the index times the size of an element
abbrev pub scaling : ElementType → List Instr
scaling element.UnsignedChar = []
scaling (element.Scalar ty) = by_type ty (Slli t0 t0 (pos 2)) (Slli t0 t0 (pos 2)) (Slli t0 t0 (pos 3)) (Slli t0 t0 (pos 3)) ∷ []

abbrev pub element_load : ElementType → ℕ → ℕ → ℤ → Instr
element_load element.UnsignedChar rd rs1 imm = Lbu rd rs1 imm
element_load (element.Scalar ty) rd rs1 imm = by_type ty (Lw rd rs1 imm) (Lw rd rs1 imm) (Ld rd rs1 imm) (Ld rd rs1 imm)

abbrev pub element_store : ElementType → ℕ → ℕ → ℤ → Instr
element_store element.UnsignedChar rs1 rs2 imm = Sb rs1 rs2 imm
element_store (element.Scalar ty) rs1 rs2 imm = by_type ty (Sw rs1 rs2 imm) (Sw rs1 rs2 imm) (Sd rs1 rs2 imm) (Sd rs1 rs2 imm)
