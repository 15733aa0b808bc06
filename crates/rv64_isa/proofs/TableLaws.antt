-- The table read forwards, by computing each row, and backwards, by what holds of each row.
use Rattle.std.proofs.Common.{◌≡◌, ℕ, List, [], ◌∷◌, Bool, Some, true, cond, false, ◌⊎◌, inl, inr, refl, subst, ◌∙◌}
use Rattle.std.specs.Prelude.{nat_lt, ◌&&◌, ◌==◌}
use Rattle.std.specs.List.{find}
use Rattle.std.proofs.lemmas.Bool.{eqb-true, and_parts}
use Rattle.rv64_isa.specs.Format.{Format, RType, IType, Shift6, Shift5, SType, BType, UType, JType, Whole, fields_of_format, shape_of}
use Rattle.rv64_isa.specs.declared.instr.Instr.{Instr}
use Rattle.rv64_isa.specs.declared.instr.Instr.TheVariants.{Lui, Auipc, Jal, Jalr, Beq, Bne, Blt, Bge, Bltu, Bgeu, Lb, Lh, Lw, Ld, Lbu, Lhu, Lwu, Sb, Sh, Sw, Sd, Addi, Slti, Sltiu, Xori, Ori, Andi, Slli, Srli, Srai, Addiw, Slliw, Srliw, Sraiw, Add, Sll, Slt, Sltu, Xor, Srl, Or, And, Sub, Sra, Mul, Mulh, Mulhsu, Mulhu, Div, Divu, Rem, Remu, Addw, Sllw, Srlw, Subw, Sraw, Mulw, Divw, Divuw, Remw, Remuw, Ecall}
use Rattle.rv64_isa.specs.Table.{format_of, instr_of_format, with_operands, code_of, code_eq}
use Rattle.rv64_isa.proofs.FormatLaws.{shape, some_inj}

-- the numbers of a format, but for its operands, fit their fields
abbrev pub is_small : Format → Bool
is_small (RType opcode funct3 funct7 rd rs1 rs2) = nat_lt opcode 128 && nat_lt funct3 8 && nat_lt funct7 128
is_small (IType opcode funct3 rd rs1 imm) = nat_lt opcode 128 && nat_lt funct3 8
is_small (Shift6 opcode funct3 top rd rs1 imm) = nat_lt opcode 128 && nat_lt funct3 8 && nat_lt top 64
is_small (Shift5 opcode funct3 top rd rs1 imm) = nat_lt opcode 128 && nat_lt funct3 8 && nat_lt top 128
is_small (SType opcode funct3 rs1 rs2 imm) = nat_lt opcode 128 && nat_lt funct3 8
is_small (BType opcode funct3 rs1 rs2 imm) = nat_lt opcode 128 && nat_lt funct3 8
is_small (UType opcode rd imm) = nat_lt opcode 128
is_small (JType opcode rd imm) = nat_lt opcode 128
is_small (Whole word) = nat_lt word 4294967296

-- what a row shows of its instruction: the format leads back to it, its fields tell the format, its numbers fit
pub record IsRow (i : Instr) : Type 0 where
  pub back : instr_of_format (format_of i) ≡ Some i
  pub told : shape_of (fields_of_format (format_of i)).opcode (fields_of_format (format_of i)).funct3 ≡ Some (shape (format_of i))
  pub small : is_small (format_of i) ≡ true

pub row : (i : Instr) → IsRow i
row (Lui rd imm) = record { back = refl; told = refl; small = refl }
row (Auipc rd imm) = record { back = refl; told = refl; small = refl }
row (Jal rd imm) = record { back = refl; told = refl; small = refl }
row (Jalr rd rs1 imm) = record { back = refl; told = refl; small = refl }
row (Beq rs1 rs2 imm) = record { back = refl; told = refl; small = refl }
row (Bne rs1 rs2 imm) = record { back = refl; told = refl; small = refl }
row (Blt rs1 rs2 imm) = record { back = refl; told = refl; small = refl }
row (Bge rs1 rs2 imm) = record { back = refl; told = refl; small = refl }
row (Bltu rs1 rs2 imm) = record { back = refl; told = refl; small = refl }
row (Bgeu rs1 rs2 imm) = record { back = refl; told = refl; small = refl }
row (Lb rd rs1 imm) = record { back = refl; told = refl; small = refl }
row (Lh rd rs1 imm) = record { back = refl; told = refl; small = refl }
row (Lw rd rs1 imm) = record { back = refl; told = refl; small = refl }
row (Ld rd rs1 imm) = record { back = refl; told = refl; small = refl }
row (Lbu rd rs1 imm) = record { back = refl; told = refl; small = refl }
row (Lhu rd rs1 imm) = record { back = refl; told = refl; small = refl }
row (Lwu rd rs1 imm) = record { back = refl; told = refl; small = refl }
row (Sb rs1 rs2 imm) = record { back = refl; told = refl; small = refl }
row (Sh rs1 rs2 imm) = record { back = refl; told = refl; small = refl }
row (Sw rs1 rs2 imm) = record { back = refl; told = refl; small = refl }
row (Sd rs1 rs2 imm) = record { back = refl; told = refl; small = refl }
row (Addi rd rs1 imm) = record { back = refl; told = refl; small = refl }
row (Slti rd rs1 imm) = record { back = refl; told = refl; small = refl }
row (Sltiu rd rs1 imm) = record { back = refl; told = refl; small = refl }
row (Xori rd rs1 imm) = record { back = refl; told = refl; small = refl }
row (Ori rd rs1 imm) = record { back = refl; told = refl; small = refl }
row (Andi rd rs1 imm) = record { back = refl; told = refl; small = refl }
row (Slli rd rs1 imm) = record { back = refl; told = refl; small = refl }
row (Srli rd rs1 imm) = record { back = refl; told = refl; small = refl }
row (Srai rd rs1 imm) = record { back = refl; told = refl; small = refl }
row (Addiw rd rs1 imm) = record { back = refl; told = refl; small = refl }
row (Slliw rd rs1 imm) = record { back = refl; told = refl; small = refl }
row (Srliw rd rs1 imm) = record { back = refl; told = refl; small = refl }
row (Sraiw rd rs1 imm) = record { back = refl; told = refl; small = refl }
row (Add rd rs1 rs2) = record { back = refl; told = refl; small = refl }
row (Sll rd rs1 rs2) = record { back = refl; told = refl; small = refl }
row (Slt rd rs1 rs2) = record { back = refl; told = refl; small = refl }
row (Sltu rd rs1 rs2) = record { back = refl; told = refl; small = refl }
row (Xor rd rs1 rs2) = record { back = refl; told = refl; small = refl }
row (Srl rd rs1 rs2) = record { back = refl; told = refl; small = refl }
row (Or rd rs1 rs2) = record { back = refl; told = refl; small = refl }
row (And rd rs1 rs2) = record { back = refl; told = refl; small = refl }
row (Sub rd rs1 rs2) = record { back = refl; told = refl; small = refl }
row (Sra rd rs1 rs2) = record { back = refl; told = refl; small = refl }
row (Mul rd rs1 rs2) = record { back = refl; told = refl; small = refl }
row (Mulh rd rs1 rs2) = record { back = refl; told = refl; small = refl }
row (Mulhsu rd rs1 rs2) = record { back = refl; told = refl; small = refl }
row (Mulhu rd rs1 rs2) = record { back = refl; told = refl; small = refl }
row (Div rd rs1 rs2) = record { back = refl; told = refl; small = refl }
row (Divu rd rs1 rs2) = record { back = refl; told = refl; small = refl }
row (Rem rd rs1 rs2) = record { back = refl; told = refl; small = refl }
row (Remu rd rs1 rs2) = record { back = refl; told = refl; small = refl }
row (Addw rd rs1 rs2) = record { back = refl; told = refl; small = refl }
row (Sllw rd rs1 rs2) = record { back = refl; told = refl; small = refl }
row (Srlw rd rs1 rs2) = record { back = refl; told = refl; small = refl }
row (Subw rd rs1 rs2) = record { back = refl; told = refl; small = refl }
row (Sraw rd rs1 rs2) = record { back = refl; told = refl; small = refl }
row (Mulw rd rs1 rs2) = record { back = refl; told = refl; small = refl }
row (Divw rd rs1 rs2) = record { back = refl; told = refl; small = refl }
row (Divuw rd rs1 rs2) = record { back = refl; told = refl; small = refl }
row (Remw rd rs1 rs2) = record { back = refl; told = refl; small = refl }
row (Remuw rd rs1 rs2) = record { back = refl; told = refl; small = refl }
row Ecall = record { back = refl; told = refl; small = refl }

chosen : {A : Type 0} (b : Bool) (x y z : A) → cond b x y ≡ z → ((b ≡ true) × (x ≡ z)) ⊎ ((b ≡ false) × (y ≡ z))
chosen true x y z e = inl (refl, e)
chosen false x y z e = inr (refl, e)

-- what holds of each element holds of the one that is found, and that one passes the test
abbrev AllOf : {A : Type 0} → (A → Type 0) → List A → Type 0
AllOf P [] = Unit {0}
AllOf P (x ∷ xs) = P x × AllOf P xs

find_found : {A : Type 0} (p : A → Bool) (P : A → Type 0) (xs : List A) (x : A) → AllOf P xs → find p xs ≡ Some x → (p x ≡ true) × P x
find_found p P [] x h e = cc
find_found p P (y ∷ ys) x h e =
    elim (chosen (p y) (Some y) (find p ys) (Some x) e) [
      | inl t ↦ (subst (λ z. p z ≡ true) (some_inj y x t.1) t.0, subst P (some_inj y x t.1) h.0)
      | inr t ↦ find_found p P ys x h.1 t.1
    ]

-- a format under other numbers, with the same operands
abbrev numbered : Format → ℕ → ℕ → ℕ → Format
numbered (RType opcode funct3 funct7 rd rs1 rs2) a b c = RType a b c rd rs1 rs2
numbered (IType opcode funct3 rd rs1 imm) a b c = IType a b rd rs1 imm
numbered (Shift6 opcode funct3 top rd rs1 imm) a b c = Shift6 a b c rd rs1 imm
numbered (Shift5 opcode funct3 top rd rs1 imm) a b c = Shift5 a b c rd rs1 imm
numbered (SType opcode funct3 rs1 rs2 imm) a b c = SType a b rs1 rs2 imm
numbered (BType opcode funct3 rs1 rs2 imm) a b c = BType a b rs1 rs2 imm
numbered (UType opcode rd imm) a b c = UType a rd imm
numbered (JType opcode rd imm) a b c = JType a rd imm
numbered (Whole word) a b c = Whole a

numbered_own : (m : Format) → numbered m (code_of m).opcode (code_of m).funct3 (code_of m).top ≡ m
numbered_own (RType opcode funct3 funct7 rd rs1 rs2) = refl
numbered_own (IType opcode funct3 rd rs1 imm) = refl
numbered_own (Shift6 opcode funct3 top rd rs1 imm) = refl
numbered_own (Shift5 opcode funct3 top rd rs1 imm) = refl
numbered_own (SType opcode funct3 rs1 rs2 imm) = refl
numbered_own (BType opcode funct3 rs1 rs2 imm) = refl
numbered_own (UType opcode rd imm) = refl
numbered_own (JType opcode rd imm) = refl
numbered_own (Whole word) = refl

-- the instructions of a format have its operands, under the numbers of their own
abbrev HasOperandsOf : Format → Instr → Type 0
HasOperandsOf m i = format_of i ≡ numbered m (code_of (format_of i)).opcode (code_of (format_of i)).funct3 (code_of (format_of i)).top

rows : (m : Format) → AllOf (HasOperandsOf m) (with_operands m)
rows (RType opcode funct3 funct7 rd rs1 rs2) = (refl, (refl, (refl, (refl, (refl, (refl, (refl, (refl, (refl, (refl, (refl, (refl, (refl, (refl, (refl, (refl, (refl, (refl, (refl, (refl, (refl, (refl, (refl, (refl, (refl, (refl, (refl, (refl, tt))))))))))))))))))))))))))))
rows (IType opcode funct3 rd rs1 imm) = (refl, (refl, (refl, (refl, (refl, (refl, (refl, (refl, (refl, (refl, (refl, (refl, (refl, (refl, (refl, tt)))))))))))))))
rows (Shift6 opcode funct3 top rd rs1 imm) = (refl, (refl, (refl, tt)))
rows (Shift5 opcode funct3 top rd rs1 imm) = (refl, (refl, (refl, tt)))
rows (SType opcode funct3 rs1 rs2 imm) = (refl, (refl, (refl, (refl, tt))))
rows (BType opcode funct3 rs1 rs2 imm) = (refl, (refl, (refl, (refl, (refl, (refl, tt))))))
rows (UType opcode rd imm) = (refl, (refl, tt))
rows (JType opcode rd imm) = (refl, tt)
rows (Whole word) = (refl, tt)

numbered_at : (m : Format) (a a' b b' c c' : ℕ) → a' ≡ a → b' ≡ b → c' ≡ c → numbered m a b c ≡ numbered m a' b' c'
numbered_at m a a' b b' c c' p q r = cc

-- the table has only its own rows
pub format_of-instr_of_format : (m : Format) (i : Instr) → instr_of_format m ≡ Some i → format_of i ≡ m
format_of-instr_of_format m i e =
    let f = find_found (λ j. code_eq (code_of (format_of j)) (code_of m)) (HasOperandsOf m) (with_operands m) i (rows m) e in
    let k = code_of (format_of i) in
    let n = code_of m in
    let t = and_parts (n.opcode == k.opcode && n.top == k.top) (n.funct3 == k.funct3) f.0 in
    let u = and_parts (n.opcode == k.opcode) (n.top == k.top) t.0 in
    f.1
    ∙ numbered_at m k.opcode n.opcode k.funct3 n.funct3 k.top n.top (eqb-true n.opcode k.opcode u.0) (eqb-true n.funct3 k.funct3 t.1) (eqb-true n.top k.top u.1)
    ∙ numbered_own m
