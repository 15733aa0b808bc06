-- The instruction table (unprivileged manual 20191213, chapter 24): the format of each instruction with its numbers, once,
-- and the instruction of a format, found among the instructions of that format. `fence` and `ebreak` are not in the table.
use Rattle.std.specs.Prelude.{ℕ, Option, List, [], ◌∷◌, map, ◌==◌, ◌&&◌, Bool, ℤ}
use Rattle.std.specs.List.{find}
use Rattle.rv64_isa.specs.declared.opcode.TheConstants.{LOAD, OP_IMM, AUIPC, OP_IMM_32, STORE, OP, LUI, OP_32, BRANCH, JALR, JAL}
use Rattle.rv64_isa.specs.declared.instr.Instr.{Instr}
use Rattle.rv64_isa.specs.declared.instr.Instr.TheVariants.{Lui, Auipc, Jal, Jalr, Beq, Bne, Blt, Bge, Bltu, Bgeu, Lb, Lh, Lw, Ld, Lbu, Lhu, Lwu, Sb, Sh, Sw, Sd, Addi, Slti, Sltiu, Xori, Ori, Andi, Slli, Srli, Srai, Addiw, Slliw, Srliw, Sraiw, Add, Sll, Slt, Sltu, Xor, Srl, Or, And, Sub, Sra, Mul, Mulh, Mulhsu, Mulhu, Div, Divu, Rem, Remu, Addw, Sllw, Srlw, Subw, Sraw, Mulw, Divw, Divuw, Remw, Remuw, Ecall}
use Rattle.rv64_isa.specs.Format.{Format, RType, IType, Shift6, Shift5, SType, BType, UType, JType, Whole}

-- the format of an instruction: opcode, funct3, funct7 or a shift's top bits, then its operands
abbrev pub format_of : Instr → Format
format_of (Lui rd imm) = UType LUI rd imm
format_of (Auipc rd imm) = UType AUIPC rd imm
format_of (Jal rd imm) = JType JAL rd imm
format_of (Jalr rd rs1 imm) = IType JALR 0 rd rs1 imm
format_of (Beq rs1 rs2 imm) = BType BRANCH 0 rs1 rs2 imm
format_of (Bne rs1 rs2 imm) = BType BRANCH 1 rs1 rs2 imm
format_of (Blt rs1 rs2 imm) = BType BRANCH 4 rs1 rs2 imm
format_of (Bge rs1 rs2 imm) = BType BRANCH 5 rs1 rs2 imm
format_of (Bltu rs1 rs2 imm) = BType BRANCH 6 rs1 rs2 imm
format_of (Bgeu rs1 rs2 imm) = BType BRANCH 7 rs1 rs2 imm
format_of (Lb rd rs1 imm) = IType LOAD 0 rd rs1 imm
format_of (Lh rd rs1 imm) = IType LOAD 1 rd rs1 imm
format_of (Lw rd rs1 imm) = IType LOAD 2 rd rs1 imm
format_of (Ld rd rs1 imm) = IType LOAD 3 rd rs1 imm
format_of (Lbu rd rs1 imm) = IType LOAD 4 rd rs1 imm
format_of (Lhu rd rs1 imm) = IType LOAD 5 rd rs1 imm
format_of (Lwu rd rs1 imm) = IType LOAD 6 rd rs1 imm
format_of (Sb rs1 rs2 imm) = SType STORE 0 rs1 rs2 imm
format_of (Sh rs1 rs2 imm) = SType STORE 1 rs1 rs2 imm
format_of (Sw rs1 rs2 imm) = SType STORE 2 rs1 rs2 imm
format_of (Sd rs1 rs2 imm) = SType STORE 3 rs1 rs2 imm
format_of (Addi rd rs1 imm) = IType OP_IMM 0 rd rs1 imm
format_of (Slti rd rs1 imm) = IType OP_IMM 2 rd rs1 imm
format_of (Sltiu rd rs1 imm) = IType OP_IMM 3 rd rs1 imm
format_of (Xori rd rs1 imm) = IType OP_IMM 4 rd rs1 imm
format_of (Ori rd rs1 imm) = IType OP_IMM 6 rd rs1 imm
format_of (Andi rd rs1 imm) = IType OP_IMM 7 rd rs1 imm
format_of (Slli rd rs1 imm) = Shift6 OP_IMM 1 0 rd rs1 imm
format_of (Srli rd rs1 imm) = Shift6 OP_IMM 5 0 rd rs1 imm
format_of (Srai rd rs1 imm) = Shift6 OP_IMM 5 0x10 rd rs1 imm
format_of (Addiw rd rs1 imm) = IType OP_IMM_32 0 rd rs1 imm
format_of (Slliw rd rs1 imm) = Shift5 OP_IMM_32 1 0 rd rs1 imm
format_of (Srliw rd rs1 imm) = Shift5 OP_IMM_32 5 0 rd rs1 imm
format_of (Sraiw rd rs1 imm) = Shift5 OP_IMM_32 5 0x20 rd rs1 imm
format_of (Add rd rs1 rs2) = RType OP 0 0 rd rs1 rs2
format_of (Sll rd rs1 rs2) = RType OP 1 0 rd rs1 rs2
format_of (Slt rd rs1 rs2) = RType OP 2 0 rd rs1 rs2
format_of (Sltu rd rs1 rs2) = RType OP 3 0 rd rs1 rs2
format_of (Xor rd rs1 rs2) = RType OP 4 0 rd rs1 rs2
format_of (Srl rd rs1 rs2) = RType OP 5 0 rd rs1 rs2
format_of (Or rd rs1 rs2) = RType OP 6 0 rd rs1 rs2
format_of (And rd rs1 rs2) = RType OP 7 0 rd rs1 rs2
format_of (Sub rd rs1 rs2) = RType OP 0 0x20 rd rs1 rs2
format_of (Sra rd rs1 rs2) = RType OP 5 0x20 rd rs1 rs2
format_of (Mul rd rs1 rs2) = RType OP 0 1 rd rs1 rs2
format_of (Mulh rd rs1 rs2) = RType OP 1 1 rd rs1 rs2
format_of (Mulhsu rd rs1 rs2) = RType OP 2 1 rd rs1 rs2
format_of (Mulhu rd rs1 rs2) = RType OP 3 1 rd rs1 rs2
format_of (Div rd rs1 rs2) = RType OP 4 1 rd rs1 rs2
format_of (Divu rd rs1 rs2) = RType OP 5 1 rd rs1 rs2
format_of (Rem rd rs1 rs2) = RType OP 6 1 rd rs1 rs2
format_of (Remu rd rs1 rs2) = RType OP 7 1 rd rs1 rs2
format_of (Addw rd rs1 rs2) = RType OP_32 0 0 rd rs1 rs2
format_of (Sllw rd rs1 rs2) = RType OP_32 1 0 rd rs1 rs2
format_of (Srlw rd rs1 rs2) = RType OP_32 5 0 rd rs1 rs2
format_of (Subw rd rs1 rs2) = RType OP_32 0 0x20 rd rs1 rs2
format_of (Sraw rd rs1 rs2) = RType OP_32 5 0x20 rd rs1 rs2
format_of (Mulw rd rs1 rs2) = RType OP_32 0 1 rd rs1 rs2
format_of (Divw rd rs1 rs2) = RType OP_32 4 1 rd rs1 rs2
format_of (Divuw rd rs1 rs2) = RType OP_32 5 1 rd rs1 rs2
format_of (Remw rd rs1 rs2) = RType OP_32 6 1 rd rs1 rs2
format_of (Remuw rd rs1 rs2) = RType OP_32 7 1 rd rs1 rs2
format_of Ecall = Whole 0x73

-- the instructions of each format, by name
abbrev pub r_type : List (ℕ → ℕ → ℕ → Instr)
r_type = Add ∷ Sll ∷ Slt ∷ Sltu ∷ Xor ∷ Srl ∷ Or ∷ And ∷ Sub ∷ Sra ∷ Mul ∷ Mulh ∷ Mulhsu ∷ Mulhu ∷ Div ∷ Divu ∷ Rem ∷ Remu ∷ Addw ∷ Sllw ∷ Srlw ∷ Subw ∷ Sraw ∷ Mulw ∷ Divw ∷ Divuw ∷ Remw ∷ Remuw ∷ []

abbrev pub i_type : List (ℕ → ℕ → ℤ → Instr)
i_type = Jalr ∷ Lb ∷ Lh ∷ Lw ∷ Ld ∷ Lbu ∷ Lhu ∷ Lwu ∷ Addi ∷ Slti ∷ Sltiu ∷ Xori ∷ Ori ∷ Andi ∷ Addiw ∷ []

abbrev pub shift6 : List (ℕ → ℕ → ℤ → Instr)
shift6 = Slli ∷ Srli ∷ Srai ∷ []

abbrev pub shift5 : List (ℕ → ℕ → ℤ → Instr)
shift5 = Slliw ∷ Srliw ∷ Sraiw ∷ []

abbrev pub s_type : List (ℕ → ℕ → ℤ → Instr)
s_type = Sb ∷ Sh ∷ Sw ∷ Sd ∷ []

abbrev pub b_type : List (ℕ → ℕ → ℤ → Instr)
b_type = Beq ∷ Bne ∷ Blt ∷ Bge ∷ Bltu ∷ Bgeu ∷ []

abbrev pub u_type : List (ℕ → ℤ → Instr)
u_type = Lui ∷ Auipc ∷ []

abbrev pub j_type : List (ℕ → ℤ → Instr)
j_type = Jal ∷ []

-- a format's instructions, with its operands
abbrev pub with_operands : Format → List Instr
with_operands (RType opcode funct3 funct7 rd rs1 rs2) = map (λ make. make rd rs1 rs2) r_type
with_operands (IType opcode funct3 rd rs1 imm) = map (λ make. make rd rs1 imm) i_type
with_operands (Shift6 opcode funct3 top rd rs1 imm) = map (λ make. make rd rs1 imm) shift6
with_operands (Shift5 opcode funct3 top rd rs1 imm) = map (λ make. make rd rs1 imm) shift5
with_operands (SType opcode funct3 rs1 rs2 imm) = map (λ make. make rs1 rs2 imm) s_type
with_operands (BType opcode funct3 rs1 rs2 imm) = map (λ make. make rs1 rs2 imm) b_type
with_operands (UType opcode rd imm) = map (λ make. make rd imm) u_type
with_operands (JType opcode rd imm) = map (λ make. make rd imm) j_type
with_operands (Whole word) = Ecall ∷ []

-- the numbers that tell the instructions of a format apart; 0 for one that the format has not
pub record Code : Type 0 where
  pub opcode : ℕ
  pub funct3 : ℕ
  pub top : ℕ

abbrev pub code_of : Format → Code
code_of (RType opcode funct3 funct7 rd rs1 rs2) = record { opcode = opcode; funct3 = funct3; top = funct7 }
code_of (IType opcode funct3 rd rs1 imm) = record { opcode = opcode; funct3 = funct3; top = 0 }
code_of (Shift6 opcode funct3 top rd rs1 imm) = record { opcode = opcode; funct3 = funct3; top = top }
code_of (Shift5 opcode funct3 top rd rs1 imm) = record { opcode = opcode; funct3 = funct3; top = top }
code_of (SType opcode funct3 rs1 rs2 imm) = record { opcode = opcode; funct3 = funct3; top = 0 }
code_of (BType opcode funct3 rs1 rs2 imm) = record { opcode = opcode; funct3 = funct3; top = 0 }
code_of (UType opcode rd imm) = record { opcode = opcode; funct3 = 0; top = 0 }
code_of (JType opcode rd imm) = record { opcode = opcode; funct3 = 0; top = 0 }
code_of (Whole word) = record { opcode = word; funct3 = 0; top = 0 }

abbrev pub code_eq : Code → Code → Bool
code_eq a b = b.opcode == a.opcode && b.top == a.top && b.funct3 == a.funct3

-- the instruction of a format, if the table has one: that with its operands and its code
abbrev pub instr_of_format : Format → Option Instr
instr_of_format m = find (λ i. code_eq (code_of (format_of i)) (code_of m)) (with_operands m)
