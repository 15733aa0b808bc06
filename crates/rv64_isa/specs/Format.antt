-- The layout of a 32-bit word (unprivileged manual 20191213, sections 2.2, 2.3 and 5.2): six fields, the formats R, I, S, B, U
-- and J that put numbers into them, and the fields read again. An I-type shift has its amount in the low six or five bits of
-- the immediate and its top bits as a number of its own. The code joins and splits words by shifts of bits.
use Rattle.std.specs.Prelude.{◌≡◌, ℕ, ◌+◌, ◌-◌, ◌*◌, ◌/◌, ◌%◌, ◌^◌, ◌<◌, ℤ, pos, negsuc, Option, Some, None, option_map, if◌then◌else◌, ◌==◌, nat_lt, ◌||◌}
use Rattle.rv64_isa.specs.declared.opcode.TheConstants.{LOAD, OP_IMM, AUIPC, OP_IMM_32, STORE, OP, LUI, OP_32, BRANCH, JALR, JAL, SYSTEM}
use Rattle.rv64_isa.specs.declared.fields.Fields.{Fields}

-- the word with these fields, and the fields of a word
abbrev pub word_of_fields : Fields → ℕ
word_of_fields f = f.opcode + f.rd * 2 ^ 7 + f.funct3 * 2 ^ 12 + f.rs1 * 2 ^ 15 + f.rs2 * 2 ^ 20 + f.funct7 * 2 ^ 25

abbrev pub fields_of_word : ℕ → Fields
fields_of_word w = record { opcode = w % 2 ^ 7; rd = w / 2 ^ 7 % 2 ^ 5; funct3 = w / 2 ^ 12 % 2 ^ 3; rs1 = w / 2 ^ 15 % 2 ^ 5; rs2 = w / 2 ^ 20 % 2 ^ 5; funct7 = w / 2 ^ 25 }

-- each field has as many bits as its place
pub record InFields (f : Fields) : Type 0 where
  pub opcode : f.opcode < 2 ^ 7
  pub rd : f.rd < 2 ^ 5
  pub funct3 : f.funct3 < 2 ^ 3
  pub rs1 : f.rs1 < 2 ^ 5
  pub rs2 : f.rs2 < 2 ^ 5
  pub funct7 : f.funct7 < 2 ^ 7

-- a number modulo m, and the number of either sign with this residue
abbrev pub residue : ℕ → ℤ → ℕ
residue m (pos n) = n % m
residue m (negsuc n) = m - 1 - n % m

abbrev pub signed : ℕ → ℕ → ℤ
signed m n = if nat_lt n (m / 2) then pos n else negsuc (m - 1 - n)

-- a format with its numbers: opcode, funct3, funct7 or a shift's top bits, then registers and immediate
pub data Format : Type 0 where
  RType : (opcode funct3 funct7 rd rs1 rs2 : ℕ) → Format
  IType : (opcode funct3 rd rs1 : ℕ) (imm : ℤ) → Format
  Shift6 : (opcode funct3 top rd rs1 : ℕ) (imm : ℤ) → Format
  Shift5 : (opcode funct3 top rd rs1 : ℕ) (imm : ℤ) → Format
  SType : (opcode funct3 rs1 rs2 : ℕ) (imm : ℤ) → Format
  BType : (opcode funct3 rs1 rs2 : ℕ) (imm : ℤ) → Format
  UType : (opcode rd : ℕ) (imm : ℤ) → Format
  JType : (opcode rd : ℕ) (imm : ℤ) → Format
  Whole : (word : ℕ) → Format

-- where a format puts its numbers: bit k of an immediate v is v / 2 ^ k % 2
abbrev pub fields_of_format : Format → Fields
fields_of_format (RType opcode funct3 funct7 rd rs1 rs2) = record { opcode = opcode; rd = rd; funct3 = funct3; rs1 = rs1; rs2 = rs2; funct7 = funct7 }
fields_of_format (IType opcode funct3 rd rs1 imm) =
    let v = residue (2 ^ 12) imm in
    record { opcode = opcode; rd = rd; funct3 = funct3; rs1 = rs1; rs2 = v % 2 ^ 5; funct7 = v / 2 ^ 5 }
fields_of_format (Shift6 opcode funct3 top rd rs1 imm) =
    let v = residue (2 ^ 6) imm in
    record { opcode = opcode; rd = rd; funct3 = funct3; rs1 = rs1; rs2 = v % 2 ^ 5; funct7 = v / 2 ^ 5 + top * 2 }
fields_of_format (Shift5 opcode funct3 top rd rs1 imm) =
    record { opcode = opcode; rd = rd; funct3 = funct3; rs1 = rs1; rs2 = residue (2 ^ 5) imm; funct7 = top }
fields_of_format (SType opcode funct3 rs1 rs2 imm) =
    let v = residue (2 ^ 12) imm in
    record { opcode = opcode; rd = v % 2 ^ 5; funct3 = funct3; rs1 = rs1; rs2 = rs2; funct7 = v / 2 ^ 5 }
fields_of_format (BType opcode funct3 rs1 rs2 imm) =
    let v = residue (2 ^ 13) imm in
    record { opcode = opcode; rd = v / 2 ^ 11 % 2 + v / 2 % 2 ^ 4 * 2; funct3 = funct3; rs1 = rs1; rs2 = rs2; funct7 = v / 2 ^ 5 % 2 ^ 6 + v / 2 ^ 12 * 2 ^ 6 }
fields_of_format (UType opcode rd imm) =
    let v = residue (2 ^ 20) imm in
    record { opcode = opcode; rd = rd; funct3 = v % 2 ^ 3; rs1 = v / 2 ^ 3 % 2 ^ 5; rs2 = v / 2 ^ 8 % 2 ^ 5; funct7 = v / 2 ^ 13 }
fields_of_format (JType opcode rd imm) =
    let v = residue (2 ^ 21) imm in
    record { opcode = opcode; rd = rd; funct3 = v / 2 ^ 12 % 2 ^ 3; rs1 = v / 2 ^ 15 % 2 ^ 5; rs2 = v / 2 ^ 11 % 2 + v / 2 % 2 ^ 4 * 2; funct7 = v / 2 ^ 5 % 2 ^ 6 + v / 2 ^ 20 * 2 ^ 6 }
fields_of_format (Whole word) = fields_of_word word

-- immediates of either sign and without sign in m values, even offsets, and numbers of registers
abbrev pub IsSigned : ℕ → ℤ → Type 0
IsSigned m (pos n) = n < m / 2
IsSigned m (negsuc n) = n < m / 2

abbrev pub IsUnsigned : ℕ → ℤ → Type 0
IsUnsigned m (pos n) = n < m
IsUnsigned m (negsuc n) = ⊥

abbrev pub IsEven : ℤ → Type 0
IsEven z = residue 2 z ≡ 0

abbrev pub IsRegister : ℕ → Type 0
IsRegister r = r < 2 ^ 5

-- the operands that a format can hold
abbrev pub Fits : Format → Type 0
Fits (RType opcode funct3 funct7 rd rs1 rs2) = IsRegister rd × IsRegister rs1 × IsRegister rs2
Fits (IType opcode funct3 rd rs1 imm) = IsRegister rd × IsRegister rs1 × IsSigned (2 ^ 12) imm
Fits (Shift6 opcode funct3 top rd rs1 imm) = IsRegister rd × IsRegister rs1 × IsUnsigned (2 ^ 6) imm
Fits (Shift5 opcode funct3 top rd rs1 imm) = IsRegister rd × IsRegister rs1 × IsUnsigned (2 ^ 5) imm
Fits (SType opcode funct3 rs1 rs2 imm) = IsRegister rs1 × IsRegister rs2 × IsSigned (2 ^ 12) imm
Fits (BType opcode funct3 rs1 rs2 imm) = IsRegister rs1 × IsRegister rs2 × IsSigned (2 ^ 13) imm × IsEven imm
Fits (UType opcode rd imm) = IsRegister rd × IsUnsigned (2 ^ 20) imm
Fits (JType opcode rd imm) = IsRegister rd × IsSigned (2 ^ 21) imm × IsEven imm
Fits (Whole word) = Unit {0}

-- the formats by name
pub data Shape : Type 0 where
  R : Shape
  I : Shape
  Sh6 : Shape
  Sh5 : Shape
  S : Shape
  B : Shape
  U : Shape
  J : Shape
  W : Shape

-- the format that the words of a major opcode have (table 24.1); shifts by a constant are told by funct3
abbrev pub shape_of : ℕ → ℕ → Option Shape
shape_of opcode funct3 =
    if opcode == OP || opcode == OP_32 then Some R
    else if opcode == OP_IMM then Some (if funct3 == 1 || funct3 == 5 then Sh6 else I)
    else if opcode == OP_IMM_32 then Some (if funct3 == 1 || funct3 == 5 then Sh5 else I)
    else if opcode == LOAD || opcode == JALR then Some I
    else if opcode == STORE then Some S
    else if opcode == BRANCH then Some B
    else if opcode == LUI || opcode == AUIPC then Some U
    else if opcode == JAL then Some J
    else if opcode == SYSTEM then Some W
    else None

-- the fields read in a format
abbrev pub read : Shape → Fields → Format
read R f = RType f.opcode f.funct3 f.funct7 f.rd f.rs1 f.rs2
read I f = IType f.opcode f.funct3 f.rd f.rs1 (signed (2 ^ 12) (f.rs2 + f.funct7 * 2 ^ 5))
read Sh6 f = Shift6 f.opcode f.funct3 (f.funct7 / 2) f.rd f.rs1 (pos (f.rs2 + f.funct7 % 2 * 2 ^ 5))
read Sh5 f = Shift5 f.opcode f.funct3 f.funct7 f.rd f.rs1 (pos f.rs2)
read S f = SType f.opcode f.funct3 f.rs1 f.rs2 (signed (2 ^ 12) (f.rd + f.funct7 * 2 ^ 5))
read B f = BType f.opcode f.funct3 f.rs1 f.rs2 (signed (2 ^ 13) (f.rd / 2 * 2 + f.funct7 % 2 ^ 6 * 2 ^ 5 + f.rd % 2 * 2 ^ 11 + f.funct7 / 2 ^ 6 * 2 ^ 12))
read U f = UType f.opcode f.rd (pos (f.funct3 + f.rs1 * 2 ^ 3 + f.rs2 * 2 ^ 8 + f.funct7 * 2 ^ 13))
read J f = JType f.opcode f.rd (signed (2 ^ 21) (f.rs2 / 2 * 2 + f.funct7 % 2 ^ 6 * 2 ^ 5 + f.rs2 % 2 * 2 ^ 11 + f.funct3 * 2 ^ 12 + f.rs1 * 2 ^ 15 + f.funct7 / 2 ^ 6 * 2 ^ 20))
read W f = Whole (word_of_fields f)

abbrev pub format_of_fields : Fields → Option Format
format_of_fields f = option_map (λ s. read s f) (shape_of f.opcode f.funct3)
