-- The machine: a hart of RV64IM (unprivileged manual 20191213, chapters 2, 5 and 7) over two segments of memory, with three
-- environment calls by the number in a7: 63 reads input, 64 writes output, 93 ends. Traps end the run for good: a word outside the
-- table, a fetch outside the text, a load or store that is not naturally aligned or not inside one segment, a store to the text,
-- and any other environment call. It knows no functions and no frames. The program changes one state in place.
use Rattle.std.specs.Prelude.{ℕ, zero, suc, ◌+◌, ◌-◌, ◌*◌, ◌/◌, ◌%◌, ◌^◌, Bool, not, List, [], ◌∷◌, ◌++◌, length, take, drop, min, Option, Some, None, slice_index, if◌then◌else◌, ◌==◌, nat_lt, nat_le, ◌&&◌, ◌||◌, bit_and, bit_or, bit_xor}
use Rattle.rv64_isa.specs.declared.instr.Instr.{Instr}
use Rattle.rv64_isa.specs.declared.instr.Instr.TheVariants.{Lui, Auipc, Jal, Jalr, Beq, Bne, Blt, Bge, Bltu, Bgeu, Lb, Lh, Lw, Ld, Lbu, Lhu, Lwu, Sb, Sh, Sw, Sd, Addi, Slti, Sltiu, Xori, Ori, Andi, Slli, Srli, Srai, Addiw, Slliw, Srliw, Sraiw, Add, Sll, Slt, Sltu, Xor, Srl, Or, And, Sub, Sra, Mul, Mulh, Mulhsu, Mulhu, Div, Divu, Rem, Remu, Addw, Sllw, Srlw, Subw, Sraw, Mulw, Divw, Divuw, Remw, Remuw, Ecall}
use Rattle.rv64_isa.specs.Words.{instr_of}
use Rattle.rv64_meaning.specs.Arithmetic.{bits64, sign_extended, of_word, plus, upper, add, sub, less_signed, bit, sll, srl, sra, sllw, srlw, sraw, mul, mulh, mulhsu, mulhu, div, divu, rem, remu, divw, divuw, remw, remuw}

-- what no step changes: the bytes of the text, which begins at 0x10000, and where the data segment begins and ends
pub record Segments : Type 0 where
  pub text : List ℕ
  pub data_start : ℕ
  pub data_end : ℕ

-- registers and bytes of memory are functions of their number and address
pub record State : Type 0 where
  pub reg : ℕ → ℕ
  pub pc : ℕ
  pub mem : ℕ → ℕ
  pub input : List ℕ
  pub output : List ℕ

-- what a step leads to
pub data Next : Type 0 where
  Go : State → Next
  End : (status : ℕ) → Next
  Trap : Next

-- ---- registers

-- register 0 is 0
abbrev pub read_reg : State → ℕ → ℕ
read_reg s r = if r == 0 then 0 else s.reg r

abbrev pub set_at : (ℕ → ℕ) → ℕ → ℕ → ℕ → ℕ
set_at f a v q = if q == a then v else f q

-- ---- memory

-- the number in n bytes from an address, least first, and these bytes
unfoldable pub load : ℕ → (ℕ → ℕ) → ℕ → ℕ
load zero mem a = 0
load (suc n) mem a = mem a + 256 * load n mem (a + 1)

unfoldable pub bytes_from : ℕ → (ℕ → ℕ) → ℕ → List ℕ
bytes_from zero mem a = []
bytes_from (suc n) mem a = mem a ∷ bytes_from n mem (a + 1)

-- memory with the low n bytes of a number, or with these bytes, from an address
unfoldable pub store : ℕ → (ℕ → ℕ) → ℕ → ℕ → ℕ → ℕ
store n mem a v q = if nat_le a q && nat_lt q (a + n) then v / 2 ^ (8 * (q - a)) % 256 else mem q

unfoldable pub store_bytes : List ℕ → (ℕ → ℕ) → ℕ → ℕ → ℕ
store_bytes bytes mem a q = if nat_le a q && nat_lt q (a + length bytes) then slice_index bytes (q - a) else mem q

-- n bytes from an address lie in the text, or in the data segment
abbrev pub in_text : Segments → ℕ → ℕ → Bool
in_text m a n = nat_le 0x10000 a && nat_le (a + n) (0x10000 + length m.text)

abbrev pub in_data : Segments → ℕ → ℕ → Bool
in_data m a n = nat_le m.data_start a && nat_le (a + n) m.data_end

-- the loads and stores of n bytes that do not trap
abbrev pub can_load : Segments → ℕ → ℕ → Bool
can_load m a n = a % n == 0 && (in_text m a n || in_data m a n)

abbrev pub can_store : Segments → ℕ → ℕ → Bool
can_store m a n = a % n == 0 && in_data m a n

-- ---- what an instruction does

-- the next word, with a register set
abbrev pub put : State → ℕ → ℕ → State
put s rd v = record s { reg = set_at s.reg rd v; pc = s.pc + 4 }

abbrev pub goto : State → ℕ → State
goto s a = record s { pc = a }

abbrev pub jump : State → ℕ → ℕ → Next
jump s rd a = Go (goto (put s rd (s.pc + 4)) a)

abbrev pub branch : State → Bool → ℕ → Next
branch s taken a = Go (goto s (if taken then a else s.pc + 4))

abbrev pub load_to : Segments → State → ℕ → ℕ → ℕ → (ℕ → ℕ) → Next
load_to m s rd n a extend = if can_load m a n then Go (put s rd (extend (load n s.mem a))) else Trap

abbrev pub store_from : Segments → State → ℕ → ℕ → ℕ → Next
store_from m s n a v = if can_store m a n then Go (record s { mem = store n s.mem a v; pc = s.pc + 4 }) else Trap

-- the environment calls: arguments in a0, a1 and a2, result in a0; bytes moved lie in one segment, none moved need no place
abbrev pub read_input : Segments → State → ℕ → ℕ → Next
read_input m s a n =
    if n == 0 || in_data m a n then Go (record s { reg = set_at s.reg 10 n; pc = s.pc + 4; mem = store_bytes (take n s.input) s.mem a; input = drop n s.input })
    else Trap

abbrev pub write_output : Segments → State → ℕ → ℕ → Next
write_output m s a n =
    if n == 0 || in_text m a n || in_data m a n then Go (record s { reg = set_at s.reg 10 n; pc = s.pc + 4; output = s.output ++ bytes_from n s.mem a })
    else Trap

abbrev pub service : Segments → State → Next
service m s =
    let a0 = read_reg s 10 in
    let a1 = read_reg s 11 in
    let a2 = read_reg s 12 in
    let a7 = read_reg s 17 in
    if a7 == 63 && a0 == 0 then read_input m s a1 (min a2 (length s.input))
    else if a7 == 64 && a0 == 1 then write_output m s a1 a2
    else if a7 == 93 then End (a0 % 256)
    else Trap

abbrev pub effect : Segments → Instr → State → Next
effect m (Lui rd imm) s = Go (put s rd (upper imm))
effect m (Auipc rd imm) s = Go (put s rd (add s.pc (upper imm)))
effect m (Jal rd imm) s = jump s rd (plus s.pc imm)
effect m (Jalr rd rs1 imm) s = jump s rd (plus (read_reg s rs1) imm / 2 * 2)
effect m (Beq rs1 rs2 imm) s = branch s (read_reg s rs1 == read_reg s rs2) (plus s.pc imm)
effect m (Bne rs1 rs2 imm) s = branch s (not (read_reg s rs1 == read_reg s rs2)) (plus s.pc imm)
effect m (Blt rs1 rs2 imm) s = branch s (less_signed (read_reg s rs1) (read_reg s rs2)) (plus s.pc imm)
effect m (Bge rs1 rs2 imm) s = branch s (not (less_signed (read_reg s rs1) (read_reg s rs2))) (plus s.pc imm)
effect m (Bltu rs1 rs2 imm) s = branch s (nat_lt (read_reg s rs1) (read_reg s rs2)) (plus s.pc imm)
effect m (Bgeu rs1 rs2 imm) s = branch s (not (nat_lt (read_reg s rs1) (read_reg s rs2))) (plus s.pc imm)
effect m (Lb rd rs1 imm) s = load_to m s rd 1 (plus (read_reg s rs1) imm) (sign_extended (2 ^ 8))
effect m (Lh rd rs1 imm) s = load_to m s rd 2 (plus (read_reg s rs1) imm) (sign_extended (2 ^ 16))
effect m (Lw rd rs1 imm) s = load_to m s rd 4 (plus (read_reg s rs1) imm) of_word
effect m (Ld rd rs1 imm) s = load_to m s rd 8 (plus (read_reg s rs1) imm) (λ v. v)
effect m (Lbu rd rs1 imm) s = load_to m s rd 1 (plus (read_reg s rs1) imm) (λ v. v)
effect m (Lhu rd rs1 imm) s = load_to m s rd 2 (plus (read_reg s rs1) imm) (λ v. v)
effect m (Lwu rd rs1 imm) s = load_to m s rd 4 (plus (read_reg s rs1) imm) (λ v. v)
effect m (Sb rs1 rs2 imm) s = store_from m s 1 (plus (read_reg s rs1) imm) (read_reg s rs2)
effect m (Sh rs1 rs2 imm) s = store_from m s 2 (plus (read_reg s rs1) imm) (read_reg s rs2)
effect m (Sw rs1 rs2 imm) s = store_from m s 4 (plus (read_reg s rs1) imm) (read_reg s rs2)
effect m (Sd rs1 rs2 imm) s = store_from m s 8 (plus (read_reg s rs1) imm) (read_reg s rs2)
effect m (Addi rd rs1 imm) s = Go (put s rd (plus (read_reg s rs1) imm))
effect m (Slti rd rs1 imm) s = Go (put s rd (bit (less_signed (read_reg s rs1) (bits64 imm))))
effect m (Sltiu rd rs1 imm) s = Go (put s rd (bit (nat_lt (read_reg s rs1) (bits64 imm))))
effect m (Xori rd rs1 imm) s = Go (put s rd (bit_xor (read_reg s rs1) (bits64 imm)))
effect m (Ori rd rs1 imm) s = Go (put s rd (bit_or (read_reg s rs1) (bits64 imm)))
effect m (Andi rd rs1 imm) s = Go (put s rd (bit_and (read_reg s rs1) (bits64 imm)))
effect m (Slli rd rs1 imm) s = Go (put s rd (sll (read_reg s rs1) (bits64 imm)))
effect m (Srli rd rs1 imm) s = Go (put s rd (srl (read_reg s rs1) (bits64 imm)))
effect m (Srai rd rs1 imm) s = Go (put s rd (sra (read_reg s rs1) (bits64 imm)))
effect m (Addiw rd rs1 imm) s = Go (put s rd (of_word (plus (read_reg s rs1) imm)))
effect m (Slliw rd rs1 imm) s = Go (put s rd (sllw (read_reg s rs1) (bits64 imm)))
effect m (Srliw rd rs1 imm) s = Go (put s rd (srlw (read_reg s rs1) (bits64 imm)))
effect m (Sraiw rd rs1 imm) s = Go (put s rd (sraw (read_reg s rs1) (bits64 imm)))
effect m (Add rd rs1 rs2) s = Go (put s rd (add (read_reg s rs1) (read_reg s rs2)))
effect m (Sll rd rs1 rs2) s = Go (put s rd (sll (read_reg s rs1) (read_reg s rs2)))
effect m (Slt rd rs1 rs2) s = Go (put s rd (bit (less_signed (read_reg s rs1) (read_reg s rs2))))
effect m (Sltu rd rs1 rs2) s = Go (put s rd (bit (nat_lt (read_reg s rs1) (read_reg s rs2))))
effect m (Xor rd rs1 rs2) s = Go (put s rd (bit_xor (read_reg s rs1) (read_reg s rs2)))
effect m (Srl rd rs1 rs2) s = Go (put s rd (srl (read_reg s rs1) (read_reg s rs2)))
effect m (Or rd rs1 rs2) s = Go (put s rd (bit_or (read_reg s rs1) (read_reg s rs2)))
effect m (And rd rs1 rs2) s = Go (put s rd (bit_and (read_reg s rs1) (read_reg s rs2)))
effect m (Sub rd rs1 rs2) s = Go (put s rd (sub (read_reg s rs1) (read_reg s rs2)))
effect m (Sra rd rs1 rs2) s = Go (put s rd (sra (read_reg s rs1) (read_reg s rs2)))
effect m (Mul rd rs1 rs2) s = Go (put s rd (mul (read_reg s rs1) (read_reg s rs2)))
effect m (Mulh rd rs1 rs2) s = Go (put s rd (mulh (read_reg s rs1) (read_reg s rs2)))
effect m (Mulhsu rd rs1 rs2) s = Go (put s rd (mulhsu (read_reg s rs1) (read_reg s rs2)))
effect m (Mulhu rd rs1 rs2) s = Go (put s rd (mulhu (read_reg s rs1) (read_reg s rs2)))
effect m (Div rd rs1 rs2) s = Go (put s rd (div (read_reg s rs1) (read_reg s rs2)))
effect m (Divu rd rs1 rs2) s = Go (put s rd (divu (read_reg s rs1) (read_reg s rs2)))
effect m (Rem rd rs1 rs2) s = Go (put s rd (rem (read_reg s rs1) (read_reg s rs2)))
effect m (Remu rd rs1 rs2) s = Go (put s rd (remu (read_reg s rs1) (read_reg s rs2)))
effect m (Addw rd rs1 rs2) s = Go (put s rd (of_word (add (read_reg s rs1) (read_reg s rs2))))
effect m (Sllw rd rs1 rs2) s = Go (put s rd (sllw (read_reg s rs1) (read_reg s rs2)))
effect m (Srlw rd rs1 rs2) s = Go (put s rd (srlw (read_reg s rs1) (read_reg s rs2)))
effect m (Subw rd rs1 rs2) s = Go (put s rd (of_word (sub (read_reg s rs1) (read_reg s rs2))))
effect m (Sraw rd rs1 rs2) s = Go (put s rd (sraw (read_reg s rs1) (read_reg s rs2)))
effect m (Mulw rd rs1 rs2) s = Go (put s rd (of_word (mul (read_reg s rs1) (read_reg s rs2))))
effect m (Divw rd rs1 rs2) s = Go (put s rd (divw (read_reg s rs1) (read_reg s rs2)))
effect m (Divuw rd rs1 rs2) s = Go (put s rd (divuw (read_reg s rs1) (read_reg s rs2)))
effect m (Remw rd rs1 rs2) s = Go (put s rd (remw (read_reg s rs1) (read_reg s rs2)))
effect m (Remuw rd rs1 rs2) s = Go (put s rd (remuw (read_reg s rs1) (read_reg s rs2)))
effect m Ecall s = service m s

-- ---- steps and runs

-- the instruction at an address, if it is a multiple of 4 in the text and a word of the table stands there
abbrev pub fetch : Segments → ℕ → Option Instr
fetch m a = if a % 4 == 0 && in_text m a 4 then instr_of (load 4 (slice_index m.text) (a - 0x10000)) else None

abbrev pub step : Segments → Option Instr → State → Next
step m None s = Trap
step m (Some i) s = effect m i s

-- how a machine stands: at a state, or over for good, with its output
pub data Standing : Type 0 where
  At : State → Standing
  EndedWith : (status : ℕ) (output : List ℕ) → Standing
  TrappedAt : (address : ℕ) (output : List ℕ) → Standing

abbrev pub follow : Next → State → Standing
follow (Go t) s = At t
follow (End status) s = EndedWith status s.output
follow Trap s = TrappedAt s.pc s.output

abbrev pub next : Segments → Standing → Standing
next m (At s) = follow (step m (fetch m s.pc) s) s
next m (EndedWith status output) = EndedWith status output
next m (TrappedAt address output) = TrappedAt address output

abbrev pub after : Segments → ℕ → Standing → Standing
after m zero p = p
after m (suc n) p = after m n (next m p)

-- what a run shows
pub data Outcome : Type 0 where
  Running : (output : List ℕ) → Outcome
  Ended : (status : ℕ) (output : List ℕ) → Outcome
  Trapped : (address : ℕ) (output : List ℕ) → Outcome

abbrev pub outcome_of : Standing → Outcome
outcome_of (At s) = Running s.output
outcome_of (EndedWith status output) = Ended status output
outcome_of (TrappedAt address output) = Trapped address output

-- the machine after at most n steps from a state
abbrev pub exec : Segments → ℕ → State → Outcome
exec m n s = outcome_of (after m n (At s))
