-- What the templates of code and the stubs do to the machine, whatever the address, the registers and the memory are.
use Rattle.std.specs.Prelude.{◌≡◌, ℕ, ◌+◌, ◌-◌, ◌*◌, ◌%◌, ◌^◌, ◌<◌, ◌≤◌, ℤ, pos, true, false, List, [], ◌∷◌, ◌++◌, take, drop, length, ◌==◌}
use Rattle.rv64_isa.specs.declared.instr.Instr.TheVariants.{Addi, Ecall}
use Rattle.rv64_isa.specs.Format.{IsSigned}
use Rattle.rv64_meaning.specs.Arithmetic.{bits64}
use Rattle.rv64_meaning.specs.Machine.{Segments, State, read_reg, set_at, load, store, store_bytes, can_load, can_store}
use Rattle.rv64_abi.specs.Registers.{ra, sp, t0, a0, a7, t3}
use Rattle.rv64_abi.specs.Offsets.{call}
use Rattle.rv64_select.specs.Templates.{constant, load_slot, store_slot}
use Rattle.rv64_select.specs.Assembly.{enter_code, leave_code}
use Rattle.final_link.specs.Stubs.{start_address, start_stub, putchar_stub, getchar_stub}
use Rattle.follow_laws.specs.Relation.{StandsAt, Leads, ComesTo, EndsWith}

-- ---- templates

-- two registers, by number
abbrev pub Differ : ℕ → ℕ → Type 0
Differ q r = (q == r) ≡ false

-- a register set, and so many words passed
abbrev pub with_register : State → ℕ → ℕ → ℕ → State
with_register s r v words = record s { reg = set_at s.reg r v; pc = s.pc + 4 * words }

-- a constant of 64 bits into a register
abbrev pub ConstantSets : Type 0
ConstantSets =
    (m : Segments) (s : State) (r : ℕ) (c : ℤ) → IsSigned (2 ^ 64) c → Differ r 0 → StandsAt m s.pc (constant r c)
    → Leads m s (with_register s r (bits64 c) (length (constant r c)))

-- a slot of the frame into a register
abbrev pub LoadSets : Type 0
LoadSets =
    (m : Segments) (s : State) (r slot : ℕ) → Differ r 0 → Differ sp r → slot < 2 ^ 31 - 2 ^ 11 → s.reg sp + slot < 2 ^ 64
    → can_load m (s.reg sp + slot) 8 ≡ true → StandsAt m s.pc (load_slot r slot)
    → Leads m s (with_register s r (load 8 s.mem (s.reg sp + slot)) (length (load_slot r slot)))

-- a register into a slot of the frame: t3 may change
pub record Stored (words r slot : ℕ) (s t : State) : Type 0 where
  pub place : t.pc ≡ s.pc + 4 * words
  pub mem : t.mem ≡ store 8 s.mem (s.reg sp + slot) (read_reg s r)
  pub others : (q : ℕ) → Differ q t3 → t.reg q ≡ s.reg q
  pub input : t.input ≡ s.input
  pub output : t.output ≡ s.output

abbrev pub StoreStores : Type 0
StoreStores =
    (m : Segments) (s : State) (r slot : ℕ) → Differ r t3 → slot < 2 ^ 31 - 2 ^ 11 → s.reg sp + slot < 2 ^ 64
    → can_store m (s.reg sp + slot) 8 ≡ true → StandsAt m s.pc (store_slot r slot) → ComesTo m s (Stored (length (store_slot r slot)) r slot s)

-- a call of an address: the return address is the word behind it
abbrev pub called : State → ℕ → State
called s to = record s { reg = set_at s.reg ra (s.pc + 8); pc = to }

abbrev pub CallGoes : Type 0
CallGoes = (m : Segments) (s : State) (to : ℕ) → s.pc < 2 ^ 30 → to < 2 ^ 30 → to % 2 ≡ 0 → StandsAt m s.pc (call s.pc to) → Leads m s (called s to)

-- a frame of so many bytes made below the stack pointer, and the return address kept in its slot
pub record Entered (size slot : ℕ) (s t : State) : Type 0 where
  pub place : t.pc ≡ s.pc + 4 * length (enter_code size slot)
  pub stack : t.reg sp ≡ s.reg sp - size
  pub mem : t.mem ≡ store 8 s.mem (s.reg sp - size + slot) (s.reg ra)
  pub others : (q : ℕ) → Differ q sp → Differ q t0 → Differ q t3 → t.reg q ≡ s.reg q
  pub input : t.input ≡ s.input
  pub output : t.output ≡ s.output

abbrev pub EnterMakesFrame : Type 0
EnterMakesFrame =
    (m : Segments) (s : State) (size slot : ℕ) → s.reg sp < 2 ^ 63 → size ≤ s.reg sp → slot < 2 ^ 31 - 2 ^ 11
    → can_store m (s.reg sp - size + slot) 8 ≡ true → StandsAt m s.pc (enter_code size slot) → ComesTo m s (Entered size slot s)

-- the frame given back, and a return to the address in its slot
pub record Returned (size slot : ℕ) (s t : State) : Type 0 where
  pub place : t.pc ≡ load 8 s.mem (s.reg sp + slot)
  pub stack : t.reg sp ≡ s.reg sp + size
  pub mem : t.mem ≡ s.mem
  pub others : (q : ℕ) → Differ q 0 → Differ q ra → Differ q sp → Differ q t0 → t.reg q ≡ s.reg q
  pub input : t.input ≡ s.input
  pub output : t.output ≡ s.output

abbrev pub LeaveReturns : Type 0
LeaveReturns =
    (m : Segments) (s : State) (size slot : ℕ) → s.reg sp < 2 ^ 63 → size < 2 ^ 63 → slot < 2 ^ 31 - 2 ^ 11
    → can_load m (s.reg sp + slot) 8 ≡ true → load 8 s.mem (s.reg sp + slot) < 2 ^ 64 → load 8 s.mem (s.reg sp + slot) % 2 ≡ 0
    → StandsAt m s.pc (leave_code size slot) → ComesTo m s (Returned size slot s)

-- ---- stubs

-- the start: at `main`, with the stack's top, and the address behind the call
pub record Started (top main : ℕ) (s t : State) : Type 0 where
  pub place : t.pc ≡ main
  pub stack : t.reg sp ≡ top
  pub back : t.reg ra ≡ start_address + 16
  pub mem : t.mem ≡ s.mem
  pub input : t.input ≡ s.input
  pub output : t.output ≡ s.output

abbrev pub StartCalls : Type 0
StartCalls =
    (m : Segments) (s : State) (top main : ℕ) → s.pc ≡ start_address → top < 2 ^ 31 - 2 ^ 11 → main < 2 ^ 30 → main % 2 ≡ 0
    → StandsAt m start_address (start_stub top main) → ComesTo m s (Started top main s)

-- the end: the status is the low 8 bits of a0
abbrev pub ExitEnds : Type 0
ExitEnds = (m : Segments) (s : State) → StandsAt m s.pc (Addi a7 0 (pos 93) ∷ Ecall ∷ []) → EndsWith m s (s.reg a0 % 2 ^ 8) s.output

-- putchar: the low 8 bits of a0 are written, by way of the scratch byte
pub record AfterPutchar (scratch : ℕ) (s t : State) : Type 0 where
  pub place : t.pc ≡ s.reg ra
  pub stack : t.reg sp ≡ s.reg sp
  pub mem : t.mem ≡ store 1 s.mem scratch (s.reg a0)
  pub input : t.input ≡ s.input
  pub output : t.output ≡ s.output ++ (s.reg a0 % 2 ^ 8) ∷ []

abbrev pub PutcharWrites : Type 0
PutcharWrites =
    (m : Segments) (s : State) (scratch : ℕ) → scratch < 2 ^ 31 - 2 ^ 11 → can_store m scratch 1 ≡ true → s.reg ra < 2 ^ 64 → s.reg ra % 2 ≡ 0
    → StandsAt m s.pc (putchar_stub scratch) → ComesTo m s (AfterPutchar scratch s)

-- getchar: the next byte of the input, or -1 in 64 bits at its end
abbrev pub next_byte : List ℕ → ℕ
next_byte [] = 2 ^ 64 - 1
next_byte (byte ∷ more) = byte

pub record AfterGetchar (scratch : ℕ) (s t : State) : Type 0 where
  pub place : t.pc ≡ s.reg ra
  pub stack : t.reg sp ≡ s.reg sp
  pub value : t.reg a0 ≡ next_byte s.input
  pub mem : t.mem ≡ store_bytes (take 1 s.input) s.mem scratch
  pub input : t.input ≡ drop 1 s.input
  pub output : t.output ≡ s.output

abbrev pub GetcharReads : Type 0
GetcharReads =
    (m : Segments) (s : State) (scratch : ℕ) → scratch < 2 ^ 31 - 2 ^ 11 → can_store m scratch 1 ≡ true → s.pc < 2 ^ 30 → s.reg ra < 2 ^ 64 → s.reg ra % 2 ≡ 0
    → StandsAt m s.pc (getchar_stub scratch) → ComesTo m s (AfterGetchar scratch s)
