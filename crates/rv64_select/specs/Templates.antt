-- The templates that steps are made of: constants, and loads and stores of the frame.
use Rattle.std.specs.Prelude.{ℕ, zero, suc, ◌^◌, ◌-◌, ℤ, pos, negsuc, Bool, List, [], ◌∷◌, ◌++◌, nat_le, nat_lt, if◌then◌else◌}
use Rattle.rv64_isa.specs.declared.instr.Instr.{Instr}
use Rattle.rv64_isa.specs.declared.instr.Instr.TheVariants.{Lui, Ld, Sd, Addi, Addiw, Add, Slli}
use Rattle.rv64_isa.specs.Format.{residue, signed}
use Rattle.rv64_abi.specs.Offsets.{hi, lo, upper_of}
use Rattle.rv64_abi.specs.Registers.{sp, t3}
use Rattle.gimple_ir.specs.declared.types.ScalarType.{ScalarType}
use Rattle.gimple_ir.specs.declared.types.ScalarType.TheVariants.{Int, UnsignedInt, LongInt, LongUnsignedInt}

-- ---- constants

-- a number of n bits, in two's complement
abbrev pub is_signed_in : ℕ → ℤ → Bool
is_signed_in n (pos k) = nat_lt k (2 ^ (n - 1))
is_signed_in n (negsuc k) = nat_lt k (2 ^ (n - 1))

-- a number of 32 bits by its upper and its lower part
abbrev pub long_constant : ℕ → ℤ → List Instr
long_constant r c = Lui r (upper_of c) ∷ Addiw r r (lo c) ∷ []

-- A constant into a register: one word, two, or those of its upper part and two more. Three upper parts after one
-- another leave 28 bits of 64.
unfoldable pub constant_in : ℕ → ℕ → ℤ → List Instr
constant_in zero r c = []
constant_in (suc n) r c =
    if is_signed_in 12 c then Addi r 0 c ∷ []
    else if is_signed_in 32 c then long_constant r c
    else constant_in n r (hi c) ++ (Slli r r (pos 12) ∷ Addi r r (lo c) ∷ [])

-- a signed number of 64 bits into a register
unfoldable pub constant : ℕ → ℤ → List Instr
constant r c = constant_in 4 r c

-- ---- the frame

-- a slot of the frame into a register
abbrev pub load_slot : ℕ → ℕ → List Instr
load_slot r slot =
    if nat_le slot 2047 then Ld r sp (pos slot) ∷ []
    else Lui r (upper_of (pos slot)) ∷ Add r r sp ∷ Ld r r (lo (pos slot)) ∷ []

-- a register into a slot of the frame
abbrev pub store_slot : ℕ → ℕ → List Instr
store_slot r slot =
    if nat_le slot 2047 then Sd sp r (pos slot) ∷ []
    else Lui t3 (upper_of (pos slot)) ∷ Add t3 t3 sp ∷ Sd t3 r (lo (pos slot)) ∷ []

-- ---- values

-- the bits of a register that a value of this type fills
abbrev pub bits_of : ScalarType → ℕ
bits_of Int = 32
bits_of UnsignedInt = 32
bits_of LongInt = 64
bits_of LongUnsignedInt = 64

-- A value's machine form, as a signed number of 64 bits: the 32-bit types are sign-extended, the unsigned too.
abbrev pub machine_form : ScalarType → ℤ → ℤ
machine_form type number = signed (2 ^ bits_of type) (residue (2 ^ bits_of type) number)
