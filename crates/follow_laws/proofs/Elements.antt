-- Elements of arrays: their numbers in registers and in memory, and what is read after an element was stored.
use Rattle.std.proofs.Common.{◌≡◌, ◌≢◌, ℕ, zero, suc, ◌+◌, ◌-◌, ◌*◌, ◌/◌, ◌%◌, ◌^◌, ◌<◌, ◌≤◌, ℤ, pos, negsuc, ◌≤ℤ◌, true, cond, List, [], ◌∷◌, Some, refl, sym, ap, ◌∙◌, subst, arith}
use Rattle.std.specs.Prelude.{nat_lt, nat_le, ◌&&◌, slice_get, slice_set}
use Rattle.std.proofs.Math.Nat.{mod-lt, mod-one}
use Rattle.std.proofs.Math.Pow.{pow_pos, mod-mod-pow}
use Rattle.std.proofs.lemmas.Nat.{mod-pow-add, shr_high}
use Rattle.std.proofs.lemmas.Int.{ints}
use Rattle.std.proofs.lemmas.Bool.{cond-true}
use Rattle.std.proofs.lemmas.Bool.Decides.{nat_tests}
use Rattle.gimple_ir.specs.Values.{IsValue, modulus, reduced, value_of}
use Rattle.gimple_ir.specs.Programs.{IsElement}
use Rattle.gimple_ir.specs.Statements.{read_type}
use Rattle.gimple_ir.specs.declared.types.ElementType.{ElementType}
use Rattle.gimple_ir.specs.declared.types.ElementType.TheVariants as element
use Rattle.gimple_ir.specs.declared.types.ScalarType.{ScalarType}
use Rattle.gimple_ir.specs.declared.types.ScalarType.TheVariants.{Int, UnsignedInt, LongInt, LongUnsignedInt}
use Rattle.gimple_ir.specs.declared.types.Value.{Value}
use Rattle.gimple_ir.proofs.WellFormed.{reduced-InRange}
use Rattle.gimple_meaning.specs.Acts.{low_byte, element_at, loaded, stored, with_element}
use Rattle.rv64_isa.specs.declared.instr.Instr.TheVariants.{Slli}
use Rattle.rv64_meaning.specs.Arithmetic.{plus, add, upper}
use Rattle.rv64_meaning.specs.Machine.{Segments, State, Go, Trap, effect, put, load, store, can_load, can_store, load_to, store_from}
use Rattle.rv64_meaning.proofs.MemoryLaws.{load_same}
use Rattle.rv64_abi.specs.Offsets.{lo, upper_of}
use Rattle.rv64_select.specs.Operations.{scaling, element_load, element_store}
use Rattle.final_link.specs.Arrays.{element_size}
use Rattle.follow_laws.specs.Frames.{form_of}
use Rattle.follow_laws.proofs.FrameLaws.{low_byte_kept}
use Rattle.follow_laws.proofs.NumberLaws.{offset_parts}
use Rattle.follow_laws.specs.Related.{element_bits}
use Rattle.follow_laws.proofs.Memory.{load_kept}
use Rattle.follow_laws.proofs.Computing.{Computes, computes_none, computes_by, computes_as}
use Rattle.follow_laws.proofs.Forms.{low_of, low_lt, settled, settled_form, form_low, reduced_low}

-- ---- an index, and where it leads

-- a small number without a sign is its own form, in each type
index_form : (ty : ScalarType) (i : ℕ) → i < 2 ^ 31 → form_of (value_of ty (pos i)) ≡ i
index_form Int i h = grind (arith, nat_tests, ints)
index_form UnsignedInt i h = grind (arith, nat_tests, ints)
index_form LongInt i h = grind (arith, nat_tests, ints)
index_form LongUnsignedInt i h = grind (arith, nat_tests, ints)

pub form_index : (v : Value) (i : ℕ) → v.num ≡ pos i → i < 2 ^ 31 → form_of v ≡ i
form_index v i e h = ap (λ (z : ℤ). form_of (value_of v.ty z)) e ∙ index_form v.ty i h

-- the index times the size
pub scales : (e : ElementType) (i b : ℕ) → element_size e * i < 2 ^ 31 → Computes (scaling e) i b (element_size e * i)
scales element.UnsignedChar i b h = computes_as [] i b i (1 * i) (omega arith) (computes_none i b)
scales (element.Scalar Int) i b h = computes_as (Slli 5 5 (pos 2) ∷ []) i b (i * 4 % 2 ^ 64) (4 * i) (omega arith) (computes_by (Slli 5 5 (pos 2)) (λ x y. x * 4 % 2 ^ 64) i b (λ m s. refl))
scales (element.Scalar UnsignedInt) i b h = computes_as (Slli 5 5 (pos 2) ∷ []) i b (i * 4 % 2 ^ 64) (4 * i) (omega arith) (computes_by (Slli 5 5 (pos 2)) (λ x y. x * 4 % 2 ^ 64) i b (λ m s. refl))
scales (element.Scalar LongInt) i b h = computes_as (Slli 5 5 (pos 3) ∷ []) i b (i * 8 % 2 ^ 64) (8 * i) (omega arith) (computes_by (Slli 5 5 (pos 3)) (λ x y. x * 8 % 2 ^ 64) i b (λ m s. refl))
scales (element.Scalar LongUnsignedInt) i b h = computes_as (Slli 5 5 (pos 3) ∷ []) i b (i * 8 % 2 ^ 64) (8 * i) (omega arith) (computes_by (Slli 5 5 (pos 3)) (λ x y. x * 8 % 2 ^ 64) i b (λ m s. refl))

-- the upper part of an address and an offset, and its lower part
pub address_at : (base offset : ℕ) → base + offset < 2 ^ 31 - 2 ^ 11 → plus (add (upper (upper_of (pos base))) offset) (lo (pos base)) ≡ base + offset
address_at base offset h = offset_parts base offset (below base offset h) (above base offset h) ∙ turned base offset
  where
    below : (a b : ℕ) → a + b < 2 ^ 31 - 2 ^ 11 → a < 2 ^ 31 - 2 ^ 11
    below a b h = omega arith

    above : (a b : ℕ) → a + b < 2 ^ 31 - 2 ^ 11 → b + a < 2 ^ 64
    above a b h = omega arith

    turned : (a b : ℕ) → b + a ≡ a + b
    turned a b = omega arith

pub index_small : (e : ElementType) (i : ℕ) → element_size e * i < 2 ^ 31 → i < 2 ^ 31
index_small element.UnsignedChar i h = omega arith
index_small (element.Scalar Int) i h = omega arith
index_small (element.Scalar UnsignedInt) i h = omega arith
index_small (element.Scalar LongInt) i h = omega arith
index_small (element.Scalar LongUnsignedInt) i h = omega arith

-- an element of an array at a multiple of 8 is naturally aligned
pub element_aligned : (e : ElementType) (a i : ℕ) → a % 8 ≡ 0 → (a + element_size e * i) % element_size e ≡ 0
element_aligned element.UnsignedChar a i h = mod-one (a + 1 * i)
element_aligned (element.Scalar Int) a i h = omega arith
element_aligned (element.Scalar UnsignedInt) a i h = omega arith
element_aligned (element.Scalar LongInt) a i h = omega arith
element_aligned (element.Scalar LongUnsignedInt) a i h = omega arith

-- elements of one array have no byte in common
pub elements_apart : (e : ElementType) (a i j : ℕ) → i < j → a + element_size e * i + element_size e ≤ a + element_size e * j
elements_apart element.UnsignedChar a i j h = omega arith
elements_apart (element.Scalar Int) a i j h = omega arith
elements_apart (element.Scalar UnsignedInt) a i j h = omega arith
elements_apart (element.Scalar LongInt) a i j h = omega arith
elements_apart (element.Scalar LongUnsignedInt) a i j h = omega arith

-- ---- the words that load and store an element

-- what a load of an element makes of its bits
abbrev pub extended : ElementType → ℕ → ℕ
extended element.UnsignedChar x = x
extended (element.Scalar ty) x = settled ty x

loads : (m : Segments) (s : State) (n x a : ℕ) (extend : ℕ → ℕ) → x ≡ a → can_load m a n ≡ true → load_to m s 5 n x extend ≡ Go (put s 5 (extend (load n s.mem a)))
loads m s n x a extend e can = ap (λ y. load_to m s 5 n y extend) e ∙ cond-true (can_load m a n) (Go (put s 5 (extend (load n s.mem a)))) Trap can

pub element_loads : (e : ElementType) (m : Segments) (s : State) (imm : ℤ) (a : ℕ) → plus (s.reg 7) imm ≡ a → can_load m a (element_size e) ≡ true
    → effect m (element_load e 5 7 imm) s ≡ Go (put s 5 (extended e (load (element_size e) s.mem a)))
element_loads element.UnsignedChar m s imm a at can = loads m s 1 (plus (s.reg 7) imm) a (λ v. v) at can
element_loads (element.Scalar Int) m s imm a at can = loads m s 4 (plus (s.reg 7) imm) a (settled Int) at can
element_loads (element.Scalar UnsignedInt) m s imm a at can = loads m s 4 (plus (s.reg 7) imm) a (settled UnsignedInt) at can
element_loads (element.Scalar LongInt) m s imm a at can = loads m s 8 (plus (s.reg 7) imm) a (settled LongInt) at can
element_loads (element.Scalar LongUnsignedInt) m s imm a at can = loads m s 8 (plus (s.reg 7) imm) a (settled LongUnsignedInt) at can

-- a state with an element stored, a word on
abbrev pub stored_in : State → ℕ → ℕ → ℕ → State
stored_in s n a v = record s { mem = store n s.mem a v; pc = s.pc + 4 }

stores : (m : Segments) (s : State) (n x a v : ℕ) → x ≡ a → can_store m a n ≡ true → store_from m s n x v ≡ Go (stored_in s n a v)
stores m s n x a v e can = ap (λ y. store_from m s n y v) e ∙ cond-true (can_store m a n) (Go (stored_in s n a v)) Trap can

pub element_stores : (e : ElementType) (m : Segments) (s : State) (imm : ℤ) (a : ℕ) → plus (s.reg 7) imm ≡ a → can_store m a (element_size e) ≡ true
    → effect m (element_store e 7 6 imm) s ≡ Go (stored_in s (element_size e) a (s.reg 6))
element_stores element.UnsignedChar m s imm a at can = stores m s 1 (plus (s.reg 7) imm) a (s.reg 6) at can
element_stores (element.Scalar Int) m s imm a at can = stores m s 4 (plus (s.reg 7) imm) a (s.reg 6) at can
element_stores (element.Scalar UnsignedInt) m s imm a at can = stores m s 4 (plus (s.reg 7) imm) a (s.reg 6) at can
element_stores (element.Scalar LongInt) m s imm a at can = stores m s 8 (plus (s.reg 7) imm) a (s.reg 6) at can
element_stores (element.Scalar LongUnsignedInt) m s imm a at can = stores m s 8 (plus (s.reg 7) imm) a (s.reg 6) at can

-- ---- an element that is loaded

byte_form : (z : ℤ) → IsElement element.UnsignedChar z → element_bits element.UnsignedChar z ≡ form_of (value_of Int z)
byte_form (pos n) h = grind (arith, nat_tests, ints)
byte_form (negsuc n) h = absurd (omega (arith, ints, h.0))

-- its bits are those of its type
scalar_bits : (ty : ScalarType) (z : ℤ) → element_bits (element.Scalar ty) z ≡ low_of ty z
scalar_bits Int z = refl
scalar_bits UnsignedInt z = refl
scalar_bits LongInt z = refl
scalar_bits LongUnsignedInt z = refl

bits_settled : (ty : ScalarType) (z : ℤ) → settled ty (low_of ty z) ≡ form_of (value_of ty z)
bits_settled ty z = let h = low_lt ty z in settled_form ty (low_of ty z) z (small ty (low_of ty z) h) (same ty (low_of ty z) h)
  where
    small : (ty : ScalarType) (n : ℕ) → n < modulus ty → n < 2 ^ 64
    small Int n h = omega arith
    small UnsignedInt n h = omega arith
    small LongInt n h = omega arith
    small LongUnsignedInt n h = omega arith

    same : (ty : ScalarType) (n : ℕ) → n < modulus ty → n % modulus ty ≡ n
    same Int n h = omega arith
    same UnsignedInt n h = omega arith
    same LongInt n h = omega arith
    same LongUnsignedInt n h = omega arith

pub loaded_form : (e : ElementType) (z : ℤ) → IsElement e z → extended e (element_bits e z) ≡ form_of (loaded e z)
loaded_form element.UnsignedChar z h = byte_form z h
loaded_form (element.Scalar ty) z h = ap (settled ty) (scalar_bits ty z) ∙ bits_settled ty z

pub loaded_number : (e : ElementType) (z : ℤ) → IsElement e z → IsValue (loaded e z)
loaded_number element.UnsignedChar z h = record { above = omega (arith, ints, h.0, h.1); below = omega (arith, ints, h.0, h.1) }
loaded_number (element.Scalar ty) z h = h

-- ---- an element that is stored

pub stored_number : (e : ElementType) (z : ℤ) → IsElement e (stored e z)
stored_number element.UnsignedChar z = byte_number z
  where
    byte_number : (z : ℤ) → IsElement element.UnsignedChar (pos (low_byte z))
    byte_number (pos n) = (omega (arith, ints), omega (arith, ints))
    byte_number (negsuc n) = (omega (arith, ints), omega (arith, ints))
stored_number (element.Scalar ty) z = reduced-InRange ty z

-- the low bits of a value's form are those of the element
pub stored_bits : (e : ElementType) (v : Value) → v.ty ≡ read_type e → form_of v % 2 ^ (8 * element_size e) ≡ element_bits e (stored e v.num)
stored_bits element.UnsignedChar v same = (low_byte_kept v.num).1 v.ty ∙ sym (small (low_byte v.num) (stored_number element.UnsignedChar v.num).1)
  where
    small : (n : ℕ) → pos n ≤ℤ pos 255 → n % 256 ≡ n
    small n h = omega (arith, ints)
stored_bits (element.Scalar ty) v same = at_size ty (form_of v) ∙ low ∙ sym (reduced_low ty v.num) ∙ sym (scalar_bits ty (reduced ty v.num))
  where
    at_size : (ty : ScalarType) (n : ℕ) → n % 2 ^ (8 * element_size (element.Scalar ty)) ≡ n % modulus ty
    at_size Int n = refl
    at_size UnsignedInt n = refl
    at_size LongInt n = refl
    at_size LongUnsignedInt n = refl

    low : form_of v % modulus ty ≡ low_of ty v.num
    low = subst (λ (k : ScalarType). form_of v % modulus k ≡ low_of k v.num) same (form_low v)

-- ---- a load of what was stored, of which the low bytes stay

byte_low : (v k n : ℕ) → k < n → v % 2 ^ (8 * n) / 2 ^ (8 * k) % 256 ≡ v / 2 ^ (8 * k) % 256
byte_low v k n h =
    let j = 8 * (n - suc k) in
    let high = v / 2 ^ (8 * k) in
    let size : 8 * n ≡ (j + 8) + 8 * k = omega arith in
    ap (λ b. v % 2 ^ b / 2 ^ (8 * k) % 256) size
    ∙ ap (λ x. x / 2 ^ (8 * k) % 256) (mod-pow-add v (j + 8) (8 * k))
    ∙ ap (λ x. x % 256) (shr_high (high % 2 ^ (j + 8)) (8 * k) (v % 2 ^ (8 * k)) (mod-lt v (pow_pos (8 * k))))
    ∙ mod-mod-pow high j 8

store_low : (n : ℕ) (mem : ℕ → ℕ) (a v q : ℕ) → a ≤ q → q < a + n → store n mem a (v % 2 ^ (8 * n)) q ≡ store n mem a v q
unfolding store
store_low n mem a v q h k = ap (λ x. cond (nat_le a q && nat_lt q (a + n)) x (mem q)) (byte_low v (q - a) n (omega arith))

pub load_stored : (n : ℕ) (mem : ℕ → ℕ) (a v : ℕ) → load n (store n mem a v) a ≡ v % 2 ^ (8 * n)
load_stored n mem a v =
    let low = v % 2 ^ (8 * n) in
    sym (load_kept n (store n mem a v) (store n mem a low) a (λ q b c. store_low n mem a v q b c)) ∙ load_same n mem a low (mod-lt v (pow_pos (8 * n)))

-- ---- lists with an element set

number_same : (y z : ℤ) → Some y ≡ Some z → y ≡ z
number_same y z e = cc

set_there : (xs : List ℤ) (i : ℕ) (z y : ℤ) → slice_get (slice_set xs i z) i ≡ Some y → z ≡ y
set_there [] i z y e = cc
set_there (x ∷ xs) zero z y e = number_same z y e
set_there (x ∷ xs) (suc i) z y e = set_there xs i z y e

set_beside : (xs : List ℤ) (i j : ℕ) (z : ℤ) → i ≢ j → slice_get (slice_set xs i z) j ≡ slice_get xs j
set_beside [] i j z h = refl
set_beside (x ∷ xs) zero zero z h = absurd (h refl)
set_beside (x ∷ xs) zero (suc j) z h = refl
set_beside (x ∷ xs) (suc i) zero z h = refl
set_beside (x ∷ xs) (suc i) (suc j) z h = set_beside xs i j z (λ e. h (ap suc e))

-- the element that was stored, the others of its array, and the other arrays
pub element_there : (arrays : List (List ℤ)) (n i : ℕ) (z y : ℤ) → element_at (with_element arrays n i z) n (pos i) ≡ Some y → z ≡ y
element_there [] n i z y e = cc
element_there (xs ∷ more) zero i z y e = set_there xs i z y e
element_there (xs ∷ more) (suc n) i z y e = element_there more n i z y e

pub element_beside : (arrays : List (List ℤ)) (n i j : ℕ) (z : ℤ) → i ≢ j → element_at (with_element arrays n i z) n (pos j) ≡ element_at arrays n (pos j)
element_beside [] n i j z h = refl
element_beside (xs ∷ more) zero i j z h = set_beside xs i j z h
element_beside (xs ∷ more) (suc n) i j z h = element_beside more n i j z h

pub element_elsewhere : (arrays : List (List ℤ)) (n k i j : ℕ) (z : ℤ) → n ≢ k → element_at (with_element arrays n i z) k (pos j) ≡ element_at arrays k (pos j)
element_elsewhere [] n k i j z h = refl
element_elsewhere (xs ∷ more) zero zero i j z h = absurd (h refl)
element_elsewhere (xs ∷ more) zero (suc k) i j z h = refl
element_elsewhere (xs ∷ more) (suc n) zero i j z h = refl
element_elsewhere (xs ∷ more) (suc n) (suc k) i j z h = element_elsewhere more n k i j z (λ e. h (ap suc e))
