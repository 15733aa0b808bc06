-- Frames in memory: what stores leave of them, and what operands find in them.
use Rattle.std.proofs.Common.{◌≡◌, ◌≢◌, ℕ, zero, suc, ◌+◌, ◌-◌, ◌*◌, ◌%◌, ◌^◌, ◌<◌, ◌≤◌, ◌⊎◌, inl, inr, ℤ, pos, negsuc, Bool, true, false, cond, List, [], ◌∷◌, length, Option, Some, None, refl, sym, ap, ◌∙◌, arith}
use Rattle.std.specs.Prelude.{slice_set, replicate, nat_lt}
use Rattle.std.proofs.lemmas.Int.{ints}
use Rattle.std.proofs.lemmas.Bool.Decides.{nat_tests}
use Rattle.std.proofs.lemmas.Bool.{and_from, or_right, le-leb, eq-eqb, cases_eq, cases_lt}
use Rattle.std.proofs.lemmas.List.{length-replicate, length-set}
use Rattle.gimple_ir.specs.declared.types.ScalarType.{ScalarType}
use Rattle.gimple_ir.specs.declared.types.ScalarType.TheVariants.{Int, UnsignedInt, LongInt, LongUnsignedInt}
use Rattle.gimple_ir.specs.declared.types.Operand.TheVariants.{Component, Literal}
use Rattle.gimple_ir.specs.declared.types.Value.{Value}
use Rattle.gimple_ir.specs.declared.versioned.VersionedFunction.{VersionedFunction}
use Rattle.gimple_meaning.specs.Acts.{low_byte, cell}
use Rattle.rv64_isa.specs.Format.{residue}
use Rattle.rv64_isa.proofs.FormatLaws.{residue_lt}
use Rattle.rv64_meaning.specs.Arithmetic.{bits64}
use Rattle.rv64_meaning.specs.Machine.{load, store, in_text, in_data}
use Rattle.rv64_meaning.proofs.MemoryLaws.{load_same, load_apart}
use Rattle.rv64_frame.specs.Frames.{component_slot, return_slot}
use Rattle.rv64_select.specs.Templates.{machine_form}
use Rattle.follow_laws.specs.Frames.{LowByteKept, form_of, FrameHeld, FreshHeld, StoreApart, StoreSets, OperandHeld, DataReached}

-- ---- bytes

low_bits : (z : ℤ) → bits64 z % 2 ^ 8 ≡ low_byte z
low_bits (pos n) = grind (arith, nat_tests, ints)
low_bits (negsuc n) = grind (arith, nat_tests, ints)

-- the low byte through a sign, by whether the number is below the half
signed_low : (b : Bool) (half n : ℕ) → half ≤ 2 ^ 63 → half % 256 ≡ 0 → n < half + half → bits64 (cond b (pos n) (negsuc (half + half - 1 - n))) % 2 ^ 8 ≡ n % 2 ^ 8
signed_low true half n h e l = omega arith
signed_low false half n h e l = omega arith

low_32 : (z : ℤ) → residue (2 ^ 32) z % 2 ^ 8 ≡ bits64 z % 2 ^ 8
low_32 (pos n) = omega arith
low_32 (negsuc n) = omega arith

form_low : (type : ScalarType) (z : ℤ) → bits64 (machine_form type z) % 2 ^ 8 ≡ low_byte z
form_low Int z = let n = residue (2 ^ 32) z in signed_low (nat_lt n (2 ^ 31)) (2 ^ 31) n (omega arith) refl (residue_lt (2 ^ 32) z (omega arith)) ∙ low_32 z ∙ low_bits z
form_low UnsignedInt z = let n = residue (2 ^ 32) z in signed_low (nat_lt n (2 ^ 31)) (2 ^ 31) n (omega arith) refl (residue_lt (2 ^ 32) z (omega arith)) ∙ low_32 z ∙ low_bits z
form_low LongInt z = let n = residue (2 ^ 64) z in signed_low (nat_lt n (2 ^ 63)) (2 ^ 63) n (omega arith) refl (residue_lt (2 ^ 64) z (omega arith)) ∙ low_bits z
form_low LongUnsignedInt z = let n = residue (2 ^ 64) z in signed_low (nat_lt n (2 ^ 63)) (2 ^ 63) n (omega arith) refl (residue_lt (2 ^ 64) z (omega arith)) ∙ low_bits z

pub low_byte_kept : LowByteKept
low_byte_kept z = (low_bits z, λ type. form_low type z)

-- ---- components

within : (cells : List (Option Value)) (i : ℕ) (v : Value) → cell cells i ≡ Some v → i < length cells
within [] i v e = cc
within (x ∷ cells) zero v e = omega arith
within (x ∷ cells) (suc i) v e = omega (arith, within cells i v e)

none_set : (n i : ℕ) (v : Value) → cell (replicate n None) i ≡ Some v → ⊥
none_set zero i v e = absurd cc
none_set (suc n) zero v e = absurd cc
none_set (suc n) (suc i) v e = none_set n i v e

set_there : (cells : List (Option Value)) (i : ℕ) (v w : Value) → cell (slice_set cells i (Some v)) i ≡ Some w → v ≡ w
set_there [] i v w e = cc
set_there (x ∷ cells) zero v w e = cc
set_there (x ∷ cells) (suc i) v w e = set_there cells i v w e

set_elsewhere : (cells : List (Option Value)) (i j : ℕ) (v : Value) → i ≢ j → cell (slice_set cells i (Some v)) j ≡ cell cells j
set_elsewhere [] i j v h = refl
set_elsewhere (x ∷ cells) zero zero v h = absurd (h refl)
set_elsewhere (x ∷ cells) zero (suc j) v h = refl
set_elsewhere (x ∷ cells) (suc i) zero v h = refl
set_elsewhere (x ∷ cells) (suc i) (suc j) v h = set_elsewhere cells i j v (λ e. h (ap suc e))

-- ---- frames

pub fresh_held : FreshHeld
fresh_held f mem base ret back = record { long = length-replicate (length f.types) None; slots = λ i v e. absurd (none_set (length f.types) i v e); back = back }

pub store_apart : StoreApart
store_apart f mem base ret cells n a bits h (inl low) = record {
  long = h.long;
  slots = λ i v e. load_apart 8 n mem a bits (base + component_slot f i) (inr (omega (arith, low))) ∙ h.slots i v e;
  back = load_apart 8 n mem a bits (base + return_slot f) (inr (omega (arith, low))) ∙ h.back;
}
store_apart f mem base ret cells n a bits h (inr high) = record {
  long = h.long;
  slots = λ i v e. load_apart 8 n mem a bits (base + component_slot f i) (inl (omega (arith, high, within cells i v e, h.long))) ∙ h.slots i v e;
  back = load_apart 8 n mem a bits (base + return_slot f) (inl (omega (arith, high))) ∙ h.back;
}

slot_before : (f : VersionedFunction) (base i j : ℕ) → i < j → base + component_slot f i + 8 ≤ base + component_slot f j
slot_before f base i j h = omega arith

form_lt : (v : Value) → form_of v < 2 ^ (8 * 8)
form_lt v = residue_lt (2 ^ 64) (machine_form v.ty v.num) (omega arith)

slot_set : (f : VersionedFunction) (mem : ℕ → ℕ) (base ret : ℕ) (cells : List (Option Value)) (i : ℕ) (v : Value) → FrameHeld f mem base ret cells
    → (j : ℕ) (w : Value) → cell (slice_set cells i (Some v)) j ≡ Some w → load 8 (store 8 mem (base + component_slot f i) (form_of v)) (base + component_slot f j) ≡ form_of w
slot_set f mem base ret cells i v h j w e =
    elim (cases_eq i j) [
      | inl same ↦
          let there = set_there cells i v w (ap (cell (slice_set cells i (Some v))) same ∙ e) in
          ap (λ k. load 8 (store 8 mem (base + component_slot f i) (form_of v)) (base + component_slot f k)) (sym same) ∙ load_same 8 mem (base + component_slot f i) (form_of v) (form_lt v) ∙ ap form_of there
      | inr other ↦ load_apart 8 8 mem (base + component_slot f i) (form_of v) (base + component_slot f j) (apart i j other) ∙ h.slots j w (sym (set_elsewhere cells i j v other) ∙ e)
    ]
  where
    apart : (i j : ℕ) → i ≢ j → ((base + component_slot f j + 8 ≤ base + component_slot f i) ⊎ (base + component_slot f i + 8 ≤ base + component_slot f j))
    apart i j other = elim (cases_lt i j) [ inl less ↦ inr (slot_before f base i j less) | inr more ↦ inl (slot_before f base j i (omega (arith, more, other))) ]

pub store_sets : StoreSets
store_sets f mem base ret cells i v h inside = record {
  long = length-set cells i (Some v) ∙ h.long;
  slots = slot_set f mem base ret cells i v h;
  back = load_apart 8 8 mem (base + component_slot f i) (form_of v) (base + return_slot f) (inr (omega (arith, inside))) ∙ h.back;
}

pub operand_held : OperandHeld
operand_held f s ret cells (Component i) v h e = h.slots i v e
operand_held f s ret cells (Literal u) v h e = let same : u ≡ v = cc in ap form_of same

pub data_reached : DataReached
data_reached m a n e l h =
    let even = eq-eqb (a % n) 0 e in
    let inside = and_from _ _ (le-leb m.data_start a l) (le-leb (a + n) m.data_end h) in
    (and_from _ _ even (or_right (in_text m a n) (in_data m a n) inside), and_from _ _ even inside)
