-- A literal that is written for a value has that value.
use Rattle.std.proofs.Common.{◌≡◌, ◌-◌, zero, suc, ℤ, pos, negsuc, List, [], ◌∷◌, length, map, false, Some, None, refl, ap, ◌∙◌, arith}
use Rattle.std.specs.Prelude.{slice_get, Option, IfSome, All, ◌≢◌}
use Rattle.std.specs.Ordering.{int_eq}
use Rattle.std.proofs.lemmas.Int.{ints}
use Rattle.std.proofs.Math.Nat.{mod-eq_of_lt}
use Rattle.std.proofs.lemmas.List.Elements.{All-head, All-tail}
use Rattle.gimple_ir.specs.declared.types.ScalarType.{ScalarType}
use Rattle.gimple_ir.specs.declared.types.ScalarType.TheVariants.{Int, UnsignedInt, LongInt, LongUnsignedInt}
use Rattle.gimple_ir.specs.declared.types.ElementType.{ElementType}
use Rattle.gimple_ir.specs.declared.types.ElementType.TheVariants as element
use Rattle.gimple_ir.specs.declared.types.Value.{Value}
use Rattle.gimple_ir.specs.Values.{InRange, IsValue, reduced}
use Rattle.gimple_ir.specs.Programs.{IsElement}
use Rattle.gimple_tokens.specs.declared.token.Suffix.{Suffix}
use Rattle.gimple_tokens.specs.declared.token.Suffix.TheVariants.{Plain, U, L, Ul}
use Rattle.gimple_syntax.specs.Numbers.{signed, value_of, element_of, shortened, ends_in_zero}
use Rattle.gimple_syntax.proofs.Zeros.{shortened-is}
use Rattle.text_laws.specs.Syntax.{number_of, literal_of, initial_of}

signed_is : (z : ℤ) (suffix : Suffix) → signed (number_of z suffix) ≡ z
signed_is z suffix = grind (arith, ints)

reduced_is : (ty : ScalarType) (z : ℤ) → InRange ty z → reduced ty z ≡ z
reduced_is Int z h = grind (arith, ints)
reduced_is UnsignedInt z h = grind (arith, ints)
reduced_is LongInt z h = grind (arith, ints)
reduced_is LongUnsignedInt z h = grind (arith, ints)

by_type : (ty : ScalarType) (z : ℤ) → InRange ty z → value_of (literal_of (record { ty = ty; num = z })) ≡ record { ty = ty; num = z }
by_type Int z h = ap (λ n. record { ty = Int; num = n }) (ap (reduced Int) (signed_is z Plain) ∙ reduced_is Int z h)
by_type UnsignedInt z h = ap (λ n. record { ty = UnsignedInt; num = n }) (ap (reduced UnsignedInt) (signed_is z U) ∙ reduced_is UnsignedInt z h)
by_type LongInt z h = ap (λ n. record { ty = LongInt; num = n }) (ap (reduced LongInt) (signed_is z L) ∙ reduced_is LongInt z h)
by_type LongUnsignedInt z h = ap (λ n. record { ty = LongUnsignedInt; num = n }) (ap (reduced LongUnsignedInt) (signed_is z Ul) ∙ reduced_is LongUnsignedInt z h)

pub value_is : (v : Value) → IsValue v → value_of (literal_of v) ≡ v
value_is v h = by_type v.ty v.num h

-- ---- initial values

element_is : (e : ElementType) (z : ℤ) → IsElement e z → element_of e (initial_of z) ≡ z
element_is (element.Scalar ty) z h = ap (reduced ty) (signed_is z Plain) ∙ reduced_is ty z h
element_is element.UnsignedChar (pos n) h = ap pos (mod-eq_of_lt (omega (arith, ints, h.1)))
element_is element.UnsignedChar (negsuc n) h = absurd (omega (arith, ints, h.0))

pub elements_are : (e : ElementType) (zs : List ℤ) → All (IsElement e) zs → map (element_of e) (map initial_of zs) ≡ zs
elements_are e [] all = refl
elements_are e (z ∷ zs) all =
    ap (λ n. n ∷ map (element_of e) (map initial_of zs)) (element_is e z (All-head (IsElement e) z zs all))
    ∙ ap (λ ns. z ∷ ns) (elements_are e zs (All-tail (IsElement e) z zs all))

not_zero : (z : ℤ) → z ≢ pos 0 → int_eq z (pos 0) ≡ false
not_zero (pos zero) h = absurd (h refl)
not_zero (pos (suc n)) h = grind (arith, ints)
not_zero (negsuc n) h = grind (arith, ints)

ends_well : (o : Option ℤ) (zs : List ℤ) → slice_get zs (length zs - 1) ≡ o → IfSome o (λ z. z ≢ pos 0) → ends_in_zero zs ≡ false
ends_well None zs e h = rw e refl
ends_well (Some z) zs e h = rw e (not_zero z h)

pub shortest_is : (zs : List ℤ) → IfSome (slice_get zs (length zs - 1)) (λ z. z ≢ pos 0) → shortened zs ≡ zs
shortest_is zs h = shortened-is zs (ends_well (slice_get zs (length zs - 1)) zs refl h)
