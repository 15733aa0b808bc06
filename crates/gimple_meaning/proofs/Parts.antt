-- Components and arrays that are read and written.
use Rattle.std.proofs.Common.{◌≡◌, ◌<◌, ◌≤◌, ℕ, zero, suc, ℤ, pos, negsuc, refl, ap, List, [], ◌∷◌, Option, None, length, All, IfSome, slice_get, slice_set, slice_index_or, replicate, ◌-◌, arith}
use Rattle.std.proofs.lemmas.Int.{ints}
use Rattle.std.specs.Option.{option_map}
use Rattle.std.proofs.lemmas.List.Elements.{All-append, All-head, All-replicate, All-set, All-tail}
use Rattle.gimple_ir.specs.Values.{IsValue}
use Rattle.gimple_ir.specs.Programs.{IsElement}
use Rattle.gimple_ir.specs.declared.types.ScalarType.TheVariants.{Int, UnsignedInt, LongInt, LongUnsignedInt}
use Rattle.gimple_ir.specs.declared.types.ElementType.{ElementType}
use Rattle.gimple_ir.specs.declared.types.ElementType.TheVariants as element
use Rattle.gimple_ir.specs.declared.types.Array.{Array}
use Rattle.gimple_ir.specs.declared.types.Value.{Value}
use Rattle.gimple_meaning.specs.Acts.{cell, element_type, loaded, with_element}
use Rattle.gimple_meaning.specs.Moves.{loaded_at}
use Rattle.gimple_meaning.specs.Systems.{first_arrays}
use Rattle.gimple_meaning.specs.Held.{IsCell, AreElements, HasInitial}

pub cell-get_or : (xs : List (Option Value)) (i : ℕ) → slice_index_or xs i None ≡ cell xs i
cell-get_or [] i = refl
cell-get_or (x ∷ xs) zero = refl
cell-get_or (x ∷ xs) (suc i) = cell-get_or xs i

pub IsCell-cell : (xs : List (Option Value)) (i : ℕ) → All IsCell xs → IfSome (cell xs i) IsValue
IsCell-cell [] i h = tt
IsCell-cell (x ∷ xs) zero h = All-head IsCell x xs h
IsCell-cell (x ∷ xs) (suc i) h = IsCell-cell xs i (All-tail IsCell x xs h)

pub set-past : {X : Type 0} (xs : List X) (i : ℕ) (x : X) → length xs ≤ i → xs ≡ slice_set xs i x
set-past [] i x h = refl
set-past (y ∷ ys) zero x h = absurd (omega (arith, h))
set-past (y ∷ ys) (suc i) x h = ap (λ zs. y ∷ zs) (set-past ys i x (omega (arith, h)))

pub with_element-in : (xs : List (List ℤ)) (a i : ℕ) (z : ℤ) (d : List ℤ) → a < length xs
    → slice_set xs a (slice_set (slice_index_or xs a d) i z) ≡ with_element xs a i z
with_element-in [] a i z d h = absurd (omega (arith, h))
with_element-in (x ∷ xs) zero i z d h = refl
with_element-in (x ∷ xs) (suc a) i z d h = ap (λ ys. x ∷ ys) (with_element-in xs a i z d (omega (arith, h)))

pub with_element-past : (xs : List (List ℤ)) (a i : ℕ) (z : ℤ) → length xs ≤ a → xs ≡ with_element xs a i z
with_element-past [] a i z h = refl
with_element-past (x ∷ xs) zero i z h = absurd (omega (arith, h))
with_element-past (x ∷ xs) (suc a) i z h = ap (λ ys. x ∷ ys) (with_element-past xs a i z (omega (arith, h)))

pub elements-set : (declared : List Array) (xs : List (List ℤ)) (a i : ℕ) (z : ℤ) → AreElements declared xs
    → IfSome (element_type declared a) (λ e. IsElement e z) → AreElements declared (with_element xs a i z)
elements-set [] [] a i z h k = tt
elements-set [] (x ∷ xs) a i z h k = absurd h
elements-set (d ∷ ds) [] a i z h k = absurd h
elements-set (d ∷ ds) (x ∷ xs) zero i z h k = (All-set (IsElement d.element) x i z k h.0, h.1)
elements-set (d ∷ ds) (x ∷ xs) (suc a) i z h k = (h.0, elements-set ds xs a i z h.1 k)

loaded-IsValue : (e : ElementType) (z : ℤ) → IsElement e z → IsValue (loaded e z)
loaded-IsValue element.UnsignedChar z h = let low = h.0 in let high = h.1 in record { above = omega (arith, ints, low); below = omega (arith, ints, high) }
loaded-IsValue (element.Scalar ty) z h = h

element-read : (e : ElementType) (x : List ℤ) (i : ℕ) → All (IsElement e) x → IfSome (option_map (loaded e) (slice_get x i)) IsValue
element-read e [] i h = tt
element-read e (z ∷ zs) zero h = loaded-IsValue e z (All-head (IsElement e) z zs h)
element-read e (z ∷ zs) (suc i) h = element-read e zs i (All-tail (IsElement e) z zs h)

pub loaded-holds : (declared : List Array) (xs : List (List ℤ)) (a : ℕ) (z : ℤ) → AreElements declared xs → IfSome (loaded_at declared xs a z) IsValue
loaded-holds [] [] a z h = tt
loaded-holds [] (x ∷ xs) a z h = absurd h
loaded-holds (d ∷ ds) [] a z h = absurd h
loaded-holds (d ∷ ds) (x ∷ xs) zero (pos i) h = element-read d.element x i h.0
loaded-holds (d ∷ ds) (x ∷ xs) zero (negsuc i) h = tt
loaded-holds (d ∷ ds) (x ∷ xs) (suc a) (pos i) h = loaded-holds ds xs a (pos i) h.1
loaded-holds (d ∷ ds) (x ∷ xs) (suc a) (negsuc i) h = loaded-holds ds xs a (negsuc i) h.1

-- ---- first values

zero-element : (e : ElementType) → IsElement e (pos 0)
zero-element element.UnsignedChar = (omega (arith, ints), omega (arith, ints))
zero-element (element.Scalar Int) = record { above = omega (arith, ints); below = omega (arith, ints) }
zero-element (element.Scalar UnsignedInt) = record { above = omega (arith, ints); below = omega (arith, ints) }
zero-element (element.Scalar LongInt) = record { above = omega (arith, ints); below = omega (arith, ints) }
zero-element (element.Scalar LongUnsignedInt) = record { above = omega (arith, ints); below = omega (arith, ints) }

pub elements-first : (declared : List Array) → All HasInitial declared → AreElements declared (first_arrays declared)
elements-first [] h = tt
elements-first (a ∷ more) h =
    let one = All-head HasInitial a more h in (
      All-append (IsElement a.element) a.initial (replicate (a.length - length a.initial) (pos 0)) one
          (All-replicate (IsElement a.element) (a.length - length a.initial) (pos 0) (zero-element a.element)),
      elements-first more (All-tail HasInitial a more h),
    )
