-- Sums over elements of which none is large, and sums over some of the numbers of a range.
use Rattle.std.proofs.Common.{◌≡◌, ◌≤◌, ◌<◌, ℕ, zero, suc, ◌+◌, ◌*◌, List, [], ◌∷◌, ◌++◌, Bool, true, false, cond, length, get_or, take, Some, None, refl, sym, ap, ◌∙◌, subst, arith}
use Rattle.std.specs.Prelude.{All, sum_by, nat_lt, nat_eq, slice_get}
use Rattle.std.specs.List.{range_with_len}
use Rattle.std.specs.List.Sorted.{IsStrictlyIncreasing}
use Rattle.std.specs.Option.{option_or, option_map_or}
use Rattle.std.proofs.lemmas.Bool.Decides.{nat_tests}
use Rattle.std.proofs.lemmas.List.{take_more}
use Rattle.std.proofs.lemmas.List.Elements.{All-take, All-head, All-tail}
use Rattle.std.proofs.lemmas.List.Sums.{sum_by-append, sum_by-cons, sum_by-le}
use Rattle.std.proofs.Math.Nat.{mul-le-mul_left}
use Rattle.gimple_ir.specs.declared.types.ElementType.{ElementType}
use Rattle.gimple_ir.specs.declared.types.ElementType.TheVariants.{Scalar, UnsignedChar}
use Rattle.gimple_ir.specs.declared.types.ScalarType.TheVariants.{Int, UnsignedInt, LongInt, LongUnsignedInt}
use Rattle.gimple_ir.specs.declared.types.Array.{Array}
use Rattle.final_link.specs.Arrays.{element_size, array_size}
use Rattle.program_link.specs.declared.fault.LimitFault.{LimitFault}
use Rattle.program_link.specs.declared.fault.Quantity.{Quantity}
use Rattle.program_link.specs.Linking.{first_passed}

-- one element more
pub summed : {X : Type 0} (g : X → ℕ) (xs : List X) (i : ℕ) (x : X) → i < length xs → x ≡ get_or xs i x → sum_by g (take (i + 1) xs) ≡ sum_by g (take i xs) + g x
summed g xs i x lt is =
    let nil : sum_by g [] ≡ 0 = refl in
    let more = ap (sum_by g) (take_more xs i x lt ∙ ap (λ y. take i xs ++ y ∷ []) (sym is)) in
    omega (arith, more, sum_by-append g (take i xs) (x ∷ []), sum_by-cons g x [], nil)

-- each is at most 2 ^ 30
pub small_sum : {X : Type 0} (g : X → ℕ) (xs : List X) (i : ℕ) → All (λ x. g x ≤ 1073741824) xs → sum_by g (take i xs) ≤ length (take i xs) * 1073741824
small_sum g xs i small = sum_by-le g 1073741824 (take i xs) (All-take (λ x. g x ≤ 1073741824) i xs small)

few_taken : {X : Type 0} (xs : List X) (i : ℕ) → length (take i xs) ≤ i
few_taken [] zero = omega arith
few_taken [] (suc i) = omega arith
few_taken (x ∷ xs) zero = omega arith
few_taken (x ∷ xs) (suc i) = omega (arith, few_taken xs i)

pub small_front : {X : Type 0} (g : X → ℕ) (xs : List X) (i : ℕ) → All (λ x. g x ≤ 1073741824) xs → sum_by g (take i xs) ≤ i * 1073741824
small_front g xs i small = omega (arith, small_sum g xs i small, few_taken xs i)

small_element : (e : ElementType) → element_size e ≤ 8
small_element UnsignedChar = omega arith
small_element (Scalar Int) = omega arith
small_element (Scalar UnsignedInt) = omega arith
small_element (Scalar LongInt) = omega arith
small_element (Scalar LongUnsignedInt) = omega arith

by_element : (n k : ℕ) → n ≤ 67108864 → k ≤ 8 → n * k ≤ 536870912
by_element n k h l = omega (arith, mul-le-mul_left n l, h)

pub small_array : (a : Array) → a.length ≤ 67108864 → array_size a ≤ 1073741824
small_array a h =
    let whole = by_element a.length (element_size a.element) h (small_element a.element) in
    omega (arith, whole)

-- ---- the first of three limits

abbrev pub limit_fault : Quantity → ℕ → ℕ → LimitFault
limit_fault quantity number limit = record { quantity = quantity; number = number; limit = limit }

pub first_of_three : (a b c : LimitFault) → option_or (option_or (first_passed (a ∷ [])) (first_passed (b ∷ []))) (first_passed (c ∷ [])) ≡ first_passed (a ∷ b ∷ c ∷ [])
first_of_three a b c = by (nat_lt a.limit a.number) (nat_lt b.limit b.number)
  where
    by : (p q : Bool) → option_or (option_or (cond p (Some a) None) (cond q (Some b) None)) (first_passed (c ∷ [])) ≡ cond p (Some a) (cond q (Some b) (first_passed (c ∷ [])))
    by true q = refl
    by false true = refl
    by false false = refl

-- ---- numbers that climb

-- from a least number on, each above the one before it
unfoldable pub Climbs : ℕ → List ℕ → Type 0
Climbs least [] = Unit {0}
Climbs least (n ∷ ns) = (least ≤ n) × Climbs (n + 1) ns

climbs : (n : ℕ) (ns : List ℕ) → IsStrictlyIncreasing (n ∷ ns) → Climbs (n + 1) ns
unfolding Climbs
climbs n [] h = tt
climbs n (k ∷ ks) h =
    let first : n < k = h 0 (omega arith) in
    (omega (arith, first), climbs k ks (later h))
  where
    later : IsStrictlyIncreasing (n ∷ k ∷ ks) → IsStrictlyIncreasing (k ∷ ks)
    later all i lt = let next : suc i + 1 ≡ suc (i + 1) = omega arith in subst (λ (j : ℕ). get_or (n ∷ k ∷ ks) (suc i) 0 < get_or (n ∷ k ∷ ks) j 0) next (all (suc i) (omega (arith, lt)))

pub climbing : (ns : List ℕ) → IsStrictlyIncreasing ns → Climbs 0 ns
unfolding Climbs
climbing [] h = tt
climbing (n ∷ ns) h = (omega arith, climbs n ns h)

-- ---- sums over some numbers

lower : (least more : ℕ) (ns : List ℕ) → more ≤ least → Climbs least ns → Climbs more ns
unfolding Climbs
lower least more [] le h = tt
lower least more (n ∷ ns) le h = (omega (arith, le, h.0), h.1)

-- the numbers from one on, none of them left out, sum up to as much at least
pub some_sum : (w : ℕ → ℕ) (start count : ℕ) (ns : List ℕ) → Climbs start ns → All (λ n. n < start + count) ns → sum_by w ns ≤ sum_by w (range_with_len start count)
unfolding Climbs
some_sum w start count [] climb within = omega arith
some_sum w start zero (n ∷ ns) climb within = absurd (omega (arith, climb.0, All-head (λ k. k < start + 0) n ns within))
some_sum w start (suc count) (n ∷ ns) climb within = by (nat_eq n start) refl (λ ks. some_sum w (start + 1) count ks)
  where
    next : start + suc count ≡ start + 1 + count
    next = omega arith

    by : (b : Bool) → nat_eq n start ≡ b
        → ((ks : List ℕ) → Climbs (start + 1) ks → All (λ k. k < start + 1 + count) ks → sum_by w ks ≤ sum_by w (range_with_len (start + 1) count))
        → sum_by w (n ∷ ns) ≤ sum_by w (range_with_len start (suc count))
    by true e rest =
        let same : n ≡ start = grind (arith, nat_tests) in
        let later = rest ns (subst (λ (k : ℕ). Climbs (k + 1) ns) same climb.1) (subst (λ (k : ℕ). All (λ x. x < k) ns) next (All-tail (λ k. k < start + suc count) n ns within)) in
        omega (arith, later, ap w same, sum_by-cons w n ns, sum_by-cons w start (range_with_len (start + 1) count))
    by false e rest =
        let above : start + 1 ≤ n = grind (arith, nat_tests, climb.0) in
        let later = rest (n ∷ ns) (above, climb.1) (subst (λ (k : ℕ). All (λ x. x < k) (n ∷ ns)) next within) in
        omega (arith, later, sum_by-cons w start (range_with_len (start + 1) count))

by_places : {X : Type 0} (g : X → ℕ) (w : ℕ → ℕ) (start : ℕ) (xs : List X) → ((i : ℕ) (x : X) → slice_get xs i ≡ Some x → w (start + i) ≡ g x)
    → sum_by w (range_with_len start (length xs)) ≡ sum_by g xs
by_places g w start [] each = refl
by_places g w start (x ∷ xs) each =
    let first : start + 0 ≡ start = omega arith in
    let here : w start ≡ g x = ap w (sym first) ∙ each 0 x refl in
    let rest = by_places g w (start + 1) xs (λ i y at. let next : start + 1 + i ≡ start + suc i = omega arith in ap w next ∙ each (suc i) y at) in
    omega (arith, here, rest, sum_by-cons w start (range_with_len (start + 1) (length xs)), sum_by-cons g x xs)

-- what stands at places that climb sums up to no more than all
pub some_of_all : {X : Type 0} (g : X → ℕ) (xs : List X) (ns : List ℕ) → Climbs 0 ns → All (λ n. n < length xs) ns
    → sum_by (λ n. option_map_or g (slice_get xs n) 0) ns ≤ sum_by g xs
some_of_all g xs ns climb within =
    let w = λ (n : ℕ). option_map_or g (slice_get xs n) 0 in
    let none : length xs ≡ 0 + length xs = omega arith in
    let all = by_places g w 0 xs (λ i x at. let first : 0 + i ≡ i = omega arith in ap w first ∙ ap (λ o. option_map_or g o 0) at) in
    omega (arith, all, some_sum w 0 (length xs) ns climb (subst (λ (k : ℕ). All (λ n. n < k) ns) none within))
