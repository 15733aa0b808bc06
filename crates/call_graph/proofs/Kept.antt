-- The arrays that pass the test are those that are kept.
use Rattle.std.proofs.Common.{◌≡◌, ◌⊎◌, ◌↔◌, ℕ, zero, suc, ◌<◌, Bool, true, false, ◌||◌, ◌&&◌, List, [], ◌∷◌, Some, Contains, All, length, map, nat_eq, slice_get, refl, ap, subst, ◌∙◌, inl, inr, arith}
use Rattle.std.specs.List.{filter, list_any, range_with_len}
use Rattle.std.proofs.lemmas.Bool.Decides.{nat_tests}
use Rattle.std.proofs.lemmas.List.Elements.{filter_agree, All-contains, recursion_from_All}
use Rattle.gimple_ir.specs.declared.merged.Merged.{Merged}
use Rattle.gimple_ir.specs.declared.merged.MergedFunction.{MergedFunction}
use Rattle.gimple_ir.specs.declared.merged.MergedArray.{MergedArray}
use Rattle.call_graph.specs.Live.{marked, MarksLive}
use Rattle.call_graph.specs.Marking.{places_of}
use Rattle.call_graph.specs.Keeping.{IsKept, HasArrays, names, is_named, is_kept, kept_of}
use Rattle.call_graph.proofs.Places.{Contains-first, Contains-later, Contains-cases, filter_range-in, filter_range-has}
use Rattle.call_graph.proofs.Search.{flag_is, flag_of, all_at}

pub places_of-kept : (merged : Merged) (live kept : List Bool) → length kept ≡ length merged.arrays → ((a : ℕ) → marked kept a ≡ is_kept merged live a) → places_of kept ≡ kept_of merged live
places_of-kept merged live kept len same =
    ap (λ n. filter (marked kept) (range_with_len 0 n)) len ∙ filter_agree (marked kept) (is_kept merged live) same (range_with_len 0 (length merged.arrays))

-- ---- a list has what a test finds in it

same_number : (a b : ℕ) → nat_eq b a ≡ true → b ≡ a
same_number a b h = grind (arith, nat_tests)

number_itself : (a b : ℕ) → b ≡ a → nat_eq b a ≡ true
number_itself a b h = grind (arith, nat_tests)

found_by : (t : Bool) (a b : ℕ) (bs : List ℕ) → nat_eq b a ≡ t → (list_any (λ c. nat_eq c a) bs ≡ true → Contains bs a) → (t || list_any (λ c. nat_eq c a) bs) ≡ true → Contains (b ∷ bs) a
found_by true a b bs is rest h = Contains-first b a bs (same_number a b is)
found_by false a b bs is rest h = Contains-later b a bs (rest h)

found : (a : ℕ) (bs : List ℕ) → list_any (λ c. nat_eq c a) bs ≡ true → Contains bs a
found a [] h = absurd cc
found a (b ∷ bs) h = found_by (nat_eq b a) a b bs refl (found a bs) h

finds_by : (t : Bool) (a b : ℕ) (bs : List ℕ) → nat_eq b a ≡ t → (Contains bs a → list_any (λ c. nat_eq c a) bs ≡ true) → (b ≡ a) ⊎ Contains bs a → (t || list_any (λ c. nat_eq c a) bs) ≡ true
finds_by true a b bs is rest h = refl
finds_by false a b bs is rest (inl e) = let same = number_itself a b e in absurd cc
finds_by false a b bs is rest (inr later) = rest later

finds : (a : ℕ) (bs : List ℕ) → Contains bs a → list_any (λ c. nat_eq c a) bs ≡ true
finds a [] h = absurd (let lt = h.1 in omega arith)
finds a (b ∷ bs) h = finds_by (nat_eq b a) a b bs refl (finds a bs) (Contains-cases b a bs h)

-- ---- a function that is marked names it

-- the function at a place is marked, and names the array
abbrev NamedAt : List Bool → List MergedFunction → (a n : ℕ) → MergedFunction → Type 0
NamedAt live fs a n f = (slice_get fs n ≡ Some f) × (marked live n ≡ true) × Contains f.summary.arrays a

named_by : (t u : Bool) (bs : List Bool) (f : MergedFunction) (fs : List MergedFunction) (a : ℕ) → names f a ≡ u
    → (is_named bs fs a ≡ true → (n : ℕ) × (g : MergedFunction) × NamedAt bs fs a n g)
    → ((t && u) || is_named bs fs a) ≡ true → (n : ℕ) × (g : MergedFunction) × NamedAt (t ∷ bs) (f ∷ fs) a n g
named_by true true bs f fs a is rest h = (0, f, (refl, refl, found a f.summary.arrays is))
named_by true false bs f fs a is rest h = let there = rest h in (suc there.0, there.1, there.2)
named_by false u bs f fs a is rest h = let there = rest h in (suc there.0, there.1, there.2)

named_at : (bs : List Bool) (fs : List MergedFunction) (a : ℕ) → is_named bs fs a ≡ true → (n : ℕ) × (g : MergedFunction) × NamedAt bs fs a n g
named_at [] fs a h = absurd cc
named_at (b ∷ bs) [] a h = absurd cc
named_at (b ∷ bs) (f ∷ fs) a h = named_by b (names f a) bs f fs a refl (named_at bs fs a) h

either : (t u : Bool) → u ≡ true → (t || u) ≡ true
either true u h = refl
either false u h = h

at_names : (bs : List Bool) (fs : List MergedFunction) (a n : ℕ) (g : MergedFunction) → NamedAt bs fs a n g → is_named bs fs a ≡ true
at_names [] fs a n g (is, set, has) = absurd cc
at_names (b ∷ bs) [] a n g (is, set, has) = absurd cc
at_names (b ∷ bs) (f ∷ fs) a zero g (is, set, has) =
    let same : g ≡ f = cc in
    let here : names f a ≡ true = finds a f.summary.arrays (subst (λ (x : MergedFunction). Contains x.summary.arrays a) same has) in
    rw (set, here) refl
at_names (b ∷ bs) (f ∷ fs) a (suc n) g (is, set, has) = either (b && names f a) (is_named bs fs a) (at_names bs fs a n g (is, set, has))

-- ---- both ways

kept_by : (t : Bool) (merged : Merged) (live : List Bool) (a : ℕ) → MarksLive merged live → marked (map (λ x. x.exported) merged.arrays) a ≡ t
    → (t || is_named live merged.functions a) ≡ true → IsKept merged a
kept_by true merged live a marks is h = inl (flag_is (λ (x : MergedArray). x.exported) merged.arrays a is)
kept_by false merged live a marks is h =
    let at = named_at live merged.functions a h in
    inr (at.0, at.1, (marks.exact at.0).0 at.2.1, at.2.0, at.2.2)

pub is_kept-IsKept : (merged : Merged) (live : List Bool) (a : ℕ) → MarksLive merged live → is_kept merged live a ≡ true → IsKept merged a
is_kept-IsKept merged live a marks h = kept_by (marked (map (λ x. x.exported) merged.arrays) a) merged live a marks refl h

pub IsKept-is_kept : (merged : Merged) (live : List Bool) (a : ℕ) → MarksLive merged live → IsKept merged a → is_kept merged live a ≡ true
IsKept-is_kept merged live a marks (inl (x, is, exported)) = rw (flag_of (λ (y : MergedArray). y.exported) merged.arrays a x is exported) refl
IsKept-is_kept merged live a marks (inr (n, f, reached, is, has)) =
    either (marked (map (λ x. x.exported) merged.arrays) a) (is_named live merged.functions a) (at_names live merged.functions a n f (is, (marks.exact n).1 reached, has))

slice_get-below : {X : Type 0} (xs : List X) (k : ℕ) (x : X) → slice_get xs k ≡ Some x → k < length xs
slice_get-below [] k x h = absurd cc
slice_get-below (y ∷ ys) zero x h = omega arith
slice_get-below (y ∷ ys) (suc k) x h = let below = slice_get-below ys k x h in omega arith

IsKept-below : (merged : Merged) (a : ℕ) → HasArrays merged → IsKept merged a → a < length merged.arrays
IsKept-below merged a arrays (inl (x, is, exported)) = slice_get-below merged.arrays a x is
IsKept-below merged a arrays (inr (n, f, reached, is, has)) =
    let all = all_at (λ (g : MergedFunction). All (λ b. b < length merged.arrays) g.summary.arrays) merged.functions n f (recursion_from_All _ merged.functions arrays) is in
    All-contains (λ b. b < length merged.arrays) f.summary.arrays a all has

pub kept_of-IsKept : (merged : Merged) (live : List Bool) → HasArrays merged → MarksLive merged live → (a : ℕ) → Contains (kept_of merged live) a ↔ IsKept merged a
kept_of-IsKept merged live arrays marks a = (
  λ h. is_kept-IsKept merged live a marks (filter_range-in (is_kept merged live) 0 (length merged.arrays) a h).2,
  λ h. filter_range-has (is_kept merged live) 0 (length merged.arrays) a (omega arith) (let below = IsKept-below merged a arrays h in omega arith) (IsKept-is_kept merged live a marks h),
)
