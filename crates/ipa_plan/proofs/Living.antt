-- Where the versions of the live functions stand in a plan, and what is known of each.
use Rattle.std.proofs.Common.{◌≡◌, ◌<◌, ◌+◌, ℕ, zero, suc, List, [], ◌∷◌, Bool, true, false, cond, length, map, get_or, take, Some, inr, refl, sym, ap, ap₂, ◌∙◌, arith}
use Rattle.std.specs.Prelude.{All, Contains, slice_get, nat_eq}
use Rattle.std.specs.List.{range_with_len, enumerate_from, filter, count_by, list_any}
use Rattle.std.specs.List.Sorted.{IsStrictlyIncreasing}
use Rattle.std.specs.Cmp.{nat_eq_equiv}
use Rattle.std.proofs.lemmas.List.Elements.{All-nil, All-cons, All-filter}
use Rattle.std.proofs.lemmas.List.FromFn.{get_or-range_with_len, length-range_with_len}
use Rattle.std.proofs.lemmas.List.Kept.{IsStrictlyIncreasing-filter}
use Rattle.std.proofs.lemmas.List.Sums.{sum_by-cons}
use Rattle.std.proofs.lemmas.Map.Views.{list_any-from_Contains}
use Rattle.std.proofs.lemmas.Option.{slice_get_within, get_or_from_slice_get, slice_get-get_or}
use Rattle.gimple_ir.specs.declared.summary.Edge.{Edge}
use Rattle.gimple_ir.specs.declared.plan.Version.{Version}
use Rattle.gimple_ir.specs.declared.merged.Merged.{Merged}
use Rattle.gimple_ir.specs.declared.merged.MergedFunction.{MergedFunction}
use Rattle.call_graph.specs.Live.{marked, MarksLive}
use Rattle.call_graph.specs.Keeping.{kept_of, HasArrays}
use Rattle.call_graph.proofs.Kept.{kept_of-IsKept}
use Rattle.ipa_plan.specs.Plans.{version_of}

-- ---- live functions

-- what a live function calls is live
pub called_live : (merged : Merged) (live : List Bool) (n : ℕ) (g : MergedFunction) (k : ℕ) (e : Edge) → MarksLive merged live → slice_get merged.functions n ≡ Some g → marked live n ≡ true
    → slice_get g.summary.edges k ≡ Some e → marked live e.callee ≡ true
called_live merged live n g k e marks here is at =
    let reached = (marks.exact n).0 is in
    (marks.exact e.callee).1
    (suc reached.0, (n, reached.1, (g, here, (k, e, slice_get_within g.summary.edges k e at, get_or_from_slice_get g.summary.edges k e e at, refl))))

pub exported_live : (merged : Merged) (live : List Bool) (n : ℕ) (g : MergedFunction) → MarksLive merged live → slice_get merged.functions n ≡ Some g → g.exported ≡ true → marked live n ≡ true
exported_live merged live n g marks here e = (marks.exact n).1 (0, (g, here, e))

-- the arrays that a live function names are kept
pub named_kept : (merged : Merged) (live : List Bool) (n : ℕ) (g : MergedFunction) → HasArrays merged → MarksLive merged live → slice_get merged.functions n ≡ Some g → marked live n ≡ true
    → All (λ a. list_any (nat_eq a) (kept_of merged live) ≡ true) g.summary.arrays
named_kept merged live n g arrays marks here is k d lt =
    let named = g.summary.arrays in
    let a = get_or named k d in
    let has : Contains named a = (k, lt, get_or_from_slice_get named k a a (slice_get-get_or named k d lt)) in
    list_any-from_Contains nat_eq_equiv a (kept_of merged live) ((kept_of-IsKept merged live arrays marks a).1 (inr (n, g, (marks.exact n).0 is, here, has)))

-- ---- places

-- what stands at the place that the marked numbers before it count
pub at_place : {X Y : Type 0} (g : ℕ × X → Y) (p : ℕ → Bool) (a : ℕ) (bs : List Bool) (xs : List X) (i j : ℕ) (x : X) → ((k : ℕ) → p (a + k) ≡ marked bs k) → slice_get xs i ≡ Some x → marked bs i ≡ true → a + i ≡ j
    → slice_get (map g (filter (λ (e : ℕ × X). p e.0) (enumerate_from a xs))) (count_by (λ b. b) (take i bs)) ≡ Some (g (j, x))
at_place g p a bs [] i j x same here is e = absurd cc
at_place g p a [] (y ∷ xs) i j x same here is e = absurd cc
at_place {X} {Y} g p a (b ∷ bs) (y ∷ xs) zero j x same here is e =
    let zeroth : a ≡ a + 0 = omega arith in
    let first : p a ≡ true = ap p zeroth ∙ same 0 ∙ is in
    let it : y ≡ x = cc in
    let rest : List (ℕ × X) = filter (λ (q : ℕ × X). p q.0) (enumerate_from (a + 1) xs) in
    ap (λ c. slice_get (map g (cond c ((a, y) ∷ rest) rest)) 0) first ∙ ap₂ (λ k z. Some (g (k, z))) (zeroth ∙ e) it
at_place {X} {Y} g p a (b ∷ bs) (y ∷ xs) (suc i) j x same here is e =
    by b refl (ap p (first_of) ∙ same 0) (at_place g p (a + 1) bs xs i j x (λ k. ap p (next k) ∙ same (suc k)) here is (omega (arith, e)))
  where
    first_of : a ≡ a + 0
    first_of = omega arith

    next : (k : ℕ) → a + 1 + k ≡ a + suc k
    next k = omega arith

    rest : List (ℕ × X)
    rest = filter (λ (q : ℕ × X). p q.0) (enumerate_from (a + 1) xs)

    flag : Bool → ℕ
    flag c = cond c 1 0

    by : (c : Bool) → b ≡ c → p a ≡ b → slice_get (map g rest) (count_by (λ d. d) (take i bs)) ≡ Some (g (j, x))
        → slice_get (map g (cond (p a) ((a, y) ∷ rest) rest)) (count_by (λ d. d) (b ∷ take i bs)) ≡ Some (g (j, x))
    by true is_true test later =
        let count : count_by (λ d. d) (b ∷ take i bs) ≡ suc (count_by (λ d. d) (take i bs)) = omega (arith, sum_by-cons flag b (take i bs), ap flag is_true) in
        ap₂ (λ c n. slice_get (map g (cond c ((a, y) ∷ rest) rest)) n) (test ∙ is_true) count ∙ later
    by false is_false test later =
        let count : count_by (λ d. d) (b ∷ take i bs) ≡ count_by (λ d. d) (take i bs) = omega (arith, sum_by-cons flag b (take i bs), ap flag is_false) in
        ap₂ (λ c n. slice_get (map g (cond c ((a, y) ∷ rest) rest)) n) (test ∙ is_false) count ∙ later

-- ---- what is listed

-- P holds of what is made of the elements that pass, by their numbers
pub listed : {X Y : Type 0} (P : Y → Type 0) (g : ℕ × X → Y) (p : ℕ → Bool) (a : ℕ) (xs : List X) → ((i j : ℕ) (x : X) → a + i ≡ j → slice_get xs i ≡ Some x → p j ≡ true → P (g (j, x)))
    → All P (map g (filter (λ (e : ℕ × X). p e.0) (enumerate_from a xs)))
listed P g p a [] h = All-nil P
listed {X} {Y} P g p a (x ∷ xs) h = by (p a) (h 0 a x (omega arith) refl) (listed P g p (a + 1) xs (λ i j y e here is. h (suc i) j y (omega (arith, e)) here is))
  where
    rest : List (ℕ × X)
    rest = filter (λ (e : ℕ × X). p e.0) (enumerate_from (a + 1) xs)

    by : (b : Bool) → (b ≡ true → P (g (a, x))) → All P (map g rest) → All P (map g (cond b ((a, x) ∷ rest) rest))
    by true first later = All-cons P (g (a, x)) (map g rest) (first refl) later
    by false first later = later

-- the functions of the versions are the live ones
pub functions_listed : (merged : Merged) (live : List Bool) (a : ℕ) (fs : List MergedFunction)
    → map (λ (v : Version). v.function) (map (λ (e : ℕ × MergedFunction). version_of merged live e.0 e.1) (filter (λ (e : ℕ × MergedFunction). marked live e.0) (enumerate_from a fs)))
    ≡ filter (marked live) (range_with_len a (length fs))
functions_listed merged live a [] = refl
functions_listed merged live a (f ∷ fs) = by (marked live a) (functions_listed merged live (a + 1) fs)
  where
    rest : List (ℕ × MergedFunction)
    rest = filter (λ (e : ℕ × MergedFunction). marked live e.0) (enumerate_from (a + 1) fs)

    others : List ℕ
    others = filter (marked live) (range_with_len (a + 1) (length fs))

    numbers : List (ℕ × MergedFunction) → List ℕ
    numbers es = map (λ (v : Version). v.function) (map (λ (e : ℕ × MergedFunction). version_of merged live e.0 e.1) es)

    by : (b : Bool) → numbers rest ≡ others → numbers (cond b ((a, f) ∷ rest) rest) ≡ cond b (a ∷ others) others
    by true h = ap (λ ns. a ∷ ns) h
    by false h = h

-- ---- numbers of a range

numbers_ascend : (n : ℕ) → IsStrictlyIncreasing (range_with_len 0 n)
numbers_ascend n k lt =
    let long = length-range_with_len 0 n in
    omega (arith, get_or-range_with_len 0 n k 0 (omega (arith, lt, long)), get_or-range_with_len 0 n (k + 1) 0 (omega (arith, lt, long)))

pub passing_ascend : (p : ℕ → Bool) (n : ℕ) → IsStrictlyIncreasing (filter p (range_with_len 0 n))
passing_ascend p n = IsStrictlyIncreasing-filter p (range_with_len 0 n) (numbers_ascend n)

numbers_below : (n : ℕ) → All (λ k. k < n) (range_with_len 0 n)
numbers_below n i d lt =
    let long = length-range_with_len 0 n in
    omega (arith, get_or-range_with_len 0 n i d (omega (arith, lt, long)), lt, long)

pub passing_below : (p : ℕ → Bool) (n : ℕ) → All (λ k. k < n) (filter p (range_with_len 0 n))
passing_below p n = All-filter p (λ k. k < n) (range_with_len 0 n) (numbers_below n)

-- ---- flags

same_tests : (b c : Bool) → (b ≡ true → c ≡ true) → (c ≡ true → b ≡ true) → b ≡ c
same_tests true true h k = refl
same_tests true false h k = sym (h refl)
same_tests false true h k = k refl
same_tests false false h k = refl

-- lists of flags that mark the same numbers
pub same_flags : (xs ys : List Bool) → length xs ≡ length ys → ((n : ℕ) → marked xs n ≡ true → marked ys n ≡ true) → ((n : ℕ) → marked ys n ≡ true → marked xs n ≡ true) → xs ≡ ys
same_flags [] [] long to back = refl
same_flags [] (y ∷ ys) long to back = absurd (omega (arith, long))
same_flags (x ∷ xs) [] long to back = absurd (omega (arith, long))
same_flags (x ∷ xs) (y ∷ ys) long to back =
    ap₂ (λ b bs. b ∷ bs) (same_tests x y (to 0) (back 0)) (same_flags xs ys (omega (arith, long)) (λ n. to (suc n)) (λ n. back (suc n)))
