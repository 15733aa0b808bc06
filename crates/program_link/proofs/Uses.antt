-- The arrays that a member names: in the order of their numbers, and each found among them.
use Rattle.std.proofs.Common.{◌≡◌, ◌+◌, ◌<◌, ◌≤◌, ℕ, zero, suc, List, [], ◌∷◌, ◌++◌, length, map, Bool, true, false, cond, ◌||◌, eqb, refl, ap, ◌∙◌, ⊎_elim, arith, Some}
use Rattle.std.specs.Prelude.{All, slice_get, nat_eq}
use Rattle.std.specs.List.{filter, flat_map, range_with_len, list_any}
use Rattle.std.proofs.lemmas.Bool.{cases_eq}
use Rattle.std.proofs.lemmas.Bool.Decides.{nat_tests}
use Rattle.std.proofs.lemmas.List.{length-map}
use Rattle.std.proofs.lemmas.List.Elements.{All-nil, All-cons}
use Rattle.std.proofs.lemmas.List.Folds.{list_any-append}
use Rattle.gimple_ir.specs.declared.types.Function.{Function}
use Rattle.gimple_ir.specs.declared.types.Program.{Program}
use Rattle.gimple_ir.specs.declared.types.Statement.{Statement}
use Rattle.gimple_ir.specs.declared.unit.ArrayUse.{ArrayUse}
use Rattle.gimple_ir.specs.declared.merged.Merged.{Merged}
use Rattle.func_summary.specs.Summaries.{arrays_in, names_array, arrays_of}
use Rattle.func_summary.specs.Summarised.{module_of}
use Rattle.ipa_transform.specs.Versioned.{use_of}
use Rattle.ipa_transform.specs.Members.{Ascends}
use Rattle.program_link.specs.Versions.{array_use}

-- ---- numbers of a range that pass a test

few_of_range : (p : ℕ → Bool) (a n : ℕ) → length (filter p (range_with_len a n)) ≤ n
few_of_range p a zero = omega arith
few_of_range p a (suc n) = by (p a) (few_of_range p (a + 1) n)
  where
    by : (b : Bool) → length (filter p (range_with_len (a + 1) n)) ≤ n → length (cond b (a ∷ filter p (range_with_len (a + 1) n)) (filter p (range_with_len (a + 1) n))) ≤ suc n
    by true h = omega (arith, h)
    by false h = omega (arith, h)

within_range : (p : ℕ → Bool) (a n end : ℕ) → a + n ≤ end → All (λ x. x < end) (filter p (range_with_len a n))
within_range p a zero end le = All-nil (λ x. x < end)
within_range p a (suc n) end le = by (p a) (within_range p (a + 1) n end (omega (arith, le)))
  where
    by : (b : Bool) → All (λ x. x < end) (filter p (range_with_len (a + 1) n)) → All (λ x. x < end) (cond b (a ∷ filter p (range_with_len (a + 1) n)) (filter p (range_with_len (a + 1) n)))
    by true h = All-cons (λ x. x < end) a (filter p (range_with_len (a + 1) n)) (omega (arith, le)) h
    by false h = h

ascend_above : (merged : Merged) (p : ℕ → Bool) (a n : ℕ) (u : ArrayUse) → u.local < a → Ascends (u ∷ map (array_use merged) (filter p (range_with_len a n)))
ascend_above merged p a zero u lt = tt
ascend_above merged p a (suc n) u lt =
    by (p a) (ascend_above merged p (a + 1) n (array_use merged a) (omega arith)) (ascend_above merged p (a + 1) n u (omega (arith, lt)))
  where
    by : (b : Bool) → Ascends (array_use merged a ∷ map (array_use merged) (filter p (range_with_len (a + 1) n))) → Ascends (u ∷ map (array_use merged) (filter p (range_with_len (a + 1) n)))
        → Ascends (u ∷ map (array_use merged) (cond b (a ∷ filter p (range_with_len (a + 1) n)) (filter p (range_with_len (a + 1) n))))
    by true next later = (lt, next)
    by false next later = later

ascend : (merged : Merged) (p : ℕ → Bool) (a n : ℕ) → Ascends (map (array_use merged) (filter p (range_with_len a n)))
ascend merged p a zero = tt
ascend merged p a (suc n) = by (p a) (ascend_above merged p (a + 1) n (array_use merged a) (omega arith)) (ascend merged p (a + 1) n)
  where
    by : (b : Bool) → Ascends (array_use merged a ∷ map (array_use merged) (filter p (range_with_len (a + 1) n))) → Ascends (map (array_use merged) (filter p (range_with_len (a + 1) n)))
        → Ascends (map (array_use merged) (cond b (a ∷ filter p (range_with_len (a + 1) n)) (filter p (range_with_len (a + 1) n))))
    by true next later = next
    by false next later = later

one_later : (e : Bool) (k n : ℕ) → k < n → cond e 0 (suc k) < suc n
one_later true k n h = omega arith
one_later false k n h = omega (arith, h)

-- one that passes is found
found : (merged : Merged) (p : ℕ → Bool) (a n array : ℕ) → p array ≡ true → a ≤ array → array < a + n
    → use_of (map (array_use merged) (filter p (range_with_len a n))) array < length (map (array_use merged) (filter p (range_with_len a n)))
found merged p a zero array passes low high = absurd (omega (arith, low, high))
found merged p a (suc n) array passes low high =
    ⊎_elim here (λ other. by (p a) (found merged p (a + 1) n array passes (omega (arith, low, other)) (omega (arith, high)))) (cases_eq a array)
  where
    rest : List ℕ
    rest = filter p (range_with_len (a + 1) n)

    here : a ≡ array → use_of (map (array_use merged) (cond (p a) (a ∷ rest) rest)) array < length (map (array_use merged) (cond (p a) (a ∷ rest) rest))
    here same =
        let test : p a ≡ true = ap p same ∙ passes in
        let first : use_of (map (array_use merged) (a ∷ rest)) array ≡ 0 = grind (arith, nat_tests) in
        rw test (omega (arith, first))

    by : (b : Bool) → use_of (map (array_use merged) rest) array < length (map (array_use merged) rest)
        → use_of (map (array_use merged) (cond b (a ∷ rest) rest)) array < length (map (array_use merged) (cond b (a ∷ rest) rest))
    by true h = one_later (eqb a array) (use_of (map (array_use merged) rest) array) (length (map (array_use merged) rest)) h
    by false h = h

-- ---- the arrays of a body

same_itself : (a : ℕ) → nat_eq a a ≡ true
same_itself a = grind (arith, nat_tests)

or_true : (a : Bool) → (a || true) ≡ true
or_true true = refl
or_true false = refl

pub array_named : (body : List Statement) (i : ℕ) (s : Statement) (array : ℕ) → slice_get body i ≡ Some s → arrays_in s ≡ array ∷ []
    → list_any (nat_eq array) (flat_map arrays_in body) ≡ true
array_named [] i s array here is = cc
array_named (t ∷ ts) zero s array here is =
    let same : t ≡ s = cc in
    let first : arrays_in t ≡ array ∷ [] = ap arrays_in same ∙ is in
    ap (λ xs. list_any (nat_eq array) (xs ++ flat_map arrays_in ts)) first ∙ ap (λ b. b || list_any (nat_eq array) (flat_map arrays_in ts)) (same_itself array)
array_named (t ∷ ts) (suc i) s array here is =
    list_any-append (nat_eq array) (arrays_in t) (flat_map arrays_in ts)
    ∙ ap (λ b. list_any (nat_eq array) (arrays_in t) || b) (array_named ts i s array here is) ∙ or_true (list_any (nat_eq array) (arrays_in t))

pub use_found : (p : Program) (merged : Merged) (f : Function) (i : ℕ) (s : Statement) (array : ℕ) → slice_get f.body i ≡ Some s → arrays_in s ≡ array ∷ [] → array < length p.arrays
    → use_of (map (array_use merged) (arrays_of (module_of p) f)) array < length (map (array_use merged) (arrays_of (module_of p) f))
use_found p merged f i s array here is lt =
    found merged (names_array f) 0 (length p.arrays) array (array_named f.body i s array here is) (omega arith) (omega (arith, lt))

pub arrays_ascend : (p : Program) (merged : Merged) (f : Function) → Ascends (map (array_use merged) (arrays_of (module_of p) f))
arrays_ascend p merged f = ascend merged (names_array f) 0 (length p.arrays)

pub arrays_few : (p : Program) (merged : Merged) (f : Function) → length (map (array_use merged) (arrays_of (module_of p) f)) ≤ length p.arrays
arrays_few p merged f = omega (arith, length-map (arrays_of (module_of p) f) (array_use merged), few_of_range (names_array f) 0 (length p.arrays))

pub arrays_known : (p : Program) (f : Function) → All (λ a. a < length p.arrays) (arrays_of (module_of p) f)
arrays_known p f = within_range (names_array f) 0 (length p.arrays) (length p.arrays) (omega arith)
