-- The numbers that pass a test, and those that are marked, as lists.
use Rattle.std.proofs.Common.{◌≡◌, ◌⊎◌, ℕ, zero, suc, ◌+◌, ◌-◌, ◌<◌, ◌≤◌, Bool, true, false, cond, List, [], ◌∷◌, Contains, get_or, length, ap, subst, ◌∙◌, inl, inr, refl, arith}
use Rattle.std.specs.List.{filter, range_with_len}
use Rattle.call_graph.specs.Live.{marked}
use Rattle.call_graph.specs.Marking.{places_of}

pub Contains-first : {X : Type 0} (y x : X) (xs : List X) → y ≡ x → Contains (y ∷ xs) x
Contains-first y x xs e = (0, omega arith, e)

pub Contains-later : {X : Type 0} (y x : X) (xs : List X) → Contains xs x → Contains (y ∷ xs) x
Contains-later y x xs (k, lt, is) = (suc k, omega arith, is)

pub Contains-cases : {X : Type 0} (y x : X) (xs : List X) → Contains (y ∷ xs) x → (y ≡ x) ⊎ Contains xs x
Contains-cases y x xs (zero, lt, is) = inl is
Contains-cases y x xs (suc k, lt, is) = inr (k, omega arith, is)

-- a number of the range that passes
abbrev Passes : (ℕ → Bool) → (a n x : ℕ) → Type 0
Passes p a n x = (a ≤ x) × (x < a + n) × (p x ≡ true)

in_by : (b : Bool) (p : ℕ → Bool) (a n x : ℕ) → p a ≡ b → (Contains (filter p (range_with_len (a + 1) n)) x → Passes p (a + 1) n x)
    → Contains (cond b (a ∷ filter p (range_with_len (a + 1) n)) (filter p (range_with_len (a + 1) n))) x → Passes p a (suc n) x
in_by true p a n x is rest h = elim (Contains-cases a x (filter p (range_with_len (a + 1) n)) h) [
  | inl e ↦ (omega arith, omega arith, subst (λ k. p k ≡ true) e is)
  | inr later ↦ let there = rest later in (omega arith, omega arith, there.2)
]
in_by false p a n x is rest h = let there = rest h in (omega arith, omega arith, there.2)

pub filter_range-in : (p : ℕ → Bool) (a n x : ℕ) → Contains (filter p (range_with_len a n)) x → Passes p a n x
filter_range-in p a zero x h = absurd (let lt = h.1 in omega arith)
filter_range-in p a (suc n) x h = in_by (p a) p a n x refl (filter_range-in p (a + 1) n x) h

from_by : (b : Bool) (p : ℕ → Bool) (a x : ℕ) (rest : List ℕ) → p a ≡ b → p x ≡ true → (a ≡ x) ⊎ Contains rest x → Contains (cond b (a ∷ rest) rest) x
from_by true p a x rest is passes (inl e) = Contains-first a x rest e
from_by true p a x rest is passes (inr later) = Contains-later a x rest later
from_by false p a x rest is passes (inl e) = let same : p a ≡ p x = ap p e in absurd cc
from_by false p a x rest is passes (inr later) = later

split_at : (a x : ℕ) → a ≤ x → (a ≡ x) ⊎ (a + 1 ≤ x)
split_at zero zero h = inl refl
split_at zero (suc x) h = inr (omega arith)
split_at (suc a) zero h = absurd (omega arith)
split_at (suc a) (suc x) h = elim (split_at a x (omega arith)) [ inl e ↦ inl (ap suc e) | inr lt ↦ inr (omega arith) ]

pub filter_range-has : (p : ℕ → Bool) (a n x : ℕ) → a ≤ x → x < a + n → p x ≡ true → Contains (filter p (range_with_len a n)) x
filter_range-has p a zero x low high passes = absurd (omega arith)
filter_range-has p a (suc n) x low high passes =
    let there : (a ≡ x) ⊎ Contains (filter p (range_with_len (a + 1) n)) x = elim (split_at a x low) [ inl e ↦ inl e | inr above ↦ inr (filter_range-has p (a + 1) n x above (omega arith) passes) ] in
    from_by (p a) p a x (filter p (range_with_len (a + 1) n)) refl passes there

pub marked_below : (flags : List Bool) (n : ℕ) → marked flags n ≡ true → n < length flags
marked_below [] n h = absurd cc
marked_below (b ∷ bs) zero h = omega arith
marked_below (b ∷ bs) (suc n) h = let below = marked_below bs n h in omega arith

pub places_of-marked : (flags : List Bool) (n : ℕ) → Contains (places_of flags) n → marked flags n ≡ true
places_of-marked flags n h = (filter_range-in (marked flags) 0 (length flags) n h).2

pub places_of-has : (flags : List Bool) (n : ℕ) → marked flags n ≡ true → Contains (places_of flags) n
places_of-has flags n h = filter_range-has (marked flags) 0 (length flags) n (omega arith) (let below = marked_below flags n h in omega arith) h

-- one flag more
one_more : (flags : List Bool) (place : ℕ) (b : Bool) → place < length flags → get_or flags place false ≡ b
    → let rest = filter (marked flags) (range_with_len (place + 1) (length flags - (place + 1))) in
    filter (marked flags) (range_with_len place (length flags - place)) ≡ cond b (place ∷ rest) rest
one_more flags place b lt is =
    let rest = filter (marked flags) (range_with_len (place + 1) (length flags - (place + 1))) in
    let more : length flags - place ≡ suc (length flags - (place + 1)) = omega arith in
    ap (λ n. filter (marked flags) (range_with_len place n)) more ∙ ap (λ c. cond c (place ∷ rest) rest) is

pub one_marked : (flags : List Bool) (place : ℕ) → place < length flags → get_or flags place false ≡ true
    → filter (marked flags) (range_with_len place (length flags - place)) ≡ place ∷ filter (marked flags) (range_with_len (place + 1) (length flags - (place + 1)))
one_marked flags place lt is = one_more flags place true lt is

pub one_passed : (flags : List Bool) (place : ℕ) → place < length flags → get_or flags place false ≡ false
    → filter (marked flags) (range_with_len place (length flags - place)) ≡ filter (marked flags) (range_with_len (place + 1) (length flags - (place + 1)))
one_passed flags place lt is = one_more flags place false lt is
