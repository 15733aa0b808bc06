-- The last of consecutive numbers that passes a test.
use Rattle.std.proofs.Common.{◌≡◌, ℕ, zero, suc, ◌+◌, ◌<◌, ◌≤◌, Bool, true, false, cond, List, [], ◌∷◌, ◌++◌, filter, refl, ◌∙◌, ap, ap₂, arith, inl, inr}
use Rattle.std.specs.List.{range_with_len}
use Rattle.std.proofs.lemmas.Bool.{cases_eq}
use Rattle.balanced_partition.specs.Cuts.{last_or}

pub last_or-append : (d : ℕ) (xs ys : List ℕ) → last_or d (xs ++ ys) ≡ last_or (last_or d xs) ys
last_or-append d [] ys = refl
last_or-append d (x ∷ xs) ys = last_or-append x xs ys

pub range-append : (a m k n : ℕ) → n ≡ m + k → range_with_len a n ≡ range_with_len a m ++ range_with_len (a + m) k
range-append a zero k n is = ap₂ (λ b c. range_with_len b c) (omega arith) (omega (arith, is))
range-append a (suc m) k zero is = absurd (omega (arith, is))
range-append a (suc m) k (suc n) is =
    let further : a + 1 + m ≡ a + suc m = omega arith in
    ap (λ xs. a ∷ xs) (range-append (a + 1) m k n (omega (arith, is)) ∙ ap (λ b. range_with_len (a + 1) m ++ range_with_len b k) further)

pub filter-none : (p : ℕ → Bool) (a m : ℕ) → ((q : ℕ) → a ≤ q → q < a + m → p q ≡ false) → filter p (range_with_len a m) ≡ []
filter-none p a zero h = refl
filter-none p a (suc m) h =
    let rest = filter p (range_with_len (a + 1) m) in
    ap (λ b. cond b (a ∷ rest) rest) (h a (omega arith) (omega arith)) ∙ filter-none p (a + 1) m (λ q above below. h q (omega (arith, above)) (omega (arith, below)))

-- the number that passes, and none after it does
pub last_filter : (p : ℕ → Bool) (a m d x : ℕ) → a ≤ x → x < a + m → p x ≡ true → ((q : ℕ) → x < q → q < a + m → p q ≡ false) → last_or d (filter p (range_with_len a m)) ≡ x
last_filter p a zero d x above below passes fails = absurd (omega arith)
last_filter p a (suc m) d x above below passes fails =
    let rest = filter p (range_with_len (a + 1) m) in
    let later : (q : ℕ) → x < q → q < a + 1 + m → p q ≡ false = λ q over under. fails q over (omega (arith, under)) in
    elim (cases_eq a x) [
      | inl is ↦
          let here : p a ≡ true = ap p is ∙ passes in
          let none : rest ≡ [] = filter-none p (a + 1) m (λ q over under. later q (omega (arith, is, over)) under) in
          ap (λ b. last_or d (cond b (a ∷ rest) rest)) here ∙ ap (last_or a) none ∙ is
      | inr apart ↦
          let inside : a + 1 ≤ x = omega arith in
          let go : (b : Bool) → last_or d (cond b (a ∷ rest) rest) ≡ x = elim [
            | true ↦ last_filter p (a + 1) m a x inside (omega arith) passes later
            | false ↦ last_filter p (a + 1) m d x inside (omega arith) passes later
          ] in
          go (p a)
    ]

-- what holds of each number that passes the first test, and of the default, holds of the last that passes both
pub last_filters : (c p : ℕ → Bool) (P : ℕ → Type 0) (a m d : ℕ) → P d → ((q : ℕ) → a ≤ q → c q ≡ true → P q) → P (last_or d (filter p (filter c (range_with_len a m))))
last_filters c p P a zero d base holds = base
last_filters c p P a (suc m) d base holds =
    let rest = filter c (range_with_len (a + 1) m) in
    let more : (q : ℕ) → a + 1 ≤ q → c q ≡ true → P q = λ q above. holds q (omega (arith, above)) in
    let skip : P (last_or d (filter p rest)) = last_filters c p P (a + 1) m d base more in
    let take_it : (t : Bool) → P a → P (last_or d (cond t (a ∷ filter p rest) (filter p rest))) = elim [
      | true ↦ λ here. last_filters c p P (a + 1) m a here more
      | false ↦ λ here. skip
    ] in
    let go : (t : Bool) → c a ≡ t → P (last_or d (filter p (cond t (a ∷ rest) rest))) = elim [
      | true ↦ λ is. take_it (p a) (holds a (omega arith) is)
      | false ↦ λ is. skip
    ] in
    go (c a) refl
