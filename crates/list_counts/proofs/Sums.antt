-- Sums over views, of which a step changes one, and counts of numbers.
use Rattle.std.proofs.Common.{◌≡◌, ◌≢◌, ℕ, zero, suc, ◌+◌, ◌≤◌, List, [], ◌∷◌, ◌++◌, length, set, refl, sym, ap, arith}
use Rattle.std.proofs.lemmas.Bool.Decides.{nat_tests}
use mathlib.Core.Option.{some, some-injective, some-ne-none}
use lib.ListN.{get_elem?}
use Rattle.list_counts.specs.Counts.{total, same, times, once_below, Ascends}

module _ {A : Type 0} (f : A → ℕ) where
  pub total_set : (l : List A) (i : ℕ) (v w : A) → get_elem? l i ≡ some v → total f (set l i w) + f v ≡ total f l + f w
  total_set [] i v w at = absurd (some-ne-none v (sym at))
  total_set (x ∷ xs) zero v w at = let e : f x ≡ f v = ap f (some-injective x v at) in omega arith
  total_set (x ∷ xs) (suc i) v w at = let e = total_set xs i v w at in omega arith

  pub total_snoc : (l : List A) (w : A) → total f (l ++ w ∷ []) ≡ total f l + f w
  total_snoc [] w = omega arith
  total_snoc (x ∷ xs) w = let e = total_snoc xs w in omega arith

  pub total_append : (l m : List A) → total f (l ++ m) ≡ total f l + total f m
  total_append [] m = omega arith
  total_append (x ∷ xs) m = let e = total_append xs m in omega arith

  pub part : (l : List A) (i : ℕ) (v : A) → get_elem? l i ≡ some v → f v ≤ total f l
  part [] i v at = absurd (some-ne-none v (sym at))
  part (x ∷ xs) zero v at = let e : f x ≡ f v = ap f (some-injective x v at) in omega arith
  part (x ∷ xs) (suc i) v at = let e = part xs i v at in omega arith

  pub two_parts : (l : List A) (i j : ℕ) (v w : A) → i ≢ j → get_elem? l i ≡ some v → get_elem? l j ≡ some w → f v + f w ≤ total f l
  two_parts [] i j v w n at there = absurd (some-ne-none v (sym at))
  two_parts (x ∷ xs) zero zero v w n at there = absurd (n refl)
  two_parts (x ∷ xs) zero (suc j) v w n at there = let e : f x ≡ f v = ap f (some-injective x v at) in let p = part xs j w there in omega arith
  two_parts (x ∷ xs) (suc i) zero v w n at there = let e : f x ≡ f w = ap f (some-injective x w there) in let p = part xs i v at in omega arith
  two_parts (x ∷ xs) (suc i) (suc j) v w n at there = let p = two_parts xs i j v w (λ e. n (ap suc e)) at there in omega arith

  none_left : (g : A → ℕ) → (l : List A) → ((j : ℕ) (u : A) → get_elem? l j ≡ some u → f u ≡ 0 → g u ≡ 0) → total f l ≡ 0 → total g l ≡ 0
  none_left g [] few e = refl
  none_left g (x ∷ xs) few e = let a : g x ≡ 0 = few 0 x refl (omega arith) in let b : total g xs ≡ 0 = none_left g xs (λ j. few (suc j)) (omega arith) in omega arith

  -- where one view has all of f, and who has nothing of f has nothing of g, it has all of g
  pub alone : (g : A → ℕ) (l : List A) (i : ℕ) (v : A) → get_elem? l i ≡ some v → ((j : ℕ) (u : A) → get_elem? l j ≡ some u → f u ≡ 0 → g u ≡ 0) → total f l ≡ f v → total g l ≡ g v
  alone g [] i v at few e = absurd (some-ne-none v (sym at))
  alone g (x ∷ xs) zero v at few e =
      let a : f x ≡ f v = ap f (some-injective x v at) in
      let b : g x ≡ g v = ap g (some-injective x v at) in
      let c : total g xs ≡ 0 = none_left g xs (λ j. few (suc j)) (omega arith) in
      omega arith
  alone g (x ∷ xs) (suc i) v at few e =
      let p = part xs i v at in
      let a : g x ≡ 0 = few 0 x refl (omega arith) in
      let b : total g xs ≡ g v = alone g xs i v at (λ j. few (suc j)) (omega arith) in
      omega arith

pub total_plus : {A : Type 0} (f g : A → ℕ) (l : List A) → total (λ x. f x + g x) l ≡ total f l + total g l
total_plus f g [] = refl
total_plus f g (x ∷ xs) = let e = total_plus f g xs in omega arith

pub total_le : {A : Type 0} (f g : A → ℕ) (l : List A) → ((x : A) → f x ≤ g x) → total f l ≤ total g l
total_le f g [] h = omega arith
total_le f g (x ∷ xs) h = let a = h x in let e = total_le f g xs h in omega arith

pub times_few : (x : ℕ) (l : List ℕ) → times x l ≤ length l
times_few x [] = omega arith
times_few x (y ∷ ys) = let e = times_few x ys in let a : same x y ≤ 1 = grind (arith, nat_tests) in omega arith

pub times_snoc : (x n : ℕ) (l : List ℕ) → times x (l ++ n ∷ []) ≡ times x l + same x n
times_snoc x n l = total_snoc (same x) l n

pub once_more : (x n : ℕ) → once_below x (suc n) ≡ once_below x n + same x n
once_more x n = grind (arith, nat_tests)

pub once_same : (n : ℕ) → once_below n n ≡ 0
once_same n = grind (arith, nat_tests)

pub ascends_on : (low n : ℕ) (l : List ℕ) → Ascends low n l → Ascends low (suc n) (l ++ n ∷ [])
ascends_on low n [] a = (a, omega arith)
ascends_on low n (x ∷ xs) a = (a.0, ascends_on (suc x) n xs a.1)

pub ascends_below : (low high more : ℕ) (l : List ℕ) → high ≤ more → Ascends low high l → Ascends low more l
ascends_below low high more [] h a = omega arith
ascends_below low high more (x ∷ xs) h a = (a.0, ascends_below (suc x) high more xs h a.1)

pub ascends_few : (low high : ℕ) (l : List ℕ) → Ascends low high l → low + length l ≤ high
ascends_few low high [] a = omega arith
ascends_few low high (x ∷ xs) a = let e = ascends_few (suc x) high xs a.1 in let f = a.0 in omega arith

pub set_at : {A : Type 0} (l : List A) (i : ℕ) (v w : A) → get_elem? l i ≡ some v → get_elem? (set l i w) i ≡ some w
set_at [] i v w at = absurd (some-ne-none v (sym at))
set_at (x ∷ xs) zero v w at = refl
set_at (x ∷ xs) (suc i) v w at = set_at xs i v w at
