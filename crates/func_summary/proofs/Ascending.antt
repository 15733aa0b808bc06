-- An ascending list is what is left of a range where only its numbers are kept.
use Rattle.std.proofs.Common.{◌≡◌, ◌+◌, ◌<◌, ◌≤◌, ℕ, zero, suc, List, [], ◌∷◌, Bool, true, false, cond, refl, sym, ap, ◌∙◌, ⊎_elim, arith, ◌||◌}
use Rattle.std.specs.Prelude.{nat_eq, All, Contains}
use Rattle.std.specs.List.{filter, range_with_len, list_any}
use Rattle.std.specs.List.Sorted.{IsStrictlySortedBy}
use Rattle.std.specs.Ordering.{nat_cmp}
use Rattle.std.specs.declared.cmp.Ordering.TheVariants.{Less}
use Rattle.std.specs.Cmp.{nat_eq_equiv}
use Rattle.std.proofs.lemmas.Bool.{cases_eq, cond-true, cond-false}
use Rattle.std.proofs.lemmas.Bool.Decides.{nat_tests}
use Rattle.std.proofs.lemmas.List.Elements.{All-nil, All-cons, All-head, All-tail, All-weaker, All-from_recursion}
use Rattle.std.proofs.lemmas.List.Folds.{list_any_none}
use Rattle.std.proofs.lemmas.Map.Keys.{sorted_head, sorted_tail}
use Rattle.std.proofs.lemmas.Map.Views.{list_any-from_Contains, Contains-from_any}
use Rattle.func_summary.proofs.Keyed.{nat_eq-same, nat_eq-other}

abbrev pub has : List ℕ → ℕ → Bool
has xs q = list_any (nat_eq q) xs

less : (a b : ℕ) → nat_cmp a b ≡ Less → a < b
less a b h = grind (arith, nat_tests)

filter_range : (p q : ℕ → Bool) (a n : ℕ) → ((k : ℕ) → a ≤ k → p k ≡ q k) → filter p (range_with_len a n) ≡ filter q (range_with_len a n)
filter_range p q a zero h = refl
filter_range p q a (suc n) h =
    let rest = filter_range p q (a + 1) n (λ k above. h k (omega (arith, above))) in
    ap (λ r. cond (p a) (a ∷ r) r) rest ∙ ap (λ b. cond b (a ∷ filter q (range_with_len (a + 1) n)) (filter q (range_with_len (a + 1) n))) (h a (omega arith))

pub ascending_is : (a n : ℕ) (xs : List ℕ) → IsStrictlySortedBy nat_cmp xs → All (λ x. a ≤ x) xs → All (λ x. x < a + n) xs
    → xs ≡ filter (has xs) (range_with_len a n)
ascending_is a zero [] up above below = refl
ascending_is a zero (x ∷ xs) up above below =
    let low = All-head (λ x. a ≤ x) x xs above in
    let high = All-head (λ x. x < a + 0) x xs below in
    absurd (omega (arith, low, high))
ascending_is a (suc n) [] up above below = ascending_is (a + 1) n [] up (All-nil (λ x. a + 1 ≤ x)) (All-nil (λ x. x < a + 1 + n))
ascending_is a (suc n) (x ∷ xs) up above below =
    let low = All-head (λ x. a ≤ x) x xs above in
    let later = All-weaker (λ y. nat_cmp x y ≡ Less) (λ y. x < y) (λ y h. less x y h) xs (All-from_recursion (λ y. nat_cmp x y ≡ Less) xs (sorted_head nat_cmp x xs up)) in
    let bound = All-weaker (λ y. y < a + suc n) (λ y. y < a + 1 + n) (λ y h. omega (arith, h)) (x ∷ xs) below in
    ⊎_elim
    (λ same.
    let tail_above = All-weaker (λ y. x < y) (λ y. a + 1 ≤ y) (λ y h. omega (arith, h, same)) xs later in
    let tail = ascending_is (a + 1) n xs (sorted_tail nat_cmp x xs up) tail_above (All-tail (λ y. y < a + 1 + n) x xs bound) in
    let agree = filter_range (has (x ∷ xs)) (has xs) (a + 1) n (λ k h. ap (λ b. b || has xs k) (nat_eq-other k x (λ e. absurd (omega (arith, h, e, same))))) in
    let first = ap (λ b. b || has xs a) (nat_eq-same a x (sym same)) in
    ap (λ y. y ∷ xs) same ∙ ap (λ ys. a ∷ ys) (tail ∙ sym agree)
    ∙ sym (cond-true (has (x ∷ xs) a) (a ∷ filter (has (x ∷ xs)) (range_with_len (a + 1) n)) (filter (has (x ∷ xs)) (range_with_len (a + 1) n)) first))
    (λ other.
    let all_later = All-weaker (λ y. x < y) (λ y. a + 1 ≤ y) (λ y h. omega (arith, h, low)) xs later in
    let all_above = All-cons (λ y. a + 1 ≤ y) x xs (omega (arith, low, other)) all_later in
    let none = list_any_none (nat_eq a) (x ∷ xs) (All-weaker (λ y. a + 1 ≤ y) (λ y. nat_eq a y ≡ false) (λ y h. nat_eq-other a y (λ e. absurd (omega (arith, h, e)))) (x ∷ xs) all_above) in
    ascending_is (a + 1) n (x ∷ xs) up all_above bound
    ∙ sym (cond-false (has (x ∷ xs) a) (a ∷ filter (has (x ∷ xs)) (range_with_len (a + 1) n)) (filter (has (x ∷ xs)) (range_with_len (a + 1) n)) none))
    (cases_eq x a)

same_tests : (b c : Bool) → (b ≡ true → c ≡ true) → (c ≡ true → b ≡ true) → b ≡ c
same_tests true true h k = refl
same_tests true false h k = sym (h refl)
same_tests false true h k = k refl
same_tests false false h k = refl

-- lists with the same numbers
pub has-same : (xs ys : List ℕ) → ((x : ℕ) → Contains xs x → Contains ys x) → ((x : ℕ) → Contains ys x → Contains xs x) → (q : ℕ) → has xs q ≡ has ys q
has-same xs ys to back q =
    same_tests (has xs q) (has ys q)
    (λ h. list_any-from_Contains nat_eq_equiv q ys (to q (Contains-from_any exact q xs h)))
    (λ h. list_any-from_Contains nat_eq_equiv q xs (back q (Contains-from_any exact q ys h)))
  where
    exact : (x y : ℕ) → nat_eq x y ≡ true → x ≡ y
    exact x y h = grind (arith, nat_tests)
