-- The laws of the systems of Booleans.
use Rattle.std.proofs.Common.{◌≡◌, ◌≢◌, ℕ, zero, suc, ◌+◌, ◌-◌, ◌/◌, ◌<◌, ◌≤◌, Bool, true, false, ◌&&◌, cond, nat_le, nat_eq, List, [], ◌∷◌, length, get_or, set, slice_get, Some, refl, sym, ◌∙◌, ap, subst, arith, All, Contains, le_trans, inl, inr}
use mathlib.Core.Bool.{beq}
use Rattle.std.specs.List.{list_all}
use Rattle.std.proofs.lemmas.Bool.{leb-true, true≢false, cases_eq}
use Rattle.std.proofs.lemmas.List.{get_or-set_other}
use Rattle.std.proofs.lemmas.List.Elements.{All-nil, All-cons}
use Rattle.equation_rounds.specs.Systems.{IsSystem, AreReaders}
use Rattle.equation_rounds.proofs.Heights.{chain-le}
use Rattle.bench.specs.declared.solver.booleans.Shape.{Shape}
use Rattle.bench.specs.declared.solver.booleans.Shape.TheVariants.{Chain, Tree, Dense}
use Rattle.bench.specs.Booleans.{read_of, value_of, boolean_equations, first_of, width_of, count_of, numbers_from, boolean_readers}

same : (a b : Bool) → beq a b ≡ true → a ≡ b
same true true e = refl
same true false e = absurd (true≢false (sym e))
same false true e = absurd (true≢false (sym e))
same false false e = refl

commutes : (a b : Bool) → (a && b) ≡ (b && a)
commutes true true = refl
commutes true false = refl
commutes false true = refl
commutes false false = refl

associates : (a b c : Bool) → ((a && b) && c) ≡ (a && (b && c))
associates true b c = refl
associates false b c = refl

idempotent : (a : Bool) → (a && a) ≡ a
idempotent true = refl
idempotent false = refl

below_top : (a : Bool) → (a && true) ≡ a
below_top true = refl
below_top false = refl

-- a chain of Booleans falls once
depth : Bool → ℕ
depth true = 0
depth false = 1

depth_rises : (a b : Bool) → (a && b) ≡ a → a ≢ b → suc (depth b) ≤ depth a
unfolding depth
depth_rises true b below apart = absurd (apart (sym below))
depth_rises false true below apart = omega arith
depth_rises false false below apart = absurd (apart refl)

depth-le : (a : Bool) → depth a ≤ 1
unfolding depth
depth-le true = omega arith
depth-le false = omega arith

-- what is lower everywhere has a lower "and"
and_monotone : (a b c d : Bool) → (a && b) ≡ a → (c && d) ≡ c → ((a && c) && (b && d)) ≡ (a && c)
and_monotone true true c d p q = q
and_monotone true false c d p q = absurd (true≢false (sym p))
and_monotone false b c d p q = refl

list_all-monotone : (v w : List Bool) → length v ≡ length w → ((k : ℕ) → k < length v → (get_or v k true && get_or w k true) ≡ get_or v k true) → (list_all (λ x. x) v && list_all (λ x. x) w) ≡ list_all (λ x. x) v
list_all-monotone [] [] len below = refl
list_all-monotone [] (b ∷ w) len below = absurd (omega (arith, len))
list_all-monotone (a ∷ v) [] len below = absurd (omega (arith, len))
list_all-monotone (a ∷ v) (b ∷ w) len below =
    let rest = list_all-monotone v w (omega (arith, len)) (λ k h. below (suc k) (omega arith)) in
    and_monotone a b (list_all (λ x. x) v) (list_all (λ x. x) w) (below 0 (omega arith)) rest

read_of-monotone : (shape : Shape) (n u : ℕ) (v w : List Bool) → u < n → length v ≡ n → length w ≡ n → ((k : ℕ) → k < n → (get_or v k true && get_or w k true) ≡ get_or v k true) → (read_of shape u v && read_of shape u w) ≡ read_of shape u v
read_of-monotone Chain n u v w h lv lw below = below (u - 1) (omega arith)
read_of-monotone Tree n u v w h lv lw below = below ((u - 1) / 2) (omega arith)
read_of-monotone Dense n u v w h lv lw below = list_all-monotone v w (lv ∙ sym lw) (λ k inside. below k (subst (λ m. k < m) lv inside))

by_test : (test : Bool) (a b : Bool) → (a && b) ≡ a → (cond test false a && cond test false b) ≡ cond test false a
by_test true a b e = refl
by_test false a b e = e

pub boolean_laws : (shape : Shape) (n : ℕ) → IsSystem (boolean_equations shape n) beq
boolean_laws shape n = record {
  same_value = λ a b _ _. same a b;
  top_counts = refl;
  meet_counts = λ a b _ _. refl;
  apply_counts = λ u v _ _. refl;
  below_top = λ a _. below_top a;
  commutes = λ a b _ _. commutes a b;
  associates = λ a b c _ _ _. associates a b c;
  idempotent = λ a _. idempotent a;
  monotone = λ u v w h i j below. by_test (nat_eq u 0) (read_of shape u v) (read_of shape u w) (read_of-monotone shape n u v w h i.of_all j.of_all below);
  finite_height = λ m a c. le_trans (chain-le (boolean_equations shape n) depth (λ a b _. depth_rises a b) m a c) (depth-le a);
}

-- consecutive numbers
pub length-numbers_from : (first n : ℕ) → length (numbers_from first n) ≡ n
length-numbers_from first zero = refl
length-numbers_from first (suc n) = ap suc (length-numbers_from (suc first) n)

pub numbers_from-at : (first n k : ℕ) → k < n → slice_get (numbers_from first n) k ≡ Some (first + k)
numbers_from-at first zero k h = absurd (omega arith)
numbers_from-at first (suc n) zero h = ap Some (omega arith)
numbers_from-at first (suc n) (suc k) h =
    let further : suc first + k ≡ first + suc k = omega arith in
    numbers_from-at (suc first) n k (omega arith) ∙ ap Some further

pub numbers_from-within : (m first n : ℕ) → ((k : ℕ) → k < n → first + k < m) → All (λ w. w < m) (numbers_from first n)
numbers_from-within m first zero h = All-nil (λ w. w < m)
numbers_from-within m first (suc n) h =
    let here = h 0 (omega arith) in
    All-cons (λ w. w < m) first (numbers_from (suc first) n) (omega (arith, here)) (numbers_from-within m (suc first) n (λ k lt.
    let there = h (suc k) (omega arith) in
    omega (arith, there)))

pub contains_numbers_from : (first n w : ℕ) → first ≤ w → w < first + n → Contains (numbers_from first n) w
contains_numbers_from first zero w above below = absurd (omega arith)
contains_numbers_from first (suc n) w above below =
    elim (cases_eq first w) [
      | inl is ↦ (0, omega arith, is)
      | inr apart ↦
          let (k, lt, at) = contains_numbers_from (suc first) n w (omega arith) (omega arith) in
          (suc k, omega arith, at)
    ]

-- how many of so many numbers from the first on are unknowns
count_of-within : (first width n k : ℕ) (t : Bool) → nat_le (first + width) n ≡ t → k < cond t width (n - first) → first + k < n
count_of-within first width n k true is h = let most = leb-true (first + width) n is in omega (arith, most)
count_of-within first width n k false is h = omega arith

below-count_of : (first width n w : ℕ) (t : Bool) → nat_le (first + width) n ≡ t → first ≤ w → w < first + width → w < n → w < first + cond t width (n - first)
below-count_of first width n w true is above below within = below
below-count_of first width n w false is above below within = omega arith

is_reader : (shape : Shape) (n u w : ℕ) → w < n → first_of shape u ≤ w → w < first_of shape u + width_of shape n → Contains (boolean_readers shape n u) w
is_reader shape n u w within above below =
    contains_numbers_from (first_of shape u) (count_of (first_of shape u) (width_of shape n) n) w above (below-count_of (first_of shape u) (width_of shape n) n w (nat_le (first_of shape u + width_of shape n) n) refl above below within)

unread : (shape : Shape) (n u w : ℕ) (v : List Bool) (a : Bool) → w < n → (Contains (boolean_readers shape n u) w → ⊥) → value_of shape w (set v u a) ≡ value_of shape w v
unread shape n u zero v a h apart = refl
unread Chain n u (suc w) v a h apart =
    ap (λ x. cond (nat_eq (suc w) 0) false x) (get_or-set_other v u (suc w - 1) a true (λ is. apart (is_reader Chain n u (suc w) h (omega arith) (omega arith))))
unread Tree n u (suc w) v a h apart =
    ap (λ x. cond (nat_eq (suc w) 0) false x) (get_or-set_other v u ((suc w - 1) / 2) a true (λ is. apart (is_reader Tree n u (suc w) h (omega arith) (omega arith))))
unread Dense n u (suc w) v a h apart = absurd (apart (is_reader Dense n u (suc w) h (omega arith) (omega arith)))

pub boolean_reads : (shape : Shape) (n : ℕ) → AreReaders (boolean_equations shape n) (boolean_readers shape n)
boolean_reads shape n = record {
  within = λ u _.
      let first = first_of shape u in
      let width = width_of shape n in
      numbers_from-within n first (count_of first width n) (λ k. count_of-within first width n k (nat_le (first + width) n) refl);
  unread = λ u w v a _ h _ _ apart. unread shape n u w v a h apart;
}
