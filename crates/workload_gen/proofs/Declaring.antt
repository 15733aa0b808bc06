-- Which functions a module declares below a number, one number after the other.
use Rattle.std.proofs.Common.{◌≡◌, ℕ, zero, suc, ◌+◌, ◌-◌, ◌<◌, ◌≤◌, List, [], ◌∷◌, ◌++◌, cond, map, filter, length, Bool, true, false, refl, arith, sym, ap, subst, ◌∙◌}
use Rattle.std.specs.List.{range_with_len}
use Rattle.std.proofs.lemmas.List.{map-id, length-append}
use Rattle.std.proofs.lemmas.List.FromFn.{map-range_with_len_more, length-map-range_with_len}
use Rattle.std.proofs.lemmas.List.Elements.{filter-append}
use Rattle.workload_gen.specs.declared.choices.Choice.{Choice}
use Rattle.workload_gen.specs.Modules.{is_declared, declared_below}
use Rattle.workload_gen.specs.Places.{AreCounts}

pub range_with_len-more : (n : ℕ) → range_with_len 0 (n + 1) ≡ range_with_len 0 n ++ n ∷ []
range_with_len-more n =
    let e = map-range_with_len_more (λ (x : ℕ). x) 0 n n (omega arith) in
    sym (map-id (range_with_len 0 (n + 1))) ∙ e ∙ ap (λ xs. xs ++ n ∷ []) (map-id (range_with_len 0 n))

pub declared_below-none : (own : List Choice) (m : ℕ) → declared_below own m 0 ≡ []
unfolding declared_below
declared_below-none own m = refl

pub declared_below-more : (own : List Choice) (m n : ℕ)
    → declared_below own m (n + 1) ≡ declared_below own m n ++ cond (is_declared own m n) (n ∷ []) []
unfolding declared_below
declared_below-more own m n =
    ap (filter (is_declared own m)) (range_with_len-more n) ∙ filter-append (is_declared own m) (range_with_len 0 n) (n ∷ [])

append-none : (xs : List ℕ) → xs ++ [] ≡ xs
append-none [] = refl
append-none (x ∷ xs) = ap (λ ys. x ∷ ys) (append-none xs)

declared_below-passed : (own : List Choice) (m n : ℕ) → is_declared own m n ≡ false → declared_below own m (n + 1) ≡ declared_below own m n
declared_below-passed own m n none =
    declared_below-more own m n ∙ ap (λ b. declared_below own m n ++ cond b (n ∷ []) []) none ∙ append-none (declared_below own m n)

-- none is declared from n on, among the next k
abbrev pub DeclaresNone : List Choice → ℕ → ℕ → ℕ → Type 0
DeclaresNone own m n k = (j : ℕ) → n ≤ j → j < n + k → is_declared own m j ≡ false

pub declared_below_same : (own : List Choice) (m n k : ℕ) → DeclaresNone own m n k → declared_below own m (n + k) ≡ declared_below own m n
declared_below_same own m n zero none = ap (declared_below own m) (omega arith)
declared_below_same own m n (suc k) none =
    let before = declared_below_same own m n k (λ j low high. none j low (omega arith)) in
    let last = none (n + k) (omega arith) (omega arith) in
    let e : n + suc k ≡ n + k + 1 = omega arith in
    ap (declared_below own m) e ∙ declared_below-passed own m (n + k) last ∙ before

length-cond : (b : Bool) (n : ℕ) → length (cond b (n ∷ []) []) ≤ 1
length-cond true n = omega arith
length-cond false n = omega arith

-- at most as many as there are numbers
pub length-declared_below-le : (own : List Choice) (m n k : ℕ) → length (declared_below own m (n + k)) ≤ length (declared_below own m n) + k
length-declared_below-le own m n zero =
    let e : n + zero ≡ n = omega arith in
    subst (λ (x : ℕ). length (declared_below own m x) ≤ length (declared_below own m n) + zero) (sym e) (omega arith)
length-declared_below-le own m n (suc k) =
    let before = length-declared_below-le own m n k in
    let e : n + suc k ≡ n + k + 1 = omega arith in
    let more = ap length (ap (declared_below own m) e ∙ declared_below-more own m (n + k)) in
    let parts = length-append (declared_below own m (n + k)) (cond (is_declared own m (n + k)) ((n + k) ∷ []) []) in
    let one = length-cond (is_declared own m (n + k)) (n + k) in
    omega (arith, before, more, parts, one)

-- how many stand below each number from `end` on
abbrev pub counts_of : List Choice → ℕ → ℕ → ℕ → List ℕ
counts_of own m end many = map (λ n. length (declared_below own m n)) (range_with_len end many)

pub counts_of-none : (own : List Choice) (m end many : ℕ) → many ≡ 0 → counts_of own m end many ≡ []
counts_of-none own m end many e = ap (counts_of own m end) e

pub counts_of-more : (own : List Choice) (m end n after : ℕ) → end ≤ n → after ≡ n + 1
    → counts_of own m end (after - end) ≡ counts_of own m end (n - end) ++ length (declared_below own m n) ∷ []
counts_of-more own m end n after low is =
    let e : after - end ≡ n - end + 1 = omega arith in
    ap (counts_of own m end) e ∙ map-range_with_len_more (λ (x : ℕ). length (declared_below own m x)) end (n - end) n (omega arith)

pub length-counts_of : (own : List Choice) (m end many : ℕ) → length (counts_of own m end many) ≡ many
length-counts_of own m end many = length-map-range_with_len (λ (x : ℕ). length (declared_below own m x)) end many

pub counts_of-AreCounts : (own : List Choice) (m end many : ℕ) (before : List ℕ) → before ≡ counts_of own m end many → AreCounts own m end before
counts_of-AreCounts own m end many before e = e ∙ ap (counts_of own m end) (sym (ap length e ∙ length-counts_of own m end many))
