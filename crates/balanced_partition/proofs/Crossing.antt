-- How the number of calls that a place cuts changes from one place to the next.
use Rattle.std.proofs.Common.{◌≡◌, ℕ, ◌+◌, ◌<◌, ◌≤◌, Bool, false, ◌&&◌, cond, List, [], ◌∷◌, length, count_by, nat_eq, refl, ◌∙◌, ap, arith, All}
use Rattle.std.proofs.lemmas.Bool.Decides.{nat_tests}
use Rattle.std.proofs.lemmas.List.Sums.{sum_by-cons, count_by-le-length}
use Rattle.std.proofs.lemmas.List.Elements.{All-tail, All-head}
use Rattle.balanced_partition.specs.Cuts.{is_within, is_cut, cut_calls, IsBetween}
use Rattle.balanced_partition.specs.Tables.{calls_with}

abbrev pub one_if : Bool → ℕ
one_if test = cond test 1 0

pub count_by-cons : {X : Type 0} (p : X → Bool) (x : X) (xs : List X) → count_by p (x ∷ xs) ≡ one_if (p x) + count_by p xs
count_by-cons p x xs = sum_by-cons (λ y. cond (p y) 1 0) x xs

-- one call, at the place after v: no longer cut if it goes back to the partition, cut if it goes on
one_call : (s v n a b : ℕ) → s ≤ v → a < n → b < n → one_if (is_cut s (v + 1) (a, b)) + (one_if (nat_eq a v && is_within s v b) + one_if (nat_eq b v && is_within s v a)) ≡ one_if (is_cut s v (a, b)) + (one_if (nat_eq a v && is_within (v + 1) n b) + one_if (nat_eq b v && is_within (v + 1) n a))
one_call s v n a b start first second = grind (arith, nat_tests)

pub cut_calls_more : (calls : List (ℕ × ℕ)) (s v n : ℕ) → s ≤ v → All (IsBetween n) calls → cut_calls calls s (v + 1) + calls_with calls v (is_within s v) ≡ cut_calls calls s v + calls_with calls v (is_within (v + 1) n)
unfolding cut_calls calls_with
cut_calls_more [] s v n h all = refl
cut_calls_more (call ∷ calls) s v n h all =
    let here = All-head (IsBetween n) call calls all in
    let one = one_call s v n call.0 call.1 h here.0 here.1 in
    let rest = cut_calls_more calls s v n h (All-tail (IsBetween n) call calls all) in
    let a = count_by-cons (is_cut s (v + 1)) call calls in
    let b = count_by-cons (is_cut s v) call calls in
    let c = count_by-cons (λ x. nat_eq x.0 v && is_within s v x.1) call calls in
    let d = count_by-cons (λ x. nat_eq x.1 v && is_within s v x.0) call calls in
    let e = count_by-cons (λ x. nat_eq x.0 v && is_within (v + 1) n x.1) call calls in
    let f = count_by-cons (λ x. nat_eq x.1 v && is_within (v + 1) n x.0) call calls in
    omega (arith, one, rest, a, b, c, d, e, f)

no_cut : (s a b : ℕ) → is_cut s s (a, b) ≡ false
no_cut s a b = grind (arith, nat_tests)

pub cut_calls-none : (calls : List (ℕ × ℕ)) (s : ℕ) → cut_calls calls s s ≡ 0
unfolding cut_calls
cut_calls-none [] s = refl
cut_calls-none (call ∷ calls) s =
    let here : one_if (is_cut s s call) ≡ 0 = ap one_if (no_cut s call.0 call.1) in
    count_by-cons (is_cut s s) call calls ∙ ap (λ n. n + count_by (is_cut s s) calls) here ∙ omega (arith, cut_calls-none calls s)

-- a call back to the partition is cut at the place before the version
back_call : (s v a b : ℕ) → one_if (nat_eq a v && is_within s v b) + one_if (nat_eq b v && is_within s v a) ≤ one_if (is_cut s v (a, b))
back_call s v a b = grind (arith, nat_tests)

pub calls_with-le-cut_calls : (calls : List (ℕ × ℕ)) (s v : ℕ) → calls_with calls v (is_within s v) ≤ cut_calls calls s v
unfolding cut_calls calls_with
calls_with-le-cut_calls [] s v = omega arith
calls_with-le-cut_calls (call ∷ calls) s v =
    let one = back_call s v call.0 call.1 in
    let rest = calls_with-le-cut_calls calls s v in
    let a = count_by-cons (is_cut s v) call calls in
    let b = count_by-cons (λ x. nat_eq x.0 v && is_within s v x.1) call calls in
    let c = count_by-cons (λ x. nat_eq x.1 v && is_within s v x.0) call calls in
    omega (arith, one, rest, a, b, c)

pub cut_calls-le-length : (calls : List (ℕ × ℕ)) (s v : ℕ) → cut_calls calls s v ≤ length calls
unfolding cut_calls
cut_calls-le-length calls s v = count_by-le-length (is_cut s v) calls
