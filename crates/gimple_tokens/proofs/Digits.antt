use Rattle.std.proofs.Common.{◌≡◌, ℕ, ◌+◌, ◌-◌, ◌*◌, ◌≤◌, ◌<◌, ◌^◌, List, [], ◌∷◌, Some, None, drop, length, get_or, refl, sym, arith, ◌∙◌, cond, ltb, true, false, Bool}
use Rattle.std.specs.Prelude.{fold}
use Rattle.std.proofs.lemmas.Bool.{le-ltb, lt-ltb, ltb-false}
use Rattle.std.proofs.lemmas.List.{drop_all}
use Rattle.std.proofs.Common.{drop-cons, add-one}
use Rattle.gimple_tokens.specs.Tokens.{value_of, small}

abbrev pub value_on : ℕ → List ℕ → ℕ
value_on n digits = fold (λ n d. n * 10 + (d - 48)) n digits

-- more digits make no less
pub grows : (n : ℕ) (digits : List ℕ) → n ≤ value_on n digits
grows n [] = omega arith
grows n (d ∷ digits) = omega (arith, grows (n * 10 + (d - 48)) digits)

pub small-none : (n : ℕ) → 2 ^ 64 ≤ n → small n ≡ None
small-none n h = rw (le-ltb n (2 ^ 64) h) refl

none_cases : (b : Bool) (n : ℕ) → cond b (Some n) None ≡ None → b ≡ false
none_cases true n e = absurd cc
none_cases false n e = refl

pub large : (n : ℕ) → small n ≡ None → 2 ^ 64 ≤ n
large n e = ltb-false n (2 ^ 64) (none_cases (ltb n (2 ^ 64)) n e)

pub goes_on : (n i : ℕ) (digits : List ℕ) → i < length digits → value_on n (drop i digits) ≡ value_on (n * 10 + (get_or digits i 0 - 48)) (drop (i + 1) digits)
goes_on n i digits h = rw (add-one, drop-cons digits i 0) refl

pub no_value : (n i : ℕ) (digits : List ℕ) → i < length digits → value_on n (drop i digits) ≡ value_of digits → small (n * 10 + (get_or digits i 0 - 48)) ≡ None → small (value_of digits) ≡ None
no_value n i digits h so_far e =
    let more = grows (n * 10 + (get_or digits i 0 - 48)) (drop (i + 1) digits) in
    let least = large _ e in
    let total : value_of digits ≡ value_on (n * 10 + (get_or digits i 0 - 48)) (drop (i + 1) digits) = sym so_far ∙ goes_on n i digits h in
    small-none (value_of digits) (rw total (omega arith))

pub is_value : (n i : ℕ) (digits : List ℕ) → length digits ≤ i → n < 2 ^ 64 → value_on n (drop i digits) ≡ value_of digits → Some n ≡ small (value_of digits)
is_value n i digits h lt so_far =
    let e : n ≡ value_of digits = rw (drop_all i digits h) at so_far in
    rw (← e, lt-ltb n (2 ^ 64) lt) refl
