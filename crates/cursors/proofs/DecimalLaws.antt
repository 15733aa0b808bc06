-- The number whose decimal a text is.
use Rattle.std.proofs.Common.{◌≡◌, ◌≢◌, ℕ, ◌^◌, ◌<◌, List, Bool, true, false, ◌&&◌, cond, Option, Some, None, nat_lt, decimal, refl, sym, ap, ◌∙◌, arith}
use Rattle.std.specs.Prelude.{IfSome}
use Rattle.std.specs.Str.Parse.{digits_value}
use Rattle.std.specs.Cmp.Lexicographic.{bytes_decides}
use Rattle.std.proofs.lemmas.Fmt.{decimal_is_IsNumeral}
use Rattle.std.proofs.lemmas.Bool.Decides.{nat_tests}
use Rattle.cursors.specs.Decimals.{decimal_value}

abbrev pub some : ℕ → Option ℕ
some n = Some n

both : {A : Type 0} (a b : Bool) (v : A) → a ≡ true → b ≡ true → cond (a && b) (Some v) None ≡ Some v
both a b v p q = cc

neither : {A : Type 0} (a b : Bool) (v : A) → (a ≡ true → b ≡ true → ⊥) → cond (a && b) (Some v) None ≡ None
neither true true v h = absurd (h refl refl)
neither true false v h = refl
neither false b v h = refl

below : (m n : ℕ) → m < n → nat_lt m n ≡ true
below m n h = grind (arith, nat_tests)

is_below : (m n : ℕ) → nat_lt m n ≡ true → m < n
is_below m n h = grind (arith, nat_tests)

not_some : (n : ℕ) → None ≡ some n → ⊥
not_some n e = cc

decimal_value-decimal : (n : ℕ) → n < 2 ^ 64 → decimal_value (decimal n) ≡ Some n
decimal_value-decimal n lt =
    let value : digits_value 10 (decimal n) ≡ n = (decimal_is_IsNumeral n lt).1 in
    both _ _ _ (rw value (below n (2 ^ 64) lt)) ((bytes_decides (decimal n) (decimal (digits_value 10 (decimal n)))).1 (ap decimal (sym value))) ∙ ap Some value

decimal_value-none : (text : List ℕ) → ((n : ℕ) → n < 2 ^ 64 → text ≢ decimal n) → decimal_value text ≡ None
decimal_value-none text h = neither _ _ _ (λ lt same. h (digits_value 10 text) (is_below _ _ lt) ((bytes_decides text (decimal (digits_value 10 text))).0 same))

-- what reads the decimals alone gives the number of each text
pub decimal_value_is : (r : Option ℕ) (text : List ℕ) → IfSome r (λ n. (n < 2 ^ 64) × (text ≡ decimal n)) → ((n : ℕ) → n < 2 ^ 64 → text ≡ decimal n → r ≡ Some n) → r ≡ decimal_value text
decimal_value_is (Some n) text found only = sym (ap decimal_value found.1 ∙ decimal_value-decimal n found.0)
decimal_value_is None text found only = sym (decimal_value-none text (λ n lt e. not_some n (only n lt e)))
