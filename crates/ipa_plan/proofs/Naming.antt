-- The symbol of a version is a name: an identifier, a dot, and a number in decimal.
use Rattle.std.proofs.Common.{◌≡◌, ℕ, ◌≤◌, ◌<◌, ◌^◌, ◌+◌, Bool, true, false, ◌&&◌, ◌||◌, not, List, [], ◌∷◌, ◌++◌, length, refl, arith, length-append, ◌%◌}
use Rattle.std.specs.Prelude.{All, nat_le, decimal, codes}
use Rattle.std.specs.List.{list_all}
use Rattle.std.proofs.lemmas.Bool.{leb-true}
use Rattle.std.proofs.lemmas.Bool.Decides.{nat_tests}
use Rattle.std.proofs.lemmas.Fmt.{decimal_by_steps, length-decimal-le}
use Rattle.std.proofs.lemmas.List.Sums.{AllPass-from_list_all}
use Rattle.std.proofs.lemmas.List.Elements.{All-nil, All-cons, All-append, All-weaker}
use Rattle.gimple_ir.specs.Names.{IsName, IsPrintable, is_letter, is_digit, begins_with_letter, is_among, keywords}
use Rattle.gimple_ir.specs.Programs.{IsIdentifier}
use Rattle.ipa_plan.specs.Plans.{version_symbol}

four : (a b c d : Bool) → (a && b && c && d) ≡ true → (a ≡ true) × (b ≡ true) × (c ≡ true)
four true true true d e = (refl, refl, refl)
four true true false d e = absurd cc
four true false c d e = absurd cc
four false b c d e = absurd cc

some_bytes : (bytes : List ℕ) → begins_with_letter bytes ≡ true → 1 ≤ length bytes
some_bytes [] e = absurd cc
some_bytes (byte ∷ bytes) e = omega arith

letter_printable : (byte : ℕ) → (is_letter byte || is_digit byte) ≡ true → IsPrintable byte
letter_printable byte e = grind (arith, nat_tests)

digits_printable : (n : ℕ) → n < 2 ^ 64 → All IsPrintable (decimal n)
digits_printable n h =
    decimal_by_steps (λ k ds. All IsPrintable ds)
    (λ k lt. All-cons IsPrintable (48 + k) [] (omega arith, omega (arith, lt)) (All-nil IsPrintable))
    (λ k ds le before. All-append IsPrintable ds ((48 + k % 10) ∷ []) before (All-cons IsPrintable (48 + k % 10) [] (omega arith, omega arith) (All-nil IsPrintable)))
    n h

dot : All IsPrintable (codes ".")
dot = All-cons IsPrintable 46 [] (omega arith, omega arith) (All-nil IsPrintable)

pub symbol_named : (name : List ℕ) (n : ℕ) → IsIdentifier name → n < 2 ^ 32 → IsName (version_symbol name n)
symbol_named name n e lt =
    let t = four (begins_with_letter name) (list_all (λ byte. is_letter byte || is_digit byte) name) (nat_le (length name) 255) (not (is_among keywords name)) e in
    let long : length name ≤ 255 = leb-true (length name) 255 t.2 in
    let ten : length (decimal n) ≤ 10 = length-decimal-le 10 n (omega arith) (omega (arith, lt)) (omega (arith, lt)) in
    let first = some_bytes name t.0 in
    let bytes = length-append name (codes "." ++ decimal n) in
    let rest = length-append (codes ".") (decimal n) in
    record {
      some = omega (arith, bytes, first);
      bounded = omega (arith, bytes, rest, long, ten);
      printable =
          All-append IsPrintable name (codes "." ++ decimal n)
          (All-weaker (λ byte. (is_letter byte || is_digit byte) ≡ true) IsPrintable letter_printable name (AllPass-from_list_all (λ byte. is_letter byte || is_digit byte) name t.1))
          (All-append IsPrintable (codes ".") (decimal n) dot (digits_printable n (omega (arith, lt))));
    }
