-- The symbols of arrays are names: an identifier, a short word of printable bytes, and a number in decimal.
use Rattle.std.proofs.Common.{◌≡◌, ℕ, ◌≤◌, ◌<◌, ◌^◌, ◌+◌, Bool, true, false, ◌&&◌, ◌||◌, not, List, [], ◌∷◌, ◌++◌, length, refl, arith, length-append, ◌%◌}
use Rattle.std.specs.Prelude.{All, nat_le, decimal, codes}
use Rattle.std.specs.List.{list_all}
use Rattle.std.proofs.lemmas.Bool.{leb-true}
use Rattle.std.proofs.lemmas.Bool.Decides.{nat_tests}
use Rattle.std.proofs.lemmas.Fmt.{decimal_by_steps, length-decimal-le}
use Rattle.std.proofs.lemmas.List.Sums.{AllPass-from_list_all}
use Rattle.std.proofs.lemmas.List.Elements.{All-nil, All-cons, All-append, All-weaker}
use Rattle.gimple_ir.specs.Names.{IsName, IsPrintable, is_letter, is_digit, begins_with_letter, is_among, keywords, is_identifier}
use Rattle.program_link.specs.Known.{symbol_by}

four : (a b c d : Bool) → (a && b && c && d) ≡ true → (a ≡ true) × (b ≡ true) × (c ≡ true)
four true true true d e = (refl, refl, refl)
four true true false d e = absurd cc
four true false c d e = absurd cc
four false b c d e = absurd cc

some_bytes : (bytes : List ℕ) → begins_with_letter bytes ≡ true → 1 ≤ length bytes
some_bytes [] e = absurd cc
some_bytes (byte ∷ bytes) e = omega arith

letter_printable : (byte : ℕ) → (is_letter byte || is_digit byte) ≡ true → IsPrintable byte
letter_printable byte e = grind (arith, nat_tests)

digits_printable : (n : ℕ) → n < 2 ^ 64 → All IsPrintable (decimal n)
digits_printable n h =
    decimal_by_steps (λ k ds. All IsPrintable ds)
    (λ k lt. All-cons IsPrintable (48 + k) [] (omega arith, omega (arith, lt)) (All-nil IsPrintable))
    (λ k ds le before. All-append IsPrintable ds ((48 + k % 10) ∷ []) before (All-cons IsPrintable (48 + k % 10) [] (omega arith, omega arith) (All-nil IsPrintable)))
    n h

symbol_named : (name word : List ℕ) (n : ℕ) → is_identifier name ≡ true → length word ≤ 2 → All IsPrintable word → n < 2 ^ 32 → IsName (symbol_by name word n)
symbol_named name word n e short plain lt =
    let t = four (begins_with_letter name) (list_all (λ byte. is_letter byte || is_digit byte) name) (nat_le (length name) 255) (not (is_among keywords name)) e in
    let long : length name ≤ 255 = leb-true (length name) 255 t.2 in
    let ten : length (decimal n) ≤ 10 = length-decimal-le 10 n (omega arith) (omega (arith, lt)) (omega (arith, lt)) in
    let first = some_bytes name t.0 in
    let bytes = length-append name (word ++ decimal n) in
    let rest = length-append word (decimal n) in
    record {
      some = omega (arith, bytes, first);
      bounded = omega (arith, bytes, rest, long, short, ten);
      printable =
          All-append IsPrintable name (word ++ decimal n)
          (All-weaker (λ byte. (is_letter byte || is_digit byte) ≡ true) IsPrintable letter_printable name (AllPass-from_list_all (λ byte. is_letter byte || is_digit byte) name t.1))
          (All-append IsPrintable word (decimal n) plain (digits_printable n (omega (arith, lt))));
    }

dot_a : All IsPrintable (codes ".a")
dot_a = All-cons IsPrintable 46 (97 ∷ []) (omega arith, omega arith) (All-cons IsPrintable 97 [] (omega arith, omega arith) (All-nil IsPrintable))

pub array_named : (name : List ℕ) (n : ℕ) → is_identifier name ≡ true → n < 2 ^ 32 → IsName (symbol_by name (codes ".a") n)
array_named name n e lt = symbol_named name (codes ".a") n e (omega arith) dot_a lt
