-- A name of an item is a name, and a reader of names takes exactly those.
use Rattle.std.proofs.Common.{◌≡◌, ℕ, ◌≤◌, ◌<◌, ◌^◌, Bool, true, false, ◌&&◌, ◌||◌, List, [], ◌∷◌, ◌++◌, length, Ok, refl, arith}
use Rattle.std.specs.Prelude.{not, nat_le}
use Rattle.std.specs.List.{list_all}
use Rattle.std.proofs.lemmas.Bool.{leb-true}
use Rattle.std.proofs.lemmas.Bool.Decides.{nat_tests}
use Rattle.std.proofs.lemmas.List.Sums.{AllPass-from_list_all}
use Rattle.std.proofs.lemmas.List.Elements.{All-weaker}
use Rattle.cursors.specs.Cursor.{Cursor, at}
use Rattle.cursors.proofs.Leb128Laws.{IsBytes}
use Rattle.cursors.proofs.Fields.{Took}
use Rattle.gimple_ir.specs.Names.{IsName, IsPrintable, is_letter, is_digit, begins_with_letter, is_among, keywords, is_identifier}
use Rattle.module_stream.specs.Fields.{text_of}
use Rattle.module_stream.specs.DeclarationReading.{name_at}
use Rattle.module_stream.proofs.Exact.{Exact, text_exact, passing_exact}

-- four tests in a row
four : (a b c d : Bool) → (a && b && c && d) ≡ true → (a ≡ true) × (b ≡ true) × (c ≡ true)
four true true true d e = (refl, refl, refl)
four true true false d e = absurd cc
four true false c d e = absurd cc
four false b c d e = absurd cc

some_bytes : (bytes : List ℕ) → begins_with_letter bytes ≡ true → 1 ≤ length bytes
some_bytes [] e = absurd cc
some_bytes (byte ∷ bytes) e = omega arith

printable : (byte : ℕ) → (is_letter byte || is_digit byte) ≡ true → IsPrintable byte
printable byte e = grind (arith, nat_tests)

pub name_from_identifier : (bytes : List ℕ) → is_identifier bytes ≡ true → IsName bytes
name_from_identifier bytes e =
    let t = four (begins_with_letter bytes) (list_all (λ byte. is_letter byte || is_digit byte) bytes) (nat_le (length bytes) 255) (not (is_among keywords bytes)) e in
    let short : length bytes ≤ 255 = leb-true (length bytes) 255 t.2 in
    record {
      some = some_bytes bytes t.0;
      bounded = omega (arith, short);
      printable = All-weaker (λ byte. (is_letter byte || is_digit byte) ≡ true) IsPrintable printable bytes (AllPass-from_list_all (λ byte. is_letter byte || is_digit byte) bytes t.1);
    }

-- the length of a name fits any number
name_takes : (c d : Cursor) (t : List ℕ) → IsBytes c.rest → name_at c ≡ Ok (t, d) → Took c (text_of t) d × (is_identifier t ≡ true)
unfolding name_at
name_takes c d t fits e = let s = (passing_exact is_identifier text_exact).takes c d t fits e in (s.0, s.1.1)

name_again : (t : List ℕ) (end : ℕ) (rest : List ℕ) → is_identifier t ≡ true → name_at (at end (text_of t ++ rest)) ≡ Ok (t, at end rest)
unfolding name_at
name_again t end rest h =
    let name = name_from_identifier t h in
    let fits : length t < 2 ^ 64 = omega (arith, name.bounded) in
    (passing_exact is_identifier text_exact).again t end rest (fits, h)

pub name_exact : Exact text_of (λ t. is_identifier t ≡ true) name_at
name_exact = record { takes = name_takes; again = name_again }
