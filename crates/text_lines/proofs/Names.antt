-- The test of a name tells what a name is.
use Rattle.std.proofs.Common.{◌≡◌, ℕ, ◌<◌, ◌≤◌, Bool, true, false, ◌&&◌, cond, List, [], ◌∷◌, length, Option, Some, None, nat_le, All, refl, sym, ap, subst, ◌∙◌, arith}
use Rattle.std.specs.List.{list_all}
use Rattle.std.proofs.lemmas.Bool.Decides.{nat_tests}
use Rattle.std.proofs.lemmas.List.Elements.{All-nil, All-cons, All-head, All-tail}
use Rattle.gimple_ir.specs.Names.{IsName, IsPrintable}
use Rattle.text_lines.specs.Words.{is_printable, is_name, name_of}

printable_is : (byte : ℕ) → IsPrintable byte → is_printable byte ≡ true
printable_is byte h = grind (arith, nat_tests)

is_IsPrintable : (byte : ℕ) → is_printable byte ≡ true → IsPrintable byte
is_IsPrintable byte h = grind (arith, nat_tests)

all_printable : (word : List ℕ) → All IsPrintable word → list_all is_printable word ≡ true
all_printable [] h = refl
all_printable (b ∷ bs) h = rw (printable_is b (All-head IsPrintable b bs h)) (all_printable bs (All-tail IsPrintable b bs h))

from_all_by : (t : Bool) (b : ℕ) (bs : List ℕ) → is_printable b ≡ t → (list_all is_printable bs ≡ true → All IsPrintable bs) → (t && list_all is_printable bs) ≡ true → All IsPrintable (b ∷ bs)
from_all_by true b bs is rest h = All-cons IsPrintable b bs (is_IsPrintable b is) (rest h)
from_all_by false b bs is rest h = absurd cc

from_all : (word : List ℕ) → list_all is_printable word ≡ true → All IsPrintable word
from_all [] h = All-nil IsPrintable
from_all (b ∷ bs) h = from_all_by (is_printable b) b bs refl (from_all bs) h

low_is : (n : ℕ) → 1 ≤ n → nat_le 1 n ≡ true
low_is n h = grind (arith, nat_tests)

high_is : (n : ℕ) → n ≤ 300 → nat_le n 300 ≡ true
high_is n h = grind (arith, nat_tests)

low_from : (n : ℕ) → nat_le 1 n ≡ true → 1 ≤ n
low_from n h = grind (arith, nat_tests)

high_from : (n : ℕ) → nat_le n 300 ≡ true → n ≤ 300
high_from n h = grind (arith, nat_tests)

IsName-is_name : (word : List ℕ) → IsName word → is_name word ≡ true
IsName-is_name word h = rw (low_is (length word) h.some, high_is (length word) h.bounded) (all_printable word h.printable)

three : (a b c : Bool) → (a && b && c) ≡ true → (a ≡ true) × (b ≡ true) × (c ≡ true)
three true true c h = (refl, refl, h)
three true false c h = absurd cc
three false b c h = absurd cc

pub is_name-IsName : (word : List ℕ) → is_name word ≡ true → IsName word
is_name-IsName word h =
    let all = three (nat_le 1 (length word)) (nat_le (length word) 300) (list_all is_printable word) h in
    record { some = low_from (length word) all.0; bounded = high_from (length word) all.1; printable = from_all word all.2 }

pub name_of-name : (word : List ℕ) → IsName word → name_of word ≡ Some word
name_of-name word h = rw (IsName-is_name word h) refl

none_by : (t : Bool) (word : List ℕ) → (t ≡ true → ⊥) → cond {A = Option (List ℕ)} t (Some word) None ≡ None
none_by true word h = absurd (h refl)
none_by false word h = refl

pub name_of-none : (word : List ℕ) → (IsName word → ⊥) → name_of word ≡ None
name_of-none word h = none_by (is_name word) word (λ e. h (is_name-IsName word e))
