-- What a `Name` holds, as a test; and a name's end is among the first 301 bytes.
use Rattle.std.proofs.Common.{◌≡◌, ℕ, zero, suc, ◌≤◌, ◌<◌, Bool, true, false, cond, eqb, List, [], ◌∷◌, ◌++◌, length, take, drop, Option, Some, None, Result, Ok, Err, refl, sym, ap, subst, ◌∙◌, arith}
use Rattle.std.specs.Prelude.{◌&&◌, nat_le, option_map, option_and_then, IfOk, IfSome, MatchOption, All}
use Rattle.std.specs.Bool.{Decides}
use Rattle.std.specs.List.{list_all}
use Rattle.std.proofs.lemmas.Bool.Decides.{nat_tests, Decides-by_and}
use Rattle.gimple_ir.specs.Names.{IsPrintable, IsName}
use Rattle.elf_container.specs.Reading.{text, is_printable, is_name_of, named, name_at}

printable : (b : ℕ) → Decides (is_printable b) (IsPrintable b)
printable b = (λ e. grind (arith, nat_tests), λ h. grind (arith, nat_tests))

all_printable : (bytes : List ℕ) → Decides (list_all is_printable bytes) (All IsPrintable bytes)
all_printable bytes = Decides-by_and is_printable IsPrintable (list_all is_printable) printable refl (λ _ _. refl) bytes

three : (a b c : Bool) → ((a && b) && c) ≡ true → (a ≡ true) × (b ≡ true) × (c ≡ true)
three true true true e = (refl, refl, refl)
three true true false e = absurd cc
three true false c e = absurd cc
three false b c e = absurd cc

at_least : (a b : ℕ) → nat_le a b ≡ true → a ≤ b
at_least a b e = grind (arith, nat_tests)

is_at_least : (a b : ℕ) → a ≤ b → nat_le a b ≡ true
is_at_least a b h = grind (arith, nat_tests)

pub is_name : (bytes : List ℕ) → is_name_of bytes ≡ true → IsName bytes
is_name bytes e =
    let parts = three (nat_le 1 (length bytes)) (nat_le (length bytes) 300) (list_all is_printable bytes) e in
    record { some = at_least 1 (length bytes) parts.0; bounded = at_least (length bytes) 300 parts.1; printable = (all_printable bytes).0 parts.2 }

pub name_is : (bytes : List ℕ) → IsName bytes → is_name_of bytes ≡ true
name_is bytes h = rw (is_at_least 1 (length bytes) h.some, is_at_least (length bytes) 300 h.bounded, (all_printable bytes).1 h.printable) refl

pub named_is : (bytes : List ℕ) → IsName bytes → named bytes ≡ Some bytes
named_is bytes h = rw (name_is bytes h) refl

not_true : (b : Bool) → (b ≡ true → ⊥) → b ≡ false
not_true true no_more = absurd (no_more refl)
not_true false no_more = refl

not_named : (bytes : List ℕ) → (IsName bytes → ⊥) → named bytes ≡ None
not_named bytes h = rw (not_true (is_name_of bytes) (λ e. h (is_name bytes e))) refl

-- what reading a `Name` gives
pub named_by : {E : Type 0} (r : Result (Option (List ℕ)) E) (bytes : List ℕ) → IfOk r (λ found. MatchOption found (IsName bytes → ⊥) (λ name. (name ≡ bytes) × IsName name)) → IfOk r (λ found. found ≡ named bytes)
named_by (Err e) bytes h = tt
named_by (Ok None) bytes h = sym (not_named bytes h)
named_by (Ok (Some name)) bytes h = ap (λ t. Some t) h.0 ∙ sym (named_is bytes (subst IsName h.0 h.1))

-- ---- the window

fused : (f : List ℕ → Option (List ℕ)) (b : ℕ) (o : Option (List ℕ)) → option_and_then f (option_map (λ t. b ∷ t) o) ≡ option_and_then (λ t. f (b ∷ t)) o
fused f b None = refl
fused f b (Some t) = refl

step : (c : Bool) (f : List ℕ → Option (List ℕ)) (b : ℕ) (x y : Option (List ℕ)) → option_and_then (λ t. f (b ∷ t)) x ≡ option_and_then (λ t. f (b ∷ t)) y
    → option_and_then f (cond c (Some []) (option_map (λ t. b ∷ t) x)) ≡ option_and_then f (cond c (Some []) (option_map (λ t. b ∷ t) y))
step true f b x y e = refl
step false f b x y e = fused f b x ∙ e ∙ sym (fused f b y)

all_long : (f : List ℕ → Option (List ℕ)) (b : ℕ) → ((t : List ℕ) → 0 < length t → f t ≡ None) → (o : Option (List ℕ)) → None ≡ option_and_then (λ t. f (b ∷ t)) o
all_long f b long None = refl
all_long f b long (Some t) = sym (long (b ∷ t) (omega arith))

text_within : (k : ℕ) (f : List ℕ → Option (List ℕ)) → ((t : List ℕ) → k < length t → f t ≡ None) → (xs : List ℕ) → option_and_then f (text (take (suc k) xs)) ≡ option_and_then f (text xs)
text_within k f long [] = refl
text_within zero f long (b ∷ bs) = step (eqb b 0) f b None (text bs) (all_long f b long (text bs))
text_within (suc k) f long (b ∷ bs) =
    step (eqb b 0) f b (text (take (suc k) bs)) (text bs) (text_within k (λ t. f (b ∷ t)) (λ t h. long (b ∷ t) (omega arith)) bs)

name_short : (t : List ℕ) → 300 < length t → named t ≡ None
name_short t h = not_named t (λ name. omega (arith, name.bounded))

pub name_window : (at : ℕ) (names : List ℕ) → option_and_then named (text (take 301 (drop at names))) ≡ name_at at names
unfolding name_at
name_window at names = text_within 300 named name_short (drop at names)

-- ---- a name is read where it stands

option_of : {A B : Type 0} (f : A → B) (o : Option A) (x : A) → o ≡ Some x → option_map f o ≡ Some (f x)
option_of f o x e = ap (option_map f) e

not_zero : (b : ℕ) → 0x21 ≤ b → eqb b 0 ≡ false
not_zero b h = grind (arith, nat_tests)

two : (a b : Bool) → (a && b) ≡ true → (a ≡ true) × (b ≡ true)
two true true e = (refl, refl)
two true false e = absurd cc
two false b e = absurd cc

text_of : (name rest : List ℕ) → list_all is_printable name ≡ true → text (name ++ 0 ∷ rest) ≡ Some name
text_of [] rest e = refl
text_of (b ∷ name) rest e =
    let both : (is_printable b ≡ true) × (list_all is_printable name ≡ true) = two (is_printable b) (list_all is_printable name) e in
    rw (not_zero b ((printable b).0 both.0).0) (option_of (λ t. b ∷ t) (text (name ++ 0 ∷ rest)) name (text_of name rest both.1))

pub name_there : (at : ℕ) (names name rest : List ℕ) → IsName name → drop at names ≡ name ++ 0 ∷ rest → name_at at names ≡ Some name
unfolding name_at
name_there at names name rest h e = rw (e, text_of name rest ((all_printable name).1 h.printable)) (named_is name h)

abbrev some : List ℕ → Option (List ℕ)
some x = Some x

same : (x y : List ℕ) → some x ≡ some y → x ≡ y
same x y e = cc

is_read_by : (b : Bool) (t name : List ℕ) → is_name_of t ≡ b → cond b (some t) None ≡ Some name → IsName name
is_read_by true t name e f = subst IsName (same t name f) (is_name t e)
is_read_by false t name e f = absurd cc

read_from : (o : Option (List ℕ)) (name : List ℕ) → option_and_then named o ≡ Some name → IsName name
read_from None name e = absurd cc
read_from (Some t) name e = is_read_by (is_name_of t) t name refl e

names_by : (found o : Option (List ℕ)) → found ≡ option_and_then named o → IfSome found IsName
names_by None o e = tt
names_by (Some name) o e = read_from o name (sym e)

-- a name that was read is one
pub names_read : {E : Type 0} (r : Result (Option (List ℕ)) E) (window : List ℕ) → IfOk r (λ found. found ≡ option_and_then named (text window)) → IfOk r (λ found. IfSome found IsName)
names_read (Err e) window h = tt
names_read (Ok found) window h = names_by found (text window) h
