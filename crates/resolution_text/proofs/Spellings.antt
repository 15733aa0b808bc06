-- The words of a printed line are read back, and have no spaces or newlines.
use Rattle.std.proofs.Common.{◌≡◌, ℕ, ◌^◌, ◌<◌, ◌≤◌, Bool, true, false, ◌&&◌, cond, List, [], ◌∷◌, length, Option, Some, None, nat_lt, nat_le, decimal, All, refl, sym, ap, ◌∙◌, arith}
use Rattle.std.specs.List.{list_all}
use Rattle.std.specs.Fmt.{digits}
use Rattle.std.specs.Char.{digit_value}
use Rattle.std.specs.Str.Parse.{digits_value, AllDigits}
use Rattle.std.proofs.lemmas.Bool.Decides.{nat_tests}
use Rattle.std.proofs.lemmas.Fmt.{decimal_is_IsNumeral, decimal_injective}
use Rattle.std.proofs.lemmas.List.Elements.{All-nil, All-cons, All-weaker}
use Rattle.cursors.specs.Decimals.{decimal_value}
use Rattle.cursors.proofs.DecimalLaws.{decimal_value_is}
use Rattle.gimple_ir.specs.Names.{IsName, IsPrintable}
use Rattle.text_lines.specs.Words.{is_name}
use Rattle.text_lines.proofs.Names.{is_name-IsName}
use Rattle.text_lines.proofs.Spelled.{IsVisible}
use Rattle.resolution_text.specs.declared.resolution.Word.{Word}
use Rattle.resolution_text.specs.declared.resolution.Word.TheVariants.{Unknown, Undef, PrevailingDef, PrevailingDefIronly, PrevailingDefIronlyExp, PreemptedReg, PreemptedIr, ResolvedIr, ResolvedExec, ResolvedDyn}
use Rattle.resolution_text.specs.Fields.{is_hexadecimal, id_of, spelling, word_of}
use Rattle.resolution_text.proofs.Numbers.{length-digits, digits_of_id}

abbrev some : ℕ → Option ℕ
some n = Some n

pub decimal_value-decimal : (n : ℕ) → n < 2 ^ 64 → decimal_value (decimal n) ≡ Some n
decimal_value-decimal n lt = sym (decimal_value_is (Some n) (decimal n) (lt, refl) (λ m less e. ap some (decimal_injective n m lt less e)))

-- ---- ids

below : (m n : ℕ) → m < n → nat_lt m n ≡ true
below m n h = grind (arith, nat_tests)

at_most : (m n : ℕ) → m ≤ n → nat_le m n ≡ true
at_most m n h = grind (arith, nat_tests)

all_hexadecimal : (ds : List ℕ) → AllDigits 16 ds → list_all is_hexadecimal ds ≡ true
all_hexadecimal [] h = refl
all_hexadecimal (c ∷ cs) h = rw (below (digit_value c) 16 h.0) (all_hexadecimal cs h.1)

passes : {A : Type 0} (a b c : Bool) (x : A) → a ≡ true → b ≡ true → c ≡ true → cond {A = Option A} (a && b && c) (Some x) None ≡ Some x
passes a b c x p q r = cc

pub id_of-digits : (n : ℕ) → n < 2 ^ 64 → id_of (digits 16 false n) ≡ Some n
id_of-digits n lt =
    let ds = digits 16 false n in
    let numeral = digits_of_id n lt in
    passes (nat_le 1 (length ds)) (nat_le (length ds) 16) (list_all is_hexadecimal ds) (digits_value 16 ds) (at_most 1 (length ds) (let more = numeral.0.0 in omega arith)) (at_most (length ds) 16 (length-digits n lt)) (all_hexadecimal ds numeral.0.1)
    ∙ ap some numeral.1

-- ---- words

pub word_of-spelling : (word : Word) → word_of (spelling word) ≡ Some word
word_of-spelling Unknown = refl
word_of-spelling Undef = refl
word_of-spelling PrevailingDef = refl
word_of-spelling PrevailingDefIronly = refl
word_of-spelling PrevailingDefIronlyExp = refl
word_of-spelling PreemptedReg = refl
word_of-spelling PreemptedIr = refl
word_of-spelling ResolvedIr = refl
word_of-spelling ResolvedExec = refl
word_of-spelling ResolvedDyn = refl

is_name-spelling : (word : Word) → is_name (spelling word) ≡ true
is_name-spelling Unknown = refl
is_name-spelling Undef = refl
is_name-spelling PrevailingDef = refl
is_name-spelling PrevailingDefIronly = refl
is_name-spelling PrevailingDefIronlyExp = refl
is_name-spelling PreemptedReg = refl
is_name-spelling PreemptedIr = refl
is_name-spelling ResolvedIr = refl
is_name-spelling ResolvedExec = refl
is_name-spelling ResolvedDyn = refl

-- ---- nothing but visible bytes

visible_by : (t : Bool) (c : ℕ) → nat_lt c 48 ≡ t → digit_value c < 16 → IsVisible c
visible_by true c e h = let far = rw e at h in absurd (omega arith)
visible_by false c e h = grind (arith, nat_tests)

visible_digits : (radix : ℕ) (ds : List ℕ) → radix ≤ 16 → AllDigits radix ds → All IsVisible ds
visible_digits radix [] le h = All-nil IsVisible
visible_digits radix (c ∷ cs) le h = All-cons IsVisible c cs (visible_by (nat_lt c 48) c refl (let less = h.0 in omega arith)) (visible_digits radix cs le h.1)

pub visible-decimal : (n : ℕ) → n < 2 ^ 64 → All IsVisible (decimal n)
visible-decimal n lt = visible_digits 10 (decimal n) (omega arith) (decimal_is_IsNumeral n lt).0.1

pub visible-digits : (n : ℕ) → n < 2 ^ 64 → All IsVisible (digits 16 false n)
visible-digits n lt = visible_digits 16 (digits 16 false n) (omega arith) (digits_of_id n lt).0.1

pub visible-name : (name : List ℕ) → IsName name → All IsVisible name
visible-name name h = All-weaker IsPrintable IsVisible (λ b p. let low = p.0 in omega arith) name h.printable

pub visible-spelling : (word : Word) → All IsVisible (spelling word)
visible-spelling word = visible-name (spelling word) (is_name-IsName (spelling word) (is_name-spelling word))
