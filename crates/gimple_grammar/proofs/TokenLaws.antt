-- The laws of the grammars of one token with a value, of literals, and of one of two signs.
use Rattle.std.proofs.Common.{◌≡◌, ℕ, Bool, true, false, List, [], ◌∷◌, Some, None, refl, sym, ap, ◌∙◌}
use Rattle.std.specs.Prelude.{if◌then◌else◌, nat_lt, ◌^◌}
use Rattle.gimple_ir.specs.declared.types.BinaryOp.{BinaryOp}
use Rattle.gimple_ir.specs.declared.types.BinaryOp.TheVariants as ops
use Rattle.gimple_ir.specs.declared.types.ElementType.{ElementType}
use Rattle.gimple_ir.specs.declared.types.ElementType.TheVariants as elements
use Rattle.gimple_ir.specs.declared.types.ScalarType.TheVariants as scalars
use Rattle.gimple_tokens.specs.declared.token.Mark.{Mark}
use Rattle.gimple_tokens.specs.declared.token.Mark.TheVariants as marks
use Rattle.gimple_tokens.specs.declared.token.Suffix.{Suffix}
use Rattle.gimple_tokens.specs.declared.token.Suffix.TheVariants.{Plain}
use Rattle.gimple_tokens.specs.declared.numbers.NumberPlace.{NumberPlace}
use Rattle.gimple_tokens.specs.declared.numbers.NumberPlace.TheVariants as places
use Rattle.gimple_tokens.specs.Tokens.{Lexeme, Name, Number, Sign}
use Rattle.gimple_tokens.specs.Reading.{same}
use Rattle.gimple_tokens.specs.Numbers.{limit_of, number_in, number_fault, length_in, length_fault}
use Rattle.gimple_tokens.specs.Operators.{mark_of, operator_of, operator_in}
use Rattle.gimple_tokens.specs.Stops.{fault_at, name_in}
use Rattle.gimple_grammar.specs.Grammar.{◌▷◌, only, just}
use Rattle.gimple_grammar.specs.Pieces.{name, number_token, number, length_token, array_length, operator_token, operator, with_sign, if_same, number_of, literal, is_true, is_false, one_of}
use Rattle.gimple_grammar.specs.declared.syntax.Literal.{Literal}
use Rattle.gimple_grammar.proofs.Laws.{HasNever, IsPart}
use Rattle.gimple_grammar.proofs.Sound.{Sound, single-sound, just-sound, before-sound, only-sound, either-sound, begins_other}

pub some-is : {A : Type 0} (x y : A) → Some x ≡ Some y → x ≡ y
some-is x y e = cc

in-range : {A : Type 0} (b : Bool) (x y : A) → (if b then Some x else None) ≡ Some y → x ≡ y
in-range true x y e = cc
in-range false x y e = absurd cc

-- ---- one token

name-shows : (t : Lexeme) (w : List ℕ) → name_in t ≡ Some w → t ≡ Name w
name-shows (Name v) w e = ap Name cc
name-shows t w e = absurd cc

pub name-sound : Sound name
unfolding name
name-sound = single-sound name_in Name fault_at name-shows (λ a b e. sym cc) (97 ∷ []) refl

number-shows : (limit : Suffix → ℕ) (t : Lexeme) (x : ℕ × Suffix) → number_in limit t ≡ Some x → t ≡ number_token x
number-shows limit (Number (Some n) s) x e = ap number_token (in-range (nat_lt n (limit s)) (n, s) x e)
number-shows limit t x e = absurd cc

element-zero : (element : ElementType) (negative : Bool) → number_in (limit_of (places.Initial element) negative) (number_token (0, Plain)) ≡ Some (0, Plain)
element-zero (elements.Scalar scalars.Int) true = refl
element-zero (elements.Scalar scalars.Int) false = refl
element-zero (elements.Scalar scalars.UnsignedInt) true = refl
element-zero (elements.Scalar scalars.UnsignedInt) false = refl
element-zero (elements.Scalar scalars.LongInt) true = refl
element-zero (elements.Scalar scalars.LongInt) false = refl
element-zero (elements.Scalar scalars.LongUnsignedInt) true = refl
element-zero (elements.Scalar scalars.LongUnsignedInt) false = refl
element-zero elements.UnsignedChar true = refl
element-zero elements.UnsignedChar false = refl

pub zero-fits : (place : NumberPlace) (negative : Bool) → number_in (limit_of place negative) (number_token (0, Plain)) ≡ Some (0, Plain)
zero-fits places.Literal true = refl
zero-fits places.Literal false = refl
zero-fits (places.Initial element) negative = element-zero element negative

pub number-sound : (place : NumberPlace) (negative : Bool) → Sound (number place negative)
unfolding number
number-sound place negative =
    single-sound (number_in (limit_of place negative)) number_token (number_fault place) (number-shows (limit_of place negative))
    (λ a b e. sym (in-range (nat_lt a.0 (limit_of place negative a.1)) a b e)) (0, Plain) (zero-fits place negative)

length-shows : (t : Lexeme) (n : ℕ) → length_in t ≡ Some n → t ≡ length_token n
length-shows (Number (Some m) Plain) n e = ap length_token (in-range (nat_lt m (2 ^ 32)) m n e)
length-shows t n e = absurd cc

pub length-sound : Sound array_length
unfolding array_length
length-sound = single-sound length_in length_token length_fault length-shows (λ a b e. sym (in-range (nat_lt a (2 ^ 32)) a b e)) 0 refl

shown-as : (a b : BinaryOp) → Some a ≡ Some b → operator_token a ≡ operator_token b
shown-as a b e = ap operator_token (some-is a b e)

mark-shows : (m : Mark) (op : BinaryOp) → operator_of m ≡ Some op → Sign m ≡ operator_token op
mark-shows marks.Plus op e = shown-as ops.Add op e
mark-shows marks.Minus op e = shown-as ops.Sub op e
mark-shows marks.Asterisk op e = shown-as ops.Mul op e
mark-shows marks.Slash op e = shown-as ops.Div op e
mark-shows marks.Percent op e = shown-as ops.Rem op e
mark-shows marks.Ampersand op e = shown-as ops.And op e
mark-shows marks.VerticalBar op e = shown-as ops.Or op e
mark-shows marks.Caret op e = shown-as ops.Xor op e
mark-shows marks.ShiftLeft op e = shown-as ops.Shl op e
mark-shows marks.ShiftRight op e = shown-as ops.Shr op e
mark-shows marks.EqualsEquals op e = shown-as ops.Eq op e
mark-shows marks.NotEquals op e = shown-as ops.Ne op e
mark-shows marks.Less op e = shown-as ops.Lt op e
mark-shows marks.LessEquals op e = shown-as ops.Le op e
mark-shows marks.Greater op e = shown-as ops.Gt op e
mark-shows marks.GreaterEquals op e = shown-as ops.Ge op e
mark-shows m op e = absurd cc

operator-shows : (t : Lexeme) (op : BinaryOp) → operator_in t ≡ Some op → t ≡ operator_token op
operator-shows (Sign m) op e = mark-shows m op e
operator-shows t op e = absurd cc

operator-is : (op : BinaryOp) → operator_of (mark_of op) ≡ Some op
operator-is ops.Add = refl
operator-is ops.Sub = refl
operator-is ops.Mul = refl
operator-is ops.Div = refl
operator-is ops.Rem = refl
operator-is ops.And = refl
operator-is ops.Or = refl
operator-is ops.Xor = refl
operator-is ops.Shl = refl
operator-is ops.Shr = refl
operator-is ops.Eq = refl
operator-is ops.Ne = refl
operator-is ops.Lt = refl
operator-is ops.Le = refl
operator-is ops.Gt = refl
operator-is ops.Ge = refl

pub operator-sound : Sound operator
unfolding operator
operator-sound = single-sound operator_in operator_token fault_at operator-shows (λ a b e. sym (some-is a b (sym (operator-is a) ∙ e))) ops.Add refl

-- ---- literals

sign-part : (b : Bool) (l : Literal) (x : ℕ × Suffix) → l.negative ≡ b → (l.number, l.suffix) ≡ x → with_sign b x ≡ l
sign-part b l x e f = rw (← f, ← e) refl

pub same-back : {A : Type 0} (b : Bool) (x : A) → if_same b b x ≡ Some x
same-back true x = refl
same-back false x = refl

pub if-same-is : {A : Type 0} (a b : Bool) (x y : A) → if_same a b x ≡ Some y → (b ≡ a) × (x ≡ y)
if-same-is true true x y e = (refl, cc)
if-same-is false false x y e = (refl, cc)
if-same-is true false x y e = absurd cc
if-same-is false true x y e = absurd cc

pub literal-made : (b : Bool) (l : Literal) (x : ℕ × Suffix) → number_of b l ≡ Some x → with_sign b x ≡ l
literal-made b l x e = let i = if-same-is {A = ℕ × Suffix} b l.negative (l.number, l.suffix) x e in sign-part b l x i.0 i.1

literal-part : (b : Bool) → IsPart (with_sign b) (number_of b)
literal-part b = record { back = λ x. same-back {A = ℕ × Suffix} b x; made = literal-made b }

negative-values : (place : NumberPlace) (l : Literal) (x : ℕ × Suffix) → number_of true l ≡ Some x → HasNever ((only (number place false) (with_sign false) (number_of false)).spelling l)
negative-values place l x e = let i = if-same-is {A = ℕ × Suffix} true l.negative (l.number, l.suffix) x e in rw i.0 tt

number-first : (place : NumberPlace) → (number place false).first (Sign marks.Minus) ≡ false
unfolding number
number-first place = refl

pub literal-sound : (place : NumberPlace) → Sound (literal place)
unfolding literal
literal-sound place =
    either-sound (Sign marks.Minus ▷ number place true) (with_sign true) (number_of true) (only (number place false) (with_sign false) (number_of false)) (literal-part true)
    (begins_other (Sign marks.Minus) (only (number place false) (with_sign false) (number_of false)) (number-first place)) (negative-values place)
    (before-sound (Sign marks.Minus) (number place true) refl (number-sound place true))
    (only-sound (number place false) (with_sign false) (number_of false) (literal-part false) (number-sound place false))

-- ---- one of two signs

true-made : (b : Bool) (x : Unit {0}) → is_true b ≡ Some x → true ≡ b
true-made true x e = refl
true-made false x e = absurd cc

false-made : (b : Bool) (x : Unit {0}) → is_false b ≡ Some x → false ≡ b
false-made true x e = absurd cc
false-made false x e = refl

true-values : (t : Lexeme) (b : Bool) (x : Unit {0}) → is_true b ≡ Some x → HasNever ((only (just t) (λ y. false) is_false).spelling b)
true-values t true x e = tt
true-values t false x e = absurd cc

pub one_of-sound : (a b : Lexeme) → same a a ≡ true → same b b ≡ true → same b a ≡ false → Sound (one_of a b)
unfolding one_of
one_of-sound a b first second other =
    either-sound (just a) (λ x. true) is_true (only (just b) (λ x. false) is_false) (record { back = λ x. refl; made = true-made })
    (begins_other a (only (just b) (λ x. false) is_false) other) (true-values b)
    (just-sound a first)
    (only-sound (just b) (λ x. false) is_false (record { back = λ x. refl; made = false-made }) (just-sound b second))
