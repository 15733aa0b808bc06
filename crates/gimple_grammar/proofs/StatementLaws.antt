-- The laws of the grammars of statements, one for each form.
use Rattle.std.proofs.Common.{◌≡◌, ℕ, Bool, true, false, List, Option, Some, None, refl, sym, ap}
use Rattle.gimple_ir.specs.declared.types.BinaryOp.{BinaryOp}
use Rattle.gimple_ir.specs.declared.types.ScalarType.{ScalarType}
use Rattle.gimple_tokens.specs.declared.token.Keyword.TheVariants as word
use Rattle.gimple_tokens.specs.declared.token.Mark.TheVariants.{Semicolon, Colon, Comma, Dot, Minus, Tilde, Equals, Less, Greater, OpenRound, CloseRound, OpenSquare, CloseSquare, CloseCurly}
use Rattle.gimple_tokens.specs.declared.token.Suffix.{Suffix}
use Rattle.gimple_tokens.specs.declared.numbers.NumberPlace.TheVariants as places
use Rattle.gimple_tokens.specs.Tokens.{Lexeme, Name, Word, Sign}
use Rattle.gimple_grammar.specs.Grammar.{Grammar, just, ◌▷◌, ◌◁◌, ◌then◌, only, choice, either, located}
use Rattle.gimple_grammar.specs.Pieces.{name, number, operator, with_sign, literal, place, place_of, operand, arguments, scalar}
use Rattle.gimple_grammar.specs.Statements.{end_of, operation_made, operation_of, after, value_of, negate_place, negate_place_of, negate_number, signed_operand, negate_number_of, number_made, with_after, number_parts, negative, is_negative_literal, is_negative, load_of, name_call_of, field_value, field_value_of, plain_value, plain_value_of, name_tail, named_by, named_right, named_operand, named_parts, complement_of, convert_made, convert_of, right, label_of, call_of, store_made, store_of, assign_field, assign_field_of, assign_of, tail, branches, condition_made, condition_parts, condition, case_made, case_parts, case_label, cases, selection_made, selection_parts, selection, nothing, nothing_of, something, something_of, returned, empty_of, goto_of, if_of, switch_of, return_of, named, named_of, form, line_made, line_parts, statement, statements}
use Rattle.gimple_grammar.specs.declared.syntax.Literal.{Literal}
use Rattle.gimple_grammar.specs.declared.syntax.Place.{Place}
use Rattle.gimple_grammar.specs.declared.syntax.Operand.{Operand}
use Rattle.gimple_grammar.specs.declared.syntax.Operand.TheVariants as operands
use Rattle.gimple_grammar.specs.declared.syntax.Right.{Right}
use Rattle.gimple_grammar.specs.declared.syntax.Right.TheVariants as rights
use Rattle.gimple_grammar.specs.declared.syntax.Tail.{Tail}
use Rattle.gimple_grammar.specs.declared.syntax.Tail.TheVariants as tails
use Rattle.gimple_grammar.specs.declared.syntax.Condition.{Condition}
use Rattle.gimple_grammar.specs.declared.syntax.CaseLabel.{CaseLabel}
use Rattle.gimple_grammar.specs.declared.syntax.Choice.{Choice}
use Rattle.gimple_grammar.specs.declared.syntax.Form.{Form}
use Rattle.gimple_grammar.specs.declared.syntax.Form.TheVariants as forms
use Rattle.gimple_grammar.specs.declared.syntax.Line.{Line}
use Rattle.gimple_grammar.specs.declared.parts.After.{After}
use Rattle.gimple_grammar.specs.declared.parts.After.TheVariants as afters
use Rattle.gimple_grammar.specs.declared.parts.NameTail.{NameTail}
use Rattle.gimple_grammar.specs.declared.parts.NameTail.TheVariants as names
use Rattle.gimple_grammar.proofs.Laws.{HasNever}
use Rattle.gimple_grammar.proofs.Sound.{Sound, just-sound, before-sound, after-sound, then-sound, only-sound, choice-sound, either-sound, begins_other, located-sound, until-sound}
use Rattle.gimple_grammar.proofs.TokenLaws.{some-is, name-sound, number-sound, operator-sound, literal-sound, same-back, literal-made}
use Rattle.gimple_grammar.proofs.Operands.{place_ended-sound, operand_ended-sound, operand-sound}
use Rattle.gimple_grammar.proofs.PieceLaws.{arguments-sound, scalar-sound}

-- ---- after the first operand

end-made : (t : After) (x : Unit {0}) → end_of t ≡ Some x → afters.End ≡ t
end-made afters.End x e = refl
end-made (afters.Binary op b) x e = absurd cc

operation-made : (t : After) (x : BinaryOp × Operand) → operation_of t ≡ Some x → operation_made x ≡ t
operation-made afters.End x e = absurd cc
operation-made (afters.Binary op b) x e = sym (ap operation_made (some-is {A = BinaryOp × Operand} (op, b) x e))

end-values : (t : After) (x : Unit {0}) → end_of t ≡ Some x → HasNever ((only (operator then operand ◁ Sign Semicolon) operation_made operation_of).spelling t)
end-values afters.End x e = tt
end-values (afters.Binary op b) x e = absurd cc

operator-first : (only (operator then operand ◁ Sign Semicolon) operation_made operation_of).first (Sign Semicolon) ≡ false
unfolding operator
operator-first = refl

pub after_operand-sound : Sound after
unfolding after
after_operand-sound =
    either-sound (just (Sign Semicolon)) (λ x. afters.End) end_of (only (operator then operand ◁ Sign Semicolon) operation_made operation_of) (record { back = λ x. refl; made = end-made })
    (begins_other (Sign Semicolon) (only (operator then operand ◁ Sign Semicolon) operation_made operation_of) operator-first) end-values
    (just-sound (Sign Semicolon) refl)
    (only-sound (operator then operand ◁ Sign Semicolon) operation_made operation_of (record { back = λ x. refl; made = operation-made }) (then-sound operator (operand ◁ Sign Semicolon) operator-sound (operand_ended-sound (Sign Semicolon) refl refl)))

-- ---- a number first

signed-made : (b : Bool) (a : Operand) (x : ℕ × Suffix) → signed_operand b a ≡ Some x → operands.Literal (with_sign b x) ≡ a
signed-made b (operands.Place p) x e = absurd cc
signed-made b (operands.Literal l) x e = ap operands.Literal (literal-made b l x e)

with-after-is : (o : Option (ℕ × Suffix)) (t : After) (x : (ℕ × Suffix) × After) → with_after o t ≡ Some x → (o ≡ Some x.0) × (t ≡ x.1)
with-after-is None t x e = absurd cc
with-after-is (Some y) t x e =
    let is = some-is {A = (ℕ × Suffix) × After} (y, t) x e in
    (ap (λ (z : (ℕ × Suffix) × After). Some z.0) is, ap (λ (z : (ℕ × Suffix) × After). z.1) is)

number-back : (b : Bool) (n : ℕ × Suffix) (t : After) → number_parts b (value_of (operands.Literal (with_sign b n)) t) ≡ Some (n, t)
number-back b n afters.End = ap (λ (o : Option (ℕ × Suffix)). with_after o afters.End) (same-back {A = ℕ × Suffix} b n)
number-back b n (afters.Binary op c) = ap (λ (o : Option (ℕ × Suffix)). with_after o (afters.Binary op c)) (same-back {A = ℕ × Suffix} b n)

value-is : (b : Bool) (a : Operand) (t : After) (x : (ℕ × Suffix) × After) → with_after (signed_operand b a) t ≡ Some x → number_made b x ≡ value_of a t
value-is b a t x e = let w = with-after-is (signed_operand b a) t x e in rw (signed-made b a x.0 w.0, ← w.1) refl

number-made : (b : Bool) (r : Right) (x : (ℕ × Suffix) × After) → number_parts b r ≡ Some x → number_made b x ≡ r
number-made b (rights.Value a) x e = value-is b a afters.End x e
number-made b (rights.Binary c) x e = value-is b c.left (afters.Binary c.op c.right) x e
number-made b r x e = absurd cc

number_then-sound : (b : Bool) → Sound (only (number places.Literal b then after) (number_made b) (number_parts b))
number_then-sound b =
    only-sound (number places.Literal b then after) (number_made b) (number_parts b) (record { back = λ x. number-back b x.0 x.1; made = number-made b })
    (then-sound (number places.Literal b) after (number-sound places.Literal b) after_operand-sound)

-- ---- after "-"

place-is : (a : Operand) (p : Place) → place_of a ≡ Some p → operands.Place p ≡ a
place-is (operands.Place q) p e = ap operands.Place (sym (some-is q p e))
place-is (operands.Literal l) p e = absurd cc

negate-place-made : (r : Right) (p : Place) → negate_place_of r ≡ Some p → negate_place p ≡ r
negate-place-made (rights.Negate a) p e = ap rights.Negate (place-is a p e)
negate-place-made r p e = absurd cc

negate-number-made : (r : Right) (x : ℕ × Suffix) → negate_number_of r ≡ Some x → negate_number x ≡ r
negate-number-made (rights.Negate a) x e = ap rights.Negate (signed-made true a x e)
negate-number-made r x e = absurd cc

abbrev negative_number : Grammar Right
negative_number = only (number places.Literal true then after) (number_made true) (number_parts true)

abbrev negative_more : Grammar Right
negative_more = either (Sign Minus ▷ number places.Literal true ◁ Sign Semicolon) negate_number negate_number_of negative_number

negate-number-values : (r : Right) (x : ℕ × Suffix) → negate_number_of r ≡ Some x → HasNever (negative_number.spelling r)
negate-number-values (rights.Negate a) x e = tt
negate-number-values r x e = absurd cc

negate-place-operand : (a : Operand) (p : Place) → place_of a ≡ Some p → HasNever (negative_more.spelling (rights.Negate a))
negate-place-operand (operands.Place q) p e = tt
negate-place-operand (operands.Literal l) p e = absurd cc

negate-place-values : (r : Right) (p : Place) → negate_place_of r ≡ Some p → HasNever (negative_more.spelling r)
negate-place-values (rights.Negate a) p e = negate-place-operand a p e
negate-place-values r p e = absurd cc

negative-number-first : negative_number.first (Sign Minus) ≡ false
unfolding number
negative-number-first = refl

place-first : (t : Lexeme) → (place ◁ Sign Semicolon).first t ≡ true → negative_more.first t ≡ false
unfolding place name number
place-first (Name w) e = refl
place-first t e = absurd cc

pub negative-sound : Sound negative
unfolding negative
negative-sound =
    either-sound (place ◁ Sign Semicolon) negate_place negate_place_of negative_more (record { back = λ x. refl; made = negate-place-made }) place-first negate-place-values
    (place_ended-sound (Sign Semicolon) refl refl)
    (either-sound (Sign Minus ▷ number places.Literal true ◁ Sign Semicolon) negate_number negate_number_of negative_number (record { back = λ x. refl; made = negate-number-made })
    (begins_other (Sign Minus) negative_number negative-number-first) negate-number-values
    (before-sound (Sign Minus) (number places.Literal true ◁ Sign Semicolon) refl (after-sound (number places.Literal true) (Sign Semicolon) refl (number-sound places.Literal true)))
    (number_then-sound true))

-- ---- after a name

load-made : (t : NameTail) (a : Operand) → load_of t ≡ Some a → names.Load a ≡ t
load-made (names.Load b) a e = ap names.Load (sym (some-is b a e))
load-made t a e = absurd cc

name-call-made : (t : NameTail) (x : List Operand) → name_call_of t ≡ Some x → names.Call x ≡ t
name-call-made (names.Call args) x e = ap names.Call (sym (some-is args x e))
name-call-made t x e = absurd cc

field-value-made : (t : NameTail) (x : List ℕ × After) → field_value_of t ≡ Some x → field_value x ≡ t
field-value-made (names.Value (Some f) after) x e = sym (ap field_value (some-is {A = List ℕ × After} (f, after) x e))
field-value-made t x e = absurd cc

plain-value-made : (t : NameTail) (x : After) → plain_value_of t ≡ Some x → plain_value x ≡ t
plain-value-made (names.Value None after) x e = ap plain_value (sym (some-is after x e))
plain-value-made t x e = absurd cc

abbrev plain_tail : Grammar NameTail
plain_tail = only after plain_value plain_value_of

abbrev value_tail : Grammar NameTail
value_tail = either (Sign Dot ▷ (name then after)) field_value field_value_of plain_tail

abbrev call_tail : Grammar NameTail
call_tail = either (Sign OpenRound ▷ arguments ◁ Sign Semicolon) names.Call name_call_of value_tail

field-value-values : (t : NameTail) (x : List ℕ × After) → field_value_of t ≡ Some x → HasNever (plain_tail.spelling t)
field-value-values (names.Value (Some f) after) x e = tt
field-value-values t x e = absurd cc

name-call-values : (t : NameTail) (x : List Operand) → name_call_of t ≡ Some x → HasNever (value_tail.spelling t)
name-call-values (names.Call args) x e = tt
name-call-values t x e = absurd cc

load-values : (t : NameTail) (a : Operand) → load_of t ≡ Some a → HasNever (call_tail.spelling t)
load-values (names.Load b) a e = tt
load-values t a e = absurd cc

plain-tail-first : plain_tail.first (Sign Dot) ≡ false
unfolding after operator
plain-tail-first = refl

value-tail-first : value_tail.first (Sign OpenRound) ≡ false
unfolding after operator
value-tail-first = refl

call-tail-first : call_tail.first (Sign OpenSquare) ≡ false
unfolding after operator
call-tail-first = refl

pub name_tail-sound : Sound name_tail
unfolding name_tail
name_tail-sound =
    either-sound (Sign OpenSquare ▷ operand ◁ Sign CloseSquare ◁ Sign Semicolon) names.Load load_of call_tail (record { back = λ x. refl; made = load-made })
    (begins_other (Sign OpenSquare) call_tail call-tail-first) load-values
    (before-sound (Sign OpenSquare) (operand ◁ Sign CloseSquare ◁ Sign Semicolon) refl (after-sound (operand ◁ Sign CloseSquare) (Sign Semicolon) refl (operand_ended-sound (Sign CloseSquare) refl refl)))
    (either-sound (Sign OpenRound ▷ arguments ◁ Sign Semicolon) names.Call name_call_of value_tail (record { back = λ x. refl; made = name-call-made })
    (begins_other (Sign OpenRound) value_tail value-tail-first) name-call-values
    (before-sound (Sign OpenRound) (arguments ◁ Sign Semicolon) refl (after-sound arguments (Sign Semicolon) refl arguments-sound))
    (either-sound (Sign Dot ▷ (name then after)) field_value field_value_of plain_tail (record { back = λ x. refl; made = field-value-made })
    (begins_other (Sign Dot) plain_tail plain-tail-first) field-value-values
    (before-sound (Sign Dot) (name then after) refl (then-sound name after name-sound after_operand-sound))
    (only-sound after plain_value plain_value_of (record { back = λ x. refl; made = plain-value-made }) after_operand-sound)))

-- ---- the right side

complement-made : (r : Right) (a : Operand) → complement_of r ≡ Some a → rights.Complement a ≡ r
complement-made (rights.Complement b) a e = ap rights.Complement (sym (some-is b a e))
complement-made r a e = absurd cc

convert-made : (r : Right) (x : ScalarType × Operand) → convert_of r ≡ Some x → convert_made x ≡ r
convert-made (rights.Convert t a) x e = sym (ap convert_made (some-is {A = ScalarType × Operand} (t, a) x e))
convert-made r x e = absurd cc

named-back : (n : List ℕ) (t : NameTail) → named_parts (named_by n t) ≡ Some (n, t)
named-back n (names.Load a) = refl
named-back n (names.Call args) = refl
named-back n (names.Value f afters.End) = refl
named-back n (names.Value f (afters.Binary op b)) = refl

named-value : (a : Operand) (t : After) (x : List ℕ × NameTail) → named_operand a t ≡ Some x → named_right x ≡ value_of a t
named-value (operands.Place p) t x e = sym (ap named_right (some-is {A = List ℕ × NameTail} (p.name, names.Value p.field t) x e))
named-value (operands.Literal l) t x e = absurd cc

named-right-made : (r : Right) (x : List ℕ × NameTail) → named_parts r ≡ Some x → named_right x ≡ r
named-right-made (rights.Value a) x e = named-value a afters.End x e
named-right-made (rights.Binary b) x e = named-value b.left (afters.Binary b.op b.right) x e
named-right-made (rights.Load n a) x e = sym (ap named_right (some-is {A = List ℕ × NameTail} (n, names.Load a) x e))
named-right-made (rights.Call n args) x e = sym (ap named_right (some-is {A = List ℕ × NameTail} (n, names.Call args) x e))
named-right-made r x e = absurd cc

abbrev right_number : Grammar Right
right_number = only (number places.Literal false then after) (number_made false) (number_parts false)

abbrev right_name : Grammar Right
right_name = either (name then name_tail) named_right named_parts right_number

abbrev right_minus : Grammar Right
right_minus = choice (Sign Minus ▷ negative) is_negative right_name

abbrev right_convert : Grammar Right
right_convert = either (Sign OpenRound ▷ scalar ◁ Sign CloseRound then operand ◁ Sign Semicolon) convert_made convert_of right_minus

named-operand-values : (a : Operand) (t : After) (x : List ℕ × NameTail) → named_operand a t ≡ Some x → HasNever (right_number.spelling (value_of a t))
named-operand-values (operands.Place p) afters.End x e = tt
named-operand-values (operands.Place p) (afters.Binary op b) x e = tt
named-operand-values (operands.Literal l) t x e = absurd cc

named-right-values : (r : Right) (x : List ℕ × NameTail) → named_parts r ≡ Some x → HasNever (right_number.spelling r)
named-right-values (rights.Value a) x e = named-operand-values a afters.End x e
named-right-values (rights.Binary b) x e = named-operand-values b.left (afters.Binary b.op b.right) x e
named-right-values (rights.Load n a) x e = tt
named-right-values (rights.Call n args) x e = tt
named-right-values r x e = absurd cc

-- what does not begin with "-" is not spelled after one
positive-value : (a : Operand) (t : After) → is_negative_literal a ≡ false → HasNever ((Sign Minus ▷ negative).spelling (value_of a t))
unfolding negative
positive-value (operands.Place p) afters.End e = tt
positive-value (operands.Place p) (afters.Binary op b) e = tt
positive-value (operands.Literal l) afters.End e = rw e tt
positive-value (operands.Literal l) (afters.Binary op b) e = rw e tt

positive-values : (r : Right) → is_negative r ≡ false → HasNever ((Sign Minus ▷ negative).spelling r)
unfolding negative
positive-values (rights.Value a) e = positive-value a afters.End e
positive-values (rights.Binary b) e = positive-value b.left (afters.Binary b.op b.right) e
positive-values (rights.Negate a) e = absurd cc
positive-values (rights.Complement a) e = tt
positive-values (rights.Convert t a) e = tt
positive-values (rights.Load n a) e = tt
positive-values (rights.Call n args) e = tt

-- what begins with "-" does not begin with a name or a number
negative-value : (a : Operand) (t : After) → is_negative_literal a ≡ true → HasNever (right_name.spelling (value_of a t))
negative-value (operands.Place p) t e = absurd cc
negative-value (operands.Literal l) afters.End e = rw e tt
negative-value (operands.Literal l) (afters.Binary op b) e = rw e tt

negative-values : (r : Right) → is_negative r ≡ true → HasNever (right_name.spelling r)
negative-values (rights.Value a) e = negative-value a afters.End e
negative-values (rights.Binary b) e = negative-value b.left (afters.Binary b.op b.right) e
negative-values (rights.Negate a) e = tt
negative-values r e = absurd cc

convert-values : (r : Right) (x : ScalarType × Operand) → convert_of r ≡ Some x → HasNever (right_minus.spelling r)
convert-values (rights.Convert t a) x e = tt
convert-values r x e = absurd cc

complement-values : (r : Right) (a : Operand) → complement_of r ≡ Some a → HasNever (right_convert.spelling r)
complement-values (rights.Complement b) a e = tt
complement-values r a e = absurd cc

name-first : (t : Lexeme) → (name then name_tail).first t ≡ true → right_number.first t ≡ false
unfolding name number
name-first (Name w) e = refl
name-first t e = absurd cc

right-name-first : right_name.first (Sign Minus) ≡ false
unfolding name number
right-name-first = refl

right-minus-first : right_minus.first (Sign OpenRound) ≡ false
unfolding name number
right-minus-first = refl

right-convert-first : right_convert.first (Sign Tilde) ≡ false
unfolding name number
right-convert-first = refl

pub right-sound : Sound right
unfolding right
right-sound =
    either-sound (Sign Tilde ▷ operand ◁ Sign Semicolon) rights.Complement complement_of right_convert (record { back = λ x. refl; made = complement-made })
    (begins_other (Sign Tilde) right_convert right-convert-first) complement-values
    (before-sound (Sign Tilde) (operand ◁ Sign Semicolon) refl (operand_ended-sound (Sign Semicolon) refl refl))
    (either-sound (Sign OpenRound ▷ scalar ◁ Sign CloseRound then operand ◁ Sign Semicolon) convert_made convert_of right_minus (record { back = λ x. refl; made = convert-made })
    (begins_other (Sign OpenRound) right_minus right-minus-first) convert-values
    (then-sound (Sign OpenRound ▷ scalar ◁ Sign CloseRound) (operand ◁ Sign Semicolon) (before-sound (Sign OpenRound) (scalar ◁ Sign CloseRound) refl (after-sound scalar (Sign CloseRound) refl scalar-sound)) (operand_ended-sound (Sign Semicolon) refl refl))
    (choice-sound (Sign Minus ▷ negative) is_negative right_name (record { first = begins_other (Sign Minus) right_name right-name-first; left = positive-values; right = negative-values })
    (before-sound (Sign Minus) negative refl negative-sound)
    (either-sound (name then name_tail) named_right named_parts right_number (record { back = λ x. named-back x.0 x.1; made = named-right-made }) name-first named-right-values
    (then-sound name name_tail name-sound name_tail-sound)
    (number_then-sound false))))

-- ---- after a name that begins a statement

label-made : (t : Tail) (x : Unit {0}) → label_of t ≡ Some x → tails.Label ≡ t
label-made tails.Label x e = refl
label-made t x e = absurd cc

call-made : (t : Tail) (x : List Operand) → call_of t ≡ Some x → tails.Call x ≡ t
call-made (tails.Call args) x e = ap tails.Call (sym (some-is args x e))
call-made t x e = absurd cc

store-made : (t : Tail) (x : Operand × Operand) → store_of t ≡ Some x → store_made x ≡ t
store-made (tails.Store a b) x e = sym (ap store_made (some-is {A = Operand × Operand} (a, b) x e))
store-made t x e = absurd cc

assign-field-made : (t : Tail) (x : List ℕ × Right) → assign_field_of t ≡ Some x → assign_field x ≡ t
assign-field-made (tails.AssignField f r) x e = sym (ap assign_field (some-is {A = List ℕ × Right} (f, r) x e))
assign-field-made t x e = absurd cc

assign-made : (t : Tail) (r : Right) → assign_of t ≡ Some r → tails.Assign r ≡ t
assign-made (tails.Assign s) r e = ap tails.Assign (sym (some-is s r e))
assign-made t r e = absurd cc

abbrev tail_assign : Grammar Tail
tail_assign = only (Sign Equals ▷ right) tails.Assign assign_of

abbrev tail_field : Grammar Tail
tail_field = either (Sign Dot ▷ name then Sign Equals ▷ right) assign_field assign_field_of tail_assign

abbrev tail_store : Grammar Tail
tail_store = either (Sign OpenSquare ▷ operand ◁ Sign CloseSquare then Sign Equals ▷ operand ◁ Sign Semicolon) store_made store_of tail_field

abbrev tail_call : Grammar Tail
tail_call = either (Sign OpenRound ▷ arguments ◁ Sign Semicolon) tails.Call call_of tail_store

assign-field-values : (t : Tail) (x : List ℕ × Right) → assign_field_of t ≡ Some x → HasNever (tail_assign.spelling t)
assign-field-values (tails.AssignField f r) x e = tt
assign-field-values t x e = absurd cc

store-values : (t : Tail) (x : Operand × Operand) → store_of t ≡ Some x → HasNever (tail_field.spelling t)
store-values (tails.Store a b) x e = tt
store-values t x e = absurd cc

call-values : (t : Tail) (x : List Operand) → call_of t ≡ Some x → HasNever (tail_store.spelling t)
call-values (tails.Call args) x e = tt
call-values t x e = absurd cc

label-values : (t : Tail) (x : Unit {0}) → label_of t ≡ Some x → HasNever (tail_call.spelling t)
label-values tails.Label x e = tt
label-values t x e = absurd cc

pub tail-sound : Sound tail
unfolding tail
tail-sound =
    either-sound (just (Sign Colon)) (λ x. tails.Label) label_of tail_call (record { back = λ x. refl; made = label-made })
    (begins_other (Sign Colon) tail_call refl) label-values
    (just-sound (Sign Colon) refl)
    (either-sound (Sign OpenRound ▷ arguments ◁ Sign Semicolon) tails.Call call_of tail_store (record { back = λ x. refl; made = call-made })
    (begins_other (Sign OpenRound) tail_store refl) call-values
    (before-sound (Sign OpenRound) (arguments ◁ Sign Semicolon) refl (after-sound arguments (Sign Semicolon) refl arguments-sound))
    (either-sound (Sign OpenSquare ▷ operand ◁ Sign CloseSquare then Sign Equals ▷ operand ◁ Sign Semicolon) store_made store_of tail_field (record { back = λ x. refl; made = store-made })
    (begins_other (Sign OpenSquare) tail_field refl) store-values
    (then-sound (Sign OpenSquare ▷ operand ◁ Sign CloseSquare) (Sign Equals ▷ operand ◁ Sign Semicolon)
    (before-sound (Sign OpenSquare) (operand ◁ Sign CloseSquare) refl (operand_ended-sound (Sign CloseSquare) refl refl))
    (before-sound (Sign Equals) (operand ◁ Sign Semicolon) refl (operand_ended-sound (Sign Semicolon) refl refl)))
    (either-sound (Sign Dot ▷ name then Sign Equals ▷ right) assign_field assign_field_of tail_assign (record { back = λ x. refl; made = assign-field-made })
    (begins_other (Sign Dot) tail_assign refl) assign-field-values
    (then-sound (Sign Dot ▷ name) (Sign Equals ▷ right) (before-sound (Sign Dot) name refl name-sound) (before-sound (Sign Equals) right refl right-sound))
    (only-sound (Sign Equals ▷ right) tails.Assign assign_of (record { back = λ x. refl; made = assign-made }) (before-sound (Sign Equals) right refl right-sound)))))

-- ---- after "if", "switch" and "return"

pub branches-sound : Sound branches
unfolding branches
branches-sound =
    then-sound (Word word.Goto ▷ name ◁ Sign Semicolon) (Word word.Else ▷ Word word.Goto ▷ name ◁ Sign Semicolon)
    (before-sound (Word word.Goto) (name ◁ Sign Semicolon) refl (after-sound name (Sign Semicolon) refl name-sound))
    (before-sound (Word word.Else) (Word word.Goto ▷ name ◁ Sign Semicolon) refl (before-sound (Word word.Goto) (name ◁ Sign Semicolon) refl (after-sound name (Sign Semicolon) refl name-sound)))

abbrev ConditionParts : Type 0
ConditionParts = Operand × (BinaryOp × (Operand × (List ℕ × List ℕ)))

condition-made : (c : Condition) (x : ConditionParts) → condition_parts c ≡ Some x → condition_made x ≡ c
condition-made c x e = sym (ap condition_made (some-is {A = ConditionParts} (c.left, (c.op, (c.right, (c.met, c.missed)))) x e))

condition-first : (operator then (operand ◁ Sign CloseRound then branches)).first (Sign Dot) ≡ false
unfolding operator
condition-first = refl

pub condition-sound : Sound condition
unfolding condition
condition-sound =
    only-sound (Sign OpenRound ▷ (operand then (operator then (operand ◁ Sign CloseRound then branches)))) condition_made condition_parts (record { back = λ x. refl; made = condition-made })
    (before-sound (Sign OpenRound) (operand then (operator then (operand ◁ Sign CloseRound then branches))) refl
    (operand-sound (operator then (operand ◁ Sign CloseRound then branches)) condition-first
    (then-sound operator (operand ◁ Sign CloseRound then branches) operator-sound
    (then-sound (operand ◁ Sign CloseRound) branches (operand_ended-sound (Sign CloseRound) refl refl) branches-sound))))

case-made : (c : CaseLabel) (x : Literal × List ℕ) → case_parts c ≡ Some x → case_made x ≡ c
case-made c x e = sym (ap case_made (some-is {A = Literal × List ℕ} (c.value, c.label) x e))

pub case_label-sound : Sound case_label
unfolding case_label
case_label-sound =
    only-sound (Sign Comma ▷ Word word.Case ▷ (literal places.Literal ◁ Sign Colon then name)) case_made case_parts (record { back = λ x. refl; made = case-made })
    (before-sound (Sign Comma) (Word word.Case ▷ (literal places.Literal ◁ Sign Colon then name)) refl
    (before-sound (Word word.Case) (literal places.Literal ◁ Sign Colon then name) refl
    (then-sound (literal places.Literal ◁ Sign Colon) name (after-sound (literal places.Literal) (Sign Colon) refl (literal-sound places.Literal)) name-sound)))

case-first : case_label.first (Sign Greater) ≡ false
unfolding case_label
case-first = refl

pub cases-sound : Sound cases
unfolding cases
cases-sound = until-sound (Sign Greater) case_label refl case-first case_label-sound

abbrev SelectionParts : Type 0
SelectionParts = Operand × (List ℕ × List CaseLabel)

selection-made : (c : Choice) (x : SelectionParts) → selection_parts c ≡ Some x → selection_made x ≡ c
selection-made c x e = sym (ap selection_made (some-is {A = SelectionParts} (c.on, (c.otherwise, c.cases)) x e))

abbrev labels : Grammar (List ℕ × List CaseLabel)
labels = name then cases ◁ Sign Semicolon

pub selection-sound : Sound selection
unfolding selection
selection-sound =
    only-sound (Sign OpenRound ▷ operand ◁ Sign CloseRound then Sign Less ▷ Word word.Default ▷ Sign Colon ▷ labels) selection_made selection_parts (record { back = λ x. refl; made = selection-made })
    (then-sound (Sign OpenRound ▷ operand ◁ Sign CloseRound) (Sign Less ▷ Word word.Default ▷ Sign Colon ▷ labels)
    (before-sound (Sign OpenRound) (operand ◁ Sign CloseRound) refl (operand_ended-sound (Sign CloseRound) refl refl))
    (before-sound (Sign Less) (Word word.Default ▷ Sign Colon ▷ labels) refl
    (before-sound (Word word.Default) (Sign Colon ▷ labels) refl
    (before-sound (Sign Colon) labels refl
    (then-sound name (cases ◁ Sign Semicolon) name-sound (after-sound cases (Sign Semicolon) refl cases-sound))))))

nothing-made : (o : Option Operand) (x : Unit {0}) → nothing_of o ≡ Some x → nothing x ≡ o
nothing-made None x e = refl
nothing-made (Some a) x e = absurd cc

something-made : (o : Option Operand) (a : Operand) → something_of o ≡ Some a → something a ≡ o
something-made o a e = sym e

nothing-values : (o : Option Operand) (x : Unit {0}) → nothing_of o ≡ Some x → HasNever ((only (operand ◁ Sign Semicolon) something something_of).spelling o)
nothing-values None x e = tt
nothing-values (Some a) x e = absurd cc

returned-first : (only (operand ◁ Sign Semicolon) something something_of).first (Sign Semicolon) ≡ false
unfolding operand place name literal number
returned-first = refl

pub returned-sound : Sound returned
unfolding returned
returned-sound =
    either-sound (just (Sign Semicolon)) nothing nothing_of (only (operand ◁ Sign Semicolon) something something_of) (record { back = λ x. refl; made = nothing-made })
    (begins_other (Sign Semicolon) (only (operand ◁ Sign Semicolon) something something_of) returned-first) nothing-values
    (just-sound (Sign Semicolon) refl)
    (only-sound (operand ◁ Sign Semicolon) something something_of (record { back = λ x. refl; made = something-made }) (operand_ended-sound (Sign Semicolon) refl refl))

-- ---- statements

empty-made : (f : Form) (x : Unit {0}) → empty_of f ≡ Some x → forms.Empty ≡ f
empty-made forms.Empty x e = refl
empty-made f x e = absurd cc

goto-made : (f : Form) (n : List ℕ) → goto_of f ≡ Some n → forms.Goto n ≡ f
goto-made (forms.Goto m) n e = ap forms.Goto (sym (some-is m n e))
goto-made f n e = absurd cc

if-made : (f : Form) (c : Condition) → if_of f ≡ Some c → forms.If c ≡ f
if-made (forms.If d) c e = ap forms.If (sym (some-is d c e))
if-made f c e = absurd cc

switch-made : (f : Form) (c : Choice) → switch_of f ≡ Some c → forms.Switch c ≡ f
switch-made (forms.Switch d) c e = ap forms.Switch (sym (some-is d c e))
switch-made f c e = absurd cc

return-made : (f : Form) (a : Option Operand) → return_of f ≡ Some a → forms.Return a ≡ f
return-made (forms.Return b) a e = ap forms.Return (sym (some-is b a e))
return-made f a e = absurd cc

named-made : (f : Form) (x : List ℕ × Tail) → named_of f ≡ Some x → named x ≡ f
named-made (forms.Named n t) x e = sym (ap named (some-is {A = List ℕ × Tail} (n, t) x e))
named-made f x e = absurd cc

abbrev form_named : Grammar Form
form_named = only (name then tail) named named_of

abbrev form_return : Grammar Form
form_return = either (Word word.Return ▷ returned) forms.Return return_of form_named

abbrev form_switch : Grammar Form
form_switch = either (Word word.Switch ▷ selection) forms.Switch switch_of form_return

abbrev form_if : Grammar Form
form_if = either (Word word.If ▷ condition) forms.If if_of form_switch

abbrev form_goto : Grammar Form
form_goto = either (Word word.Goto ▷ name ◁ Sign Semicolon) forms.Goto goto_of form_if

return-values : (f : Form) (a : Option Operand) → return_of f ≡ Some a → HasNever (form_named.spelling f)
return-values (forms.Return b) a e = tt
return-values f a e = absurd cc

switch-values : (f : Form) (c : Choice) → switch_of f ≡ Some c → HasNever (form_return.spelling f)
switch-values (forms.Switch d) c e = tt
switch-values f c e = absurd cc

if-values : (f : Form) (c : Condition) → if_of f ≡ Some c → HasNever (form_switch.spelling f)
if-values (forms.If d) c e = tt
if-values f c e = absurd cc

goto-values : (f : Form) (n : List ℕ) → goto_of f ≡ Some n → HasNever (form_if.spelling f)
goto-values (forms.Goto m) n e = tt
goto-values f n e = absurd cc

empty-values : (f : Form) (x : Unit {0}) → empty_of f ≡ Some x → HasNever (form_goto.spelling f)
empty-values forms.Empty x e = tt
empty-values f x e = absurd cc

return-first : form_named.first (Word word.Return) ≡ false
unfolding name
return-first = refl

switch-first : form_return.first (Word word.Switch) ≡ false
unfolding name
switch-first = refl

if-first : form_switch.first (Word word.If) ≡ false
unfolding name
if-first = refl

goto-first : form_if.first (Word word.Goto) ≡ false
unfolding name
goto-first = refl

empty-first : form_goto.first (Sign Semicolon) ≡ false
unfolding name
empty-first = refl

pub form-sound : Sound form
unfolding form
form-sound =
    either-sound (just (Sign Semicolon)) (λ x. forms.Empty) empty_of form_goto (record { back = λ x. refl; made = empty-made })
    (begins_other (Sign Semicolon) form_goto empty-first) empty-values
    (just-sound (Sign Semicolon) refl)
    (either-sound (Word word.Goto ▷ name ◁ Sign Semicolon) forms.Goto goto_of form_if (record { back = λ x. refl; made = goto-made })
    (begins_other (Word word.Goto) form_if goto-first) goto-values
    (before-sound (Word word.Goto) (name ◁ Sign Semicolon) refl (after-sound name (Sign Semicolon) refl name-sound))
    (either-sound (Word word.If ▷ condition) forms.If if_of form_switch (record { back = λ x. refl; made = if-made })
    (begins_other (Word word.If) form_switch if-first) if-values
    (before-sound (Word word.If) condition refl condition-sound)
    (either-sound (Word word.Switch ▷ selection) forms.Switch switch_of form_return (record { back = λ x. refl; made = switch-made })
    (begins_other (Word word.Switch) form_return switch-first) switch-values
    (before-sound (Word word.Switch) selection refl selection-sound)
    (either-sound (Word word.Return ▷ returned) forms.Return return_of form_named (record { back = λ x. refl; made = return-made })
    (begins_other (Word word.Return) form_named return-first) return-values
    (before-sound (Word word.Return) returned refl returned-sound)
    (only-sound (name then tail) named named_of (record { back = λ x. refl; made = named-made }) (then-sound name tail name-sound tail-sound))))))

line-made : (l : Line) (x : ℕ × Form) → line_parts l ≡ Some x → line_made x ≡ l
line-made l x e = sym (ap line_made (some-is {A = ℕ × Form} (l.line, l.form) x e))

pub statement-sound : Sound statement
unfolding statement
statement-sound = only-sound (located form) line_made line_parts (record { back = λ x. refl; made = line-made }) (located-sound form form-sound)

-- no statement begins with a closing brace
statement-first : statement.first (Sign CloseCurly) ≡ false
unfolding statement form name
statement-first = refl

pub statements-sound : Sound statements
unfolding statements
statements-sound = until-sound (Sign CloseCurly) statement refl statement-first statement-sound
