-- A body ends at the first brace that closes: no statement and no declaration of a variable has one.
use Rattle.std.proofs.Common.{◌≡◌, ℕ, zero, suc, Bool, true, false, cond, List, [], ◌∷◌, length, Option, Some, None, Result, Ok, Err, refl, ap, ◌∙◌}
use Rattle.std.specs.Prelude.{is_some}
use Rattle.gimple_ir.specs.declared.types.BinaryOp.{BinaryOp}
use Rattle.gimple_ir.specs.declared.types.ScalarType.TheVariants as scalars
use Rattle.gimple_tokens.specs.declared.token.Keyword.TheVariants as word
use Rattle.gimple_tokens.specs.declared.token.Mark.{Mark}
use Rattle.gimple_tokens.specs.declared.token.Mark.TheVariants.{Semicolon, Colon, Comma, Dot, Minus, Tilde, Equals, Less, Greater, OpenRound, CloseRound, OpenSquare, CloseSquare, CloseCurly}
use Rattle.gimple_tokens.specs.declared.token.Suffix.{Suffix}
use Rattle.gimple_tokens.specs.declared.token.TextKind.{TextKind}
use Rattle.gimple_tokens.specs.declared.numbers.NumberPlace.{NumberPlace}
use Rattle.gimple_tokens.specs.declared.numbers.NumberPlace.TheVariants as places
use Rattle.gimple_tokens.specs.Tokens.{Lexeme, Name, Word, Number, Sign, Placed}
use Rattle.gimple_tokens.specs.Reading.{head_of, line_of, same, after_brace}
use Rattle.gimple_tokens.specs.Numbers.{limit_of, number_in, number_fault}
use Rattle.gimple_tokens.specs.Operators.{operator_of, operator_in}
use Rattle.gimple_tokens.specs.Stops.{Stuck, past, taken, single_at, fault_at, name_in}
use Rattle.gimple_grammar.specs.Grammar.{◌>>=◌, got, Grammar, single, just, ◌▷◌, ◌◁◌, ◌then◌, only, choice, either, many_at, many, chain_at, chain, located}
use Rattle.gimple_grammar.specs.Pieces.{name, number_token, number, operator_token, operator, with_sign, number_of, literal, field_at, field, place_made, place_parts, place, place_of, literal_of, operand, is_true, is_false, one_of, nil, nil_of, argument, arguments, long_int_of, long_unsigned_of, long, int_of, int_or_long, unsigned_of, scalar, struct_made, struct_parts, scalar_made, scalar_parts, variable, no_type}
use Rattle.gimple_grammar.specs.Statements.{end_of, operation_made, operation_of, after, negate_place, negate_place_of, negate_number, negate_number_of, number_made, number_parts, negative, is_negative, load_of, name_call_of, field_value, field_value_of, plain_value, plain_value_of, name_tail, named_right, named_parts, complement_of, convert_made, convert_of, right, label_of, call_of, store_made, store_of, assign_field, assign_field_of, assign_of, tail, branches, condition_made, condition_parts, condition, case_made, case_parts, case_label, cases, selection_made, selection_parts, selection, nothing, nothing_of, something, something_of, returned, empty_of, goto_of, if_of, switch_of, return_of, named, named_of, form, line_made, line_parts, statement, statements}
use Rattle.gimple_grammar.specs.Items.{local, body_made, body}
use Rattle.gimple_grammar.specs.declared.syntax.Declared.{Declared}
use Rattle.gimple_grammar.specs.declared.syntax.Line.{Line}
use Rattle.gimple_grammar.specs.declared.syntax.Operand.TheVariants as operands
use Rattle.gimple_grammar.specs.declared.syntax.Right.TheVariants as rights
use Rattle.gimple_grammar.specs.declared.syntax.Tail.TheVariants as tails
use Rattle.gimple_grammar.specs.declared.syntax.Form.TheVariants as forms
use Rattle.gimple_grammar.specs.declared.parts.After.TheVariants as afters
use Rattle.gimple_grammar.specs.declared.parts.NameTail.TheVariants as names
use Rattle.gimple_grammar.proofs.Laws.{same-is}

-- the brace is not among the tokens that are read
abbrev pub Leaves : {A : Type 0} → List Placed → Result (A × List Placed) Stuck → Type 0
Leaves ts (Ok x) = after_brace ts ≡ after_brace x.1
Leaves ts (Err s) = Unit {0}

pub record Braceless {A : Type 0} (g : Grammar A) : Type 0 where
  pub leaves : (ts : List Placed) → Leaves ts (g.read ts)

leaves-from : {A : Type 0} (ts mid : List Placed) (r : Result (A × List Placed) Stuck) → after_brace ts ≡ after_brace mid → Leaves mid r → Leaves ts r
leaves-from ts mid (Ok x) e l = e ∙ l
leaves-from ts mid (Err s) e l = tt

-- one read after the other
leaves-both : {A B : Type 0} (ts : List Placed) (r : Result (A × List Placed) Stuck) (f : A × List Placed → Result (B × List Placed) Stuck) → Leaves ts r → ((x : A × List Placed) → Leaves x.1 (f x)) → Leaves ts (r >>= f)
leaves-both ts (Ok x) f l m = leaves-from ts x.1 (f x) l (m x)
leaves-both ts (Err s) f l m = tt

-- ---- one token

over : (p : Placed) (ts : List Placed) → same (Sign CloseCurly) p.token ≡ false → after_brace (p ∷ ts) ≡ after_brace ts
unfolding after_brace
over p ts e = rw e refl

-- a sort of tokens to which the brace does not belong
abbrev pub IsNoBrace : {A : Type 0} → (Lexeme → Option A) → Type 0
IsNoBrace {A = A} pick = (t : Lexeme) (a : A) → pick t ≡ Some a → same (Sign CloseCurly) t ≡ false

leaves-taken : {A : Type 0} (pick : Lexeme → Option A) (why : Lexeme → TextKind) → IsNoBrace pick → (p : Placed) (ts : List Placed) (o : Option A) → pick p.token ≡ o → Leaves (p ∷ ts) (taken why p ts o)
leaves-taken pick why none p ts None e = tt
leaves-taken pick why none p ts (Some a) e = over p ts (none p.token a e)

leaves-single : {A : Type 0} (pick : Lexeme → Option A) (why : Lexeme → TextKind) → IsNoBrace pick → (ts : List Placed) → Leaves ts (single_at pick why ts)
unfolding single_at
leaves-single pick why none [] = tt
leaves-single pick why none (p ∷ ts) = leaves-taken pick why none p ts (pick p.token) refl

single-braceless : {A : Type 0} (pick : Lexeme → Option A) (show : A → Lexeme) (why : Lexeme → TextKind) → IsNoBrace pick → Braceless (single pick show why)
single-braceless pick show why none = record { leaves = leaves-single pick why none }

-- ---- words and signs

leaves-passed : {A : Type 0} (t : Lexeme) (p : Placed) (ts : List Placed) (s : Stuck) (f : List Placed → Result (A × List Placed) Stuck) (b : Bool) → same (Sign CloseCurly) t ≡ false → same t p.token ≡ b → Leaves ts (f ts)
    → Leaves (p ∷ ts) (cond b (Ok ts) (Err s) >>= f)
leaves-passed t p ts s f true none e m = leaves-from (p ∷ ts) ts (f ts) (over p ts (ap (same (Sign CloseCurly)) (same-is t p.token e) ∙ none)) m
leaves-passed t p ts s f false none e m = tt

leaves-past : {A : Type 0} (t : Lexeme) → same (Sign CloseCurly) t ≡ false → (ts : List Placed) (f : List Placed → Result (A × List Placed) Stuck) → ((rest : List Placed) → Leaves rest (f rest)) → Leaves ts (past t ts >>= f)
unfolding past
leaves-past t none [] f m = tt
leaves-past t none (p ∷ ts) f m = leaves-passed t p ts _ f (same t p.token) none refl (m ts)

just-braceless : (t : Lexeme) → same (Sign CloseCurly) t ≡ false → Braceless (just t)
just-braceless t none = record { leaves = λ ts. leaves-past t none ts (λ rest. got tt rest) (λ rest. refl) }

before-braceless : {A : Type 0} {g : Grammar A} (t : Lexeme) → same (Sign CloseCurly) t ≡ false → Braceless g → Braceless (t ▷ g)
before-braceless {g = g} t none x = record { leaves = λ ts. leaves-past t none ts g.read x.leaves }

after-braceless : {A : Type 0} {g : Grammar A} (t : Lexeme) → same (Sign CloseCurly) t ≡ false → Braceless g → Braceless (g ◁ t)
after-braceless {g = g} t none x = record {
  leaves = λ ts. leaves-both ts (g.read ts) (λ a. past t a.1 >>= λ rest. got a.0 rest) (x.leaves ts) (λ a. leaves-past t none a.1 (λ rest. got a.0 rest) (λ rest. refl));
}

-- ---- one after the other, and in another form

then-braceless : {A B : Type 0} {g : Grammar A} {h : Grammar B} → Braceless g → Braceless h → Braceless (g then h)
then-braceless {A = A} {B = B} {g = g} {h = h} x y = record {
  leaves = λ ts. leaves-both ts (g.read ts) (λ a. h.read a.1 >>= λ b. got {A = A × B} (a.0, b.0) b.1) (x.leaves ts) (λ a. leaves-both a.1 (h.read a.1) (λ b. got {A = A × B} (a.0, b.0) b.1) (y.leaves a.1) (λ b. refl));
}

only-braceless : {A B : Type 0} {g : Grammar A} (make : A → B) (unmake : B → Option A) → Braceless g → Braceless (only g make unmake)
only-braceless {g = g} make unmake x = record { leaves = λ ts. leaves-both ts (g.read ts) (λ a. got (make a.0) a.1) (x.leaves ts) (λ a. refl) }

leaves-either : {A : Type 0} (ts : List Placed) (b : Bool) (r s : Result (A × List Placed) Stuck) → Leaves ts r → Leaves ts s → Leaves ts (cond b r s)
leaves-either ts true r s x y = x
leaves-either ts false r s x y = y

choice-braceless : {A : Type 0} {g h : Grammar A} (by_g : A → Bool) → Braceless g → Braceless h → Braceless (choice g by_g h)
choice-braceless {g = g} {h = h} by_g x y = record { leaves = λ ts. leaves-either ts (g.first (head_of ts)) (g.read ts) (h.read ts) (x.leaves ts) (y.leaves ts) }

either-braceless : {A B : Type 0} {g : Grammar A} {h : Grammar B} (make : A → B) (unmake : B → Option A) → Braceless g → Braceless h → Braceless (either g make unmake h)
either-braceless make unmake x y = choice-braceless (λ b. is_some (unmake b)) (only-braceless make unmake x) y

located-braceless : {A : Type 0} {g : Grammar A} → Braceless g → Braceless (located g)
located-braceless {A = A} {g = g} x = record { leaves = λ ts. leaves-both ts (g.read ts) (λ a. got {A = ℕ × A} (line_of ts, a.0) a.1) (x.leaves ts) (λ a. refl) }

-- ---- lists

leaves-many : {A : Type 0} (ends : Lexeme → Bool) (g : Grammar A) → Braceless g → (n : ℕ) (ts : List Placed) → Leaves ts (many_at ends g n ts)
unfolding many_at
leaves-many ends g x zero ts = tt
leaves-many {A = A} ends g x (suc n) ts =
    leaves-either ts (ends (head_of ts)) (got [] ts) (g.read ts >>= λ a. many_at ends g n a.1 >>= λ more. got {A = List A} (a.0 ∷ more.0) more.1) refl
    (leaves-both ts (g.read ts) (λ a. many_at ends g n a.1 >>= λ more. got {A = List A} (a.0 ∷ more.0) more.1) (x.leaves ts)
    (λ a. leaves-both a.1 (many_at ends g n a.1) (λ more. got {A = List A} (a.0 ∷ more.0) more.1) (leaves-many ends g x n a.1) (λ more. refl)))

many-braceless : {A : Type 0} {g : Grammar A} (ends : Lexeme → Bool) → Braceless g → Braceless (many ends g)
many-braceless {g = g} ends x = record { leaves = λ ts. leaves-many ends g x (suc (length ts)) ts }

leaves-chain : {A : Type 0} (g : Grammar (A × Bool)) → Braceless g → (n : ℕ) (ts : List Placed) → Leaves ts (chain_at g n ts)
unfolding chain_at
leaves-chain g x zero ts = tt
leaves-chain {A = A} g x (suc n) ts =
    leaves-both ts (g.read ts) (λ a. cond a.0.1 (chain_at g n a.1 >>= λ more. got {A = List A} (a.0.0 ∷ more.0) more.1) (got {A = List A} (a.0.0 ∷ []) a.1)) (x.leaves ts)
    (λ a. leaves-either a.1 a.0.1 (chain_at g n a.1 >>= λ more. got {A = List A} (a.0.0 ∷ more.0) more.1) (got {A = List A} (a.0.0 ∷ []) a.1)
    (leaves-both a.1 (chain_at g n a.1) (λ more. got {A = List A} (a.0.0 ∷ more.0) more.1) (leaves-chain g x n a.1) (λ more. refl)) refl)

chain-braceless : {A : Type 0} {g : Grammar (A × Bool)} → Braceless g → Braceless (chain g)
chain-braceless {g = g} x = record { leaves = λ ts. leaves-chain g x (suc (length ts)) ts }

-- ---- the pieces

name-none : IsNoBrace name_in
name-none (Name w) a e = refl
name-none t a e = absurd cc

name-braceless : Braceless name
unfolding name
name-braceless = single-braceless name_in Name fault_at name-none

number-none : (limit : Suffix → ℕ) → IsNoBrace (number_in limit)
number-none limit (Number v s) a e = refl
number-none limit t a e = absurd cc

number-braceless : (place : NumberPlace) (negative : Bool) → Braceless (number place negative)
unfolding number
number-braceless place negative = single-braceless (number_in (limit_of place negative)) number_token (number_fault place) (number-none (limit_of place negative))

mark-none : (m : Mark) (op : BinaryOp) → operator_of m ≡ Some op → same (Sign CloseCurly) (Sign m) ≡ false
mark-none CloseCurly op e = absurd cc
mark-none m op e = refl

operator-none : IsNoBrace operator_in
operator-none (Sign m) op e = mark-none m op e
operator-none t op e = absurd cc

operator-braceless : Braceless operator
unfolding operator
operator-braceless = single-braceless operator_in operator_token fault_at operator-none

literal-braceless : (place : NumberPlace) → Braceless (literal place)
unfolding literal
literal-braceless place =
    either-braceless (with_sign true) (number_of true) (before-braceless (Sign Minus) refl (number-braceless place true))
    (only-braceless (with_sign false) (number_of false) (number-braceless place false))

leaves-field : (ts : List Placed) → Leaves ts (field_at ts)
unfolding field_at
leaves-field ts =
    leaves-either ts (same (Sign Dot) (head_of ts)) ((Sign Dot ▷ name).read ts >>= λ a. got {A = Option (List ℕ)} (Some a.0) a.1) (got None ts)
    (leaves-both ts ((Sign Dot ▷ name).read ts) (λ a. got {A = Option (List ℕ)} (Some a.0) a.1) (leaves-past (Sign Dot) refl ts name.read name-braceless.leaves) (λ a. refl)) refl

field-braceless : Braceless field
field-braceless = record { leaves = leaves-field }

place-braceless : Braceless place
unfolding place
place-braceless = only-braceless place_made place_parts (then-braceless name-braceless field-braceless)

operand-braceless : Braceless operand
unfolding operand
operand-braceless = either-braceless operands.Place place_of place-braceless (only-braceless operands.Literal literal_of (literal-braceless places.Literal))

one_of-braceless : (a b : Lexeme) → same (Sign CloseCurly) a ≡ false → same (Sign CloseCurly) b ≡ false → Braceless (one_of a b)
unfolding one_of
one_of-braceless a b first second = either-braceless (λ x. true) is_true (just-braceless a first) (only-braceless (λ x. false) is_false (just-braceless b second))

argument-braceless : Braceless argument
unfolding argument
argument-braceless = then-braceless operand-braceless (one_of-braceless (Sign Comma) (Sign CloseRound) refl refl)

arguments-braceless : Braceless arguments
unfolding arguments
arguments-braceless = either-braceless nil nil_of (just-braceless (Sign CloseRound) refl) (chain-braceless argument-braceless)

long-braceless : Braceless long
unfolding long
long-braceless =
    either-braceless (λ x. scalars.LongInt) long_int_of (just-braceless (Word word.Int) refl)
    (only-braceless (λ x. scalars.LongUnsignedInt) long_unsigned_of (before-braceless (Word word.Unsigned) refl (just-braceless (Word word.Int) refl)))

int_or_long-braceless : Braceless int_or_long
unfolding int_or_long
int_or_long-braceless = either-braceless (λ x. scalars.Int) int_of (just-braceless (Word word.Int) refl) (before-braceless (Word word.Long) refl long-braceless)

scalar-braceless : Braceless scalar
unfolding scalar
scalar-braceless = either-braceless (λ x. scalars.UnsignedInt) unsigned_of (before-braceless (Word word.Unsigned) refl (just-braceless (Word word.Int) refl)) int_or_long-braceless

variable-braceless : Braceless variable
unfolding variable
variable-braceless =
    either-braceless struct_made struct_parts (before-braceless (Word word.Struct) refl (then-braceless name-braceless name-braceless))
    (only-braceless scalar_made scalar_parts (then-braceless scalar-braceless name-braceless))

-- ---- statements

after_operand-braceless : Braceless after
unfolding after
after_operand-braceless =
    either-braceless (λ x. afters.End) end_of (just-braceless (Sign Semicolon) refl)
    (only-braceless operation_made operation_of (then-braceless operator-braceless (after-braceless (Sign Semicolon) refl operand-braceless)))

number_then-braceless : (b : Bool) → Braceless (only (number places.Literal b then after) (number_made b) (number_parts b))
number_then-braceless b = only-braceless (number_made b) (number_parts b) (then-braceless (number-braceless places.Literal b) after_operand-braceless)

negative-braceless : Braceless negative
unfolding negative
negative-braceless =
    either-braceless negate_place negate_place_of (after-braceless (Sign Semicolon) refl place-braceless)
    (either-braceless negate_number negate_number_of (before-braceless (Sign Minus) refl (after-braceless (Sign Semicolon) refl (number-braceless places.Literal true)))
    (number_then-braceless true))

-- "[" operand "]"
subscript-braceless : Braceless (Sign OpenSquare ▷ operand ◁ Sign CloseSquare)
subscript-braceless = before-braceless (Sign OpenSquare) refl (after-braceless (Sign CloseSquare) refl operand-braceless)

-- "(" arguments ";"
call-braceless : Braceless (Sign OpenRound ▷ arguments ◁ Sign Semicolon)
call-braceless = before-braceless (Sign OpenRound) refl (after-braceless (Sign Semicolon) refl arguments-braceless)

name_tail-braceless : Braceless name_tail
unfolding name_tail
name_tail-braceless =
    either-braceless names.Load load_of (before-braceless (Sign OpenSquare) refl (after-braceless (Sign Semicolon) refl (after-braceless (Sign CloseSquare) refl operand-braceless)))
    (either-braceless names.Call name_call_of call-braceless
    (either-braceless field_value field_value_of (before-braceless (Sign Dot) refl (then-braceless name-braceless after_operand-braceless))
    (only-braceless plain_value plain_value_of after_operand-braceless)))

right-braceless : Braceless right
unfolding right
right-braceless =
    either-braceless rights.Complement complement_of (before-braceless (Sign Tilde) refl (after-braceless (Sign Semicolon) refl operand-braceless))
    (either-braceless convert_made convert_of
    (then-braceless (before-braceless (Sign OpenRound) refl (after-braceless (Sign CloseRound) refl scalar-braceless)) (after-braceless (Sign Semicolon) refl operand-braceless))
    (choice-braceless is_negative (before-braceless (Sign Minus) refl negative-braceless)
    (either-braceless named_right named_parts (then-braceless name-braceless name_tail-braceless)
    (number_then-braceless false))))

tail-braceless : Braceless tail
unfolding tail
tail-braceless =
    either-braceless (λ x. tails.Label) label_of (just-braceless (Sign Colon) refl)
    (either-braceless tails.Call call_of call-braceless
    (either-braceless store_made store_of (then-braceless subscript-braceless (before-braceless (Sign Equals) refl (after-braceless (Sign Semicolon) refl operand-braceless)))
    (either-braceless assign_field assign_field_of (then-braceless (before-braceless (Sign Dot) refl name-braceless) (before-braceless (Sign Equals) refl right-braceless))
    (only-braceless tails.Assign assign_of (before-braceless (Sign Equals) refl right-braceless)))))

-- "goto" name ";"
goto-braceless : Braceless (Word word.Goto ▷ name ◁ Sign Semicolon)
goto-braceless = before-braceless (Word word.Goto) refl (after-braceless (Sign Semicolon) refl name-braceless)

branches-braceless : Braceless branches
unfolding branches
branches-braceless = then-braceless goto-braceless (before-braceless (Word word.Else) refl goto-braceless)

condition-braceless : Braceless condition
unfolding condition
condition-braceless =
    only-braceless condition_made condition_parts
    (before-braceless (Sign OpenRound) refl (then-braceless operand-braceless (then-braceless operator-braceless (then-braceless (after-braceless (Sign CloseRound) refl operand-braceless) branches-braceless))))

case_label-braceless : Braceless case_label
unfolding case_label
case_label-braceless =
    only-braceless case_made case_parts
    (before-braceless (Sign Comma) refl (before-braceless (Word word.Case) refl (then-braceless (after-braceless (Sign Colon) refl (literal-braceless places.Literal)) name-braceless)))

cases-braceless : Braceless cases
unfolding cases
cases-braceless = after-braceless (Sign Greater) refl (many-braceless (same (Sign Greater)) case_label-braceless)

selection-braceless : Braceless selection
unfolding selection
selection-braceless =
    only-braceless selection_made selection_parts
    (then-braceless (before-braceless (Sign OpenRound) refl (after-braceless (Sign CloseRound) refl operand-braceless))
    (before-braceless (Sign Less) refl (before-braceless (Word word.Default) refl (before-braceless (Sign Colon) refl
    (then-braceless name-braceless (after-braceless (Sign Semicolon) refl cases-braceless))))))

returned-braceless : Braceless returned
unfolding returned
returned-braceless =
    either-braceless nothing nothing_of (just-braceless (Sign Semicolon) refl)
    (only-braceless something something_of (after-braceless (Sign Semicolon) refl operand-braceless))

form-braceless : Braceless form
unfolding form
form-braceless =
    either-braceless (λ x. forms.Empty) empty_of (just-braceless (Sign Semicolon) refl)
    (either-braceless forms.Goto goto_of goto-braceless
    (either-braceless forms.If if_of (before-braceless (Word word.If) refl condition-braceless)
    (either-braceless forms.Switch switch_of (before-braceless (Word word.Switch) refl selection-braceless)
    (either-braceless forms.Return return_of (before-braceless (Word word.Return) refl returned-braceless)
    (only-braceless named named_of (then-braceless name-braceless tail-braceless))))))

statement-braceless : Braceless statement
unfolding statement
statement-braceless = only-braceless line_made line_parts (located-braceless form-braceless)

local-braceless : Braceless local
unfolding local
local-braceless = after-braceless (Sign Semicolon) refl variable-braceless

-- ---- the last brace

-- what is read ends with the first brace
abbrev pub Ends : {A : Type 0} → List Placed → Result (A × List Placed) Stuck → Type 0
Ends ts (Ok x) = after_brace ts ≡ x.1
Ends ts (Err s) = Unit {0}

ends-from : {A : Type 0} (ts mid : List Placed) (r : Result (A × List Placed) Stuck) → after_brace ts ≡ after_brace mid → Ends mid r → Ends ts r
ends-from ts mid (Ok x) e l = e ∙ l
ends-from ts mid (Err s) e l = tt

-- what has no brace is read first
ends-both : {A B : Type 0} (ts : List Placed) (r : Result (A × List Placed) Stuck) (f : A × List Placed → Result (B × List Placed) Stuck) → Leaves ts r → ((x : A × List Placed) → Ends x.1 (f x)) → Ends ts (r >>= f)
ends-both ts (Ok x) f l m = ends-from ts x.1 (f x) l (m x)
ends-both ts (Err s) f l m = tt

ends-made : {A B : Type 0} (make : A → B) (ts : List Placed) (r : Result (A × List Placed) Stuck) → Ends ts r → Ends ts (r >>= λ a. got (make a.0) a.1)
ends-made make ts (Ok x) e = e
ends-made make ts (Err s) e = tt

ends-passed : {A : Type 0} (x : A) (p : Placed) (ts : List Placed) (s : Stuck) (b : Bool) → same (Sign CloseCurly) p.token ≡ b → Ends (p ∷ ts) (cond b (Ok ts) (Err s) >>= λ rest. got x rest)
unfolding after_brace
ends-passed x p ts s true e = rw e refl
ends-passed x p ts s false e = tt

ends-past : {A : Type 0} (x : A) (ts : List Placed) → Ends ts (past (Sign CloseCurly) ts >>= λ rest. got x rest)
unfolding past
ends-past x [] = tt
ends-past x (p ∷ ts) = ends-passed x p ts _ (same (Sign CloseCurly) p.token) refl

statements-end : (ts : List Placed) → Ends ts (statements.read ts)
unfolding statements
statements-end ts =
    ends-both ts ((many (same (Sign CloseCurly)) statement).read ts) (λ a. past (Sign CloseCurly) a.1 >>= λ rest. got a.0 rest)
    ((many-braceless (same (Sign CloseCurly)) statement-braceless).leaves ts) (λ a. ends-past a.0 a.1)

abbrev Parts : Type 0
Parts = List Declared × List Line

pub body-ends : (ts : List Placed) → Ends ts (body.read ts)
unfolding body
body-ends ts =
    ends-made body_made ts ((many no_type local then statements).read ts)
    (ends-both ts ((many no_type local).read ts) (λ a. statements.read a.1 >>= λ b. got {A = Parts} (a.0, b.0) b.1)
    ((many-braceless no_type local-braceless).leaves ts)
    (λ a. ends-made {B = Parts} (λ b. (a.0, b)) a.1 (statements.read a.1) (statements-end a.1)))
