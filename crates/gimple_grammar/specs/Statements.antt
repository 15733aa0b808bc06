-- The grammar of statements. A form that is read in several steps has a definition for each; "after" says what was read.
use Rattle.std.specs.Prelude.{ℕ, Bool, true, false, List, Option, Some, None}
use Rattle.gimple_ir.specs.declared.types.BinaryOp.{BinaryOp}
use Rattle.gimple_ir.specs.declared.types.ScalarType.{ScalarType}
use Rattle.gimple_tokens.specs.declared.token.Keyword.TheVariants as word
use Rattle.gimple_tokens.specs.declared.token.Mark.TheVariants.{Semicolon, Colon, Comma, Dot, Minus, Tilde, Equals, Less, Greater, OpenRound, CloseRound, OpenSquare, CloseSquare, CloseCurly}
use Rattle.gimple_tokens.specs.declared.token.Suffix.{Suffix}
use Rattle.gimple_tokens.specs.declared.numbers.NumberPlace.TheVariants as places
use Rattle.gimple_tokens.specs.Tokens.{Word, Sign}
use Rattle.gimple_tokens.specs.Reading.{same}
use Rattle.gimple_grammar.specs.Grammar.{Grammar, just, ◌▷◌, ◌◁◌, ◌then◌, only, choice, either, many, located}
use Rattle.gimple_grammar.specs.Pieces.{name, number, operator, with_sign, number_of, literal, place, place_of, operand, arguments, scalar}
use Rattle.gimple_grammar.specs.declared.syntax.Literal.{Literal}
use Rattle.gimple_grammar.specs.declared.syntax.Place.{Place}
use Rattle.gimple_grammar.specs.declared.syntax.Operand.{Operand}
use Rattle.gimple_grammar.specs.declared.syntax.Operand.TheVariants as operands
use Rattle.gimple_grammar.specs.declared.syntax.Right.{Right}
use Rattle.gimple_grammar.specs.declared.syntax.Right.TheVariants as rights
use Rattle.gimple_grammar.specs.declared.syntax.Tail.{Tail}
use Rattle.gimple_grammar.specs.declared.syntax.Tail.TheVariants as tails
use Rattle.gimple_grammar.specs.declared.syntax.Condition.{Condition}
use Rattle.gimple_grammar.specs.declared.syntax.CaseLabel.{CaseLabel}
use Rattle.gimple_grammar.specs.declared.syntax.Choice.{Choice}
use Rattle.gimple_grammar.specs.declared.syntax.Form.{Form}
use Rattle.gimple_grammar.specs.declared.syntax.Form.TheVariants as forms
use Rattle.gimple_grammar.specs.declared.syntax.Line.{Line}
use Rattle.gimple_grammar.specs.declared.parts.After.{After}
use Rattle.gimple_grammar.specs.declared.parts.After.TheVariants as afters
use Rattle.gimple_grammar.specs.declared.parts.NameTail.{NameTail}
use Rattle.gimple_grammar.specs.declared.parts.NameTail.TheVariants as names

-- ---- what stands on the right of "=": after the first operand

abbrev pub end_of : After → Option (Unit {0})
end_of afters.End = Some tt
end_of (afters.Binary op b) = None

abbrev pub operation_made : BinaryOp × Operand → After
operation_made x = afters.Binary x.0 x.1

abbrev pub operation_of : After → Option (BinaryOp × Operand)
operation_of afters.End = None
operation_of (afters.Binary op b) = Some (op, b)

-- ";"  or  operator operand ";"
unfoldable pub after : Grammar After
after = either (just (Sign Semicolon)) (λ x. afters.End) end_of (only (operator then operand ◁ Sign Semicolon) operation_made operation_of)

-- the whole right side
abbrev pub value_of : Operand → After → Right
value_of a afters.End = rights.Value a
value_of a (afters.Binary op b) = rights.Binary (record { left = a; op = op; right = b })

-- ---- after "-"

abbrev pub negate_place : Place → Right
negate_place p = rights.Negate (operands.Place p)

abbrev pub negate_place_of : Right → Option Place
negate_place_of (rights.Negate a) = place_of a
negate_place_of _ = None

abbrev pub negate_number : ℕ × Suffix → Right
negate_number x = rights.Negate (operands.Literal (with_sign true x))

abbrev pub signed_operand : Bool → Operand → Option (ℕ × Suffix)
signed_operand negative (operands.Place p) = None
signed_operand negative (operands.Literal l) = number_of negative l

abbrev pub negate_number_of : Right → Option (ℕ × Suffix)
negate_number_of (rights.Negate a) = signed_operand true a
negate_number_of _ = None

abbrev pub number_made : Bool → (ℕ × Suffix) × After → Right
number_made negative x = value_of (operands.Literal (with_sign negative x.0)) x.1

abbrev pub with_after : Option (ℕ × Suffix) → After → Option ((ℕ × Suffix) × After)
with_after None t = None
with_after (Some x) t = Some (x, t)

abbrev pub number_parts : Bool → Right → Option ((ℕ × Suffix) × After)
number_parts negative (rights.Value a) = with_after (signed_operand negative a) afters.End
number_parts negative (rights.Binary b) = with_after (signed_operand negative b.left) (afters.Binary b.op b.right)
number_parts negative _ = None

-- place ";"  or  "-" number ";"  or  number after
unfoldable pub negative : Grammar Right
negative =
    either (place ◁ Sign Semicolon) negate_place negate_place_of (
    either (Sign Minus ▷ number places.Literal true ◁ Sign Semicolon) negate_number negate_number_of (
    only (number places.Literal true then after) (number_made true) (number_parts true)))

abbrev pub is_negative_literal : Operand → Bool
is_negative_literal (operands.Place p) = false
is_negative_literal (operands.Literal l) = l.negative

-- the right sides that begin with "-"
abbrev pub is_negative : Right → Bool
is_negative (rights.Value a) = is_negative_literal a
is_negative (rights.Binary b) = is_negative_literal b.left
is_negative (rights.Negate a) = true
is_negative _ = false

-- ---- after a name

abbrev pub load_of : NameTail → Option Operand
load_of (names.Load a) = Some a
load_of _ = None

abbrev pub name_call_of : NameTail → Option (List Operand)
name_call_of (names.Call args) = Some args
name_call_of _ = None

abbrev pub field_value : List ℕ × After → NameTail
field_value x = names.Value (Some x.0) x.1

abbrev pub field_value_of : NameTail → Option (List ℕ × After)
field_value_of (names.Value (Some f) after) = Some (f, after)
field_value_of _ = None

abbrev pub plain_value : After → NameTail
plain_value after = names.Value None after

abbrev pub plain_value_of : NameTail → Option After
plain_value_of (names.Value None after) = Some after
plain_value_of _ = None

-- "[" operand "]" ";"  or  "(" arguments ";"  or  "." name after  or  after
unfoldable pub name_tail : Grammar NameTail
name_tail =
    either (Sign OpenSquare ▷ operand ◁ Sign CloseSquare ◁ Sign Semicolon) names.Load load_of (
    either (Sign OpenRound ▷ arguments ◁ Sign Semicolon) names.Call name_call_of (
    either (Sign Dot ▷ (name then after)) field_value field_value_of (
    only after plain_value plain_value_of)))

abbrev pub named_by : List ℕ → NameTail → Right
named_by n (names.Load a) = rights.Load n a
named_by n (names.Call args) = rights.Call n args
named_by n (names.Value f after) = value_of (operands.Place (record { name = n; field = f })) after

abbrev pub named_right : List ℕ × NameTail → Right
named_right x = named_by x.0 x.1

abbrev pub named_operand : Operand → After → Option (List ℕ × NameTail)
named_operand (operands.Place p) t = Some (p.name, names.Value p.field t)
named_operand (operands.Literal l) t = None

abbrev pub named_parts : Right → Option (List ℕ × NameTail)
named_parts (rights.Value a) = named_operand a afters.End
named_parts (rights.Binary b) = named_operand b.left (afters.Binary b.op b.right)
named_parts (rights.Load n a) = Some (n, names.Load a)
named_parts (rights.Call n args) = Some (n, names.Call args)
named_parts _ = None

-- ---- the right side

abbrev pub complement_of : Right → Option Operand
complement_of (rights.Complement a) = Some a
complement_of _ = None

abbrev pub convert_made : ScalarType × Operand → Right
convert_made x = rights.Convert x.0 x.1

abbrev pub convert_of : Right → Option (ScalarType × Operand)
convert_of (rights.Convert t a) = Some (t, a)
convert_of _ = None

-- "~" operand ";"  or  "(" scalar ")" operand ";"  or  "-" negative  or  name name_tail  or  number after
unfoldable pub right : Grammar Right
right =
    either (Sign Tilde ▷ operand ◁ Sign Semicolon) rights.Complement complement_of (
    either (Sign OpenRound ▷ scalar ◁ Sign CloseRound then operand ◁ Sign Semicolon) convert_made convert_of (
    choice (Sign Minus ▷ negative) is_negative (
    either (name then name_tail) named_right named_parts (
    only (number places.Literal false then after) (number_made false) (number_parts false)))))

-- ---- after a name that begins a statement

abbrev pub label_of : Tail → Option (Unit {0})
label_of tails.Label = Some tt
label_of _ = None

abbrev pub call_of : Tail → Option (List Operand)
call_of (tails.Call args) = Some args
call_of _ = None

abbrev pub store_made : Operand × Operand → Tail
store_made x = tails.Store x.0 x.1

abbrev pub store_of : Tail → Option (Operand × Operand)
store_of (tails.Store a b) = Some (a, b)
store_of _ = None

abbrev pub assign_field : List ℕ × Right → Tail
assign_field x = tails.AssignField x.0 x.1

abbrev pub assign_field_of : Tail → Option (List ℕ × Right)
assign_field_of (tails.AssignField f r) = Some (f, r)
assign_field_of _ = None

abbrev pub assign_of : Tail → Option Right
assign_of (tails.Assign r) = Some r
assign_of _ = None

-- ":"  or  "(" arguments ";"  or  "[" operand "]" "=" operand ";"  or  "." name "=" right  or  "=" right
unfoldable pub tail : Grammar Tail
tail =
    either (just (Sign Colon)) (λ x. tails.Label) label_of (
    either (Sign OpenRound ▷ arguments ◁ Sign Semicolon) tails.Call call_of (
    either (Sign OpenSquare ▷ operand ◁ Sign CloseSquare then Sign Equals ▷ operand ◁ Sign Semicolon) store_made store_of (
    either (Sign Dot ▷ name then Sign Equals ▷ right) assign_field assign_field_of (
    only (Sign Equals ▷ right) tails.Assign assign_of))))

-- ---- after "if", "switch" and "return"

abbrev pub condition_made : Operand × (BinaryOp × (Operand × (List ℕ × List ℕ))) → Condition
condition_made x = record { left = x.0; op = x.1.0; right = x.1.1.0; met = x.1.1.1.0; missed = x.1.1.1.1 }

abbrev pub condition_parts : Condition → Option (Operand × (BinaryOp × (Operand × (List ℕ × List ℕ))))
condition_parts c = Some (c.left, (c.op, (c.right, (c.met, c.missed))))

-- "goto" name ";" "else" "goto" name ";"
unfoldable pub branches : Grammar (List ℕ × List ℕ)
branches = Word word.Goto ▷ name ◁ Sign Semicolon then Word word.Else ▷ Word word.Goto ▷ name ◁ Sign Semicolon

-- "(" operand operator operand ")" branches
unfoldable pub condition : Grammar Condition
condition = only (Sign OpenRound ▷ (operand then (operator then (operand ◁ Sign CloseRound then branches)))) condition_made condition_parts

abbrev pub case_made : Literal × List ℕ → CaseLabel
case_made x = record { value = x.0; label = x.1 }

abbrev pub case_parts : CaseLabel → Option (Literal × List ℕ)
case_parts c = Some (c.value, c.label)

-- "," "case" literal ":" name
unfoldable pub case_label : Grammar CaseLabel
case_label = only (Sign Comma ▷ Word word.Case ▷ (literal places.Literal ◁ Sign Colon then name)) case_made case_parts

-- { case_label } ">"
unfoldable pub cases : Grammar (List CaseLabel)
cases = many (same (Sign Greater)) case_label ◁ Sign Greater

abbrev pub selection_made : Operand × (List ℕ × List CaseLabel) → Choice
selection_made x = record { on = x.0; otherwise = x.1.0; cases = x.1.1 }

abbrev pub selection_parts : Choice → Option (Operand × (List ℕ × List CaseLabel))
selection_parts c = Some (c.on, (c.otherwise, c.cases))

-- "(" operand ")" "<" "default" ":" name cases ";"
unfoldable pub selection : Grammar Choice
selection = only (Sign OpenRound ▷ operand ◁ Sign CloseRound then Sign Less ▷ Word word.Default ▷ Sign Colon ▷ (name then cases ◁ Sign Semicolon)) selection_made selection_parts

abbrev pub nothing : Unit {0} → Option Operand
nothing x = None

abbrev pub nothing_of : Option Operand → Option (Unit {0})
nothing_of None = Some tt
nothing_of (Some a) = None

abbrev pub something : Operand → Option Operand
something a = Some a

abbrev pub something_of : Option Operand → Option Operand
something_of a = a

-- ";"  or  operand ";"
unfoldable pub returned : Grammar (Option Operand)
returned = either (just (Sign Semicolon)) nothing nothing_of (only (operand ◁ Sign Semicolon) something something_of)

-- ---- statements

abbrev pub empty_of : Form → Option (Unit {0})
empty_of forms.Empty = Some tt
empty_of _ = None

abbrev pub goto_of : Form → Option (List ℕ)
goto_of (forms.Goto n) = Some n
goto_of _ = None

abbrev pub if_of : Form → Option Condition
if_of (forms.If c) = Some c
if_of _ = None

abbrev pub switch_of : Form → Option Choice
switch_of (forms.Switch c) = Some c
switch_of _ = None

abbrev pub return_of : Form → Option (Option Operand)
return_of (forms.Return a) = Some a
return_of _ = None

abbrev pub named : List ℕ × Tail → Form
named x = forms.Named x.0 x.1

abbrev pub named_of : Form → Option (List ℕ × Tail)
named_of (forms.Named n t) = Some (n, t)
named_of _ = None

-- ";"  or  "goto" name ";"  or  "if" condition  or  "switch" selection  or  "return" returned  or  name tail
unfoldable pub form : Grammar Form
form =
    either (just (Sign Semicolon)) (λ x. forms.Empty) empty_of (
    either (Word word.Goto ▷ name ◁ Sign Semicolon) forms.Goto goto_of (
    either (Word word.If ▷ condition) forms.If if_of (
    either (Word word.Switch ▷ selection) forms.Switch switch_of (
    either (Word word.Return ▷ returned) forms.Return return_of (
    only (name then tail) named named_of)))))

abbrev pub line_made : ℕ × Form → Line
line_made x = record { line = x.0; form = x.1 }

abbrev pub line_parts : Line → Option (ℕ × Form)
line_parts l = Some (l.line, l.form)

-- a statement and its line
unfoldable pub statement : Grammar Line
statement = only (located form) line_made line_parts

-- { statement } "}"
unfoldable pub statements : Grammar (List Line)
statements = many (same (Sign CloseCurly)) statement ◁ Sign CloseCurly
