-- What stands on the right of "=" is read back from its text.
use Rattle.std.proofs.Common.{◌≡◌, ℕ, Bool, true, false, List, [], ◌∷◌, ◌++◌, Option, Some, None, refl, append_assoc}
use Rattle.std.specs.Prelude.{codes}
use Rattle.gimple_ir.specs.declared.types.ScalarType.{ScalarType}
use Rattle.gimple_ir.specs.declared.types.BinaryOp.{BinaryOp}
use Rattle.gimple_ir.specs.Programs.{IsIdentifier}
use Rattle.gimple_tokens.specs.declared.token.Mark.TheVariants as mark
use Rattle.gimple_tokens.specs.declared.token.Suffix.{Suffix}
use Rattle.gimple_tokens.specs.Tokens.{Sign, Placed, is_word_byte, tokens_from}
use Rattle.gimple_grammar.specs.Grammar.{Expected, Only}
use Rattle.gimple_grammar.specs.Pieces.{name, number as number_grammar, operator, literal, place, operand, arguments, scalar}
use Rattle.gimple_grammar.specs.Statements.{after, negative, name_tail, right}
use Rattle.gimple_grammar.specs.declared.syntax.Operand.{Operand}
use Rattle.gimple_grammar.specs.declared.syntax.Operand.TheVariants as operands
use Rattle.gimple_grammar.specs.declared.syntax.Right.{Right}
use Rattle.gimple_grammar.specs.declared.syntax.Right.TheVariants as rights
use Rattle.gimple_grammar.proofs.Laws.{begins-append}
use Rattle.gimple_print.specs.Words.{scalar_text, binary_text}
use Rattle.text_laws.proofs.Spaced.{first_is}
use Rattle.text_laws.proofs.Pieces.{Reads, done, space_then, sign_then, sign_space_then, name_then, IsReadAs, part_then, place_text, IsField, place_read, scalar_read, operator_then}

pub both_read : {es fs : List Expected} {end : List Placed} (line : ℕ) (text r : List ℕ) → Reads es line text (tokens_from line 0 r) → Reads fs line r end → Reads (es ++ fs) line text end
both_read {es = es} {fs = fs} {end = end} line text r one other = record { begins = begins-append es fs (tokens_from line 0 text) (tokens_from line 0 r) end one.begins other.begins }

-- ";"
pub end_read : (line : ℕ) (r : List ℕ) → Reads (Only (Sign mark.Semicolon) ∷ []) line (59 ∷ r) (tokens_from line 0 r)
end_read line r = sign_then line mark.Semicolon r tt (done line r)

-- ---- two operands

abbrev pub operation : List ℕ → BinaryOp → List ℕ → List ℕ
operation ta op tb = ta ++ (codes " " ++ (binary_text op ++ (codes " " ++ tb)))

pub operation_then : {es : List Expected} {end : List Placed} (a b : Operand) (op : BinaryOp) (ta tb : List ℕ) (line : ℕ) (r : List ℕ) → IsReadAs (operand.spelling a) ta → IsReadAs (operand.spelling b) tb → first_is is_word_byte r ≡ false
    → Reads es line r end → Reads (operand.spelling a ++ (operator.spelling op ++ (operand.spelling b ++ es))) line (operation ta op tb ++ r) end
operation_then a b op ta tb line r ha hb stop next =
    rw (append_assoc ta (32 ∷ (binary_text op ++ (32 ∷ tb))) r, append_assoc (binary_text op) (32 ∷ tb) r)
    (part_then line (operand.spelling a) ta (32 ∷ (binary_text op ++ (32 ∷ (tb ++ r)))) ha refl (space_then line (binary_text op ++ (32 ∷ (tb ++ r))) (operator_then line op (tb ++ r) (part_then line (operand.spelling b) tb r hb stop next))))

-- ---- an operand, or two

-- the spelling of a right side that is one operand, or an operation of two
abbrev value_spelling : Operand → List Expected
value_spelling a = operand.spelling a ++ Only (Sign mark.Semicolon) ∷ []

abbrev binary_spelling : Operand → BinaryOp → Operand → List Expected
binary_spelling a op b = operand.spelling a ++ (operator.spelling op ++ (operand.spelling b ++ Only (Sign mark.Semicolon) ∷ []))

value_place : (n : List ℕ) (field : Option (List ℕ)) → right.spelling (rights.Value (operands.Place (record { name = n; field = field }))) ≡ value_spelling (operands.Place (record { name = n; field = field }))
unfolding right name_tail after operand place name
value_place n None = refl
value_place n (Some field) = refl

value_literal : (negative : Bool) (n : ℕ) (s : Suffix) → right.spelling (rights.Value (operands.Literal (record { negative = negative; number = n; suffix = s }))) ≡ value_spelling (operands.Literal (record { negative = negative; number = n; suffix = s }))
unfolding right negative after operand literal number_grammar
value_literal true n s = refl
value_literal false n s = refl

value_is : (a : Operand) → right.spelling (rights.Value a) ≡ value_spelling a
value_is (operands.Place p) = value_place p.name p.field
value_is (operands.Literal l) = value_literal l.negative l.number l.suffix

binary_place : (n : List ℕ) (field : Option (List ℕ)) (op : BinaryOp) (b : Operand) → right.spelling (rights.Binary (record { left = operands.Place (record { name = n; field = field }); op = op; right = b })) ≡ binary_spelling (operands.Place (record { name = n; field = field })) op b
unfolding right name_tail after operand place name
binary_place n None op b = refl
binary_place n (Some field) op b = refl

binary_literal : (negative : Bool) (n : ℕ) (s : Suffix) (op : BinaryOp) (b : Operand) → right.spelling (rights.Binary (record { left = operands.Literal (record { negative = negative; number = n; suffix = s }); op = op; right = b })) ≡ binary_spelling (operands.Literal (record { negative = negative; number = n; suffix = s })) op b
unfolding right negative after operand literal number_grammar
binary_literal true n s op b = refl
binary_literal false n s op b = refl

binary_is : (a : Operand) (op : BinaryOp) (b : Operand) → right.spelling (rights.Binary (record { left = a; op = op; right = b })) ≡ binary_spelling a op b
binary_is (operands.Place p) op b = binary_place p.name p.field op b
binary_is (operands.Literal l) op b = binary_literal l.negative l.number l.suffix op b

-- the text, with its ";", is read as the right side
abbrev pub IsRightText : Right → List ℕ → Type 0
IsRightText x text = (line : ℕ) (r : List ℕ) → Reads (right.spelling x) line (text ++ r) (tokens_from line 0 r)

pub value_right : (a : Operand) (ta : List ℕ) → IsReadAs (operand.spelling a) ta → IsRightText (rights.Value a) (ta ++ codes ";")
value_right a ta h line r = rw (value_is a, append_assoc ta (codes ";") r) (part_then line (operand.spelling a) ta (59 ∷ r) h refl (end_read line r))

pub binary_right : (a b : Operand) (op : BinaryOp) (ta tb : List ℕ) → IsReadAs (operand.spelling a) ta → IsReadAs (operand.spelling b) tb → IsRightText (rights.Binary (record { left = a; op = op; right = b })) (operation ta op tb ++ codes ";")
binary_right a b op ta tb ha hb line r =
    rw (binary_is a op b, append_assoc (operation ta op tb) (codes ";") r) (operation_then a b op ta tb line (59 ∷ r) ha hb refl (end_read line r))

-- ---- other right sides

pub negate_right : (n : List ℕ) (field : Option (List ℕ)) → IsIdentifier n → IsField field → IsRightText (rights.Negate (operands.Place (record { name = n; field = field }))) (codes "-" ++ (place_text n field ++ codes ";"))
unfolding right negative operand
negate_right n field h f line r =
    rw (append_assoc (place_text n field) (codes ";") r)
    (sign_then line mark.Minus (place_text n field ++ (59 ∷ r)) tt (part_then line (operand.spelling (operands.Place (record { name = n; field = field }))) (place_text n field) (59 ∷ r) (place_read n field h f) refl (end_read line r)))

pub complement_right : (a : Operand) (ta : List ℕ) → IsReadAs (operand.spelling a) ta → IsRightText (rights.Complement a) (codes "~" ++ (ta ++ codes ";"))
unfolding right
complement_right a ta h line r =
    rw (append_assoc ta (codes ";") r) (sign_then line mark.Tilde (ta ++ (59 ∷ r)) tt (part_then line (operand.spelling a) ta (59 ∷ r) h refl (end_read line r)))

pub convert_right : (ty : ScalarType) (a : Operand) (ta : List ℕ) → IsReadAs (operand.spelling a) ta → IsRightText (rights.Convert ty a) (codes "(" ++ (scalar_text ty ++ (codes ") " ++ (ta ++ codes ";"))))
unfolding right
convert_right ty a ta h line r =
    rw (append_assoc (scalar_text ty) (codes ") " ++ (ta ++ codes ";")) r, append_assoc ta (codes ";") r, append_assoc (scalar.spelling ty) (Only (Sign mark.CloseRound) ∷ []) (operand.spelling a ++ Only (Sign mark.Semicolon) ∷ []))
    (sign_then line mark.OpenRound (scalar_text ty ++ (41 ∷ 32 ∷ (ta ++ (59 ∷ r)))) tt (part_then line (scalar.spelling ty) (scalar_text ty) (41 ∷ 32 ∷ (ta ++ (59 ∷ r))) (scalar_read ty) refl
    (sign_space_then line mark.CloseRound (ta ++ (59 ∷ r)) (part_then line (operand.spelling a) ta (59 ∷ r) h refl (end_read line r)))))

pub load_right : (n : List ℕ) (a : Operand) (ta : List ℕ) → IsIdentifier n → IsReadAs (operand.spelling a) ta → IsRightText (rights.Load n a) (n ++ (codes "[" ++ (ta ++ codes "];")))
unfolding right name_tail name
load_right n a ta h ha line r =
    rw (append_assoc n (codes "[" ++ (ta ++ codes "];")) r, append_assoc ta (codes "];") r, append_assoc (operand.spelling a) (Only (Sign mark.CloseSquare) ∷ []) (Only (Sign mark.Semicolon) ∷ []))
    (name_then line n (91 ∷ (ta ++ (93 ∷ 59 ∷ r))) h refl (sign_then line mark.OpenSquare (ta ++ (93 ∷ 59 ∷ r)) tt (part_then line (operand.spelling a) ta (93 ∷ 59 ∷ r) ha refl (sign_then line mark.CloseSquare (59 ∷ r) tt (end_read line r)))))

-- the text, before ")", is read as the arguments
abbrev pub AreArguments : List Operand → List ℕ → Type 0
AreArguments args text = (line : ℕ) (r : List ℕ) → Reads (arguments.spelling args) line (text ++ (41 ∷ r)) (tokens_from line 0 r)

pub call_right : (n : List ℕ) (args : List Operand) (ta : List ℕ) → IsIdentifier n → AreArguments args ta → IsRightText (rights.Call n args) (n ++ (codes " (" ++ (ta ++ codes ");")))
unfolding right name_tail name
call_right n args ta h ha line r =
    rw (append_assoc n (codes " (" ++ (ta ++ codes ");")) r, append_assoc ta (codes ");") r)
    (name_then line n (32 ∷ 40 ∷ (ta ++ (41 ∷ 59 ∷ r))) h refl (space_then line (40 ∷ (ta ++ (41 ∷ 59 ∷ r))) (sign_then line mark.OpenRound (ta ++ (41 ∷ 59 ∷ r)) tt (both_read line (ta ++ (41 ∷ 59 ∷ r)) (59 ∷ r) (ha line (59 ∷ r)) (end_read line r)))))
