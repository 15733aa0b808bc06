-- The pieces of which statements and items consist: names, numbers, operands, types and variables.
use Rattle.std.specs.Prelude.{ℕ, Bool, true, false, ◌||◌, List, [], ◌∷◌, Option, Some, None, Result, Ok, if◌then◌else◌}
use Rattle.gimple_ir.specs.declared.types.BinaryOp.{BinaryOp}
use Rattle.gimple_ir.specs.declared.types.ScalarType.{ScalarType}
use Rattle.gimple_ir.specs.declared.types.ScalarType.TheVariants as scalars
use Rattle.gimple_tokens.specs.declared.token.Keyword.TheVariants as word
use Rattle.gimple_tokens.specs.declared.token.Mark.TheVariants.{Comma, Dot, Minus, CloseRound}
use Rattle.gimple_tokens.specs.declared.token.Suffix.{Suffix}
use Rattle.gimple_tokens.specs.declared.token.Suffix.TheVariants.{Plain}
use Rattle.gimple_tokens.specs.declared.numbers.NumberPlace.{NumberPlace}
use Rattle.gimple_tokens.specs.declared.numbers.NumberPlace.TheVariants as places
use Rattle.gimple_tokens.specs.Tokens.{Lexeme, Name, Word, Number, Sign, Placed}
use Rattle.gimple_tokens.specs.Reading.{head_of, same}
use Rattle.gimple_tokens.specs.Numbers.{limit_of, number_in, number_fault, length_in, length_fault}
use Rattle.gimple_tokens.specs.Operators.{mark_of, operator_in}
use Rattle.gimple_tokens.specs.Stops.{Stuck, fault_at, name_in}
use Rattle.gimple_grammar.specs.Grammar.{Grammar, Expected, Only, ◌>>=◌, single, just, ◌▷◌, ◌then◌, only, either, chain}
use Rattle.gimple_grammar.specs.declared.syntax.Literal.{Literal}
use Rattle.gimple_grammar.specs.declared.syntax.Place.{Place}
use Rattle.gimple_grammar.specs.declared.syntax.Operand.{Operand}
use Rattle.gimple_grammar.specs.declared.syntax.Operand.TheVariants as operands
use Rattle.gimple_grammar.specs.declared.syntax.«Type».{«Type» as TheType}
use Rattle.gimple_grammar.specs.declared.syntax.«Type».TheVariants as types
use Rattle.gimple_grammar.specs.declared.syntax.Declared.{Declared}

-- ---- tokens with a value

unfoldable pub name : Grammar (List ℕ)
name = single name_in Name fault_at

abbrev pub number_token : ℕ × Suffix → Lexeme
number_token x = Number (Some x.0) x.1

unfoldable pub number : NumberPlace → Bool → Grammar (ℕ × Suffix)
number place negative = single (number_in (limit_of place negative)) number_token (number_fault place)

abbrev pub length_token : ℕ → Lexeme
length_token n = Number (Some n) Plain

unfoldable pub array_length : Grammar ℕ
array_length = single length_in length_token length_fault

abbrev pub operator_token : BinaryOp → Lexeme
operator_token op = Sign (mark_of op)

unfoldable pub operator : Grammar BinaryOp
operator = single operator_in operator_token fault_at

-- ---- literals

abbrev pub with_sign : Bool → ℕ × Suffix → Literal
with_sign negative x = record { negative = negative; number = x.0; suffix = x.1 }

abbrev pub if_same : {A : Type 0} → Bool → Bool → A → Option A
if_same true true x = Some x
if_same false false x = Some x
if_same true false x = None
if_same false true x = None

-- the number of a literal that has this sign
abbrev pub number_of : Bool → Literal → Option (ℕ × Suffix)
number_of negative l = if_same negative l.negative (l.number, l.suffix)

-- [ "-" ] number
unfoldable pub literal : NumberPlace → Grammar Literal
literal place = either (Sign Minus ▷ number place true) (with_sign true) (number_of true) (only (number place false) (with_sign false) (number_of false))

-- ---- operands

abbrev pub field_spelling : Option (List ℕ) → List Expected
field_spelling None = []
field_spelling (Some n) = Only (Sign Dot) ∷ name.spelling n

unfoldable pub field_at : List Placed → Result (Option (List ℕ) × List Placed) Stuck
field_at ts = if same (Sign Dot) (head_of ts) then ((Sign Dot ▷ name).read ts >>= λ a. Ok (Some a.0, a.1)) else Ok (None, ts)

-- [ "." name ]
-- It does not end by itself: a "." may follow, so it has the laws only before what begins with another token. So has all
-- that ends with it.
abbrev pub field : Grammar (Option (List ℕ))
field = record {
  first = λ t. true;
  read = λ ts. field_at ts;
  spelling = λ f. field_spelling f;
}

abbrev pub place_made : List ℕ × Option (List ℕ) → Place
place_made x = record { name = x.0; field = x.1 }

abbrev pub place_parts : Place → Option (List ℕ × Option (List ℕ))
place_parts p = Some (p.name, p.field)

-- name [ "." name ]
unfoldable pub place : Grammar Place
place = only (name then field) place_made place_parts

abbrev pub place_of : Operand → Option Place
place_of (operands.Place p) = Some p
place_of (operands.Literal l) = None

abbrev pub literal_of : Operand → Option Literal
literal_of (operands.Place p) = None
literal_of (operands.Literal l) = Some l

-- place  or  literal
unfoldable pub operand : Grammar Operand
operand = either place operands.Place place_of (only (literal places.Literal) operands.Literal literal_of)

-- ---- lists

abbrev pub is_true : Bool → Option (Unit {0})
is_true true = Some tt
is_true false = None

abbrev pub is_false : Bool → Option (Unit {0})
is_false true = None
is_false false = Some tt

-- whether the first of two signs comes; the other must come else
unfoldable pub one_of : Lexeme → Lexeme → Grammar Bool
one_of a b = either (just a) (λ x. true) is_true (only (just b) (λ x. false) is_false)

abbrev pub nil : {A : Type 0} → Unit {0} → List A
nil x = []

abbrev pub nil_of : {A : Type 0} → List A → Option (Unit {0})
nil_of [] = Some tt
nil_of (x ∷ xs) = None

-- operand and what stands after it: "," or ")"
unfoldable pub argument : Grammar (Operand × Bool)
argument = operand then one_of (Sign Comma) (Sign CloseRound)

-- [ operand { "," operand } ] ")"
unfoldable pub arguments : Grammar (List Operand)
arguments = either (just (Sign CloseRound)) nil nil_of (chain argument)

-- ---- types

abbrev pub long_int_of : ScalarType → Option (Unit {0})
long_int_of scalars.LongInt = Some tt
long_int_of _ = None

abbrev pub long_unsigned_of : ScalarType → Option (Unit {0})
long_unsigned_of scalars.LongUnsignedInt = Some tt
long_unsigned_of _ = None

-- "int"  or  "unsigned" "int", after "long"
unfoldable pub long : Grammar ScalarType
long = either (just (Word word.Int)) (λ x. scalars.LongInt) long_int_of (
    only (Word word.Unsigned ▷ just (Word word.Int)) (λ x. scalars.LongUnsignedInt) long_unsigned_of)

abbrev pub int_of : ScalarType → Option (Unit {0})
int_of scalars.Int = Some tt
int_of _ = None

-- "int"  or  "long" long
unfoldable pub int_or_long : Grammar ScalarType
int_or_long = either (just (Word word.Int)) (λ x. scalars.Int) int_of (Word word.Long ▷ long)

abbrev pub unsigned_of : ScalarType → Option (Unit {0})
unsigned_of scalars.UnsignedInt = Some tt
unsigned_of _ = None

-- "unsigned" "int"  or  int_or_long
unfoldable pub scalar : Grammar ScalarType
scalar = either (Word word.Unsigned ▷ just (Word word.Int)) (λ x. scalars.UnsignedInt) unsigned_of int_or_long

-- ---- variables

abbrev pub struct_made : List ℕ × List ℕ → Declared
struct_made x = record { ty = types.Struct x.0; name = x.1 }

abbrev pub struct_type : TheType → List ℕ → Option (List ℕ × List ℕ)
struct_type (types.Struct s) n = Some (s, n)
struct_type (types.Scalar t) n = None

abbrev pub struct_parts : Declared → Option (List ℕ × List ℕ)
struct_parts d = struct_type d.ty d.name

abbrev pub scalar_made : ScalarType × List ℕ → Declared
scalar_made x = record { ty = types.Scalar x.0; name = x.1 }

abbrev pub scalar_type : TheType → List ℕ → Option (ScalarType × List ℕ)
scalar_type (types.Struct s) n = None
scalar_type (types.Scalar t) n = Some (t, n)

abbrev pub scalar_parts : Declared → Option (ScalarType × List ℕ)
scalar_parts d = scalar_type d.ty d.name

-- "struct" name name  or  scalar name
unfoldable pub variable : Grammar Declared
variable = either (Word word.Struct ▷ (name then name)) struct_made struct_parts (only (scalar then name) scalar_made scalar_parts)

-- the tokens with which a variable may begin
abbrev pub is_type : Lexeme → Bool
is_type t = same (Word word.Int) t || (same (Word word.Unsigned) t || (same (Word word.Long) t || same (Word word.Struct) t))

abbrev pub no_type : Lexeme → Bool
no_type t = if is_type t then false else true
