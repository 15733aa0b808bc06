-- Which numbers may stand at a place. A number is below the limit of its sign and suffix.
use Rattle.std.specs.Prelude.{ℕ, ◌+◌, ◌^◌, Bool, true, false, Option, Some, None, nat_lt, if◌then◌else◌}
use Rattle.gimple_ir.specs.declared.types.ElementType.{ElementType}
use Rattle.gimple_ir.specs.declared.types.ElementType.TheVariants.{Scalar, UnsignedChar}
use Rattle.gimple_ir.specs.declared.types.ScalarType.TheVariants.{Int, UnsignedInt, LongInt, LongUnsignedInt}
use Rattle.gimple_tokens.specs.declared.token.Suffix.{Suffix}
use Rattle.gimple_tokens.specs.declared.token.Suffix.TheVariants.{Plain, U, L, Ul}
use Rattle.gimple_tokens.specs.declared.token.TextKind.{TextKind}
use Rattle.gimple_tokens.specs.declared.token.TextKind.TheVariants.{Literal as LiteralFault}
use Rattle.gimple_tokens.specs.declared.numbers.NumberPlace.{NumberPlace}
use Rattle.gimple_tokens.specs.declared.numbers.NumberPlace.TheVariants.{Literal, Initial}
use Rattle.gimple_tokens.specs.Tokens.{Lexeme, Number}
use Rattle.gimple_tokens.specs.Stops.{fault_at}

-- A literal has the type of its suffix. After `-` there is none without a sign.
abbrev pub literal_limit : Bool → Suffix → ℕ
literal_limit false Plain = 2 ^ 31
literal_limit false U = 2 ^ 32
literal_limit false L = 2 ^ 63
literal_limit false Ul = 2 ^ 64
literal_limit true Plain = 2 ^ 31 + 1
literal_limit true L = 2 ^ 63 + 1
literal_limit true U = 0
literal_limit true Ul = 0

-- An initial value is in the range of its element.
abbrev pub element_limit : Bool → ElementType → ℕ
element_limit false (Scalar Int) = 2 ^ 31
element_limit false (Scalar UnsignedInt) = 2 ^ 32
element_limit false (Scalar LongInt) = 2 ^ 63
element_limit false (Scalar LongUnsignedInt) = 2 ^ 64
element_limit false UnsignedChar = 2 ^ 8
element_limit true (Scalar Int) = 2 ^ 31 + 1
element_limit true (Scalar UnsignedInt) = 1
element_limit true (Scalar LongInt) = 2 ^ 63 + 1
element_limit true (Scalar LongUnsignedInt) = 1
element_limit true UnsignedChar = 1

-- It has no suffix.
abbrev pub initial_limit : Bool → ElementType → Suffix → ℕ
initial_limit negative element Plain = element_limit negative element
initial_limit negative element _ = 0

abbrev pub limit_of : NumberPlace → Bool → Suffix → ℕ
limit_of Literal negative suffix = literal_limit negative suffix
limit_of (Initial element) negative suffix = initial_limit negative element suffix

-- a number at a place where it may stand
abbrev pub number_in : (Suffix → ℕ) → Lexeme → Option (ℕ × Suffix)
number_in limit (Number (Some n) s) = if nat_lt n (limit s) then Some (n, s) else None
number_in limit _ = None

-- any number that may not stand there is a fault of the literal, but a suffix after an initial value is one of the syntax
abbrev pub number_fault : NumberPlace → Lexeme → TextKind
number_fault Literal (Number v s) = LiteralFault
number_fault (Initial element) (Number v Plain) = LiteralFault
number_fault _ t = fault_at t

-- the length of an array
abbrev pub length_in : Lexeme → Option ℕ
length_in (Number (Some n) Plain) = if nat_lt n (2 ^ 32) then Some n else None
length_in _ = None

abbrev pub length_fault : Lexeme → TextKind
length_fault (Number v Plain) = LiteralFault
length_fault t = fault_at t
