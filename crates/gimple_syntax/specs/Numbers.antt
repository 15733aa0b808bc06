-- The numbers of names, and the values of literals.
use Rattle.std.specs.Prelude.{ℕ, ◌-◌, ◌^◌, ◌%◌, ℤ, pos, neg_ℤ, List, [], ◌∷◌, Bool, false, nat_eq, min, slice_get, length, Option, None, if◌then◌else◌}
use Rattle.std.specs.List.{position}
use Rattle.std.specs.Option.{option_map_or}
use Rattle.std.specs.Ordering.{int_eq}
use Rattle.std.specs.Str.{bytes_eq}
use Rattle.gimple_ir.specs.declared.types.ScalarType.{ScalarType}
use Rattle.gimple_ir.specs.declared.types.ScalarType.TheVariants.{Int, UnsignedInt, LongInt, LongUnsignedInt}
use Rattle.gimple_ir.specs.declared.types.ElementType.{ElementType}
use Rattle.gimple_ir.specs.declared.types.ElementType.TheVariants as element
use Rattle.gimple_ir.specs.declared.types.Value.{Value}
use Rattle.gimple_ir.specs.Names.{is_builtin}
use Rattle.gimple_ir.specs.Values.{reduced}
use Rattle.gimple_tokens.specs.declared.token.Suffix.{Suffix}
use Rattle.gimple_tokens.specs.declared.token.Suffix.TheVariants.{Plain, U, L, Ul}
use Rattle.gimple_grammar.specs.declared.syntax.Literal.{Literal}

-- ---- names

-- a number that names nothing, since there are fewer of anything
abbrev pub nothing : ℕ
nothing = 2 ^ 32 - 1

-- the place of the first of the names that is this one
unfoldable pub number_of : List (List ℕ) → List ℕ → ℕ
number_of names name = min (option_map_or (λ place. place) (position (bytes_eq name) names) nothing) nothing

-- what stands at a number, if it names something
abbrev pub at_number : {A : Type 0} → List A → ℕ → Option A
at_number items number = if nat_eq number nothing then None else slice_get items number

-- that of an array or a function, none of which has the name of a builtin function
abbrev pub item_number : List (List ℕ) → List ℕ → ℕ
item_number names name = if is_builtin name then nothing else number_of names name

-- ---- literals, whose numbers are in range where the grammar spells them

abbrev pub type_of_suffix : Suffix → ScalarType
type_of_suffix Plain = Int
type_of_suffix U = UnsignedInt
type_of_suffix L = LongInt
type_of_suffix Ul = LongUnsignedInt

abbrev pub signed : Literal → ℤ
signed l = if l.negative then neg_ℤ (pos l.number) else pos l.number

abbrev pub value_of : Literal → Value
value_of l = record { ty = type_of_suffix l.suffix; num = reduced (type_of_suffix l.suffix) (signed l) }

abbrev pub byte_of : Literal → ℕ
byte_of l = l.number % 256

-- an element's number; of an `unsigned char` the low 8 bits
abbrev pub element_of : ElementType → Literal → ℤ
element_of (element.Scalar ty) l = reduced ty (signed l)
element_of element.UnsignedChar l = pos (byte_of l)

abbrev pub put_front : ℤ → List ℤ → List ℤ
put_front z [] = if int_eq z (pos 0) then [] else z ∷ []
put_front z (y ∷ ys) = z ∷ (y ∷ ys)

-- the last zeros left out
abbrev pub shortened : List ℤ → List ℤ
shortened [] = []
shortened (z ∷ zs) = put_front z (shortened zs)

-- the last is a zero
abbrev pub ends_in_zero : List ℤ → Bool
ends_in_zero zs = option_map_or (λ z. int_eq z (pos 0)) (slice_get zs (length zs - 1)) false
