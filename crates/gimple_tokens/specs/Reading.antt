-- Reading tokens from left to right: which one stands first, and what is left once it is passed over.
use Rattle.std.specs.Prelude.{◌≡◌, ℕ, Bool, true, false, List, [], ◌∷◌, Option, Some, None, nat_lt, if◌then◌else◌}
use denote.Enum.Bare.{sameb}
use Rattle.gimple_tokens.specs.contracts.token.Keyword.{the_type as keyword}
use Rattle.gimple_tokens.specs.contracts.token.Mark.{the_type as mark}
use Rattle.gimple_tokens.specs.declared.token.Mark.TheVariants.{CloseCurly}
use Rattle.gimple_tokens.specs.declared.token.Suffix.TheVariants.{Plain}
use Rattle.gimple_tokens.specs.Tokens.{Lexeme, Name, Word, Number, Sign, End, Placed, placed, same_text}

-- what stands first; the end stays the end
abbrev pub head_of : List Placed → Lexeme
head_of [] = End
head_of (p ∷ ts) = p.token

abbrev pub first_of : List Placed → Placed
first_of [] = placed End 0
first_of (p ∷ ts) = p

abbrev pub line_of : List Placed → ℕ
line_of [] = 0
line_of (p ∷ ts) = p.line

-- the same name, the same keyword, the same sign, or the end
abbrev pub same : Lexeme → Lexeme → Bool
same (Name a) (Name b) = same_text a b
same (Word a) (Word b) = sameb keyword a b
same (Sign a) (Sign b) = sameb mark a b
same End End = true
same _ _ = false

-- what is left once this token is passed over, if it stands first
unfoldable pub passed : Lexeme → List Placed → Option (List Placed)
passed t [] = None
passed t (p ∷ ts) = if same t p.token then Some ts else None

-- what is left after the first brace that closes, if one is left
unfoldable pub after_brace : List Placed → List Placed
after_brace [] = []
after_brace (p ∷ ts) = if same (Sign CloseCurly) p.token then ts else after_brace ts

-- What a call leaves that passes over all tokens up to the first such brace, and over that. Where none is left, nothing is said.
abbrev pub SkipsPastBrace : List Placed → List Placed → Type 0
SkipsPastBrace before after = (p : Placed) (ts : List Placed) → after_brace before ≡ p ∷ ts → after ≡ p ∷ ts

-- the number of a token without a suffix, where it is below the limit
abbrev pub number_below : ℕ → Lexeme → Option ℕ
number_below limit (Number (Some n) Plain) = if nat_lt n limit then Some n else None
number_below limit _ = None

abbrev pub with_rest : {A : Type 0} → List Placed → Option A → Option (A × List Placed)
with_rest ts None = None
with_rest ts (Some x) = Some (x, ts)

-- such a number and what is left, if it stands first
unfoldable pub read_number : ℕ → List Placed → Option (ℕ × List Placed)
read_number limit [] = None
read_number limit (p ∷ ts) = with_rest ts (number_below limit p.token)

-- What a call of the reader answered, and the tokens that it left, are what reading gives. Once it answers None, no
-- more is said of the reader.
abbrev pub Gives : {A : Type 0} → Option A → List Placed → Option (A × List Placed) → Type 0
Gives None after read = read ≡ None
Gives (Some x) after read = read ≡ Some (x, after)

abbrev pub Passes : Option (Unit {0}) → List Placed → Option (List Placed) → Type 0
Passes None after read = read ≡ None
Passes (Some x) after read = read ≡ Some after
