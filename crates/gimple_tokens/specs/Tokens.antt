-- The tokens of a text, each with its line.
use Rattle.std.specs.Prelude.{ℕ, zero, suc, ◌+◌, ◌-◌, ◌*◌, ◌^◌, Bool, true, false, ◌&&◌, ◌||◌, List, [], ◌∷◌, length, take, drop, Option, Some, None, nat_lt, nat_le, ◌==◌, if◌then◌else◌, fold, nat_eq, codes}
use Rattle.std.specs.List.{prefix_len}
use Rattle.std.specs.Cmp.Lexicographic.{pointwise}
use Rattle.gimple_ir.specs.Programs.{IsIdentifier}
use Rattle.gimple_tokens.specs.declared.token.Keyword.{Keyword}
use Rattle.gimple_tokens.specs.declared.token.Keyword.TheVariants.{Int, Unsigned, Long, Char, Struct, Static, Extern, Weak, Void, If, Else, Goto, Switch, Case, Default, Return}
use Rattle.gimple_tokens.specs.declared.token.Mark.{Mark}
use Rattle.gimple_tokens.specs.declared.token.Mark.TheVariants.{Semicolon, Colon, Comma, Dot, Minus, Plus, Asterisk, Slash, Percent, Ampersand, VerticalBar, Caret, Tilde, Equals, EqualsEquals, NotEquals, Less, LessEquals, Greater, GreaterEquals, ShiftLeft, ShiftRight, OpenRound, CloseRound, OpenSquare, CloseSquare, OpenCurly, CloseCurly}
use Rattle.gimple_tokens.specs.declared.token.Suffix.{Suffix}
use Rattle.gimple_tokens.specs.declared.token.Suffix.TheVariants.{Plain, U, L, Ul}
use Rattle.gimple_tokens.specs.declared.token.TextKind.{TextKind}
use Rattle.gimple_tokens.specs.declared.token.TextKind.TheVariants.{Byte, Syntax, Literal}
use Rattle.gimple_tokens.specs.declared.token.Token.{Token}
use Rattle.gimple_tokens.specs.declared.token.Token.TheVariants as code

-- a token without where it lies in memory
pub data Lexeme : Type 0 where
  Name : List ℕ → Lexeme
  Word : Keyword → Lexeme
  Number : Option ℕ → Suffix → Lexeme
  Sign : Mark → Lexeme
  End : Lexeme
  Bad : TextKind → Lexeme

abbrev pub lexeme_of : Token → Lexeme
lexeme_of (code.Name text) = Name text.now
lexeme_of (code.Word k) = Word k
lexeme_of (code.Number n s) = Number n s
lexeme_of (code.Sign m) = Sign m
lexeme_of code.End = End
lexeme_of (code.Bad kind) = Bad kind

-- a token and its line
pub record Placed : Type 0 where
  pub token : Lexeme
  pub line : ℕ

abbrev pub placed : Lexeme → ℕ → Placed
placed t n = record { token = t; line = n }

-- ---- sorts of bytes

abbrev pub is_space : ℕ → Bool
is_space b = b == 32 || (b == 10 || (b == 9 || b == 13))

abbrev pub is_letter : ℕ → Bool
is_letter b = (nat_le 97 b && nat_le b 122) || ((nat_le 65 b && nat_le b 90) || b == 95)

abbrev pub is_digit : ℕ → Bool
is_digit b = nat_le 48 b && nat_le b 57

abbrev pub is_word_byte : ℕ → Bool
is_word_byte b = is_letter b || is_digit b

-- no separator, and no character
abbrev pub is_bad : ℕ → Bool
is_bad b = nat_le 127 b || (nat_lt b 32 && (if is_space b then false else true))

-- what goes on with a comment
abbrev pub is_comment_byte : ℕ → Bool
is_comment_byte b = if b == 10 then false else if is_bad b then false else true

-- ---- the token at the front

-- At the front stands nothing that counts, a token, or a fault. The number is that of the bytes after the first that belong to it.
pub data Piece : Type 0 where
  Gap : ℕ → Piece
  Whole : Lexeme → ℕ → Piece
  Fault : TextKind → Piece

abbrev pub same_text : List ℕ → List ℕ → Bool
same_text a b = pointwise nat_eq a b

-- the keyword or the name
unfoldable pub word_of : List ℕ → Lexeme
word_of w =
    if same_text w (codes "int") then Word Int
    else if same_text w (codes "unsigned") then Word Unsigned
    else if same_text w (codes "long") then Word Long
    else if same_text w (codes "char") then Word Char
    else if same_text w (codes "struct") then Word Struct
    else if same_text w (codes "static") then Word Static
    else if same_text w (codes "extern") then Word Extern
    else if same_text w (codes "weak") then Word Weak
    else if same_text w (codes "void") then Word Void
    else if same_text w (codes "if") then Word If
    else if same_text w (codes "else") then Word Else
    else if same_text w (codes "goto") then Word Goto
    else if same_text w (codes "switch") then Word Switch
    else if same_text w (codes "case") then Word Case
    else if same_text w (codes "default") then Word Default
    else if same_text w (codes "return") then Word Return
    else if nat_lt 255 (length w) then Bad Syntax
    else Name w

-- the value of a decimal
abbrev pub value_of : List ℕ → ℕ
value_of digits = fold (λ n d. n * 10 + (d - 48)) 0 digits

-- the value where it is one of 64 bits
abbrev pub small : ℕ → Option ℕ
small n = if nat_lt n (2 ^ 64) then Some n else None

-- what stands after the digits, and its length
abbrev pub suffix_at : List ℕ → Suffix
suffix_at [] = Plain
suffix_at (b ∷ []) = if b == 117 then U else if b == 108 then L else Plain
suffix_at (b ∷ c ∷ bs) = if b == 117 then (if c == 108 then Ul else U) else if b == 108 then L else Plain

abbrev pub suffix_len : Suffix → ℕ
suffix_len Plain = 0
suffix_len U = 1
suffix_len L = 1
suffix_len Ul = 2

-- a sign of two bytes where this byte comes next, else the other
abbrev pub if_next : ℕ → Mark → List ℕ → Piece → Piece
if_next c both [] other = other
if_next c both (x ∷ bs) other = if x == c then Whole (Sign both) 1 else other

abbrev pub one : Mark → Piece
one m = Whole (Sign m) 0

-- the sign that a byte begins with those after it
unfoldable pub sign_at : ℕ → List ℕ → Piece
sign_at b bs =
    if b == 59 then one Semicolon
    else if b == 58 then one Colon
    else if b == 44 then one Comma
    else if b == 46 then one Dot
    else if b == 45 then one Minus
    else if b == 43 then one Plus
    else if b == 42 then one Asterisk
    else if b == 47 then one Slash
    else if b == 37 then one Percent
    else if b == 38 then one Ampersand
    else if b == 124 then one VerticalBar
    else if b == 94 then one Caret
    else if b == 126 then one Tilde
    else if b == 61 then if_next 61 EqualsEquals bs (one Equals)
    else if b == 33 then if_next 61 NotEquals bs (Fault Syntax)
    else if b == 60 then if_next 61 LessEquals bs (if_next 60 ShiftLeft bs (one Less))
    else if b == 62 then if_next 61 GreaterEquals bs (if_next 62 ShiftRight bs (one Greater))
    else if b == 40 then one OpenRound
    else if b == 41 then one CloseRound
    else if b == 91 then one OpenSquare
    else if b == 93 then one CloseSquare
    else if b == 123 then one OpenCurly
    else if b == 125 then one CloseCurly
    else Fault Syntax

-- the digits from b on, and how many of them follow it
unfoldable pub number_at : ℕ → List ℕ → Piece
number_at b bs =
    let n = prefix_len is_digit bs in
    let s = suffix_at (drop n bs) in
    if b == 48 && nat_lt 0 n then Fault Literal
    else Whole (Number (small (value_of (b ∷ take n bs))) s) (n + suffix_len s)

unfoldable pub word_at : ℕ → List ℕ → Piece
word_at b bs = let n = prefix_len is_word_byte bs in Whole (word_of (b ∷ take n bs)) n

-- a comment goes to the line's end, or to a byte that may not stand in it
abbrev pub is_slash_first : List ℕ → Bool
is_slash_first [] = false
is_slash_first (b ∷ bs) = b == 47

unfoldable pub piece_at : ℕ → List ℕ → Piece
piece_at b bs =
    if is_space b then Gap 0
    else if is_bad b then Fault Byte
    else if is_letter b then word_at b bs
    else if is_digit b then number_at b bs
    else if b == 47 && is_slash_first bs then Gap (prefix_len is_comment_byte bs)
    else sign_at b bs

-- ---- the tokens of a text

-- Each newline is a gap of its own. A word that is too long is Bad, and ends the tokens as every fault does.
abbrev pub ends : Lexeme → Bool
ends End = true
ends (Bad kind) = true
ends _ = false

abbrev pub followed : Placed → List Placed → List Placed
followed p rest = p ∷ (if ends p.token then [] else rest)

abbrev pub passing : ℕ → ℕ → Piece → (ℕ → ℕ → List Placed) → List Placed
passing line b (Gap n) go = go (if b == 10 then line + 1 else line) n
passing line b (Whole t n) go = followed (placed t line) (go line n)
passing line b (Fault kind) go = placed (Bad kind) line ∷ []

-- The tokens of the bytes that begin in a line, once so many bytes are passed over. The last one is End or Bad.
unfoldable pub tokens_from : ℕ → ℕ → List ℕ → List Placed
tokens_from line skip [] = placed End line ∷ []
tokens_from line (suc n) (b ∷ bs) = tokens_from line n bs
tokens_from line zero (b ∷ bs) = passing line b (piece_at b bs) (λ at n. tokens_from at n bs)

abbrev pub tokens_of : List ℕ → List Placed
tokens_of text = tokens_from 1 0 text

-- a name is one of an item, a field, a variable or a label
abbrev pub IsNamed : Lexeme → Type 0
IsNamed (Name w) = IsIdentifier w
IsNamed _ = Unit {0}
