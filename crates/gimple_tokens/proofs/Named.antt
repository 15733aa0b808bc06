-- Each name among the tokens of a text is one of an item, a field, a variable or a label.
use Rattle.std.proofs.Common.{◌≡◌, ℕ, zero, suc, ◌+◌, ◌≤◌, Bool, true, false, Option, List, [], ◌∷◌, length, take, drop, refl, subst, arith, cond}
use Rattle.std.specs.Prelude.{◌||◌, ◌&&◌, ◌==◌, if◌then◌else◌, nat_lt, nat_le, not, codes}
use Rattle.std.specs.List.{list_all, prefix_len}
use Rattle.std.proofs.lemmas.List.Sums.{AllPass-from_list_all}
use Rattle.std.proofs.lemmas.List.Elements.{All-weaker}
use Rattle.std.proofs.lemmas.Bool.{ltb-false, le-leb}
use Rattle.gimple_ir.specs.Names.{IsName, IsPrintable, is_letter as letter, is_digit as digit, begins_with_letter, is_identifier, is_among, keywords}
use Rattle.gimple_tokens.specs.declared.token.Keyword.TheVariants.{Int, Unsigned, Long, Char, Struct, Static, Extern, Weak, Void, If, Else, Goto, Switch, Case, Default, Return}
use Rattle.gimple_tokens.specs.declared.token.Mark.{Mark}
use Rattle.gimple_tokens.specs.declared.token.Mark.TheVariants.{Semicolon, Colon, Comma, Dot, Minus, Plus, Asterisk, Slash, Percent, Ampersand, VerticalBar, Caret, Tilde, Equals, EqualsEquals, NotEquals, Less, LessEquals, Greater, GreaterEquals, ShiftLeft, ShiftRight, OpenRound, CloseRound, OpenSquare, CloseSquare, OpenCurly, CloseCurly}
use Rattle.gimple_tokens.specs.declared.token.Suffix.{Suffix}
use Rattle.gimple_tokens.specs.declared.token.TextKind.TheVariants.{Byte, Syntax, Literal}
use Rattle.gimple_tokens.specs.Tokens.{Lexeme, Name, Word, Number, Sign, Bad, Piece, Gap, Whole, Fault, Placed, placed, followed, passing, is_letter, is_digit, is_word_byte, is_space, is_bad, is_comment_byte, is_slash_first, small, value_of, suffix_at, suffix_len, word_of, word_at, number_at, sign_at, piece_at, if_next, one, tokens_from, IsNamed, same_text}
use Rattle.gimple_tokens.specs.Reading.{head_of}

-- ---- the names of items are names

word-bytes : (byte : ℕ) → (letter byte || digit byte) ≡ true → IsPrintable byte
word-bytes byte e = grind (arith, e)

some-byte : (w : List ℕ) → begins_with_letter w ≡ true → 1 ≤ length w
some-byte [] e = absurd cc
some-byte (b ∷ bs) e = omega arith

four-are : (a b c d : Bool) → (a && b && c && d) ≡ true → (a ≡ true) × (b ≡ true) × (c ≡ true)
four-are true true true d e = (refl, refl, refl)
four-are false b c d e = absurd cc
four-are true false c d e = absurd cc
four-are true true false d e = absurd cc

pub IsName-from_identifier : (w : List ℕ) → is_identifier w ≡ true → IsName w
IsName-from_identifier w e =
    let are = four-are (begins_with_letter w) (list_all (λ byte. letter byte || digit byte) w) (nat_le (length w) 255) (not (is_among keywords w)) e in
    record {
      some = some-byte w are.0;
      bounded = grind (arith, are.2);
      printable = All-weaker (λ byte. (letter byte || digit byte) ≡ true) IsPrintable word-bytes w (AllPass-from_list_all (λ byte. letter byte || digit byte) w are.1);
    }

-- ---- words

letter-is : (b : ℕ) → is_letter b ≡ true → letter b ≡ true
letter-is b e = grind (arith, e)

byte-is : (b : ℕ) → is_word_byte b ≡ true → (letter b || digit b) ≡ true
byte-is b e = grind (arith, e)

kept : (b : ℕ) (bs : List ℕ) (c : Bool) → is_word_byte b ≡ c → list_all (λ byte. letter byte || digit byte) (take (prefix_len is_word_byte bs) bs) ≡ true
    → list_all (λ byte. letter byte || digit byte) (take (cond c (1 + prefix_len is_word_byte bs) 0) (b ∷ bs)) ≡ true
kept b bs true e so_far = let next : 1 + prefix_len is_word_byte bs ≡ suc (prefix_len is_word_byte bs) = omega arith in rw (next, byte-is b e) so_far
kept b bs false e so_far = refl

all-prefix : (bs : List ℕ) → list_all (λ byte. letter byte || digit byte) (take (prefix_len is_word_byte bs) bs) ≡ true
all-prefix [] = refl
all-prefix (b ∷ bs) = kept b bs (is_word_byte b) refl (all-prefix bs)

identifier : (w : List ℕ) → begins_with_letter w ≡ true → list_all (λ byte. letter byte || digit byte) w ≡ true → nat_lt 255 (length w) ≡ false → is_among keywords w ≡ false → is_identifier w ≡ true
identifier w first all short none = let most : nat_le (length w) 255 ≡ true = le-leb (length w) 255 (ltb-false 255 (length w) short) in rw (first, all, most, none) refl

-- a word that is no keyword is a name of an item
words : (w : List ℕ) (b1 b2 b3 b4 b5 b6 b7 b8 b9 b10 b11 b12 b13 b14 b15 b16 b17 : Bool) → (b1 ≡ false → b2 ≡ false → b3 ≡ false → b4 ≡ false → b5 ≡ false → b6 ≡ false → b7 ≡ false → b8 ≡ false → b9 ≡ false → b10 ≡ false → b11 ≡ false → b12 ≡ false → b13 ≡ false → b14 ≡ false → b15 ≡ false → b16 ≡ false → b17 ≡ false → IsNamed (Name w))
    → IsNamed (if b1 then Word Int else if b2 then Word Unsigned else if b3 then Word Long else if b4 then Word Char else if b5 then Word Struct else if b6 then Word Static else if b7 then Word Extern else if b8 then Word Weak else if b9 then Word Void else if b10 then Word If else if b11 then Word Else else if b12 then Word Goto else if b13 then Word Switch else if b14 then Word Case else if b15 then Word Default else if b16 then Word Return else if b17 then Bad Syntax else Name w)
words w true b2 b3 b4 b5 b6 b7 b8 b9 b10 b11 b12 b13 b14 b15 b16 b17 f = tt
words w false true b3 b4 b5 b6 b7 b8 b9 b10 b11 b12 b13 b14 b15 b16 b17 f = tt
words w false false true b4 b5 b6 b7 b8 b9 b10 b11 b12 b13 b14 b15 b16 b17 f = tt
words w false false false true b5 b6 b7 b8 b9 b10 b11 b12 b13 b14 b15 b16 b17 f = tt
words w false false false false true b6 b7 b8 b9 b10 b11 b12 b13 b14 b15 b16 b17 f = tt
words w false false false false false true b7 b8 b9 b10 b11 b12 b13 b14 b15 b16 b17 f = tt
words w false false false false false false true b8 b9 b10 b11 b12 b13 b14 b15 b16 b17 f = tt
words w false false false false false false false true b9 b10 b11 b12 b13 b14 b15 b16 b17 f = tt
words w false false false false false false false false true b10 b11 b12 b13 b14 b15 b16 b17 f = tt
words w false false false false false false false false false true b11 b12 b13 b14 b15 b16 b17 f = tt
words w false false false false false false false false false false true b12 b13 b14 b15 b16 b17 f = tt
words w false false false false false false false false false false false true b13 b14 b15 b16 b17 f = tt
words w false false false false false false false false false false false false true b14 b15 b16 b17 f = tt
words w false false false false false false false false false false false false false true b15 b16 b17 f = tt
words w false false false false false false false false false false false false false false true b16 b17 f = tt
words w false false false false false false false false false false false false false false false true b17 f = tt
words w false false false false false false false false false false false false false false false false true f = tt
words w false false false false false false false false false false false false false false false false false f = f refl refl refl refl refl refl refl refl refl refl refl refl refl refl refl refl refl

word-named : (w : List ℕ) → begins_with_letter w ≡ true → list_all (λ byte. letter byte || digit byte) w ≡ true → IsNamed (word_of w)
unfolding word_of
word-named w first all =
    words w (same_text w (codes "int")) (same_text w (codes "unsigned")) (same_text w (codes "long")) (same_text w (codes "char")) (same_text w (codes "struct")) (same_text w (codes "static")) (same_text w (codes "extern")) (same_text w (codes "weak")) (same_text w (codes "void")) (same_text w (codes "if")) (same_text w (codes "else")) (same_text w (codes "goto")) (same_text w (codes "switch")) (same_text w (codes "case")) (same_text w (codes "default")) (same_text w (codes "return")) (nat_lt 255 (length w))
    (λ e1 e2 e3 e4 e5 e6 e7 e8 e9 e10 e11 e12 e13 e14 e15 e16 e17. identifier w first all e17 (rw (e1, e2, e3, e4, e5, e6, e7, e8, e9, e10, e11, e12, e13, e14, e15, e16) refl))

-- ---- pieces and tokens

abbrev IsPieceNamed : Piece → Type 0
IsPieceNamed (Gap n) = Unit {0}
IsPieceNamed (Whole t n) = IsNamed t
IsPieceNamed (Fault kind) = Unit {0}

word-piece : (b : ℕ) (bs : List ℕ) → is_letter b ≡ true → IsPieceNamed (word_at b bs)
unfolding word_at
word-piece b bs e =
    let first = letter-is b e in
    let start : (letter b || digit b) ≡ true = rw first refl in
    word-named (b ∷ take (prefix_len is_word_byte bs) bs) first (rw start (all-prefix bs))

numbers : (b : Bool) (v : Option ℕ) (s : Suffix) (n : ℕ) → IsPieceNamed (if b then Fault Literal else Whole (Number v s) n)
numbers true v s n = tt
numbers false v s n = tt

number-piece : (b : ℕ) (bs : List ℕ) → IsPieceNamed (number_at b bs)
unfolding number_at
number-piece b bs =
    let n = prefix_len is_digit bs in
    let s = suffix_at (drop n bs) in
    numbers (b == 48 && nat_lt 0 n) (small (value_of (b ∷ take n bs))) s (n + suffix_len s)

next-one : (b : Bool) (both : Mark) (other : Piece) → IsPieceNamed other → IsPieceNamed (if b then Whole (Sign both) 1 else other)
next-one true both other p = tt
next-one false both other p = p

next-piece : (c : ℕ) (both : Mark) (bs : List ℕ) (other : Piece) → IsPieceNamed other → IsPieceNamed (if_next c both bs other)
next-piece c both [] other p = p
next-piece c both (x ∷ bs) other p = next-one (x == c) both other p

signs : (b1 b2 b3 b4 b5 b6 b7 b8 b9 b10 b11 b12 b13 b14 b15 b16 b17 b18 b19 b20 b21 b22 b23 : Bool) (p q r s : Piece) → IsPieceNamed p → IsPieceNamed q → IsPieceNamed r → IsPieceNamed s
    → IsPieceNamed (if b1 then one Semicolon else if b2 then one Colon else if b3 then one Comma else if b4 then one Dot else if b5 then one Minus else if b6 then one Plus else if b7 then one Asterisk else if b8 then one Slash else if b9 then one Percent else if b10 then one Ampersand else if b11 then one VerticalBar else if b12 then one Caret else if b13 then one Tilde else if b14 then p else if b15 then q else if b16 then r else if b17 then s else if b18 then one OpenRound else if b19 then one CloseRound else if b20 then one OpenSquare else if b21 then one CloseSquare else if b22 then one OpenCurly else if b23 then one CloseCurly else Fault Syntax)
signs true b2 b3 b4 b5 b6 b7 b8 b9 b10 b11 b12 b13 b14 b15 b16 b17 b18 b19 b20 b21 b22 b23 p q r s hp hq hr hs = tt
signs false true b3 b4 b5 b6 b7 b8 b9 b10 b11 b12 b13 b14 b15 b16 b17 b18 b19 b20 b21 b22 b23 p q r s hp hq hr hs = tt
signs false false true b4 b5 b6 b7 b8 b9 b10 b11 b12 b13 b14 b15 b16 b17 b18 b19 b20 b21 b22 b23 p q r s hp hq hr hs = tt
signs false false false true b5 b6 b7 b8 b9 b10 b11 b12 b13 b14 b15 b16 b17 b18 b19 b20 b21 b22 b23 p q r s hp hq hr hs = tt
signs false false false false true b6 b7 b8 b9 b10 b11 b12 b13 b14 b15 b16 b17 b18 b19 b20 b21 b22 b23 p q r s hp hq hr hs = tt
signs false false false false false true b7 b8 b9 b10 b11 b12 b13 b14 b15 b16 b17 b18 b19 b20 b21 b22 b23 p q r s hp hq hr hs = tt
signs false false false false false false true b8 b9 b10 b11 b12 b13 b14 b15 b16 b17 b18 b19 b20 b21 b22 b23 p q r s hp hq hr hs = tt
signs false false false false false false false true b9 b10 b11 b12 b13 b14 b15 b16 b17 b18 b19 b20 b21 b22 b23 p q r s hp hq hr hs = tt
signs false false false false false false false false true b10 b11 b12 b13 b14 b15 b16 b17 b18 b19 b20 b21 b22 b23 p q r s hp hq hr hs = tt
signs false false false false false false false false false true b11 b12 b13 b14 b15 b16 b17 b18 b19 b20 b21 b22 b23 p q r s hp hq hr hs = tt
signs false false false false false false false false false false true b12 b13 b14 b15 b16 b17 b18 b19 b20 b21 b22 b23 p q r s hp hq hr hs = tt
signs false false false false false false false false false false false true b13 b14 b15 b16 b17 b18 b19 b20 b21 b22 b23 p q r s hp hq hr hs = tt
signs false false false false false false false false false false false false true b14 b15 b16 b17 b18 b19 b20 b21 b22 b23 p q r s hp hq hr hs = tt
signs false false false false false false false false false false false false false true b15 b16 b17 b18 b19 b20 b21 b22 b23 p q r s hp hq hr hs = hp
signs false false false false false false false false false false false false false false true b16 b17 b18 b19 b20 b21 b22 b23 p q r s hp hq hr hs = hq
signs false false false false false false false false false false false false false false false true b17 b18 b19 b20 b21 b22 b23 p q r s hp hq hr hs = hr
signs false false false false false false false false false false false false false false false false true b18 b19 b20 b21 b22 b23 p q r s hp hq hr hs = hs
signs false false false false false false false false false false false false false false false false false true b19 b20 b21 b22 b23 p q r s hp hq hr hs = tt
signs false false false false false false false false false false false false false false false false false false true b20 b21 b22 b23 p q r s hp hq hr hs = tt
signs false false false false false false false false false false false false false false false false false false false true b21 b22 b23 p q r s hp hq hr hs = tt
signs false false false false false false false false false false false false false false false false false false false false true b22 b23 p q r s hp hq hr hs = tt
signs false false false false false false false false false false false false false false false false false false false false false true b23 p q r s hp hq hr hs = tt
signs false false false false false false false false false false false false false false false false false false false false false false true p q r s hp hq hr hs = tt
signs false false false false false false false false false false false false false false false false false false false false false false false p q r s hp hq hr hs = tt

sign-piece : (b : ℕ) (bs : List ℕ) → IsPieceNamed (sign_at b bs)
unfolding sign_at
sign-piece b bs =
    signs (b == 59) (b == 58) (b == 44) (b == 46) (b == 45) (b == 43) (b == 42) (b == 47) (b == 37) (b == 38) (b == 124) (b == 94) (b == 126) (b == 61) (b == 33) (b == 60) (b == 62) (b == 40) (b == 41) (b == 91) (b == 93) (b == 123) (b == 125)
    (if_next 61 EqualsEquals bs (one Equals)) (if_next 61 NotEquals bs (Fault Syntax)) (if_next 61 LessEquals bs (if_next 60 ShiftLeft bs (one Less))) (if_next 61 GreaterEquals bs (if_next 62 ShiftRight bs (one Greater)))
    (next-piece 61 EqualsEquals bs (one Equals) tt) (next-piece 61 NotEquals bs (Fault Syntax) tt)
    (next-piece 61 LessEquals bs (if_next 60 ShiftLeft bs (one Less)) (next-piece 60 ShiftLeft bs (one Less) tt)) (next-piece 61 GreaterEquals bs (if_next 62 ShiftRight bs (one Greater)) (next-piece 62 ShiftRight bs (one Greater) tt))

pieces : (b1 b2 b3 b4 b5 : Bool) (w n s : Piece) (c : ℕ) → (b3 ≡ true → IsPieceNamed w) → IsPieceNamed n → IsPieceNamed s
    → IsPieceNamed (if b1 then Gap 0 else if b2 then Fault Byte else if b3 then w else if b4 then n else if b5 then Gap c else s)
pieces true b2 b3 b4 b5 w n s c hw hn hs = tt
pieces false true b3 b4 b5 w n s c hw hn hs = tt
pieces false false true b4 b5 w n s c hw hn hs = hw refl
pieces false false false true b5 w n s c hw hn hs = hn
pieces false false false false true w n s c hw hn hs = tt
pieces false false false false false w n s c hw hn hs = hs

piece-named : (b : ℕ) (bs : List ℕ) → IsPieceNamed (piece_at b bs)
unfolding piece_at
piece-named b bs =
    pieces (is_space b) (is_bad b) (is_letter b) (is_digit b) (b == 47 && is_slash_first bs) (word_at b bs) (number_at b bs) (sign_at b bs) (prefix_len is_comment_byte bs)
    (word-piece b bs) (number-piece b bs) (sign-piece b bs)

passing-named : (line b : ℕ) (p : Piece) (go : ℕ → ℕ → List Placed) → IsPieceNamed p → ((at n : ℕ) → IsNamed (head_of (go at n))) → IsNamed (head_of (passing line b p go))
passing-named line b (Gap n) go p f = f (if b == 10 then line + 1 else line) n
passing-named line b (Whole t n) go p f = p
passing-named line b (Fault kind) go p f = tt

pub first-named : (line skip : ℕ) (bs : List ℕ) → IsNamed (head_of (tokens_from line skip bs))
unfolding tokens_from
first-named line skip [] = tt
first-named line (suc n) (b ∷ bs) = first-named line n bs
first-named line zero (b ∷ bs) = passing-named line b (piece_at b bs) (λ at n. tokens_from at n bs) (piece-named b bs) (λ at n. first-named at n bs)

pub followed-named : (line at : ℕ) (t : Lexeme) (text : List ℕ) (rest : List Placed) → tokens_from line 0 text ≡ followed (placed t at) rest → IsNamed t
followed-named line at t text rest e = subst (λ (ts : List Placed). IsNamed (head_of ts)) e (first-named line 0 text)
