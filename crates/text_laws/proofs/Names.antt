-- Names and keywords are read as tokens of their own.
use Rattle.std.proofs.Common.{◌≡◌, ℕ, Bool, true, false, List, [], ◌∷◌, ◌++◌, length, refl, arith}
use Rattle.std.specs.Prelude.{◌||◌, ◌&&◌, if◌then◌else◌, nat_lt, nat_le, not, codes}
use Rattle.std.specs.List.{list_all}
use Rattle.gimple_ir.specs.Names.{is_letter as letter, is_digit as digit, begins_with_letter, is_among, keywords}
use Rattle.gimple_ir.specs.Programs.{IsIdentifier}
use Rattle.gimple_tokens.specs.declared.token.Keyword.{Keyword}
use Rattle.gimple_tokens.specs.declared.token.Keyword.TheVariants as keyword
use Rattle.gimple_tokens.specs.declared.token.TextKind.TheVariants.{Syntax}
use Rattle.gimple_tokens.specs.Tokens.{Name, Word, Bad, placed, is_letter, is_word_byte, same_text, word_of, tokens_from}
use Rattle.text_laws.specs.Written.{AllTrue}
use Rattle.text_laws.proofs.Spaced.{first_is, IsWord, word}

-- ---- the bytes of a word

letter-is : (b : ℕ) → letter b ≡ true → is_letter b ≡ true
letter-is b e = grind (arith, e)

byte-is : (b : ℕ) → (letter b || digit b) ≡ true → is_word_byte b ≡ true
byte-is b e = grind (arith, e)

both-are : (a b : Bool) → (a && b) ≡ true → (a ≡ true) × (b ≡ true)
both-are true b e = (refl, e)
both-are false b e = absurd cc

all-are : (bs : List ℕ) → list_all (λ byte. letter byte || digit byte) bs ≡ true → AllTrue is_word_byte bs
all-are [] e = tt
all-are (b ∷ bs) e = let p = both-are (letter b || digit b) (list_all (λ byte. letter byte || digit byte) bs) e in (byte-is b p.0, all-are bs p.1)

is-word : (w : List ℕ) → begins_with_letter w ≡ true → list_all (λ byte. letter byte || digit byte) w ≡ true → IsWord w
is-word [] first all = absurd cc
is-word (b ∷ bs) first all =
    let p = both-are (letter b || digit b) (list_all (λ byte. letter byte || digit byte) bs) all in
    record { first = b; more = bs; is = refl; letter = letter-is b first; all = all-are bs p.1 }

-- ---- names

four-are : (a b c d : Bool) → (a && b && c && not d) ≡ true → (a ≡ true) × (b ≡ true) × (c ≡ true) × (d ≡ false)
four-are true true true false e = (refl, refl, refl, refl)
four-are true true true true e = absurd cc
four-are false b c d e = absurd cc
four-are true false c d e = absurd cc
four-are true true false d e = absurd cc

no-keyword : (w : List ℕ) (b1 b2 b3 b4 b5 b6 b7 b8 b9 b10 b11 b12 b13 b14 b15 b16 b17 : Bool) → (b1 || (b2 || (b3 || (b4 || (b5 || (b6 || (b7 || (b8 || (b9 || (b10 || (b11 || (b12 || (b13 || (b14 || (b15 || (b16 || false)))))))))))))))) ≡ false → b17 ≡ false
    → (if b1 then Word keyword.Int else if b2 then Word keyword.Unsigned else if b3 then Word keyword.Long else if b4 then Word keyword.Char else if b5 then Word keyword.Struct else if b6 then Word keyword.Static else if b7 then Word keyword.Extern else if b8 then Word keyword.Weak else if b9 then Word keyword.Void else if b10 then Word keyword.If else if b11 then Word keyword.Else else if b12 then Word keyword.Goto else if b13 then Word keyword.Switch else if b14 then Word keyword.Case else if b15 then Word keyword.Default else if b16 then Word keyword.Return else if b17 then Bad Syntax else Name w) ≡ Name w
no-keyword w true b2 b3 b4 b5 b6 b7 b8 b9 b10 b11 b12 b13 b14 b15 b16 b17 none short = absurd cc
no-keyword w false true b3 b4 b5 b6 b7 b8 b9 b10 b11 b12 b13 b14 b15 b16 b17 none short = absurd cc
no-keyword w false false true b4 b5 b6 b7 b8 b9 b10 b11 b12 b13 b14 b15 b16 b17 none short = absurd cc
no-keyword w false false false true b5 b6 b7 b8 b9 b10 b11 b12 b13 b14 b15 b16 b17 none short = absurd cc
no-keyword w false false false false true b6 b7 b8 b9 b10 b11 b12 b13 b14 b15 b16 b17 none short = absurd cc
no-keyword w false false false false false true b7 b8 b9 b10 b11 b12 b13 b14 b15 b16 b17 none short = absurd cc
no-keyword w false false false false false false true b8 b9 b10 b11 b12 b13 b14 b15 b16 b17 none short = absurd cc
no-keyword w false false false false false false false true b9 b10 b11 b12 b13 b14 b15 b16 b17 none short = absurd cc
no-keyword w false false false false false false false false true b10 b11 b12 b13 b14 b15 b16 b17 none short = absurd cc
no-keyword w false false false false false false false false false true b11 b12 b13 b14 b15 b16 b17 none short = absurd cc
no-keyword w false false false false false false false false false false true b12 b13 b14 b15 b16 b17 none short = absurd cc
no-keyword w false false false false false false false false false false false true b13 b14 b15 b16 b17 none short = absurd cc
no-keyword w false false false false false false false false false false false false true b14 b15 b16 b17 none short = absurd cc
no-keyword w false false false false false false false false false false false false false true b15 b16 b17 none short = absurd cc
no-keyword w false false false false false false false false false false false false false false true b16 b17 none short = absurd cc
no-keyword w false false false false false false false false false false false false false false false true b17 none short = absurd cc
no-keyword w false false false false false false false false false false false false false false false false true none short = absurd cc
no-keyword w false false false false false false false false false false false false false false false false false none short = refl

short-is : (n : ℕ) → nat_le n 255 ≡ true → nat_lt 255 n ≡ false
short-is n e = grind (arith, e)

pub name-of : (w : List ℕ) → is_among keywords w ≡ false → nat_lt 255 (length w) ≡ false → word_of w ≡ Name w
unfolding word_of
name-of w none short =
    no-keyword w (same_text w (codes "int")) (same_text w (codes "unsigned")) (same_text w (codes "long")) (same_text w (codes "char")) (same_text w (codes "struct")) (same_text w (codes "static")) (same_text w (codes "extern")) (same_text w (codes "weak")) (same_text w (codes "void")) (same_text w (codes "if")) (same_text w (codes "else")) (same_text w (codes "goto")) (same_text w (codes "switch")) (same_text w (codes "case")) (same_text w (codes "default")) (same_text w (codes "return")) (nat_lt 255 (length w)) none short

pub name_read : (line : ℕ) (w r : List ℕ) → IsIdentifier w → first_is is_word_byte r ≡ false → tokens_from line 0 (w ++ r) ≡ placed (Name w) line ∷ tokens_from line 0 r
name_read line w r h stop =
    let are = four-are (begins_with_letter w) (list_all (λ byte. letter byte || digit byte) w) (nat_le (length w) 255) (is_among keywords w) h in
    word line w r (Name w) (is-word w are.0 are.1) (name-of w are.3 (short-is (length w) are.2)) refl stop

-- ---- keywords

abbrev pub keyword_text : Keyword → List ℕ
keyword_text keyword.Int = codes "int"
keyword_text keyword.Unsigned = codes "unsigned"
keyword_text keyword.Long = codes "long"
keyword_text keyword.Char = codes "char"
keyword_text keyword.Struct = codes "struct"
keyword_text keyword.Static = codes "static"
keyword_text keyword.Extern = codes "extern"
keyword_text keyword.Weak = codes "weak"
keyword_text keyword.Void = codes "void"
keyword_text keyword.If = codes "if"
keyword_text keyword.Else = codes "else"
keyword_text keyword.Goto = codes "goto"
keyword_text keyword.Switch = codes "switch"
keyword_text keyword.Case = codes "case"
keyword_text keyword.Default = codes "default"
keyword_text keyword.Return = codes "return"

keyword-first : (k : Keyword) → begins_with_letter (keyword_text k) ≡ true
keyword-first keyword.Int = refl
keyword-first keyword.Unsigned = refl
keyword-first keyword.Long = refl
keyword-first keyword.Char = refl
keyword-first keyword.Struct = refl
keyword-first keyword.Static = refl
keyword-first keyword.Extern = refl
keyword-first keyword.Weak = refl
keyword-first keyword.Void = refl
keyword-first keyword.If = refl
keyword-first keyword.Else = refl
keyword-first keyword.Goto = refl
keyword-first keyword.Switch = refl
keyword-first keyword.Case = refl
keyword-first keyword.Default = refl
keyword-first keyword.Return = refl

keyword-all : (k : Keyword) → list_all (λ byte. letter byte || digit byte) (keyword_text k) ≡ true
keyword-all keyword.Int = refl
keyword-all keyword.Unsigned = refl
keyword-all keyword.Long = refl
keyword-all keyword.Char = refl
keyword-all keyword.Struct = refl
keyword-all keyword.Static = refl
keyword-all keyword.Extern = refl
keyword-all keyword.Weak = refl
keyword-all keyword.Void = refl
keyword-all keyword.If = refl
keyword-all keyword.Else = refl
keyword-all keyword.Goto = refl
keyword-all keyword.Switch = refl
keyword-all keyword.Case = refl
keyword-all keyword.Default = refl
keyword-all keyword.Return = refl

keyword-of : (k : Keyword) → word_of (keyword_text k) ≡ Word k
unfolding word_of
keyword-of keyword.Int = refl
keyword-of keyword.Unsigned = refl
keyword-of keyword.Long = refl
keyword-of keyword.Char = refl
keyword-of keyword.Struct = refl
keyword-of keyword.Static = refl
keyword-of keyword.Extern = refl
keyword-of keyword.Weak = refl
keyword-of keyword.Void = refl
keyword-of keyword.If = refl
keyword-of keyword.Else = refl
keyword-of keyword.Goto = refl
keyword-of keyword.Switch = refl
keyword-of keyword.Case = refl
keyword-of keyword.Default = refl
keyword-of keyword.Return = refl

pub keyword_read : (line : ℕ) (k : Keyword) (r : List ℕ) → first_is is_word_byte r ≡ false → tokens_from line 0 (keyword_text k ++ r) ≡ placed (Word k) line ∷ tokens_from line 0 r
keyword_read line k r stop = word line (keyword_text k) r (Word k) (is-word (keyword_text k) (keyword-first k) (keyword-all k)) (keyword-of k) refl stop
