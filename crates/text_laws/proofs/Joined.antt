-- Texts one after the other are read as their tokens, one after the other.
use Rattle.std.proofs.Common.{◌≡◌, ℕ, ◌+◌, false, List, [], ◌∷◌, ◌++◌, refl, sym, ap, subst, ◌∙◌, append_assoc}
use Rattle.gimple_tokens.specs.declared.token.Keyword.{Keyword}
use Rattle.gimple_tokens.specs.declared.token.Mark.{Mark}
use Rattle.gimple_tokens.specs.declared.token.Mark.TheVariants as mark
use Rattle.gimple_tokens.specs.Tokens.{Lexeme, Name, Word, Sign, Placed, placed, is_word_byte, tokens_from}
use Rattle.gimple_ir.specs.Programs.{IsIdentifier}
use Rattle.gimple_grammar.specs.Grammar.{Expected, Only, Begins}
use Rattle.gimple_grammar.proofs.Laws.{begins-append}
use Rattle.text_laws.proofs.Spaced.{space, newline, first_is, sign_text, sign_space, IsAlone, sign}
use Rattle.text_laws.proofs.Names.{name_read, keyword_text, keyword_read}

-- ---- what may follow a text: anything, or what does not go on with a word

abbrev pub Anything : List ℕ → Type 0
Anything r = Unit {0}

abbrev pub NoWord : List ℕ → Type 0
NoWord r = first_is is_word_byte r ≡ false

-- In this line the text is read as these tokens, before what may follow, which then begins in the line `after`.
abbrev pub Reads : (List ℕ → Type 0) → List Expected → ℕ → List ℕ → ℕ → Type 0
Reads may es line text after = (r : List ℕ) → may r → Begins es (tokens_from line 0 (text ++ r)) (tokens_from after 0 r)

-- no word goes on with this text
abbrev pub Stops : List ℕ → Type 0
Stops text = (r : List ℕ) → NoWord (text ++ r)

-- ---- one after the other

pub seen : (es : List Expected) (ts us rest : List Placed) → ts ≡ us → Begins es us rest → Begins es ts rest
seen es ts us rest e b = subst (λ (l : List Placed). Begins es l rest) (sym e) b

step : (a b : List Expected) (line mid after : ℕ) (s t r : List ℕ) → Begins a (tokens_from line 0 (s ++ (t ++ r))) (tokens_from mid 0 (t ++ r)) → Begins b (tokens_from mid 0 (t ++ r)) (tokens_from after 0 r)
    → Begins (a ++ b) (tokens_from line 0 ((s ++ t) ++ r)) (tokens_from after 0 r)
step a b line mid after s t r p q =
    seen (a ++ b) (tokens_from line 0 ((s ++ t) ++ r)) (tokens_from line 0 (s ++ (t ++ r))) (tokens_from after 0 r) (ap (tokens_from line 0) (append_assoc s t r))
    (begins-append a b (tokens_from line 0 (s ++ (t ++ r))) (tokens_from mid 0 (t ++ r)) (tokens_from after 0 r) p q)

pub joined : (may : List ℕ → Type 0) (a b : List Expected) (line mid after : ℕ) (s t : List ℕ) → Reads Anything a line s mid → Reads may b mid t after → Reads may (a ++ b) line (s ++ t) after
joined may a b line mid after s t p q = λ r c. step a b line mid after s t r (p (t ++ r) tt) (q r c)

pub word_joined : (may : List ℕ → Type 0) (a b : List Expected) (line after : ℕ) (s t : List ℕ) → Reads NoWord a line s line → Stops t → Reads may b line t after → Reads may (a ++ b) line (s ++ t) after
word_joined may a b line after s t p stops q = λ r c. step a b line line after s t r (p (t ++ r) (stops r)) (q r c)

-- the same tokens of an equal text
pub as_text : (may : List ℕ → Type 0) (es : List Expected) (line after : ℕ) (s t : List ℕ) → t ≡ s → Reads may es line s after → Reads may es line t after
as_text may es line after s t e p = subst (λ (l : List ℕ). Reads may es line l after) (sym e) p

-- the same text as equal tokens
pub as_tokens : (may : List ℕ → Type 0) (es fs : List Expected) (line after : ℕ) (t : List ℕ) → fs ≡ es → Reads may es line t after → Reads may fs line t after
as_tokens may es fs line after t e p = subst (λ (l : List Expected). Reads may l line t after) (sym e) p

-- ---- spaces and signs

pub spaced : (may : List ℕ → Type 0) (es : List Expected) (line after : ℕ) (t : List ℕ) → Reads may es line t after → Reads may es line (32 ∷ t) after
spaced may es line after t p = λ r c. seen es (tokens_from line 0 (32 ∷ (t ++ r))) (tokens_from line 0 (t ++ r)) (tokens_from after 0 r) (space line (t ++ r)) (p r c)

pub lined : (may : List ℕ → Type 0) (es : List Expected) (line after : ℕ) (t : List ℕ) → Reads may es (line + 1) t after → Reads may es line (10 ∷ t) after
lined may es line after t p = λ r c. seen es (tokens_from line 0 (10 ∷ (t ++ r))) (tokens_from (line + 1) 0 (t ++ r)) (tokens_from after 0 r) (newline line (t ++ r)) (p r c)

pub one : (t : Lexeme) (line : ℕ) (es : List Expected) (ts us rest : List Placed) → ts ≡ placed t line ∷ us → Begins es us rest → Begins (Only t ∷ es) ts rest
one t line es ts us rest e b = seen (Only t ∷ es) ts (placed t line ∷ us) rest e (refl, b)

pub sign_first : (may : List ℕ → Type 0) (m : Mark) (es : List Expected) (line after : ℕ) (t : List ℕ) → IsAlone m → Reads may es line t after → Reads may (Only (Sign m) ∷ es) line (sign_text m ++ t) after
sign_first may m es line after t alone p = λ r c.
    one (Sign m) line es (tokens_from line 0 ((sign_text m ++ t) ++ r)) (tokens_from line 0 (t ++ r)) (tokens_from after 0 r)
    (ap (tokens_from line 0) (append_assoc (sign_text m) t r) ∙ sign line m (t ++ r) alone) (p r c)

-- any sign, and a space
pub sign_spaced : (may : List ℕ → Type 0) (m : Mark) (es : List Expected) (line after : ℕ) (t : List ℕ) → Reads may es line t after → Reads may (Only (Sign m) ∷ es) line (sign_text m ++ (32 ∷ t)) after
sign_spaced may m es line after t p = λ r c.
    one (Sign m) line es (tokens_from line 0 ((sign_text m ++ (32 ∷ t)) ++ r)) (tokens_from line 0 (t ++ r)) (tokens_from after 0 r)
    (ap (tokens_from line 0) (append_assoc (sign_text m) (32 ∷ t) r) ∙ sign_space line m (t ++ r)) (p r c)

pub nothing : (may : List ℕ → Type 0) (line : ℕ) → Reads may [] line [] line
nothing may line = λ r c. refl

pub sign_alone : (m : Mark) (line : ℕ) → IsAlone m → Reads Anything (Only (Sign m) ∷ []) line (sign_text m) line
sign_alone m line alone = λ r c. one (Sign m) line [] (tokens_from line 0 (sign_text m ++ r)) (tokens_from line 0 r) (tokens_from line 0 r) (sign line m r alone) refl

pub line_end : (line : ℕ) → Reads Anything [] line (10 ∷ []) (line + 1)
line_end line = lined Anything [] line (line + 1) [] (nothing Anything (line + 1))

-- ";" and the line's end
pub ended : (line : ℕ) → Reads Anything (Only (Sign mark.Semicolon) ∷ []) line (59 ∷ 10 ∷ []) (line + 1)
ended line = sign_first Anything mark.Semicolon [] line (line + 1) (10 ∷ []) tt (line_end line)

-- ---- words

pub keyword_alone : (k : Keyword) (line : ℕ) → Reads NoWord (Only (Word k) ∷ []) line (keyword_text k) line
keyword_alone k line = λ r stop. one (Word k) line [] (tokens_from line 0 (keyword_text k ++ r)) (tokens_from line 0 r) (tokens_from line 0 r) (keyword_read line k r stop) refl

-- a keyword and a space
pub keyword_spaced : (may : List ℕ → Type 0) (k : Keyword) (es : List Expected) (line after : ℕ) (t : List ℕ) → Reads may es line t after → Reads may (Only (Word k) ∷ es) line (keyword_text k ++ (32 ∷ t)) after
keyword_spaced may k es line after t p = word_joined may (Only (Word k) ∷ []) es line after (keyword_text k) (32 ∷ t) (keyword_alone k line) (λ r. refl) (spaced may es line after t p)

pub name_alone : (n : List ℕ) (line : ℕ) → IsIdentifier n → Reads NoWord (Only (Name n) ∷ []) line n line
name_alone n line h = λ r stop. one (Name n) line [] (tokens_from line 0 (n ++ r)) (tokens_from line 0 r) (tokens_from line 0 r) (name_read line n r h stop) refl

pub name_first : (may : List ℕ → Type 0) (n : List ℕ) (es : List Expected) (line after : ℕ) (t : List ℕ) → IsIdentifier n → Stops t → Reads may es line t after → Reads may (Only (Name n) ∷ es) line (n ++ t) after
name_first may n es line after t h stops p = word_joined may (Only (Name n) ∷ []) es line after n t (name_alone n line h) stops p
