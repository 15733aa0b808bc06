-- All names among the tokens of a text are identifiers, and so are those of what the text spells.
use Rattle.std.proofs.Common.{ℕ, zero, suc, ◌+◌, Bool, true, false, List, [], ◌∷◌, ◌++◌, subst}
use Rattle.std.specs.Prelude.{All, ◌==◌, if◌then◌else◌}
use Rattle.std.proofs.lemmas.List.Elements.{All-nil, All-cons}
use Rattle.gimple_tokens.specs.Tokens.{Lexeme, Piece, Gap, Whole, Fault, Placed, ends, passing, piece_at, tokens_from, tokens_of, IsNamed}
use Rattle.gimple_tokens.specs.Reading.{head_of}
use Rattle.gimple_tokens.proofs.Named.{first-named}
use Rattle.gimple_grammar.specs.Grammar.{Grammar, Expected, Only, At, Never, Begins, spellings, at_line}

-- ---- tokens

abbrev pub TokensNamed : List Placed → Type 0
TokensNamed [] = Unit {0}
TokensNamed (p ∷ ts) = IsNamed p.token × TokensNamed ts

none-after : (b : Bool) (ts : List Placed) → TokensNamed ts → TokensNamed (if b then [] else ts)
none-after true ts h = tt
none-after false ts h = h

passing-all : (line b : ℕ) (p : Piece) (go : ℕ → ℕ → List Placed) → IsNamed (head_of (passing line b p go)) → ((at n : ℕ) → TokensNamed (go at n)) → TokensNamed (passing line b p go)
passing-all line b (Gap n) go h f = f (if b == 10 then line + 1 else line) n
passing-all line b (Whole t n) go h f = (h, none-after (ends t) (go line n) (f line n))
passing-all line b (Fault kind) go h f = (tt, tt)

head-passing : (line b : ℕ) (bs : List ℕ) → IsNamed (head_of (tokens_from line 0 (b ∷ bs))) → IsNamed (head_of (passing line b (piece_at b bs) (λ at n. tokens_from at n bs)))
unfolding tokens_from
head-passing line b bs h = h

all-from : (line skip : ℕ) (bs : List ℕ) → TokensNamed (tokens_from line skip bs)
unfolding tokens_from
all-from line skip [] = (tt, tt)
all-from line (suc n) (b ∷ bs) = all-from line n bs
all-from line zero (b ∷ bs) =
    passing-all line b (piece_at b bs) (λ at n. tokens_from at n bs) (head-passing line b bs (first-named line 0 (b ∷ bs))) (λ at n. all-from at n bs)

pub tokens-named : (text : List ℕ) → TokensNamed (tokens_of text)
tokens-named text = all-from 1 0 text

-- ---- what is spelled

-- it can be spelled, with identifiers alone
abbrev pub AreNamed : List Expected → Type 0
AreNamed [] = Unit {0}
AreNamed (Only t ∷ es) = IsNamed t × AreNamed es
AreNamed (At t line ∷ es) = IsNamed t × AreNamed es
AreNamed (Never ∷ es) = ⊥

pub begins-named : (es : List Expected) (ts rest : List Placed) → Begins es ts rest → TokensNamed ts → AreNamed es
begins-named [] ts rest b h = tt
begins-named (Only t ∷ es) [] rest b h = absurd b
begins-named (At t line ∷ es) [] rest b h = absurd b
begins-named (Never ∷ es) [] rest b h = absurd b
begins-named (Only t ∷ es) (p ∷ ts) rest b h = (subst IsNamed b.0 h.0, begins-named es ts rest b.1 h.1)
begins-named (At t line ∷ es) (p ∷ ts) rest b h = (subst IsNamed b.0.0 h.0, begins-named es ts rest b.1 h.1)
begins-named (Never ∷ es) (p ∷ ts) rest b h = b.0

pub named-left : (a b : List Expected) → AreNamed (a ++ b) → AreNamed a
named-left [] b h = tt
named-left (Only t ∷ a) b h = (h.0, named-left a b h.1)
named-left (At t line ∷ a) b h = (h.0, named-left a b h.1)
named-left (Never ∷ a) b h = h

pub named-right : (a b : List Expected) → AreNamed (a ++ b) → AreNamed b
named-right [] b h = h
named-right (Only t ∷ a) b h = named-right a b h.1
named-right (At t line ∷ a) b h = named-right a b h.1
named-right (Never ∷ a) b h = absurd h

in-line : (b : Bool) (t : Lexeme) (line : ℕ) (es : List Expected) → AreNamed ((if b then At t line else Never) ∷ es) → IsNamed t × AreNamed es
in-line true t line es h = h
in-line false t line es h = absurd h

pub named-line : (line : ℕ) (es : List Expected) → AreNamed (at_line line es) → AreNamed es
named-line line [] h = tt
named-line line (Only t ∷ es) h = h
named-line line (At t other ∷ es) h = in-line (other == line) t other es h
named-line line (Never ∷ es) h = h

-- each of a list
pub named-each : {A : Type 0} (g : Grammar A) (P : A → Type 0) → ((a : A) → AreNamed (g.spelling a) → P a) → (xs : List A) → AreNamed (spellings g xs) → All P xs
named-each g P f [] h = All-nil P
named-each g P f (x ∷ xs) h = All-cons P x xs (f x (named-left (g.spelling x) (spellings g xs) h)) (named-each g P f xs (named-right (g.spelling x) (spellings g xs) h))
