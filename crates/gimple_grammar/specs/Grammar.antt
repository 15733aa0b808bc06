-- A grammar reads tokens from left to right, and spells values as tokens. Each is built from smaller ones.
use Rattle.std.specs.Prelude.{◌≡◌, ℕ, zero, suc, Bool, true, false, ◌||◌, List, [], ◌∷◌, ◌++◌, length, Option, Some, None, is_some, Result, Ok, Err, ◌==◌, if◌then◌else◌}
use Rattle.gimple_tokens.specs.declared.token.TextKind.{TextKind}
use Rattle.gimple_tokens.specs.declared.token.TextKind.TheVariants.{Syntax}
use Rattle.gimple_tokens.specs.Tokens.{Lexeme, Placed}
use Rattle.gimple_tokens.specs.Reading.{head_of, line_of, same}
use Rattle.gimple_tokens.specs.Stops.{Stuck, past, single_at}

infixl 10 ◌>>=◌
abbrev pub ◌>>=◌ : {A B : Type 0} → Result A Stuck → (A → Result B Stuck) → Result B Stuck
(Ok x) >>= f = f x
(Err e) >>= f = Err e

abbrev pub got : {A : Type 0} → A → List Placed → Result (A × List Placed) Stuck
got x rest = Ok (x, rest)

-- a token that is spelled: in any line, in this line, or none
pub data Expected : Type 0 where
  Only : Lexeme → Expected
  At : Lexeme → ℕ → Expected
  Never : Expected

abbrev pub Fits : Expected → Placed → Type 0
Fits (Only t) p = p.token ≡ t
Fits (At t line) p = (p.token ≡ t) × (p.line ≡ line)
Fits Never p = ⊥

-- the tokens begin with what is expected, and rest is what follows
abbrev pub Begins : List Expected → List Placed → List Placed → Type 0
Begins [] ts rest = ts ≡ rest
Begins (e ∷ es) [] rest = ⊥
Begins (e ∷ es) (p ∷ ts) rest = Fits e p × Begins es ts rest

pub record Grammar (A : Type 0) : Type 0 where
  -- which tokens may come first
  pub first : Lexeme → Bool
  pub read : List Placed → Result (A × List Placed) Stuck
  pub spelling : A → List Expected

-- ---- one token

-- One token, which pick gives a value. Another one is a fault of the kind that why gives.
abbrev pub single : {A : Type 0} → (Lexeme → Option A) → (A → Lexeme) → (Lexeme → TextKind) → Grammar A
single pick show why = record {
  first = λ t. is_some (pick t);
  read = λ ts. single_at pick why ts;
  spelling = λ a. (if is_some (pick (show a)) then Only (show a) else Never) ∷ [];
}

-- a word or a sign alone
abbrev pub just : Lexeme → Grammar (Unit {0})
just t = record {
  first = λ u. same t u;
  read = λ ts. past t ts >>= λ rest. Ok (tt, rest);
  spelling = λ x. Only t ∷ [];
}

-- a word or a sign, then a value
infixr 11 ◌▷◌
abbrev pub ◌▷◌ : {A : Type 0} → Lexeme → Grammar A → Grammar A
t ▷ g = record {
  first = λ u. same t u;
  read = λ ts. past t ts >>= g.read;
  spelling = λ a. Only t ∷ g.spelling a;
}

-- a value, then a word or a sign
infixl 12 ◌◁◌
abbrev pub ◌◁◌ : {A : Type 0} → Grammar A → Lexeme → Grammar A
g ◁ t = record {
  first = g.first;
  read = λ ts. g.read ts >>= λ a. past t a.1 >>= λ rest. Ok (a.0, rest);
  spelling = λ a. g.spelling a ++ Only t ∷ [];
}

-- ---- one after the other

-- one value, then another
infixr 10 ◌then◌
abbrev pub ◌then◌ : {A B : Type 0} → Grammar A → Grammar B → Grammar (A × B)
g then h = record {
  first = g.first;
  read = λ ts. g.read ts >>= λ a. h.read a.1 >>= λ b. Ok ((a.0, b.0), b.1);
  spelling = λ x. g.spelling x.0 ++ h.spelling x.1;
}

-- one value, then another whose grammar it decides
abbrev pub bound : {A : Type 0} {B : A → Type 0} (a : A) → B a → List Placed → Result (((x : A) × B x) × List Placed) Stuck
bound a b rest = Ok ((a, b), rest)

abbrev pub then_by : {A : Type 0} {B : A → Type 0} → Grammar A → ((a : A) → Grammar (B a)) → Grammar ((x : A) × B x)
then_by {A = A} {B = B} g h = record {
  first = g.first;
  read = λ ts. g.read ts >>= λ a. (h a.0).read a.1 >>= λ b. bound {B = B} a.0 b.0 b.1;
  spelling = λ x. g.spelling x.0 ++ (h x.0).spelling x.1;
}

-- ---- another form, and several

-- a value in another form, which not every value of that form has
abbrev pub spelled_only : {A : Type 0} → Grammar A → Option A → List Expected
spelled_only g None = Never ∷ []
spelled_only g (Some a) = g.spelling a

abbrev pub only : {A B : Type 0} → Grammar A → (A → B) → (B → Option A) → Grammar B
only g make unmake = record {
  first = g.first;
  read = λ ts. g.read ts >>= λ a. Ok (make a.0, a.1);
  spelling = λ b. spelled_only g (unmake b);
}

-- what g gives, and else what h gives; the first token decides. Of the values, `by_g` says which are spelled by g.
abbrev pub choice : {A : Type 0} → Grammar A → (A → Bool) → Grammar A → Grammar A
choice g by_g h = record {
  first = λ t. g.first t || h.first t;
  read = λ ts. if g.first (head_of ts) then g.read ts else h.read ts;
  spelling = λ a. if by_g a then g.spelling a else h.spelling a;
}

-- what g gives in another form, and else what h gives
abbrev pub either : {A B : Type 0} → Grammar A → (A → B) → (B → Option A) → Grammar B → Grammar B
either g make unmake h = choice (only g make unmake) (λ b. is_some (unmake b)) h

-- ---- lists

-- values up to a token that ends them, which is left
unfoldable pub many_at : {A : Type 0} → (Lexeme → Bool) → Grammar A → ℕ → List Placed → Result (List A × List Placed) Stuck
many_at ends g zero ts = Err (record { kind = Syntax; rest = ts })
many_at ends g (suc n) ts =
    if ends (head_of ts) then Ok ([], ts)
    else (g.read ts >>= λ a. many_at ends g n a.1 >>= λ more. Ok (a.0 ∷ more.0, more.1))

abbrev pub spellings : {A : Type 0} → Grammar A → List A → List Expected
spellings g [] = []
spellings g (a ∷ more) = g.spelling a ++ spellings g more

-- It does not end by itself, so it has the laws only before what begins with a token that ends it.
abbrev pub many : {A : Type 0} → (Lexeme → Bool) → Grammar A → Grammar (List A)
many ends g = record {
  first = λ t. ends t || g.first t;
  read = λ ts. many_at ends g (suc (length ts)) ts;
  spelling = λ xs. spellings g xs;
}

-- one value or more, each with whether another follows
unfoldable pub chain_at : {A : Type 0} → Grammar (A × Bool) → ℕ → List Placed → Result (List A × List Placed) Stuck
chain_at g zero ts = Err (record { kind = Syntax; rest = ts })
chain_at g (suc n) ts =
    g.read ts >>= λ a. if a.0.1 then (chain_at g n a.1 >>= λ more. Ok (a.0.0 ∷ more.0, more.1)) else Ok (a.0.0 ∷ [], a.1)

abbrev pub chain_spelling : {A : Type 0} → Grammar (A × Bool) → List A → List Expected
chain_spelling g [] = Never ∷ []
chain_spelling g (a ∷ []) = g.spelling (a, false)
chain_spelling g (a ∷ b ∷ more) = g.spelling (a, true) ++ chain_spelling g (b ∷ more)

abbrev pub chain : {A : Type 0} → Grammar (A × Bool) → Grammar (List A)
chain g = record {
  first = g.first;
  read = λ ts. chain_at g (suc (length ts)) ts;
  spelling = λ xs. chain_spelling g xs;
}

-- ---- lines

-- a value and the line of its first token
abbrev pub at_line : ℕ → List Expected → List Expected
at_line line [] = []
at_line line (Only t ∷ es) = At t line ∷ es
at_line line (At t other ∷ es) = (if other == line then At t other else Never) ∷ es
at_line line (Never ∷ es) = Never ∷ es

abbrev pub located : {A : Type 0} → Grammar A → Grammar (ℕ × A)
located g = record {
  first = g.first;
  read = λ ts. g.read ts >>= λ a. Ok ((line_of ts, a.0), a.1);
  spelling = λ x. at_line x.0 (g.spelling x.1);
}
