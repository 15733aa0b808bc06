-- All the laws of a grammar in one, for each way to build it.
use Rattle.std.proofs.Common.{◌≡◌, suc, Bool, true, false, List, length, Option, Some, None, refl, sym, subst, ◌∙◌}
use Rattle.std.specs.Prelude.{is_some}
use Rattle.gimple_tokens.specs.declared.token.TextKind.{TextKind}
use Rattle.gimple_tokens.specs.Tokens.{Lexeme, Placed}
use Rattle.gimple_tokens.specs.Reading.{head_of, same}
use Rattle.gimple_grammar.specs.Grammar.{Grammar, Begins, single, just, ◌▷◌, ◌◁◌, ◌then◌, then_by, spelled_only, only, choice, either, many, chain, located}
use Rattle.gimple_grammar.proofs.Laws.{Law, HasNever, IsPart, AreApart, same-is, single-law, just-law, before-law, after-law, then-law, by-law, only-law, choice-law, located-law}
use Rattle.gimple_grammar.proofs.Viable.{Viable, single-viable, just-viable, before-viable, after-viable, then-viable, by-viable, only-viable, choice-viable, located-viable, viable-same, unit-right, after-reads}
use Rattle.gimple_grammar.proofs.Lists.{Turns, Last, repeat, repeat-law, repeat-viable, many-is, chain-law, chain-viable}

pub record Sound {A : Type 0} (g : Grammar A) : Type 0 where
  pub law : Law g
  pub viable : Viable g

-- a is some value that a token shows
pub single-sound : {A : Type 0} (pick : Lexeme → Option A) (show : A → Lexeme) (why : Lexeme → TextKind) → ((t : Lexeme) (a : A) → pick t ≡ Some a → t ≡ show a) → ((a b : A) → pick (show a) ≡ Some b → b ≡ a) → (a : A) → pick (show a) ≡ Some a → Sound (single pick show why)
single-sound pick show why shows keeps a e = record { law = single-law pick show why shows keeps; viable = single-viable pick show why a e }

pub just-sound : (t : Lexeme) → same t t ≡ true → Sound (just t)
just-sound t s = record { law = just-law t s; viable = just-viable t s }

pub before-sound : {A : Type 0} (t : Lexeme) (g : Grammar A) → same t t ≡ true → Sound g → Sound (t ▷ g)
before-sound t g s x = record { law = before-law t g s x.law; viable = before-viable t g s x.viable }

pub after-sound : {A : Type 0} (g : Grammar A) (t : Lexeme) → same t t ≡ true → Sound g → Sound (g ◁ t)
after-sound g t s x = record { law = after-law g t s x.law; viable = after-viable g t s x.law x.viable }

pub then-sound : {A B : Type 0} (g : Grammar A) (h : Grammar B) → Sound g → Sound h → Sound (g then h)
then-sound g h x y = record { law = then-law g h x.law y.law; viable = then-viable g h x.law x.viable y.viable }

pub by-sound : {A : Type 0} {B : A → Type 0} (g : Grammar A) (h : (a : A) → Grammar (B a)) → Sound g → ((a : A) → Sound (h a)) → Sound (then_by g h)
by-sound g h x y = record { law = by-law g h x.law (λ a. (y a).law); viable = by-viable g h x.law x.viable (λ a. (y a).viable) }

pub only-sound : {A B : Type 0} (g : Grammar A) (make : A → B) (unmake : B → Option A) → IsPart make unmake → Sound g → Sound (only g make unmake)
only-sound g make unmake part x = record { law = only-law g make unmake part x.law; viable = only-viable g make unmake part x.viable }

pub choice-sound : {A : Type 0} (g : Grammar A) (by_g : A → Bool) (h : Grammar A) → AreApart g by_g h → Sound g → Sound h → Sound (choice g by_g h)
choice-sound g by_g h apart x y = record { law = choice-law g by_g h apart x.law y.law; viable = choice-viable g by_g h apart x.law y.law x.viable y.viable }

none-never : {A : Type 0} (g : Grammar A) (o : Option A) → is_some o ≡ false → HasNever (spelled_only g o)
none-never g None e = tt
none-never g (Some a) e = absurd cc

some-value : {A : Type 0} (o : Option A) → is_some o ≡ true → (a : A) × (o ≡ Some a)
some-value None e = absurd cc
some-value (Some a) e = (a, refl)

-- g begins with other tokens than h, and h spells nothing of what g spells
pub either-sound : {A B : Type 0} (g : Grammar A) (make : A → B) (unmake : B → Option A) (h : Grammar B) → IsPart make unmake
    → ((t : Lexeme) → g.first t ≡ true → h.first t ≡ false) → ((b : B) (a : A) → unmake b ≡ Some a → HasNever (h.spelling b)) → Sound g → Sound h → Sound (either g make unmake h)
either-sound g make unmake h part first values x y =
    choice-sound (only g make unmake) (λ b. is_some (unmake b)) h
    (record { first = first; left = λ b e. none-never g (unmake b) e; right = λ b e. let v = some-value (unmake b) e in values b v.0 v.1 })
    (only-sound g make unmake part x) y

-- the token that begins one does not begin the other
pub begins_other : {A : Type 0} (t : Lexeme) (h : Grammar A) → h.first t ≡ false → (u : Lexeme) → same t u ≡ true → h.first u ≡ false
begins_other t h e u s = subst (λ (v : Lexeme). h.first v ≡ false) (sym (same-is t u s)) e

pub located-sound : {A : Type 0} (g : Grammar A) → Sound g → Sound (located g)
located-sound g x = record { law = located-law g x.law; viable = located-viable g x.law x.viable }

-- the same grammar in other words
pub sound-same : {A : Type 0} (g h : Grammar A) → ((ts : List Placed) → g.read ts ≡ h.read ts) → ((x : A) → g.spelling x ≡ h.spelling x) → ((t : Lexeme) → h.first t ≡ true → g.first t ≡ true) → Sound h → Sound g
sound-same g h reads spells firsts s = record {
  law = record {
    takes = λ ts rest x e. rw (spells x) (s.law.takes ts rest x (sym (reads ts) ∙ e));
    again = λ x ts rest b. reads ts ∙ s.law.again x ts rest (subst (λ es. Begins es ts rest) (spells x) b);
    starts = λ x ts rest b. firsts (head_of ts) (s.law.starts x ts rest (subst (λ es. Begins es ts rest) (spells x) b));
    uses = λ x. rw (spells x) (s.law.uses x);
  };
  viable = viable-same g h reads spells s.viable;
}

-- what has the laws before a word or a sign
pub ended-sound : {A : Type 0} (g : Grammar A) (t : Lexeme) → Sound (g then just t) → Sound (g ◁ t)
ended-sound g t s =
    sound-same (g ◁ t) (only (g then just t) (λ x. x.0) (λ a. Some (a, tt))) (after-reads t g) (λ x. refl) (λ u e. e)
    (only-sound (g then just t) (λ x. x.0) (λ a. Some (a, tt)) unit-right s)

pub many-sound : {A B : Type 0} (ends : Lexeme → Bool) (g : Grammar A) (h : Grammar B) → Turns ends g h → Sound g → Sound h → Sound (many ends g then h)
many-sound ends g h turns x y =
    sound-same (many ends g then h) (repeat ends g h) (λ ts. many-is ends g h (suc (length ts)) ts) (λ x. refl) (λ t e. e)
    (record { law = repeat-law ends g h turns x.law y.law; viable = repeat-viable ends g h turns x.law y.law x.viable y.viable })

differs : {A : Type 0} (t : Lexeme) (g : Grammar A) (b : Bool) → g.first t ≡ false → (u : Lexeme) → g.first u ≡ true → same t u ≡ b → b ≡ false
differs t g true other u e s = absurd (let none = begins_other t g other u s in cc)
differs t g false other u e s = refl

-- values up to a word or a sign, which no value begins with
pub until-sound : {A : Type 0} (t : Lexeme) (g : Grammar A) → same t t ≡ true → g.first t ≡ false → Sound g → Sound (many (same t) g ◁ t)
until-sound t g s other x =
    ended-sound (many (same t) g) t
    (many-sound (same t) g (just t) (record { goes = λ u e. differs t g (same t u) other u e refl; stops = λ u e. e }) x (just-sound t s))

pub chain-sound : {A : Type 0} (g : Grammar (A × Bool)) → Last g → Sound g → Sound (chain g)
chain-sound g last x = record { law = chain-law g x.law; viable = chain-viable g x.law x.viable last }
