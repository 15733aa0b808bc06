-- Reading values one after the other, as a loop does.
use Rattle.std.proofs.Common.{◌≡◌, ℕ, zero, suc, ◌<◌, Bool, true, false, cond, List, [], ◌∷◌, ◌++◌, length, Result, Ok, Err, refl, sym, ap, subst, ◌∙◌, append_assoc, arith}
use Rattle.std.proofs.lemmas.List.{append-nil}
use Rattle.gimple_tokens.specs.Tokens.{Lexeme, Placed}
use Rattle.gimple_tokens.specs.Reading.{head_of}
use Rattle.gimple_tokens.specs.Stops.{Stuck, Fails, GivesOr}
use Rattle.gimple_tokens.specs.declared.failure.Failure.{Failure}
use Rattle.gimple_tokens.specs.declared.failure.Failure.TheVariants.{NoMemory, Fault}
use Rattle.gimple_grammar.specs.Grammar.{◌>>=◌, got, Grammar, bound, then_by, many_at, many, chain_at, chain}
use Rattle.gimple_grammar.specs.Adding.{with_front}
use Rattle.gimple_grammar.proofs.Laws.{Law, begins-length}

pub shorter : {A : Type 0} (g : Grammar A) → Law g → (ts mid : List Placed) (a : A) → g.read ts ≡ Ok (a, mid) → length mid < length ts
shorter g law ts mid a e = omega (arith, begins-length (g.spelling a) ts mid (law.takes ts mid a e), law.uses a)

regroup : {A : Type 0} (front : List A) (a : A) (read : Result (List A × List Placed) Stuck) → with_front front (read >>= λ more. Ok (a ∷ more.0, more.1)) ≡ with_front (front ++ a ∷ []) read
regroup front a (Ok x) = rw append_assoc refl
regroup front a (Err e) = refl

-- ---- values up to a token that ends them

abbrev turn : {A : Type 0} → (Lexeme → Bool) → Grammar A → ℕ → Result (A × List Placed) Stuck → Result (List A × List Placed) Stuck
turn ends g n read = read >>= λ a. many_at ends g n a.1 >>= λ more. Ok (a.0 ∷ more.0, more.1)

same-turn : {A : Type 0} (ends : Lexeme → Bool) (g : Grammar A) (n m : ℕ) (read : Result (A × List Placed) Stuck) → ((a : A) (mid : List Placed) → read ≡ Ok (a, mid) → many_at ends g n mid ≡ many_at ends g m mid) → turn ends g n read ≡ turn ends g m read
same-turn ends g n m (Ok a) f = rw (f a.0 a.1 refl) refl
same-turn ends g n m (Err e) f = refl

many-fuel : {A : Type 0} (ends : Lexeme → Bool) (g : Grammar A) → Law g → (n m : ℕ) (ts : List Placed) → length ts < n → length ts < m → many_at ends g n ts ≡ many_at ends g m ts
unfolding many_at
many-fuel ends g law zero m ts p q = absurd (omega arith)
many-fuel ends g law (suc n) zero ts p q = absurd (omega arith)
many-fuel {A = A} ends g law (suc n) (suc m) ts p q =
    let step : turn ends g n (g.read ts) ≡ turn ends g m (g.read ts) = same-turn ends g n m (g.read ts) (λ a mid e. let less : length mid < length ts = shorter g law ts mid a e in many-fuel ends g law n m mid (omega arith) (omega arith)) in
    ap (λ (x : Result (List A × List Placed) Stuck). cond (ends (head_of ts)) (Ok ([], ts)) x) step

-- the first value, and then the others
pub many-first : {A : Type 0} (ends : Lexeme → Bool) (g : Grammar A) → Law g → (ts mid : List Placed) (a : A) → ends (head_of ts) ≡ false → g.read ts ≡ Ok (a, mid) → (many ends g).read ts ≡ ((many ends g).read mid >>= λ more. Ok (a ∷ more.0, more.1))
unfolding many_at
many-first ends g law ts mid a other e =
    let less : length mid < length ts = shorter g law ts mid a e in
    let again : many_at ends g (length ts) mid ≡ many_at ends g (suc (length mid)) mid = many-fuel ends g law (length ts) (suc (length mid)) mid less (omega arith) in
    rw (other, e, again) refl

-- one more value is read
pub goes_on : {A : Type 0} (ends : Lexeme → Bool) (g : Grammar A) → Law g → (front : List A) (ts mid : List Placed) (a : A) (total : Result (List A × List Placed) Stuck) → ends (head_of ts) ≡ false → g.read ts ≡ Ok (a, mid)
    → with_front front ((many ends g).read ts) ≡ total → with_front (front ++ a ∷ []) ((many ends g).read mid) ≡ total
goes_on ends g law front ts mid a total other e so_far =
    sym (regroup front a ((many ends g).read mid)) ∙ sym (ap (with_front front) (many-first ends g law ts mid a other e)) ∙ so_far

-- a value is not read
pub breaks : {A : Type 0} (ends : Lexeme → Bool) (g : Grammar A) (e : Failure) (front : List A) (ts after : List Placed) (total : Result (List A × List Placed) Stuck) → ends (head_of ts) ≡ false → Fails e after (g.read ts)
    → with_front front ((many ends g).read ts) ≡ total → Fails e after total
unfolding many_at
breaks ends g NoMemory front ts after total other f so_far = tt
breaks ends g (Fault k) front ts after total other f so_far = sym so_far ∙ rw (other, f) refl

-- what ends the values comes
pub is_done : {A : Type 0} (ends : Lexeme → Bool) (g : Grammar A) (front : List A) (ts : List Placed) (total : Result (List A × List Placed) Stuck) → ends (head_of ts) ≡ true
    → with_front front ((many ends g).read ts) ≡ total → total ≡ Ok (front, ts)
unfolding many_at
is_done {A = A} ends g front ts total end so_far = sym so_far ∙ rw end (ap (λ (xs : List A). got xs ts) (append-nil front))

-- ---- chains

abbrev next : {A : Type 0} → Grammar (A × Bool) → ℕ → Result ((A × Bool) × List Placed) Stuck → Result (List A × List Placed) Stuck
next {A = A} g n read = read >>= λ a. cond a.0.1 (chain_at g n a.1 >>= λ more. got {A = List A} (a.0.0 ∷ more.0) more.1) (got {A = List A} (a.0.0 ∷ []) a.1)

same-next : {A : Type 0} (g : Grammar (A × Bool)) (n m : ℕ) (read : Result ((A × Bool) × List Placed) Stuck) → ((a : A × Bool) (mid : List Placed) → read ≡ Ok (a, mid) → chain_at g n mid ≡ chain_at g m mid) → next g n read ≡ next g m read
same-next g n m (Ok a) f = rw (f a.0 a.1 refl) refl
same-next g n m (Err e) f = refl

chain-fuel : {A : Type 0} (g : Grammar (A × Bool)) → Law g → (n m : ℕ) (ts : List Placed) → length ts < n → length ts < m → chain_at g n ts ≡ chain_at g m ts
unfolding chain_at
chain-fuel g law zero m ts p q = absurd (omega arith)
chain-fuel g law (suc n) zero ts p q = absurd (omega arith)
chain-fuel g law (suc n) (suc m) ts p q = same-next g n m (g.read ts) (λ a mid e. let less : length mid < length ts = shorter g law ts mid a e in chain-fuel g law n m mid (omega arith) (omega arith))

-- what is left to read after the values so far, where another follows
abbrev pub going : {A : Type 0} → Grammar (A × Bool) → Bool → List A → List Placed → Result (List A × List Placed) Stuck
going g true front ts = with_front front ((chain g).read ts)
going g false front ts = Ok (front, ts)

chain-first : {A : Type 0} (g : Grammar (A × Bool)) → Law g → (front : List A) (ts mid : List Placed) (a : A) (more : Bool) → g.read ts ≡ Ok ((a, more), mid) → with_front front ((chain g).read ts) ≡ going g more (front ++ a ∷ []) mid
unfolding chain_at
chain-first {A = A} g law front ts mid a true e =
    let less : length mid < length ts = shorter g law ts mid (a, true) e in
    let again : chain_at g (length ts) mid ≡ chain_at g (suc (length mid)) mid = chain-fuel g law (length ts) (suc (length mid)) mid less (omega arith) in
    rw (e, again) (regroup front a (chain_at g (suc (length mid)) mid))
chain-first g law front ts mid a false e = rw e refl

-- one more value is read
pub chain_goes : {A : Type 0} (g : Grammar (A × Bool)) → Law g → (front : List A) (ts mid : List Placed) (a : A) (before more : Bool) (total : Result (List A × List Placed) Stuck) → before ≡ true → g.read ts ≡ Ok ((a, more), mid)
    → going g before front ts ≡ total → going g more (front ++ a ∷ []) mid ≡ total
chain_goes g law front ts mid a true more total t e so_far = sym (chain-first g law front ts mid a more e) ∙ so_far
chain_goes g law front ts mid a false more total t e so_far = absurd cc

-- a value is not read
pub chain_breaks : {A : Type 0} (g : Grammar (A × Bool)) (e : Failure) (front : List A) (ts after : List Placed) (before : Bool) (total : Result (List A × List Placed) Stuck) → before ≡ true → Fails e after (g.read ts)
    → going g before front ts ≡ total → Fails e after total
unfolding chain_at
chain_breaks g NoMemory front ts after before total t f so_far = tt
chain_breaks g (Fault k) front ts after true total t f so_far = sym so_far ∙ rw f refl
chain_breaks g (Fault k) front ts after false total t f so_far = absurd cc

-- no value follows
pub chain_done : {A : Type 0} (g : Grammar (A × Bool)) (front : List A) (ts : List Placed) (before : Bool) (total : Result (List A × List Placed) Stuck) → before ≡ false → going g before front ts ≡ total → total ≡ Ok (front, ts)
chain_done g front ts false total t so_far = sym so_far
chain_done g front ts true total t so_far = absurd cc

-- ---- one after the other, where the first decides the second

bound-made : {A C : Type 0} {B : A → Type 0} (make : (a : A) → B a → C) (a : A) (read : Result (B a × List Placed) Stuck)
    → (read >>= λ x. got (make a x.0) x.1) ≡ ((read >>= λ b. bound {B = B} a b.0 b.1) >>= λ x. got (make x.0.0 x.0.1) x.1)
bound-made make a (Ok x) = refl
bound-made make a (Err e) = refl

-- the first is read, and then the second in another form
pub after_first : {A C : Type 0} {B : A → Type 0} (g : Grammar A) (h : (a : A) → Grammar (B a)) (make : (a : A) → B a → C) (r : Result C Failure) (ts mid after : List Placed) (a : A) → g.read ts ≡ Ok (a, mid)
    → GivesOr r after ((h a).read mid >>= λ x. got (make a x.0) x.1) → GivesOr r after ((then_by g h).read ts >>= λ x. got (make x.0.0 x.0.1) x.1)
after_first {C = C} {B = B} g h make r ts mid after a e p =
    rw e (subst (λ (read : Result (C × List Placed) Stuck). GivesOr r after read) (bound-made {B = B} make a ((h a).read mid)) p)

-- what is not read is not read in another form
pub made_fails : {A B : Type 0} (make : A → B) (e : Failure) (after : List Placed) (read : Result (A × List Placed) Stuck) → Fails e after read → Fails e after (read >>= λ x. got (make x.0) x.1)
made_fails make NoMemory after read f = tt
made_fails make (Fault k) after read f = rw f refl
