-- The tokens before a fault begin some text of the grammar, and with the faulty token none does.
use Rattle.std.proofs.Common.{◌≡◌, ◌<◌, Bool, true, false, cond, List, [], ◌∷◌, ◌++◌, length, Option, Some, None, Result, Ok, Err, refl, sym, ap, subst, ◌∙◌, arith, inl, inr, ◌⊎◌, length-append, append_assoc}
use Rattle.std.proofs.lemmas.List.{append_cancel_right}
use Rattle.std.specs.Prelude.{if◌then◌else◌}
use Rattle.gimple_tokens.specs.declared.token.TextKind.{TextKind}
use Rattle.gimple_tokens.specs.declared.token.TextKind.TheVariants.{Syntax}
use Rattle.gimple_tokens.specs.Tokens.{Lexeme, Placed, placed}
use Rattle.gimple_tokens.specs.Reading.{head_of, line_of, same}
use Rattle.gimple_tokens.specs.Stops.{Stuck, past, taken, single_at}
use Rattle.gimple_grammar.specs.Grammar.{◌>>=◌, got, Expected, Begins, Grammar, single, ◌▷◌, ◌◁◌, ◌then◌, bound, then_by, only, just, choice, located}
use Rattle.gimple_grammar.proofs.Laws.{Law, first-is, rest-is, begins-append, begins-split, begins-length, just-law, past-starts, single-fits, only-split, choice-split, choice-left, choice-right, chosen, at-line, line-at, IsPart, AreApart}

pub bind_err : {A B : Type 0} (r : Result A Stuck) (f : A → Result B Stuck) (s : Stuck) → (r >>= f) ≡ Err s → (r ≡ Err s) ⊎ ((x : A) × (r ≡ Ok x) × (f x ≡ Err s))
bind_err (Ok x) f s e = inr (x, refl, e)
bind_err (Err d) f s e = inl (let same : d ≡ s = cc in ap Err same)

-- what is spelled takes the same tokens, whatever follows
pub begins-front : (es : List Expected) (ts rest : List Placed) → Begins es ts rest → (front : List Placed) × (ts ≡ front ++ rest) × ((w : List Placed) → Begins es (front ++ w) w)
begins-front [] ts rest p = ([], p, λ w. refl)
begins-front (e ∷ es) [] rest p = absurd p
begins-front (e ∷ es) (q ∷ ts) rest p = let f = begins-front es ts rest p.1 in (q ∷ f.0, ap (λ (l : List Placed). q ∷ l) f.1, λ w. (p.0, f.2 w))

-- front and more are tokens that spell the value, whatever follows
pub record Completes {A : Type 0} (g : Grammar A) (front : List Placed) : Type 0 where
  pub value : A
  pub more : List Placed
  pub spelled : (w : List Placed) → Begins (g.spelling value) (front ++ (more ++ w)) w

pub record Reaches {A : Type 0} (g : Grammar A) (ts rest : List Placed) : Type 0 where
  pub front : List Placed
  pub parts : ts ≡ front ++ rest
  pub text : Completes g front

pub record Viable {A : Type 0} (g : Grammar A) : Type 0 where
  -- something is spelled
  pub some : Completes g []
  -- the tokens before a fault begin a spelling
  pub reaches : (ts : List Placed) (s : Stuck) → g.read ts ≡ Err s → Reaches g ts s.rest
  -- with the faulty token they begin none
  pub blocks : (front after other rest : List Placed) (p : Placed) (s : Stuck) → s.rest ≡ p ∷ after → g.read (front ++ p ∷ after) ≡ Err s → (y : A) → Begins (g.spelling y) (front ++ p ∷ other) rest → ⊥

-- ---- the fault is at the first token

stops_here : {A : Type 0} (g : Grammar A) (ts rest : List Placed) → Completes g [] → rest ≡ ts → Reaches g ts rest
stops_here g ts rest some e = record { front = []; parts = sym e; text = some }

not-longer : (front after : List Placed) (q p : Placed) → (q ∷ (front ++ p ∷ after)) ≡ p ∷ after → ⊥
not-longer front after q p e = omega (arith, ap (λ (l : List Placed). length l) e, length-append front (p ∷ after))

taken-err : {A : Type 0} (why : Lexeme → TextKind) (p : Placed) (ts : List Placed) (o : Option A) (s : Stuck) → taken why p ts o ≡ Err s → (o ≡ None) × (p ∷ ts ≡ s.rest)
taken-err why p ts None s e = (refl, let f : record { kind = why p.token; rest = p ∷ ts } ≡ s = cc in ap (λ (x : Stuck). x.rest) f)
taken-err why p ts (Some a) s e = absurd cc

single-stuck : {A : Type 0} (pick : Lexeme → Option A) (show : A → Lexeme) (why : Lexeme → TextKind) (ts : List Placed) (s : Stuck) → (single pick show why).read ts ≡ Err s → s.rest ≡ ts
unfolding single_at
single-stuck pick show why [] s e = let f : record { kind = Syntax; rest = [] } ≡ s = cc in sym (ap (λ (x : Stuck). x.rest) f)
single-stuck pick show why (p ∷ ts) s e = sym (taken-err why p ts (pick p.token) s e).1

single-some : {A : Type 0} (pick : Lexeme → Option A) (show : A → Lexeme) (why : Lexeme → TextKind) (a : A) → pick (show a) ≡ Some a → Completes (single pick show why) []
single-some pick show why a e = record { value = a; more = placed (show a) 0 ∷ []; spelled = λ w. rw e (refl, refl) }

single-blocks : {A : Type 0} (pick : Lexeme → Option A) (show : A → Lexeme) (why : Lexeme → TextKind) (front after other rest : List Placed) (p : Placed) (s : Stuck) → s.rest ≡ p ∷ after → (single pick show why).read (front ++ p ∷ after) ≡ Err s → (y : A) → Begins ((single pick show why).spelling y) (front ++ p ∷ other) rest → ⊥
unfolding single_at
single-blocks pick show why [] after other rest p s r e y b =
    let none = (taken-err why p after (pick p.token) s e).0 in
    let f = single-fits (pick (show y)) (show y) p b.0 in
    absurd (let one = ap pick f.2 ∙ f.1 in cc)
single-blocks pick show why (q ∷ front) after other rest p s r e y b = not-longer front after q p ((taken-err why q (front ++ p ∷ after) (pick q.token) s e).1 ∙ r)

pub single-viable : {A : Type 0} (pick : Lexeme → Option A) (show : A → Lexeme) (why : Lexeme → TextKind) (a : A) → pick (show a) ≡ Some a → Viable (single pick show why)
single-viable pick show why a h = record {
  some = single-some pick show why a h;
  reaches = λ ts s e. stops_here (single pick show why) ts s.rest (single-some pick show why a h) (single-stuck pick show why ts s e);
  blocks = single-blocks pick show why;
}

-- ---- a word or a sign

past-err : (b : Bool) (ts : List Placed) (d s : Stuck) → cond b (Ok ts) (Err d) ≡ Err s → (b ≡ false) × (d ≡ s)
past-err true ts d s e = absurd cc
past-err false ts d s e = (refl, cc)

past-stuck : (t : Lexeme) (ts : List Placed) (s : Stuck) → past t ts ≡ Err s → s.rest ≡ ts
unfolding past
past-stuck t [] s e = let f : record { kind = Syntax; rest = [] } ≡ s = cc in sym (ap (λ (x : Stuck). x.rest) f)
past-stuck t (p ∷ ts) s e = sym (ap (λ (x : Stuck). x.rest) (past-err (same t p.token) ts _ s e).1)

past-other : (t : Lexeme) (p : Placed) (ts : List Placed) (s : Stuck) → past t (p ∷ ts) ≡ Err s → same t p.token ≡ false
unfolding past
past-other t p ts s e = (past-err (same t p.token) ts _ s e).0

just-some : (t : Lexeme) → Completes (just t) []
just-some t = record { value = tt; more = placed t 0 ∷ []; spelled = λ w. (refl, refl) }

just-err : (t : Lexeme) (ts : List Placed) (s : Stuck) → (just t).read ts ≡ Err s → past t ts ≡ Err s
just-err t ts s e = elim (bind_err (past t ts) (λ r. got tt r) s e) [ inl f ↦ f | inr f ↦ absurd (let g = f.2 in cc) ]

just-blocks : (t : Lexeme) → same t t ≡ true → (front after other rest : List Placed) (p : Placed) (s : Stuck) → s.rest ≡ p ∷ after → (just t).read (front ++ p ∷ after) ≡ Err s → (y : Unit {0}) → Begins ((just t).spelling y) (front ++ p ∷ other) rest → ⊥
just-blocks t h [] after other rest p s r e y b = absurd (let one = past-starts t [] (p ∷ other) rest h b in let none = past-other t p after s (just-err t (p ∷ after) s e) in cc)
just-blocks t h (q ∷ front) after other rest p s r e y b = not-longer front after q p (sym (past-stuck t (q ∷ (front ++ p ∷ after)) s (just-err t (q ∷ (front ++ p ∷ after)) s e)) ∙ r)

pub just-viable : (t : Lexeme) → same t t ≡ true → Viable (just t)
just-viable t h = record {
  some = just-some t;
  reaches = λ ts s e. stops_here (just t) ts s.rest (just-some t) (past-stuck t ts s (just-err t ts s e));
  blocks = just-blocks t h;
}

-- ---- one after the other, where the first decides the second

-- what one grammar read is read again before another rest, and nothing else is spelled there
pub read-twice : {A : Type 0} (g : Grammar A) → Law g → (front two after other mid rest : List Placed) (p : Placed) (a y : A) → g.read (front ++ p ∷ after) ≡ Ok (a, mid) → mid ≡ two ++ p ∷ after → Begins (g.spelling y) (front ++ p ∷ other) rest → got y rest ≡ got a (two ++ p ∷ other)
read-twice g law front two after other mid rest p a y e m b =
    let f = begins-front (g.spelling a) (front ++ p ∷ after) mid (law.takes (front ++ p ∷ after) mid a e) in
    let whole : front ++ p ∷ after ≡ (f.0 ++ two) ++ p ∷ after = f.1 ∙ ap (λ (l : List Placed). f.0 ++ l) m ∙ sym (append_assoc f.0 two (p ∷ after)) in
    let fronts : front ≡ f.0 ++ two = append_cancel_right front (f.0 ++ two) (p ∷ after) whole in
    let there : front ++ p ∷ other ≡ f.0 ++ (two ++ p ∷ other) = ap (λ (l : List Placed). l ++ p ∷ other) fronts ∙ append_assoc f.0 two (p ∷ other) in
    let first : g.read (front ++ p ∷ other) ≡ Ok (a, two ++ p ∷ other) = law.again a (front ++ p ∷ other) (two ++ p ∷ other) (rw there (f.2 (two ++ p ∷ other))) in
    sym (law.again y (front ++ p ∷ other) rest b) ∙ first

pub read-again : {A : Type 0} (g : Grammar A) → Law g → (front two after other mid rest : List Placed) (p : Placed) (a y : A) → g.read (front ++ p ∷ after) ≡ Ok (a, mid) → mid ≡ two ++ p ∷ after → Begins (g.spelling y) (front ++ p ∷ other) rest → rest ≡ two ++ p ∷ other
read-again g law front two after other mid rest p a y e m b = rest-is y a rest (two ++ p ∷ other) (read-twice g law front two after other mid rest p a y e m b)

by-text : {A : Type 0} {B : A → Type 0} (g : Grammar A) (h : (a : A) → Grammar (B a)) (front : List Placed) → Completes g front → ((a : A) → Completes (h a) []) → Completes (then_by g h) front
by-text g h front left right = record {
  value = (left.value, (right left.value).value);
  more = left.more ++ (right left.value).more;
  spelled = λ w.
      let next = right left.value in
      rw (append_assoc left.more next.more w) (begins-append (g.spelling left.value) ((h left.value).spelling next.value) (front ++ (left.more ++ (next.more ++ w))) (next.more ++ w) w (left.spelled (next.more ++ w)) (next.spelled w));
}

by-later : {A : Type 0} {B : A → Type 0} (g : Grammar A) (h : (a : A) → Grammar (B a)) (a : A) (one two : List Placed) → ((w : List Placed) → Begins (g.spelling a) (one ++ w) w) → Completes (h a) two → Completes (then_by g h) (one ++ two)
by-later g h a one two left right = record {
  value = (a, right.value);
  more = right.more;
  spelled = λ w. rw (append_assoc one two (right.more ++ w)) (begins-append (g.spelling a) ((h a).spelling right.value) (one ++ (two ++ (right.more ++ w))) (two ++ (right.more ++ w)) w (left (two ++ (right.more ++ w))) (right.spelled w));
}

by-reaches : {A : Type 0} {B : A → Type 0} (g : Grammar A) (h : (a : A) → Grammar (B a)) → Law g → Viable g → ((a : A) → Viable (h a)) → (ts : List Placed) (s : Stuck) → (then_by g h).read ts ≡ Err s → Reaches (then_by g h) ts s.rest
by-reaches {B = B} g h law left right ts s e =
    elim (bind_err (g.read ts) (λ a. (h a.0).read a.1 >>= λ b. bound {B = B} a.0 b.0 b.1) s e) [
      | inl f ↦ let r = left.reaches ts s f in record { front = r.front; parts = r.parts; text = by-text g h r.front r.text (λ a. (right a).some) }
      | inr f ↦
          elim (bind_err ((h f.0.0).read f.0.1) (λ b. bound {B = B} f.0.0 b.0 b.1) s f.2) [
            | inl d ↦
                let b = begins-front (g.spelling f.0.0) ts f.0.1 (law.takes ts f.0.1 f.0.0 f.1) in
                let r = (right f.0.0).reaches f.0.1 s d in
                record { front = b.0 ++ r.front; parts = b.1 ∙ ap (λ (l : List Placed). b.0 ++ l) r.parts ∙ sym (append_assoc b.0 r.front s.rest); text = by-later g h f.0.0 b.0 r.front b.2 r.text }
            | inr d ↦ absurd (let n = d.2 in cc)
          ]
    ]

moved : {A : Type 0} {B : A → Type 0} (h : (a : A) → Grammar (B a)) (a b : A) → a ≡ b → (y : B a) (ts rest : List Placed) → Begins ((h a).spelling y) ts rest → (z : B b) × Begins ((h b).spelling z) ts rest
moved {A = A} {B = B} h a b e y ts rest p = subst (λ (c : A). (z : B c) × Begins ((h c).spelling z) ts rest) e (y, p)

by-blocks : {A : Type 0} {B : A → Type 0} (g : Grammar A) (h : (a : A) → Grammar (B a)) → Law g → Viable g → ((a : A) → Viable (h a)) → (front after other rest : List Placed) (p : Placed) (s : Stuck) → s.rest ≡ p ∷ after → (then_by g h).read (front ++ p ∷ after) ≡ Err s → (y : (a : A) × B a) → Begins ((then_by g h).spelling y) (front ++ p ∷ other) rest → ⊥
by-blocks {B = B} g h law left right front after other rest p s r e y b =
    let m = begins-split (g.spelling y.0) ((h y.0).spelling y.1) (front ++ p ∷ other) rest b in
    elim (bind_err (g.read (front ++ p ∷ after)) (λ a. (h a.0).read a.1 >>= λ c. bound {B = B} a.0 c.0 c.1) s e) [
      | inl f ↦ left.blocks front after other m.0 p s r f y.0 m.1
      | inr f ↦
          elim (bind_err ((h f.0.0).read f.0.1) (λ c. bound {B = B} f.0.0 c.0 c.1) s f.2) [
            | inl d ↦
                let to = (right f.0.0).reaches f.0.1 s d in
                let mid : f.0.1 ≡ to.front ++ p ∷ after = to.parts ∙ ap (λ (l : List Placed). to.front ++ l) r in
                let both = read-twice g law front to.front after other f.0.1 m.0 p f.0.0 y.0 f.1 mid m.1 in
                let there = rest-is y.0 f.0.0 m.0 (to.front ++ p ∷ other) both in
                let is = first-is y.0 f.0.0 m.0 (to.front ++ p ∷ other) both in
                let z = moved {B = B} h y.0 f.0.0 is y.1 (to.front ++ p ∷ other) rest (subst (λ l. Begins ((h y.0).spelling y.1) l rest) there m.2) in
                (right f.0.0).blocks to.front after other rest p s r (ap (h f.0.0).read (sym mid) ∙ d) z.0 z.1
            | inr d ↦ absurd (let n = d.2 in cc)
          ]
    ]

pub by-viable : {A : Type 0} {B : A → Type 0} (g : Grammar A) (h : (a : A) → Grammar (B a)) → Law g → Viable g → ((a : A) → Viable (h a)) → Viable (then_by g h)
by-viable g h law left right = record {
  some = by-text g h [] left.some (λ a. (right a).some);
  reaches = by-reaches g h law left right;
  blocks = by-blocks g h law left right;
}

-- one after the other, which the first does not decide
pub then-viable : {A B : Type 0} (g : Grammar A) (h : Grammar B) → Law g → Viable g → Viable h → Viable (g then h)
then-viable {B = B} g h law left right = by-viable {B = λ _. B} g (λ _. h) law left (λ _. right)

-- ---- the same grammar in other words

text-same : {A : Type 0} (g h : Grammar A) (front : List Placed) → ((x : A) → g.spelling x ≡ h.spelling x) → Completes h front → Completes g front
text-same g h front spells c = record { value = c.value; more = c.more; spelled = λ w. rw (spells c.value) (c.spelled w) }

pub viable-same : {A : Type 0} (g h : Grammar A) → ((ts : List Placed) → g.read ts ≡ h.read ts) → ((x : A) → g.spelling x ≡ h.spelling x) → Viable h → Viable g
viable-same g h reads spells v = record {
  some = text-same g h [] spells v.some;
  reaches = λ ts s e. let r = v.reaches ts s (sym (reads ts) ∙ e) in record { front = r.front; parts = r.parts; text = text-same g h r.front spells r.text };
  blocks = λ front after other rest p s r e y b. v.blocks front after other rest p s r (sym (reads (front ++ p ∷ after)) ∙ e) y (subst (λ es. Begins es (front ++ p ∷ other) rest) (spells y) b);
}

-- ---- a value in another form

only-text : {A B : Type 0} (g : Grammar A) (make : A → B) (unmake : B → Option A) → IsPart make unmake → (front : List Placed) → Completes g front → Completes (only g make unmake) front
only-text g make unmake part front c = record { value = make c.value; more = c.more; spelled = λ w. rw (part.back c.value) (c.spelled w) }

only-err : {A B : Type 0} (g : Grammar A) (make : A → B) (ts : List Placed) (s : Stuck) → (g.read ts >>= λ a. got (make a.0) a.1) ≡ Err s → g.read ts ≡ Err s
only-err g make ts s e = elim (bind_err (g.read ts) (λ a. got (make a.0) a.1) s e) [ inl f ↦ f | inr f ↦ absurd (let n = f.2 in cc) ]

pub only-viable : {A B : Type 0} (g : Grammar A) (make : A → B) (unmake : B → Option A) → IsPart make unmake → Viable g → Viable (only g make unmake)
only-viable g make unmake part v = record {
  some = only-text g make unmake part [] v.some;
  reaches = λ ts s e. let r = v.reaches ts s (only-err g make ts s e) in record { front = r.front; parts = r.parts; text = only-text g make unmake part r.front r.text };
  blocks = λ front after other rest p s r e y b.
      let o = only-split g (unmake y) (front ++ p ∷ other) rest b in
      v.blocks front after other rest p s r (only-err g make (front ++ p ∷ after) s e) o.0 o.2;
}

-- ---- a word or a sign before and after

some-is : {A : Type 0} (x y : A) → Some x ≡ Some y → x ≡ y
some-is x y e = cc

unit-left : {A : Type 0} → IsPart (λ (x : Unit {0} × A). x.1) (λ a. Some (tt, a))
unit-left {A = A} = record { back = λ x. refl; made = λ b a e. sym (ap (λ (x : Unit {0} × A). x.1) (some-is {A = Unit {0} × A} (tt, b) a e)) }

pub unit-right : {A : Type 0} → IsPart (λ (x : A × Unit {0}). x.0) (λ a. Some (a, tt))
unit-right {A = A} = record { back = λ x. refl; made = λ b a e. sym (ap (λ (x : A × Unit {0}). x.0) (some-is {A = A × Unit {0}} (b, tt) a e)) }

abbrev second : {A : Type 0} → Result ((Unit {0} × A) × List Placed) Stuck → Result (A × List Placed) Stuck
second r = r >>= λ x. Ok (x.0.1, x.1)

second-is : {A : Type 0} (r : Result (A × List Placed) Stuck) → r ≡ second (r >>= λ b. Ok ((tt, b.0), b.1))
second-is (Ok x) = refl
second-is (Err s) = refl

before-cases : {A : Type 0} (r : Result (List Placed) Stuck) (g : Grammar A) → (r >>= g.read) ≡ second ((r >>= λ rest. got tt rest) >>= λ a. g.read a.1 >>= λ b. Ok ((a.0, b.0), b.1))
before-cases (Ok rest) g = second-is (g.read rest)
before-cases (Err s) g = refl

abbrev leading : {A : Type 0} → Result ((A × Unit {0}) × List Placed) Stuck → Result (A × List Placed) Stuck
leading r = r >>= λ x. Ok (x.0.0, x.1)

leading-is : {A : Type 0} (a : A) (r : Result (List Placed) Stuck) → (r >>= λ rest. got a rest) ≡ leading ((r >>= λ rest. got tt rest) >>= λ b. Ok ((a, b.0), b.1))
leading-is a (Ok x) = refl
leading-is a (Err s) = refl

after-cases : {A : Type 0} (t : Lexeme) (r : Result (A × List Placed) Stuck) → (r >>= λ a. past t a.1 >>= λ rest. got a.0 rest) ≡ leading (r >>= λ a. (just t).read a.1 >>= λ b. Ok ((a.0, b.0), b.1))
after-cases t (Ok a) = leading-is a.0 (past t a.1)
after-cases t (Err s) = refl

before-reads : {A : Type 0} (t : Lexeme) (g : Grammar A) (ts : List Placed) → (t ▷ g).read ts ≡ (only (just t then g) (λ x. x.1) (λ a. Some (tt, a))).read ts
before-reads t g ts = before-cases (past t ts) g

pub before-viable : {A : Type 0} (t : Lexeme) (g : Grammar A) → same t t ≡ true → Viable g → Viable (t ▷ g)
before-viable t g h v =
    viable-same (t ▷ g) (only (just t then g) (λ x. x.1) (λ a. Some (tt, a))) (before-reads t g) (λ x. refl)
    (only-viable (just t then g) (λ x. x.1) (λ a. Some (tt, a)) (unit-left) (then-viable (just t) g (just-law t h) (just-viable t h) v))

pub after-reads : {A : Type 0} (t : Lexeme) (g : Grammar A) (ts : List Placed) → (g ◁ t).read ts ≡ (only (g then just t) (λ x. x.0) (λ a. Some (a, tt))).read ts
after-reads t g ts = after-cases t (g.read ts)

pub after-viable : {A : Type 0} (g : Grammar A) (t : Lexeme) → same t t ≡ true → Law g → Viable g → Viable (g ◁ t)
after-viable g t h law v =
    viable-same (g ◁ t) (only (g then just t) (λ x. x.0) (λ a. Some (a, tt))) (after-reads t g) (λ x. refl)
    (only-viable (g then just t) (λ x. x.0) (λ a. Some (a, tt)) (unit-right) (then-viable g (just t) law v (just-viable t h)))

-- ---- either

pub same-head : (front after other : List Placed) (p : Placed) → head_of (front ++ p ∷ after) ≡ head_of (front ++ p ∷ other)
same-head [] after other p = refl
same-head (q ∷ front) after other p = refl

left-text : {A : Type 0} (g : Grammar A) (by_g : A → Bool) (h : Grammar A) → AreApart g by_g h → (front : List Placed) → Completes g front → Completes (choice g by_g h) front
left-text g by_g h apart front c = record { value = c.value; more = c.more; spelled = λ w. choice-left (by_g c.value) (g.spelling c.value) (h.spelling c.value) (front ++ (c.more ++ w)) w (apart.left c.value) (c.spelled w) }

right-text : {A : Type 0} (g : Grammar A) (by_g : A → Bool) (h : Grammar A) → AreApart g by_g h → (front : List Placed) → Completes h front → Completes (choice g by_g h) front
right-text g by_g h apart front c = record { value = c.value; more = c.more; spelled = λ w. choice-right (by_g c.value) (g.spelling c.value) (h.spelling c.value) (front ++ (c.more ++ w)) w (apart.right c.value) (c.spelled w) }

choice-reaches : {A : Type 0} (g : Grammar A) (by_g : A → Bool) (h : Grammar A) → AreApart g by_g h → Viable g → Viable h → (ts : List Placed) (s : Stuck) → (choice g by_g h).read ts ≡ Err s → Reaches (choice g by_g h) ts s.rest
choice-reaches g by_g h apart left right ts s e =
    elim (chosen (g.first (head_of ts)) (g.read ts) (h.read ts) (Err s) e) [
      | inl c ↦ let r = left.reaches ts s c.1 in record { front = r.front; parts = r.parts; text = left-text g by_g h apart r.front r.text }
      | inr c ↦ let r = right.reaches ts s c.1 in record { front = r.front; parts = r.parts; text = right-text g by_g h apart r.front r.text }
    ]

choice-blocks : {A : Type 0} (g : Grammar A) (by_g : A → Bool) (h : Grammar A) → AreApart g by_g h → Law g → Law h → Viable g → Viable h
    → (front after other rest : List Placed) (p : Placed) (s : Stuck) → s.rest ≡ p ∷ after → (choice g by_g h).read (front ++ p ∷ after) ≡ Err s → (y : A) → Begins ((choice g by_g h).spelling y) (front ++ p ∷ other) rest → ⊥
choice-blocks g by_g h apart lg lh left right front after other rest p s r e y b =
    let head = same-head front after other p in
    elim (chosen (g.first (head_of (front ++ p ∷ after))) (g.read (front ++ p ∷ after)) (h.read (front ++ p ∷ after)) (Err s) e) [
      | inl c ↦ elim (choice-split (by_g y) (g.spelling y) (h.spelling y) (front ++ p ∷ other) rest b) [
        | inl d ↦ left.blocks front after other rest p s r c.1 y d.1
        | inr d ↦ absurd (let other_first = apart.first (head_of (front ++ p ∷ other)) (sym (ap g.first head) ∙ c.0) in let starts = lh.starts y (front ++ p ∷ other) rest d.1 in cc)
      ]
      | inr c ↦ elim (choice-split (by_g y) (g.spelling y) (h.spelling y) (front ++ p ∷ other) rest b) [
        | inl d ↦ absurd (let starts = ap g.first head ∙ lg.starts y (front ++ p ∷ other) rest d.1 in let not_first = c.0 in cc)
        | inr d ↦ right.blocks front after other rest p s r c.1 y d.1
      ]
    ]

pub choice-viable : {A : Type 0} (g : Grammar A) (by_g : A → Bool) (h : Grammar A) → AreApart g by_g h → Law g → Law h → Viable g → Viable h → Viable (choice g by_g h)
choice-viable g by_g h apart lg lh left right = record {
  some = left-text g by_g h apart [] left.some;
  reaches = choice-reaches g by_g h apart left right;
  blocks = choice-blocks g by_g h apart lg lh left right;
}

-- ---- a value and its line

first-line : (es : List Expected) (ts w : List Placed) → 0 < length es → Begins es (ts ++ w) w → line_of (ts ++ w) ≡ line_of ts
first-line es [] w some b = absurd (omega (arith, begins-length es w w b))
first-line es (p ∷ ts) w some b = refl

whole-front : (front more w : List Placed) → front ++ (more ++ w) ≡ (front ++ more) ++ w
whole-front front more w = sym (append_assoc front more w)

located-text : {A : Type 0} (g : Grammar A) → Law g → (front : List Placed) → Completes g front → Completes (located g) front
located-text g law front c = record {
  value = (line_of (front ++ c.more), c.value);
  more = c.more;
  spelled = λ w.
      let b = c.spelled w in
      let e = first-line (g.spelling c.value) (front ++ c.more) w (law.uses c.value) (subst (λ l. Begins (g.spelling c.value) l w) (whole-front front c.more w) b) in
      rw (← e, append_assoc front c.more w) (at-line (g.spelling c.value) (front ++ (c.more ++ w)) w b);
}

located-err : {A : Type 0} (g : Grammar A) (ts : List Placed) (s : Stuck) → (located g).read ts ≡ Err s → g.read ts ≡ Err s
located-err g ts s e = elim (bind_err (g.read ts) (λ a. got (line_of ts, a.0) a.1) s e) [ inl f ↦ f | inr f ↦ absurd (let no = f.2 in cc) ]

pub located-viable : {A : Type 0} (g : Grammar A) → Law g → Viable g → Viable (located g)
located-viable g law v = record {
  some = located-text g law [] v.some;
  reaches = λ ts s e. let r = v.reaches ts s (located-err g ts s e) in record { front = r.front; parts = r.parts; text = located-text g law r.front r.text };
  blocks = λ front after other rest p s r e y b. v.blocks front after other rest p s r (located-err g (front ++ p ∷ after) s e) y.1 (line-at y.0 (g.spelling y.1) (front ++ p ∷ other) rest (law.uses y.1) b).1;
}
