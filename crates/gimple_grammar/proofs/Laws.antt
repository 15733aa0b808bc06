-- What is read is spelled so, and what is spelled so is read, of each way to build a grammar.
use Rattle.std.proofs.Common.{◌≡◌, ℕ, ◌+◌, ◌<◌, Bool, true, false, cond, List, [], ◌∷◌, ◌++◌, length, Option, Some, None, Result, Ok, Err, refl, sym, ap, subst, ◌∙◌, arith, inl, inr, ◌⊎◌, length-append, eqb, eq-eqb}
use Rattle.std.proofs.lemmas.Bool.{eqb-true}
use Rattle.std.proofs.lemmas.Slice.Eq.{bytes_eq-Decides}
use Rattle.std.specs.Prelude.{is_some, ◌||◌, if◌then◌else◌}
use denote.Enum.Bare.{same_true}
use Rattle.gimple_tokens.specs.contracts.token.Keyword.{the_type as keyword}
use Rattle.gimple_tokens.specs.contracts.token.Mark.{the_type as mark}
use Rattle.gimple_tokens.specs.declared.token.TextKind.{TextKind}
use Rattle.gimple_tokens.specs.Tokens.{Lexeme, Name, Word, Sign, End, Placed}
use Rattle.gimple_tokens.specs.Reading.{head_of, line_of, same}
use Rattle.gimple_tokens.specs.Stops.{Stuck, past, taken, single_at}
use Rattle.gimple_grammar.specs.Grammar.{◌>>=◌, got, Expected, Only, At, Never, Fits, Begins, Grammar, single, ◌▷◌, ◌◁◌, ◌then◌, bound, then_by, spelled_only, only, just, choice, at_line, located}

-- ---- steps that did not fail

pub bind_ok : {A B : Type 0} (r : Result A Stuck) (f : A → Result B Stuck) (y : B) → (r >>= f) ≡ Ok y → (x : A) × (r ≡ Ok x) × (f x ≡ Ok y)
bind_ok (Ok x) f y e = (x, refl, e)
bind_ok (Err d) f y e = absurd cc

abbrev done : {A : Type 0} → A → Result A Stuck
done x = Ok x

pub ok_is : {A : Type 0} (x y : A) → done x ≡ done y → x ≡ y
ok_is x y e = cc

-- ---- what begins

pub begins-append : (a b : List Expected) (ts mid rest : List Placed) → Begins a ts mid → Begins b mid rest → Begins (a ++ b) ts rest
begins-append [] b ts mid rest p q = subst (λ (l : List Placed). Begins b l rest) (sym p) q
begins-append (e ∷ a) b [] mid rest p q = absurd p
begins-append (e ∷ a) b (t ∷ ts) mid rest p q = (p.0, begins-append a b ts mid rest p.1 q)

pub begins-split : (a b : List Expected) (ts rest : List Placed) → Begins (a ++ b) ts rest → (mid : List Placed) × Begins a ts mid × Begins b mid rest
begins-split [] b ts rest p = (ts, refl, p)
begins-split (e ∷ a) b [] rest p = absurd p
begins-split (e ∷ a) b (t ∷ ts) rest p = let more = begins-split a b ts rest p.1 in (more.0, (p.0, more.1), more.2)

pub begins-length : (a : List Expected) (ts rest : List Placed) → Begins a ts rest → length ts ≡ length a + length rest
begins-length [] ts rest p = rw p (omega arith)
begins-length (e ∷ a) [] rest p = absurd p
begins-length (e ∷ a) (t ∷ ts) rest p = omega (arith, begins-length a ts rest p.1)

-- ---- one word or sign

same_text-is : (a b : List ℕ) → same (Name a) (Name b) ≡ true → b ≡ a
same_text-is a b e = grind (arith, bytes_eq-Decides a b)

pub same-is : (t u : Lexeme) → same t u ≡ true → u ≡ t
same-is (Name a) (Name b) e = ap Name (same_text-is a b e)
same-is (Word a) (Word b) e = ap Word (sym (same_true keyword tt a b e))
same-is (Sign a) (Sign b) e = ap Sign (sym (same_true mark tt a b e))
same-is End End e = refl
same-is t u e = absurd cc

past-cases : (b : Bool) (ts rest : List Placed) (d : Stuck) → cond b (Ok ts) (Err d) ≡ Ok rest → (b ≡ true) × (ts ≡ rest)
past-cases true ts rest d e = (refl, ok_is ts rest e)
past-cases false ts rest d e = absurd cc

pub past-takes : (t : Lexeme) (ts rest : List Placed) → past t ts ≡ Ok rest → Begins (Only t ∷ []) ts rest
unfolding past
past-takes t [] rest e = absurd cc
past-takes t (p ∷ ts) rest e = let c = past-cases (same t p.token) ts rest _ e in (same-is t p.token c.0, c.1)

pub past-again : (t : Lexeme) (ts rest : List Placed) → same t t ≡ true → Begins (Only t ∷ []) ts rest → past t ts ≡ Ok rest
unfolding past
past-again t [] rest s p = absurd p
past-again t (q ∷ ts) rest s p = let e : q.token ≡ t = p.0 in rw (e, s, p.1) refl

-- ---- the laws of a grammar

pub record Law {A : Type 0} (g : Grammar A) : Type 0 where
  -- what is read is spelled so
  pub takes : (ts rest : List Placed) (x : A) → g.read ts ≡ Ok (x, rest) → Begins (g.spelling x) ts rest
  -- what is spelled so is read
  pub again : (x : A) (ts rest : List Placed) → Begins (g.spelling x) ts rest → g.read ts ≡ Ok (x, rest)
  pub starts : (x : A) (ts rest : List Placed) → Begins (g.spelling x) ts rest → g.first (head_of ts) ≡ true
  pub uses : (x : A) → 0 < length (g.spelling x)

-- ---- one token

pub first-is : {A : Type 0} (x y : A) (r s : List Placed) → got x r ≡ got y s → x ≡ y
first-is {A = A} x y r s e = ap (λ (z : A × List Placed). z.0) (ok_is {A = A × List Placed} (x, r) (y, s) e)

pub rest-is : {A : Type 0} (x y : A) (r s : List Placed) → got x r ≡ got y s → r ≡ s
rest-is {A = A} x y r s e = ap (λ (z : A × List Placed). z.1) (ok_is {A = A × List Placed} (x, r) (y, s) e)

taken-ok : {A : Type 0} (why : Lexeme → TextKind) (p : Placed) (ts rest : List Placed) (x : A) (o : Option A) → taken why p ts o ≡ Ok (x, rest) → (o ≡ Some x) × (ts ≡ rest)
taken-ok why p ts rest x None e = absurd cc
taken-ok why p ts rest x (Some a) e = (ap Some (first-is a x ts rest e), rest-is a x ts rest e)

pub single-fits : {A : Type 0} (o : Option A) (s : Lexeme) (p : Placed) → Fits (if is_some o then Only s else Never) p → (b : A) × (o ≡ Some b) × (p.token ≡ s)
single-fits None s p h = absurd h
single-fits (Some b) s p h = (b, refl, h)

fits-single : {A : Type 0} (o : Option A) (b : A) (s : Lexeme) (p : Placed) → o ≡ Some b → p.token ≡ s → Fits (if is_some o then Only s else Never) p
fits-single None b s p e h = absurd cc
fits-single (Some a) b s p e h = h

single-takes : {A : Type 0} (pick : Lexeme → Option A) (show : A → Lexeme) (why : Lexeme → TextKind) → ((t : Lexeme) (a : A) → pick t ≡ Some a → t ≡ show a)
    → (ts rest : List Placed) (x : A) → (single pick show why).read ts ≡ Ok (x, rest) → Begins ((single pick show why).spelling x) ts rest
unfolding single_at
single-takes pick show why shows [] rest x e = absurd cc
single-takes pick show why shows (p ∷ ts) rest x e =
    let t = taken-ok why p ts rest x (pick p.token) e in
    let is = shows p.token x t.0 in
    (fits-single (pick (show x)) x (show x) p (ap pick (sym is) ∙ t.0) is, t.1)

single-again : {A : Type 0} (pick : Lexeme → Option A) (show : A → Lexeme) (why : Lexeme → TextKind) → ((a b : A) → pick (show a) ≡ Some b → b ≡ a)
    → (x : A) (ts rest : List Placed) → Begins ((single pick show why).spelling x) ts rest → (single pick show why).read ts ≡ Ok (x, rest)
unfolding single_at
single-again pick show why keeps x [] rest h = absurd h
single-again pick show why keeps x (p ∷ ts) rest h =
    let f = single-fits (pick (show x)) (show x) p h.0 in
    let is : pick p.token ≡ Some x = ap pick f.2 ∙ f.1 ∙ ap Some (keeps x f.0 f.1) in
    rw (is, h.1) refl

single-starts : {A : Type 0} (pick : Lexeme → Option A) (show : A → Lexeme) (why : Lexeme → TextKind) → (x : A) (ts rest : List Placed) → Begins ((single pick show why).spelling x) ts rest → is_some (pick (head_of ts)) ≡ true
single-starts pick show why x [] rest h = absurd h
single-starts pick show why x (p ∷ ts) rest h =
    let f = single-fits (pick (show x)) (show x) p h.0 in
    ap (λ o. is_some o) (ap pick f.2 ∙ f.1)

pub single-law : {A : Type 0} (pick : Lexeme → Option A) (show : A → Lexeme) (why : Lexeme → TextKind) → ((t : Lexeme) (a : A) → pick t ≡ Some a → t ≡ show a) → ((a b : A) → pick (show a) ≡ Some b → b ≡ a) → Law (single pick show why)
single-law pick show why shows keeps = record {
  takes = single-takes pick show why shows;
  again = single-again pick show why keeps;
  starts = single-starts pick show why;
  uses = λ x. omega arith;
}

-- ---- a word or a sign before, after and alone

pub past-starts : (t : Lexeme) (es : List Expected) (ts rest : List Placed) → same t t ≡ true → Begins (Only t ∷ es) ts rest → same t (head_of ts) ≡ true
past-starts t es [] rest s h = absurd h
past-starts t es (p ∷ ts) rest s h = let e : p.token ≡ t = h.0 in rw e s

pub just-law : (t : Lexeme) → same t t ≡ true → Law (just t)
just-law t s = record {
  takes = λ ts rest x e. let b = bind_ok (past t ts) (λ r. Ok (tt, r)) (x, rest) e in past-takes t ts rest (b.1 ∙ ap Ok (rest-is tt x b.0 rest b.2));
  again = λ x ts rest h. rw (past-again t ts rest s h) refl;
  starts = λ x ts rest h. past-starts t [] ts rest s h;
  uses = λ x. omega arith;
}

pub before-law : {A : Type 0} (t : Lexeme) (g : Grammar A) → same t t ≡ true → Law g → Law (t ▷ g)
before-law t g s law = record {
  takes = λ ts rest x e. let b = bind_ok (past t ts) g.read (x, rest) e in begins-append (Only t ∷ []) (g.spelling x) ts b.0 rest (past-takes t ts b.0 b.1) (law.takes b.0 rest x b.2);
  again = λ x ts rest h. let m = begins-split (Only t ∷ []) (g.spelling x) ts rest h in rw (past-again t ts m.0 s m.1) (law.again x m.0 rest m.2);
  starts = λ x ts rest h. past-starts t (g.spelling x) ts rest s h;
  uses = λ x. omega arith;
}

pub after-law : {A : Type 0} (g : Grammar A) (t : Lexeme) → same t t ≡ true → Law g → Law (g ◁ t)
after-law g t s law = record {
  takes = λ ts rest x e.
      let a = bind_ok (g.read ts) (λ a. past t a.1 >>= λ r. Ok (a.0, r)) (x, rest) e in
      let b = bind_ok (past t a.0.1) (λ r. Ok (a.0.0, r)) (x, rest) a.2 in
      let is = first-is a.0.0 x b.0 rest b.2 in
      begins-append (g.spelling x) (Only t ∷ []) ts a.0.1 rest (law.takes ts a.0.1 x (a.1 ∙ ap (λ y. got y a.0.1) is)) (past-takes t a.0.1 rest (b.1 ∙ ap Ok (rest-is a.0.0 x b.0 rest b.2)));
  again = λ x ts rest h.
      let m = begins-split (g.spelling x) (Only t ∷ []) ts rest h in
      rw (law.again x ts m.0 m.1, past-again t m.0 rest s m.2) refl;
  starts = λ x ts rest h. let m = begins-split (g.spelling x) (Only t ∷ []) ts rest h in law.starts x ts m.0 m.1;
  uses = λ x. omega (arith, length-append (g.spelling x) (Only t ∷ []));
}

-- ---- one after the other, where the first decides the second

by-first : {A : Type 0} {B : A → Type 0} (a : A) (b : B a) (x : (y : A) × B y) (r s : List Placed) → bound {B = B} a b r ≡ got x s → (a, b) ≡ x
by-first {A = A} {B = B} a b x r s e = ap (λ (z : ((y : A) × B y) × List Placed). z.0) (ok_is {A = ((y : A) × B y) × List Placed} ((a, b), r) (x, s) e)

by-rest : {A : Type 0} {B : A → Type 0} (a : A) (b : B a) (x : (y : A) × B y) (r s : List Placed) → bound {B = B} a b r ≡ got x s → r ≡ s
by-rest {A = A} {B = B} a b x r s e = ap (λ (z : ((y : A) × B y) × List Placed). z.1) (ok_is {A = ((y : A) × B y) × List Placed} ((a, b), r) (x, s) e)

pub by-law : {A : Type 0} {B : A → Type 0} (g : Grammar A) (h : (a : A) → Grammar (B a)) → Law g → ((a : A) → Law (h a)) → Law (then_by g h)
by-law {A = A} {B = B} g h left right = record {
  takes = λ ts rest x e.
      let a = bind_ok (g.read ts) (λ a. (h a.0).read a.1 >>= λ b. bound {B = B} a.0 b.0 b.1) (x, rest) e in
      let b = bind_ok ((h a.0.0).read a.0.1) (λ b. bound {B = B} a.0.0 b.0 b.1) (x, rest) a.2 in
      let is = by-first {B = B} a.0.0 b.0.0 x b.0.1 rest b.2 in
      let end = by-rest {B = B} a.0.0 b.0.0 x b.0.1 rest b.2 in
      subst (λ (y : (z : A) × B z). Begins (g.spelling y.0 ++ (h y.0).spelling y.1) ts rest) is
      (begins-append (g.spelling a.0.0) ((h a.0.0).spelling b.0.0) ts a.0.1 rest (left.takes ts a.0.1 a.0.0 a.1) ((right a.0.0).takes a.0.1 rest b.0.0 (b.1 ∙ ap (λ r. got b.0.0 r) end)));
  again = λ x ts rest p.
      let m = begins-split (g.spelling x.0) ((h x.0).spelling x.1) ts rest p in
      rw (left.again x.0 ts m.0 m.1, (right x.0).again x.1 m.0 rest m.2) refl;
  starts = λ x ts rest p. let m = begins-split (g.spelling x.0) ((h x.0).spelling x.1) ts rest p in left.starts x.0 ts m.0 m.1;
  uses = λ x. omega (arith, length-append (g.spelling x.0) ((h x.0).spelling x.1), left.uses x.0);
}

-- one after the other, which the first does not decide
pub then-law : {A B : Type 0} (g : Grammar A) (h : Grammar B) → Law g → Law h → Law (g then h)
then-law {B = B} g h left right = by-law {B = λ _. B} g (λ _. h) left (λ _. right)

-- ---- a value in another form

pub never : (es : List Expected) (ts rest : List Placed) → Begins (Never ∷ es) ts rest → ⊥
never es [] rest h = h
never es (p ∷ ts) rest h = h.0

-- it spells nothing
abbrev pub HasNever : List Expected → Type 0
HasNever [] = ⊥
HasNever (Only t ∷ es) = HasNever es
HasNever (At t line ∷ es) = HasNever es
HasNever (Never ∷ es) = Unit {0}

pub no-text : (es : List Expected) (ts rest : List Placed) → HasNever es → Begins es ts rest → ⊥
no-text [] ts rest h p = h
no-text (e ∷ es) [] rest h p = p
no-text (Only t ∷ es) (q ∷ ts) rest h p = no-text es ts rest h p.1
no-text (At t line ∷ es) (q ∷ ts) rest h p = no-text es ts rest h p.1
no-text (Never ∷ es) (q ∷ ts) rest h p = p.0

pub only-split : {A : Type 0} (g : Grammar A) (o : Option A) (ts rest : List Placed) → Begins (spelled_only g o) ts rest → (a : A) × (o ≡ Some a) × Begins (g.spelling a) ts rest
only-split g None ts rest h = absurd (never [] ts rest h)
only-split g (Some a) ts rest h = (a, refl, h)

only-uses : {A : Type 0} (g : Grammar A) → Law g → (o : Option A) → 0 < length (spelled_only g o)
only-uses g law None = omega arith
only-uses g law (Some a) = law.uses a

-- make and unmake are inverse to each other, where unmake gives something
pub record IsPart {A B : Type 0} (make : A → B) (unmake : B → Option A) : Type 0 where
  pub back : (a : A) → unmake (make a) ≡ Some a
  pub made : (b : B) (a : A) → unmake b ≡ Some a → make a ≡ b

pub only-law : {A B : Type 0} (g : Grammar A) (make : A → B) (unmake : B → Option A) → IsPart make unmake → Law g → Law (only g make unmake)
only-law g make unmake part law = record {
  takes = λ ts rest x e.
      let a = bind_ok (g.read ts) (λ a. Ok (make a.0, a.1)) (x, rest) e in
      let is = first-is (make a.0.0) x a.0.1 rest a.2 in
      let o : unmake x ≡ Some a.0.0 = ap unmake (sym is) ∙ part.back a.0.0 in
      rw o (law.takes ts rest a.0.0 (a.1 ∙ ap (λ r. got a.0.0 r) (rest-is (make a.0.0) x a.0.1 rest a.2)));
  again = λ x ts rest h.
      let s = only-split g (unmake x) ts rest h in
      rw (law.again s.0 ts rest s.2, part.made x s.0 s.1) refl;
  starts = λ x ts rest h. let s = only-split g (unmake x) ts rest h in law.starts s.0 ts rest s.2;
  uses = λ x. only-uses g law (unmake x);
}

-- ---- either

pub chosen : {X : Type 0} (b : Bool) (x y z : X) → cond b x y ≡ z → ((b ≡ true) × (x ≡ z)) ⊎ ((b ≡ false) × (y ≡ z))
chosen true x y z e = inl (refl, e)
chosen false x y z e = inr (refl, e)

pub apart-false : (x y : Bool) → (x ≡ true → y ≡ false) → y ≡ true → x ≡ false
apart-false true y f e = absurd (let h = f refl in cc)
apart-false false y f e = refl

pub or-left : (x y : Bool) → x ≡ true → (x || y) ≡ true
or-left x y e = rw e refl

pub or-right : (x y : Bool) → y ≡ true → (x || y) ≡ true
or-right true y e = refl
or-right false y e = e

pub choice-split : (b : Bool) (es fs : List Expected) (ts rest : List Placed) → Begins (if b then es else fs) ts rest
    → ((b ≡ true) × Begins es ts rest) ⊎ ((b ≡ false) × Begins fs ts rest)
choice-split true es fs ts rest p = inl (refl, p)
choice-split false es fs ts rest p = inr (refl, p)

-- g and h begin with other tokens, and each spells nothing of what the other spells
pub record AreApart {A : Type 0} (g : Grammar A) (by_g : A → Bool) (h : Grammar A) : Type 0 where
  pub first : (t : Lexeme) → g.first t ≡ true → h.first t ≡ false
  pub left : (a : A) → by_g a ≡ false → HasNever (g.spelling a)
  pub right : (a : A) → by_g a ≡ true → HasNever (h.spelling a)

pub choice-left : (b : Bool) (es fs : List Expected) (ts rest : List Placed) → (b ≡ false → HasNever es) → Begins es ts rest → Begins (if b then es else fs) ts rest
choice-left true es fs ts rest f p = p
choice-left false es fs ts rest f p = absurd (no-text es ts rest (f refl) p)

pub choice-right : (b : Bool) (es fs : List Expected) (ts rest : List Placed) → (b ≡ true → HasNever fs) → Begins fs ts rest → Begins (if b then es else fs) ts rest
choice-right true es fs ts rest f p = absurd (no-text fs ts rest (f refl) p)
choice-right false es fs ts rest f p = p

choice-uses : (b : Bool) (es fs : List Expected) → 0 < length es → 0 < length fs → 0 < length (if b then es else fs)
choice-uses true es fs p q = p
choice-uses false es fs p q = q

choice-again : {A : Type 0} (g : Grammar A) (by_g : A → Bool) (h : Grammar A) → AreApart g by_g h → Law g → Law h
    → (x : A) (ts rest : List Placed) → Begins ((choice g by_g h).spelling x) ts rest → (choice g by_g h).read ts ≡ Ok (x, rest)
choice-again g by_g h apart left right x ts rest p =
    elim (choice-split (by_g x) (g.spelling x) (h.spelling x) ts rest p) [
      | inl c ↦ rw (left.starts x ts rest c.1) (left.again x ts rest c.1)
      | inr c ↦ rw (apart-false (g.first (head_of ts)) (h.first (head_of ts)) (apart.first (head_of ts)) (right.starts x ts rest c.1)) (right.again x ts rest c.1)
    ]

pub choice-law : {A : Type 0} (g : Grammar A) (by_g : A → Bool) (h : Grammar A) → AreApart g by_g h → Law g → Law h → Law (choice g by_g h)
choice-law g by_g h apart left right = record {
  takes = λ ts rest x e.
      elim (chosen (g.first (head_of ts)) (g.read ts) (h.read ts) (Ok (x, rest)) e) [
        | inl c ↦ choice-left (by_g x) (g.spelling x) (h.spelling x) ts rest (apart.left x) (left.takes ts rest x c.1)
        | inr c ↦ choice-right (by_g x) (g.spelling x) (h.spelling x) ts rest (apart.right x) (right.takes ts rest x c.1)
      ];
  again = choice-again g by_g h apart left right;
  starts = λ x ts rest p.
      elim (choice-split (by_g x) (g.spelling x) (h.spelling x) ts rest p) [
        | inl c ↦ or-left _ _ (left.starts x ts rest c.1)
        | inr c ↦ or-right _ _ (right.starts x ts rest c.1)
      ];
  uses = λ x. choice-uses (by_g x) (g.spelling x) (h.spelling x) (left.uses x) (right.uses x);
}

-- ---- a value and its line

pub at-line : (es : List Expected) (ts rest : List Placed) → Begins es ts rest → Begins (at_line (line_of ts) es) ts rest
at-line [] ts rest p = p
at-line (e ∷ es) [] rest p = absurd p
at-line (Only t ∷ es) (q ∷ ts) rest p = ((p.0, refl), p.1)
at-line (At t line ∷ es) (q ∷ ts) rest p = let e : eqb line q.line ≡ true = eq-eqb line q.line (sym p.0.1) in (rw e p.0, p.1)
at-line (Never ∷ es) (q ∷ ts) rest p = absurd p.0

at-fits : (b : Bool) (t : Lexeme) (other : ℕ) (q : Placed) → Fits (if b then At t other else Never) q → (b ≡ true) × Fits (At t other) q
at-fits true t other q p = (refl, p)
at-fits false t other q p = absurd p

located-uses : (line : ℕ) (es : List Expected) → 0 < length es → 0 < length (at_line line es)
located-uses line [] h = h
located-uses line (Only t ∷ es) h = omega arith
located-uses line (At t other ∷ es) h = omega arith
located-uses line (Never ∷ es) h = omega arith

pub line-at : (line : ℕ) (es : List Expected) (ts rest : List Placed) → 0 < length es → Begins (at_line line es) ts rest → (line ≡ line_of ts) × Begins es ts rest
line-at line [] ts rest some p = absurd (omega arith)
line-at line (Only t ∷ es) [] rest some p = absurd p
line-at line (At t other ∷ es) [] rest some p = absurd p
line-at line (Never ∷ es) [] rest some p = absurd p
line-at line (Only t ∷ es) (q ∷ ts) rest some p = (sym p.0.1, (p.0.0, p.1))
line-at line (At t other ∷ es) (q ∷ ts) rest some p = let f = at-fits (eqb other line) t other q p.0 in (sym (eqb-true other line f.0) ∙ sym f.1.1, (f.1, p.1))
line-at line (Never ∷ es) (q ∷ ts) rest some p = absurd p.0

pub located-law : {A : Type 0} (g : Grammar A) → Law g → Law (located g)
located-law g law = record {
  takes = λ ts rest x e.
      let a = bind_ok (g.read ts) (λ a. Ok ((line_of ts, a.0), a.1)) (x, rest) e in
      let is = first-is (line_of ts, a.0.0) x a.0.1 rest a.2 in
      subst (λ y. Begins (at_line y.0 (g.spelling y.1)) ts rest) is (at-line (g.spelling a.0.0) ts rest (law.takes ts rest a.0.0 (a.1 ∙ ap (λ r. got a.0.0 r) (rest-is (line_of ts, a.0.0) x a.0.1 rest a.2))));
  again = λ x ts rest p.
      let l = line-at x.0 (g.spelling x.1) ts rest (law.uses x.1) p in
      rw (law.again x.1 ts rest l.1, ← l.0) refl;
  starts = λ x ts rest p. law.starts x.1 ts rest (line-at x.0 (g.spelling x.1) ts rest (law.uses x.1) p).1;
  uses = λ x. located-uses x.0 (g.spelling x.1) (law.uses x.1);
}
