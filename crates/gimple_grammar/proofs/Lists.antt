-- The laws of values one after the other: up to a token that ends them, and as a chain.
use Rattle.std.proofs.Common.{◌≡◌, ℕ, zero, suc, ◌<◌, Bool, true, false, cond, List, [], ◌∷◌, ◌++◌, length, Result, Ok, Err, refl, sym, ap, subst, ◌∙◌, arith, inl, inr, length-append, append_assoc}
use Rattle.std.specs.Prelude.{◌||◌, if◌then◌else◌}
use Rattle.gimple_tokens.specs.declared.token.TextKind.TheVariants.{Syntax}
use Rattle.gimple_tokens.specs.Tokens.{Lexeme, Placed}
use Rattle.gimple_tokens.specs.Reading.{head_of}
use Rattle.gimple_tokens.specs.Stops.{Stuck}
use Rattle.gimple_grammar.specs.Grammar.{◌>>=◌, got, Begins, Grammar, ◌then◌, many_at, spellings, chain_at, chain, chain_spelling}
use Rattle.gimple_grammar.proofs.Laws.{Law, bind_ok, first-is, rest-is, begins-append, begins-split, begins-length, never, chosen, or-left, or-right}
use Rattle.gimple_grammar.proofs.Viable.{Viable, Completes, Reaches, bind_err, begins-front, read-twice, read-again, same-head}

-- ---- values up to a token that ends them, and then h

-- h begins with the tokens that end the values, and they with the others
pub record Turns {A B : Type 0} (ends : Lexeme → Bool) (g : Grammar A) (h : Grammar B) : Type 0 where
  pub goes : (t : Lexeme) → g.first t ≡ true → ends t ≡ false
  pub stops : (t : Lexeme) → h.first t ≡ true → ends t ≡ true

pub repeat_at : {A B : Type 0} → (Lexeme → Bool) → Grammar A → Grammar B → ℕ → List Placed → Result ((List A × B) × List Placed) Stuck
repeat_at ends g h zero ts = Err (record { kind = Syntax; rest = ts })
repeat_at ends g h (suc n) ts =
    if ends (head_of ts) then (h.read ts >>= λ b. Ok (([], b.0), b.1))
    else (g.read ts >>= λ a. repeat_at ends g h n a.1 >>= λ x. Ok ((a.0 ∷ x.0.0, x.0.1), x.1))

abbrev pub repeat : {A B : Type 0} → (Lexeme → Bool) → Grammar A → Grammar B → Grammar (List A × B)
repeat ends g h = record {
  first = λ t. ends t || g.first t;
  read = λ ts. repeat_at ends g h (suc (length ts)) ts;
  spelling = λ x. spellings g x.0 ++ h.spelling x.1;
}

repeat-takes : {A B : Type 0} (ends : Lexeme → Bool) (g : Grammar A) (h : Grammar B) → Law g → Law h → (n : ℕ) (ts rest : List Placed) (x : List A × B) → repeat_at ends g h n ts ≡ Ok (x, rest) → Begins (spellings g x.0 ++ h.spelling x.1) ts rest
unfolding repeat_at
repeat-takes ends g h lg lh zero ts rest x e = absurd cc
repeat-takes {A = A} {B = B} ends g h lg lh (suc n) ts rest x e =
    elim (chosen (ends (head_of ts)) (h.read ts >>= λ b. got {A = List A × B} ([], b.0) b.1) (g.read ts >>= λ a. repeat_at ends g h n a.1 >>= λ y. got {A = List A × B} (a.0 ∷ y.0.0, y.0.1) y.1) (Ok (x, rest)) e) [
      | inl c ↦
          let b = bind_ok (h.read ts) (λ b. got {A = List A × B} ([], b.0) b.1) (x, rest) c.1 in
          let is = first-is {A = List A × B} ([], b.0.0) x b.0.1 rest b.2 in
          let end = rest-is {A = List A × B} ([], b.0.0) x b.0.1 rest b.2 in
          subst (λ (y : List A × B). Begins (spellings g y.0 ++ h.spelling y.1) ts rest) is (lh.takes ts rest b.0.0 (b.1 ∙ ap (λ r. got b.0.0 r) end))
      | inr c ↦
          let a = bind_ok (g.read ts) (λ a. repeat_at ends g h n a.1 >>= λ y. got {A = List A × B} (a.0 ∷ y.0.0, y.0.1) y.1) (x, rest) c.1 in
          let b = bind_ok (repeat_at ends g h n a.0.1) (λ y. got {A = List A × B} (a.0.0 ∷ y.0.0, y.0.1) y.1) (x, rest) a.2 in
          let is = first-is {A = List A × B} (a.0.0 ∷ b.0.0.0, b.0.0.1) x b.0.1 rest b.2 in
          let end = rest-is {A = List A × B} (a.0.0 ∷ b.0.0.0, b.0.0.1) x b.0.1 rest b.2 in
          let later = repeat-takes ends g h lg lh n a.0.1 rest b.0.0 (b.1 ∙ ap (λ r. got b.0.0 r) end) in
          let all = begins-append (g.spelling a.0.0) (spellings g b.0.0.0 ++ h.spelling b.0.0.1) ts a.0.1 rest (lg.takes ts a.0.1 a.0.0 a.1) later in
          subst (λ (y : List A × B). Begins (spellings g y.0 ++ h.spelling y.1) ts rest) is (subst (λ es. Begins es ts rest) (sym (append_assoc (g.spelling a.0.0) (spellings g b.0.0.0) (h.spelling b.0.0.1))) all)
    ]

repeat-again : {A B : Type 0} (ends : Lexeme → Bool) (g : Grammar A) (h : Grammar B) → Turns ends g h → Law g → Law h → (xs : List A) (y : B) (n : ℕ) (ts rest : List Placed) → length ts < n → Begins (spellings g xs ++ h.spelling y) ts rest → repeat_at ends g h n ts ≡ Ok ((xs, y), rest)
unfolding repeat_at
repeat-again ends g h turns lg lh xs y zero ts rest lt p = absurd (omega arith)
repeat-again ends g h turns lg lh [] y (suc n) ts rest lt p = rw (turns.stops (head_of ts) (lh.starts y ts rest p), lh.again y ts rest p) refl
repeat-again ends g h turns lg lh (x ∷ xs) y (suc n) ts rest lt p =
    let regrouped : Begins (g.spelling x ++ (spellings g xs ++ h.spelling y)) ts rest = subst (λ es. Begins es ts rest) (append_assoc (g.spelling x) (spellings g xs) (h.spelling y)) p in
    let m = begins-split (g.spelling x) (spellings g xs ++ h.spelling y) ts rest regrouped in
    let goes = turns.goes (head_of ts) (lg.starts x ts m.0 m.1) in
    let shorter : length m.0 < n = omega (arith, begins-length (g.spelling x) ts m.0 m.1, lg.uses x) in
    rw (goes, lg.again x ts m.0 m.1, repeat-again ends g h turns lg lh xs y n m.0 rest shorter m.2) refl

repeat-starts : {A B : Type 0} (ends : Lexeme → Bool) (g : Grammar A) (h : Grammar B) → Turns ends g h → Law g → Law h → (xs : List A) (y : B) (ts rest : List Placed) → Begins (spellings g xs ++ h.spelling y) ts rest → (ends (head_of ts) || g.first (head_of ts)) ≡ true
repeat-starts ends g h turns lg lh [] y ts rest p = or-left _ _ (turns.stops (head_of ts) (lh.starts y ts rest p))
repeat-starts ends g h turns lg lh (x ∷ xs) y ts rest p =
    let m = begins-split (g.spelling x) (spellings g xs ++ h.spelling y) ts rest (subst (λ es. Begins es ts rest) (append_assoc (g.spelling x) (spellings g xs) (h.spelling y)) p) in
    or-right _ _ (lg.starts x ts m.0 m.1)

pub repeat-law : {A B : Type 0} (ends : Lexeme → Bool) (g : Grammar A) (h : Grammar B) → Turns ends g h → Law g → Law h → Law (repeat ends g h)
repeat-law ends g h turns lg lh = record {
  takes = λ ts rest x e. repeat-takes ends g h lg lh (suc (length ts)) ts rest x e;
  again = λ x ts rest p. repeat-again ends g h turns lg lh x.0 x.1 (suc (length ts)) ts rest (omega arith) p;
  starts = λ x ts rest p. repeat-starts ends g h turns lg lh x.0 x.1 ts rest p;
  uses = λ x. omega (arith, length-append (spellings g x.0) (h.spelling x.1), lh.uses x.1);
}

last-text : {A B : Type 0} (ends : Lexeme → Bool) (g : Grammar A) (h : Grammar B) (front : List Placed) → Completes h front → Completes (repeat ends g h) front
last-text ends g h front c = record { value = ([], c.value); more = c.more; spelled = c.spelled }

first-text : {A B : Type 0} (ends : Lexeme → Bool) (g : Grammar A) (h : Grammar B) (front : List Placed) → Completes g front → Completes h [] → Completes (repeat ends g h) front
first-text ends g h front c d = record {
  value = (c.value ∷ [], d.value);
  more = c.more ++ d.more;
  spelled = λ w.
      rw (append_assoc c.more d.more w, append_assoc (g.spelling c.value) [] (h.spelling d.value))
      (begins-append (g.spelling c.value) (h.spelling d.value) (front ++ (c.more ++ (d.more ++ w))) (d.more ++ w) w (c.spelled (d.more ++ w)) (d.spelled w));
}

next-text : {A B : Type 0} (ends : Lexeme → Bool) (g : Grammar A) (h : Grammar B) (a : A) (one two : List Placed) → ((w : List Placed) → Begins (g.spelling a) (one ++ w) w) → Completes (repeat ends g h) two → Completes (repeat ends g h) (one ++ two)
next-text ends g h a one two left c = record {
  value = (a ∷ c.value.0, c.value.1);
  more = c.more;
  spelled = λ w.
      rw (append_assoc one two (c.more ++ w), append_assoc (g.spelling a) (spellings g c.value.0) (h.spelling c.value.1))
      (begins-append (g.spelling a) (spellings g c.value.0 ++ h.spelling c.value.1) (one ++ (two ++ (c.more ++ w))) (two ++ (c.more ++ w)) w (left (two ++ (c.more ++ w))) (c.spelled w));
}

abbrev turn_of : {A B : Type 0} → (Lexeme → Bool) → Grammar A → Grammar B → ℕ → List Placed → Result ((List A × B) × List Placed) Stuck
turn_of {A = A} {B = B} ends g h n ts = g.read ts >>= λ a. repeat_at ends g h n a.1 >>= λ y. got {A = List A × B} (a.0 ∷ y.0.0, y.0.1) y.1

repeat-reaches : {A B : Type 0} (ends : Lexeme → Bool) (g : Grammar A) (h : Grammar B) → Law g → Viable g → Viable h → (n : ℕ) (ts : List Placed) (s : Stuck) → length ts < n → repeat_at ends g h n ts ≡ Err s → Reaches (repeat ends g h) ts s.rest
unfolding repeat_at
repeat-reaches ends g h law vg vh zero ts s lt e = absurd (omega arith)
repeat-reaches {A = A} {B = B} ends g h law vg vh (suc n) ts s lt e =
    elim (chosen (ends (head_of ts)) (h.read ts >>= λ b. got {A = List A × B} ([], b.0) b.1) (turn_of ends g h n ts) (Err s) e) [
      | inl c ↦ elim (bind_err (h.read ts) (λ b. got {A = List A × B} ([], b.0) b.1) s c.1) [
        | inl d ↦ let r = vh.reaches ts s d in record { front = r.front; parts = r.parts; text = last-text ends g h r.front r.text }
        | inr d ↦ absurd (let none = d.2 in cc)
      ]
      | inr c ↦ elim (bind_err (g.read ts) (λ a. repeat_at ends g h n a.1 >>= λ y. got {A = List A × B} (a.0 ∷ y.0.0, y.0.1) y.1) s c.1) [
        | inl d ↦ let r = vg.reaches ts s d in record { front = r.front; parts = r.parts; text = first-text ends g h r.front r.text vh.some }
        | inr d ↦ elim (bind_err (repeat_at ends g h n d.0.1) (λ y. got {A = List A × B} (d.0.0 ∷ y.0.0, y.0.1) y.1) s d.2) [
          | inl f ↦
              let b = begins-front (g.spelling d.0.0) ts d.0.1 (law.takes ts d.0.1 d.0.0 d.1) in
              let less : length d.0.1 < n = omega (arith, begins-length (g.spelling d.0.0) ts d.0.1 (law.takes ts d.0.1 d.0.0 d.1), law.uses d.0.0) in
              let r = repeat-reaches ends g h law vg vh n d.0.1 s less f in
              record { front = b.0 ++ r.front; parts = b.1 ∙ ap (λ (l : List Placed). b.0 ++ l) r.parts ∙ sym (append_assoc b.0 r.front s.rest); text = next-text ends g h d.0.0 b.0 r.front b.2 r.text }
          | inr f ↦ absurd (let none = f.2 in cc)
        ]
      ]
    ]

repeat-blocks : {A B : Type 0} (ends : Lexeme → Bool) (g : Grammar A) (h : Grammar B) → Turns ends g h → Law g → Law h → Viable g → Viable h → (n : ℕ)
    → (front after other rest : List Placed) (p : Placed) (s : Stuck) → length (front ++ p ∷ after) < n → s.rest ≡ p ∷ after → repeat_at ends g h n (front ++ p ∷ after) ≡ Err s
    → (xs : List A) (z : B) → Begins (spellings g xs ++ h.spelling z) (front ++ p ∷ other) rest → ⊥
unfolding repeat_at
repeat-blocks ends g h turns lg lh vg vh zero front after other rest p s lt r e xs z b = absurd (omega arith)
repeat-blocks {A = A} {B = B} ends g h turns lg lh vg vh (suc n) front after other rest p s lt r e [] z b =
    let here : ends (head_of (front ++ p ∷ after)) ≡ true = ap ends (same-head front after other p) ∙ turns.stops (head_of (front ++ p ∷ other)) (lh.starts z (front ++ p ∷ other) rest b) in
    elim (chosen (ends (head_of (front ++ p ∷ after))) (h.read (front ++ p ∷ after) >>= λ c. got {A = List A × B} ([], c.0) c.1) (turn_of ends g h n (front ++ p ∷ after)) (Err s) e) [
      | inl c ↦ elim (bind_err (h.read (front ++ p ∷ after)) (λ c. got {A = List A × B} ([], c.0) c.1) s c.1) [
        | inl d ↦ vh.blocks front after other rest p s r d z b
        | inr d ↦ absurd (let none = d.2 in cc)
      ]
      | inr c ↦ absurd (let none = c.0 in cc)
    ]
repeat-blocks {A = A} {B = B} ends g h turns lg lh vg vh (suc n) front after other rest p s lt r e (x ∷ xs) z b =
    let m = begins-split (g.spelling x) (spellings g xs ++ h.spelling z) (front ++ p ∷ other) rest (subst (λ es. Begins es (front ++ p ∷ other) rest) (append_assoc (g.spelling x) (spellings g xs) (h.spelling z)) b) in
    let here : ends (head_of (front ++ p ∷ after)) ≡ false = ap ends (same-head front after other p) ∙ turns.goes (head_of (front ++ p ∷ other)) (lg.starts x (front ++ p ∷ other) m.0 m.1) in
    elim (chosen (ends (head_of (front ++ p ∷ after))) (h.read (front ++ p ∷ after) >>= λ c. got {A = List A × B} ([], c.0) c.1) (turn_of ends g h n (front ++ p ∷ after)) (Err s) e) [
      | inl c ↦ absurd (let none = c.0 in cc)
      | inr c ↦ elim (bind_err (g.read (front ++ p ∷ after)) (λ a. repeat_at ends g h n a.1 >>= λ y. got {A = List A × B} (a.0 ∷ y.0.0, y.0.1) y.1) s c.1) [
        | inl d ↦ vg.blocks front after other m.0 p s r d x m.1
        | inr d ↦ elim (bind_err (repeat_at ends g h n d.0.1) (λ y. got {A = List A × B} (d.0.0 ∷ y.0.0, y.0.1) y.1) s d.2) [
          | inl f ↦
              let less : length d.0.1 < n = omega (arith, begins-length (g.spelling d.0.0) (front ++ p ∷ after) d.0.1 (lg.takes (front ++ p ∷ after) d.0.1 d.0.0 d.1), lg.uses d.0.0) in
              let to = repeat-reaches ends g h lg vg vh n d.0.1 s less f in
              let mid : d.0.1 ≡ to.front ++ p ∷ after = to.parts ∙ ap (λ (l : List Placed). to.front ++ l) r in
              let there = read-again g lg front to.front after other d.0.1 m.0 p d.0.0 x d.1 mid m.1 in
              repeat-blocks ends g h turns lg lh vg vh n to.front after other rest p s (subst (λ (l : List Placed). length l < n) mid less) r (ap (repeat_at ends g h n) (sym mid) ∙ f) xs z (subst (λ l. Begins (spellings g xs ++ h.spelling z) l rest) there m.2)
          | inr f ↦ absurd (let none = f.2 in cc)
        ]
      ]
    ]

pub repeat-viable : {A B : Type 0} (ends : Lexeme → Bool) (g : Grammar A) (h : Grammar B) → Turns ends g h → Law g → Law h → Viable g → Viable h → Viable (repeat ends g h)
repeat-viable ends g h turns lg lh vg vh = record {
  some = last-text ends g h [] vh.some;
  reaches = λ ts s e. repeat-reaches ends g h lg vg vh (suc (length ts)) ts s (omega arith) e;
  blocks = λ front after other rest p s r e y b. repeat-blocks ends g h turns lg lh vg vh (suc (length (front ++ p ∷ after))) front after other rest p s (omega arith) r e y.0 y.1 b;
}

-- ---- which is `many`, and then h

last-cases : {A B : Type 0} (a : A) (m : List A) (r : Result (B × List Placed) Stuck)
    → (r >>= λ b. got {A = List A × B} (a ∷ m, b.0) b.1) ≡ ((r >>= λ b. got {A = List A × B} (m, b.0) b.1) >>= λ x. got {A = List A × B} (a ∷ x.0.0, x.0.1) x.1)
last-cases a m (Ok b) = refl
last-cases a m (Err s) = refl

list-cases : {A B : Type 0} (a : A) (h : Grammar B) (r : Result (List A × List Placed) Stuck)
    → ((r >>= λ m. got (a ∷ m.0) m.1) >>= λ x. h.read x.1 >>= λ b. got {A = List A × B} (x.0, b.0) b.1)
    ≡ ((r >>= λ m. h.read m.1 >>= λ b. got {A = List A × B} (m.0, b.0) b.1) >>= λ x. got {A = List A × B} (a ∷ x.0.0, x.0.1) x.1)
list-cases a h (Ok m) = last-cases a m.0 (h.read m.1)
list-cases a h (Err s) = refl

abbrev many_then : {A B : Type 0} → (Lexeme → Bool) → Grammar A → Grammar B → ℕ → List Placed → Result ((List A × B) × List Placed) Stuck
many_then {A = A} {B = B} ends g h n ts = many_at ends g n ts >>= λ a. h.read a.1 >>= λ b. got {A = List A × B} (a.0, b.0) b.1

turn-cases : {A B : Type 0} (ends : Lexeme → Bool) (g : Grammar A) (h : Grammar B) (n : ℕ) (r : Result (A × List Placed) Stuck) → ((ts : List Placed) → many_then ends g h n ts ≡ repeat_at ends g h n ts)
    → ((r >>= λ a. many_at ends g n a.1 >>= λ m. got (a.0 ∷ m.0) m.1) >>= λ x. h.read x.1 >>= λ b. got {A = List A × B} (x.0, b.0) b.1)
    ≡ (r >>= λ a. repeat_at ends g h n a.1 >>= λ y. got {A = List A × B} (a.0 ∷ y.0.0, y.0.1) y.1)
turn-cases {A = A} {B = B} ends g h n (Ok a) same_later =
    list-cases a.0 h (many_at ends g n a.1) ∙ ap (λ (r : Result ((List A × B) × List Placed) Stuck). r >>= λ x. got {A = List A × B} (a.0 ∷ x.0.0, x.0.1) x.1) (same_later a.1)
turn-cases ends g h n (Err s) same_later = refl

abbrev with_last : {A B : Type 0} → Grammar B → Result (List A × List Placed) Stuck → Result ((List A × B) × List Placed) Stuck
with_last {A = A} {B = B} h r = r >>= λ x. h.read x.1 >>= λ b. got {A = List A × B} (x.0, b.0) b.1

both-cases : {A B : Type 0} (b : Bool) (h : Grammar B) (ts : List Placed) (r : Result (List A × List Placed) Stuck) (s : Result ((List A × B) × List Placed) Stuck) → with_last h r ≡ s
    → with_last h (cond b (Ok ([], ts)) r) ≡ cond b (h.read ts >>= λ b. got {A = List A × B} ([], b.0) b.1) s
both-cases true h ts r s e = refl
both-cases false h ts r s e = e

pub many-is : {A B : Type 0} (ends : Lexeme → Bool) (g : Grammar A) (h : Grammar B) (n : ℕ) (ts : List Placed) → many_then ends g h n ts ≡ repeat_at ends g h n ts
unfolding repeat_at many_at
many-is ends g h zero ts = refl
many-is ends g h (suc n) ts = both-cases (ends (head_of ts)) h ts _ _ (turn-cases ends g h n (g.read ts) (many-is ends g h n))

-- ---- chains

pub chain-cons : {A : Type 0} (g : Grammar (A × Bool)) (x : A) (xs : List A) (ts mid rest : List Placed) → Begins (g.spelling (x, true)) ts mid → Begins (chain_spelling g xs) mid rest → Begins (chain_spelling g (x ∷ xs)) ts rest
chain-cons g x [] ts mid rest p q = absurd (never [] mid rest q)
chain-cons g x (y ∷ ys) ts mid rest p q = begins-append (g.spelling (x, true)) (chain_spelling g (y ∷ ys)) ts mid rest p q

abbrev next_of : {A : Type 0} → Grammar (A × Bool) → ℕ → (A × Bool) × List Placed → Result (List A × List Placed) Stuck
next_of {A = A} g n a = cond a.0.1 (chain_at g n a.1 >>= λ more. got {A = List A} (a.0.0 ∷ more.0) more.1) (got {A = List A} (a.0.0 ∷ []) a.1)

chain-takes : {A : Type 0} (g : Grammar (A × Bool)) → Law g → (n : ℕ) (ts rest : List Placed) (xs : List A) → chain_at g n ts ≡ Ok (xs, rest) → Begins (chain_spelling g xs) ts rest
unfolding chain_at
chain-takes g law zero ts rest xs e = absurd cc
chain-takes {A = A} g law (suc n) ts rest xs e =
    let a = bind_ok (g.read ts) (λ a. next_of g n a) (xs, rest) e in
    let one = law.takes ts a.0.1 a.0.0 a.1 in
    elim (chosen a.0.0.1 (chain_at g n a.0.1 >>= λ more. got {A = List A} (a.0.0.0 ∷ more.0) more.1) (got {A = List A} (a.0.0.0 ∷ []) a.0.1) (Ok (xs, rest)) a.2) [
      | inl c ↦
          let b = bind_ok (chain_at g n a.0.1) (λ more. got {A = List A} (a.0.0.0 ∷ more.0) more.1) (xs, rest) c.1 in
          let is = first-is {A = List A} (a.0.0.0 ∷ b.0.0) xs b.0.1 rest b.2 in
          let end = rest-is {A = List A} (a.0.0.0 ∷ b.0.0) xs b.0.1 rest b.2 in
          let later = chain-takes g law n a.0.1 rest b.0.0 (b.1 ∙ ap (λ r. got b.0.0 r) end) in
          let first : Begins (g.spelling (a.0.0.0, true)) ts a.0.1 = subst (λ (f : Bool). Begins (g.spelling (a.0.0.0, f)) ts a.0.1) c.0 one in
          subst (λ (ys : List A). Begins (chain_spelling g ys) ts rest) is (chain-cons g a.0.0.0 b.0.0 ts a.0.1 rest first later)
      | inr c ↦
          let is = first-is {A = List A} (a.0.0.0 ∷ []) xs a.0.1 rest c.1 in
          let end = rest-is {A = List A} (a.0.0.0 ∷ []) xs a.0.1 rest c.1 in
          let last : Begins (g.spelling (a.0.0.0, false)) ts a.0.1 = subst (λ (f : Bool). Begins (g.spelling (a.0.0.0, f)) ts a.0.1) c.0 one in
          subst (λ (ys : List A). Begins (chain_spelling g ys) ts rest) is (subst (λ (l : List Placed). Begins (g.spelling (a.0.0.0, false)) ts l) end last)
    ]

chain-again : {A : Type 0} (g : Grammar (A × Bool)) → Law g → (xs : List A) (n : ℕ) (ts rest : List Placed) → length ts < n → Begins (chain_spelling g xs) ts rest → chain_at g n ts ≡ Ok (xs, rest)
unfolding chain_at
chain-again g law xs zero ts rest lt p = absurd (omega arith)
chain-again g law [] (suc n) ts rest lt p = absurd (never [] ts rest p)
chain-again g law (x ∷ []) (suc n) ts rest lt p = rw (law.again (x, false) ts rest p) refl
chain-again g law (x ∷ y ∷ ys) (suc n) ts rest lt p =
    let m = begins-split (g.spelling (x, true)) (chain_spelling g (y ∷ ys)) ts rest p in
    let shorter : length m.0 < n = omega (arith, begins-length (g.spelling (x, true)) ts m.0 m.1, law.uses (x, true)) in
    rw (law.again (x, true) ts m.0 m.1, chain-again g law (y ∷ ys) n m.0 rest shorter m.2) refl

chain-starts : {A : Type 0} (g : Grammar (A × Bool)) → Law g → (xs : List A) (ts rest : List Placed) → Begins (chain_spelling g xs) ts rest → g.first (head_of ts) ≡ true
chain-starts g law [] ts rest p = absurd (never [] ts rest p)
chain-starts g law (x ∷ []) ts rest p = law.starts (x, false) ts rest p
chain-starts g law (x ∷ y ∷ ys) ts rest p = let m = begins-split (g.spelling (x, true)) (chain_spelling g (y ∷ ys)) ts rest p in law.starts (x, true) ts m.0 m.1

chain-uses : {A : Type 0} (g : Grammar (A × Bool)) → Law g → (xs : List A) → 0 < length (chain_spelling g xs)
chain-uses g law [] = omega arith
chain-uses g law (x ∷ []) = law.uses (x, false)
chain-uses g law (x ∷ y ∷ ys) = omega (arith, length-append (g.spelling (x, true)) (chain_spelling g (y ∷ ys)), law.uses (x, true))

pub chain-law : {A : Type 0} (g : Grammar (A × Bool)) → Law g → Law (chain g)
chain-law g law = record {
  takes = λ ts rest xs e. chain-takes g law (suc (length ts)) ts rest xs e;
  again = λ xs ts rest p. chain-again g law xs (suc (length ts)) ts rest (omega arith) p;
  starts = λ xs ts rest p. chain-starts g law xs ts rest p;
  uses = λ xs. chain-uses g law xs;
}

-- some value that no other follows
pub record Last {A : Type 0} (g : Grammar (A × Bool)) : Type 0 where
  pub value : A
  pub more : List Placed
  pub spelled : (w : List Placed) → Begins (g.spelling (value, false)) (more ++ w) w

one-text : {A : Type 0} (g : Grammar (A × Bool)) → Last g → (front : List Placed) (x : A) (more : Bool) (tokens : List Placed) → ((w : List Placed) → Begins (g.spelling (x, more)) (front ++ (tokens ++ w)) w) → Completes (chain g) front
one-text g last front x false tokens spelled = record { value = x ∷ []; more = tokens; spelled = spelled }
one-text g last front x true tokens spelled = record {
  value = x ∷ last.value ∷ [];
  more = tokens ++ last.more;
  spelled = λ w. rw (append_assoc tokens last.more w) (begins-append (g.spelling (x, true)) (g.spelling (last.value, false)) (front ++ (tokens ++ (last.more ++ w))) (last.more ++ w) w (spelled (last.more ++ w)) (last.spelled w));
}

chain-text : {A : Type 0} (g : Grammar (A × Bool)) → Last g → (front : List Placed) → Completes g front → Completes (chain g) front
chain-text g last front c = one-text g last front c.value.0 c.value.1 c.more c.spelled

chain-next : {A : Type 0} (g : Grammar (A × Bool)) (x : A) (one two : List Placed) → ((w : List Placed) → Begins (g.spelling (x, true)) (one ++ w) w) → Completes (chain g) two → Completes (chain g) (one ++ two)
chain-next g x one two left c = record {
  value = x ∷ c.value;
  more = c.more;
  spelled = λ w. rw (append_assoc one two (c.more ++ w)) (chain-cons g x c.value (one ++ (two ++ (c.more ++ w))) (two ++ (c.more ++ w)) w (left (two ++ (c.more ++ w))) (c.spelled w));
}

chain-reaches : {A : Type 0} (g : Grammar (A × Bool)) → Law g → Viable g → Last g → (n : ℕ) (ts : List Placed) (s : Stuck) → length ts < n → chain_at g n ts ≡ Err s → Reaches (chain g) ts s.rest
unfolding chain_at
chain-reaches g law v last zero ts s lt e = absurd (omega arith)
chain-reaches {A = A} g law v last (suc n) ts s lt e =
    elim (bind_err (g.read ts) (λ a. next_of g n a) s e) [
      | inl d ↦ let r = v.reaches ts s d in record { front = r.front; parts = r.parts; text = chain-text g last r.front r.text }
      | inr d ↦ elim (chosen d.0.0.1 (chain_at g n d.0.1 >>= λ more. got {A = List A} (d.0.0.0 ∷ more.0) more.1) (got {A = List A} (d.0.0.0 ∷ []) d.0.1) (Err s) d.2) [
        | inl c ↦ elim (bind_err (chain_at g n d.0.1) (λ more. got {A = List A} (d.0.0.0 ∷ more.0) more.1) s c.1) [
          | inl f ↦
              let b = begins-front (g.spelling d.0.0) ts d.0.1 (law.takes ts d.0.1 d.0.0 d.1) in
              let less : length d.0.1 < n = omega (arith, begins-length (g.spelling d.0.0) ts d.0.1 (law.takes ts d.0.1 d.0.0 d.1), law.uses d.0.0) in
              let r = chain-reaches g law v last n d.0.1 s less f in
              let left : (w : List Placed) → Begins (g.spelling (d.0.0.0, true)) (b.0 ++ w) w = λ w. subst (λ (f : Bool). Begins (g.spelling (d.0.0.0, f)) (b.0 ++ w) w) c.0 (b.2 w) in
              record { front = b.0 ++ r.front; parts = b.1 ∙ ap (λ (l : List Placed). b.0 ++ l) r.parts ∙ sym (append_assoc b.0 r.front s.rest); text = chain-next g d.0.0.0 b.0 r.front left r.text }
          | inr f ↦ absurd (let none = f.2 in cc)
        ]
        | inr c ↦ absurd (let none = c.1 in cc)
      ]
    ]

-- another follows what was read, and so it does what is spelled there
follows-too : {A : Type 0} (x y : A) (f : Bool) (r s : List Placed) → f ≡ true → got {A = A × Bool} (y, false) r ≡ got {A = A × Bool} (x, f) s → ⊥
follows-too {A = A} x y f r s t e = absurd (let same_flag = ap (λ (z : A × Bool). z.1) (first-is {A = A × Bool} (y, false) (x, f) r s e) in cc)

chain-blocks : {A : Type 0} (g : Grammar (A × Bool)) → Law g → Viable g → Last g → (n : ℕ) (front after other rest : List Placed) (p : Placed) (s : Stuck) → length (front ++ p ∷ after) < n → s.rest ≡ p ∷ after → chain_at g n (front ++ p ∷ after) ≡ Err s
    → (xs : List A) → Begins (chain_spelling g xs) (front ++ p ∷ other) rest → ⊥
unfolding chain_at
chain-blocks g law v last zero front after other rest p s lt r e xs b = absurd (omega arith)
chain-blocks g law v last (suc n) front after other rest p s lt r e [] b = never [] (front ++ p ∷ other) rest b
chain-blocks {A = A} g law v last (suc n) front after other rest p s lt r e (x ∷ []) b =
    elim (bind_err (g.read (front ++ p ∷ after)) (λ a. next_of g n a) s e) [
      | inl d ↦ v.blocks front after other rest p s r d (x, false) b
      | inr d ↦ elim (chosen d.0.0.1 (chain_at g n d.0.1 >>= λ more. got {A = List A} (d.0.0.0 ∷ more.0) more.1) (got {A = List A} (d.0.0.0 ∷ []) d.0.1) (Err s) d.2) [
        | inl c ↦ elim (bind_err (chain_at g n d.0.1) (λ more. got {A = List A} (d.0.0.0 ∷ more.0) more.1) s c.1) [
          | inl f ↦
              let less : length d.0.1 < n = omega (arith, begins-length (g.spelling d.0.0) (front ++ p ∷ after) d.0.1 (law.takes (front ++ p ∷ after) d.0.1 d.0.0 d.1), law.uses d.0.0) in
              let to = chain-reaches g law v last n d.0.1 s less f in
              let mid : d.0.1 ≡ to.front ++ p ∷ after = to.parts ∙ ap (λ (l : List Placed). to.front ++ l) r in
              follows-too d.0.0.0 x d.0.0.1 rest (to.front ++ p ∷ other) c.0 (read-twice g law front to.front after other d.0.1 rest p d.0.0 (x, false) d.1 mid b)
          | inr f ↦ absurd (let none = f.2 in cc)
        ]
        | inr c ↦ absurd (let none = c.1 in cc)
      ]
    ]
chain-blocks {A = A} g law v last (suc n) front after other rest p s lt r e (x ∷ y ∷ ys) b =
    let m = begins-split (g.spelling (x, true)) (chain_spelling g (y ∷ ys)) (front ++ p ∷ other) rest b in
    elim (bind_err (g.read (front ++ p ∷ after)) (λ a. next_of g n a) s e) [
      | inl d ↦ v.blocks front after other m.0 p s r d (x, true) m.1
      | inr d ↦ elim (chosen d.0.0.1 (chain_at g n d.0.1 >>= λ more. got {A = List A} (d.0.0.0 ∷ more.0) more.1) (got {A = List A} (d.0.0.0 ∷ []) d.0.1) (Err s) d.2) [
        | inl c ↦ elim (bind_err (chain_at g n d.0.1) (λ more. got {A = List A} (d.0.0.0 ∷ more.0) more.1) s c.1) [
          | inl f ↦
              let less : length d.0.1 < n = omega (arith, begins-length (g.spelling d.0.0) (front ++ p ∷ after) d.0.1 (law.takes (front ++ p ∷ after) d.0.1 d.0.0 d.1), law.uses d.0.0) in
              let to = chain-reaches g law v last n d.0.1 s less f in
              let mid : d.0.1 ≡ to.front ++ p ∷ after = to.parts ∙ ap (λ (l : List Placed). to.front ++ l) r in
              let there = read-again g law front to.front after other d.0.1 m.0 p d.0.0 (x, true) d.1 mid m.1 in
              chain-blocks g law v last n to.front after other rest p s (subst (λ (l : List Placed). length l < n) mid less) r (ap (chain_at g n) (sym mid) ∙ f) (y ∷ ys) (subst (λ l. Begins (chain_spelling g (y ∷ ys)) l rest) there m.2)
          | inr f ↦ absurd (let none = f.2 in cc)
        ]
        | inr c ↦ absurd (let none = c.1 in cc)
      ]
    ]

pub chain-viable : {A : Type 0} (g : Grammar (A × Bool)) → Law g → Viable g → Last g → Viable (chain g)
chain-viable g law v last = record {
  some = chain-text g last [] v.some;
  reaches = λ ts s e. chain-reaches g law v last (suc (length ts)) ts s (omega arith) e;
  blocks = λ front after other rest p s r e y b. chain-blocks g law v last (suc (length (front ++ p ∷ after))) front after other rest p s (omega arith) r e y b;
}
