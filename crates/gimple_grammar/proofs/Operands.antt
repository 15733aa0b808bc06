-- A place or an operand has the laws before whatever does not begin with a dot.
use Rattle.std.proofs.Common.{◌≡◌, ℕ, Bool, true, false, cond, List, [], ◌∷◌, Option, Some, None, Result, Ok, Err, refl, sym, ap, append_assoc}
use Rattle.std.specs.Prelude.{if◌then◌else◌}
use Rattle.gimple_tokens.specs.declared.token.Mark.TheVariants.{Dot}
use Rattle.gimple_tokens.specs.declared.numbers.NumberPlace.TheVariants as places
use Rattle.gimple_tokens.specs.Tokens.{Lexeme, Name, Sign, Placed}
use Rattle.gimple_tokens.specs.Reading.{head_of, same}
use Rattle.gimple_tokens.specs.Stops.{Stuck, past}
use Rattle.gimple_grammar.specs.declared.syntax.Literal.{Literal}
use Rattle.gimple_grammar.specs.declared.syntax.Place.{Place}
use Rattle.gimple_grammar.specs.declared.syntax.Operand.{Operand}
use Rattle.gimple_grammar.specs.declared.syntax.Operand.TheVariants as operands
use Rattle.gimple_grammar.specs.Grammar.{Grammar, ◌>>=◌, got, Only, ◌▷◌, ◌◁◌, ◌then◌, only, just, either}
use Rattle.gimple_grammar.specs.Pieces.{name, number, literal, field_at, place_made, place, operand}
use Rattle.gimple_grammar.proofs.Laws.{HasNever}
use Rattle.gimple_grammar.proofs.Sound.{Sound, just-sound, before-sound, then-sound, only-sound, either-sound, begins_other, sound-same, ended-sound}
use Rattle.gimple_grammar.proofs.TokenLaws.{some-is, name-sound, literal-sound}

-- ---- a field, and then k

abbrev some_made : {B : Type 0} → List ℕ × B → Option (List ℕ) × B
some_made x = (Some x.0, x.1)

abbrev some_parts : {B : Type 0} → Option (List ℕ) → B → Option (List ℕ × B)
some_parts None b = None
some_parts (Some n) b = Some (n, b)

abbrev none_made : {B : Type 0} → B → Option (List ℕ) × B
none_made b = (None, b)

abbrev none_parts : {B : Type 0} → Option (List ℕ) → B → Option B
none_parts None b = Some b
none_parts (Some n) b = None

some-made : {B : Type 0} (f : Option (List ℕ)) (b : B) (x : List ℕ × B) → some_parts f b ≡ Some x → some_made x ≡ (f, b)
some-made None b x e = absurd cc
some-made {B = B} (Some n) b x e = sym (ap some_made (some-is {A = List ℕ × B} (n, b) x e))

none-made : {B : Type 0} (f : Option (List ℕ)) (b x : B) → none_parts f b ≡ Some x → none_made x ≡ (f, b)
none-made None b x e = ap none_made (sym (some-is b x e))
none-made (Some n) b x e = absurd cc

abbrev plain_then : {B : Type 0} → Grammar B → Grammar (Option (List ℕ) × B)
plain_then k = only k none_made (λ y. none_parts y.0 y.1)

abbrev field_then : {B : Type 0} → Grammar B → Grammar (Option (List ℕ) × B)
field_then k = either (Sign Dot ▷ (name then k)) some_made (λ y. some_parts y.0 y.1) (plain_then k)

field-values : {B : Type 0} (k : Grammar B) (f : Option (List ℕ)) (b : B) (x : List ℕ × B) → some_parts f b ≡ Some x → HasNever ((plain_then k).spelling (f, b))
field-values k None b x e = absurd cc
field-values k (Some n) b x e = tt

field-sound : {B : Type 0} (k : Grammar B) → k.first (Sign Dot) ≡ false → Sound k → Sound (field_then k)
field-sound k other s =
    either-sound (Sign Dot ▷ (name then k)) some_made (λ y. some_parts y.0 y.1) (plain_then k) (record { back = λ x. refl; made = λ y x e. some-made y.0 y.1 x e })
    (begins_other (Sign Dot) (plain_then k) other) (λ y x e. field-values k y.0 y.1 x e)
    (before-sound (Sign Dot) (name then k) refl (then-sound name k name-sound s))
    (only-sound k none_made (λ y. none_parts y.0 y.1) (record { back = λ x. refl; made = λ y x e. none-made y.0 y.1 x e }) s)

-- ---- a place, and then k

abbrev place_then_made : {B : Type 0} → List ℕ × (Option (List ℕ) × B) → Place × B
place_then_made x = (record { name = x.0; field = x.1.0 }, x.1.1)

abbrev place_then_parts : {B : Type 0} → Place × B → Option (List ℕ × (Option (List ℕ) × B))
place_then_parts y = Some (y.0.name, (y.0.field, y.1))

place-then-made : {B : Type 0} (y : Place × B) (x : List ℕ × (Option (List ℕ) × B)) → place_then_parts y ≡ Some x → place_then_made x ≡ y
place-then-made {B = B} y x e = sym (ap place_then_made (some-is {A = List ℕ × (Option (List ℕ) × B)} (y.0.name, (y.0.field, y.1)) x e))

abbrev place_then : {B : Type 0} → Grammar B → Grammar (Place × B)
place_then k = only (name then field_then k) place_then_made place_then_parts

abbrev with_next : {A B : Type 0} → Grammar B → A → List Placed → Result ((A × B) × List Placed) Stuck
with_next {A = A} {B = B} k a ts = k.read ts >>= λ b. got {A = A × B} (a, b.0) b.1

-- what is read after a name makes a place, and what is read after that stays
abbrev placed_left : {B : Type 0} → Grammar B → List ℕ → Result (Option (List ℕ) × List Placed) Stuck → Result ((Place × B) × List Placed) Stuck
placed_left k n r = ((r >>= λ f. got {A = List ℕ × Option (List ℕ)} (n, f.0) f.1) >>= λ x. got (place_made x.0) x.1) >>= λ a. with_next k a.0 a.1

abbrev placed_right : {B : Type 0} → List ℕ → Result ((Option (List ℕ) × B) × List Placed) Stuck → Result ((Place × B) × List Placed) Stuck
placed_right {B = B} n r = (r >>= λ y. got {A = List ℕ × (Option (List ℕ) × B)} (n, y.0) y.1) >>= λ x. got (place_then_made x.0) x.1

next-none : {B : Type 0} (n : List ℕ) (r : Result (B × List Placed) Stuck)
    → (r >>= λ b. got {A = Place × B} (place_made (n, None), b.0) b.1) ≡ placed_right n (r >>= λ b. got {A = Option (List ℕ) × B} (none_made b.0) b.1)
next-none n (Ok x) = refl
next-none n (Err s) = refl

next-some : {B : Type 0} (n m : List ℕ) (r : Result (B × List Placed) Stuck)
    → (r >>= λ b. got {A = Place × B} (place_made (n, Some m), b.0) b.1) ≡ placed_right n ((r >>= λ b. got {A = List ℕ × B} (m, b.0) b.1) >>= λ a. got {A = Option (List ℕ) × B} (some_made a.0) a.1)
next-some n m (Ok x) = refl
next-some n m (Err s) = refl

name-cases : {B : Type 0} (k : Grammar B) (n : List ℕ) (r : Result (List ℕ × List Placed) Stuck)
    → placed_left k n (r >>= λ a. got {A = Option (List ℕ)} (Some a.0) a.1)
    ≡ placed_right n ((r >>= λ a. k.read a.1 >>= λ b. got {A = List ℕ × B} (a.0, b.0) b.1) >>= λ a. got {A = Option (List ℕ) × B} (some_made a.0) a.1)
name-cases k n (Ok m) = next-some n m.0 (k.read m.1)
name-cases k n (Err s) = refl

field-cases : {B : Type 0} (b : Bool) (r : Result (List Placed) Stuck) (k : Grammar B) (n : List ℕ) (ts : List Placed)
    → placed_left k n (cond b ((r >>= name.read) >>= λ a. got {A = Option (List ℕ)} (Some a.0) a.1) (got None ts))
    ≡ placed_right n (cond b ((r >>= (name then k).read) >>= λ a. got {A = Option (List ℕ) × B} (some_made a.0) a.1) (k.read ts >>= λ b. got {A = Option (List ℕ) × B} (none_made b.0) b.1))
field-cases true (Ok rest) k n ts = name-cases k n (name.read rest)
field-cases true (Err s) k n ts = refl
field-cases false r k n ts = next-none n (k.read ts)

after-name : {B : Type 0} (k : Grammar B) (n : List ℕ) (ts : List Placed) → placed_left k n (field_at ts) ≡ placed_right n ((field_then k).read ts)
unfolding field_at
after-name k n ts = field-cases (same (Sign Dot) (head_of ts)) (past (Sign Dot) ts) k n ts

place-cases : {B : Type 0} (k : Grammar B) (r : Result (List ℕ × List Placed) Stuck)
    → (((r >>= λ n. field_at n.1 >>= λ f. got {A = List ℕ × Option (List ℕ)} (n.0, f.0) f.1) >>= λ x. got (place_made x.0) x.1) >>= λ a. with_next k a.0 a.1)
    ≡ ((r >>= λ n. (field_then k).read n.1 >>= λ y. got {A = List ℕ × (Option (List ℕ) × B)} (n.0, y.0) y.1) >>= λ x. got (place_then_made x.0) x.1)
place-cases k (Ok n) = after-name k n.0 n.1
place-cases k (Err s) = refl

place-reads : {B : Type 0} (k : Grammar B) (ts : List Placed) → (place then k).read ts ≡ (place_then k).read ts
unfolding place
place-reads k ts = place-cases k (name.read ts)

place-spells : {B : Type 0} (k : Grammar B) (n : List ℕ) (f : Option (List ℕ)) (b : B) → (place then k).spelling (record { name = n; field = f }, b) ≡ (place_then k).spelling (record { name = n; field = f }, b)
unfolding place
place-spells k n None b = append_assoc (name.spelling n) [] (k.spelling b)
place-spells k n (Some m) b = append_assoc (name.spelling n) (Only (Sign Dot) ∷ name.spelling m) (k.spelling b)

place-firsts : {B : Type 0} (k : Grammar B) (t : Lexeme) → (place_then k).first t ≡ true → (place then k).first t ≡ true
unfolding place
place-firsts k t e = e

pub place-sound : {B : Type 0} (k : Grammar B) → k.first (Sign Dot) ≡ false → Sound k → Sound (place then k)
place-sound k other s =
    sound-same (place then k) (place_then k) (place-reads k) (λ x. place-spells k x.0.name x.0.field x.1) (place-firsts k)
    (only-sound (name then field_then k) place_then_made place_then_parts (record { back = λ x. refl; made = place-then-made }) (then-sound name (field_then k) name-sound (field-sound k other s)))

-- ---- an operand, and then k

abbrev place_next : {B : Type 0} → Place × B → Operand × B
place_next x = (operands.Place x.0, x.1)

abbrev place_next_of : {B : Type 0} → Operand → B → Option (Place × B)
place_next_of (operands.Place p) b = Some (p, b)
place_next_of (operands.Literal l) b = None

abbrev literal_next : {B : Type 0} → Literal × B → Operand × B
literal_next x = (operands.Literal x.0, x.1)

abbrev literal_next_of : {B : Type 0} → Operand → B → Option (Literal × B)
literal_next_of (operands.Place p) b = None
literal_next_of (operands.Literal l) b = Some (l, b)

place-next-made : {B : Type 0} (o : Operand) (b : B) (x : Place × B) → place_next_of o b ≡ Some x → place_next x ≡ (o, b)
place-next-made {B = B} (operands.Place p) b x e = sym (ap place_next (some-is {A = Place × B} (p, b) x e))
place-next-made (operands.Literal l) b x e = absurd cc

literal-next-made : {B : Type 0} (o : Operand) (b : B) (x : Literal × B) → literal_next_of o b ≡ Some x → literal_next x ≡ (o, b)
literal-next-made (operands.Place p) b x e = absurd cc
literal-next-made {B = B} (operands.Literal l) b x e = sym (ap literal_next (some-is {A = Literal × B} (l, b) x e))

abbrev literal_then : {B : Type 0} → Grammar B → Grammar (Operand × B)
literal_then k = only (literal places.Literal then k) literal_next (λ y. literal_next_of y.0 y.1)

abbrev operand_then : {B : Type 0} → Grammar B → Grammar (Operand × B)
operand_then k = either (place then k) place_next (λ y. place_next_of y.0 y.1) (literal_then k)

place-next-values : {B : Type 0} (k : Grammar B) (o : Operand) (b : B) (x : Place × B) → place_next_of o b ≡ Some x → HasNever ((literal_then k).spelling (o, b))
place-next-values k (operands.Place p) b x e = tt
place-next-values k (operands.Literal l) b x e = absurd cc

no-literal : (t : Lexeme) → place.first t ≡ true → (literal places.Literal).first t ≡ false
unfolding place name literal number
no-literal (Name w) e = refl
no-literal t e = absurd cc

operand_then-sound : {B : Type 0} (k : Grammar B) → k.first (Sign Dot) ≡ false → Sound k → Sound (operand_then k)
operand_then-sound k other s =
    either-sound (place then k) place_next (λ y. place_next_of y.0 y.1) (literal_then k) (record { back = λ x. refl; made = λ y x e. place-next-made y.0 y.1 x e })
    no-literal (λ y x e. place-next-values k y.0 y.1 x e)
    (place-sound k other s)
    (only-sound (literal places.Literal then k) literal_next (λ y. literal_next_of y.0 y.1) (record { back = λ x. refl; made = λ y x e. literal-next-made y.0 y.1 x e }) (then-sound (literal places.Literal) k (literal-sound places.Literal) s))

-- a value in another form, and then k
next-made : {A B C : Type 0} (make : A → C) (a : A) (r : Result (B × List Placed) Stuck)
    → (r >>= λ b. got {A = C × B} (make a, b.0) b.1) ≡ ((r >>= λ b. got {A = A × B} (a, b.0) b.1) >>= λ x. got {A = C × B} (make x.0.0, x.0.1) x.1)
next-made make a (Ok x) = refl
next-made make a (Err s) = refl

made-then : {A B C : Type 0} (make : A → C) (k : Grammar B) (r : Result (A × List Placed) Stuck)
    → ((r >>= λ a. got {A = C} (make a.0) a.1) >>= λ c. with_next k c.0 c.1) ≡ ((r >>= λ a. with_next k a.0 a.1) >>= λ x. got {A = C × B} (make x.0.0, x.0.1) x.1)
made-then make k (Ok a) = next-made make a.0 (k.read a.1)
made-then make k (Err s) = refl

operand-cases : {B : Type 0} (b : Bool) (k : Grammar B) (r : Result (Place × List Placed) Stuck) (s : Result (Literal × List Placed) Stuck)
    → ((cond b (r >>= λ a. got (operands.Place a.0) a.1) (s >>= λ a. got (operands.Literal a.0) a.1)) >>= λ c. with_next k c.0 c.1)
    ≡ cond b ((r >>= λ a. with_next k a.0 a.1) >>= λ x. got {A = Operand × B} (place_next x.0) x.1) ((s >>= λ a. with_next k a.0 a.1) >>= λ x. got {A = Operand × B} (literal_next x.0) x.1)
operand-cases true k r s = made-then operands.Place k r
operand-cases false k r s = made-then operands.Literal k s

operand-reads : {B : Type 0} (k : Grammar B) (ts : List Placed) → (operand then k).read ts ≡ (operand_then k).read ts
unfolding operand
operand-reads k ts = operand-cases (place.first (head_of ts)) k (place.read ts) ((literal places.Literal).read ts)

operand-spells : {B : Type 0} (k : Grammar B) (o : Operand) (b : B) → (operand then k).spelling (o, b) ≡ (operand_then k).spelling (o, b)
unfolding operand
operand-spells k (operands.Place p) b = refl
operand-spells k (operands.Literal l) b = refl

operand-firsts : {B : Type 0} (k : Grammar B) (t : Lexeme) → (operand_then k).first t ≡ true → (operand then k).first t ≡ true
unfolding operand
operand-firsts k t e = e

pub operand-sound : {B : Type 0} (k : Grammar B) → k.first (Sign Dot) ≡ false → Sound k → Sound (operand then k)
operand-sound k other s = sound-same (operand then k) (operand_then k) (operand-reads k) (λ x. operand-spells k x.0 x.1) (operand-firsts k) (operand_then-sound k other s)

-- ---- before a word or a sign

pub place_ended-sound : (t : Lexeme) → same t t ≡ true → same t (Sign Dot) ≡ false → Sound (place ◁ t)
place_ended-sound t s other = ended-sound place t (place-sound (just t) other (just-sound t s))

pub operand_ended-sound : (t : Lexeme) → same t t ≡ true → same t (Sign Dot) ≡ false → Sound (operand ◁ t)
operand_ended-sound t s other = ended-sound operand t (operand-sound (just t) other (just-sound t s))
