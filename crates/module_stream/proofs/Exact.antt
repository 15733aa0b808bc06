-- A reader that takes exactly the spellings of the values that fit, and what such readers are made of. Nothing here is
-- about statements or declarations.
use Rattle.std.proofs.Common.{◌≡◌, ℕ, zero, suc, ◌^◌, ◌<◌, ◌≤◌, Bool, true, false, cond, ltb, eqb, List, [], ◌∷◌, ◌++◌, length, take, drop, Option, Some, None, Result, Ok, Err, refl, sym, ap, subst, ◌∙◌, append_assoc, arith}
use Rattle.std.specs.Prelude.{All, IfOk}
use Rattle.std.specs.List.{flat_map, AllByRecursion}
use Rattle.std.proofs.lemmas.Bool.{lt-ltb, le-ltb, ltb-true, ltb-false, eqb-true}
use Rattle.std.proofs.lemmas.List.{append-nil, length-append, length-take-le, take_at, drop_at, take-append-drop}
use Rattle.std.proofs.lemmas.List.Concat.{flat_map-cons}
use Rattle.std.proofs.lemmas.List.Elements.{All-from_recursion, recursion_from_All}
use Rattle.cursors.specs.declared.cursor.ReadError.{ReadError}
use Rattle.cursors.specs.declared.cursor.ReadError.TheVariants.{Short}
use Rattle.cursors.specs.Cursor.{Cursor, at, offset_of, is_nil}
use Rattle.cursors.specs.Reading.{byte_by, byte_at, slice_at, uleb_at}
use Rattle.cursors.specs.Leb128.{uleb_of}
use Rattle.cursors.proofs.Leb128Laws.{IsBytes}
use Rattle.cursors.proofs.Fields.{Took, IsBytes-drop, uleb_takes, uleb_again}
use Rattle.module_stream.specs.declared.fault.StreamError.{StreamError}
use Rattle.module_stream.specs.Fields.{FitsAll, counted_of, text_of}
use Rattle.module_stream.specs.Readers.{Reader, ◌>>=◌, GivesAll, field, byte, number_below, bytes_of_field, text, passing, pick, known, coded, nothing, both, depends, made, repeated, counted, after, whole}

pub record Exact {A : Type 0} (write : A → List ℕ) (Fits : A → Type 0) (read : Reader A) : Type 0 where
  pub takes : (c d : Cursor) (x : A) → IsBytes c.rest → read c ≡ Ok (x, d) → Took c (write x) d × Fits x
  pub again : (x : A) (end : ℕ) (rest : List ℕ) → Fits x → read (at end (write x ++ rest)) ≡ Ok (x, at end rest)

-- ---- steps

abbrev done : {A : Type 0} → A → Result A ℕ
done x = Ok x

pub ok_is : {A : Type 0} (x y : A) → done x ≡ done y → x ≡ y
ok_is x y e = cc

-- the value of a step that did not fail
pub bind_ok : {A B : Type 0} (r : Result A ℕ) (f : A → Result B ℕ) (y : B) → (r >>= f) ≡ Ok y → (x : A) × (r ≡ Ok x) × (f x ≡ Ok y)
bind_ok (Ok x) f y e = (x, refl, e)
bind_ok (Err d) f y e = absurd cc

pub chosen : {A : Type 0} (b : Bool) (r : Result A ℕ) (offset : ℕ) (y : A) → cond b r (Err offset) ≡ Ok y → (b ≡ true) × (r ≡ Ok y)
chosen true r offset y e = (refl, e)
chosen false r offset y e = absurd cc

field_ok : {A : Type 0} (offset : ℕ) (r : Result (A × Cursor) ReadError) (y : A × Cursor) → field offset r ≡ Ok y → r ≡ Ok y
field_ok offset (Ok x) y e = let same : x ≡ y = ok_is x y e in ap (λ z. Ok z) same
field_ok offset (Err d) y e = absurd cc

abbrev some : {A : Type 0} → A → Option A
some x = Some x

abbrev read : {A : Type 0} → A × Cursor → Result (A × Cursor) ReadError
read x = Ok x

read_is : {A : Type 0} (x y : A × Cursor) → read x ≡ read y → x ≡ y
read_is x y e = cc

pub Took-then : (c d e : Cursor) (a b : List ℕ) → Took c a d → Took d b e → Took c (a ++ b) e
Took-then c d e a b p q = record { parts = p.parts ∙ ap (λ t. a ++ t) q.parts ∙ sym (append_assoc a b e.rest); end = q.end ∙ p.end; fits = q.fits }

-- ---- numbers, text and codes

number_takes : (limit : ℕ) (c d : Cursor) (n : ℕ) → IsBytes c.rest → number_below limit c ≡ Ok (n, d) → Took c (uleb_of n) d × (n < limit)
unfolding number_below
number_takes limit c d n fits e =
    let a = bind_ok (field (offset_of c) (uleb_at c)) (λ x. cond (ltb x.0 limit) (Ok x) (Err (offset_of c))) (n, d) e in
    let b = chosen (ltb a.0.0 limit) (Ok a.0) (offset_of c) (n, d) a.2 in
    let same : a.0 ≡ (n, d) = ok_is a.0 (n, d) b.1 in
    let read : uleb_at c ≡ Ok (n, d) = field_ok (offset_of c) (uleb_at c) a.0 a.1 ∙ ap (λ z. Ok z) same in
    let t = uleb_takes c d n fits read in
    (t.0, subst (λ (z : ℕ × Cursor). z.0 < limit) same (ltb-true a.0.0 limit b.0))

number_again : (limit : ℕ) → limit ≤ 2 ^ 64 → (n end : ℕ) (rest : List ℕ) → n < limit → number_below limit (at end (uleb_of n ++ rest)) ≡ Ok (n, at end rest)
unfolding number_below
number_again limit le n end rest lt = rw (uleb_again n end rest (omega arith), lt-ltb n limit lt) refl

pub number_exact : (limit : ℕ) → limit ≤ 2 ^ 64 → Exact uleb_of (λ n. n < limit) (number_below limit)
number_exact limit le = record { takes = number_takes limit; again = number_again limit le }

byte_from : (bytes : List ℕ) (c d : Cursor) (n : ℕ) → c.rest ≡ bytes → IsBytes c.rest → byte_by bytes c ≡ Ok (n, d) → Took c (n ∷ []) d
byte_from [] c d n is fits e = absurd cc
byte_from (b ∷ bs) c d n is fits e =
    let same : (b, at c.end bs) ≡ (n, d) = read_is (b, at c.end bs) (n, d) e in
    subst (λ (z : ℕ × Cursor). Took c (z.0 ∷ []) z.1) same (record { parts = is; end = refl; fits = λ i. subst (λ (t : List ℕ). IsBytes t) is fits (suc i) })

pub byte_takes : (c d : Cursor) (n : ℕ) → IsBytes c.rest → byte c ≡ Ok (n, d) → Took c (n ∷ []) d
unfolding byte
byte_takes c d n fits e = byte_from c.rest c d n refl fits (field_ok (offset_of c) (byte_at c) (n, d) e)

pub byte_again : (n end : ℕ) (rest : List ℕ) → byte (at end (n ∷ rest)) ≡ Ok (n, at end rest)
unfolding byte
byte_again n end rest = refl

-- n bytes are there
slice_ok : (b : Bool) (e : ReadError) (x y : List ℕ × Cursor) → cond b (Err e) (Ok x) ≡ Ok y → (b ≡ false) × (x ≡ y)
slice_ok true e x y h = absurd cc
slice_ok false e x y h = (refl, cc)

length_take : (n : ℕ) (xs : List ℕ) → ltb (length xs) n ≡ false → length (take n xs) ≡ n
length_take n xs e = length-take-le n xs (ltb-false (length xs) n e)

bytes_taken : (offset n : ℕ) (c d : Cursor) (t : List ℕ) → IsBytes c.rest → bytes_of_field offset n c ≡ Ok (t, d) → Took c t d × (length t ≡ n)
unfolding bytes_of_field
bytes_taken offset n c d t fits e =
    let r = field_ok offset (slice_at n c) (t, d) e in
    let s = slice_ok (ltb (length c.rest) n) (Short (offset_of c)) (take n c.rest, at c.end (drop n c.rest)) (t, d) r in
    subst (λ (z : List ℕ × Cursor). Took c z.0 z.1 × (length z.0 ≡ n)) s.1
    (record { parts = sym (take-append-drop n c.rest); end = refl; fits = IsBytes-drop n c.rest fits }, length_take n c.rest s.0)

no_less : (t rest : List ℕ) → ltb (length (t ++ rest)) (length t) ≡ false
no_less t rest = le-ltb (length (t ++ rest)) (length t) (omega (arith, length-append t rest))

bytes_again : (offset end : ℕ) (t rest : List ℕ) → bytes_of_field offset (length t) (at end (t ++ rest)) ≡ Ok (t, at end rest)
unfolding bytes_of_field
bytes_again offset end t rest = rw (no_less t rest, take_at t rest (length t) refl, drop_at t rest (length t) refl) refl

text_takes : (c d : Cursor) (t : List ℕ) → IsBytes c.rest → text c ≡ Ok (t, d) → Took c (text_of t) d × (length t < 2 ^ 64)
unfolding text
text_takes c d t fits e =
    let a = bind_ok (number_below (2 ^ 64) c) (λ n. bytes_of_field (offset_of c) n.0 n.1) (t, d) e in
    let n = number_takes (2 ^ 64) c a.0.1 a.0.0 fits a.1 in
    let s = bytes_taken (offset_of c) a.0.0 a.0.1 d t n.0.fits a.2 in
    let joined = Took-then c a.0.1 d (uleb_of a.0.0) t n.0 s.0 in
    (subst (λ k. Took c (uleb_of k ++ t) d) (sym s.1) joined, omega (arith, s.1, n.1))

text_again : (t : List ℕ) (end : ℕ) (rest : List ℕ) → length t < 2 ^ 64 → text (at end (text_of t ++ rest)) ≡ Ok (t, at end rest)
unfolding text
text_again t end rest lt =
    ap (λ s. text (at end s)) (append_assoc (uleb_of (length t)) t rest)
    ∙ rw (number_again (2 ^ 64) (omega arith) (length t) end (t ++ rest) lt) (bytes_again (offset_of (at end (uleb_of (length t) ++ (t ++ rest)))) end t rest)

pub text_exact : Exact text_of (λ t. length t < 2 ^ 64) text
text_exact = record { takes = text_takes; again = text_again }

-- each row of a table is as P says
abbrev pub AllRows : {A : Type 0} → (ℕ → A → Type 0) → List (ℕ × A) → Type 0
AllRows P [] = Unit {0}
AllRows P (row ∷ rows) = P row.0 row.1 × AllRows P rows

some_is : {A : Type 0} (x y : A) → some x ≡ some y → x ≡ y
some_is x y e = cc

-- where the test is passed, and where it isn't
row_by : {A : Type 0} (b : Bool) (P : ℕ → A → Type 0) (k k' : ℕ) (y x : A) (more : Option A) → eqb k k' ≡ b → cond b (Some y) more ≡ Some x → P k' y → (more ≡ Some x → P k x) → P k x
row_by true P k k' y x more is e here there = subst (λ n. P n x) (sym (eqb-true k k' is)) (subst (λ z. P k' z) (some_is y x e) here)
row_by false P k k' y x more is e here there = there e

pub row_found : {A : Type 0} (P : ℕ → A → Type 0) (k : ℕ) (x : A) (rows : List (ℕ × A)) → AllRows P rows → pick k rows ≡ Some x → P k x
row_found P k x [] all e = absurd cc
row_found P k x (row ∷ rows) all e = row_by (eqb k row.0) P k row.0 row.1 x (pick k rows) refl e all.0 (λ f. row_found P k x rows all.1 f)

pub known_ok : {A : Type 0} (offset : ℕ) (o : Option A) (d : Cursor) (y : A × Cursor) → known offset o d ≡ Ok y → (o ≡ Some y.0) × (d ≡ y.1)
known_ok offset None d y e = absurd cc
known_ok offset (Some x) d y e = let same : (x, d) ≡ y = ok_is (x, d) y e in (ap (λ z. some z.0) same, ap (λ z. z.1) same)

-- what a table tells
pub record IsTable {A : Type 0} (code : A → ℕ) (table : List (ℕ × A)) : Type 0 where
  pub rows : AllRows (λ k x. k ≡ code x) table
  pub found : (x : A) → pick (code x) table ≡ Some x

coded_takes : {A : Type 0} (code : A → ℕ) (table : List (ℕ × A)) → IsTable code table → (c d : Cursor) (x : A) → IsBytes c.rest → coded table c ≡ Ok (x, d) → Took c (code x ∷ []) d × Unit {0}
coded_takes code table is c d x fits e =
    let a = bind_ok (byte c) (λ k. known (offset_of c) (pick k.0 table) k.1) (x, d) e in
    let b = known_ok (offset_of c) (pick a.0.0 table) a.0.1 (x, d) a.2 in
    let t = byte_takes c a.0.1 a.0.0 fits a.1 in
    let code_is : a.0.0 ≡ code x = row_found (λ k y. k ≡ code y) a.0.0 x table is.rows b.0 in
    (subst (λ (z : ℕ). Took c (z ∷ []) d) code_is (subst (λ (z : Cursor). Took c (a.0.0 ∷ []) z) b.1 t), tt)

pub coded_exact : {A : Type 0} (code : A → ℕ) (table : List (ℕ × A)) → IsTable code table → Exact (λ x. code x ∷ []) (λ x. Unit {0}) (coded table)
coded_exact code table is = record {
  takes = coded_takes code table is;
  again = λ x end rest h. rw (byte_again (code x) end rest, is.found x) refl;
}

-- ---- nothing, and a test

nothing_takes : {A : Type 0} (x : A) (c d : Cursor) (y : A) → IsBytes c.rest → nothing x c ≡ Ok (y, d) → Took c [] d × (y ≡ x)
nothing_takes x c d y fits e =
    subst (λ z. Took c [] z.1 × (z.0 ≡ x)) (ok_is (x, c) (y, d) e) (record { parts = refl; end = refl; fits = fits }, refl)

pub nothing_exact : {A : Type 0} (x : A) → Exact (λ _. []) (λ y. y ≡ x) (nothing x)
nothing_exact x = record { takes = nothing_takes x; again = λ y end rest h. ap (λ z. Ok (z, at end rest)) (sym h) }

passing_takes : {A : Type 0} (test : A → Bool) (w : A → List ℕ) (F : A → Type 0) (r : Reader A) → Exact w F r → (c d : Cursor) (x : A) → IsBytes c.rest → passing test r c ≡ Ok (x, d) → Took c (w x) d × (F x × (test x ≡ true))
passing_takes test w F r law c d x fits e =
    let a = bind_ok (r c) (λ y. cond (test y.0) (Ok y) (Err (offset_of c))) (x, d) e in
    let b = chosen (test a.0.0) (Ok a.0) (offset_of c) (x, d) a.2 in
    let t = law.takes c a.0.1 a.0.0 fits a.1 in
    subst (λ z. Took c (w z.0) z.1 × (F z.0 × (test z.0 ≡ true))) (ok_is a.0 (x, d) b.1) (t.0, (t.1, b.0))

passing_again : {A : Type 0} (test : A → Bool) (w : A → List ℕ) (F : A → Type 0) (r : Reader A) → Exact w F r → (x : A) (end : ℕ) (rest : List ℕ) → F x × (test x ≡ true) → passing test r (at end (w x ++ rest)) ≡ Ok (x, at end rest)
passing_again test w F r law x end rest h = rw (law.again x end rest h.0, h.1) refl

pub passing_exact : {A : Type 0} {w : A → List ℕ} {F : A → Type 0} {r : Reader A} → (test : A → Bool) → Exact w F r → Exact w (λ x. F x × (test x ≡ true)) (passing test r)
passing_exact {A} {w} {F} {r} test law = record { takes = passing_takes test w F r law; again = passing_again test w F r law }

-- ---- one after the other

depends_takes : {A B : Type 0} (w : A → List ℕ) (F : A → Type 0) (r : Reader A) (v : A → B → List ℕ) (G : A → B → Type 0) (q : A → Reader B) → Exact w F r → ((x : A) → F x → Exact (v x) (G x) (q x))
    → (c d : Cursor) (x : A × B) → IsBytes c.rest → depends r q c ≡ Ok (x, d) → Took c (w x.0 ++ v x.0 x.1) d × (F x.0 × G x.0 x.1)
depends_takes w F r v G q first second c d x fits e =
    let a = bind_ok (r c) (λ y. q y.0 y.1 >>= λ z. Ok ((y.0, z.0), z.1)) (x, d) e in
    let b = bind_ok (q a.0.0 a.0.1) (λ z. Ok ((a.0.0, z.0), z.1)) (x, d) a.2 in
    let t = first.takes c a.0.1 a.0.0 fits a.1 in
    let s = (second a.0.0 t.1).takes a.0.1 b.0.1 b.0.0 t.0.fits b.1 in
    let same : ((a.0.0, b.0.0), b.0.1) ≡ (x, d) = ok_is ((a.0.0, b.0.0), b.0.1) (x, d) b.2 in
    subst (λ z. Took c (w z.0.0 ++ v z.0.0 z.0.1) z.1 × (F z.0.0 × G z.0.0 z.0.1)) same (Took-then c a.0.1 b.0.1 (w a.0.0) (v a.0.0 b.0.0) t.0 s.0, (t.1, s.1))

depends_again : {A B : Type 0} (w : A → List ℕ) (F : A → Type 0) (r : Reader A) (v : A → B → List ℕ) (G : A → B → Type 0) (q : A → Reader B) → Exact w F r → ((x : A) → F x → Exact (v x) (G x) (q x))
    → (x : A × B) (end : ℕ) (rest : List ℕ) → F x.0 × G x.0 x.1 → depends r q (at end ((w x.0 ++ v x.0 x.1) ++ rest)) ≡ Ok (x, at end rest)
depends_again w F r v G q first second x end rest h =
    ap (λ t. depends r q (at end t)) (append_assoc (w x.0) (v x.0 x.1) rest) ∙ rw (first.again x.0 end (v x.0 x.1 ++ rest) h.0, (second x.0 h.0).again x.1 end rest h.1) refl

pub depends_exact : {A B : Type 0} (w : A → List ℕ) (F : A → Type 0) (r : Reader A) (v : A → B → List ℕ) (G : A → B → Type 0) (q : A → Reader B) → Exact w F r → ((x : A) → F x → Exact (v x) (G x) (q x))
    → Exact (λ x. w x.0 ++ v x.0 x.1) (λ x. F x.0 × G x.0 x.1) (depends r q)
depends_exact w F r v G q first second = record { takes = depends_takes w F r v G q first second; again = depends_again w F r v G q first second }

pub both_exact : {A B : Type 0} {w : A → List ℕ} {F : A → Type 0} {r : Reader A} {v : B → List ℕ} {G : B → Type 0} {q : Reader B} → Exact w F r → Exact v G q
    → Exact (λ (x : A × B). w x.0 ++ v x.1) (λ x. F x.0 × G x.1) (both r q)
both_exact {A} {B} {w} {F} {r} {v} {G} {q} first second = depends_exact w F r (λ _. v) (λ _. G) (λ _. q) first (λ _ _. second)

-- ---- made of what was read

pub made_takes : {A B : Type 0} {w : A → List ℕ} {F : A → Type 0} {r : Reader A} → Exact w F r → (make : A → B) (c d : Cursor) (y : B) → IsBytes c.rest → made make r c ≡ Ok (y, d) → (x : A) × Took c (w x) d × F x × (make x ≡ y)
made_takes {A} {B} {w} {F} {r} law make c d y fits e =
    let a = bind_ok (r c) (λ x. Ok (make x.0, x.1)) (y, d) e in
    let same : (make a.0.0, a.0.1) ≡ (y, d) = ok_is (make a.0.0, a.0.1) (y, d) a.2 in
    let t = law.takes c a.0.1 a.0.0 fits a.1 in
    (a.0.0, subst (λ (z : Cursor). Took c (w a.0.0) z) (ap (λ z. z.1) same) t.0, t.1, ap (λ z. z.0) same)

pub made_again : {A B : Type 0} {w : A → List ℕ} {F : A → Type 0} {r : Reader A} → Exact w F r → (make : A → B) (x : A) (end : ℕ) (rest : List ℕ) → F x → made make r (at end (w x ++ rest)) ≡ Ok (make x, at end rest)
made_again law make x end rest h = rw (law.again x end rest h) refl

-- the parts of a value, and the value that is made of them
pub record IsMade {A B : Type 0} (w : A → List ℕ) (F : A → Type 0) (make : A → B) (v : B → List ℕ) (G : B → Type 0) (split : B → A) : Type 0 where
  pub spelled : (x : A) → F x → v (make x) ≡ w x
  pub fits : (x : A) → F x → G (make x)
  pub parts : (y : B) → G y → F (split y)
  pub back : (y : B) → G y → make (split y) ≡ y

made_exact_takes : {A B : Type 0} {w : A → List ℕ} {F : A → Type 0} {r : Reader A} (make : A → B) (v : B → List ℕ) (G : B → Type 0) (parts : B → A) → Exact w F r → IsMade w F make v G parts
    → (c d : Cursor) (y : B) → IsBytes c.rest → made make r c ≡ Ok (y, d) → Took c (v y) d × G y
made_exact_takes make v G parts law is c d y fits e =
    let m = made_takes law make c d y fits e in
    subst (λ z. Took c (v z) d × G z) m.3 (subst (λ t. Took c t d) (sym (is.spelled m.0 m.2)) m.1, is.fits m.0 m.2)

made_exact_again : {A B : Type 0} {w : A → List ℕ} {F : A → Type 0} {r : Reader A} (make : A → B) (v : B → List ℕ) (G : B → Type 0) (parts : B → A) → Exact w F r → IsMade w F make v G parts
    → (y : B) (end : ℕ) (rest : List ℕ) → G y → made make r (at end (v y ++ rest)) ≡ Ok (y, at end rest)
made_exact_again {A} {B} {w} {F} {r} make v G parts law is y end rest h =
    let spelled : v y ≡ w (parts y) = ap v (sym (is.back y h)) ∙ is.spelled (parts y) (is.parts y h) in
    ap (λ t. made make r (at end (t ++ rest))) spelled
    ∙ made_again law make (parts y) end rest (is.parts y h)
    ∙ ap (λ z. Ok (z, at end rest)) (is.back y h)

pub made_exact : {A B : Type 0} {w : A → List ℕ} {F : A → Type 0} {r : Reader A} (make : A → B) (v : B → List ℕ) (G : B → Type 0) (parts : B → A) → Exact w F r → IsMade w F make v G parts → Exact v G (made make r)
made_exact make v G parts law is = record { takes = made_exact_takes make v G parts law is; again = made_exact_again make v G parts law is }

-- the same reader, of other words for what it takes
pub exact_as : {A : Type 0} {w : A → List ℕ} {F : A → Type 0} {r : Reader A} (v : A → List ℕ) (G : A → Type 0) → Exact w F r
    → ((x : A) → F x → v x ≡ w x) → ((x : A) → F x → G x) → ((x : A) → G x → F x) → Exact v G r
exact_as {A} {w} {F} {r} v G law spelled to from = record {
  takes = λ c d x fits e. let t = law.takes c d x fits e in (subst (λ s. Took c s d) (sym (spelled x t.1)) t.0, to x t.1);
  again = λ x end rest h. ap (λ s. r (at end (s ++ rest))) (spelled x (from x h)) ∙ law.again x end rest (from x h);
}

-- one reader or another
pub if_exact : {A : Type 0} {w : A → List ℕ} {F : A → Type 0} {r q : Reader A} (b : Bool) → (b ≡ true → Exact w F r) → (b ≡ false → Exact w F q) → Exact w F (λ c. cond b (r c) (q c))
if_exact true here there = here refl
if_exact false here there = there refl

-- what is read is put after items
pub after_exact : {A : Type 0} {w : List A → List ℕ} {F : List A → Type 0} {r : Reader (List A)} (front : List A) → Exact w F r
    → Exact (λ xs. w (drop (length front) xs)) (λ xs. (take (length front) xs ≡ front) × F (drop (length front) xs)) (λ c. after front (r c))
after_exact {A} {w} {F} {r} front law =
    made_exact (λ xs. front ++ xs) (λ xs. w (drop (length front) xs)) (λ xs. (take (length front) xs ≡ front) × F (drop (length front) xs)) (drop (length front)) law
    (record {
      spelled = λ xs h. ap w (drop_at front xs (length front) refl);
      fits = λ xs h. (take_at front xs (length front) refl, subst F (sym (drop_at front xs (length front) refl)) h);
      parts = λ ys h. h.1;
      back = λ ys h. ap (λ t. t ++ drop (length front) ys) (sym h.0) ∙ take-append-drop (length front) ys;
    })

-- ---- lists

repeated_takes : {A : Type 0} (w : A → List ℕ) (F : A → Type 0) (r : Reader A) → Exact w F r → (n : ℕ) (c d : Cursor) (xs : List A) → IsBytes c.rest → repeated r n c ≡ Ok (xs, d) → Took c (flat_map w xs) d × (length xs ≡ n) × AllByRecursion F xs
unfolding repeated
repeated_takes w F r law zero c d xs fits e =
    subst (λ z. Took c (flat_map w z.0) z.1 × (length z.0 ≡ 0) × AllByRecursion F z.0) (ok_is ([], c) (xs, d) e) (record { parts = refl; end = refl; fits = fits }, refl, tt)
repeated_takes w F r law (suc n) c d xs fits e =
    let a = bind_ok (r c) (λ x. repeated r n x.1 >>= λ y. Ok (x.0 ∷ y.0, y.1)) (xs, d) e in
    let b = bind_ok (repeated r n a.0.1) (λ y. Ok (a.0.0 ∷ y.0, y.1)) (xs, d) a.2 in
    let t = law.takes c a.0.1 a.0.0 fits a.1 in
    let s = repeated_takes w F r law n a.0.1 b.0.1 b.0.0 t.0.fits b.1 in
    let joined = Took-then c a.0.1 b.0.1 (w a.0.0) (flat_map w b.0.0) t.0 s.0 in
    subst (λ z. Took c (flat_map w z.0) z.1 × (length z.0 ≡ suc n) × AllByRecursion F z.0) (ok_is (a.0.0 ∷ b.0.0, b.0.1) (xs, d) b.2) (rw flat_map-cons joined, ap suc s.1, (t.1, s.2))

repeated_again : {A : Type 0} (w : A → List ℕ) (F : A → Type 0) (r : Reader A) → Exact w F r → (xs : List A) (end : ℕ) (rest : List ℕ) → AllByRecursion F xs → repeated r (length xs) (at end (flat_map w xs ++ rest)) ≡ Ok (xs, at end rest)
unfolding repeated
repeated_again w F r law [] end rest h = refl
repeated_again w F r law (x ∷ xs) end rest h =
    let regrouped : flat_map w (x ∷ xs) ++ rest ≡ w x ++ (flat_map w xs ++ rest) = ap (λ t. t ++ rest) (flat_map-cons w x xs) ∙ append_assoc (w x) (flat_map w xs) rest in
    ap (λ t. repeated r (suc (length xs)) (at end t)) regrouped ∙ rw (law.again x end (flat_map w xs ++ rest) h.0, repeated_again w F r law xs end rest h.1) refl

-- as many as n
pub repeated_exact : {A : Type 0} {w : A → List ℕ} {F : A → Type 0} {r : Reader A} → Exact w F r → (n : ℕ) → Exact (flat_map w) (λ xs. (length xs ≡ n) × All F xs) (repeated r n)
repeated_exact {A} {w} {F} {r} law n = record {
  takes = λ c d xs fits e. let s = repeated_takes w F r law n c d xs fits e in (s.0, (s.1, All-from_recursion F xs s.2));
  again = λ xs end rest h. ap (λ k. repeated r k (at end (flat_map w xs ++ rest))) (sym h.0) ∙ repeated_again w F r law xs end rest (recursion_from_All F xs h.1);
}

counted_takes : {A : Type 0} (w : A → List ℕ) (F : A → Type 0) (r : Reader A) → Exact w F r → (c d : Cursor) (xs : List A) → IsBytes c.rest → counted r c ≡ Ok (xs, d) → Took c (counted_of w xs) d × FitsAll F xs
counted_takes w F r law c d xs fits e =
    let a = bind_ok (number_below (2 ^ 32) c) (λ n. repeated r n.0 n.1) (xs, d) e in
    let t = number_takes (2 ^ 32) c a.0.1 a.0.0 fits a.1 in
    let s = repeated_takes w F r law a.0.0 a.0.1 d xs t.0.fits a.2 in
    let joined = Took-then c a.0.1 d (uleb_of a.0.0) (flat_map w xs) t.0 s.0 in
    (subst (λ n. Took c (uleb_of n ++ flat_map w xs) d) (sym s.1) joined, (omega (arith, s.1, t.1), All-from_recursion F xs s.2))

counted_again : {A : Type 0} (w : A → List ℕ) (F : A → Type 0) (r : Reader A) → Exact w F r → (xs : List A) (end : ℕ) (rest : List ℕ) → FitsAll F xs → counted r (at end (counted_of w xs ++ rest)) ≡ Ok (xs, at end rest)
counted_again w F r law xs end rest h =
    ap (λ t. counted r (at end t)) (append_assoc (uleb_of (length xs)) (flat_map w xs) rest) ∙ rw (number_again (2 ^ 32) (omega arith) (length xs) end (flat_map w xs ++ rest) h.0) (repeated_again w F r law xs end rest (recursion_from_All F xs h.1))

pub counted_exact : {A : Type 0} {w : A → List ℕ} {F : A → Type 0} {r : Reader A} → Exact w F r → Exact (counted_of w) (FitsAll F) (counted r)
counted_exact {A} {w} {F} {r} law = record { takes = counted_takes w F r law; again = counted_again w F r law }

-- ---- all of the bytes

nil_is : (bytes : List ℕ) → is_nil bytes ≡ true → bytes ≡ []
nil_is [] e = refl
nil_is (b ∷ bs) e = absurd cc

whole_takes : {A : Type 0} {w : A → List ℕ} {F : A → Type 0} {r : Reader A} → Exact w F r → (bytes : List ℕ) (x : A) → IsBytes bytes → whole r bytes ≡ Ok x → F x × (bytes ≡ w x)
whole_takes {A} {w} {F} {r} law bytes x fits e =
    let start = at (length bytes) bytes in
    let a = bind_ok (r start) (λ y. cond (is_nil y.1.rest) (Ok y.0) (Err (offset_of y.1))) x e in
    let g = chosen (is_nil a.0.1.rest) (Ok a.0.0) (offset_of a.0.1) x a.2 in
    let t = law.takes start a.0.1 a.0.0 fits a.1 in
    let all : bytes ≡ w a.0.0 = t.0.parts ∙ ap (λ s. w a.0.0 ++ s) (nil_is a.0.1.rest g.0) ∙ append-nil (w a.0.0) in
    subst (λ (z : A). F z × (bytes ≡ w z)) (ok_is a.0.0 x g.1) (t.1, all)

-- What is spelled so is read.
pub whole_again : {A : Type 0} {w : A → List ℕ} {F : A → Type 0} {r : Reader A} → Exact w F r → (x : A) → F x → whole r (w x) ≡ Ok x
whole_again {A} {w} {F} {r} law x h =
    let read : r (at (length (w x)) (w x)) ≡ Ok (x, at (length (w x)) []) =
    ap (λ t. r (at (length (w x)) t)) (sym (append-nil (w x))) ∙ law.again x (length (w x)) [] h in
    rw read refl

-- What is read is spelled so.
pub whole_found : {A : Type 0} {w : A → List ℕ} {F : A → Type 0} {r : Reader A} → Exact w F r → (bytes : List ℕ) (result : Result A StreamError) → IsBytes bytes → GivesAll result (whole r bytes) → IfOk result (λ x. F x × (bytes ≡ w x))
whole_found law bytes (Ok x) fits e = whole_takes law bytes x fits e
whole_found law bytes (Err e) fits h = tt

-- no spelling begins another: by reading both
pub begins_none : {A : Type 0} {w : A → List ℕ} {F : A → Type 0} {r : Reader A} → Exact w F r → (m n : A) (x y : List ℕ) → F m → F n → w m ++ x ≡ w n ++ y → (m ≡ n) × (x ≡ y)
begins_none {A} {w} {F} {r} law m n x y h k e =
    let same : (m, at 0 x) ≡ (n, at 0 y) = ok_is (m, at 0 x) (n, at 0 y) (sym (law.again m 0 x h) ∙ ap (λ (t : List ℕ). r (at 0 t)) e ∙ law.again n 0 y k) in
    (ap (λ z. z.0) same, ap (λ z. z.1.rest) same)
