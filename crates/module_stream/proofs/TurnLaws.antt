-- Reading one thing for each of some bounds, in turn: what is read is spelled so, and what is spelled so is read; and reading
-- them one after the other, as a loop does.
use Rattle.std.proofs.Common.{◌≡◌, ℕ, zero, suc, ◌+◌, ◌<◌, ◌≤◌, List, [], ◌∷◌, ◌++◌, length, get_or, drop, Result, Ok, Err, refl, sym, ap, subst, ◌∙◌, append_assoc, arith}
use Rattle.std.specs.List.{flat_map, AllByRecursion}
use Rattle.std.proofs.lemmas.List.{append-nil, drop_all}
use Rattle.std.proofs.lemmas.List.Concat.{flat_map-cons}
use Rattle.cursors.specs.Cursor.{Cursor, at}
use Rattle.cursors.proofs.Leb128Laws.{IsBytes}
use Rattle.cursors.proofs.Fields.{Took}
use Rattle.module_stream.specs.declared.fault.StreamError.{StreamError}
use Rattle.module_stream.specs.declared.fault.StreamError.TheVariants as errors
use Rattle.module_stream.specs.Fields.{FitEach}
use Rattle.module_stream.specs.Readers.{Reader, ◌>>=◌, Fails, in_turn, after}
use Rattle.module_stream.proofs.Exact.{Exact, ok_is, bind_ok, Took-then}

in_turn_takes : {B A : Type 0} (w : A → List ℕ) (F : B → A → Type 0) (r : B → Reader A) (P : B → Type 0) → ((b : B) → P b → Exact w (F b) (r b)) → (bs : List B) → AllByRecursion P bs → (c d : Cursor) (xs : List A) → IsBytes c.rest
    → in_turn r bs c ≡ Ok (xs, d) → Took c (flat_map w xs) d × FitEach F bs xs
unfolding in_turn
in_turn_takes w F r P law [] all c d xs fits e =
    subst (λ z. Took c (flat_map w z.0) z.1 × FitEach F [] z.0) (ok_is ([], c) (xs, d) e) (record { parts = refl; end = refl; fits = fits }, tt)
in_turn_takes w F r P law (b ∷ bs) all c d xs fits e =
    let a = bind_ok (r b c) (λ x. in_turn r bs x.1 >>= λ y. Ok (x.0 ∷ y.0, y.1)) (xs, d) e in
    let s = bind_ok (in_turn r bs a.0.1) (λ y. Ok (a.0.0 ∷ y.0, y.1)) (xs, d) a.2 in
    let t = (law b all.0).takes c a.0.1 a.0.0 fits a.1 in
    let u = in_turn_takes w F r P law bs all.1 a.0.1 s.0.1 s.0.0 t.0.fits s.1 in
    let joined = Took-then c a.0.1 s.0.1 (w a.0.0) (flat_map w s.0.0) t.0 u.0 in
    subst (λ z. Took c (flat_map w z.0) z.1 × FitEach F (b ∷ bs) z.0) (ok_is (a.0.0 ∷ s.0.0, s.0.1) (xs, d) s.2) (rw flat_map-cons joined, (t.1, u.1))

in_turn_again : {B A : Type 0} (w : A → List ℕ) (F : B → A → Type 0) (r : B → Reader A) (P : B → Type 0) → ((b : B) → P b → Exact w (F b) (r b)) → (bs : List B) → AllByRecursion P bs → (xs : List A) (end : ℕ) (rest : List ℕ) → FitEach F bs xs
    → in_turn r bs (at end (flat_map w xs ++ rest)) ≡ Ok (xs, at end rest)
unfolding in_turn
in_turn_again w F r P law [] all [] end rest h = refl
in_turn_again w F r P law [] all (x ∷ xs) end rest h = absurd h
in_turn_again w F r P law (b ∷ bs) all [] end rest h = absurd h
in_turn_again w F r P law (b ∷ bs) all (x ∷ xs) end rest h =
    let regrouped : flat_map w (x ∷ xs) ++ rest ≡ w x ++ (flat_map w xs ++ rest) = ap (λ t. t ++ rest) (flat_map-cons w x xs) ∙ append_assoc (w x) (flat_map w xs) rest in
    ap (λ t. in_turn r (b ∷ bs) (at end t)) regrouped ∙ rw ((law b all.0).again x end (flat_map w xs ++ rest) h.0, in_turn_again w F r P law bs all.1 xs end rest h.1) refl

-- one for each of bounds that P holds of
pub in_turn_exact : {B A : Type 0} {w : A → List ℕ} {F : B → A → Type 0} {r : B → Reader A} {P : B → Type 0} → ((b : B) → P b → Exact w (F b) (r b)) → (bs : List B) → AllByRecursion P bs → Exact (flat_map w) (FitEach F bs) (in_turn r bs)
in_turn_exact {B} {A} {w} {F} {r} {P} law bs all = record { takes = in_turn_takes w F r P law bs all; again = in_turn_again w F r P law bs all }

-- ---- as a loop does

-- the bounds that are left
abbrev pub TurnsSoFar : {B A : Type 0} → (B → Reader A) → List A → List B → Cursor → Result (List A × Cursor) ℕ → Type 0
TurnsSoFar read front left c total = after front (in_turn read left c) ≡ total

drop_here : {B : Type 0} (bs : List B) (i : ℕ) (d : B) → i < length bs → drop i bs ≡ get_or bs i d ∷ drop (i + 1) bs
drop_here [] i d lt = absurd (omega arith)
drop_here (b ∷ bs) zero d lt = refl
drop_here (b ∷ bs) (suc i) d lt = let e : suc i + 1 ≡ suc (i + 1) = omega arith in rw e (drop_here bs i d (omega arith))

regroup : {A : Type 0} (front : List A) (x : A) (read : Result (List A × Cursor) ℕ) → after front (read >>= λ y. Ok (x ∷ y.0, y.1)) ≡ after (front ++ x ∷ []) read
regroup front x (Ok y) = ap (λ xs. Ok (xs, y.1)) (simp append_assoc)
regroup front x (Err e) = refl

pub turn_goes_on : {B A : Type 0} (read : B → Reader A) (front : List A) (bs : List B) (i : ℕ) (b : B) (c d : Cursor) (x : A) (total : Result (List A × Cursor) ℕ) → i < length bs → b ≡ get_or bs i b → read b c ≡ Ok (x, d)
    → TurnsSoFar read front (drop i bs) c total → TurnsSoFar read (front ++ x ∷ []) (drop (i + 1) bs) d total
unfolding in_turn
turn_goes_on read front bs i b c d x total lt is h so_far =
    let here : drop i bs ≡ b ∷ drop (i + 1) bs = drop_here bs i b lt ∙ ap (λ y. y ∷ drop (i + 1) bs) (sym is) in
    let one : after front (in_turn read (drop i bs) c) ≡ after (front ++ x ∷ []) (in_turn read (drop (i + 1) bs) d) = rw (here, h) (regroup front x (in_turn read (drop (i + 1) bs) d)) in
    sym one ∙ so_far

pub turn_ends : {B A : Type 0} (read : B → Reader A) (e : StreamError) (front : List A) (bs : List B) (i : ℕ) (b : B) (c : Cursor) (total : Result (List A × Cursor) ℕ) → i < length bs → b ≡ get_or bs i b → Fails e (read b c)
    → TurnsSoFar read front (drop i bs) c total → Fails e total
unfolding in_turn
turn_ends read errors.NoMemory front bs i b c total lt is h so_far = tt
turn_ends read (errors.BadStream offset) front bs i b c total lt is h so_far =
    let here : drop i bs ≡ b ∷ drop (i + 1) bs = drop_here bs i b lt ∙ ap (λ y. y ∷ drop (i + 1) bs) (sym is) in
    let one : after front (in_turn read (drop i bs) c) ≡ Err offset = rw (here, h) refl in
    sym so_far ∙ one

pub turns_done : {B A : Type 0} (read : B → Reader A) (front : List A) (bs : List B) (i : ℕ) (c : Cursor) (total : Result (List A × Cursor) ℕ) → length bs ≤ i → TurnsSoFar read front (drop i bs) c total → total ≡ Ok (front, c)
unfolding in_turn
turns_done read front bs i c total le so_far =
    let none : drop i bs ≡ [] = drop_all i bs le in
    let one : after front (in_turn read (drop i bs) c) ≡ Ok (front, c) = rw none (ap (λ xs. Ok (xs, c)) (append-nil front)) in
    sym so_far ∙ one
