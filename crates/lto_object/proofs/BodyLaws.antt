-- The bodies of a module: what is read is spelled so, and what is spelled so is read.
use Rattle.std.proofs.Common.{◌≡◌, ℕ, ◌+◌, ◌^◌, ◌<◌, ◌≤◌, List, [], ◌∷◌, ◌++◌, length, Result, Ok, Err, refl, ap, subst, ◌∙◌, arith}
use Rattle.std.specs.Prelude.{IfOk}
use Rattle.std.specs.List.{flat_map}
use Rattle.std.proofs.lemmas.List.{length-append}
use Rattle.std.proofs.lemmas.List.Concat.{flat_map-cons}
use Rattle.cursors.specs.Leb128.{uleb_of}
use Rattle.cursors.proofs.Leb128Laws.{IsBytes}
use Rattle.gimple_ir.specs.declared.types.Statement.{Statement}
use Rattle.gimple_ir.specs.declared.types.Module.{Module}
use Rattle.module_stream.specs.declared.bounds.BodyBounds.{BodyBounds}
use Rattle.module_stream.specs.declared.fault.StreamError.{StreamError}
use Rattle.module_stream.specs.Fields.{FitEach}
use Rattle.module_stream.specs.Bodies.{body_of, FitsBody}
use Rattle.module_stream.specs.BodyReading.{read_body}
use Rattle.module_stream.specs.Readers.{GivesAllSeen, in_turn}
use Rattle.module_stream.proofs.Exact.{Exact, whole_found, whole_again}
use Rattle.module_stream.proofs.OperandLaws.{AreCounts}
use Rattle.module_stream.proofs.StatementLaws.{body_found, body_again}
use Rattle.module_stream.proofs.TurnLaws.{in_turn_exact}
use Rattle.module_stream.proofs.SizedLaws.{sized_exact}
use Rattle.module_stream.proofs.Inside.{Inside, sized_inside, in_turn_inside, faults_within}
use Rattle.module_stream.proofs.FaultLaws.{body_faults}
use Rattle.lto_object.specs.Bounds.{bounds_in, HasBounds}
use Rattle.lto_object.specs.BodyStream.{stored_body_of, bodies_bytes, FitBodies, stored_body_at, bodies_within, read_bodies}
use Rattle.lto_object.proofs.BoundLaws.{all_counts}

abbrev done : {A : Type 0} → A → Result A StreamError
done x = Ok x

-- within the bounds, and with a length that a number can say
abbrev FitsStored : BodyBounds → List Statement → Type 0
FitsStored b body = FitsBody b body × (length (body_of body) < 2 ^ 64)

stored_body_exact : (b : BodyBounds) → AreCounts b → Exact stored_body_of (FitsStored b) (stored_body_at b)
unfolding stored_body_at
stored_body_exact b k = sized_exact {w = body_of} {F = FitsBody b} {read = read_body b} (λ bytes body fits e. body_found b k bytes (done body) fits e) (body_again b k)

bodies_exact : (m : Module) → HasBounds m → Exact bodies_bytes (FitEach FitsStored (bounds_in m)) (in_turn stored_body_at (bounds_in m))
bodies_exact m h = in_turn_exact stored_body_exact (bounds_in m) (all_counts m h)

-- ---- lengths

-- bodies whose bytes are few have few bytes each
few_each : (bs : List BodyBounds) (bodies : List (List Statement)) → FitEach FitsBody bs bodies → length (bodies_bytes bodies) < 2 ^ 64 → FitEach FitsStored bs bodies
few_each [] [] h lt = tt
few_each [] (x ∷ xs) h lt = absurd h
few_each (b ∷ bs) [] h lt = absurd h
few_each (b ∷ bs) (x ∷ xs) h lt =
    let parts : length (bodies_bytes (x ∷ xs)) ≡ (length (uleb_of (length (body_of x))) + length (body_of x)) + length (bodies_bytes xs) =
    ap length (flat_map-cons stored_body_of x xs) ∙ length-append (stored_body_of x) (bodies_bytes xs) ∙ ap (λ n. n + length (bodies_bytes xs)) (length-append (uleb_of (length (body_of x))) (body_of x)) in
    let own : length (body_of x) < 2 ^ 64 = omega (arith, parts) in
    let others : length (bodies_bytes xs) < 2 ^ 64 = omega (arith, parts) in
    ((h.0, own), few_each bs xs h.1 others)

within_bounds : (bs : List BodyBounds) (bodies : List (List Statement)) → FitEach FitsStored bs bodies → FitEach FitsBody bs bodies
within_bounds [] [] h = tt
within_bounds [] (x ∷ xs) h = absurd h
within_bounds (b ∷ bs) [] h = absurd h
within_bounds (b ∷ bs) (x ∷ xs) h = (h.0.0, within_bounds bs xs h.1)

-- ---- all of a module's

-- What is read is spelled so.
pub bodies_found : {X : Type 0} (view : X → List (List Statement)) (m : Module) → HasBounds m → (bytes : List ℕ) (r : Result X StreamError) → IsBytes bytes → GivesAllSeen view r (read_bodies m bytes) → IfOk r (λ x. FitBodies m (view x) × (bytes ≡ bodies_bytes (view x)))
unfolding bodies_within
bodies_found view m h bytes (Ok x) fits e =
    let found = whole_found (bodies_exact m h) bytes (done (view x)) fits e in (within_bounds (bounds_in m) (view x) found.0, found.1)
bodies_found view m h bytes (Err e) fits fails = tt

-- What is spelled so is read.
pub bodies_again : (m : Module) → HasBounds m → (bodies : List (List Statement)) → FitBodies m bodies → length (bodies_bytes bodies) < 2 ^ 64 → read_bodies m (bodies_bytes bodies) ≡ Ok bodies
unfolding bodies_within
bodies_again m h bodies fits few = whole_again (bodies_exact m h) bodies (few_each (bounds_in m) bodies fits few)

pub seen_as : {X A : Type 0} (view : X → A) (r : Result X StreamError) (p q : Result A ℕ) → p ≡ q → GivesAllSeen view r p → GivesAllSeen view r q
seen_as view r p q e h = subst (λ f. GivesAllSeen view r f) e h

-- ---- faults lie within the bytes

stored_body_inside : (b : BodyBounds) → Inside (stored_body_at b)
unfolding stored_body_at
stored_body_inside b = sized_inside {inner = read_body b} (body_faults b)

pub bodies_faults : (m : Module) (bytes : List ℕ) (e : ℕ) → read_bodies m bytes ≡ Err e → e ≤ length bytes
unfolding bodies_within
bodies_faults m bytes e h = faults_within (in_turn_inside stored_body_inside (bounds_in m)) bytes e h
