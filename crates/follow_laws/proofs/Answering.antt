-- From what a step's words do at the newest frame to a row of the step table.
use Rattle.std.proofs.Common.{◌≡◌, ℕ, ◌+◌, ◌-◌, ◌<◌, List, [], ◌∷◌, length, Option, Some, None, refl, sym, ap, ◌∙◌, subst, arith}
use Rattle.std.specs.Prelude.{slice_get}
use Rattle.std.specs.Option.{option_map_or, option_map, option_and_then}
use Rattle.std.proofs.lemmas.Option.{slice_get-map}
use Rattle.gimple_ir.specs.declared.versioned.Step.{Step}
use Rattle.gimple_ir.specs.declared.versioned.VersionedFunction.{VersionedFunction}
use Rattle.gimple_meaning.specs.Acts.{Store, Act, needing}
use Rattle.gimple_meaning.specs.Systems.{System, Frame, Machine, Running, step, next, applied, store_of}
use Rattle.gimple_meaning.specs.Systems as program
use Rattle.gimple_meaning.specs.Steps.{Code, act, act_in, act_at}
use Rattle.rv64_meaning.specs.Machine.{Segments, State}
use Rattle.follow_laws.specs.Relation.{Leads, ComesTo, Advances, Works, Rests}
use Rattle.follow_laws.proofs.WayLaws.{leads_on, leads_twice, comes_of, comes_to_end}
use Rattle.gimple_meaning.specs.Linked.{LinkedProgram, linked_step, linked_code, linked_system, step_in, step_now, steps_left_in, steps_left}
use Rattle.follow_laws.specs.Layouts.{Layout}
use Rattle.follow_laws.specs.Related.{AtFrame, RelatedIn, Related, GoesOn, Answers}

-- ---- a row, at the newest frame

-- what the step of this form does at the newest frame
abbrev pub does : LinkedProgram → Machine → Frame → List Frame → VersionedFunction → Step → Act
does p q frame older f form = act p.arrays (linked_code p f) frame.place (store_of q frame) (linked_step p f form)

abbrev pub RowAt : Segments → Layout → LinkedProgram → Step → Type 0
RowAt m l p form =
    (q : Machine) (frame : Frame) (older : List Frame) (s : State) → (a : AtFrame l p frame older q.arrays q.input q.output s) → slice_get a.function.body frame.place ≡ Some form
    → Answers m l p s (length a.function.body - frame.place) (applied (linked_system p) q frame older (does p q frame older a.function form))

step_here : (o : Option VersionedFunction) (f : VersionedFunction) (place : ℕ) (form : Step) → o ≡ Some f → option_and_then (λ x. slice_get x.body place) o ≡ Some form → slice_get f.body place ≡ Some form
step_here o f place form e now = sym (ap (option_and_then (λ (x : VersionedFunction). slice_get x.body place)) e) ∙ now

acts_here : (p : LinkedProgram) (f : VersionedFunction) (g place : ℕ) (store : Store) (form : Step) → slice_get p.functions g ≡ Some f → slice_get f.body place ≡ Some form
    → (linked_system p).acts g place store ≡ act p.arrays (linked_code p f) place store (linked_step p f form)
acts_here p f g place store form known here =
    let code = slice_get-map (linked_code p) p.functions g ∙ ap (option_map (linked_code p)) known in
    let body = slice_get-map (linked_step p f) f.body place ∙ ap (option_map (linked_step p f)) here in
    ap (λ (c : Option Code). act_at p.arrays c place store) code ∙ ap (λ (c : Option Step). act_in p.arrays (linked_code p f) place store c) body

row_in : (m : Segments) (l : Layout) (p : LinkedProgram) (form : Step) → RowAt m l p form → (q : Machine) (s : State) (frames : List Frame) → RelatedIn l p q frames s → step_in p frames ≡ Some form
    → Answers m l p s (steps_left_in p frames) (next (linked_system p) q frames)
row_in m l p form at q s [] related now = absurd related
row_in m l p form at q s (frame ∷ older) a now =
    let f = a.function in
    let known = a.holds.newest.known in
    let here = step_here (slice_get p.functions frame.function) f frame.place form known now in
    let acts = acts_here p f frame.function frame.place (store_of q frame) form known here in
    let left = ap (λ (o : Option VersionedFunction). option_map_or (λ x. length x.body - frame.place) o 0) known in
    subst (λ n. Answers m l p s n (next (linked_system p) q (frame ∷ older))) (sym left)
    (subst (λ (x : Act). Answers m l p s (length f.body - frame.place) (applied (linked_system p) q frame older x)) (sym acts) (at q frame older s a here))

pub row : (m : Segments) (l : Layout) (p : LinkedProgram) (form : Step) → RowAt m l p form → (q : Machine) (s : State) → Related l p q s → step_now p q ≡ Some form
    → Answers m l p s (steps_left p q) (step (linked_system p) (Running q))
row m l p form at q s related now = row_in m l p form at q s q.frames related now

-- ---- answers

-- words that come to the next state
pub works : (m : Segments) (l : Layout) (p : LinkedProgram) (s : State) (left : ℕ) (new : Machine) → ComesTo m s (Related l p new) → GoesOn m l p s left new
works m l p s left new c = record { state = c.state; advances = Works c.leads; related = c.holds }

-- no words, at a step of a function's body
pub rests : (m : Segments) (l : Layout) (p : LinkedProgram) (s : State) (f : VersionedFunction) (g place : ℕ) (frame : Frame) (new : Machine) (older : List Frame)
    → new.frames ≡ frame ∷ older → slice_get p.functions frame.function ≡ Some f → place < length f.body → frame.place ≡ place + 1 → Related l p new s
    → GoesOn m l p s (length f.body - place) new
rests m l p s f g place frame new older frames known inside on related =
    let left : steps_left p new ≡ length f.body - frame.place =
    ap (steps_left_in p) frames ∙ ap (λ (o : Option VersionedFunction). option_map_or (λ x. length x.body - frame.place) o 0) known in
    record { state = s; advances = Rests (record { steps = 0; there = refl }) (omega (arith, left, inside, on)); related = related }

-- where the act needs something that is not there, nothing is asked
pub needing_answers : {T : Type 0} (m : Segments) (l : Layout) (p : LinkedProgram) (s : State) (left : ℕ) (system : System) (q : Machine) (frame : Frame) (older : List Frame) (x : Option T) (act : T → Act)
    → ((v : T) → x ≡ Some v → Answers m l p s left (applied system q frame older (act v))) → Answers m l p s left (applied system q frame older (needing x act))
needing_answers m l p s left system q frame older None act h = tt
needing_answers m l p s left system q frame older (Some v) act h = h v refl

-- words before an answer
pub after_lead : (m : Segments) (l : Layout) (p : LinkedProgram) (s u : State) (left : ℕ) (new : program.State) → Leads m s u → Answers m l p u left new → Answers m l p s left new
after_lead m l p s u left (program.Running q) lead a = record { state = a.state; advances = joined a.advances; related = a.related }
  where
    joined : {t : State} {n k : ℕ} → Advances m u t n k → Advances m s t n k
    joined (Works more) = Works (leads_twice m s u _ lead more)
    joined (Rests more low) = Works (leads_on m s u _ lead more)
after_lead m l p s u left (program.Ended q status) lead a = comes_to_end m s u status q.output (comes_of m s u lead) a
after_lead m l p s u left (program.Undefined q function place) lead a = tt
