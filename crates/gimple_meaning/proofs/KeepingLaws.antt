-- A run follows what it keeps, keeping composes, and systems that run in lock-step keep what their tie says.
use Rattle.std.proofs.Common.{◌≡◌, ℕ, List, [], ◌∷◌, ◌++◌, Bool, true, false, true≢false, refl, sym, ap, ap₂, ◌∙◌}
use Rattle.std.specs.Prelude.{◌&&◌}
use Rattle.gimple_meaning.specs.Systems.{System, Frame, Machine, State, Running, Ended, Undefined}
use Rattle.gimple_meaning.specs.Run.{run}
use Rattle.gimple_meaning.specs.Laws.{Grows}
use Rattle.gimple_meaning.specs.LockStep.{Tie, Waiting, Stacks, Machines, States, ActAlike}
use Rattle.gimple_meaning.specs.Shown.{Goes, Ends, shown_of, Covers}
use Rattle.gimple_meaning.specs.Keeping.{View, FrameKept, FramesKept, MachineKept, StateKept, Keeps, KeepsFollows, through, KeepsOn}
use Rattle.gimple_meaning.proofs.LockSteps.{runs_alike}

-- ---- what a kept run shows

whole : (xs ys : List ℕ) → xs ≡ ys → Grows ys xs
whole xs ys e = ([], e ∙ none ys)
  where
    none : (zs : List ℕ) → zs ≡ zs ++ []
    none [] = refl
    none (z ∷ zs) = ap (λ (l : List ℕ). z ∷ l) (none zs)

goes_alike : (view : View) (s t : State) (output : List ℕ) → StateKept view s t → shown_of s ≡ Goes output → shown_of t ≡ Goes output
goes_alike view (Running m) (Running n) output kept is = ap Goes (sym kept.output) ∙ is
goes_alike view (Running m) (Ended n status) output kept is = absurd kept
goes_alike view (Running m) (Undefined n function place) output kept is = absurd kept
goes_alike view (Ended m status) t output kept is = cc
goes_alike view (Undefined m function place) t output kept is = cc

ends_alike : (view : View) (s t : State) (status : ℕ) (output : List ℕ) → StateKept view s t → shown_of s ≡ Ends status output → shown_of t ≡ Ends status output
ends_alike view (Ended m status) (Ended n code) other output kept is =
    ap (λ (c : ℕ). Ends c n.output) (sym kept.1) ∙ ap (λ (o : List ℕ). Ends status o) (sym kept.0.output) ∙ is
ends_alike view (Ended m status) (Running n) other output kept is = absurd kept
ends_alike view (Ended m status) (Undefined n function place) other output kept is = absurd kept
ends_alike view (Running m) t other output kept is = cc
ends_alike view (Undefined m function place) t other output kept is = cc

covers_kept : (view : View) (s t : State) → StateKept view s t → Covers (shown_of t) (shown_of s)
covers_kept view (Undefined m function place) t kept = tt
covers_kept view (Running m) (Running n) kept = whole m.output n.output kept.output
covers_kept view (Running m) (Ended n status) kept = absurd kept
covers_kept view (Running m) (Undefined n function place) kept = absurd kept
covers_kept view (Ended m status) (Ended n code) kept = (sym kept.1, sym kept.0.output)
covers_kept view (Ended m status) (Running n) kept = absurd kept
covers_kept view (Ended m status) (Undefined n function place) kept = absurd kept

pub keeps_follows : KeepsFollows
keeps_follows view first second keeps = record {
  goes_on = λ n output is. (n, goes_alike view (first n) (second n) output (keeps n) is);
  ends = λ n status output is. (n, ends_alike view (first n) (second n) status output (keeps n) is);
  no_more = λ n. (n, covers_kept view (first n) (second n) (keeps n));
}

-- ---- a program for one that stands for another

both_true : (a b : Bool) → (a && b) ≡ true → (a ≡ true) × (b ≡ true)
both_true true b h = (refl, h)
both_true false b h = absurd (true≢false (sym h))

frame_on : (a b : View) (p q r : Frame) → FrameKept a p q → FrameKept b q r → FrameKept (through a b) p r
frame_on a b p q r one two = record {
  function = one.function ∙ ap a.function_of two.function;
  place = one.place ∙ two.place;
  components = λ i v kept here.
      let both = both_true (a.keeps (b.function_of r.function) r.place i) (b.keeps r.function r.place i) kept in
      let upper : a.keeps q.function q.place i ≡ true = ap₂ (λ (f n : ℕ). a.keeps f n i) two.function two.place ∙ both.0 in
      two.components i v both.1 (one.components i v upper here);
}

frames_on : (a b : View) (ps qs rs : List Frame) → FramesKept a ps qs → FramesKept b qs rs → FramesKept (through a b) ps rs
frames_on a b [] [] [] one two = tt
frames_on a b [] [] (r ∷ rs) one two = absurd two
frames_on a b [] (q ∷ qs) rs one two = absurd one
frames_on a b (p ∷ ps) [] rs one two = absurd one
frames_on a b (p ∷ ps) (q ∷ qs) [] one two = absurd two
frames_on a b (p ∷ ps) (q ∷ qs) (r ∷ rs) one two = (frame_on a b p q r one.0 two.0, frames_on a b ps qs rs one.1 two.1)

machine_on : (a b : View) (m n o : Machine) → MachineKept a m n → MachineKept b n o → MachineKept (through a b) m o
machine_on a b m n o one two = record {
  arrays = one.arrays ∙ two.arrays;
  input = one.input ∙ two.input;
  output = one.output ∙ two.output;
  frames = frames_on a b m.frames n.frames o.frames one.frames two.frames;
}

state_on : (a b : View) (s t u : State) → StateKept a s t → StateKept b t u → StateKept (through a b) s u
state_on a b (Undefined m function place) t u one two = tt
state_on a b (Running m) (Running n) (Running o) one two = machine_on a b m n o one two
state_on a b (Running m) (Running n) (Ended o status) one two = absurd two
state_on a b (Running m) (Running n) (Undefined o function place) one two = absurd two
state_on a b (Running m) (Ended n status) u one two = absurd one
state_on a b (Running m) (Undefined n function place) u one two = absurd one
state_on a b (Ended m status) (Ended n code) (Ended o last) one two = (machine_on a b m n o one.0 two.0, one.1 ∙ two.1)
state_on a b (Ended m status) (Ended n code) (Running o) one two = absurd two
state_on a b (Ended m status) (Ended n code) (Undefined o function place) one two = absurd two
state_on a b (Ended m status) (Running n) u one two = absurd one
state_on a b (Ended m status) (Undefined n function place) u one two = absurd one

pub keeps_on : KeepsOn
keeps_on a b first second third one two = λ n. state_on a b (first n) (second n) (third n) (one n) (two n)

-- ---- lock-step

waiting_kept : (a b : System) (tie : Tie) (view : View) → ((p q : Frame) → tie.Frames p q → FrameKept view p q) → (f g : ℕ) (ps qs : List Frame) → Waiting a b tie f g ps qs → FramesKept view ps qs
waiting_kept a b tie view kept f g [] [] w = tt
waiting_kept a b tie view kept f g [] (q ∷ qs) w = absurd w
waiting_kept a b tie view kept f g (p ∷ ps) [] w = absurd w
waiting_kept a b tie view kept f g (p ∷ ps) (q ∷ qs) w = (kept p q w.0, waiting_kept a b tie view kept p.function q.function ps qs w.2)

stacks_kept : (a b : System) (tie : Tie) (view : View) → ((p q : Frame) → tie.Frames p q → FrameKept view p q) → (ps qs : List Frame) → Stacks a b tie ps qs → FramesKept view ps qs
stacks_kept a b tie view kept [] [] s = tt
stacks_kept a b tie view kept [] (q ∷ qs) s = absurd s
stacks_kept a b tie view kept (p ∷ ps) [] s = absurd s
stacks_kept a b tie view kept (p ∷ ps) (q ∷ qs) s = (kept p q s.0, waiting_kept a b tie view kept p.function q.function ps qs s.1)

machines_kept : (a b : System) (tie : Tie) (view : View) → ((p q : Frame) → tie.Frames p q → FrameKept view p q) → (m n : Machine) → Machines a b tie m n → MachineKept view m n
machines_kept a b tie view kept m n h = record { arrays = h.arrays; input = h.input; output = h.output; frames = stacks_kept a b tie view kept m.frames n.frames h.frames }

states_kept : (a b : System) (tie : Tie) (view : View) → ((p q : Frame) → tie.Frames p q → FrameKept view p q) → (s t : State) → States a b tie s t → StateKept view s t
states_kept a b tie view kept (Undefined m function place) t h = tt
states_kept a b tie view kept (Running m) (Running n) h = machines_kept a b tie view kept m n h
states_kept a b tie view kept (Running m) (Ended n status) h = absurd h
states_kept a b tie view kept (Running m) (Undefined n function place) h = absurd h
states_kept a b tie view kept (Ended m status) (Ended n code) h = (machines_kept a b tie view kept m n h.0, h.1)
states_kept a b tie view kept (Ended m status) (Running n) h = absurd h
states_kept a b tie view kept (Ended m status) (Undefined n function place) h = absurd h

-- systems that act alike on related frames, of which the second keeps what the relation says
pub tied_keeps : (a b : System) (tie : Tie) (view : View) → ActAlike a b tie → ((p q : Frame) → tie.Frames p q → FrameKept view p q) → (s t : State) → States a b tie s t → Keeps view (run a s) (run b t)
tied_keeps a b tie view alike kept s t start = λ n. states_kept a b tie view kept (run a s n) (run b t n) (runs_alike a b tie alike s t start n)
