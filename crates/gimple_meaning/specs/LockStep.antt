-- When two programs run in lock-step: their newest frames are related, and each frame that waits in a call becomes a related one with
-- whatever the two functions above it give back. While the run of the first is defined, that of the second stands alike.
use Rattle.std.specs.Prelude.{◌≡◌, ℕ, ℤ, List, [], ◌∷◌, Option, Some}
use Rattle.gimple_ir.specs.declared.types.Value.{Value}
use Rattle.gimple_meaning.specs.Acts.{Store, Act, Fault, Goes, Calls, Leaves, Exits}
use Rattle.gimple_meaning.specs.Systems.{System, Frame, Machine, State, Running, Ended, Undefined, fresh, moved, resumed, status}
use Rattle.gimple_meaning.specs.Run.{run}

-- what ties two programs: which of their frames that are about to run are related, and what two of their functions give back
pub record Tie : Type 1 where
  pub Frames : Frame → Frame → Type 0
  pub Gives : ℕ → ℕ → Option Value → Option Value → Type 0

-- ---- states

-- the frames that wait below frames of the functions f and g: each two are related as they stand, and as what they become
abbrev pub Waiting : System → System → Tie → ℕ → ℕ → List Frame → List Frame → Type 0
Waiting a b tie f g [] [] = (v w : Option Value) → tie.Gives f g v w → status v ≡ status w
Waiting a b tie f g [] (q ∷ qs) = ⊥
Waiting a b tie f g (p ∷ ps) [] = ⊥
Waiting a b tie f g (p ∷ ps) (q ∷ qs) =
    tie.Frames p q × ((v w : Option Value) → tie.Gives f g v w → tie.Frames (resumed a p v) (resumed b q w))
    × Waiting a b tie p.function q.function ps qs

abbrev pub Stacks : System → System → Tie → List Frame → List Frame → Type 0
Stacks a b tie [] [] = Unit {0}
Stacks a b tie [] (q ∷ qs) = ⊥
Stacks a b tie (p ∷ ps) [] = ⊥
Stacks a b tie (p ∷ ps) (q ∷ qs) = tie.Frames p q × Waiting a b tie p.function q.function ps qs

pub record Machines (a b : System) (tie : Tie) (m n : Machine) : Type 0 where
  pub arrays : m.arrays ≡ n.arrays
  pub input : m.input ≡ n.input
  pub output : m.output ≡ n.output
  pub frames : Stacks a b tie m.frames n.frames

-- nothing is owed once the first is undefined
abbrev pub States : System → System → Tie → State → State → Type 0
States a b tie (Undefined m function place) t = Unit {0}
States a b tie (Running m) (Running n) = Machines a b tie m n
States a b tie (Running m) (Ended n status) = ⊥
States a b tie (Running m) (Undefined n function place) = ⊥
States a b tie (Ended m status) (Ended n code) = Machines a b tie m n × (status ≡ code)
States a b tie (Ended m status) (Running n) = ⊥
States a b tie (Ended m status) (Undefined n function place) = ⊥

-- ---- acts

-- related frames go on to related ones, and write the same
pub record Stepped (tie : Tie) (p q : Frame) (place there : ℕ) (s t : Store) (written shown : List ℕ) : Type 0 where
  pub arrays : s.arrays ≡ t.arrays
  pub input : s.input ≡ t.input
  pub writes : written ≡ shown
  pub frames : tie.Frames (moved p place s.cells) (moved q there t.cells)

-- related frames call functions whose new frames are related, and become related ones with what these give back
pub record Called (a b : System) (tie : Tie) (p q : Frame) (f g : ℕ) (xs ys : List (Option Value)) : Type 0 where
  pub enters : (cells : List (Option Value)) → a.enters f xs ≡ Some cells
      → (others : List (Option Value)) × (b.enters g ys ≡ Some others) × tie.Frames (fresh f cells) (fresh g others)
  pub resumes : (v w : Option Value) → tie.Gives f g v w → tie.Frames (resumed a p v) (resumed b q w)

-- two acts of related frames p and q
abbrev pub Alike : System → System → Tie → Frame → Frame → Act → Act → Type 0
Alike a b tie p q Fault act = Unit {0}
Alike a b tie p q (Goes place s written) (Goes there t shown) = Stepped tie p q place there s t written shown
Alike a b tie p q (Calls f xs) (Calls g ys) = Called a b tie p q f g xs ys
Alike a b tie p q (Leaves v) (Leaves w) = tie.Gives p.function q.function v w
Alike a b tie p q (Exits status) (Exits code) = status ≡ code
Alike a b tie p q _ _ = ⊥

-- all related frames act alike, on the same arrays and input
abbrev pub ActAlike : System → System → Tie → Type 0
ActAlike a b tie =
    (p q : Frame) → tie.Frames p q → (arrays : List (List ℤ)) (input : List ℕ)
    → Alike a b tie p q (a.acts p.function p.place (record { cells = p.components; arrays = arrays; input = input }))
    (b.acts q.function q.place (record { cells = q.components; arrays = arrays; input = input }))

-- ---- the law

-- of two programs whose functions have other numbers: `function_of` gives the first's number of a function of the second, and all
-- else of the frames and of what they give back is the same
abbrev pub renumbering : (ℕ → ℕ) → Tie
renumbering function_of = record { Frames = λ p q. p ≡ record q { function = function_of q.function }; Gives = λ f g v w. v ≡ w }

-- of two systems that act alike, the runs from related states stay related
abbrev pub RunsTied : System → System → Tie → Type 0
RunsTied a b tie = ActAlike a b tie → (s t : State) → States a b tie s t → (n : ℕ) → States a b tie (run a s n) (run b t n)

-- so it is by each renumbering; `runs_alike` of proofs/LockSteps is the law for any tie, of which a clause cannot speak
abbrev pub LockStep : Type 0
LockStep = (a b : System) (function_of : ℕ → ℕ) → RunsTied a b (renumbering function_of)
