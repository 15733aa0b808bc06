-- From one state the machine comes to another; and instructions stand at a place of the text.
use Rattle.std.specs.Prelude.{◌≡◌, ℕ, suc, ◌+◌, ◌<◌, List, [], ◌∷◌, Some}
use Rattle.rv64_isa.specs.declared.instr.Instr.{Instr}
use Rattle.rv64_meaning.specs.Machine.{Segments, State, At, EndedWith, fetch, after}

-- these instructions stand one after the other from an address on
abbrev pub StandsAt : Segments → ℕ → List Instr → Type 0
StandsAt m address [] = Unit {0}
StandsAt m address (i ∷ is) = (fetch m address ≡ Some i) × StandsAt m (address + 4) is

-- from s the machine comes to t, in so many steps, or none
pub record Comes (m : Segments) (s t : State) : Type 0 where
  pub steps : ℕ
  pub there : after m steps (At s) ≡ At t

-- the same, with one step at least
pub record Leads (m : Segments) (s t : State) : Type 0 where
  pub steps : ℕ
  pub there : after m (suc steps) (At s) ≡ At t

-- from s the machine comes to some state of which P holds
pub record ComesTo (m : Segments) (s : State) (P : State → Type 0) : Type 0 where
  pub state : State
  pub leads : Leads m s state
  pub holds : P state

-- from s the run ends, with this status and output
pub record EndsWith (m : Segments) (s : State) (status : ℕ) (output : List ℕ) : Type 0 where
  pub steps : ℕ
  pub ends : after m steps (At s) ≡ EndedWith status output

-- What the step of a program from one place to the next asks of the machine: that it makes a step at least, or else that it stays
-- or comes on, and that the count of such steps that may follow falls.
pub data Advances (m : Segments) (s t : State) (rank new_rank : ℕ) : Type 0 where
  Works : Leads m s t → Advances m s t rank new_rank
  Rests : Comes m s t → new_rank < rank → Advances m s t rank new_rank
