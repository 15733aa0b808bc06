-- Laws of the runs of any system, for what is proved over them: runs in parts, ends that stay, output that only grows.
use Rattle.std.specs.Prelude.{◌≡◌, ℕ, ◌+◌, List, ◌++◌}
use Rattle.gimple_meaning.specs.Systems.{System, State, Running, Ended, Undefined}
use Rattle.gimple_meaning.specs.Run.{run, output_of}

-- a run of n + k steps is one of n and then one of k
abbrev pub RunsInParts : Type 0
RunsInParts = (system : System) (first : State) (n k : ℕ) → run system first (n + k) ≡ run system (run system first n) k

-- a run that is over stays so
abbrev pub IsOver : State → Type 0
IsOver (Running m) = ⊥
IsOver (Ended m status) = Unit {0}
IsOver (Undefined m function place) = Unit {0}

abbrev pub StaysOver : Type 0
StaysOver =
    (system : System) (first : State) (n k : ℕ) → IsOver (run system first n) → run system first (n + k) ≡ run system first n

-- what was written stays written
abbrev pub Grows : List ℕ → List ℕ → Type 0
Grows before now = (more : List ℕ) × (now ≡ before ++ more)

abbrev pub OutputGrows : Type 0
OutputGrows =
    (system : System) (first : State) (n k : ℕ) → Grows (output_of (run system first n)) (output_of (run system first (n + k)))
