-- The start of an image's run, and that it follows its program.
use Rattle.std.specs.Prelude.{◌≡◌, ℕ, List, [], slice_get, Some}
use Rattle.gimple_ir.specs.declared.versioned.VersionedFunction.{VersionedFunction}
use Rattle.gimple_meaning.specs.Systems.{first_arrays}
use Rattle.rv64_meaning.specs.Machine.{Segments, State, exec}
use Rattle.final_link.specs.Stubs.{start_address, start_stub}
use Rattle.gimple_meaning.specs.Shown.{shown_of, RunFollows}
use Rattle.follow_laws.specs.Follows.{shown_by, AreBytes}
use Rattle.follow_laws.specs.Relation.{StandsAt}
use Rattle.gimple_meaning.specs.Linked.{LinkedProgram, linked_run}
use Rattle.gimple_meaning.specs.Typed.{ProgramTyped}
use Rattle.follow_laws.specs.Layouts.{Layout, IsPlaced, top}
use Rattle.follow_laws.specs.Related.{ArraysHeld}

-- the machine is at the start stub, with the arrays' first numbers and an input, and has written nothing
pub record AtStart (m : Segments) (l : Layout) (p : LinkedProgram) (input : List ℕ) (s : State) : Type 0 where
  pub main : VersionedFunction
  pub known : slice_get p.functions p.main ≡ Some main
  pub stub : StandsAt m start_address (start_stub (top l) (l.address main.symbol))
  pub place : s.pc ≡ start_address
  pub arrays : ArraysHeld l p s.mem (first_arrays p.arrays)
  pub input_left : s.input ≡ input
  pub input_bytes : AreBytes input
  pub written : s.output ≡ []

-- from its start the machine follows the program
abbrev pub MachineFollows : Type 0
MachineFollows =
    (m : Segments) (l : Layout) (p : LinkedProgram) → IsPlaced m l p → ProgramTyped p → (input : List ℕ) (s : State) → AtStart m l p input s
    → RunFollows (λ k. shown_by (exec m k s)) (λ n. shown_of (linked_run p input n))
