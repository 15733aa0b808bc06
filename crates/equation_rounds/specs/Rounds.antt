-- The value of a system of equations, by whole rounds from top. The code keeps a worklist; here each round applies
-- every equation to the values of the round before.
use Rattle.std.specs.Prelude.{ℕ, zero, suc, ◌+◌, ◌*◌, List, [], ◌∷◌, replicate}
use Rattle.equation_rounds.specs.Systems.{Equations, IsAssignment, AllBelow, IsBelowEquations}

module _ {V : Type 0} (e : Equations V) where
  -- each unknown takes the meet of its value and what its equation gives of the values before
  unfoldable pub round_from : List V → ℕ → List V → List V
  round_from now u [] = []
  round_from now u (a ∷ rest) = e.meet a (e.apply u now) ∷ round_from now (suc u) rest

  unfoldable pub one_round : List V → List V
  one_round now = round_from now 0 now

  -- the values after so many rounds from top
  unfoldable pub after_rounds : ℕ → List V
  after_rounds zero = replicate e.unknowns e.top
  after_rounds (suc n) = one_round (after_rounds n)

  -- more rounds than there can be falls, so that the last one changes nothing
  unfoldable pub rounds_of : List V
  rounds_of = after_rounds (e.unknowns * e.height + 1)

  -- each assignment whose values are below what their equations give is below this one
  abbrev pub IsAboveAll : List V → Type 0
  IsAboveAll greatest = (v : List V) → IsAssignment e v → IsBelowEquations e v → AllBelow e v greatest
