-- Systems of Booleans, with true as top and "and" as meet: unknown 0 is false, and each other one is the "and" of the
-- unknowns that it reads.
use Rattle.std.specs.Prelude.{ℕ, zero, suc, ◌+◌, ◌-◌, ◌*◌, ◌/◌, Bool, true, false, ◌&&◌, cond, nat_eq, nat_le, List, [], ◌∷◌}
use Rattle.std.specs.List.{slice_index_or, list_all}
use Rattle.bench.specs.declared.solver.booleans.Shape.{Shape}
use Rattle.bench.specs.declared.solver.booleans.Shape.TheVariants.{Chain, Tree, Dense}
use Rattle.equation_rounds.specs.Systems.{Equations}

-- what an unknown other than 0 reads: the one before it, its parent in a binary tree, or all
abbrev pub read_of : Shape → ℕ → List Bool → Bool
read_of Chain u now = slice_index_or now (u - 1) true
read_of Tree u now = slice_index_or now ((u - 1) / 2) true
read_of Dense u now = list_all (λ value. value) now

abbrev pub value_of : Shape → ℕ → List Bool → Bool
value_of shape u now = cond (nat_eq u 0) false (read_of shape u now)

abbrev pub boolean_equations : Shape → ℕ → Equations Bool
boolean_equations shape n = record { unknowns = n; height = 1; counts = λ _. true; top = true; meet = λ a b. a && b; apply = value_of shape }

-- the readers of an unknown are consecutive: where they begin, how many there are at most, and how many are unknowns
abbrev pub first_of : Shape → ℕ → ℕ
first_of Chain u = u + 1
first_of Tree u = 2 * u + 1
first_of Dense u = 0

abbrev pub width_of : Shape → ℕ → ℕ
width_of Chain n = 1
width_of Tree n = 2
width_of Dense n = n

abbrev pub count_of : ℕ → ℕ → ℕ → ℕ
count_of first width n = cond (nat_le (first + width) n) width (n - first)

-- so many numbers from the first on
abbrev pub numbers_from : ℕ → ℕ → List ℕ
numbers_from first zero = []
numbers_from first (suc n) = first ∷ numbers_from (suc first) n

abbrev pub boolean_readers : Shape → ℕ → ℕ → List ℕ
boolean_readers shape n u = numbers_from (first_of shape u) (count_of (first_of shape u) (width_of shape n) n)
