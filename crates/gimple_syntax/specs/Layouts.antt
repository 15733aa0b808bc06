-- How the components of a function's variables are laid out: those of the first variable first.
use Rattle.std.specs.Prelude.{◌≡◌, ℕ, ◌+◌, List, [], ◌∷◌, length, map, min}
use Rattle.gimple_ir.specs.declared.types.ScalarType.{ScalarType}
use Rattle.gimple_grammar.specs.declared.syntax.Declared.{Declared}
use Rattle.gimple_grammar.specs.declared.syntax.StructText.{StructText}
use Rattle.gimple_syntax.specs.Numbers.{nothing}
use Rattle.gimple_syntax.specs.Places.{Names, types_of}
use Rattle.gimple_syntax.specs.Statements.{component_types}

-- the number of the first component of each variable, after so many components
abbrev pub firsts_from : List StructText → ℕ → List Declared → List ℕ
firsts_from structs count [] = []
firsts_from structs count (d ∷ ds) = min count nothing ∷ firsts_from structs (count + length (types_of structs d.ty)) ds

-- tables for the lookups in a function
pub record IsLaidOut (n : Names) (names : List (List ℕ)) (firsts : List ℕ) (types : List ScalarType) : Type 0 where
  pub numbered : names ≡ map (λ d. d.name) n.variables
  pub begun : firsts ≡ firsts_from n.structs 0 n.variables
  pub typed : types ≡ component_types n
