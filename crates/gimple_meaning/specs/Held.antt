-- What the interpreter keeps of its parts: values in their types' ranges.
use Rattle.std.specs.Prelude.{◌+◌, ◌^◌, ◌<◌, ℤ, List, All, Option, IfSome}
use Rattle.std.specs.List.{AllZip}
use Rattle.gimple_ir.specs.Values.{IsValue}
use Rattle.gimple_ir.specs.Programs.{IsElement, HasValues}
use Rattle.gimple_ir.specs.declared.types.Array.{Array}
use Rattle.gimple_ir.specs.declared.types.Function.{Function}
use Rattle.gimple_ir.specs.declared.types.Value.{Value}
use Rattle.gimple_meaning.specs.Systems.{Frame}

-- a component that is unset or holds a number of its type
abbrev pub IsCell : Option Value → Type 0
IsCell component = IfSome component IsValue

-- an array holds numbers of its elements' type
abbrev pub IsNumbersOf : Array → List ℤ → Type 0
IsNumbersOf array numbers = All (IsElement array.element) numbers

abbrev pub AreElements : List Array → List (List ℤ) → Type 0
AreElements declared numbers = AllZip IsNumbersOf declared numbers

-- the initial values of an array, and the literals and case values of a function, are in range
abbrev pub HasInitial : Array → Type 0
HasInitial array = IsNumbersOf array array.initial

abbrev pub HasLiterals : Function → Type 0
HasLiterals f = All HasValues f.body

-- the arrays of a program, and the numbers in them
pub record Storage : Type 0 where
  pub declared : List Array
  pub numbers : List (List ℤ)

-- the place behind the frame's has a number
abbrev pub HasNext : Frame → Type 0
HasNext frame = frame.place + 1 < 2 ^ 32
