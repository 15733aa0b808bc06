-- What the summary of a function asks of it; each function of a checked module meets this.
use Rattle.std.specs.Prelude.{ℕ, ◌≤◌, ◌<◌, ◌^◌, List, length, All}
use Rattle.std.specs.List.{flat_map}
use Rattle.gimple_ir.specs.declared.types.BinaryOp.{BinaryOp}
use Rattle.gimple_ir.specs.declared.types.Operand.{Operand}
use Rattle.gimple_ir.specs.declared.types.Operand.TheVariants.{Component, Literal}
use Rattle.gimple_ir.specs.declared.types.Arg.{Arg}
use Rattle.gimple_ir.specs.declared.types.Arg.TheVariants.{One}
use Rattle.gimple_ir.specs.declared.types.Variable.{Variable}
use Rattle.gimple_ir.specs.declared.types.Function.{Function}
use Rattle.gimple_ir.specs.declared.types.Module.{Module}
use Rattle.gimple_ir.specs.declared.types.Statement.{Statement}
use Rattle.gimple_ir.specs.declared.types.Statement.TheVariants.{Unary, Convert, Binary, Call}
use Rattle.gimple_ir.specs.Values.{IsValue, TypesFit}
use Rattle.gimple_ir.specs.CodeBound.{components_in, code_bound_of}
use Rattle.func_summary.specs.Summaries.{places_of, arrays_in}

-- an operation on literals can be computed
abbrev pub CanUnary : Operand → Type 0
CanUnary (Literal v) = IsValue v
CanUnary (Component x) = Unit {0}

abbrev pub CanBinary : BinaryOp → Operand → Operand → Type 0
CanBinary op (Literal v) (Literal w) = IsValue v × IsValue w × TypesFit op v w
CanBinary op (Literal v) (Component y) = Unit {0}
CanBinary op (Component x) b = Unit {0}

abbrev pub CanCompute : Statement → Type 0
CanCompute (Unary to op a) = CanUnary a
CanCompute (Convert to a) = CanUnary a
CanCompute (Binary to op a b) = CanBinary op a b
CanCompute _ = Unit {0}

-- an argument is a component of the function
abbrev pub IsArgumentIn : List Variable → Arg → Type 0
IsArgumentIn variables (One (Component x)) = x < components_in variables
IsArgumentIn variables _ = Unit {0}

abbrev pub HasArgumentsIn : List Variable → Statement → Type 0
HasArgumentsIn variables (Call to f args) = All (IsArgumentIn variables) args
HasArgumentsIn variables _ = Unit {0}

abbrev pub IsArrayOf : Module → ℕ → Type 0
IsArrayOf m array = array < length m.arrays

pub record IsReady (m : Module) (f : Function) : Type 0 where
  pub components : components_in f.variables ≤ 1024
  pub statements : length f.body ≤ 8192
  pub places : length (places_of f) < 2 ^ 32
  pub bound : code_bound_of f ≤ 524288
  pub computes : All CanCompute f.body
  pub arguments : All (HasArgumentsIn f.variables) f.body
  pub arrays : All (IsArrayOf m) (flat_map arrays_in f.body)
