-- What is known of a function's parameter components under a vector, and what a jump function gives under one.
use Rattle.std.specs.Prelude.{ℕ, List, slice_get, unwrap_or, Option, Some, None}
use Rattle.gimple_ir.specs.Values.{unary_of, binary_of, convert_of}
use Rattle.gimple_ir.specs.declared.types.Value.{Value}
use Rattle.gimple_ir.specs.declared.lattice.Lattice.{Lattice}
use Rattle.gimple_ir.specs.declared.lattice.Lattice.TheVariants.{Top, Const, Bottom}
use Rattle.gimple_ir.specs.declared.summary.JumpFunction.{JumpFunction}
use Rattle.gimple_ir.specs.declared.summary.JumpFunction.TheVariants as jump

abbrev pub lattice_at : List Lattice → ℕ → Lattice
lattice_at vector i = unwrap_or (slice_get vector i) Bottom

-- the result of an operation, which may be undefined
abbrev pub of_result : Option Value → Lattice
of_result None = Bottom
of_result (Some v) = Const v

abbrev pub lifted : (Value → Option Value) → Lattice → Lattice
lifted op Top = Top
lifted op (Const v) = of_result (op v)
lifted op Bottom = Bottom

-- over the caller's vector
abbrev pub jump_under : JumpFunction → List Lattice → Lattice
jump_under jump.Unknown vector = Bottom
jump_under (jump.Const v) vector = Const v
jump_under (jump.Pass i) vector = lattice_at vector i
jump_under (jump.Unary op i) vector = lifted (unary_of op) (lattice_at vector i)
jump_under (jump.Convert ty i) vector = lifted (λ a. Some (convert_of ty a)) (lattice_at vector i)
jump_under (jump.Left op i x) vector = lifted (λ a. binary_of op a x) (lattice_at vector i)
jump_under (jump.Right op x i) vector = lifted (λ a. binary_of op x a) (lattice_at vector i)
