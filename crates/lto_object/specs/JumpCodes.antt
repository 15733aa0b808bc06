-- The bytes that stand for the kinds of jump functions.
use Rattle.std.specs.Prelude.{ℕ, List, [], ◌∷◌}
use Rattle.gimple_ir.specs.declared.summary.JumpFunction.{JumpFunction}
use Rattle.gimple_ir.specs.declared.summary.JumpFunction.TheVariants as jump
use Rattle.lto_object.specs.declared.jump_codes.JumpKind.{JumpKind}
use Rattle.lto_object.specs.declared.jump_codes.JumpKind.TheVariants as kind

abbrev pub jump_table : List (ℕ × JumpKind)
jump_table =
    (0, kind.Unknown) ∷ (1, kind.Const) ∷ (2, kind.Pass) ∷ (3, kind.Unary) ∷ (4, kind.Convert) ∷ (5, kind.Left)
    ∷ (6, kind.Right) ∷ []

abbrev pub jump_code : JumpKind → ℕ
jump_code kind.Unknown = 0
jump_code kind.Const = 1
jump_code kind.Pass = 2
jump_code kind.Unary = 3
jump_code kind.Convert = 4
jump_code kind.Left = 5
jump_code kind.Right = 6

abbrev pub kind_of : JumpFunction → JumpKind
kind_of jump.Unknown = kind.Unknown
kind_of (jump.Const v) = kind.Const
kind_of (jump.Pass x) = kind.Pass
kind_of (jump.Unary op x) = kind.Unary
kind_of (jump.Convert ty x) = kind.Convert
kind_of (jump.Left op x v) = kind.Left
kind_of (jump.Right op v x) = kind.Right
