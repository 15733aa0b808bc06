-- The definitions on small programs, by computation alone.
use Rattle.std.proofs.Common.{◌≡◌, ℕ, ℤ, pos, refl, List, [], ◌∷◌, Some}
use Rattle.gimple_ir.specs.declared.types.ScalarType.TheVariants.{Int}
use Rattle.gimple_ir.specs.declared.types.VarType.TheVariants as variable
use Rattle.gimple_ir.specs.declared.types.ResultType.TheVariants as returned
use Rattle.gimple_ir.specs.declared.types.Linkage.TheVariants.{Strong}
use Rattle.gimple_ir.specs.declared.types.BinaryOp.TheVariants.{Add, Sub, Le}
use Rattle.gimple_ir.specs.declared.types.Operand.{Operand}
use Rattle.gimple_ir.specs.declared.types.Operand.TheVariants.{Component, Literal}
use Rattle.gimple_ir.specs.declared.types.Arg.TheVariants.{One}
use Rattle.gimple_ir.specs.declared.types.Variable.{Variable}
use Rattle.gimple_ir.specs.declared.types.Function.{Function}
use Rattle.gimple_ir.specs.declared.types.Program.{Program}
use Rattle.gimple_ir.specs.declared.types.Statement.{Statement}
use Rattle.gimple_ir.specs.declared.types.Statement.TheVariants.{Label, Goto, Cond, Return, Binary, Call, Putchar, Getchar}
use Rattle.gimple_meaning.specs.declared.outcome.Outcome.TheVariants as outcome
use Rattle.gimple_meaning.specs.Run.{src, outcome_of, output_of}

abbrev int : ℤ → Operand
int z = Literal (record { ty = Int; num = z })

abbrev local : Variable
local = record { name = 120 ∷ []; ty = variable.Scalar Int; types = Int ∷ [] }

abbrev function : ℕ → List Variable → List Statement → Function
function parameters variables body = record { name = 102 ∷ []; linkage = Strong; result = returned.Scalar Int; parameters = parameters; variables = variables; labels = []; body = body }

abbrev program : List Function → Program
program functions = record { arrays = []; functions = functions; main = 0 }

-- int main () { __builtin_putchar (72); __builtin_putchar (105); return 7; }
abbrev hi : Program
hi = program (function 0 [] (Putchar (int (pos 72)) ∷ Putchar (int (pos 105)) ∷ Return (int (pos 7)) ∷ []) ∷ [])

hi_runs : outcome_of (src hi [] 2) ≡ outcome.Running
hi_runs = refl

hi_ends : outcome_of (src hi [] 3) ≡ outcome.Ended 7
hi_ends = refl

hi_prints : output_of (src hi [] 9) ≡ 72 ∷ 105 ∷ []
hi_prints = refl

-- L: goto L;
turns : outcome_of (src (program (function 0 [] (Label 0 ∷ Goto 0 ∷ []) ∷ [])) [] 99) ≡ outcome.Running
turns = refl

-- x = 2147483647 + 1;
overflows : outcome_of (src (program (function 0 (local ∷ []) (Binary 0 Add (int (pos 2147483647)) (int (pos 1)) ∷ []) ∷ [])) [] 1) ≡ outcome.Undefined 0 0
overflows = refl

-- x = __builtin_getchar (); x = __builtin_getchar (); return x;
reads : outcome_of (src (program (function 0 (local ∷ []) (Getchar (Some 0) ∷ Getchar (Some 0) ∷ Return (Component 0) ∷ []) ∷ [])) (9 ∷ []) 3) ≡ outcome.Ended 255
reads = refl

-- f (n) calls f (n - 1) down to 0 and gives 1 more than it
abbrev down : Function
down = function 1 (local ∷ local ∷ []) (
    Cond Le (Component 0) (int (pos 0)) 0 1
    ∷ Label 1
    ∷ Binary 1 Sub (Component 0) (int (pos 1))
    ∷ Call (Some 1) 1 (One (Component 1) ∷ [])
    ∷ Binary 1 Add (Component 1) (int (pos 1))
    ∷ Return (Component 1)
    ∷ Label 0
    ∷ Return (int (pos 0))
    ∷ [])

abbrev calls_down : ℤ → Program
calls_down n = program (function 0 (local ∷ []) (Call (Some 0) 1 (One (int n) ∷ []) ∷ Return (Component 0) ∷ []) ∷ down ∷ [])

descends : outcome_of (src (calls_down (pos 5)) [] 50) ≡ outcome.Ended 5
descends = refl
