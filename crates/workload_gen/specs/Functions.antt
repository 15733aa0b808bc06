-- The functions that are generated. A call names its function by the place in the module's list, which `place` gives for
-- each number.
use Rattle.std.specs.Prelude.{ℕ, ◌*◌, pos, List, [], ◌∷◌, ◌++◌, codes, decimal, Option, Some, None}
use Rattle.std.specs.List.{range_with_len, flat_map}
use Rattle.std.specs.Int.{div_ceil}
use Rattle.gimple_ir.specs.declared.types.ScalarType.{ScalarType}
use Rattle.gimple_ir.specs.declared.types.ScalarType.TheVariants.{Int, UnsignedInt}
use Rattle.gimple_ir.specs.declared.types.VarType.TheVariants as variable
use Rattle.gimple_ir.specs.declared.types.ResultType.TheVariants as returned
use Rattle.gimple_ir.specs.declared.types.Linkage.TheVariants.{Extern, Strong}
use Rattle.gimple_ir.specs.declared.types.BinaryOp.TheVariants.{Xor}
use Rattle.gimple_ir.specs.declared.types.Operand.{Operand}
use Rattle.gimple_ir.specs.declared.types.Operand.TheVariants.{Component, Literal}
use Rattle.gimple_ir.specs.declared.types.Arg.TheVariants.{One}
use Rattle.gimple_ir.specs.declared.types.Variable.{Variable}
use Rattle.gimple_ir.specs.declared.types.Function.{Function}
use Rattle.gimple_ir.specs.declared.types.Statement.{Statement}
use Rattle.gimple_ir.specs.declared.types.Statement.TheVariants.{Return, Copy, Convert, Binary, Call, Putchar}
use Rattle.workload_gen.specs.declared.choices.Choice.{Choice}
use Rattle.workload_gen.specs.declared.choices.Call.{Call as Chosen}
use Rattle.workload_gen.specs.Draws.{draw}
use Rattle.workload_gen.specs.Choices.{unsigned}

abbrev pub scalar : List ℕ → ScalarType → Variable
scalar name ty = record { name = name; ty = variable.Scalar ty; types = ty ∷ [] }

-- `f` and the number
abbrev pub name_of : ℕ → List ℕ
name_of number = codes "f" ++ decimal number

abbrev pub parameters : List Variable
parameters = scalar (codes "a") UnsignedInt ∷ scalar (codes "b") UnsignedInt ∷ []

-- parameters and locals
abbrev pub variables : List Variable
variables =
    scalar (codes "a") UnsignedInt ∷ scalar (codes "b") UnsignedInt ∷ scalar (codes "r") UnsignedInt
    ∷ scalar (codes "s") UnsignedInt ∷ []

abbrev pub main_variables : List Variable
main_variables = scalar (codes "t") UnsignedInt ∷ scalar (codes "u") UnsignedInt ∷ scalar (codes "c") Int ∷ []

-- `to = f (first, second);`
abbrev pub call_to : ℕ → ℕ → Operand → Operand → Statement
call_to function to first second = Call (Some to) function (One first ∷ One second ∷ [])

-- extern unsigned int fI (unsigned int a, unsigned int b);
unfoldable pub declaration : ℕ → Function
declaration number =
    record {
      name = name_of number;
      linkage = Extern;
      result = returned.Scalar UnsignedInt;
      parameters = 2;
      variables = parameters;
      labels = [];
      body = [];
    }

-- c = (int) t; __builtin_putchar (c); return 0;
abbrev pub main_end : List Statement
main_end =
    Convert 2 (Component 0) ∷ Putchar (Component 2) ∷ Return (Literal (record { ty = Int; num = pos 0 })) ∷ []

module _ (place : ℕ → ℕ) where
  -- s = fJ (r, b);
  abbrev pub calls : Option Chosen → List Statement
  calls None = []
  calls (Some call) = call_to (place call.callee) 3 (Component 2) call.argument ∷ []

  -- r = a + 1u; s = b + r; s = fJ (r, b); r = r ^ s; return r;
  abbrev pub body_of : Choice → List Statement
  body_of choice =
      Binary 2 choice.first (Component 0) (unsigned choice.constant)
      ∷ Binary 3 choice.second (Component 1) (Component 2)
      ∷ (calls choice.call ++ Binary 2 Xor (Component 2) (Component 3) ∷ Return (Component 2) ∷ [])

  unfoldable pub definition : ℕ → Choice → Function
  definition number choice =
      record {
        name = name_of number;
        linkage = Strong;
        result = returned.Scalar UnsignedInt;
        parameters = 2;
        variables = variables;
        labels = [];
        body = body_of choice;
      }

  -- u = fI (Iu, 1u); t = t ^ u;
  abbrev pub round : ℕ → ℕ → List Statement
  round number drawn =
      call_to (place number) 1 (unsigned number) (unsigned drawn) ∷ Binary 0 Xor (Component 0) (Component 1) ∷ []

  -- one round for each tenth function, in order, drawn from a state on
  unfoldable pub rounds : ℕ → ℕ → List Statement
  rounds state many = flat_map (λ tenth. round (10 * tenth) (draw state tenth 3)) (range_with_len 0 many)

  -- t = 0u; the rounds; the end
  unfoldable pub main_body : ℕ → ℕ → List Statement
  main_body count state =
      Copy 0 (unsigned 0) ∷ (rounds state (div_ceil count 10) ++ main_end)

  -- `main` over so many functions
  unfoldable pub main_of : ℕ → ℕ → Function
  main_of count state =
      record {
        name = codes "main";
        linkage = Strong;
        result = returned.Scalar Int;
        parameters = 0;
        variables = main_variables;
        labels = [];
        body = main_body count state;
      }
