-- The code bound of a function, in bytes: no version of it has longer code. Its operands are counted: each one that is
-- read, each component of a struct variable that is passed or copied, and each case value.
use Rattle.std.specs.Prelude.{ℕ, ◌+◌, ◌*◌, List, length, slice_get, sum_by, take}
use Rattle.std.specs.Option.{option_map_or}
use Rattle.gimple_ir.specs.declared.types.Variable.{Variable}
use Rattle.gimple_ir.specs.declared.types.Function.{Function}
use Rattle.gimple_ir.specs.declared.types.Arg.{Arg}
use Rattle.gimple_ir.specs.declared.types.Arg.TheVariants.{One, Whole}
use Rattle.gimple_ir.specs.declared.types.Statement.{Statement}
use Rattle.gimple_ir.specs.declared.types.Statement.TheVariants.{Nop, Label, Goto, Cond, Switch, ReturnVoid, Return, Copy, Unary, Convert, Binary, Load, Store, CopyStruct, Call, Putchar, Getchar, Exit}

-- a scalar variable has one component, a struct variable one for each field
abbrev pub components_in : List Variable → ℕ
components_in variables = sum_by (λ v. length v.types) variables

abbrev pub components_of : List Variable → ℕ → ℕ
components_of variables v = option_map_or (λ w. length w.types) (slice_get variables v) 0

abbrev pub parameter_components : Function → ℕ
parameter_components f = components_in (take f.parameters f.variables)

abbrev pub argument_operands : List Variable → Arg → ℕ
argument_operands variables (One a) = 1
argument_operands variables (Whole v) = components_of variables v

abbrev pub operands_in : List Variable → Statement → ℕ
operands_in variables Nop = 0
operands_in variables (Label l) = 0
operands_in variables (Goto l) = 0
operands_in variables (Cond op a b met missed) = 2
operands_in variables (Switch a cases otherwise) = 1 + length cases
operands_in variables ReturnVoid = 0
operands_in variables (Return a) = 1
operands_in variables (Copy to a) = 1
operands_in variables (Unary to op a) = 1
operands_in variables (Convert to a) = 1
operands_in variables (Binary to op a b) = 2
operands_in variables (Load to array a) = 1
operands_in variables (Store array a b) = 2
operands_in variables (CopyStruct to from) = components_of variables from
operands_in variables (Call to f args) = sum_by (argument_operands variables) args
operands_in variables (Putchar a) = 1
operands_in variables (Getchar to) = 0
operands_in variables (Exit a) = 1

abbrev pub code_bound_of : Function → ℕ
code_bound_of f =
    4 * (6 + 11 * parameter_components f + sum_by (λ s. 7 + 11 * operands_in f.variables s) f.body)
