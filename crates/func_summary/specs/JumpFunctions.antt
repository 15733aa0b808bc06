-- Jump functions: what an argument component of a call is, said over the values that the caller's parameter components
-- had at its entry. Here the assignments to a component are looked up in the list of all of them; the code makes one
-- table of the components.
use Rattle.std.specs.Prelude.{ℕ, ◌+◌, List, [], ◌∷◌, length, map, take, slice_get, Bool, ◌&&◌, if◌then◌else◌, nat_eq, nat_lt, Option, Some, None}
use Rattle.std.specs.List.{filter, flat_map, range_with_len}
use Rattle.gimple_ir.specs.declared.types.ScalarType.{ScalarType}
use Rattle.gimple_ir.specs.declared.types.Value.{Value}
use Rattle.gimple_ir.specs.declared.types.UnaryOp.{UnaryOp}
use Rattle.gimple_ir.specs.declared.types.BinaryOp.{BinaryOp}
use Rattle.gimple_ir.specs.declared.types.Operand.{Operand}
use Rattle.gimple_ir.specs.declared.types.Operand.TheVariants.{Component, Literal}
use Rattle.gimple_ir.specs.declared.types.Variable.{Variable}
use Rattle.gimple_ir.specs.declared.types.Function.{Function}
use Rattle.gimple_ir.specs.declared.types.Statement.{Statement}
use Rattle.gimple_ir.specs.declared.types.Statement.TheVariants.{Copy, Unary, Convert, Binary, Load, CopyStruct, Call, Getchar}
use Rattle.gimple_ir.specs.declared.summary.JumpFunction.{JumpFunction}
use Rattle.gimple_ir.specs.declared.summary.JumpFunction.TheVariants as jump
use Rattle.gimple_ir.specs.Values.{unary_of, binary_of, convert_of}
use Rattle.gimple_ir.specs.CodeBound.{components_in, components_of, parameter_components}
use Rattle.gimple_ir.specs.Statements.{component_types}
use Rattle.func_summary.specs.declared.assignments.Assignment.{Assignment}

-- ---- components

-- the component of a field of a variable: those of the variables before it come first
abbrev pub field_of : List Variable → ℕ → ℕ → ℕ
field_of variables v field = components_in (take v variables) + field

abbrev pub is_parameter : Function → ℕ → Bool
is_parameter f x = nat_lt x (parameter_components f)

-- ---- what one assignment gives, over the components that it reads

abbrev pub copied : Operand → JumpFunction
copied (Component x) = jump.Pass x
copied (Literal v) = jump.Const v

-- an operation on literals, which may be undefined
abbrev pub computed : Option Value → JumpFunction
computed None = jump.Unknown
computed (Some v) = jump.Const v

abbrev pub unary_jump : UnaryOp → Operand → JumpFunction
unary_jump op (Component x) = jump.Unary op x
unary_jump op (Literal v) = computed (unary_of op v)

-- the type is that of the target
abbrev pub convert_jump : Option ScalarType → Operand → JumpFunction
convert_jump None a = jump.Unknown
convert_jump (Some ty) (Component x) = jump.Convert ty x
convert_jump (Some ty) (Literal v) = jump.Const (convert_of ty v)

abbrev pub binary_jump : BinaryOp → Operand → Operand → JumpFunction
binary_jump op (Component x) (Component y) = jump.Unknown
binary_jump op (Component x) (Literal v) = jump.Left op x v
binary_jump op (Literal v) (Component x) = jump.Right op v x
binary_jump op (Literal v) (Literal w) = computed (binary_of op v w)

abbrev pub assigns : ℕ → JumpFunction → Assignment
assigns to value = record { to = to; value = value }

-- a copy of each field
abbrev pub copy_of_field : List Variable → ℕ → ℕ → ℕ → Assignment
copy_of_field variables to from field = assigns (field_of variables to field) (jump.Pass (field_of variables from field))

-- what is read or returned is known at no call
abbrev pub stored : Option ℕ → List Assignment
stored None = []
stored (Some to) = assigns to jump.Unknown ∷ []

-- the components that the statement assigns, each with what it is given
abbrev pub assignments_in : Function → Statement → List Assignment
assignments_in f (Copy to a) = assigns to (copied a) ∷ []
assignments_in f (Unary to op a) = assigns to (unary_jump op a) ∷ []
assignments_in f (Convert to a) = assigns to (convert_jump (slice_get (component_types f.variables) to) a) ∷ []
assignments_in f (Binary to op a b) = assigns to (binary_jump op a b) ∷ []
assignments_in f (Load to array a) = stored (Some to)
assignments_in f (CopyStruct to from) =
    map (copy_of_field f.variables to from) (range_with_len 0 (components_of f.variables from))
assignments_in f (Call to g args) = stored to
assignments_in f (Getchar to) = stored to
assignments_in f _ = []

-- ---- what a component is at a call

-- those of the assignments that assign the component
abbrev pub assignments_to : ℕ → List Assignment → List Assignment
assignments_to x assignments = filter (λ a. nat_eq a.to x) assignments

-- the assignments of the whole function, in order
abbrev pub assignments_of : Function → List Assignment
assignments_of f = flat_map (assignments_in f) f.body

-- a parameter component that no statement assigns
abbrev pub keeps_entry : Function → ℕ → Bool
keeps_entry f x = is_parameter f x && nat_eq (length (assignments_to x (assignments_of f))) 0

-- known only if it reads nothing but a component with its entry value
abbrev pub over_entry : Function → JumpFunction → JumpFunction
over_entry f jump.Unknown = jump.Unknown
over_entry f (jump.Const v) = jump.Const v
over_entry f (jump.Pass x) = if keeps_entry f x then jump.Pass x else jump.Unknown
over_entry f (jump.Unary op x) = if keeps_entry f x then jump.Unary op x else jump.Unknown
over_entry f (jump.Convert ty x) = if keeps_entry f x then jump.Convert ty x else jump.Unknown
over_entry f (jump.Left op x v) = if keeps_entry f x then jump.Left op x v else jump.Unknown
over_entry f (jump.Right op v x) = if keeps_entry f x then jump.Right op v x else jump.Unknown

-- what a component is given that exactly one statement assigns
abbrev pub sole_value : List Assignment → JumpFunction
sole_value [] = jump.Unknown
sole_value (a ∷ []) = a.value
sole_value (a ∷ b ∷ more) = jump.Unknown

-- a parameter component is its own entry value, another one what its sole assignment gives
abbrev pub component_jump : Function → ℕ → JumpFunction
component_jump f x =
    over_entry f (if is_parameter f x then jump.Pass x else sole_value (assignments_to x (assignments_of f)))

-- the jump function of an operand
abbrev pub jump_of : Function → Operand → JumpFunction
jump_of f (Literal v) = jump.Const v
jump_of f (Component x) = component_jump f x
