-- What is checked of a statement: that its names are known, its arguments as many as the parameters, its types alike,
-- that it negates no literal, and that case values ascend. The first that fails names the fault.
use Rattle.std.specs.Prelude.{ℕ, ℤ, List, [], ◌∷◌, length, map, slice_get, Bool, true, false, not, ◌&&◌, if◌then◌else◌, nat_eq, nat_lt, int_lt, Option, Some, None}
use Rattle.std.specs.List.{list_all, flat_map, zip}
use Rattle.std.specs.Option.{option_map_or, option_map, option_and_then}
use Rattle.std.specs.Cmp.Lexicographic.{pointwise}
use Rattle.gimple_ir.specs.declared.types.ScalarType.{ScalarType}
use Rattle.gimple_ir.specs.declared.types.ScalarType.TheVariants.{Int}
use Rattle.gimple_ir.specs.declared.types.ElementType.{ElementType}
use Rattle.gimple_ir.specs.declared.types.ElementType.TheVariants as element
use Rattle.gimple_ir.specs.declared.types.VarType.{VarType}
use Rattle.gimple_ir.specs.declared.types.VarType.TheVariants as variable
use Rattle.gimple_ir.specs.declared.types.ResultType.{ResultType}
use Rattle.gimple_ir.specs.declared.types.ResultType.TheVariants as returned
use Rattle.gimple_ir.specs.declared.types.UnaryOp.TheVariants.{Neg}
use Rattle.gimple_ir.specs.declared.types.BinaryOp.{BinaryOp}
use Rattle.gimple_ir.specs.declared.types.BinaryOp.TheVariants.{Shl, Shr, Eq, Ne, Lt, Le, Gt, Ge}
use Rattle.gimple_ir.specs.declared.types.Operand.{Operand}
use Rattle.gimple_ir.specs.declared.types.Operand.TheVariants.{Component, Literal}
use Rattle.gimple_ir.specs.declared.types.Arg.{Arg}
use Rattle.gimple_ir.specs.declared.types.Arg.TheVariants.{One, Whole}
use Rattle.gimple_ir.specs.declared.types.Array.{Array}
use Rattle.gimple_ir.specs.declared.types.Variable.{Variable}
use Rattle.gimple_ir.specs.declared.types.Function.{Function}
use Rattle.gimple_ir.specs.declared.types.Statement.{Statement}
use Rattle.gimple_ir.specs.declared.types.Statement.TheVariants.{Nop, Label, Goto, Cond, Switch, ReturnVoid, Return, Copy, Unary, Convert, Binary, Load, Store, CopyStruct, Call, Putchar, Getchar, Exit}
use Rattle.gimple_ir.specs.declared.fault.TypeKind.{TypeKind}
use Rattle.gimple_ir.specs.declared.fault.TypeKind.TheVariants.{UnknownName, WrongCount, WrongType, NegLiteral, BadCase}
use Rattle.gimple_ir.specs.Lattices.{same_type}
use Rattle.gimple_ir.specs.Names.{is_builtin}

-- how structs are told apart: by their numbers in one module, by their components' types in a whole program, which has
-- no structs left
pub data Structs : Type 0 where
  ByNumber : Structs
  ByTypes : Structs

-- what a statement of the function may name
pub record Scope : Type 0 where
  pub structs : Structs
  pub arrays : List Array
  pub functions : List Function
  pub function : Function

-- ---- names

-- the type of each component: those of the first variable first
abbrev pub component_types : List Variable → List ScalarType
component_types variables = flat_map (λ v. v.types) variables

abbrev pub knows_component : Scope → ℕ → Bool
knows_component s x = nat_lt x (length (component_types s.function.variables))

abbrev pub knows_operand : Scope → Operand → Bool
knows_operand s (Component x) = knows_component s x
knows_operand s (Literal value) = true

abbrev pub knows_variable : Scope → ℕ → Bool
knows_variable s v = nat_lt v (length s.function.variables)

abbrev pub knows_argument : Scope → Arg → Bool
knows_argument s (One a) = knows_operand s a
knows_argument s (Whole v) = knows_variable s v

abbrev pub knows_target : Scope → Option ℕ → Bool
knows_target s None = true
knows_target s (Some x) = knows_component s x

abbrev pub knows_array : Scope → ℕ → Bool
knows_array s array = nat_lt array (length s.arrays)

abbrev pub knows_function : Scope → ℕ → Bool
knows_function s f = nat_lt f (length s.functions)

-- no label is called as a builtin function; that it stands is looked for before
abbrev pub knows_label : Scope → ℕ → Bool
knows_label s l = not (option_map_or is_builtin (slice_get s.function.labels l) false)

-- each name in the statement is one of something of the sort that its place asks for
abbrev pub knows : Scope → Statement → Bool
knows s Nop = true
knows s (Label l) = knows_label s l
knows s (Goto l) = knows_label s l
knows s (Cond op a b met missed) = knows_operand s a && knows_operand s b && knows_label s met && knows_label s missed
knows s (Switch a cases otherwise) =
    knows_operand s a && knows_label s otherwise && list_all (λ c. knows_label s c.label) cases
knows s ReturnVoid = true
knows s (Return a) = knows_operand s a
knows s (Copy to a) = knows_component s to && knows_operand s a
knows s (Unary to op a) = knows_component s to && knows_operand s a
knows s (Convert to a) = knows_component s to && knows_operand s a
knows s (Binary to op a b) = knows_component s to && knows_operand s a && knows_operand s b
knows s (Load to array a) = knows_component s to && knows_array s array && knows_operand s a
knows s (Store array a b) = knows_array s array && knows_operand s a && knows_operand s b
knows s (CopyStruct to from) = knows_variable s to && knows_variable s from
knows s (Call to f args) = knows_target s to && knows_function s f && list_all (knows_argument s) args
knows s (Putchar a) = knows_operand s a
knows s (Getchar to) = knows_target s to
knows s (Exit a) = knows_operand s a

-- ---- the number of arguments

-- as many arguments as the called function has parameters
abbrev pub counts_arguments : Scope → Statement → Bool
counts_arguments s (Call to f args) =
    option_map_or (λ called. nat_eq (length args) called.parameters) (slice_get s.functions f) true
counts_arguments s _ = true

-- ---- types

abbrev pub type_of_component : Scope → ℕ → Option ScalarType
type_of_component s x = slice_get (component_types s.function.variables) x

abbrev pub type_of : Scope → Operand → Option ScalarType
type_of s (Component x) = type_of_component s x
type_of s (Literal value) = Some value.ty

-- the type that an array's elements are read as
abbrev pub read_type : ElementType → ScalarType
read_type (element.Scalar ty) = ty
read_type element.UnsignedChar = Int

abbrev pub type_of_element : Scope → ℕ → Option ScalarType
type_of_element s array = option_map (λ a. read_type a.element) (slice_get s.arrays array)

abbrev pub type_of_result : ResultType → Option ScalarType
type_of_result returned.Void = None
type_of_result (returned.Scalar ty) = Some ty

abbrev pub type_of_call : Scope → ℕ → Option ScalarType
type_of_call s f = option_and_then (λ called. type_of_result called.result) (slice_get s.functions f)

-- two things with types, and of one type
abbrev pub alike : Option ScalarType → Option ScalarType → Bool
alike (Some a) (Some b) = same_type a b
alike (Some a) None = false
alike None b = false

abbrev pub is_comparison : BinaryOp → Bool
is_comparison Eq = true
is_comparison Ne = true
is_comparison Lt = true
is_comparison Le = true
is_comparison Gt = true
is_comparison Ge = true
is_comparison _ = false

abbrev pub is_shift : BinaryOp → Bool
is_shift Shl = true
is_shift Shr = true
is_shift _ = false

-- a comparison gives `int`, a shift takes any count, and else all three types are alike
abbrev pub binary_fits : BinaryOp → Option ScalarType → Option ScalarType → Option ScalarType → Bool
binary_fits op to a b =
    if is_comparison op then alike to (Some Int) && alike a b
    else (if is_shift op then alike to a else alike to a && alike to b)

abbrev pub is_struct : VarType → Bool
is_struct (variable.Scalar ty) = false
is_struct (variable.Struct n) = true

-- struct types of one number
abbrev pub same_struct : VarType → VarType → Bool
same_struct (variable.Struct m) (variable.Struct n) = nat_eq m n
same_struct (variable.Struct m) (variable.Scalar ty) = false
same_struct (variable.Scalar ty) _ = false

abbrev pub is_of_type : VarType → Option ScalarType → Bool
is_of_type (variable.Scalar ty) found = alike (Some ty) found
is_of_type (variable.Struct n) found = false

-- both are struct variables, and of one struct
abbrev pub structs_fit : Structs → Variable → Variable → Bool
structs_fit ByNumber v w = same_struct v.ty w.ty
structs_fit ByTypes v w = is_struct v.ty && is_struct w.ty && pointwise same_type v.types w.types

abbrev pub copies_struct : Scope → ℕ → ℕ → Bool
copies_struct s v w =
    option_map_or (λ x. option_map_or (structs_fit s.structs x) (slice_get s.function.variables w) false)
    (slice_get s.function.variables v) false

-- one operand, for a parameter of its type
abbrev pub operand_fits : Structs → Option ScalarType → Variable → Bool
operand_fits ByNumber found parameter = is_of_type parameter.ty found
operand_fits ByTypes found parameter = option_map_or (λ ty. pointwise same_type (ty ∷ []) parameter.types) found false

-- a struct variable, for a parameter of its struct
abbrev pub whole_fits : Structs → Variable → Variable → Bool
whole_fits ByNumber v parameter = same_struct v.ty parameter.ty
whole_fits ByTypes v parameter = is_struct v.ty && pointwise same_type v.types parameter.types

abbrev pub argument_fits : Scope → Arg → Variable → Bool
argument_fits s (One a) parameter = operand_fits s.structs (type_of s a) parameter
argument_fits s (Whole v) parameter =
    option_map_or (λ w. whole_fits s.structs w parameter) (slice_get s.function.variables v) false

-- each argument fits the parameter at its place
abbrev pub arguments_fit : Scope → ℕ → List Arg → Bool
arguments_fit s f args =
    option_map_or (λ called. list_all (λ pair. argument_fits s pair.0 pair.1) (zip args called.variables))
    (slice_get s.functions f) false

-- a result that is stored has the type of its component
abbrev pub result_fits : Scope → Option ℕ → Option ScalarType → Bool
result_fits s None result = true
result_fits s (Some x) result = alike (type_of_component s x) result

abbrev pub is_void : ResultType → Bool
is_void returned.Void = true
is_void (returned.Scalar ty) = false

abbrev pub types_fit : Scope → Statement → Bool
types_fit s Nop = true
types_fit s (Label l) = true
types_fit s (Goto l) = true
types_fit s (Cond op a b met missed) = is_comparison op && alike (type_of s a) (type_of s b)
types_fit s (Switch a cases otherwise) = list_all (λ c. alike (type_of s a) (Some c.value.ty)) cases
types_fit s ReturnVoid = is_void s.function.result
types_fit s (Return a) = alike (type_of_result s.function.result) (type_of s a)
types_fit s (Copy to a) = alike (type_of_component s to) (type_of s a)
types_fit s (Unary to op a) = alike (type_of_component s to) (type_of s a)
types_fit s (Convert to a) = true
types_fit s (Binary to op a b) = binary_fits op (type_of_component s to) (type_of s a) (type_of s b)
types_fit s (Load to array a) = alike (type_of_component s to) (type_of_element s array)
types_fit s (Store array a b) = alike (type_of_element s array) (type_of s b)
types_fit s (CopyStruct to from) = copies_struct s to from
types_fit s (Call to f args) = arguments_fit s f args && result_fits s to (type_of_call s f)
types_fit s (Putchar a) = alike (Some Int) (type_of s a)
types_fit s (Getchar to) = result_fits s to (Some Int)
types_fit s (Exit a) = alike (Some Int) (type_of s a)

-- ---- literals and cases

abbrev pub is_literal : Operand → Bool
is_literal (Component x) = false
is_literal (Literal value) = true

abbrev pub negates_literal : Statement → Bool
negates_literal (Unary to Neg a) = is_literal a
negates_literal _ = false

abbrev pub ascends_above : ℤ → List ℤ → Bool
ascends_above z [] = true
ascends_above z (y ∷ ys) = int_lt z y && ascends_above y ys

-- each number is above the one before it
abbrev pub ascends : List ℤ → Bool
ascends [] = true
ascends (z ∷ zs) = ascends_above z zs

abbrev pub cases_ascend : Statement → Bool
cases_ascend (Switch a cases otherwise) = ascends (map (λ c. c.value.num) cases)
cases_ascend _ = true

-- ---- the first that fails

-- the kind beside the first test that is false
abbrev pub first_failed : List (Bool × TypeKind) → Option TypeKind
first_failed [] = None
first_failed (check ∷ checks) = if check.0 then first_failed checks else Some check.1

abbrev pub statement_kind : Scope → Statement → Option TypeKind
statement_kind s st = first_failed (
    (knows s st, UnknownName)
    ∷ (counts_arguments s st, WrongCount)
    ∷ (types_fit s st, WrongType)
    ∷ (not (negates_literal st), NegLiteral)
    ∷ (cases_ascend st, BadCase)
    ∷ [])
