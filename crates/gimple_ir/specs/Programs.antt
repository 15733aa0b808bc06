-- Well formed modules and whole programs: what is asked of a module before it is checked, a module that is checked, and a
-- program, which has definitions alone and no structs.
use Rattle.std.specs.Prelude.{ℕ, ◌+◌, ◌-◌, ◌^◌, ◌<◌, ◌≤◌, ◌≡◌, ◌≢◌, ℤ, pos, ◌≤ℤ◌, List, [], ◌∷◌, length, map, slice_get, All, true, false, None, MatchOption, IfSome, IsSomeAnd}
use Rattle.gimple_ir.specs.declared.types.ScalarType.{ScalarType}
use Rattle.gimple_ir.specs.declared.types.ScalarType.TheVariants.{Int}
use Rattle.gimple_ir.specs.declared.types.ElementType.{ElementType}
use Rattle.gimple_ir.specs.declared.types.ElementType.TheVariants as element
use Rattle.gimple_ir.specs.declared.types.VarType.{VarType}
use Rattle.gimple_ir.specs.declared.types.VarType.TheVariants as variable
use Rattle.gimple_ir.specs.declared.types.ResultType.TheVariants as returned
use Rattle.gimple_ir.specs.declared.types.Operand.{Operand}
use Rattle.gimple_ir.specs.declared.types.Operand.TheVariants.{Component, Literal}
use Rattle.gimple_ir.specs.declared.types.Arg.{Arg}
use Rattle.gimple_ir.specs.declared.types.Arg.TheVariants.{One, Whole}
use Rattle.gimple_ir.specs.declared.types.StructDef.{StructDef}
use Rattle.gimple_ir.specs.declared.types.Array.{Array}
use Rattle.gimple_ir.specs.declared.types.Function.{Function}
use Rattle.gimple_ir.specs.declared.types.Module.{Module}
use Rattle.gimple_ir.specs.declared.types.Program.{Program}
use Rattle.gimple_ir.specs.declared.types.Statement.{Statement}
use Rattle.gimple_ir.specs.declared.types.Statement.TheVariants.{Cond, Switch, Return, Copy, Unary, Convert, Binary, Load, Store, Call, Putchar, Exit}
use Rattle.gimple_ir.specs.Names.{is_identifier}
use Rattle.gimple_ir.specs.Values.{InRange, IsValue}
use Rattle.gimple_ir.specs.Statements.{Scope, ByTypes, statement_kind}
use Rattle.gimple_ir.specs.Checks.{is_extern, labels_stand, ends_closed, fault_of}

abbrev pub IsIdentifier : List ℕ → Type 0
IsIdentifier name = is_identifier name ≡ true

-- ---- values

abbrev pub IsElement : ElementType → ℤ → Type 0
IsElement (element.Scalar ty) z = InRange ty z
IsElement element.UnsignedChar z = (pos 0 ≤ℤ z) × (z ≤ℤ pos 255)

abbrev pub IsOperand : Operand → Type 0
IsOperand (Component x) = Unit {0}
IsOperand (Literal value) = IsValue value

abbrev pub IsArgument : Arg → Type 0
IsArgument (One a) = IsOperand a
IsArgument (Whole v) = Unit {0}

-- the literals and case values of the statement lie in their types' ranges
abbrev pub HasValues : Statement → Type 0
HasValues (Cond op a b met missed) = IsOperand a × IsOperand b
HasValues (Switch a cases otherwise) = IsOperand a × All (λ c. IsValue c.value) cases
HasValues (Return a) = IsOperand a
HasValues (Copy to a) = IsOperand a
HasValues (Unary to op a) = IsOperand a
HasValues (Convert to a) = IsOperand a
HasValues (Binary to op a b) = IsOperand a × IsOperand b
HasValues (Load to array a) = IsOperand a
HasValues (Store array a b) = IsOperand a × IsOperand b
HasValues (Call to f args) = All IsArgument args
HasValues (Putchar a) = IsOperand a
HasValues (Exit a) = IsOperand a
HasValues _ = Unit {0}

-- ---- modules

-- a scalar variable has its type, a struct variable those of the fields
abbrev pub AgreesIn : List StructDef → VarType → List ScalarType → Type 0
AgreesIn structs (variable.Scalar ty) types = types ≡ ty ∷ []
AgreesIn structs (variable.Struct n) types =
    MatchOption (slice_get structs n) (Unit {0}) (λ s. types ≡ map (λ field. field.ty) s.fields)

pub record IsStatedStruct (s : StructDef) : Type 0 where
  pub name : IsIdentifier s.name
  pub fields : All (λ field. IsIdentifier field.name) s.fields

pub record IsStatedArray (a : Array) : Type 0 where
  pub name : IsIdentifier a.name
  pub initial : All (IsElement a.element) a.initial
  pub shortest : IfSome (slice_get a.initial (length a.initial - 1)) (λ z. z ≢ pos 0)
  pub declared : is_extern a.linkage ≡ true → a.initial ≡ []

pub record IsStatedFunction (structs : List StructDef) (f : Function) : Type 0 where
  pub name : IsIdentifier f.name
  pub variables : All (λ v. IsIdentifier v.name × AgreesIn structs v.ty v.types) f.variables
  pub labels : All IsIdentifier f.labels
  pub parameters : f.parameters ≤ length f.variables
  pub values : All HasValues f.body
  pub declared : is_extern f.linkage ≡ true → (length f.variables ≡ f.parameters) × (f.labels ≡ []) × (f.body ≡ [])

-- what is asked of a module before it is checked
pub record IsStated (m : Module) : Type 0 where
  pub structs : All IsStatedStruct m.structs
  pub arrays : All IsStatedArray m.arrays
  pub functions : All (IsStatedFunction m.structs) m.functions
  pub items : length m.structs + length m.arrays + length m.functions < 2 ^ 32

-- a module in which the checks find nothing
pub record IsChecked (m : Module) : Type 0 where
  pub stated : IsStated m
  pub faultless : fault_of m ≡ None

-- ---- programs

pub record IsProgramArray (a : Array) : Type 0 where
  pub defined : is_extern a.linkage ≡ false
  pub initial : All (IsElement a.element) a.initial
  pub within : length a.initial ≤ a.length

-- a struct's number names nothing
abbrev pub AgreesAlone : VarType → List ScalarType → Type 0
AgreesAlone (variable.Scalar ty) types = types ≡ ty ∷ []
AgreesAlone (variable.Struct n) types = Unit {0}

abbrev pub scope_of : Program → Function → Scope
scope_of p f = record { structs = ByTypes; arrays = p.arrays; functions = p.functions; function = f }

pub record IsProgramFunction (p : Program) (f : Function) : Type 0 where
  pub defined : is_extern f.linkage ≡ false
  pub variables : All (λ v. AgreesAlone v.ty v.types) f.variables
  pub parameters : f.parameters ≤ length f.variables
  pub values : All HasValues f.body
  pub labels : labels_stand f ≡ true
  pub closed : ends_closed f.body ≡ true
  pub statements : All (λ s. statement_kind (scope_of p f) s ≡ None) f.body

-- a well formed program: `main` is a function without parameters that returns `int`
pub record IsProgram (p : Program) : Type 0 where
  pub arrays : All IsProgramArray p.arrays
  pub functions : All (IsProgramFunction p) p.functions
  pub main : IsSomeAnd (slice_get p.functions p.main) (λ f. (f.parameters ≡ 0) × (f.result ≡ returned.Scalar Int))
