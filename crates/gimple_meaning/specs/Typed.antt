-- A well formed program of versions: its numbers name what is there, each label stands once, and what is read, stored, passed and
-- given has the type that its place asks for, as the checks of the source language and the rules on versions have it.
use Rattle.std.specs.Prelude.{◌≡◌, ◌≢◌, ◌<◌, ◌≤◌, ℕ, true, List, length, slice_get, All, Option, Some, None, IsSomeAnd}
use Rattle.gimple_ir.specs.Values.{IsValue}
use Rattle.gimple_ir.specs.Programs.{IsOperand}
use Rattle.gimple_ir.specs.Statements.{is_comparison, binary_fits, read_type}
use Rattle.gimple_ir.specs.declared.types.ScalarType.{ScalarType}
use Rattle.gimple_ir.specs.declared.types.ScalarType.TheVariants.{Int}
use Rattle.gimple_ir.specs.declared.types.Operand.{Operand}
use Rattle.gimple_ir.specs.declared.types.Value.{Value}
use Rattle.gimple_ir.specs.declared.lattice.Binding.TheVariants as binding
use Rattle.gimple_ir.specs.declared.versioned.Step.{Step}
use Rattle.gimple_ir.specs.declared.versioned.Step.TheVariants.{Label, Cond, Switch, Return, Copies, Unary, Convert, Binary, Load, Store, Call, Putchar, Getchar, Exit}
use Rattle.gimple_ir.specs.declared.versioned.VersionedFunction.{VersionedFunction}
use Rattle.gimple_meaning.specs.Acts.{cell}
use Rattle.gimple_meaning.specs.Steps.{place_of}
use Rattle.gimple_meaning.specs.Versioned.{type_of, type_of_component, element_of}
use Rattle.gimple_meaning.specs.Versioned.{IsVersioned}
use Rattle.gimple_meaning.specs.Linked.{LinkedProgram, callee_number}

-- ---- components

-- each component that is set has a number of its type
abbrev pub AreTyped : VersionedFunction → List (Option Value) → Type 0
AreTyped f components = (i : ℕ) (v : Value) → cell components i ≡ Some v → (v.ty ≡ type_of_component f i) × IsValue v

-- ---- steps

-- each argument that the called function takes is passed, and has its parameter's type
abbrev pub ArgumentsTyped : VersionedFunction → VersionedFunction → List Operand → Type 0
ArgumentsTyped f callee args =
    (i k : ℕ) → slice_get callee.bindings i ≡ Some (binding.Arg k) → IsSomeAnd (slice_get args k) (λ a. type_of f a ≡ type_of_component callee i)

abbrev pub TargetTyped : VersionedFunction → Option ℕ → ScalarType → Type 0
TargetTyped f None type = Unit {0}
TargetTyped f (Some to) type = type_of_component f to ≡ type

-- a step of the function with this number
abbrev pub StepTyped : LinkedProgram → ℕ → VersionedFunction → Step → Type 0
StepTyped p g f (Cond op a b met missed) = IsOperand a × IsOperand b × (is_comparison op ≡ true) × (type_of f a ≡ type_of f b)
StepTyped p g f (Switch on cases otherwise) = IsOperand on × All (λ c. IsValue c.value × (c.value.ty ≡ type_of f on)) cases
-- the first frame gives the status
StepTyped p g f (Return None) = g ≢ p.main
StepTyped p g f (Return (Some a)) = IsOperand a × (type_of f a ≡ p.result_type g)
StepTyped p g f (Copies pairs) = All (λ c. IsOperand c.from × (type_of f c.from ≡ type_of_component f c.to)) pairs
StepTyped p g f (Unary to op a) = IsOperand a × (type_of f a ≡ type_of_component f to)
StepTyped p g f (Convert to a) = IsOperand a
StepTyped p g f (Binary to op a b) = IsOperand a × IsOperand b × (binary_fits op (Some (type_of_component f to)) (Some (type_of f a)) (Some (type_of f b)) ≡ true)
StepTyped p g f (Load to array a) = IsOperand a × (type_of_component f to ≡ read_type (element_of f array))
StepTyped p g f (Store array a b) = IsOperand a × IsOperand b × (type_of f b ≡ read_type (element_of f array))
StepTyped p g f (Call to call args) =
    All IsOperand args × TargetTyped f to (p.result_type (callee_number p f call))
    × ((callee : VersionedFunction) → slice_get p.functions (callee_number p f call) ≡ Some callee → ArgumentsTyped f callee args)
StepTyped p g f (Putchar a) = IsOperand a
StepTyped p g f (Getchar to) = TargetTyped f to Int
StepTyped p g f (Exit a) = IsOperand a
StepTyped p g f step = Unit {0}

-- ---- functions

-- the label stands in the body, and nowhere else
pub record StandsOnce (body : List Step) (label : ℕ) : Type 0 where
  pub stands : place_of body label < length body
  pub once : (place : ℕ) → slice_get body place ≡ Some (Label label) → place ≡ place_of body label

pub record FunctionTyped (p : LinkedProgram) (g : ℕ) (f : VersionedFunction) : Type 0 where
  pub versioned : IsVersioned f
  pub labels : (label : ℕ) → label < f.labels → StandsOnce f.body label
  pub parameters : length f.bindings ≤ length f.types
  pub constants : (i : ℕ) (v : Value) → slice_get f.bindings i ≡ Some (binding.Const v) → (v.ty ≡ type_of_component f i) × IsValue v
  pub steps : (place : ℕ) (step : Step) → slice_get f.body place ≡ Some step → StepTyped p g f step

pub record ProgramTyped (p : LinkedProgram) : Type 0 where
  pub functions : (g : ℕ) (f : VersionedFunction) → slice_get p.functions g ≡ Some f → FunctionTyped p g f
  -- the first function takes no argument
  pub main : (f : VersionedFunction) → slice_get p.functions p.main ≡ Some f → (i k : ℕ) → slice_get f.bindings i ≢ Some (binding.Arg k)
