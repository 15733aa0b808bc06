-- Versions of functions: the types of what their steps name, and what is asked of one. Its numbers name what is there, it has few
-- components and passes few arguments, and its code bound is in its limit.
use Rattle.std.specs.Prelude.{ℕ, ◌+◌, ◌*◌, ◌^◌, ◌<◌, ◌≤◌, max, List, [], ◌∷◌, length, slice_get, unwrap_or, sum_by, Option, Some, None, All}
use Rattle.std.specs.Option.{option_map_or}
use Rattle.gimple_ir.specs.declared.types.ScalarType.{ScalarType}
use Rattle.gimple_ir.specs.declared.types.ScalarType.TheVariants as types
use Rattle.gimple_ir.specs.declared.types.ElementType.{ElementType}
use Rattle.gimple_ir.specs.declared.types.ElementType.TheVariants as elements
use Rattle.gimple_ir.specs.declared.types.Operand.{Operand}
use Rattle.gimple_ir.specs.declared.types.Operand.TheVariants as operands
use Rattle.gimple_ir.specs.declared.versioned.Step.{Step}
use Rattle.gimple_ir.specs.declared.versioned.Step.TheVariants.{Label, Goto, Cond, Switch, Return, Copies, Unary, Convert, Binary, Load, Store, Call, Putchar, Getchar, Exit}
use Rattle.gimple_ir.specs.declared.versioned.VersionedFunction.{VersionedFunction}

-- ---- types

abbrev pub type_of_component : VersionedFunction → ℕ → ScalarType
type_of_component f component = unwrap_or (slice_get f.types component) types.Int

abbrev pub type_of : VersionedFunction → Operand → ScalarType
type_of f (operands.Component c) = type_of_component f c
type_of f (operands.Literal v) = v.ty

abbrev pub element_of : VersionedFunction → ℕ → ElementType
element_of f array = option_map_or (λ a. a.element) (slice_get f.arrays array) elements.UnsignedChar

-- ---- the code bound

-- the operands of a step: each that is read or passed, each case value, and one for each pair
abbrev pub operands_in : Step → ℕ
operands_in (Cond op a b met missed) = 2
operands_in (Switch a cases otherwise) = 1 + length cases
operands_in (Return (Some a)) = 1
operands_in (Copies pairs) = length pairs
operands_in (Unary to op a) = 1
operands_in (Convert to a) = 1
operands_in (Binary to op a b) = 2
operands_in (Load to array a) = 1
operands_in (Store array a b) = 2
operands_in (Call to call args) = length args
operands_in (Putchar a) = 1
operands_in (Exit a) = 1
operands_in _ = 0

-- in bytes
abbrev pub bound_of : VersionedFunction → ℕ
bound_of f = 4 * (6 + 11 * length f.bindings + sum_by (λ s. 7 + 11 * operands_in s) f.body)

-- ---- numbers

abbrev pub ComponentFits : VersionedFunction → ℕ → Type 0
ComponentFits f component = component < length f.types

abbrev pub OperandFits : VersionedFunction → Operand → Type 0
OperandFits f (operands.Component c) = ComponentFits f c
OperandFits f (operands.Literal v) = Unit {0}

abbrev pub TargetFits : VersionedFunction → Option ℕ → Type 0
TargetFits f None = Unit {0}
TargetFits f (Some component) = ComponentFits f component

abbrev pub ArrayFits : VersionedFunction → ℕ → Type 0
ArrayFits f array = array < length f.arrays

abbrev pub LabelFits : VersionedFunction → ℕ → Type 0
LabelFits f label = label < f.labels

abbrev pub StepFits : VersionedFunction → Step → Type 0
StepFits f (Label label) = LabelFits f label
StepFits f (Goto label) = LabelFits f label
StepFits f (Cond op a b met missed) = OperandFits f a × OperandFits f b × LabelFits f met × LabelFits f missed
StepFits f (Switch a cases otherwise) = OperandFits f a × All (λ c. LabelFits f c.label) cases × LabelFits f otherwise
StepFits f (Return (Some a)) = OperandFits f a
StepFits f (Copies pairs) = All (λ p. ComponentFits f p.to × OperandFits f p.from) pairs
StepFits f (Unary to op a) = ComponentFits f to × OperandFits f a
StepFits f (Convert to a) = ComponentFits f to × OperandFits f a
StepFits f (Binary to op a b) = ComponentFits f to × OperandFits f a × OperandFits f b
StepFits f (Load to array a) = ComponentFits f to × ArrayFits f array × OperandFits f a
StepFits f (Store array a b) = ArrayFits f array × OperandFits f a × OperandFits f b
StepFits f (Call to call args) = TargetFits f to × (call < length f.calls) × All (OperandFits f) args
StepFits f (Putchar a) = OperandFits f a
StepFits f (Getchar to) = TargetFits f to
StepFits f (Exit a) = OperandFits f a
StepFits f _ = Unit {0}

-- ---- functions

-- how many arguments a step passes
abbrev pub passed_in : Step → ℕ
passed_in (Call to call args) = length args
passed_in _ = 0

-- the largest number of arguments that a step passes
abbrev pub most_passed : List Step → ℕ
most_passed [] = 0
most_passed (s ∷ ss) = max (passed_in s) (most_passed ss)

pub record IsVersioned (f : VersionedFunction) : Type 0 where
  pub components : length f.types ≤ 1024
  pub arguments : most_passed f.body ≤ 64
  pub steps : All (StepFits f) f.body
  pub bound : bound_of f ≤ 2 ^ 19
