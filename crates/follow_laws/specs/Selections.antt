-- The code of a function, step by step: where the code of a step stands, and what the code of an operand leaves.
use Rattle.std.specs.Prelude.{◌≡◌, ℕ, zero, suc, ◌+◌, ◌*◌, ◌%◌, ◌^◌, ◌-◌, ◌<◌, ◌≤◌, true, List, [], ◌∷◌, length, Some, slice_get}
use Rattle.gimple_ir.specs.declared.types.Operand.{Operand}
use Rattle.gimple_ir.specs.declared.types.Operand.TheVariants.{Component, Literal}
use Rattle.gimple_ir.specs.declared.versioned.Step.{Step}
use Rattle.gimple_ir.specs.declared.versioned.VersionedFunction.{VersionedFunction}
use Rattle.rv64_isa.specs.Format.{IsRegister}
use Rattle.rv64_meaning.specs.Arithmetic.{bits64}
use Rattle.rv64_meaning.specs.Machine.{Segments, State, load, can_load}
use Rattle.rv64_abi.specs.Registers.{sp}
use Rattle.rv64_frame.specs.Frames.{component_slot}
use Rattle.rv64_select.specs.Templates.{machine_form}
use Rattle.rv64_select.specs.Code.{Places, operand_code, step_code, steps_code}
use Rattle.final_link.specs.Image.{AllInRange}
use Rattle.follow_laws.specs.Relation.{StandsAt, Leads}
use Rattle.follow_laws.specs.Effects.{Differ, with_register}

-- ---- steps

-- the address of the step with this number, or behind the last
abbrev pub address_of : Places → VersionedFunction → ℕ → List Step → ℕ → ℕ
address_of places f at [] place = at
address_of places f at (step ∷ steps) zero = at
address_of places f at (step ∷ steps) (suc place) = address_of places f (at + 4 * length (step_code places f at step)) steps place

-- what is known of a step of a function whose steps stand at an address
pub record StepStands (m : Segments) (places : Places) (f : VersionedFunction) (at : ℕ) (steps : List Step) (place : ℕ) (step : Step) : Type 0 where
  pub code : StandsAt m (address_of places f at steps place) (step_code places f (address_of places f at steps place) step)
  -- the next step is behind it, before the end of all
  pub next : address_of places f at steps (suc place) ≡ address_of places f at steps place + 4 * length (step_code places f (address_of places f at steps place) step)
  pub within : address_of places f at steps (suc place) ≤ at + 4 * length (steps_code places f at steps)
  pub aligned : address_of places f at steps place % 4 ≡ at % 4

abbrev pub StepsStand : Type 0
StepsStand =
    (m : Segments) (places : Places) (f : VersionedFunction) (at : ℕ) (steps : List Step) (place : ℕ) (step : Step)
    → slice_get steps place ≡ Some step → StandsAt m at (steps_code places f at steps) → StepStands m places f at steps place step

-- ---- operands

-- the 64 bits that an operand has: those in its slot, or a literal's machine form
abbrev pub operand_bits : VersionedFunction → State → Operand → ℕ
operand_bits f s (Component c) = load 8 s.mem (s.reg sp + component_slot f c)
operand_bits f s (Literal v) = bits64 (machine_form v.ty v.num)

-- a component's slot is near, and in the data
abbrev pub CanRead : Segments → VersionedFunction → State → Operand → Type 0
CanRead m f s (Component c) = (component_slot f c < 2 ^ 31 - 2 ^ 11) × (s.reg sp + component_slot f c < 2 ^ 64) × (can_load m (s.reg sp + component_slot f c) 8 ≡ true)
CanRead m f s (Literal v) = Unit {0}

abbrev pub OperandSets : Type 0
OperandSets =
    (m : Segments) (s : State) (f : VersionedFunction) (r : ℕ) (o : Operand) → Differ r 0 → Differ sp r → CanRead m f s o → StandsAt m s.pc (operand_code f r o)
    → Leads m s (with_register s r (operand_bits f s o) (length (operand_code f r o)))

abbrev pub OperandEncodes : Type 0
OperandEncodes = (f : VersionedFunction) (r : ℕ) (o : Operand) → IsRegister r → AllInRange (operand_code f r o)
