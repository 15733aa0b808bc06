-- Which fault a refusal names.
use Rattle.std.specs.Prelude.{◌≡◌, Some}
use Rattle.gimple_ir.specs.declared.types.Module.{Module}
use Rattle.gimple_checks.specs.declared.check.ModuleError.{ModuleError}
use Rattle.gimple_checks.specs.declared.check.ModuleError.TheVariants.{Fault, NoMemory}
use Rattle.gimple_ir.specs.Checks.{fault_of}

-- the first fault; that memory was wanting says nothing of the module
abbrev pub IsItsFault : Module → ModuleError → Type 0
IsItsFault m (Fault fault) = fault_of m ≡ Some fault
IsItsFault m NoMemory = Unit {0}
