-- What a call on resolutions answers.
use Rattle.std.specs.Prelude.{◌≡◌, ◌⊎◌, Result, Ok, Err}
use Rattle.resolution_text.specs.declared.fault.ResolutionError.{ResolutionError}
use Rattle.resolution_text.specs.declared.fault.ResolutionError.TheVariants.{NoMemory}

-- the value or the fault that is defined, unless memory ran out
abbrev pub Answers : {A : Type 0} → Result A ResolutionError → Result A ResolutionError → Type 0
Answers (Ok a) defined = defined ≡ Ok a
Answers (Err e) defined = (defined ≡ Err e) ⊎ (e ≡ NoMemory)
