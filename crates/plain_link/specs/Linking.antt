-- The image of objects under a resolution, or the first refusal.
use Rattle.std.specs.Prelude.{◌≡◌, ℕ, List, Some, None, Result, Ok, Err, Vec}
use Rattle.std.specs.declared.alloc.Global.{Global}
use Rattle.gimple_ir.specs.declared.merged.Merged.{Merged}
use Rattle.lto_object.specs.Objects.{ObjectData}
use Rattle.resolution_text.specs.declared.resolution.Resolution.{Resolution}
use Rattle.resolution_text.specs.declared.fault.ResolutionError.{ResolutionError}
use Rattle.resolution_text.specs.declared.fault.ResolutionError.TheVariants as merging
use Rattle.symbol_resolution.specs.Merging.{merged_of, program_of}
use Rattle.program_link.specs.declared.fault.LimitFault.{LimitFault}
use Rattle.program_link.specs.declared.fault.LinkError.{LinkError as ProgramError}
use Rattle.program_link.specs.declared.fault.LinkError.TheVariants as program
use Rattle.program_link.specs.Linking.{limits_of, first_passed, IsImageOf}
use Rattle.plain_link.specs.declared.fault.LinkError.{LinkError}
use Rattle.plain_link.specs.declared.fault.LinkError.TheVariants.{Resolution as Unresolved, Limit, NoMemory}

-- ---- what is answered

-- the objects merge to a program that passes no limit, and this is its image
pub record IsLinked (objects : List ObjectData) (names : List (List ℕ)) (resolution : Resolution) (image : List ℕ) : Type 0 where
  pub merged : Merged
  pub merges : merged_of objects names resolution ≡ Ok merged
  pub within : first_passed (limits_of merged) ≡ None
  pub is_image : IsImageOf (program_of objects merged) merged image

-- the objects merge to a program that passes this limit first
pub record Passes (objects : List ObjectData) (names : List (List ℕ)) (resolution : Resolution) (passed : LimitFault) : Type 0 where
  pub merged : Merged
  pub merges : merged_of objects names resolution ≡ Ok merged
  pub first : first_passed (limits_of merged) ≡ Some passed

-- the image, or the first refusal, or that there was no memory
abbrev pub LinksObjects : List ObjectData → List (List ℕ) → Resolution → Result (Vec ℕ Global) LinkError → Type 0
LinksObjects objects names resolution (Ok image) = IsLinked objects names resolution image.items
LinksObjects objects names resolution (Err (Unresolved fault)) = merged_of objects names resolution ≡ Err fault
LinksObjects objects names resolution (Err (Limit passed)) = Passes objects names resolution passed
LinksObjects objects names resolution (Err NoMemory) = Unit {0}

-- ---- the errors of the steps

-- want of memory is one cause, wherever it comes
abbrev pub of_merging : ResolutionError → LinkError
of_merging merging.NoMemory = NoMemory
of_merging fault = Unresolved fault

abbrev pub of_program : ProgramError → LinkError
of_program (program.Limit passed) = Limit passed
of_program program.NoMemory = NoMemory
