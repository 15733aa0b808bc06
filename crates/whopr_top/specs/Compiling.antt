-- What is said of the image of objects under their own resolution, or where they have none.
use Rattle.std.specs.Prelude.{◌≡◌, ℕ, List, None, Result, Ok, Err, Vec}
use Rattle.std.specs.declared.alloc.Global.{Global}
use Rattle.gimple_ir.specs.declared.merged.Merged.{Merged}
use Rattle.func_summary.specs.Summarised.{IsSummarised}
use Rattle.lto_object.specs.Objects.{ObjectData}
use Rattle.resolution_text.specs.declared.fault.ResolutionError.{ResolutionError}
use Rattle.resolution_text.specs.declared.fault.ResolutionError.TheVariants as errors
use Rattle.resolution_text.specs.declared.resolution.Resolution.{Resolution}
use Rattle.symbol_resolution.specs.Resolving.{resolve_of}
use Rattle.symbol_resolution.specs.Merging.{merged_of, program_of}
use Rattle.program_link.specs.Linking.{limits_of, first_passed, IsImageOf}
use Rattle.plain_link.specs.declared.fault.LinkError.{LinkError}
use Rattle.plain_link.specs.declared.fault.LinkError.TheVariants as link
use Rattle.whopr_top.specs.declared.refusal.ResolutionPlace.TheVariants.{AtLine, AtName}
use Rattle.whopr_top.specs.declared.compiling.ImageFault.{ImageFault}
use Rattle.whopr_top.specs.declared.compiling.ImageFault.TheVariants.{Resolution as Unresolved, Limit, NoMemory}
use Rattle.whopr_top.specs.Lines.{limit_line, resolution_line}
use Rattle.whopr_top.specs.Judgements.{Refuses, JudgesLink}

-- the objects have a resolution and merge under it to a program that passes no limit, of which the merged program is true, and this is
-- its image
pub record IsCompiled (objects : List ObjectData) (names : List (List ℕ)) (image : List ℕ) : Type 0 where
  pub resolution : Resolution
  pub merged : Merged
  pub resolved : resolve_of objects names ≡ Ok resolution
  pub merges : merged_of objects names resolution ≡ Ok merged
  pub summarised : IsSummarised (program_of objects merged) merged
  pub within : first_passed (limits_of merged) ≡ None
  pub is_image : IsImageOf (program_of objects merged) merged image

-- the image, or the first refusal, unless memory ran out
abbrev pub GivesImage : List ObjectData → List (List ℕ) → Result (Vec ℕ Global) ImageFault → Type 0
GivesImage objects names (Ok image) = IsCompiled objects names image.items
GivesImage objects names (Err (Unresolved kind place)) = (output : List ℕ) → JudgesLink output objects names (Refuses 8 (resolution_line kind place))
GivesImage objects names (Err (Limit passed)) = (output : List ℕ) → JudgesLink output objects names (Refuses 4 (limit_line passed))
GivesImage objects names (Err NoMemory) = Unit {0}

-- ---- the errors of the steps

abbrev pub of_resolution : ResolutionError → ImageFault
of_resolution (errors.AtLine kind number) = Unresolved kind (AtLine number)
of_resolution (errors.AtName kind name) = Unresolved kind (AtName name)
of_resolution errors.NoMemory = NoMemory

abbrev pub of_link : LinkError → ImageFault
of_link (link.Resolution fault) = of_resolution fault
of_link (link.Limit passed) = Limit passed
of_link link.NoMemory = NoMemory
