-- The image of objects under their own resolution, from what its steps answer.
use Rattle.std.proofs.Common.{◌≡◌, ℕ, List, [], ◌∷◌, Option, Some, Result, Ok, Err, refl, sym, ◌∙◌, ap, inl, inr, arith, length, subst, Vec}
use Rattle.std.specs.Prelude.{All}
use Rattle.std.specs.declared.alloc.Global.{Global}
use Rattle.gimple_ir.specs.declared.types.Module.{Module}
use Rattle.gimple_ir.specs.declared.merged.Merged.{Merged}
use Rattle.lto_object.specs.Objects.{ObjectData, IsObject}
use Rattle.resolution_text.specs.Answers.{Answers}
use Rattle.resolution_text.specs.declared.fault.ResolutionError.{ResolutionError}
use Rattle.resolution_text.specs.declared.fault.ResolutionError.TheVariants as errors
use Rattle.resolution_text.specs.declared.resolution.Resolution.{Resolution}
use Rattle.symbol_resolution.specs.Resolving.{resolve_of}
use Rattle.symbol_resolution.specs.Merging.{merged_of, AreFew}
use Rattle.symbol_resolution.specs.Laws.{MergedLaw}
use Rattle.program_link.specs.declared.fault.LimitFault.{LimitFault}
use Rattle.program_link.specs.Linking.{limits_of, first_passed}
use Rattle.plain_link.specs.declared.fault.LinkError.{LinkError}
use Rattle.plain_link.specs.declared.fault.LinkError.TheVariants as link
use Rattle.plain_link.specs.Linking.{LinksObjects, IsLinked}
use Rattle.whopr_top.specs.declared.refusal.ResolutionPlace.TheVariants.{AtLine, AtName}
use Rattle.whopr_top.specs.declared.compiling.ImageFault.{ImageFault}
use Rattle.whopr_top.specs.Lines.{limit_line, resolution_line}
use Rattle.whopr_top.specs.Judgements.{Judgement, Refuses, JudgesImage, JudgesMerged, JudgesResolved, JudgesLink, data_of}
use Rattle.whopr_top.specs.Compiling.{IsCompiled, GivesImage, of_resolution, of_link}
use Rattle.whopr_top.proofs.ObjectsInOrder.{data_is}

-- ---- from step to step

pub by_resolution : (output : List ℕ) (objects : List ObjectData) (names : List (List ℕ)) (r : Result Resolution ResolutionError) (judgement : Judgement)
    → resolve_of objects names ≡ r → JudgesResolved output objects names r judgement → JudgesLink output objects names judgement
by_resolution output objects names r judgement is judged =
    subst (λ (r : Result Resolution ResolutionError). JudgesResolved output objects names r judgement) (sym is) judged

pub by_merged : (output : List ℕ) (objects : List ObjectData) (names : List (List ℕ)) (resolution : Resolution) (m : Result Merged ResolutionError) (judgement : Judgement)
    → resolve_of objects names ≡ Ok resolution → merged_of objects names resolution ≡ m → JudgesMerged output objects m judgement → JudgesLink output objects names judgement
by_merged output objects names resolution m judgement resolved is judged =
    by_resolution output objects names (Ok resolution) judgement resolved
    (subst (λ (m : Result Merged ResolutionError). JudgesMerged output objects m judgement) (sym is) judged)

pub by_limit : (output : List ℕ) (objects : List ObjectData) (names : List (List ℕ)) (resolution : Resolution) (merged : Merged) (passed : Option LimitFault) (judgement : Judgement)
    → resolve_of objects names ≡ Ok resolution → merged_of objects names resolution ≡ Ok merged → first_passed (limits_of merged) ≡ passed
    → JudgesImage output objects merged passed judgement → JudgesLink output objects names judgement
by_limit output objects names resolution merged passed judgement resolved merges is judged =
    by_merged output objects names resolution (Ok merged) judgement resolved merges
    (subst (λ (l : Option LimitFault). JudgesImage output objects merged l judgement) (sym is) judged)

-- ---- what is answered

-- the objects have no resolution
pub not_resolved : (objects : List ObjectData) (names : List (List ℕ)) (fault : ResolutionError) → Answers (Err fault) (resolve_of objects names)
    → GivesImage objects names (Err (of_resolution fault))
not_resolved objects names (errors.AtLine kind number) (inl is) = λ output. by_resolution output objects names _ (Refuses 8 (resolution_line kind (AtLine number))) is refl
not_resolved objects names (errors.AtLine kind number) (inr wrong) = absurd (grind (arith, wrong))
not_resolved objects names (errors.AtName kind name) (inl is) = λ output. by_resolution output objects names _ (Refuses 8 (resolution_line kind (AtName name))) is refl
not_resolved objects names (errors.AtName kind name) (inr wrong) = absurd (grind (arith, wrong))
not_resolved objects names errors.NoMemory is = tt

-- they do not merge under it, or their program passes a limit
pub not_linked : (objects : List ObjectData) (names : List (List ℕ)) (resolution : Resolution) (fault : LinkError) → resolve_of objects names ≡ Ok resolution
    → LinksObjects objects names resolution (Err fault) → GivesImage objects names (Err (of_link fault))
not_linked objects names resolution (link.Resolution (errors.AtLine kind number)) resolved is =
    λ output. by_merged output objects names resolution _ (Refuses 8 (resolution_line kind (AtLine number))) resolved is refl
not_linked objects names resolution (link.Resolution (errors.AtName kind name)) resolved is =
    λ output. by_merged output objects names resolution _ (Refuses 8 (resolution_line kind (AtName name))) resolved is refl
not_linked objects names resolution (link.Resolution errors.NoMemory) resolved is = tt
not_linked objects names resolution (link.Limit passed) resolved passes =
    λ output. by_limit output objects names resolution passes.merged (Some passed) (Refuses 4 (limit_line passed)) resolved passes.merges passes.first refl
not_linked objects names resolution link.NoMemory resolved is = tt

pub compiled : (objects : List ObjectData) (names : List (List ℕ)) (resolution : Resolution) (image : List ℕ) → MergedLaw → All IsObject objects → AreFew objects
    → length names ≡ length objects → resolve_of objects names ≡ Ok resolution → IsLinked objects names resolution image → IsCompiled objects names image
compiled objects names resolution image law all few same resolved linked =
    record {
      resolution = resolution;
      merged = linked.merged;
      resolved = resolved;
      merges = linked.merges;
      summarised = law objects names resolution linked.merged all few same linked.merges;
      within = linked.within;
      is_image = linked.is_image;
    }

-- ---- one object

-- the object that was read of a module, under one name
pub alone : (o : ObjectData) (source : Module) (objects : List ObjectData) (names : List (List ℕ)) (name : List ℕ) (result : Result (Vec ℕ Global) ImageFault)
    → IsObject o → o.source ≡ source → objects ≡ o ∷ [] → names ≡ name ∷ [] → GivesImage objects names result → GivesImage (data_of source ∷ []) (name ∷ []) result
alone o source objects names name result object same is under gives =
    subst (λ (os : List ObjectData). GivesImage os (name ∷ []) result) (is ∙ ap (λ x. x ∷ []) (data_is o object ∙ ap data_of same))
    (subst (λ (ns : List (List ℕ)). GivesImage objects ns result) under gives)
