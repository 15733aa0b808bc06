-- What a program whose summaries are true has for its limits and its symbols, and its image.
use Rattle.std.proofs.Common.{◌≡◌, ◌≤◌, ◌<◌, ℕ, List, [], ◌∷◌, length, map, refl, ap, ◌∙◌, arith}
use Rattle.std.specs.Prelude.{All, Result, Ok, Err, Some, Vec, IfOk, slice_get}
use Rattle.std.specs.declared.alloc.Global.{Global}
use Rattle.std.proofs.lemmas.List.Elements.{All-from_recursion, All-weaker}
use Rattle.gimple_ir.specs.declared.types.Function.{Function}
use Rattle.gimple_ir.specs.declared.types.Program.{Program}
use Rattle.gimple_ir.specs.declared.summary.Summary.{Summary}
use Rattle.gimple_ir.specs.declared.merged.Merged.{Merged}
use Rattle.gimple_ir.specs.declared.merged.MergedArray.{MergedArray}
use Rattle.gimple_ir.specs.declared.merged.MergedFunction.{MergedFunction}
use Rattle.gimple_ir.specs.declared.plan.CallPlan.{CallPlan}
use Rattle.gimple_ir.specs.declared.plan.Plan.{Plan}
use Rattle.gimple_ir.specs.declared.plan.Version.{Version}
use Rattle.gimple_ir.specs.Programs.{IsIdentifier}
use Rattle.func_summary.specs.Summaries.{arrays_of}
use Rattle.func_summary.specs.Summarised.{module_of, IsSmallFunction, IsSmallArray, IsSummarised}
use Rattle.func_summary.proofs.Checked.{all-from_places, all_at, place_inside}
use Rattle.elf_container.specs.declared.relocatable.RelocObject.{RelocObject}
use Rattle.ipa_plan.specs.Plans.{IsPlanOf}
use Rattle.follow_laws.specs.Direct.{direct_image}
use Rattle.ipa_plan.specs.Rules.{Choice}
use Rattle.program_link.specs.Known.{IsNumbered, IsBounded}
use Rattle.program_link.specs.Versions.{version_in, functions_of}
use Rattle.program_link.specs.Objects.{object_of}
use Rattle.program_link.specs.Linking.{IsImageOf}
use Rattle.program_link.proofs.VersionFacts.{found_at, VersionFacts}
use Rattle.program_link.proofs.Uses.{arrays_known}
use Rattle.program_link.proofs.KnownLaws.{target_there}
use Rattle.program_link.proofs.PlanLaws.{items_all}
use Rattle.program_link.proofs.PlaceLaws.{same_length, arrays_named}

small_summary : (p : Program) (merged : Merged) → IsSummarised p merged → (n : ℕ) (g : MergedFunction) → slice_get merged.functions n ≡ Some g → g.summary.code_bound ≤ 524288
small_summary p merged summarised n g here =
    let found = found_at p.functions n (omega (arith, place_inside merged.functions n g here, summarised.one_each)) in
    let f = found.element in
    let tells = summarised.summaries n g f here found.here in
    let small = all_at IsSmallFunction p.functions summarised.functions n f found.here in
    omega (arith, ap (λ (s : Summary). s.code_bound) tells.summary, small.code)

pub is_bounded : (p : Program) (merged : Merged) → IsSummarised p merged → IsBounded merged
is_bounded p merged summarised = record {
  few_functions = omega (arith, summarised.one_each, summarised.few_functions);
  few_arrays = omega (arith, same_length p merged summarised, summarised.few_arrays);
  functions = all-from_places (λ (g : MergedFunction). g.summary.code_bound ≤ 524288) merged.functions (small_summary p merged summarised);
  arrays = All-weaker (λ (a : MergedArray). IsSmallArray a.item) (λ (a : MergedArray). a.item.length ≤ 67108864) (λ a h. h.elements) merged.arrays (items_all p merged IsSmallArray summarised summarised.arrays);
}

pub is_numbered : (p : Program) (merged : Merged) → IsSummarised p merged → IsNumbered merged
is_numbered p merged summarised = record {
  few = omega (arith, same_length p merged summarised, summarised.few_arrays);
  names = All-from_recursion (λ (a : MergedArray). IsIdentifier a.name) merged.arrays (arrays_named p merged summarised);
}

pub objects_are : (p : Program) (merged : Merged) (plan : Plan) (vs : List Version) → map (λ v. object_of (version_in p merged plan v)) vs ≡ map object_of (map (version_in p merged plan) vs)
objects_are p merged plan [] = refl
objects_are p merged plan (v ∷ vs) = ap (λ (os : List RelocObject). object_of (version_in p merged plan v) ∷ os) (objects_are p merged plan vs)

pub image_is : {E : Type 0} (p : Program) (merged : Merged) (plan : Plan) (bytes : List ℕ) (result : Result (Vec ℕ Global) E) → IsPlanOf merged plan
    → bytes ≡ direct_image plan merged (functions_of p merged plan) → IfOk result (λ image. image.items ≡ bytes) → IfOk result (λ image. IsImageOf p merged image.items)
image_is p merged plan bytes (Ok image) planned direct h = record { plan = plan; planned = planned; is = h ∙ direct }
image_is p merged plan bytes (Err e) planned direct h = tt

pub uses_known : (p : Program) (merged : Merged) (f : Function) → IsSummarised p merged → All (λ a. a < length merged.arrays) (arrays_of (module_of p) f)
uses_known p merged f summarised =
    let same = same_length p merged summarised in
    All-weaker (λ (a : ℕ). a < length p.arrays) (λ (a : ℕ). a < length merged.arrays) (λ a lt. omega (arith, lt, same)) (arrays_of (module_of p) f) (arrays_known p f)

pub targets_known : (p : Program) (merged : Merged) (plan : Plan) (choice : Choice) (version : Version) (f : Function) → VersionFacts p merged plan choice version f → All (λ c. c.target < length plan.versions) version.calls
targets_known p merged plan choice version f known =
    all-from_places (λ (c : CallPlan). c.target < length plan.versions) version.calls
    (λ k c at. let target = target_there p merged plan choice version f known k c at in place_inside plan.versions c.target target.element target.here)
