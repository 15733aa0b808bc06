use Rattle.std.proofs.Common.{◌∙◌, List, ap, subst, sym}
use Rattle.std.specs.Prelude.{All}
use Rattle.elf_container.specs.declared.relocatable.RelocObject.{RelocObject}
use Rattle.final_link.specs.Placing.{IsPlaceable, placed_image}
use Rattle.program_link.specs.Known.{IsPart}
use Rattle.program_link.specs.Versions.{functions_of}
use Rattle.program_link.proofs.DirectLaws.{placed_is_direct}
use Rattle.program_link.proofs.PlanLaws.{same_symbols}
use Rattle.program_link.proofs.PlaceLaws.{framed, placeable}
use Rattle.program_link.proofs.LinkLaws.{image_is}
use Rattle.program_link.proofs.linking.image_of.Goals as goal

pub plan-requires : goal.plan-requires
plan-requires c = c.planned.ensures.summarised c.args.program.now c.args.merged.now c.requires.summarised

pub compile_all-requires-clause-planned : goal.compile_all-requires-clause-planned
compile_all-requires-clause-planned c = c.in_ok-plan.ensures.planned

pub place-requires : goal.place-requires
place-requires c =
    let p = c.args.program.now in
    let merged = c.args.merged.now in
    let plan = c.in_ok-plan.plan in
    let known = c.in_ok-plan.ensures.planned in
    let objects = c.in_ok-parts.ensures.objects in
    subst (λ (os : List RelocObject). IsPlaceable plan merged os) (sym (c.as_slice.ensures.value ∙ objects))
    (placeable p merged plan c.requires.summarised known c.requires.within (subst (All IsPart) objects c.in_ok-parts.ensures.parts))

pub returns : goal.returns
returns c =
    let p = c.args.program.now in
    let merged = c.args.merged.now in
    let plan = c.in_ok-plan.plan in
    let known = c.in_ok-plan.ensures.planned in
    let objects = c.in_ok-parts.ensures.objects in
    let fits = placeable p merged plan c.requires.summarised known c.requires.within (subst (All IsPart) objects c.in_ok-parts.ensures.parts) in
    let same = ap (λ (os : List RelocObject). placed_image plan merged os) (c.as_slice.ensures.value ∙ objects) in
    let direct = placed_is_direct c.patched_is_direct.ensures.words plan merged (functions_of p merged plan) fits (same_symbols p merged plan) (framed p merged plan c.requires.summarised known) in
    image_is p merged plan (placed_image plan merged c.as_slice.result.now) c.place.result c.in_ok-plan.ensures.plan (same ∙ direct) c.place.ensures
