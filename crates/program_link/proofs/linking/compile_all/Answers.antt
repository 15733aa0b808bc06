use Rattle.std.proofs.Common.{◌<◌, ◌≤◌, length, map, get_or, sym, ap, ◌∙◌, subst, arith}
use Rattle.std.specs.Prelude.{All}
use Rattle.std.proofs.lemmas.List.{take_all}
use Rattle.std.proofs.lemmas.List.Elements.{All-push}
use Rattle.gimple_ir.specs.declared.plan.Version.{Version}
use Rattle.ipa_plan.specs.Rules.{IsVersionIn}
use Rattle.ipa_transform.specs.Versioned.{versioned_of}
use Rattle.program_link.specs.Known.{IsPart}
use Rattle.program_link.specs.Versions.{version_in}
use Rattle.program_link.specs.Objects.{object_of}
use Rattle.program_link.proofs.Listing.{mapped_more}
use Rattle.program_link.proofs.LinkLaws.{is_numbered, objects_are}
use Rattle.program_link.proofs.linking.compile_all.Goals as goal

pub array_symbols-requires : goal.array_symbols-requires
array_symbols-requires c = is_numbered c.args.program.now c.args.merged.now c.requires.summarised

pub member-requires-clause-version : goal.member-requires-clause-version
member-requires-clause-version c =
    let plan = c.args.plan.now in
    let i = c.loop-version.version-index in
    let item = c.version-item.result in
    let same = c.as_slice-version-items.ensures in
    let inside : i < length plan.versions = omega (arith, c.loop-version-test.true, ap length same) in
    let is = c.version-item.is ∙ ap (λ xs. get_or xs i item) same in
    let choice = c.requires.planned.choice in
    (choice, subst (IsVersionIn c.args.merged.now plan choice) (sym is) (c.requires.planned.versions i item inside))

pub loop-version-preserved : goal.loop-version-preserved
loop-version-preserved c =
    let p = c.args.program.now in
    let merged = c.args.merged.now in
    let plan = c.args.plan.now in
    let i = c.loop-version.version-index in
    let item = c.version-item.result in
    let same = c.as_slice-version-items.ensures in
    let inside : i < length plan.versions = omega (arith, c.loop-version-test.true, ap length same) in
    let is = c.version-item.is ∙ ap (λ xs. get_or xs i item) same in
    let part = λ (v : Version). object_of (version_in p merged plan v) in
    let made = c.in_ok-compile.ensures.value ∙ ap (λ m. object_of (versioned_of m)) c.in_ok-member.ensures.value in
    record {
      objects = mapped_more part plan.versions i item c.in_ok-compile.field-0 c.loop-version.parts.items _ inside is made c.loop-version.invariant.objects c.in_ok-push.ensures.items;
      parts = subst (All IsPart) (sym c.in_ok-push.ensures.items) (All-push IsPart c.loop-version.parts.items c.in_ok-compile.field-0 c.loop-version.invariant.parts c.in_ok-compile.ensures.part);
    }

pub returns-clause-objects : goal.returns-clause-objects
returns-clause-objects c =
    let p = c.args.program.now in
    let merged = c.args.merged.now in
    let plan = c.args.plan.now in
    let past : length plan.versions ≤ c.loop-version.version-index = omega (arith, c.loop-version-test.false, ap length c.as_slice-version-items.ensures) in
    c.loop-version.invariant.objects ∙ ap (map (λ (v : Version). object_of (version_in p merged plan v))) (take_all c.loop-version.version-index plan.versions past)
    ∙ objects_are p merged plan plan.versions
