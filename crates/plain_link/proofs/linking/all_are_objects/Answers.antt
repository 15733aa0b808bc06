use Rattle.std.proofs.Common.{◌<◌, ◌≤◌, length, subst, arith}
use Rattle.std.specs.Prelude.{All}
use Rattle.std.proofs.lemmas.List.{take_all}
use Rattle.std.proofs.lemmas.List.Elements.{All-more}
use Rattle.lto_object.specs.Objects.{IsObject}
use Rattle.plain_link.proofs.linking.all_are_objects.Goals as goal

pub loop-object-preserved : goal.loop-object-preserved
loop-object-preserved c =
    let objects = c.args.objects.now in
    let i = c.loop-object.object-index in
    let item = c.object-item.result in
    let inside : i < length objects = omega (arith, c.loop-object-test.true) in
    All-more IsObject objects i item inside c.loop-object.invariant (subst IsObject c.object-item.is c.module.ensures.object)

pub returns : goal.returns
returns c =
    let objects = c.args.objects.now in
    let past : length objects ≤ c.loop-object.object-index = omega (arith, c.loop-object-test.false) in
    subst (All IsObject) (take_all c.loop-object.object-index objects past) c.loop-object.invariant
