use Rattle.std.proofs.Common.{◌≡◌, ◌++◌, ◌∷◌, [], arith}
use Rattle.std.proofs.lemmas.Grind.{common_steps}
use Rattle.lto_object.specs.Objects.{IsObject}
use Rattle.whopr_top.specs.Reads.{contents_of}
use Rattle.whopr_top.specs.Judgements.{objects_from}
use Rattle.whopr_top.proofs.ObjectsInOrder.{object_read, all_push}
use Rattle.whopr_top.proofs.resolving.objects_of.Goals as goal

pub loop-number-preserved : goal.loop-number-preserved
loop-number-preserved c =
    let done = c.loop-number.objects.items in
    let cs = c.args.contents.now in
    let one = c.in-Ok.ensures.found.0 in
    let objects = c.loop-number.invariant.objects in
    let pushed : c.push.new.self.items ≡ done ++ c.in-Ok.object ∷ [] = grind (arith, common_steps) in
    record {
      value = rw pushed (object_read done c.loop-number.number cs c.index-contents-number.result c.in-Ok.object (objects_from 0 (contents_of cs)) c.loop-number-test.true c.index-contents-number.is
          one (rw c.deref.ensures.value at c.in-Ok.ensures.exact) c.loop-number.invariant.value);
      count = grind (arith, common_steps);
      objects = rw pushed (all_push IsObject done c.in-Ok.object objects one);
    }
