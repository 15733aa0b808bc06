use Rattle.link_laws.proofs.Directly.{Known}
use Rattle.link_laws.proofs.Joining.{linked_loads, linked_follows}
use Rattle.link_laws.proofs.linked_image_follows.Goals as goal

pub returns : goal.returns
returns c =
    let v = c.versioned.ensures in
    let known : Known = record { fit = v.fit; agree = v.agree; differ = v.differ; main = v.main; uses = v.uses; text = v.text; arrays = v.arrays } in
    let plan = c.planned.ensures.plan in
    let summarised = c.planned.ensures.summarised in
    record {
      loads = linked_loads known plan summarised c.direct_images.ensures.loads;
      follows = linked_follows known plan summarised c.direct_images.ensures.placed c.starts.ensures c.machine_follows.ensures c.typed_versions.ensures c.versions_keep.ensures
          c.keeping.ensures.follows c.following.ensures;
    }
