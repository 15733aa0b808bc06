use Rattle.std.proofs.Common.{length, sym, ap, arith}
use Rattle.lto_object.proofs.BoundLaws.{short_bounds}
use Rattle.lto_object.proofs.SizeLaws.{few_items, part_small}
use Rattle.lto_object.proofs.streams.declarations.Goals as goal

pub returns-in-Ok-clause-bounds : goal.returns-in-Ok-clause-bounds
returns-in-Ok-clause-bounds c =
    short_bounds c.in-Ok.declared c.in-Ok.ensures.found.0 (omega (arith, ap length c.in-Ok.ensures.found.1, ap length c.part.ensures, part_small c.args.view.now 1, c.requires.size))

pub returns-in-Ok-clause-few : goal.returns-in-Ok-clause-few
returns-in-Ok-clause-few c =
    omega (arith, few_items c.in-Ok.declared, ap length c.in-Ok.ensures.found.1, ap length c.part.ensures, part_small c.args.view.now 1, c.requires.size)
