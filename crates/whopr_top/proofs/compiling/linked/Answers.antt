use Rattle.whopr_top.proofs.ObjectImages.{compiled}
use Rattle.whopr_top.proofs.compiling.linked.Goals as goal

pub returns : goal.returns
returns c =
    compiled c.args.objects.now c.args.names.now c.in_ok-resolution.resolution c.in_ok-image.image.items c.merged_programs.ensures.summarised c.requires.objects
    (c.are_few.ensures.0 c.if-not-are_few.false) c.requires.names c.in_ok-resolution.ensures.exact c.in_ok-image.ensures
