use Rattle.program_link.proofs.LinkLaws.{is_bounded}
use Rattle.program_link.proofs.linking.link_program.Goals as goal

pub first_passed-requires : goal.first_passed-requires
first_passed-requires c = is_bounded c.args.program.now c.args.merged.now c.requires
