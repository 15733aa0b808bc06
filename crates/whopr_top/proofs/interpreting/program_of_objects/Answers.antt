use Rattle.symbol_resolution.specs.Merging.{program_of}
use Rattle.program_link.proofs.LinkLaws.{is_bounded}
use Rattle.whopr_top.proofs.JobPrograms.{program_sound}
use Rattle.whopr_top.proofs.interpreting.program_of_objects.Goals as goal

pub first_passed-requires : goal.first_passed-requires
first_passed-requires c =
    is_bounded (program_of c.args.objects.now c.in-Ok-merge.merged) c.in-Ok-merge.merged
    (c.merged_programs.ensures.summarised c.args.objects.now c.args.names.now c.in-Ok.resolution c.in-Ok-merge.merged c.requires.objects
    (c.are_few.ensures.0 c.if-not-are_few.false) c.requires.names c.in-Ok-merge.ensures.exact)

pub returns-in-Ok-program_of-clause-sound : goal.returns-in-Ok-program_of-clause-sound
returns-in-Ok-program_of-clause-sound c =
    program_sound c.args.names.now c.args.objects.now c.in-Ok.resolution c.in-Ok-merge.merged c.in-Ok-program_of.program c.merged_programs.ensures.summarised c.requires.objects
    (c.are_few.ensures.0 c.if-not-are_few.false) c.requires.names c.in-Ok-merge.ensures.exact c.in-Ok-program_of.ensures.exact
