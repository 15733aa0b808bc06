use Rattle.symbol_resolution.proofs.LineLaws.{no_line_fault}
use Rattle.symbol_resolution.proofs.merging.merged_under.Goals as goal

pub marks_of-requires-clause-counts : goal.marks_of-requires-clause-counts
marks_of-requires-clause-counts c =
    rw c.as_slice-files.ensures (no_line_fault c.args.objects.now c.args.names.now c.args.resolution.now c.requires.names c.in_ok-check_lines.ensures).1

pub check_names-requires-clause-counts : goal.check_names-requires-clause-counts
check_names-requires-clause-counts c =
    rw c.as_slice-files.ensures (no_line_fault c.args.objects.now c.args.names.now c.args.resolution.now c.requires.names c.in_ok-check_lines.ensures).1
