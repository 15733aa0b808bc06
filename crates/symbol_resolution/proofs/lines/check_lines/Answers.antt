use Rattle.symbol_resolution.proofs.LineLaws.{few_lines}
use Rattle.symbol_resolution.proofs.lines.check_lines.Goals as goal

pub check_files-requires-clause-room : goal.check_files-requires-clause-room
check_files-requires-clause-room c = few_lines c.args.objects.now c.requires.few
