use Rattle.symbol_resolution.proofs.MergedLaws.{few_merged}
use Rattle.symbol_resolution.proofs.program.program_of.Goals as goal

pub program_functions-requires-clause-functions : goal.program_functions-requires-clause-functions
program_functions-requires-clause-functions c = (few_merged c.args.objects.now c.args.merged.now c.requires.few c.requires.merged).0

pub program_functions-requires-clause-arrays : goal.program_functions-requires-clause-arrays
program_functions-requires-clause-arrays c = (few_merged c.args.objects.now c.args.merged.now c.requires.few c.requires.merged).1
