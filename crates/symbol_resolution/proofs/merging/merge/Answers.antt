use Rattle.symbol_resolution.proofs.MergedLaws.{made_of}
use Rattle.symbol_resolution.proofs.merging.merge.Goals as goal

pub returns-clause-made : goal.returns-clause-made
returns-clause-made c = made_of c.args.objects.now c.args.names.now c.args.resolution.now c.merged_under.result c.merged_under.ensures
