use Rattle.std.proofs.Common.{ap, ◌∙◌}
use Rattle.rv64_meaning.specs.Bytes.{number_of}
use Rattle.rv64_meaning.proofs.ByteLaws.{range_is}
use Rattle.rv64_meaning.proofs.LoadingLaws.{number_there}
use Rattle.rv64_meaning.proofs.loading.number_at.Goals as goal

pub returns : goal.returns
returns c = c.number.ensures ∙ ap number_of (range_is c.args.image.now c.args.at c.args.width) ∙ number_there c.args.image.now c.args.at c.args.width c.requires.inside
