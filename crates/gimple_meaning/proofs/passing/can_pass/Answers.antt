use Rattle.std.proofs.Common.{◌∙◌, ap}
use Rattle.std.specs.List.{list_all}
use Rattle.gimple_meaning.specs.Moves.{passes}
use Rattle.gimple_meaning.proofs.Handing.{can_pass-list_all}
use Rattle.gimple_meaning.proofs.passing.can_pass.Goals as goal

pub returns : goal.returns
returns c = c.all_pass.ensures ∙ ap (list_all (passes c.args.cells.now)) c.as_slice.ensures ∙ can_pass-list_all c.args.cells.now c.args.args.now
