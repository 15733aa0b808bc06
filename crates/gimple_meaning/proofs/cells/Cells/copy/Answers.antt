use Rattle.std.proofs.Common.{◌∙◌, ap, ◌+◌, slice_set}
use Rattle.gimple_meaning.proofs.Handing.{copied-more}
use Rattle.gimple_meaning.proofs.cells.Cells.copy.Goals as goal

pub loop-place-preserved : goal.loop-place-preserved
loop-place-preserved c =
    c.set.ensures ∙ ap (slice_set c.loop-place.self (c.args.to + c.loop-place.place)) c.get-value.ensures.value
    ∙ copied-more c.args.self.now c.loop-place.self c.args.to c.args.from c.loop-place.place c.loop-place.invariant
