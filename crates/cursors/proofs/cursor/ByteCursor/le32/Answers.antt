use Rattle.std.proofs.Common.{ap}
use Rattle.cursors.specs.Fixed.{le32}
use Rattle.cursors.proofs.FixedLaws.{as_ok, le_only, le_stands}
use Rattle.cursors.proofs.cursor.ByteCursor.le32.Goals as goal

pub returns-in-Ok-clause-only : goal.returns-in-Ok-clause-only
unfolding le32
returns-in-Ok-clause-only c = λ x rest lt e.
    let t = le_only 4 c.args.self.now c.slice.new.self c.in-Ok.field.now c.number32.result c.in-Ok.ensures c.number32.ensures.value x rest lt e in
    (ap as_ok t.0, t.1)

pub returns-in-Err-clause-only : goal.returns-in-Err-clause-only
unfolding le32
returns-in-Err-clause-only c = λ x rest lt e. absurd (le_stands 4 c.args.self.now c.in-Err.error c.in-Err.ensures.0 x rest e)
