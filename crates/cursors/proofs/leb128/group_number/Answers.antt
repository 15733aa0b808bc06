use Rattle.std.proofs.Common.{◌≤◌, ◌^◌, refl, arith}
use Rattle.std.proofs.lemmas.Bool.{le-ltb}
use Rattle.cursors.specs.Leb128.{number_of}
use Rattle.cursors.proofs.GroupSteps.{too_wide}
use Rattle.cursors.proofs.leb128.group_number.Goals as goal

pub returns-then-number : goal.returns-then-number
returns-then-number c =
    let wide : 2 ^ 64 ≤ number_of c.args.group.now = too_wide c.args.group.now c.loop-place.place (omega arith) c.loop-place.invariant.within (omega arith) in
    rw (le-ltb (number_of c.args.group.now) (2 ^ 64) wide) refl
