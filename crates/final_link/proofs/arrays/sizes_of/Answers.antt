use Rattle.std.proofs.Common.{arith}
use Rattle.final_link.specs.Arrays.{size_of}
use Rattle.final_link.specs.Symbols.{end_of}
use Rattle.final_link.proofs.PlaceLaws.{next_ends}
use Rattle.final_link.proofs.arrays.sizes_of.Goals as goal

pub overflow_add-end : goal.overflow_add-end
overflow_add-end c =
    let size = size_of c.args.merged.now in
    let room = next_ends size c.loop-number.end (end_of size 0 c.args.numbers.now) c.args.numbers.now c.loop-number.number-index 0 (omega arith) c.loop-number.invariant in
    omega (arith, room, c.requires, c.size_of-end.ensures.value)
