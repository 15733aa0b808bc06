use Rattle.std.proofs.Common.{arith}
use Rattle.final_link.specs.Arrays.{size_of}
use Rattle.final_link.specs.Symbols.{end_of}
use Rattle.final_link.proofs.PlaceLaws.{next_ends}
use Rattle.final_link.proofs.arrays.symbols_from.Goals as goal

pub overflow_cast-address : goal.overflow_cast-address
overflow_cast-address c =
    let size = size_of c.args.merged.now in
    let room = next_ends size c.loop-number.address (end_of size c.args.at c.args.numbers.now) c.args.numbers.now c.loop-number.number-index 0 (omega arith) c.loop-number.invariant.end in
    omega (arith, room, c.requires, c.size_of-size.ensures.value)

pub overflow_add-address : goal.overflow_add-address
overflow_add-address c =
    let size = size_of c.args.merged.now in
    let room = next_ends size c.loop-number.address (end_of size c.args.at c.args.numbers.now) c.args.numbers.now c.loop-number.number-index 0 (omega arith) c.loop-number.invariant.end in
    omega (arith, room, c.requires, c.size_of-size.ensures.value)
