use Rattle.std.proofs.Common.{length, ap, arith}
use Rattle.workload_gen.proofs.Placing.{length-declared, place_in-own, place_in-other}
use Rattle.workload_gen.proofs.places.Places.place.Goals as goal

pub overflow_cast-result : goal.overflow_cast-result
overflow_cast-result c =
    let places = c.args.self.now in
    let few = length-declared places.choices.now places.module_number places.forward places.some in
    omega (arith, few, ap length places.listed, c.len.ensures, places.numbered)

pub overflow_add-result : goal.overflow_add-result
overflow_add-result c =
    let places = c.args.self.now in
    let few = length-declared places.choices.now places.module_number places.forward places.some in
    omega (arith, few, ap length places.listed, c.len.ensures, places.numbered, places.ended, c.if-number-self.true)

pub returns-then-number-self : goal.returns-then-number-self
returns-then-number-self c =
    let places = c.args.self.now in
    let long = ap length places.listed in
    place_in-own places.choices.now places.module_number c.args.number c.len.result places.forward c.requires
    (omega (arith, c.if-number-self.true, places.ended)) (omega (arith, long, c.len.ensures))

pub returns-else-number-self : goal.returns-else-number-self
returns-else-number-self c =
    let places = c.args.self.now in
    place_in-other places.choices.now places.module_number c.args.number _ _ places.forward c.requires places.ended places.counted places.enough
    (omega (arith, c.if-number-self.false)) _ _ c.index.ensures
