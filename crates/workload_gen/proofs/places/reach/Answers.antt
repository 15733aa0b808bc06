use Rattle.std.proofs.Common.{arith}
use Rattle.workload_gen.proofs.Calling.{length-own_choices, Reaches-near}
use Rattle.workload_gen.proofs.places.reach.Goals as goal

pub overflow_sub-count : goal.overflow_sub-count
overflow_sub-count c = omega (arith, length-own_choices c.args.choices.now c.args.module_number, c.requires.ended, c.requires.some)

pub returns-then-module_number-eq0-clause-after : goal.returns-then-module_number-eq0-clause-after
returns-then-module_number-eq0-clause-after c = omega (arith, length-own_choices c.args.choices.now c.args.module_number, c.requires.ended, c.requires.some)

pub returns-else-module_number-eq0-clause-reaches : goal.returns-else-module_number-eq0-clause-reaches
returns-else-module_number-eq0-clause-reaches c =
    Reaches-near c.args.choices.now c.args.module_number _ c.requires.forward c.if-module_number-eq0.false (omega (arith, c.min.ensures, c.requires.ended)) c.requires.some

pub returns-else-module_number-eq0-clause-within : goal.returns-else-module_number-eq0-clause-within
returns-else-module_number-eq0-clause-within c = omega (arith, length-own_choices c.args.choices.now c.args.module_number, c.requires.ended, c.requires.some)
