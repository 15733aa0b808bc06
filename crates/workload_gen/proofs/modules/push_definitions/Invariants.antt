use Rattle.std.proofs.Common.{◌≡◌, ◌++◌, ◌+◌, ◌*◌, take}
use Rattle.workload_gen.specs.Modules.{definitions_from, own_choices, place_in}
use Rattle.workload_gen.proofs.modules.push_definitions.Given as goal

abbrev pub invariant-loop-choice : goal.invariant-loop-choice
invariant-loop-choice l =
    (l.number ≡ 50 * l.places.module_number + l.choice-index)
    × (l.functions.items
    ≡ l.initial.functions.items
    ++ definitions_from (place_in l.places.choices.now l.places.module_number) (50 * l.places.module_number)
    (take l.choice-index (own_choices l.places.choices.now l.places.module_number)))
