use Rattle.std.proofs.Common.{[], ◌*◌, ◌++◌, sym, ap, ◌∙◌, arith, append-nil, ◌∷◌}
use Rattle.workload_gen.specs.Modules.{own_choices, place_in}
use Rattle.workload_gen.proofs.Listing.{own_called, definitions_more, definitions_none}
use Rattle.workload_gen.proofs.modules.push_definitions.Goals as goal

pub definition-requires : goal.definition-requires
definition-requires c =
    let places = c.args.places.now in
    own_called places.choices.now _ places.module_number c.loop-choice.choice-index _ places.forward c.own-choice-items.ensures c.loop-choice-test.true

pub loop-choice-init : goal.loop-choice-init
loop-choice-init c =
    let places = c.args.places.now in
    let m = places.module_number in
    let none = definitions_none (place_in places.choices.now m) (50 * m) (own_choices places.choices.now m) in
    (omega arith, sym (ap (λ xs. c.args.functions.now.items ++ xs) none ∙ append-nil c.args.functions.now.items))

pub loop-choice-preserved : goal.loop-choice-preserved
loop-choice-preserved c =
    let places = c.args.places.now in
    let m = places.module_number in
    let choices = places.choices.now in
    let i = c.loop-choice.choice-index in
    let number = c.loop-choice.invariant.0 in
    let made = c.in_ok-push.ensures.items ∙ ap (λ f. c.loop-choice.functions.items ++ f ∷ []) c.in_ok-definition.ensures in (
      omega (arith, number),
      definitions_more (place_in choices m) (50 * m) i c.loop-choice.number (own_choices choices m) _ _ c.args.functions.now.items _ _
          c.own-choice-items.ensures c.loop-choice-test.true number c.loop-choice.invariant.1 made,
    )
