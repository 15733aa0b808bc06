use Rattle.std.proofs.Common.{◌≡◌, ◌++◌, arith}
use Rattle.std.specs.Option.{option_to_list}
use Rattle.std.proofs.lemmas.Grind.{common_steps}
use Rattle.gimple_syntax.specs.Items.{struct_of, struct_in}
use Rattle.gimple_syntax.proofs.Parts.{parts-more}
use Rattle.gimple_syntax.proofs.modules.structs_of.Goals as goal
use Rattle.gimple_syntax.proofs.modules.structs_of.Goals.{in-Some+in_ok-push, in_default}

pub loop-item-preserved : goal.loop-item-preserved
loop-item-preserved c =
    let step : c.match-branch-2.found ≡ c.loop-item.found ++ option_to_list c.in_ok-part.field-0 = elim c.match-branch-2.branch [
      | in-Some+in_ok-push w ↦ grind (arith, common_steps)
      | in_default w ↦ grind (arith, common_steps)
    ] in
    parts-more struct_of (λ i. struct_in i.item) c.args.items.now c.loop-item.item-index c.item-item.result c.in_ok-part.field-0 c.loop-item.found c.match-branch-2.found
    (omega arith) c.item-item.is c.in_ok-part.ensures c.loop-item.invariant step
