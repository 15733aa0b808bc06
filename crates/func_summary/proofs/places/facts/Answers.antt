use Rattle.std.proofs.Common.{◌<◌, ◌+◌, ◌^◌, ◌∙◌, [], take, length, arith}
use Rattle.std.proofs.lemmas.List.{length-take}
use Rattle.std.proofs.lemmas.List.Elements.{All-same}
use Rattle.func_summary.specs.Summaries.{facts_of}
use Rattle.func_summary.specs.Tables.{HasRoom, facts_table}
use Rattle.func_summary.proofs.Keyed.{rows_none, facts_table-HasRoom}
use Rattle.func_summary.proofs.places.facts.Goals as goal

pub loop-place-init : goal.loop-place-init
loop-place-init c = c.in_ok-facts.ensures.items_if_clones_equal (λ y h. h) ∙ rows_none (facts_of []) 0 c.args.parameters

pub count_one-requires : goal.count_one-requires
count_one-requires c =
    let seen = take c.loop-place.place-index c.args.places.now in
    let few : length seen + 1 < 2 ^ 32 = omega (arith, c.requires, length-take c.loop-place.place-index c.args.places.now) in
    All-same HasRoom c.loop-place.facts.items (facts_table c.args.parameters seen) c.loop-place.invariant (facts_table-HasRoom c.args.parameters seen few)
