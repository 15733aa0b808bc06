use Rattle.std.proofs.Common.{◌∙◌}
use Rattle.workload_gen.proofs.Listing.{functions_whole}
use Rattle.workload_gen.proofs.modules.functions_of.Goals as goal

pub returns : goal.returns
returns c =
    let places = c.in_ok-places.places in
    functions_whole c.args.choices.now places.choices.now c.args.draws.state c.args.module_number places.module_number _ _ _ _ _
    c.in_ok-places.ensures.choices c.in_ok-places.ensures.module_number (c.as_slice.ensures.value ∙ places.listed) c.in_ok-functions.ensures.items
    c.in_ok-push_declarations.ensures c.in_ok-push_definitions.ensures (c.from_vec.ensures ∙ c.in_ok-push_main.ensures)
