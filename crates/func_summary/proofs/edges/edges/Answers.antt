use Rattle.std.proofs.Common.{ap, sym, ◌∙◌, ◌++◌, []}
use Rattle.std.specs.List.{cons_option}
use Rattle.func_summary.specs.Summaries.{edge_of}
use Rattle.func_summary.proofs.Calls.{given_here}
use Rattle.func_summary.proofs.edges.edges.Goals as goal

pub loop-place-preserved : goal.loop-place-preserved
loop-place-preserved c =
    let jumps = c.args.jumps.now in
    let next = cons_option (edge_of jumps c.loop-place.place c.get.result.now) [] in
    c.in_ok-push_edge.ensures ∙ ap (λ es. es ++ next) c.loop-place.invariant
    ∙ sym (given_here (λ pair. edge_of jumps pair.0 pair.1) c.function.result.now.body c.loop-place.place c.get.result.now c.get.ensures)
