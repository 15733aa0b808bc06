use Rattle.std.proofs.Common.{◌≡◌, [], ◌+◌, ◌<◌, length, subst, arith}
use Rattle.std.proofs.lemmas.List.Elements.{All-from_recursion}
use Rattle.gimple_ir.specs.declared.summary.Edge.{Edge}
use Rattle.call_graph.proofs.Search.{IsSearch, begins, goes_on, ends, falls, top_below, callees_below, unmarked, none_left}
use Rattle.call_graph.proofs.marking.live.Goals as goal

pub loop-place-init : goal.loop-place-init
loop-place-init c =
    begins c.args.merged.now c.in_ok-live.live.items c.in_ok-waiting.waiting.items (rw c.as_slice.ensures at c.in_ok-live.ensures) (rw c.deref.ensures.value at c.in_ok-waiting.ensures)

pub get-function-requires : goal.get-function-requires
get-function-requires c =
    top_below c.args.merged.now c.loop-place.live.items c.pop.new.self.items c.in-Some.place (subst (IsSearch c.args.merged.now c.loop-place.live.items) c.in-Some.ensures.items c.loop-place.invariant)

pub mark_callees-requires : goal.mark_callees-requires
mark_callees-requires c =
    rw c.as_slice-in-Some.ensures (All-from_recursion (λ (e : Edge). e.callee < length c.loop-place.live.items) c.get-function.result.now.summary.edges
    (callees_below c.args.merged.now c.loop-place.live.items c.loop-place.waiting.items c.in-Some.place c.get-function.result.now c.requires.callees c.get-function.ensures c.loop-place.invariant))

pub loop-place-smaller : goal.loop-place-smaller
loop-place-smaller c =
    let range = callees_below c.args.merged.now c.loop-place.live.items c.loop-place.waiting.items c.in-Some.place c.get-function.result.now c.requires.callees c.get-function.ensures c.loop-place.invariant in
    let fall = falls c.loop-place.live.items c.pop.new.self.items c.in-Some.place c.get-function.result.now.summary.edges range in
    let live = rw c.as_slice-in-Some.ensures at c.in_ok-mark_callees.ensures.live in
    let waiting = rw c.as_slice-in-Some.ensures at c.in_ok-mark_callees.ensures.waiting in
    let left : unmarked c.mark_callees.new.live.items + length c.mark_callees.new.waiting.items < unmarked c.loop-place.live.items + length c.loop-place.waiting.items = rw (live, waiting, c.in-Some.ensures.items) fall in
    left

pub loop-place-preserved : goal.loop-place-preserved
loop-place-preserved c =
    let next = goes_on c.args.merged.now c.loop-place.live.items c.pop.new.self.items c.in-Some.place c.get-function.result.now c.requires.callees c.get-function.ensures
    (subst (IsSearch c.args.merged.now c.loop-place.live.items) c.in-Some.ensures.items c.loop-place.invariant) in
    let live = rw c.as_slice-in-Some.ensures at c.in_ok-mark_callees.ensures.live in
    let waiting = rw c.as_slice-in-Some.ensures at c.in_ok-mark_callees.ensures.waiting in
    rw (live, waiting) next

pub returns : goal.returns
returns c =
    let empty : c.loop-place.waiting.items ≡ [] = none_left c.loop-place.waiting.items (omega (arith, c.in_default.ensures.cases.0)) in
    rw c.from_vec.ensures (ends c.args.merged.now c.loop-place.live.items (subst (IsSearch c.args.merged.now c.loop-place.live.items) empty c.loop-place.invariant))
