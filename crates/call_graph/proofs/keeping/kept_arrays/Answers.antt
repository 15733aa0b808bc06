use Rattle.std.proofs.Common.{◌≡◌, ℕ, ◌∙◌, List, Bool, ap}
use Rattle.call_graph.specs.Live.{marked}
use Rattle.call_graph.specs.Marking.{places_of}
use Rattle.call_graph.specs.Keeping.{kept_of, is_kept}
use Rattle.call_graph.proofs.Kept.{places_of-kept, kept_of-IsKept}
use Rattle.call_graph.proofs.keeping.kept_arrays.Goals as goal
use Rattle.call_graph.proofs.keeping.kept_arrays.Goals.{After-drop-kept-2}

exact : (c : After-drop-kept-2) → c.from_vec.result ≡ kept_of c.args.merged.now c.args.live.now
exact c =
    let kept = c.in_ok-kept.kept.items in
    let same : (a : ℕ) → marked kept a ≡ is_kept c.args.merged.now c.args.live.now a = λ a. c.in_ok-kept.ensures.kept a ∙ ap (λ (live : List Bool). is_kept c.args.merged.now live a) c.as_slice.ensures in
    c.from_vec.ensures ∙ c.in_ok-numbers.ensures ∙ ap places_of c.deref.ensures.value ∙ places_of-kept c.args.merged.now c.args.live.now kept c.in_ok-kept.ensures.len same

pub returns-clause-exact : goal.returns-clause-exact
returns-clause-exact c = exact c

pub returns-clause-kept : goal.returns-clause-kept
returns-clause-kept c = λ a. rw (exact c) (kept_of-IsKept c.args.merged.now c.args.live.now c.requires.arrays c.requires.live a)
