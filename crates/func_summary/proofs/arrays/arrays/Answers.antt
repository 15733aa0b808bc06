use Rattle.std.proofs.Common.{◌≡◌, ◌+◌, ◌<◌, ◌≤◌, length, sym, ap, ◌∙◌, arith}
use Rattle.std.specs.Prelude.{Contains}
use Rattle.std.specs.List.{flat_map, range_with_len}
use Rattle.std.proofs.lemmas.List.Elements.{All-contains, All-contains_itself, All-weaker, filter_agree}
use Rattle.std.proofs.lemmas.Map.Keys.{sorted_from_strictly_increasing}
use Rattle.func_summary.specs.Summaries.{arrays_in, names_array}
use Rattle.func_summary.specs.Ready.{IsArrayOf}
use Rattle.func_summary.proofs.Ascending.{has, ascending_is, has-same}
use Rattle.func_summary.proofs.arrays.arrays.Goals as goal

pub returns : goal.returns
returns c =
    let source = c.args.source.now in
    let body = c.args.function.now.body in
    let n = length source.arrays in
    let arrays = c.ascending.result.items in
    let named : c.in_ok-named.named.items ≡ flat_map arrays_in body = c.in_ok-named.ensures ∙ ap (flat_map arrays_in) c.as_slice.ensures in
    let kept = c.ascending.ensures in
    let below = All-weaker (λ x. Contains arrays x) (λ x. x < 0 + n)
    (λ x h. omega (arith, All-contains (IsArrayOf source) (flat_map arrays_in body) x c.requires (rw named at (kept.adds_none x h)))) arrays (All-contains_itself arrays) in
    let above = All-weaker (λ x. Contains arrays x) (λ x. 0 ≤ x) (λ x h. omega arith) arrays (All-contains_itself arrays) in
    let same = has-same arrays (flat_map arrays_in body) (λ x h. rw named at (kept.adds_none x h)) (λ x h. kept.keeps x (rw (sym named) at h)) in
    c.from_vec.ensures ∙ ascending_is 0 n arrays (sorted_from_strictly_increasing arrays kept.ascends) above below
    ∙ filter_agree (has arrays) (names_array c.args.function.now) same (range_with_len 0 n)
