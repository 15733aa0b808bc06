use Rattle.std.proofs.Common.{◌∙◌, ◌++◌, ◌∷◌, [], false, map, sym, ap, arith}
use Rattle.std.specs.List.{range_with_len}
use Rattle.std.proofs.lemmas.Grind.{common_steps}
use Rattle.std.proofs.lemmas.List.FromFn.{map-range_with_len_more}
use Rattle.std.proofs.lemmas.List.Sums.{count_by_more_yes, count_by_more_no}
use Rattle.ipa_plan.specs.Plans.{version_place}
use Rattle.ipa_plan.proofs.numbering.places.Goals.{then-is_live, else-is_live}
use Rattle.ipa_plan.proofs.numbering.places.Goals as goal

pub loop-is_live-preserved : goal.loop-is_live-preserved
loop-is_live-preserved c =
    let live = c.args.live.now in
    let i = c.loop-is_live.is_live-index in
    record {
      places =
          c.in_ok-push.ensures.items ∙ ap (λ ns. ns ++ c.loop-is_live.before ∷ []) c.loop-is_live.invariant.places
          ∙ ap (λ n. map (version_place live) (range_with_len 0 i) ++ n ∷ []) c.loop-is_live.invariant.before ∙ sym (map-range_with_len_more (version_place live) 0 i i (omega arith));
      before = elim c.if-is_live.branch [
        | then-is_live w ↦ grind (arith, common_steps, c.loop-is_live.invariant.before, w.before-is, count_by_more_yes (λ b. b) live i false)
        | else-is_live w ↦ grind (arith, common_steps, c.loop-is_live.invariant.before, w.before-is, count_by_more_no (λ b. b) live i false)
      ];
    }
