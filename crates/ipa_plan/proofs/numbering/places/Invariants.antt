use Rattle.std.proofs.Common.{◌≡◌, map}
use Rattle.std.specs.List.{range_with_len}
use Rattle.ipa_plan.specs.Plans.{version_place}
use Rattle.ipa_plan.proofs.numbering.places.Given as goal

abbrev pub invariant-loop-is_live : goal.invariant-loop-is_live
invariant-loop-is_live l = record {
  places : l.places.items ≡ map (version_place l.live) (range_with_len 0 l.is_live-index);
  before : l.before ≡ version_place l.live l.is_live-index;
}
