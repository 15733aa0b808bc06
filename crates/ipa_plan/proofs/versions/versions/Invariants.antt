use Rattle.std.proofs.Common.{◌≡◌, ◌++◌, ℕ}
use Rattle.gimple_ir.specs.declared.merged.MergedFunction.{MergedFunction}
use Rattle.call_graph.specs.Live.{marked}
use Rattle.ipa_plan.specs.Plans.{version_of, versions_by}
use Rattle.ipa_plan.proofs.Listing.{made_from}
use Rattle.ipa_plan.proofs.versions.versions.Given as goal

abbrev pub invariant-loop-number : goal.invariant-loop-number
invariant-loop-number l =
    l.versions.items ++ made_from (λ (e : ℕ × MergedFunction). version_of l.merged l.numbering.live e.0 e.1) (marked l.numbering.live) l.number l.merged.functions
    ≡ versions_by l.merged l.numbering.live
