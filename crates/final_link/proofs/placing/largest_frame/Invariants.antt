use Rattle.std.proofs.Common.{◌≡◌, drop}
use Rattle.std.specs.Prelude.{max}
use Rattle.std.specs.List.{fold}
use Rattle.final_link.specs.Members.{version_frame, largest_frame}
use Rattle.final_link.proofs.placing.largest_frame.Given as goal

abbrev pub invariant-loop-version : goal.invariant-loop-version
invariant-loop-version l =
    fold (λ largest v. max largest (version_frame l.parts l.members v)) l.largest (drop l.version-index l.versions) ≡ largest_frame l.parts l.members l.versions
