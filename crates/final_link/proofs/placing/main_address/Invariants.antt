use Rattle.std.proofs.Common.{◌≡◌, drop}
use Rattle.std.specs.List.{find}
use Rattle.final_link.specs.Placing.{is_first_of}
use Rattle.final_link.proofs.placing.main_address.Given as goal

abbrev pub invariant-loop-version : goal.invariant-loop-version
invariant-loop-version l = find (is_first_of l.main) (drop l.version-index l.versions) ≡ find (is_first_of l.main) l.versions
