use Rattle.std.proofs.Common.{◌≡◌, drop}
use Rattle.final_link.specs.Stubs.{functions_address}
use Rattle.final_link.specs.Members.{version_size}
use Rattle.final_link.specs.Symbols.{end_of}
use Rattle.final_link.proofs.symbols.code_end.Given as goal

abbrev pub invariant-loop-version : goal.invariant-loop-version
invariant-loop-version l = end_of (version_size l.members) l.end (drop l.version-index l.versions) ≡ end_of (version_size l.members) functions_address l.versions
