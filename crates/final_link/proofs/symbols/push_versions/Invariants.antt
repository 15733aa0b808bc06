use Rattle.std.proofs.Common.{◌≡◌, ◌++◌, drop}
use Rattle.final_link.specs.Stubs.{functions_address}
use Rattle.final_link.specs.Names.{named}
use Rattle.final_link.specs.Members.{version_size}
use Rattle.final_link.specs.Symbols.{end_of, places_of}
use Rattle.final_link.proofs.symbols.push_versions.Given as goal

abbrev pub invariant-loop-version : goal.invariant-loop-version
invariant-loop-version l = record {
  end : end_of (version_size l.members) l.at (drop l.version-index l.versions) ≡ end_of (version_size l.members) functions_address l.versions;
  entries : named l.entries.items ++ places_of (λ v. v.symbol) (version_size l.members) l.at (drop l.version-index l.versions)
      ≡ named l.initial.entries.items ++ places_of (λ v. v.symbol) (version_size l.members) functions_address l.versions;
}
