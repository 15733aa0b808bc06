use Rattle.std.proofs.Common.{◌≡◌, ◌+◌, ◌++◌, drop, vec_len}
use Rattle.std.specs.List.{flat_map}
use Rattle.final_link.specs.Stubs.{functions_address}
use Rattle.final_link.specs.Image.{word}
use Rattle.final_link.specs.Members.{version_size}
use Rattle.final_link.specs.Symbols.{end_of}
use Rattle.final_link.specs.Placing.{code_from}
use Rattle.final_link.proofs.placing.code_of.Given as goal

abbrev pub invariant-loop-version : goal.invariant-loop-version
invariant-loop-version l = record {
  at : l.at ≡ functions_address + vec_len l.code;
  end : end_of (version_size l.members) l.at (drop l.version-index l.versions) ≡ end_of (version_size l.members) functions_address l.versions;
  bytes : l.code.items ++ flat_map word (code_from l.parts l.members l.symbols l.at (drop l.version-index l.versions))
      ≡ flat_map word (code_from l.parts l.members l.symbols functions_address l.versions);
}
