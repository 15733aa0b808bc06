use Rattle.std.proofs.Common.{◌≡◌, map, take}
use Rattle.std.specs.Prelude.{All}
use Rattle.gimple_ir.specs.declared.plan.Version.{Version}
use Rattle.program_link.specs.Known.{IsPart}
use Rattle.program_link.specs.Versions.{version_in}
use Rattle.program_link.specs.Objects.{object_of}
use Rattle.program_link.proofs.linking.compile_all.Given as goal

abbrev pub invariant-loop-version : goal.invariant-loop-version
invariant-loop-version l = record {
  objects : l.parts.items ≡ map (λ (v : Version). object_of (version_in l.program l.merged l.plan v)) (take l.version-index l.plan.versions);
  parts : All IsPart l.parts.items;
}
