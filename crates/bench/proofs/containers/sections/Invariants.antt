use Rattle.std.proofs.Common.{◌≤◌, length}
use Rattle.std.specs.Prelude.{All}
use Rattle.elf_container.specs.Container.{IsPlain}
use Rattle.bench.proofs.containers.sections.Given as goal

abbrev pub invariant-loop-place : goal.invariant-loop-place
invariant-loop-place l = record { few : length l.sections ≤ l.place; plain : All IsPlain l.sections }
