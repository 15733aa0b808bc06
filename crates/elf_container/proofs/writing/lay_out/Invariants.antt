use Rattle.std.proofs.Common.{◌≡◌, ◌≤◌, ◌+◌, ◌*◌, length, take}
use Rattle.std.specs.Prelude.{map, All}
use Rattle.elf_container.specs.Container.{IsWritable}
use Rattle.std.specs.List.{fold}
use Rattle.elf_container.specs.Layout.{start, placed}
use Rattle.elf_container.proofs.writing.lay_out.Given as goal

-- those so far are placed
abbrev pub invariant-loop-section : goal.invariant-loop-section
invariant-loop-section g l = record { placed : l.laid ≡ fold placed start (map g.S.Placed.as_own (take l.section-index l.sections)); names : length l.laid.names ≤ 1 + 301 * l.section-index; room : 64 ≤ length l.laid.file; fit : All IsWritable (map g.S.Placed.as_own (take l.section-index l.sections)) }
