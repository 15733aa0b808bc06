use Rattle.std.proofs.Common.{List, subst}
use Rattle.std.specs.Prelude.{All, map}
use Rattle.elf_container.specs.declared.sections.OwnSection.{OwnSection}
use Rattle.elf_container.specs.Container.{IsWritable, IsContainer}
use Rattle.elf_container.proofs.Laying.{on_ok_then, writable_container}
use Rattle.elf_container.proofs.writing.write_rel.Goals as goal

pub returns-clause-container : goal.returns-clause-container
returns-clause-container c =
    let ss = c.args.sections.now in
    on_ok_then c.lay_out.result (All IsWritable (map (λ (s : OwnSection). s) c.as_slice-2.result.now)) (IsContainer ss) c.lay_out.ensures.fit
    (λ all. writable_container ss c.requires.few c.requires.plain (subst (λ (xs : List OwnSection). All IsWritable (map (λ s. s) xs)) c.as_slice-2.ensures all))
