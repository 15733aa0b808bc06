use Rattle.std.proofs.Common.{List, length, sym, ap, subst, arith}
use Rattle.std.specs.Prelude.{All}
use Rattle.elf_container.specs.declared.sections.OwnSection.{OwnSection}
use Rattle.elf_container.specs.Container.{IsPlain}
use Rattle.elf_container.proofs.ObjectLaws.{sections_len, sections_plain}
use Rattle.elf_container.proofs.relocatable.write_object.Goals as goal

pub write_rel-requires-clause-few : goal.write_rel-requires-clause-few
write_rel-requires-clause-few c = omega (arith, ap length c.in_ok-sections.ensures.value, sections_len c.args.object.now)

pub write_rel-requires-clause-plain : goal.write_rel-requires-clause-plain
write_rel-requires-clause-plain c = subst (λ (ss : List OwnSection). All IsPlain ss) (sym c.in_ok-sections.ensures.value) (sections_plain c.args.object.now)
