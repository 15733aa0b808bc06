use Rattle.std.proofs.Common.{List, length, sym, ap, subst, arith}
use Rattle.std.specs.Prelude.{All}
use Rattle.elf_container.specs.declared.sections.OwnSection.{OwnSection}
use Rattle.elf_container.specs.Container.{IsPlain}
use Rattle.lto_object.proofs.SymbolFits.{module_plain, module_few}
use Rattle.lto_object.proofs.writing.lgen.Goals as goal

pub write_rel-requires-clause-few : goal.write_rel-requires-clause-few
write_rel-requires-clause-few c = omega (arith, ap length c.in_ok-sections.ensures, module_few c.args.source.now)

pub write_rel-requires-clause-plain : goal.write_rel-requires-clause-plain
write_rel-requires-clause-plain c = subst (λ (ss : List OwnSection). All IsPlain ss) (sym c.in_ok-sections.ensures) (module_plain c.args.source.now)
