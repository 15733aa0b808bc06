use Rattle.std.proofs.Common.{ap, subst, ◌∙◌}
use Rattle.std.specs.Prelude.{IfSome, bit_and}
use Rattle.gimple_ir.specs.Names.{IsName}
use Rattle.elf_container.specs.declared.sections.Fields.{Fields}
use Rattle.elf_container.proofs.FormSteps.{uncompressed}
use Rattle.elf_container.proofs.reading.section_at.Goals as goal

pub returns-in-Some-clause-section : goal.returns-in-Some-clause-section
returns-in-Some-clause-section c = record {
  plain = record {
    least = c.if-fields-lt-SHT_PROGBITS.false;
    most = c.if-fields-gt-SHT_RELA.false;
    uncompressed = ap (λ (f : Fields). bit_and f.flags 0x800) c.fields_in-fields.ensures.value ∙ uncompressed c.args.header.now c.requires.plain;
  };
  name = subst (λ o. IfSome o IsName) c.in-Some.is c.in_ok-name_at.ensures.name;
  fields = c.fields_in-fields.ensures.fit;
}
