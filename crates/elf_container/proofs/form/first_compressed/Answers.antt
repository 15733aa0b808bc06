use Rattle.elf_container.specs.Reading.{is_compressed}
use Rattle.elf_container.proofs.FormSteps.{none_found}
use Rattle.elf_container.proofs.form.first_compressed.Goals as goal

pub returns-clause-none : goal.returns-clause-none
returns-clause-none c = none_found is_compressed c.args.headers.now c.compressed_place.result c.compressed_place.ensures.value
