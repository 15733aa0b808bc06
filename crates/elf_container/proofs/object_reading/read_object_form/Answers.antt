use Rattle.std.proofs.Common.{arith}
use Rattle.elf_container.specs.Reading.{read_of}
use Rattle.elf_container.proofs.ObjectLaws.{answers_found, answers_only, answers_at}
use Rattle.elf_container.proofs.object_reading.read_object_form.Goals as goal

pub returns-clause-found : goal.returns-clause-found
returns-clause-found c = answers_found c.args.bytes.now c.answer.result (read_of c.args.bytes.now) c.answer.ensures

pub returns-clause-only : goal.returns-clause-only
returns-clause-only c = λ o h fits e. answers_only c.args.bytes.now c.answer.result o (omega arith) h fits e c.answer.ensures

pub returns-clause-offset : goal.returns-clause-offset
returns-clause-offset c = answers_at c.args.bytes.now c.answer.result (read_of c.args.bytes.now) c.answer.ensures
