use Rattle.elf_container.proofs.NamesSeen.{holds-add}
use Rattle.elf_container.proofs.object_form.add.Goals as goal

pub returns-clause-added : goal.returns-clause-added
returns-clause-added c =
    holds-add c.args.name.now c.as_str.result.now c.args.seen.now c.insert.new.self c.as_str.ensures.value c.in_ok-old.ensures.updates
