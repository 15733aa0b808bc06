use Rattle.std.proofs.Common.{refl}
use Rattle.elf_container.proofs.NamesSeen.{holds-add}
use Rattle.lto_object.proofs.form.add.Goals as goal

pub returns-clause-added : goal.returns-clause-added
returns-clause-added c = holds-add c.args.name.now c.args.name.now c.args.seen.now c.insert.new.self refl c.in_ok-old.ensures.updates
