use Rattle.elf_container.proofs.NameLaws.{named_by}
use Rattle.lto_object.proofs.symbols.named.Goals as goal

pub returns : goal.returns
returns c = named_by c.read.result c.args.bytes.now c.read.ensures
