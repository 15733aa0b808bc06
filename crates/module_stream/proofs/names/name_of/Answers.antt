use Rattle.module_stream.proofs.NameLaws.{name_from_identifier}
use Rattle.module_stream.proofs.names.name_of.Goals as goal

pub unreachable-requires : goal.unreachable-requires
unreachable-requires c =
    let none = rw c.in-None.is at c.in_ok-name.ensures in
    none (name_from_identifier c.args.bytes.now c.requires)
