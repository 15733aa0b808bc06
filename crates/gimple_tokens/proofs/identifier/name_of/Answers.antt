use Rattle.gimple_tokens.proofs.Named.{IsName-from_identifier}
use Rattle.gimple_tokens.proofs.identifier.name_of.Goals as goal

pub unreachable-requires : goal.unreachable-requires
unreachable-requires c = (rw c.in-None.is at c.in_ok-name.ensures) (IsName-from_identifier c.args.bytes.now c.requires)
