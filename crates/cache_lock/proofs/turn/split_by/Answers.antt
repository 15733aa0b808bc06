use Rattle.std.proofs.Common.{rules}
use Rattle.cache_lock.proofs.Keeping.{splits}
use Rattle.cache_lock.proofs.turn.split_by.Goals as goal

pub split_seat-requires : goal.split_seat-requires
split_seat-requires g c = (search rules, search rules, splits _ _ _ _ _ g.N.Amount.amount (search rules) c.requires.amount.2)
