use Rattle.follow_laws.proofs.FrameLaws.{low_byte_kept, fresh_held, store_apart, store_sets, operand_held, data_reached}
use Rattle.follow_laws.proofs.frames.Goals as goal

pub returns : goal.returns
returns c = record { low_byte = low_byte_kept; fresh = fresh_held; apart = store_apart; sets = store_sets; operand = operand_held; reached = data_reached }
