use Rattle.follow_laws.proofs.PlacedLaws.{direct_loads, direct_is_placed}
use Rattle.follow_laws.proofs.direct_images.Goals as goal

pub returns : goal.returns
returns c = record { loads = direct_loads; placed = direct_is_placed }
