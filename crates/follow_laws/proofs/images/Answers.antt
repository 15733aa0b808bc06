use Rattle.follow_laws.proofs.LoadLaws.{parts_load, parts_have_segments, parts_have_data, parts_have_code}
use Rattle.follow_laws.proofs.images.Goals as goal

pub returns : goal.returns
returns c = record { loads = parts_load; segments = parts_have_segments; stored = parts_have_data; code = parts_have_code }
