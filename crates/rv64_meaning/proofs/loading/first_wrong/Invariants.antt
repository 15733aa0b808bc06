use Rattle.std.proofs.Common.{◌≡◌, map, drop}
use Rattle.rv64_meaning.specs.Loading.{first_wrong}
use Rattle.rv64_meaning.specs.LoadingCode.{is_field}
use Rattle.rv64_meaning.proofs.loading.first_wrong.Given as goal

abbrev pub invariant-loop-at : goal.invariant-loop-at
invariant-loop-at l = first_wrong (map (is_field l.image) l.fields) ≡ first_wrong (map (is_field l.image) (drop l.at-index l.fields))
