use Rattle.std.proofs.Common.{◌≡◌, ◌+◌, drop}
use Rattle.std.specs.Prelude.{option_map}
use Rattle.cursors.specs.Leb128.{group_len}
use Rattle.cursors.proofs.leb128.group_length.Given as goal

-- none of the bytes so far ends the group
abbrev pub invariant-loop-place : goal.invariant-loop-place
invariant-loop-place l = group_len l.bytes ≡ option_map (λ n. n + l.place) (group_len (drop l.place l.bytes))
