use Rattle.std.proofs.Common.{◌≡◌, ℕ, suc, ◌+◌, ◌<◌, ◌++◌, List, length, take}
use Rattle.cursors.specs.Leb128.{IsUleb}
use Rattle.cursors.proofs.Leb128Laws.{room}
use Rattle.cursors.proofs.leb128.put_uleb.Given as goal

-- whatever spells the rest completes the spelling, and there is room for it
abbrev pub invariant-loop-rest : goal.invariant-loop-rest
invariant-loop-rest l = record {
  completes : (tail : List ℕ) → IsUleb tail l.rest → IsUleb (take l.len l.spelling ++ tail) l.value;
  long : length l.spelling ≡ 10;
  room : (k : ℕ) × (l.len + suc k ≡ 10) × (l.rest < room (suc k));
}

abbrev pub decreases-loop-rest : goal.decreases-loop-rest
decreases-loop-rest l = l.rest
