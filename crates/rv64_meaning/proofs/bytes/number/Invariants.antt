use Rattle.std.proofs.Common.{◌≡◌, ◌-◌, ◌*◌, ◌^◌, ◌<◌, length, drop}
use Rattle.rv64_meaning.specs.Bytes.{number_of}
use Rattle.rv64_meaning.proofs.bytes.number.Given as goal

abbrev pub invariant-loop-i : goal.invariant-loop-i
invariant-loop-i l = record {
  value : l.value ≡ number_of (drop l.i l.bytes);
  below : l.value < 2 ^ (8 * (length l.bytes - l.i));
}
