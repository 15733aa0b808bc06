use Rattle.std.proofs.Common.{◌≡◌, ℕ, ◌<◌, false, [], get_or}
use Rattle.std.specs.Str.{bytes_eq}
use Rattle.program_link.proofs.objects.own_place.Given as goal

abbrev pub invariant-loop-name : goal.invariant-loop-name
invariant-loop-name l = record { place : l.place ≡ l.name-index; before : (k : ℕ) → k < l.name-index → bytes_eq l.own (get_or l.names k []) ≡ false }
