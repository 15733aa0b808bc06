-- What contracts see of the claims and of a seat: its own draws, the lists that it took in, its share, and whether it has
-- ended. A seat has ended once it drew None, took in an ended seat, or was split from one.
use Rattle.std.specs.Prelude.{◌≡◌, ℕ, ◌+◌, ◌-◌, ◌<◌, ◌≤◌, [], ◌∷◌, ◌++◌, true, false, ◌||◌}
use Rattle.atomic_table.specs.Seated.{TableId}
use Rattle.worker_gate.specs.declared.view.SeatView.{SeatView}
use Rattle.list_counts.specs.Counts.{total, times, once_below, Ascends}

-- Which claims they are, and how many numbers they have
pub record ClaimsValue : Type 0 where
  pub id : TableId
  pub count : ℕ

-- Which claims a seat belongs to, and what it knows
pub record SeatValue : Type 0 where
  pub id : TableId
  pub view : SeatView

-- the seat belongs to these claims
abbrev pub IsSeatOf : ClaimsValue → SeatValue → Type 0
IsSeatOf c s = (s.id ≡ c.id) × (s.view.count ≡ c.count)

-- how often a view has the number x, in its own draws and in the lists that it took in
abbrev pub held : ℕ → SeatView → ℕ
held x v = times x v.own + total (times x) v.lists

-- the first seat of claims of so many numbers
abbrev pub fresh : ℕ → SeatView
fresh count = record { count = count; share = 65; own = []; lists = []; ended = false }

-- what a seat keeps when another is split from it
abbrev pub keeping : SeatView → SeatView
keeping v = record { count = v.count; share = v.share - 1; own = v.own; lists = v.lists; ended = v.ended }

-- what the seat that is split off begins with
abbrev pub given : SeatView → SeatView
given v = record { count = v.count; share = 1; own = []; lists = []; ended = v.ended }

-- a seat that took in another
abbrev pub joined : SeatView → SeatView → SeatView
joined v w = record { count = v.count; share = v.share + w.share; own = v.own; lists = v.lists ++ (w.own ∷ w.lists); ended = v.ended || w.ended }

-- what is left of a seat that another took in
abbrev pub spent_view : SeatView
spent_view = record { count = 0; share = 0; own = []; lists = []; ended = false }

-- a seat that drew the number n
abbrev pub drew : ℕ → SeatView → SeatView
drew n v = record { count = v.count; share = v.share; own = v.own ++ n ∷ []; lists = v.lists; ended = v.ended }

-- a seat that drew None
abbrev pub ended : SeatView → SeatView
ended v = record { count = v.count; share = v.share; own = v.own; lists = v.lists; ended = true }

-- What is true of each seat
pub record IsSound (v : SeatView) : Type 0 where
  -- it has a share, which is at most the whole
  pub live : 0 < v.share
  pub share : v.share ≤ 65
  -- its draws ascend below the count
  pub own : Ascends 0 v.count v.own
  -- its lists have no number in common, none has a number twice, and all are below the count
  pub apart : (x : ℕ) → held x v ≤ once_below x v.count
  -- where it has ended with the whole share, its lists have all numbers below the count, each once
  pub all : v.ended ≡ true → v.share ≡ 65 → (x : ℕ) → held x v ≡ once_below x v.count
