-- The rule of the word from which claims are drawn, which holds between any two atomic steps, and what a step tells the
-- seat that makes it. Split and join have what they make of the views in `Claims`.
use Rattle.std.specs.Prelude.{◌≡◌, ℕ, ◌+◌, ◌-◌, ◌<◌, ◌≤◌, [], ◌∷◌, true, cond, min}
use mathlib.Core.Option.{some}
use lib.ListN.{get_elem?}
use Rattle.atomic_table.specs.Table.{State, Me, Step}
use Rattle.worker_gate.specs.declared.view.SeatView.{SeatView}
use Rattle.list_counts.specs.Counts.{total, once_below, Ascends}
use Rattle.worker_gate.specs.Claims.{held, drew, ended, IsSound}

-- the share of a seat that may still draw
abbrev pub open_share : SeatView → ℕ
open_share v = cond v.ended 0 v.share

abbrev pub share_of : SeatView → ℕ
share_of v = v.share

-- What the rule says of one view: its draws ascend below the word and the limit, one that has ended shows that the word
-- has reached the limit, and one that was spent has no lists
pub record Fits (limit word : ℕ) (v : SeatView) : Type 0 where
  pub count : 0 < v.share → v.count ≡ limit
  pub own : Ascends 0 (min word limit) v.own
  pub late : v.ended ≡ true → limit ≤ word
  pub spent : v.share ≡ 0 → (v.own ≡ []) × (v.lists ≡ [])

-- The word counts the draws. Each number below it and below the limit stands exactly once in the lists of all views
-- together, and no other number stands there. The shares of all views are 65 together. The draws past the limit and the
-- shares that may still draw are together at most 65, so the word never wraps
pub record IsKept (limit : ℕ) (s : State (Unit {0}) SeatView) : Type 0 where
  pub word : ℕ
  pub words : s.words ≡ word ∷ []
  pub once : (x : ℕ) → total (held x) s.views ≡ once_below x (min word limit)
  pub shares : total share_of s.views ≡ 65
  pub few : (word - limit) + total open_share s.views ≤ 65
  pub fits : (j : ℕ) (v : SeatView) → get_elem? s.views j ≡ some v → Fits limit word v

-- a draw finds a number: below the count it is drawn, and is above all that the seat drew; else the seat has ended
abbrev pub Drawn : Step (Unit {0}) → Me (Unit {0}) SeatView → ℕ → Me (Unit {0}) SeatView → Type 0
Drawn st m n m' =
    (m'.1 ≡ m.1) × IsSound m'.0
    × (n < m.0.count → (m'.0 ≡ drew n m.0) × Ascends 0 n m.0.own)
    × (m.0.count ≤ n → m'.0 ≡ ended m.0)

-- a look changes nothing, and tells that the seat is sound
abbrev pub Looked : Step (Unit {0}) → Me (Unit {0}) SeatView → ℕ → Me (Unit {0}) SeatView → Type 0
Looked st m n m' = (m' ≡ m) × IsSound m.0
