-- What contracts see of a cell and of a pass: an allowance of calls, a seen history, and strands, which are lists of places
-- in that history. A pass has a strand of its own, and those of the passes that it took in.
use Rattle.std.specs.Prelude.{◌≡◌, ℕ, ◌+◌, ◌-◌, ◌≤◌, ◌⊎◌, List, [], ◌∷◌, ◌++◌, length, Option, Some, map}
use mathlib.Core.List.{IsPrefix}
use Rattle.atomic_table.specs.Seated.{TableId}
use Rattle.cache_lock.specs.Sequential.{state_after, entries_at}
use Rattle.list_counts.specs.Counts.{total, times, Ascends, AllAscend}

-- Which cell it is, its first state, and how many calls it has room for
pub record CellValue (S : Type 0) : Type 0 where
  pub id : TableId
  pub first : S
  pub calls : ℕ

-- Which cell a pass belongs to, with its first state and room; how many calls it may still make, the history that it has
-- seen, its own strand, and the strands that it took in
pub record PassValue (S E : Type 0) : Type 0 where
  pub id : TableId
  pub first : Option S
  pub calls : ℕ
  pub allowance : ℕ
  pub seen : List E
  pub own : List ℕ
  pub others : List (List ℕ)

module _ {E : Type 0} where
  -- one of two histories, which both of them begin: the longer
  pub record IsLonger (xs ys longer : List E) : Type 0 where
    pub one : (longer ≡ xs) ⊎ (longer ≡ ys)
    pub left : IsPrefix xs longer
    pub right : IsPrefix ys longer

module _ {S E : Type 0} where
  -- the pass belongs to the cell
  abbrev pub IsPassOf : CellValue S → PassValue S E → Type 0
  IsPassOf c p = (p.id ≡ c.id) × (p.first ≡ Some c.first) × (p.calls ≡ c.calls)

  -- the pass that begins with a cell: it has seen nothing, made nothing, and may make all calls
  abbrev pub first_pass : CellValue S → PassValue S E
  first_pass c = record { id = c.id; first = Some c.first; calls = c.calls; allowance = c.calls; seen = []; own = []; others = [] }

  -- a pass that handed n calls over
  abbrev pub keeping : ℕ → PassValue S E → PassValue S E
  keeping n p = record { id = p.id; first = p.first; calls = p.calls; allowance = p.allowance - n; seen = p.seen; own = p.own; others = p.others }

  -- the pass that got them
  abbrev pub given : ℕ → PassValue S E → PassValue S E
  given n p = record { id = p.id; first = p.first; calls = p.calls; allowance = n; seen = p.seen; own = []; others = [] }

  -- a pass that took in another, and has seen this history
  abbrev pub joined : PassValue S E → PassValue S E → List E → PassValue S E
  joined p q seen = record { id = p.id; first = p.first; calls = p.calls; allowance = p.allowance + q.allowance; seen = seen; own = p.own; others = p.others ++ (q.own ∷ q.others) }

  -- a pass that made a call, whose entry ends the history that it has now seen
  abbrev pub called : PassValue S E → List E → PassValue S E
  called p seen = record { id = p.id; first = p.first; calls = p.calls; allowance = p.allowance - 1; seen = seen; own = p.own ++ (length seen - 1) ∷ []; others = p.others }

  -- how often the place x stands in the strands of a pass
  abbrev pub places_at : ℕ → PassValue S E → ℕ
  places_at x p = times x p.own + total (times x) p.others

  -- how many places the strands of a pass have
  abbrev pub places_of : PassValue S E → ℕ
  places_of p = length p.own + total (λ l. length l) p.others

  -- the entries that a pass made itself
  abbrev pub strand_of : PassValue S E → List E
  strand_of p = entries_at p.seen p.own

  -- the entries of each of its strands, its own first
  abbrev pub entries_of : PassValue S E → List (List E)
  entries_of p = map (entries_at p.seen) (p.own ∷ p.others)

  -- the calls of a pass, made and not yet made
  abbrev pub reserved_of : PassValue S E → ℕ
  reserved_of p = places_of p + p.allowance

  -- The strands ascend within the history that was seen, and no place stands in two
  pub record IsSound (p : PassValue S E) : Type 0 where
    pub own : Ascends 0 (length p.seen) p.own
    pub others : AllAscend (length p.seen) p.others
    pub apart : (x : ℕ) → places_at x p ≤ 1

module _ {S E C R : Type 0} (possible : S → E → Type 0) (after : S → E → S) (call_of : E → C) (tells : E → R → Type 0) where
  -- The pass p made a call, which was answered, and is q then
  pub record IsMade (first : S) (p : PassValue S E) (asked : C) (answer : R) (q : PassValue S E) : Type 0 where
    pub between : List E
    pub entry : E
    -- the history is that before, then any entries, then the entry of this call
    pub seen : q.seen ≡ (p.seen ++ between) ++ entry ∷ []
    -- which was possible at that point
    pub may : possible (state_after after first (p.seen ++ between)) entry
    pub call : call_of entry ≡ asked
    pub reply : tells entry answer
    -- it is the last of the pass's own entries, and those before stay
    pub strand : strand_of q ≡ strand_of p ++ entry ∷ []
