-- The rule of a cell's word and slot, which holds between any two atomic steps, and what each step tells the pass that makes
-- it. The word is twice the number of entries, and 1 more while a pass has the turn; the slot holds the state with its
-- journal.
use Rattle.std.specs.Prelude.{◌≡◌, ◌≢◌, ℕ, suc, ◌+◌, ◌-◌, ◌*◌, ◌<◌, ◌≤◌, ◌⊎◌, List, [], ◌∷◌, ◌++◌, true, false, cond, ltb, length, Option, Some, None, vec_capacity}
use mathlib.Core.Option.{some, none}
use mathlib.Core.List.{IsPrefix}
use lib.ListN.{get_elem?}
use Rattle.atomic_table.specs.Table.{State, Me, Step, rest}
use Rattle.cache_lock.specs.declared.view.View.{View}
use Rattle.cache_lock.specs.declared.view.Held.{Held}
use Rattle.cache_lock.specs.declared.view.Origin.{Origin}
use Rattle.list_counts.specs.Counts.{total, times, once_below, Ascends, AllAscend}
use Rattle.cache_lock.specs.Sequential.{IsLegal, state_after}

module _ {E : Type 0} where
  -- of two histories the longer, and the shorter
  abbrev pub longer : List E → List E → List E
  longer xs ys = cond (ltb (length xs) (length ys)) ys xs

  abbrev pub shorter : List E → List E → List E
  shorter xs ys = cond (ltb (length xs) (length ys)) xs ys

module _ {S E : Type 0} where
  -- how often a view has the place x, how many places it has, and its allowance
  abbrev pub made : ℕ → View S E → ℕ
  made x v = times x v.own + total (times x) v.others

  abbrev pub count_of : View S E → ℕ
  count_of v = length v.own + total (λ l. length l) v.others

  abbrev pub allowance_of : View S E → ℕ
  allowance_of v = v.allowance

  -- the views
  abbrev pub first_view : Origin S → View S E
  first_view key = record { first = Some key.first.value; calls = key.calls; allowance = key.calls; seen = []; told = []; own = []; others = []; turn = false }

  abbrev pub view_keeping : ℕ → View S E → View S E
  view_keeping n v = record { first = v.first; calls = v.calls; allowance = v.allowance - n; seen = v.seen; told = v.told; own = v.own; others = v.others; turn = v.turn }

  abbrev pub view_given : ℕ → View S E → View S E
  view_given n v = record { first = v.first; calls = v.calls; allowance = n; seen = v.seen; told = []; own = []; others = []; turn = false }

  abbrev pub view_joined : View S E → View S E → View S E
  view_joined v w = record { first = v.first; calls = v.calls; allowance = v.allowance + w.allowance; seen = longer v.seen w.seen; told = shorter v.seen w.seen; own = v.own; others = v.others ++ (w.own ∷ w.others); turn = v.turn }

  abbrev pub spent_view : View S E
  spent_view = record { first = None; calls = 0; allowance = 0; seen = []; told = []; own = []; others = []; turn = false }

  abbrev pub view_turning : List E → View S E → View S E
  view_turning seen v = record { first = v.first; calls = v.calls; allowance = v.allowance; seen = seen; told = v.told; own = v.own; others = v.others; turn = true }

  abbrev pub view_called : List E → View S E → View S E
  view_called seen v = record { first = v.first; calls = v.calls; allowance = v.allowance - 1; seen = seen; told = v.told; own = v.own ++ length v.seen ∷ []; others = v.others; turn = false }

  -- What the rule says of one view: it knows the first state and the room unless it was spent, what it has seen begins the
  -- history, its strands ascend within that, and one that has the turn may make a call
  pub record Fits (start : S) (room : ℕ) (log : List E) (v : View S E) : Type 0 where
    pub origin : (x : S) → v.first ≡ Some x → (x ≡ start) × (v.calls ≡ room)
    pub seen : IsPrefix v.seen log
    pub told : IsPrefix v.told v.seen
    pub own : Ascends 0 (length v.seen) v.own
    pub others : AllAscend (length v.seen) v.others
    pub turn : v.turn ≡ true → 0 < v.allowance

  -- What a view knows by itself: its strands ascend within what it has seen, and have no place in common
  pub record Knows (v : View S E) : Type 0 where
    pub told : IsPrefix v.told v.seen
    pub own : Ascends 0 (length v.seen) v.own
    pub others : AllAscend (length v.seen) v.others
    pub apart : (x : ℕ) → made x v ≤ 1

  abbrev pub journal_in : Option (Held S E) → List E
  journal_in None = []
  journal_in (Some d) = d.journal.items

  -- the journal of the slot that was taken last
  abbrev pub journal_of : List (ℕ × Option (Held S E)) → List E
  journal_of [] = []
  journal_of (x ∷ xs) = journal_in x.1

module _ {S E : Type 0} (possible : S → E → Type 0) (after : S → E → S) (key : Origin S) where
  -- The word is even: no view has the turn, and the slot is at home with the state after the history, which is its journal
  pub record AtHome (log : List E) (s : State (Option (Held S E)) (View S E)) : Type 0 where
    pub held : Held S E
    pub words : s.words ≡ (2 * length log) ∷ []
    pub homes : s.homes ≡ some (Some held) ∷ []
    pub state : held.state ≡ state_after after key.first.value log
    pub journal : held.journal.items ≡ log
    pub room : key.calls ≤ vec_capacity held.journal
    pub none_turns : (j : ℕ) (v : View S E) → get_elem? s.views j ≡ some v → v.turn ≢ true

  -- The word is odd: the slot is out, and exactly one view has the turn, which has seen the whole history
  pub record IsOut (log : List E) (s : State (Option (Held S E)) (View S E)) : Type 0 where
    pub holder : ℕ
    pub view : View S E
    pub words : s.words ≡ suc (2 * length log) ∷ []
    pub homes : s.homes ≡ none ∷ []
    pub here : get_elem? s.views holder ≡ some view
    pub turns : view.turn ≡ true
    pub only : (j : ℕ) (v : View S E) → get_elem? s.views j ≡ some v → v.turn ≡ true → (j ≡ holder) × (v.seen ≡ log)

  -- There is one legal history. Each place in it stands in one strand of one view, and no other place in any. The allowances
  -- and the length of the history are together the calls reserved
  pub record Kept (s : State (Option (Held S E)) (View S E)) : Type 0 where
    pub log : List E
    pub legal : IsLegal possible after key.first.value log
    pub place : AtHome log s ⊎ IsOut log s
    pub once : (x : ℕ) → total (made x) s.views ≡ once_below x (length log)
    pub number : total count_of s.views ≡ length log
    pub room : total allowance_of s.views + length log ≡ key.calls
    pub fits : (j : ℕ) (v : View S E) → get_elem? s.views j ≡ some v → Fits key.first.value key.calls log v

abbrev Sat : Type 0 → Type 0 → Type 0
Sat S E = Me (Option (Held S E)) (View S E)

abbrev Move : Type 0 → Type 0 → Type 0
Move S E = Step (Option (Held S E))

module _ {S E : Type 0} (possible : S → E → Type 0) (after : S → E → S) where
  -- a look changes nothing, and tells that what was seen is legal
  abbrev pub Looked : Move S E → Sat S E → ℕ → Sat S E → Type 0
  Looked st m n m' = (m' ≡ m) × Knows m.0 × ((x : S) → m.0.first ≡ Some x → IsLegal possible after x m.0.seen)

module _ {S E : Type 0} where
  -- the slot was given back with one entry more
  abbrev pub Committed : Move S E → Sat S E → ℕ → Sat S E → Type 0
  Committed st m n m' = (m'.1 ≡ rest m.1) × (m'.0 ≡ view_called (journal_of m.1) m.0) × Knows m'.0

module _ {S E : Type 0} (possible : S → E → Type 0) (after : S → E → S) where
  -- what the slot held when it was taken: the history, which goes on from what was seen, and the state after it
  pub record IsFound (v : View S E) (d : Held S E) : Type 0 where
    pub seen : IsPrefix v.seen d.journal.items
    pub state : (x : S) → v.first ≡ Some x → d.state ≡ state_after after x d.journal.items
    pub legal : (x : S) → v.first ≡ Some x → IsLegal possible after x d.journal.items
    pub number : (x : S) → v.first ≡ Some x → length d.journal.items + v.allowance ≤ v.calls
    pub room : (x : S) → v.first ≡ Some x → v.calls ≤ vec_capacity d.journal

  -- the slot was taken, or the exchange lost and nothing changed
  abbrev pub Took : Move S E → Sat S E → ℕ → Sat S E → Type 0
  Took st m n m' =
      (n ≡ st.first → (d : Held S E) × (m'.1 ≡ (0, Some d) ∷ m.1) × (m'.0 ≡ view_turning d.journal.items m.0) × IsFound m.0 d)
      × (n ≢ st.first → m' ≡ m)

module _ {S E : Type 0} (after : S → E → S) where
  -- The pass has its turn, and holds the slot, whose journal has room for one entry more
  pub record IsReady (m : Sat S E) : Type 0 where
    pub held : Held S E
    pub first : S
    pub carried : m.1 ≡ (0, Some held) ∷ []
    pub origin : m.0.first ≡ Some first
    pub journal : held.journal.items ≡ m.0.seen
    pub state : held.state ≡ state_after after first m.0.seen
    pub next : length held.journal.items < vec_capacity held.journal
    pub room : m.0.calls ≤ vec_capacity held.journal
    pub turn : m.0.turn ≡ true
    pub may : 0 < m.0.allowance
    pub small : m.0.calls < 4294967296

module _ {S E C R : Type 0} (possible : S → E → Type 0) (after : S → E → S) (call_of : E → C) (tells : E → R → Type 0) where
  -- One call was made, and its entry ends the history
  pub record IsDone (m : Sat S E) (asked : C) (answer : R) (m' : Sat S E) : Type 0 where
    pub entry : E
    pub call : call_of entry ≡ asked
    pub reply : tells entry answer
    pub may : (x : S) → m.0.first ≡ Some x → possible (state_after after x m.0.seen) entry
    pub empty : m'.1 ≡ []
    pub view : m'.0 ≡ view_called (m.0.seen ++ entry ∷ []) m.0
    pub knows : Knows m'.0
