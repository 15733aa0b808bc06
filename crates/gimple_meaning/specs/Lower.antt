-- Any machine on which a program may be followed: where it comes in so many steps, and what it shows there. It does the same whenever
-- it is run; what it shows at its end it shows for good, and its output only grows.
use Rattle.std.specs.Prelude.{◌≡◌, ℕ, suc, ◌+◌, ◌<◌, List}
use Rattle.gimple_meaning.specs.Laws.{Grows}
use Rattle.gimple_meaning.specs.Systems.{System, Machine, State, Running, Ended, Undefined, step}
use Rattle.gimple_meaning.specs.Shown.{Shown, Goes, Ends, Fails}

pub record Lower : Type 1 where
  pub Standing : Type 0
  pub after : ℕ → Standing → Standing
  pub shows : Standing → Shown

-- what is shown later of a run that shows the first now
abbrev pub Extends : Shown → Shown → Type 0
Extends (Goes output) (Goes more) = Grows output more
Extends (Goes output) (Ends status more) = Grows output more
Extends (Goes output) Fails = Unit {0}
Extends (Ends status output) later = later ≡ Ends status output
Extends Fails later = later ≡ Fails

pub record IsSteady (low : Lower) : Type 0 where
  pub here : (s : low.Standing) → low.after 0 s ≡ s
  pub parts : (n k : ℕ) (s : low.Standing) → low.after (n + k) s ≡ low.after k (low.after n s)
  pub later : (n k : ℕ) (s : low.Standing) → Extends (low.shows (low.after n s)) (low.shows (low.after (n + k) s))

-- ---- ways

-- from s it comes to t, in so many steps, or none
pub record Comes (low : Lower) (s t : low.Standing) : Type 0 where
  pub steps : ℕ
  pub there : low.after steps s ≡ t

-- the same, with one step at least
pub record Leads (low : Lower) (s t : low.Standing) : Type 0 where
  pub steps : ℕ
  pub there : low.after (suc steps) s ≡ t

-- from s it ends, with this status and output
pub record EndsWith (low : Lower) (s : low.Standing) (status : ℕ) (output : List ℕ) : Type 0 where
  pub steps : ℕ
  pub ends : low.shows (low.after steps s) ≡ Ends status output

-- ---- the simulation

-- What a step of a program asks of the machine, under a relation of a rank, a state of the program and one of the machine: that it comes
-- on, or else that it stays or comes on, and the rank falls.
pub data Moves (low : Lower) (R : ℕ → Machine → low.Standing → Type 0) (rank : ℕ) (q : Machine) (s : low.Standing) : Type 0 where
  Works : (new_rank : ℕ) (t : low.Standing) → Leads low s t → R new_rank q t → Moves low R rank q s
  Rests : (new_rank : ℕ) (t : low.Standing) → Comes low s t → R new_rank q t → new_rank < rank → Moves low R rank q s

abbrev pub Answers : (low : Lower) → (ℕ → Machine → low.Standing → Type 0) → ℕ → State → low.Standing → Type 0
Answers low R rank (Running q) s = Moves low R rank q s
Answers low R rank (Ended q status) s = EndsWith low s status q.output
Answers low R rank (Undefined q function place) s = Unit {0}

-- a relation that every step keeps; nothing is asked once the program is undefined
pub record Simulates (low : Lower) (system : System) (R : ℕ → Machine → low.Standing → Type 0) : Type 0 where
  pub same : (rank : ℕ) (p : Machine) (s : low.Standing) → R rank p s → low.shows s ≡ Goes p.output
  pub keeps : (rank : ℕ) (p : Machine) (s : low.Standing) → R rank p s → Answers low R rank (step system (Running p)) s
