-- What a run shows from outside, whatever it is that runs, and when what one run shows follows what another does.
use Rattle.std.specs.Prelude.{◌≡◌, ℕ, List}
use Rattle.gimple_meaning.specs.Laws.{Grows}
use Rattle.gimple_meaning.specs.Systems.{State, Running, Ended, Undefined}

-- what a run shows at a moment
pub data Shown : Type 0 where
  -- it goes on, with the output so far
  Goes : (output : List ℕ) → Shown
  -- it has ended
  Ends : (status : ℕ) (output : List ℕ) → Shown
  -- it is undefined, or stuck
  Fails : Shown

abbrev pub shown_of : State → Shown
shown_of (Running m) = Goes m.output
shown_of (Ended m status) = Ends status m.output
shown_of (Undefined m function place) = Fails

-- what the lower shows is no more than the higher does; of one that has failed nothing is owed
abbrev pub Covers : Shown → Shown → Type 0
Covers lower Fails = Unit {0}
Covers (Goes output) (Goes whole) = Grows output whole
Covers (Goes output) (Ends status whole) = Grows output whole
Covers (Ends code output) (Goes whole) = ⊥
Covers (Ends code output) (Ends status whole) = (code ≡ status) × (output ≡ whole)
Covers Fails (Goes whole) = ⊥
Covers Fails (Ends status whole) = ⊥

-- a lower run follows a higher one, each by the number of its steps
pub record RunFollows (lower higher : ℕ → Shown) : Type 0 where
  -- each output of the higher run is one of the lower run
  pub goes_on : (n : ℕ) (output : List ℕ) → higher n ≡ Goes output → (k : ℕ) × (lower k ≡ Goes output)
  -- where the higher ends, the lower ends with the same status and output
  pub ends : (n status : ℕ) (output : List ℕ) → higher n ≡ Ends status output → (k : ℕ) × (lower k ≡ Ends status output)
  -- the lower never shows more
  pub no_more : (k : ℕ) → (n : ℕ) × Covers (lower k) (higher n)

-- ---- the laws

abbrev pub FollowsOn : Type 0
FollowsOn = (low middle high : ℕ → Shown) → RunFollows low middle → RunFollows middle high → RunFollows low high
