-- Laws of the machine for what is proved over it: loads after stores, runs in parts, ends that stay, output that only grows.
use Rattle.std.specs.Prelude.{◌≡◌, ℕ, ◌+◌, ◌*◌, ◌^◌, ◌<◌, ◌≤◌, ◌⊎◌, List, ◌++◌}
use Rattle.rv64_meaning.specs.Machine.{Segments, State, Standing, Outcome, Running, Ended, Trapped, load, store, after, exec}

-- a load of what was stored, and of bytes that the store did not touch
abbrev pub LoadsWhatWasStored : Type 0
LoadsWhatWasStored = (n : ℕ) (mem : ℕ → ℕ) (a v : ℕ) → v < 2 ^ (8 * n) → load n (store n mem a v) a ≡ v

abbrev pub LoadsPastStores : Type 0
LoadsPastStores = (k n : ℕ) (mem : ℕ → ℕ) (a v b : ℕ) → ((b + k ≤ a) ⊎ (a + n ≤ b)) → load k (store n mem a v) b ≡ load k mem b

-- a run of n + k steps is one of n and then one of k
abbrev pub RunsInParts : Type 0
RunsInParts = (m : Segments) (n k : ℕ) (p : Standing) → after m (n + k) p ≡ after m k (after m n p)

-- a run that is over stays so
abbrev pub IsOver : Outcome → Type 0
IsOver (Running output) = ⊥
IsOver (Ended status output) = Unit {0}
IsOver (Trapped address output) = Unit {0}

abbrev pub StaysOver : Type 0
StaysOver = (m : Segments) (n k : ℕ) (s : State) → IsOver (exec m n s) → exec m (n + k) s ≡ exec m n s

-- what was written stays written
abbrev pub output_of : Outcome → List ℕ
output_of (Running output) = output
output_of (Ended status output) = output
output_of (Trapped address output) = output

abbrev pub Grows : List ℕ → List ℕ → Type 0
Grows before now = (more : List ℕ) × (now ≡ before ++ more)

abbrev pub OutputGrows : Type 0
OutputGrows = (m : Segments) (n k : ℕ) (s : State) → Grows (output_of (exec m n s)) (output_of (exec m (n + k) s))
