-- Systems of equations over a lattice of finite height: one equation for each unknown, the order of the values, the
-- laws that make the greatest solution reachable from top, and the lists of readers with the bound on the work.
use Rattle.std.specs.Prelude.{◌≡◌, ◌≢◌, ℕ, zero, suc, ◌+◌, ◌*◌, ◌<◌, ◌≤◌, Bool, true, List, length, slice_set, All, Contains}
use Rattle.std.specs.List.{slice_index_or}

-- how many unknowns there are, how long a descending chain of values can be, which values count, the lattice's top
-- and meet, and what the equation of an unknown gives of all values
pub record Equations (V : Type 0) : Type 0 where
  pub unknowns : ℕ
  pub height : ℕ
  pub counts : V → Bool
  pub top : V
  pub meet : V → V → V
  pub apply : ℕ → List V → V

-- the sum over the numbers below a bound
abbrev pub sum_below : (ℕ → ℕ) → ℕ → ℕ
sum_below f zero = 0
sum_below f (suc n) = sum_below f n + f n

module _ {V : Type 0} (e : Equations V) where
  abbrev pub Counts : V → Type 0
  Counts a = e.counts a ≡ true

  -- a value that counts for each unknown
  pub record IsAssignment (v : List V) : Type 0 where
    pub of_all : length v ≡ e.unknowns
    pub counting : All Counts v

  -- the value of an unknown; top past the end
  abbrev pub value_at : List V → ℕ → V
  value_at v u = slice_index_or v u e.top

  -- the order of the lattice
  abbrev pub IsBelow : V → V → Type 0
  IsBelow a b = e.meet a b ≡ a

  -- each value of the one assignment is below that of the other
  abbrev pub AllBelow : List V → List V → Type 0
  AllBelow v w = (u : ℕ) → u < e.unknowns → IsBelow (value_at v u) (value_at w u)

  -- each value is below what its equation gives
  abbrev pub IsBelowEquations : List V → Type 0
  IsBelowEquations v = (u : ℕ) → u < e.unknowns → IsBelow (value_at v u) (e.apply u v)

  -- a chain of so many steps ends at the value, each value of it strictly below the one before
  abbrev pub Chain : ℕ → V → Type 0
  Chain zero a = Counts a
  Chain (suc n) a = (b : V) × Counts a × IsBelow a b × (a ≢ b) × Chain n b

  -- the laws, for values that count: values that are the same by `==` are equal, the values are a meet semilattice
  -- with a top and of finite height, and the equations are monotone
  pub record IsSystem (same : V → V → Bool) : Type 0 where
    pub same_value : (a b : V) → Counts a → Counts b → same a b ≡ true → a ≡ b
    pub top_counts : Counts e.top
    pub meet_counts : (a b : V) → Counts a → Counts b → Counts (e.meet a b)
    pub apply_counts : (u : ℕ) (v : List V) → u < e.unknowns → IsAssignment v → Counts (e.apply u v)
    pub below_top : (a : V) → Counts a → IsBelow a e.top
    pub commutes : (a b : V) → Counts a → Counts b → e.meet a b ≡ e.meet b a
    pub associates : (a b c : V) → Counts a → Counts b → Counts c → e.meet (e.meet a b) c ≡ e.meet a (e.meet b c)
    pub idempotent : (a : V) → Counts a → e.meet a a ≡ a
    pub monotone : (u : ℕ) (v w : List V) → u < e.unknowns → IsAssignment v → IsAssignment w → AllBelow v w → IsBelow (e.apply u v) (e.apply u w)
    pub finite_height : (n : ℕ) (a : V) → Chain n a → n ≤ e.height

  -- the list of an unknown's readers names all unknowns whose equations may see it change; an entry may occur twice
  pub record AreReaders (readers : ℕ → List ℕ) : Type 0 where
    pub within : (u : ℕ) → u < e.unknowns → All (λ w. w < e.unknowns) (readers u)
    pub unread : (u w : ℕ) (v : List V) (a : V) → u < e.unknowns → w < e.unknowns → IsAssignment v → Counts a → ¬ Contains (readers u) w → e.apply w (slice_set v u a) ≡ e.apply w v

  -- how many equations a solver applies at most: each once, and one for each entry in the readers of a value that
  -- falls, which it does `height` times at most
  abbrev pub most_ticks : (ℕ → List ℕ) → ℕ
  most_ticks readers = e.unknowns + e.height * sum_below (λ u. length (readers u)) e.unknowns
