-- Where an order of versions is cut into partitions of about one size with few calls between them. A version is a
-- number below the count of the sizes; a place is where a cut can be, before the version of that number. Each list of
-- places is looked through whole here; the code keeps sums and a running count of calls.
use Rattle.std.specs.Prelude.{◌≡◌, ℕ, zero, suc, ◌+◌, ◌-◌, ◌*◌, ◌<◌, Bool, ◌&&◌, ◌||◌, cond, nat_eq, nat_lt, nat_le, List, [], ◌∷◌, length, sum, filter, fold, count_by, min}
use Rattle.std.specs.List.{slice_range, range_with_len}
use Rattle.std.specs.Int.{div_ceil}
use Rattle.balanced_partition.specs.declared.range.Range.{Range}

abbrev pub last_or : ℕ → List ℕ → ℕ
last_or other [] = other
last_or other (x ∷ xs) = last_or x xs

-- the sum of a place: of the versions from the start of the partition up to it
unfoldable pub weight_of : List ℕ → ℕ → ℕ → ℕ
weight_of sizes start place = sum (slice_range sizes start place)

abbrev pub is_within : ℕ → ℕ → ℕ → Bool
is_within start place version = nat_le start version && nat_lt version place

-- a call, in either direction, between the versions from the start up to a place and later ones
abbrev pub is_cut : ℕ → ℕ → ℕ × ℕ → Bool
is_cut start place call = (is_within start place call.0 && nat_le place call.1) || (is_within start place call.1 && nat_le place call.0)

unfoldable pub cut_calls : List (ℕ × ℕ) → ℕ → ℕ → ℕ
cut_calls calls start place = count_by (is_cut start place) calls

-- `aim` is the size that a partition is to have, and `start` the version with which it begins
module _ (sizes : List ℕ) (aim : ℕ) (start : ℕ) where
  abbrev pub places : List ℕ
  places = range_with_len (start + 1) (length sizes - start)

  -- the last place whose sum is at most the aim; one version where that alone is more
  unfoldable pub reach_of : ℕ
  reach_of = last_or (start + 1) (filter (λ place. nat_le (weight_of sizes start place) aim) places)

  -- the places up to there whose sum is at least half of the aim
  unfoldable pub candidates_of : List ℕ
  candidates_of = filter (λ place. nat_le place reach_of && nat_le aim (2 * weight_of sizes start place)) places

  -- the fewest calls that a candidate cuts
  unfoldable pub fewest_of : List (ℕ × ℕ) → ℕ
  fewest_of calls = fold (λ fewest place. min fewest (cut_calls calls start place)) (length calls) candidates_of

  -- the end where it is reached, else the last of the candidates that cut the fewest calls, else the place reached
  unfoldable pub cut_of : List (ℕ × ℕ) → ℕ
  cut_of calls = cond (nat_eq reach_of (length sizes)) (length sizes) (last_or reach_of (filter (λ place. nat_eq (cut_calls calls start place) (fewest_of calls)) candidates_of))

-- one partition after the other, at most so many
unfoldable pub cuts_from : List ℕ → List (ℕ × ℕ) → ℕ → ℕ → ℕ → List Range
cuts_from sizes calls aim zero start = []
cuts_from sizes calls aim (suc more) start = cond (nat_lt start (length sizes)) (record { from = start; to = cut_of sizes aim start calls } ∷ cuts_from sizes calls aim more (cut_of sizes aim start calls)) []

-- the aim is the sum of all sizes divided by the number of partitions that are wanted, rounded up
unfoldable pub cuts_of : List ℕ → List (ℕ × ℕ) → ℕ → List Range
cuts_of sizes calls wanted = cuts_from sizes calls (div_ceil (sum sizes) wanted) (length sizes) 0

-- none is empty, each begins where the one before it ends, the first at one place and the last ends at the other
abbrev pub JoinUp : ℕ → ℕ → List Range → Type 0
JoinUp first last [] = first ≡ last
JoinUp first last (range ∷ rest) = (range.from ≡ first) × (range.from < range.to) × JoinUp range.to last rest

-- a call between versions that are there
abbrev pub IsBetween : ℕ → ℕ × ℕ → Type 0
IsBetween count call = (call.0 < count) × (call.1 < count)
