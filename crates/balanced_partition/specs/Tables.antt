-- What the code keeps of sizes and calls while it cuts.
use Rattle.std.specs.Prelude.{◌≡◌, ℕ, ◌+◌, ◌<◌, ◌≤◌, Bool, ◌&&◌, nat_eq, List, [], length, sum, take, count_by}
use Rattle.std.specs.List.{slice_index_or}

-- the sum of the sizes before each place
pub record AreSums (sizes sums : List ℕ) : Type 0 where
  pub long : length sums ≡ length sizes + 1
  pub each : (place : ℕ) → place ≤ length sizes → slice_index_or sums place 0 ≡ sum (take place sizes)

-- how many calls there are between a version and those that pass a test
unfoldable pub calls_with : List (ℕ × ℕ) → ℕ → (ℕ → Bool) → ℕ
calls_with calls version test = count_by (λ call. nat_eq call.0 version && test call.1) calls + count_by (λ call. nat_eq call.1 version && test call.0) calls

-- for each version, the versions at the other ends of its calls
pub record AreEnds (calls : List (ℕ × ℕ)) (count : ℕ) (ends : List (List ℕ)) : Type 0 where
  pub long : length ends ≡ count
  pub each : (version : ℕ) (test : ℕ → Bool) → version < count → count_by test (slice_index_or ends version []) ≡ calls_with calls version test
