-- The numbers that wait in a worklist, and how its marks stand to its queue.
use Rattle.std.specs.Prelude.{◌≡◌, ℕ, ◌<◌, ◌≤◌, Bool, cond, List, length, count_by, nat_eq, All, Contains}
use Rattle.std.specs.List.{slice_index_or}

-- numbers below `room`, in the order in which they wait
pub record Waiting : Type 0 where
  pub room : ℕ
  pub items : List ℕ

-- each number below `room` waits, and there are no more than `room`
pub record IsFull (list : Waiting) (room : ℕ) : Type 0 where
  pub bound : list.room ≡ room
  pub all : (number : ℕ) → number < room → Contains list.items number
  pub short : length list.items ≤ room

-- a number is marked exactly if it is in the queue, where it is once, and there is room for all
pub record IsMarked (queue : List ℕ) (marks : List Bool) (capacity : ℕ) : Type 0 where
  pub within : All (λ number. number < length marks) queue
  pub once : (number : ℕ) (d : Bool) → number < length marks → count_by (λ x. nat_eq x number) queue ≡ cond (slice_index_or marks number d) 1 0
  pub counted : length queue ≡ count_by (λ mark. mark) marks
  pub room : length marks ≤ capacity
