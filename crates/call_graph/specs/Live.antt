-- The live functions of a merged program: those that a path of calls leads to from an exported one. The code keeps a
-- list of the functions whose calls it has still to follow.
use Rattle.std.specs.Prelude.{◌≡◌, ℕ, zero, suc, ◌<◌, ◌↔◌, List, Bool, false, Some, IsTrue, length, slice_get, slice_index_or}
use Rattle.std.specs.List.{All, Any}
use Rattle.gimple_ir.specs.declared.merged.Merged.{Merged}
use Rattle.gimple_ir.specs.declared.merged.MergedFunction.{MergedFunction}
use Rattle.gimple_ir.specs.declared.summary.Edge.{Edge}

abbrev pub IsFunction : Merged → ℕ → MergedFunction → Type 0
IsFunction merged n f = slice_get merged.functions n ≡ Some f

abbrev pub IsExported : Merged → ℕ → Type 0
IsExported merged n = (f : MergedFunction) × IsFunction merged n f × IsTrue f.exported

abbrev pub Calls : Merged → ℕ → ℕ → Type 0
Calls merged n m = (f : MergedFunction) × IsFunction merged n f × Any (λ (e : Edge). e.callee ≡ m) f.summary.edges

-- a path of so many calls leads to it from an exported function
abbrev pub IsReached : Merged → ℕ → ℕ → Type 0
IsReached merged n zero = IsExported merged n
IsReached merged m (suc steps) = (n : ℕ) × IsReached merged n steps × Calls merged n m

abbrev pub IsLive : Merged → ℕ → Type 0
IsLive merged n = (steps : ℕ) × IsReached merged n steps

-- the flag at a number, and false where there is none
abbrev pub marked : List Bool → ℕ → Bool
marked flags n = slice_index_or flags n false

-- a flag for each function, which is true for the live ones alone
pub record MarksLive (merged : Merged) (live : List Bool) : Type 0 where
  pub one_each : length live ≡ length merged.functions
  pub exact : (n : ℕ) → IsTrue (marked live n) ↔ IsLive merged n

-- each callee is a function of the program
abbrev pub HasCallees : Merged → Type 0
HasCallees merged = All (λ f. All (λ (e : Edge). e.callee < length merged.functions) f.summary.edges) merged.functions
