-- What is known of any plan: five rules on its versions and their calls, and how bindings, arguments, symbols and sizes are made. Which
-- versions there are, and why, is not said; the laws of versions rest on this alone.
use Rattle.std.specs.Prelude.{◌≡◌, ◌<◌, ◌≤◌, ◌*◌, ◌+◌, ◌^◌, ℕ, suc, List, [], ◌∷◌, ◌++◌, length, slice_get, sum_by, All, Some, IsSomeAnd, Bool, true, false, not, ◌&&◌, ◌||◌, ◌==◌, if◌then◌else◌, codes, decimal, nat_eq}
use Rattle.std.specs.List.{list_any}
use Rattle.std.specs.List.Sorted.{IsStrictlyIncreasing}
use Rattle.gimple_ir.specs.Values.{IsValue}
use Rattle.gimple_ir.specs.Statements.{is_void}
use Rattle.gimple_ir.specs.declared.types.Value.{Value}
use Rattle.gimple_ir.specs.declared.lattice.Lattice.{Lattice}
use Rattle.gimple_ir.specs.declared.lattice.Lattice.TheVariants.{Top, Const, Bottom}
use Rattle.gimple_ir.specs.declared.lattice.Binding.{Binding}
use Rattle.gimple_ir.specs.declared.lattice.Binding.TheVariants as binding
use Rattle.gimple_ir.specs.declared.summary.Edge.{Edge}
use Rattle.gimple_ir.specs.declared.summary.EdgeArg.{EdgeArg}
use Rattle.gimple_ir.specs.declared.summary.ParamFacts.{ParamFacts}
use Rattle.gimple_ir.specs.declared.plan.CallPlan.{CallPlan}
use Rattle.gimple_ir.specs.declared.plan.Version.{Version}
use Rattle.gimple_ir.specs.declared.plan.Plan.{Plan}
use Rattle.gimple_ir.specs.declared.merged.Merged.{Merged}
use Rattle.gimple_ir.specs.declared.merged.MergedFunction.{MergedFunction}
use Rattle.ipa_plan.specs.Vectors.{lattice_at, jump_under}

-- ---- what a plan chooses beside its vectors and targets

pub record Choice : Type 0 where
  -- whether a function needs a parameter component
  pub needed : (function component : ℕ) → Bool
  -- whether it gives its result
  pub results : (function : ℕ) → Bool

-- ---- bindings

-- of a component that is needed or not, with what is known of it; k is the number of the next argument
abbrev pub bound_as : Bool → ℕ → Lattice → Binding
bound_as false k l = binding.Dead
bound_as true k (Const x) = binding.Const x
bound_as true k Top = binding.Arg k
bound_as true k Bottom = binding.Arg k

abbrev pub next_argument : Binding → ℕ → ℕ
next_argument (binding.Arg m) k = suc k
next_argument binding.Dead k = k
next_argument (binding.Const x) k = k

-- of the components from i on, the next argument being k
abbrev pub bindings_by : (ℕ → Bool) → ℕ → ℕ → List Lattice → List Binding
bindings_by needed i k [] = []
bindings_by needed i k (l ∷ ls) = bound_as (needed i) k l ∷ bindings_by needed (i + 1) (next_argument (bound_as (needed i) k l) k) ls

-- a component that is an argument
abbrev pub kept_here : ℕ → Binding → List ℕ → List ℕ
kept_here i (binding.Arg k) more = i ∷ more
kept_here i binding.Dead more = more
kept_here i (binding.Const x) more = more

-- those of the components from i on, ascending
abbrev pub kept_from : ℕ → List Binding → List ℕ
kept_from i [] = []
kept_from i (b ∷ bs) = kept_here i b (kept_from (i + 1) bs)

-- ---- symbols

abbrev pub is_dead : Binding → Bool
is_dead binding.Dead = true
is_dead _ = false

-- it takes or gives less than its function has
abbrev pub is_reduced : MergedFunction → List Binding → Bool → Bool
is_reduced g bindings result = list_any is_dead bindings || (not result && not (is_void g.result))

-- `.constprop.` and the version's number, but for the first
abbrev pub constant_suffix : ℕ → List ℕ
constant_suffix number = if number == 0 then [] else codes ".constprop." ++ decimal number

abbrev pub reduced_suffix : Bool → List ℕ
reduced_suffix reduced = if reduced then codes ".isra.0" else []

-- NAME, `.`, the function's number, and the suffixes
abbrev pub symbol_of : List ℕ → (function number : ℕ) → Bool → List ℕ
symbol_of name function number reduced = name ++ (codes "." ++ (decimal function ++ (constant_suffix number ++ reduced_suffix reduced)))

-- ---- the rules

-- what a call of a version becomes
pub record IsCallOf (plan : Plan) (choice : Choice) (v : Version) (e : Edge) (c : CallPlan) : Type 0 where
  -- Target: it goes to a version of its function, with the arguments that this takes
  pub target : Version
  pub there : slice_get plan.versions c.target ≡ Some target
  pub callee : target.function ≡ e.callee
  pub kept : c.kept ≡ kept_from 0 target.bindings
  -- Constant: what the target takes for constant is what the jump function gives under the version's vector
  pub constant : (i : ℕ) (x : Value) → lattice_at target.vector i ≡ Const x → (a : EdgeArg) × (slice_get e.args i ≡ Some a) × (jump_under a.jump v.vector ≡ Const x)
  -- Needed: a parameter component that is passed for a needed one is needed
  pub needed : (i source : ℕ) (a : EdgeArg) → slice_get e.args i ≡ Some a → a.source ≡ Some source → choice.needed e.callee i ≡ true → choice.needed v.function source ≡ true
  -- Result: what is assigned is given
  pub result : e.assigns ≡ true → choice.results e.callee ≡ true

-- Root: of an exported function nothing is known, and all is needed
pub record IsRoot (choice : Choice) (v : Version) : Type 0 where
  pub unknown : (i : ℕ) (x : Value) → lattice_at v.vector i ≡ Const x → ⊥
  pub needed : (i : ℕ) → i < length v.vector → choice.needed v.function i ≡ true
  pub result : choice.results v.function ≡ true

pub record IsVersionIn (merged : Merged) (plan : Plan) (choice : Choice) (v : Version) : Type 0 where
  pub function : MergedFunction
  pub there : slice_get merged.functions v.function ≡ Some function
  -- one for each parameter component, of its type
  pub vector : length v.vector ≡ length function.summary.params
  pub typed : (i : ℕ) (x : Value) → lattice_at v.vector i ≡ Const x → (slice_get function.parameter_types i ≡ Some x.ty) × IsValue x
  pub root : function.exported ≡ true → IsRoot choice v
  -- Needed: what is used here is needed
  pub used : (i : ℕ) (facts : ParamFacts) → slice_get function.summary.params i ≡ Some facts → facts.used_here ≡ true → choice.needed v.function i ≡ true
  pub bindings : v.bindings ≡ bindings_by (choice.needed v.function) 0 0 v.vector
  pub result : v.result ≡ choice.results v.function
  pub symbol : v.symbol ≡ symbol_of function.name v.function v.number (is_reduced function v.bindings v.result)
  pub few : v.number < 2 ^ 32
  pub size : v.size ≡ function.summary.code_bound
  -- one call for each edge, in their order
  pub calls : length v.calls ≡ length function.summary.edges
  pub each : (k : ℕ) (e : Edge) (c : CallPlan) → slice_get function.summary.edges k ≡ Some e → slice_get v.calls k ≡ Some c → IsCallOf plan choice v e c
  -- what it names is kept
  pub arrays : All (λ a. list_any (nat_eq a) plan.arrays ≡ true) function.summary.arrays

-- by the functions' numbers, then by their own
pub record IsBefore (v w : Version) : Type 0 where
  pub functions : v.function ≤ w.function
  pub numbers : v.function ≡ w.function → v.number < w.number

abbrev pub IsOrdered : List Version → Type 0
IsOrdered versions = (i j : ℕ) (v w : Version) → i < j → slice_get versions i ≡ Some v → slice_get versions j ≡ Some w → IsBefore v w

-- a version at which a run can begin: the first of its function
abbrev pub IsFirstOf : ℕ → Version → Type 0
IsFirstOf function v = (v.function ≡ function) × (v.number ≡ 0)

pub record IsPlanned (merged : Merged) (plan : Plan) : Type 0 where
  pub choice : Choice
  pub versions : All (IsVersionIn merged plan choice) plan.versions
  pub ordered : IsOrdered plan.versions
  -- in bytes: all versions together are at most twice as large as all functions
  pub grown : sum_by (λ v. v.size) plan.versions ≤ 2 * sum_by (λ g. g.summary.code_bound) merged.functions
  pub arrays : All (λ a. a < length merged.arrays) plan.arrays
  pub ascending : IsStrictlyIncreasing plan.arrays
  -- an exported `main` has its first version
  pub main : IsSomeAnd (slice_get merged.functions merged.main) (λ g. g.exported ≡ true)
      → (place : ℕ) × (v : Version) × (slice_get plan.versions place ≡ Some v) × IsFirstOf merged.main v
