-- What a plan has, and what the limits of a link give.
use Rattle.std.proofs.Common.{◌≡◌, ℕ, zero, suc, ◌^◌, ◌≤◌, Bool, true, false, cond, List, [], ◌∷◌, length, map, Option, Some, None, refl, ap, ◌∙◌, subst, sym, arith}
use Rattle.std.specs.Prelude.{All, nat_lt, ◌==◌, ◌&&◌, slice_get, IsSome, find}
use Rattle.std.specs.List.{AllByRecursion}
use Rattle.std.proofs.lemmas.Bool.Decides.{nat_tests}
use Rattle.std.proofs.lemmas.List.Elements.{recursion_from_All, All-from_recursion}
use Rattle.gimple_ir.specs.declared.types.Array.{Array}
use Rattle.gimple_ir.specs.declared.types.Program.{Program}
use Rattle.gimple_ir.specs.declared.merged.Merged.{Merged}
use Rattle.gimple_ir.specs.declared.merged.MergedArray.{MergedArray}
use Rattle.gimple_ir.specs.declared.plan.Plan.{Plan}
use Rattle.gimple_ir.specs.declared.plan.Version.{Version}
use Rattle.gimple_ir.specs.declared.versioned.VersionedFunction.{VersionedFunction}
use Rattle.gimple_ir.specs.Programs.{IsProgramArray}
use Rattle.func_summary.specs.Summarised.{IsSummarised}
use Rattle.ipa_plan.specs.Rules.{IsPlanned}
use Rattle.final_link.specs.Placing.{is_first_of}
use Rattle.program_link.specs.declared.fault.LimitFault.{LimitFault}
use Rattle.program_link.specs.declared.fault.Quantity.TheVariants.{LinkFunctions, LinkCode, LinkData}
use Rattle.program_link.specs.Versions.{version_in, functions_of}
use Rattle.program_link.specs.Linking.{data_sum, code_sum, limits_of, first_passed}

-- ---- `main`

first_found : (b : Bool) (v : Version) (rest : Option Version) → (b ≡ false → IsSome rest) → IsSome (cond b (Some v) rest)
first_found true v rest h = refl
first_found false v rest h = h refl

differ : (b : Bool) → b ≡ true → b ≡ false → ⊥
differ true e h = cc
differ false e h = cc

version_found : (versions : List Version) (main place : ℕ) (v : Version) → slice_get versions place ≡ Some v → is_first_of main v ≡ true → IsSome (find (is_first_of main) versions)
version_found [] main place v here first = cc
version_found (w ∷ vs) main zero v here first =
    let same : w ≡ v = cc in
    first_found (is_first_of main w) w (find (is_first_of main) vs) (λ none. absurd (differ (is_first_of main w) (ap (is_first_of main) same ∙ first) none))
version_found (w ∷ vs) main (suc place) v here first =
    first_found (is_first_of main w) w (find (is_first_of main) vs) (λ none. version_found vs main place v here first)

both_are : (function main number : ℕ) → function ≡ main → number ≡ 0 → (function == main && number == 0) ≡ true
both_are function main number e f = grind (arith, nat_tests)

pub main_stands : (p : Program) (merged : Merged) (plan : Plan) → IsSummarised p merged → IsPlanned merged plan → IsSome (find (is_first_of merged.main) plan.versions)
main_stands p merged plan summarised planned =
    let m = planned.main summarised.exported in
    version_found plan.versions merged.main m.0 m.1 m.2 (both_are m.1.function merged.main m.1.number m.3.0 m.3.1)

-- ---- the arrays

unmapped : (P : Array → Type 0) (xs : List MergedArray) → AllByRecursion P (map (λ a. a.item) xs) → AllByRecursion (λ a. P a.item) xs
unmapped P [] h = tt
unmapped P (x ∷ xs) h = (h.0, unmapped P xs h.1)

-- what holds of the program's arrays
pub items_all : (p : Program) (merged : Merged) (P : Array → Type 0) → IsSummarised p merged → All P p.arrays → All (λ a. P a.item) merged.arrays
items_all p merged P summarised all =
    All-from_recursion (λ (a : MergedArray). P a.item) merged.arrays
    (unmapped P merged.arrays (subst (AllByRecursion P) (sym summarised.items) (recursion_from_All P p.arrays all)))

pub arrays_defined : (p : Program) (merged : Merged) → IsSummarised p merged → All (λ a. IsProgramArray a.item) merged.arrays
arrays_defined p merged summarised = items_all p merged IsProgramArray summarised summarised.program.arrays

-- ---- the limits

within_by : (b : Bool) (l : LimitFault) (rest : Option LimitFault) → nat_lt l.limit l.number ≡ b → cond b (Some l) rest ≡ None → (l.number ≤ l.limit) × (rest ≡ None)
within_by true l rest e none = cc
within_by false l rest e none = (grind (arith, nat_tests), none)

one_within : (l : LimitFault) (ls : List LimitFault) → first_passed (l ∷ ls) ≡ None → (l.number ≤ l.limit) × (first_passed ls ≡ None)
one_within l ls none = within_by (nat_lt l.limit l.number) l (first_passed ls) refl none

-- no limit is passed
pub record Within (merged : Merged) : Type 0 where
  pub functions : length merged.functions ≤ 20000
  pub code : code_sum merged ≤ 2 ^ 25
  pub arrays : data_sum merged ≤ 2 ^ 26

three_within : (functions code arrays : LimitFault) → first_passed (functions ∷ code ∷ arrays ∷ []) ≡ None → (functions.number ≤ functions.limit) × (code.number ≤ code.limit) × (arrays.number ≤ arrays.limit)
three_within functions code arrays none =
    let first = one_within functions (code ∷ arrays ∷ []) none in
    let second = one_within code (arrays ∷ []) first.1 in
    let third = one_within arrays [] second.1 in
    (first.0, second.0, third.0)

pub limits_kept : (merged : Merged) → first_passed (limits_of merged) ≡ None → Within merged
limits_kept merged none =
    let all = three_within (record { quantity = LinkFunctions; number = length merged.functions; limit = 20000 })
    (record { quantity = LinkCode; number = code_sum merged; limit = 2 ^ 25 }) (record { quantity = LinkData; number = data_sum merged; limit = 2 ^ 26 }) none in
    record { functions = all.0; code = all.1; arrays = all.2 }

-- ---- the symbols of versions and functions

pub same_symbols : (p : Program) (merged : Merged) (plan : Plan) → map (λ v. v.symbol) plan.versions ≡ map (λ f. f.symbol) (functions_of p merged plan)
same_symbols p merged plan = same_from plan.versions
  where
    same_from : (vs : List Version) → map (λ (v : Version). v.symbol) vs ≡ map (λ (f : VersionedFunction). f.symbol) (map (version_in p merged plan) vs)
    same_from [] = refl
    same_from (v ∷ vs) = ap (λ (names : List (List ℕ)). v.symbol ∷ names) (same_from vs)
