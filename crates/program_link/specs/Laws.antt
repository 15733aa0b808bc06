-- What is known of the versions of a program under its plan, as the layers above use it.
use Rattle.std.specs.Prelude.{◌≡◌, ◌+◌, ◌^◌, ◌≤◌, map, All, None, IsSome, true, false, nat_eq}
use Rattle.std.specs.List.{find, list_any}
use Rattle.gimple_ir.specs.declared.types.Program.{Program}
use Rattle.gimple_ir.specs.declared.merged.Merged.{Merged}
use Rattle.gimple_ir.specs.declared.plan.Plan.{Plan}
use Rattle.gimple_ir.specs.declared.unit.ArrayUse.{ArrayUse}
use Rattle.gimple_ir.specs.Names.{repeats}
use Rattle.func_summary.specs.Summarised.{IsSummarised}
use Rattle.ipa_plan.specs.Rules.{IsPlanned}
use Rattle.gimple_meaning.specs.Versioned.{IsVersioned}
use Rattle.final_link.specs.Stubs.{start_address, functions_address}
use Rattle.final_link.specs.Arrays.{size_of}
use Rattle.final_link.specs.Symbols.{end_of, arrays_in_order}
use Rattle.final_link.specs.Placing.{is_first_of}
use Rattle.follow_laws.specs.Direct.{code_size, direct_symbols}
use Rattle.program_link.specs.Versions.{array_use, functions_of}
use Rattle.program_link.specs.Linking.{limits_of, first_passed}

-- what holds of a program whose summaries are true, under a plan of them
abbrev pub UnderPlan : (Program → Merged → Plan → Type 0) → Type 0
UnderPlan P = (p : Program) (merged : Merged) (plan : Plan) → IsSummarised p merged → IsPlanned merged plan → P p merged plan

-- each version is one that the back end takes
abbrev pub VersionsFit : Type 0
VersionsFit = UnderPlan (λ p merged plan. All IsVersioned (functions_of p merged plan))

-- the versions have the plan's symbols
abbrev pub SymbolsAgree : Type 0
SymbolsAgree = UnderPlan (λ p merged plan. map (λ f. f.symbol) (functions_of p merged plan) ≡ map (λ v. v.symbol) plan.versions)

-- no two symbols of the image are alike
abbrev pub SymbolsDiffer : Type 0
SymbolsDiffer = UnderPlan (λ p merged plan. repeats (map (λ e. e.0) (direct_symbols (functions_of p merged plan) merged plan.arrays)) ≡ false)

-- `main` has a version
abbrev pub MainStands : Type 0
MainStands = UnderPlan (λ p merged plan. IsSome (find (is_first_of merged.main) plan.versions))

-- what a version names is kept, and has its symbol and its element type
abbrev pub IsKeptUse : Merged → Plan → ArrayUse → Type 0
IsKeptUse merged plan u = (list_any (nat_eq u.local) plan.arrays ≡ true) × (u ≡ array_use merged u.local)

abbrev pub UsesKept : Type 0
UsesKept = UnderPlan (λ p merged plan. All (λ f. All (IsKeptUse merged plan) f.arrays) (functions_of p merged plan))

-- the sizes in bytes, where no limit is passed: the text with the stubs, and the kept arrays
abbrev pub TextSmall : Type 0
TextSmall = UnderPlan (λ p merged plan. first_passed (limits_of merged) ≡ None → end_of code_size functions_address (functions_of p merged plan) ≤ start_address + 2 ^ 27)

abbrev pub ArraysSmall : Type 0
ArraysSmall = UnderPlan (λ p merged plan. first_passed (limits_of merged) ≡ None → end_of (size_of merged) 0 (arrays_in_order merged plan.arrays) ≤ 2 ^ 26)
