-- The arrays and functions that the statements of a version name, by the numbers that their symbols have.
use Rattle.std.proofs.Common.{◌≡◌, ◌<◌, ℕ, suc, List, [], ◌∷◌, length, map, Bool, true, false, cond, eqb, eqb-true, Some, refl, ap, ◌∙◌, arith}
use Rattle.std.specs.Prelude.{Option, slice_get, nat_eq}
use Rattle.std.specs.List.{flat_map, list_any}
use Rattle.std.specs.Option.{option_map_or}
use Rattle.gimple_ir.specs.declared.types.Arg.{Arg}
use Rattle.gimple_ir.specs.declared.types.Function.{Function}
use Rattle.gimple_ir.specs.declared.types.Program.{Program}
use Rattle.gimple_ir.specs.declared.types.Statement.{Statement}
use Rattle.gimple_ir.specs.declared.types.Statement.TheVariants.{Load, Store, Call}
use Rattle.gimple_ir.specs.declared.plan.CallPlan.{CallPlan}
use Rattle.gimple_ir.specs.declared.plan.Version.{Version}
use Rattle.gimple_ir.specs.declared.plan.Plan.{Plan}
use Rattle.gimple_ir.specs.declared.merged.Merged.{Merged}
use Rattle.gimple_ir.specs.declared.unit.ArrayUse.{ArrayUse}
use Rattle.gimple_ir.specs.declared.unit.CallUse.{CallUse}
use Rattle.gimple_ir.specs.Statements.{knows, knows_component, knows_operand, knows_array}
use Rattle.gimple_ir.specs.Programs.{scope_of}
use Rattle.gimple_meaning.specs.Source as source
use Rattle.gimple_meaning.specs.Steps.{Code}
use Rattle.func_summary.specs.Summaries.{arrays_in, arrays_of, edges_of}
use Rattle.func_summary.specs.Summarised.{module_of, IsSummarised}
use Rattle.func_summary.proofs.Checked.{below, all_at}
use Rattle.ipa_plan.specs.Rules.{Choice, kept_from, IsCallOf, IsPlanned}
use Rattle.ipa_transform.specs.Versioned.{operands_of, use_of, picked, kept_of}
use Rattle.program_link.specs.Versions.{array_use, call_use, member_of}
use Rattle.program_link.proofs.Facts.{three_true}
use Rattle.program_link.proofs.Uses.{use_found}
use Rattle.gimple_meaning.specs.Linked.{linked_code, array_number}
use Rattle.version_laws.specs.Linked.{linked}
use Rattle.version_laws.proofs.Lists.{mapped_at}
use Rattle.program_link.proofs.VersionFacts.{VersionFacts}
use Rattle.version_laws.proofs.Standing.{version_at}
use Rattle.version_laws.proofs.Named.{array_found, place_named}
use Rattle.version_laws.proofs.Bodies.{calls_before, edge_with, call_stands}

abbrev pub code_at : Program → Merged → Plan → Version → Function → Code
code_at p merged plan v f = linked_code (linked p merged plan) (version_at p merged plan v f)

-- a call of a version's body, before which n functions are called: where its target stands, and what it is passed
pub record CallKnown (p : Program) (merged : Merged) (plan : Plan) (choice : Choice) (v : Version) (f : Function) (n : ℕ) (to : Option ℕ) (g : ℕ) (args : List Arg) : Type 0 where
  pub call : CallPlan
  -- the statement's
  pub place : ℕ
  pub edge_is : slice_get (edges_of f) n ≡ Some (edge_with f place to g args)
  pub planned : slice_get v.calls n ≡ Some call
  pub rules : IsCallOf plan choice v (edge_with f place to g args) call
  pub named : slice_get (code_at p merged plan v f).calls n ≡ Some call.target
  pub passed : picked (flat_map (operands_of (member_of p merged plan v f).variables) args) (kept_of (member_of p merged plan v f).calls n)
      ≡ picked (flat_map (source.operands_of f.variables) args) (kept_from 0 rules.target.bindings)

-- what is known of the names in a statement before which n functions are called
abbrev pub Known : Program → Merged → Plan → Choice → Version → Function → ℕ → Statement → Type 0
Known p merged plan choice v f n (Load to array a) =
    array_number (linked p merged plan) (version_at p merged plan v f) (use_of (member_of p merged plan v f).arrays array) ≡ array
Known p merged plan choice v f n (Store array a b) =
    array_number (linked p merged plan) (version_at p merged plan v f) (use_of (member_of p merged plan v f).arrays array) ≡ array
Known p merged plan choice v f n (Call to g args) = CallKnown p merged plan choice v f n to g args
Known p merged plan choice v f n _ = Unit {0}

-- an array that is found in the list of those that a body names stands there
pub use_here : (merged : Merged) (ks : List ℕ) (array : ℕ) → use_of (map (array_use merged) ks) array < length (map (array_use merged) ks)
    → slice_get ks (use_of (map (array_use merged) ks) array) ≡ Some array
use_here merged [] array lt = absurd (omega (arith, lt))
use_here merged (k ∷ ks) array lt = by (eqb k array) refl lt (use_here merged ks array)
  where
    uses : List ArrayUse
    uses = map (array_use merged) ks

    by : (b : Bool) → eqb k array ≡ b → cond b 0 (suc (use_of uses array)) < suc (length uses)
        → (use_of uses array < length uses → slice_get ks (use_of uses array) ≡ Some array)
        → slice_get (k ∷ ks) (cond b 0 (suc (use_of uses array))) ≡ Some array
    by true same few later = ap (λ (j : ℕ). Some j) (eqb-true k array same)
    by false other few later = later (omega (arith, few))

-- the array that a statement names, in the version's list
pub array_use_at : (p : Program) (merged : Merged) (f : Function) (i : ℕ) (s : Statement) (array : ℕ) → slice_get f.body i ≡ Some s → arrays_in s ≡ array ∷ [] → array < length p.arrays
    → slice_get (map (array_use merged) (arrays_of (module_of p) f)) (use_of (map (array_use merged) (arrays_of (module_of p) f)) array) ≡ Some (array_use merged array)
array_use_at p merged f i s array at is lt =
    let ks = arrays_of (module_of p) f in
    mapped_at (array_use merged) ks (use_of (map (array_use merged) ks) array) array (use_here merged ks array (use_found p merged f i s array at is lt))

array_known : (p : Program) (merged : Merged) (plan : Plan) → IsSummarised p merged → (planned : IsPlanned merged plan) → (v : Version) (f : Function) → VersionFacts p merged plan planned.choice v f
    → (i : ℕ) (s : Statement) (array : ℕ) → slice_get f.body i ≡ Some s → arrays_in s ≡ array ∷ [] → array < length p.arrays
    → array_number (linked p merged plan) (version_at p merged plan v f) (use_of (member_of p merged plan v f).arrays array) ≡ array
array_known p merged plan summarised planned v f k i s array at is lt =
    let ks = arrays_of (module_of p) f in
    let place = use_of (map (array_use merged) ks) array in
    let here = use_here merged ks array (use_found p merged f i s array at is lt) in
    let kept = all_at (λ (a : ℕ). list_any (nat_eq a) plan.arrays ≡ true) ks k.arrays place array here in
    ap (λ o. option_map_or (λ (u : ArrayUse). (linked p merged plan).array_named u.symbol) o (length (linked p merged plan).arrays)) (array_use_at p merged f i s array at is lt)
    ∙ array_found p merged plan summarised planned array lt kept

call_known : (p : Program) (merged : Merged) (plan : Plan) → IsSummarised p merged → (planned : IsPlanned merged plan) → (v : Version) (f : Function) → VersionFacts p merged plan planned.choice v f
    → (i : ℕ) (to : Option ℕ) (g : ℕ) (args : List Arg) → slice_get f.body i ≡ Some (Call to g args) → CallKnown p merged plan planned.choice v f (calls_before 0 f.body i) to g args
call_known p merged plan summarised planned v f k i to g args at =
    let stands = call_stands p merged plan planned.choice v f k i to g args at in
    let symbols = map (λ (c : CallUse). c.symbol) (map (call_use plan) v.calls) in
    let named = (linked p merged plan).function_named in
    record {
      call = stands.call;
      place = stands.place;
      edge_is = stands.edge_is;
      planned = stands.planned;
      rules = stands.rules;
      named =
          mapped_at named symbols (calls_before 0 f.body i) stands.rules.target.symbol stands.symbol
          ∙ ap (λ (place : ℕ). Some place) (place_named p merged plan summarised planned stands.call.target stands.rules.target stands.rules.there);
      passed = stands.passed;
    }

known_in : (p : Program) (merged : Merged) (plan : Plan) → IsSummarised p merged → (planned : IsPlanned merged plan) → (v : Version) (f : Function) → VersionFacts p merged plan planned.choice v f
    → (i : ℕ) (s : Statement) → slice_get f.body i ≡ Some s → knows (scope_of p f) s ≡ true → Known p merged plan planned.choice v f (calls_before 0 f.body i) s
known_in p merged plan summarised planned v f k i (Load to array a) at names =
    let scope = scope_of p f in
    array_known p merged plan summarised planned v f k i (Load to array a) array at refl
    (below array (length p.arrays) (three_true (knows_component scope to) (knows_array scope array) (knows_operand scope a) names).1)
known_in p merged plan summarised planned v f k i (Store array a b) at names =
    let scope = scope_of p f in
    array_known p merged plan summarised planned v f k i (Store array a b) array at refl
    (below array (length p.arrays) (three_true (knows_array scope array) (knows_operand scope a) (knows_operand scope b) names).0)
known_in p merged plan summarised planned v f k i (Call to g args) at names = call_known p merged plan summarised planned v f k i to g args at
known_in p merged plan summarised planned v f k i _ at names = tt

pub known : (p : Program) (merged : Merged) (plan : Plan) → IsSummarised p merged → (planned : IsPlanned merged plan) → (v : Version) (f : Function) → VersionFacts p merged plan planned.choice v f
    → (i : ℕ) (s : Statement) → slice_get f.body i ≡ Some s → Known p merged plan planned.choice v f (calls_before 0 f.body i) s
known p merged plan summarised planned v f k i s at = known_in p merged plan summarised planned v f k i s at (k.facts.passes i s at).0
