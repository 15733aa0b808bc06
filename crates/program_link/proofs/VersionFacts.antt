-- What is known of a version of a plan: its function stands in the program, and what it names has a version or is kept.
use Rattle.std.proofs.Common.{◌≡◌, ◌<◌, ℕ, zero, suc, ◌+◌, List, [], ◌∷◌, length, Bool, Some, None, refl, sym, ap, ◌∙◌, subst, arith, true}
use Rattle.std.specs.Prelude.{All, Option, map, slice_get, unwrap_or, nat_eq}
use Rattle.std.specs.List.{list_any, AllByRecursion}
use Rattle.std.specs.Option.{option_map_or}
use Rattle.std.proofs.lemmas.List.Elements.{recursion_from_All}
use Rattle.std.proofs.lemmas.List.FromFn.{length-map-range_with_len}
use Rattle.gimple_ir.specs.declared.types.Function.{Function}
use Rattle.gimple_ir.specs.declared.types.Module.{Module}
use Rattle.gimple_ir.specs.declared.types.Program.{Program}
use Rattle.gimple_ir.specs.declared.lattice.Lattice.{Lattice}
use Rattle.gimple_ir.specs.declared.summary.Edge.{Edge}
use Rattle.gimple_ir.specs.declared.summary.Summary.{Summary}
use Rattle.gimple_ir.specs.declared.merged.Merged.{Merged}
use Rattle.gimple_ir.specs.declared.merged.MergedFunction.{MergedFunction}
use Rattle.gimple_ir.specs.declared.plan.CallPlan.{CallPlan}
use Rattle.gimple_ir.specs.declared.plan.Plan.{Plan}
use Rattle.gimple_ir.specs.declared.plan.Version.{Version}
use Rattle.gimple_ir.specs.declared.versioned.VersionedFunction.{VersionedFunction}
use Rattle.gimple_ir.specs.CodeBound.{parameter_components, code_bound_of}
use Rattle.func_summary.specs.Summaries.{places_of, places_naming, facts_of, arrays_of, edges_of, summary_of}
use Rattle.func_summary.specs.Summarised.{module_of, IsTrueOf, IsSummarised}
use Rattle.func_summary.proofs.Checked.{place_inside}
use Rattle.ipa_transform.specs.Versioned.{versioned_of}
use Rattle.ipa_plan.specs.Rules.{Choice, bound_as, next_argument, bindings_by, is_reduced, symbol_of, IsCallOf, IsVersionIn, IsPlanned}
use Rattle.program_link.specs.Versions.{function_at, member_of, version_in, functions_of}
use Rattle.program_link.proofs.Facts.{Facts, facts}

-- an element at a place
pub record IsAt {X : Type 0} (xs : List X) (i : ℕ) : Type 0 where
  pub element : X
  pub here : slice_get xs i ≡ Some element

pub found_at : {X : Type 0} (xs : List X) (i : ℕ) → i < length xs → IsAt xs i
found_at [] i lt = absurd (omega (arith, lt))
found_at (x ∷ xs) zero lt = record { element = x; here = refl }
found_at (x ∷ xs) (suc i) lt = let later = found_at xs i (omega (arith, lt)) in record { element = later.element; here = later.here }

pub params_count : (m : Module) (f : Function) (s : Summary) → s ≡ summary_of m f → length s.params ≡ parameter_components f
params_count m f s is = ap (λ (t : Summary). length t.params) is ∙ length-map-range_with_len (λ x. facts_of (places_naming x (places_of f))) 0 (parameter_components f)

unwrapped : (o : Option Function) (other f : Function) → o ≡ Some f → unwrap_or o other ≡ f
unwrapped None other f e = cc
unwrapped (Some g) other f e = cc

-- as many bindings as there are lattices
pub length-bindings_by : (needed : ℕ → Bool) (i k : ℕ) (ls : List Lattice) → length (bindings_by needed i k ls) ≡ length ls
length-bindings_by needed i k [] = refl
length-bindings_by needed i k (l ∷ ls) = ap suc (length-bindings_by needed (i + 1) (next_argument (bound_as (needed i) k l) k) ls)

pub record VersionFacts (p : Program) (merged : Merged) (plan : Plan) (choice : Choice) (version : Version) (f : Function) : Type 0 where
  pub here : slice_get p.functions version.function ≡ Some f
  pub facts : Facts p f
  pub is : function_at p version.function ≡ f
  pub inside : version.function < length p.functions
  -- the rules, and what the link knows of its function
  pub known : IsVersionIn merged plan choice version
  pub truth : IsTrueOf p known.function f
  -- one for each parameter component
  pub vector : length version.vector ≡ parameter_components f
  pub bindings : length version.bindings ≡ parameter_components f
  pub symbol : version.symbol ≡ symbol_of f.name version.function version.number (is_reduced known.function version.bindings version.result)
  pub size : version.size ≡ code_bound_of f
  -- what stands for its code among the sums of the link
  pub bound : option_map_or (λ g. g.summary.code_bound) (slice_get merged.functions version.function) 0 ≡ code_bound_of f
  -- one call for each edge
  pub count : length version.calls ≡ length (edges_of f)
  pub calls : (k : ℕ) (e : Edge) (c : CallPlan) → slice_get (edges_of f) k ≡ Some e → slice_get version.calls k ≡ Some c → IsCallOf plan choice version e c
  -- the arrays that it names are kept
  pub arrays : All (λ a. list_any (nat_eq a) plan.arrays ≡ true) (arrays_of (module_of p) f)

-- where the function stands
pub facts_at : (p : Program) (merged : Merged) (plan : Plan) (choice : Choice) (version : Version) (f : Function) → IsSummarised p merged → IsVersionIn merged plan choice version
    → slice_get p.functions version.function ≡ Some f → VersionFacts p merged plan choice version f
facts_at p merged plan choice version f summarised k here =
    let tells = summarised.summaries version.function k.function f k.there here in
    let vector = k.vector ∙ params_count (module_of p) f k.function.summary tells.summary in
    record {
      here = here;
      facts = facts p merged version.function f summarised here;
      is = unwrapped (slice_get p.functions version.function) _ f here;
      inside = place_inside p.functions version.function f here;
      known = k;
      truth = tells;
      vector = vector;
      bindings = ap length k.bindings ∙ length-bindings_by (choice.needed version.function) 0 0 version.vector ∙ vector;
      symbol = k.symbol ∙ ap (λ name. symbol_of name version.function version.number (is_reduced k.function version.bindings version.result)) tells.name;
      size = k.size ∙ ap (λ (s : Summary). s.code_bound) tells.summary;
      bound = ap (λ o. option_map_or (λ (g : MergedFunction). g.summary.code_bound) o 0) k.there ∙ ap (λ (s : Summary). s.code_bound) tells.summary;
      count = k.calls ∙ ap (λ (s : Summary). length s.edges) tells.summary;
      calls = λ n e c at there. k.each n e c (subst (λ (s : Summary). slice_get s.edges n ≡ Some e) (sym tells.summary) at) there;
      arrays = subst (λ (s : Summary). All (λ a. list_any (nat_eq a) plan.arrays ≡ true) s.arrays) tells.summary k.arrays;
    }

pub version_facts : (p : Program) (merged : Merged) (plan : Plan) (choice : Choice) (version : Version) → IsSummarised p merged → IsVersionIn merged plan choice version
    → (f : Function) × VersionFacts p merged plan choice version f
version_facts p merged plan choice version summarised k =
    let inside : version.function < length p.functions = omega (arith, place_inside merged.functions version.function k.function k.there, summarised.one_each) in
    let found = found_at p.functions version.function inside in
    (found.element, facts_at p merged plan choice version found.element summarised k found.here)

-- ---- all versions

-- what holds of the version of each function
pub version_has : (p : Program) (merged : Merged) (plan : Plan) (choice : Choice) (Q : VersionedFunction → Type 0) → IsSummarised p merged
    → ((version : Version) (f : Function) → VersionFacts p merged plan choice version f → Q (versioned_of (member_of p merged plan version f)))
    → (version : Version) → IsVersionIn merged plan choice version → Q (version_in p merged plan version)
version_has p merged plan choice Q summarised each version known =
    let k = version_facts p merged plan choice version summarised known in
    subst (λ (f : Function). Q (versioned_of (member_of p merged plan version f))) (sym k.1.is) (each version k.0 k.1)

have_from : (p : Program) (merged : Merged) (plan : Plan) (choice : Choice) (Q : VersionedFunction → Type 0) (versions : List Version) → ((version : Version) → IsVersionIn merged plan choice version → Q (version_in p merged plan version))
    → AllByRecursion (IsVersionIn merged plan choice) versions → AllByRecursion Q (map (version_in p merged plan) versions)
have_from p merged plan choice Q [] each known = tt
have_from p merged plan choice Q (v ∷ vs) each known = (each v known.0, have_from p merged plan choice Q vs each known.1)

pub versions_have : (p : Program) (merged : Merged) (plan : Plan) (Q : VersionedFunction → Type 0) → IsSummarised p merged → (planned : IsPlanned merged plan)
    → ((version : Version) (f : Function) → VersionFacts p merged plan planned.choice version f → Q (versioned_of (member_of p merged plan version f)))
    → AllByRecursion Q (functions_of p merged plan)
versions_have p merged plan Q summarised planned each =
    have_from p merged plan planned.choice Q plan.versions (version_has p merged plan planned.choice Q summarised each) (recursion_from_All (IsVersionIn merged plan planned.choice) plan.versions planned.versions)
