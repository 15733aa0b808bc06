-- A merged program that is true of a program can be planned.
use Rattle.std.proofs.Common.{◌≡◌, ◌<◌, ◌^◌, ℕ, zero, suc, List, [], ◌∷◌, length, Some, refl, sym, ap, ◌∙◌, arith, subst}
use Rattle.std.specs.Prelude.{All, slice_get}
use Rattle.std.proofs.lemmas.List.{length-map}
use Rattle.std.proofs.lemmas.List.Elements.{All-weaker}
use Rattle.std.proofs.lemmas.List.FromFn.{length-map-range_with_len}
use Rattle.std.proofs.lemmas.Option.{slice_get_within}
use Rattle.gimple_ir.specs.declared.types.Function.{Function}
use Rattle.gimple_ir.specs.declared.types.Program.{Program}
use Rattle.gimple_ir.specs.declared.summary.Edge.{Edge}
use Rattle.gimple_ir.specs.declared.summary.Summary.{Summary}
use Rattle.gimple_ir.specs.declared.merged.Merged.{Merged}
use Rattle.gimple_ir.specs.declared.merged.MergedArray.{MergedArray}
use Rattle.gimple_ir.specs.declared.merged.MergedFunction.{MergedFunction}
use Rattle.gimple_ir.specs.CodeBound.{parameter_components}
use Rattle.gimple_ir.specs.Programs.{IsIdentifier, IsProgramFunction}
use Rattle.func_summary.specs.Summaries.{names_array, facts_of, places_naming, places_of}
use Rattle.func_summary.specs.Summarised.{IsSmallFunction, IsTrueOf, IsSummarised}
use Rattle.func_summary.proofs.Checked.{all_at, all-from_places}
use Rattle.ipa_plan.specs.Plans.{IsPlannedFunction}
use Rattle.ipa_plan.specs.Laws.{SummarisedLaw}
use Rattle.ipa_plan.proofs.Living.{passing_below}
use Rattle.ipa_plan.proofs.Arguments.{IsEdgeOf, edges_known}

-- a function of the program that a merged one is true of
record HasFunction (p : Program) (g : MergedFunction) : Type 0 where
  function : Function
  formed : IsProgramFunction p function
  small : IsSmallFunction function
  truth : IsTrueOf p g function

there_is : {X : Type 0} (xs : List X) (n : ℕ) → n < length xs → (x : X) × (slice_get xs n ≡ Some x)
there_is [] n lt = absurd (omega (arith, lt))
there_is (x ∷ xs) zero lt = (x, refl)
there_is (x ∷ xs) (suc n) lt = there_is xs n (omega (arith, lt))

has_function : (p : Program) (merged : Merged) → IsSummarised p merged → (n : ℕ) (g : MergedFunction) → slice_get merged.functions n ≡ Some g → HasFunction p g
has_function p merged is n g here =
    let found = there_is p.functions n (omega (arith, slice_get_within merged.functions n g here, is.one_each)) in
    record {
      function = found.0;
      formed = all_at (IsProgramFunction p) p.functions is.program.functions n found.0 found.1;
      small = all_at IsSmallFunction p.functions is.functions n found.0 found.1;
      truth = is.summaries n g found.0 here found.1;
    }

edges_are : (p : Program) (merged : Merged) → IsSummarised p merged → (n : ℕ) (g : MergedFunction) → slice_get merged.functions n ≡ Some g → All (IsEdgeOf p) g.summary.edges
edges_are p merged is n g here =
    let h = has_function p merged is n g here in
    subst (All (IsEdgeOf p)) (sym (ap (λ (s : Summary). s.edges) h.truth.summary)) (edges_known p h.function h.formed is.program.functions is.functions)

same_count : (p : Program) (merged : Merged) → IsSummarised p merged → length merged.arrays ≡ length p.arrays
same_count p merged is = sym (length-map merged.arrays (λ (a : MergedArray). a.item)) ∙ ap length is.items

arrays_are : (p : Program) (merged : Merged) → IsSummarised p merged → (n : ℕ) (g : MergedFunction) → slice_get merged.functions n ≡ Some g → All (λ a. a < length merged.arrays) g.summary.arrays
arrays_are p merged is n g here =
    let h = has_function p merged is n g here in
    let few = passing_below (names_array h.function) (length p.arrays) in
    let same = same_count p merged is in
    subst (All (λ a. a < length merged.arrays)) (sym (ap (λ (s : Summary). s.arrays) h.truth.summary))
    (All-weaker (λ a. a < length p.arrays) (λ a. a < length merged.arrays) (λ a lt. omega (arith, lt, same)) _ few)

function_planned : (p : Program) (merged : Merged) → IsSummarised p merged → (n : ℕ) (g : MergedFunction) → slice_get merged.functions n ≡ Some g → IsPlannedFunction g
function_planned p merged is n g here =
    let h = has_function p merged is n g here in
    let count = length-map-range_with_len (λ x. facts_of (places_naming x (places_of h.function))) 0 (parameter_components h.function) in
    record {
      name = subst IsIdentifier (sym h.truth.name) h.small.name;
      parameters = omega (arith, ap (λ (s : Summary). length s.params) h.truth.summary, count, h.small.parameters);
      arguments = All-weaker (IsEdgeOf p) (λ (e : Edge). length e.args < 2 ^ 32) (λ e k. omega (arith, k.few)) g.summary.edges (edges_are p merged is n g here);
    }

pub summarised_law : SummarisedLaw
summarised_law p merged is =
    let same = is.one_each in
    record {
      few_functions = omega (arith, is.few_functions, same);
      few_arrays = omega (arith, is.few_arrays, same_count p merged is);
      callees =
          all-from_places (λ (g : MergedFunction). All (λ (e : Edge). e.callee < length merged.functions) g.summary.edges) merged.functions
          (λ n g here. All-weaker (IsEdgeOf p) (λ (e : Edge). e.callee < length merged.functions) (λ e k. omega (arith, k.callee, same)) g.summary.edges (edges_are p merged is n g here));
      arrays = all-from_places (λ (g : MergedFunction). All (λ a. a < length merged.arrays) g.summary.arrays) merged.functions (arrays_are p merged is);
      functions = all-from_places IsPlannedFunction merged.functions (function_planned p merged is);
    }
