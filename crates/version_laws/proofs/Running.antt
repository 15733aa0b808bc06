-- The run of the versions of a plan keeps that of the whole program, step by step.
use Rattle.std.proofs.Common.{◌≡◌, ℕ, List, [], ◌∷◌, map, take, Bool, true, Some, None, refl, sym, ap, ◌∙◌, subst}
use Rattle.std.specs.Prelude.{Option, IsSomeAnd, slice_get, option_map, unwrap_or}
use Rattle.std.proofs.lemmas.Option.{none-some}
use Rattle.gimple_ir.specs.CodeBound.{components_in, parameter_components}
use Rattle.gimple_ir.specs.declared.types.ScalarType.TheVariants.{Int}
use Rattle.gimple_ir.specs.declared.types.ResultType.TheVariants as returned
use Rattle.gimple_ir.specs.declared.types.Operand.{Operand}
use Rattle.gimple_ir.specs.declared.types.Value.{Value}
use Rattle.gimple_ir.specs.declared.types.Array.{Array}
use Rattle.gimple_ir.specs.declared.types.Function.{Function}
use Rattle.gimple_ir.specs.declared.types.Program.{Program}
use Rattle.gimple_ir.specs.declared.types.Statement.{Statement}
use Rattle.gimple_ir.specs.declared.versioned.Step.{Step}
use Rattle.gimple_ir.specs.declared.plan.Version.{Version}
use Rattle.gimple_ir.specs.declared.plan.Plan.{Plan}
use Rattle.gimple_ir.specs.declared.merged.Merged.{Merged}
use Rattle.gimple_ir.specs.declared.merged.MergedFunction.{MergedFunction}
use Rattle.gimple_meaning.specs.Acts.{Store, Act, value_at}
use Rattle.gimple_meaning.specs.Systems.{fresh, status, first_arrays}
use Rattle.gimple_meaning.specs.Source.{begun, effect_in, effect_at, source_of, start}
use Rattle.gimple_meaning.specs.Steps.{Code, act_in, act_at}
use Rattle.gimple_meaning.specs.LockStep.{States, ActAlike}
use Rattle.gimple_meaning.proofs.KeepingLaws.{tied_keeps}
use Rattle.func_summary.specs.Summarised.{IsSummarised}
use Rattle.ipa_plan.specs.Rules.{Choice, kept_from, IsPlanned}
use Rattle.ipa_transform.specs.Versioned.{picked}
use Rattle.program_link.proofs.VersionFacts.{VersionFacts}
use Rattle.gimple_meaning.specs.Linked.{linked_codes, linked_system}
use Rattle.version_laws.specs.States.{versions_view}
use Rattle.gimple_meaning.specs.Linked.{linked_start}
use Rattle.version_laws.specs.Linked.{linked}
use Rattle.version_laws.specs.Laws.{VersionsLaw}
use Rattle.version_laws.proofs.Standing.{standing}
use Rattle.version_laws.proofs.Named.{begins_at, same_arrays}
use Rattle.version_laws.proofs.Bodies.{calls_before}
use Rattle.version_laws.proofs.Uses.{code_at, known}
use Rattle.version_laws.proofs.Reading.{reads_alive}
use Rattle.version_laws.proofs.Frames.{CellsAlike, VersionFrames, GivenBy, versions_tie, frame_kept}
use Rattle.version_laws.proofs.Entering.{Given, begins_with, vector_holds, version_begins, new_cells, version_enters}
use Rattle.version_laws.proofs.Acting.{ActsAlike, now, lowered, function_found, code_found, step_found, acts_alike}

-- ---- all statements

alike : (p : Program) (merged : Merged) (plan : Plan) → IsSummarised p merged → (planned : IsPlanned merged plan)
    → ActAlike (source_of p) (linked_system (linked p merged plan)) (versions_tie p merged plan planned.choice)
alike p merged plan summarised planned q r k arrays input =
    subst (λ (o : Option Function). ActsAlike p merged plan planned.choice q r (effect_at p.arrays o q.place before) (act_at (linked p merged plan).arrays (slice_get (linked_codes (linked p merged plan)).functions r.function) r.place after))
    (sym (function_found p merged plan planned.choice q r k))
    (subst (λ (o : Option Code). ActsAlike p merged plan planned.choice q r first (act_at (linked p merged plan).arrays o r.place after)) (sym (code_found p merged plan planned.choice q r k))
    (subst (λ (items : List Array). ActsAlike p merged plan planned.choice q r first (act_in items code r.place after (slice_get code.body r.place))) (sym (same_arrays p merged plan summarised))
    (subst (λ (o : Option Step). ActsAlike p merged plan planned.choice q r first (act_in p.arrays code r.place after o)) (sym (step_found p merged plan planned.choice q r k))
    (by (slice_get k.function.body q.place) refl))))
  where
    before : Store
    before = now q.components arrays input

    after : Store
    after = now r.components arrays input

    code : Code
    code = code_at p merged plan k.version k.function

    first : Act
    first = effect_in p.arrays k.function q.place before (slice_get k.function.body q.place)

    by : (o : Option Statement) → slice_get k.function.body q.place ≡ o
        → ActsAlike p merged plan planned.choice q r (effect_in p.arrays k.function q.place before o)
        (act_in p.arrays code r.place after (option_map (lowered p merged plan k.version k.function (calls_before 0 k.function.body q.place)) o))
    by None here = tt
    by (Some s) here =
        acts_alike p merged plan summarised planned q r k arrays input (calls_before 0 k.function.body q.place) s here
        (known p merged plan summarised planned k.version k.function k.facts q.place s here) (reads_alive p merged plan planned.choice k.version k.function k.facts q.place s here)

-- ---- the first frames

nothing_picked : (places : List ℕ) → picked {A = Operand} [] places ≡ []
nothing_picked [] = refl
nothing_picked (k ∷ places) = nothing_picked places

-- `main`, in its first version: it is passed nothing
record First (p : Program) (merged : Merged) (plan : Plan) (choice : Choice) : Type 0 where
  version : Version
  at : slice_get plan.versions (linked p merged plan).main ≡ Some version
  function : Function
  facts : VersionFacts p merged plan choice version function
  is : version.function ≡ p.main
  none : parameter_components function ≡ 0
  result : version.result ≡ true

first_version : (p : Program) (merged : Merged) (plan : Plan) → IsSummarised p merged → (planned : IsPlanned merged plan) → First p merged plan planned.choice
first_version p merged plan summarised planned =
    let begins = begins_at p merged plan summarised planned in
    let v = begins.version in
    let k = standing p merged plan summarised planned (linked p merged plan).main v begins.at in
    let here : slice_get p.functions p.main ≡ Some k.0 = ap (slice_get p.functions) (sym begins.is) ∙ k.1.here in
    let main = subst (λ (o : Option Function). IsSomeAnd o (λ f. (f.parameters ≡ 0) × (f.result ≡ returned.Scalar Int))) here summarised.program.main in
    let there : slice_get merged.functions merged.main ≡ Some k.1.known.function = ap (slice_get merged.functions) (summarised.main ∙ sym begins.is) ∙ k.1.known.there in
    let exported = subst (λ (o : Option MergedFunction). IsSomeAnd o (λ g. g.exported ≡ true)) there summarised.exported in
    record {
      version = v;
      at = begins.at;
      function = k.0;
      facts = k.1;
      is = begins.is;
      none = ap (λ (n : ℕ). components_in (take n k.0.variables)) main.0;
      result = k.1.known.result ∙ (k.1.known.root exported).result;
    }

nothing_given : (choice : Choice) (v : Version) (c : Function) → parameter_components c ≡ 0 → Given choice v v c [] []
nothing_given choice v c none = record {
  count = sym none;
  alive = λ i needed o here. absurd (none-some o here);
  constant = λ i x known o here u value. absurd (none-some o here);
}

first_frames : (p : Program) (merged : Merged) (plan : Plan) (choice : Choice) (k : First p merged plan choice)
    → VersionFrames p merged plan choice (fresh p.main (begins_with k.function [])) (fresh (linked p merged plan).main (version_begins k.version (components_in k.function.variables) []))
first_frames p merged plan choice k = record {
  version = k.version;
  at = k.at;
  function = k.function;
  facts = k.facts;
  is = k.is;
  place = refl;
  entry = begins_with k.function [];
  holds = vector_holds choice k.version k.version k.function [] [] (nothing_given choice k.version k.function k.none);
  cells =
      subst (λ (ops : List Operand). CellsAlike k.version k.function (begins_with k.function []) (begins_with k.function []) (version_begins k.version (components_in k.function.variables) (map (value_at []) ops)))
      (nothing_picked (kept_from 0 k.version.bindings))
      (new_cells p merged plan choice k.version k.version k.function k.function [] [] [] [] k.facts
      (record { size = refl; agree = λ i x alive is. is; knows = λ i x is. absurd (none-some x is) }) (nothing_given choice k.version k.function k.none));
}

starts : (p : Program) (merged : Merged) (plan : Plan) → IsSummarised p merged → (planned : IsPlanned merged plan) → (input : List ℕ)
    → States (source_of p) (linked_system (linked p merged plan)) (versions_tie p merged plan planned.choice) (start p input) (linked_start (linked p merged plan) input)
starts p merged plan summarised planned input =
    let k = first_version p merged plan summarised planned in
    let begins = version_enters p merged plan planned.choice (linked p merged plan).main k.version k.function [] k.at k.facts in
    let here : slice_get p.functions p.main ≡ Some k.function = ap (slice_get p.functions) (sym k.is) ∙ k.facts.here in
    let second = version_begins k.version (components_in k.function.variables) [] in
    record {
      arrays = ap first_arrays (sym (same_arrays p merged plan summarised));
      input = refl;
      output = refl;
      frames = (
        subst (λ (o : Option Function). VersionFrames p merged plan planned.choice (fresh p.main (unwrap_or (begun o []) [])) (fresh (linked p merged plan).main (unwrap_or ((linked_system (linked p merged plan)).enters (linked p merged plan).main []) []))) (sym here)
            (subst (λ (o : Option (List (Option Value))). VersionFrames p merged plan planned.choice (fresh p.main (begins_with k.function [])) (fresh (linked p merged plan).main (unwrap_or o []))) (sym begins)
            (first_frames p merged plan planned.choice k)),
        λ x y given. ap status (subst (λ (b : Bool). GivenBy b x y) k.result (given k.version k.at)),
      );
    }

-- ---- runs

pub versions_keep : VersionsLaw
versions_keep p merged plan summarised planned input =
    tied_keeps (source_of p) (linked_system (linked p merged plan)) (versions_tie p merged plan planned.choice) (versions_view p plan) (alike p merged plan summarised planned)
    (frame_kept p merged plan planned.choice) (start p input) (linked_start (linked p merged plan) input) (starts p merged plan summarised planned input)
