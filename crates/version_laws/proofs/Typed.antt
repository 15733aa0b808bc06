-- The versions of a plan are a well formed program of versions.
use Rattle.std.proofs.Common.{◌≡◌, ◌≢◌, ◌<◌, ◌≤◌, ℕ, zero, suc, List, [], ◌∷◌, length, take, Bool, true, false, true≢false, Some, None, refl, sym, ap, ◌∙◌, subst, arith}
use Rattle.std.specs.Prelude.{All, Option, if◌then◌else◌, IsSomeAnd, slice_get, option_map, nat_eq}
use Rattle.std.specs.List.{flat_map, list_all, zip}
use Rattle.std.specs.Option.{option_map_or, option_and_then}
use Rattle.std.proofs.lemmas.Option.{none-some, same_Some, slice_get-map, slice_get_within}
use Rattle.std.proofs.lemmas.List.Concat.{length-flat_map}
use Rattle.std.proofs.lemmas.List.Elements.{All-nil, All-cons, All-append}
use Rattle.std.proofs.lemmas.List.Sums.{sum_by-cons}
use Rattle.gimple_ir.specs.declared.types.ScalarType.{ScalarType}
use Rattle.gimple_ir.specs.declared.types.ScalarType.TheVariants.{Int}
use Rattle.gimple_ir.specs.declared.types.ResultType.TheVariants as returned
use Rattle.gimple_ir.specs.declared.types.Operand.{Operand}
use Rattle.gimple_ir.specs.declared.types.Operand.TheVariants.{Component}
use Rattle.gimple_ir.specs.declared.types.Arg.{Arg}
use Rattle.gimple_ir.specs.declared.types.Variable.{Variable}
use Rattle.gimple_ir.specs.declared.types.Function.{Function}
use Rattle.gimple_ir.specs.declared.types.Program.{Program}
use Rattle.gimple_ir.specs.declared.types.Value.{Value}
use Rattle.gimple_ir.specs.declared.types.Statement.{Statement}
use Rattle.gimple_ir.specs.declared.types.Statement.TheVariants.{Nop, Label, Goto, Cond, Switch, ReturnVoid, Return, Copy, Unary, Convert, Binary, Load, Store, CopyStruct, Call, Putchar, Getchar, Exit}
use Rattle.gimple_ir.specs.declared.lattice.Binding.TheVariants as binding
use Rattle.gimple_ir.specs.declared.plan.Version.{Version}
use Rattle.gimple_ir.specs.declared.plan.Plan.{Plan}
use Rattle.gimple_ir.specs.declared.merged.Merged.{Merged}
use Rattle.gimple_ir.specs.declared.merged.MergedFunction.{MergedFunction}
use Rattle.gimple_ir.specs.declared.versioned.Pair.{Pair}
use Rattle.gimple_ir.specs.declared.versioned.Step.{Step}
use Rattle.gimple_ir.specs.declared.versioned.Step.TheVariants as form
use Rattle.gimple_ir.specs.declared.versioned.VersionedFunction.{VersionedFunction}
use Rattle.gimple_ir.specs.CodeBound.{components_in}
use Rattle.gimple_ir.specs.Values.{IsValue}
use Rattle.gimple_ir.specs.Statements.{component_types, is_comparison, alike, is_void, argument_fits, arguments_fit, knows, knows_component, knows_operand, knows_target, knows_function, knows_argument, knows_array, counts_arguments, types_fit, type_of_element, type_of_call, type_of_result, result_fits}
use Rattle.gimple_ir.specs.Statements as source
use Rattle.gimple_ir.specs.Programs.{IsProgramFunction, IsOperand, HasValues, scope_of}
use Rattle.gimple_meaning.specs.Source.{operands_of}
use Rattle.func_summary.specs.Summarised.{IsSummarised}
use Rattle.func_summary.proofs.Checked.{both-true, below, all_at}
use Rattle.ipa_plan.specs.Rules.{Choice, kept_from, IsPlanned}
use Rattle.ipa_transform.specs.Versioned.{step_of, picked, kept_of}
use Rattle.ipa_transform.specs.Versioned as lowered
use Rattle.gimple_meaning.specs.Versioned.{type_of, type_of_component}
use Rattle.gimple_meaning.specs.Versioned.{IsVersioned}
use Rattle.program_link.specs.Versions.{member_of, version_in, functions_of}
use Rattle.program_link.proofs.Facts.{three_true, same_number}
use Rattle.gimple_meaning.specs.Linked.{callee_number}
use Rattle.gimple_meaning.specs.Typed.{TargetTyped, ArgumentsTyped, StepTyped, FunctionTyped, ProgramTyped}
use Rattle.version_laws.specs.States.{function_of_version}
use Rattle.version_laws.specs.Linked.{result_type_of, linked}
use Rattle.version_laws.proofs.Lists.{there, from_mapped}
use Rattle.program_link.proofs.VersionFacts.{VersionFacts}
use Rattle.version_laws.proofs.Bindings.{binding_says}
use Rattle.version_laws.proofs.Standing.{version_at, standing, version_same}
use Rattle.version_laws.proofs.Named.{function_there, main_same}
use Rattle.version_laws.proofs.Bodies.{calls_before, types_same, step_at, pairs_same}
use Rattle.version_laws.proofs.Uses.{Known, CallKnown, known}
use Rattle.version_laws.proofs.Labelled.{labels_once}
use Rattle.version_laws.proofs.Typing.{component_type, alike_is, operands_alike, operand_type, copies_typed, front_types}
use Rattle.version_laws.proofs.Stepping.{cases_typed, binary_typed, array_typed, given_is, result_is, target_typed, argument_values, passed_typed}

-- ---- main

-- takes no parameters, and returns `int`
abbrev IsMain : Function → Type 0
IsMain f = (f.parameters ≡ 0) × (f.result ≡ returned.Scalar Int)

main_is : (p : Program) (merged : Merged) (f : Function) → IsSummarised p merged → slice_get p.functions p.main ≡ Some f → IsMain f
main_is p merged f summarised here = subst (λ (o : Option Function). IsSomeAnd o IsMain) here summarised.program.main

-- a function that gives nothing is not the first
not_main : (p : Program) (merged : Merged) (plan : Plan) → IsSummarised p merged → IsPlanned merged plan → (g : ℕ) (v : Version) (f : Function) → slice_get plan.versions g ≡ Some v → slice_get p.functions v.function ≡ Some f
    → is_void f.result ≡ true → g ≢ (linked p merged plan).main
not_main p merged plan summarised planned g v f at here void same =
    let number : v.function ≡ p.main =
    sym (function_there p plan g v at) ∙ ap (function_of_version p plan) same ∙ main_same p merged plan summarised planned in
    let int = (main_is p merged f summarised (ap (slice_get p.functions) (sym number) ∙ here)).1 in
    true≢false (sym void ∙ ap is_void int)

-- the first function gives its result
main_gives : (p : Program) (merged : Merged) (plan : Plan) → IsSummarised p merged → (planned : IsPlanned merged plan) → (g : ℕ) (v : Version) (f : Function) → slice_get plan.versions g ≡ Some v
    → VersionFacts p merged plan planned.choice v f → g ≡ (linked p merged plan).main → v.result ≡ true
main_gives p merged plan summarised planned g v f at k same =
    let number : v.function ≡ p.main =
    sym (function_there p plan g v at) ∙ ap (function_of_version p plan) same ∙ main_same p merged plan summarised planned in
    let here : slice_get merged.functions merged.main ≡ Some k.known.function = ap (slice_get merged.functions) (summarised.main ∙ sym number) ∙ k.known.there in
    let exported : k.known.function.exported ≡ true = subst (λ o. IsSomeAnd o (λ (g : MergedFunction). g.exported ≡ true)) here summarised.exported in
    k.known.result ∙ (k.known.root exported).result

-- ---- calls

mapped : {X Y : Type 0} (h : X → Y) (o : Option X) (y d : Y) → option_map h o ≡ Some y → option_map_or h o d ≡ y
mapped h None y d e = absurd (none-some y e)
mapped h (Some x) y d e = same_Some (h x) y e

-- the operands that the call passes
abbrev picked_here : Program → Merged → Plan → Version → Function → ℕ → List Arg → List Operand
picked_here p merged plan v f n args = picked (flat_map (lowered.operands_of (member_of p merged plan v f).variables) args) (kept_of (member_of p merged plan v f).calls n)

picked_few : {X : Type 0} (P : X → Type 0) (xs : List X) (places : List ℕ) → All P xs → All P (picked xs places)
picked_few P xs [] all = All-nil P
picked_few {X} P xs (j ∷ places) all = All-append P (option_map_or (λ x. x ∷ []) (slice_get xs j) []) (picked xs places) (by (slice_get xs j) refl) (picked_few P xs places all)
  where
    by : (o : Option X) → slice_get xs j ≡ o → All P (option_map_or (λ x. x ∷ []) o [])
    by None at = All-nil P
    by (Some x) at = All-cons P x [] (all_at P xs all j x at) (All-nil P)

-- what stands at a place of the versions
record Found (p : Program) (merged : Merged) (plan : Plan) (choice : Choice) (g : ℕ) (w : VersionedFunction) : Type 0 where
  version : Version
  at : slice_get plan.versions g ≡ Some version
  function : Function
  stands : VersionFacts p merged plan choice version function
  same : version_at p merged plan version function ≡ w

version_here : (p : Program) (merged : Merged) (plan : Plan) → IsSummarised p merged → (planned : IsPlanned merged plan) → (g : ℕ) (w : VersionedFunction) → slice_get (functions_of p merged plan) g ≡ Some w
    → Found p merged plan planned.choice g w
version_here p merged plan summarised planned g w at =
    let from = from_mapped (version_in p merged plan) plan.versions g w at in
    let k = standing p merged plan summarised planned g from.0 from.1 in
    record { version = from.0; at = from.1; function = k.0; stands = k.1; same = sym (version_same p merged plan planned.choice from.0 k.0 k.1) ∙ from.2 }

call_typed : (p : Program) (merged : Merged) (plan : Plan) → IsSummarised p merged → (planned : IsPlanned merged plan) → (g : ℕ) (v : Version) (f : Function) (n : ℕ) (to : Option ℕ) (called : ℕ) (args : List Arg)
    → HasValues (Call to called args) → knows (scope_of p f) (Call to called args) ≡ true → counts_arguments (scope_of p f) (Call to called args) ≡ true
    → types_fit (scope_of p f) (Call to called args) ≡ true → CallKnown p merged plan planned.choice v f n to called args
    → StepTyped (linked p merged plan) g (version_at p merged plan v f) (step_of (member_of p merged plan v f) n (Call to called args))
call_typed p merged plan summarised planned g v f n to called args values names counts types stands =
    let sc = scope_of p f in
    let own = version_at p merged plan v f in
    let q = linked p merged plan in
    let target = stands.rules.target in
    let place = stands.call.target in
    let lt = below called (length p.functions) (three_true (knows_target sc to) (knows_function sc called) (list_all (knows_argument sc) args) names).1 in
    let found = there p.functions called lt in
    let c = found.0 in
    let stated = all_at (IsProgramFunction p) p.functions summarised.program.functions called c found.1 in
    let number : function_of_version p plan place ≡ called = function_there p plan place target stands.rules.there ∙ stands.rules.callee in
    let callee : callee_number q own n ≡ place = mapped q.function_named (slice_get own.calls n) place (length q.functions) (sym (slice_get-map q.function_named own.calls n) ∙ stands.named) in
    let fit = both-true (arguments_fit sc called args) (result_fits sc to (type_of_call sc called)) types in
    let count = same_number (length args) c.parameters (ap (λ (o : Option Function). option_map_or (λ h. nat_eq (length args) h.parameters) o true) (sym found.1) ∙ counts) in
    let each = ap (λ (o : Option Function). option_map_or (λ h. list_all (λ pair. argument_fits sc pair.0 pair.1) (zip args h.variables)) o false) (sym found.1) ∙ fit.0 in
    let result = λ (ty : ScalarType) (e : type_of_call sc called ≡ Some ty).
    result_is p plan place called c number found.1 ∙ given_is c.result ty (ap (λ (o : Option Function). option_and_then (λ h. type_of_result h.result) o) (sym found.1) ∙ e) in (
      subst (λ (ops : List Operand). All IsOperand ops) (sym stands.passed)
          (picked_few IsOperand (flat_map (operands_of f.variables) args) (kept_from 0 target.bindings) (argument_values f.variables args values)),
      subst (λ (j : ℕ). TargetTyped own to (result_type_of p plan j)) (sym callee) (target_typed p merged plan v f to (type_of_call sc called) (result_type_of p plan place) fit.1 result),
      λ w at.
          let r = version_here p merged plan summarised planned place w (ap (slice_get (functions_of p merged plan)) (sym callee) ∙ at) in
          let own_version : r.version ≡ target = same_Some r.version target (sym r.at ∙ stands.rules.there) in
          let here : slice_get p.functions called ≡ Some r.function =
          ap (slice_get p.functions) (sym stands.rules.callee ∙ ap (λ (x : Version). x.function) (sym own_version)) ∙ r.stands.here in
          let same : r.function ≡ c = same_Some r.function c (sym here ∙ found.1) in
          let facts = subst (λ (h : Function). VersionFacts p merged plan planned.choice r.version h) same r.stands in
          let typed = passed_typed p merged plan planned.choice v r.version f c args facts count stated.parameters each in
          let typed_there = subst (λ (h : Function). ArgumentsTyped own (version_at p merged plan r.version h) (picked (flat_map (operands_of f.variables) args) (kept_from 0 r.version.bindings))) (sym same) typed in
          let kept_same : picked (flat_map (operands_of f.variables) args) (kept_from 0 r.version.bindings) ≡ picked_here p merged plan v f n args =
          ap (λ (x : Version). picked (flat_map (operands_of f.variables) args) (kept_from 0 x.bindings)) own_version ∙ sym stands.passed in
          subst (λ (u : VersionedFunction). ArgumentsTyped own u (picked_here p merged plan v f n args)) r.same
          (subst (λ (ops : List Operand). ArgumentsTyped own (version_at p merged plan r.version r.function) ops) kept_same typed_there),
    )

-- ---- steps

-- what is known of a statement of the function of a version
record Stands (p : Program) (merged : Merged) (plan : Plan) (g : ℕ) (v : Version) (f : Function) (i : ℕ) (s : Statement) : Type 0 where
  summarised : IsSummarised p merged
  planned : IsPlanned merged plan
  own : slice_get plan.versions g ≡ Some v
  version : VersionFacts p merged plan planned.choice v f
  here : slice_get f.body i ≡ Some s
  values : HasValues s
  names : knows (scope_of p f) s ≡ true
  counts : counts_arguments (scope_of p f) s ≡ true
  types : types_fit (scope_of p f) s ≡ true
  known : Known p merged plan planned.choice v f (calls_before 0 f.body i) s

step_typed : (p : Program) (merged : Merged) (plan : Plan) (g : ℕ) (v : Version) (f : Function) (i : ℕ) (s : Statement) → Stands p merged plan g v f i s
    → StepTyped (linked p merged plan) g (version_at p merged plan v f) (step_of (member_of p merged plan v f) (calls_before 0 f.body i) s)
step_typed p merged plan g v f i Nop k = tt
step_typed p merged plan g v f i (Label l) k = tt
step_typed p merged plan g v f i (Goto l) k = tt
step_typed p merged plan g v f i (Cond op a b met missed) k =
    let r = both-true (is_comparison op) (alike (source.type_of (scope_of p f) a) (source.type_of (scope_of p f) b)) k.types in
    (k.values.0, k.values.1, r.0, operands_alike p merged plan v f a b r.1)
step_typed p merged plan g v f i (Switch a cases otherwise) k = (k.values.0, cases_typed p merged plan v f a cases k.values.1 k.types)
step_typed p merged plan g v f i ReturnVoid k = not_main p merged plan k.summarised k.planned g v f k.own k.version.here k.types
step_typed p merged plan g v f i (Return a) k = by v.result refl
  where
    by : (b : Bool) → v.result ≡ b → StepTyped (linked p merged plan) g (version_at p merged plan v f) (form.Return (if b then Some a else None))
    by true is =
        let r = alike_is (type_of_result f.result) (source.type_of (scope_of p f) a) k.types in
        (k.values, operand_type p merged plan v f a r.0 r.2 ∙ sym (result_is p plan g v.function f (function_there p plan g v k.own) k.version.here ∙ given_is f.result r.0 r.1))
    by false is = λ (main : g ≡ (linked p merged plan).main). true≢false (sym (main_gives p merged plan k.summarised k.planned g v f k.own k.version main) ∙ is)
step_typed p merged plan g v f i (Copy to a) k =
    let P = λ (c : Pair). IsOperand c.from × (type_of (version_at p merged plan v f) c.from ≡ type_of_component (version_at p merged plan v f) c.to) in
    All-cons P (record { to = to; from = a }) [] (k.values, sym (operands_alike p merged plan v f (Component to) a k.types)) (All-nil P)
step_typed p merged plan g v f i (Unary to op a) k = (k.values, sym (operands_alike p merged plan v f (Component to) a k.types))
step_typed p merged plan g v f i (Convert to a) k = k.values
step_typed p merged plan g v f i (Binary to op a b) k =
    let n = three_true (knows_component (scope_of p f) to) (knows_operand (scope_of p f) a) (knows_operand (scope_of p f) b) k.names in
    (k.values.0, k.values.1, binary_typed p merged plan v f op to a b n.0 n.1 n.2 k.types)
step_typed p merged plan g v f i (Load to array a) k =
    let n = three_true (knows_component (scope_of p f) to) (knows_array (scope_of p f) array) (knows_operand (scope_of p f) a) k.names in
    let r = alike_is (source.type_of_component (scope_of p f) to) (type_of_element (scope_of p f) array) k.types in (
      k.values,
      component_type p merged plan v f to r.0 r.1
          ∙ sym (array_typed p merged plan k.summarised v f i (Load to array a) array r.0 k.here refl (below array (length p.arrays) n.1) r.2),
    )
step_typed p merged plan g v f i (Store array a b) k =
    let n = three_true (knows_array (scope_of p f) array) (knows_operand (scope_of p f) a) (knows_operand (scope_of p f) b) k.names in
    let r = alike_is (type_of_element (scope_of p f) array) (source.type_of (scope_of p f) b) k.types in (
      k.values.0,
      k.values.1,
      operand_type p merged plan v f b r.0 r.2
          ∙ sym (array_typed p merged plan k.summarised v f i (Store array a b) array r.0 k.here refl (below array (length p.arrays) n.0) r.1),
    )
step_typed p merged plan g v f i (CopyStruct to from) k =
    let own = version_at p merged plan v f in
    subst (λ (pairs : List Pair). All (λ c. IsOperand c.from × (type_of own c.from ≡ type_of_component own c.to)) pairs) (sym (pairs_same f.variables to from))
    (copies_typed p merged plan v f to from (slice_get f.variables to) (slice_get f.variables from) refl refl k.types)
step_typed p merged plan g v f i (Call to called args) k =
    call_typed p merged plan k.summarised k.planned g v f (calls_before 0 f.body i) to called args k.values k.names k.counts k.types k.known
step_typed p merged plan g v f i (Putchar a) k = k.values
step_typed p merged plan g v f i (Getchar to) k = target_typed p merged plan v f to (Some Int) Int k.types (λ ty e. same_Some Int ty e)
step_typed p merged plan g v f i (Exit a) k = k.values

steps_typed : (p : Program) (merged : Merged) (plan : Plan) → IsSummarised p merged → (planned : IsPlanned merged plan) → (g : ℕ) (v : Version) (f : Function) → slice_get plan.versions g ≡ Some v → VersionFacts p merged plan planned.choice v f
    → (at : ℕ) (step : Step) → slice_get (version_at p merged plan v f).body at ≡ Some step → StepTyped (linked p merged plan) g (version_at p merged plan v f) step
steps_typed p merged plan summarised planned g v f own k at step stands =
    by (slice_get f.body at) refl (sym (step_at (member_of p merged plan v f) 0 f.body at) ∙ stands)
  where
    by : (o : Option Statement) → slice_get f.body at ≡ o → option_map (step_of (member_of p merged plan v f) (calls_before 0 f.body at)) o ≡ Some step
        → StepTyped (linked p merged plan) g (version_at p merged plan v f) step
    by None e is = absurd (none-some step is)
    by (Some s) e is =
        let passed = k.facts.passes at s e in
        subst (λ (t : Step). StepTyped (linked p merged plan) g (version_at p merged plan v f) t) (same_Some _ step is)
        (step_typed p merged plan g v f at s (record {
          summarised = summarised;
          planned = planned;
          own = own;
          version = k;
          here = e;
          values = all_at HasValues f.body k.facts.sound.values at s e;
          names = passed.0;
          counts = passed.1;
          types = passed.2;
          known = known p merged plan summarised planned v f k at s e;
        }))

-- ---- functions

front_few : (vs : List Variable) (n : ℕ) → components_in (take n vs) ≤ components_in vs
front_few [] zero = omega arith
front_few [] (suc n) = omega arith
front_few (v ∷ vs) zero = omega arith
front_few (v ∷ vs) (suc n) = omega (arith, front_few vs n, sum_by-cons (λ (w : Variable). length w.types) v (take n vs), sum_by-cons (λ (w : Variable). length w.types) v vs)

function_typed : (p : Program) (merged : Merged) (plan : Plan) → IsSummarised p merged → (planned : IsPlanned merged plan) → (g : ℕ) (v : Version) (f : Function) → slice_get plan.versions g ≡ Some v → VersionFacts p merged plan planned.choice v f
    → IsVersioned (version_at p merged plan v f) → FunctionTyped (linked p merged plan) g (version_at p merged plan v f)
function_typed p merged plan summarised planned g v f own k fits =
    let all : length (version_at p merged plan v f).types ≡ components_in f.variables =
    ap (λ (ts : List ScalarType). length ts) (types_same f.variables) ∙ length-flat_map (λ (w : Variable). w.types) f.variables in
    record {
      versioned = fits;
      labels = labels_once p merged plan v f k.facts.sound.labels;
      parameters = omega (arith, k.bindings, front_few f.variables f.parameters, all);
      constants = constants;
      steps = steps_typed p merged plan summarised planned g v f own k;
    }
  where
    constants : (i : ℕ) (x : Value) → slice_get v.bindings i ≡ Some (binding.Const x) → (x.ty ≡ type_of_component (version_at p merged plan v f) i) × IsValue x
    constants i x at =
        let typed = k.known.typed i x (binding_says (planned.choice.needed v.function) v.vector v.bindings k.known.bindings i (binding.Const x) at) in
        let types = λ (w : Variable). w.types in
        let inside : i < length (flat_map types (take f.parameters f.variables)) =
        omega (arith, slice_get_within v.bindings i (binding.Const x) at, k.bindings, length-flat_map types (take f.parameters f.variables)) in
        let here : slice_get (component_types f.variables) i ≡ Some x.ty =
        front_types f.variables f.parameters i inside ∙ ap (λ (ts : List ScalarType). slice_get ts i) (sym k.truth.types) ∙ typed.0 in
        (sym (component_type p merged plan v f i x.ty here), typed.1)

-- ---- the program

no_parameters : (vs : List Variable) (n : ℕ) → n ≡ 0 → components_in (take n vs) ≡ 0
no_parameters vs zero none = empty vs
  where
    empty : (ws : List Variable) → components_in (take 0 ws) ≡ 0
    empty [] = refl
    empty (w ∷ ws) = refl
no_parameters vs (suc n) none = absurd (omega (arith, none))

pub versions_typed : (p : Program) (merged : Merged) (plan : Plan) → IsSummarised p merged → IsPlanned merged plan → All IsVersioned (functions_of p merged plan) → ProgramTyped (linked p merged plan)
versions_typed p merged plan summarised planned fits = record { functions = functions; main = begins }
  where
    functions : (g : ℕ) (w : VersionedFunction) → slice_get (functions_of p merged plan) g ≡ Some w → FunctionTyped (linked p merged plan) g w
    functions g w at =
        let r = version_here p merged plan summarised planned g w at in
        let versioned = subst IsVersioned (sym r.same) (all_at IsVersioned (functions_of p merged plan) fits g w at) in
        subst (λ (u : VersionedFunction). FunctionTyped (linked p merged plan) g u) r.same (function_typed p merged plan summarised planned g r.version r.function r.at r.stands versioned)

    begins : (w : VersionedFunction) → slice_get (functions_of p merged plan) (linked p merged plan).main ≡ Some w → (i k : ℕ) → slice_get w.bindings i ≢ Some (binding.Arg k)
    begins w at i k here =
        let main = (linked p merged plan).main in
        let r = version_here p merged plan summarised planned main w at in
        let number : r.version.function ≡ p.main = sym (function_there p plan main r.version r.at) ∙ main_same p merged plan summarised planned in
        let none = (main_is p merged r.function summarised (ap (slice_get p.functions) (sym number) ∙ r.stands.here)).0 in
        let bound = slice_get_within r.version.bindings i (binding.Arg k) (ap (λ (u : VersionedFunction). slice_get u.bindings i) r.same ∙ here) in
        omega (arith, bound, r.stands.bindings, no_parameters r.function.variables r.function.parameters none)
