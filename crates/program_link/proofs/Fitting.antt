-- The version that a member describes: its numbers name what is there, its frame is small, its code is in its bound.
use Rattle.std.proofs.Common.{◌≡◌, ◌+◌, ◌*◌, ◌<◌, ◌≤◌, ℕ, suc, List, [], ◌∷◌, length, map, Bool, true, false, refl, subst, arith, Some, None}
use Rattle.std.specs.Prelude.{All, Option, slice_get, sum_by, nat_lt, is_some, if◌then◌else◌}
use Rattle.std.specs.List.{flat_map, list_all}
use Rattle.std.proofs.lemmas.List.Elements.{All-nil, All-cons, All-weaker}
use Rattle.std.proofs.lemmas.List.Sums.{AllPass-from_list_all, sum_by-cons}
use Rattle.gimple_ir.specs.declared.types.Arg.{Arg as Passed}
use Rattle.gimple_ir.specs.declared.types.Case.{Case}
use Rattle.gimple_ir.specs.declared.types.Function.{Function}
use Rattle.gimple_ir.specs.declared.types.Program.{Program}
use Rattle.gimple_ir.specs.declared.types.Operand.{Operand}
use Rattle.gimple_ir.specs.declared.types.Statement.{Statement}
use Rattle.gimple_ir.specs.declared.types.Statement.TheVariants.{Nop, Label, Goto, Cond, Switch, ReturnVoid, Return, Copy, Unary, Convert, Binary, Load, Store, CopyStruct, Call, Putchar, Getchar, Exit}
use Rattle.gimple_ir.specs.declared.versioned.Pair.{Pair}
use Rattle.gimple_ir.specs.declared.versioned.Step.TheVariants as steps
use Rattle.gimple_ir.specs.declared.versioned.VersionedFunction.{VersionedFunction}
use Rattle.gimple_ir.specs.declared.summary.Edge.{Edge}
use Rattle.gimple_ir.specs.declared.merged.Merged.{Merged}
use Rattle.gimple_ir.specs.declared.plan.Plan.{Plan}
use Rattle.gimple_ir.specs.declared.plan.Version.{Version}
use Rattle.gimple_ir.specs.CodeBound.{argument_operands, operands_in, parameter_components, code_bound_of}
use Rattle.gimple_ir.specs.Statements.{knows, knows_component, knows_operand, knows_argument, knows_target, knows_array, knows_function, knows_label, counts_arguments, types_fit}
use Rattle.gimple_ir.specs.Programs.{scope_of}
use Rattle.func_summary.specs.Summaries.{arrays_in, arrays_of, edge_arguments}
use Rattle.func_summary.specs.Summarised.{module_of, IsSummarised}
use Rattle.func_summary.proofs.Checked.{both-true, below}
use Rattle.ipa_transform.specs.Versioned.{operands_of, use_of, picked, kept_of, step_of, calls_in, steps_of, versioned_of}
use Rattle.ipa_transform.specs.Members.{IsMember}
use Rattle.gimple_meaning.specs.Versioned.{passed_in, most_passed, StepFits, ComponentFits, OperandFits, ArrayFits, IsVersioned, bound_of}
use Rattle.gimple_meaning.specs.Versioned.{operands_in as step_operands}
use Rattle.ipa_plan.specs.Rules.{Choice}
use Rattle.program_link.specs.Versions.{array_use, member_of}
use Rattle.program_link.proofs.Facts.{three_true, four_true, HasLabels}
use Rattle.program_link.proofs.VersionFacts.{VersionFacts}
use Rattle.program_link.proofs.Arguments.{same_fields, call_few}
use Rattle.program_link.proofs.Uses.{use_found, arrays_ascend, arrays_few}
use Rattle.program_link.proofs.Passing.{version_at, types_of, all_components, sum_components, component_fits, operand_fits, target_fits, struct_pairs_fit, struct_pairs_few, passed_fit, calls_before, call_at, picked_kept, few_operands}

-- ---- one statement

-- what is known of the statement at a place
record Stands (program : Program) (merged : Merged) (plan : Plan) (choice : Choice) (version : Version) (f : Function) (i : ℕ) (s : Statement) : Type 0 where
  summarised : IsSummarised program merged
  known : VersionFacts program merged plan choice version f
  here : slice_get f.body i ≡ Some s
  labels : HasLabels f s
  knows : knows (scope_of program f) s ≡ true
  counts : counts_arguments (scope_of program f) s ≡ true
  types : types_fit (scope_of program f) s ≡ true

array_fits : (program : Program) (merged : Merged) (plan : Plan) (version : Version) (f : Function) (i : ℕ) (s : Statement) (array : ℕ) → slice_get f.body i ≡ Some s → arrays_in s ≡ array ∷ [] → knows_array (scope_of program f) array ≡ true
    → ArrayFits (version_at program merged plan version f) (use_of (map (array_use merged) (arrays_of (module_of program) f)) array)
array_fits program merged plan version f i s array here is h = use_found program merged f i s array here is (below array (length program.arrays) h)

cases_fit : (f : Function) (cases : List Case) → list_all (λ c. nat_lt c.label (length f.labels)) cases ≡ true → All (λ (c : Case). c.label < length f.labels) cases
cases_fit f cases h =
    All-weaker (λ (c : Case). nat_lt c.label (length f.labels) ≡ true) (λ (c : Case). c.label < length f.labels) (λ c e. below c.label (length f.labels) e) cases
    (AllPass-from_list_all (λ (c : Case). nat_lt c.label (length f.labels)) cases h)

-- what a result that may be dropped reads
return_fits : (v : VersionedFunction) (b : Bool) (a : Operand) → OperandFits v a → StepFits v (steps.Return (if b then Some a else None))
return_fits v true a h = h
return_fits v false a h = tt

return_reads : (b : Bool) (a : Operand) → step_operands (steps.Return (if b then Some a else None)) ≤ 1
return_reads true a = omega arith
return_reads false a = omega arith

fits : (program : Program) (merged : Merged) (plan : Plan) (choice : Choice) (version : Version) (f : Function) (i : ℕ) (s : Statement) → Stands program merged plan choice version f i s → StepFits (version_at program merged plan version f) (step_of (member_of program merged plan version f) (calls_before f.body i) s)
fits program merged plan choice version f i Nop k = tt
fits program merged plan choice version f i (Label l) k = k.labels.stands
fits program merged plan choice version f i (Goto l) k = below l (length f.labels) k.labels.goes
fits program merged plan choice version f i (Cond op a b met missed) k =
    let sc = scope_of program f in
    let known = four_true (knows_operand sc a) (knows_operand sc b) (knows_label sc met) (knows_label sc missed) k.knows in
    let goes = both-true (nat_lt met (length f.labels)) (nat_lt missed (length f.labels)) k.labels.goes in
    (operand_fits program merged plan version f a known.0, operand_fits program merged plan version f b known.1, below met (length f.labels) goes.0, below missed (length f.labels) goes.1)
fits program merged plan choice version f i (Switch a cases otherwise) k =
    let sc = scope_of program f in
    let known = three_true (knows_operand sc a) (knows_label sc otherwise) (list_all (λ c. knows_label sc c.label) cases) k.knows in
    let goes = both-true (nat_lt otherwise (length f.labels)) (list_all (λ c. nat_lt c.label (length f.labels)) cases) k.labels.goes in
    (operand_fits program merged plan version f a known.0, cases_fit f cases goes.1, below otherwise (length f.labels) goes.0)
fits program merged plan choice version f i ReturnVoid k = tt
fits program merged plan choice version f i (Return a) k = return_fits (version_at program merged plan version f) version.result a (operand_fits program merged plan version f a k.knows)
fits program merged plan choice version f i (Copy to a) k =
    let known = both-true (knows_component (scope_of program f) to) (knows_operand (scope_of program f) a) k.knows in
    let v = version_at program merged plan version f in
    All-cons (λ (p : Pair). ComponentFits v p.to × OperandFits v p.from) (record { to = to; from = a }) [] (component_fits program merged plan version f to known.0, operand_fits program merged plan version f a known.1)
    (All-nil (λ (p : Pair). ComponentFits v p.to × OperandFits v p.from))
fits program merged plan choice version f i (Unary to op a) k =
    let known = both-true (knows_component (scope_of program f) to) (knows_operand (scope_of program f) a) k.knows in
    (component_fits program merged plan version f to known.0, operand_fits program merged plan version f a known.1)
fits program merged plan choice version f i (Convert to a) k =
    let known = both-true (knows_component (scope_of program f) to) (knows_operand (scope_of program f) a) k.knows in
    (component_fits program merged plan version f to known.0, operand_fits program merged plan version f a known.1)
fits program merged plan choice version f i (Binary to op a b) k =
    let known = three_true (knows_component (scope_of program f) to) (knows_operand (scope_of program f) a) (knows_operand (scope_of program f) b) k.knows in
    (component_fits program merged plan version f to known.0, operand_fits program merged plan version f a known.1, operand_fits program merged plan version f b known.2)
fits program merged plan choice version f i (Load to array a) k =
    let known = three_true (knows_component (scope_of program f) to) (knows_array (scope_of program f) array) (knows_operand (scope_of program f) a) k.knows in
    (component_fits program merged plan version f to known.0, array_fits program merged plan version f i (Load to array a) array k.here refl known.1, operand_fits program merged plan version f a known.2)
fits program merged plan choice version f i (Store array a b) k =
    let known = three_true (knows_array (scope_of program f) array) (knows_operand (scope_of program f) a) (knows_operand (scope_of program f) b) k.knows in
    (array_fits program merged plan version f i (Store array a b) array k.here refl known.0, operand_fits program merged plan version f a known.1, operand_fits program merged plan version f b known.2)
fits program merged plan choice version f i (CopyStruct to from) k = struct_pairs_fit program merged plan version f to from (same_fields program f to from k.types)
fits program merged plan choice version f i (Call to g args) k =
    let sc = scope_of program f in
    let known = three_true (knows_target sc to) (knows_function sc g) (list_all (knows_argument sc) args) k.knows in
    let n = calls_before f.body i in
    let edge : Edge = record { statement = 0 + i; callee = g; assigns = is_some to; args = flat_map (edge_arguments f) args } in
    let call = call_at program merged plan choice version f i (Call to g args) edge k.known k.here refl in
    (target_fits program merged plan version f to known.0, call.inside, passed_fit program merged plan version f args (kept_of (member_of program merged plan version f).calls n) known.2)
fits program merged plan choice version f i (Putchar a) k = operand_fits program merged plan version f a k.knows
fits program merged plan choice version f i (Getchar to) k = target_fits program merged plan version f to k.knows
fits program merged plan choice version f i (Exit a) k = operand_fits program merged plan version f a k.knows

call_passes : (program : Program) (merged : Merged) (plan : Plan) (choice : Choice) (version : Version) (f : Function) (i : ℕ) (to : Option ℕ) (g : ℕ) (args : List Passed) → Stands program merged plan choice version f i (Call to g args)
    → length (picked (flat_map (operands_of (types_of f.variables)) args) (kept_of (member_of program merged plan version f).calls (calls_before f.body i))) ≤ sum_by (argument_operands f.variables) args
call_passes program merged plan choice version f i to g args k =
    let edge : Edge = record { statement = 0 + i; callee = g; assigns = is_some to; args = flat_map (edge_arguments f) args } in
    let call = call_at program merged plan choice version f i (Call to g args) edge k.known k.here refl in
    omega (
      arith,
      few_operands f.variables args,
      picked_kept (flat_map (operands_of (types_of f.variables)) args) (kept_of (member_of program merged plan version f).calls (calls_before f.body i)) call.rules.target.bindings call.kept,
    )

passes : (program : Program) (merged : Merged) (plan : Plan) (choice : Choice) (version : Version) (f : Function) (i : ℕ) (s : Statement) → Stands program merged plan choice version f i s → passed_in (step_of (member_of program merged plan version f) (calls_before f.body i) s) ≤ 64
passes program merged plan choice version f i (Call to g args) k = omega (arith, call_passes program merged plan choice version f i to g args k, call_few program merged f to g args k.summarised k.counts k.types)
passes program merged plan choice version f i _ k = omega arith

reads : (program : Program) (merged : Merged) (plan : Plan) (choice : Choice) (version : Version) (f : Function) (i : ℕ) (s : Statement) → Stands program merged plan choice version f i s → step_operands (step_of (member_of program merged plan version f) (calls_before f.body i) s) ≤ operands_in f.variables s
reads program merged plan choice version f i (Return a) k = return_reads version.result a
reads program merged plan choice version f i (CopyStruct to from) k = struct_pairs_few f to from
reads program merged plan choice version f i (Call to g args) k = call_passes program merged plan choice version f i to g args k
reads program merged plan choice version f i _ k = omega arith

-- ---- the whole body

-- the step that the statement becomes, before which n functions were called
record Sound (program : Program) (merged : Merged) (plan : Plan) (choice : Choice) (version : Version) (f : Function) (n : ℕ) (s : Statement) : Type 0 where
  fits : StepFits (version_at program merged plan version f) (step_of (member_of program merged plan version f) n s)
  passes : passed_in (step_of (member_of program merged plan version f) n s) ≤ 64
  reads : step_operands (step_of (member_of program merged plan version f) n s) ≤ operands_in f.variables s

record AreSound (program : Program) (merged : Merged) (plan : Plan) (choice : Choice) (version : Version) (f : Function) (n : ℕ) (ss : List Statement) : Type 0 where
  fit : All (StepFits (version_at program merged plan version f)) (steps_of (member_of program merged plan version f) n ss)
  pass : most_passed (steps_of (member_of program merged plan version f) n ss) ≤ 64
  read : sum_by (λ s. 7 + 11 * step_operands s) (steps_of (member_of program merged plan version f) n ss) ≤ sum_by (λ s. 7 + 11 * operands_in f.variables s) ss

sound_steps : (program : Program) (merged : Merged) (plan : Plan) (choice : Choice) (version : Version) (f : Function) (n : ℕ) (ss : List Statement) → ((i : ℕ) (s : Statement) → slice_get ss i ≡ Some s → Sound program merged plan choice version f (n + calls_before ss i) s) → AreSound program merged plan choice version f n ss
unfolding calls_before
sound_steps program merged plan choice version f n [] each = record { fit = All-nil (StepFits (version_at program merged plan version f)); pass = omega arith; read = omega arith }
sound_steps program merged plan choice version f n (s ∷ ss) each =
    let here : n + 0 ≡ n = omega arith in
    let next = λ (i : ℕ). let e : n + (calls_in s + calls_before ss i) ≡ n + calls_in s + calls_before ss i = omega arith in e in
    let one = subst (λ k. Sound program merged plan choice version f k s) here (each 0 s refl) in
    let rest = sound_steps program merged plan choice version f (n + calls_in s) ss (λ i t at. subst (λ k. Sound program merged plan choice version f k t) (next i) (each (suc i) t at)) in
    let step = step_of (member_of program merged plan version f) n s in
    let steps = steps_of (member_of program merged plan version f) (n + calls_in s) ss in
    record {
      fit = All-cons (StepFits (version_at program merged plan version f)) step steps one.fits rest.fit;
      pass = omega (arith, one.passes, rest.pass);
      read = omega (arith, one.reads, rest.read, sum_by-cons (λ t. 7 + 11 * step_operands t) step steps, sum_by-cons (λ t. 7 + 11 * operands_in f.variables t) s ss);
    }

sound_body : (program : Program) (merged : Merged) (plan : Plan) (choice : Choice) (version : Version) (f : Function) → IsSummarised program merged → VersionFacts program merged plan choice version f
    → AreSound program merged plan choice version f 0 f.body
sound_body program merged plan choice version f summarised known =
    sound_steps program merged plan choice version f 0 f.body
    (λ i s at.
    let k = known.facts in
    let p = k.passes i s at in
    let stands : Stands program merged plan choice version f i s =
    record { summarised = summarised; known = known; here = at; labels = k.labels i s at; knows = p.0; counts = p.1; types = p.2 } in
    let e : calls_before f.body i ≡ 0 + calls_before f.body i = omega arith in
    subst (λ n. Sound program merged plan choice version f n s) e
    (record {
      fits = fits program merged plan choice version f i s stands;
      passes = passes program merged plan choice version f i s stands;
      reads = reads program merged plan choice version f i s stands;
    }))

-- as many as the parameter components
few_bindings : (program : Program) (merged : Merged) (plan : Plan) (choice : Choice) (version : Version) (f : Function) → VersionFacts program merged plan choice version f
    → length version.bindings ≡ parameter_components f
few_bindings program merged plan choice version f known = known.bindings

pub member_fits : (program : Program) (merged : Merged) (plan : Plan) (choice : Choice) (version : Version) (f : Function) → IsSummarised program merged → VersionFacts program merged plan choice version f
    → IsMember (member_of program merged plan version f)
member_fits program merged plan choice version f summarised known =
    record {
      components = omega (arith, known.facts.components, sum_components f.variables);
      statements = known.facts.statements;
      arrays = omega (arith, arrays_few program merged f, summarised.few_arrays);
      ascends = arrays_ascend program merged f;
    }

pub version_fits : (program : Program) (merged : Merged) (plan : Plan) (choice : Choice) (version : Version) (f : Function) → IsSummarised program merged → VersionFacts program merged plan choice version f
    → IsVersioned (versioned_of (member_of program merged plan version f))
version_fits program merged plan choice version f summarised known =
    let body = sound_body program merged plan choice version f summarised known in
    let bindings = few_bindings program merged plan choice version f known in
    record {
      components = omega (arith, known.facts.components, all_components f.variables);
      arguments = body.pass;
      steps = body.fit;
      bound = omega (arith, known.facts.bound, bindings, body.read);
    }

-- its code is in the function's bound
pub version_bound : (program : Program) (merged : Merged) (plan : Plan) (choice : Choice) (version : Version) (f : Function) → IsSummarised program merged → VersionFacts program merged plan choice version f
    → bound_of (versioned_of (member_of program merged plan version f)) ≤ code_bound_of f
version_bound program merged plan choice version f summarised known =
    let body = sound_body program merged plan choice version f summarised known in
    let bindings = few_bindings program merged plan choice version f known in
    omega (arith, bindings, body.read)
