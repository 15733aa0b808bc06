-- The new frames of a call: where a version is called, its frame stands for that of its function.
use Rattle.std.proofs.Common.{◌≡◌, ◌+◌, ◌-◌, ◌<◌, ◌++◌, ℕ, List, length, map, replicate, true, false, true≢false, Some, None, refl, sym, ap, ◌∙◌, subst, arith, length-append}
use Rattle.std.specs.Prelude.{All, Option, not, slice_get, option_and_then, nat_eq}
use Rattle.std.specs.List.{flat_map, list_all, zip}
use Rattle.std.specs.Option.{option_map_or}
use Rattle.std.proofs.lemmas.Option.{none-some, same_Some}
use Rattle.std.proofs.lemmas.List.{length-map, length-replicate}
use Rattle.std.proofs.lemmas.List.Concat.{length-flat_map}
use Rattle.gimple_ir.specs.declared.types.ScalarType.{ScalarType}
use Rattle.gimple_ir.specs.declared.types.Operand.{Operand}
use Rattle.gimple_ir.specs.declared.types.Operand.TheVariants.{Component, Literal}
use Rattle.gimple_ir.specs.declared.types.Arg.{Arg}
use Rattle.gimple_ir.specs.declared.types.Value.{Value}
use Rattle.gimple_ir.specs.declared.types.Variable.{Variable}
use Rattle.gimple_ir.specs.declared.types.Function.{Function}
use Rattle.gimple_ir.specs.declared.types.Program.{Program}
use Rattle.gimple_ir.specs.declared.types.Statement.TheVariants.{Call}
use Rattle.gimple_ir.specs.declared.lattice.Binding.{Binding}
use Rattle.gimple_ir.specs.declared.lattice.Binding.TheVariants as binding
use Rattle.gimple_ir.specs.declared.lattice.Lattice.TheVariants.{Const}
use Rattle.gimple_ir.specs.declared.summary.EdgeArg.{EdgeArg}
use Rattle.gimple_ir.specs.declared.plan.Version.{Version}
use Rattle.gimple_ir.specs.declared.plan.Plan.{Plan}
use Rattle.gimple_ir.specs.declared.merged.Merged.{Merged}
use Rattle.gimple_ir.specs.declared.versioned.VersionedFunction.{VersionedFunction}
use Rattle.gimple_ir.specs.CodeBound.{components_in, parameter_components}
use Rattle.gimple_ir.specs.Statements.{argument_fits, arguments_fit, result_fits, type_of_call}
use Rattle.gimple_ir.specs.Programs.{IsProgramFunction, scope_of}
use Rattle.gimple_meaning.specs.Acts.{cell, value_at}
use Rattle.gimple_meaning.specs.Systems.{fresh}
use Rattle.gimple_meaning.specs.Source.{operands_of, taken, begun, source_of}
use Rattle.gimple_meaning.specs.Steps.{Code, bound_by, bound, opened, opened_by}
use Rattle.func_summary.specs.JumpFunctions.{jump_of}
use Rattle.func_summary.specs.Summarised.{IsSummarised}
use Rattle.func_summary.proofs.Checked.{both-true, all_at}
use Rattle.ipa_plan.specs.Vectors.{lattice_at, jump_under}
use Rattle.ipa_plan.specs.Rules.{Choice, is_dead, kept_from, IsPlanned}
use Rattle.ipa_transform.specs.Versioned.{picked}
use Rattle.program_link.specs.Versions.{version_in}
use Rattle.program_link.proofs.Facts.{same_number}
use Rattle.program_link.proofs.VersionFacts.{VersionFacts}
use Rattle.gimple_meaning.specs.Linked.{linked_code, linked_system}
use Rattle.version_laws.specs.States.{is_alive}
use Rattle.version_laws.specs.Linked.{linked}
use Rattle.version_laws.proofs.Lists.{there, mapped_at}
use Rattle.version_laws.proofs.Bindings.{binding_says, kept_below, picked_at}
use Rattle.version_laws.proofs.Standing.{version_at, standing, version_same}
use Rattle.version_laws.proofs.Bodies.{types_same}
use Rattle.version_laws.proofs.Uses.{CallKnown}
use Rattle.version_laws.proofs.Cells.{length-taken, cell-taken, cell-opened, cell-passed}
use Rattle.version_laws.proofs.Knowing.{Knows, Holds, argument_gives, knows_entry, jump_holds}
use Rattle.version_laws.proofs.Reading.{AliveOperand, argument_of, argument_at, passed_alive}
use Rattle.version_laws.proofs.Stepping.{arguments_count}
use Rattle.version_laws.proofs.Frames.{CellsAlike, reads_alike, VersionFrames}

-- ---- the components of a new frame

-- the arguments of a call, by what the caller's frame has: those of needed components are alive, and constants have their values
pub record Given (choice : Choice) (v target : Version) (c : Function) (xs : List (Option Value)) (ops : List Operand) : Type 0 where
  pub count : length ops ≡ parameter_components c
  pub alive : (i : ℕ) → choice.needed target.function i ≡ true → (o : Operand) → slice_get ops i ≡ Some o → AliveOperand v o
  pub constant : (i : ℕ) (x : Value) → lattice_at target.vector i ≡ Const x → (o : Operand) → slice_get ops i ≡ Some o → (u : Value) → value_at xs o ≡ Some u → u ≡ x

-- of a function, whose parameter components have what they are passed
abbrev pub begins_with : Function → List (Option Value) → List (Option Value)
begins_with c given = taken 0 (parameter_components c) given ++ replicate (components_in c.variables - parameter_components c) None

record Passed (c : Function) (xs : List (Option Value)) (ops : List Operand) (i : ℕ) (u : Value) : Type 0 where
  inside : i < parameter_components c
  operand : Operand
  at : slice_get ops i ≡ Some operand
  value : value_at xs operand ≡ Some u

-- what is set in it was passed
passed_in : (c : Function) (xs : List (Option Value)) (ops : List Operand) (i : ℕ) (u : Value) → cell (begins_with c (map (value_at xs) ops)) i ≡ Some u → Passed c xs ops i u
passed_in c xs ops i u is = by (slice_get ops i) refl
  where
    given : (i < parameter_components c) × (cell (map (value_at xs) ops) i ≡ Some u)
    given = cell-taken (parameter_components c) (components_in c.variables - parameter_components c) i (map (value_at xs) ops) u is

    value : option_and_then (value_at xs) (slice_get ops i) ≡ Some u
    value = sym (cell-passed xs ops i) ∙ given.1

    by : (o : Option Operand) → slice_get ops i ≡ o → Passed c xs ops i u
    by None at = absurd (none-some u (sym (ap (option_and_then (value_at xs)) at) ∙ value))
    by (Some o) at = record { inside = given.0; operand = o; at = at; value = sym (ap (option_and_then (value_at xs)) at) ∙ value }

-- the vector of the version that is called holds of them
pub vector_holds : (choice : Choice) (v target : Version) (c : Function) (xs : List (Option Value)) (ops : List Operand) → Given choice v target c xs ops → Holds target.vector (begins_with c (map (value_at xs) ops))
vector_holds choice v target c xs ops given = λ i x u known is.
    let one = passed_in c xs ops i u is in
    given.constant i x known one.operand one.at u one.value

abbrev pub version_begins : Version → (count : ℕ) → List (Option Value) → List (Option Value)
version_begins target count given = bound target.bindings given ++ replicate (count - length target.bindings) None

pub new_cells : (p : Program) (merged : Merged) (plan : Plan) (choice : Choice) (v target : Version) (f c : Function) (entry xs ys : List (Option Value)) (ops : List Operand) → VersionFacts p merged plan choice target c
    → CellsAlike v f entry xs ys → Given choice v target c xs ops
    → CellsAlike target c (begins_with c (map (value_at xs) ops)) (begins_with c (map (value_at xs) ops))
    (version_begins target (components_in c.variables) (map (value_at ys) (picked ops (kept_from 0 target.bindings))))
new_cells p merged plan choice v target f c entry xs ys ops k cells given = record {
  size = size;
  agree = agree;
  knows = knows_entry c more (map (value_at xs) ops);
}
  where
    more : ℕ
    more = components_in c.variables - parameter_components c

    places : List ℕ
    places = kept_from 0 target.bindings

    passed : List (Option Value)
    passed = map (value_at ys) (picked ops places)

    size : length (begins_with c (map (value_at xs) ops)) ≡ length (version_begins target (components_in c.variables) passed)
    size =
        omega (
          arith,
          length-append (taken 0 (parameter_components c) (map (value_at xs) ops)) (replicate more None),
          length-taken 0 (parameter_components c) (map (value_at xs) ops),
          length-replicate {A = Option Value} more None,
          length-append (bound target.bindings passed) (replicate (components_in c.variables - length target.bindings) None),
          length-map target.bindings (λ b. bound_by (Some b) passed),
          length-replicate {A = Option Value} (components_in c.variables - length target.bindings) None,
          k.bindings,
        )

    below : All (λ j. j < length ops) places
    below = subst (λ (n : ℕ). All (λ j. j < n) places) (k.bindings ∙ sym given.count) (kept_below target.bindings)

    first : (i : ℕ) → 0 + i ≡ i
    first i = omega arith

    -- by the binding of the component
    by : (i : ℕ) (x : Value) → is_alive target i ≡ true → Passed c xs ops i x → (o : Option Binding) → slice_get target.bindings i ≡ o → bound_by o passed ≡ Some x
    by i x alive one None at =
        let r = there target.bindings i (omega (arith, one.inside, k.bindings)) in
        absurd (none-some r.0 (sym at ∙ r.1))
    by i x alive one (Some binding.Dead) at = absurd (true≢false (sym alive ∙ ap (λ o. option_map_or (λ b. not (is_dead b)) o true) at))
    by i x alive one (Some (binding.Const y)) at =
        let known = binding_says (choice.needed target.function) target.vector target.bindings k.known.bindings i (binding.Const y) at in
        ap (λ (u : Value). Some u) (sym (given.constant i y known one.operand one.at x one.value))
    by i x alive one (Some (binding.Arg n)) at =
        let says = binding_says (choice.needed target.function) target.vector target.bindings k.known.bindings i (binding.Arg n) at in
        let needed : choice.needed target.function i ≡ true = ap (choice.needed target.function) (sym (first i)) ∙ says.0 in
        let picks : slice_get (picked ops places) n ≡ Some one.operand = picked_at ops places below n i (says.1 ∙ ap (λ (m : ℕ). Some m) (first i)) ∙ one.at in
        cell-passed ys (picked ops places) n ∙ ap (option_and_then (value_at ys)) picks
        ∙ reads_alike v f entry xs ys cells one.operand x (given.alive i needed one.operand one.at) one.value

    agree : (i : ℕ) (x : Value) → is_alive target i ≡ true → cell (begins_with c (map (value_at xs) ops)) i ≡ Some x → cell (version_begins target (components_in c.variables) passed) i ≡ Some x
    agree i x alive is =
        cell-opened target.bindings passed (components_in c.variables - length target.bindings) i
        ∙ by i x alive (passed_in c xs ops i x is) (slice_get target.bindings i) refl

-- ---- a call

-- the operands of a call of the body are as many as the parameter components of its function, and are what the rules ask
given_by : (p : Program) (merged : Merged) (plan : Plan) → IsSummarised p merged → (planned : IsPlanned merged plan) → (v target : Version) (f c : Function) (n i g : ℕ) (to : Option ℕ) (args : List Arg)
    → VersionFacts p merged plan planned.choice v f → (k : CallKnown p merged plan planned.choice v f n to g args) → k.rules.target ≡ target → slice_get p.functions g ≡ Some c
    → slice_get f.body i ≡ Some (Call to g args) → (entry xs : List (Option Value)) → Knows f entry xs → Holds v.vector entry → Given planned.choice v target c xs (flat_map (operands_of f.variables) args)
given_by p merged plan summarised planned v target f c n i g to args facts k is here at entry xs knows holds = record {
  count = count;
  alive = λ j needed o there_is. passed_alive p merged plan planned.choice v f facts k.place to g args k.call k.rules j (ap (λ (h : ℕ). planned.choice.needed h j) (sym callee) ∙ needed) o there_is;
  constant = constant;
}
  where
    callee : target.function ≡ g
    callee = ap (λ (w : Version). w.function) (sym is) ∙ k.rules.callee

    ops : List Operand
    ops = flat_map (operands_of f.variables) args

    count : length ops ≡ parameter_components c
    count =
        let passes = facts.facts.passes i (Call to g args) at in
        let sc = scope_of p f in
        let stated = all_at (IsProgramFunction p) p.functions summarised.program.functions g c here in
        let fit = both-true (arguments_fit sc g args) (result_fits sc to (type_of_call sc g)) passes.2 in
        let many = same_number (length args) c.parameters (ap (λ (o : Option Function). option_map_or (λ h. nat_eq (length args) h.parameters) o true) (sym here) ∙ passes.1) in
        let each = ap (λ (o : Option Function). option_map_or (λ h. list_all (λ pair. argument_fits sc pair.0 pair.1) (zip args h.variables)) o false) (sym here) ∙ fit.0 in
        arguments_count p merged plan v f c args many stated.parameters each

    constant : (j : ℕ) (x : Value) → lattice_at target.vector j ≡ Const x → (o : Operand) → slice_get ops j ≡ Some o → (u : Value) → value_at xs o ≡ Some u → u ≡ x
    constant j x known o there_is u value =
        let a = k.rules.constant j x (ap (λ (w : Version). lattice_at w.vector j) is ∙ known) in
        let same : a.0 ≡ argument_of f o = same_Some a.0 (argument_of f o) (sym a.1 ∙ argument_at f args j o there_is) in
        let under : jump_under (jump_of f o) v.vector ≡ Const x = ap (λ j. jump_under j v.vector) (sym (jump_is o)) ∙ ap (λ (e : EdgeArg). jump_under e.jump v.vector) (sym same) ∙ a.2 in
        jump_holds (jump_of f o) v.vector entry u x holds (argument_gives f entry xs o u knows value) under
      where
        jump_is : (b : Operand) → (argument_of f b).jump ≡ jump_of f b
        jump_is (Component y) = refl
        jump_is (Literal y) = refl

-- what the version at a place begins with
pub version_enters : (p : Program) (merged : Merged) (plan : Plan) (choice : Choice) (place : ℕ) (target : Version) (c : Function) (given : List (Option Value)) → slice_get plan.versions place ≡ Some target → VersionFacts p merged plan choice target c
    → (linked_system (linked p merged plan)).enters place given ≡ Some (version_begins target (components_in c.variables) given)
version_enters p merged plan choice place target c given at k =
    let found = mapped_at (linked_code (linked p merged plan)) (map (version_in p merged plan) plan.versions) place (version_in p merged plan target) (mapped_at (version_in p merged plan) plan.versions place target at) in
    let same : version_in p merged plan target ≡ version_at p merged plan target c = version_same p merged plan choice target c k in
    let all : length (version_at p merged plan target c).types ≡ components_in c.variables =
    ap (λ (ts : List ScalarType). length ts) (types_same c.variables) ∙ length-flat_map (λ (w : Variable). w.types) c.variables in
    ap (λ (o : Option Code). opened_by o given) found
    ∙ ap (λ (w : VersionedFunction). Some (opened (linked_code (linked p merged plan) w) given)) same
    ∙ ap (λ (n : ℕ). Some (version_begins target n given)) all

-- where the source enters a function, the versions enter the target of the call, and both frames stand for one another
pub entered : (p : Program) (merged : Merged) (plan : Plan) → IsSummarised p merged → (planned : IsPlanned merged plan) → (v : Version) (f : Function) (n i g : ℕ) (to : Option ℕ) (args : List Arg)
    → VersionFacts p merged plan planned.choice v f → (k : CallKnown p merged plan planned.choice v f n to g args) → slice_get f.body i ≡ Some (Call to g args)
    → (entry xs ys : List (Option Value)) → CellsAlike v f entry xs ys → Holds v.vector entry
    → (cells : List (Option Value)) → (source_of p).enters g (map (value_at xs) (flat_map (operands_of f.variables) args)) ≡ Some cells
    → (others : List (Option Value))
    × ((linked_system (linked p merged plan)).enters k.call.target (map (value_at ys) (picked (flat_map (operands_of f.variables) args) (kept_from 0 k.rules.target.bindings))) ≡ Some others)
    × VersionFrames p merged plan planned.choice (fresh g cells) (fresh k.call.target others)
entered p merged plan summarised planned v f n i g to args facts k at entry xs ys alike holds cells enters = (
  version_begins target (components_in c.variables) passed,
  version_enters p merged plan planned.choice k.call.target target c passed k.rules.there known.1,
  subst (λ (z : List (Option Value)). VersionFrames p merged plan planned.choice (fresh g z) (fresh k.call.target (version_begins target (components_in c.variables) passed))) begins
      (record {
        version = target;
        at = k.rules.there;
        function = c;
        facts = known.1;
        is = k.rules.callee;
        place = refl;
        entry = begins_with c given;
        holds = vector_holds planned.choice v target c xs ops rules;
        cells = new_cells p merged plan planned.choice v target f c entry xs ys ops known.1 alike rules;
      }),
)
  where
    target : Version
    target = k.rules.target

    known : (c : Function) × VersionFacts p merged plan planned.choice target c
    known = standing p merged plan summarised planned k.call.target target k.rules.there

    c : Function
    c = known.0

    ops : List Operand
    ops = flat_map (operands_of f.variables) args

    given : List (Option Value)
    given = map (value_at xs) ops

    passed : List (Option Value)
    passed = map (value_at ys) (picked ops (kept_from 0 target.bindings))

    here : slice_get p.functions g ≡ Some c
    here = ap (slice_get p.functions) (sym k.rules.callee) ∙ known.1.here

    rules : Given planned.choice v target c xs ops
    rules = given_by p merged plan summarised planned v target f c n i g to args facts k refl here at entry xs alike.knows holds

    begins : begins_with c given ≡ cells
    begins = same_Some (begins_with c given) cells (ap (λ (o : Option Function). begun o given) (sym here) ∙ enters)
