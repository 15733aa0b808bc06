-- Each step of a version has the types that its place asks for.
use Rattle.std.proofs.Common.{◌≡◌, ◌+◌, ◌<◌, ◌≤◌, ℕ, zero, suc, List, [], ◌∷◌, length, map, take, true, Some, None, sym, ap, ◌∙◌, subst, arith}
use Rattle.std.specs.Prelude.{All, Option, IsSomeAnd, slice_get, option_map}
use Rattle.std.specs.List.{flat_map, list_all, zip}
use Rattle.std.specs.Option.{option_map_or}
use Rattle.std.proofs.lemmas.Option.{none-some, same_Some, slice_get-map, slice_get_within}
use Rattle.std.proofs.lemmas.List.{length-map}
use Rattle.std.proofs.lemmas.List.Concat.{length-flat_map}
use Rattle.std.proofs.lemmas.List.Elements.{All-nil, All-cons, All-append, All-head, All-tail}
use Rattle.gimple_ir.specs.declared.types.ScalarType.{ScalarType}
use Rattle.gimple_ir.specs.declared.types.ScalarType.TheVariants.{Int}
use Rattle.gimple_ir.specs.declared.types.ElementType.TheVariants as element
use Rattle.gimple_ir.specs.declared.types.ResultType.{ResultType}
use Rattle.gimple_ir.specs.declared.types.ResultType.TheVariants as returned
use Rattle.gimple_ir.specs.declared.types.BinaryOp.{BinaryOp}
use Rattle.gimple_ir.specs.declared.types.Operand.{Operand}
use Rattle.gimple_ir.specs.declared.types.Operand.TheVariants.{Component, Literal}
use Rattle.gimple_ir.specs.declared.types.Array.{Array}
use Rattle.gimple_ir.specs.declared.types.Arg.{Arg}
use Rattle.gimple_ir.specs.declared.types.Arg.TheVariants.{One, Whole}
use Rattle.gimple_ir.specs.declared.types.Case.{Case}
use Rattle.gimple_ir.specs.declared.types.Variable.{Variable}
use Rattle.gimple_ir.specs.declared.types.Function.{Function}
use Rattle.gimple_ir.specs.declared.types.Program.{Program}
use Rattle.gimple_ir.specs.declared.types.Statement.{Statement}
use Rattle.gimple_ir.specs.declared.lattice.Binding.TheVariants as binding
use Rattle.gimple_ir.specs.declared.plan.Version.{Version}
use Rattle.gimple_ir.specs.declared.plan.Plan.{Plan}
use Rattle.gimple_ir.specs.declared.merged.Merged.{Merged}
use Rattle.gimple_ir.specs.declared.merged.MergedArray.{MergedArray}
use Rattle.gimple_ir.specs.declared.unit.ArrayUse.{ArrayUse}
use Rattle.gimple_ir.specs.declared.versioned.VersionedFunction.{VersionedFunction}
use Rattle.gimple_ir.specs.Values.{IsValue}
use Rattle.gimple_ir.specs.CodeBound.{components_of, parameter_components}
use Rattle.gimple_ir.specs.Statements.{binary_fits, read_type, alike, argument_fits, knows_component, knows_operand, type_of_element, type_of_result, result_fits}
use Rattle.gimple_ir.specs.Statements as source
use Rattle.gimple_ir.specs.Programs.{IsOperand, IsArgument, scope_of}
use Rattle.gimple_meaning.specs.Source.{first_component, operands_of, components_from}
use Rattle.func_summary.specs.Summaries.{arrays_in}
use Rattle.func_summary.specs.Summarised.{IsSummarised}
use Rattle.func_summary.proofs.Checked.{both-true}
use Rattle.ipa_plan.specs.Rules.{Choice, kept_from}
use Rattle.ipa_transform.specs.Versioned.{use_of, picked}
use Rattle.gimple_meaning.specs.Versioned.{type_of, type_of_component, element_of}
use Rattle.program_link.specs.Versions.{member_of}
use Rattle.gimple_meaning.specs.Typed.{TargetTyped, ArgumentsTyped}
use Rattle.version_laws.specs.States.{function_of_version}
use Rattle.version_laws.specs.Linked.{given_type, result_type_of}
use Rattle.program_link.proofs.VersionFacts.{VersionFacts}
use Rattle.version_laws.proofs.Lists.{there}
use Rattle.version_laws.proofs.Bindings.{binding_says, kept_below, picked_at}
use Rattle.version_laws.proofs.Standing.{version_at}
use Rattle.version_laws.proofs.Uses.{array_use_at}
use Rattle.version_laws.proofs.Typing.{component_type, alike_is, operands_alike, known_type, arguments_typed, front_types}

-- ---- operands

pub cases_typed : (p : Program) (merged : Merged) (plan : Plan) (v : Version) (f : Function) (a : Operand) (cases : List Case) → All (λ c. IsValue c.value) cases
    → list_all (λ c. alike (source.type_of (scope_of p f) a) (Some c.value.ty)) cases ≡ true
    → All (λ c. IsValue c.value × (c.value.ty ≡ type_of (version_at p merged plan v f) a)) cases
cases_typed p merged plan v f a [] values h = All-nil (λ c. IsValue c.value × (c.value.ty ≡ type_of (version_at p merged plan v f) a))
cases_typed p merged plan v f a (c ∷ cases) values h =
    let both = both-true (alike (source.type_of (scope_of p f) a) (Some c.value.ty)) (list_all (λ d. alike (source.type_of (scope_of p f) a) (Some d.value.ty)) cases) h in
    All-cons (λ d. IsValue d.value × (d.value.ty ≡ type_of (version_at p merged plan v f) a)) c cases
    (All-head (λ d. IsValue d.value) c cases values, sym (operands_alike p merged plan v f a (Literal c.value) both.0))
    (cases_typed p merged plan v f a cases (All-tail (λ d. IsValue d.value) c cases values) both.1)

pub binary_typed : (p : Program) (merged : Merged) (plan : Plan) (v : Version) (f : Function) (op : BinaryOp) (to : ℕ) (a b : Operand) → knows_component (scope_of p f) to ≡ true → knows_operand (scope_of p f) a ≡ true → knows_operand (scope_of p f) b ≡ true
    → binary_fits op (source.type_of_component (scope_of p f) to) (source.type_of (scope_of p f) a) (source.type_of (scope_of p f) b) ≡ true
    → binary_fits op (Some (type_of_component (version_at p merged plan v f) to)) (Some (type_of (version_at p merged plan v f) a)) (Some (type_of (version_at p merged plan v f) b)) ≡ true
binary_typed p merged plan v f op to a b k l n h =
    let x = known_type p merged plan v f (Component to) k in
    let y = known_type p merged plan v f a l in
    let z = known_type p merged plan v f b n in
    ap (λ (o : Option ScalarType). binary_fits op o (Some (type_of (version_at p merged plan v f) a)) (Some (type_of (version_at p merged plan v f) b))) (sym x)
    ∙ ap (λ (o : Option ScalarType). binary_fits op (source.type_of_component (scope_of p f) to) o (Some (type_of (version_at p merged plan v f) b))) (sym y)
    ∙ ap (λ (o : Option ScalarType). binary_fits op (source.type_of_component (scope_of p f) to) (source.type_of (scope_of p f) a) o) (sym z) ∙ h

-- ---- arrays

read_there : (arrays : List MergedArray) (array : ℕ) (ty : ScalarType) → option_map (λ (a : Array). read_type a.element) (slice_get (map (λ (a : MergedArray). a.item) arrays) array) ≡ Some ty
    → read_type (option_map_or (λ (a : MergedArray). a.item.element) (slice_get arrays array) element.UnsignedChar) ≡ ty
read_there [] array ty h = absurd (none-some ty h)
read_there (a ∷ arrays) zero ty h = same_Some (read_type a.item.element) ty h
read_there (a ∷ arrays) (suc array) ty h = read_there arrays array ty h

-- what an array of the program is read as, by the version's list
pub array_typed : (p : Program) (merged : Merged) (plan : Plan) → IsSummarised p merged → (v : Version) (f : Function) (i : ℕ) (s : Statement) (array : ℕ) (ty : ScalarType)
    → slice_get f.body i ≡ Some s → arrays_in s ≡ array ∷ [] → array < length p.arrays → type_of_element (scope_of p f) array ≡ Some ty
    → read_type (element_of (version_at p merged plan v f) (use_of (member_of p merged plan v f).arrays array)) ≡ ty
array_typed p merged plan summarised v f i s array ty at is lt h =
    ap (λ (o : Option ArrayUse). read_type (option_map_or (λ (u : ArrayUse). u.element) o element.UnsignedChar)) (array_use_at p merged f i s array at is lt)
    ∙ read_there merged.arrays array ty (ap (λ (arrays : List Array). option_map (λ (a : Array). read_type a.element) (slice_get arrays array)) summarised.items ∙ h)

-- ---- results

pub given_is : (r : ResultType) (ty : ScalarType) → type_of_result r ≡ Some ty → given_type r ≡ ty
given_is returned.Void ty h = absurd (none-some ty h)
given_is (returned.Scalar t) ty h = same_Some t ty h

pub result_is : (p : Program) (plan : Plan) (place number : ℕ) (f : Function) → function_of_version p plan place ≡ number → slice_get p.functions number ≡ Some f
    → result_type_of p plan place ≡ given_type f.result
result_is p plan place number f of here = ap (λ (o : Option Function). option_map_or (λ g. given_type g.result) o Int) (ap (slice_get p.functions) of ∙ here)

pub target_typed : (p : Program) (merged : Merged) (plan : Plan) (v : Version) (f : Function) (to : Option ℕ) (found : Option ScalarType) (type : ScalarType) → result_fits (scope_of p f) to found ≡ true
    → ((ty : ScalarType) → found ≡ Some ty → type ≡ ty) → TargetTyped (version_at p merged plan v f) to type
target_typed p merged plan v f None found type h given = tt
target_typed p merged plan v f (Some x) found type h given =
    let r = alike_is (source.type_of_component (scope_of p f) x) found h in
    component_type p merged plan v f x r.0 r.1 ∙ sym (given r.0 r.2)

-- ---- calls

components_plain : (first count : ℕ) → All IsOperand (components_from first count)
components_plain first zero = All-nil IsOperand
components_plain first (suc n) = All-cons IsOperand (Component first) (components_from (first + 1) n) tt (components_plain (first + 1) n)

pub argument_values : (vs : List Variable) (args : List Arg) → All IsArgument args → All IsOperand (flat_map (operands_of vs) args)
argument_values vs [] h = All-nil IsOperand
argument_values vs (One a ∷ args) h = All-cons IsOperand a (flat_map (operands_of vs) args) (All-head IsArgument (One a) args h) (argument_values vs args (All-tail IsArgument (One a) args h))
argument_values vs (Whole v ∷ args) h =
    All-append IsOperand (operands_of vs (Whole v)) (flat_map (operands_of vs) args) (components_plain (first_component vs v) (components_of vs v)) (argument_values vs args (All-tail IsArgument (Whole v) args h))

some_and : (w : VersionedFunction) (type : ScalarType) (o : Option Operand) → option_map (type_of w) o ≡ Some type → IsSomeAnd o (λ a. type_of w a ≡ type)
some_and w type None h = absurd (none-some type h)
some_and w type (Some a) h = same_Some (type_of w a) type h

-- what a call has is as many components as its function takes, of their types
pub arguments_count : (p : Program) (merged : Merged) (plan : Plan) (v : Version) (f c : Function) (args : List Arg) → length args ≡ c.parameters → c.parameters ≤ length c.variables
    → list_all (λ pair. argument_fits (scope_of p f) pair.0 pair.1) (zip args c.variables) ≡ true
    → length (flat_map (operands_of f.variables) args) ≡ parameter_components c
arguments_count p merged plan v f c args count few h =
    let types = λ (w : Variable). w.types in
    let ops = flat_map (operands_of f.variables) args in
    sym (length-map ops (type_of (version_at p merged plan v f)))
    ∙ ap length (arguments_typed p merged plan v f args c.variables (omega (arith, count, few)) h ∙ ap (λ (n : ℕ). flat_map types (take n c.variables)) count)
    ∙ length-flat_map types (take c.parameters c.variables)

-- each argument that a version takes has its parameter component's type
pub passed_typed : (p : Program) (merged : Merged) (plan : Plan) (choice : Choice) (v other : Version) (f c : Function) (args : List Arg) → VersionFacts p merged plan choice other c
    → length args ≡ c.parameters → c.parameters ≤ length c.variables
    → list_all (λ pair. argument_fits (scope_of p f) pair.0 pair.1) (zip args c.variables) ≡ true
    → ArgumentsTyped (version_at p merged plan v f) (version_at p merged plan other c) (picked (flat_map (operands_of f.variables) args) (kept_from 0 other.bindings))
passed_typed p merged plan choice v other f c args stands count few h i k here =
    let own = version_at p merged plan v f in
    let called = version_at p merged plan other c in
    let types = λ (w : Variable). w.types in
    let ops = flat_map (operands_of f.variables) args in
    let r = binding_says (choice.needed other.function) other.vector other.bindings stands.known.bindings i (binding.Arg k) here in
    let P = flat_map types (take c.parameters c.variables) in
    let size : length P ≡ parameter_components c = length-flat_map types (take c.parameters c.variables) in
    let inside : i < length P = omega (arith, slice_get_within other.bindings i (binding.Arg k) here, stands.bindings, size) in
    let all : map (type_of own) ops ≡ P =
    arguments_typed p merged plan v f args c.variables (omega (arith, count, few)) h ∙ ap (λ (n : ℕ). flat_map types (take n c.variables)) count in
    let one = there P i inside in
    let parameter : type_of_component called i ≡ one.0 = component_type p merged plan other c i one.0 (front_types c.variables c.parameters i inside ∙ one.1) in
    let typed : option_map (type_of own) (slice_get ops i) ≡ Some (type_of_component called i) =
    sym (slice_get-map (type_of own) ops i) ∙ ap (λ (xs : List ScalarType). slice_get xs i) all ∙ one.1 ∙ ap (λ (t : ScalarType). Some t) (sym parameter) in
    let many : length ops ≡ length other.bindings = arguments_count p merged plan v f c args count few h ∙ sym stands.bindings in
    let below = subst (λ (n : ℕ). All (λ j. j < n) (kept_from 0 other.bindings)) (sym many) (kept_below other.bindings) in
    let first : 0 + i ≡ i = omega arith in
    let picks : slice_get (picked ops (kept_from 0 other.bindings)) k ≡ slice_get ops i =
    picked_at ops (kept_from 0 other.bindings) below k i (r.1 ∙ ap (λ (n : ℕ). Some n) first) in
    some_and own (type_of_component called i) (slice_get (picked ops (kept_from 0 other.bindings)) k) (ap (option_map (type_of own)) picks ∙ typed)
