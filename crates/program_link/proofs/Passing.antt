-- What a member's steps read and pass: components that are there, and no more operands than its statements have.
use Rattle.std.proofs.Common.{◌≡◌, ◌+◌, ◌-◌, ◌<◌, ◌≤◌, ℕ, zero, suc, List, [], ◌∷◌, ◌++◌, length, map, true, refl, sym, ap, ◌∙◌, subst, arith, Some, None}
use Rattle.std.specs.Prelude.{All, Option, slice_get, sum_by}
use Rattle.std.specs.List.{flat_map, filter_map, enumerate_from, cons_option, list_all}
use Rattle.std.specs.Option.{option_map_or}
use Rattle.std.proofs.lemmas.List.{length-append}
use Rattle.std.proofs.lemmas.List.Concat.{length-flat_map}
use Rattle.std.proofs.lemmas.List.Elements.{All-nil, All-cons, All-append}
use Rattle.std.proofs.lemmas.List.Folds.{flat_map-map}
use Rattle.std.proofs.lemmas.List.Sums.{sum_by-cons, sum_by-le-sum_by}
use Rattle.gimple_ir.specs.declared.types.ScalarType.{ScalarType}
use Rattle.gimple_ir.specs.declared.types.Operand.{Operand}
use Rattle.gimple_ir.specs.declared.types.Operand.TheVariants.{Component, Literal}
use Rattle.gimple_ir.specs.declared.types.Arg.{Arg}
use Rattle.gimple_ir.specs.declared.types.Arg.TheVariants.{One, Whole}
use Rattle.gimple_ir.specs.declared.types.Variable.{Variable}
use Rattle.gimple_ir.specs.declared.types.Function.{Function}
use Rattle.gimple_ir.specs.declared.types.Program.{Program}
use Rattle.gimple_ir.specs.declared.types.Statement.{Statement}
use Rattle.gimple_ir.specs.declared.types.Statement.TheVariants.{Call}
use Rattle.gimple_ir.specs.declared.summary.Edge.{Edge}
use Rattle.gimple_ir.specs.declared.unit.CallUse.{CallUse}
use Rattle.gimple_ir.specs.declared.lattice.Binding.{Binding}
use Rattle.gimple_ir.specs.declared.lattice.Binding.TheVariants as binding
use Rattle.gimple_ir.specs.declared.merged.Merged.{Merged}
use Rattle.gimple_ir.specs.declared.plan.CallPlan.{CallPlan}
use Rattle.gimple_ir.specs.declared.plan.Plan.{Plan}
use Rattle.gimple_ir.specs.declared.plan.Version.{Version}
use Rattle.gimple_ir.specs.declared.versioned.Pair.{Pair}
use Rattle.gimple_ir.specs.declared.versioned.VersionedFunction.{VersionedFunction}
use Rattle.gimple_ir.specs.CodeBound.{components_in, components_of, argument_operands}
use Rattle.gimple_ir.specs.Statements.{component_types, knows_component, knows_operand, knows_argument, knows_target}
use Rattle.gimple_ir.specs.Programs.{scope_of}
use Rattle.gimple_meaning.specs.Source.{components_from, pairs_from}
use Rattle.func_summary.specs.Summaries.{edge_of, edges_of}
use Rattle.func_summary.proofs.Checked.{both-true, below, all_at, all_flat_map, place_inside}
use Rattle.ipa_transform.specs.Versioned.{first_component, field_count, operands_of, struct_pairs, at_place, picked, kept_of, calls_in, versioned_of}
use Rattle.ipa_transform.proofs.Sums.{field_count-within}
use Rattle.gimple_meaning.specs.Versioned.{ComponentFits, OperandFits, TargetFits}
use Rattle.ipa_plan.specs.Rules.{Choice, kept_from, IsCallOf}
use Rattle.program_link.specs.Versions.{call_use, member_of}
use Rattle.program_link.proofs.Listing.{map_here}
use Rattle.program_link.proofs.VersionFacts.{found_at, VersionFacts}

-- ---- components

abbrev pub version_at : Program → Merged → Plan → Version → Function → VersionedFunction
version_at program merged plan version f = versioned_of (member_of program merged plan version f)

abbrev pub types_of : List Variable → List (List ScalarType)
types_of variables = map (λ (v : Variable). v.types) variables

pub same_components : (variables : List Variable) → length (flat_map (λ (types : List ScalarType). types) (types_of variables)) ≡ length (component_types variables)
same_components variables = ap length (flat_map-map (λ (types : List ScalarType). types) (λ (v : Variable). v.types) variables)

pub all_components : (variables : List Variable) → length (flat_map (λ (types : List ScalarType). types) (types_of variables)) ≡ components_in variables
all_components variables = same_components variables ∙ length-flat_map (λ (v : Variable). v.types) variables

pub sum_components : (variables : List Variable) → sum_by (λ (types : List ScalarType). length types) (types_of variables) ≡ components_in variables
sum_components [] = refl
sum_components (v ∷ vs) =
    omega (arith, sum_components vs, sum_by-cons (λ (types : List ScalarType). length types) v.types (types_of vs), sum_by-cons (λ (w : Variable). length w.types) v vs)

pub fields_of : (variables : List Variable) (v : ℕ) → field_count (types_of variables) v ≡ components_of variables v
fields_of [] v = refl
fields_of (w ∷ ws) zero = refl
fields_of (w ∷ ws) (suc v) = fields_of ws v

-- the components of a variable are among all
pub variable_within : (variables : List Variable) (v : ℕ) → first_component (types_of variables) v + components_of variables v ≤ components_in variables
variable_within variables v = omega (arith, field_count-within (types_of variables) v, fields_of variables v, sum_components variables)

pub component_fits : (program : Program) (merged : Merged) (plan : Plan) (version : Version) (f : Function) (x : ℕ) → knows_component (scope_of program f) x ≡ true → ComponentFits (version_at program merged plan version f) x
component_fits program merged plan version f x h = omega (arith, below x (length (component_types f.variables)) h, same_components f.variables)

pub operand_fits : (program : Program) (merged : Merged) (plan : Plan) (version : Version) (f : Function) (a : Operand) → knows_operand (scope_of program f) a ≡ true → OperandFits (version_at program merged plan version f) a
operand_fits program merged plan version f (Component x) h = component_fits program merged plan version f x h
operand_fits program merged plan version f (Literal v) h = tt

pub target_fits : (program : Program) (merged : Merged) (plan : Plan) (version : Version) (f : Function) (to : Option ℕ) → knows_target (scope_of program f) to ≡ true → TargetFits (version_at program merged plan version f) to
target_fits program merged plan version f None h = tt
target_fits program merged plan version f (Some x) h = component_fits program merged plan version f x h

-- ---- whole structs

abbrev PairFits : VersionedFunction → Pair → Type 0
PairFits v p = ComponentFits v p.to × OperandFits v p.from

pairs_fit : (v : VersionedFunction) (to from count : ℕ) → to + count ≤ length v.types → from + count ≤ length v.types → All (PairFits v) (pairs_from to from count)
pairs_fit v to from zero h l = All-nil (PairFits v)
pairs_fit v to from (suc n) h l =
    All-cons (PairFits v) (record { to = to; from = Component from }) (pairs_from (to + 1) (from + 1) n) (omega (arith, h), omega (arith, l))
    (pairs_fit v (to + 1) (from + 1) n (omega (arith, h)) (omega (arith, l)))

components_fit : (v : VersionedFunction) (first count : ℕ) → first + count ≤ length v.types → All (OperandFits v) (components_from first count)
components_fit v first zero h = All-nil (OperandFits v)
components_fit v first (suc n) h =
    All-cons (OperandFits v) (Component first) (components_from (first + 1) n) (omega (arith, h)) (components_fit v (first + 1) n (omega (arith, h)))

length-pairs_from : (to from count : ℕ) → length (pairs_from to from count) ≡ count
length-pairs_from to from zero = refl
length-pairs_from to from (suc n) = ap suc (length-pairs_from (to + 1) (from + 1) n)

pub struct_pairs_fit : (program : Program) (merged : Merged) (plan : Plan) (version : Version) (f : Function) (to from : ℕ) → components_of f.variables to ≡ components_of f.variables from
    → All (PairFits (version_at program merged plan version f)) (struct_pairs (types_of f.variables) to from)
struct_pairs_fit program merged plan version f to from same =
    let vs = f.variables in
    pairs_fit (version_at program merged plan version f) (first_component (types_of vs) to) (first_component (types_of vs) from) (field_count (types_of vs) from)
    (omega (arith, variable_within vs to, fields_of vs from, same, all_components vs)) (omega (arith, variable_within vs from, fields_of vs from, all_components vs))

pub struct_pairs_few : (f : Function) (to from : ℕ) → length (struct_pairs (types_of f.variables) to from) ≤ components_of f.variables from
struct_pairs_few f to from =
    let vs = f.variables in
    omega (arith, length-pairs_from (first_component (types_of vs) to) (first_component (types_of vs) from) (field_count (types_of vs) from), fields_of vs from)

argument_fits : (program : Program) (merged : Merged) (plan : Plan) (version : Version) (f : Function) (a : Arg) → knows_argument (scope_of program f) a ≡ true → All (OperandFits (version_at program merged plan version f)) (operands_of (types_of f.variables) a)
argument_fits program merged plan version f (One a) h = All-cons (OperandFits (version_at program merged plan version f)) a [] (operand_fits program merged plan version f a h) (All-nil (OperandFits (version_at program merged plan version f)))
argument_fits program merged plan version f (Whole v) h =
    let vs = f.variables in
    components_fit (version_at program merged plan version f) (first_component (types_of vs) v) (field_count (types_of vs) v) (omega (arith, variable_within vs v, fields_of vs v, all_components vs))

all_arguments : (program : Program) (merged : Merged) (plan : Plan) (version : Version) (f : Function) (args : List Arg) → list_all (knows_argument (scope_of program f)) args ≡ true
    → All (λ a. All (OperandFits (version_at program merged plan version f)) (operands_of (types_of f.variables) a)) args
all_arguments program merged plan version f [] h = All-nil (λ a. All (OperandFits (version_at program merged plan version f)) (operands_of (types_of f.variables) a))
all_arguments program merged plan version f (a ∷ args) h =
    let both = both-true (knows_argument (scope_of program f) a) (list_all (knows_argument (scope_of program f)) args) h in
    All-cons (λ a. All (OperandFits (version_at program merged plan version f)) (operands_of (types_of f.variables) a)) a args (argument_fits program merged plan version f a both.0) (all_arguments program merged plan version f args both.1)

-- ---- what is picked

at_all : {X : Type 0} (P : X → Type 0) (xs : List X) (k : ℕ) → All P xs → All P (at_place xs k)
at_all P xs k all = by (slice_get xs k) refl
  where
    by : (o : Option _) → slice_get xs k ≡ o → All P (option_map_or (λ x. x ∷ []) o [])
    by None e = All-nil P
    by (Some x) e = All-cons P x [] (all_at P xs all k x e) (All-nil P)

picked_all : {X : Type 0} (P : X → Type 0) (xs : List X) (ks : List ℕ) → All P xs → All P (picked xs ks)
picked_all P xs [] all = All-nil P
picked_all P xs (k ∷ ks) all = All-append P (at_place xs k) (picked xs ks) (at_all P xs k all) (picked_all P xs ks all)

one_at : {X : Type 0} (o : Option X) → length (option_map_or (λ x. x ∷ []) o []) ≤ 1
one_at None = omega arith
one_at (Some x) = omega arith

picked_few : {X : Type 0} (xs : List X) (ks : List ℕ) → length (picked xs ks) ≤ length ks
picked_few xs [] = omega arith
picked_few xs (k ∷ ks) = omega (arith, length-append (at_place xs k) (picked xs ks), one_at (slice_get xs k), picked_few xs ks)

pub passed_fit : (program : Program) (merged : Merged) (plan : Plan) (version : Version) (f : Function) (args : List Arg) (ks : List ℕ) → list_all (knows_argument (scope_of program f)) args ≡ true
    → All (OperandFits (version_at program merged plan version f)) (picked (flat_map (operands_of (types_of f.variables)) args) ks)
passed_fit program merged plan version f args ks h =
    let P = OperandFits (version_at program merged plan version f) in
    picked_all P (flat_map (operands_of (types_of f.variables)) args) ks (all_flat_map P (operands_of (types_of f.variables)) args (all_arguments program merged plan version f args h))

-- ---- the calls before a statement

unfoldable pub calls_before : List Statement → ℕ → ℕ
calls_before [] i = 0
calls_before (s ∷ ss) zero = 0
calls_before (s ∷ ss) (suc i) = calls_in s + calls_before ss i

edges_in : Option Edge → ℕ
edges_in None = 0
edges_in (Some e) = 1

calls_are : (f : Function) (place : ℕ) (s : Statement) → calls_in s ≡ edges_in (edge_of f place s)
unfolding edges_in
calls_are f place (Call to g args) = refl
calls_are f place _ = refl

past_one : (o : Option Edge) (rest : List Edge) (c j : ℕ) → c ≡ edges_in o → slice_get (cons_option o rest) (c + j) ≡ slice_get rest j
unfolding edges_in
past_one None rest c j e = ap (slice_get rest) (omega (arith, e))
past_one (Some x) rest c j e = let k : c + j ≡ suc j = omega (arith, e) in ap (slice_get (x ∷ rest)) k

edge_there : (f : Function) (place : ℕ) (ss : List Statement) (i : ℕ) (s : Statement) (e : Edge) → slice_get ss i ≡ Some s → edge_of f (place + i) s ≡ Some e
    → slice_get (filter_map (λ pair. edge_of f pair.0 pair.1) (enumerate_from place ss)) (calls_before ss i) ≡ Some e
unfolding calls_before
edge_there f place [] i s e here is = cc
edge_there f place (t ∷ ts) zero s e here is =
    let same : t ≡ s = cc in
    let at : place ≡ place + 0 = omega arith in
    let first : edge_of f place t ≡ Some e = ap (edge_of f place) same ∙ ap (λ k. edge_of f k s) at ∙ is in
    ap (λ o. slice_get (cons_option o (filter_map (λ pair. edge_of f pair.0 pair.1) (enumerate_from (place + 1) ts))) 0) first
edge_there f place (t ∷ ts) (suc i) s e here is =
    let rest = filter_map (λ pair. edge_of f pair.0 pair.1) (enumerate_from (place + 1) ts) in
    let at : place + 1 + i ≡ place + suc i = omega arith in
    past_one (edge_of f place t) rest (calls_in t) (calls_before ts i) (calls_are f place t)
    ∙ edge_there f (place + 1) ts i s e here (ap (λ k. edge_of f k s) at ∙ is)

-- the call at a place is that of its number, and keeps what its target takes
pub record IsCallAt (plan : Plan) (choice : Choice) (version : Version) (n : ℕ) (e : Edge) : Type 0 where
  pub inside : n < length (map (λ (c : CallUse). c.symbol) (map (call_use plan) version.calls))
  pub call : CallPlan
  pub rules : IsCallOf plan choice version e call
  pub kept : kept_of (map (call_use plan) version.calls) n ≡ kept_from 0 rules.target.bindings

pub edge_at : (f : Function) (i : ℕ) (s : Statement) (e : Edge) → slice_get f.body i ≡ Some s → edge_of f (0 + i) s ≡ Some e → slice_get (edges_of f) (calls_before f.body i) ≡ Some e
edge_at f i s e here is = edge_there f 0 f.body i s e here is

pub call_at : (program : Program) (merged : Merged) (plan : Plan) (choice : Choice) (version : Version) (f : Function) (i : ℕ) (s : Statement) (e : Edge) → VersionFacts program merged plan choice version f
    → slice_get f.body i ≡ Some s → edge_of f (0 + i) s ≡ Some e → IsCallAt plan choice version (calls_before f.body i) e
call_at program merged plan choice version f i s e known here is =
    let n = calls_before f.body i in
    let at = edge_at f i s e here is in
    let within : n < length version.calls = omega (arith, place_inside (edges_of f) n e at, known.count) in
    let found = found_at version.calls n within in
    let call = known.calls n e found.element at found.here in
    let made = map_here (call_use plan) version.calls n found.element found.here in
    let symbol = map_here (λ (c : CallUse). c.symbol) (map (call_use plan) version.calls) n (call_use plan found.element) made in
    record {
      inside = place_inside (map (λ (c : CallUse). c.symbol) (map (call_use plan) version.calls)) n (call_use plan found.element).symbol symbol;
      call = found.element;
      rules = call;
      kept = ap (λ o. option_map_or (λ (c : CallUse). c.kept) o []) made ∙ call.kept;
    }

-- ---- how much a call passes

-- what stands at a place, if the list is so long
one_more : {X : Type 0} (xs : List X) (i : ℕ) (rest : List X) → length rest ≤ length xs - (i + 1) → length (at_place xs i ++ rest) ≤ length xs - i
one_more {X} xs i rest few = by (slice_get xs i) refl
  where
    by : (o : Option X) → slice_get xs i ≡ o → length (option_map_or (λ x. x ∷ []) o [] ++ rest) ≤ length xs - i
    by None at = omega (arith, few)
    by (Some x) at = omega (arith, few, place_inside xs i x at)

-- ascending places pick no more than stands from the first of them on
picked_from : {X : Type 0} (xs : List X) (i : ℕ) (bs : List Binding) → length (picked xs (kept_from i bs)) ≤ length xs - i
picked_from xs i [] = omega arith
picked_from xs i (binding.Arg k ∷ bs) = one_more xs i (picked xs (kept_from (i + 1) bs)) (picked_from xs (i + 1) bs)
picked_from xs i (binding.Dead ∷ bs) = omega (arith, picked_from xs (i + 1) bs)
picked_from xs i (binding.Const x ∷ bs) = omega (arith, picked_from xs (i + 1) bs)

pub picked_kept : {X : Type 0} (xs : List X) (ks : List ℕ) (bs : List Binding) → ks ≡ kept_from 0 bs → length (picked xs ks) ≤ length xs
picked_kept xs ks bs is = subst (λ (places : List ℕ). length (picked xs places) ≤ length xs) (sym is) (omega (arith, picked_from xs 0 bs))

length-components_from : (first count : ℕ) → length (components_from first count) ≡ count
length-components_from first zero = refl
length-components_from first (suc n) = ap suc (length-components_from (first + 1) n)

one_operand : (variables : List Variable) (a : Arg) → length (operands_of (types_of variables) a) ≤ argument_operands variables a
one_operand variables (One a) = omega arith
one_operand variables (Whole v) =
    omega (arith, length-components_from (first_component (types_of variables) v) (field_count (types_of variables) v), fields_of variables v)

-- no more than the operands of the call
pub few_operands : (variables : List Variable) (args : List Arg) → length (flat_map (operands_of (types_of variables)) args) ≤ sum_by (argument_operands variables) args
few_operands variables args =
    omega (arith, length-flat_map (operands_of (types_of variables)) args, sum_by-le-sum_by (λ a. length (operands_of (types_of variables) a)) (argument_operands variables) args (one_operand variables))
