-- The body of a function of a checked module has a spelling.
use Rattle.std.proofs.Common.{◌≡◌, ◌+◌, ◌*◌, ◌^◌, ◌<◌, ◌≤◌, ℕ, zero, suc, List, [], ◌∷◌, length, Bool, true, false, Some, None, refl, sym, ap, ◌∙◌, arith, subst}
use Rattle.std.specs.Prelude.{◌&&◌, All, Option, slice_get, nat_le, nat_lt, nat_eq, IfSome, min, sum_by, unwrap_or}
use Rattle.std.specs.Option.{option_map_or}
use Rattle.std.specs.List.{flat_map, list_all}
use Rattle.std.proofs.lemmas.List.Concat.{length-flat_map}
use Rattle.std.proofs.lemmas.List.Sums.{sum_by-cons}
use Rattle.gimple_ir.specs.declared.types.ScalarType.{ScalarType}
use Rattle.gimple_ir.specs.declared.types.ScalarType.TheVariants.{Int}
use Rattle.gimple_ir.specs.declared.types.Operand.{Operand}
use Rattle.gimple_ir.specs.declared.types.Operand.TheVariants.{Component, Literal}
use Rattle.gimple_ir.specs.declared.types.Arg.{Arg}
use Rattle.gimple_ir.specs.declared.types.Arg.TheVariants.{One, Whole}
use Rattle.gimple_ir.specs.declared.types.Case.{Case}
use Rattle.gimple_ir.specs.declared.types.Variable.{Variable}
use Rattle.gimple_ir.specs.declared.types.Function.{Function}
use Rattle.gimple_ir.specs.declared.types.Module.{Module}
use Rattle.gimple_ir.specs.declared.types.Statement.{Statement}
use Rattle.gimple_ir.specs.declared.types.Statement.TheVariants.{Nop, Label, Goto, Cond, Switch, ReturnVoid, Return, Copy, Unary, Convert, Binary, Load, Store, CopyStruct, Call, Putchar, Getchar, Exit}
use Rattle.gimple_ir.specs.Values.{IsValue}
use Rattle.gimple_ir.specs.CodeBound.{components_in, parameter_components, operands_in, code_bound_of}
use Rattle.gimple_ir.specs.Statements.{Scope, component_types, knows, knows_component, knows_operand, knows_argument, knows_variable, knows_array, knows_function, knows_label, knows_target, type_of, alike, counts_arguments, types_fit}
use Rattle.gimple_ir.specs.Checks.{scope_in, label_of, goes_within}
use Rattle.gimple_ir.specs.Programs.{IsChecked, HasValues, IsOperand, IsArgument}
use Rattle.module_stream.specs.declared.bounds.BodyBounds.{BodyBounds}
use Rattle.module_stream.specs.Fields.{FitsAll}
use Rattle.module_stream.specs.Bodies.{component_count, FitsOperand, FitsArg, FitsCase, Fits, FitsBody}
use Rattle.module_stream.specs.Bodies.{type_of as type_within}
use Rattle.lto_object.specs.Bounds.{bounds_of}
use Rattle.func_summary.proofs.Checked.{both-true, below, all-from_places, all_at, same_type-is}
use Rattle.lto_object.proofs.Elements.{there}
use Rattle.lto_object.proofs.CheckedFacts.{all_true, same_number, Facts, facts, few_components, few_variables, Labels, labels, few_in_body}

-- ---- numbers

pub small_component : (m : Module) (f : Function) (x : ℕ) → Facts m f → x < length (component_types f.variables) → x < component_count (bounds_of m f)
small_component m f x k lt =
    let few = length-flat_map (λ (v : Variable). v.types) f.variables in
    inside x (length (component_types f.variables)) lt (omega (arith, few, few_components m f k))
  where
    inside : (a n : ℕ) → a < n → n ≤ 1024 → a < min n (2 ^ 32)
    inside a n lt le = omega (arith, lt, le)

component_fits : (m : Module) (f : Function) (x : ℕ) → Facts m f → knows_component (scope_in m f) x ≡ true → x < component_count (bounds_of m f)
component_fits m f x k h = small_component m f x k (below x (length (component_types f.variables)) h)

operand_fits : (m : Module) (f : Function) (a : Operand) → Facts m f → knows_operand (scope_in m f) a ≡ true → IsOperand a → FitsOperand (bounds_of m f) a
operand_fits m f (Component x) k h v = component_fits m f x k h
operand_fits m f (Literal value) k h v = v

argument_fits : (m : Module) (f : Function) (a : Arg) → Facts m f → knows_argument (scope_in m f) a ≡ true → IsArgument a → FitsArg (bounds_of m f) a
argument_fits m f (One a) k h v = operand_fits m f a k h v
argument_fits m f (Whole w) k h v = below w (length f.variables) h

arguments_fit : (m : Module) (f : Function) (args : List Arg) → Facts m f → list_all (knows_argument (scope_in m f)) args ≡ true → All IsArgument args → All (FitsArg (bounds_of m f)) args
arguments_fit m f args k h v = all-from_places (FitsArg (bounds_of m f)) args (λ i a here. argument_fits m f a k (all_true (knows_argument (scope_in m f)) args h i a here) (all_at IsArgument args v i a here))

-- ---- the arguments of a call are as many as the parameters

few_arguments : (m : Module) (f : Function) (to : Option ℕ) (g : ℕ) (args : List Arg) → IsChecked m → g < length m.functions → counts_arguments (scope_in m f) (Call to g args) ≡ true → length args < 2 ^ 32
few_arguments m f to g args checked lt h =
    let called = there m.functions g lt in
    let k = facts m g called.0 checked called.1 in
    let same = same_number (length args) called.0.parameters (sym (ap (λ o. option_map_or (λ (c : Function). nat_eq (length args) c.parameters) o true) called.1) ∙ h) in
    omega (arith, same, k.stated.parameters, few_variables m called.0 checked k)

-- ---- the cases of a switch

-- the bound of a function is not below what one of its statements adds
one_of_sum : {X : Type 0} (p : X → ℕ) (xs : List X) (i : ℕ) (x : X) → slice_get xs i ≡ Some x → p x ≤ sum_by p xs
one_of_sum p [] i x here = cc
one_of_sum p (y ∷ xs) zero x here = let same : x ≡ y = cc in omega (arith, ap p same, sum_by-cons p y xs)
one_of_sum p (y ∷ xs) (suc i) x here = omega (arith, one_of_sum p xs i x here, sum_by-cons p y xs)

pub few_operands : (m : Module) (f : Function) (i : ℕ) (s : Statement) → Facts m f → slice_get f.body i ≡ Some s → operands_in f.variables s ≤ 524288
few_operands m f i s k here = omega (arith, k.bound, one_of_sum (λ t. 7 + 11 * operands_in f.variables t) f.body i s here)

alike_is : (o : Option ScalarType) (t : ScalarType) → alike o (Some t) ≡ true → t ≡ unwrap_or o Int
alike_is None t h = cc
alike_is (Some u) t h = sym (same_type-is u t h)

type_is : (m : Module) (f : Function) (a : Operand) → unwrap_or (type_of (scope_in m f) a) Int ≡ type_within (bounds_of m f) a
type_is m f (Component x) = refl
type_is m f (Literal v) = refl

case_fits : (m : Module) (f : Function) (a : Operand) (c : Case) → alike (type_of (scope_in m f) a) (Some c.value.ty) ≡ true → IsValue c.value → nat_lt c.label (length f.labels) ≡ true → FitsCase (bounds_of m f) (type_within (bounds_of m f) a) c
case_fits m f a c same v lt = record {
  type = alike_is (type_of (scope_in m f) a) c.value.ty same ∙ type_is m f a;
  value = v;
  label = below c.label (length f.labels) lt;
}

cases_fit : (m : Module) (f : Function) (a : Operand) (cases : List Case) → list_all (λ c. alike (type_of (scope_in m f) a) (Some c.value.ty)) cases ≡ true → All (λ c. IsValue c.value) cases
    → list_all (λ c. nat_lt c.label (length f.labels)) cases ≡ true → All (FitsCase (bounds_of m f) (type_within (bounds_of m f) a)) cases
cases_fit m f a cases same v lt =
    all-from_places (FitsCase (bounds_of m f) (type_within (bounds_of m f) a)) cases
    (λ i c here. case_fits m f a c (all_true (λ d. alike (type_of (scope_in m f) a) (Some d.value.ty)) cases same i c here) (all_at (λ d. IsValue d.value) cases v i c here) (all_true (λ d. nat_lt d.label (length f.labels)) cases lt i c here))

-- ---- one statement

two : (m : Module) (f : Function) (to : ℕ) (a : Operand) → Facts m f → (knows_component (scope_in m f) to && knows_operand (scope_in m f) a) ≡ true → IsOperand a → (to < component_count (bounds_of m f)) × FitsOperand (bounds_of m f) a
two m f to a k h v =
    let each = both-true (knows_component (scope_in m f) to) (knows_operand (scope_in m f) a) h in
    (component_fits m f to k each.0, operand_fits m f a k each.1 v)

target_fits : (m : Module) (f : Function) (to : ℕ) → Facts m f → knows_target (scope_in m f) (Some to) ≡ true → to < component_count (bounds_of m f)
target_fits m f to k h = component_fits m f to k h

call_fits : (m : Module) (f : Function) (to : Option ℕ) (g : ℕ) (args : List Arg) → IsChecked m → Facts m f → knows (scope_in m f) (Call to g args) ≡ true → counts_arguments (scope_in m f) (Call to g args) ≡ true → All IsArgument args
    → (knows_target (scope_in m f) to ≡ true) × (g < length m.functions) × FitsAll (FitsArg (bounds_of m f)) args
call_fits m f to g args checked k h counts v =
    let last = both-true (knows_target (scope_in m f) to && knows_function (scope_in m f) g) (list_all (knows_argument (scope_in m f)) args) h in
    let first = both-true (knows_target (scope_in m f) to) (knows_function (scope_in m f) g) last.0 in
    let lt = below g (length m.functions) first.1 in
    (first.0, lt, (few_arguments m f to g args checked lt counts, arguments_fit m f args k last.1 v))

statement_fits : (m : Module) (f : Function) (s : Statement) → IsChecked m → Facts m f → (knows (scope_in m f) s ≡ true) × (counts_arguments (scope_in m f) s ≡ true) × (types_fit (scope_in m f) s ≡ true) → HasValues s
    → IfSome (label_of s) (λ l. l < length f.labels) → goes_within (length f.labels) s ≡ true → operands_in f.variables s ≤ 524288 → Fits (bounds_of m f) s
statement_fits m f Nop checked k p v l g o = tt
statement_fits m f (Label n) checked k p v l g o = l
statement_fits m f (Goto n) checked k p v l g o = below n (length f.labels) g
statement_fits m f (Cond op a b met missed) checked k p v l g o =
    let sc = scope_in m f in
    let labels = both-true (knows_operand sc a && knows_operand sc b && knows_label sc met) (knows_label sc missed) p.0 in
    let first = both-true (knows_operand sc a && knows_operand sc b) (knows_label sc met) labels.0 in
    let each = both-true (knows_operand sc a) (knows_operand sc b) first.0 in
    let goes = both-true (nat_lt met (length f.labels)) (nat_lt missed (length f.labels)) g in
    (operand_fits m f a k each.0 v.0, operand_fits m f b k each.1 v.1, below met (length f.labels) goes.0, below missed (length f.labels) goes.1)
statement_fits m f (Switch a cases otherwise) checked k p v l g o =
    let sc = scope_in m f in
    let last = both-true (knows_operand sc a && knows_label sc otherwise) (list_all (λ c. knows_label sc c.label) cases) p.0 in
    let each = both-true (knows_operand sc a) (knows_label sc otherwise) last.0 in
    let goes = both-true (nat_lt otherwise (length f.labels)) (list_all (λ c. nat_lt c.label (length f.labels)) cases) g in
    (operand_fits m f a k each.0 v.0, (omega (arith, o), cases_fit m f a cases p.2 v.1 goes.1), below otherwise (length f.labels) goes.0)
statement_fits m f ReturnVoid checked k p v l g o = tt
statement_fits m f (Return a) checked k p v l g o = operand_fits m f a k p.0 v
statement_fits m f (Copy to a) checked k p v l g o = two m f to a k p.0 v
statement_fits m f (Unary to op a) checked k p v l g o = two m f to a k p.0 v
statement_fits m f (Convert to a) checked k p v l g o = two m f to a k p.0 v
statement_fits m f (Binary to op a b) checked k p v l g o =
    let sc = scope_in m f in
    let last = both-true (knows_component sc to && knows_operand sc a) (knows_operand sc b) p.0 in
    let first = two m f to a k last.0 v.0 in
    (first.0, first.1, operand_fits m f b k last.1 v.1)
statement_fits m f (Load to array a) checked k p v l g o =
    let sc = scope_in m f in
    let last = both-true (knows_component sc to && knows_array sc array) (knows_operand sc a) p.0 in
    let first = both-true (knows_component sc to) (knows_array sc array) last.0 in
    (component_fits m f to k first.0, below array (length m.arrays) first.1, operand_fits m f a k last.1 v)
statement_fits m f (Store array a b) checked k p v l g o =
    let sc = scope_in m f in
    let last = both-true (knows_array sc array && knows_operand sc a) (knows_operand sc b) p.0 in
    let first = both-true (knows_array sc array) (knows_operand sc a) last.0 in
    (below array (length m.arrays) first.0, operand_fits m f a k first.1 v.0, operand_fits m f b k last.1 v.1)
statement_fits m f (CopyStruct to from) checked k p v l g o =
    let sc = scope_in m f in
    let each = both-true (knows_variable sc to) (knows_variable sc from) p.0 in
    (below to (length f.variables) each.0, below from (length f.variables) each.1)
statement_fits m f (Call None h args) checked k p v l g o =
    let all = call_fits m f None h args checked k p.0 p.1 v in (all.1, all.2)
statement_fits m f (Call (Some to) h args) checked k p v l g o =
    let all = call_fits m f (Some to) h args checked k p.0 p.1 v in
    (target_fits m f to k all.0, all.1, all.2)
statement_fits m f (Putchar a) checked k p v l g o = operand_fits m f a k p.0 v
statement_fits m f (Getchar None) checked k p v l g o = tt
statement_fits m f (Getchar (Some to)) checked k p v l g o = target_fits m f to k p.0
statement_fits m f (Exit a) checked k p v l g o = operand_fits m f a k p.0 v

-- ---- the body

pub body_fits : (m : Module) (f : Function) → IsChecked m → Facts m f → FitsBody (bounds_of m f) f.body
body_fits m f checked k =
    let stands = labels m f k in (
      omega (arith, few_in_body m f k),
      all-from_places (Fits (bounds_of m f)) f.body
          (λ i s here. statement_fits m f s checked k (k.passes i s here) (all_at HasValues f.body k.stated.values i s here) (stands.stands i s here) (stands.goes i s here) (few_operands m f i s k here)),
    )
