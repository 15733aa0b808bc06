-- The true summary of a function of a checked module has a spelling.
use Rattle.std.proofs.Common.{◌≡◌, ◌+◌, ◌*◌, ◌^◌, ◌<◌, ◌≤◌, ℕ, zero, suc, List, [], ◌∷◌, length, map, take, Bool, true, false, cond, Some, None, refl, sym, ap, ◌∙◌, arith}
use Rattle.std.specs.Prelude.{◌&&◌, All, Option, slice_get, nat_eq, nat_lt, IfSome}
use Rattle.std.specs.List.{filter, list_all, flat_map, range_with_len}
use Rattle.std.proofs.lemmas.List.Elements.{All-nil, All-cons}
use Rattle.std.proofs.lemmas.List.Concat.{length-flat_map}
use Rattle.std.proofs.lemmas.List.FromFn.{length-map-range_with_len}
use Rattle.std.proofs.lemmas.List.Sums.{sum_by-le-sum_by}
use Rattle.gimple_ir.specs.declared.types.ScalarType.{ScalarType}
use Rattle.gimple_ir.specs.declared.types.Value.{Value}
use Rattle.gimple_ir.specs.declared.types.UnaryOp.{UnaryOp}
use Rattle.gimple_ir.specs.declared.types.BinaryOp.{BinaryOp}
use Rattle.gimple_ir.specs.declared.types.Operand.{Operand}
use Rattle.gimple_ir.specs.declared.types.Operand.TheVariants.{Component, Literal}
use Rattle.gimple_ir.specs.declared.types.Arg.{Arg}
use Rattle.gimple_ir.specs.declared.types.Arg.TheVariants.{One, Whole}
use Rattle.gimple_ir.specs.declared.types.Variable.{Variable}
use Rattle.gimple_ir.specs.declared.types.Function.{Function}
use Rattle.gimple_ir.specs.declared.types.Module.{Module}
use Rattle.gimple_ir.specs.declared.types.Statement.{Statement}
use Rattle.gimple_ir.specs.declared.types.Statement.TheVariants.{Nop, Label, Goto, Cond, Switch, ReturnVoid, Return, Copy, Unary, Convert, Binary, Load, Store, CopyStruct, Call, Putchar, Getchar, Exit}
use Rattle.gimple_ir.specs.declared.summary.JumpFunction.{JumpFunction}
use Rattle.gimple_ir.specs.declared.summary.JumpFunction.TheVariants as jump
use Rattle.gimple_ir.specs.declared.summary.ParamFacts.{ParamFacts}
use Rattle.gimple_ir.specs.Values.{IsValue, residue, unary_of, binary_of, convert_of, TypesFit}
use Rattle.gimple_ir.specs.CodeBound.{components_in, components_of, parameter_components, argument_operands, operands_in, code_bound_of}
use Rattle.gimple_ir.specs.Statements.{component_types, knows, knows_target, knows_function, knows_argument}
use Rattle.gimple_ir.specs.Checks.{scope_in}
use Rattle.gimple_ir.specs.Programs.{IsChecked, HasValues, IsOperand, IsArgument}
use Rattle.gimple_ir.proofs.Ranges.{residue-lt}
use Rattle.gimple_ir.proofs.WellFormed.{reduced-InRange, unary_of-IsValue, binary_of-IsValue}
use Rattle.module_stream.specs.declared.bounds.BodyBounds.{BodyBounds}
use Rattle.module_stream.specs.Bodies.{component_count}
use Rattle.func_summary.specs.declared.places.Place.{Place}
use Rattle.func_summary.specs.declared.assignments.Assignment.{Assignment}
use Rattle.func_summary.specs.JumpFunctions.{field_of, is_parameter, copied, computed, unary_jump, convert_jump, binary_jump, copy_of_field, stored, assignments_in, assignments_to, assignments_of, keeps_entry, over_entry, sole_value, component_jump}
use Rattle.func_summary.specs.Summaries.{places_of, places_naming, facts_of, params_of, names_array, arrays_of, component_argument, field_argument, edge_arguments, edge_of, edges_of, summary_of}
use Rattle.func_summary.specs.Ready.{CanUnary, CanBinary, CanCompute, IsReady}
use Rattle.func_summary.proofs.Components.{components_of-within}
use Rattle.func_summary.proofs.Checked.{both-true, below, all-from_places, place_inside, all_at, all_flat_map, few_in_all, ready}
use Rattle.lto_object.specs.Bounds.{bounds_of}
use Rattle.lto_object.specs.SummaryStream.{FitsJump, FitsSource, FitsArgument, FitsEdge, FitsSummary}
use Rattle.lto_object.proofs.Elements.{all_listed}
use Rattle.lto_object.proofs.CheckedFacts.{Facts, facts, few_components, few_in_body}
use Rattle.lto_object.proofs.BodyFits.{small_component, few_operands}

-- ---- lists

all_map : {X Y : Type 0} (P : Y → Type 0) (g : X → Y) (xs : List X) → ((x : X) → P (g x)) → All P (map g xs)
all_map P g [] h = All-nil P
all_map P g (x ∷ xs) h = All-cons P (g x) (map g xs) (h x) (all_map P g xs h)

all_filter : {X : Type 0} (P : X → Type 0) (p : X → Bool) (xs : List X) → ((i : ℕ) (x : X) → slice_get xs i ≡ Some x → P x) → All P (filter p xs)
all_filter P p [] h = All-nil P
all_filter P p (x ∷ xs) h = by (p x) (h 0 x refl) (all_filter P p xs (λ i y here. h (suc i) y here))
  where
    by : (b : Bool) → P x → All P (filter p xs) → All P (cond b (x ∷ filter p xs) (filter p xs))
    by true one rest = All-cons P x (filter p xs) one rest
    by false one rest = rest

pub few_filter : {X : Type 0} (p : X → Bool) (xs : List X) → length (filter p xs) ≤ length xs
few_filter p [] = omega arith
few_filter p (x ∷ xs) = by (p x) (few_filter p xs)
  where
    by : (b : Bool) → length (filter p xs) ≤ length xs → length (cond b (x ∷ filter p xs) (filter p xs)) ≤ suc (length xs)
    by true few = omega (arith, few)
    by false few = omega (arith, few)

in_range : (a n i x : ℕ) → slice_get (range_with_len a n) i ≡ Some x → x < a + n
in_range a zero i x here = cc
in_range a (suc n) zero x here = let same : x ≡ a = cc in omega (arith, same)
in_range a (suc n) (suc i) x here = omega (arith, in_range (a + 1) n i x here)

range_len : (a n : ℕ) → length (range_with_len a n) ≡ n
range_len a zero = refl
range_len a (suc n) = ap suc (range_len (a + 1) n)

-- ---- values of jump functions

-- the values in it lie in their types' ranges
abbrev HasRanges : JumpFunction → Type 0
HasRanges jump.Unknown = Unit {0}
HasRanges (jump.Const v) = IsValue v
HasRanges (jump.Pass x) = Unit {0}
HasRanges (jump.Unary op x) = Unit {0}
HasRanges (jump.Convert ty x) = Unit {0}
HasRanges (jump.Left op x v) = IsValue v
HasRanges (jump.Right op v x) = IsValue v

abbrev Ranged : Assignment → Type 0
Ranged a = HasRanges a.value

copied_ranged : (a : Operand) → IsOperand a → HasRanges (copied a)
copied_ranged (Component x) v = tt
copied_ranged (Literal w) v = v

computed_ranged : (o : Option Value) → IfSome o IsValue → HasRanges (computed o)
computed_ranged None h = tt
computed_ranged (Some v) h = h

unary_ranged : (op : UnaryOp) (a : Operand) → HasRanges (unary_jump op a)
unary_ranged op (Component x) = tt
unary_ranged op (Literal v) = computed_ranged (unary_of op v) (unary_of-IsValue op v)

convert_ranged : (o : Option ScalarType) (a : Operand) → HasRanges (convert_jump o a)
convert_ranged None a = tt
convert_ranged (Some ty) (Component x) = tt
convert_ranged (Some ty) (Literal v) = reduced-InRange ty v.num

binary_ranged : (op : BinaryOp) (a b : Operand) → CanBinary op a b → IsOperand a × IsOperand b → HasRanges (binary_jump op a b)
binary_ranged op (Component x) (Component y) c v = tt
binary_ranged op (Component x) (Literal w) c v = v.1
binary_ranged op (Literal u) (Component y) c v = v.0
binary_ranged op (Literal u) (Literal w) c v = computed_ranged (binary_of op u w) (binary_of-IsValue op u w c.0 c.1 c.2)

one_ranged : (a : Assignment) → HasRanges a.value → All Ranged (a ∷ [])
one_ranged a h = All-cons Ranged a [] h (All-nil Ranged)

stored_ranged : (to : Option ℕ) → All Ranged (stored to)
stored_ranged None = All-nil Ranged
stored_ranged (Some x) = one_ranged (record { to = x; value = jump.Unknown }) tt

statement_ranged : (f : Function) (s : Statement) → CanCompute s → HasValues s → All Ranged (assignments_in f s)
statement_ranged f Nop c v = All-nil Ranged
statement_ranged f (Label l) c v = All-nil Ranged
statement_ranged f (Goto l) c v = All-nil Ranged
statement_ranged f (Cond op a b met missed) c v = All-nil Ranged
statement_ranged f (Switch a cases otherwise) c v = All-nil Ranged
statement_ranged f ReturnVoid c v = All-nil Ranged
statement_ranged f (Return a) c v = All-nil Ranged
statement_ranged f (Copy to a) c v = one_ranged (record { to = to; value = copied a }) (copied_ranged a v)
statement_ranged f (Unary to op a) c v = one_ranged (record { to = to; value = unary_jump op a }) (unary_ranged op a)
statement_ranged f (Convert to a) c v = one_ranged (record { to = to; value = convert_jump (slice_get (component_types f.variables) to) a }) (convert_ranged (slice_get (component_types f.variables) to) a)
statement_ranged f (Binary to op a b) c v = one_ranged (record { to = to; value = binary_jump op a b }) (binary_ranged op a b c v)
statement_ranged f (Load to array a) c v = stored_ranged (Some to)
statement_ranged f (Store array a b) c v = All-nil Ranged
statement_ranged f (CopyStruct to from) c v = all_map Ranged (copy_of_field f.variables to from) (range_with_len 0 (components_of f.variables from)) (λ x. tt)
statement_ranged f (Call to g args) c v = stored_ranged to
statement_ranged f (Putchar a) c v = All-nil Ranged
statement_ranged f (Getchar to) c v = stored_ranged to
statement_ranged f (Exit a) c v = All-nil Ranged

assigned_ranged : (m : Module) (f : Function) → IsReady m f → Facts m f → All Ranged (assignments_of f)
assigned_ranged m f r k =
    all_flat_map Ranged (assignments_in f) f.body
    (all-from_places (λ s. All Ranged (assignments_in f s)) f.body (λ i s here. statement_ranged f s (all_at CanCompute f.body r.computes i s here) (all_at HasValues f.body k.stated.values i s here)))

sole_ranged : (given : List Assignment) → All Ranged given → HasRanges (sole_value given)
sole_ranged [] h = tt
sole_ranged (a ∷ []) h = all_at Ranged (a ∷ []) h 0 a refl
sole_ranged (a ∷ b ∷ more) h = tt

-- ---- jump functions

parameter_small : (m : Module) (f : Function) (x : ℕ) → Facts m f → is_parameter f x ≡ true → x < component_count (bounds_of m f)
parameter_small m f x k h =
    let before = components_of-within f.variables f.parameters in
    let types = length-flat_map (λ (v : Variable). v.types) f.variables in
    small_component m f x k (omega (arith, below x (parameter_components f) h, before, types))

kept_small : (m : Module) (f : Function) (x : ℕ) → Facts m f → keeps_entry f x ≡ true → x < component_count (bounds_of m f)
kept_small m f x k h =
    parameter_small m f x k (both-true (is_parameter f x) (nat_eq (length (assignments_to x (assignments_of f))) 0) h).0

-- a jump function that is kept where its component keeps its entry value
kept_fits : (m : Module) (f : Function) (j : JumpFunction) (x : ℕ) → Facts m f → (x < component_count (bounds_of m f) → FitsJump (bounds_of m f) j) → FitsJump (bounds_of m f) (cond (keeps_entry f x) j jump.Unknown)
kept_fits m f j x k h = by (keeps_entry f x) refl
  where
    by : (b : Bool) → keeps_entry f x ≡ b → FitsJump (bounds_of m f) (cond b j jump.Unknown)
    by true e = h (kept_small m f x k e)
    by false e = tt

over_fits : (m : Module) (f : Function) (j : JumpFunction) → Facts m f → HasRanges j → FitsJump (bounds_of m f) (over_entry f j)
over_fits m f jump.Unknown k h = tt
over_fits m f (jump.Const v) k h = h
over_fits m f (jump.Pass x) k h = kept_fits m f (jump.Pass x) x k (λ lt. lt)
over_fits m f (jump.Unary op x) k h = kept_fits m f (jump.Unary op x) x k (λ lt. lt)
over_fits m f (jump.Convert ty x) k h = kept_fits m f (jump.Convert ty x) x k (λ lt. lt)
over_fits m f (jump.Left op x v) k h = kept_fits m f (jump.Left op x v) x k (λ lt. (lt, h))
over_fits m f (jump.Right op v x) k h = kept_fits m f (jump.Right op v x) x k (λ lt. (h, lt))

component_fits : (m : Module) (f : Function) (x : ℕ) → IsReady m f → Facts m f → FitsJump (bounds_of m f) (component_jump f x)
component_fits m f x r k = by (is_parameter f x)
  where
    assigned : All Ranged (assignments_to x (assignments_of f))
    assigned = all_filter Ranged (λ a. nat_eq a.to x) (assignments_of f) (λ i a here. all_at Ranged (assignments_of f) (assigned_ranged m f r k) i a here)

    by : (b : Bool) → FitsJump (bounds_of m f) (over_entry f (cond b (jump.Pass x) (sole_value (assignments_to x (assignments_of f)))))
    by true = over_fits m f (jump.Pass x) k tt
    by false = over_fits m f (sole_value (assignments_to x (assignments_of f))) k (sole_ranged (assignments_to x (assignments_of f)) assigned)

component_argument_fits : (m : Module) (f : Function) (x : ℕ) → IsReady m f → Facts m f → FitsArgument (bounds_of m f) (component_argument f x)
component_argument_fits m f x r k = record { jump = component_fits m f x r k; source = by (is_parameter f x) refl }
  where
    by : (b : Bool) → is_parameter f x ≡ b → FitsSource (bounds_of m f) (cond b (Some x) None)
    by true e = parameter_small m f x k e
    by false e = tt

-- ---- edges

argument_fits : (m : Module) (f : Function) (a : Arg) → IsReady m f → Facts m f → IsArgument a → All (FitsArgument (bounds_of m f)) (edge_arguments f a)
argument_fits m f (One (Component x)) r k v = All-cons (FitsArgument (bounds_of m f)) (component_argument f x) [] (component_argument_fits m f x r k) (All-nil (FitsArgument (bounds_of m f)))
argument_fits m f (One (Literal w)) r k v =
    All-cons (FitsArgument (bounds_of m f)) (record { jump = jump.Const w; source = None }) [] (record { jump = v; source = tt }) (All-nil (FitsArgument (bounds_of m f)))
argument_fits m f (Whole w) r k v = all_map (FitsArgument (bounds_of m f)) (field_argument f w) (range_with_len 0 (components_of f.variables w)) (λ field. component_argument_fits m f (field_of f.variables w field) r k)

few_of_argument : (f : Function) (a : Arg) → length (edge_arguments f a) ≤ argument_operands f.variables a
few_of_argument f (One (Component x)) = omega arith
few_of_argument f (One (Literal v)) = omega arith
few_of_argument f (Whole v) = omega (arith, length-map-range_with_len (field_argument f v) 0 (components_of f.variables v))

edge_fits : (m : Module) (f : Function) (n : ℕ) (s : Statement) → IsReady m f → Facts m f → n < 2 ^ 32 → knows (scope_in m f) s ≡ true → HasValues s → operands_in f.variables s ≤ 524288 → IfSome (edge_of f n s) (FitsEdge (bounds_of m f))
edge_fits m f n Nop r k lt h v o = tt
edge_fits m f n (Label l) r k lt h v o = tt
edge_fits m f n (Goto l) r k lt h v o = tt
edge_fits m f n (Cond op a b met missed) r k lt h v o = tt
edge_fits m f n (Switch a cases otherwise) r k lt h v o = tt
edge_fits m f n ReturnVoid r k lt h v o = tt
edge_fits m f n (Return a) r k lt h v o = tt
edge_fits m f n (Copy to a) r k lt h v o = tt
edge_fits m f n (Unary to op a) r k lt h v o = tt
edge_fits m f n (Convert to a) r k lt h v o = tt
edge_fits m f n (Binary to op a b) r k lt h v o = tt
edge_fits m f n (Load to array a) r k lt h v o = tt
edge_fits m f n (Store array a b) r k lt h v o = tt
edge_fits m f n (CopyStruct to from) r k lt h v o = tt
edge_fits m f n (Call to g args) r k lt h v o =
    let sc = scope_in m f in
    let first = both-true (knows_target sc to) (knows_function sc g) (both-true (knows_target sc to && knows_function sc g) (list_all (knows_argument sc) args) h).0 in
    let many = length-flat_map (edge_arguments f) args in
    let fewer = sum_by-le-sum_by (λ a. length (edge_arguments f a)) (argument_operands f.variables) args (few_of_argument f) in
    record {
      statement = lt;
      callee = below g (length m.functions) first.1;
      args = (omega (arith, many, fewer, o), all_flat_map (FitsArgument (bounds_of m f)) (edge_arguments f) args (all-from_places (λ a. All (FitsArgument (bounds_of m f)) (edge_arguments f a)) args (λ i a here. argument_fits m f a r k (all_at IsArgument args v i a here))));
    }
edge_fits m f n (Putchar a) r k lt h v o = tt
edge_fits m f n (Getchar to) r k lt h v o = tt
edge_fits m f n (Exit a) r k lt h v o = tt

-- ---- the summary

weights_small : (f : Function) → code_bound_of f ≤ 524288 → All (λ p. p.weight < 2 ^ 32) (params_of f)
weights_small f bound =
    all_map (λ (p : ParamFacts). p.weight < 2 ^ 32) (λ x. facts_of (places_naming x (places_of f))) (range_with_len 0 (parameter_components f))
    (λ x. omega (arith, bound, few_in_all f, few_filter (λ (p : Place). nat_eq p.component x) (places_of f)))

pub summary_fits : (m : Module) (n : ℕ) (f : Function) → IsChecked m → slice_get m.functions n ≡ Some f → FitsSummary (bounds_of m f) (summary_of m f)
summary_fits m n f checked here =
    let k = facts m n f checked here in
    let r = ready m n f checked here in
    let arrays_few : length m.arrays < 2 ^ 32 = omega (arith, checked.stated.items) in
    let fits = all_listed (FitsEdge (bounds_of m f)) (edge_of f) 0 f.body (λ i s at. edge_fits m f (0 + i) s r k (omega (arith, place_inside f.body i s at, few_in_body m f k)) (k.passes i s at).0 (all_at HasValues f.body k.stated.values i s at) (few_operands m f i s k at)) in
    record {
      bound = omega (arith, k.bound);
      params = (omega (arith, length-map-range_with_len (λ x. facts_of (places_naming x (places_of f))) 0 (parameter_components f), components_of-within f.variables f.parameters, few_components m f k), weights_small f k.bound);
      arrays = (omega (arith, few_filter (names_array f) (range_with_len 0 (length m.arrays)), range_len 0 (length m.arrays), arrays_few), all_filter (λ a. a < length m.arrays) (names_array f) (range_with_len 0 (length m.arrays)) (λ i a at. omega (arith, in_range 0 (length m.arrays) i a at)));
      edges = (omega (arith, fits.1, few_in_body m f k), fits.0);
    }
