-- Functions under other numbers of functions and arrays: what is counted of them, and where they go, stays the same.
use Rattle.std.proofs.Common.{◌≡◌, ◌+◌, ◌-◌, ◌*◌, ℕ, List, [], ◌∷◌, ◌++◌, length, map, Bool, false, Some, None, refl, sym, ap, ap₂, ◌∙◌}
use Rattle.std.specs.Prelude.{◌&&◌, if◌then◌else◌, not, Option, slice_get, nat_eq, is_some}
use Rattle.std.specs.List.{filter_map, flat_map, list_all, sum_by, cons_option, enumerate_from, range_with_len}
use Rattle.std.specs.Option.{option_map, option_map_or}
use Rattle.std.proofs.lemmas.Option.{slice_get-map}
use Rattle.std.proofs.lemmas.List.{length-map}
use Rattle.std.proofs.lemmas.List.Sums.{sum_by-cons}
use Rattle.gimple_ir.specs.declared.types.Operand.TheVariants.{Component, Literal}
use Rattle.gimple_ir.specs.declared.types.Arg.{Arg}
use Rattle.gimple_ir.specs.declared.types.Arg.TheVariants.{One, Whole}
use Rattle.gimple_ir.specs.declared.types.Function.{Function}
use Rattle.gimple_ir.specs.declared.types.Variable.{Variable}
use Rattle.gimple_ir.specs.declared.types.Statement.{Statement}
use Rattle.gimple_ir.specs.declared.types.Statement.TheVariants.{Load, Store, Call}
use Rattle.gimple_ir.specs.declared.summary.JumpFunction.{JumpFunction}
use Rattle.gimple_ir.specs.declared.summary.JumpFunction.TheVariants as jump
use Rattle.gimple_ir.specs.declared.summary.EdgeArg.{EdgeArg}
use Rattle.gimple_ir.specs.declared.summary.Edge.{Edge}
use Rattle.gimple_ir.specs.CodeBound.{parameter_components, components_of, operands_in, code_bound_of}
use Rattle.gimple_ir.specs.Checks.{label_of, goes_within, ends, labels_stand, counts_up, ends_closed}
use Rattle.gimple_ir.specs.Names.{repeats}
use Rattle.gimple_ir.specs.Programs.{HasValues}
use Rattle.func_summary.specs.declared.places.Place.{Place}
use Rattle.func_summary.specs.declared.assignments.Assignment.{Assignment}
use Rattle.func_summary.specs.JumpFunctions.{is_parameter, assignments_in, assignments_of, assignments_to, keeps_entry, over_entry, sole_value, component_jump}
use Rattle.func_summary.specs.Summaries.{operands_of, places_of, params_of, facts_of, places_naming, arrays_in, component_argument, field_argument, edge_arguments, edge_of, edges_of}

-- a statement under other numbers
abbrev pub renumbered : (ℕ → ℕ) → (ℕ → ℕ) → Statement → Statement
renumbered callee array_number (Load to array index) = Load to (array_number array) index
renumbered callee array_number (Store array index from) = Store (array_number array) index from
renumbered callee array_number (Call to function args) = Call to (callee function) args
renumbered callee array_number s = s

abbrev pub renumbered_function : (ℕ → ℕ) → (ℕ → ℕ) → Function → Function
renumbered_function callee array_number f = record { name = f.name; linkage = f.linkage; result = f.result; parameters = f.parameters; variables = f.variables; labels = f.labels; body = map (renumbered callee array_number) f.body }

abbrev pub renumbered_edge : (ℕ → ℕ) → Edge → Edge
renumbered_edge callee e = record { statement = e.statement; callee = callee e.callee; assigns = e.assigns; args = e.args }

-- ---- lists of what stays the same

filter_map_kept : {X Y : Type 0} (r : X → X) (g h : X → Option Y) → ((x : X) → g (r x) ≡ h x) → (xs : List X) → filter_map g (map r xs) ≡ filter_map h xs
filter_map_kept r g h same [] = refl
filter_map_kept r g h same (x ∷ xs) = ap₂ cons_option (same x) (filter_map_kept r g h same xs)

flat_map_kept : {X Y : Type 0} (r : X → X) (g h : X → List Y) → ((x : X) → g (r x) ≡ h x) → (xs : List X) → flat_map g (map r xs) ≡ flat_map h xs
flat_map_kept r g h same [] = refl
flat_map_kept r g h same (x ∷ xs) = ap₂ (λ a b. a ++ b) (same x) (flat_map_kept r g h same xs)

list_all_kept : {X : Type 0} (r : X → X) (g : X → Bool) → ((x : X) → g (r x) ≡ g x) → (xs : List X) → list_all g (map r xs) ≡ list_all g xs
list_all_kept r g same [] = refl
list_all_kept r g same (x ∷ xs) = ap₂ (λ a b. a && b) (same x) (list_all_kept r g same xs)

sum_by_kept : {X : Type 0} (r : X → X) (g : X → ℕ) → ((x : X) → g (r x) ≡ g x) → (xs : List X) → sum_by g (map r xs) ≡ sum_by g xs
sum_by_kept r g same [] = refl
sum_by_kept r g same (x ∷ xs) = sum_by-cons g (r x) (map r xs) ∙ ap₂ (λ a b. a + b) (same x) (sum_by_kept r g same xs) ∙ sym (sum_by-cons g x xs)

map_same : {X Y : Type 0} (g h : X → Y) → ((x : X) → g x ≡ h x) → (xs : List X) → map g xs ≡ map h xs
map_same g h same [] = refl
map_same g h same (x ∷ xs) = ap₂ (λ a b. a ∷ b) (same x) (map_same g h same xs)

flat_map_same : {X Y : Type 0} (g h : X → List Y) → ((x : X) → g x ≡ h x) → (xs : List X) → flat_map g xs ≡ flat_map h xs
flat_map_same g h same [] = refl
flat_map_same g h same (x ∷ xs) = ap₂ (λ a b. a ++ b) (same x) (flat_map_same g h same xs)

-- ---- one statement

label_kept : (c a : ℕ → ℕ) (s : Statement) → label_of (renumbered c a s) ≡ label_of s
label_kept c a (Load to array index) = refl
label_kept c a (Store array index from) = refl
label_kept c a (Call to function args) = refl
label_kept c a s = refl

goes_kept : (count : ℕ) (c a : ℕ → ℕ) (s : Statement) → goes_within count (renumbered c a s) ≡ goes_within count s
goes_kept count c a (Load to array index) = refl
goes_kept count c a (Store array index from) = refl
goes_kept count c a (Call to function args) = refl
goes_kept count c a s = refl

ends_kept : (c a : ℕ → ℕ) (s : Statement) → ends (renumbered c a s) ≡ ends s
ends_kept c a (Load to array index) = refl
ends_kept c a (Store array index from) = refl
ends_kept c a (Call to function args) = refl
ends_kept c a s = refl

operands_kept : (vs : List Variable) (c a : ℕ → ℕ) (s : Statement) → operands_in vs (renumbered c a s) ≡ operands_in vs s
operands_kept vs c a (Load to array index) = refl
operands_kept vs c a (Store array index from) = refl
operands_kept vs c a (Call to function args) = refl
operands_kept vs c a s = refl

places_kept : (vs : List Variable) (c a : ℕ → ℕ) (s : Statement) → operands_of vs (renumbered c a s) ≡ operands_of vs s
places_kept vs c a (Load to array index) = refl
places_kept vs c a (Store array index from) = refl
places_kept vs c a (Call to function args) = refl
places_kept vs c a s = refl

assignments_kept : (f : Function) (c a : ℕ → ℕ) (s : Statement) → assignments_in (renumbered_function c a f) (renumbered c a s) ≡ assignments_in f s
assignments_kept f c a (Load to array index) = refl
assignments_kept f c a (Store array index from) = refl
assignments_kept f c a (Call to function args) = refl
assignments_kept f c a s = refl

arrays_renumbered : (c a : ℕ → ℕ) (s : Statement) → arrays_in (renumbered c a s) ≡ map a (arrays_in s)
arrays_renumbered c a (Load to array index) = refl
arrays_renumbered c a (Store array index from) = refl
arrays_renumbered c a (Call to function args) = refl
arrays_renumbered c a s = refl

pub values_kept : (c a : ℕ → ℕ) (s : Statement) → HasValues s → HasValues (renumbered c a s)
values_kept c a (Load to array index) h = h
values_kept c a (Store array index from) h = h
values_kept c a (Call to function args) h = h
values_kept c a s h = h

-- ---- the body

pub labels_kept : (c a : ℕ → ℕ) (f : Function) → labels_stand (renumbered_function c a f) ≡ labels_stand f
labels_kept c a f =
    ap₂ (λ (b : List ℕ) (g : Bool). counts_up 0 b && nat_eq (length b) (length f.labels) && g && not (repeats f.labels))
    (filter_map_kept (renumbered c a) label_of label_of (label_kept c a) f.body)
    (list_all_kept (renumbered c a) (goes_within (length f.labels)) (goes_kept (length f.labels) c a) f.body)

ends_of_option : (c a : ℕ → ℕ) (o : Option Statement) → option_map_or ends (option_map (renumbered c a) o) false ≡ option_map_or ends o false
ends_of_option c a None = refl
ends_of_option c a (Some s) = ends_kept c a s

pub ends_closed_kept : (c a : ℕ → ℕ) (body : List Statement) → ends_closed (map (renumbered c a) body) ≡ ends_closed body
ends_closed_kept c a body =
    ap (λ (n : ℕ). option_map_or ends (slice_get (map (renumbered c a) body) (n - 1)) false) (length-map body (renumbered c a))
    ∙ ap (λ (o : Option Statement). option_map_or ends o false) (slice_get-map (renumbered c a) body (length body - 1))
    ∙ ends_of_option c a (slice_get body (length body - 1))

pub bound_kept : (c a : ℕ → ℕ) (f : Function) → code_bound_of (renumbered_function c a f) ≡ code_bound_of f
bound_kept c a f =
    ap (λ (n : ℕ). 4 * (6 + 11 * parameter_components f + n))
    (sum_by_kept (renumbered c a) (λ s. 7 + 11 * operands_in f.variables s) (λ s. ap (λ (n : ℕ). 7 + 11 * n) (operands_kept f.variables c a s)) f.body)

-- ---- the summary

all_places_kept : (c a : ℕ → ℕ) (f : Function) → places_of (renumbered_function c a f) ≡ places_of f
all_places_kept c a f = flat_map_kept (renumbered c a) (operands_of f.variables) (operands_of f.variables) (places_kept f.variables c a) f.body

pub params_kept : (c a : ℕ → ℕ) (f : Function) → params_of (renumbered_function c a f) ≡ params_of f
params_kept c a f =
    ap (λ (places : List Place). map (λ x. facts_of (places_naming x places)) (range_with_len 0 (parameter_components f))) (all_places_kept c a f)

all_assignments_kept : (c a : ℕ → ℕ) (f : Function) → assignments_of (renumbered_function c a f) ≡ assignments_of f
all_assignments_kept c a f = flat_map_kept (renumbered c a) (assignments_in (renumbered_function c a f)) (assignments_in f) (assignments_kept f c a) f.body

entry_kept : (c a : ℕ → ℕ) (f : Function) (x : ℕ) → keeps_entry (renumbered_function c a f) x ≡ keeps_entry f x
entry_kept c a f x =
    ap (λ (all : List Assignment). is_parameter f x && nat_eq (length (assignments_to x all)) 0) (all_assignments_kept c a f)

over_entry_kept : (c a : ℕ → ℕ) (f : Function) (j : JumpFunction) → over_entry (renumbered_function c a f) j ≡ over_entry f j
over_entry_kept c a f jump.Unknown = refl
over_entry_kept c a f (jump.Const v) = refl
over_entry_kept c a f (jump.Pass x) = ap (λ (b : Bool). if b then jump.Pass x else jump.Unknown) (entry_kept c a f x)
over_entry_kept c a f (jump.Unary op x) = ap (λ (b : Bool). if b then jump.Unary op x else jump.Unknown) (entry_kept c a f x)
over_entry_kept c a f (jump.Convert ty x) = ap (λ (b : Bool). if b then jump.Convert ty x else jump.Unknown) (entry_kept c a f x)
over_entry_kept c a f (jump.Left op x v) = ap (λ (b : Bool). if b then jump.Left op x v else jump.Unknown) (entry_kept c a f x)
over_entry_kept c a f (jump.Right op v x) = ap (λ (b : Bool). if b then jump.Right op v x else jump.Unknown) (entry_kept c a f x)

jump_kept : (c a : ℕ → ℕ) (f : Function) (x : ℕ) → component_jump (renumbered_function c a f) x ≡ component_jump f x
jump_kept c a f x =
    ap (λ (all : List Assignment). over_entry (renumbered_function c a f) (if is_parameter f x then jump.Pass x else sole_value (assignments_to x all))) (all_assignments_kept c a f)
    ∙ over_entry_kept c a f (if is_parameter f x then jump.Pass x else sole_value (assignments_to x (assignments_of f)))

argument_kept : (c a : ℕ → ℕ) (f : Function) (x : ℕ) → component_argument (renumbered_function c a f) x ≡ component_argument f x
argument_kept c a f x =
    ap (λ (j : JumpFunction). let e : EdgeArg = record { jump = j; source = if is_parameter f x then Some x else None } in e) (jump_kept c a f x)

arguments_kept : (c a : ℕ → ℕ) (f : Function) (x : Arg) → edge_arguments (renumbered_function c a f) x ≡ edge_arguments f x
arguments_kept c a f (One (Component x)) = ap (λ (e : EdgeArg). e ∷ []) (argument_kept c a f x)
arguments_kept c a f (One (Literal v)) = refl
arguments_kept c a f (Whole v) =
    map_same (field_argument (renumbered_function c a f) v) (field_argument f v) (λ field. argument_kept c a f _) (range_with_len 0 (components_of f.variables v))

edge_renumbered : (c a : ℕ → ℕ) (f : Function) (place : ℕ) (s : Statement) → edge_of (renumbered_function c a f) place (renumbered c a s) ≡ option_map (renumbered_edge c) (edge_of f place s)
edge_renumbered c a f place (Load to array index) = refl
edge_renumbered c a f place (Store array index from) = refl
edge_renumbered c a f place (Call to function args) =
    ap (λ (all : List EdgeArg). let e : Edge = record { statement = place; callee = c function; assigns = is_some to; args = all } in Some e)
    (flat_map_same (edge_arguments (renumbered_function c a f)) (edge_arguments f) (arguments_kept c a f) args)
edge_renumbered c a f place s = refl

cons_mapped : {X Y : Type 0} (r : X → Y) (o : Option X) (xs : List X) → cons_option (option_map r o) (map r xs) ≡ map r (cons_option o xs)
cons_mapped r None xs = refl
cons_mapped r (Some x) xs = refl

edges_from : (c a : ℕ → ℕ) (f : Function) (n : ℕ) (body : List Statement)
    → filter_map (λ pair. edge_of (renumbered_function c a f) pair.0 pair.1) (enumerate_from n (map (renumbered c a) body))
    ≡ map (renumbered_edge c) (filter_map (λ pair. edge_of f pair.0 pair.1) (enumerate_from n body))
edges_from c a f n [] = refl
edges_from c a f n (s ∷ body) =
    ap₂ cons_option (edge_renumbered c a f n s) (edges_from c a f (n + 1) body)
    ∙ cons_mapped (renumbered_edge c) (edge_of f n s) (filter_map (λ pair. edge_of f pair.0 pair.1) (enumerate_from (n + 1) body))

pub edges_renumbered : (c a : ℕ → ℕ) (f : Function) → edges_of (renumbered_function c a f) ≡ map (renumbered_edge c) (edges_of f)
edges_renumbered c a f = edges_from c a f 0 f.body

map_append : {X Y : Type 0} (r : X → Y) (xs ys : List X) → map r (xs ++ ys) ≡ map r xs ++ map r ys
map_append r [] ys = refl
map_append r (x ∷ xs) ys = ap (λ (zs : List _). r x ∷ zs) (map_append r xs ys)

pub all_arrays_renumbered : (c a : ℕ → ℕ) (body : List Statement) → flat_map arrays_in (map (renumbered c a) body) ≡ map a (flat_map arrays_in body)
all_arrays_renumbered c a [] = refl
all_arrays_renumbered c a (s ∷ body) =
    ap₂ (λ x y. x ++ y) (arrays_renumbered c a s) (all_arrays_renumbered c a body)
    ∙ sym (map_append a (arrays_in s) (flat_map arrays_in body))
