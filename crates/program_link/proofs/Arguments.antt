-- What a call passes has as many components as its target's parameters, and both sides of a struct copy have as many.
use Rattle.std.proofs.Common.{◌≡◌, ◌≤◌, ℕ, zero, suc, List, [], ◌∷◌, length, take, true, false, Some, None, refl, ap, arith}
use Rattle.std.specs.Prelude.{Option, slice_get, nat_eq, sum_by, ◌&&◌}
use Rattle.std.specs.List.{list_all, zip, flat_map}
use Rattle.std.specs.Option.{option_map_or}
use Rattle.std.specs.Cmp.Lexicographic.{pointwise}
use Rattle.std.proofs.lemmas.List.Concat.{length-flat_map}
use Rattle.std.proofs.lemmas.List.FromFn.{length-map-range_with_len}
use Rattle.std.proofs.lemmas.List.Sums.{sum_by-cons, sum_by-le-sum_by}
use Rattle.gimple_ir.specs.declared.types.ScalarType.{ScalarType}
use Rattle.gimple_ir.specs.declared.types.Operand.TheVariants.{Component, Literal}
use Rattle.gimple_ir.specs.declared.types.Arg.{Arg}
use Rattle.gimple_ir.specs.declared.types.Arg.TheVariants.{One, Whole}
use Rattle.gimple_ir.specs.declared.types.Variable.{Variable}
use Rattle.gimple_ir.specs.declared.types.Function.{Function}
use Rattle.gimple_ir.specs.declared.types.Program.{Program}
use Rattle.gimple_ir.specs.declared.types.Statement.TheVariants.{Call, CopyStruct}
use Rattle.gimple_ir.specs.declared.merged.Merged.{Merged}
use Rattle.gimple_ir.specs.CodeBound.{components_in, components_of, argument_operands}
use Rattle.gimple_ir.specs.Lattices.{same_type}
use Rattle.gimple_ir.specs.Statements.{ByTypes, counts_arguments, types_fit, type_of, is_struct, structs_fit, argument_fits, whole_fits, arguments_fit, result_fits, type_of_call}
use Rattle.gimple_ir.specs.Programs.{scope_of}
use Rattle.func_summary.specs.Summaries.{field_argument, edge_arguments}
use Rattle.func_summary.specs.Summarised.{IsSummarised}
use Rattle.func_summary.proofs.Checked.{both-true}
use Rattle.program_link.proofs.Facts.{same_number, facts}

-- ---- variables of one struct

alike_long : (xs ys : List ScalarType) → pointwise same_type xs ys ≡ true → length xs ≡ length ys
alike_long [] [] h = refl
alike_long [] (y ∷ ys) h = cc
alike_long (x ∷ xs) [] h = cc
alike_long (x ∷ xs) (y ∷ ys) h = ap suc (alike_long xs ys (both-true (same_type x y) (pointwise same_type xs ys) h).1)

one_long : (types : List ScalarType) (found : Option ScalarType) → option_map_or (λ ty. pointwise same_type (ty ∷ []) types) found false ≡ true → 1 ≡ length types
one_long types None h = cc
one_long types (Some ty) h = alike_long (ty ∷ []) types h

abbrev types_in : Option Variable → ℕ
types_in o = option_map_or (λ w. length w.types) o 0

copied_alike : (o p : Option Variable) → option_map_or (λ x. option_map_or (structs_fit ByTypes x) p false) o false ≡ true → types_in o ≡ types_in p
copied_alike None p h = cc
copied_alike (Some v) None h = cc
copied_alike (Some v) (Some w) h = alike_long v.types w.types (both-true (is_struct v.ty && is_struct w.ty) (pointwise same_type v.types w.types) h).1

pub same_fields : (p : Program) (f : Function) (to from : ℕ) → types_fit (scope_of p f) (CopyStruct to from) ≡ true → components_of f.variables to ≡ components_of f.variables from
same_fields p f to from h = copied_alike (slice_get f.variables to) (slice_get f.variables from) h

-- ---- arguments

whole_few : (parameter : Variable) (o : Option Variable) → option_map_or (λ w. whole_fits ByTypes w parameter) o false ≡ true → types_in o ≤ length parameter.types
whole_few parameter None h = omega arith
whole_few parameter (Some w) h = omega (arith, alike_long w.types parameter.types (both-true (is_struct w.ty) (pointwise same_type w.types parameter.types) h).1)

argument_few : (p : Program) (f : Function) (a : Arg) (parameter : Variable) → argument_fits (scope_of p f) a parameter ≡ true → argument_operands f.variables a ≤ length parameter.types
argument_few p f (One o) parameter h = omega (arith, one_long parameter.types (type_of (scope_of p f) o) h)
argument_few p f (Whole v) parameter h = whole_few parameter (slice_get f.variables v) h

arguments_few : (p : Program) (f : Function) (args : List Arg) (params : List Variable) (n : ℕ)
    → list_all (λ pair. argument_fits (scope_of p f) pair.0 pair.1) (zip args params) ≡ true → length args ≡ n → n ≤ length params
    → sum_by (argument_operands f.variables) args ≤ components_in (take n params)
arguments_few p f [] params n h count within = omega arith
arguments_few p f (a ∷ args) [] n h count within = absurd (omega (arith, count, within))
arguments_few p f (a ∷ args) (x ∷ xs) zero h count within = absurd (omega (arith, count))
arguments_few p f (a ∷ args) (x ∷ xs) (suc n) h count within =
    let sc = scope_of p f in
    let both = both-true (argument_fits sc a x) (list_all (λ pair. argument_fits sc pair.0 pair.1) (zip args xs)) h in
    let one = argument_few p f a x both.0 in
    let rest = arguments_few p f args xs n both.1 (omega (arith, count)) (omega (arith, within)) in
    omega (arith, one, rest, sum_by-cons (argument_operands f.variables) a args, sum_by-cons (λ (v : Variable). length v.types) x (take n xs))

called_few : (p : Program) (merged : Merged) (f : Function) (g : ℕ) (args : List Arg) → IsSummarised p merged → (o : Option Function) → slice_get p.functions g ≡ o
    → option_map_or (λ called. nat_eq (length args) called.parameters) o true ≡ true
    → option_map_or (λ called. list_all (λ pair. argument_fits (scope_of p f) pair.0 pair.1) (zip args called.variables)) o false ≡ true
    → sum_by (argument_operands f.variables) args ≤ 64
called_few p merged f g args summarised None e counts fits = cc
called_few p merged f g args summarised (Some called) e counts fits =
    let c = facts p merged g called summarised e in
    let few = arguments_few p f args called.variables called.parameters fits (same_number (length args) called.parameters counts) c.sound.parameters in
    omega (arith, few, c.parameters)

-- a call passes at most 64 components
pub call_few : (p : Program) (merged : Merged) (f : Function) (to : Option ℕ) (g : ℕ) (args : List Arg) → IsSummarised p merged → counts_arguments (scope_of p f) (Call to g args) ≡ true
    → types_fit (scope_of p f) (Call to g args) ≡ true → sum_by (argument_operands f.variables) args ≤ 64
call_few p merged f to g args summarised counts types =
    let sc = scope_of p f in
    called_few p merged f g args summarised (slice_get p.functions g) refl counts (both-true (arguments_fit sc g args) (result_fits sc to (type_of_call sc g)) types).0

-- ---- edges

few_of_argument : (f : Function) (a : Arg) → length (edge_arguments f a) ≤ argument_operands f.variables a
few_of_argument f (One (Component x)) = omega arith
few_of_argument f (One (Literal v)) = omega arith
few_of_argument f (Whole v) = omega (arith, length-map-range_with_len (field_argument f v) 0 (components_of f.variables v))

-- no more than the operands of the call
pub few_arguments : (f : Function) (args : List Arg) → length (flat_map (edge_arguments f) args) ≤ sum_by (argument_operands f.variables) args
few_arguments f args =
    omega (arith, length-flat_map (edge_arguments f) args, sum_by-le-sum_by (λ a. length (edge_arguments f a)) (argument_operands f.variables) args (few_of_argument f))
