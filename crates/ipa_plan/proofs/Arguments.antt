-- What a call of a program passes has as many components as its target's parameters, and names what is there.
use Rattle.std.proofs.Common.{◌≡◌, ◌+◌, ◌<◌, ◌≤◌, ℕ, zero, suc, List, [], ◌∷◌, length, take, true, false, Some, None, refl, arith, subst}
use Rattle.std.specs.Prelude.{◌&&◌, All, Option, slice_get, nat_eq, sum_by, IfSome}
use Rattle.std.specs.List.{list_all, zip, flat_map, filter_map, enumerate_from, cons_option}
use Rattle.std.specs.Option.{option_map_or}
use Rattle.std.specs.Cmp.Lexicographic.{pointwise, as_long}
use Rattle.std.proofs.lemmas.Bool.Decides.{nat_tests}
use Rattle.std.proofs.lemmas.List.Concat.{length-flat_map}
use Rattle.std.proofs.lemmas.List.Elements.{All-nil, All-cons}
use Rattle.std.proofs.lemmas.List.FromFn.{length-map-range_with_len}
use Rattle.std.proofs.lemmas.List.Sums.{sum_by-cons}
use Rattle.gimple_ir.specs.declared.types.ScalarType.{ScalarType}
use Rattle.gimple_ir.specs.declared.types.Operand.TheVariants.{Component, Literal}
use Rattle.gimple_ir.specs.declared.types.Arg.{Arg}
use Rattle.gimple_ir.specs.declared.types.Arg.TheVariants.{One, Whole}
use Rattle.gimple_ir.specs.declared.types.Variable.{Variable}
use Rattle.gimple_ir.specs.declared.types.Function.{Function}
use Rattle.gimple_ir.specs.declared.types.Program.{Program}
use Rattle.gimple_ir.specs.declared.types.Statement.{Statement}
use Rattle.gimple_ir.specs.declared.types.Statement.TheVariants.{Call}
use Rattle.gimple_ir.specs.declared.summary.Edge.{Edge}
use Rattle.gimple_ir.specs.CodeBound.{components_in, components_of}
use Rattle.gimple_ir.specs.Lattices.{same_type}
use Rattle.gimple_ir.specs.Statements.{knows, knows_target, knows_function, knows_argument, counts_arguments, types_fit, type_of, whole_fits, argument_fits, arguments_fit, result_fits, type_of_call, is_struct, ByTypes, statement_kind}
use Rattle.gimple_ir.specs.Programs.{scope_of, IsProgramFunction}
use Rattle.func_summary.specs.Summaries.{field_argument, edge_arguments, edge_of, edges_of}
use Rattle.func_summary.specs.Summarised.{IsSmallFunction}
use Rattle.func_summary.proofs.Checked.{both-true, below, all_at, statement-passes}

-- ---- one argument

one_few : (types : List ScalarType) (found : Option ScalarType) → option_map_or (λ ty. pointwise same_type (ty ∷ []) types) found false ≡ true → 1 ≤ length types
one_few types None h = absurd cc
one_few types (Some ty) h = omega (arith, as_long same_type (ty ∷ []) types h)

abbrev types_in : Option Variable → ℕ
types_in o = option_map_or (λ w. length w.types) o 0

whole_few : (p : Variable) (o : Option Variable) → option_map_or (λ w. whole_fits ByTypes w p) o false ≡ true → types_in o ≤ length p.types
whole_few p None h = absurd cc
whole_few p (Some w) h = omega (arith, as_long same_type w.types p.types (both-true (is_struct w.ty) (pointwise same_type w.types p.types) h).1)

argument_few : (p : Program) (f : Function) (a : Arg) (parameter : Variable) → argument_fits (scope_of p f) a parameter ≡ true → length (edge_arguments f a) ≤ length parameter.types
argument_few p f (One (Component x)) parameter h = one_few parameter.types (type_of (scope_of p f) (Component x)) h
argument_few p f (One (Literal v)) parameter h = one_few parameter.types (type_of (scope_of p f) (Literal v)) h
argument_few p f (Whole v) parameter h =
    let few = whole_few parameter (slice_get f.variables v) h in
    omega (arith, few, length-map-range_with_len (field_argument f v) 0 (components_of f.variables v))

-- ---- all arguments

arguments_few : (p : Program) (f : Function) (args : List Arg) (params : List Variable) (n : ℕ) → list_all (λ pair. argument_fits (scope_of p f) pair.0 pair.1) (zip args params) ≡ true → length args ≡ n → n ≤ length params
    → sum_by (λ a. length (edge_arguments f a)) args ≤ components_in (take n params)
arguments_few p f [] params n h count within = omega arith
arguments_few p f (a ∷ args) [] n h count within = absurd (omega (arith, count, within))
arguments_few p f (a ∷ args) (q ∷ qs) zero h count within = absurd (omega (arith, count))
arguments_few p f (a ∷ args) (q ∷ qs) (suc n) h count within =
    let sc = scope_of p f in
    let both = both-true (argument_fits sc a q) (list_all (λ pair. argument_fits sc pair.0 pair.1) (zip args qs)) h in
    let one = argument_few p f a q both.0 in
    let rest = arguments_few p f args qs n both.1 (omega (arith, count)) (omega (arith, within)) in
    omega (arith, one, rest, sum_by-cons (λ (b : Arg). length (edge_arguments f b)) a args, sum_by-cons (λ (v : Variable). length v.types) q (take n qs))

same_number : (a b : ℕ) → nat_eq a b ≡ true → a ≡ b
same_number a b h = grind (arith, nat_tests)

called_few : (p : Program) (f : Function) (g : ℕ) (args : List Arg) → All (IsProgramFunction p) p.functions → All IsSmallFunction p.functions → (o : Option Function) → slice_get p.functions g ≡ o
    → option_map_or (λ called. nat_eq (length args) called.parameters) o true ≡ true
    → option_map_or (λ called. list_all (λ pair. argument_fits (scope_of p f) pair.0 pair.1) (zip args called.variables)) o false ≡ true
    → length (flat_map (edge_arguments f) args) ≤ 64
called_few p f g args formed small None e counts fits = absurd cc
called_few p f g args formed small (Some called) e counts fits =
    let c = all_at (IsProgramFunction p) p.functions formed g called e in
    let s = all_at IsSmallFunction p.functions small g called e in
    let few = arguments_few p f args called.variables called.parameters fits (same_number (length args) called.parameters counts) c.parameters in
    omega (arith, few, s.parameters, length-flat_map (edge_arguments f) args)

-- ---- edges

-- a call to a function of the program
pub record IsEdgeOf (p : Program) (e : Edge) : Type 0 where
  pub callee : e.callee < length p.functions
  pub few : length e.args ≤ 64

edge_known : (p : Program) (f : Function) (n : ℕ) (s : Statement) → All (IsProgramFunction p) p.functions → All IsSmallFunction p.functions
    → knows (scope_of p f) s ≡ true → counts_arguments (scope_of p f) s ≡ true → types_fit (scope_of p f) s ≡ true → IfSome (edge_of f n s) (IsEdgeOf p)
edge_known p f n (Call to g args) formed small known counts types =
    let sc = scope_of p f in
    let first = both-true (knows_target sc to && knows_function sc g) (list_all (knows_argument sc) args) known in
    record {
      callee = below g (length p.functions) (both-true (knows_target sc to) (knows_function sc g) first.0).1;
      few = called_few p f g args formed small (slice_get p.functions g) refl counts (both-true (arguments_fit sc g args) (result_fits sc to (type_of_call sc g)) types).0;
    }
edge_known p f n _ formed small known counts types = tt

-- what is made of elements and their places, where P holds of each
all_listed : {X Y : Type 0} (P : Y → Type 0) (g : ℕ → X → Option Y) (n : ℕ) (xs : List X) → ((i : ℕ) (x : X) → slice_get xs i ≡ Some x → IfSome (g (n + i) x) P)
    → All P (filter_map (λ pair. g pair.0 pair.1) (enumerate_from n xs))
all_listed P g n [] h = All-nil P
all_listed {X} {Y} P g n (x ∷ xs) h =
    by (g n x) (subst (λ k. IfSome (g k x) P) here (h 0 x refl)) (all_listed P g (n + 1) xs (λ i y at. subst (λ k. IfSome (g k y) P) (next i) (h (suc i) y at)))
  where
    here : n + 0 ≡ n
    here = omega arith

    next : (i : ℕ) → n + suc i ≡ n + 1 + i
    next i = omega arith

    rest : List Y
    rest = filter_map (λ pair. g pair.0 pair.1) (enumerate_from (n + 1) xs)

    by : (o : Option Y) → IfSome o P → All P rest → All P (cons_option o rest)
    by None e l = l
    by (Some y) e l = All-cons P y rest e l

pub edges_known : (p : Program) (f : Function) → IsProgramFunction p f → All (IsProgramFunction p) p.functions → All IsSmallFunction p.functions → All (IsEdgeOf p) (edges_of f)
edges_known p f function formed small =
    all_listed (IsEdgeOf p) (edge_of f) 0 f.body
    (λ i s at.
    let passes = statement-passes (scope_of p f) s (all_at (λ (t : Statement). statement_kind (scope_of p f) t ≡ None) f.body function.statements i s at) in
    edge_known p f (0 + i) s formed small passes.0 passes.1 passes.2)
