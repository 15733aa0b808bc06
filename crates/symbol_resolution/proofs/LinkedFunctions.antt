-- A function under the numbers of the merged program: its summary is the linked one, and it is well formed in the program.
use Rattle.std.proofs.Common.{◌≡◌, ◌≢◌, ◌⊎◌, inl, inr, ◌+◌, ◌<◌, ◌≤◌, ℕ, zero, suc, List, [], ◌∷◌, length, map, Bool, true, false, Some, None, cond, refl, sym, ap, ap₂, ◌∙◌, arith, subst}
use Rattle.std.specs.Prelude.{◌||◌, slice_get, nat_eq}
use Rattle.std.specs.List.{list_any, flat_map, filter, range_with_len}
use Rattle.std.proofs.lemmas.Bool.Decides.{nat_tests}
use Rattle.std.proofs.lemmas.List.{length-map}
use Rattle.std.proofs.lemmas.List.Elements.{All-map, filter_agree}
use Rattle.gimple_ir.specs.declared.types.VarType.{VarType}
use Rattle.gimple_ir.specs.declared.types.VarType.TheVariants as variable
use Rattle.gimple_ir.specs.declared.types.ScalarType.{ScalarType}
use Rattle.gimple_ir.specs.declared.types.StructDef.{StructDef}
use Rattle.gimple_ir.specs.declared.types.Array.{Array}
use Rattle.gimple_ir.specs.declared.types.Function.{Function}
use Rattle.gimple_ir.specs.declared.types.Module.{Module}
use Rattle.gimple_ir.specs.declared.types.Program.{Program}
use Rattle.gimple_ir.specs.declared.types.Variable.{Variable}
use Rattle.gimple_ir.specs.declared.types.Statement.{Statement}
use Rattle.gimple_ir.specs.declared.types.Statement.TheVariants.{Load, Store, Call}
use Rattle.gimple_ir.specs.declared.summary.ParamFacts.{ParamFacts}
use Rattle.gimple_ir.specs.declared.summary.Edge.{Edge}
use Rattle.gimple_ir.specs.declared.summary.Summary.{Summary}
use Rattle.gimple_ir.specs.CodeBound.{code_bound_of}
use Rattle.gimple_ir.specs.Statements.{statement_kind}
use Rattle.gimple_ir.specs.Checks.{is_extern, scope_in, ends_closed}
use Rattle.gimple_ir.specs.Programs.{AgreesIn, AgreesAlone, HasValues, IsChecked, IsProgramFunction, scope_of}
use Rattle.func_summary.specs.Summaries.{arrays_in, names_array, arrays_of, params_of, edges_of, summary_of}
use Rattle.func_summary.specs.Summarised.{module_of, IsSmallFunction}
use Rattle.func_summary.proofs.Checked.{all_at, all-from_places, statement-passes}
use Rattle.lto_object.specs.Objects.{functions_in}
use Rattle.symbol_resolution.specs.declared.numbers.Numbered.{Numbered}
use Rattle.symbol_resolution.specs.Numbers.{function_number, array_number}
use Rattle.symbol_resolution.specs.Linking.{linked_edge, linked_arrays, linked_summary, linked_statement, linked_function}
use Rattle.symbol_resolution.proofs.Membership.{Has, later, has_either, has_all, has_mapped, mapped_at, has_any, equal_numbers}
use Rattle.symbol_resolution.proofs.Renumbering.{renumbered, renumbered_function, labels_kept, ends_closed_kept, bound_kept, params_kept, edges_renumbered, all_arrays_renumbered, values_kept}
use Rattle.symbol_resolution.proofs.StatementKinds.{ArrayLink, FunctionLink, statement_kept}
use Rattle.symbol_resolution.proofs.CheckedItems.{FunctionFacts, function_facts, few_statements, defined_or, arrays_known}

-- ---- links as numbers

statement_linked : (functions arrays : List (List ℕ × Numbered)) (object : ℕ) (source : Module) (s : Statement)
    → linked_statement functions arrays object source s ≡ renumbered (function_number functions object source) (array_number arrays object source) s
statement_linked functions arrays object source (Load to array index) = refl
statement_linked functions arrays object source (Store array index from) = refl
statement_linked functions arrays object source (Call to g args) = refl
statement_linked functions arrays object source s = refl

body_linked : (functions arrays : List (List ℕ × Numbered)) (object : ℕ) (source : Module) (body : List Statement)
    → map (linked_statement functions arrays object source) body ≡ map (renumbered (function_number functions object source) (array_number arrays object source)) body
body_linked functions arrays object source [] = refl
body_linked functions arrays object source (s ∷ body) =
    ap₂ (λ (a : Statement) (b : List Statement). a ∷ b) (statement_linked functions arrays object source s) (body_linked functions arrays object source body)

pub function_linked : (functions arrays : List (List ℕ × Numbered)) (object : ℕ) (source : Module) (f : Function)
    → linked_function functions arrays object source f ≡ renumbered_function (function_number functions object source) (array_number arrays object source) f
function_linked functions arrays object source f =
    ap (λ (body : List Statement). let g : Function = record { name = f.name; linkage = f.linkage; result = f.result; parameters = f.parameters; variables = f.variables; labels = f.labels; body = body } in g)
    (body_linked functions arrays object source f.body)

-- ---- the arrays of a summary

any_has : (k : ℕ) (xs : List ℕ) → list_any (nat_eq k) xs ≡ true → Has xs k
any_has k [] h = cc
any_has k (x ∷ xs) h = by (nat_eq k x) refl h (λ rest. any_has k xs rest)
  where
    by : (b : Bool) → nat_eq k x ≡ b → (b || list_any (nat_eq k) xs) ≡ true → (list_any (nat_eq k) xs ≡ true → Has xs k) → Has (x ∷ xs) k
    by true e h rest = (zero, ap (λ (y : ℕ). Some y) (sym (equal_numbers k x e)))
    by false e h rest = later x xs k (rest h)

filter_has : {X : Type 0} (p : X → Bool) (xs : List X) (x : X) (i : ℕ) → slice_get (filter p xs) i ≡ Some x → p x ≡ true
filter_has p [] x i h = cc
filter_has {X} p (y ∷ xs) x i h = by (λ i h. filter_has p xs x i h) (p y) refl i h
  where
    by : ((i : ℕ) → slice_get (filter p xs) i ≡ Some x → p x ≡ true) → (b : Bool) → p y ≡ b → (i : ℕ) → slice_get (cond b (y ∷ filter p xs) (filter p xs)) i ≡ Some x → p x ≡ true
    by rest true e zero h = let same : x ≡ y = cc in ap p same ∙ e
    by rest true e (suc i) h = rest i h
    by rest false e i h = rest i h

has_filter : {X : Type 0} (p : X → Bool) (xs : List X) (x : X) (i : ℕ) → slice_get xs i ≡ Some x → p x ≡ true → Has (filter p xs) x
has_filter p [] x i h t = cc
has_filter {X} p (y ∷ xs) x zero h t =
    let same : y ≡ x = cc in
    (zero, ap (λ (b : Bool). slice_get (cond b (y ∷ filter p xs) (filter p xs)) zero) (ap p same ∙ t) ∙ h)
has_filter {X} p (y ∷ xs) x (suc i) h t = by (p y) (has_filter p xs x i h t)
  where
    by : (b : Bool) → Has (filter p xs) x → Has (cond b (y ∷ filter p xs) (filter p xs)) x
    by true rest = later y (filter p xs) x rest
    by false rest = rest

has_range : (n a k : ℕ) → a ≤ k → k < a + n → Has (range_with_len a n) k
has_range zero a k h lt = absurd (omega (arith, h, lt))
has_range (suc n) a k h lt = by (nat_eq a k) refl (λ other. has_range n (a + 1) k (omega (arith, h, other)) (omega (arith, lt)))
  where
    differ : (a b : ℕ) → nat_eq a b ≡ false → a ≢ b
    differ a b h = grind (arith, nat_tests)

    by : (b : Bool) → nat_eq a k ≡ b → (a ≢ k → Has (range_with_len (a + 1) n) k) → Has (a ∷ range_with_len (a + 1) n) k
    by true e rest = (zero, ap (λ (y : ℕ). Some y) (equal_numbers a k e))
    by false e rest = later a (range_with_len (a + 1) n) k (rest (differ a k e))

both_ways : (b c : Bool) → (b ≡ true → c ≡ true) → (c ≡ true → b ≡ true) → b ≡ c
both_ways true true h k = refl
both_ways true false h k = sym (h refl)
both_ways false true h k = k refl
both_ways false false h k = refl

any_mapped : (a : ℕ → ℕ) (xs ys : List ℕ) (n : ℕ) → ((x : ℕ) → Has xs x → Has ys x) → list_any (nat_eq n) (map a xs) ≡ true → list_any (nat_eq n) (map a ys) ≡ true
any_mapped a xs ys n within h =
    let here = any_has n (map a xs) h in
    let from = has_mapped a xs n here.0 here.1 in
    let there = within from.0 (here.0, from.1) in
    let at : slice_get (map a ys) there.0 ≡ Some n = mapped_at a ys from.0 there.0 there.1 ∙ ap (λ (y : ℕ). Some y) from.2 in
    has_any n (map a ys) there.0 at

-- the arrays of a function's summary are those that its statements name
named_by : (m : Module) (f : Function) (x : ℕ) → Has (arrays_of m f) x → Has (flat_map arrays_in f.body) x
named_by m f x h = any_has x (flat_map arrays_in f.body) (filter_has (names_array f) (range_with_len 0 (length m.arrays)) x h.0 h.1)

by_named : (m : Module) (f : Function) (x : ℕ) → x < length m.arrays → Has (flat_map arrays_in f.body) x → Has (arrays_of m f) x
by_named m f x lt h =
    let at = has_range (length m.arrays) 0 x (omega arith) (omega (arith, lt)) in
    has_filter (names_array f) (range_with_len 0 (length m.arrays)) x at.0 at.1 (has_any x (flat_map arrays_in f.body) h.0 h.1)

arrays_same : (m : Module) (f : Function) (c a : ℕ → ℕ) (count : ℕ) (arrays : List Array) → length arrays ≡ count → ((x : ℕ) → Has (flat_map arrays_in f.body) x → x < length m.arrays)
    → filter (λ n. list_any (nat_eq n) (map a (arrays_of m f))) (range_with_len 0 count) ≡ filter (names_array (renumbered_function c a f)) (range_with_len 0 (length arrays))
arrays_same m f c a count arrays long inside =
    filter_agree (λ n. list_any (nat_eq n) (map a (arrays_of m f))) (names_array (renumbered_function c a f))
    (λ n.
    both_ways (list_any (nat_eq n) (map a (arrays_of m f))) (list_any (nat_eq n) (map a (flat_map arrays_in f.body)))
    (any_mapped a (arrays_of m f) (flat_map arrays_in f.body) n (named_by m f))
    (any_mapped a (flat_map arrays_in f.body) (arrays_of m f) n (λ x h. by_named m f x (inside x h) h))
    ∙ ap (list_any (nat_eq n)) (sym (all_arrays_renumbered c a f.body)))
    (range_with_len 0 count)
    ∙ ap (λ (k : ℕ). filter (names_array (renumbered_function c a f)) (range_with_len 0 k)) (sym long)

joined_from : {X Y : Type 0} (r : X → List Y) (xs : List X) (y : Y) (i : ℕ) → slice_get (flat_map r xs) i ≡ Some y → (x : X) × (Has xs x) × (Has (r x) y)
joined_from r [] y i h = cc
joined_from {X} {Y} r (x ∷ xs) y i h = by (λ i h. joined_from r xs y i h) (has_either (r x) (flat_map r xs) y i h)
  where
    by : ((i : ℕ) → slice_get (flat_map r xs) i ≡ Some y → (x : X) × (Has xs x) × (Has (r x) y)) → Has (r x) y ⊎ Has (flat_map r xs) y → (z : X) × (Has (x ∷ xs) z) × (Has (r z) y)
    by rest (inl here) = (x, (zero, refl), here)
    by rest (inr there) = let more = rest there.0 there.1 in (more.0, later x xs more.0 more.1, more.2)

arrays_inside : (m : Module) (f : Function) → FunctionFacts m f → (x : ℕ) → Has (flat_map arrays_in f.body) x → x < length m.arrays
arrays_inside m f facts x h =
    let from = joined_from arrays_in f.body x h.0 h.1 in
    arrays_known (scope_in m f) from.0 (statement-passes (scope_in m f) from.0 (facts.kinds from.1.0 from.0 from.1.1)).0 x from.2

-- the linked summary of a function is the summary of the linked function
pub summary_linked : (functions arrays : List (List ℕ × Numbered)) (object : ℕ) (m : Module) (f : Function) (p : Program) → FunctionFacts m f → length p.arrays ≡ length arrays
    → linked_summary functions arrays object m (summary_of m f) ≡ summary_of (module_of p) (linked_function functions arrays object m f)
summary_linked functions arrays object m f p facts long =
    let c = function_number functions object m in
    let a = array_number arrays object m in
    let g = renumbered_function c a f in
    let make = λ (bound : ℕ) (params : List ParamFacts) (named : List ℕ) (edges : List Edge). let s : Summary = record { code_bound = bound; params = params; arrays = named; edges = edges } in s in
    let named = linked_arrays arrays object m (arrays_of m f) in
    let edges = map (linked_edge functions object m) (edges_of f) in
    ap₂ (λ (bound : ℕ) (params : List ParamFacts). make bound params named edges) (sym (bound_kept c a f)) (sym (params_kept c a f))
    ∙ ap₂ (make (code_bound_of g) (params_of g)) (arrays_same m f c a (length arrays) p.arrays long (arrays_inside m f facts)) (sym (edges_renumbered c a f))
    ∙ ap (summary_of (module_of p)) (sym (function_linked functions arrays object m f))

-- ---- the function in the program

agrees_alone : (structs : List StructDef) (ty : VarType) (types : List ScalarType) → AgreesIn structs ty types → AgreesAlone ty types
agrees_alone structs (variable.Scalar ty) types h = h
agrees_alone structs (variable.Struct n) types h = tt

pub well_formed : (functions arrays : List (List ℕ × Numbered)) (object place : ℕ) (m : Module) (f : Function) (p : Program) → IsChecked m → slice_get m.functions place ≡ Some f → is_extern f.linkage ≡ false
    → ((i : ℕ) (s : Statement) (k : ℕ) → slice_get f.body i ≡ Some s → Has (arrays_in s) k → ArrayLink m.arrays p.arrays k (array_number arrays object m k))
    → ((i : ℕ) (s : Statement) (k : ℕ) → slice_get f.body i ≡ Some s → Has (functions_in s) k → FunctionLink m.functions p.functions k (function_number functions object m k))
    → IsProgramFunction p (linked_function functions arrays object m f)
well_formed functions arrays object place m f p checked here defined to_array to_function =
    let c = function_number functions object m in
    let a = array_number arrays object m in
    let g = renumbered_function c a f in
    let facts = function_facts m place f checked here in
    subst (IsProgramFunction p) (sym (function_linked functions arrays object m f))
    (record {
      defined = defined;
      variables = all-from_places (λ (v : Variable). AgreesAlone v.ty v.types) f.variables (λ i v at. agrees_alone m.structs v.ty v.types (facts.typed i v at).agrees);
      parameters = facts.stated.parameters;
      values = All-map HasValues (renumbered c a) f.body (all-from_places (λ s. HasValues (renumbered c a s)) f.body (λ i s at. values_kept c a s (all_at HasValues f.body facts.stated.values i s at)));
      labels = labels_kept c a f ∙ facts.labels;
      closed = ends_closed_kept c a f.body ∙ defined_or (is_extern f.linkage) (ends_closed f.body) defined facts.closed;
      statements =
          All-map (λ s. statement_kind (scope_of p g) s ≡ None) (renumbered c a) f.body
          (all-from_places (λ s. statement_kind (scope_of p g) (renumbered c a s) ≡ None) f.body
          (λ i s at.
          statement_kept m p f c a s facts.typed (λ k called there. (function_facts m k called checked there).typed)
          (has_all (λ k. ArrayLink m.arrays p.arrays k (a k)) (arrays_in s) (λ k has. to_array i s k at has))
          (has_all (λ k. FunctionLink m.functions p.functions k (c k)) (functions_in s) (λ k has. to_function i s k at has))
          (facts.kinds i s at)));
    })

pub small : (functions arrays : List (List ℕ × Numbered)) (object : ℕ) (m : Module) (f : Function) → FunctionFacts m f → is_extern f.linkage ≡ false → IsSmallFunction (linked_function functions arrays object m f)
small functions arrays object m f facts defined =
    let c = function_number functions object m in
    let a = array_number arrays object m in
    subst IsSmallFunction (sym (function_linked functions arrays object m f))
    (record {
      name = facts.stated.name;
      components = facts.components;
      parameters = facts.parameters;
      statements = omega (arith, length-map f.body (renumbered c a), few_statements f defined facts.statements);
      code = omega (arith, bound_kept c a f, facts.bound);
    })
