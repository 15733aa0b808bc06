-- The bounds of a module's functions: their counts fit a u32, and so do those of a module whose declarations are short.
use Rattle.std.proofs.Common.{◌≡◌, ℕ, suc, ◌+◌, ◌^◌, ◌<◌, ◌≤◌, Bool, true, false, List, [], ◌∷◌, ◌++◌, length, take, drop, refl, sym, ap, ◌∙◌, arith}
use Rattle.std.specs.Prelude.{All, map}
use Rattle.std.specs.List.{flat_map, AllByRecursion}
use Rattle.std.proofs.lemmas.List.{length-append, take-append-drop}
use Rattle.std.proofs.lemmas.List.Concat.{flat_map-cons}
use Rattle.std.proofs.lemmas.List.Elements.{All-map, All-filter, All-weaker, All-from_recursion, recursion_from_All}
use Rattle.cursors.specs.Leb128.{uleb_of}
use Rattle.gimple_ir.specs.Checks.{is_extern}
use Rattle.gimple_ir.specs.declared.types.VarType.{VarType}
use Rattle.gimple_ir.specs.declared.types.VarType.TheVariants as variable
use Rattle.gimple_ir.specs.declared.types.StructDef.{StructDef}
use Rattle.gimple_ir.specs.declared.types.Variable.{Variable}
use Rattle.gimple_ir.specs.declared.types.Function.{Function}
use Rattle.gimple_ir.specs.declared.types.Module.{Module}
use Rattle.module_stream.specs.Fields.{counted_of, text_of}
use Rattle.module_stream.specs.Declarations.{struct_of, array_of, var_type_of, variable_of, parameters_of, locals_of, inside_of, function_of, decls_of, IsDeclaredFunction, AreDeclarations}
use Rattle.module_stream.proofs.OperandLaws.{AreCounts}
use Rattle.lto_object.specs.Bounds.{is_defined, defined_of, bounds_of, bounds_in, HasFewNames, HasBounds}

counts_of : (m : Module) (f : Function) → HasBounds m → HasFewNames f → AreCounts (bounds_of m f)
counts_of m f h k = record {
  variables = omega (arith, k.variables);
  labels = omega (arith, k.labels);
  arrays = omega (arith, h.arrays);
  functions = omega (arith, h.functions);
}

pub all_counts : (m : Module) → HasBounds m → AllByRecursion AreCounts (bounds_in m)
all_counts m h =
    let each : All (λ f. AreCounts (bounds_of m f)) m.functions = All-weaker HasFewNames (λ f. AreCounts (bounds_of m f)) (λ f k. counts_of m f h k) m.functions h.each in
    recursion_from_All AreCounts (bounds_in m) (All-map AreCounts (bounds_of m) (defined_of m.functions) (All-filter is_defined (λ f. AreCounts (bounds_of m f)) m.functions each))

-- ---- short declarations

-- a list whose items take a byte each, at least, is no longer than its bytes
no_longer : {A : Type 0} (write : A → List ℕ) → ((x : A) → 1 ≤ length (write x)) → (xs : List A) → length xs ≤ length (flat_map write xs)
no_longer write some [] = omega arith
no_longer write some (x ∷ xs) =
    let parts : length (flat_map write (x ∷ xs)) ≡ length (write x) + length (flat_map write xs) = ap length (flat_map-cons write x xs) ∙ length-append (write x) (flat_map write xs) in
    omega (arith, parts, some x, no_longer write some xs)

pub counted_longer : {A : Type 0} (write : A → List ℕ) → ((x : A) → 1 ≤ length (write x)) → (xs : List A) → length xs ≤ length (counted_of write xs)
counted_longer write some xs = omega (arith, length-append (uleb_of (length xs)) (flat_map write xs), no_longer write some xs)

-- each item's bytes are no more than those of all
each_within : {A : Type 0} (write : A → List ℕ) (most : ℕ) (xs : List A) → length (flat_map write xs) ≤ most → AllByRecursion (λ x. length (write x) ≤ most) xs
each_within write most [] le = tt
each_within write most (x ∷ xs) le =
    let parts : length (flat_map write (x ∷ xs)) ≡ length (write x) + length (flat_map write xs) = ap length (flat_map-cons write x xs) ∙ length-append (write x) (flat_map write xs) in
    (omega (arith, parts), each_within write most xs (omega (arith, parts)))

some_type : (ty : VarType) → 1 ≤ length (var_type_of ty)
some_type (variable.Scalar ty) = omega arith
some_type (variable.Struct n) = omega arith

some_variable : (v : Variable) → 1 ≤ length (variable_of v)
some_variable v = omega (arith, length-append (var_type_of v.ty) (text_of v.name), some_type v.ty)

locals_within : (b : Bool) (locals : List Variable) (labels : List (List ℕ)) → b ≡ false → length locals ≤ length (inside_of b locals labels)
locals_within true locals labels e = absurd cc
locals_within false locals labels e =
    omega (arith, length-append (counted_of variable_of locals) (counted_of text_of labels), counted_longer variable_of some_variable locals)

few_variables : (structs : List StructDef) (f : Function) (b : Bool) → is_extern f.linkage ≡ b → IsDeclaredFunction structs f → length (function_of f) < 2 ^ 32 → length f.variables < 2 ^ 32
few_variables structs f true e h lt = let all = (h.stated.declared e).0 in omega (arith, all, h.parameters)
few_variables structs f false e h lt =
    let parameters = counted_of variable_of (parameters_of f) in
    let inside = inside_of (is_extern f.linkage) (locals_of f) f.labels in
    let long : suc (suc (length (text_of f.name ++ (parameters ++ inside)))) < 2 ^ 32 = lt in
    let all : length (parameters_of f) + length (locals_of f) ≡ length f.variables = sym (length-append (parameters_of f) (locals_of f)) ∙ ap length (take-append-drop f.parameters f.variables) in
    omega (
      arith,
      long,
      all,
      length-append (text_of f.name) (parameters ++ inside),
      length-append parameters inside,
      counted_longer variable_of some_variable (parameters_of f),
      locals_within (is_extern f.linkage) (locals_of f) f.labels e,
    )

functions_within : (m : Module) → length (flat_map function_of m.functions) ≤ length (decls_of m)
functions_within m =
    let structs = counted_of struct_of m.structs in
    let arrays = counted_of array_of m.arrays in
    let functions = counted_of function_of m.functions in
    omega (
      arith,
      length-append structs (arrays ++ functions),
      length-append arrays functions,
      length-append (uleb_of (length m.functions)) (flat_map function_of m.functions),
    )

-- The counts of declarations that have fewer than 2 ^ 32 bytes fit a u32.
pub short_bounds : (m : Module) → AreDeclarations m → length (decls_of m) < 2 ^ 32 → HasBounds m
short_bounds m h lt =
    let short = All-from_recursion (λ f. length (function_of f) ≤ length (decls_of m)) m.functions (each_within function_of (length (decls_of m)) m.functions (functions_within m)) in
    record {
      arrays = h.arrays.0;
      functions = h.functions.0;
      each = λ k d below.
          let declared = h.functions.1 k d below in
          record { variables = few_variables m.structs _ (is_extern _) refl declared (omega (arith, short k d below)); labels = declared.labels };
    }
