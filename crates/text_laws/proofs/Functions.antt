-- The function that is read of a checked function's syntax is that function.
use Rattle.std.proofs.Common.{◌≡◌, ◌+◌, ◌<◌, ◌≤◌, ℕ, zero, suc, List, [], ◌∷◌, ◌++◌, length, map, take, drop, min, true, false, refl, sym, ap, ap₂, ◌∙◌, arith}
use Rattle.std.specs.Prelude.{Some, None, slice_get, nat_eq, if◌then◌else◌}
use Rattle.std.specs.Option.{option_map_or}
use Rattle.std.proofs.lemmas.Bool.Decides.{nat_tests}
use Rattle.std.proofs.lemmas.List.{length-map, length-take, drop_all}
use Rattle.gimple_ir.specs.declared.types.Linkage.{Linkage}
use Rattle.gimple_ir.specs.declared.types.Linkage.TheVariants.{Extern, Strong, Weak, Static}
use Rattle.gimple_ir.specs.declared.types.Operand.TheVariants.{Component}
use Rattle.gimple_ir.specs.declared.types.StructDef.{StructDef}
use Rattle.gimple_ir.specs.declared.types.Array.{Array}
use Rattle.gimple_ir.specs.declared.types.Variable.{Variable}
use Rattle.gimple_ir.specs.declared.types.Statement.{Statement}
use Rattle.gimple_ir.specs.declared.types.Function.{Function}
use Rattle.gimple_ir.specs.declared.types.Module.{Module}
use Rattle.gimple_ir.specs.Names.{is_builtin}
use Rattle.gimple_ir.specs.Statements.{component_types}
use Rattle.gimple_ir.specs.Checks.{is_extern}
use Rattle.gimple_ir.specs.Programs.{IsChecked, IsStatedFunction, HasValues}
use Rattle.gimple_grammar.specs.declared.syntax.Declared.{Declared}
use Rattle.gimple_grammar.specs.declared.syntax.FunctionText.{FunctionText}
use Rattle.gimple_grammar.specs.declared.syntax.Line.{Line}
use Rattle.gimple_syntax.specs.declared.named.Named.TheVariants.{Unknown, Single}
use Rattle.gimple_syntax.specs.Numbers.{nothing, number_of, item_number}
use Rattle.gimple_syntax.specs.Places.{named_by, variable_of}
use Rattle.gimple_syntax.specs.Statements.{statements_from, label_names}
use Rattle.gimple_syntax.specs.Items.{Items, names_of, parameters_of, arity, function_of}
use Rattle.gimple_print.specs.Statements.{name_at}
use Rattle.text_laws.specs.Syntax.{names_in, place_of, declared_of, struct_of, some_parameters, head_of, locals_of, body_of, lines_from}
use Rattle.text_laws.proofs.Finding.{number_is, is_first}
use Rattle.text_laws.proofs.Known.{each_of, below_true, known_array, known_function}
use Rattle.text_laws.proofs.Sorted.{body_by, linked_function}
use Rattle.text_laws.proofs.Variables.{map_at, standing, all_typed, variables_are, few_variables}
use Rattle.text_laws.proofs.Components.{names_read, component_is, type_is, whole_is}
use Rattle.text_laws.proofs.StatementNumbers.{AreNumbers}
use Rattle.text_laws.proofs.BodyLines.{IsSound, body_is, labels_are, labels_few}

-- ---- the numbers of names

name_is : {X : Type 0} (name : X → List ℕ) (xs : List X) (i : ℕ) (x : X) → slice_get xs i ≡ Some x → name_at (map name xs) i ≡ name x
name_is name xs i x here = ap (λ o. option_map_or (λ n. n) o []) (map_at name xs i x here)

-- an item that has no builtin function's name
item_is : {X : Type 0} (name : X → List ℕ) (xs : List X) (i : ℕ) (x : X) → slice_get xs i ≡ Some x → is_builtin (name x) ≡ false
    → number_of (map name xs) (name x) ≡ i → item_number (map name xs) (name_at (map name xs) i) ≡ i
item_is name xs i x here plain is =
    ap (item_number (map name xs)) (name_is name xs i x here) ∙ ap (λ b. if b then nothing else number_of (map name xs) (name x)) plain ∙ is

array_is : (names : List (List ℕ)) (a : ℕ) (written : List ℕ) → item_number names written ≡ a → a < nothing
    → (if nat_eq (item_number names written) nothing then Unknown else Single (Component (item_number names written))) ≡ Single (Component a)
array_is names a written e low =
    let other : nat_eq a nothing ≡ false = grind (arith, nat_tests) in
    ap (λ k. if nat_eq k nothing then Unknown else Single (Component k)) e ∙ ap (λ b. if b then Unknown else Single (Component a)) other

pub are_numbers : (m : Module) (n : ℕ) (f : Function) → IsChecked m → slice_get m.functions n ≡ Some f → AreNumbers m f
are_numbers m n f checked here =
    let typed = all_typed m n f checked here in
    let known = known_function m n f checked here in
    let few : length f.labels ≤ 8192 = omega (arith, known.few, known.labels, labels_few f.body) in
    let items = checked.stated.items in
    record {
      component = λ x h. component_is m n f checked here typed x (below_true x (length (component_types f.variables)) h);
      typed = λ x h. type_is m f typed x (below_true x (length (component_types f.variables)) h);
      whole = λ v w at struct.
          ap (λ name. named_by (names_read m f) (place_of name None)) (name_is (λ (v : Variable). v.name) f.variables v w at)
          ∙ whole_is m n f checked here typed v w at struct;
      label = λ l low.
          let s = standing f.labels l low in
          ap (number_of f.labels) (ap (λ o. option_map_or (λ n. n) o []) s.here)
          ∙ number_is f.labels l s.item s.here (is_first f.labels l s.item known.distinct s.here) (omega (arith, low, few));
      array = λ a h.
          let s = standing m.arrays a (below_true a (length m.arrays) h) in
          let k = known_array m a s.item checked s.here in
          let names = map (λ (b : Array). b.name) m.arrays in
          let low : a < nothing = omega (arith, below_true a (length m.arrays) h, items) in
          array_is names a (name_at names a)
          (item_is (λ (b : Array). b.name) m.arrays a s.item s.here k.builtin
          (number_is names a s.item.name (map_at (λ (b : Array). b.name) m.arrays a s.item s.here) k.first (omega (arith, low)))) low;
      function = λ g h.
          let s = standing m.functions g (below_true g (length m.functions) h) in
          let k = known_function m g s.item checked s.here in
          let names = map (λ (b : Function). b.name) m.functions in
          item_is (λ (b : Function). b.name) m.functions g s.item s.here k.builtin
          (number_is names g s.item.name (map_at (λ (b : Function). b.name) m.functions g s.item s.here) k.first
          (omega (arith, below_true g (length m.functions) h, items)));
      callable = λ g h.
          let s = standing m.functions g (below_true g (length m.functions) h) in
          ap is_builtin (name_is (λ (b : Function). b.name) m.functions g s.item s.here) ∙ (known_function m g s.item checked s.here).builtin;
      parameters = λ g called at. (each_of (IsStatedFunction m.structs) m.functions checked.stated.functions g called at).parameters;
    }

-- ---- heads

parameters_are : (ds : List Declared) → parameters_of (some_parameters ds) ≡ ds
parameters_are [] = refl
parameters_are (d ∷ ds) = refl

pub arity_is : (structs : List StructDef) (f : Function) → f.parameters ≤ length f.variables → f.parameters ≤ nothing → arity (head_of structs f) ≡ f.parameters
arity_is structs f within few =
    ap (λ ds. min (length ds) nothing) (parameters_are (map (declared_of structs) (take f.parameters f.variables)))
    ∙ omega (arith, within, few, length-map (take f.parameters f.variables) (declared_of structs), length-take f.parameters f.variables)

split_map : {X Y : Type 0} (g : X → Y) (i : ℕ) (xs : List X) → map g (take i xs) ++ map g (drop i xs) ≡ map g xs
split_map g zero [] = refl
split_map g zero (x ∷ xs) = refl
split_map g (suc i) [] = refl
split_map g (suc i) (x ∷ xs) = ap (λ ys. g x ∷ ys) (split_map g i xs)

locals_by : (m : Module) (line : ℕ) (f : Function) (linkage : Linkage) → (is_extern linkage ≡ true → length f.variables ≡ f.parameters)
    → (body_by linkage (body_of m line f)).locals ≡ map (declared_of m.structs) (drop f.parameters f.variables)
locals_by m line f Extern empty =
    sym (ap (map (declared_of m.structs)) (drop_all f.parameters f.variables (omega (arith, empty refl))))
locals_by m line f Strong empty = refl
locals_by m line f Weak empty = refl
locals_by m line f Static empty = refl

lines_by : (m : Module) (line : ℕ) (f : Function) (linkage : Linkage) → (is_extern linkage ≡ true → f.body ≡ [])
    → (body_by linkage (body_of m line f)).lines ≡ lines_from (names_in m f) (line + 2 + length (locals_of f)) f.body
lines_by m line f Extern empty = sym (ap (lines_from (names_in m f) (line + 2 + length (locals_of f))) (empty refl))
lines_by m line f Strong empty = refl
lines_by m line f Weak empty = refl
lines_by m line f Static empty = refl

-- ---- functions

-- the names of a module's items
abbrev pub items_read : Module → Items
items_read m = record {
  structs = map struct_of m.structs;
  arrays = map (λ a. a.name) m.arrays;
  functions = map (λ g. g.name) m.functions;
  arities = map (λ g. g.parameters) m.functions;
}

-- the function with these variables and lines
abbrev made_of : Items → Linkage → FunctionText → List Declared → List (List ℕ) → List Line → Function
made_of items linkage head variables labels lines = record {
  name = head.name;
  linkage = linkage;
  result = head.result;
  parameters = arity head;
  variables = map (variable_of items.structs) variables;
  labels = labels;
  body = statements_from (names_of items variables labels) head.result 0 lines;
}

pub function_is_read : (m : Module) (n : ℕ) (f : Function) → IsChecked m → slice_get m.functions n ≡ Some f → (line : ℕ)
    → function_of (items_read m) (linked_function m line f) ≡ f
unfolding function_of
function_is_read m n f checked here line =
    let stated = each_of (IsStatedFunction m.structs) m.functions checked.stated.functions n f here in
    let known = known_function m n f checked here in
    let typed = all_typed m n f checked here in
    let items = items_read m in
    let head = head_of m.structs f in
    let body = body_by f.linkage (body_of m line f) in
    let at = line + 2 + length (locals_of f) in
    let written = lines_from (names_in m f) at f.body in
    let ds = map (declared_of m.structs) f.variables in
    let variables : parameters_of head.parameters ++ body.locals ≡ ds =
    ap₂ (λ a b. a ++ b) (parameters_are (map (declared_of m.structs) (take f.parameters f.variables))) (locals_by m line f f.linkage (λ e. (stated.declared e).0))
    ∙ split_map (declared_of m.structs) f.parameters f.variables in
    let lines : body.lines ≡ written = lines_by m line f f.linkage (λ e. (stated.declared e).2) in
    let labels : label_names written ≡ f.labels = labels_are m f at known.ascending known.labels in
    let sound : (i : ℕ) (st : Statement) → slice_get f.body i ≡ Some st → IsSound m f st =
    λ i st there.
    let s = known.statements i st there in
    record { values = each_of HasValues f.body stated.values i st there; knows = s.knows; counts = s.counts; types = s.types; goals = known.goals i st there } in
    let statements : statements_from (names_read m f) f.result 0 written ≡ f.body =
    body_is m f (are_numbers m n f checked here) f.result 0 at f.body sound known.ascending (omega (arith, labels_few f.body, known.few)) in
    let few : f.parameters ≤ nothing = omega (arith, stated.parameters, few_variables m f.variables typed, known.components) in
    ap₂ (λ vs ls. made_of items f.linkage head vs (label_names ls) ls) variables lines
    ∙ ap (λ ns. made_of items f.linkage head ds ns written) labels
    ∙ ap (λ k. record { name = f.name; linkage = f.linkage; result = f.result; parameters = k; variables = map (variable_of (map struct_of m.structs)) ds; labels = f.labels; body = statements_from (names_read m f) f.result 0 written }) (arity_is m.structs f stated.parameters few)
    ∙ ap₂ (λ vs b. record { name = f.name; linkage = f.linkage; result = f.result; parameters = f.parameters; variables = vs; labels = f.labels; body = b }) (variables_are m f.variables typed) statements
