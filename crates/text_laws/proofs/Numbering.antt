-- The module of the items that a checked module's canonical text spells is that module.
use Rattle.std.proofs.Common.{◌≡◌, ◌+◌, ℕ, suc, List, [], ◌∷◌, length, map, refl, ap, ap₂, ◌∙◌, arith}
use Rattle.std.specs.Prelude.{Some, slice_get, All}
use Rattle.std.specs.List.{cons_option}
use Rattle.std.proofs.lemmas.Simd.{map-map}
use Rattle.std.proofs.lemmas.List.Elements.{All-head, All-tail}
use Rattle.gimple_ir.specs.declared.types.Field.{Field}
use Rattle.gimple_ir.specs.declared.types.StructDef.{StructDef}
use Rattle.gimple_ir.specs.declared.types.Array.{Array}
use Rattle.gimple_ir.specs.declared.types.Function.{Function}
use Rattle.gimple_ir.specs.declared.types.Module.{Module}
use Rattle.gimple_ir.specs.Programs.{IsChecked, IsStatedArray, IsStatedFunction}
use Rattle.gimple_grammar.specs.declared.syntax.ArrayText.{ArrayText}
use Rattle.gimple_grammar.specs.declared.syntax.FunctionText.{FunctionText}
use Rattle.gimple_syntax.specs.Numbers.{shortened}
use Rattle.gimple_syntax.specs.Items.{items_of, arity, structs_in, arrays_in, functions_in, function_heads, field_of as field_read, struct_of as struct_read, array_of as array_read, function_of, module_of}
use Rattle.text_laws.specs.Syntax.{field_of, struct_of, array_of, head_of, body_of, height_of, functions_from, syntax_of}
use Rattle.text_laws.proofs.Known.{each_of, known_function}
use Rattle.text_laws.proofs.Literals.{elements_are, shortest_is}
use Rattle.text_laws.proofs.Sorted.{structs_are, linked_array, arrays_are, array_texts_are, heads_are, linked_function, function_is, functions_are}
use Rattle.text_laws.proofs.Variables.{all_typed, few_variables}
use Rattle.text_laws.proofs.Functions.{arity_is, items_read, function_is_read}

-- ---- structs and arrays

fields_read : (fs : List Field) → map field_read (map field_of fs) ≡ fs
fields_read [] = refl
fields_read (f ∷ fs) = ap (λ gs. f ∷ gs) (fields_read fs)

structs_read : (ss : List StructDef) → map struct_read (map struct_of ss) ≡ ss
structs_read [] = refl
structs_read (s ∷ ss) = ap₂ (λ fs ts. record { name = s.name; fields = fs } ∷ ts) (fields_read s.fields) (structs_read ss)

array_is_read : (a : Array) → IsStatedArray a → array_read (linked_array a) ≡ a
array_is_read a stated =
    ap (λ zs. record { name = a.name; linkage = a.linkage; element = a.element; length = a.length; initial = zs })
    (ap shortened (elements_are a.element a.initial stated.initial) ∙ shortest_is a.initial stated.shortest)

arrays_read : (arrays : List Array) → All IsStatedArray arrays → map array_read (map linked_array arrays) ≡ arrays
arrays_read [] all = refl
arrays_read (a ∷ arrays) all =
    ap₂ (λ b bs. b ∷ bs) (array_is_read a (All-head IsStatedArray a arrays all)) (arrays_read arrays (All-tail IsStatedArray a arrays all))

-- ---- functions

functions_read : (m : Module) (line : ℕ) (fs : List Function) → ((i : ℕ) (f : Function) → slice_get fs i ≡ Some f → (line : ℕ) → function_of (items_read m) (linked_function m line f) ≡ f)
    → map (function_of (items_read m)) (functions_in (functions_from m line fs)) ≡ fs
functions_read m line [] read = refl
functions_read m line (f ∷ fs) read =
    ap (λ o. map (function_of (items_read m)) (cons_option o (functions_in (functions_from m (line + height_of f) fs))))
    (function_is f.linkage (head_of m.structs f) (body_of m line f))
    ∙ ap₂ (λ g gs. g ∷ gs) (read 0 f refl line) (functions_read m (line + height_of f) fs (λ i g at. read (suc i) g at))

-- ---- the names of items

arities : (structs : List StructDef) (fs : List Function) → ((i : ℕ) (f : Function) → slice_get fs i ≡ Some f → arity (head_of structs f) ≡ f.parameters)
    → map arity (map (head_of structs) fs) ≡ map (λ (f : Function). f.parameters) fs
arities structs [] are = refl
arities structs (f ∷ fs) are = ap₂ (λ n ns. n ∷ ns) (are 0 f refl) (arities structs fs (λ i g at. are (suc i) g at))

arity_at : (m : Module) → IsChecked m → (i : ℕ) (f : Function) → slice_get m.functions i ≡ Some f → arity (head_of m.structs f) ≡ f.parameters
arity_at m checked i f here =
    let stated = each_of (IsStatedFunction m.structs) m.functions checked.stated.functions i f here in
    arity_is m.structs f stated.parameters
    (omega (arith, stated.parameters, few_variables m f.variables (all_typed m i f checked here), (known_function m i f checked here).components))

items_are : (m : Module) → IsChecked m → items_of (syntax_of m) ≡ items_read m
items_are m checked =
    ap₂ (λ ss xs. record { structs = ss; arrays = map (λ (a : ArrayText). a.name) xs; functions = map (λ (h : FunctionText). h.name) (function_heads (syntax_of m)); arities = map arity (function_heads (syntax_of m)) }) (structs_are m) (array_texts_are m)
    ∙ ap (λ hs. record { structs = map struct_of m.structs; arrays = map (λ (a : ArrayText). a.name) (map array_of m.arrays); functions = map (λ (h : FunctionText). h.name) hs; arities = map arity hs }) (heads_are m)
    ∙ ap₂ (λ xs fs. record { structs = map struct_of m.structs; arrays = xs; functions = fs; arities = map arity (map (head_of m.structs) m.functions) }) (map-map (λ (a : ArrayText). a.name) array_of m.arrays) (map-map (λ (h : FunctionText). h.name) (head_of m.structs) m.functions)
    ∙ ap (λ ns. record { structs = map struct_of m.structs; arrays = map (λ (a : Array). a.name) m.arrays; functions = map (λ (f : Function). f.name) m.functions; arities = ns }) (arities m.structs m.functions (arity_at m checked))

-- ---- modules

pub numbered : (m : Module) → IsChecked m → module_of (syntax_of m) ≡ m
unfolding module_of
numbered m checked =
    let structs : map struct_read (structs_in (syntax_of m)) ≡ m.structs = ap (map struct_read) (structs_are m) ∙ structs_read m.structs in
    let arrays : map array_read (arrays_in (syntax_of m)) ≡ m.arrays = ap (map array_read) (arrays_are m) ∙ arrays_read m.arrays checked.stated.arrays in
    let functions : map (function_of (items_of (syntax_of m))) (functions_in (syntax_of m)) ≡ m.functions =
    ap₂ (λ items fs. map (function_of items) fs) (items_are m checked) (functions_are m)
    ∙ functions_read m (1 + length m.structs + length m.arrays) m.functions (λ i f at line. function_is_read m i f checked at line) in
    ap₂ (λ ss xs. record { structs = ss; arrays = xs; functions = map (function_of (items_of (syntax_of m))) (functions_in (syntax_of m)) }) structs arrays
    ∙ ap (λ fs. record { structs = m.structs; arrays = m.arrays; functions = fs }) functions
