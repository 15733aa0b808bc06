-- The items of a module's syntax, by sort.
use Rattle.std.proofs.Common.{◌≡◌, ◌+◌, ℕ, List, [], ◌∷◌, ◌++◌, length, map, refl, ap, ap₂, ◌∙◌}
use Rattle.std.specs.Prelude.{Option, Some, None}
use Rattle.std.specs.List.{filter_map, cons_option}
use Rattle.std.proofs.lemmas.List.Elements.{filter_map-append}
use Rattle.std.proofs.lemmas.List.{append-nil}
use Rattle.gimple_ir.specs.declared.types.Linkage.{Linkage}
use Rattle.gimple_ir.specs.declared.types.Linkage.TheVariants.{Extern, Strong, Weak, Static}
use Rattle.gimple_ir.specs.declared.types.StructDef.{StructDef}
use Rattle.gimple_ir.specs.declared.types.Array.{Array}
use Rattle.gimple_ir.specs.declared.types.Function.{Function}
use Rattle.gimple_ir.specs.declared.types.Module.{Module}
use Rattle.gimple_grammar.specs.Streams.{no_body}
use Rattle.gimple_grammar.specs.declared.syntax.ArrayText.{ArrayText}
use Rattle.gimple_grammar.specs.declared.syntax.FunctionText.{FunctionText}
use Rattle.gimple_grammar.specs.declared.syntax.Body.{Body}
use Rattle.gimple_grammar.specs.declared.syntax.Item.{Item}
use Rattle.gimple_grammar.specs.declared.syntax.Item.TheVariants as item
use Rattle.gimple_syntax.specs.Items.{struct_in, array_in, array_text, function_in, function_head, structs_in, arrays_in, functions_in, function_heads, LinkedArray, LinkedFunction}
use Rattle.text_laws.specs.Syntax.{struct_of, array_of, head_of, body_of, array_item, function_by, function_item, height_of, structs_from, arrays_from, functions_from, syntax_of}

-- ---- what a search gives of the items

some_of : {X Y : Type 0} (f : X → Y) (xs : List X) → filter_map (λ x. Some (f x)) xs ≡ map f xs
some_of f [] = refl
some_of f (x ∷ xs) = ap (λ ys. f x ∷ ys) (some_of f xs)

none_of : {X Y : Type 0} (xs : List X) → filter_map {X = X} {Y = Y} (λ x. None) xs ≡ []
none_of [] = refl
none_of (x ∷ xs) = none_of xs

of_structs : {Y : Type 0} (h : Item → Option Y) (g : StructDef → Option Y) (line : ℕ) (ss : List StructDef)
    → ((s : StructDef) → h (item.Struct (struct_of s)) ≡ g s) → filter_map (λ i. h i.item) (structs_from line ss) ≡ filter_map g ss
of_structs h g line [] e = refl
of_structs h g line (s ∷ ss) e = ap₂ cons_option (e s) (of_structs h g (line + 1) ss e)

of_arrays : {Y : Type 0} (h : Item → Option Y) (g : Array → Option Y) (line : ℕ) (arrays : List Array)
    → ((a : Array) → h (array_item a.linkage (array_of a)) ≡ g a) → filter_map (λ i. h i.item) (arrays_from line arrays) ≡ filter_map g arrays
of_arrays h g line [] e = refl
of_arrays h g line (a ∷ arrays) e = ap₂ cons_option (e a) (of_arrays h g (line + 1) arrays e)

of_functions : {Y : Type 0} (h : Item → Option Y) (g : Function → Option Y) (m : Module) (line : ℕ) (fs : List Function)
    → ((line : ℕ) (f : Function) → h (function_item m line f) ≡ g f) → filter_map (λ i. h i.item) (functions_from m line fs) ≡ filter_map g fs
of_functions h g m line [] e = refl
of_functions h g m line (f ∷ fs) e = ap₂ cons_option (e line f) (of_functions h g m (line + height_of f) fs e)

of_syntax : {Y : Type 0} (h : Item → Option Y) (m : Module) (xs ys zs : List Y)
    → filter_map (λ i. h i.item) (structs_from 1 m.structs) ≡ xs → filter_map (λ i. h i.item) (arrays_from (1 + length m.structs) m.arrays) ≡ ys
    → filter_map (λ i. h i.item) (functions_from m (1 + length m.structs + length m.arrays) m.functions) ≡ zs
    → filter_map (λ i. h i.item) (syntax_of m) ≡ xs ++ (ys ++ zs)
of_syntax h m xs ys zs a b c =
    let arrays = arrays_from (1 + length m.structs) m.arrays in
    let functions = functions_from m (1 + length m.structs + length m.arrays) m.functions in
    filter_map-append (λ i. h i.item) (structs_from 1 m.structs) (arrays ++ functions)
    ∙ ap₂ (λ us vs. us ++ vs) a (filter_map-append (λ i. h i.item) arrays functions ∙ ap₂ (λ us vs. us ++ vs) b c)

-- what does not depend on the linkage
of_array : {Y : Type 0} (h : Item → Y) (y : Y) (a : ArrayText) → h (item.ExternArray a) ≡ y → ((linkage : Linkage) → h (item.Array linkage a) ≡ y)
    → (linkage : Linkage) → h (array_item linkage a) ≡ y
of_array h y a e each Extern = e
of_array h y a e each Strong = each Strong
of_array h y a e each Weak = each Weak
of_array h y a e each Static = each Static

of_function : {Y : Type 0} (h : Item → Y) (y : Y) (head : FunctionText) (body : Body) → h (item.ExternFunction head) ≡ y
    → ((linkage : Linkage) → h (item.Function linkage head body) ≡ y) → (linkage : Linkage) → h (function_by linkage head body) ≡ y
of_function h y head body e each Extern = e
of_function h y head body e each Strong = each Strong
of_function h y head body e each Weak = each Weak
of_function h y head body e each Static = each Static

-- ---- structs

pub structs_are : (m : Module) → structs_in (syntax_of m) ≡ map struct_of m.structs
structs_are m =
    of_syntax struct_in m (map struct_of m.structs) [] []
    (of_structs struct_in (λ s. Some (struct_of s)) 1 m.structs (λ s. refl) ∙ some_of struct_of m.structs)
    (of_arrays struct_in (λ a. None) (1 + length m.structs) m.arrays (λ a. of_array struct_in None (array_of a) refl (λ linkage. refl) a.linkage) ∙ none_of m.arrays)
    (of_functions struct_in (λ f. None) m (1 + length m.structs + length m.arrays) m.functions (λ line f. of_function struct_in None (head_of m.structs f) (body_of m line f) refl (λ linkage. refl) f.linkage) ∙ none_of m.functions)
    ∙ append-nil (map struct_of m.structs)

-- ---- arrays

abbrev pub linked_array : Array → LinkedArray
linked_array a = record { linkage = a.linkage; text = array_of a }

array_is : (linkage : Linkage) (a : ArrayText) → array_in (array_item linkage a) ≡ Some (record { linkage = linkage; text = a })
array_is Extern a = refl
array_is Strong a = refl
array_is Weak a = refl
array_is Static a = refl

pub arrays_are : (m : Module) → arrays_in (syntax_of m) ≡ map linked_array m.arrays
arrays_are m =
    of_syntax array_in m [] (map linked_array m.arrays) []
    (of_structs array_in (λ s. None) 1 m.structs (λ s. refl) ∙ none_of m.structs)
    (of_arrays array_in (λ a. Some (linked_array a)) (1 + length m.structs) m.arrays (λ a. array_is a.linkage (array_of a)) ∙ some_of linked_array m.arrays)
    (of_functions array_in (λ f. None) m (1 + length m.structs + length m.arrays) m.functions (λ line f. of_function array_in None (head_of m.structs f) (body_of m line f) refl (λ linkage. refl) f.linkage) ∙ none_of m.functions)
    ∙ append-nil (map linked_array m.arrays)

pub array_texts_are : (m : Module) → filter_map (λ i. array_text i.item) (syntax_of m) ≡ map array_of m.arrays
array_texts_are m =
    of_syntax array_text m [] (map array_of m.arrays) []
    (of_structs array_text (λ s. None) 1 m.structs (λ s. refl) ∙ none_of m.structs)
    (of_arrays array_text (λ a. Some (array_of a)) (1 + length m.structs) m.arrays (λ a. of_array array_text (Some (array_of a)) (array_of a) refl (λ linkage. refl) a.linkage) ∙ some_of array_of m.arrays)
    (of_functions array_text (λ f. None) m (1 + length m.structs + length m.arrays) m.functions (λ line f. of_function array_text None (head_of m.structs f) (body_of m line f) refl (λ linkage. refl) f.linkage) ∙ none_of m.functions)
    ∙ append-nil (map array_of m.arrays)

-- ---- functions

pub heads_are : (m : Module) → function_heads (syntax_of m) ≡ map (head_of m.structs) m.functions
heads_are m =
    of_syntax function_head m [] [] (map (head_of m.structs) m.functions)
    (of_structs function_head (λ s. None) 1 m.structs (λ s. refl) ∙ none_of m.structs)
    (of_arrays function_head (λ a. None) (1 + length m.structs) m.arrays (λ a. of_array function_head None (array_of a) refl (λ linkage. refl) a.linkage) ∙ none_of m.arrays)
    (of_functions function_head (λ f. Some (head_of m.structs f)) m (1 + length m.structs + length m.arrays) m.functions (λ line f. of_function function_head (Some (head_of m.structs f)) (head_of m.structs f) (body_of m line f) refl (λ linkage. refl) f.linkage) ∙ some_of (head_of m.structs) m.functions)

-- a declaration has no body
abbrev pub body_by : Linkage → Body → Body
body_by Extern body = no_body
body_by linkage body = body

abbrev pub linked_function : Module → ℕ → Function → LinkedFunction
linked_function m line f = record { linkage = f.linkage; head = head_of m.structs f; body = body_by f.linkage (body_of m line f) }

pub function_is : (linkage : Linkage) (head : FunctionText) (body : Body)
    → function_in (function_by linkage head body) ≡ Some (record { linkage = linkage; head = head; body = body_by linkage body })
function_is Extern head body = refl
function_is Strong head body = refl
function_is Weak head body = refl
function_is Static head body = refl

-- the functions stand behind the structs and arrays
pub functions_are : (m : Module) → functions_in (syntax_of m) ≡ functions_in (functions_from m (1 + length m.structs + length m.arrays) m.functions)
functions_are m =
    of_syntax function_in m [] [] (functions_in (functions_from m (1 + length m.structs + length m.arrays) m.functions))
    (of_structs function_in (λ s. None) 1 m.structs (λ s. refl) ∙ none_of m.structs)
    (of_arrays function_in (λ a. None) (1 + length m.structs) m.arrays (λ a. of_array function_in None (array_of a) refl (λ linkage. refl) a.linkage) ∙ none_of m.arrays)
    refl
