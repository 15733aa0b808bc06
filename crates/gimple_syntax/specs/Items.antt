-- The module that the items of a text make: structs, then arrays, then functions, each sort in the order of the text.
use Rattle.std.specs.Prelude.{ℕ, List, [], ◌++◌, length, map, Option, Some, None, min}
use Rattle.std.specs.List.{filter_map}
use Rattle.std.specs.Option.{option_map}
use Rattle.gimple_ir.specs.declared.types.Linkage.{Linkage}
use Rattle.gimple_ir.specs.declared.types.Linkage.TheVariants.{Extern}
use Rattle.gimple_ir.specs.declared.types.StructDef.{StructDef}
use Rattle.gimple_ir.specs.declared.types.Field.{Field}
use Rattle.gimple_ir.specs.declared.types.Array.{Array}
use Rattle.gimple_ir.specs.declared.types.Function.{Function}
use Rattle.gimple_ir.specs.declared.types.Module.{Module}
use Rattle.gimple_grammar.specs.declared.syntax.Declared.{Declared}
use Rattle.gimple_grammar.specs.declared.syntax.FieldText.{FieldText}
use Rattle.gimple_grammar.specs.declared.syntax.StructText.{StructText}
use Rattle.gimple_grammar.specs.declared.syntax.ArrayText.{ArrayText}
use Rattle.gimple_grammar.specs.declared.syntax.FunctionText.{FunctionText}
use Rattle.gimple_grammar.specs.declared.syntax.Parameters.{Parameters}
use Rattle.gimple_grammar.specs.declared.syntax.Parameters.TheVariants as parameters
use Rattle.gimple_grammar.specs.declared.syntax.Body.{Body}
use Rattle.gimple_grammar.specs.declared.syntax.Item.{Item}
use Rattle.gimple_grammar.specs.declared.syntax.Item.TheVariants as item
use Rattle.gimple_grammar.specs.declared.syntax.ItemLine.{ItemLine}
use Rattle.gimple_grammar.specs.Streams.{no_body}
use Rattle.gimple_syntax.specs.Numbers.{nothing, element_of, shortened}
use Rattle.gimple_syntax.specs.Places.{Names, variable_of}
use Rattle.gimple_syntax.specs.Statements.{label_names, statements_from}

-- ---- items by sort

abbrev pub struct_in : Item → Option StructText
struct_in (item.Struct s) = Some s
struct_in _ = None

-- an array with its linkage
pub record LinkedArray : Type 0 where
  pub linkage : Linkage
  pub text : ArrayText

abbrev pub array_in : Item → Option LinkedArray
array_in (item.ExternArray a) = Some (record { linkage = Extern; text = a })
array_in (item.Array linkage a) = Some (record { linkage = linkage; text = a })
array_in _ = None

-- a function with its linkage; a declaration has an empty body
pub record LinkedFunction : Type 0 where
  pub linkage : Linkage
  pub head : FunctionText
  pub body : Body

abbrev pub function_in : Item → Option LinkedFunction
function_in (item.ExternFunction f) = Some (record { linkage = Extern; head = f; body = no_body })
function_in (item.Function linkage f body) = Some (record { linkage = linkage; head = f; body = body })
function_in _ = None

abbrev pub structs_in : List ItemLine → List StructText
structs_in items = filter_map (λ i. struct_in i.item) items

abbrev pub arrays_in : List ItemLine → List LinkedArray
arrays_in items = filter_map (λ i. array_in i.item) items

abbrev pub functions_in : List ItemLine → List LinkedFunction
functions_in items = filter_map (λ i. function_in i.item) items

-- ---- structs and arrays

abbrev pub field_of : FieldText → Field
field_of f = record { name = f.name; ty = f.ty }

abbrev pub struct_of : StructText → StructDef
struct_of s = record { name = s.name; fields = map field_of s.fields }

abbrev pub array_of : LinkedArray → Array
array_of a =
    record {
      name = a.text.name;
      linkage = a.linkage;
      element = a.text.element;
      length = a.text.length;
      initial = shortened (map (element_of a.text.element) a.text.initial);
    }

-- ---- functions

abbrev pub parameters_of : Parameters → List Declared
parameters_of parameters.None = []
parameters_of parameters.Void = []
parameters_of (parameters.Some ps) = ps

abbrev pub arity : FunctionText → ℕ
arity head = min (length (parameters_of head.parameters)) nothing

-- the head of each sort of item
abbrev pub array_text : Item → Option ArrayText
array_text i = option_map (λ a. a.text) (array_in i)

abbrev pub function_head : Item → Option FunctionText
function_head i = option_map (λ f. f.head) (function_in i)

abbrev pub function_heads : List ItemLine → List FunctionText
function_heads items = filter_map (λ i. function_head i.item) items

-- the names of the items of a module
pub record Items : Type 0 where
  pub structs : List StructText
  pub arrays : List (List ℕ)
  pub functions : List (List ℕ)
  pub arities : List ℕ

abbrev pub items_of : List ItemLine → Items
items_of items =
    record {
      structs = structs_in items;
      arrays = map (λ a. a.name) (filter_map (λ i. array_text i.item) items);
      functions = map (λ f. f.name) (function_heads items);
      arities = map arity (function_heads items);
    }

abbrev pub names_of : Items → List Declared → List (List ℕ) → Names
names_of items variables labels =
    record {
      structs = items.structs;
      variables = variables;
      labels = labels;
      arrays = items.arrays;
      functions = items.functions;
      arities = items.arities;
    }

unfoldable pub function_of : Items → LinkedFunction → Function
function_of items f =
    let variables = parameters_of f.head.parameters ++ f.body.locals in
    let labels = label_names f.body.lines in
    record {
      name = f.head.name;
      linkage = f.linkage;
      result = f.head.result;
      parameters = arity f.head;
      variables = map (variable_of items.structs) variables;
      labels = labels;
      body = statements_from (names_of items variables labels) f.head.result 0 f.body.lines;
    }

-- ---- modules

unfoldable pub module_of : List ItemLine → Module
module_of items =
    record {
      structs = map struct_of (structs_in items);
      arrays = map array_of (arrays_in items);
      functions = map (function_of (items_of items)) (functions_in items);
    }
