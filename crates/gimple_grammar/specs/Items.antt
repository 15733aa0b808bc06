-- The grammar of a module's items, and of the whole text.
use Rattle.std.specs.Prelude.{ℕ, Bool, true, false, List, [], ◌∷◌, Option, Some, None, Result}
use Rattle.gimple_ir.specs.declared.types.ElementType.{ElementType}
use Rattle.gimple_ir.specs.declared.types.ElementType.TheVariants as elements
use Rattle.gimple_ir.specs.declared.types.ResultType.TheVariants as results
use Rattle.gimple_ir.specs.declared.types.ScalarType.{ScalarType}
use Rattle.gimple_ir.specs.declared.types.ScalarType.TheVariants as scalars
use Rattle.gimple_ir.specs.declared.types.Linkage.{Linkage}
use Rattle.gimple_ir.specs.declared.types.Linkage.TheVariants as linkages
use Rattle.gimple_tokens.specs.declared.token.Keyword.TheVariants as word
use Rattle.gimple_tokens.specs.declared.token.Mark.TheVariants.{Semicolon, Comma, Equals, OpenRound, CloseRound, OpenSquare, CloseSquare, OpenCurly, CloseCurly}
use Rattle.gimple_tokens.specs.declared.numbers.NumberPlace.TheVariants as places
use Rattle.gimple_tokens.specs.Tokens.{Word, Sign, End, Placed}
use Rattle.gimple_tokens.specs.Reading.{same}
use Rattle.gimple_tokens.specs.Stops.{Stuck}
use Rattle.gimple_grammar.specs.Grammar.{Grammar, ◌>>=◌, got, just, ◌▷◌, ◌◁◌, ◌then◌, then_by, only, choice, either, many, chain, located}
use Rattle.gimple_grammar.specs.Pieces.{name, array_length, literal, one_of, nil, nil_of, int_or_long, scalar, variable, no_type}
use Rattle.gimple_grammar.specs.Statements.{statements}
use Rattle.gimple_grammar.specs.declared.syntax.Literal.{Literal}
use Rattle.gimple_grammar.specs.declared.syntax.Declared.{Declared}
use Rattle.gimple_grammar.specs.declared.syntax.FieldText.{FieldText}
use Rattle.gimple_grammar.specs.declared.syntax.StructText.{StructText}
use Rattle.gimple_grammar.specs.declared.syntax.ArrayText.{ArrayText}
use Rattle.gimple_grammar.specs.declared.syntax.Parameters.{Parameters}
use Rattle.gimple_grammar.specs.declared.syntax.Parameters.TheVariants as parameter_texts
use Rattle.gimple_grammar.specs.declared.syntax.Line.{Line}
use Rattle.gimple_grammar.specs.declared.syntax.Body.{Body}
use Rattle.gimple_grammar.specs.declared.syntax.Item.{Item}
use Rattle.gimple_grammar.specs.declared.syntax.Item.TheVariants as items
use Rattle.gimple_grammar.specs.declared.syntax.ItemLine.{ItemLine}
use Rattle.gimple_grammar.specs.declared.parts.Head.{Head}
use Rattle.gimple_grammar.specs.declared.parts.Head.TheVariants as heads
use Rattle.gimple_grammar.specs.declared.parts.Defined.{Defined}
use Rattle.gimple_grammar.specs.declared.parts.Defined.TheVariants as defineds

-- ---- structs, after "struct"

abbrev pub field_made : ScalarType × List ℕ → FieldText
field_made x = record { ty = x.0; name = x.1 }

abbrev pub field_parts : FieldText → Option (ScalarType × List ℕ)
field_parts f = Some (f.ty, f.name)

-- scalar name ";"
unfoldable pub field_text : Grammar FieldText
field_text = only (scalar then name ◁ Sign Semicolon) field_made field_parts

-- { field_text } "}"
unfoldable pub fields : Grammar (List FieldText)
fields = many (same (Sign CloseCurly)) field_text ◁ Sign CloseCurly

abbrev pub struct_made : List ℕ × List FieldText → StructText
struct_made x = record { name = x.0; fields = x.1 }

abbrev pub struct_parts : StructText → Option (List ℕ × List FieldText)
struct_parts s = Some (s.name, s.fields)

-- name "{" fields ";"
unfoldable pub struct_text : Grammar StructText
struct_text = only (name ◁ Sign OpenCurly then fields ◁ Sign Semicolon) struct_made struct_parts

-- ---- the type and the name of an array or a function, and the bracket after them

-- the head of an array or a function whose type is scalar
abbrev pub headed : ScalarType → List ℕ → Bool → Head
headed t n true = heads.Array (elements.Scalar t) n
headed t n false = heads.Function (results.Scalar t) n

abbrev pub scalar_head : ScalarType × (List ℕ × Bool) → Head
scalar_head x = headed x.0 x.1.0 x.1.1

abbrev pub scalar_head_of : Head → Option (ScalarType × (List ℕ × Bool))
scalar_head_of (heads.Array (elements.Scalar t) n) = Some (t, (n, true))
scalar_head_of (heads.Function (results.Scalar t) n) = Some (t, (n, false))
scalar_head_of _ = None

abbrev pub unsigned_head_made : List ℕ × Bool → Head
unsigned_head_made x = headed scalars.UnsignedInt x.0 x.1

abbrev pub unsigned_head_of : Head → Option (List ℕ × Bool)
unsigned_head_of (heads.Array (elements.Scalar scalars.UnsignedInt) n) = Some (n, true)
unsigned_head_of (heads.Function (results.Scalar scalars.UnsignedInt) n) = Some (n, false)
unsigned_head_of _ = None

abbrev pub char_head : List ℕ → Head
char_head n = heads.Array elements.UnsignedChar n

abbrev pub char_head_of : Head → Option (List ℕ)
char_head_of (heads.Array elements.UnsignedChar n) = Some n
char_head_of _ = None

-- whether "[" comes; "(" must come else
unfoldable pub bracket : Grammar Bool
bracket = one_of (Sign OpenSquare) (Sign OpenRound)

-- "char" name "["  or  "int" name bracket, after "unsigned"
unfoldable pub unsigned_head : Grammar Head
unsigned_head =
    either (Word word.Char ▷ name ◁ Sign OpenSquare) char_head char_head_of (
    only (Word word.Int ▷ (name then bracket)) unsigned_head_made unsigned_head_of)

abbrev pub is_unsigned : Head → Bool
is_unsigned (heads.Array elements.UnsignedChar n) = true
is_unsigned (heads.Array (elements.Scalar scalars.UnsignedInt) n) = true
is_unsigned (heads.Function (results.Scalar scalars.UnsignedInt) n) = true
is_unsigned _ = false

abbrev pub void_head : List ℕ → Head
void_head n = heads.Function results.Void n

abbrev pub void_head_of : Head → Option (List ℕ)
void_head_of (heads.Function results.Void n) = Some n
void_head_of _ = None

-- "void" name "("  or  "unsigned" unsigned_head  or  int_or_long name bracket
unfoldable pub head : Grammar Head
head =
    either (Word word.Void ▷ name ◁ Sign OpenRound) void_head void_head_of (
    choice (Word word.Unsigned ▷ unsigned_head) is_unsigned (
    only (int_or_long then (name then bracket)) scalar_head scalar_head_of))

-- ---- after the bracket of an array

-- literal and what stands after it: "," or "}"
unfoldable pub initial : ElementType → Grammar (Literal × Bool)
initial element = literal (places.Initial element) then one_of (Sign Comma) (Sign CloseCurly)

-- ";"  or  "=" "{" literal { "," literal } "}" ";"
unfoldable pub initials : ElementType → Grammar (List Literal)
initials element =
    either (just (Sign Semicolon)) nil nil_of (Sign Equals ▷ Sign OpenCurly ▷ chain (initial element) ◁ Sign Semicolon)

-- number "]" initials
unfoldable pub array_rest : ElementType → Grammar (ℕ × List Literal)
array_rest element = array_length ◁ Sign CloseSquare then initials element

-- ---- after the bracket of a function

-- variable and what stands after it: "," or ")"
unfoldable pub parameter : Grammar (Declared × Bool)
parameter = variable then one_of (Sign Comma) (Sign CloseRound)

abbrev pub none_of : Parameters → Option (Unit {0})
none_of parameter_texts.None = Some tt
none_of _ = None

abbrev pub void_of : Parameters → Option (Unit {0})
void_of parameter_texts.Void = Some tt
void_of _ = None

abbrev pub some_of : Parameters → Option (List Declared)
some_of (parameter_texts.Some list) = Some list
some_of _ = None

-- ")"  or  "void" ")"  or  variable { "," variable } ")"
unfoldable pub parameters : Grammar Parameters
parameters =
    either (just (Sign CloseRound)) (λ x. parameter_texts.None) none_of (
    either (Word word.Void ▷ just (Sign CloseRound)) (λ x. parameter_texts.Void) void_of (
    only (chain parameter) parameter_texts.Some some_of))

-- variable ";"
unfoldable pub local : Grammar Declared
local = variable ◁ Sign Semicolon

abbrev pub body_made : List Declared × List Line → Body
body_made x = record { locals = x.0; lines = x.1 }

abbrev pub body_parts : Body → Option (List Declared × List Line)
body_parts b = Some (b.locals, b.lines)

-- { local } statements, after "{"
unfoldable pub body : Grammar Body
body = only (many no_type local then statements) body_made body_parts

-- parameters "{" body
unfoldable pub function_rest : Grammar (Parameters × Body)
function_rest = parameters ◁ Sign OpenCurly then body

-- ---- definitions

abbrev pub DefinedRest : Head → Type 0
DefinedRest (heads.Array e n) = ℕ × List Literal
DefinedRest (heads.Function r n) = Parameters × Body

abbrev pub defined_rest : (h : Head) → Grammar (DefinedRest h)
defined_rest (heads.Array e n) = array_rest e
defined_rest (heads.Function r n) = function_rest

abbrev pub defined_by : (h : Head) → DefinedRest h → Defined
defined_by (heads.Array e n) x = defineds.Array (record { element = e; name = n; length = x.0; initial = x.1 })
defined_by (heads.Function r n) x = defineds.Function (record { result = r; name = n; parameters = x.0 }) x.1

abbrev pub defined_made : (h : Head) × DefinedRest h → Defined
defined_made x = defined_by x.0 x.1

abbrev pub defined_parts : Defined → Option ((h : Head) × DefinedRest h)
defined_parts (defineds.Array a) = Some (heads.Array a.element a.name, (a.length, a.initial))
defined_parts (defineds.Function f b) = Some (heads.Function f.result f.name, (f.parameters, b))

-- head, and what its bracket asks for
unfoldable pub defined : Grammar Defined
defined = only (then_by head defined_rest) defined_made defined_parts

-- what is read after a head
abbrev pub defined_after : Head → List Placed → Result (Defined × List Placed) Stuck
defined_after h ts = (defined_rest h).read ts >>= λ x. got (defined_by h x.0) x.1

-- ---- declarations, after "extern"

abbrev pub ExternRest : Head → Type 0
ExternRest (heads.Array e n) = ℕ
ExternRest (heads.Function r n) = Parameters

-- number "]" ";"  or  parameters ";"
abbrev pub extern_rest : (h : Head) → Grammar (ExternRest h)
extern_rest (heads.Array e n) = array_length ◁ Sign CloseSquare ◁ Sign Semicolon
extern_rest (heads.Function r n) = parameters ◁ Sign Semicolon

abbrev pub extern_by : (h : Head) → ExternRest h → Item
extern_by (heads.Array e n) x = items.ExternArray (record { element = e; name = n; length = x; initial = [] })
extern_by (heads.Function r n) x = items.ExternFunction (record { result = r; name = n; parameters = x })

abbrev pub extern_made : (h : Head) × ExternRest h → Item
extern_made x = extern_by x.0 x.1

abbrev pub extern_array : ArrayText → List Literal → Option ((h : Head) × ExternRest h)
extern_array a [] = Some (heads.Array a.element a.name, a.length)
extern_array a (l ∷ ls) = None

abbrev pub extern_parts : Item → Option ((h : Head) × ExternRest h)
extern_parts (items.ExternArray a) = extern_array a a.initial
extern_parts (items.ExternFunction f) = Some (heads.Function f.result f.name, f.parameters)
extern_parts _ = None

-- what is read after a head
abbrev pub extern_after : Head → List Placed → Result (Item × List Placed) Stuck
extern_after h ts = (extern_rest h).read ts >>= λ x. got (extern_by h x.0) x.1

-- head, and what its bracket asks for
unfoldable pub external : Grammar Item
external = only (then_by head extern_rest) extern_made extern_parts

-- ---- items

abbrev pub struct_of : Item → Option StructText
struct_of (items.Struct s) = Some s
struct_of _ = None

abbrev pub is_extern : Item → Bool
is_extern (items.ExternArray a) = true
is_extern (items.ExternFunction f) = true
is_extern _ = false

abbrev pub same_linkage : Linkage → Linkage → Bool
same_linkage linkages.Strong linkages.Strong = true
same_linkage linkages.Weak linkages.Weak = true
same_linkage linkages.Static linkages.Static = true
same_linkage _ _ = false

abbrev pub with_linkage : Linkage → Defined → Item
with_linkage l (defineds.Array a) = items.Array l a
with_linkage l (defineds.Function f b) = items.Function l f b

abbrev pub if_some : {A : Type 0} → Bool → A → Option A
if_some true x = Some x
if_some false x = None

-- the definition of an item that has this linkage
abbrev pub linked_of : Linkage → Item → Option Defined
linked_of l (items.Array k a) = if_some (same_linkage l k) (defineds.Array a)
linked_of l (items.Function k f b) = if_some (same_linkage l k) (defineds.Function f b)
linked_of l _ = None

-- "struct" struct_text  or  "extern" external  or  [ "static"  or  "weak" ] defined
unfoldable pub item : Grammar Item
item =
    either (Word word.Struct ▷ struct_text) items.Struct struct_of (
    choice (Word word.Extern ▷ external) is_extern (
    either (Word word.Static ▷ defined) (with_linkage linkages.Static) (linked_of linkages.Static) (
    either (Word word.Weak ▷ defined) (with_linkage linkages.Weak) (linked_of linkages.Weak) (
    only defined (with_linkage linkages.Strong) (linked_of linkages.Strong)))))

abbrev pub item_made : ℕ × Item → ItemLine
item_made x = record { line = x.0; item = x.1 }

abbrev pub item_parts : ItemLine → Option (ℕ × Item)
item_parts l = Some (l.line, l.item)

-- an item and its line
unfoldable pub item_line : Grammar ItemLine
item_line = only (located item) item_made item_parts

-- the items up to the end
unfoldable pub module_text : Grammar (List ItemLine)
module_text = many (same End) item_line ◁ End
