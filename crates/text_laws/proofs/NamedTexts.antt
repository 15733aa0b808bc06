-- Where the grammar spells a name with identifiers alone, the name is an identifier.
use Rattle.std.proofs.Common.{◌≡◌, ℕ, Bool, true, false, List, [], ◌∷◌, ◌++◌, refl}
use Rattle.std.specs.Prelude.{All, IfSome}
use Rattle.std.proofs.lemmas.List.Elements.{All-nil, All-cons}
use Rattle.gimple_ir.specs.declared.types.ElementType.{ElementType}
use Rattle.gimple_ir.specs.declared.types.ElementType.TheVariants as elements
use Rattle.gimple_ir.specs.declared.types.ResultType.{ResultType}
use Rattle.gimple_ir.specs.declared.types.ResultType.TheVariants as results
use Rattle.gimple_ir.specs.declared.types.ScalarType.{ScalarType}
use Rattle.gimple_ir.specs.declared.types.ScalarType.TheVariants as scalars
use Rattle.gimple_ir.specs.declared.types.Linkage.{Linkage}
use Rattle.gimple_ir.specs.declared.types.Linkage.TheVariants as linkages
use Rattle.gimple_ir.specs.Programs.{IsIdentifier}
use Rattle.gimple_ir.specs.Checks.{is_extern}
use Rattle.gimple_tokens.specs.declared.token.Mark.TheVariants.{Semicolon, OpenRound, OpenSquare, OpenCurly, CloseCurly}
use Rattle.gimple_tokens.specs.Tokens.{Sign, End, tokens_of}
use Rattle.gimple_grammar.specs.Grammar.{Expected, Only, spellings, chain_spelling}
use Rattle.gimple_grammar.specs.Pieces.{name, scalar, int_or_long, variable}
use Rattle.gimple_grammar.specs.Statements.{form, tail, statement, statements}
use Rattle.gimple_grammar.specs.Items.{field_text, fields, struct_text, headed, void_head, char_head, bracket, unsigned_head, head, array_rest, parameter, parameters, local, body, function_rest, defined, extern_rest, external, item, item_line, module_text}
use Rattle.gimple_grammar.specs.Texts.{Spells}
use Rattle.gimple_grammar.specs.declared.syntax.«Type».{«Type» as TheType}
use Rattle.gimple_grammar.specs.declared.syntax.«Type».TheVariants as types
use Rattle.gimple_grammar.specs.declared.syntax.Literal.{Literal}
use Rattle.gimple_grammar.specs.declared.syntax.Declared.{Declared}
use Rattle.gimple_grammar.specs.declared.syntax.FieldText.{FieldText}
use Rattle.gimple_grammar.specs.declared.syntax.StructText.{StructText}
use Rattle.gimple_grammar.specs.declared.syntax.ArrayText.{ArrayText}
use Rattle.gimple_grammar.specs.declared.syntax.FunctionText.{FunctionText}
use Rattle.gimple_grammar.specs.declared.syntax.Parameters.{Parameters}
use Rattle.gimple_grammar.specs.declared.syntax.Parameters.TheVariants as parameter_texts
use Rattle.gimple_grammar.specs.declared.syntax.Tail.TheVariants as tails
use Rattle.gimple_grammar.specs.declared.syntax.Form.{Form}
use Rattle.gimple_grammar.specs.declared.syntax.Form.TheVariants as forms
use Rattle.gimple_grammar.specs.declared.syntax.Line.{Line}
use Rattle.gimple_grammar.specs.declared.syntax.Body.{Body}
use Rattle.gimple_grammar.specs.declared.syntax.Item.{Item}
use Rattle.gimple_grammar.specs.declared.syntax.Item.TheVariants as items
use Rattle.gimple_grammar.specs.declared.syntax.ItemLine.{ItemLine}
use Rattle.gimple_syntax.specs.Statements.{label_name}
use Rattle.gimple_syntax.specs.Items.{parameters_of}
use Rattle.text_laws.proofs.NamedTokens.{AreNamed, tokens-named, begins-named, named-left, named-right, named-line, named-each}

-- ---- names and variables

name-is : (w : List ℕ) → AreNamed (name.spelling w) → IsIdentifier w
unfolding name
name-is w h = h.0

name-first : (w : List ℕ) (more : List Expected) → AreNamed (name.spelling w ++ more) → IsIdentifier w
name-first w more h = name-is w (named-left (name.spelling w) more h)

variable-by : (ty : TheType) (w : List ℕ) → AreNamed (variable.spelling (record { ty = ty; name = w })) → IsIdentifier w
unfolding variable
variable-by (types.Struct s) w h = name-is w (named-right (name.spelling s) (name.spelling w) h.1)
variable-by (types.Scalar t) w h = name-is w (named-right (scalar.spelling t) (name.spelling w) h)

abbrev pub HasIdentifier : Declared → Type 0
HasIdentifier d = IsIdentifier d.name

variable-is : (d : Declared) → AreNamed (variable.spelling d) → HasIdentifier d
variable-is d h = variable-by d.ty d.name h

-- ---- structs

abbrev pub IsNamedField : FieldText → Type 0
IsNamedField f = IsIdentifier f.name

pub record IsNamedStruct (s : StructText) : Type 0 where
  pub name : IsIdentifier s.name
  pub fields : All IsNamedField s.fields

field-is : (f : FieldText) → AreNamed (field_text.spelling f) → IsNamedField f
unfolding field_text
field-is f h = name-first f.name (Only (Sign Semicolon) ∷ []) (named-right (scalar.spelling f.ty) (name.spelling f.name ++ Only (Sign Semicolon) ∷ []) h)

fields-are : (fs : List FieldText) → AreNamed (fields.spelling fs) → All IsNamedField fs
unfolding fields
fields-are fs h = named-each field_text IsNamedField field-is fs (named-left (spellings field_text fs) (Only (Sign CloseCurly) ∷ []) h)

struct-is : (s : StructText) → AreNamed (struct_text.spelling s) → IsNamedStruct s
unfolding struct_text
struct-is s h =
    let first = name.spelling s.name ++ Only (Sign OpenCurly) ∷ [] in
    let second = fields.spelling s.fields ++ Only (Sign Semicolon) ∷ [] in
    record {
      name = name-first s.name (Only (Sign OpenCurly) ∷ []) (named-left first second h);
      fields = fields-are s.fields (named-left (fields.spelling s.fields) (Only (Sign Semicolon) ∷ []) (named-right first second h));
    }

-- ---- heads

headed-is : (t : ScalarType) (w : List ℕ) (b : Bool) → AreNamed (int_or_long.spelling t ++ (name.spelling w ++ bracket.spelling b)) → IsIdentifier w
headed-is t w b h = name-first w (bracket.spelling b) (named-right (int_or_long.spelling t) (name.spelling w ++ bracket.spelling b) h)

scalar-head : (t : ScalarType) (w : List ℕ) (b : Bool) → AreNamed (head.spelling (headed t w b)) → IsIdentifier w
unfolding head unsigned_head
scalar-head scalars.UnsignedInt w true h = name-first w (bracket.spelling true) h.1.1
scalar-head scalars.UnsignedInt w false h = name-first w (bracket.spelling false) h.1.1
scalar-head scalars.Int w true h = headed-is scalars.Int w true h
scalar-head scalars.Int w false h = headed-is scalars.Int w false h
scalar-head scalars.LongInt w true h = headed-is scalars.LongInt w true h
scalar-head scalars.LongInt w false h = headed-is scalars.LongInt w false h
scalar-head scalars.LongUnsignedInt w true h = headed-is scalars.LongUnsignedInt w true h
scalar-head scalars.LongUnsignedInt w false h = headed-is scalars.LongUnsignedInt w false h

void-head : (w : List ℕ) → AreNamed (head.spelling (void_head w)) → IsIdentifier w
unfolding head
void-head w h = name-first w (Only (Sign OpenRound) ∷ []) h.1

byte-head : (w : List ℕ) → AreNamed (head.spelling (char_head w)) → IsIdentifier w
unfolding head unsigned_head
byte-head w h = name-first w (Only (Sign OpenSquare) ∷ []) h.1.1

-- a head and what stands after it
scalar-split : (t : ScalarType) (w : List ℕ) (b : Bool) (more : List Expected) → AreNamed (head.spelling (headed t w b) ++ more) → IsIdentifier w × AreNamed more
scalar-split t w b more h = (scalar-head t w b (named-left (head.spelling (headed t w b)) more h), named-right (head.spelling (headed t w b)) more h)

void-split : (w : List ℕ) (more : List Expected) → AreNamed (head.spelling (void_head w) ++ more) → IsIdentifier w × AreNamed more
void-split w more h = (void-head w (named-left (head.spelling (void_head w)) more h), named-right (head.spelling (void_head w)) more h)

byte-split : (w : List ℕ) (more : List Expected) → AreNamed (head.spelling (char_head w) ++ more) → IsIdentifier w × AreNamed more
byte-split w more h = (byte-head w (named-left (head.spelling (char_head w)) more h), named-right (head.spelling (char_head w)) more h)

-- ---- parameters and bodies

parameter-is : (d : Declared) (b : Bool) → AreNamed (parameter.spelling (d, b)) → HasIdentifier d
unfolding parameter
parameter-is d b h = variable-is d (named-left (variable.spelling d) _ h)

chain-are : (ps : List Declared) → AreNamed (chain_spelling parameter ps) → All HasIdentifier ps
chain-are [] h = absurd h
chain-are (d ∷ []) h = All-cons HasIdentifier d [] (parameter-is d false h) (All-nil HasIdentifier)
chain-are (d ∷ (e ∷ more)) h =
    let rest = chain_spelling parameter (e ∷ more) in
    All-cons HasIdentifier d (e ∷ more) (parameter-is d true (named-left (parameter.spelling (d, true)) rest h)) (chain-are (e ∷ more) (named-right (parameter.spelling (d, true)) rest h))

parameters-are : (p : Parameters) → AreNamed (parameters.spelling p) → All HasIdentifier (parameters_of p)
unfolding parameters
parameters-are parameter_texts.None h = All-nil HasIdentifier
parameters-are parameter_texts.Void h = All-nil HasIdentifier
parameters-are (parameter_texts.Some ps) h = chain-are ps h

local-is : (d : Declared) → AreNamed (local.spelling d) → HasIdentifier d
unfolding local
local-is d h = variable-is d (named-left (variable.spelling d) (Only (Sign Semicolon) ∷ []) h)

-- a label has an identifier for its name
abbrev pub IsNamedLine : Line → Type 0
IsNamedLine l = IfSome (label_name l.form) IsIdentifier

form-is : (f : Form) → AreNamed (form.spelling f) → IfSome (label_name f) IsIdentifier
unfolding form
form-is forms.Empty h = tt
form-is (forms.Goto w) h = tt
form-is (forms.If c) h = tt
form-is (forms.Switch c) h = tt
form-is (forms.Return a) h = tt
form-is (forms.Named w tails.Label) h = name-first w (tail.spelling tails.Label) h
form-is (forms.Named w (tails.Call args)) h = tt
form-is (forms.Named w (tails.Store a b)) h = tt
form-is (forms.Named w (tails.Assign r)) h = tt
form-is (forms.Named w (tails.AssignField f r)) h = tt

line-is : (l : Line) → AreNamed (statement.spelling l) → IsNamedLine l
unfolding statement
line-is l h = form-is l.form (named-line l.line (form.spelling l.form) h)

statements-are : (ls : List Line) → AreNamed (statements.spelling ls) → All IsNamedLine ls
unfolding statements
statements-are ls h = named-each statement IsNamedLine line-is ls (named-left (spellings statement ls) (Only (Sign CloseCurly) ∷ []) h)

pub record IsNamedBody (b : Body) : Type 0 where
  pub locals : All HasIdentifier b.locals
  pub lines : All IsNamedLine b.lines

body-is : (b : Body) → AreNamed (body.spelling b) → IsNamedBody b
unfolding body
body-is b h = record {
  locals = named-each local HasIdentifier local-is b.locals (named-left (spellings local b.locals) (statements.spelling b.lines) h);
  lines = statements-are b.lines (named-right (spellings local b.locals) (statements.spelling b.lines) h);
}

-- ---- definitions and declarations

pub record IsNamedHead (f : FunctionText) : Type 0 where
  pub name : IsIdentifier f.name
  pub parameters : All HasIdentifier (parameters_of f.parameters)

pub record IsNamedExtern (a : ArrayText) : Type 0 where
  pub name : IsIdentifier a.name
  pub initial : a.initial ≡ []

extern-array : (e : ElementType) (w : List ℕ) (n : ℕ) (ls : List Literal) → AreNamed (external.spelling (items.ExternArray (record { element = e; name = w; length = n; initial = ls }))) → IsIdentifier w × (ls ≡ [])
unfolding external
extern-array (elements.Scalar t) w n [] h = ((scalar-split t w true ((extern_rest (headed t w true)).spelling n) h).0, refl)
extern-array elements.UnsignedChar w n [] h = ((byte-split w ((extern_rest (char_head w)).spelling n) h).0, refl)
extern-array e w n (l ∷ ls) h = absurd h

extern-array-is : (a : ArrayText) → AreNamed (external.spelling (items.ExternArray a)) → IsNamedExtern a
extern-array-is a h = let is = extern-array a.element a.name a.length a.initial h in record { name = is.0; initial = is.1 }

extern-function : (r : ResultType) (w : List ℕ) (p : Parameters) → AreNamed (external.spelling (items.ExternFunction (record { result = r; name = w; parameters = p }))) → IsIdentifier w × AreNamed (parameters.spelling p ++ Only (Sign Semicolon) ∷ [])
unfolding external
extern-function (results.Scalar t) w p h = scalar-split t w false (parameters.spelling p ++ Only (Sign Semicolon) ∷ []) h
extern-function results.Void w p h = void-split w (parameters.spelling p ++ Only (Sign Semicolon) ∷ []) h

extern-function-is : (f : FunctionText) → AreNamed (external.spelling (items.ExternFunction f)) → IsNamedHead f
extern-function-is f h =
    let is = extern-function f.result f.name f.parameters h in
    record { name = is.0; parameters = parameters-are f.parameters (named-left (parameters.spelling f.parameters) (Only (Sign Semicolon) ∷ []) is.1) }

-- ---- items

pub record IsNamedArray (l : Linkage) (a : ArrayText) : Type 0 where
  pub defined : is_extern l ≡ false
  pub name : IsIdentifier a.name

pub record IsNamedFunction (l : Linkage) (f : FunctionText) (b : Body) : Type 0 where
  pub defined : is_extern l ≡ false
  pub head : IsNamedHead f
  pub body : IsNamedBody b

abbrev pub IsNamedItem : Item → Type 0
IsNamedItem (items.Struct s) = IsNamedStruct s
IsNamedItem (items.ExternArray a) = IsNamedExtern a
IsNamedItem (items.ExternFunction f) = IsNamedHead f
IsNamedItem (items.Array l a) = IsNamedArray l a
IsNamedItem (items.Function l f b) = IsNamedFunction l f b

-- ---- definitions

strong-array : (e : ElementType) (w : List ℕ) (n : ℕ) (ls : List Literal) → AreNamed (item.spelling (items.Array linkages.Strong (record { element = e; name = w; length = n; initial = ls }))) → IsIdentifier w
unfolding item defined
strong-array (elements.Scalar t) w n ls h = (scalar-split t w true ((array_rest (elements.Scalar t)).spelling (n, ls)) h).0
strong-array elements.UnsignedChar w n ls h = (byte-split w ((array_rest elements.UnsignedChar).spelling (n, ls)) h).0

strong-function : (r : ResultType) (w : List ℕ) (p : Parameters) (b : Body) → AreNamed (item.spelling (items.Function linkages.Strong (record { result = r; name = w; parameters = p }) b)) → IsIdentifier w × AreNamed (function_rest.spelling (p, b))
unfolding item defined
strong-function (results.Scalar t) w p b h = scalar-split t w false (function_rest.spelling (p, b)) h
strong-function results.Void w p b h = void-split w (function_rest.spelling (p, b)) h

rest-is : (p : Parameters) (b : Body) → AreNamed (function_rest.spelling (p, b)) → All HasIdentifier (parameters_of p) × IsNamedBody b
unfolding function_rest
rest-is p b h =
    let first = parameters.spelling p ++ Only (Sign OpenCurly) ∷ [] in
    (parameters-are p (named-left (parameters.spelling p) (Only (Sign OpenCurly) ∷ []) (named-left first (body.spelling b) h)), body-is b (named-right first (body.spelling b) h))

array-by : (l : Linkage) (a : ArrayText) → is_extern l ≡ false → AreNamed (item.spelling (items.Array linkages.Strong a)) → IsNamedArray l a
array-by l a e h = record { defined = e; name = strong-array a.element a.name a.length a.initial h }

function-by : (l : Linkage) (f : FunctionText) (b : Body) → is_extern l ≡ false → AreNamed (item.spelling (items.Function linkages.Strong f b)) → IsNamedFunction l f b
function-by l f b e h =
    let is = strong-function f.result f.name f.parameters b h in
    let rest = rest-is f.parameters b is.1 in
    record { defined = e; head = record { name = is.0; parameters = rest.0 }; body = rest.1 }

item-is : (i : Item) → AreNamed (item.spelling i) → IsNamedItem i
unfolding item
item-is (items.Struct s) h = struct-is s h.1
item-is (items.ExternArray a) h = extern-array-is a h.1
item-is (items.ExternFunction f) h = extern-function-is f h.1
item-is (items.Array linkages.Extern a) h = absurd h
item-is (items.Array linkages.Strong a) h = array-by linkages.Strong a refl h
item-is (items.Array linkages.Weak a) h = array-by linkages.Weak a refl h.1
item-is (items.Array linkages.Static a) h = array-by linkages.Static a refl h.1
item-is (items.Function linkages.Extern f b) h = absurd h
item-is (items.Function linkages.Strong f b) h = function-by linkages.Strong f b refl h
item-is (items.Function linkages.Weak f b) h = function-by linkages.Weak f b refl h.1
item-is (items.Function linkages.Static f b) h = function-by linkages.Static f b refl h.1

abbrev pub IsNamedItemLine : ItemLine → Type 0
IsNamedItemLine i = IsNamedItem i.item

item-line-is : (i : ItemLine) → AreNamed (item_line.spelling i) → IsNamedItemLine i
unfolding item_line
item-line-is i h = item-is i.item (named-line i.line (item.spelling i.item) h)

items-are : (is : List ItemLine) → AreNamed (module_text.spelling is) → All IsNamedItemLine is
unfolding module_text
items-are is h = named-each item_line IsNamedItemLine item-line-is is (named-left (spellings item_line is) (Only End ∷ []) h)

pub items-named : (text : List ℕ) (is : List ItemLine) → Spells (tokens_of text) is → All IsNamedItemLine is
items-named text is s = items-are is (begins-named (module_text.spelling is) (tokens_of text) [] s (tokens-named text))
