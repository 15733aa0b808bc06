-- A text that spells a module makes a checked one: its names are identifiers, its values lie in range, its types agree.
use Rattle.std.proofs.Common.{◌≡◌, ℕ, ◌-◌, ◌<◌, ◌≤◌, ◌^◌, true, false, None, List, [], ◌++◌, length, length-append, map, min, refl, sym, subst, arith}
use Rattle.std.proofs.lemmas.List.{length-map}
use Rattle.std.specs.Prelude.{All, IfSome}
use Rattle.std.proofs.lemmas.List.Elements.{All-nil, All-append, All-map, All-weaker}
use Rattle.gimple_ir.specs.declared.types.Linkage.{Linkage}
use Rattle.gimple_ir.specs.declared.types.Linkage.TheVariants.{Extern}
use Rattle.gimple_ir.specs.declared.types.Function.{Function}
use Rattle.gimple_ir.specs.declared.types.Module.{Module}
use Rattle.gimple_ir.specs.Checks.{is_extern, fault_of}
use Rattle.gimple_ir.specs.Programs.{IsIdentifier, AgreesIn, IsStatedStruct, IsStatedArray, IsStatedFunction, IsStated, IsChecked}
use Rattle.gimple_tokens.specs.Tokens.{tokens_of}
use Rattle.gimple_grammar.specs.Streams.{no_body}
use Rattle.gimple_grammar.specs.Texts.{Spells}
use Rattle.gimple_grammar.specs.declared.syntax.«Type».{«Type» as TheType}
use Rattle.gimple_grammar.specs.declared.syntax.Declared.{Declared}
use Rattle.gimple_grammar.specs.declared.syntax.FunctionText.{FunctionText}
use Rattle.gimple_grammar.specs.declared.syntax.Line.{Line}
use Rattle.gimple_grammar.specs.declared.syntax.Body.{Body}
use Rattle.gimple_grammar.specs.declared.syntax.Item.{Item}
use Rattle.gimple_grammar.specs.declared.syntax.Item.TheVariants as item
use Rattle.gimple_grammar.specs.declared.syntax.ItemLine.{ItemLine}
use Rattle.gimple_syntax.specs.Numbers.{nothing}
use Rattle.gimple_syntax.specs.Places.{var_type, types_of, variable_of}
use Rattle.gimple_syntax.specs.Statements.{label_name, label_names, statements_from}
use Rattle.gimple_syntax.specs.Items.{LinkedFunction, struct_in, array_in, function_in, structs_in, arrays_in, functions_in, struct_of, array_of, parameters_of, items_of, names_of, function_of, module_of}
use Rattle.gimple_syntax.specs.Reading.{SpellsModule}
use Rattle.text_laws.proofs.NamedTexts.{HasIdentifier, IsNamedLine, IsNamedHead, IsNamedItem, IsNamedItemLine, items-named}
use Rattle.text_laws.proofs.StatedValues.{body-values}
use Rattle.text_laws.proofs.StatedCounts.{IsShortItem, items-few, items-short, sorts-few, structs-few, declared-length}
use Rattle.text_laws.proofs.StatedItems.{all-picked, struct-stated, array-stated, types-agree}

-- ---- structs and arrays

struct-at : (x : Item) → IsNamedItem x → IfSome (struct_in x) (λ s. IsStatedStruct (struct_of s))
struct-at (item.Struct s) h = struct-stated s h
struct-at (item.ExternArray a) h = tt
struct-at (item.ExternFunction f) h = tt
struct-at (item.Array l a) h = tt
struct-at (item.Function l f b) h = tt

structs-stated : (is : List ItemLine) → All IsNamedItemLine is → All IsStatedStruct (map struct_of (structs_in is))
structs-stated is h =
    All-map IsStatedStruct struct_of (structs_in is) (all-picked (λ i. struct_in i.item) IsNamedItemLine (λ s. IsStatedStruct (struct_of s)) (λ i n. struct-at i.item n) is h)

not-extern : (l : Linkage) (P : Type 0) → is_extern l ≡ false → is_extern l ≡ true → P
not-extern l P e h = absurd cc

array-at : (x : Item) → IsNamedItem x → IfSome (array_in x) (λ a. IsStatedArray (array_of a))
array-at (item.Struct s) h = tt
array-at (item.ExternArray a) h = array-stated Extern a h.name (λ e. h.initial)
array-at (item.ExternFunction f) h = tt
array-at (item.Array l a) h = array-stated l a h.name (not-extern l (a.initial ≡ []) h.defined)
array-at (item.Function l f b) h = tt

arrays-stated : (is : List ItemLine) → All IsNamedItemLine is → All IsStatedArray (map array_of (arrays_in is))
arrays-stated is h =
    All-map IsStatedArray array_of (arrays_in is) (all-picked (λ i. array_in i.item) IsNamedItemLine (λ a. IsStatedArray (array_of a)) (λ i n. array-at i.item n) is h)

-- ---- functions

-- every type of a variable agrees with the structs of the items
abbrev Agree : List ItemLine → Type 0
Agree is = (ty : TheType) → AgreesIn (map struct_of (structs_in is)) (var_type (structs_in is) ty) (types_of (structs_in is) ty)

abbrev IsMade : List ItemLine → LinkedFunction → Type 0
IsMade is f = IsStatedFunction (map struct_of (structs_in is)) (function_of (items_of is) f)

abbrev linked : Linkage → FunctionText → Body → LinkedFunction
linked l f b = record { linkage = l; head = f; body = b }

-- a declaration has its parameters alone
abbrev IsBare : Function → Type 0
IsBare f = (length f.variables ≡ f.parameters) × (f.labels ≡ []) × (f.body ≡ [])

abbrev bare-at : List ItemLine → FunctionText → Type 0
bare-at is f = IsBare (function_of (items_of is) (linked Extern f no_body))

least-is : (n k : ℕ) → n ≤ k → n ≡ min n k
least-is n k h = omega arith

least-le : (n k : ℕ) → min n k ≤ n
least-le n k = omega arith

bare : (is : List ItemLine) (f : FunctionText) → length (parameters_of f.parameters) ≤ nothing → bare-at is f
unfolding function_of statements_from
bare is f h =
    let ps = parameters_of f.parameters in
    let n = length ps in
    let most = least-is n nothing h in
    (omega (arith, length-map (ps ++ []) (variable_of (structs_in is)), length-append ps []), refl, refl)

abbrev IsVariable : List ItemLine → Declared → Type 0
IsVariable is d = IsIdentifier d.name × AgreesIn (map struct_of (structs_in is)) (var_type (structs_in is) d.ty) (types_of (structs_in is) d.ty)

variables-are : (is : List ItemLine) → Agree is → (ds : List Declared) → All HasIdentifier ds
    → All (λ v. IsIdentifier v.name × AgreesIn (map struct_of (structs_in is)) v.ty v.types) (map (variable_of (structs_in is)) ds)
variables-are is agree ds h =
    All-map (λ v. IsIdentifier v.name × AgreesIn (map struct_of (structs_in is)) v.ty v.types) (variable_of (structs_in is)) ds
    (All-weaker HasIdentifier (IsVariable is) (λ d n. (n, agree d.ty)) ds h)

labels-are : (ls : List Line) → All IsNamedLine ls → All IsIdentifier (label_names ls)
labels-are ls h = all-picked (λ l. label_name l.form) IsNamedLine IsIdentifier (λ l n. n) ls h

made : (is : List ItemLine) → Agree is → (l : Linkage) (f : FunctionText) (b : Body) → IsNamedHead f → All HasIdentifier b.locals → All IsNamedLine b.lines
    → (is_extern l ≡ true → IsBare (function_of (items_of is) (linked l f b))) → IsMade is (linked l f b)
unfolding function_of
made is agree l f b h locals lines declared =
    let ps = parameters_of f.parameters in
    let all = ps ++ b.locals in
    record {
      name = h.name;
      variables = variables-are is agree all (All-append HasIdentifier ps b.locals h.parameters locals);
      labels = labels-are b.lines lines;
      parameters = omega (arith, least-le (length ps) nothing, length-map all (variable_of (structs_in is)), length-append ps b.locals);
      values = body-values (names_of (items_of is) all (label_names b.lines)) f.result 0 b.lines;
      declared = declared;
    }

function-at : (is : List ItemLine) → Agree is → (line : ℕ) (x : Item) → IsNamedItem x → IsShortItem nothing (record { line = line; item = x }) → IfSome (function_in x) (IsMade is)
function-at is agree line (item.Struct s) h short = tt
function-at is agree line (item.ExternArray a) h short = tt
function-at is agree line (item.Array l a) h short = tt
function-at is agree line (item.ExternFunction f) h short =
    made is agree Extern f no_body h (All-nil HasIdentifier) (All-nil IsNamedLine) (λ e. bare is f (declared-length line f nothing short))
function-at is agree line (item.Function l f b) h short =
    made is agree l f b h.head h.body.locals h.body.lines (not-extern l (IsBare (function_of (items_of is) (linked l f b))) h.defined)

functions-stated : (is : List ItemLine) → Agree is → All IsNamedItemLine is → All (IsShortItem nothing) is → All (IsStatedFunction (map struct_of (structs_in is))) (map (function_of (items_of is)) (functions_in is))
functions-stated is agree named short =
    All-map (IsStatedFunction (map struct_of (structs_in is))) (function_of (items_of is)) (functions_in is)
    (all-picked (λ i. function_in i.item) (λ i. IsNamedItemLine i × IsShortItem nothing i) (IsMade is) (λ i n. function-at is agree i.line i.item n.0 n.1) is (λ k d lt. (named k d lt, short k d lt)))

-- ---- modules

structs-of : (is : List ItemLine) → (module_of is).structs ≡ map struct_of (structs_in is)
unfolding module_of
structs-of is = refl

stated-by : (is : List ItemLine) → Agree is → All IsNamedItemLine is → All (IsShortItem nothing) is → length is < 2 ^ 32 → IsStated (module_of is)
unfolding module_of
stated-by is agree named short few = record {
  structs = structs-stated is named;
  arrays = arrays-stated is named;
  functions = functions-stated is agree named short;
  items = omega (arith, sorts-few is, length-map (structs_in is) struct_of, length-map (arrays_in is) array_of, length-map (functions_in is) (function_of (items_of is)));
}

items-stated : (text : List ℕ) (is : List ItemLine) → length text < 2 ^ 32 - 1 → Spells (tokens_of text) is → fault_of (module_of is) ≡ None → IsStated (module_of is)
items-stated text is short spelled faultless =
    let named = items-named text is spelled in
    let few = items-few text is spelled in
    let agree = types-agree (module_of is) (structs_in is) (structs-of is) faultless (omega (arith, structs-few is)) in
    stated-by is agree named (items-short text is nothing spelled (omega arith)) (omega arith)

pub read_is_checked : (text : List ℕ) (m : Module) → length text < 2 ^ 32 - 1 → SpellsModule text m → IsChecked m
read_is_checked text m short s =
    let faultless = subst (λ (n : Module). fault_of n ≡ None) (sym s.numbered) s.faultless in
    record { stated = subst IsStated s.numbered (items-stated text s.items short s.spelled faultless); faultless = s.faultless }
