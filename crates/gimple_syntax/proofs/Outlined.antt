-- The outlines of items stand for the items, but for the bodies of functions.
use Rattle.std.proofs.Common.{◌≡◌, ◌+◌, ◌<◌, ◌^◌, List, [], ◌∷◌, ◌++◌, length, map, Option, Some, None, Result, Ok, Err, IfOk, refl, ap, sym, ◌∙◌, arith, inl, inr}
use Rattle.std.proofs.lemmas.List.{length-map}
use Rattle.std.specs.List.{filter_map, cons_option}
use Rattle.gimple_ir.specs.declared.types.Array.{Array}
use Rattle.gimple_ir.specs.declared.types.Function.{Function}
use Rattle.gimple_ir.specs.declared.types.Module.{Module}
use Rattle.gimple_ir.specs.declared.types.StructDef.{StructDef}
use Rattle.gimple_tokens.specs.Tokens.{Placed}
use Rattle.gimple_tokens.specs.Stops.{Stuck}
use Rattle.gimple_grammar.specs.declared.syntax.ArrayText.{ArrayText}
use Rattle.gimple_grammar.specs.declared.syntax.StructText.{StructText}
use Rattle.gimple_grammar.specs.declared.syntax.FunctionText.{FunctionText}
use Rattle.gimple_grammar.specs.declared.syntax.Item.{Item}
use Rattle.gimple_grammar.specs.declared.syntax.Item.TheVariants as item
use Rattle.gimple_grammar.specs.declared.syntax.ItemLine.{ItemLine}
use Rattle.gimple_ir.specs.declared.fault.TypeFault.{TypeFault}
use Rattle.gimple_ir.specs.Checks.{fault_of}
use Rattle.gimple_tokens.specs.Reading.{line_of}
use Rattle.gimple_grammar.specs.declared.text.SyntaxError.TheVariants as syntax_error
use Rattle.gimple_grammar.specs.declared.text.SyntaxFault.{SyntaxFault}
use Rattle.gimple_grammar.specs.Streams.{without_body}
use Rattle.gimple_grammar.specs.Texts.{Answer, GivesText}
use Rattle.gimple_syntax.specs.declared.text.TextFault.{TextFault}
use Rattle.gimple_syntax.specs.declared.text.TextError.{TextError}
use Rattle.gimple_syntax.specs.declared.text.TextError.TheVariants.{Fault, NoMemory}
use Rattle.gimple_syntax.specs.Items.{Items, struct_in, array_in, array_text, function_head, structs_in, arrays_in, functions_in, function_heads, struct_of, array_of, arity, function_of, items_of, module_of}
use Rattle.gimple_syntax.specs.Passes.{outlines_of, functions_from, read_as, GivesRead, GivesChecked}
use Rattle.gimple_syntax.specs.Reading.{checked, checked_by, check_fault, Finishes}
use Rattle.gimple_syntax.proofs.Texts.{length-module_of, checked-again}
use Rattle.gimple_syntax.proofs.PassLaws.{pair, first-is, rest-is}

-- ---- what outlines keep

keeps-struct : (x : Item) → struct_in (without_body x) ≡ struct_in x
keeps-struct (item.Struct s) = refl
keeps-struct (item.ExternArray a) = refl
keeps-struct (item.ExternFunction f) = refl
keeps-struct (item.Array linkage a) = refl
keeps-struct (item.Function linkage f body) = refl

keeps-array : (x : Item) → array_in (without_body x) ≡ array_in x
keeps-array (item.Struct s) = refl
keeps-array (item.ExternArray a) = refl
keeps-array (item.ExternFunction f) = refl
keeps-array (item.Array linkage a) = refl
keeps-array (item.Function linkage f body) = refl

keeps-head : (x : Item) → function_head (without_body x) ≡ function_head x
keeps-head (item.Struct s) = refl
keeps-head (item.ExternArray a) = refl
keeps-head (item.ExternFunction f) = refl
keeps-head (item.Array linkage a) = refl
keeps-head (item.Function linkage f body) = refl

-- what is picked from outlines is picked from the items
keeps : {B : Type 0} (h : Item → Option B) → ((x : Item) → h (without_body x) ≡ h x) → (items : List ItemLine)
    → filter_map (λ (i : ItemLine). h i.item) (outlines_of items) ≡ filter_map (λ (i : ItemLine). h i.item) items
keeps h e [] = refl
keeps {B = B} h e (i ∷ items) = ap (λ (o : Option B). cons_option o (filter_map (λ (j : ItemLine). h j.item) (outlines_of items))) (e i.item) ∙ ap (cons_option (h i.item)) (keeps h e items)

keeps-array_text : (x : Item) → array_text (without_body x) ≡ array_text x
keeps-array_text (item.Struct s) = refl
keeps-array_text (item.ExternArray a) = refl
keeps-array_text (item.ExternFunction f) = refl
keeps-array_text (item.Array linkage a) = refl
keeps-array_text (item.Function linkage f body) = refl

abbrev named : List StructText → List ArrayText → List FunctionText → Items
named structs arrays heads = record { structs = structs; arrays = map (λ (a : ArrayText). a.name) arrays; functions = map (λ (f : FunctionText). f.name) heads; arities = map arity heads }

abbrev arrays_named : List ItemLine → List ArrayText
arrays_named items = filter_map (λ (i : ItemLine). array_text i.item) items

pub items-are : (items : List ItemLine) → items_of (outlines_of items) ≡ items_of items
items-are items =
    ap (λ (ss : List StructText). named ss (arrays_named (outlines_of items)) (function_heads (outlines_of items))) (keeps struct_in keeps-struct items)
    ∙ ap (λ (texts : List ArrayText). named (structs_in items) texts (function_heads (outlines_of items))) (keeps array_text keeps-array_text items)
    ∙ ap (λ (heads : List FunctionText). named (structs_in items) (arrays_named items) heads) (keeps function_head keeps-head items)

-- ---- the module

abbrev parts_of : List StructDef → List Array → List Function → Module
parts_of structs arrays functions = record { structs = structs; arrays = arrays; functions = functions }

numbered-by : (items outlines : List ItemLine) (names : Items) (functions : List Function)
    → outlines ≡ outlines_of items → names ≡ items_of outlines → functions_from names items ≡ functions
    → module_of items ≡ parts_of (map struct_of (structs_in outlines)) (map array_of (arrays_in outlines)) functions
unfolding module_of
numbered-by items outlines names functions is known made =
    let all : names ≡ items_of items = known ∙ ap items_of is ∙ items-are items in
    let structs : map struct_of (structs_in items) ≡ map struct_of (structs_in outlines) =
    ap (map struct_of) (sym (keeps struct_in keeps-struct items)) ∙ ap (λ (os : List ItemLine). map struct_of (structs_in os)) (sym is) in
    let arrays : map array_of (arrays_in items) ≡ map array_of (arrays_in outlines) =
    ap (map array_of) (sym (keeps array_in keeps-array items)) ∙ ap (λ (os : List ItemLine). map array_of (arrays_in os)) (sym is) in
    let fs : functions_from (items_of items) items ≡ functions = ap (λ (n : Items). functions_from n items) (sym all) ∙ made in
    ap (λ (ss : List StructDef). parts_of ss (map array_of (arrays_in items)) (functions_from (items_of items) items)) structs
    ∙ ap (λ (xs : List Array). parts_of (map struct_of (structs_in outlines)) xs (functions_from (items_of items) items)) arrays
    ∙ ap (λ (xs : List Function). parts_of (map struct_of (structs_in outlines)) (map array_of (arrays_in outlines)) xs) fs

both-are : {A : Type 0} (x y : A) (ts us : List Placed) → x ≡ y → ts ≡ us → pair x ts ≡ pair y us
both-are {A = A} x y ts us e f = ap (λ (z : A). pair z ts) e ∙ ap (λ (vs : List Placed). pair y vs) f

-- the module of the outlines and the functions
pub numbered : (read : Result (List ItemLine × List Placed) Stuck) (outlines : List ItemLine) (names : Items) (functions : List Function)
    → ((items : List ItemLine) → read ≡ Ok (items, []) → outlines ≡ outlines_of items) → names ≡ items_of outlines → read_as (functions_from names) read ≡ Ok (functions, [])
    → read_as module_of read ≡ Ok (parts_of (map struct_of (structs_in outlines)) (map array_of (arrays_in outlines)) functions, [])
numbered (Ok x) outlines names functions o known f =
    let none : x.1 ≡ [] = rest-is (functions_from names x.0) functions x.1 [] f in
    let is : outlines ≡ outlines_of x.0 = o x.0 (ap (λ (ts : List Placed). pair x.0 ts) none) in
    both-are (module_of x.0) (parts_of (map struct_of (structs_in outlines)) (map array_of (arrays_in outlines)) functions) x.1 []
    (numbered-by x.0 outlines names functions is known (first-is (functions_from names x.0) functions x.1 [] f)) none
numbered (Err s) outlines names functions o known f = absurd (cc f)

abbrev stopped_at : {A : Type 0} → Stuck → Result A Stuck
stopped_at s = Err s

abbrev stuck_in : {A : Type 0} → Stuck → Result A Stuck → Stuck
stuck_in d (Ok x) = d
stuck_in d (Err s) = s

stuck-is : {A : Type 0} (s t : Stuck) → stopped_at {A = A} s ≡ Err t → s ≡ t
stuck-is s t e = ap (stuck_in s) e

-- a fault is that of the text, whatever was read of it
pub same-fault : {A B : Type 0} (f : List ItemLine → A) (g : List ItemLine → B) (e : TextError) (read : Result (List ItemLine × List Placed) Stuck)
    → GivesRead {A = A} (Err e) (read_as f read) → GivesRead {A = B} (Err e) (read_as g read)
same-fault f g NoMemory read h = tt
same-fault f g (Fault fault) (Ok x) h = absurd (let e = h.1 in cc e)
same-fault {B = B} f g (Fault fault) (Err s) h = (h.0, ap (stopped_at {A = B × List Placed}) (stuck-is s h.0 h.1), h.2, h.3)

-- ---- the checks

-- A module has as few items as its text.
pub few-items : (read : Result (List ItemLine × List Placed) Stuck) (m : Module)
    → ((answer : Answer) → GivesText answer read → IfOk answer (λ items. length items < 2 ^ 32))
    → read_as module_of read ≡ Ok (m, []) → length m.structs + length m.arrays + length m.functions < 2 ^ 32
few-items (Ok x) m few h =
    let count = length-module_of x.0 m (sym (first-is (module_of x.0) m x.1 [] h)) in
    let less : length x.0 < 2 ^ 32 = few (Ok x.0) (ap (λ (ts : List Placed). pair x.0 ts) (rest-is (module_of x.0) m x.1 [] h)) in
    omega (arith, count, less)
few-items (Err s) m few h = absurd (cc h)

-- a module without a fault
pub passes : (read : Result (List ItemLine × List Placed) Stuck) (m : Module) → read_as module_of read ≡ Ok (m, []) → fault_of m ≡ None
    → read_as checked read ≡ Ok (Ok m, [])
passes (Ok x) m h none =
    both-are (checked x.0) (Ok m) x.1 [] (checked-again x.0 m (first-is (module_of x.0) m x.1 [] h) none) (rest-is (module_of x.0) m x.1 [] h)
passes (Err s) m h none = absurd (cc h)

abbrev faulty : TextFault → Result Module TextFault
faulty fault = Err fault

fault-found : (items : List ItemLine) (m : Module) (fault : TypeFault) (found : TextFault) → module_of items ≡ m → fault_of m ≡ Some fault → check_fault items fault ≡ found
    → checked items ≡ Err found
unfolding checked
fault-found items m fault found is some line = ap (checked_by items) (ap fault_of is ∙ some) ∙ ap faulty line

-- a module with a fault
pub fails : (read : Result (List ItemLine × List Placed) Stuck) (m : Module) (fault : TypeFault) (found : TextFault)
    → read_as module_of read ≡ Ok (m, []) → fault_of m ≡ Some fault → read_as (λ items. check_fault items fault) read ≡ Ok (found, [])
    → read_as checked read ≡ Ok (Err found, [])
fails (Ok x) m fault found h some line =
    both-are (checked x.0) (Err found) x.1 []
    (fault-found x.0 m fault found (first-is (module_of x.0) m x.1 [] h) some (first-is (check_fault x.0 fault) found x.1 [] line))
    (rest-is (module_of x.0) m x.1 [] h)
fails (Err s) m fault found h some line = absurd (cc h)

-- where the grammar stops nothing is checked
pub unread : {A : Type 0} (f : List ItemLine → A) (e : TextError) (read : Result (List ItemLine × List Placed) Stuck)
    → GivesRead {A = A} (Err e) (read_as f read) → GivesChecked (Err e) read
unread f NoMemory read h = tt
unread f (Fault fault) (Ok x) h = absurd (let e = h.1 in cc e)
unread f (Fault fault) (Err s) h = inr (same-fault f (λ items. items) (Fault fault) (Err s) h)

-- ---- the whole text

abbrev refused : TextFault → Result Module TextError
refused fault = Err (Fault fault)

-- what was checked is what follows an answer of the grammar
pub answered : (result : Result Module TextError) (read : Result (List ItemLine × List Placed) Stuck) → GivesChecked result read
    → (answer : Answer) × GivesText answer read × Finishes result answer
answered (Ok m) (Ok x) h =
    (Ok x.0, ap (λ (ts : List Placed). pair x.0 ts) (rest-is (checked x.0) (Ok m) x.1 [] h), first-is (checked x.0) (Ok m) x.1 [] h)
answered (Ok m) (Err s) h = absurd (cc h)
answered (Err NoMemory) read h = (Err syntax_error.NoMemory, tt, refl)
answered (Err (Fault fault)) (Ok x) (inl h) =
    (Ok x.0, ap (λ (ts : List Placed). pair x.0 ts) (rest-is (checked x.0) (Err fault) x.1 [] h), first-is (checked x.0) (Err fault) x.1 [] h)
answered (Err (Fault fault)) (Err s) (inl h) = absurd (cc h)
answered (Err (Fault fault)) read (inr h) =
    (Err (syntax_error.Fault (record { line = line_of h.0.rest; kind = h.0.kind })), (h.0, h.1, refl, refl, h.3), ap refused h.2)

-- ---- the line of a fault

-- the items that are read once more are those of the module
pub module-is : (read : Result (List ItemLine × List Placed) Stuck) (items : List ItemLine) (m : Module) → read ≡ Ok (items, []) → read_as module_of read ≡ Ok (m, [])
    → m ≡ module_of items
module-is read items m e h = sym (first-is (module_of items) m [] [] (sym (ap (read_as module_of) e) ∙ h))

pub line-found : (read : Result (List ItemLine × List Placed) Stuck) (items : List ItemLine) (fault : TypeFault) (found : TextFault) → read ≡ Ok (items, []) → found ≡ check_fault items fault
    → read_as (λ (is : List ItemLine). check_fault is fault) read ≡ Ok (found, [])
line-found read items fault found e is = ap (read_as (λ (is : List ItemLine). check_fault is fault)) e ∙ ap (λ (f : TextFault). pair f []) (sym is)

-- a text with a module has items
pub not-stuck : (read : Result (List ItemLine × List Placed) Stuck) (m : Module) (f : SyntaxFault) → GivesText (Err (syntax_error.Fault f)) read → read_as module_of read ≡ Ok (m, []) → ⊥
not-stuck read m f g h = let e = sym (ap (read_as module_of) g.1) ∙ h in cc e
