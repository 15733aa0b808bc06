-- Passing over the items of a text one by one.
use Rattle.std.proofs.Common.{◌≡◌, ◌<◌, ℕ, suc, List, [], ◌∷◌, ◌++◌, length, map, Bool, true, false, Option, Some, None, Result, Ok, Err, refl, ap, sym, ◌∙◌, append_assoc, arith}
use Rattle.std.proofs.lemmas.List.{append-nil}
use Rattle.std.proofs.lemmas.List.Concat.{flat_map-cons}
use Rattle.std.specs.List.{flat_map, cons_option}
use Rattle.std.specs.Option.{option_map, option_to_list}
use Rattle.gimple_ir.specs.declared.types.Function.{Function}
use Rattle.gimple_tokens.specs.Tokens.{Placed}
use Rattle.gimple_tokens.specs.Reading.{line_of}
use Rattle.gimple_tokens.specs.Stops.{Stuck}
use Rattle.gimple_grammar.specs.declared.syntax.ItemLine.{ItemLine}
use Rattle.gimple_grammar.specs.declared.text.SyntaxFault.{SyntaxFault}
use Rattle.gimple_grammar.specs.declared.text.SyntaxError.TheVariants as syntax_error
use Rattle.gimple_grammar.specs.Items.{module_text}
use Rattle.gimple_grammar.specs.Streams.{with_item}
use Rattle.gimple_grammar.specs.Texts.{GivesText}
use Rattle.gimple_syntax.specs.declared.text.TextFault.{TextFault}
use Rattle.gimple_syntax.specs.declared.text.TextError.{TextError}
use Rattle.gimple_syntax.specs.declared.text.TextError.TheVariants.{Fault, NoMemory}
use Rattle.gimple_syntax.specs.Items.{Items, LinkedFunction, function_in, functions_in, function_of}
use Rattle.gimple_syntax.specs.Reading.{syntax_fault}
use Rattle.gimple_syntax.specs.Passes.{function_at, functions_from, read_as, Stops, GivesRead, AddsParts}

-- where the grammar stops, so does the text
pub stopped : (fault : TextFault) (f : SyntaxFault) (read : Result (List ItemLine × List Placed) Stuck)
    → GivesText (Err (syntax_error.Fault f)) read → fault ≡ syntax_fault f.line f.kind → Stops fault read
stopped fault f read g e =
    let s = g.0 in
    let same : syntax_fault f.line f.kind ≡ syntax_fault (line_of s.rest) s.kind = cc (g.2, g.3) in
    (s, g.1, e ∙ same, g.4)

-- ---- a pass

abbrev pub pair : {A : Type 0} → A → List Placed → Result (A × List Placed) Stuck
pair y rest = Ok (y, rest)

abbrev value_in : {A : Type 0} → A → Result (A × List Placed) Stuck → A
value_in d (Ok x) = x.0
value_in d (Err s) = d

abbrev rest_in : {A : Type 0} → Result (A × List Placed) Stuck → List Placed
rest_in (Ok x) = x.1
rest_in (Err s) = []

pub first-is : {A : Type 0} (x y : A) (ts us : List Placed) → pair x ts ≡ pair y us → x ≡ y
first-is x y ts us e = ap (value_in x) e

pub rest-is : {A : Type 0} (x y : A) (ts us : List Placed) → pair x ts ≡ pair y us → ts ≡ us
rest-is x y ts us e = ap rest_in e

-- how many turns are left at most
abbrev pub measure : Bool → List Placed → ℕ
measure true ts = suc (length ts)
measure false ts = 0

-- the values so far, and then those that are read
abbrev pub told : {A : Type 0} → List A → Result (List A × List Placed) Stuck → Result (List A × List Placed) Stuck
told front (Ok x) = Ok (front ++ x.0, x.1)
told front (Err s) = Err s

-- what the pass gives in all, after what it gave so far
abbrev pub going : {A : Type 0} → (ItemLine → List A) → Bool → List A → List Placed → Result (List A × List Placed) Stuck
going f true front ts = told front (read_as (flat_map f) (module_text.read ts))
going f false front ts = Ok (front, [])

told-none : {A : Type 0} (read : Result (List A × List Placed) Stuck) → told [] read ≡ read
told-none (Ok x) = refl
told-none (Err s) = refl

pub begun : {A : Type 0} (f : ItemLine → List A) (front : List A) (ts all : List Placed) → front ≡ [] → ts ≡ all
    → going f true front ts ≡ read_as (flat_map f) (module_text.read all)
begun {A = A} f front ts all none e =
    ap (λ (ys : List A). told ys (read_as (flat_map f) (module_text.read ts))) none
    ∙ told-none (read_as (flat_map f) (module_text.read ts))
    ∙ ap (λ (us : List Placed). read_as (flat_map f) (module_text.read us)) e

one-more : {A : Type 0} (f : ItemLine → List A) (front : List A) (i : ItemLine) (read : Result (List ItemLine × List Placed) Stuck)
    → told (front ++ f i) (read_as (flat_map f) read) ≡ told front (read_as (flat_map f) (with_item i read))
one-more {A = A} f front i (Ok x) =
    ap (λ (ys : List A). pair ys x.1) (append_assoc front (f i) (flat_map f x.0) ∙ ap (λ (ys : List A). front ++ ys) (sym (flat_map-cons f i x.0)))
one-more f front i (Err s) = refl

pub goes_on : {A : Type 0} (f : ItemLine → List A) (before more : Bool) (front new : List A) (ts after : List Placed) (total : Result (List A × List Placed) Stuck)
    → before ≡ true → AddsParts f (Ok more) front new ts after → going f before front ts ≡ total → going f more new after ≡ total
goes_on {A = A} f true true front new ts after total t added so_far =
    ap (λ (ys : List A). told ys (read_as (flat_map f) (module_text.read after))) added.2
    ∙ one-more f front added.0 (module_text.read after)
    ∙ sym (ap (λ (read : Result (List ItemLine × List Placed) Stuck). told front (read_as (flat_map f) read)) added.1)
    ∙ so_far
goes_on {A = A} f true false front new ts after total t added so_far =
    let same : pair new [] ≡ pair (front ++ []) [] = ap (λ (ys : List A). pair ys []) (added.1 ∙ sym (append-nil front)) in
    same ∙ sym (ap (λ (read : Result (List ItemLine × List Placed) Stuck). told front (read_as (flat_map f) read)) added.0) ∙ so_far
goes_on f false more front new ts after total t added so_far = absurd cc

-- each turn reads an item or is the last
pub fewer : {A : Type 0} (f : ItemLine → List A) (before more : Bool) (front new : List A) (ts after : List Placed)
    → before ≡ true → AddsParts f (Ok more) front new ts after → measure more after < measure before ts
fewer f true true front new ts after t added = omega (arith, added.3)
fewer f true false front new ts after t added = omega arith
fewer f false more front new ts after t added = absurd cc

-- a pass that stops
pub breaks : {A : Type 0} (f : ItemLine → List A) (e : TextError) (before : Bool) (front new : List A) (ts after : List Placed) (total : Result (List A × List Placed) Stuck)
    → before ≡ true → AddsParts f (Err e) front new ts after → going f before front ts ≡ total → GivesRead {A = List A} (Err e) total
breaks f NoMemory before front new ts after total t added so_far = tt
breaks f (Fault fault) true front new ts after total t added so_far =
    (added.0, sym so_far ∙ ap (λ (read : Result (List ItemLine × List Placed) Stuck). told front (read_as (flat_map f) read)) added.1, added.2, added.3)
breaks f (Fault fault) false front new ts after total t added so_far = absurd cc

same-read : {A : Type 0} (f g : List ItemLine → A) → ((items : List ItemLine) → f items ≡ g items) → (read : Result (List ItemLine × List Placed) Stuck)
    → read_as f read ≡ read_as g read
same-read {A = A} f g e (Ok x) = ap (λ (y : A). pair y x.1) (e x.0)
same-read f g e (Err s) = refl

-- a pass that ends
pub is_done : {A : Type 0} (f : ItemLine → List A) (before : Bool) (front : List A) (ts : List Placed) (total : Result (List A × List Placed) Stuck)
    → before ≡ false → going f before front ts ≡ total → total ≡ Ok (front, [])
is_done f false front ts total t so_far = sym so_far
is_done f true front ts total t so_far = absurd cc

-- ---- functions

add-none : (names : Items) (i : ItemLine) (o : Option LinkedFunction) (fs : List LinkedFunction)
    → option_to_list (option_map (function_of names) o) ++ map (function_of names) fs ≡ map (function_of names) (cons_option o fs)
add-none names i None fs = refl
add-none names i (Some f) fs = refl

functions-all : (names : Items) (items : List ItemLine) → flat_map (function_at names) items ≡ functions_from names items
functions-all names [] = refl
functions-all names (i ∷ items) =
    flat_map-cons (function_at names) i items
    ∙ ap (λ (fs : List Function). function_at names i ++ fs) (functions-all names items)
    ∙ add-none names i (function_in i.item) (functions_in items)

pub functions-are : (names : Items) (read : Result (List ItemLine × List Placed) Stuck) → read_as (flat_map (function_at names)) read ≡ read_as (functions_from names) read
functions-are names read = same-read (flat_map (function_at names)) (functions_from names) (functions-all names) read
