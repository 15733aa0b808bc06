-- What the items of a text give, where they are read one by one and each is given up before the next.
use Rattle.std.specs.Prelude.{◌≡◌, ◌⊎◌, ◌<◌, ℕ, List, [], ◌∷◌, ◌++◌, drop, length, map, Bool, true, false, Result, Ok, Err}
use Rattle.std.specs.Option.{option_map, option_to_list}
use Rattle.gimple_ir.specs.declared.types.Function.{Function}
use Rattle.gimple_ir.specs.declared.types.Module.{Module}
use Rattle.gimple_tokens.specs.Tokens.{Placed, tokens_of}
use Rattle.gimple_tokens.specs.Reading.{first_of, line_of}
use Rattle.gimple_tokens.specs.Stops.{Stuck}
use Rattle.gimple_grammar.specs.declared.syntax.ItemLine.{ItemLine}
use Rattle.gimple_grammar.specs.Items.{module_text}
use Rattle.gimple_grammar.specs.Streams.{with_item, outline_of}
use Rattle.gimple_syntax.specs.declared.text.TextFault.{TextFault}
use Rattle.gimple_syntax.specs.declared.text.TextError.{TextError}
use Rattle.gimple_syntax.specs.declared.text.TextError.TheVariants.{Fault, NoMemory}
use Rattle.gimple_syntax.specs.Items.{Items, function_in, functions_in, function_of}
use Rattle.gimple_syntax.specs.Reading.{syntax_fault, checked}

-- the items without the bodies of functions
abbrev pub outlines_of : List ItemLine → List ItemLine
outlines_of items = map outline_of items

-- the function of an item, if it is one
abbrev pub function_at : Items → ItemLine → List Function
function_at names i = option_to_list (option_map (function_of names) (function_in i.item))

abbrev pub functions_from : Items → List ItemLine → List Function
functions_from names items = map (function_of names) (functions_in items)

-- ---- what a text gives

-- what the grammar reads of a text
abbrev pub items_read : List ℕ → Result (List ItemLine × List Placed) Stuck
items_read text = module_text.read (tokens_of text)

-- what f gives of the items that are read
abbrev pub read_as : {A : Type 0} → (List ItemLine → A) → Result (List ItemLine × List Placed) Stuck → Result (A × List Placed) Stuck
read_as f (Ok x) = Ok (f x.0, x.1)
read_as f (Err s) = Err s

-- the fault is that of the token at which reading stopped
abbrev pub Stops : {A : Type 0} → TextFault → Result A Stuck → Type 0
Stops fault read = (s : Stuck) × (read ≡ Err s) × (fault ≡ syntax_fault (line_of s.rest) s.kind) × (s.rest ≡ first_of s.rest ∷ drop 1 s.rest)

-- what a call answers that reads the whole text
abbrev pub GivesRead : {A : Type 0} → Result A TextError → Result (A × List Placed) Stuck → Type 0
GivesRead (Ok found) read = read ≡ Ok (found, [])
GivesRead (Err NoMemory) read = Unit {0}
GivesRead (Err (Fault fault)) read = Stops fault read

-- One item is read, if one is left, and what f gives of it is added. Whether one was left is told.
abbrev pub AddsParts : {A : Type 0} → (ItemLine → List A) → Result Bool TextError → List A → List A → List Placed → List Placed → Type 0
AddsParts f (Ok true) old new before after =
    (i : ItemLine) × (module_text.read before ≡ with_item i (module_text.read after)) × (new ≡ old ++ f i) × (length after < length before)
AddsParts f (Ok false) old new before after = (module_text.read before ≡ Ok ([], [])) × (new ≡ old)
AddsParts f (Err NoMemory) old new before after = Unit {0}
AddsParts f (Err (Fault fault)) old new before after = Stops fault (module_text.read before)

-- ---- the outlines of a text

-- the outlines of its items, if it is a text of items
abbrev pub Outlined : List ℕ → List ItemLine → Type 0
Outlined text found = (items : List ItemLine) → items_read text ≡ Ok (items, []) → found ≡ outlines_of items

-- The outline of the first of these items is added, if one is left, and the others are still to be read.
abbrev pub IsAdded : {E : Type 0} → Result Bool E → List ItemLine → List ItemLine → List ItemLine → List Placed → List Placed → List Placed → Type 0
IsAdded (Ok true) items old new rest before after =
    (i : ItemLine) × (more : List ItemLine) × (items ≡ i ∷ more) × (new ≡ old ++ outline_of i ∷ []) × (module_text.read after ≡ Ok (more, rest)) × (length after < length before)
IsAdded (Ok false) items old new rest before after = (items ≡ []) × (new ≡ old)
IsAdded (Err e) items old new rest before after = Unit {0}

-- What a call does to the outlines so far, if the tokens before it are those of items. Whether one was left is told.
abbrev pub AddsOutline : {E : Type 0} → Result Bool E → List ItemLine → List ItemLine → List Placed → List Placed → Type 0
AddsOutline result old new before after =
    (items : List ItemLine) (rest : List Placed) → module_text.read before ≡ Ok (items, rest) → IsAdded result items old new rest before after

-- ---- what is checked

-- what a call answers that reads and checks the whole text
abbrev pub GivesChecked : Result Module TextError → Result (List ItemLine × List Placed) Stuck → Type 0
GivesChecked (Ok m) read = read_as checked read ≡ Ok (Ok m, [])
GivesChecked (Err NoMemory) read = Unit {0}
GivesChecked (Err (Fault fault)) read = (read_as checked read ≡ Ok (Err fault, [])) ⊎ Stops fault read
