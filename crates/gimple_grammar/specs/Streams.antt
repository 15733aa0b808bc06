-- Reading the items of a text one after the other, so that each can be given up before the next is read.
use Rattle.std.specs.Prelude.{◌≡◌, ◌<◌, List, [], ◌∷◌, length, Option, Some, None, Result, Ok, Err}
use Rattle.gimple_tokens.specs.Tokens.{Placed}
use Rattle.gimple_tokens.specs.Stops.{Stuck, GivesOr}
use Rattle.gimple_tokens.specs.declared.failure.Failure.{Failure}
use Rattle.gimple_grammar.specs.Grammar.{◌>>=◌, got}
use Rattle.gimple_grammar.specs.Items.{module_text}
use Rattle.gimple_grammar.specs.Texts.{GivesText}
use Rattle.gimple_grammar.specs.declared.syntax.Body.{Body}
use Rattle.gimple_grammar.specs.declared.syntax.Item.{Item}
use Rattle.gimple_grammar.specs.declared.syntax.Item.TheVariants as item
use Rattle.gimple_grammar.specs.declared.syntax.ItemLine.{ItemLine}
use Rattle.gimple_grammar.specs.declared.parts.Defined.{Defined}
use Rattle.gimple_grammar.specs.declared.parts.Defined.TheVariants as defined
use Rattle.gimple_grammar.specs.declared.text.SyntaxError.{SyntaxError}
use Rattle.gimple_grammar.specs.declared.text.SyntaxError.TheVariants.{Fault, NoMemory}

-- the item, and then those that are read
abbrev pub with_item : ItemLine → Result (List ItemLine × List Placed) Stuck → Result (List ItemLine × List Placed) Stuck
with_item item read = read >>= λ more. Ok (item ∷ more.0, more.1)

-- What a call gives of the tokens before it: none where the text ends, and else the first item, where those that are still
-- to be read follow it. A fault is that of the whole text.
abbrev pub GivesItem : Result (Option ItemLine) SyntaxError → List Placed → List Placed → Type 0
GivesItem (Ok None) before after = module_text.read before ≡ Ok ([], [])
GivesItem (Ok (Some item)) before after = (module_text.read before ≡ with_item item (module_text.read after)) × (length after < length before)
GivesItem (Err e) before after = GivesText (Err e) (module_text.read before)

-- ---- the items without the bodies of functions

-- a function without what stands between its braces
abbrev pub no_body : Body
no_body = record { locals = []; lines = [] }

abbrev pub without_body : Item → Item
without_body (item.Struct s) = item.Struct s
without_body (item.ExternArray a) = item.ExternArray a
without_body (item.ExternFunction f) = item.ExternFunction f
without_body (item.Array linkage a) = item.Array linkage a
without_body (item.Function linkage f body) = item.Function linkage f no_body

abbrev pub outline_of : ItemLine → ItemLine
outline_of i = record { line = i.line; item = without_body i.item }

-- What a call gives of the tokens before it, if they are those of items: none where the text ends, and else the outline of the
-- first, where the others are still to be read. Where they are not, nothing is said.
abbrev pub IsNextOutline : Result (Option ItemLine) SyntaxError → List ItemLine → List Placed → List Placed → List Placed → Type 0
IsNextOutline (Ok None) items rest before after = items ≡ []
IsNextOutline (Ok (Some o)) items rest before after =
    (i : ItemLine) × (more : List ItemLine) × (items ≡ i ∷ more) × (o ≡ outline_of i) × (module_text.read after ≡ Ok (more, rest)) × (length after < length before)
IsNextOutline (Err NoMemory) items rest before after = Unit {0}
IsNextOutline (Err (Fault f)) items rest before after = ⊥

abbrev pub GivesOutline : Result (Option ItemLine) SyntaxError → List Placed → List Placed → Type 0
GivesOutline result before after = (items : List ItemLine) (rest : List Placed) → module_text.read before ≡ Ok (items, rest) → IsNextOutline result items rest before after

-- a definition without what stands between its braces
abbrev pub defined_outline : Defined → Defined
defined_outline (defined.Array a) = defined.Array a
defined_outline (defined.Function f body) = defined.Function f no_body

abbrev pub IfLeft : List Placed → Type 0 → Type 0
IfLeft [] P = Unit {0}
IfLeft (p ∷ ts) P = P

-- What a call gives of what is read, where tokens are left after it: its outline. Where nothing is read, nothing is said.
abbrev pub GivesShort : {A B : Type 0} → (A → B) → Result B Failure → List Placed → Result (A × List Placed) Stuck → Type 0
GivesShort short result after (Ok x) = IfLeft x.1 (GivesOr result after (got (short x.0) x.1))
GivesShort short result after (Err s) = Unit {0}
