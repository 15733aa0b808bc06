-- What was found of a place in a list.
use Rattle.std.specs.Prelude.{◌≡◌, ◌+◌, ℕ, List, length, Option, Some, None, slice_get}
use denote.Ref.{Bor}
use Rattle.gimple_grammar.specs.declared.syntax.ItemLine.{ItemLine}
use Rattle.gimple_syntax.specs.declared.lines.Found.{Found}
use Rattle.gimple_syntax.specs.declared.lines.Found.TheVariants as code

-- the item at the place, or how far the place is behind the list
abbrev pub HasPlace : Found → List ItemLine → ℕ → Type 0
HasPlace (code.Item i) items place = slice_get items place ≡ Some i.now
HasPlace (code.After left) items place = place ≡ length items + left

abbrev pub option_now : Option (Bor ItemLine) → Option ItemLine
option_now None = None
option_now (Some i) = Some i.now
