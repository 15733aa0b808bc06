-- A token that stands first is passed over.
use Rattle.std.proofs.Common.{◌≡◌, true, false, List, [], ◌∷◌, Option, Some, None, Result, Ok, sym, ap, ◌∙◌}
use Rattle.gimple_tokens.specs.Tokens.{Lexeme, End, Placed}
use Rattle.gimple_tokens.specs.Reading.{head_of, same, passed, Passes}
use Rattle.gimple_tokens.specs.Stops.{Stuck, past}
use Rattle.gimple_grammar.proofs.TokenLaws.{some-is}

abbrev left : List Placed → Result (List Placed) Stuck
left ts = Ok ts

pub passed-first : (t : Lexeme) → same t End ≡ false → (r : Option (Unit {0})) (before after : List Placed) → same t (head_of before) ≡ true → Passes r after (passed t before) → past t before ≡ Ok after
unfolding passed past
passed-first t other r [] after first e = absurd (let no = sym other ∙ first in cc)
passed-first t other (Some x) (p ∷ ts) after first e = rw first (ap left (some-is ts after (rw first at e)))
passed-first t other None (p ∷ ts) after first e = absurd (let none = rw first at e in cc)
