-- What a text spells, and the fault of one that spells nothing.
use Rattle.std.specs.Prelude.{◌≡◌, List, [], ◌∷◌, ◌++◌, drop, Result, Ok, Err}
use Rattle.gimple_tokens.specs.Tokens.{Placed}
use Rattle.gimple_tokens.specs.Reading.{first_of, line_of}
use Rattle.gimple_tokens.specs.Stops.{Stuck}
use Rattle.gimple_grammar.specs.Grammar.{Begins}
use Rattle.gimple_grammar.specs.Items.{module_text}
use Rattle.gimple_grammar.specs.declared.syntax.ItemLine.{ItemLine}
use Rattle.gimple_grammar.specs.declared.text.SyntaxFault.{SyntaxFault}
use Rattle.gimple_grammar.specs.declared.text.SyntaxError.{SyntaxError}
use Rattle.gimple_grammar.specs.declared.text.SyntaxError.TheVariants.{Fault, NoMemory}

-- the tokens, all of them, are a spelling of the items
abbrev pub Spells : List Placed → List ItemLine → Type 0
Spells ts items = Begins (module_text.spelling items) ts []

-- what reading a text may answer
abbrev pub Answer : Type 0
Answer = Result (List ItemLine) SyntaxError

-- What reading gives of the whole text. A fault has the kind and the line of the token at which reading stopped.
abbrev pub GivesText : Result (List ItemLine) SyntaxError → Result (List ItemLine × List Placed) Stuck → Type 0
GivesText (Ok items) read = read ≡ Ok (items, [])
GivesText (Err NoMemory) read = Unit {0}
GivesText (Err (Fault f)) read = (s : Stuck) × (read ≡ Err s) × (f.kind ≡ s.kind) × (f.line ≡ line_of s.rest) × (s.rest ≡ first_of s.rest ∷ drop 1 s.rest)

abbrev pub IsOrMemory : Result (List ItemLine) SyntaxError → List ItemLine → Type 0
IsOrMemory (Ok found) items = found ≡ items
IsOrMemory (Err NoMemory) items = Unit {0}
IsOrMemory (Err (Fault f)) items = ⊥

-- A fault stands at this token: the tokens before it begin a text, and with it they begin none.
pub record IsFirstFault (ts : List Placed) (f : SyntaxFault) : Type 0 where
  pub front : List Placed
  pub at : Placed
  pub after : List Placed
  pub parts : ts ≡ front ++ at ∷ after
  pub line : f.line ≡ at.line
  pub begins : (items : List ItemLine) × (more : List Placed) × Spells (front ++ more) items
  pub ends : (other : List Placed) (items : List ItemLine) → Spells (front ++ at ∷ other) items → ⊥

abbrev pub IfFault : Result (List ItemLine) SyntaxError → (SyntaxFault → Type 0) → Type 0
IfFault (Err (Fault f)) P = P f
IfFault _ P = Unit {0}
