-- Reading tokens from left to right that says where it stopped, and why.
use Rattle.std.specs.Prelude.{◌≡◌, ℕ, List, [], ◌∷◌, Option, Some, None, Result, Ok, Err, if◌then◌else◌}
use Rattle.gimple_tokens.specs.declared.token.TextKind.{TextKind}
use Rattle.gimple_tokens.specs.declared.token.TextKind.TheVariants.{Syntax}
use Rattle.gimple_tokens.specs.declared.failure.Failure.{Failure}
use Rattle.gimple_tokens.specs.declared.failure.Failure.TheVariants.{NoMemory, Fault}
use Rattle.gimple_tokens.specs.Tokens.{Lexeme, Name, Bad, Placed}
use Rattle.gimple_tokens.specs.Reading.{same}

-- why reading stopped, and the tokens that were left, of which the first could not come
pub record Stuck : Type 0 where
  pub kind : TextKind
  pub rest : List Placed

-- the kind of a fault at a token that cannot come
abbrev pub fault_at : Lexeme → TextKind
fault_at (Bad kind) = kind
fault_at _ = Syntax

-- what is left once this token is passed over, which must stand first
unfoldable pub past : Lexeme → List Placed → Result (List Placed) Stuck
past t [] = Err (record { kind = Syntax; rest = [] })
past t (p ∷ ts) = if same t p.token then Ok ts else Err (record { kind = fault_at p.token; rest = p ∷ ts })

-- The value that pick gives the token that stands first. Another one is a fault of the kind that why gives.
abbrev pub taken : {A : Type 0} → (Lexeme → TextKind) → Placed → List Placed → Option A → Result (A × List Placed) Stuck
taken why p ts None = Err (record { kind = why p.token; rest = p ∷ ts })
taken why p ts (Some a) = Ok (a, ts)

unfoldable pub single_at : {A : Type 0} → (Lexeme → Option A) → (Lexeme → TextKind) → List Placed → Result (A × List Placed) Stuck
single_at pick why [] = Err (record { kind = Syntax; rest = [] })
single_at pick why (p ∷ ts) = taken why p ts (pick p.token)

abbrev pub name_in : Lexeme → Option (List ℕ)
name_in (Name w) = Some w
name_in _ = None

-- ---- what a function that reads gives, in terms of the tokens before and after

-- After a fault the reader stands at the token that has it.
abbrev pub Fails : {A : Type 0} → Failure → List Placed → Result A Stuck → Type 0
Fails NoMemory after read = Unit {0}
Fails (Fault k) after read = read ≡ Err (record { kind = k; rest = after })

abbrev pub GivesOr : {A : Type 0} → Result A Failure → List Placed → Result (A × List Placed) Stuck → Type 0
GivesOr (Ok x) after read = read ≡ Ok (x, after)
GivesOr (Err e) after read = Fails e after read

abbrev pub PassesOr : Result (Unit {0}) Failure → List Placed → Result (List Placed) Stuck → Type 0
PassesOr (Ok x) after read = read ≡ Ok after
PassesOr (Err e) after read = Fails e after read
