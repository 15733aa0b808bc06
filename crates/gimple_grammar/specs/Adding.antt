-- What a function gives that adds what it reads to a list.
use Rattle.std.specs.Prelude.{◌≡◌, Bool, List, [], ◌∷◌, ◌++◌, Result, Ok, Err}
use Rattle.gimple_tokens.specs.Tokens.{Placed}
use Rattle.gimple_tokens.specs.Stops.{Stuck, Fails}
use Rattle.gimple_tokens.specs.declared.failure.Failure.{Failure}
use Rattle.gimple_grammar.specs.Grammar.{◌>>=◌}

abbrev pub with_front : {A : Type 0} → List A → Result (List A × List Placed) Stuck → Result (List A × List Placed) Stuck
with_front front read = read >>= λ x. Ok (front ++ x.0, x.1)

-- one value is read and added
abbrev pub AddsOne : {A : Type 0} → Result (Unit {0}) Failure → List A → List A → List Placed → Result (A × List Placed) Stuck → Type 0
AddsOne {A = A} (Ok x) old new after read = (a : A) × (read ≡ Ok (a, after)) × (new ≡ old ++ a ∷ [])
AddsOne (Err e) old new after read = Fails e after read

-- one value is read and added, and whether another follows is told
abbrev pub AddsNext : {A : Type 0} → Result Bool Failure → List A → List A → List Placed → Result ((A × Bool) × List Placed) Stuck → Type 0
AddsNext {A = A} (Ok more) old new after read = (a : A) × (read ≡ Ok ((a, more), after)) × (new ≡ old ++ a ∷ [])
AddsNext (Err e) old new after read = Fails e after read
