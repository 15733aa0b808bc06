-- The commands that are built so far. The words of all others are answered as those of no command.
use Rattle.std.specs.Prelude.{ℕ, List, Option, None, Some}
use Rattle.whopr_words.specs.Commands.{Spoken, Cc, Lgen, Show, Interp, Run, Resolve, Link, Batch, Replay, Gen, command_of as spoken_in}

abbrev pub built : Option Spoken → Option Spoken
built None = None
built (Some (Cc input output)) = Some (Cc input output)
built (Some (Lgen input output)) = Some (Lgen input output)
built (Some (Show object)) = Some (Show object)
built (Some (Interp jobs steps input output)) = Some (Interp jobs steps input output)
built (Some (Run image steps input output)) = Some (Run image steps input output)
built (Some (Resolve output objects)) = Some (Resolve output objects)
built (Some (Link jobs)) = Some (Link jobs)
built (Some (Batch jobs trace)) = None
built (Some (Replay jobs schedule trace)) = None
built (Some (Gen seed count prefix)) = None

-- the command that the words are
abbrev pub command_of : List (List ℕ) → Option Spoken
command_of words = built (spoken_in words)

-- the command is done or refused as a whole: every one but `link`, of which each job is, and what stands for no command
abbrev pub IsWhole : Option Spoken → Type 0
IsWhole (Some (Link jobs)) = ⊥
IsWhole command = Unit {0}

-- what holds of the job file of `link`
abbrev pub IfLink : Option Spoken → (List ℕ → Type 0) → Type 0
IfLink (Some (Link jobs)) P = P jobs
IfLink command P = Unit {0}
