-- What it is for an image to follow a program: on every input the machine that runs the image shows what the program shows. Each
-- output of the program's run is one of the machine's run, its end is the machine's end, and the machine shows no more than that,
-- unless the program is undefined, of which nothing is owed from then on.
use Rattle.std.specs.Prelude.{ℕ, ◌^◌, ◌<◌, List, All}
use Rattle.rv64_meaning.specs.Machine.{Outcome}
use Rattle.rv64_meaning.specs.Machine as hart
use Rattle.rv64_meaning.specs.Loading.{run_of}
use Rattle.gimple_ir.specs.declared.types.Program.{Program}
use Rattle.gimple_meaning.specs.Run.{src}
use Rattle.gimple_meaning.specs.Shown.{Shown, Goes, Ends, Fails, shown_of, RunFollows}

-- a machine that has trapped has failed
abbrev pub shown_by : Outcome → Shown
shown_by (hart.Running output) = Goes output
shown_by (hart.Ended status output) = Ends status output
shown_by (hart.Trapped address output) = Fails

-- an input is a list of bytes
abbrev pub AreBytes : List ℕ → Type 0
AreBytes input = All (λ byte. byte < 2 ^ 8) input

abbrev pub Follows : List ℕ → Program → Type 0
Follows image program = (input : List ℕ) → AreBytes input → RunFollows (λ k. shown_by (run_of image input k)) (λ n. shown_of (src program input n))
