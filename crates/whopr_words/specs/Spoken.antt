-- The command that a value of the code stands for.
use Rattle.whopr_words.specs.Commands.{words_of, Spoken, Cc, Lgen, Show, Interp, Run, Resolve, Link, Batch, Replay, Gen}
use Rattle.whopr_words.specs.declared.command.Command.{Command}
use Rattle.whopr_words.specs.declared.command.Command.TheVariants as code

abbrev pub spoken_of : Command → Spoken
spoken_of (code.Cc input out) = Cc input.now out.now
spoken_of (code.Lgen input out) = Lgen input.now out.now
spoken_of (code.Show object) = Show object.now
spoken_of (code.Interp jobs steps input out) = Interp jobs.now steps input.now out.now
spoken_of (code.Run image steps input out) = Run image.now steps input.now out.now
spoken_of (code.Resolve out objects) = Resolve out.now (words_of objects.now)
spoken_of (code.Link jobs) = Link jobs.now
spoken_of (code.Batch jobs trace) = Batch jobs.now trace.now
spoken_of (code.Replay jobs schedule trace) = Replay jobs.now schedule.now trace.now
spoken_of (code.Gen seed count prefix) = Gen seed count prefix.now
