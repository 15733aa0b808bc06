use Rattle.std.proofs.Common.{◌≡◌, ◌-◌}
use Rattle.text_lines.specs.Reading.{counted, after_these}
use Rattle.whopr_words.specs.Jobs.{object_at}
use Rattle.whopr_words.proofs.job_file.objects.Given as goal

-- what is read and what the lines that are left give make what they gave at first
abbrev pub invariant-loop-done : goal.invariant-loop-done
invariant-loop-done l = after_these l.objects (counted object_at (l.count - l.done) l.done l.lines) ≡ counted object_at l.count 0 l.fn.lines
