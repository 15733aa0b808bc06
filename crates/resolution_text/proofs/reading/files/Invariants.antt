use Rattle.std.proofs.Common.{◌≡◌, ◌-◌}
use Rattle.text_lines.specs.Reading.{counted, after_these}
use Rattle.resolution_text.specs.Reading.{file_at}
use Rattle.resolution_text.proofs.reading.files.Given as goal

abbrev pub invariant-loop-done : goal.invariant-loop-done
invariant-loop-done l = after_these l.files (counted file_at (l.count - l.done) l.done l.lines) ≡ counted file_at l.count 0 l.fn.lines
