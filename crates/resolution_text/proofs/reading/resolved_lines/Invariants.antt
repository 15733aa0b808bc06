use Rattle.std.proofs.Common.{◌≡◌, ◌-◌}
use Rattle.text_lines.specs.Reading.{counted, after_these}
use Rattle.resolution_text.specs.Reading.{resolved_by}
use Rattle.resolution_text.proofs.reading.resolved_lines.Given as goal

-- what is read and what the lines that are left give make what they gave at first
abbrev pub invariant-loop-slot : goal.invariant-loop-slot
invariant-loop-slot l = after_these l.words (counted resolved_by (l.count - l.slot) l.slot l.lines) ≡ counted resolved_by l.count 0 l.fn.lines
