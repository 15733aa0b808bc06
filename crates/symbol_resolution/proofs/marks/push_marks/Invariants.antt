use Rattle.std.proofs.Common.{◌≡◌, ◌++◌, drop}
use Rattle.symbol_resolution.specs.Groups.{named}
use Rattle.symbol_resolution.specs.Marks.{marks_in}
use Rattle.symbol_resolution.proofs.marks.push_marks.Given as goal

abbrev pub invariant-loop-place : goal.invariant-loop-place
invariant-loop-place l = named l.marks.items ++ marks_in l.object (drop l.place l.symbols) (drop l.place l.words) ≡ named l.fn.marks.items ++ marks_in l.object l.symbols l.words
