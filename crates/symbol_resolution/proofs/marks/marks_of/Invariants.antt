use Rattle.std.proofs.Common.{◌≡◌, ◌++◌, drop}
use Rattle.symbol_resolution.specs.Groups.{named}
use Rattle.symbol_resolution.specs.Marks.{marks_from}
use Rattle.symbol_resolution.proofs.marks.marks_of.Given as goal

abbrev pub invariant-loop-object : goal.invariant-loop-object
invariant-loop-object l = named l.marks.items ++ marks_from l.object (drop l.object l.objects) (drop l.object l.files) ≡ marks_from 0 l.objects l.files
