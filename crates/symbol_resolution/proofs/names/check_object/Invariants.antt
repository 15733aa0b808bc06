use Rattle.std.proofs.Common.{◌≡◌, drop}
use Rattle.symbol_resolution.specs.Marks.{marks_in}
use Rattle.symbol_resolution.specs.NameFaults.{names_fault}
use Rattle.symbol_resolution.proofs.names.check_object.Given as goal

-- what is left has the fault of the whole
abbrev pub invariant-loop-place : goal.invariant-loop-place
invariant-loop-place l =
    names_fault l.objects l.marks (marks_in l.object (drop l.place l.symbols) (drop l.place l.words)) ≡ names_fault l.objects l.marks (marks_in l.object l.symbols l.words)
