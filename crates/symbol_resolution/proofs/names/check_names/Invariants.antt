use Rattle.std.proofs.Common.{◌≡◌, drop}
use Rattle.symbol_resolution.specs.Marks.{marks_from}
use Rattle.symbol_resolution.specs.NameFaults.{names_fault}
use Rattle.symbol_resolution.proofs.names.check_names.Given as goal

-- what is left has the fault of the whole
abbrev pub invariant-loop-object : goal.invariant-loop-object
invariant-loop-object l =
    names_fault l.objects l.marks (marks_from l.object (drop l.object l.objects) (drop l.object l.files)) ≡ names_fault l.objects l.marks (marks_from 0 l.objects l.files)
