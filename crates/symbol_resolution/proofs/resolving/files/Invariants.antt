use Rattle.std.proofs.Common.{◌≡◌, ◌++◌, drop}
use Rattle.symbol_resolution.specs.Definitions.{prevailing_in}
use Rattle.symbol_resolution.specs.Resolving.{files_from}
use Rattle.symbol_resolution.proofs.resolving.files.Given as goal

abbrev pub invariant-loop-object : goal.invariant-loop-object
invariant-loop-object l =
    l.files ++ files_from (prevailing_in l.table.definitions) l.object (drop l.object l.objects) (drop l.object l.names) ≡ files_from (prevailing_in l.table.definitions) 0 l.objects l.names
