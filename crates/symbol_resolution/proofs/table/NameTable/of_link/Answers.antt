use Rattle.std.proofs.Common.{◌∙◌}
use Rattle.symbol_resolution.specs.Symbols.{symbols_from}
use Rattle.symbol_resolution.proofs.Tables.{all_noted, none_left}
use Rattle.symbol_resolution.proofs.table.NameTable.of_link.Goals as goal

pub returns : goal.returns
returns c = λ name.
    none_left name c.loop-object.table.definitions c.loop-object.object c.args.objects.now c.loop-object-test.false ∙ c.loop-object.invariant name ∙ all_noted name (symbols_from 0 c.args.objects.now)
