use Rattle.std.proofs.Common.{◌∙◌, ap}
use Rattle.symbol_resolution.specs.Definitions.{with_linkage}
use Rattle.symbol_resolution.proofs.Tables.{kept_noted}
use Rattle.symbol_resolution.proofs.table.NameTable.note.Goals as goal

pub returns : goal.returns
returns c =
    kept_noted c.args.self.now.definitions c.insert.new.self c.as_str-name.result.now (record { at = c.args.at; symbol = c.args.symbol.now }) c.with-definitions.result
    c.as_str-name.ensures.value
    (c.with-definitions.ensures ∙ ap (λ d. with_linkage d c.args.at c.args.symbol.now.linkage) c.of.ensures)
    c.in_ok-insert.ensures.updates
