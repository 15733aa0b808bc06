-- What is asked of the items of a version's code: labels and symbols are numbers of what is there.
use Rattle.std.specs.Prelude.{ℕ, ◌<◌, length}
use Rattle.gimple_ir.specs.declared.versioned.VersionedFunction.{VersionedFunction}
use Rattle.gimple_meaning.specs.Versioned.{ArrayFits}
use Rattle.rv64_select.specs.declared.item.Symbol.{Symbol}
use Rattle.rv64_select.specs.declared.item.Symbol.TheVariants as symbols
use Rattle.rv64_select.specs.declared.item.Item.{Item}
use Rattle.rv64_select.specs.declared.item.Item.TheVariants as item

abbrev pub LabelBelow : ℕ → Item → Type 0
LabelBelow labels (item.Label l) = l < labels
LabelBelow labels _ = Unit {0}

abbrev pub SymbolFits : VersionedFunction → Symbol → Type 0
SymbolFits f (symbols.Target call) = call < length f.calls
SymbolFits f (symbols.Array array) = ArrayFits f array
SymbolFits f _ = Unit {0}
