use Rattle.std.proofs.Common.{◌≡◌, length, take}
use Rattle.gimple_ir.specs.CodeBound.{components_in}
use Rattle.gimple_meaning.specs.Tables.{AreFirsts}
use Rattle.gimple_meaning.proofs.layout.first_components.Given as goal

abbrev pub invariant-loop-variable : goal.invariant-loop-variable
invariant-loop-variable l =
    (l.count ≡ components_in (take l.variable-index l.variables)) × (length l.firsts.items ≡ l.variable-index) × AreFirsts l.variables l.firsts.items
