use Rattle.std.proofs.Common.{arith}
use Rattle.func_summary.proofs.Components.{components_of-within}
use Rattle.func_summary.proofs.layout.Layout.field.Goals as goal

pub returns-clause-within : goal.returns-clause-within
returns-clause-within c h = omega (arith, h, c.first.ensures.value, components_of-within c.args.self.now.variables c.args.variable)
