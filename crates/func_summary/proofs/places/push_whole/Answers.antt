use Rattle.std.proofs.Common.{ap}
use Rattle.func_summary.specs.Summaries.{place_of, place_of_field}
use Rattle.func_summary.proofs.Keyed.{made_more}
use Rattle.func_summary.proofs.places.push_whole.Goals as goal

pub loop-field-preserved : goal.loop-field-preserved
loop-field-preserved c =
    made_more (place_of_field c.args.layout.now.variables c.args.is_argument c.args.variable) c.args.places.now.items c.loop-field.places.items
    c.push.new.self.items c.loop-field.field (place_of c.args.is_argument c.field-component.result) c.loop-field.invariant c.in_ok-push.ensures.items
    (ap (place_of c.args.is_argument) c.field-component.ensures.value)
