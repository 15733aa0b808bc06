use Rattle.follow_laws.proofs.TemplateLaws.{constant_sets, load_sets, store_stores, call_goes, enter_makes_frame, leave_returns}
use Rattle.follow_laws.proofs.templates.Goals as goal

pub returns : goal.returns
returns c = record { constant = constant_sets; load = load_sets; store = store_stores; call = call_goes; enter = enter_makes_frame; leave = leave_returns }
