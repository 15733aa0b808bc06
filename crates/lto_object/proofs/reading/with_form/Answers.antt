use Rattle.std.proofs.Common.{sym, ◌∙◌}
use Rattle.lto_object.proofs.FormLaws.{form_is}
use Rattle.lto_object.proofs.reading.with_form.Goals as goal

pub returns-in-None-clause-form : goal.returns-in-None-clause-form
returns-in-None-clause-form c = form_is c.args.view (sym c.in_ok-sections_fault.ensures ∙ c.in-None.is)
