use Rattle.std.proofs.Common.{inl, refl, ap, Err}
use Rattle.whopr_top.proofs.Reporting.{first_spoken, put_spoken}
use Rattle.whopr_top.proofs.links.link.Goals as goal

pub returns-in-Ok-clause-answers : goal.returns-in-Ok-clause-answers
returns-in-Ok-clause-answers g c = (put_spoken _ _ (first_spoken c.in-Ok.linked.lines) c.tell_report.ensures.status).0

pub returns-in-Ok-clause-words : goal.returns-in-Ok-clause-words
returns-in-Ok-clause-words g c = (put_spoken _ _ (first_spoken c.in-Ok.linked.lines) c.tell_report.ensures.status).1

pub returns-in-Err-clause-links : goal.returns-in-Err-clause-links
returns-in-Err-clause-links g c = inl (record {
  refused = c.in-Err.refused;
  cause = c.in-Err.ensures.cause;
  failed = λ is. c.in-Err.ensures.failed (ap Err is);
  complete = c.in-Err.ensures.complete;
  stands = c.in-Err.ensures.refused refl;
  printed = rw (c.refusal_of.ensures.line, c.refusal_of.ensures.status) at c.report.ensures.printed;
})
