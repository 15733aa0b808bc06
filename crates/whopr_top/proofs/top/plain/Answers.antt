use Rattle.std.proofs.Common.{inr, refl}
use Rattle.whopr_top.proofs.Telling.{not_failed, told, reported, six_rose, fault_kept, not_done, refusal_is_some, counts}
use Rattle.whopr_top.proofs.Reporting.{no_link}
use Rattle.whopr_top.proofs.top.plain.Goals as goal

pub returns-in-Ok-clause-absent : goal.returns-in-Ok-clause-absent
returns-in-Ok-clause-absent g c = λ _ held told absent. not_failed _ refl (c.in-Ok.ensures.attempt.absent held told absent)

pub returns-in-Ok-clause-write : goal.returns-in-Ok-clause-write
returns-in-Ok-clause-write g c = λ _ six. inr (six_rose _ _ _ _ _ (rw c.deref.ensures.value at c.tell.ensures.printed) c.in-Ok.ensures.quiet six)

pub returns-in-Ok-clause-counting : goal.returns-in-Ok-clause-counting
returns-in-Ok-clause-counting g c =
    λ _. counts _ _ _ _ _ c.tell.ensures.status c.in-Ok.ensures.counted.counting (six_rose _ _ _ _ _ (rw c.deref.ensures.value at c.tell.ensures.printed) c.in-Ok.ensures.quiet)

pub returns-in-Ok-clause-cut_short : goal.returns-in-Ok-clause-cut_short
returns-in-Ok-clause-cut_short g c =
    λ _ six. let rose = six_rose _ _ _ _ _ (rw c.deref.ensures.value at c.tell.ensures.printed) c.in-Ok.ensures.quiet six in
    inr (rose.0, rose.1, c.in-Ok.ensures.judged.done refl)

pub returns-in-Ok-clause-printed : goal.returns-in-Ok-clause-printed
returns-in-Ok-clause-printed g c = λ _. told _ _ _ _ _ _ _ _ _ _ c.in-Ok.ensures.lined c.in-Ok.ensures.judged (rw c.deref.ensures.value at c.tell.ensures.printed)

pub returns-in-Ok-clause-links : goal.returns-in-Ok-clause-links
returns-in-Ok-clause-links g c = no_link _ _ c.in_default.ensures

pub returns-in-Err-clause-absent : goal.returns-in-Err-clause-absent
returns-in-Err-clause-absent g c = λ _ held told absent. fault_kept _ _ c.report.ensures.status (c.in-Err.ensures.attempt.absent held told absent)

pub returns-in-Err-clause-printed : goal.returns-in-Err-clause-printed
returns-in-Err-clause-printed g c =
    λ _. reported _ _ _ _ _ _ _ _ _ _ _ (not_done c.in-Err.refusal) (refusal_is_some c.in-Err.refusal) c.in-Err.ensures.lined c.in-Err.ensures.judged c.report.ensures.printed

pub returns-in-Err-clause-links : goal.returns-in-Err-clause-links
returns-in-Err-clause-links g c = no_link _ _ c.in_default.ensures
