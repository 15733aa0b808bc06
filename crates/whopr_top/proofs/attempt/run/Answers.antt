use Rattle.std.proofs.Common.{◌∷◌, [], Err, sym, ◌∙◌, ap, arith}
use Rattle.std.proofs.lemmas.Grind.{common_steps}
use Rattle.whopr_top.proofs.Judging.{two_reads, one_written, one_cut_short, refused, done, cut_short, run_faults, run_gives}
use Rattle.whopr_top.proofs.Telling.{done_lined, outcome_is_some}
use Rattle.whopr_top.proofs.attempt.run.Goals as goal

pub returns-in-Ok-write_all-clause-lined : goal.returns-in-Ok-write_all-clause-lined
returns-in-Ok-write_all-clause-lined g c =
    done_lined _ _ _ _ (λ quiet. absurd quiet) (λ none. absurd (outcome_is_some _ (sym c.in-Ok-run_image.ensures.line ∙ none)))

pub returns-in-Err-Fault-clause-judged : goal.returns-in-Err-Fault-clause-judged
returns-in-Err-Fault-clause-judged g c =
    refused _ _ _ _ _ _ 11 _ (c.in-Ok.bytes.items ∷ c.in-Ok-read_all.given.items ∷ []) (λ is. grind (arith, is)) (λ is. grind (arith, is))
    (two_reads _ _ _ _ _ _ _ c.read_all.ensures.unchanged c.in-Ok.ensures.bytes (grind (arith, common_steps, c.in-Ok.ensures.within))
    c.in-Ok-read_all.ensures.bytes (grind (arith, common_steps, c.in-Ok-read_all.ensures.within)))
    (run_faults _ c.in-Ok.bytes.items c.in-Ok-read_all.given.items c.args.steps _ (rw (c.in-Err-Fault.field-0-is, c.deref.ensures.value) at c.in-Err-Fault.ensures.refused))

pub returns-in-Ok-write_all-clause-judged : goal.returns-in-Ok-write_all-clause-judged
returns-in-Ok-write_all-clause-judged g c =
    done _ _ _ _ _ _ _ _ _ (c.in-Ok.bytes.items ∷ c.in-Ok-read_all.given.items ∷ [])
    (grind (arith, c.read_all.ensures.unchanged, c.read_all-2.ensures.unchanged))
    (two_reads _ _ _ _ _ _ _ c.read_all.ensures.unchanged c.in-Ok.ensures.bytes (grind (arith, common_steps, c.in-Ok.ensures.within))
    c.in-Ok-read_all.ensures.bytes (grind (arith, common_steps, c.in-Ok-read_all.ensures.within)))
    (run_gives c.args.out.now c.in-Ok.bytes.items c.in-Ok-read_all.given.items _ _ c.args.steps (rw c.deref.ensures.value at c.in-Ok-run_image.ensures.loaded) (rw c.deref.ensures.value at c.in-Ok-run_image.ensures.output)
    (rw c.deref.ensures.value at c.in-Ok-run_image.ensures.line))
    (one_written _ _ c.args.out.now _ (rw c.deref-2.ensures.value at c.in-Ok-write_all.ensures.written))
    (λ _ _ _ _. tt)

pub returns-in-Err-Failed-write_all-clause-judged : goal.returns-in-Err-Failed-write_all-clause-judged
returns-in-Err-Failed-write_all-clause-judged g c =
    cut_short _ _ _ _ _ _ _ _ _ _ (c.in-Ok.bytes.items ∷ c.in-Ok-read_all.given.items ∷ [])
    (grind (arith, c.read_all.ensures.unchanged, c.read_all-2.ensures.unchanged))
    (two_reads _ _ _ _ _ _ _ c.read_all.ensures.unchanged c.in-Ok.ensures.bytes (grind (arith, common_steps, c.in-Ok.ensures.within))
    c.in-Ok-read_all.ensures.bytes (grind (arith, common_steps, c.in-Ok-read_all.ensures.within)))
    (run_gives c.args.out.now c.in-Ok.bytes.items c.in-Ok-read_all.given.items _ _ c.args.steps (rw c.deref.ensures.value at c.in-Ok-run_image.ensures.loaded) (rw c.deref.ensures.value at c.in-Ok-run_image.ensures.output)
    (rw c.deref.ensures.value at c.in-Ok-run_image.ensures.line))
    (one_cut_short _ _ c.args.out.now _ (rw c.deref-2.ensures.value at c.in-Err-Failed-write_all.ensures.cut_short (ap Err c.in-Err-Failed-write_all.field-0-is)))
    (omega (arith, c.in-Err-Failed-write_all.ensures.failed (ap Err c.in-Err-Failed-write_all.field-0-is), c.read_all.ensures.never_falls, c.read_all-2.ensures.never_falls))
