use Rattle.std.proofs.Common.{Err, ap, refl, arith, [], ◌∷◌}
use Rattle.std.proofs.lemmas.Grind.{common_steps}
use Rattle.whopr_top.proofs.Judging.{one_read, one_written, one_cut_short, refused, done, cut_short, faithful, cc_faults, cc_links, cc_gives}
use Rattle.whopr_top.proofs.attempt.cc.Goals as goal

pub returns-in-Err-Fault-clause-judged : goal.returns-in-Err-Fault-clause-judged
returns-in-Err-Fault-clause-judged g c =
    rw c.in-Err-Fault.field-0-is (refused _ _ _ _ _ _ 9 _ (c.in-Ok.text.items ∷ []) (λ is. grind (arith, is)) (λ is. grind (arith, is))
    (one_read _ _ _ _ c.in-Ok.ensures.bytes (grind (arith, common_steps, c.in-Ok.ensures.within)))
    (cc_faults c.args.input.now _ c.in-Ok.text.items _ (rw (c.in-Err-Fault.field-0-is, c.deref.ensures.value) at c.in-Err-Fault.ensures.exact)))

pub returns-in-Err-Resolution-clause-judged : goal.returns-in-Err-Resolution-clause-judged
returns-in-Err-Resolution-clause-judged g c =
    rw c.in-Err-Resolution.field-0-is (refused _ _ _ _ _ _ 8 _ (c.in-Ok.text.items ∷ []) (λ is. grind (arith, is)) (λ is. grind (arith, is))
    (one_read _ _ _ _ c.in-Ok.ensures.bytes (grind (arith, common_steps, c.in-Ok.ensures.within)))
    (cc_links c.args.input.now c.args.out.now c.in-Ok.text.items _ _ (rw c.deref.ensures.value at c.in-Ok-read_module.ensures.exact)
    ((rw c.in-Err-Resolution.field-0-is at c.in-Err-Resolution.ensures) c.args.out.now)))

pub returns-in-Err-Limit-clause-judged : goal.returns-in-Err-Limit-clause-judged
returns-in-Err-Limit-clause-judged g c =
    rw c.in-Err-Limit.field-0-is (refused _ _ _ _ _ _ 4 _ (c.in-Ok.text.items ∷ []) (λ is. grind (arith, is)) (λ is. grind (arith, is))
    (one_read _ _ _ _ c.in-Ok.ensures.bytes (grind (arith, common_steps, c.in-Ok.ensures.within)))
    (cc_links c.args.input.now c.args.out.now c.in-Ok.text.items _ _ (rw c.deref.ensures.value at c.in-Ok-read_module.ensures.exact)
    ((rw c.in-Err-Limit.field-0-is at c.in-Err-Limit.ensures) c.args.out.now)))

pub returns-in-Ok-write_all-clause-judged : goal.returns-in-Ok-write_all-clause-judged
returns-in-Ok-write_all-clause-judged g c =
    done _ _ _ _ _ _ _ _ _ (c.in-Ok.text.items ∷ []) c.read_all.ensures.unchanged
    (one_read _ _ _ _ c.in-Ok.ensures.bytes (grind (arith, common_steps, c.in-Ok.ensures.within)))
    (cc_gives c.args.input.now c.args.out.now c.in-Ok.text.items c.in-Ok-image_of.image.items _ _ (rw c.deref.ensures.value at c.in-Ok-read_module.ensures.exact) c.in-Ok-image_of.ensures c.new.ensures.items)
    (one_written _ _ c.args.out.now _ (rw c.deref-3.ensures.value at c.in-Ok-write_all.ensures.written))
    (faithful c.linked_image_follows.ensures.loads c.linked_image_follows.ensures.follows _ c.args.input.now c.args.out.now c.in-Ok.text.items _ _
    (rw c.deref.ensures.value at c.in-Ok-read_module.ensures.exact) c.in-Ok-image_of.ensures)

pub returns-in-Err-Failed-write_all-clause-judged : goal.returns-in-Err-Failed-write_all-clause-judged
returns-in-Err-Failed-write_all-clause-judged g c =
    cut_short _ _ _ _ _ _ _ _ [] _ (c.in-Ok.text.items ∷ []) c.read_all.ensures.unchanged
    (one_read _ _ _ _ c.in-Ok.ensures.bytes (grind (arith, common_steps, c.in-Ok.ensures.within)))
    (cc_gives c.args.input.now c.args.out.now c.in-Ok.text.items c.in-Ok-image_of.image.items [] _ (rw c.deref.ensures.value at c.in-Ok-read_module.ensures.exact) c.in-Ok-image_of.ensures refl)
    (one_cut_short _ _ c.args.out.now c.in-Ok-image_of.image.items (rw c.deref-3.ensures.value at c.in-Err-Failed-write_all.ensures.cut_short (ap Err c.in-Err-Failed-write_all.field-0-is)))
    (omega (arith, c.in-Err-Failed-write_all.ensures.failed (ap Err c.in-Err-Failed-write_all.field-0-is), c.read_all.ensures.never_falls))
