use Rattle.std.proofs.Common.{refl, arith, [], ◌∷◌}
use Rattle.std.proofs.lemmas.Grind.{common_steps}
use Rattle.whopr_top.proofs.Judging.{one_read, none_written, refused, done, show_faults}
use Rattle.whopr_top.proofs.attempt.show.Goals as goal

pub returns-in-Err-Fault-clause-judged : goal.returns-in-Err-Fault-clause-judged
returns-in-Err-Fault-clause-judged g c =
    refused _ _ _ _ _ _ 3 _ (c.in-Ok.bytes.items ∷ []) (λ is. grind (arith, is)) (λ is. grind (arith, is))
    (one_read _ _ _ _ c.in-Ok.ensures.bytes (grind (arith, common_steps, c.in-Ok.ensures.within)))
    (show_faults c.in-Ok.bytes.items _ (rw (c.in-Err-Fault.field-0-is, c.deref.ensures.value) at c.in-Err-Fault.ensures.refused))

pub returns-in-Ok-shown-clause-judged : goal.returns-in-Ok-shown-clause-judged
returns-in-Ok-shown-clause-judged g c =
    done _ _ _ _ _ _ _ [] _ (c.in-Ok.bytes.items ∷ []) refl
    (one_read _ _ _ _ c.in-Ok.ensures.bytes (grind (arith, common_steps, c.in-Ok.ensures.within)))
    (rw c.deref.ensures.value at c.in-Ok-shown.ensures.gives)
    (none_written _ _ c.read_all.ensures.unchanged)
    (λ _ _ _ _. tt)
