use Rattle.std.proofs.Common.{sym, rules, Ok, Err}
use Rattle.std.proofs.lemmas.List.Sorted.{answers_always}
use Rattle.ipa_transform.proofs.Uses.{searched}
use Rattle.ipa_transform.proofs.steps.use_of.Goals as goal

pub returns-in-Ok : goal.returns-in-Ok
returns-in-Ok c =
    let facts = c.in-Ok.ensures in
    let by_number = facts.position (λ u. u.local) (answers_always _ _ _ (λ f a r g called. search rules)) in
    sym (searched c.args.uses.now c.requires.ascends c.args.array (Ok c.in-Ok.place) facts.bound by_number).found

pub returns-in-Err : goal.returns-in-Err
returns-in-Err c =
    let facts = c.in-Err.ensures in
    let by_number = facts.position (λ u. u.local) (answers_always _ _ _ (λ f a r g called. search rules)) in
    sym (searched c.args.uses.now c.requires.ascends c.args.array (Err c.in-Err.field-0) facts.bound by_number).absent
