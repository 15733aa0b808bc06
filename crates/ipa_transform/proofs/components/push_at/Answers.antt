use Rattle.std.proofs.Common.{◌≤◌, ◌++◌, length, sym, ap, ◌∙◌, append-nil, rules}
use Rattle.ipa_transform.proofs.Sums.{at_past}
use Rattle.ipa_transform.proofs.components.push_at.Goals as goal

-- nothing stands there
pub returns-else-place-len : goal.returns-else-place-len
returns-else-place-len c =
    let past : length c.args.operands.now ≤ c.args.place = search rules in
    sym (ap (λ more. c.args.kept.now.items ++ more) (at_past c.args.operands.now c.args.place past) ∙ append-nil c.args.kept.now.items)
