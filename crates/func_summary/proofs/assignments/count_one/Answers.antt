use Rattle.std.proofs.Common.{◌≤◌, ◌<◌, length, sym, ap, ◌∙◌, rules}
use Rattle.func_summary.specs.JumpFunctions.{assignments_to}
use Rattle.func_summary.specs.Tables.{assigned_of, assigned_more}
use Rattle.func_summary.proofs.Keyed.{rows_past, rows_more, rows_at, assigned_of-more}
use Rattle.func_summary.proofs.assignments.count_one.Goals as goal

pub returns-then-to-len : goal.returns-then-to-len
returns-then-to-len c count before is =
    let past : length c.args.table.now.items ≤ c.args.assignment.to = search rules in
    rows_past (λ a. a.to) assigned_of count before c.args.assignment c.args.table.now.items is past

pub returns : goal.returns
returns c count before is =
    let a = c.args.assignment in
    let inside : a.to < length c.args.table.now.items = search rules in
    let row = c.index.ensures ∙ rows_at (λ b. b.to) assigned_of count before c.args.table.now.items a.to c.index.result.now is inside in
    let next = c.once_more.ensures ∙ ap (λ r. assigned_more r a.value) row ∙ sym (assigned_of-more (assignments_to a.to before) a) in
    rows_more (λ b. b.to) assigned_of count before a c.args.table.now.items c.once_more.result is next
