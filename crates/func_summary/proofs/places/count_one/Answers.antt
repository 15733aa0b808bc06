use Rattle.std.proofs.Common.{◌≤◌, ◌<◌, length, sym, ap, ◌∙◌, rules}
use Rattle.func_summary.specs.Summaries.{facts_of, places_naming}
use Rattle.func_summary.specs.Tables.{facts_more}
use Rattle.func_summary.proofs.Keyed.{rows_past, rows_more, rows_at, facts_of-more}
use Rattle.func_summary.proofs.places.count_one.Goals as goal

pub returns-then-component-len : goal.returns-then-component-len
returns-then-component-len c count before is =
    let past : length c.args.table.now.items ≤ c.args.place.component = search rules in
    rows_past (λ p. p.component) facts_of count before c.args.place c.args.table.now.items is past

pub returns : goal.returns
returns c count before is =
    let place = c.args.place in
    let inside : place.component < length c.args.table.now.items = search rules in
    let row = c.index.ensures ∙ rows_at (λ p. p.component) facts_of count before c.args.table.now.items place.component c.index.result.now is inside in
    let next = c.with_place.ensures ∙ ap (λ r. facts_more r place) row ∙ sym (facts_of-more (places_naming place.component before) place) in
    rows_more (λ p. p.component) facts_of count before place c.args.table.now.items c.with_place.result is next
