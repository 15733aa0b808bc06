use Rattle.gimple_syntax.specs.Passes.{items_read}
use Rattle.gimple_syntax.proofs.Texts.{is_found, is_only, is_first, is_exact}
use Rattle.gimple_syntax.proofs.Outlined.{answered}
use Rattle.gimple_syntax.proofs.read.read_module.Goals as goal

pub returns-clause-found : goal.returns-clause-found
returns-clause-found c =
    let a = answered c.read_and_checked.result (items_read c.args.text.now) c.read_and_checked.ensures in
    is_found c.args.text.now c.read_and_checked.result a.0 a.2 (c.reading_laws.ensures.found a.0 a.1)

pub returns-clause-only : goal.returns-clause-only
returns-clause-only c =
    let a = answered c.read_and_checked.result (items_read c.args.text.now) c.read_and_checked.ensures in
    is_only c.args.text.now c.read_and_checked.result a.0 a.2 (λ items spelled. c.reading_laws.ensures.only a.0 items a.1 spelled)

pub returns-clause-first : goal.returns-clause-first
returns-clause-first c =
    let a = answered c.read_and_checked.result (items_read c.args.text.now) c.read_and_checked.ensures in
    is_first c.args.text.now c.read_and_checked.result a.0 a.2 (c.reading_laws.ensures.found a.0 a.1) (c.reading_laws.ensures.first a.0 a.1)

pub returns-clause-exact : goal.returns-clause-exact
returns-clause-exact c =
    let a = answered c.read_and_checked.result (items_read c.args.text.now) c.read_and_checked.ensures in
    is_exact c.args.text.now c.read_and_checked.result a.0 a.2 a.1
