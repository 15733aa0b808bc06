use Rattle.std.proofs.Common.{◌∙◌, ap, sym, map}
use Rattle.gimple_syntax.specs.Numbers.{number_of}
use Rattle.gimple_syntax.proofs.Tables.{number-found, number-absent}
use Rattle.gimple_syntax.proofs.table.NameTable.number.Goals as goal

pub returns-in-Some : goal.returns-in-Some
returns-in-Some c =
    number-found (map (λ n. n.now) c.self.inside.names.items) c.self.inside.numbers c.args.name.now c.in-Some.number.now c.self.invariant (sym c.in-Some.ensures.value)
    ∙ ap (λ names. number_of names c.args.name.now) c.self.view_is

pub returns-in-None : goal.returns-in-None
returns-in-None c =
    number-absent (map (λ n. n.now) c.self.inside.names.items) c.self.inside.numbers c.args.name.now c.self.invariant (sym c.in-None.ensures.value)
    ∙ ap (λ names. number_of names c.args.name.now) c.self.view_is
