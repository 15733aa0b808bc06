use Rattle.std.proofs.Common.{◌+◌, ◌<◌, Some, ◌∙◌, ap, sym, subst}
use Rattle.bench.specs.Booleans.{first_of, width_of, count_of}
use Rattle.bench.specs.BooleanLaws.{length-numbers_from, numbers_from-at}
use Rattle.bench.proofs.solver.booleans.BooleansSystem.reader.Goals as goal

pub returns : goal.returns
returns g c =
    let system = c.args.self.now in
    let first = first_of system.shape c.args.unknown in
    let count = count_of first (width_of system.shape system.unknowns) system.unknowns in
    let within : c.args.k < count = subst (λ n. c.args.k < n) (length-numbers_from first count) c.requires.k in
    numbers_from-at first count c.args.k within ∙ ap (λ f. Some (f + c.args.k)) (sym c.first_reader.ensures)
