use Rattle.std.proofs.Common.{◌∙◌, ap₂, sym}
use Rattle.bench.specs.Booleans.{first_of, width_of, count_of}
use Rattle.bench.specs.BooleanLaws.{length-numbers_from}
use Rattle.bench.proofs.solver.booleans.BooleansSystem.readers.Goals as goal

pub returns : goal.returns
returns g c =
    let system = c.args.self.now in
    let first = first_of system.shape c.args.unknown in
    let width = width_of system.shape system.unknowns in
    c.count.ensures ∙ ap₂ (λ f w. count_of f w system.unknowns) c.first_reader.ensures c.most_readers.ensures ∙ sym (length-numbers_from first (count_of first width system.unknowns))
