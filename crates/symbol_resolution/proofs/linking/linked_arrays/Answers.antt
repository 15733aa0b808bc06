use Rattle.std.proofs.Common.{length, map, ◌∙◌}
use Rattle.symbol_resolution.specs.Numbers.{array_number}
use Rattle.symbol_resolution.proofs.ArrayLaws.{ascending_below}
use Rattle.symbol_resolution.proofs.linking.linked_arrays.Goals as goal

pub returns : goal.returns
returns c =
    let is = c.in_ok-numbers.ensures in
    c.from_vec.ensures
    ∙ ascending_below (length c.args.arrays.now) c.ascending.result.items (map (array_number c.args.arrays.now c.args.object c.args.source.now) c.args.named.now)
    c.ascending.ensures.ascends
    (λ x h. c.ascending.ensures.keeps x (rw is h))
    (λ x h. rw is at (c.ascending.ensures.adds_none x h))
