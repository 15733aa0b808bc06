use Rattle.gimple_meaning.proofs.Parts.{elements-first}
use Rattle.gimple_meaning.proofs.arrays.Arrays.start.Goals as goal

pub invariant_of-result : goal.invariant_of-result
invariant_of-result c =
    rw (c.in_ok-numbers.ensures, c.as_slice.ensures) (elements-first c.args.declared.now c.requires)
