use Rattle.std.proofs.Common.{◌∙◌, ap, ◌≡◌, ◌<◌, ◌≤◌, length, slice_set, arith}
use Rattle.std.proofs.lemmas.Grind.{common_steps}
use Rattle.std.specs.Int.{w128}
use Rattle.std.proofs.lemmas.Int.{to_z-of_z}
use Rattle.gimple_meaning.proofs.Parts.{with_element-in, with_element-past, elements-set}
use Rattle.gimple_meaning.specs.Acts.{with_element}
use Rattle.gimple_meaning.proofs.arrays.Arrays.store.Goals as goal

pub invariant_of-self : goal.invariant_of-self
invariant_of-self c =
    let xs = c.self.inside.numbers.items in
    let there : c.args.array < length xs = grind (arith, common_steps) in
    let num = to_z-of_z w128 c.args.num c.ranges.num in
    let row = c.index_mut-numbers.result.now in
    let is : slice_set xs c.args.array c.set.new.self ≡ with_element xs c.args.array c.args.place c.args.num =
    ap (slice_set xs c.args.array) (c.set.ensures ∙ ap (slice_set row c.args.place) num ∙ ap (λ r. slice_set r c.args.place c.args.num) c.index_mut-numbers.ensures.value)
    ∙ with_element-in xs c.args.array c.args.place c.args.num row there in
    rw is (elements-set c.self.inside.declared.now xs c.args.array c.args.place c.args.num c.self.invariant (rw (ap (λ s. s.declared) c.self.view_is) c.requires))

pub returns-then-array-len-clause-numbers : goal.returns-then-array-len-clause-numbers
returns-then-array-len-clause-numbers c =
    let xs = c.self.inside.numbers.items in
    let there : c.args.array < length xs = grind (arith, common_steps) in
    let num = to_z-of_z w128 c.args.num c.ranges.num in
    let row = c.index_mut-numbers.result.now in
    let is : slice_set xs c.args.array c.set.new.self ≡ with_element xs c.args.array c.args.place c.args.num =
    ap (slice_set xs c.args.array) (c.set.ensures ∙ ap (slice_set row c.args.place) num ∙ ap (λ r. slice_set r c.args.place c.args.num) c.index_mut-numbers.ensures.value)
    ∙ with_element-in xs c.args.array c.args.place c.args.num row there in
    is ∙ ap (λ old. with_element old.numbers c.args.array c.args.place c.args.num) c.self.view_is

pub returns-else-array-len-clause-numbers : goal.returns-else-array-len-clause-numbers
returns-else-array-len-clause-numbers c =
    let xs = c.self.inside.numbers.items in
    let past : length xs ≤ c.args.array = grind (arith, common_steps) in
    rw (← c.self.view_is) (with_element-past xs c.args.array c.args.place c.args.num past)
