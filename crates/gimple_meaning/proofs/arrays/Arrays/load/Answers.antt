use Rattle.std.proofs.Common.{◌≡◌, ◌∙◌, ap, IfSome, subst}
use Rattle.std.specs.Int.{w128}
use Rattle.std.proofs.lemmas.Int.{to_z-of_z}
use Rattle.gimple_ir.specs.Values.{IsValue}
use Rattle.gimple_meaning.specs.Moves.{loaded_at}
use Rattle.gimple_meaning.specs.Held.{Storage}
use Rattle.gimple_meaning.proofs.Parts.{loaded-holds}
use Rattle.gimple_meaning.proofs.arrays.Arrays.load.Goals as goal

pub returns-clause-well_formed : goal.returns-clause-well_formed
returns-clause-well_formed c =
    let num = to_z-of_z w128 c.args.index c.ranges.index in
    let old = c.args.self.now in
    let P : Storage → Type 0 = λ s. IfSome (loaded_at s.declared s.numbers c.args.array c.args.index) IsValue in
    let holds : P old = subst P c.self.view_is (loaded-holds c.self.inside.declared.now c.self.inside.numbers.items c.args.array c.args.index c.self.invariant) in
    let is : c.read.result ≡ loaded_at old.declared old.numbers c.args.array c.args.index =
    c.read.ensures ∙ ap (loaded_at old.declared old.numbers c.args.array) num in
    rw is holds
