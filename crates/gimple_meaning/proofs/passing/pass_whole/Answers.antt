use Rattle.std.proofs.Common.{◌≡◌, ◌∙◌, ap, ◌+◌, ◌++◌, ◌∷◌, []}
use Rattle.std.proofs.lemmas.List.Elements.{All-push}
use Rattle.std.proofs.lemmas.Grind.{common_steps}
use Rattle.std.proofs.Common.{arith}
use Rattle.gimple_meaning.specs.Acts.{cell}
use Rattle.gimple_meaning.specs.Held.{IsCell}
use Rattle.gimple_meaning.proofs.Handing.{whole-more}
use Rattle.gimple_meaning.proofs.passing.pass_whole.Goals as goal

pub loop-place-preserved : goal.loop-place-preserved
loop-place-preserved c =
    let cells = c.args.cells.now in
    let there : c.in-Some.component ≡ c.args.first + c.loop-place.place = grind (arith, common_steps) in
    let is : c.push.new.self.items ≡ c.loop-place.values.items ++ c.get.result ∷ [] = c.in_ok-push.ensures.items in
    let got : c.get.result ≡ cell cells (c.args.first + c.loop-place.place) = c.get.ensures.value ∙ ap (cell cells) there in (
      is ∙ ap (λ v. c.loop-place.values.items ++ v ∷ []) got
          ∙ whole-more cells c.args.values.now.items c.loop-place.values.items c.args.first c.loop-place.place c.loop-place.invariant.0,
      rw is (All-push IsCell c.loop-place.values.items c.get.result c.loop-place.invariant.1 c.get.ensures.well_formed),
    )
