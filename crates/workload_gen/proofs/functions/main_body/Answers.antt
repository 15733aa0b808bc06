use Rattle.std.proofs.Common.{◌*◌, ◌++◌, ◌∷◌, [], length, sym, ap, ◌∙◌, arith}
use Rattle.gimple_ir.specs.declared.types.Statement.TheVariants.{Copy}
use Rattle.workload_gen.specs.Draws.{next, drawn}
use Rattle.workload_gen.specs.Choices.{unsigned}
use Rattle.workload_gen.specs.Modules.{place_in}
use Rattle.workload_gen.proofs.Listing.{rounds-none, rounds_more, after-none, after-next, main_whole}
use Rattle.workload_gen.proofs.functions.main_body.Goals as goal

pub loop-tenth-init : goal.loop-tenth-init
loop-tenth-init c =
    let state = c.args.draws.now.state in
    let none = rounds-none (place_in c.args.places.now.choices.now 0) state in (
      sym (after-none state),
      c.in_ok-push.ensures.items ∙ ap (λ xs. xs ++ Copy 0 c.unsigned.result ∷ []) c.in_ok-body.ensures.items
          ∙ ap (λ u. Copy 0 u ∷ []) c.unsigned.ensures ∙ ap (λ xs. Copy 0 (unsigned 0) ∷ xs) (sym none),
    )

pub loop-tenth-preserved : goal.loop-tenth-preserved
loop-tenth-preserved c =
    let state = c.args.draws.now.state in
    let choices = c.args.places.now.choices.now in
    let n = c.loop-tenth.tenth in
    let at = c.place.ensures ∙ ap (λ m. place_in choices m (10 * n)) c.requires.first in
    let is = c.draw-drawn.ensures.value ∙ ap (λ x. drawn (next x) 3) c.loop-tenth.invariant.0 in (
      c.draw-drawn.ensures.state ∙ ap next c.loop-tenth.invariant.0 ∙ sym (after-next state n),
      rounds_more (place_in choices 0) state n c.place.result c.draw-drawn.result _ _ _ at is c.loop-tenth.invariant.1 c.in_ok-push_round.ensures,
    )

pub returns : goal.returns
returns c =
    main_whole (place_in c.args.places.now.choices.now 0) c.args.draws.now.state (length c.args.places.now.choices.now) c.loop-tenth.tenth _ _
    (omega (arith, c.loop-tenth.auto.tenth-end, c.loop-tenth-test.false, c.div_ceil-many.ensures)) c.loop-tenth.invariant.1 (c.from_vec.ensures ∙ c.in_ok-push_end.ensures)
