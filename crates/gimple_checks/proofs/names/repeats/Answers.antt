use Rattle.std.proofs.Common.{◌≡◌, ◌+◌, ◌||◌, [], map, take, drop, true, false, arith, ap, ◌∙◌, sym, Some}
use Rattle.gimple_ir.specs.Names.{is_among, repeats_after}
use Rattle.gimple_checks.proofs.Lists.{map_here, slice_get_at}
use Rattle.gimple_checks.proofs.SeenNames.{seen-add, repeats_after-here}
use Rattle.gimple_checks.proofs.names.repeats.Goals as goal

pub returns-then-branch : goal.returns-then-branch
returns-then-branch g c =
    let names = map g.T.Named.name_of c.args.items.now in
    let i = c.loop-item.item-index in
    let here =
    map_here g.T.Named.name_of c.args.items.now i c.item-item.result (slice_get_at c.args.items.now i c.item-item.result (omega arith) c.item-item.is)
    ∙ ap Some (sym c.name.ensures) in
    let found : is_among (take i names) c.name.result.now ≡ true =
    sym (c.loop-item.invariant.seen c.name.result.now) ∙ sym c.in_ok-add.ensures.found ∙ c.if-branch.true in
    sym (c.loop-item.invariant.rest ∙ repeats_after-here names i c.name.result.now here
    ∙ ap (λ b. b || repeats_after (take (i + 1) names) (drop (i + 1) names)) found)

pub loop-item-preserved : goal.loop-item-preserved
loop-item-preserved g c =
    let names = map g.T.Named.name_of c.args.items.now in
    let i = c.loop-item.item-index in
    let here =
    map_here g.T.Named.name_of c.args.items.now i c.item-item.result (slice_get_at c.args.items.now i c.item-item.result (omega arith) c.item-item.is)
    ∙ ap Some (sym c.name.ensures) in
    let found : is_among (take i names) c.name.result.now ≡ false =
    sym (c.loop-item.invariant.seen c.name.result.now) ∙ sym c.in_ok-add.ensures.found ∙ c.if-branch.false in
    record {
      seen = seen-add [] names i c.name.result.now c.loop-item.seen c.add.new.seen here c.loop-item.invariant.seen c.in_ok-add.ensures.added;
      rest =
          c.loop-item.invariant.rest ∙ repeats_after-here names i c.name.result.now here
          ∙ ap (λ b. b || repeats_after (take (i + 1) names) (drop (i + 1) names)) found;
    }
