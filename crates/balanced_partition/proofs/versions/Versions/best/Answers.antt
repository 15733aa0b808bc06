use Rattle.std.proofs.Common.{◌≡◌, ◌+◌, ◌-◌, ◌≤◌, length, sym, subst, ap, ◌∙◌, arith}
use Rattle.balanced_partition.specs.Cuts.{cut_calls, is_within}
use Rattle.balanced_partition.specs.Tables.{calls_with}
use Rattle.balanced_partition.proofs.Weights.{weight_of-le-sum}
use Rattle.balanced_partition.proofs.Crossing.{cut_calls-none, cut_calls_more, calls_with-le-cut_calls, cut_calls-le-length}
use Rattle.balanced_partition.proofs.Choosing.{IsBest, begins, takes, leaves, passes_over, same_best, ends}
use Rattle.balanced_partition.proofs.versions.Versions.best.Goals as goal
use Rattle.balanced_partition.proofs.versions.Versions.best.Goals.{then-self-weight+then-crossing-fewest, else-self-weight, else-self-weight-via-then-self-weight+else-crossing-fewest, else-self-weight-via-else-self-weight}

pub loop-version-init : goal.loop-version-init
loop-version-init c =
    let versions = c.args.self.now in
    (sym (cut_calls-none versions.calls.now c.args.from), begins versions.sizes.now versions.calls.now versions.aim c.args.from c.args.reach)

pub overflow_sub-crossing : goal.overflow_sub-crossing
overflow_sub-crossing c =
    let most = calls_with-le-cut_calls c.args.self.now.calls.now c.args.from c.loop-version.version in
    omega (arith, most, c.loop-version.invariant.0, c.calls_to-joined.ensures)

pub overflow_add-crossing : goal.overflow_add-crossing
overflow_add-crossing c =
    let versions = c.args.self.now in
    let calls = versions.calls.now in
    let v = c.loop-version.version in
    let more = cut_calls_more calls c.args.from v (length versions.sizes.now) c.loop-version.auto.version versions.between in
    let later = c.calls_to-later.ensures ∙ ap (λ n. calls_with calls v (is_within (v + 1) n)) c.count-count.ensures in
    let most = cut_calls-le-length calls c.args.from (v + 1) in
    omega (arith, more, later, most, c.loop-version.invariant.0, c.calls_to-joined.ensures)

pub overflow_mul-weight : goal.overflow_mul-weight
overflow_mul-weight c =
    let versions = c.args.self.now in
    let most = weight_of-le-sum versions.sizes.now c.args.from (c.loop-version.version + 1) (omega (arith, c.loop-version.auto.version)) in
    omega (arith, most, c.weight.ensures, versions.small)

pub loop-version-preserved : goal.loop-version-preserved
loop-version-preserved c =
    let versions = c.args.self.now in
    let sizes = versions.sizes.now in
    let calls = versions.calls.now in
    let aim = versions.aim in
    let s = c.args.from in
    let reach = c.args.reach in
    let v = c.loop-version.version in
    let start = c.loop-version.auto.version in
    let inside : v + 1 ≤ reach = omega (arith, c.loop-version-test.true) in
    let best = c.loop-version.invariant.1 in
    let more = cut_calls_more calls s v (length sizes) start versions.between in
    let later = c.calls_to-later.ensures ∙ ap (λ n. calls_with calls v (is_within (v + 1) n)) c.count-count.ensures in
    let enough = calls_with-le-cut_calls calls s v in
    let crossing : c.loop-version.crossing - c.calls_to-joined.result + c.calls_to-later.result ≡ cut_calls calls s (v + 1) = omega (arith, more, later, enough, c.loop-version.invariant.0, c.calls_to-joined.ensures) in
    let weight = c.weight.ensures in (
      crossing,
      elim c.if-self-weight.branch [
        | then-self-weight+then-crossing-fewest w ↦
            same_best sizes calls aim s reach (v + 1) (v + 1) _ c.if-self-weight.cut c.if-self-weight.fewest w.cut-is w.fewest-is
            (takes sizes calls aim s reach v c.loop-version.cut c.loop-version.fewest _ start inside (omega (arith, w.if-self-weight.true, weight)) crossing w.if-crossing-fewest.true best)
        | else-self-weight w ↦
            same_best sizes calls aim s reach (v + 1) c.loop-version.cut c.loop-version.fewest c.if-self-weight.cut c.if-self-weight.fewest w.cut-is w.fewest-is
            (elim w.else-self-weight.branch [
              | else-self-weight-via-then-self-weight+else-crossing-fewest x ↦
                  leaves sizes calls aim s reach v c.loop-version.cut c.loop-version.fewest _ start inside (omega (arith, x.if-self-weight.true, weight)) crossing x.if-crossing-fewest.false best
              | else-self-weight-via-else-self-weight x ↦ passes_over sizes calls aim s reach v c.loop-version.cut c.loop-version.fewest start (omega (arith, x.if-self-weight.false, weight)) best
            ])
      ],
    )

pub returns : goal.returns
returns c =
    let versions = c.args.self.now in
    let end : c.loop-version.version ≡ c.args.reach = omega (arith, c.loop-version-test.false, c.loop-version.auto.version-end, c.requires.from) in
    ends versions.sizes.now versions.calls.now versions.aim c.args.from c.args.reach c.loop-version.cut c.loop-version.fewest c.requires.from c.requires.reach c.requires.is
    (subst (λ p. IsBest versions.sizes.now versions.calls.now versions.aim c.args.from c.args.reach p c.loop-version.cut c.loop-version.fewest) end c.loop-version.invariant.1)
