use Rattle.std.proofs.Common.{◌≡◌, ◌-◌, ◌∙◌, ap, sym, length, take, arith}
use Rattle.std.specs.Vec.{vec_len}
use Rattle.gimple_syntax.specs.Numbers.{shortened, ends_in_zero}
use Rattle.gimple_syntax.proofs.Zeros.{shortened-is, shortened-drop}
use Rattle.gimple_syntax.proofs.literals.drop_zeros.Goals as goal

pub zeros-preserved : goal.zeros-preserved
zeros-preserved c =
    let len : vec_len c.zeros.values ≡ length c.zeros.values.items = omega arith in
    ap shortened c.pop-zero.ensures.rest
    ∙ ap (λ n. shortened (take (n - 1) c.zeros.values.items)) len
    ∙ shortened-drop c.zeros.values.items (ap ends_in_zero (sym c.as_slice.ensures.value) ∙ sym c.ends_in_zero.ensures ∙ c.zeros-test.true)
    ∙ c.zeros.invariant

pub returns : goal.returns
returns c =
    sym (shortened-is c.zeros.values.items (ap ends_in_zero (sym c.as_slice.ensures.value) ∙ sym c.ends_in_zero.ensures ∙ c.zeros-test.false))
    ∙ c.zeros.invariant
