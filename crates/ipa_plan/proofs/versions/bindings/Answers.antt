use Rattle.std.proofs.Common.{◌≡◌, ◌∙◌, ◌++◌, ◌∷◌, [], map, sym, ap, arith}
use Rattle.std.specs.List.{range_with_len}
use Rattle.std.proofs.lemmas.List.FromFn.{map-range_with_len_more}
use Rattle.gimple_ir.specs.declared.lattice.Binding.TheVariants.{Arg}
use Rattle.ipa_plan.proofs.versions.bindings.Goals as goal

pub loop-number-preserved : goal.loop-number-preserved
loop-number-preserved c =
    let n = c.loop-number.number in
    c.in_ok-push.ensures.items ∙ ap (λ bs. bs ++ Arg n ∷ []) c.loop-number.invariant ∙ sym (map-range_with_len_more Arg 0 n n (omega arith))

pub returns : goal.returns
returns c =
    let end : c.loop-number.number ≡ c.args.components = omega (arith, c.loop-number-test.false, c.loop-number.auto.number-end) in
    c.from_vec.ensures ∙ c.loop-number.invariant ∙ ap (λ n. map Arg (range_with_len 0 n)) end
