use Rattle.std.proofs.Common.{◌≡◌, ◌+◌, ◌-◌, ◌∷◌, [], ◌++◌, length, cond, refl, sym, ap, ◌∙◌, arith}
use Rattle.workload_gen.specs.Modules.{declared_below, is_declared}
use Rattle.workload_gen.proofs.Declaring.{declared_below-none, declared_below-more, length-declared_below-le, counts_of, counts_of-none, counts_of-more, length-counts_of, counts_of-AreCounts}
use Rattle.workload_gen.proofs.places.tables.Goals as goal

pub loop-number-init : goal.loop-number-init
loop-number-init c =
    let own = c.args.own.now in
    let m = c.args.module_number in
    (c.new-declared.ensures.items ∙ sym c.requires.none, c.in_ok-before.ensures.items ∙ sym (counts_of-none own m c.args.end (c.args.end - c.args.end) (omega arith)))

pub overflow_cast-len : goal.overflow_cast-len
overflow_cast-len c =
    let own = c.args.own.now in
    let m = c.args.module_number in
    let n = c.loop-number.number in
    let most = length-declared_below-le own m 0 n in
    let e : 0 + n ≡ n = omega arith in
    let same = ap (λ x. length (declared_below own m x)) e in
    let none = ap length (declared_below-none own m) in
    let long = ap length c.loop-number.invariant.0 in
    omega (arith, most, same, none, long, c.len.ensures)

pub loop-number-preserved : goal.loop-number-preserved
loop-number-preserved c =
    let own = c.args.own.now in
    let m = c.args.module_number in
    let n = c.loop-number.number in
    let declared = c.loop-number.invariant.0 in
    let long = ap length declared in
    let count : c.len.result ≡ length (declared_below own m n) = omega (arith, long, c.len.ensures) in (
      c.in_ok-declare.ensures ∙ ap (λ xs. xs ++ cond (is_declared own m n) (n ∷ []) []) declared ∙ sym (declared_below-more own m n),
      c.in_ok-push.ensures.items ∙ ap (λ xs. xs ++ c.len.result ∷ []) c.loop-number.invariant.1
          ∙ ap (λ x. counts_of own m c.args.end (n - c.args.end) ++ x ∷ []) count ∙ sym (counts_of-more own m c.args.end n (n + 1) c.loop-number.auto.number refl),
    )

pub returns-clause-before : goal.returns-clause-before
returns-clause-before c =
    counts_of-AreCounts c.args.own.now c.args.module_number c.args.end (c.loop-number.number - c.args.end) _ c.loop-number.invariant.1

pub returns-clause-long : goal.returns-clause-long
returns-clause-long c =
    let long = ap length c.loop-number.invariant.1 in
    let many = length-counts_of c.args.own.now c.args.module_number c.args.end (c.loop-number.number - c.args.end) in
    omega (arith, long, many, c.loop-number.auto.number, c.loop-number.auto.number-end, c.loop-number-test.false)
