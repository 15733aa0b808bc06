use Rattle.std.proofs.Common.{◌≡◌, ℕ, suc, ◌+◌, ◌-◌, ◌*◌, ◌^◌, ◌<◌, ◌≤◌, length, drop, subst, sym, ap, ◌∙◌, arith, rules}
use Rattle.std.proofs.Math.Pow.{pow_mono}
use Rattle.std.proofs.lemmas.Nat.{pow_pos}
use Rattle.std.proofs.Math.Seq.{drop-length}
use Rattle.rv64_meaning.specs.Bytes.{number_of}
use Rattle.rv64_meaning.proofs.ByteLaws.{number_none, number_more, value_fits}
use Rattle.rv64_meaning.proofs.bytes.number.Goals as goal
use Rattle.rv64_meaning.proofs.bytes.number.Goals.{After-from}

pub loop-i-init : goal.loop-i-init
loop-i-init c =
    let xs = c.args.bytes.now in
    record {
      value = sym (ap number_of (drop-length xs) ∙ number_none);
      below = pow_pos (8 * (length xs - length xs));
    }

small : (n i v x : ℕ) → n ≤ 8 → 0 < i → v * 256 + x < 2 ^ (8 * suc (n - i)) → v * 256 + x < 2 ^ 64
small n i v x h p b =
    let k : 8 * suc (n - i) ≤ 64 = omega arith in
    omega (arith, pow_mono k)

next_below : (c : After-from) → c.loop-i.value * 256 + c.from.result < 2 ^ (8 * suc (length c.args.bytes.now - c.loop-i.i))
next_below c =
    let b : c.from.result < 256 = search rules in
    value_fits c.loop-i.value (length c.args.bytes.now - c.loop-i.i) c.from.result c.loop-i.invariant.below b

pub overflow_mul-value : goal.overflow_mul-value
overflow_mul-value c =
    let n = length c.args.bytes.now in
    let b = small n c.loop-i.i c.loop-i.value 0 c.requires c.loop-i-test.true (value_fits c.loop-i.value (n - c.loop-i.i) 0 c.loop-i.invariant.below (omega arith)) in
    record { fits = omega (arith, b) }

pub overflow_add-value : goal.overflow_add-value
overflow_add-value c = record { fits = small (length c.args.bytes.now) c.loop-i.i c.loop-i.value c.from.result c.requires c.loop-i-test.true (next_below c) }

pub loop-i-preserved : goal.loop-i-preserved
loop-i-preserved c =
    let xs = c.args.bytes.now in
    let i = c.loop-i.i in
    let back : suc (i - 1) ≡ i = omega arith in
    let size : suc (length xs - i) ≡ length xs - (i - 1) = omega arith in
    record {
      value = number_more xs (i - 1) c.loop-i.value c.from.result (omega arith) (c.loop-i.invariant.value ∙ ap (λ k. number_of (drop k xs)) (sym back)) c.from.ensures;
      below = subst (λ q. c.loop-i.value * 256 + c.from.result < 2 ^ (8 * q)) size (next_below c);
    }
