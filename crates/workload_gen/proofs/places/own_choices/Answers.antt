use Rattle.std.proofs.Common.{◌≡◌, ◌-◌, ◌*◌, length, take, drop, min, sym, ap, ◌∙◌, arith}
use Rattle.std.proofs.lemmas.List.{length-drop, take_min}
use Rattle.std.proofs.Math.Seq.{take-length}
use Rattle.workload_gen.proofs.places.own_choices.Goals as goal

pub returns : goal.returns
returns c =
    let rest = drop (50 * c.args.module_number) c.args.choices.now in
    let long = length-drop (50 * c.args.module_number) c.args.choices.now in
    let whole : take (length c.args.choices.now - 50 * c.args.module_number) rest ≡ rest = ap (λ n. take n rest) (sym long) ∙ take-length rest in
    let many : c.min.result ≡ min 50 (length rest) = omega (arith, c.min.ensures, ap length whole) in
    ap (take c.min.result) whole ∙ ap (λ n. take n rest) many ∙ take_min 50 rest
