use Rattle.std.proofs.Common.{◌≡◌, ◌≤◌, [], true, length, get_or, sym, ap, ◌∙◌, arith}
use Rattle.std.specs.Str.{bytes_eq}
use Rattle.std.proofs.lemmas.List.{get_or_read}
use Rattle.std.proofs.lemmas.List.Sums.{position_or_len_is}
use Rattle.program_link.proofs.objects.own_place.Goals as goal

pub returns-then-eq : goal.returns-then-eq
returns-then-eq c =
    let own = c.args.own.now in
    let names = c.args.names.now in
    let i = c.loop-name.name-index in
    let here : c.name-item.result ≡ get_or names i [] = get_or_read names i c.name-item.result (omega arith) c.name-item.is [] in
    let found : bytes_eq own (get_or names i []) ≡ true = ap (bytes_eq own) (sym here) ∙ sym c.eq.ensures ∙ c.if-eq.true in
    c.loop-name.invariant.place ∙ sym (position_or_len_is (bytes_eq own) names i [] (omega arith) c.loop-name.invariant.before (λ h. found))

pub returns : goal.returns
returns c =
    let own = c.args.own.now in
    let names = c.args.names.now in
    let i = c.loop-name.name-index in
    let past : length names ≤ i = omega arith in
    let within : i ≤ length names = omega arith in
    c.loop-name.invariant.place ∙ sym (position_or_len_is (bytes_eq own) names i [] within c.loop-name.invariant.before (λ h. absurd (omega arith)))
