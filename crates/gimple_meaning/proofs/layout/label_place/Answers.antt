use Rattle.std.proofs.Common.{◌∙◌, sym, ap, length}
use Rattle.std.specs.Prelude.{unwrap_or}
use Rattle.gimple_meaning.proofs.Places.{place_found}
use Rattle.gimple_meaning.proofs.layout.label_place.Goals as goal

pub returns-in-Some : goal.returns-in-Some
returns-in-Some c = ap (λ o. unwrap_or o (length c.args.body.now)) c.in-Some.ensures ∙ sym (place_found c.args.label c.args.body.now)

pub returns-in-None : goal.returns-in-None
returns-in-None c = ap (λ o. unwrap_or o (length c.args.body.now)) c.in-None.ensures ∙ sym (place_found c.args.label c.args.body.now)
