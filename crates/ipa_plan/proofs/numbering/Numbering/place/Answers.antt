use Rattle.std.proofs.Common.{length, ap, arith}
use Rattle.ipa_plan.proofs.Listing.{place_kept, length-places_of}
use Rattle.ipa_plan.proofs.numbering.Numbering.place.Goals as goal

pub get-requires : goal.get-requires
get-requires c = omega (arith, c.requires.function, ap length c.requires.numbering, length-places_of c.args.self.now.live)

pub returns : goal.returns
returns c =
    let numbering = c.args.self.now in
    place_kept numbering.live numbering.places c.args.function c.get.result.now c.requires.numbering c.get.ensures c.requires.function
