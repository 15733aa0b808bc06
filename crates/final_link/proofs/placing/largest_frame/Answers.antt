use Rattle.std.proofs.Common.{sym, subst}
use Rattle.final_link.specs.Members.{Fits}
use Rattle.final_link.proofs.MemberLaws.{member_fits}
use Rattle.final_link.proofs.placing.largest_frame.Goals as goal

pub words_of-requires : goal.words_of-requires
words_of-requires c = subst (Fits c.args.parts.now) (sym c.member_in-member.ensures) (member_fits c.args.parts.now c.args.members.now c.version-item.result.symbol c.requires)
