use Rattle.std.proofs.Common.{sym, subst, ap, arith}
use Rattle.final_link.specs.Members.{Fits, version_size}
use Rattle.final_link.specs.Symbols.{code_end}
use Rattle.final_link.proofs.PlaceLaws.{next_ends}
use Rattle.final_link.proofs.MemberLaws.{member_fits}
use Rattle.final_link.proofs.placing.code_of.Goals as goal

pub put_member-requires-clause-fits : goal.put_member-requires-clause-fits
put_member-requires-clause-fits c = subst (Fits c.args.parts.now) (sym c.member_in-member.ensures) (member_fits c.args.parts.now c.args.members.now c.version-item.result.symbol c.requires.fits)

pub put_member-requires-clause-near : goal.put_member-requires-clause-near
put_member-requires-clause-near c =
    let size = version_size c.args.members.now in
    let room = next_ends size c.loop-version.at (code_end c.args.members.now c.args.versions.now) c.args.versions.now c.loop-version.version-index c.version-item.result (omega arith) c.loop-version.invariant.end in
    omega (arith, room, c.requires.text)

pub put_member-requires-clause-short : goal.put_member-requires-clause-short
put_member-requires-clause-short c =
    let size = version_size c.args.members.now in
    let room = next_ends size c.loop-version.at (code_end c.args.members.now c.args.versions.now) c.args.versions.now c.loop-version.version-index c.version-item.result (omega arith) c.loop-version.invariant.end in
    omega (arith, room, c.requires.text, ap (λ m. m.size) c.member_in-member.ensures, ap size c.version-item.is)

pub overflow_cast-at : goal.overflow_cast-at
overflow_cast-at c =
    let size = version_size c.args.members.now in
    let room = next_ends size c.loop-version.at (code_end c.args.members.now c.args.versions.now) c.args.versions.now c.loop-version.version-index c.version-item.result (omega arith) c.loop-version.invariant.end in
    omega (arith, room, c.requires.text, ap (λ m. m.size) c.member_in-member.ensures, ap size c.version-item.is)

pub overflow_add-at : goal.overflow_add-at
overflow_add-at c =
    let size = version_size c.args.members.now in
    let room = next_ends size c.loop-version.at (code_end c.args.members.now c.args.versions.now) c.args.versions.now c.loop-version.version-index c.version-item.result (omega arith) c.loop-version.invariant.end in
    omega (arith, room, c.requires.text, ap (λ m. m.size) c.member_in-member.ensures, ap size c.version-item.is)
