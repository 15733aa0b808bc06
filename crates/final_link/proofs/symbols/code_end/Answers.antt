use Rattle.std.proofs.Common.{ap, arith}
use Rattle.final_link.specs.Members.{version_size}
use Rattle.final_link.specs.Symbols.{code_end}
use Rattle.final_link.proofs.PlaceLaws.{next_ends}
use Rattle.final_link.proofs.symbols.code_end.Goals as goal

pub overflow_cast-end : goal.overflow_cast-end
overflow_cast-end c =
    let size = version_size c.args.members.now in
    let room = next_ends size c.loop-version.end (code_end c.args.members.now c.args.versions.now) c.args.versions.now c.loop-version.version-index c.version-item.result (omega arith) c.loop-version.invariant in
    omega (arith, room, c.requires, ap (λ m. m.size) c.member_in.ensures, ap size c.version-item.is)

pub overflow_add-end : goal.overflow_add-end
overflow_add-end c =
    let size = version_size c.args.members.now in
    let room = next_ends size c.loop-version.end (code_end c.args.members.now c.args.versions.now) c.args.versions.now c.loop-version.version-index c.version-item.result (omega arith) c.loop-version.invariant in
    omega (arith, room, c.requires, ap (λ m. m.size) c.member_in.ensures, ap size c.version-item.is)
