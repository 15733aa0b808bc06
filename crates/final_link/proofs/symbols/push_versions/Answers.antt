use Rattle.std.proofs.Common.{ap, arith}
use Rattle.final_link.specs.Members.{version_size}
use Rattle.final_link.specs.Symbols.{code_end}
use Rattle.final_link.proofs.PlaceLaws.{next_ends}
use Rattle.final_link.proofs.symbols.push_versions.Goals as goal

pub overflow_cast-at : goal.overflow_cast-at
overflow_cast-at c =
    let size = version_size c.args.members.now in
    let room = next_ends size c.loop-version.at (code_end c.args.members.now c.args.versions.now) c.args.versions.now c.loop-version.version-index c.version-item.result (omega arith) c.loop-version.invariant.end in
    omega (arith, room, c.requires, ap (λ m. m.size) c.member_in.ensures, ap size c.version-item.is)

pub overflow_add-at : goal.overflow_add-at
overflow_add-at c =
    let size = version_size c.args.members.now in
    let room = next_ends size c.loop-version.at (code_end c.args.members.now c.args.versions.now) c.args.versions.now c.loop-version.version-index c.version-item.result (omega arith) c.loop-version.invariant.end in
    omega (arith, room, c.requires, ap (λ m. m.size) c.member_in.ensures, ap size c.version-item.is)
