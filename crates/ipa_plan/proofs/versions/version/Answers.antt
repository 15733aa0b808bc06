use Rattle.std.proofs.Common.{◌<◌, ◌^◌, arith}
use Rattle.ipa_plan.proofs.Naming.{symbol_named}
use Rattle.ipa_plan.proofs.versions.version.Goals as goal

pub version_symbol-requires : goal.version_symbol-requires
version_symbol-requires c =
    let small : c.args.number < 2 ^ 32 = omega (arith, c.ranges.number) in
    symbol_named c.args.function.now.name c.args.number c.requires.function.name small
