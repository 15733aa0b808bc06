use Rattle.std.proofs.Common.{sym, subst}
use Rattle.gimple_ir.specs.declared.versioned.VersionedFunction.{VersionedFunction}
use Rattle.gimple_meaning.specs.Versioned.{IsVersioned}
use Rattle.rv64_select.proofs.FewSlots.{few_slots}
use Rattle.program_link.proofs.objects.compile.Goals as goal

pub frame-layout-requires : goal.frame-layout-requires
frame-layout-requires c =
    let version = c.in_ok-version.version in
    few_slots version (subst IsVersioned (sym c.in_ok-version.ensures) c.requires.versioned)
