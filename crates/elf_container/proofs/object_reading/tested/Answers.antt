use Rattle.std.proofs.Common.{sym, ◌∙◌}
use Rattle.elf_container.proofs.ObjectLaws.{object_is}
use Rattle.elf_container.proofs.object_reading.tested.Goals as goal

pub write_object-requires : goal.write_object-requires
write_object-requires c = object_is c.args.object (sym c.in_ok-is_object.ensures ∙ c.if-not-branch.false)
