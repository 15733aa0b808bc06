use Rattle.bench.proofs.objects.spelled_object.Goals as goal

-- what a text spells is checked
pub lgen-requires : goal.lgen-requires
lgen-requires c = c.read_is_checked.ensures.checked _ _ c.requires.short c.requires.spelled
