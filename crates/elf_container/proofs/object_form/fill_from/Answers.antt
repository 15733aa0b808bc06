use Rattle.std.proofs.Common.{sym, ◌∙◌}
use Rattle.elf_container.specs.Relocatable.{fill_from}
use Rattle.elf_container.proofs.ObjectSteps.{fill_go, fill_within}
use Rattle.elf_container.proofs.object_form.fill_from.Goals as goal

pub loop-place-preserved : goal.loop-place-preserved
loop-place-preserved c =
    let test = sym c.stands.ensures ∙ c.if-not-stands.false in
    record {
      value = fill_go c.loop-place.at c.args.end c.args.symbols.now c.loop-place.place c.index-symbols-place.result c.in-Some.start (fill_from 0 c.args.end c.args.symbols.now) c.loop-place-test.true c.index-symbols-place.is c.in-Some.is test c.loop-place.invariant.value;
      within = fill_within c.loop-place.at c.args.end c.index-symbols-place.result.size c.in-Some.start c.loop-place.invariant.within test;
    }
