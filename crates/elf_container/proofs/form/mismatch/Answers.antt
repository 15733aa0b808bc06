use Rattle.std.proofs.Common.{sym, ◌∙◌, arith}
use Rattle.elf_container.proofs.FormSteps.{mismatch_ends}
use Rattle.elf_container.proofs.form.mismatch.Goals as goal

pub returns : goal.returns
returns c = sym (c.loop-place.invariant ∙ mismatch_ends c.args.from c.loop-place.place c.args.bytes.now c.args.wanted.now (omega arith))
