use Rattle.std.proofs.Common.{◌+◌, length, ap, ◌∙◌, arith}
use Rattle.std.proofs.lemmas.List.{length-append}
use Rattle.elf_container.specs.Reading.{headers_at}
use Rattle.elf_container.proofs.FormSteps.{headers_go, headers_end}
use Rattle.elf_container.proofs.headers.headers.Goals as goal

pub loop-place-preserved : goal.loop-place-preserved
loop-place-preserved c = record {
  value = rw (c.in_ok-push.ensures.items, c.header_from.ensures) (headers_go c.loop-place.headers.items c.args.count c.loop-place.place c.args.at c.args.bytes.now (headers_at c.args.count c.args.at c.args.bytes.now) (omega arith) c.loop-place.invariant.value);
  count = simp length-append at (ap length c.in_ok-push.ensures.items) ∙ ap (λ n. n + 1) c.loop-place.invariant.count;
}

pub returns-clause-value : goal.returns-clause-value
returns-clause-value c = headers_end c.loop-place.headers.items c.args.count c.loop-place.place c.args.at c.args.bytes.now (headers_at c.args.count c.args.at c.args.bytes.now) (omega arith) c.loop-place.invariant.value
