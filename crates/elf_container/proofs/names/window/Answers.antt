use Rattle.std.proofs.Common.{drop, length, sym, ap, ◌∙◌, arith}
use Rattle.std.proofs.lemmas.List.{take_all}
use Rattle.elf_container.proofs.names.window.Goals as goal

pub returns-then-back-lt-MOST : goal.returns-then-back-lt-MOST
returns-then-back-lt-MOST c =
    c.split_at.ensures.back ∙ sym (take_all 301 (drop c.args.at c.args.names.now) (omega (arith, ap length c.split_at.ensures.back, c.if-back-lt-MOST.true)))
