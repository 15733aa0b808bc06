use Rattle.std.proofs.Common.{◌++◌}
use Rattle.final_link.specs.Stubs.{start_stub, putchar_stub, getchar_stub}
use Rattle.final_link.proofs.CodeLaws.{on_ok, two-codes}
use Rattle.final_link.proofs.stubs.put_stubs.Goals as goal

pub returns-clause-words : goal.returns-clause-words
returns-clause-words c =
    on_ok c.put_getchar_stub.result _ _ (λ e. two-codes c.args.out.now.items c.put_start_stub.new.out.items c.put_getchar_stub.new.out.items
    (start_stub c.args.top c.args.main) (putchar_stub c.args.scratch ++ getchar_stub c.args.scratch) c.in_ok-put_start_stub.ensures.words
    (two-codes c.put_start_stub.new.out.items c.put_putchar_stub.new.out.items c.put_getchar_stub.new.out.items (putchar_stub c.args.scratch) (getchar_stub c.args.scratch)
    c.in_ok-put_putchar_stub.ensures.words e)) c.put_getchar_stub.ensures.words
