use Rattle.gimple_grammar.specs.Items.{head, external, extern_rest, extern_by}
use Rattle.gimple_grammar.proofs.Loops.{after_first}
use Rattle.gimple_grammar.proofs.items.external.Goals as goal

pub returns : goal.returns
unfolding external
returns c = after_first head extern_rest extern_by c.extern_after.result c.args.reader.now c.head.new.reader c.extern_after.new.reader c.in_ok-head.head c.in_ok-head.ensures c.extern_after.ensures
