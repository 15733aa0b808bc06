use Rattle.gimple_grammar.specs.Items.{head, defined, defined_rest, defined_by}
use Rattle.gimple_grammar.proofs.Loops.{after_first}
use Rattle.gimple_grammar.proofs.items.defined.Goals as goal

pub returns : goal.returns
unfolding defined
returns c = after_first head defined_rest defined_by c.defined_after.result c.args.reader.now c.head.new.reader c.defined_after.new.reader c.in_ok-head.head c.in_ok-head.ensures c.defined_after.ensures
