use Rattle.std.proofs.Common.{sym, ◌∙◌}
use Rattle.gimple_grammar.specs.Items.{item}
use Rattle.gimple_grammar.proofs.OutlineLaws.{extern-short}
use Rattle.gimple_grammar.proofs.outlines.outline_item.Goals as goal

pub returns-then-is_word-2 : goal.returns-then-is_word-2
unfolding item
returns-then-is_word-2 c =
    rw (sym c.is_word.ensures ∙ c.if-is_word.false, sym c.is_word-2.ensures ∙ c.if-is_word-2.true, c.skip_word-then-is_word-2.ensures)
    (extern-short c.external.result c.external.new.reader c.skip_word-then-is_word-2.new.reader c.external.ensures)
