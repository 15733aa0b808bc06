use Rattle.std.proofs.Common.{sym, ◌∙◌}
use Rattle.gimple_tokens.specs.Reading.{line_of}
use Rattle.gimple_grammar.specs.Items.{item_line}
use Rattle.gimple_grammar.proofs.ItemLaws.{item_line-sound}
use Rattle.gimple_grammar.proofs.Loops.{shorter}
use Rattle.gimple_grammar.proofs.StreamLaws.{text-end, text-item, items-fault}
use Rattle.gimple_grammar.proofs.TextLaws.{text-fault}
use Rattle.gimple_grammar.proofs.stream.next_item.Goals as goal

pub returns-then-is_end : goal.returns-then-is_end
returns-then-is_end c = text-end c.args.reader.now (line_of c.args.reader.now) (c.is_end.ensures.last c.if-is_end.true)

pub returns-in-Ok : goal.returns-in-Ok
returns-in-Ok c = (
  text-item c.args.reader.now c.item_line.new.reader c.in-Ok.item (sym c.is_end.ensures.value ∙ c.if-is_end.false) c.in-Ok.ensures,
  shorter item_line item_line-sound.law c.args.reader.now c.item_line.new.reader c.in-Ok.item c.in-Ok.ensures,
)

pub returns-in-Err-Fault : goal.returns-in-Err-Fault
returns-in-Err-Fault c =
    let stopped = rw c.in-Err-Fault.field-0-is at c.in-Err-Fault.ensures in
    text-fault c.in-Err-Fault.kind c.line.result c.args.reader.now c.item_line.new.reader
    (items-fault c.in-Err-Fault.kind c.args.reader.now c.item_line.new.reader (sym c.is_end.ensures.value ∙ c.if-is_end.false) stopped)
    c.line.ensures.value c.line.ensures.some
