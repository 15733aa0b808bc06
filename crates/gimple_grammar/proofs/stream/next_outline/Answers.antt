use Rattle.std.proofs.Common.{sym, ◌∙◌}
use Rattle.gimple_tokens.specs.Reading.{line_of}
use Rattle.gimple_grammar.proofs.StreamLaws.{no-outline, next-outline, no-fault-outline}
use Rattle.gimple_grammar.proofs.stream.next_outline.Goals as goal

pub returns-then-is_end : goal.returns-then-is_end
returns-then-is_end c = no-outline c.args.reader.now c.args.reader.now (line_of c.args.reader.now) (c.is_end.ensures.last c.if-is_end.true)

pub returns-in-Ok : goal.returns-in-Ok
returns-in-Ok c = next-outline c.in-Ok.outline c.args.reader.now c.outline_line.new.reader (sym c.is_end.ensures.value ∙ c.if-is_end.false) c.in-Ok.ensures

pub returns-in-Err-Fault : goal.returns-in-Err-Fault
returns-in-Err-Fault c =
    let stopped = rw c.in-Err-Fault.field-0-is at c.in-Err-Fault.ensures in
    no-fault-outline c.in-Err-Fault.kind c.args.reader.now c.outline_line.new.reader (sym c.is_end.ensures.value ∙ c.if-is_end.false) stopped
