use Rattle.std.proofs.Common.{List, subst}
use Rattle.gimple_tokens.specs.Tokens.{Placed}
use Rattle.gimple_grammar.specs.Items.{module_text}
use Rattle.gimple_grammar.specs.Texts.{GivesText}
use Rattle.gimple_grammar.specs.declared.text.SyntaxError.TheVariants.{Fault}
use Rattle.std.proofs.Common.{Err}
use Rattle.gimple_grammar.proofs.TextLaws.{text-fault}
use Rattle.gimple_grammar.proofs.text.all.Goals as goal

pub returns-in-Err-Fault-clause-exact : goal.returns-in-Err-Fault-clause-exact
returns-in-Err-Fault-clause-exact c =
    subst (λ (ts : List Placed). GivesText (Err (Fault (record { line = c.line.result; kind = c.in-Err-Fault.kind }))) (module_text.read ts)) c.new-reader.ensures.tokens
    (text-fault c.in-Err-Fault.kind c.line.result c.new-reader.result c.more_items.new.reader (rw c.in-Err-Fault.field-0-is at c.in-Err-Fault.ensures.given) c.line.ensures.value c.line.ensures.some)
