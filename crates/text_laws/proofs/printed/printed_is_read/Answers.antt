use Rattle.text_laws.specs.Syntax.{syntax_of}
use Rattle.text_laws.proofs.PrintedTexts.{printed_spells}
use Rattle.text_laws.proofs.Numbering.{numbered}
use Rattle.text_laws.proofs.printed.printed_is_read.Goals as goal

pub returns : goal.returns
returns c = record {
  spelled = λ m checked. record { items = syntax_of m; spelled = printed_spells m checked; numbered = numbered m checked; faultless = checked.faultless };
}
