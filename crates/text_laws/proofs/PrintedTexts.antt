-- What is printed of a checked module spells its items.
use Rattle.gimple_ir.specs.declared.types.Module.{Module}
use Rattle.gimple_ir.specs.Programs.{IsChecked}
use Rattle.gimple_tokens.specs.Tokens.{tokens_of}
use Rattle.gimple_grammar.specs.Texts.{Spells}
use Rattle.gimple_print.specs.Canonical.{text_of}
use Rattle.text_laws.specs.Syntax.{syntax_of}
use Rattle.text_laws.proofs.StatementTexts.{lines_read}
use Rattle.text_laws.proofs.Printable.{printable}
use Rattle.text_laws.proofs.ItemTexts.{printed_by_lines}

pub printed_spells : (m : Module) → IsChecked m → Spells (tokens_of (text_of m)) (syntax_of m)
printed_spells m c = printed_by_lines m c (λ i f here defined line r. lines_read m f line f.body r (printable m i f c here defined))
