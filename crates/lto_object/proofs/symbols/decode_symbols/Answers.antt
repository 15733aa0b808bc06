use Rattle.std.proofs.Common.{length, ap, subst, ◌∙◌, arith}
use Rattle.module_stream.specs.Readers.{GivesAll}
use Rattle.module_stream.proofs.Inside.{is_within}
use Rattle.lto_object.specs.SymbolStream.{read_symbols}
use Rattle.lto_object.proofs.SymbolLaws.{symbols_found, symbols_again, symbols_faults}
use Rattle.lto_object.proofs.symbols.decode_symbols.Goals as goal

pub returns-clause-found : goal.returns-clause-found
returns-clause-found c = symbols_found c.args.bytes.now c.all_symbols.result (λ i. omega (arith, c.type_inv.bytes i)) c.all_symbols.ensures

pub returns-clause-only : goal.returns-clause-only
returns-clause-only c = λ symbols fits e.
    subst (λ f. GivesAll c.all_symbols.result f) (ap read_symbols e ∙ symbols_again symbols fits) c.all_symbols.ensures

pub returns-clause-within : goal.returns-clause-within
returns-clause-within c = is_within (length c.args.bytes.now) c.all_symbols.result (read_symbols c.args.bytes.now) (symbols_faults c.args.bytes.now) c.all_symbols.ensures
