use Rattle.std.proofs.Common.{◌≡◌, ◌∙◌}
use Rattle.module_stream.specs.Fields.{counted_of}
use Rattle.lto_object.specs.SymbolStream.{stored_of, symbol_bytes}
use Rattle.lto_object.proofs.SymbolLaws.{symbols_spelled}
use Rattle.lto_object.proofs.symbols.encode_symbols.Goals as goal

pub returns : goal.returns
returns c =
    let written : c.put_counted.new.out.items ≡ counted_of (λ s. symbol_bytes (stored_of s)) c.args.symbols.now = rw c.new-out.ensures.items at c.in_ok-put_counted.ensures in
    written ∙ symbols_spelled c.args.symbols.now
