use Rattle.std.proofs.Common.{◌≡◌, None, map, sym, ap, ◌∙◌}
use Rattle.lto_object.specs.SymbolStream.{stored_of}
use Rattle.lto_object.specs.ObjectReading.{summaries_fault}
use Rattle.lto_object.proofs.CheckLaws.{none_differs}
use Rattle.lto_object.proofs.ReadLaws.{summed}
use Rattle.lto_object.proofs.checks.checked.Goals as goal

pub new-requires-clause-object : goal.new-requires-clause-object
new-requires-clause-object c =
    let source = c.args.streams.source in
    let checked = c.in_ok-type_fault.ensures.none in
    let none : summaries_fault source c.args.streams.summaries ≡ None = ap (summaries_fault source) (sym c.as_slice.ensures) ∙ c.in_ok-check_summaries.ensures.none in
    record {
      checked = checked;
      summaries = none_differs source c.args.streams.summaries (summed source checked) c.requires.summaries none;
      symbols = c.in_ok-symbols.ensures.theirs;
      bodies = c.requires.bodies;
    }

pub returns-clause-same : goal.returns-clause-same
returns-clause-same c =
    (sym c.new.ensures.summaries, sym c.as_slice-2.ensures ∙ c.in_ok-symbols.ensures.same ∙ ap (map stored_of) (sym c.new.ensures.symbols))
