use Rattle.std.proofs.Common.{◌≡◌, ◌≤◌, ◌+◌, ℕ, Option, None, length, drop, ap, sym, ◌∙◌, arith}
use Rattle.std.specs.Option.{option_or}
use Rattle.resolution_text.specs.declared.fault.ResolutionError.{ResolutionError}
use Rattle.symbol_resolution.specs.LineFaults.{file_fault, files_fault, line_after}
use Rattle.symbol_resolution.proofs.SymbolLaws.{few_symbols}
use Rattle.symbol_resolution.proofs.LineLaws.{room_for, lines_of_next, file_counts}
use Rattle.symbol_resolution.proofs.lines.check_files.Goals as goal

pub check_file-requires : goal.check_file-requires
check_file-requires c =
    let o = c.index-objects-place.result in
    let few : length o.symbols ≤ length o.source.arrays + length o.source.functions = omega (arith, ap length (sym c.symbols.ensures.value ∙ c.symbols.ensures.theirs), few_symbols o.source) in
    let room = room_for c.loop-place.line c.loop-place.place c.args.objects.now o c.loop-place-test.true c.index-objects-place.is few c.loop-place.invariant.room in
    omega (arith, room)

pub overflow_cast-line : goal.overflow_cast-line
overflow_cast-line c =
    let o = c.index-objects-place.result in
    let few : length o.symbols ≤ length o.source.arrays + length o.source.functions = omega (arith, ap length (sym c.symbols.ensures.value ∙ c.symbols.ensures.theirs), few_symbols o.source) in
    let room = room_for c.loop-place.line c.loop-place.place c.args.objects.now o c.loop-place-test.true c.index-objects-place.is few c.loop-place.invariant.room in
    omega (arith, room, ap length (c.as_slice-symbols.ensures ∙ c.symbols.ensures.value))

pub overflow_add-line : goal.overflow_add-line
overflow_add-line c =
    let o = c.index-objects-place.result in
    let few : length o.symbols ≤ length o.source.arrays + length o.source.functions = omega (arith, ap length (sym c.symbols.ensures.value ∙ c.symbols.ensures.theirs), few_symbols o.source) in
    let room = room_for c.loop-place.line c.loop-place.place c.args.objects.now o c.loop-place-test.true c.index-objects-place.is few c.loop-place.invariant.room in
    omega (arith, room, ap length (c.as_slice-symbols.ensures ∙ c.symbols.ensures.value))

pub overflow_add-line-in-loop-place : goal.overflow_add-line-in-loop-place
overflow_add-line-in-loop-place c =
    let o = c.index-objects-place.result in
    let few : length o.symbols ≤ length o.source.arrays + length o.source.functions = omega (arith, ap length (sym c.symbols.ensures.value ∙ c.symbols.ensures.theirs), few_symbols o.source) in
    let room = room_for c.loop-place.line c.loop-place.place c.args.objects.now o c.loop-place-test.true c.index-objects-place.is few c.loop-place.invariant.room in
    omega (arith, room, ap length (c.as_slice-symbols.ensures ∙ c.symbols.ensures.value))

pub loop-place-preserved : goal.loop-place-preserved
loop-place-preserved c =
    let o = c.index-objects-place.result in
    let f = c.index-files-place.result in
    let name = c.index-names-place.result in
    let line = c.loop-place.line in
    let n = c.loop-place.place in
    let few : length o.symbols ≤ length o.source.arrays + length o.source.functions = omega (arith, ap length (sym c.symbols.ensures.value ∙ c.symbols.ensures.theirs), few_symbols o.source) in
    let room = room_for line n c.args.objects.now o c.loop-place-test.true c.index-objects-place.is few c.loop-place.invariant.room in
    let count = ap length (c.as_slice-symbols.ensures ∙ c.symbols.ensures.value) in
    let none : file_fault line name o f ≡ None = c.in_default.ensures in
    let words = file_counts line name o f none in
    let names_left = drop (n + 1) c.args.names.now in
    let objects_left = drop (n + 1) c.args.objects.now in
    let files_left = drop (n + 1) c.args.files.now in
    let next = lines_of_next line n c.args.names.now c.args.objects.now c.args.files.now name o f (omega arith) c.loop-place-test.true (omega arith) c.index-names-place.is c.index-objects-place.is c.index-files-place.is in
    let at : line + (1 + length c.as_slice-symbols.result.now) ≡ line_after line f = omega (arith, count, words) in
    record {
      rest = ap (λ (k : ℕ). files_fault k names_left objects_left files_left) at
          ∙ sym (next ∙ ap (λ (e : Option ResolutionError). option_or e (files_fault (line_after line f) names_left objects_left files_left)) none)
          ∙ c.loop-place.invariant.rest;
      room = omega (arith, room, count);
    }
