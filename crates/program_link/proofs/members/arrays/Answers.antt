use Rattle.std.proofs.Common.{ℕ, List, ◌∙◌, ap, ap₂, sym, get_or, length, arith}
use Rattle.std.specs.Option.{option_map_or}
use Rattle.std.proofs.lemmas.List.FromFn.{length-map-range_with_len}
use Rattle.gimple_ir.specs.declared.types.ElementType.{ElementType}
use Rattle.gimple_ir.specs.declared.types.ElementType.TheVariants.{UnsignedChar}
use Rattle.gimple_ir.specs.declared.unit.ArrayUse.{ArrayUse}
use Rattle.gimple_ir.specs.declared.merged.MergedArray.{MergedArray}
use Rattle.final_link.specs.Arrays.{array_symbol}
use Rattle.program_link.specs.Versions.{array_use}
use Rattle.program_link.proofs.Listing.{mapped_more, made_at, same_item}
use Rattle.program_link.proofs.members.arrays.Goals as goal

pub get-requires : goal.get-requires
get-requires c =
    let merged = c.args.merged.now in
    let known = c.requires.known c.loop-array.array-index 0 c.loop-array-test.true in
    omega (arith, known, ap length c.requires.symbols, length-map-range_with_len (array_symbol merged) 0 (length merged.arrays))

pub get-requires-in-loop-array : goal.get-requires-in-loop-array
get-requires-in-loop-array c = c.requires.known c.loop-array.array-index 0 c.loop-array-test.true

pub loop-array-preserved : goal.loop-array-preserved
loop-array-preserved c =
    let merged = c.args.merged.now in
    let i = c.loop-array.array-index in
    let item = get_or c.args.named.now i 0 in
    let known = c.requires.known i 0 c.loop-array-test.true in
    let symbol = c.in_ok-copy.ensures ∙ made_at (array_symbol merged) (length merged.arrays) c.args.symbols.now item c.get.result.now known c.requires.symbols c.get.ensures in
    let element = sym (ap (λ o. option_map_or (λ (a : MergedArray). a.item.element) o UnsignedChar) c.get-in-loop-array.ensures) in
    let made = ap₂ (λ (s : List ℕ) (e : ElementType). let u : ArrayUse = record { local = item; symbol = s; element = e } in u) symbol element in
    mapped_more (array_use merged) c.args.named.now i item _ c.loop-array.uses.items _ c.loop-array-test.true (same_item c.args.named.now i 0 c.loop-array-test.true) made
    c.loop-array.invariant c.in_ok-push.ensures.items
