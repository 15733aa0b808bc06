use Rattle.std.proofs.Common.{◌<◌, ◌^◌, [], ◌++◌, length, get_or, sym, ap, ◌∙◌, subst, arith}
use Rattle.std.specs.Prelude.{codes, decimal}
use Rattle.std.specs.Option.{option_map_or}
use Rattle.gimple_ir.specs.declared.merged.MergedArray.{MergedArray}
use Rattle.gimple_ir.specs.Programs.{IsIdentifier}
use Rattle.final_link.specs.Arrays.{array_symbol}
use Rattle.program_link.proofs.Naming.{array_named}
use Rattle.program_link.proofs.Listing.{element_at, numbered_more}
use Rattle.program_link.proofs.symbols.array_symbols.Goals as goal

pub array_symbol-requires : goal.array_symbol-requires
array_symbol-requires c =
    let arrays = c.args.merged.now.arrays in
    let i = c.loop-number.number in
    let item = c.array-item.result in
    let same = c.as_slice-array-items.ensures in
    let inside : i < length arrays = omega (arith, c.loop-number-test.true, ap length same) in
    let is = c.array-item.is ∙ ap (λ xs. get_or xs i item) same in
    let small : i < 2 ^ 32 = omega (arith, inside, c.requires.few) in
    array_named item.name i (subst (λ (x : MergedArray). IsIdentifier x.name) (sym is) (c.requires.names i item inside)) small

pub loop-number-preserved : goal.loop-number-preserved
loop-number-preserved c =
    let merged = c.args.merged.now in
    let arrays = merged.arrays in
    let i = c.loop-number.number in
    let item = c.array-item.result in
    let same = c.as_slice-array-items.ensures in
    let inside : i < length arrays = omega (arith, c.loop-number-test.true, ap length same) in
    let is = c.array-item.is ∙ ap (λ xs. get_or xs i item) same in
    let here = element_at arrays i item inside is in
    let made = c.in_ok-array_symbol.ensures ∙ sym (ap (λ o. option_map_or (λ (a : MergedArray). a.name) o [] ++ (codes ".a" ++ decimal i)) here) in
    numbered_more (array_symbol merged) i c.in_ok-array_symbol.field-0 c.loop-number.symbols c.push.new.self made c.loop-number.invariant c.in_ok-push.ensures.ok
