use Rattle.std.proofs.Common.{◌≡◌, ◌++◌, ℕ, length, ap, sym, ◌∙◌, arith}
use Rattle.std.proofs.lemmas.List.Sums.{sum_by-drop_more}
use Rattle.lto_object.specs.Objects.{ObjectData}
use Rattle.gimple_ir.specs.declared.types.Module.{Module}
use Rattle.symbol_resolution.specs.Groups.{named}
use Rattle.symbol_resolution.specs.Kept.{kept_arrays_in, kept_arrays}
use Rattle.symbol_resolution.specs.Numbers.{array_numbers}
use Rattle.symbol_resolution.proofs.KeptLaws.{arrays_grown, length-named}
use Rattle.symbol_resolution.proofs.kept.arrays.Goals as goal

pub loop-object-preserved : goal.loop-object-preserved
loop-object-preserved c =
    let o = c.index-objects-object.result in
    let os = c.args.objects.now in
    let n = c.loop-object.object in
    let old = c.loop-object.numbers.items in
    let new = c.push_arrays.new.numbers.items in
    let kept = kept_arrays_in c.args.marks.now n 0 o.source.arrays in
    let added : named new ≡ named old ++ array_numbers (length old) kept = rw c.module.ensures.value at c.in_ok-push_arrays.ensures.added in
    let made = added ∙ ap (λ (k : ℕ). named old ++ array_numbers k kept) (sym (length-named old)) in
    let more = sum_by-drop_more (λ (x : ObjectData). length x.source.arrays) os n o c.loop-object-test.true in
    let here = ap (λ (x : ObjectData). length x.source.arrays) c.index-objects-object.is in
    let count = ap (λ (m : Module). length m.arrays) c.module.ensures.value in
    record {
      rest = arrays_grown c.args.marks.now n os o (array_numbers 0 (kept_arrays c.args.marks.now 0 os)) (named old) (named new) c.loop-object-test.true c.index-objects-object.is made c.loop-object.invariant.rest;
      room = omega (arith, c.in_ok-push_arrays.ensures.few, more, here, count, c.loop-object.invariant.room);
    }
