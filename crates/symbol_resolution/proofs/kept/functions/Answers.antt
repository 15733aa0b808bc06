use Rattle.std.proofs.Common.{◌≡◌, ◌++◌, ℕ, length, ap, sym, subst, ◌∙◌, arith}
use Rattle.std.proofs.lemmas.List.Sums.{sum_by-drop_more}
use Rattle.lto_object.specs.Objects.{ObjectData}
use Rattle.gimple_ir.specs.declared.types.Module.{Module}
use Rattle.symbol_resolution.specs.Groups.{named}
use Rattle.symbol_resolution.specs.Kept.{kept_functions_in, kept_functions}
use Rattle.symbol_resolution.specs.Numbers.{function_numbers}
use Rattle.symbol_resolution.proofs.KeptLaws.{functions_grown, length-named}
use Rattle.symbol_resolution.proofs.kept.functions.Goals as goal

pub loop-object-preserved : goal.loop-object-preserved
loop-object-preserved c =
    let o = c.index-objects-object.result in
    let os = c.args.objects.now in
    let n = c.loop-object.object in
    let old = c.loop-object.numbers.items in
    let new = c.push_functions.new.numbers.items in
    let kept = kept_functions_in c.args.marks.now n o.source 0 o.source.functions in
    let added : named new ≡ named old ++ function_numbers (length old) kept =
    subst (λ (m : Module). named new ≡ named old ++ function_numbers (length old) (kept_functions_in c.args.marks.now n m 0 m.functions)) c.module.ensures.value c.in_ok-push_functions.ensures.added in
    let made = added ∙ ap (λ (k : ℕ). named old ++ function_numbers k kept) (sym (length-named old)) in
    let more = sum_by-drop_more (λ (x : ObjectData). length x.source.functions) os n o c.loop-object-test.true in
    let here = ap (λ (x : ObjectData). length x.source.functions) c.index-objects-object.is in
    let count = ap (λ (m : Module). length m.functions) c.module.ensures.value in
    record {
      rest = functions_grown c.args.marks.now n os o (function_numbers 0 (kept_functions c.args.marks.now 0 os)) (named old) (named new) c.loop-object-test.true c.index-objects-object.is made c.loop-object.invariant.rest;
      room = omega (arith, c.in_ok-push_functions.ensures.few, more, here, count, c.loop-object.invariant.room);
    }
