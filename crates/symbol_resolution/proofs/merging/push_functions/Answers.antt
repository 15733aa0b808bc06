use Rattle.std.proofs.Common.{◌≡◌, ◌++◌, ◌+◌, ◌<◌, List, length, drop, map, get_or, true, sym, ap, ◌∙◌, arith}
use Rattle.gimple_ir.specs.declared.types.Function.{Function}
use Rattle.gimple_ir.specs.declared.types.Module.{Module}
use Rattle.symbol_resolution.specs.Kept.{kept_as, kept_function, kept_functions_in}
use Rattle.symbol_resolution.specs.Merging.{merged_function}
use Rattle.symbol_resolution.proofs.KeptLaws.{functions_in_step, none_kept, some_kept}
use Rattle.symbol_resolution.proofs.merging.push_functions.Goals.{in-None, in-Some+in_ok-merged_function-in-Some+in_ok-push-in-Some}
use Rattle.symbol_resolution.proofs.merging.push_functions.Goals as goal

pub loop-place-preserved : goal.loop-place-preserved
loop-place-preserved c =
    let source = c.args.item.now.source in
    let object = c.args.object in
    let f = c.function-item.result in
    let n = c.loop-place.place in
    let g = merged_function c.args.functions.now c.args.arrays.now in
    let found = kept_as c.args.marks.now true object n f.linkage f.name in
    let functions = c.as_slice-function-items.ensures ∙ ap (λ (m : Module). m.functions) c.module.ensures.value in
    let is = c.function-item.is ∙ ap (λ (fs : List Function). get_or fs n f) functions in
    let inside : n < length source.functions = omega (arith, c.loop-place-test.true, ap length functions) in
    let split = functions_in_step c.args.marks.now object source n source.functions f inside is in
    let known : c.kept_as.result ≡ found = c.kept_as.ensures ∙ ap (λ name. kept_as c.args.marks.now true object n f.linkage name) c.as_str-name.ensures.value in
    let rest = kept_functions_in c.args.marks.now object source (n + 1) (drop (n + 1) source.functions) in
    let all = kept_functions_in c.args.marks.now object source n (drop n source.functions) in
    let whole = c.args.merged.now ++ map g (kept_functions_in c.args.marks.now object source 0 source.functions) in
    elim c.match-kept_as.branch [
      | in-None w ↦ none_kept g found (kept_function object source n f) rest all c.loop-place.merged c.match-kept_as.merged whole (sym known ∙ w.in-None.is) w.merged-is split c.loop-place.invariant
      | in-Some+in_ok-merged_function-in-Some+in_ok-push-in-Some w ↦
          some_kept g found w.in-Some.exported (kept_function object source n f) rest all c.loop-place.merged c.match-kept_as.merged whole w.in_ok-merged_function-in-Some.field-0
          (sym known ∙ w.in-Some.is) w.in_ok-merged_function-in-Some.ensures (w.merged-is ∙ w.in_ok-push-in-Some.ensures.ok) split c.loop-place.invariant
    ]
