use Rattle.std.proofs.Common.{◌+◌, map, ap₂, ◌∙◌, sym}
use Rattle.gimple_ir.specs.Checks.{fault_in, function_fault}
use Rattle.gimple_checks.proofs.Lists.{map_here}
use Rattle.gimple_checks.proofs.SeenNames.{seen-add}
use Rattle.gimple_checks.proofs.Faults.{faults-none, faults-some}
use Rattle.gimple_checks.proofs.check.functions_fault.Goals as goal

pub returns-in-Some : goal.returns-in-Some
returns-in-Some c =
    let same = sym (c.loop-place.invariant.seen c.get-function.result.now.name) ∙ sym c.in_ok-double.ensures.found in
    let item = ap₂ (λ a b. a + b + c.loop-place.place) (sym c.len.ensures) (sym c.len-2.ensures) in
    let is = ap₂ (λ b n. fault_in c.args.source.now b n c.get-function.result.now) same item ∙ sym c.in_ok-fault.ensures ∙ c.in-Some.is in
    sym (c.loop-place.invariant.rest
    ∙ faults-some (function_fault c.args.source.now) c.args.source.now.functions c.loop-place.place c.get-function.result.now c.in-Some.fault c.get-function.ensures is)

pub loop-place-preserved : goal.loop-place-preserved
loop-place-preserved c =
    let same = sym (c.loop-place.invariant.seen c.get-function.result.now.name) ∙ sym c.in_ok-double.ensures.found in
    let item = ap₂ (λ a b. a + b + c.loop-place.place) (sym c.len.ensures) (sym c.len-2.ensures) in
    let is = ap₂ (λ b n. fault_in c.args.source.now b n c.get-function.result.now) same item ∙ sym c.in_ok-fault.ensures ∙ c.in_default.is in
    record {
      seen =
          seen-add (map (λ a. a.name) c.args.source.now.arrays) (map (λ f. f.name) c.args.source.now.functions) c.loop-place.place
          c.get-function.result.now.name c.loop-place.seen c.add.new.seen
          (map_here (λ f. f.name) c.args.source.now.functions c.loop-place.place c.get-function.result.now c.get-function.ensures)
          c.loop-place.invariant.seen c.in_ok-double.ensures.added;
      rest =
          c.loop-place.invariant.rest
          ∙ faults-none (function_fault c.args.source.now) c.args.source.now.functions c.loop-place.place c.get-function.result.now c.get-function.ensures is;
    }
