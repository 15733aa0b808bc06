use Rattle.std.proofs.Common.{◌+◌, [], Some, length, map, ap, ◌∙◌, sym}
use Rattle.gimple_ir.specs.Checks.{fault_at, array_kind, array_fault}
use Rattle.gimple_checks.proofs.Lists.{map_here}
use Rattle.gimple_checks.proofs.SeenNames.{seen-add}
use Rattle.gimple_checks.proofs.Faults.{faults-none, faults-some}
use Rattle.gimple_checks.proofs.check.arrays_fault.Goals as goal

pub returns-in-Some-clause-found : goal.returns-in-Some-clause-found
returns-in-Some-clause-found c =
    let item = length c.args.source.now.structs + c.loop-place.place in
    let same = sym (c.loop-place.invariant.seen c.get-array.result.now.name) ∙ sym c.in_ok-double.ensures.found in
    let is = ap (λ b. fault_at item 0 (array_kind b c.get-array.result.now)) same
    ∙ ap (fault_at item 0) (sym c.array_kind.ensures ∙ c.in-Some.is)
    ∙ ap (λ n. fault_at (n + c.loop-place.place) 0 (Some c.in-Some.kind)) (sym c.len-structs.ensures)
    ∙ c.fault_at.ensures in
    sym (c.loop-place.invariant.rest
    ∙ faults-some (array_fault c.args.source.now) c.args.source.now.arrays c.loop-place.place c.get-array.result.now c.fault_at.result c.get-array.ensures is)

pub loop-place-preserved : goal.loop-place-preserved
loop-place-preserved c =
    let item = length c.args.source.now.structs + c.loop-place.place in
    let same = sym (c.loop-place.invariant.seen c.get-array.result.now.name) ∙ sym c.in_ok-double.ensures.found in
    let is = ap (λ b. fault_at item 0 (array_kind b c.get-array.result.now)) same
    ∙ ap (fault_at item 0) (sym c.array_kind.ensures ∙ c.in_default.is) in
    record {
      seen =
          seen-add [] (map (λ a. a.name) c.args.source.now.arrays) c.loop-place.place c.get-array.result.now.name c.loop-place.seen c.add.new.seen
          (map_here (λ a. a.name) c.args.source.now.arrays c.loop-place.place c.get-array.result.now c.get-array.ensures)
          c.loop-place.invariant.seen c.in_ok-double.ensures.added;
      rest =
          c.loop-place.invariant.rest
          ∙ faults-none (array_fault c.args.source.now) c.args.source.now.arrays c.loop-place.place c.get-array.result.now c.get-array.ensures is;
    }
