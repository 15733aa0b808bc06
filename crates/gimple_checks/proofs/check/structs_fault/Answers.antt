use Rattle.std.proofs.Common.{[], map, ap, ◌∙◌, sym}
use Rattle.gimple_ir.specs.Checks.{fault_at, struct_kind, struct_fault}
use Rattle.gimple_checks.proofs.Lists.{map_here}
use Rattle.gimple_checks.proofs.SeenNames.{seen-add}
use Rattle.gimple_checks.proofs.Faults.{faults-none, faults-some}
use Rattle.gimple_checks.proofs.check.structs_fault.Goals as goal

pub returns-in-Some : goal.returns-in-Some
returns-in-Some c =
    let same = sym (c.loop-place.invariant.seen c.get-def.result.now.name) ∙ sym c.in_ok-double.ensures.found in
    let is = ap (λ b. fault_at c.loop-place.place 0 (struct_kind b c.get-def.result.now)) same
    ∙ ap (fault_at c.loop-place.place 0) (sym c.in_ok-kind.ensures ∙ c.in-Some.is)
    ∙ c.fault_at.ensures in
    sym (c.loop-place.invariant.rest
    ∙ faults-some (struct_fault c.args.source.now) c.args.source.now.structs c.loop-place.place c.get-def.result.now c.fault_at.result c.get-def.ensures is)

pub loop-place-preserved : goal.loop-place-preserved
loop-place-preserved c =
    let same = sym (c.loop-place.invariant.seen c.get-def.result.now.name) ∙ sym c.in_ok-double.ensures.found in
    let is = ap (λ b. fault_at c.loop-place.place 0 (struct_kind b c.get-def.result.now)) same
    ∙ ap (fault_at c.loop-place.place 0) (sym c.in_ok-kind.ensures ∙ c.in_default.is) in
    record {
      seen =
          seen-add [] (map (λ t. t.name) c.args.source.now.structs) c.loop-place.place c.get-def.result.now.name c.loop-place.seen c.add.new.seen
          (map_here (λ t. t.name) c.args.source.now.structs c.loop-place.place c.get-def.result.now c.get-def.ensures)
          c.loop-place.invariant.seen c.in_ok-double.ensures.added;
      rest =
          c.loop-place.invariant.rest
          ∙ faults-none (struct_fault c.args.source.now) c.args.source.now.structs c.loop-place.place c.get-def.result.now c.get-def.ensures is;
    }
