use Rattle.std.proofs.Common.{arith, refl}
use Rattle.outer_files.proofs.Held.{position_parts, writes_in_place, held_at, not_held, empties_held, empties_not_held}
use Rattle.outer_files.proofs.memory_files.empty_out.Goals as goal

pub returns-in-Some : goal.returns-in-Some
returns-in-Some c =
    let found = rw c.deref.ensures.value at c.in-Some.ensures in
    let parts = position_parts c.args.files.now.items c.args.name.now c.in-Some.place found in
    empties_held _ _ _ _ (held_at c.args.files.now.items c.args.name.now c.index_mut.result.now (omega (arith, parts.0, parts.1)))
    (writes_in_place _ _ _ _ c.index_mut.result.now _ found c.index_mut.ensures.value refl c.clear.ensures.items)

pub returns-in_default : goal.returns-in_default
returns-in_default c = empties_not_held _ _ (not_held c.args.files.now.items c.args.name.now (rw c.deref.ensures.value at c.in_default.ensures))
