use Rattle.std.proofs.Common.{◌+◌, ◌%◌, [], ◌∷◌, refl, append_assoc, arith}
use Rattle.std.proofs.lemmas.Grind.{common_steps}
use Rattle.std.proofs.lemmas.List.{take_more_set}
use Rattle.cursors.proofs.Leb128Laws.{put_more, put_last, room_next}
use Rattle.cursors.proofs.leb128.put_uleb.Goals as goal

pub loop-rest-init : goal.loop-rest-init
loop-rest-init c = record { completes = λ tail h. h; long = refl; room = (9, omega arith, omega arith) }

pub loop-rest-preserved : goal.loop-rest-preserved
loop-rest-preserved c =
    let l = c.loop-rest in
    let byte = 128 + l.rest % 128 in
    let before = l.invariant in
    record {
      completes = λ tail h. rw (take_more_set l.spelling l.len byte (omega (arith, before.room.1, before.long)), append_assoc) (before.completes (byte ∷ tail) (put_more l.rest tail (omega arith) h));
      long = grind (arith, common_steps, before.long);
      room = room_next l.rest l.len (omega arith) before.room;
    }

pub returns-clause-ok : goal.returns-clause-ok
returns-clause-ok c =
    let l = c.loop-rest in
    let whole = l.invariant.completes (l.rest ∷ []) (omega arith, refl) in
    let written = take_more_set l.spelling l.len l.rest (omega (arith, l.invariant.room.1, l.invariant.long)) in
    rw (← put_last _ c.args.value (omega arith) whole, ← written) (grind (arith, common_steps, c.extend_from_slice.ensures.items))
