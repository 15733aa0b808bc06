use Rattle.std.proofs.Common.{◌≡◌, ◌∙◌, suc, [], ◌∷◌, ◌++◌, Err, ap, refl, arith, take, drop, Vec, ℕ}
use Rattle.std.specs.declared.alloc.Global.{Global}
use Rattle.std.proofs.lemmas.List.{map-append}
use Rattle.std.proofs.lemmas.Grind.{common_steps}
use Rattle.whopr_top.specs.Reads.{contents_of}
use Rattle.whopr_top.proofs.ReadingFiles.{told_more, told_reached, told_over, names_more, names_split, failure_is}
use Rattle.whopr_top.proofs.reads.read_files.Goals as goal

pub returns-in-Err-Failed-clause-refused : goal.returns-in-Err-Failed-clause-refused
returns-in-Err-Failed-clause-refused g c =
    let ns = c.args.names.now in
    let i = c.loop-name.name-index in
    let n = c.name-item.result in
    failure_is _ ns _ _ _ n _ c.failure_at.ensures
    (omega (arith, c.in-Err-Failed.ensures.failed (ap Err c.in-Err-Failed.field-0-is), c.loop-name.invariant.never_falls))
    (told_reached _ _ (take i ns) (contents_of c.loop-name.contents.items) n n (drop (suc i) ns) ns refl
    (names_split ns i n c.loop-name-test.true c.name-item.is) c.loop-name.invariant.held)

pub returns-in-Err-TooLong-clause-refused : goal.returns-in-Err-TooLong-clause-refused
returns-in-Err-TooLong-clause-refused g c =
    let ns = c.args.names.now in
    let i = c.loop-name.name-index in
    let n = c.name-item.result in
    told_over _ _ _ (take i ns) (contents_of c.loop-name.contents.items) n (drop (suc i) ns) ns c.loop-name.invariant.unchanged
    (names_split ns i n c.loop-name-test.true c.name-item.is) c.loop-name.invariant.held
    (rw c.as_str.ensures.value at (c.in-Err-TooLong.ensures.too_long (ap Err c.in-Err-TooLong.field-0-is)))

pub loop-name-preserved : goal.loop-name-preserved
loop-name-preserved g c =
    let ns = c.args.names.now in
    let i = c.loop-name.name-index in
    let n = c.name-item.result in
    let before = c.loop-name.contents.items in
    let pushed : c.push.new.self.items ≡ before ++ c.in-Ok.bytes ∷ [] = grind (arith, common_steps) in
    let within = c.in-Ok.ensures.within in
    record {
      unchanged = c.in-Ok.ensures.unchanged ∙ c.loop-name.invariant.unchanged;
      never_falls = omega (arith, c.in-Ok.ensures.never_falls, c.loop-name.invariant.never_falls);
      count = grind (arith, common_steps);
      within = grind (arith, common_steps, pushed, within, c.loop-name.invariant.within);
      held = rw (names_more ns i n c.loop-name-test.true c.name-item.is, pushed, map-append (λ (file : Vec ℕ Global). file.items) before (c.in-Ok.bytes ∷ []))
          (told_more _ _ _ (take i ns) (contents_of before) n c.in-Ok.bytes.items c.loop-name.invariant.unchanged c.loop-name.invariant.held
          (rw c.as_str.ensures.value at c.in-Ok.ensures.bytes) (grind (arith, common_steps, within)));
    }
