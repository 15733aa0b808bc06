use Rattle.std.proofs.Common.{Err, ap, refl, arith, []}
use Rattle.whopr_words.specs.Commands.{words_of}
use Rattle.whopr_top.specs.Reads.{contents_of}
use Rattle.whopr_top.specs.Judgements.{objects_from}
use Rattle.whopr_top.proofs.Judging.{one_written, one_cut_short, refused, done, cut_short, too_long, attempted, attempted_long, resolve_gives, small, large}
use Rattle.whopr_top.proofs.resolving.resolve.Goals as goal

pub returns-in-Err-TooLong-clause-attempt : goal.returns-in-Err-TooLong-clause-attempt
returns-in-Err-TooLong-clause-attempt g c = attempted_long _ _ _ _ c.in-Err-TooLong.ensures.unchanged (rw (c.in-Err-TooLong.field-0-is, c.deref.ensures.value, c.in-Ok.ensures) at c.in-Err-TooLong.ensures.refused)

pub returns-in-Err-TooLong-clause-judged : goal.returns-in-Err-TooLong-clause-judged
returns-in-Err-TooLong-clause-judged g c = too_long _ _ _ _ _ _ (rw (c.in-Err-TooLong.field-0-is, c.deref.ensures.value, c.in-Ok.ensures) at c.in-Err-TooLong.ensures.refused)

pub returns-in-Err-Object-clause-attempt : goal.returns-in-Err-Object-clause-attempt
returns-in-Err-Object-clause-attempt g c =
    attempted _ _ _ _ _ (contents_of c.in-Ok-read_files.contents.items) refl (λ is. grind (arith, is)) (λ is. grind (arith, is)) (rw (c.deref.ensures.value, c.in-Ok.ensures) at c.in-Ok-read_files.ensures.held) (λ _. c.in-Ok-read_files.ensures.unchanged)

pub returns-in-Err-Object-clause-judged : goal.returns-in-Err-Object-clause-judged
returns-in-Err-Object-clause-judged g c =
    rw c.in-Err-Object.field-0-is (refused _ _ _ _ _ _ 3 _ (contents_of c.in-Ok-read_files.contents.items) (λ is. grind (arith, is)) (λ is. grind (arith, is)) (rw (c.deref.ensures.value, c.in-Ok.ensures) at c.in-Ok-read_files.ensures.held)
    (small (contents_of c.in-Ok-read_files.contents.items) _ _ (grind (arith, c.deref-2.ensures.value, c.is_within_batch.ensures, c.if-not-is_within_batch.false))
    ((rw (c.in-Err-Object.field-0-is, c.deref-3.ensures.value, c.deref-4.ensures.value, c.in-Ok.ensures) at c.in-Err-Object.ensures) c.args.out.now)))

pub returns-in-Err-Resolution-clause-attempt : goal.returns-in-Err-Resolution-clause-attempt
returns-in-Err-Resolution-clause-attempt g c =
    attempted _ _ _ _ _ (contents_of c.in-Ok-read_files.contents.items) refl (λ is. grind (arith, is)) (λ is. grind (arith, is)) (rw (c.deref.ensures.value, c.in-Ok.ensures) at c.in-Ok-read_files.ensures.held) (λ _. c.in-Ok-read_files.ensures.unchanged)

pub returns-in-Err-Resolution-clause-judged : goal.returns-in-Err-Resolution-clause-judged
returns-in-Err-Resolution-clause-judged g c =
    rw c.in-Err-Resolution.field-0-is (refused _ _ _ _ _ _ 8 _ (contents_of c.in-Ok-read_files.contents.items) (λ is. grind (arith, is)) (λ is. grind (arith, is)) (rw (c.deref.ensures.value, c.in-Ok.ensures) at c.in-Ok-read_files.ensures.held)
    (small (contents_of c.in-Ok-read_files.contents.items) _ _ (grind (arith, c.deref-2.ensures.value, c.is_within_batch.ensures, c.if-not-is_within_batch.false))
    ((rw (c.in-Err-Resolution.field-0-is, c.deref-3.ensures.value, c.deref-4.ensures.value, c.in-Ok.ensures) at c.in-Err-Resolution.ensures) c.args.out.now)))

pub returns-in-Ok-write_all-clause-attempt : goal.returns-in-Ok-write_all-clause-attempt
returns-in-Ok-write_all-clause-attempt g c =
    attempted _ _ _ _ _ (contents_of c.in-Ok-read_files.contents.items) refl (λ is. grind (arith, is)) (λ is. grind (arith, is)) (rw (c.deref.ensures.value, c.in-Ok.ensures) at c.in-Ok-read_files.ensures.held) (λ is. grind (arith, is))

pub returns-in-Ok-write_all-clause-judged : goal.returns-in-Ok-write_all-clause-judged
returns-in-Ok-write_all-clause-judged g c =
    done _ _ _ _ _ _ _ _ _ (contents_of c.in-Ok-read_files.contents.items) c.in-Ok-read_files.ensures.unchanged (rw (c.deref.ensures.value, c.in-Ok.ensures) at c.in-Ok-read_files.ensures.held)
    (small (contents_of c.in-Ok-read_files.contents.items) _ _ (grind (arith, c.deref-2.ensures.value, c.is_within_batch.ensures, c.if-not-is_within_batch.false))
    (resolve_gives c.args.out.now (words_of c.args.objects.now) (objects_from 0 (contents_of c.in-Ok-read_files.contents.items)) c.in-Ok-resolution_of.text.items _
    ((rw (c.deref-3.ensures.value, c.deref-4.ensures.value, c.in-Ok.ensures) at c.in-Ok-resolution_of.ensures) c.args.out.now) c.new.ensures.items))
    (one_written _ _ c.args.out.now c.in-Ok-resolution_of.text.items (rw c.deref-5.ensures.value at c.in-Ok-write_all.ensures.written))
    (λ _ _ _ _. tt)

pub returns-in-Err-Failed-write_all-clause-attempt : goal.returns-in-Err-Failed-write_all-clause-attempt
returns-in-Err-Failed-write_all-clause-attempt g c =
    attempted _ _ _ _ _ (contents_of c.in-Ok-read_files.contents.items) refl (λ is. grind (arith, is)) (λ is. grind (arith, is)) (rw (c.deref.ensures.value, c.in-Ok.ensures) at c.in-Ok-read_files.ensures.held) (λ is. grind (arith, is))

pub returns-in-Err-Failed-write_all-clause-judged : goal.returns-in-Err-Failed-write_all-clause-judged
returns-in-Err-Failed-write_all-clause-judged g c =
    cut_short _ _ _ _ _ _ _ _ [] _ (contents_of c.in-Ok-read_files.contents.items) c.in-Ok-read_files.ensures.unchanged (rw (c.deref.ensures.value, c.in-Ok.ensures) at c.in-Ok-read_files.ensures.held)
    (small (contents_of c.in-Ok-read_files.contents.items) _ _ (grind (arith, c.deref-2.ensures.value, c.is_within_batch.ensures, c.if-not-is_within_batch.false))
    ((rw (c.deref-3.ensures.value, c.deref-4.ensures.value, c.in-Ok.ensures) at c.in-Ok-resolution_of.ensures) c.args.out.now))
    (one_cut_short _ _ c.args.out.now c.in-Ok-resolution_of.text.items (rw c.deref-5.ensures.value at c.in-Err-Failed-write_all.ensures.cut_short (ap Err c.in-Err-Failed-write_all.field-0-is)))
    (omega (arith, c.in-Err-Failed-write_all.ensures.failed (ap Err c.in-Err-Failed-write_all.field-0-is), c.in-Ok-read_files.ensures.never_falls))

pub returns-then-not-is_within_batch-clause-attempt : goal.returns-then-not-is_within_batch-clause-attempt
returns-then-not-is_within_batch-clause-attempt g c =
    attempted _ _ _ _ _ (contents_of c.in-Ok-read_files.contents.items) refl (λ is. grind (arith, is)) (λ is. grind (arith, is)) (rw (c.deref.ensures.value, c.in-Ok.ensures) at c.in-Ok-read_files.ensures.held) (λ _. c.in-Ok-read_files.ensures.unchanged)

pub returns-then-not-is_within_batch-clause-judged : goal.returns-then-not-is_within_batch-clause-judged
returns-then-not-is_within_batch-clause-judged g c =
    refused _ _ _ _ _ _ 4 _ (contents_of c.in-Ok-read_files.contents.items) (λ is. grind (arith, is)) (λ is. grind (arith, is)) (rw (c.deref.ensures.value, c.in-Ok.ensures) at c.in-Ok-read_files.ensures.held)
    (large (contents_of c.in-Ok-read_files.contents.items) _ (grind (arith, c.deref-2.ensures.value, c.is_within_batch.ensures, c.if-not-is_within_batch.true)))
