use Rattle.std.proofs.Common.{◌≡◌, ◌≤◌, take, length, vec_len}
use Rattle.std.specs.Prelude.{vec_capacity, sum_by}
use Rattle.std.specs.List.{AllZip}
use Rattle.outer_files.specs.Outside.{WhereTold}
use Rattle.job_links.specs.Reads.{GivesFiles, failures}
use Rattle.job_links.specs.Answers.{AreAnswered, failures_in}
use Rattle.job_links.specs.Linking.{IsCounted, Tells}
use Rattle.job_links.proofs.finishing.finish_each.Given as goal

abbrev pub invariant-loop-place : goal.invariant-loop-place
invariant-loop-place g l = record {
  count : vec_len l.lines ≡ l.place;
  room : length l.jobs ≤ vec_capacity l.lines;
  never_falls : g.F.FileStore.faults l.fn.files ≤ g.F.FileStore.faults l.files;
  counted : IsCounted (sum_by failures (take l.place l.readings)) (sum_by failures_in l.lines.items) (g.F.FileStore.faults l.fn.files) (g.F.FileStore.faults l.files);
  told : AllZip Tells (take l.place l.readings) l.lines.items;
  answered : WhereTold (g.F.FileStore.held l.fn.files) (g.F.FileStore.held l.files)
      (λ old new. AllZip (GivesFiles l.limit old) l.jobs l.readings → AreAnswered l.limit (take l.place l.jobs) l.lines.items old new);
}
