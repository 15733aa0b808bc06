use Rattle.std.proofs.Common.{◌≡◌, ◌≤◌, ◌+◌, drop, take, length}
use Rattle.std.specs.Prelude.{IfSome, All}
use Rattle.outer_files.specs.Outside.{RoseBy}
use Rattle.job_links.specs.Reads.{size_of}
use Rattle.job_links.proofs.ReadingFiles.{ReadSoFar}
use Rattle.job_links.proofs.reading.read_objects.Given as goal

abbrev pub invariant-loop-place : goal.invariant-loop-place
invariant-loop-place g l = record {
  unchanged : g.F.FileStore.held l.files ≡ g.F.FileStore.held l.fn.files;
  never_falls : g.F.FileStore.faults l.fn.files ≤ g.F.FileStore.faults l.files;
  count : length l.contents ≡ l.place;
  within : All (λ bytes. length bytes ≤ l.limit) l.contents;
  told : IfSome (g.F.FileStore.held l.fn.files) (λ held. ReadSoFar l.limit held l.names l.place l.contents);
  size : IfSome (g.F.FileStore.held l.fn.files) (λ held. l.total + size_of l.limit held (drop l.place l.names) ≤ l.fn.total + size_of l.limit held l.names);
  least : IfSome (g.F.FileStore.held l.fn.files) (λ held. RoseBy (size_of l.limit held (take l.place l.names)) l.fn.total l.total);
}
