use Rattle.std.proofs.Common.{◌≡◌, ◌+◌, ◌<◌, ◌^◌, drop, sum_by}
use Rattle.symbol_resolution.specs.LineFaults.{files_fault}
use Rattle.symbol_resolution.specs.Lines.{lines_of}
use Rattle.symbol_resolution.proofs.lines.check_files.Given as goal

abbrev pub invariant-loop-place : goal.invariant-loop-place
invariant-loop-place l = record {
  rest : files_fault l.line (drop l.place l.names) (drop l.place l.objects) (drop l.place l.files) ≡ files_fault 2 l.names l.objects l.files;
  room : l.line + sum_by lines_of (drop l.place l.objects) < 2 ^ 32;
}
