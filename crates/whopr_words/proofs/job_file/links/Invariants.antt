use Rattle.std.proofs.Common.{◌≡◌, ◌≤◌, ◌-◌, []}
use Rattle.whopr_words.specs.Jobs.{links_after, workers_of}
use Rattle.whopr_words.proofs.job_file.links.Given as goal

abbrev pub invariant-loop-done : goal.invariant-loop-done
invariant-loop-done l = record {
  value : links_after (l.count - l.done) l.links l.lines ≡ links_after l.count [] l.fn.lines;
  few : workers_of l.links ≤ 256;
}
