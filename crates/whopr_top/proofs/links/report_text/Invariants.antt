use Rattle.std.proofs.Common.{◌≡◌, ◌++◌, drop, string_bytes}
use Rattle.whopr_top.specs.Links.{report_of}
use Rattle.whopr_top.proofs.links.report_text.Given as goal

abbrev pub invariant-loop-place : goal.invariant-loop-place
invariant-loop-place l = string_bytes l.text ++ report_of (drop l.place l.jobs) (drop l.place l.lines) ≡ report_of l.jobs l.lines
