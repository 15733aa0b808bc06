-- The merged program of the files of a job.
use Rattle.std.specs.Prelude.{◌≡◌, ℕ, List, Result, Ok, Err}
use Rattle.gimple_ir.specs.declared.types.Program.{Program}
use Rattle.gimple_ir.specs.declared.merged.Merged.{Merged}
use Rattle.func_summary.specs.Summarised.{IsSummarised}
use Rattle.symbol_resolution.specs.Merging.{merged_of, program_of}
use Rattle.job_links.specs.declared.line.JobLine.{JobLine}
use Rattle.job_links.specs.declared.line.JobLine.TheVariants.{Memory}
use Rattle.job_links.specs.declared.reading.JobFiles.{JobFiles}
use Rattle.job_links.specs.Alone.{Refuses, Prepared, prepared_of, ComesTo}

-- the whole program of what was prepared, and the merged program that is true of it
pub record IsMergedJob (names : List (List ℕ)) (found : Result Prepared JobLine) (program : Program) (merged : Merged) : Type 0 where
  pub prepared : Prepared
  pub is : found ≡ Ok prepared
  pub merges : merged_of prepared.objects names prepared.resolution ≡ Ok merged
  pub program_is : program ≡ program_of prepared.objects merged
  pub summarised : IsSummarised program merged

-- this of files whose objects have these names, or the first fault, unless memory ran out
abbrev pub GivesMerged : List (List ℕ) → JobFiles → Result (Program × Merged) JobLine → Type 0
GivesMerged names files (Ok found) = IsMergedJob names (prepared_of files) found.0 found.1
GivesMerged names files (Err Memory) = Unit {0}
GivesMerged names files (Err line) = ComesTo names (prepared_of files) (Refuses line)
