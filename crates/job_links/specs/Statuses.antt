-- The statuses of reports.
use Rattle.std.specs.Prelude.{ℕ, ◌==◌, List, [], ◌∷◌, if◌then◌else◌}
use Rattle.job_links.specs.declared.line.JobLine.{JobLine}
use Rattle.job_links.specs.declared.line.JobLine.TheVariants.{Done, Object, TooLong, Limit, Read, Write, Memory, Unresolved}

-- of one job
abbrev pub status_of : JobLine → ℕ
status_of (Done bytes) = 0
status_of (Object number fault) = 3
status_of TooLong = 4
status_of (Limit passed) = 4
status_of (Read place) = 5
status_of Write = 6
status_of Memory = 7
status_of (Unresolved fault) = 8

-- of the first job that is refused
abbrev pub first_status : List JobLine → ℕ
first_status [] = 0
first_status (line ∷ lines) = if status_of line == 0 then first_status lines else status_of line
