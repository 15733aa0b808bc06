use Rattle.outer_files.proofs.Held.{empties_is_prefix}
use Rattle.outer_files.proofs.memory_files.MemoryFilesFileStore.write_all.Goals as goal

pub returns-then-fails-clause-cut_short : goal.returns-then-fails-clause-cut_short
returns-then-fails-clause-cut_short c = λ _. rw (← c.self.view_is) (empties_is_prefix _ _ _ _ c.empty_out.ensures)
