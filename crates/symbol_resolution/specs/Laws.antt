-- What is known of a merged program: the whole program that it stands for is well formed, and the merged program is true of it. Its
-- functions have their names, types and summaries there, under the numbers of the whole program.
use Rattle.std.specs.Prelude.{◌≡◌, ℕ, List, length, All, Ok}
use Rattle.gimple_ir.specs.declared.merged.Merged.{Merged}
use Rattle.func_summary.specs.Summarised.{IsSummarised}
use Rattle.lto_object.specs.Objects.{ObjectData, IsObject}
use Rattle.resolution_text.specs.declared.resolution.Resolution.{Resolution}
use Rattle.symbol_resolution.specs.Merging.{merged_of, program_of, AreFew}

-- of objects of checked modules with their true summaries and symbols, each under a file name
abbrev pub MergedLaw : Type 0
MergedLaw = (objects : List ObjectData) (names : List (List ℕ)) (resolution : Resolution) (merged : Merged)
    → All IsObject objects → AreFew objects → length names ≡ length objects → merged_of objects names resolution ≡ Ok merged
    → IsSummarised (program_of objects merged) merged
