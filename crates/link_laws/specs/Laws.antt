-- The laws of the image of a whole program.
use Rattle.std.specs.Prelude.{◌≡◌, ℕ, List, None}
use Rattle.gimple_ir.specs.declared.types.Program.{Program}
use Rattle.gimple_ir.specs.declared.merged.Merged.{Merged}
use Rattle.func_summary.specs.Summarised.{IsSummarised}
use Rattle.rv64_meaning.specs.Loading.{load_fault_of}
use Rattle.follow_laws.specs.Follows.{Follows}
use Rattle.program_link.specs.Linking.{limits_of, first_passed, IsImageOf}

abbrev pub IsLoadable : List ℕ → Type 0
IsLoadable image = load_fault_of image ≡ None

-- the image of a program that passes no limit can be loaded
abbrev pub LinkedLoads : Type 0
LinkedLoads =
    (p : Program) (merged : Merged) (image : List ℕ) → IsSummarised p merged → first_passed (limits_of merged) ≡ None → IsImageOf p merged image → IsLoadable image

-- on every input it does what the program does
abbrev pub LinkedFollows : Type 0
LinkedFollows =
    (p : Program) (merged : Merged) (image : List ℕ) → IsSummarised p merged → first_passed (limits_of merged) ≡ None → IsImageOf p merged image → Follows image p
