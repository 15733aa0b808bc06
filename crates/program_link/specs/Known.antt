-- What the code keeps of a program while it is linked.
use Rattle.std.specs.Prelude.{◌<◌, ◌≤◌, ◌^◌, ◌++◌, ℕ, List, length, map, All, decimal}
use Rattle.std.specs.List.{range_with_len}
use Rattle.elf_container.specs.declared.relocatable.RelocObject.{RelocObject}
use Rattle.elf_container.specs.Relocatable.{IsObject, ObjectFits}
use Rattle.gimple_ir.specs.declared.merged.Merged.{Merged}
use Rattle.gimple_ir.specs.declared.plan.Plan.{Plan}
use Rattle.gimple_ir.specs.declared.plan.Version.{Version}
use Rattle.gimple_ir.specs.Programs.{IsIdentifier}
use Rattle.ipa_plan.specs.Rules.{Choice, IsVersionIn}
use Rattle.final_link.specs.Arrays.{array_symbol}
use Rattle.final_link.specs.Members.{HasFrame}

-- NAME, a word, and a number
abbrev pub symbol_by : List ℕ → List ℕ → ℕ → List ℕ
symbol_by name word number = name ++ (word ++ decimal number)

-- the symbols of all arrays
abbrev pub array_symbols : Merged → List (List ℕ)
array_symbols merged = map (array_symbol merged) (range_with_len 0 (length merged.arrays))

-- arrays that have symbols
pub record IsNumbered (merged : Merged) : Type 0 where
  pub few : length merged.arrays < 2 ^ 32
  pub names : All (λ a. IsIdentifier a.name) merged.arrays

-- functions and arrays of which none is large
pub record IsBounded (merged : Merged) : Type 0 where
  pub few_functions : length merged.functions < 2 ^ 32
  pub few_arrays : length merged.arrays < 2 ^ 32
  pub functions : All (λ g. g.summary.code_bound ≤ 524288) merged.functions
  pub arrays : All (λ a. a.item.length ≤ 67108864) merged.arrays

-- a version of a plan that keeps the rules, by whatever this plan chose
abbrev pub IsSomeVersion : Merged → Plan → Version → Type 0
IsSomeVersion merged plan version = (choice : Choice) × IsVersionIn merged plan choice version

-- an object that can be placed: one whose words begin with a frame
pub record IsPart (o : RelocObject) : Type 0 where
  pub object : IsObject o
  pub fits : ObjectFits o
  pub frame : HasFrame o.words
