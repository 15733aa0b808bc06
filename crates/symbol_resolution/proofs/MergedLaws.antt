-- What a merged program is made from, and how many definitions it has.
use Rattle.std.proofs.Common.{◌≡◌, ◌<◌, ◌^◌, ℕ, List, length, Option, Some, None, Result, Ok, Err, refl, sym, ap, ◌∙◌, arith}
use Rattle.std.proofs.lemmas.List.{length-map}
use Rattle.gimple_ir.specs.declared.merged.Merged.{Merged}
use Rattle.lto_object.specs.Objects.{ObjectData}
use Rattle.resolution_text.specs.declared.resolution.Resolution.{Resolution}
use Rattle.resolution_text.specs.declared.fault.ResolutionError.{ResolutionError}
use Rattle.std.specs.Prelude.{IfOk}
use Rattle.resolution_text.specs.Answers.{Answers}
use Rattle.symbol_resolution.specs.LineFaults.{line_fault}
use Rattle.symbol_resolution.specs.Marks.{marks_of}
use Rattle.symbol_resolution.specs.NameFaults.{names_fault, main_fault}
use Rattle.symbol_resolution.specs.Kept.{kept_functions, kept_arrays}
use Rattle.symbol_resolution.specs.Numbers.{function_numbers, array_numbers}
use Rattle.symbol_resolution.specs.Merging.{merged_function, merged_array, merged_by, merged_of, unless, IsMergedOf, AreFew}
use Rattle.symbol_resolution.proofs.KeptLaws.{few_functions, few_arrays}

abbrev given : Merged → Result Merged ResolutionError
given x = Ok x

same : (x y : Merged) → given x ≡ given y → x ≡ y
same x y h = cc

without_faults : (a b c : Option ResolutionError) (x y : Merged) → unless a (unless b (unless c (Ok x))) ≡ Ok y → (a ≡ None) × (b ≡ None) × (c ≡ None) × (x ≡ y)
without_faults None None None x y h = (refl, refl, refl, same x y h)
without_faults None None (Some e) x y h = absurd cc
without_faults None (Some e) c x y h = absurd cc
without_faults (Some e) b c x y h = absurd cc

-- where something is merged there is no fault, and it is what the symbols' words make
pub merged_parts : (objects : List ObjectData) (names : List (List ℕ)) (r : Resolution) (merged : Merged) → merged_of objects names r ≡ Ok merged
    → (line_fault objects names r ≡ None) × (names_fault objects (marks_of objects r) (marks_of objects r) ≡ None) × (main_fault objects (marks_of objects r) ≡ None) × (merged_by objects (marks_of objects r) ≡ merged)
unfolding merged_of
merged_parts objects names r merged h =
    without_faults (line_fault objects names r) (names_fault objects (marks_of objects r) (marks_of objects r)) (main_fault objects (marks_of objects r)) (merged_by objects (marks_of objects r)) merged h

pub few_merged : (objects : List ObjectData) (merged : Merged) → AreFew objects → IsMergedOf objects merged → (length merged.functions < 2 ^ 32) × (length merged.arrays < 2 ^ 32)
few_merged objects merged few made =
    let marks = marks_of objects made.1 in
    let parts = merged_parts objects made.0 made.1 merged made.2 in
    let functions = kept_functions marks 0 objects in
    let arrays = kept_arrays marks 0 objects in
    let of_functions : length functions ≡ length merged.functions =
    sym (length-map functions (merged_function (function_numbers 0 functions) (array_numbers 0 arrays))) ∙ ap (λ (m : Merged). length m.functions) parts.3 in
    let of_arrays : length arrays ≡ length merged.arrays = sym (length-map arrays merged_array) ∙ ap (λ (m : Merged). length m.arrays) parts.3 in
    (omega (arith, of_functions, few_functions marks 0 objects, few.functions), omega (arith, of_arrays, few_arrays marks 0 objects, few.arrays))

pub made_of : (objects : List ObjectData) (names : List (List ℕ)) (r : Resolution) (result : Result Merged ResolutionError) → Answers result (merged_of objects names r) → IfOk result (λ merged. IsMergedOf objects merged)
made_of objects names r (Ok merged) h = (names, r, h)
made_of objects names r (Err e) h = tt
