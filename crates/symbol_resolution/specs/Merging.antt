-- The merged program of objects under a resolution, or its first fault: of the lines, then of the names, then of `main`. And the whole
-- program that a merged program stands for.
use Rattle.std.specs.Prelude.{◌≡◌, ◌≤◌, ◌<◌, ◌^◌, ℕ, List, map, length, sum_by, Option, Some, None, Result, Ok, Err, slice_get}
use Rattle.std.specs.List.{filter_map}
use Rattle.std.specs.Option.{option_map, option_and_then}
use Rattle.gimple_ir.specs.declared.types.Function.{Function}
use Rattle.gimple_ir.specs.declared.types.Program.{Program}
use Rattle.gimple_ir.specs.declared.merged.Merged.{Merged}
use Rattle.gimple_ir.specs.declared.merged.MergedArray.{MergedArray}
use Rattle.gimple_ir.specs.declared.merged.MergedFunction.{MergedFunction}
use Rattle.func_summary.specs.Summaries.{summary_of}
use Rattle.func_summary.specs.Summarised.{parameter_types_of}
use Rattle.lto_object.specs.Objects.{ObjectData}
use Rattle.resolution_text.specs.declared.resolution.Resolution.{Resolution}
use Rattle.resolution_text.specs.declared.fault.ResolutionError.{ResolutionError}
use Rattle.symbol_resolution.specs.declared.marks.Mark.{Mark}
use Rattle.symbol_resolution.specs.declared.numbers.Numbered.{Numbered}
use Rattle.symbol_resolution.specs.LineFaults.{line_fault}
use Rattle.symbol_resolution.specs.Marks.{marks_of}
use Rattle.symbol_resolution.specs.NameFaults.{names_fault, main_fault}
use Rattle.symbol_resolution.specs.Kept.{KeptFunction, KeptArray, kept_functions, kept_arrays}
use Rattle.symbol_resolution.specs.Numbers.{function_numbers, array_numbers, merged_function_numbers, merged_array_numbers, main_number}
use Rattle.symbol_resolution.specs.Linking.{linked_summary, linked_function}

-- ---- what is merged

abbrev pub merged_function : (functions arrays : List (List ℕ × Numbered)) → KeptFunction → MergedFunction
merged_function functions arrays k =
    record {
      object = k.object;
      place = k.place;
      name = k.function.name;
      exported = k.exported;
      result = k.function.result;
      parameter_types = parameter_types_of k.function;
      summary = linked_summary functions arrays k.object k.source (summary_of k.source k.function);
    }

abbrev pub merged_array : KeptArray → MergedArray
merged_array k = record { object = k.object; place = k.place; name = k.item.name; exported = k.exported; item = k.item }

abbrev pub merged_with : List KeptFunction → List KeptArray → Merged
merged_with functions arrays =
    record {
      functions = map (merged_function (function_numbers 0 functions) (array_numbers 0 arrays)) functions;
      arrays = map merged_array arrays;
      main = main_number (function_numbers 0 functions);
    }

-- by the symbols' words
abbrev pub merged_by : List ObjectData → List (List ℕ × Mark) → Merged
merged_by objects marks = merged_with (kept_functions marks 0 objects) (kept_arrays marks 0 objects)

abbrev pub unless : {A : Type 0} → Option ResolutionError → Result A ResolutionError → Result A ResolutionError
unless None more = more
unless (Some fault) more = Err fault

-- the merged program, or the first fault
unfoldable pub merged_of : List ObjectData → List (List ℕ) → Resolution → Result Merged ResolutionError
merged_of objects names r =
    unless (line_fault objects names r) (
    unless (names_fault objects (marks_of objects r) (marks_of objects r)) (
    unless (main_fault objects (marks_of objects r)) (
    Ok (merged_by objects (marks_of objects r)))))

-- some resolution merges the objects to it
abbrev pub IsMergedOf : List ObjectData → Merged → Type 0
IsMergedOf objects merged = (names : List (List ℕ)) × (r : Resolution) × (merged_of objects names r ≡ Ok merged)

-- ---- the program

-- the function that a merged one stands for, with the numbers of the merged program
abbrev pub program_function : List ObjectData → (functions arrays : List (List ℕ × Numbered)) → MergedFunction → Option Function
program_function objects functions arrays g =
    option_and_then (λ o. option_map (linked_function functions arrays g.object o.source) (slice_get o.source.functions g.place)) (slice_get objects g.object)

abbrev pub program_functions : List ObjectData → Merged → List Function
program_functions objects merged =
    filter_map (program_function objects (merged_function_numbers objects 0 merged.functions) (merged_array_numbers 0 merged.arrays)) merged.functions

-- the whole program
unfoldable pub program_of : List ObjectData → Merged → Program
program_of objects merged =
    record { arrays = map (λ a. a.item) merged.arrays; functions = program_functions objects merged; main = merged.main }

-- ---- what is asked of the objects of a link

-- so few that the numbers of their definitions and of the lines of a resolution fit 32 bits
pub record AreFew (objects : List ObjectData) : Type 0 where
  pub files : length objects ≤ 256
  pub functions : sum_by (λ o. length o.source.functions) objects < 2 ^ 26
  pub arrays : sum_by (λ o. length o.source.arrays) objects < 2 ^ 31
