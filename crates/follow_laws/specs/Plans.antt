-- What the versions of a plan are linked as: the program that their symbols name.
use Rattle.std.specs.Prelude.{ℕ, List, length, map, nat_eq}
use Rattle.std.specs.List.{list_any, position_or_len}
use Rattle.std.specs.Str.{bytes_eq}
use Rattle.gimple_ir.specs.declared.types.ScalarType.{ScalarType}
use Rattle.gimple_ir.specs.declared.merged.Merged.{Merged}
use Rattle.gimple_ir.specs.declared.plan.Plan.{Plan}
use Rattle.gimple_ir.specs.declared.versioned.VersionedFunction.{VersionedFunction}
use Rattle.final_link.specs.Names.{value_of}
use Rattle.final_link.specs.Arrays.{array_symbol}
use Rattle.final_link.specs.Symbols.{arrays_in_order}
use Rattle.final_link.specs.Placing.{is_first_of}
use Rattle.gimple_meaning.specs.Linked.{LinkedProgram}

-- `results` has what each version gives where it gives something, by its place
abbrev pub linked_of : Plan → Merged → List VersionedFunction → (ℕ → ScalarType) → LinkedProgram
linked_of plan merged functions results = record {
  arrays = map (λ a. a.item) merged.arrays;
  functions = functions;
  main = position_or_len (is_first_of merged.main) plan.versions;
  function_named = λ name. position_or_len (λ f. bytes_eq name f.symbol) functions;
  array_named = λ name. value_of (length merged.arrays) name (map (λ k. (array_symbol merged k, k)) (arrays_in_order merged plan.arrays));
  is_kept = λ number. list_any (nat_eq number) plan.arrays;
  result_type = results;
}
