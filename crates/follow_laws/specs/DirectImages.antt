-- The image of a plan with no relocation in it, as what the machine's memory has of a whole program: its parts, the program that its
-- symbols name, and where that lies.
use Rattle.std.specs.Prelude.{◌≡◌, ℕ, ◌+◌, ◌^◌, ◌≤◌, true, false, List, [], ◌∷◌, ◌++◌, map, All, Some, None, IsSome, slice_get, nat_eq}
use Rattle.std.specs.List.{find, flat_map, list_any}
use Rattle.gimple_ir.specs.Names.{repeats}
use Rattle.gimple_ir.specs.Programs.{IsProgramArray}
use Rattle.gimple_ir.specs.declared.types.ScalarType.{ScalarType}
use Rattle.gimple_ir.specs.declared.merged.Merged.{Merged}
use Rattle.gimple_ir.specs.declared.merged.MergedArray.{MergedArray}
use Rattle.gimple_ir.specs.declared.plan.Plan.{Plan}
use Rattle.gimple_ir.specs.declared.unit.ArrayUse.{ArrayUse}
use Rattle.gimple_ir.specs.declared.versioned.VersionedFunction.{VersionedFunction}
use Rattle.rv64_isa.specs.declared.instr.Instr.{Instr}
use Rattle.rv64_meaning.specs.Loading.{segments_of, load_fault_of}
use Rattle.gimple_meaning.specs.Versioned.{IsVersioned}
use Rattle.rv64_select.specs.Code.{code_of}
use Rattle.final_link.specs.Stubs.{start_address, functions_address}
use Rattle.final_link.specs.Arrays.{size_of, bytes_of, array_symbol, stored_arrays, zeroed_arrays}
use Rattle.final_link.specs.Symbols.{end_of, arrays_in_order}
use Rattle.final_link.specs.Placing.{is_first_of, main_address}
use Rattle.follow_laws.specs.Direct.{code_size, direct_symbols, address_of, largest_frame, direct_image}
use Rattle.follow_laws.specs.Plans.{linked_of}
use Rattle.follow_laws.specs.Layouts.{Layout, IsPlaced}
use Rattle.follow_laws.specs.Images.{Parts, scratch_in}

-- ---- its parts

-- the instructions of functions from an address on, without gaps
abbrev pub code_from : (List ℕ → ℕ) → ℕ → List VersionedFunction → List Instr
code_from addresses at [] = []
code_from addresses at (f ∷ fs) = code_of addresses f at ++ code_from addresses (at + code_size f) fs

abbrev pub symbol_address : Plan → Merged → List VersionedFunction → List ℕ → ℕ
symbol_address plan merged functions = address_of (direct_symbols functions merged plan.arrays)

abbrev pub parts_of : Plan → Merged → List VersionedFunction → Parts
parts_of plan merged functions = record {
  main = main_address (direct_symbols functions merged plan.arrays) merged.main plan.versions;
  frame = largest_frame functions;
  code = code_from (symbol_address plan merged functions) functions_address functions;
  stored = flat_map (bytes_of merged) (stored_arrays merged plan.arrays);
  zeroed = end_of (size_of merged) 0 (zeroed_arrays merged plan.arrays);
}

-- ---- where the program lies

abbrev pub layout_of : Plan → Merged → List VersionedFunction → Layout
layout_of plan merged functions =
    let parts = parts_of plan merged functions in
    record {
      address = symbol_address plan merged functions;
      array = λ number. symbol_address plan merged functions (array_symbol merged number);
      scratch = scratch_in parts;
      stack = scratch_in parts + 16;
      frame = largest_frame functions;
    }

-- ---- what is asked

-- an array that a function names is a kept one, and has the element type that the code counts with
pub record UseIsKept (plan : Plan) (merged : Merged) (u : ArrayUse) : Type 0 where
  pub number : ℕ
  pub kept : list_any (nat_eq number) plan.arrays ≡ true
  pub symbol : u.symbol ≡ array_symbol merged number
  pub element : (a : MergedArray) → slice_get merged.arrays number ≡ Some a → a.item.element ≡ u.element

pub record IsDirect (plan : Plan) (merged : Merged) (functions : List VersionedFunction) : Type 0 where
  pub versioned : All IsVersioned functions
  -- no two symbols are alike
  pub differ : repeats (map (λ e. e.0) (direct_symbols functions merged plan.arrays)) ≡ false
  pub arrays : All (λ a. IsProgramArray a.item) merged.arrays
  pub uses : All (λ f. All (UseIsKept plan merged) f.arrays) functions
  -- one function stands for each version, and `main` is among them
  pub symbols : map (λ f. f.symbol) functions ≡ map (λ v. v.symbol) plan.versions
  pub main : IsSome (find (is_first_of merged.main) plan.versions)
  -- in bytes: the text with the stubs, and the kept arrays
  pub text : end_of code_size functions_address functions ≤ start_address + 2 ^ 27
  pub size : end_of (size_of merged) 0 (arrays_in_order merged plan.arrays) ≤ 2 ^ 26

-- ---- the laws

abbrev pub DirectLoads : Type 0
DirectLoads = (plan : Plan) (merged : Merged) (functions : List VersionedFunction) → IsDirect plan merged functions → load_fault_of (direct_image plan merged functions) ≡ None

abbrev pub DirectIsPlaced : Type 0
DirectIsPlaced =
    (plan : Plan) (merged : Merged) (functions : List VersionedFunction) (results : ℕ → ScalarType) → IsDirect plan merged functions
    → IsPlaced (segments_of (direct_image plan merged functions)) (layout_of plan merged functions) (linked_of plan merged functions results)
