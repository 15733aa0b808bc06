-- The image of a plan with no relocation in it: the code of each version at its final address, where the addresses of all versions,
-- arrays and stubs are known from the sizes alone. One function stands for each version of the plan, in the plan's order.
use Rattle.std.specs.Prelude.{ℕ, ◌+◌, ◌*◌, List, [], ◌∷◌, ◌++◌, max}
use Rattle.std.specs.List.{fold, flat_map}
use Rattle.gimple_ir.specs.declared.merged.Merged.{Merged}
use Rattle.gimple_ir.specs.declared.plan.Plan.{Plan}
use Rattle.gimple_ir.specs.declared.versioned.VersionedFunction.{VersionedFunction}
use Rattle.rv64_frame.specs.Frames.{frame_size}
use Rattle.rv64_select.specs.Assembly.{assembly_of}
use Rattle.rv64_select.specs.Code.{words_in, code_of}
use Rattle.final_link.specs.Stubs.{functions_address}
use Rattle.final_link.specs.Image.{code_bytes, image_with}
use Rattle.final_link.specs.Names.{value_of}
use Rattle.final_link.specs.Arrays.{size_of, bytes_of, stored_arrays, zeroed_arrays}
use Rattle.final_link.specs.Symbols.{end_of, places_of, stub_symbols, array_symbols}
use Rattle.final_link.specs.Placing.{main_address}

-- in bytes
abbrev pub code_size : VersionedFunction → ℕ
code_size f = 4 * words_in (assembly_of f)

-- all symbols, each with its final address
unfoldable pub direct_symbols : List VersionedFunction → Merged → List ℕ → List (List ℕ × ℕ)
direct_symbols functions merged kept =
    stub_symbols
    ++ (places_of (λ f. f.symbol) code_size functions_address functions
    ++ array_symbols merged kept (end_of code_size functions_address functions))

abbrev pub address_of : List (List ℕ × ℕ) → List ℕ → ℕ
address_of symbols name = value_of 0 name symbols

-- the code of functions from an address on, without gaps
abbrev pub direct_code : List (List ℕ × ℕ) → ℕ → List VersionedFunction → List ℕ
direct_code symbols at [] = []
direct_code symbols at (f ∷ fs) = code_bytes (code_of (address_of symbols) f at) ++ direct_code symbols (at + code_size f) fs

abbrev pub largest_frame : List VersionedFunction → ℕ
largest_frame functions = fold (λ largest f. max largest (frame_size f)) 0 functions

unfoldable pub direct_image : Plan → Merged → List VersionedFunction → List ℕ
direct_image plan merged functions =
    let symbols = direct_symbols functions merged plan.arrays in
    image_with (main_address symbols merged.main plan.versions) (largest_frame functions)
    (direct_code symbols functions_address functions)
    (flat_map (bytes_of merged) (stored_arrays merged plan.arrays))
    (end_of (size_of merged) 0 (zeroed_arrays merged plan.arrays))
