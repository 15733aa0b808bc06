-- The numbers of the definitions of a merged program, which are their places there, found by name or, where the name is local to an
-- object, by the place in that object.
use Rattle.std.specs.Prelude.{ℕ, ◌+◌, List, [], ◌∷◌, Bool, true, false, ◌&&◌, not, nat_eq, slice_get, codes, if◌then◌else◌}
use Rattle.std.specs.List.{find}
use Rattle.std.specs.Option.{option_map_or}
use Rattle.gimple_ir.specs.declared.types.Linkage.{Linkage}
use Rattle.gimple_ir.specs.declared.types.Linkage.TheVariants.{Extern, Strong, Weak, Static}
use Rattle.gimple_ir.specs.declared.types.Module.{Module}
use Rattle.gimple_ir.specs.declared.merged.MergedArray.{MergedArray}
use Rattle.gimple_ir.specs.declared.merged.MergedFunction.{MergedFunction}
use Rattle.lto_object.specs.Objects.{ObjectData}
use Rattle.symbol_resolution.specs.declared.numbers.Numbered.{Numbered}
use Rattle.symbol_resolution.specs.Groups.{of_name}
use Rattle.symbol_resolution.specs.NameFaults.{function_at}
use Rattle.symbol_resolution.specs.Kept.{KeptFunction, KeptArray}

abbrev pub is_static : Linkage → Bool
is_static Extern = false
is_static Strong = false
is_static Weak = false
is_static Static = true

abbrev pub with_number : ℕ → ℕ → ℕ → Bool → Numbered
with_number number object place local = record { number = number; object = object; place = place; local = local }

-- ---- of what is kept, from a number on

abbrev pub function_numbers : ℕ → List KeptFunction → List (List ℕ × Numbered)
function_numbers n [] = []
function_numbers n (f ∷ fs) = (f.function.name, with_number n f.object f.place (is_static f.function.linkage)) ∷ function_numbers (n + 1) fs

abbrev pub array_numbers : ℕ → List KeptArray → List (List ℕ × Numbered)
array_numbers n [] = []
array_numbers n (a ∷ rest) = (a.item.name, with_number n a.object a.place (is_static a.item.linkage)) ∷ array_numbers (n + 1) rest

-- ---- of a merged program, from a number on

abbrev pub is_local_function : List ObjectData → MergedFunction → Bool
is_local_function objects f = option_map_or (λ g. is_static g.linkage) (function_at objects f.object f.place) false

abbrev pub merged_function_numbers : List ObjectData → ℕ → List MergedFunction → List (List ℕ × Numbered)
merged_function_numbers objects n [] = []
merged_function_numbers objects n (f ∷ fs) = (f.name, with_number n f.object f.place (is_local_function objects f)) ∷ merged_function_numbers objects (n + 1) fs

abbrev pub merged_array_numbers : ℕ → List MergedArray → List (List ℕ × Numbered)
merged_array_numbers n [] = []
merged_array_numbers n (a ∷ rest) = (a.name, with_number n a.object a.place (is_static a.item.linkage)) ∷ merged_array_numbers (n + 1) rest

-- ---- what a name stands for

-- a static name stands for the definition in the object itself, each other name for the one that others see
abbrev pub stands_for : ℕ → ℕ → Linkage → Numbered → Bool
stands_for object place linkage k =
    if is_static linkage then k.local && nat_eq k.object object && nat_eq k.place place
    else not k.local

-- the number of what a name of an object stands for; a declaration that nothing names may stand for nothing, and has the number 0
abbrev pub number_of : List (List ℕ × Numbered) → ℕ → ℕ → Linkage → List ℕ → ℕ
number_of numbers object place linkage name =
    option_map_or (λ k. k.number) (find (stands_for object place linkage) (of_name name numbers)) 0

-- that of the object's function, or array, of this number in its module
abbrev pub function_number : List (List ℕ × Numbered) → ℕ → Module → ℕ → ℕ
function_number numbers object source place =
    option_map_or (λ f. number_of numbers object place f.linkage f.name) (slice_get source.functions place) 0

abbrev pub array_number : List (List ℕ × Numbered) → ℕ → Module → ℕ → ℕ
array_number numbers object source place =
    option_map_or (λ a. number_of numbers object place a.linkage a.name) (slice_get source.arrays place) 0

-- `main` is a name that others see
abbrev pub main_number : List (List ℕ × Numbered) → ℕ
main_number functions = number_of functions 0 0 Strong (codes "main")
