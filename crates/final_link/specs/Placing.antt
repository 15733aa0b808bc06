-- The image of a plan's versions and kept arrays, whose code stands in parts.
use Rattle.std.specs.Prelude.{◌≡◌, ℕ, ◌+◌, ◌^◌, ◌<◌, ◌≤◌, ◌==◌, ◌&&◌, Bool, IsTrue, false, List, [], ◌∷◌, ◌++◌, length, map, All, None, IsSome}
use Rattle.std.specs.List.{find, flat_map, sum_by}
use Rattle.std.specs.List.Sorted.{IsStrictlyIncreasing}
use Rattle.std.specs.Option.{option_map_or}
use Rattle.elf_container.specs.declared.relocatable.RelocObject.{RelocObject}
use Rattle.elf_container.specs.declared.relocatable.RelSymbol.{RelSymbol}
use Rattle.elf_container.specs.Relocatable.{IsObject, ObjectFits}
use Rattle.gimple_ir.specs.declared.merged.Merged.{Merged}
use Rattle.gimple_ir.specs.declared.plan.Plan.{Plan}
use Rattle.gimple_ir.specs.declared.plan.Version.{Version}
use Rattle.gimple_ir.specs.Names.{repeats, is_among}
use Rattle.gimple_ir.specs.Programs.{IsProgramArray}
use Rattle.final_link.specs.Stubs.{start_address, functions_address}
use Rattle.final_link.specs.Image.{word, image_with}
use Rattle.final_link.specs.Filling.{filled}
use Rattle.final_link.specs.Names.{of_name, value_of}
use Rattle.final_link.specs.declared.members.Member.{Member}
use Rattle.final_link.specs.Members.{members_from, member_in, version_size, symbols_in, member_words, member_relocations, HasFrame, largest_frame}
use Rattle.final_link.specs.Arrays.{array_size, size_of, bytes_of, stored_arrays, zeroed_arrays}
use Rattle.final_link.specs.Symbols.{end_of, code_end, symbols_of, address_in}

-- ---- the code

-- the words of a member at its address, with each relocated field filled
abbrev pub placed_words : List RelocObject → List (List ℕ × ℕ) → ℕ → Member → List ℕ
placed_words parts symbols at m =
    filled (member_relocations parts m) (address_in symbols (symbols_in parts m.part)) at (member_words parts m)

-- the words of versions from an address on, without gaps
abbrev pub code_from : List RelocObject → List (List ℕ × Member) → List (List ℕ × ℕ) → ℕ → List Version → List ℕ
code_from parts members symbols at [] = []
code_from parts members symbols at (v ∷ vs) =
    placed_words parts symbols at (member_in members v.symbol) ++ code_from parts members symbols (at + version_size members v) vs

-- ---- the image

-- version 0 of the function with this number
abbrev pub is_first_of : ℕ → Version → Bool
is_first_of function v = v.function == function && v.number == 0

abbrev pub main_address : List (List ℕ × ℕ) → ℕ → List Version → ℕ
main_address symbols main versions = option_map_or (λ v. value_of 0 v.symbol symbols) (find (is_first_of main) versions) 0

unfoldable pub placed_image : Plan → Merged → List RelocObject → List ℕ
placed_image plan merged parts =
    let members = members_from 0 parts in
    let symbols = symbols_of members plan.versions merged plan.arrays in
    image_with (main_address symbols merged.main plan.versions) (largest_frame parts members plan.versions)
    (flat_map word (code_from parts members symbols functions_address plan.versions))
    (flat_map (bytes_of merged) (stored_arrays merged plan.arrays))
    (end_of (size_of merged) 0 (zeroed_arrays merged plan.arrays))

-- ---- what can be placed

-- a symbol that a part does not define is one that the image has
abbrev pub IsKnown : List (List ℕ) → RelSymbol → Type 0
IsKnown names s = s.start ≡ None → IsTrue (is_among names s.name)

-- the names of all symbols of the image
abbrev pub names_of : Plan → Merged → List RelocObject → List (List ℕ)
names_of plan merged parts = map (λ e. e.0) (symbols_of (members_from 0 parts) plan.versions merged plan.arrays)

pub record IsPlaceable (plan : Plan) (merged : Merged) (parts : List RelocObject) : Type 0 where
  -- the plan: `main` is there, its arrays are numbers of merged arrays, and no two symbols are alike
  pub main : IsSome (find (is_first_of merged.main) plan.versions)
  pub arrays : All (λ number. number < length merged.arrays) plan.arrays
  pub ascending : IsStrictlyIncreasing plan.arrays
  pub defined : All (λ a. IsProgramArray a.item) merged.arrays
  pub differ : repeats (names_of plan merged parts) ≡ false
  -- the parts: objects that together define each version once, and name nothing else but what the image has
  pub objects : All IsObject parts
  pub fits : All ObjectFits parts
  pub once : All (λ v. length (of_name v.symbol (members_from 0 parts)) ≡ 1) plan.versions
  pub frames : All (λ e. HasFrame (member_words parts e.1)) (members_from 0 parts)
  pub known : All (λ o. All (IsKnown (names_of plan merged parts)) o.symbols) parts
  -- the sizes, in bytes: the text with the stubs, and all merged arrays
  pub text : code_end (members_from 0 parts) plan.versions ≤ start_address + 2 ^ 27
  pub size : sum_by (λ a. array_size a.item) merged.arrays ≤ 2 ^ 26
