-- Whether a file's sections are those of an object: the first section whose name stands before, whether one of the five is absent,
-- the first header that is not the form's at its place, and the version.
use Rattle.std.specs.Prelude.{◌≡◌, ℕ, ◌+◌, List, [], ◌∷◌, ◌++◌, map, Bool, not, ◌&&◌, ◌==◌, Option, Some, None, option_map, codes, if◌then◌else◌}
use Rattle.std.specs.List.{list_all}
use Rattle.std.specs.Str.{bytes_eq}
use Rattle.gimple_ir.specs.Names.{is_among}
use Rattle.elf_container.specs.declared.sections.OwnSection.{OwnSection}
use Rattle.elf_container.specs.Layout.{shstrtab_name}
use Rattle.elf_container.specs.Offsets.{offset_of, table_of, header_of}
use Rattle.elf_container.specs.ObjectReading.{part}
use Rattle.lto_object.specs.Objects.{sections_with}
use Rattle.lto_object.specs.declared.sections.TheConstants.{SHT_PROGBITS, SHF_EXCLUDE}
use Rattle.lto_object.specs.declared.fault.ObjectFault.{ObjectFault}
use Rattle.lto_object.specs.declared.fault.ObjectFault.TheVariants.{MissingSection, DoubleSection, BadVersion, BadLayout}

-- the names of an object's sections, in order
abbrev pub form_names : List (List ℕ)
form_names =
    codes ".gnu.lto_.version" ∷ codes ".gnu.lto_.decls" ∷ codes ".gnu.lto_.bodies" ∷ codes ".gnu.lto_.summaries" ∷ codes ".gnu.lto_.symbols" ∷ []

-- the names of a file's sections, `.shstrtab` among them
abbrev pub all_names : List OwnSection → List (List ℕ)
all_names ss = map (λ s. s.name) ss ++ shstrtab_name ∷ []

-- the place of the first name that stands before it, where names of which the first has a place come after others
abbrev pub double_from : ℕ → List (List ℕ) → List (List ℕ) → Option ℕ
double_from place before [] = None
double_from place before (name ∷ names) =
    if is_among before name then Some place else double_from (place + 1) (before ++ name ∷ []) names

abbrev pub double_section : List OwnSection → Option ObjectFault
double_section ss = option_map (λ place. DoubleSection (header_of ss place)) (double_from 0 [] (all_names ss))

abbrev pub missing_section : List OwnSection → Option ObjectFault
missing_section ss = if list_all (is_among (map (λ s. s.name) ss)) form_names then None else Some (MissingSection (table_of ss))

-- the header has this name, and all else as the form has it
abbrev pub has_form : List ℕ → OwnSection → Bool
has_form name s = bytes_eq s.name name && s.kind == SHT_PROGBITS && s.flags == SHF_EXCLUDE && s.link == 0 && s.info == 0 && s.entry_size == 0

-- the first place where sections, of which the first has a place, have not the form with these names
abbrev pub misplaced_from : ℕ → List (List ℕ) → List OwnSection → Option ℕ
misplaced_from place [] [] = None
misplaced_from place [] (s ∷ ss) = Some place
misplaced_from place (name ∷ names) [] = Some place
misplaced_from place (name ∷ names) (s ∷ ss) = if has_form name s then misplaced_from (place + 1) names ss else Some place

abbrev pub misplaced_section : List OwnSection → Option ObjectFault
misplaced_section ss = option_map (λ place. BadLayout (header_of ss place)) (misplaced_from 0 form_names ss)

-- the version is the one byte 1
abbrev pub wrong_version : List OwnSection → Option ObjectFault
wrong_version ss = if bytes_eq (part 0 ss) (1 ∷ []) then None else Some (BadVersion (offset_of ss 0))

abbrev pub first : Option ObjectFault → Option ObjectFault → Option ObjectFault
first None more = more
first (Some fault) more = Some fault

-- in this order
unfoldable pub sections_fault : List OwnSection → Option ObjectFault
sections_fault ss = first (double_section ss) (first (missing_section ss) (first (misplaced_section ss) (wrong_version ss)))

-- the sections are those of an object
abbrev pub IsForm : List OwnSection → Type 0
IsForm ss = ss ≡ sections_with (1 ∷ []) (part 1 ss) (part 2 ss) (part 3 ss) (part 4 ss)
