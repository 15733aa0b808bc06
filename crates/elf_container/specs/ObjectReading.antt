-- A file's sections parsed into a value, whether it has the form, and whether it is spelled so.
use Rattle.std.specs.Prelude.{◌≡◌, ℕ, ◌-◌, ◌*◌, ◌/◌, ◌^◌, List, [], ◌∷◌, length, map, drop, Option, Some, None, option_map, option_and_then, is_none, Result, Ok, Err, Bool, not, ◌&&◌, nat_lt, ◌==◌, slice_get, count_by, if◌then◌else◌}
use Rattle.gimple_ir.specs.Names.{repeats}
use Rattle.elf_container.specs.declared.format.TheConstants.{STB_GLOBAL_STT_FUNC}
use Rattle.elf_container.specs.declared.fault.ElfFault.{ElfFault}
use Rattle.elf_container.specs.declared.sections.OwnSection.{OwnSection}
use Rattle.elf_container.specs.declared.entries.Sym.{Sym}
use Rattle.elf_container.specs.declared.relocatable.RelocObject.{RelocObject}
use Rattle.elf_container.specs.declared.relocatable.RelSymbol.{RelSymbol}
use Rattle.elf_container.specs.declared.relocatable.FormError.{FormError}
use Rattle.elf_container.specs.declared.relocatable.FormError.TheVariants as errors
use Rattle.elf_container.specs.Entries.{entries, word_in, sym_in, reloc_in}
use Rattle.elf_container.specs.Reading.{name_at, difference}
use Rattle.elf_container.specs.Relocatable.{fill_from, relocs_from, named_in_order, is_defined, object_bytes}

-- ---- parsing

abbrev pub bytes_by : Option OwnSection → List ℕ
bytes_by None = []
bytes_by (Some s) = s.bytes

-- the bytes of the section at a place
abbrev pub part : ℕ → List OwnSection → List ℕ
part place ss = bytes_by (slice_get ss place)

abbrev pub start_by : Sym → Option ℕ
start_by s = if s.info == STB_GLOBAL_STT_FUNC then Some s.value else None

abbrev pub symbol_by : Sym → List ℕ → RelSymbol
symbol_by s name = record { name = name; start = start_by s; size = s.size }

-- the symbols of entries, where each has a name
abbrev pub named_by : List ℕ → List Sym → Option (List RelSymbol)
named_by strings [] = Some []
named_by strings (s ∷ ss) = option_and_then (λ name. option_map (λ more. symbol_by s name ∷ more) (named_by strings ss)) (name_at s.name strings)

-- the value of text, relocations, symbols and strings
unfoldable pub parsed : List ℕ → List ℕ → List ℕ → List ℕ → Option RelocObject
parsed text rela symtab strtab = option_map
    (λ symbols. record { symbols = symbols; words = entries 4 word_in (length text / 4) text; relocations = entries 24 reloc_in (length rela / 24) rela })
    (named_by strtab (entries 24 sym_in (length symtab / 24 - 1) (drop 24 symtab)))

-- ---- testing

unfoldable pub is_object : RelocObject → Bool
is_object o =
    nat_lt (length o.symbols) (2 ^ 32) && not (repeats (map (λ s. s.name) o.symbols)) && fill_from 0 (4 * length o.words) o.symbols
    && relocs_from 0 o.words o.relocations && named_in_order (count_by is_defined o.symbols) (length o.symbols) o.relocations

-- a value of the form that the bytes spell
unfoldable pub tested : List ℕ → RelocObject → Option RelocObject
tested bytes o = if is_object o then (if is_none (difference 0 bytes (object_bytes o)) then Some o else None) else None

unfoldable pub object_in : List ℕ → List OwnSection → Option RelocObject
object_in bytes ss = option_and_then (tested bytes) (parsed (part 0 ss) (part 1 ss) (part 2 ss) (part 3 ss))

-- what a call answers of bytes whose object, if any, is known
abbrev pub Finds : Result RelocObject FormError → Option RelocObject → Type 0
Finds (Ok o) found = found ≡ Some o
Finds (Err errors.NoMemory) found = Unit {0}
Finds (Err (errors.Bad offset)) found = (found ≡ None) × (offset ≡ 0)

-- and of bytes whose sections or first fault are known
abbrev pub Answers : List ℕ → Result RelocObject FormError → Result (List OwnSection) ElfFault → Type 0
Answers bytes (Ok o) (Err f) = ⊥
Answers bytes (Err errors.NoMemory) (Err f) = Unit {0}
Answers bytes (Err (errors.Bad offset)) (Err f) = offset ≡ f.offset
Answers bytes (Ok o) (Ok ss) = object_in bytes ss ≡ Some o
Answers bytes (Err errors.NoMemory) (Ok ss) = Unit {0}
Answers bytes (Err (errors.Bad offset)) (Ok ss) = (object_in bytes ss ≡ None) × (offset ≡ 0)
