-- The relocatable object of one version: the version is its only function, and every other name that its code refers to is not defined.
use Rattle.std.specs.Prelude.{ℕ, ◌+◌, ◌*◌, ◌==◌, List, ◌∷◌, length, map, filter, not, nat_lt, Some, None, if◌then◌else◌}
use Rattle.std.specs.Str.{bytes_eq}
use Rattle.elf_container.specs.declared.relocatable.Reloc.{Reloc}
use Rattle.elf_container.specs.declared.relocatable.RelocObject.{RelocObject}
use Rattle.elf_container.specs.declared.relocatable.RelSymbol.{RelSymbol}
use Rattle.gimple_ir.specs.declared.versioned.VersionedFunction.{VersionedFunction}
use Rattle.rv64_select.specs.Assembly.{assembly_of}
use Rattle.rv64_select.specs.Selected.{words_of_code, names_of_code, references, relocation_of}

-- a function at the beginning of the text, of a size in bytes
abbrev pub defined_symbol : List ℕ → ℕ → RelSymbol
defined_symbol name size = record { name = name; start = Some 0; size = size }

abbrev pub own_symbol : VersionedFunction → RelSymbol
own_symbol f = defined_symbol f.symbol (4 * length (words_of_code f))

abbrev pub other_symbol : List ℕ → RelSymbol
other_symbol name = record { name = name; start = None; size = 0 }

-- names but for the version's own, in order
abbrev pub others : List ℕ → List (List ℕ) → List (List ℕ)
others own names = filter (λ name. not (bytes_eq own name)) names

-- those of the code
abbrev pub other_names : VersionedFunction → List (List ℕ)
other_names f = others f.symbol (names_of_code f)

-- its own first
abbrev pub object_names : VersionedFunction → List (List ℕ)
object_names f = f.symbol ∷ other_names f

unfoldable pub object_of : VersionedFunction → RelocObject
object_of f = record {
  symbols = own_symbol f ∷ map other_symbol (other_names f);
  words = words_of_code f;
  relocations = map (relocation_of f (object_names f)) (references (assembly_of f));
}

-- ---- from places among the code's names to places among the object's

-- where the own name stands among the code's (or how many they are), and the place of a name there: the own name comes first in the
-- object, and those before it one place later
abbrev pub object_place : ℕ → ℕ → ℕ
object_place own name = if name == own then 0 else (if nat_lt name own then name + 1 else name)

-- a relocation of the code, by the object's places
abbrev pub placed : ℕ → Reloc → Reloc
placed own r = record { offset = r.offset; kind = r.kind; symbol = object_place own r.symbol }
