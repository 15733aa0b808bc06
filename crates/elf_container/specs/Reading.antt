-- The first fault of a file, and the sections of a file that has none. A file's own numbers say where its table and its sections
-- stand, so most faults are found before any section is read; the last is where the file differs from the layout of the sections
-- found, which asks once for all that the others leave open: zero fields and padding, order, alignment, the name `.shstrtab`.
use Rattle.std.specs.Prelude.{◌≡◌, ℕ, zero, suc, ◌+◌, ◌-◌, ◌*◌, List, [], ◌∷◌, length, take, drop, Option, Some, None, option_map, option_and_then, Result, Ok, Err, Bool, not, ◌&&◌, nat_lt, nat_le, ◌==◌, slice_get, bit_and, position, if◌then◌else◌}
use Rattle.std.specs.List.{list_all, list_any}
use Rattle.std.specs.Int.{Width, w16, w32, w64, byte_len, from_le_bytes}
use Rattle.elf_container.specs.declared.format.TheConstants.{ELFMAG0, ELFMAG1, ELFMAG2, ELFMAG3, ELFCLASS64, ELFDATA2LSB, EV_CURRENT, ET_REL, EM_RISCV, SHT_PROGBITS, SHT_RELA, SHF_COMPRESSED}
use Rattle.elf_container.specs.declared.fault.ElfKind.{ElfKind}
use Rattle.elf_container.specs.declared.fault.ElfKind.TheVariants.{NotElf, WrongClass, WrongMachine, Truncated, Trailing, Compressed, BadLayout}
use Rattle.elf_container.specs.declared.fault.ElfFault.{ElfFault}
use Rattle.elf_container.specs.declared.fault.ElfError.{ElfError}
use Rattle.elf_container.specs.declared.fault.ElfError.TheVariants as errors
use Rattle.elf_container.specs.declared.headers.Header.{Header}
use Rattle.elf_container.specs.declared.sections.Fields.{Fields}
use Rattle.elf_container.specs.declared.sections.OwnSection.{OwnSection}
use Rattle.elf_container.specs.Layout.{layout_of}

-- ---- comparing

-- the first place, counted from `from`, where both have a byte and the two differ
abbrev pub mismatch : ℕ → List ℕ → List ℕ → Option ℕ
mismatch from [] ys = None
mismatch from (x ∷ xs) [] = None
mismatch from (x ∷ xs) (y ∷ ys) = if x == y then mismatch (from + 1) xs ys else Some from

-- the first place where the two differ; where one is the front of the other, its end
abbrev pub difference : ℕ → List ℕ → List ℕ → Option ℕ
difference from [] [] = None
difference from [] (y ∷ ys) = Some from
difference from (x ∷ xs) [] = Some from
difference from (x ∷ xs) (y ∷ ys) = if x == y then difference (from + 1) xs ys else Some from

-- ---- the numbers of a file

-- the number that stands at a place
unfoldable pub number : Width → ℕ → List ℕ → ℕ
number w at bytes = from_le_bytes w (take (byte_len w) (drop at bytes))

abbrev pub header_at : ℕ → List ℕ → Header
header_at at bytes = record {
  name = number w32 at bytes;
  kind = number w32 (at + 4) bytes;
  flags = number w64 (at + 8) bytes;
  offset = number w64 (at + 24) bytes;
  size = number w64 (at + 32) bytes;
  link = number w32 (at + 40) bytes;
  info = number w32 (at + 44) bytes;
  entry_size = number w64 (at + 56) bytes;
}

-- what a section keeps of its header
abbrev pub fields_by : Header → Fields
fields_by h = record { kind = h.kind; flags = h.flags; link = h.link; info = h.info; entry_size = h.entry_size }

-- n headers from a place on
unfoldable pub headers_at : ℕ → ℕ → List ℕ → List Header
headers_at zero at bytes = []
headers_at (suc n) at bytes = header_at at bytes ∷ headers_at n (at + 64) bytes

abbrev pub shoff : List ℕ → ℕ
shoff bytes = number w64 40 bytes

abbrev pub shnum : List ℕ → ℕ
shnum bytes = number w16 60 bytes

abbrev pub shstrndx : List ℕ → ℕ
shstrndx bytes = number w16 62 bytes

abbrev pub table_end : List ℕ → ℕ
table_end bytes = shoff bytes + 64 * shnum bytes

-- the headers after header 0
abbrev pub headers : List ℕ → List Header
headers bytes = headers_at (shnum bytes - 1) (shoff bytes + 64) bytes

-- ---- one test each, with the place of its first fault

unfoldable pub not_elf : List ℕ → Option ℕ
not_elf bytes = mismatch 0 bytes (ELFMAG0 ∷ ELFMAG1 ∷ ELFMAG2 ∷ ELFMAG3 ∷ [])

abbrev pub short : List ℕ → Option ℕ
short bytes = if nat_lt (length bytes) 64 then Some (length bytes) else None

unfoldable pub wrong_class : List ℕ → Option ℕ
wrong_class bytes = mismatch 4 (drop 4 bytes) (ELFCLASS64 ∷ ELFDATA2LSB ∷ EV_CURRENT ∷ [])

unfoldable pub wrong_machine : List ℕ → Option ℕ
wrong_machine bytes =
    if number w16 16 bytes == ET_REL
    then (if number w16 18 bytes == EM_RISCV then (if number w32 20 bytes == EV_CURRENT then None else Some 20) else Some 18)
    else Some 16

abbrev pub table_cut : List ℕ → Option ℕ
table_cut bytes = if nat_lt (length bytes) (table_end bytes) then Some (length bytes) else None

-- a section's range passes the end
abbrev pub passes : ℕ → Header → Bool
passes end h = nat_lt end (h.offset + h.size)

abbrev pub section_cut : List ℕ → List Header → Option ℕ
section_cut bytes hs = if list_any (passes (length bytes)) hs then Some (length bytes) else None

abbrev pub trailing : List ℕ → Option ℕ
trailing bytes = if nat_lt (table_end bytes) (length bytes) then Some (table_end bytes) else None

abbrev pub is_compressed : Header → Bool
is_compressed h = not (bit_and h.flags SHF_COMPRESSED == 0)

-- the place of a header after header 0, by its place among them
abbrev pub header_place : List ℕ → Option ℕ → Option ℕ
header_place bytes found = option_map (λ i. shoff bytes + 64 * (i + 1)) found

abbrev pub compressed : List ℕ → List Header → Option ℕ
compressed bytes hs = header_place bytes (position is_compressed hs)

abbrev pub bad_count : List ℕ → Option ℕ
bad_count bytes = if nat_lt (shnum bytes) 2 then Some 60 else (if shstrndx bytes == shnum bytes - 1 then None else Some 60)

-- ---- the first fault that the headers tell

abbrev pub fault : ElfKind → Option ℕ → Option ElfFault
fault kind found = option_map (λ offset. record { kind = kind; offset = offset }) found

abbrev pub first : Option ElfFault → Option ElfFault → Option ElfFault
first None more = more
first (Some f) more = Some f

-- of the file's header
unfoldable pub form_fault : List ℕ → Option ElfFault
form_fault bytes =
    first (fault NotElf (not_elf bytes)) (
    first (fault Truncated (short bytes)) (
    first (fault WrongClass (wrong_class bytes)) (
    first (fault WrongMachine (wrong_machine bytes))
    (fault Truncated (table_cut bytes)))))

-- of the section headers
unfoldable pub header_fault : List ℕ → List Header → Option ElfFault
header_fault bytes hs =
    first (fault Truncated (section_cut bytes hs)) (
    first (fault Trailing (trailing bytes)) (
    first (fault Compressed (compressed bytes hs))
    (fault BadLayout (bad_count bytes))))

-- ---- the sections

-- the bytes up to the first zero
abbrev pub text : List ℕ → Option (List ℕ)
text [] = None
text (b ∷ bs) = if b == 0 then Some [] else option_map (λ t. b ∷ t) (text bs)

abbrev pub is_printable : ℕ → Bool
is_printable b = nat_le 0x21 b && nat_le b 0x7e

-- whether a `Name` holds the bytes
abbrev pub is_name_of : List ℕ → Bool
is_name_of bytes = nat_le 1 (length bytes) && nat_le (length bytes) 300 && list_all is_printable bytes

abbrev pub named : List ℕ → Option (List ℕ)
named name = if is_name_of name then Some name else None

-- the name that begins at a place in the bytes of `.shstrtab`
unfoldable pub name_at : ℕ → List ℕ → Option (List ℕ)
name_at at names = option_and_then named (text (drop at names))

-- the bytes of a section
abbrev pub bytes_of : List ℕ → Header → List ℕ
bytes_of bytes h = take h.size (drop h.offset bytes)

abbrev pub names_by : List ℕ → Option Header → List ℕ
names_by bytes None = []
names_by bytes (Some h) = bytes_of bytes h

-- the bytes of the last section by number, which is `.shstrtab`
abbrev pub names_of : List ℕ → List Header → List ℕ
names_of bytes hs = names_by bytes (slice_get hs (length hs - 1))

abbrev pub section_by : List ℕ → Header → Option (List ℕ) → Option OwnSection
section_by bytes h found = option_map (λ name. record { name = name; kind = h.kind; flags = h.flags; link = h.link; info = h.info; entry_size = h.entry_size; bytes = bytes_of bytes h }) found

-- the section of a header, if its type is 1 to 4 and it has a name
unfoldable pub section_at : List ℕ → List ℕ → Header → Option OwnSection
section_at bytes names h = if nat_le SHT_PROGBITS h.kind && nat_le h.kind SHT_RELA then section_by bytes h (name_at h.name names) else None

infixl 10 ◌>>=◌
abbrev pub ◌>>=◌ : {A B : Type 0} → Result A ElfFault → (A → Result B ElfFault) → Result B ElfFault
(Ok x) >>= f = f x
(Err e) >>= f = Err e

abbrev pub or_bad : ℕ → Option OwnSection → Result OwnSection ElfFault
or_bad at None = Err (record { kind = BadLayout; offset = at })
or_bad at (Some s) = Ok s

-- the sections of headers that stand from a place on
unfoldable pub sections_at : List ℕ → List ℕ → ℕ → List Header → Result (List OwnSection) ElfFault
sections_at bytes names at [] = Ok []
sections_at bytes names at (h ∷ hs) = or_bad at (section_at bytes names h) >>= λ s. sections_at bytes names (at + 64) hs >>= λ ss. Ok (s ∷ ss)

abbrev pub unless : {A : Type 0} → Option ElfFault → Result A ElfFault → Result A ElfFault
unless None more = more
unless (Some f) more = Err f

-- the sections found, where the file is their layout
unfoldable pub compared : List ℕ → List OwnSection → Result (List OwnSection) ElfFault
compared bytes ss = unless (fault BadLayout (difference 0 bytes (layout_of ss))) (Ok ss)

-- all but the last
abbrev pub but_last : List OwnSection → List OwnSection
but_last ss = take (length ss - 1) ss

-- the sections of a file but for `.shstrtab`, or its first fault
unfoldable pub read_of : List ℕ → Result (List OwnSection) ElfFault
read_of bytes =
    unless (form_fault bytes) (
    unless (header_fault bytes (headers bytes)) (
    sections_at bytes (names_of bytes (headers bytes)) (shoff bytes + 64) (headers bytes) >>= λ ss.
    compared bytes (but_last ss)))

-- ---- what a call answers

-- the fault that reading gives, or want of memory
abbrev pub Fails : ElfError → Result (List OwnSection) ElfFault → Type 0
Fails errors.NoMemory read = Unit {0}
Fails (errors.Fault f) read = read ≡ Err f

-- what reading gives, unless memory ran out
abbrev pub Gives : {X : Type 0} → (X → List OwnSection) → Result X ElfError → Result (List OwnSection) ElfFault → Type 0
Gives view (Ok x) read = read ≡ Ok (view x)
Gives view (Err e) read = Fails e read
