-- The numbers of the headers are those that were written.
use Rattle.std.proofs.Common.{◌≡◌, ℕ, ◌+◌, ◌-◌, ◌^◌, ◌<◌, List, ◌++◌, length, take, drop, refl, sym, ap, ◌∙◌, arith, add-zero}
use Rattle.std.specs.Int.{Width, w16, w32, w64, byte_len, from_le_bytes}
use Rattle.std.proofs.lemmas.Nat.{from_le_bytes-to_le_bytes_2, from_le_bytes-to_le_bytes_4, from_le_bytes-to_le_bytes_8}
use Rattle.std.proofs.lemmas.List.{drop-drop}
use Rattle.cursors.specs.Fixed.{le16, le32, le64}
use Rattle.elf_container.specs.declared.sections.Fields.{Fields}
use Rattle.elf_container.specs.declared.headers.Header.{Header}
use Rattle.elf_container.specs.Format.{file_header, section_header}
use Rattle.elf_container.specs.Reading.{number, header_at}

-- ---- the file's header

pub file_shoff : (shoff shnum : ℕ) (rest : List ℕ) → shoff < 2 ^ 64 → number w64 40 (file_header shoff shnum ++ rest) ≡ shoff
unfolding number file_header le16 le32 le64
file_shoff shoff shnum rest lt = from_le_bytes-to_le_bytes_8 shoff lt

pub file_shnum : (shoff shnum : ℕ) (rest : List ℕ) → shnum < 2 ^ 16 → number w16 60 (file_header shoff shnum ++ rest) ≡ shnum
unfolding number file_header le16 le32 le64
file_shnum shoff shnum rest lt = from_le_bytes-to_le_bytes_2 shnum lt

pub file_shstrndx : (shoff shnum : ℕ) (rest : List ℕ) → shnum < 2 ^ 16 → number w16 62 (file_header shoff shnum ++ rest) ≡ shnum - 1
unfolding number file_header le16 le32 le64
file_shstrndx shoff shnum rest lt = from_le_bytes-to_le_bytes_2 (shnum - 1) (omega arith)

pub file_header_len : (shoff shnum : ℕ) → length (file_header shoff shnum) ≡ 64
unfolding file_header le16 le32 le64
file_header_len shoff shnum = refl

-- ---- a section's header

pub section_header_len : (name offset size : ℕ) (f : Fields) → length (section_header name offset f size) ≡ 64
unfolding section_header le32 le64
section_header_len name offset size f = refl

-- the numbers fit their fields
pub record Fits (name offset size : ℕ) (f : Fields) : Type 0 where
  pub name_fits : name < 2 ^ 32
  pub offset_fits : offset < 2 ^ 64
  pub size_fits : size < 2 ^ 64
  pub kind : f.kind < 2 ^ 32
  pub flags : f.flags < 2 ^ 64
  pub link : f.link < 2 ^ 32
  pub info : f.info < 2 ^ 32
  pub entry_size : f.entry_size < 2 ^ 64

section_name : (name offset size : ℕ) (f : Fields) (rest : List ℕ) → name < 2 ^ 32 → number w32 0 (section_header name offset f size ++ rest) ≡ name
unfolding number section_header le32 le64
section_name name offset size f rest lt = from_le_bytes-to_le_bytes_4 name lt

section_kind : (name offset size : ℕ) (f : Fields) (rest : List ℕ) → f.kind < 2 ^ 32 → number w32 4 (section_header name offset f size ++ rest) ≡ f.kind
unfolding number section_header le32 le64
section_kind name offset size f rest lt = from_le_bytes-to_le_bytes_4 f.kind lt

section_flags : (name offset size : ℕ) (f : Fields) (rest : List ℕ) → f.flags < 2 ^ 64 → number w64 8 (section_header name offset f size ++ rest) ≡ f.flags
unfolding number section_header le32 le64
section_flags name offset size f rest lt = from_le_bytes-to_le_bytes_8 f.flags lt

section_offset : (name offset size : ℕ) (f : Fields) (rest : List ℕ) → offset < 2 ^ 64 → number w64 24 (section_header name offset f size ++ rest) ≡ offset
unfolding number section_header le32 le64
section_offset name offset size f rest lt = from_le_bytes-to_le_bytes_8 offset lt

section_size : (name offset size : ℕ) (f : Fields) (rest : List ℕ) → size < 2 ^ 64 → number w64 32 (section_header name offset f size ++ rest) ≡ size
unfolding number section_header le32 le64
section_size name offset size f rest lt = from_le_bytes-to_le_bytes_8 size lt

section_link : (name offset size : ℕ) (f : Fields) (rest : List ℕ) → f.link < 2 ^ 32 → number w32 40 (section_header name offset f size ++ rest) ≡ f.link
unfolding number section_header le32 le64
section_link name offset size f rest lt = from_le_bytes-to_le_bytes_4 f.link lt

section_info : (name offset size : ℕ) (f : Fields) (rest : List ℕ) → f.info < 2 ^ 32 → number w32 44 (section_header name offset f size ++ rest) ≡ f.info
unfolding number section_header le32 le64
section_info name offset size f rest lt = from_le_bytes-to_le_bytes_4 f.info lt

section_entry_size : (name offset size : ℕ) (f : Fields) (rest : List ℕ) → f.entry_size < 2 ^ 64 → number w64 56 (section_header name offset f size ++ rest) ≡ f.entry_size
unfolding number section_header le32 le64
section_entry_size name offset size f rest lt = from_le_bytes-to_le_bytes_8 f.entry_size lt

abbrev pub header_of : ℕ → ℕ → Fields → ℕ → Header
header_of name offset f size = record { name = name; kind = f.kind; flags = f.flags; offset = offset; size = size; link = f.link; info = f.info; entry_size = f.entry_size }

number_behind : (w : Width) (at k : ℕ) (bytes : List ℕ) → number w (at + k) bytes ≡ number w k (drop at bytes)
unfolding number
number_behind w at k bytes = ap (λ t. from_le_bytes w (take (byte_len w) t)) (sym (drop-drop k at bytes))

number_first : (w : Width) (at : ℕ) (bytes : List ℕ) → number w at bytes ≡ number w 0 (drop at bytes)
number_first w at bytes = ap (λ n. number w n bytes) (sym (add-zero at)) ∙ number_behind w at 0 bytes

-- the header that is read where a section's header stands
pub header_there : (at : ℕ) (bytes rest : List ℕ) (name offset size : ℕ) (f : Fields) → Fits name offset size f → drop at bytes ≡ section_header name offset f size ++ rest → header_at at bytes ≡ header_of name offset f size
header_there at bytes rest name offset size f fits e =
    let n : number w32 at bytes ≡ name = number_first w32 at bytes ∙ ap (number w32 0) e ∙ section_name name offset size f rest fits.name_fits in
    let k : number w32 (at + 4) bytes ≡ f.kind = number_behind w32 at 4 bytes ∙ ap (number w32 4) e ∙ section_kind name offset size f rest fits.kind in
    let g : number w64 (at + 8) bytes ≡ f.flags = number_behind w64 at 8 bytes ∙ ap (number w64 8) e ∙ section_flags name offset size f rest fits.flags in
    let o : number w64 (at + 24) bytes ≡ offset = number_behind w64 at 24 bytes ∙ ap (number w64 24) e ∙ section_offset name offset size f rest fits.offset_fits in
    let s : number w64 (at + 32) bytes ≡ size = number_behind w64 at 32 bytes ∙ ap (number w64 32) e ∙ section_size name offset size f rest fits.size_fits in
    let l : number w32 (at + 40) bytes ≡ f.link = number_behind w32 at 40 bytes ∙ ap (number w32 40) e ∙ section_link name offset size f rest fits.link in
    let i : number w32 (at + 44) bytes ≡ f.info = number_behind w32 at 44 bytes ∙ ap (number w32 44) e ∙ section_info name offset size f rest fits.info in
    let z : number w64 (at + 56) bytes ≡ f.entry_size = number_behind w64 at 56 bytes ∙ ap (number w64 56) e ∙ section_entry_size name offset size f rest fits.entry_size in
    rw (n, k, g, o, s, l, i, z) refl
