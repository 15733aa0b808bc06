-- The entries of an object's tables are read as they were written, and its symbols get their names again.
use Rattle.std.proofs.Common.{◌≡◌, ℕ, suc, ◌+◌, ◌-◌, ◌%◌, ◌^◌, ◌<◌, List, [], ◌∷◌, ◌++◌, length, drop, Option, Some, None, refl, sym, ap, ◌∙◌, append_assoc, length-append, lit<, arith}
use Rattle.std.specs.Prelude.{slice_index}
use Rattle.std.specs.Int.{w16, w32, w64}
use Rattle.std.specs.List.{flat_map, AllByRecursion}
use Rattle.std.proofs.lemmas.Nat.{from_le_bytes-to_le_bytes_2, from_le_bytes-to_le_bytes_4, from_le_bytes-to_le_bytes_8}
use Rattle.std.proofs.lemmas.List.{drop_at}
use Rattle.cursors.specs.Fixed.{le16, le32, le64}
use Rattle.elf_container.specs.declared.entries.Sym.{Sym}
use Rattle.elf_container.specs.declared.relocatable.RelSymbol.{RelSymbol}
use Rattle.elf_container.specs.declared.relocatable.Reloc.{Reloc}
use Rattle.elf_container.specs.Reading.{number, name_at}
use Rattle.elf_container.specs.Entries.{word_in, sym_bytes, sym_in, reloc_bytes, reloc_in}
use Rattle.elf_container.specs.Relocatable.{entry_by, entries_from, name_bytes, StartFits, SymbolFits, RelocFits}
use Rattle.elf_container.specs.ObjectReading.{symbol_by, named_by}
use Rattle.elf_container.proofs.NameLaws.{name_there}

-- ---- words

pub word_len : (w : ℕ) → length (le32 w) ≡ 4
unfolding le32
word_len w = refl

pub word_again : (w : ℕ) (rest : List ℕ) → w < 2 ^ 32 → word_in (le32 w ++ rest) ≡ w
unfolding number le32
word_again w rest lt = from_le_bytes-to_le_bytes_4 w lt

-- ---- relocations

pub reloc_len : (r : Reloc) → length (reloc_bytes r) ≡ 24
unfolding reloc_bytes le32 le64
reloc_len r = refl

reloc_offset : (r : Reloc) (rest : List ℕ) → r.offset < 2 ^ 64 → number w64 0 (reloc_bytes r ++ rest) ≡ r.offset
unfolding number reloc_bytes le32 le64
reloc_offset r rest lt = from_le_bytes-to_le_bytes_8 r.offset lt

reloc_kind : (r : Reloc) (rest : List ℕ) → r.kind < 2 ^ 32 → number w32 8 (reloc_bytes r ++ rest) ≡ r.kind
unfolding number reloc_bytes le32 le64
reloc_kind r rest lt = from_le_bytes-to_le_bytes_4 r.kind lt

reloc_symbol : (r : Reloc) (rest : List ℕ) → (r.symbol + 1) % 2 ^ 32 < 2 ^ 32 → number w32 12 (reloc_bytes r ++ rest) ≡ (r.symbol + 1) % 2 ^ 32
unfolding number reloc_bytes le32 le64
reloc_symbol r rest lt = from_le_bytes-to_le_bytes_4 ((r.symbol + 1) % 2 ^ 32) lt

below : (n : ℕ) → n % 2 ^ 32 < 2 ^ 32
below n = omega arith

symbol_back : (n : ℕ) → n + 1 < 2 ^ 32 → (n + 1) % 2 ^ 32 - 1 ≡ n
symbol_back n lt = omega arith

pub reloc_again : (r : Reloc) (rest : List ℕ) → RelocFits r → reloc_in (reloc_bytes r ++ rest) ≡ r
unfolding reloc_in
reloc_again r rest fits =
    let s : number w32 12 (reloc_bytes r ++ rest) - 1 ≡ r.symbol = ap (λ n. n - 1) (reloc_symbol r rest (below (r.symbol + 1))) ∙ symbol_back r.symbol fits.symbol in
    rw (reloc_offset r rest fits.offset, reloc_kind r rest fits.kind, s) refl

-- ---- symbols

pub record SymFits (s : Sym) : Type 0 where
  pub name : s.name < 2 ^ 32
  pub section : s.section < 2 ^ 16
  pub value : s.value < 2 ^ 64
  pub size : s.size < 2 ^ 64

pub sym_len : (s : Sym) → length (sym_bytes s) ≡ 24
unfolding sym_bytes le16 le32 le64
sym_len s = refl

sym_name : (s : Sym) (rest : List ℕ) → s.name < 2 ^ 32 → number w32 0 (sym_bytes s ++ rest) ≡ s.name
unfolding number sym_bytes le16 le32 le64
sym_name s rest lt = from_le_bytes-to_le_bytes_4 s.name lt

sym_info : (s : Sym) (rest : List ℕ) → slice_index (sym_bytes s ++ rest) 4 ≡ s.info
unfolding sym_bytes le16 le32 le64
sym_info s rest = refl

sym_section : (s : Sym) (rest : List ℕ) → s.section < 2 ^ 16 → number w16 6 (sym_bytes s ++ rest) ≡ s.section
unfolding number sym_bytes le16 le32 le64
sym_section s rest lt = from_le_bytes-to_le_bytes_2 s.section lt

sym_value : (s : Sym) (rest : List ℕ) → s.value < 2 ^ 64 → number w64 8 (sym_bytes s ++ rest) ≡ s.value
unfolding number sym_bytes le16 le32 le64
sym_value s rest lt = from_le_bytes-to_le_bytes_8 s.value lt

sym_size : (s : Sym) (rest : List ℕ) → s.size < 2 ^ 64 → number w64 16 (sym_bytes s ++ rest) ≡ s.size
unfolding number sym_bytes le16 le32 le64
sym_size s rest lt = from_le_bytes-to_le_bytes_8 s.size lt

pub sym_again : (s : Sym) (rest : List ℕ) → SymFits s → sym_in (sym_bytes s ++ rest) ≡ s
unfolding sym_in
sym_again s rest fits = rw (sym_name s rest fits.name, sym_info s rest, sym_section s rest fits.section, sym_value s rest fits.value, sym_size s rest fits.size) refl

entry_fits : (name size : ℕ) (start : Option ℕ) → size < 2 ^ 64 → StartFits start → SymFits (entry_by name size start)
entry_fits name size None small fits = record { name = below name; section = lit< tt; value = lit< tt; size = small }
entry_fits name size (Some start) small fits = record { name = below name; section = lit< tt; value = fits; size = small }

pub entries_fit : (name : ℕ) (ss : List RelSymbol) → AllByRecursion SymbolFits ss → AllByRecursion SymFits (entries_from name ss)
entries_fit name [] fit = tt
entries_fit name (s ∷ ss) fit = (entry_fits name s.size s.start fit.0.size fit.0.start, entries_fit (name + length s.name + 1) ss fit.1)

pub entries_len : (name : ℕ) (ss : List RelSymbol) → length (entries_from name ss) ≡ length ss
entries_len name [] = refl
entries_len name (s ∷ ss) = ap (λ n. suc n) (entries_len (name + length s.name + 1) ss)

-- ---- names

entry_name : (name size : ℕ) (start : Option ℕ) → (entry_by name size start).name ≡ name % 2 ^ 32
entry_name name size None = refl
entry_name name size (Some start) = refl

abbrev symbol_as : List ℕ → Option ℕ → ℕ → RelSymbol
symbol_as text start size = record { name = text; start = start; size = size }

symbol_again : (name size : ℕ) (start : Option ℕ) (text : List ℕ) → symbol_by (entry_by name size start) text ≡ symbol_as text start size
symbol_again name size None text = refl
symbol_again name size (Some start) text = refl

low : (n : ℕ) → n < 2 ^ 32 → n % 2 ^ 32 ≡ n
low n lt = omega arith

-- the symbols of the entries that were made of them, whose names stand behind what stands before
pub named_again : (before : List ℕ) (ss : List RelSymbol) (strings : List ℕ) → strings ≡ before ++ flat_map name_bytes ss → length strings < 2 ^ 32 → AllByRecursion SymbolFits ss
    → named_by strings (entries_from (length before) ss) ≡ Some ss
named_again before [] strings e small fit = refl
named_again before (s ∷ ss) strings e small fit =
    let name = length before in
    let text : strings ≡ before ++ (s.name ++ 0 ∷ flat_map name_bytes ss) = e ∙ ap (λ t. before ++ t) (append_assoc s.name (0 ∷ []) (flat_map name_bytes ss)) in
    let fits : name < 2 ^ 32 = omega (arith, small, ap length text, length-append before (s.name ++ 0 ∷ flat_map name_bytes ss)) in
    let number : (entry_by name s.size s.start).name ≡ name = entry_name name s.size s.start ∙ low name fits in
    let there : drop name strings ≡ s.name ++ 0 ∷ flat_map name_bytes ss = ap (drop name) text ∙ drop_at before (s.name ++ 0 ∷ flat_map name_bytes ss) name refl in
    let found : name_at (entry_by name s.size s.start).name strings ≡ Some s.name = ap (λ n. name_at n strings) number ∙ name_there name strings s.name (flat_map name_bytes ss) fit.0.name there in
    let next : length (before ++ (s.name ++ 0 ∷ [])) ≡ name + length s.name + 1 = omega (arith, length-append before (s.name ++ 0 ∷ []), length-append s.name (0 ∷ [])) in
    let rest : strings ≡ (before ++ (s.name ++ 0 ∷ [])) ++ flat_map name_bytes ss = e ∙ sym (append_assoc before (s.name ++ 0 ∷ []) (flat_map name_bytes ss)) in
    let more : named_by strings (entries_from (name + length s.name + 1) ss) ≡ Some ss =
    sym (ap (λ n. named_by strings (entries_from n ss)) next) ∙ named_again (before ++ (s.name ++ 0 ∷ [])) ss strings rest small fit.1 in
    rw (found, more, symbol_again name s.size s.start s.name) refl
