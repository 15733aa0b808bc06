-- Where the parts of a laid out file stand: what is placed stays where it is placed, so each section's header, name and bytes are
-- found again.
use Rattle.std.proofs.Common.{◌≡◌, ℕ, ◌+◌, ◌*◌, ◌^◌, ◌<◌, ◌≤◌, true, false, eqb, List, [], ◌∷◌, ◌++◌, length, take, drop, Some, refl, sym, ap, subst, ◌∙◌, append_assoc, length-append, arith}
use Rattle.std.specs.Prelude.{nat_lt, nat_le, not, bit_and}
use Rattle.std.specs.List.{fold, AllByRecursion}
use Rattle.std.proofs.lemmas.Bool.Decides.{nat_tests}
use Rattle.std.proofs.lemmas.List.{append-nil, take_at, drop_at, drop-drop, length-replicate}
use Rattle.gimple_ir.specs.Names.{IsName}
use Rattle.elf_container.specs.declared.headers.Header.{Header}
use Rattle.elf_container.specs.declared.sections.OwnSection.{OwnSection}
use Rattle.elf_container.specs.Format.{section_header}
use Rattle.elf_container.specs.Layout.{zeros, gap, padded, Parts, placed, fields_of}
use Rattle.elf_container.specs.Container.{IsPlain, IsSection}
use Rattle.elf_container.specs.Reading.{header_at, headers_at, passes, is_compressed, name_at, bytes_of, section_at}
use Rattle.elf_container.proofs.NameLaws.{name_there}
use Rattle.elf_container.proofs.HeaderLaws.{Fits, header_of, header_there, section_header_len}

-- ---- fronts

-- the whole begins with the front
abbrev pub Begins : List ℕ → List ℕ → Type 0
Begins front whole = (rest : List ℕ) × (whole ≡ front ++ rest)

pub begins_through : (a b c : List ℕ) → Begins a b → Begins b c → Begins a c
begins_through a b c h k = (h.0 ++ k.0, k.1 ∙ ap (λ t. t ++ k.0) h.1 ∙ append_assoc a h.0 k.0)

front_le : (a b : List ℕ) → Begins a b → length a ≤ length b
front_le a b h = omega (arith, ap length h.1, length-append a h.0)

-- what stands at a place of the front's part behind that place
pub at_front : (a x b : List ℕ) → Begins (a ++ x) b → (rest : List ℕ) × (drop (length a) b ≡ x ++ rest)
at_front a x b h = (h.0, ap (drop (length a)) (h.1 ∙ append_assoc a x h.0) ∙ drop_at a (x ++ h.0) (length a) refl)

-- ---- placing adds behind

-- each part begins with what it was
pub record Grows (p q : Parts) : Type 0 where
  pub names : Begins p.names q.names
  pub file : Begins p.file q.file
  pub table : Begins p.table q.table

grows_through : (p q r : Parts) → Grows p q → Grows q r → Grows p r
grows_through p q r h k = record {
  names = begins_through p.names q.names r.names h.names k.names;
  file = begins_through p.file q.file r.file h.file k.file;
  table = begins_through p.table q.table r.table h.table k.table;
}

itself : (a : List ℕ) → Begins a a
itself a = ([], sym (append-nil a))

stays : (p : Parts) → Grows p p
stays p = record { names = itself p.names; file = itself p.file; table = itself p.table }

pub padded_begins : (bytes : List ℕ) → Begins bytes (padded bytes)
unfolding padded
padded_begins bytes = (zeros (gap (length bytes)), refl)

pub padded_len : (bytes : List ℕ) → length bytes ≤ length (padded bytes)
padded_len bytes = front_le bytes (padded bytes) (padded_begins bytes)

placed_grows : (p : Parts) (s : OwnSection) → Grows p (placed p s)
placed_grows p s = record {
  names = (s.name ++ 0 ∷ [], append_assoc p.names s.name (0 ∷ []));
  file = begins_through p.file (padded p.file) (padded p.file ++ s.bytes) (padded_begins p.file) (s.bytes, refl);
  table = (section_header (length p.names) (length (padded p.file)) (fields_of s) (length s.bytes), refl);
}

pub grows : (ss : List OwnSection) (p : Parts) → Grows p (fold placed p ss)
grows [] p = stays p
grows (s ∷ ss) p = grows_through p (placed p s) (fold placed (placed p s) ss) (placed_grows p s) (grows ss (placed p s))

pub zeros_len : (n : ℕ) → length (zeros n) ≡ n
unfolding zeros
zeros_len n = length-replicate n 0

pub table_len : (p : Parts) (s : OwnSection) → length (placed p s).table ≡ length p.table + 64
table_len p s =
    length-append p.table (section_header (length p.names) (length (padded p.file)) (fields_of s) (length s.bytes))
    ∙ ap (λ n. length p.table + n) (section_header_len (length p.names) (length (padded p.file)) (length s.bytes) (fields_of s))

pub tables_len : (ss : List OwnSection) (p : Parts) → length (fold placed p ss).table ≡ length p.table + 64 * length ss
tables_len [] p = omega arith
tables_len (s ∷ ss) p = omega (arith, tables_len ss (placed p s), table_len p s)

names_len : (p : Parts) (s : OwnSection) → length (placed p s).names ≡ length p.names + length s.name + 1
names_len p s = omega (arith, length-append (p.names ++ s.name) (0 ∷ []), length-append p.names s.name)

-- names have at most 300 bytes, so an offset of a name fits its field
pub names_few : (ss : List OwnSection) (p : Parts) → AllByRecursion IsSection ss → length (fold placed p ss).names ≤ length p.names + 301 * length ss
names_few [] p all = omega arith
names_few (s ∷ ss) p all = omega (arith, names_few ss (placed p s) all.1, names_len p s, all.0.name.bounded)

-- ---- sections found again

-- Bytes that hold these parts: the sections from offset 64 on, and the table from the place at on.
pub record Holds (bytes : List ℕ) (at : ℕ) (q : Parts) : Type 0 where
  pub file : (offset : ℕ) → 64 ≤ offset → drop offset bytes ≡ drop offset (padded q.file ++ q.table)
  pub size : length bytes ≡ length (padded q.file ++ q.table)
  pub table : drop at bytes ≡ q.table
  pub small : length bytes < 2 ^ 64
  pub names : length q.names < 2 ^ 32

-- what a header tells of a section
pub record Told (bytes names : List ℕ) (h : Header) (s : OwnSection) : Type 0 where
  pub within : passes (length bytes) h ≡ false
  pub plain : is_compressed h ≡ false
  pub bytes_are : bytes_of bytes h ≡ s.bytes
  pub section : section_at bytes names h ≡ Some s

not_above : (a b : ℕ) → b ≤ a → nat_lt a b ≡ false
not_above a b h = grind (arith, nat_tests)

up_to : (a b : ℕ) → a ≤ b → nat_le a b ≡ true
up_to a b h = grind (arith, nat_tests)

zero_is : (n : ℕ) → n ≡ 0 → not (eqb n 0) ≡ false
zero_is n e = rw e refl

-- the header that a placed section has
abbrev header_by : Parts → OwnSection → Header
header_by p s = header_of (length p.names) (length (padded p.file)) (fields_of s) (length s.bytes)

section_is : (bytes names : List ℕ) (p : Parts) (s : OwnSection) → IsPlain s → name_at (length p.names) names ≡ Some s.name → bytes_of bytes (header_by p s) ≡ s.bytes → section_at bytes names (header_by p s) ≡ Some s
unfolding section_at
section_is bytes names p s plain name same = rw (up_to 1 s.kind plain.least, up_to s.kind 4 plain.most, name, same) refl

told_by : (bytes names : List ℕ) (p : Parts) (s : OwnSection) → IsPlain s → passes (length bytes) (header_by p s) ≡ false → name_at (length p.names) names ≡ Some s.name → bytes_of bytes (header_by p s) ≡ s.bytes → Told bytes names (header_by p s) s
told_by bytes names p s plain within name same = record {
  within = within;
  plain = zero_is (bit_and s.flags 0x800) plain.uncompressed;
  bytes_are = same;
  section = section_is bytes names p s plain name same;
}

-- a section's bytes, from its offset on
bytes_there : (bytes : List ℕ) (at : ℕ) (p q : Parts) (s : OwnSection) → Holds bytes at q → Grows (placed p s) q → 64 ≤ length p.file → bytes_of bytes (header_by p s) ≡ s.bytes
bytes_there bytes at p q s holds grown room =
    let whole = padded q.file ++ q.table in
    let last : Begins q.file whole = begins_through q.file (padded q.file) whole (padded_begins q.file) (q.table, refl) in
    let there = at_front (padded p.file) s.bytes whole (begins_through (padded p.file ++ s.bytes) q.file whole grown.file last) in
    let far : 64 ≤ length (padded p.file) = omega (arith, padded_len p.file, room) in
    ap (take (length s.bytes)) (holds.file (length (padded p.file)) far ∙ there.1) ∙ take_at s.bytes there.0 (length s.bytes) refl

within_end : (bytes : List ℕ) (at : ℕ) (p q : Parts) (s : OwnSection) → Holds bytes at q → Grows (placed p s) q → length (padded p.file) + length s.bytes ≤ length bytes
within_end bytes at p q s holds grown =
    omega (arith, holds.size, front_le (padded p.file ++ s.bytes) q.file grown.file, length-append (padded p.file) s.bytes, padded_len q.file, length-append (padded q.file) q.table)

name_found : (p q : Parts) (s : OwnSection) → Grows (placed p s) q → IsName s.name → name_at (length p.names) q.names ≡ Some s.name
name_found p q s grown name =
    let text : (p.names ++ s.name) ++ 0 ∷ [] ≡ p.names ++ (s.name ++ 0 ∷ []) = append_assoc p.names s.name (0 ∷ []) in
    let there = at_front p.names (s.name ++ 0 ∷ []) q.names (grown.names.0, grown.names.1 ∙ ap (λ t. t ++ grown.names.0) text) in
    name_there (length p.names) q.names s.name there.0 name (there.1 ∙ append_assoc s.name (0 ∷ []) there.0)

fits : (bytes : List ℕ) (at : ℕ) (p q : Parts) (s : OwnSection) → Holds bytes at q → Grows (placed p s) q → IsSection s → Fits (length p.names) (length (padded p.file)) (length s.bytes) (fields_of s)
fits bytes at p q s holds grown is = record {
  name_fits = omega (arith, holds.names, front_le p.names q.names (begins_through p.names (placed p s).names q.names ((placed_grows p s).names) grown.names));
  offset_fits = omega (arith, holds.small, within_end bytes at p q s holds grown);
  size_fits = omega (arith, holds.small, within_end bytes at p q s holds grown);
  kind = omega (arith, is.plain.most);
  flags = is.fields.flags;
  link = is.fields.link;
  info = is.fields.info;
  entry_size = is.fields.entry_size;
}

pub header_found : (bytes : List ℕ) (at : ℕ) (p q : Parts) (s : OwnSection) → Holds bytes at q → Grows (placed p s) q → IsSection s → header_at (at + length p.table) bytes ≡ header_by p s
header_found bytes at p q s holds grown is =
    let there = at_front p.table (section_header (length p.names) (length (padded p.file)) (fields_of s) (length s.bytes)) q.table grown.table in
    header_there (at + length p.table) bytes there.0 (length p.names) (length (padded p.file)) (length s.bytes) (fields_of s) (fits bytes at p q s holds grown is)
    (sym (drop-drop (length p.table) at bytes) ∙ ap (drop (length p.table)) holds.table ∙ there.1)

told : (bytes : List ℕ) (at : ℕ) (p q : Parts) (s : OwnSection) → Holds bytes at q → Grows (placed p s) q → 64 ≤ length p.file → IsSection s → Told bytes q.names (header_at (at + length p.table) bytes) s
told bytes at p q s holds grown room is =
    subst (λ h. Told bytes q.names h s) (sym (header_found bytes at p q s holds grown is))
    (told_by bytes q.names p s is.plain (not_above (length bytes) (length (padded p.file) + length s.bytes) (within_end bytes at p q s holds grown)) (name_found p q s grown is.name) (bytes_there bytes at p q s holds grown room))

-- the headers tell the sections, one by one
abbrev pub Tells : List ℕ → List ℕ → List Header → List OwnSection → Type 0
Tells bytes names [] [] = Unit {0}
Tells bytes names [] (s ∷ ss) = ⊥
Tells bytes names (h ∷ hs) [] = ⊥
Tells bytes names (h ∷ hs) (s ∷ ss) = Told bytes names h s × Tells bytes names hs ss

pub tells : (bytes : List ℕ) (at : ℕ) (q : Parts) (ss : List OwnSection) (p : Parts) → Holds bytes at q → q ≡ fold placed p ss → 64 ≤ length p.file → AllByRecursion IsSection ss → Tells bytes q.names (headers_at (length ss) (at + length p.table) bytes) ss
unfolding headers_at
tells bytes at q [] p holds e room all = tt
tells bytes at q (s ∷ ss) p holds e room all =
    let grown : Grows (placed p s) q = subst (λ r. Grows (placed p s) r) (sym e) (grows ss (placed p s)) in
    let more : 64 ≤ length (placed p s).file = omega (arith, room, front_le p.file (placed p s).file (placed_grows p s).file) in
    let next : (at + length p.table) + 64 ≡ at + length (placed p s).table = omega (arith, table_len p s) in
    (told bytes at p q s holds grown room all.0, rw next (tells bytes at q ss (placed p s) holds e more all.1))
