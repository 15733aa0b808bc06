-- What is laid out is read as the sections that were laid out.
use Rattle.std.proofs.Common.{◌≡◌, ℕ, suc, ◌+◌, ◌-◌, ◌*◌, ◌^◌, ◌<◌, ◌≤◌, false, List, [], ◌∷◌, ◌++◌, length, drop, None, Ok, refl, sym, ap, subst, ◌∙◌, append_assoc, length-append, length-drop, lit<, lit≤, arith}
use Rattle.std.specs.Prelude.{slice_get}
use Rattle.std.specs.List.{fold, list_any, AllByRecursion}
use Rattle.std.proofs.lemmas.List.{take_at, drop_at, drop-drop, drop-append-le}
use Rattle.std.proofs.lemmas.List.Sums.{fold-append}
use Rattle.std.proofs.lemmas.List.Elements.{recursion_from_All}
use Rattle.gimple_ir.specs.Names.{IsName}
use Rattle.elf_container.specs.declared.headers.Header.{Header}
use Rattle.elf_container.specs.declared.sections.OwnSection.{OwnSection}
use Rattle.elf_container.specs.Format.{file_header}
use Rattle.elf_container.specs.Layout.{zeros, padded, Parts, start, placed, shstrtab_name, shstrtab_of, parts_of, layout_of}
use Rattle.elf_container.specs.Container.{IsSection, IsContainer}
use Rattle.elf_container.specs.Reading.{passes, is_compressed, headers, shoff, shnum, names_by, names_of, sections_at, compared, but_last, form_fault, header_fault, read_of}
use Rattle.elf_container.proofs.FormSteps.{same_all}
use Rattle.elf_container.proofs.NameLaws.{is_name}
use Rattle.elf_container.proofs.HeaderLaws.{file_header_len}
use Rattle.elf_container.proofs.FileLaws.{HasHeader, table_is, count_is, form_good, headers_good}
use Rattle.elf_container.proofs.Places.{Begins, grows, zeros_len, padded_len, tables_len, names_few, Holds, Tells, tells}

-- ---- from what the headers tell

none_passes_end : (bytes names : List ℕ) (hs : List Header) (ss : List OwnSection) → Tells bytes names hs ss → list_any (passes (length bytes)) hs ≡ false
none_passes_end bytes names [] ss t = refl
none_passes_end bytes names (h ∷ hs) [] t = absurd t
none_passes_end bytes names (h ∷ hs) (s ∷ ss) t = rw (t.0.within) (none_passes_end bytes names hs ss t.1)

none_compressed : (bytes names : List ℕ) (hs : List Header) (ss : List OwnSection) → Tells bytes names hs ss → list_any is_compressed hs ≡ false
none_compressed bytes names [] ss t = refl
none_compressed bytes names (h ∷ hs) [] t = absurd t
none_compressed bytes names (h ∷ hs) (s ∷ ss) t = rw (t.0.plain) (none_compressed bytes names hs ss t.1)

sections_read : (bytes names : List ℕ) (at : ℕ) (hs : List Header) (ss : List OwnSection) → Tells bytes names hs ss → sections_at bytes names at hs ≡ Ok ss
unfolding sections_at
sections_read bytes names at [] [] t = refl
sections_read bytes names at [] (s ∷ ss) t = absurd t
sections_read bytes names at (h ∷ hs) [] t = absurd t
sections_read bytes names at (h ∷ hs) (s ∷ ss) t = rw (t.0.section, sections_read bytes names (at + 64) hs ss t.1) refl

-- the last header's bytes are the last section's
last_read : (bytes names : List ℕ) (hs : List Header) (ss : List OwnSection) (last : OwnSection) → Tells bytes names hs (ss ++ last ∷ []) → names_of bytes hs ≡ last.bytes
last_read bytes names [] [] last t = absurd t
last_read bytes names [] (s ∷ ss) last t = absurd t
last_read bytes names (h ∷ []) [] last t = t.0.bytes_are
last_read bytes names (h ∷ []) (s ∷ []) last t = absurd (t.1)
last_read bytes names (h ∷ []) (s ∷ (r ∷ ss)) last t = absurd (t.1)
last_read bytes names (h ∷ (g ∷ hs)) [] last t = absurd (t.1)
last_read bytes names (h ∷ (g ∷ hs)) (s ∷ ss) last t =
    let here : suc (suc (length hs)) - 1 ≡ suc (length hs) = omega arith in
    let there : suc (length hs) - 1 ≡ length hs = omega arith in
    let skip : names_of bytes (h ∷ (g ∷ hs)) ≡ names_of bytes (g ∷ hs) = ap (λ k. names_by bytes (slice_get (h ∷ (g ∷ hs)) k)) here ∙ ap (λ k. names_by bytes (slice_get (g ∷ hs) k)) (sym there) in
    skip ∙ last_read bytes names (g ∷ hs) ss last t.1

-- ---- the file

named_so : IsName shstrtab_name
named_so = is_name shstrtab_name refl

pub is_section : (names : List ℕ) → IsSection (shstrtab_of names)
is_section names = record {
  plain = record { least = lit≤ tt; most = lit≤ tt; uncompressed = refl };
  name = named_so;
  fields = record { flags = lit< tt; link = lit< tt; info = lit< tt; entry_size = lit< tt };
}

pub all_push : (ss : List OwnSection) (s : OwnSection) → AllByRecursion IsSection ss → IsSection s → AllByRecursion IsSection (ss ++ s ∷ [])
all_push [] s all is = (is, tt)
all_push (r ∷ ss) s all is = (all.0, all_push ss s all.1 is)

-- the sections with `.shstrtab`
abbrev pub names_before : List OwnSection → List ℕ
names_before ss = (fold placed start ss).names

abbrev pub with_names : List OwnSection → List OwnSection
with_names ss = ss ++ shstrtab_of (names_before ss) ∷ []

pub parts_are : (ss : List OwnSection) → parts_of ss ≡ fold placed start (with_names ss)
unfolding parts_of
parts_are ss = sym (fold-append placed start ss (shstrtab_of (names_before ss) ∷ []))

-- `.shstrtab` holds the names of all sections
names_are : (ss : List OwnSection) → (parts_of ss).names ≡ (shstrtab_of (names_before ss)).bytes
unfolding parts_of
names_are ss = refl

with_names_len : (ss : List OwnSection) → length (with_names ss) ≡ length ss + 1
with_names_len ss = length-append ss (shstrtab_of (names_before ss) ∷ [])

pub table_size : (ss : List OwnSection) → length (parts_of ss).table ≡ 64 * (length ss + 2)
table_size ss = omega (arith, ap (λ (p : Parts). length p.table) (parts_are ss), tables_len (with_names ss) start, with_names_len ss, zeros_len 64)

names_size : (ss : List OwnSection) → AllByRecursion IsSection ss → length (parts_of ss).names ≤ 1 + 301 * (length ss + 1)
names_size ss all =
    let few = names_few (with_names ss) start (all_push ss (shstrtab_of (names_before ss)) all (is_section (names_before ss))) in
    omega (arith, ap (λ (p : Parts). length p.names) (parts_are ss), few, with_names_len ss)

pub room : (ss : List OwnSection) → 64 ≤ length (padded (parts_of ss).file)
room ss =
    let grown : Begins (zeros 64) (parts_of ss).file = subst (λ (p : Parts). Begins (zeros 64) p.file) (sym (parts_are ss)) (grows (with_names ss) start).file in
    omega (arith, ap length grown.1, length-append (zeros 64) grown.0, zeros_len 64, padded_len (parts_of ss).file)

-- the file is its header, and from offset 64 on what was placed
abbrev behind : Parts → List ℕ
behind q = drop 64 (padded q.file) ++ q.table

pub layout_is : (ss : List OwnSection) → layout_of ss ≡ file_header (length (padded (parts_of ss).file)) (length ss + 2) ++ behind (parts_of ss)
unfolding layout_of
layout_is ss = append_assoc (file_header (length (padded (parts_of ss).file)) (length ss + 2)) (drop 64 (padded (parts_of ss).file)) (parts_of ss).table

-- from offset 64 on it is what was placed, and then the table
pub behind_header : (table count offset : ℕ) (f t : List ℕ) → 64 ≤ length f → 64 ≤ offset → drop offset (file_header table count ++ (drop 64 f ++ t)) ≡ drop offset (f ++ t)
behind_header table count offset f t long far =
    let k : 64 + (offset - 64) ≡ offset = omega arith in
    let left : drop 64 (file_header table count ++ (drop 64 f ++ t)) ≡ drop 64 f ++ t = drop_at (file_header table count) (drop 64 f ++ t) 64 (file_header_len table count) in
    let right : drop 64 (f ++ t) ≡ drop 64 f ++ t = drop-append-le 64 f t long in
    sym (ap (λ n. drop n (file_header table count ++ (drop 64 f ++ t))) k) ∙ sym (drop-drop (offset - 64) 64 (file_header table count ++ (drop 64 f ++ t)))
    ∙ ap (drop (offset - 64)) (left ∙ sym right) ∙ drop-drop (offset - 64) 64 (f ++ t) ∙ ap (λ n. drop n (f ++ t)) k

pub size_is : (ss : List OwnSection) → length (layout_of ss) ≡ length (padded (parts_of ss).file) + length (parts_of ss).table
size_is ss =
    let q = parts_of ss in
    omega (arith, ap length (layout_is ss), length-append (file_header (length (padded q.file)) (length ss + 2)) (behind q), file_header_len (length (padded q.file)) (length ss + 2), length-append (drop 64 (padded q.file)) q.table, length-drop 64 (padded q.file), room ss)

pub holds : (ss : List OwnSection) → length ss ≤ 65533 → AllByRecursion IsSection ss → length (layout_of ss) < 2 ^ 64 → Holds (layout_of ss) (length (padded (parts_of ss).file)) (parts_of ss)
holds ss few all small =
    let q = parts_of ss in
    let file : (offset : ℕ) → 64 ≤ offset → drop offset (layout_of ss) ≡ drop offset (padded q.file ++ q.table) =
    λ offset far. ap (drop offset) (layout_is ss) ∙ behind_header (length (padded q.file)) (length ss + 2) offset (padded q.file) q.table (room ss) far in
    record {
      file = file;
      size = size_is ss ∙ sym (length-append (padded q.file) q.table);
      table = file (length (padded q.file)) (room ss) ∙ drop_at (padded q.file) q.table (length (padded q.file)) refl;
      small = small;
      names = omega (arith, names_size ss all);
    }

pub has_header : (ss : List OwnSection) → length ss ≤ 65533 → length (layout_of ss) < 2 ^ 64 → HasHeader (layout_of ss) (length (padded (parts_of ss).file)) (length ss + 2)
has_header ss few small = record {
  rest = behind (parts_of ss);
  is = layout_is ss;
  table_small = omega (arith, size_is ss);
  count_least = omega arith;
  count_small = omega arith;
  end = omega (arith, size_is ss, table_size ss);
}

told_all : (ss : List OwnSection) → length ss ≤ 65533 → AllByRecursion IsSection ss → length (layout_of ss) < 2 ^ 64 → Tells (layout_of ss) (parts_of ss).names (headers (layout_of ss)) (with_names ss)
told_all ss few all small =
    let q = parts_of ss in
    let bytes = layout_of ss in
    let at = length (padded q.file) in
    let head = has_header ss few small in
    let count : shnum bytes - 1 ≡ length (with_names ss) = omega (arith, count_is bytes at (length ss + 2) head, with_names_len ss) in
    let place : shoff bytes + 64 ≡ at + length start.table = omega (arith, table_is bytes at (length ss + 2) head, zeros_len 64) in
    let h = tells bytes at q (with_names ss) start (holds ss few all small) (parts_are ss) (omega (arith, zeros_len 64)) (all_push ss (shstrtab_of (names_before ss)) all (is_section (names_before ss))) in
    rw (count, place) h

all_but_last : (ss : List OwnSection) (s : OwnSection) → but_last (ss ++ s ∷ []) ≡ ss
all_but_last ss s =
    let n : length (ss ++ s ∷ []) - 1 ≡ length ss = omega (arith, length-append ss (s ∷ [])) in
    rw n (take_at ss (s ∷ []) (length ss) refl)

same_file : (ss : List OwnSection) → compared (layout_of ss) ss ≡ Ok ss
unfolding compared
same_file ss = rw (same_all 0 (layout_of ss)) refl

read_all : (ss : List OwnSection) → length ss ≤ 65533 → AllByRecursion IsSection ss → length (layout_of ss) < 2 ^ 64 → read_of (layout_of ss) ≡ Ok ss
unfolding read_of
read_all ss few all small =
    let bytes = layout_of ss in
    let hs = headers bytes in
    let head = has_header ss few small in
    let t = told_all ss few all small in
    let form : form_fault bytes ≡ None = form_good bytes (length (padded (parts_of ss).file)) (length ss + 2) head in
    let plain : header_fault bytes hs ≡ None = headers_good bytes (length (padded (parts_of ss).file)) (length ss + 2) hs head (none_passes_end bytes (parts_of ss).names hs (with_names ss) t) (none_compressed bytes (parts_of ss).names hs (with_names ss) t) in
    let names : names_of bytes hs ≡ (parts_of ss).names = last_read bytes (parts_of ss).names hs ss (shstrtab_of (names_before ss)) t ∙ sym (names_are ss) in
    let found : sections_at bytes (names_of bytes hs) (shoff bytes + 64) hs ≡ Ok (with_names ss) = ap (λ n. sections_at bytes n (shoff bytes + 64) hs) names ∙ sections_read bytes (parts_of ss).names (shoff bytes + 64) hs (with_names ss) t in
    rw (form, plain, found, all_but_last ss (shstrtab_of (names_before ss))) (same_file ss)

-- sections that a file can have are read from their layout
pub read_again : (bytes : List ℕ) (ss : List OwnSection) → length bytes < 2 ^ 64 → IsContainer ss → bytes ≡ layout_of ss → read_of bytes ≡ Ok ss
read_again bytes ss small is e =
    ap read_of e ∙ read_all ss is.few (recursion_from_All IsSection ss is.sections) (omega (arith, small, ap length e))
