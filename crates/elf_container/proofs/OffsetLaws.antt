-- The sections of a laid out file stand where their list says.
use Rattle.std.proofs.Common.{◌≡◌, ℕ, zero, suc, ◌+◌, ◌^◌, ◌<◌, ◌≤◌, List, [], ◌∷◌, ◌++◌, length, take, drop, get_or, Some, refl, sym, ap, subst, ◌∙◌, length-append, arith}
use Rattle.std.specs.Prelude.{slice_get, sum_by, map}
use Rattle.std.specs.List.{fold, AllByRecursion}
use Rattle.std.proofs.lemmas.List.{take_all, take_at, take-map, length-take}
use Rattle.std.proofs.lemmas.List.Sums.{fold-append, sum_by-cons, sum_by-append}
use Rattle.std.proofs.lemmas.List.Elements.{recursion_from_All}
use Rattle.elf_container.specs.declared.headers.Header.{Header}
use Rattle.elf_container.specs.declared.sections.OwnSection.{OwnSection}
use Rattle.elf_container.specs.Layout.{gap, zeros, padded, Parts, start, placed, shstrtab_name, shstrtab_of, parts_of, layout_of}
use Rattle.elf_container.specs.Offsets.{aligned, end_after, end_of, offset_of, names_size, table_of, header_of, size_of}
use Rattle.elf_container.specs.Container.{IsSection, IsContainer}
use Rattle.elf_container.specs.Reading.{shoff, header_at}
use Rattle.elf_container.proofs.FileLaws.{table_is}
use Rattle.elf_container.proofs.Laying.{next}
use Rattle.elf_container.proofs.Places.{Begins, begins_through, at_front, Grows, grows, zeros_len, padded_begins, padded_len, tables_len, header_found}
use Rattle.elf_container.proofs.ReadAgain.{names_before, with_names, parts_are, room, layout_is, behind_header, table_size, size_is, holds, has_header}

-- ---- lengths

padded_to : (bytes : List ℕ) → length (padded bytes) ≡ aligned (length bytes)
unfolding padded
padded_to bytes = length-append bytes (zeros (gap (length bytes))) ∙ ap (λ n. length bytes + n) (zeros_len (gap (length bytes)))

file_end : (ss : List OwnSection) (p : Parts) → length (fold placed p ss).file ≡ fold end_after (length p.file) ss
file_end [] p = refl
file_end (s ∷ ss) p =
    file_end ss (placed p s) ∙ ap (λ n. fold end_after n ss) (length-append (padded p.file) s.bytes ∙ ap (λ n. n + length s.bytes) (padded_to p.file))

names_end : (ss : List OwnSection) (p : Parts) → length (fold placed p ss).names ≡ length p.names + sum_by (λ s. length s.name + 1) ss
names_end [] p = omega arith
names_end (s ∷ ss) p =
    omega (arith, names_end ss (placed p s), sum_by-cons (λ (r : OwnSection). length r.name + 1) s ss, length-append (p.names ++ s.name) (0 ∷ []), length-append p.names s.name)

abbrev before : List OwnSection → Parts
before ss = fold placed start ss

end_is : (ss : List OwnSection) → length (before ss).file ≡ end_of ss
end_is ss = file_end ss start ∙ ap (λ n. fold end_after n ss) (zeros_len 64)

offset_is : (ss : List OwnSection) → length (padded (before ss).file) ≡ aligned (end_of ss)
offset_is ss = padded_to (before ss).file ∙ ap aligned (end_is ss)

names_are : (ss : List OwnSection) → length (shstrtab_of (before ss).names).bytes ≡ names_size ss
names_are ss =
    omega (arith, length-append ((before ss).names ++ shstrtab_name) (0 ∷ []), length-append (before ss).names shstrtab_name, names_end ss start)

last_offset : (ss : List OwnSection) → offset_of ss (length ss) ≡ aligned (end_of ss)
last_offset ss = ap (λ ts. aligned (end_of ts)) (take_all (length ss) ss (omega arith))

table_at : (ss : List OwnSection) → length (padded (parts_of ss).file) ≡ table_of ss
unfolding parts_of
table_at ss =
    let p = before ss in
    let names = (shstrtab_of p.names).bytes in
    padded_to (padded p.file ++ names)
    ∙ ap aligned (length-append (padded p.file) names ∙ ap (λ n. n + length names) (offset_is ss ∙ sym (last_offset ss)) ∙ ap (λ n. offset_of ss (length ss) + n) (names_are ss))

pub size_at : (ss : List OwnSection) → length (layout_of ss) ≡ size_of ss
size_at ss = omega (arith, size_is ss, table_at ss, table_size ss)

-- ---- one section

-- what is placed up to it, the section, and what is placed behind
from_it : (ss : List OwnSection) (place : ℕ) (s : OwnSection) (p : Parts) → slice_get ss place ≡ Some s → Grows (placed (fold placed p (take place ss)) s) (fold placed p ss)
from_it [] place s p h = cc
from_it (r ∷ ss) zero s p h =
    let same : s ≡ r = cc in
    subst (λ (t : OwnSection). Grows (placed p t) (fold placed (placed p r) ss)) (sym same) (grows ss (placed p r))
from_it (r ∷ ss) (suc place) s p h = from_it ss place s (placed p r) h

with_it : (ss : List OwnSection) (place : ℕ) (s r : OwnSection) → slice_get ss place ≡ Some s → slice_get (ss ++ r ∷ []) place ≡ Some s
with_it [] place s r h = cc
with_it (t ∷ ss) zero s r h = h
with_it (t ∷ ss) (suc place) s r h = with_it ss place s r h

take_it : (ss : List OwnSection) (place : ℕ) (s r : OwnSection) → slice_get ss place ≡ Some s → take place (ss ++ r ∷ []) ≡ take place ss
take_it [] place s r h = cc
take_it (t ∷ ss) zero s r h = refl
take_it (t ∷ ss) (suc place) s r h = ap (λ ts. t ∷ ts) (take_it ss place s r h)

place_inside : (ss : List OwnSection) (place : ℕ) (s : OwnSection) → slice_get ss place ≡ Some s → place < length ss
place_inside [] place s h = cc
place_inside (t ∷ ss) zero s h = omega arith
place_inside (t ∷ ss) (suc place) s h = omega (arith, place_inside ss place s h)

grown : (ss : List OwnSection) (place : ℕ) (s : OwnSection) → slice_get ss place ≡ Some s → Grows (placed (before (take place ss)) s) (parts_of ss)
grown ss place s h =
    let last = shstrtab_of (names_before ss) in
    let all : Grows (placed (before (take place (with_names ss))) s) (before (with_names ss)) = from_it (with_names ss) place s start (with_it ss place s last h) in
    rw (parts_are ss) (subst (λ (ts : List OwnSection). Grows (placed (before ts) s) (before (with_names ss))) (take_it ss place s last h) all)

far : (ss : List OwnSection) → 64 ≤ length (padded (before ss).file)
far ss =
    let more : Begins (zeros 64) (before ss).file = (grows ss start).file in
    omega (arith, ap length more.1, length-append (zeros 64) more.0, zeros_len 64, padded_len (before ss).file)

pub section_at_offset : (ss : List OwnSection) (place : ℕ) (s : OwnSection) → slice_get ss place ≡ Some s → take (length s.bytes) (drop (offset_of ss place) (layout_of ss)) ≡ s.bytes
section_at_offset ss place s h =
    let p = before (take place ss) in
    let q = parts_of ss in
    let whole = padded q.file ++ q.table in
    let last : Begins q.file whole = begins_through q.file (padded q.file) whole (padded_begins q.file) (q.table, refl) in
    let there = at_front (padded p.file) s.bytes whole (begins_through (padded p.file ++ s.bytes) q.file whole (grown ss place s h).file last) in
    let offset : offset_of ss place ≡ length (padded p.file) = sym (offset_is (take place ss)) in
    let behind : drop (length (padded p.file)) (layout_of ss) ≡ s.bytes ++ there.0 =
    ap (drop (length (padded p.file))) (layout_is ss) ∙ behind_header (length (padded q.file)) (length ss + 2) (length (padded p.file)) (padded q.file) q.table (room ss) (far (take place ss)) ∙ there.1 in
    ap (λ n. take (length s.bytes) (drop n (layout_of ss))) offset ∙ ap (take (length s.bytes)) behind ∙ take_at s.bytes there.0 (length s.bytes) refl

-- ---- the headers

small : (ss : List OwnSection) → size_of ss < 2 ^ 64 → length (layout_of ss) < 2 ^ 64
small ss h = omega (arith, size_at ss, h)

pub table_told : (ss : List OwnSection) → IsContainer ss → size_of ss < 2 ^ 64 → shoff (layout_of ss) ≡ table_of ss
table_told ss is h = table_is (layout_of ss) (length (padded (parts_of ss).file)) (length ss + 2) (has_header ss is.few (small ss h)) ∙ table_at ss

all_at : (ss : List OwnSection) (place : ℕ) (s : OwnSection) → AllByRecursion IsSection ss → slice_get ss place ≡ Some s → IsSection s
all_at [] place s all h = cc
all_at (r ∷ ss) zero s all h = let same : s ≡ r = cc in subst IsSection (sym same) all.0
all_at (r ∷ ss) (suc place) s all h = all_at ss place s all.1 h

pub header_told : (ss : List OwnSection) (place : ℕ) (s : OwnSection) → IsContainer ss → size_of ss < 2 ^ 64 → slice_get ss place ≡ Some s → (header_at (header_of ss place) (layout_of ss)).offset ≡ offset_of ss place
header_told ss place s is h here =
    let p = before (take place ss) in
    let q = parts_of ss in
    let all = recursion_from_All IsSection ss is.sections in
    let found = header_found (layout_of ss) (length (padded q.file)) p q s (holds ss is.few all (small ss h)) (grown ss place s here) (all_at ss place s all here) in
    let at : header_of ss place ≡ length (padded q.file) + length p.table =
    omega (arith, table_at ss, tables_len (take place ss) start, zeros_len 64, length-take place ss, place_inside ss place s here) in
    ap (λ n. (header_at n (layout_of ss)).offset) at ∙ ap (λ (k : Header). k.offset) found ∙ offset_is (take place ss)

-- ---- numbers that fit

end_grows : (ss : List OwnSection) (n m : ℕ) → n ≤ m → n ≤ fold end_after m ss
end_grows [] n m h = h
end_grows (s ∷ ss) n m h = end_grows ss n (end_after m s) (omega (arith, h))

end_within : (ss : List OwnSection) (k n : ℕ) → fold end_after n (take k ss) ≤ fold end_after n ss
end_within [] zero n = omega arith
end_within [] (suc k) n = omega arith
end_within (s ∷ ss) zero n = end_grows (s ∷ ss) n n (omega arith)
end_within (s ∷ ss) (suc k) n = end_within ss k (end_after n s)

aligned_le : (a b : ℕ) → a ≤ b → aligned a ≤ aligned b
aligned_le a b h = omega arith

pub offset_fits : (ss : List OwnSection) (k : ℕ) → size_of ss < 2 ^ 64 → aligned (end_of (take k ss)) < 2 ^ 64
offset_fits ss k h =
    let whole = aligned_le (end_of (take k ss)) (end_of ss) (end_within ss k 64) in
    omega (arith, whole, last_offset ss, h)

pub front_fits : {X : Type 0} (view : X → OwnSection) (xs : List X) (k : ℕ) → size_of (map view xs) < 2 ^ 64 → aligned (end_of (map view (take k xs))) < 2 ^ 64
front_fits view xs k h = subst (λ (ss : List OwnSection). aligned (end_of ss) < 2 ^ 64) (take-map view k xs) (offset_fits (map view xs) k h)

-- one more section of a list that is gone over

sections_next : {X : Type 0} (view : X → OwnSection) (xs : List X) (i : ℕ) (x : X) → i < length xs → x ≡ get_or xs i x → take (i + 1) (map view xs) ≡ map view (take i xs) ++ view x ∷ []
sections_next view xs i x lt is = take-map view (i + 1) xs ∙ next view xs i x lt is

end_pushed : (ss : List OwnSection) (s : OwnSection) → end_of (ss ++ s ∷ []) ≡ end_after (end_of ss) s
end_pushed ss s = fold-append end_after 64 ss (s ∷ [])

pub end_next : {X : Type 0} (view : X → OwnSection) (xs : List X) (i : ℕ) (x : X) → i < length xs → x ≡ get_or xs i x
    → end_of (map view (take (i + 1) xs)) ≡ end_after (end_of (map view (take i xs))) (view x)
end_next view xs i x lt is = ap end_of (next view xs i x lt is) ∙ end_pushed (map view (take i xs)) (view x)

pub end_next_fits : {X : Type 0} (view : X → OwnSection) (xs : List X) (i : ℕ) (x : X) → i < length xs → x ≡ get_or xs i x → end_of (map view xs) < 2 ^ 64
    → end_after (end_of (map view (take i xs))) (view x) < 2 ^ 64
end_next_fits view xs i x lt is h =
    omega (arith, end_within (map view xs) (i + 1) 64, ap end_of (sections_next view xs i x lt is), end_pushed (map view (take i xs)) (view x), h)

abbrev name_room : OwnSection → ℕ
name_room s = length s.name + 1

sum_within : (ss : List OwnSection) (k : ℕ) → sum_by name_room (take k ss) ≤ sum_by name_room ss
sum_within [] zero = omega arith
sum_within [] (suc k) = omega arith
sum_within (s ∷ ss) zero = omega arith
sum_within (s ∷ ss) (suc k) = omega (arith, sum_within ss k, sum_by-cons name_room s ss, sum_by-cons name_room s (take k ss))

pub sum_next : {X : Type 0} (view : X → OwnSection) (xs : List X) (i : ℕ) (x : X) → i < length xs → x ≡ get_or xs i x
    → sum_by name_room (map view (take (i + 1) xs)) ≡ sum_by name_room (map view (take i xs)) + name_room (view x)
sum_next view xs i x lt is =
    omega (arith, ap (sum_by name_room) (next view xs i x lt is), sum_by-append name_room (map view (take i xs)) (view x ∷ []), sum_by-cons name_room (view x) [])

pub sum_next_fits : {X : Type 0} (view : X → OwnSection) (xs : List X) (i : ℕ) (x : X) → i < length xs → x ≡ get_or xs i x
    → sum_by name_room (map view (take i xs)) + name_room (view x) ≤ sum_by name_room (map view xs)
sum_next_fits view xs i x lt is =
    omega (arith, sum_within (map view xs) (i + 1), ap (sum_by name_room) (take-map view (i + 1) xs), sum_next view xs i x lt is)
