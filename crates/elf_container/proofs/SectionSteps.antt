-- Sections read one after the other.
use Rattle.std.proofs.Common.{◌≡◌, ℕ, ◌+◌, ◌*◌, ◌<◌, ◌≤◌, List, [], ◌∷◌, ◌++◌, length, get_or, drop, Some, None, Result, Ok, Err, refl, sym, ap, ◌∙◌, append_assoc, add-one, arith, drop-cons}
use Rattle.std.proofs.lemmas.List.{append-nil, drop_all}
use Rattle.elf_container.specs.declared.fault.ElfKind.TheVariants.{BadLayout}
use Rattle.elf_container.specs.declared.fault.ElfFault.{ElfFault}
use Rattle.elf_container.specs.declared.headers.Header.{Header}
use Rattle.elf_container.specs.declared.sections.OwnSection.{OwnSection}
use Rattle.elf_container.specs.Reading.{◌>>=◌, section_at, sections_at}

abbrev pub with_front : List OwnSection → Result (List OwnSection) ElfFault → Result (List OwnSection) ElfFault
with_front front read = read >>= λ ss. Ok (front ++ ss)

regroup : (front : List OwnSection) (s : OwnSection) (read : Result (List OwnSection) ElfFault) → with_front front (read >>= λ ss. Ok (s ∷ ss)) ≡ with_front (front ++ s ∷ []) read
regroup front s (Ok ss) = ap (λ t. Ok t) (sym (append_assoc front (s ∷ []) ss))
regroup front s (Err e) = refl

-- the header at a place, and those after it
next : (at i : ℕ) (bytes names : List ℕ) (hs : List Header) (d : Header) → i < length hs → sections_at bytes names (at + 64 * i) (drop i hs) ≡ sections_at bytes names (at + 64 * i) (get_or hs i d ∷ drop (i + 1) hs)
next at i bytes names hs d lt =
    ap (sections_at bytes names (at + 64 * i)) (drop-cons hs i d lt ∙ ap (λ k. get_or hs i d ∷ drop k hs) (sym (add-one i)))

pub goes_on : (front : List OwnSection) (at i : ℕ) (bytes names : List ℕ) (hs : List Header) (d : Header) (s : OwnSection) (all : Result (List OwnSection) ElfFault) → i < length hs → section_at bytes names (get_or hs i d) ≡ Some s
    → with_front front (sections_at bytes names (at + 64 * i) (drop i hs)) ≡ all → with_front (front ++ s ∷ []) (sections_at bytes names (at + 64 * (i + 1)) (drop (i + 1) hs)) ≡ all
unfolding sections_at
goes_on front at i bytes names hs d s all lt read so_far =
    let place : (at + 64 * i) + 64 ≡ at + 64 * (i + 1) = omega arith in
    let one : with_front front (sections_at bytes names (at + 64 * i) (drop i hs)) ≡ with_front (front ++ s ∷ []) (sections_at bytes names (at + 64 * (i + 1)) (drop (i + 1) hs)) =
    ap (with_front front) (next at i bytes names hs d lt) ∙ rw (read, place) (regroup front s (sections_at bytes names (at + 64 * (i + 1)) (drop (i + 1) hs))) in
    sym one ∙ so_far

pub ends_bad : (front : List OwnSection) (at i : ℕ) (bytes names : List ℕ) (hs : List Header) (d : Header) (all : Result (List OwnSection) ElfFault) → i < length hs → section_at bytes names (get_or hs i d) ≡ None
    → with_front front (sections_at bytes names (at + 64 * i) (drop i hs)) ≡ all → all ≡ Err (record { kind = BadLayout; offset = at + 64 * i })
unfolding sections_at
ends_bad front at i bytes names hs d all lt read so_far =
    sym so_far ∙ ap (with_front front) (next at i bytes names hs d lt) ∙ rw read refl

pub is_done : (front : List OwnSection) (at i : ℕ) (bytes names : List ℕ) (hs : List Header) (all : Result (List OwnSection) ElfFault) → length hs ≤ i
    → with_front front (sections_at bytes names (at + 64 * i) (drop i hs)) ≡ all → all ≡ Ok front
unfolding sections_at
is_done front at i bytes names hs all le so_far =
    let rest : sections_at bytes names (at + 64 * i) (drop i hs) ≡ Ok [] = rw (drop_all i hs le) refl in
    sym so_far ∙ ap (with_front front) rest ∙ ap (λ t. Ok t) (append-nil front)
