-- What has the form and is spelled so is read, and what is read has the form and is spelled so.
use Rattle.std.proofs.Common.{◌≡◌, ℕ, ◌+◌, ◌-◌, ◌*◌, ◌/◌, ◌^◌, ◌<◌, Bool, true, false, cond, List, [], ◌∷◌, ◌++◌, length, drop, Option, Some, None, Result, Ok, Err, refl, sym, ap, subst, ◌∙◌, length-append, lit<, lit≤, arith}
use Rattle.std.specs.Prelude.{◌&&◌, not, is_none, option_and_then, IfOk, All, codes}
use Rattle.std.specs.List.{flat_map, AllByRecursion}
use Rattle.std.proofs.lemmas.List.{append-nil, drop_at}
use Rattle.std.proofs.lemmas.List.Elements.{All-from_recursion}
use Rattle.cursors.specs.Fixed.{le32}
use Rattle.elf_container.specs.declared.fault.ElfFault.{ElfFault}
use Rattle.elf_container.specs.declared.sections.OwnSection.{OwnSection}
use Rattle.elf_container.specs.declared.entries.Sym.{Sym}
use Rattle.elf_container.specs.declared.relocatable.RelocObject.{RelocObject}
use Rattle.elf_container.specs.declared.relocatable.RelSymbol.{RelSymbol}
use Rattle.elf_container.specs.declared.relocatable.Reloc.{Reloc}
use Rattle.elf_container.specs.declared.relocatable.FormError.{FormError}
use Rattle.elf_container.specs.declared.relocatable.FormError.TheVariants as errors
use Rattle.elf_container.specs.Layout.{zeros, layout_of}
use Rattle.elf_container.specs.Container.{IsPlain, IsSection, IsContainer}
use Rattle.elf_container.specs.Reading.{difference, read_of}
use Rattle.elf_container.specs.Entries.{entries, word_in, sym_bytes, sym_in, reloc_bytes, reloc_in}
use Rattle.elf_container.specs.Relocatable.{entries_from, name_bytes, text_section, rela_section, symtab_section, strtab_section, sections_of, object_bytes, IsObject, ObjectFits, RelocFits, IsUnlessMemory, BadAt, offset_of_fault}
use Rattle.elf_container.specs.ObjectReading.{named_by, parsed, is_object, tested, object_in, Answers}
use Rattle.elf_container.proofs.FormSteps.{no_difference, same_all}
use Rattle.elf_container.proofs.NameLaws.{is_name}
use Rattle.elf_container.proofs.Places.{zeros_len}
use Rattle.elf_container.proofs.ReadAgain.{read_again}
use Rattle.elf_container.proofs.Tables.{entries_again, flat_len}
use Rattle.elf_container.proofs.EntryLaws.{word_len, word_again, reloc_len, reloc_again, SymFits, sym_len, sym_again, entries_fit, named_again}

-- ---- the test

five : (a b c d e : Bool) → ((((a && b) && c) && d) && e) ≡ true → (a ≡ true) × (b ≡ true) × (c ≡ true) × (d ≡ true) × (e ≡ true)
five true true true true e h = (refl, refl, refl, refl, h)
five true true true false e h = absurd cc
five true true false d e h = absurd cc
five true false c d e h = absurd cc
five false b c d e h = absurd cc

was_false : (b : Bool) → not b ≡ true → b ≡ false
was_false true e = absurd cc
was_false false e = refl

pub object_is : (o : RelocObject) → is_object o ≡ true → IsObject o
unfolding is_object
object_is o e =
    let h = five _ _ _ _ _ e in
    record { few = h.0; differ = was_false _ h.1; members = h.2; relocations = h.3; uses = h.4 }

is_met : (o : RelocObject) → IsObject o → is_object o ≡ true
unfolding is_object
is_met o h = rw (h.few, h.differ, h.members, h.relocations, h.uses) refl

-- ---- sections

sections_plain_by : (o : RelocObject) → AllByRecursion IsSection (sections_of o)
unfolding sections_of
sections_plain_by o = (
  record { plain = record { least = lit≤ tt; most = lit≤ tt; uncompressed = refl }; name = is_name (codes ".text") refl; fields = record { flags = lit< tt; link = lit< tt; info = lit< tt; entry_size = lit< tt } },
  (
    record { plain = record { least = lit≤ tt; most = lit≤ tt; uncompressed = refl }; name = is_name (codes ".rela.text") refl; fields = record { flags = lit< tt; link = lit< tt; info = lit< tt; entry_size = lit< tt } },
    (
      record { plain = record { least = lit≤ tt; most = lit≤ tt; uncompressed = refl }; name = is_name (codes ".symtab") refl; fields = record { flags = lit< tt; link = lit< tt; info = lit< tt; entry_size = lit< tt } },
      (
        record { plain = record { least = lit≤ tt; most = lit≤ tt; uncompressed = refl }; name = is_name (codes ".strtab") refl; fields = record { flags = lit< tt; link = lit< tt; info = lit< tt; entry_size = lit< tt } },
        tt,
      ),
    ),
  ),
)

pub sections_len : (o : RelocObject) → length (sections_of o) ≡ 4
unfolding sections_of
sections_len o = refl

plain_all : (ss : List OwnSection) → AllByRecursion IsSection ss → AllByRecursion IsPlain ss
plain_all [] all = tt
plain_all (s ∷ ss) all = (all.0.plain, plain_all ss all.1)

pub sections_plain : (o : RelocObject) → All IsPlain (sections_of o)
sections_plain o = All-from_recursion IsPlain (sections_of o) (plain_all (sections_of o) (sections_plain_by o))

container : (o : RelocObject) → IsContainer (sections_of o)
container o = record { few = omega (arith, sections_len o); sections = All-from_recursion IsSection (sections_of o) (sections_plain_by o) }

-- ---- what is found

abbrev some : RelocObject → Option RelocObject
some o = Some o

same : (o p : RelocObject) → some o ≡ some p → o ≡ p
same o p e = cc

chosen : (b : Bool) (x : Option RelocObject) (o : RelocObject) → cond b x None ≡ Some o → (b ≡ true) × (x ≡ Some o)
chosen true x o e = (refl, e)
chosen false x o e = absurd cc

was_none : (o : Option ℕ) → is_none o ≡ true → o ≡ None
was_none None e = refl
was_none (Some n) e = absurd cc

tested_is : (bytes : List ℕ) (o found : RelocObject) → tested bytes o ≡ Some found → IsObject found × (bytes ≡ object_bytes found)
unfolding tested
tested_is bytes o found e =
    let a = chosen (is_object o) _ found e in
    let b = chosen (is_none (difference 0 bytes (object_bytes o))) (some o) found a.1 in
    let is : o ≡ found = same o found b.1 in
    (subst (λ (p : RelocObject). IsObject p) is (object_is o a.0), no_difference 0 bytes (object_bytes o) (was_none (difference 0 bytes (object_bytes o)) b.0) ∙ ap object_bytes is)

from_parsed : (bytes : List ℕ) (p : Option RelocObject) (found : RelocObject) → option_and_then (tested bytes) p ≡ Some found → IsObject found × (bytes ≡ object_bytes found)
from_parsed bytes None found e = absurd cc
from_parsed bytes (Some o) found e = tested_is bytes o found e

found_is : (bytes : List ℕ) (ss : List OwnSection) (found : RelocObject) → object_in bytes ss ≡ Some found → IsObject found × (bytes ≡ object_bytes found)
unfolding object_in
found_is bytes ss found e = from_parsed bytes _ found e

pub answers_found : (bytes : List ℕ) (r : Result RelocObject FormError) (read : Result (List OwnSection) ElfFault) → Answers bytes r read → IfOk r (λ o. IsObject o × (bytes ≡ object_bytes o))
answers_found bytes (Ok o) (Ok ss) h = found_is bytes ss o h
answers_found bytes (Ok o) (Err f) h = absurd h
answers_found bytes (Err e) read h = tt

pub answers_at : (bytes : List ℕ) (r : Result RelocObject FormError) (read : Result (List OwnSection) ElfFault) → Answers bytes r read → BadAt r (offset_of_fault read)
answers_at bytes (Ok o) read h = tt
answers_at bytes (Err errors.NoMemory) read h = tt
answers_at bytes (Err (errors.Bad offset)) (Ok ss) h = h.1
answers_at bytes (Err (errors.Bad offset)) (Err f) h = h

-- ---- what is spelled is found

tested_again : (o : RelocObject) → IsObject o → tested (object_bytes o) o ≡ Some o
unfolding tested
tested_again o h = rw (is_met o h, same_all 0 (object_bytes o)) refl

quarter : (n len : ℕ) → len ≡ 4 * n → len / 4 ≡ n
quarter n len e = omega arith

part24 : (n len : ℕ) → len ≡ 24 * n → len / 24 ≡ n
part24 n len e = omega arith

words_again : (ws : List ℕ) → AllByRecursion (λ w. w < 2 ^ 32) ws → entries 4 word_in (length (flat_map le32 ws) / 4) (flat_map le32 ws) ≡ ws
words_again ws fit =
    let n : length (flat_map le32 ws) / 4 ≡ length ws = quarter (length ws) (length (flat_map le32 ws)) (flat_len 4 le32 word_len ws) in
    ap (λ k. entries 4 word_in k (flat_map le32 ws)) n ∙ ap (entries 4 word_in (length ws)) (sym (append-nil (flat_map le32 ws)))
    ∙ entries_again (λ w. w < 2 ^ 32) 4 word_in le32 word_len word_again ws [] fit

relocs_again : (rs : List Reloc) → AllByRecursion RelocFits rs → entries 24 reloc_in (length (flat_map reloc_bytes rs) / 24) (flat_map reloc_bytes rs) ≡ rs
relocs_again rs fit =
    let n : length (flat_map reloc_bytes rs) / 24 ≡ length rs = part24 (length rs) (length (flat_map reloc_bytes rs)) (flat_len 24 reloc_bytes reloc_len rs) in
    ap (λ k. entries 24 reloc_in k (flat_map reloc_bytes rs)) n ∙ ap (entries 24 reloc_in (length rs)) (sym (append-nil (flat_map reloc_bytes rs)))
    ∙ entries_again RelocFits 24 reloc_in reloc_bytes reloc_len reloc_again rs [] fit

less_one : (n len : ℕ) → len ≡ 24 + 24 * n → len / 24 - 1 ≡ n
less_one n len e = omega arith

syms_again : (es : List Sym) → AllByRecursion SymFits es → entries 24 sym_in (length (zeros 24 ++ flat_map sym_bytes es) / 24 - 1) (drop 24 (zeros 24 ++ flat_map sym_bytes es)) ≡ es
syms_again es fit =
    let table = flat_map sym_bytes es in
    let size : length (zeros 24 ++ table) ≡ 24 + 24 * length es = length-append (zeros 24) table ∙ ap (λ k. k + length table) (zeros_len 24) ∙ ap (λ k. 24 + k) (flat_len 24 sym_bytes sym_len es) in
    let n : length (zeros 24 ++ table) / 24 - 1 ≡ length es = less_one (length es) (length (zeros 24 ++ table)) size in
    let behind : drop 24 (zeros 24 ++ table) ≡ table ++ [] = drop_at (zeros 24) table 24 (zeros_len 24) ∙ sym (append-nil table) in
    ap (λ k. entries 24 sym_in k (drop 24 (zeros 24 ++ table))) n ∙ ap (entries 24 sym_in (length es)) behind
    ∙ entries_again SymFits 24 sym_in sym_bytes sym_len sym_again es [] fit

strings_small : (ss : List RelSymbol) → length (flat_map name_bytes ss) < 2 ^ 32 - 1 → length ((0 ∷ []) ++ flat_map name_bytes ss) < 2 ^ 32
strings_small ss lt = omega (arith, length-append (0 ∷ []) (flat_map name_bytes ss))

parsed_again : (o : RelocObject) → ObjectFits o → parsed (text_section o).bytes (rela_section o).bytes (symtab_section o).bytes (strtab_section o).bytes ≡ Some o
unfolding parsed
parsed_again o fits =
    let es = entries_from 1 o.symbols in
    let syms = syms_again es (entries_fit 1 o.symbols fits.symbols) in
    let named : named_by ((0 ∷ []) ++ flat_map name_bytes o.symbols) es ≡ Some o.symbols = named_again (0 ∷ []) o.symbols ((0 ∷ []) ++ flat_map name_bytes o.symbols) refl (strings_small o.symbols fits.strings) fits.symbols in
    rw (syms, named, words_again o.words fits.words, relocs_again o.relocations fits.relocations) refl

object_again : (o : RelocObject) → IsObject o → ObjectFits o → object_in (object_bytes o) (sections_of o) ≡ Some o
unfolding object_in sections_of
object_again o h fits = ap (option_and_then (tested (object_bytes o))) (parsed_again o fits) ∙ tested_again o h

it_is : (bytes : List ℕ) (ss : List OwnSection) (r : Result RelocObject FormError) (o : RelocObject) → object_in bytes ss ≡ Some o → Answers bytes r (Ok ss) → IsUnlessMemory r o
it_is bytes ss (Ok found) o e h = same found o (sym h ∙ e)
it_is bytes ss (Err errors.NoMemory) o e h = tt
it_is bytes ss (Err (errors.Bad offset)) o e h = let no_more = h.0 in cc

spelled : (o : RelocObject) → object_bytes o ≡ layout_of (sections_of o)
unfolding object_bytes
spelled o = refl

pub answers_only : (bytes : List ℕ) (r : Result RelocObject FormError) (o : RelocObject) → length bytes < 2 ^ 64 → IsObject o → ObjectFits o → bytes ≡ object_bytes o → Answers bytes r (read_of bytes) → IsUnlessMemory r o
answers_only bytes r o small h fits e answers =
    let read : read_of bytes ≡ Ok (sections_of o) = read_again bytes (sections_of o) small (container o) (e ∙ spelled o) in
    let found : object_in bytes (sections_of o) ≡ Some o = ap (λ b. object_in b (sections_of o)) e ∙ object_again o h fits in
    it_is bytes (sections_of o) r o found (subst (λ x. Answers bytes r x) read answers)
