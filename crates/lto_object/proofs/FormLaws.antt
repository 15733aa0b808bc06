-- Sections that have no fault are those of an object, and those of an object have none.
use Rattle.std.proofs.Common.{◌≡◌, ℕ, ◌+◌, List, [], ◌∷◌, ◌++◌, length, Bool, true, false, cond, Option, Some, None, refl, sym, ap, subst, ◌∙◌}
use Rattle.std.specs.Prelude.{◌&&◌, ◌==◌, option_map, codes}
use Rattle.std.specs.Str.{bytes_eq}
use Rattle.std.proofs.lemmas.Bool.{eqb-true}
use Rattle.std.proofs.lemmas.Slice.Eq.{bytes_eq-Decides}
use Rattle.elf_container.specs.declared.sections.OwnSection.{OwnSection}
use Rattle.elf_container.specs.Offsets.{offset_of, header_of}
use Rattle.elf_container.specs.ObjectReading.{part}
use Rattle.func_summary.proofs.Checked.{both-true}
use Rattle.lto_object.specs.declared.sections.TheConstants.{SHT_PROGBITS, SHF_EXCLUDE}
use Rattle.lto_object.specs.declared.fault.ObjectFault.{ObjectFault}
use Rattle.lto_object.specs.declared.fault.ObjectFault.TheVariants.{BadLayout, BadVersion}
use Rattle.lto_object.specs.Objects.{section_of, sections_with}
use Rattle.lto_object.specs.Forms.{form_names, has_form, misplaced_from, double_section, missing_section, misplaced_section, wrong_version, first, sections_fault, IsForm}

pub same_bytes : (xs ys : List ℕ) → bytes_eq xs ys ≡ true → xs ≡ ys
same_bytes xs ys h = (bytes_eq-Decides xs ys).0 h

six-true : (a b c d e f : Bool) → (a && b && c && d && e && f) ≡ true → (a ≡ true) × (b ≡ true) × (c ≡ true) × (d ≡ true) × (e ≡ true) × (f ≡ true)
six-true true true true true true true h = (refl, refl, refl, refl, refl, refl)
six-true true true true true true false h = cc
six-true true true true true false f h = cc
six-true true true true false e f h = cc
six-true true true false d e f h = cc
six-true true false c d e f h = cc
six-true false b c d e f h = cc

abbrev section_as : List ℕ → ℕ → ℕ → ℕ → ℕ → ℕ → List ℕ → OwnSection
section_as n k f l i e b = record { name = n; kind = k; flags = f; link = l; info = i; entry_size = e; bytes = b }

same : (n m : List ℕ) (k j f g l i e : ℕ) (b : List ℕ) → n ≡ m → k ≡ j → f ≡ g → l ≡ 0 → i ≡ 0 → e ≡ 0 → section_as n k f l i e b ≡ section_as m j g 0 0 0 b
same n m k j f g l i e b p q r s t u = rw (p, q, r, s, t, u) refl

formed_one : (name : List ℕ) (s : OwnSection) → has_form name s ≡ true → s ≡ section_of name s.bytes
formed_one name s h =
    let all = six-true (bytes_eq s.name name) (s.kind == SHT_PROGBITS) (s.flags == SHF_EXCLUDE) (s.link == 0) (s.info == 0) (s.entry_size == 0) h in
    let named : s.name ≡ name = same_bytes s.name name all.0 in
    let kind : s.kind ≡ SHT_PROGBITS = eqb-true s.kind SHT_PROGBITS all.1 in
    let flags : s.flags ≡ SHF_EXCLUDE = eqb-true s.flags SHF_EXCLUDE all.2 in
    let link : s.link ≡ 0 = eqb-true s.link 0 all.3 in
    let info : s.info ≡ 0 = eqb-true s.info 0 all.4 in
    let entry : s.entry_size ≡ 0 = eqb-true s.entry_size 0 all.5 in
    same s.name name s.kind SHT_PROGBITS s.flags SHF_EXCLUDE s.link s.info s.entry_size s.bytes named kind flags link info entry

-- each has the form with its name
abbrev Formed : List (List ℕ) → List OwnSection → Type 0
Formed [] [] = Unit {0}
Formed [] (s ∷ ss) = ⊥
Formed (name ∷ names) [] = ⊥
Formed (name ∷ names) (s ∷ ss) = (s ≡ section_of name s.bytes) × Formed names ss

formed : (place : ℕ) (names : List (List ℕ)) (ss : List OwnSection) → misplaced_from place names ss ≡ None → Formed names ss
formed place [] [] h = tt
formed place [] (s ∷ ss) h = cc
formed place (name ∷ names) [] h = cc
formed place (name ∷ names) (s ∷ ss) h = by (has_form name s) refl h (formed (place + 1) names ss)
  where
    by : (b : Bool) → has_form name s ≡ b → cond b (misplaced_from (place + 1) names ss) (Some place) ≡ None → (misplaced_from (place + 1) names ss ≡ None → Formed names ss) → Formed (name ∷ names) (s ∷ ss)
    by true e n later = (formed_one name s e, later n)
    by false e n later = cc

first_none : (a b : Option ObjectFault) → first a b ≡ None → (a ≡ None) × (b ≡ None)
first_none None b h = (refl, h)
first_none (Some f) b h = cc

mapped_none : {X : Type 0} (f : X → ObjectFault) (o : Option X) → option_map f o ≡ None → o ≡ None
mapped_none f None h = refl
mapped_none f (Some x) h = cc

version_one : (ss : List OwnSection) → wrong_version ss ≡ None → part 0 ss ≡ 1 ∷ []
version_one ss h = by (bytes_eq (part 0 ss) (1 ∷ [])) refl h
  where
    by : (b : Bool) → bytes_eq (part 0 ss) (1 ∷ []) ≡ b → cond b None (Some (BadVersion (offset_of ss 0))) ≡ None → part 0 ss ≡ 1 ∷ []
    by true e n = same_bytes (part 0 ss) (1 ∷ []) e
    by false e n = cc

five : (a b c d e : OwnSection) → Formed form_names (a ∷ b ∷ c ∷ d ∷ e ∷ []) → a.bytes ≡ 1 ∷ [] → a ∷ b ∷ c ∷ d ∷ e ∷ [] ≡ sections_with (1 ∷ []) b.bytes c.bytes d.bytes e.bytes
five a b c d e f v = rw (f.0 ∙ ap (section_of (codes ".gnu.lto_.version")) v, f.1.0, f.1.1.0, f.1.1.1.0, f.1.1.1.1.0) refl

is_five : (ss : List OwnSection) → Formed form_names ss → part 0 ss ≡ 1 ∷ [] → IsForm ss
is_five [] f v = absurd f
is_five (a ∷ []) f v = absurd f.1
is_five (a ∷ b ∷ []) f v = absurd f.1.1
is_five (a ∷ b ∷ c ∷ []) f v = absurd f.1.1.1
is_five (a ∷ b ∷ c ∷ d ∷ []) f v = absurd f.1.1.1.1
is_five (a ∷ b ∷ c ∷ d ∷ e ∷ []) f v = five a b c d e f v
is_five (a ∷ b ∷ c ∷ d ∷ e ∷ g ∷ ss) f v = absurd f.1.1.1.1.1

pub form_is : (ss : List OwnSection) → sections_fault ss ≡ None → IsForm ss
unfolding sections_fault
form_is ss h =
    let a = first_none (double_section ss) (first (missing_section ss) (first (misplaced_section ss) (wrong_version ss))) h in
    let b = first_none (missing_section ss) (first (misplaced_section ss) (wrong_version ss)) a.1 in
    let c = first_none (misplaced_section ss) (wrong_version ss) b.1 in
    is_five ss (formed 0 form_names ss (mapped_none (λ place. BadLayout (header_of ss place)) (misplaced_from 0 form_names ss) c.0)) (version_one ss c.1)

-- the sections of an object
pub form_good : (decls bodies summaries symbols : List ℕ) → sections_fault (sections_with (1 ∷ []) decls bodies summaries symbols) ≡ None
unfolding sections_fault
form_good decls bodies summaries symbols = refl
