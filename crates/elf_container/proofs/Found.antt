-- A file that has no fault is laid out as the sections found.
use Rattle.std.proofs.Common.{◌≡◌, ℕ, ◌+◌, List, length, take, ◌≤◌, arith, Option, Some, None, Result, Ok, Err, refl, sym, ap, subst, ◌∙◌}
use Rattle.std.specs.Prelude.{IfOk, All, map}
use Rattle.std.proofs.lemmas.List.{length-map, length-take, take-map}
use Rattle.std.proofs.lemmas.List.Elements.{All-take}
use Rattle.elf_container.specs.Container.{IsSection, IsContainer}
use Rattle.elf_container.specs.declared.fault.ElfKind.{ElfKind}
use Rattle.elf_container.specs.declared.fault.ElfFault.{ElfFault}
use Rattle.elf_container.specs.declared.fault.ElfError.{ElfError}
use Rattle.elf_container.specs.declared.sections.OwnSection.{OwnSection}
use Rattle.elf_container.specs.Layout.{layout_of}
use Rattle.elf_container.specs.Reading.{◌>>=◌, fault, difference, unless, compared, form_fault, header_fault, headers, shoff, names_of, sections_at, but_last, read_of, Gives}
use Rattle.elf_container.proofs.FormSteps.{no_difference}

abbrev done : List OwnSection → Result (List OwnSection) ElfFault
done ss = Ok ss

ok_is : (x y : List OwnSection) → done x ≡ done y → x ≡ y
ok_is x y e = cc

unless_ok : (o : Option ElfFault) (r : Result (List OwnSection) ElfFault) (ss : List OwnSection) → unless o r ≡ Ok ss → (o ≡ None) × (r ≡ Ok ss)
unless_ok None r ss e = (refl, e)
unless_ok (Some f) r ss e = absurd cc

bind_ok : (r : Result (List OwnSection) ElfFault) (f : List OwnSection → Result (List OwnSection) ElfFault) (ss : List OwnSection) → (r >>= f) ≡ Ok ss → (x : List OwnSection) × (r ≡ Ok x) × (f x ≡ Ok ss)
bind_ok (Ok x) f ss e = (x, refl, e)
bind_ok (Err d) f ss e = absurd cc

no_fault : (kind : ElfKind) (o : Option ℕ) → fault kind o ≡ None → o ≡ None
no_fault kind None e = refl
no_fault kind (Some offset) e = absurd cc

pub same_layout : (bytes : List ℕ) (ss : List OwnSection) → difference 0 bytes (layout_of ss) ≡ None → bytes ≡ layout_of ss
same_layout bytes ss e = no_difference 0 bytes (layout_of ss) e

compared_is : (bytes : List ℕ) (ss found : List OwnSection) → compared bytes ss ≡ Ok found → bytes ≡ layout_of found
unfolding compared
compared_is bytes ss found e =
    let a = unless_ok _ (Ok ss) found e in
    no_difference 0 bytes (layout_of ss) (no_fault _ (difference 0 bytes (layout_of ss)) a.0) ∙ ap layout_of (ok_is ss found a.1)

read_is : (bytes : List ℕ) (ss : List OwnSection) → read_of bytes ≡ Ok ss → bytes ≡ layout_of ss
unfolding read_of
read_is bytes ss e =
    let a = unless_ok (form_fault bytes) _ ss e in
    let b = unless_ok (header_fault bytes (headers bytes)) _ ss a.1 in
    let c = bind_ok (sections_at bytes (names_of bytes (headers bytes)) (shoff bytes + 64) (headers bytes)) (λ all. compared bytes (but_last all)) ss b.1 in
    compared_is bytes (but_last c.0) ss c.2

pub read_found : {X : Type 0} (view : X → List OwnSection) (bytes : List ℕ) (r : Result X ElfError) → Gives view r (read_of bytes) → IfOk r (λ x. bytes ≡ layout_of (view x))
read_found view bytes (Ok x) e = read_is bytes (view x) e
read_found view bytes (Err e) h = tt

-- what a call gives, where it is known what reading gives
pub gives_only : (r : Result (List OwnSection) ElfError) (bytes : List ℕ) (ss : List OwnSection) → read_of bytes ≡ Ok ss → Gives (λ found. found) r (read_of bytes) → Gives (λ found. found) r (Ok ss)
gives_only r bytes ss e h = subst (λ read. Gives (λ found. found) r read) e h

-- ---- what is read could be written

pub container_by : (r : Result (List OwnSection) ElfError) (ss : List OwnSection) → IfOk r (λ found. found ≡ ss) → IsContainer ss → IfOk r (λ found. IsContainer found)
container_by (Ok found) ss e is = subst (λ (xs : List OwnSection). IsContainer xs) (sym e) is
container_by (Err error) ss e is = tt

-- the sections but for the last
pub popped : {X : Type 0} (view : X → OwnSection) (all rest : List X) (k : ℕ) → All IsSection (map view all) → rest ≡ take k all → k ≤ 65533 → IsContainer (map view rest)
popped view all rest k is e few = record {
  few = omega (arith, length-map rest view, ap length e, length-take k all, few);
  sections = subst (λ (xs : List OwnSection). All IsSection xs) (take-map view k all ∙ ap (map view) (sym e)) (All-take IsSection k (map view all) is);
}
