-- The members of objects are whole words of their parts.
use Rattle.std.proofs.Common.{◌≡◌, ℕ, zero, suc, ◌+◌, ◌-◌, ◌*◌, ◌%◌, ◌≤◌, Bool, true, false, cond, List, [], ◌∷◌, ◌++◌, length, drop, filter, map, Option, Some, None, refl, sym, ap, ◌∙◌, subst, leb-true, eqb-true, arith}
use Rattle.std.specs.Prelude.{All, nat_le, ◌==◌, ◌&&◌, not, is_some, slice_get, unwrap_or}
use Rattle.std.specs.List.{AllByRecursion, list_all}
use Rattle.std.specs.Option.{option_map_or}
use Rattle.std.specs.Str.{bytes_eq}
use Rattle.std.proofs.lemmas.Bool.{and_parts}
use Rattle.std.proofs.lemmas.List.Elements.{recursion_from_All}
use Rattle.elf_container.specs.declared.relocatable.RelocObject.{RelocObject}
use Rattle.elf_container.specs.declared.relocatable.RelSymbol.{RelSymbol}
use Rattle.elf_container.specs.Relocatable.{IsObject, fill_from, stands, is_undefined}
use Rattle.final_link.specs.declared.members.Member.{Member}
use Rattle.final_link.specs.Names.{value_of}
use Rattle.final_link.specs.Members.{members_in, members_from, before_members, member_in, words_in, Fits}
use Rattle.final_link.proofs.RelocationLaws.{when_true}

-- ---- the members of one part

-- a member of a part with so many bytes
record Within (part end : ℕ) (m : Member) : Type 0 where
  pub of_part : m.part ≡ part
  pub start : m.start % 4 ≡ 0
  pub size : m.size % 4 ≡ 0
  pub within : m.start + m.size ≤ end

abbrev AllWithin : ℕ → ℕ → List (List ℕ × Member) → Type 0
AllWithin part end members = AllByRecursion (λ e. Within part end e.1) members

none_before : (part : ℕ) (s : RelSymbol) (start : Option ℕ) (rest : List (List ℕ × Member)) → not (is_some start) ≡ true → before_members part s start rest ≡ rest
none_before part s None rest h = refl
none_before part s (Some start) rest h = cc

no_members : (part : ℕ) (ss : List RelSymbol) → list_all is_undefined ss ≡ true → members_in part ss ≡ []
no_members part [] h = refl
no_members part (s ∷ ss) h =
    let both = and_parts (is_undefined s) (list_all is_undefined ss) h in
    none_before part s s.start (members_in part ss) (and_parts (not (is_some s.start)) (s.size == 0) both.0).0 ∙ no_members part ss both.1

one_within : (part at end : ℕ) (s : RelSymbol) (start : Option ℕ) (ss : List RelSymbol)
    → ((k : ℕ) → fill_from k end ss ≡ true → k % 4 ≡ 0 → k ≤ end → AllWithin part end (members_in part ss))
    → cond (is_some start) (cond (stands at start && s.size % 4 == 0 && nat_le s.size (end - at)) (fill_from (at + s.size) end ss) false) (cond (at == end) (list_all is_undefined (s ∷ ss)) false) ≡ true
    → at % 4 ≡ 0 → at ≤ end → AllWithin part end (before_members part s start (members_in part ss))
one_within part at end s None ss more h even le =
    let all = (when_true (at == end) (list_all is_undefined (s ∷ ss)) h).1 in
    subst (AllWithin part end) (sym (no_members part ss (and_parts (is_undefined s) (list_all is_undefined ss) all).1)) tt
one_within part at end s (Some start) ss more h even le =
    let both = when_true (stands at (Some start) && s.size % 4 == 0 && nat_le s.size (end - at)) (fill_from (at + s.size) end ss) h in
    let front = and_parts (stands at (Some start) && s.size % 4 == 0) (nat_le s.size (end - at)) both.0 in
    let here = and_parts (stands at (Some start)) (s.size % 4 == 0) front.0 in
    let same : start ≡ at = eqb-true start at here.0 in
    let whole : s.size % 4 ≡ 0 = eqb-true (s.size % 4) 0 here.1 in
    let room : s.size ≤ end - at = leb-true s.size (end - at) front.1 in (
      record { of_part = refl; start = omega (arith, same, even); size = whole; within = omega (arith, same, room, le) },
      more (at + s.size) both.1 (omega (arith, even, whole)) (omega (arith, room, le)),
    )

members_within : (part at end : ℕ) (ss : List RelSymbol) → fill_from at end ss ≡ true → at % 4 ≡ 0 → at ≤ end → AllWithin part end (members_in part ss)
members_within part at end [] h even le = tt
members_within part at end (s ∷ ss) h even le = one_within part at end s s.start ss (λ k h' even' le'. members_within part k end ss h' even' le') h even le

-- ---- the members of all parts

both_all : {X : Type 0} (P : X → Type 0) (xs ys : List X) → AllByRecursion P xs → AllByRecursion P ys → AllByRecursion P (xs ++ ys)
both_all P [] ys h g = g
both_all P (x ∷ xs) ys h g = (h.0, both_all P xs ys h.1 g)

first_left : {X : Type 0} (xs : List X) (k : ℕ) (y : X) (ys : List X) → drop k xs ≡ y ∷ ys → (slice_get xs k ≡ Some y) × (drop (k + 1) xs ≡ ys)
first_left [] zero y ys e = absurd (omega (arith, ap length e))
first_left [] (suc k) y ys e = absurd (omega (arith, ap length e))
first_left {X} (x ∷ xs) zero y ys e = (ap (λ (l : List X). slice_get l 0) e, ap (λ (l : List X). drop 1 l) e)
first_left {X} (x ∷ xs) (suc k) y ys e =
    let more = first_left xs k y ys e in
    let next : suc k + 1 ≡ suc (k + 1) = omega arith in
    (more.0, ap (λ n. drop n (x ∷ xs)) next ∙ more.1)

fits_in : (parts : List RelocObject) (part : ℕ) (o : RelocObject) (members : List (List ℕ × Member)) → slice_get parts part ≡ Some o
    → AllWithin part (4 * length o.words) members → AllByRecursion (λ e. Fits parts e.1) members
fits_in parts part o [] at h = tt
fits_in parts part o (e ∷ es) at h =
    let words : words_in parts e.1.part ≡ o.words = ap (words_in parts) h.0.of_part ∙ ap (λ (x : Option RelocObject). option_map_or (λ (p : RelocObject). p.words) x []) at in
    (record { start = h.0.start; size = h.0.size; within = omega (arith, h.0.within, ap length words) }, fits_in parts part o es at h.1)

parts_fit : (parts : List RelocObject) (k : ℕ) (os : List RelocObject) → drop k parts ≡ os → AllByRecursion IsObject os → AllByRecursion (λ e. Fits parts e.1) (members_from k os)
parts_fit parts k [] e h = tt
parts_fit parts k (o ∷ os) e h =
    let at = first_left parts k o os e in
    both_all (λ (m : List ℕ × Member). Fits parts m.1) (members_in k o.symbols) (members_from (k + 1) os)
    (fits_in parts k o (members_in k o.symbols) at.0 (members_within k 0 (4 * length o.words) o.symbols h.0.members refl (omega arith)))
    (parts_fit parts (k + 1) os at.1 h.1)

pub objects_fit : (parts : List RelocObject) → All IsObject parts → AllByRecursion (λ e. Fits parts e.1) (members_from 0 parts)
objects_fit parts h = parts_fit parts 0 parts refl (recursion_from_All IsObject parts h)

-- ---- a member by its name

by_test : {T : Type 0} (P : T → Type 0) (other : T) (b : Bool) (e : List ℕ × T) (es : List (List ℕ × T)) → P e.1 → P (unwrap_or (slice_get (map (λ x. x.1) es) 0) other)
    → P (unwrap_or (slice_get (map (λ x. x.1) (cond b (e ∷ es) es)) 0) other)
by_test P other true e es h g = h
by_test P other false e es h g = g

-- what holds of each value, and of the other one, holds of the value under a name
pub by_name : {T : Type 0} (P : T → Type 0) (other : T) (name : List ℕ) (es : List (List ℕ × T)) → P other → AllByRecursion (λ e. P e.1) es → P (value_of other name es)
by_name P other name [] h g = h
by_name P other name (e ∷ es) h g = by_test P other (bytes_eq name e.0) e (filter (λ x. bytes_eq name x.0) es) g.0 (by_name P other name es h g.1)

pub member_fits : (parts : List RelocObject) (members : List (List ℕ × Member)) (symbol : List ℕ) → AllByRecursion (λ e. Fits parts e.1) members → Fits parts (member_in members symbol)
member_fits parts members symbol h =
    by_name (Fits parts) (record { part = 0; start = 0; size = 0 }) symbol members (record { start = refl; size = refl; within = omega arith }) h
