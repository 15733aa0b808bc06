-- The relocations of a part ascend by their offsets, so those of a member stand one behind the other.
use Rattle.std.proofs.Common.{◌≡◌, ℕ, zero, suc, ◌+◌, ◌-◌, ◌/◌, ◌%◌, ◌<◌, ◌≤◌, Bool, true, false, cond, List, [], ◌∷◌, length, get_or, take, drop, filter, refl, sym, ap, ◌∙◌, subst, leb-true, ltb-true, arith}
use Rattle.std.specs.Prelude.{nat_le, nat_lt, ◌==◌, ◌&&◌, ◌||◌}
use Rattle.std.specs.Prelude.{All, Option, Some, None, slice_get, unwrap_or}
use Rattle.std.specs.List.{AllByRecursion}
use Rattle.std.specs.Option.{option_map_or}
use Rattle.std.specs.List.Sorted.{IsNonDecreasingBy, IsPartitionedBy, IsPartitionPoint}
use Rattle.std.proofs.lemmas.Bool.{and_parts}
use Rattle.std.proofs.lemmas.Bool.Decides.{nat_tests}
use Rattle.std.proofs.lemmas.List.Elements.{filter_passes, recursion_from_All}
use Rattle.std.proofs.lemmas.List.{get_or-drop, length-drop}
use Rattle.elf_container.specs.declared.relocatable.Reloc.{Reloc}
use Rattle.elf_container.specs.declared.relocatable.RelocObject.{RelocObject}
use Rattle.elf_container.specs.Relocatable.{IsObject, relocs_from, fills, reach}
use Rattle.final_link.specs.declared.members.Member.{Member}
use Rattle.final_link.specs.Members.{lies_in, relocations_in}

-- ---- ascending offsets

pub when_true : (b : Bool) (x : Bool) → cond b x false ≡ true → (b ≡ true) × (x ≡ true)
when_true true x h = (refl, h)
when_true false x h = (h, cc)

head_of : (least : ℕ) (words : List ℕ) (r : Reloc) (rs : List Reloc) → relocs_from least words (r ∷ rs) ≡ true → (least ≤ r.offset) × (relocs_from (r.offset + reach r.kind) words rs ≡ true)
head_of least words r rs h =
    let both = when_true (nat_le least r.offset && r.offset % 4 == 0 && fills r.kind (r.offset / 4) words) (relocs_from (r.offset + reach r.kind) words rs) h in
    let front = and_parts (nat_le least r.offset && r.offset % 4 == 0) (fills r.kind (r.offset / 4) words) both.0 in
    (leb-true least r.offset (and_parts (nat_le least r.offset) (r.offset % 4 == 0) front.0).0, both.1)

least_at : (least : ℕ) (words : List ℕ) (rs : List Reloc) (j : ℕ) (d : Reloc) → relocs_from least words rs ≡ true → j < length rs → least ≤ (get_or rs j d).offset
least_at least words [] j d h lt = absurd (omega arith)
least_at least words (r ∷ rs) zero d h lt = (head_of least words r rs h).0
least_at least words (r ∷ rs) (suc j) d h lt =
    omega (arith, (head_of least words r rs h).0, least_at (r.offset + reach r.kind) words rs j d (head_of least words r rs h).1 (omega arith))

pub ascends : (least : ℕ) (words : List ℕ) (rs : List Reloc) → relocs_from least words rs ≡ true → IsNonDecreasingBy (λ r. r.offset) rs
ascends least words [] h i j d le lt = absurd (omega arith)
ascends least words (r ∷ rs) h zero zero d le lt = omega arith
ascends least words (r ∷ rs) h zero (suc j) d le lt = omega (arith, least_at (r.offset + reach r.kind) words rs j d (head_of least words r rs h).1 (omega arith))
ascends least words (r ∷ rs) h (suc i) zero d le lt = absurd (omega arith)
ascends least words (r ∷ rs) h (suc i) (suc j) d le lt = ascends (r.offset + reach r.kind) words rs (head_of least words r rs h).1 i j d (omega arith) (omega arith)

-- ---- a stretch of a list

-- nothing in front passes
none_in_front : {X : Type 0} (f : X → Bool) (xs : List X) (n : ℕ) → ((k : ℕ) (d : X) → k < n → k < length xs → f (get_or xs k d) ≡ false) → filter f xs ≡ filter f (drop n xs)
none_in_front f [] zero h = refl
none_in_front f [] (suc n) h = refl
none_in_front f (x ∷ xs) zero h = refl
none_in_front f (x ∷ xs) (suc n) h =
    ap (λ b. cond b (x ∷ filter f xs) (filter f xs)) (h 0 x (omega arith) (omega arith))
    ∙ none_in_front f xs n (λ k d lt within. h (suc k) d (omega arith) (omega arith))

-- what passes stands in front
pub front_passes : {X : Type 0} (f : X → Bool) (xs : List X) (n : ℕ) → ((k : ℕ) (d : X) → k < n → k < length xs → f (get_or xs k d) ≡ true)
    → ((k : ℕ) (d : X) → n ≤ k → k < length xs → f (get_or xs k d) ≡ false) → filter f xs ≡ take n xs
front_passes f [] zero h g = refl
front_passes f [] (suc n) h g = refl
front_passes f (x ∷ xs) zero h g =
    ap (λ b. cond b (x ∷ filter f xs) (filter f xs)) (g 0 x (omega arith) (omega arith))
    ∙ front_passes f xs zero (λ k d lt within. absurd (omega arith)) (λ k d le within. g (suc k) d (omega arith) (omega arith))
front_passes f (x ∷ xs) (suc n) h g =
    ap (λ b. cond b (x ∷ filter f xs) (filter f xs)) (h 0 x (omega arith) (omega arith))
    ∙ ap (λ ys. x ∷ ys) (front_passes f xs n (λ k d lt within. h (suc k) d (omega arith) (omega arith)) (λ k d le within. g (suc k) d (omega arith) (omega arith)))

-- ---- the stretch of a member

-- not before the end
abbrev pub is_early : ℕ → ℕ → Reloc → Bool
is_early start size r = nat_lt r.offset start || nat_lt (r.offset - start) size

early_number : (a b start size : ℕ) → a ≤ b → (nat_lt b start || nat_lt (b - start) size) ≡ true → (nat_lt a start || nat_lt (a - start) size) ≡ true
early_number a b start size le h = grind (arith, nat_tests)

pub early_first : (start size : ℕ) (rs : List Reloc) → IsNonDecreasingBy (λ r. r.offset) rs → IsPartitionedBy (is_early start size) rs
early_first start size rs asc i j d le lt h = early_number (get_or rs i d).offset (get_or rs j d).offset start size (asc i j d le lt) h

before_it : (o start size : ℕ) → nat_lt o start ≡ true → (nat_le start o && nat_lt (o - start) size) ≡ false
before_it o start size h = grind (arith, nat_tests)

inside_it : (o start size : ℕ) → nat_lt o start ≡ false → (nat_lt o start || nat_lt (o - start) size) ≡ true → (nat_le start o && nat_lt (o - start) size) ≡ true
inside_it o start size h g = grind (arith, nat_tests)

behind_it : (o start size : ℕ) → nat_lt o start ≡ false → (nat_lt o start || nat_lt (o - start) size) ≡ false → (nat_le start o && nat_lt (o - start) size) ≡ false
behind_it o start size h g = grind (arith, nat_tests)

pub stretch : (m : Member) (rs : List Reloc) (from count : ℕ)
    → IsPartitionPoint (λ r. nat_lt r.offset m.start ≡ true) (λ r. nat_lt r.offset m.start ≡ false) rs from
    → IsPartitionPoint (λ r. is_early m.start m.size r ≡ true) (λ r. is_early m.start m.size r ≡ false) (drop from rs) count
    → take count (drop from rs) ≡ filter (lies_in m) rs
stretch m rs from count first last =
    let later : (k : ℕ) (d : Reloc) → k < length (drop from rs) → nat_lt (get_or (drop from rs) k d).offset m.start ≡ false =
    λ k d lt. subst (λ (r : Reloc). nat_lt r.offset m.start ≡ false) (sym (get_or-drop from rs k d)) (first.1 (from + k) d (omega arith) (omega (arith, length-drop from rs))) in
    sym (none_in_front (lies_in m) rs from (λ k d lt inside. before_it (get_or rs k d).offset m.start m.size (first.0 k d (omega arith) lt))
    ∙ front_passes (lies_in m) (drop from rs) count
    (λ k d lt within. inside_it (get_or (drop from rs) k d).offset m.start m.size (later k d within) (last.0 k d (omega arith) lt))
    (λ k d le within. behind_it (get_or (drop from rs) k d).offset m.start m.size (later k d within) (last.1 k d le within)))

-- those that pass lie in the member
lies_number : (o start size : ℕ) → (nat_le start o && nat_lt (o - start) size) ≡ true → (start ≤ o) × (o - start < size)
lies_number o start size h =
    let both = and_parts (nat_le start o) (nat_lt (o - start) size) h in (leb-true start o both.0, ltb-true (o - start) size both.1)

pub all_lie : (m : Member) (rs : List Reloc) → All (λ r. (m.start ≤ r.offset) × (r.offset - m.start < m.size)) (filter (lies_in m) rs)
all_lie m rs k d lt = lies_number (get_or (filter (lies_in m) rs) k d).offset m.start m.size (filter_passes (lies_in m) rs k d lt)

-- ---- the relocations of a part

some_holds : {X : Type 0} (P : X → Type 0) (xs : List X) (i : ℕ) (x : X) → AllByRecursion P xs → slice_get xs i ≡ Some x → P x
some_holds P [] i x h e = cc
some_holds P (y ∷ ys) zero x h e = subst P (ap (λ o. unwrap_or o y) e) h.0
some_holds P (y ∷ ys) (suc i) x h e = some_holds P ys i x h.1 e

ascends_by : (found : Option RelocObject) → ((o : RelocObject) → found ≡ Some o → IsObject o) → IsNonDecreasingBy (λ r. r.offset) (option_map_or (λ o. o.relocations) found [])
ascends_by None h = λ i j d le lt. absurd (omega arith)
ascends_by (Some o) h = ascends 0 o.words o.relocations (h o refl).relocations

pub part_ascends : (parts : List RelocObject) (part : ℕ) → All IsObject parts → IsNonDecreasingBy (λ r. r.offset) (relocations_in parts part)
part_ascends parts part h = ascends_by (slice_get parts part) (λ o e. some_holds IsObject parts part o (recursion_from_All IsObject parts h) e)
