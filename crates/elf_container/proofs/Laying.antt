-- One more section is laid out.
use Rattle.std.proofs.Common.{◌≡◌, ℕ, ◌+◌, ◌<◌, ◌≤◌, List, [], ◌∷◌, ◌++◌, length, get_or, take, Result, Ok, Err, refl, sym, ap, subst, ◌∙◌, arith}
use Rattle.std.specs.Prelude.{map, All, OnOk}
use Rattle.std.specs.List.{fold}
use Rattle.std.proofs.lemmas.List.{take_more, map-append, map-id}
use Rattle.std.proofs.lemmas.List.Sums.{fold-append}
use Rattle.std.proofs.lemmas.List.Elements.{All-nil, All-cons, All-append}
use Rattle.elf_container.specs.declared.sections.OwnSection.{OwnSection}
use Rattle.elf_container.specs.declared.sections.Fields.{Fields}
use Rattle.elf_container.specs.Layout.{Parts, start, placed, placed_as}
use Rattle.elf_container.specs.Container.{IsPlain, IsWritable, IsContainer}

pub next : {X : Type 0} (view : X → OwnSection) (xs : List X) (i : ℕ) (x : X) → i < length xs → x ≡ get_or xs i x → map view (take (i + 1) xs) ≡ map view (take i xs) ++ view x ∷ []
next view xs i x lt is =
    ap (map view) (take_more xs i x lt ∙ ap (λ y. take i xs ++ y ∷ []) (sym is)) ∙ map-append view (take i xs) (x ∷ [])

pub placed_more : {X : Type 0} (view : X → OwnSection) (xs : List X) (i : ℕ) (x : X) (p q : Parts) → i < length xs → x ≡ get_or xs i x
    → p ≡ fold placed start (map view (take i xs)) → q ≡ placed p (view x) → q ≡ fold placed start (map view (take (i + 1) xs))
placed_more view xs i x p q lt is so_far e =
    e ∙ ap (λ r. placed r (view x)) so_far ∙ sym (ap (fold placed start) (next view xs i x lt is) ∙ fold-append placed start (map view (take i xs)) (view x ∷ []))

pub writable_more : {X : Type 0} (view : X → OwnSection) (xs : List X) (i : ℕ) (x : X) → i < length xs → x ≡ get_or xs i x → All IsWritable (map view (take i xs)) → IsWritable (view x) → All IsWritable (map view (take (i + 1) xs))
writable_more view xs i x lt is so_far this =
    subst (λ (ss : List OwnSection). All IsWritable ss) (sym (next view xs i x lt is))
    (All-append IsWritable (map view (take i xs)) (view x ∷ []) so_far (All-cons IsWritable (view x) [] this (All-nil IsWritable)))

pub placed_same : (p : Parts) (n m : List ℕ) (f h : Fields) (b c : List ℕ) → n ≡ m → f ≡ h → b ≡ c → placed_as p n f b ≡ placed_as p m h c
placed_same p n m f h b c names fields bytes = rw (names, fields, bytes) refl

pub on_ok : {T E : Type 0} (r : Result T E) (P : Type 0) → P → OnOk r P
on_ok (Ok x) P p = p
on_ok (Err e) P p = tt

pub on_ok_then : {T E : Type 0} (r : Result T E) (P Q : Type 0) → OnOk r P → (P → Q) → OnOk r Q
on_ok_then (Ok x) P Q p f = f p
on_ok_then (Err e) P Q p f = tt

pub writable_container : (ss : List OwnSection) → length ss ≤ 65000 → All IsPlain ss → All IsWritable (map (λ s. s) ss) → IsContainer ss
writable_container ss few plain writable =
    let all : All IsWritable ss = subst (λ (xs : List OwnSection). All IsWritable xs) (map-id ss) writable in
    record { few = omega (arith, few); sections = λ k d h. record { plain = plain k d h; name = (all k d h).name; fields = (all k d h).fields } }
