-- Parts that are picked out of a list, one after the other.
use Rattle.std.proofs.Common.{◌≡◌, ◌+◌, ◌<◌, ℕ, zero, suc, List, [], ◌∷◌, ◌++◌, length, get_or, map, take, drop, Option, Some, None, refl, sym, ap, ◌∙◌, arith}
use Rattle.std.specs.List.{filter_map, cons_option}
use Rattle.std.specs.Option.{option_map, option_to_list}

-- a list from one place on
pub drop-here : {X : Type 0} (xs : List X) (i : ℕ) (d : X) → i < length xs → drop i xs ≡ get_or xs i d ∷ drop (i + 1) xs
drop-here [] i d h = absurd (omega arith)
drop-here (x ∷ xs) zero d h = refl
drop-here (x ∷ xs) (suc i) d h = let e : suc i + 1 ≡ suc (i + 1) = omega arith in rw e (drop-here xs i d (omega arith))

cons-more : {Y : Type 0} (o : Option Y) (ys zs : List Y) → cons_option o (ys ++ zs) ≡ cons_option o ys ++ zs
cons-more None ys zs = refl
cons-more (Some y) ys zs = refl

cons-list : {Y : Type 0} (o : Option Y) → cons_option o [] ≡ option_to_list o
cons-list None = refl
cons-list (Some y) = refl

-- one place more
pub picked-more : {X Y : Type 0} (h : X → Option Y) (xs : List X) (i : ℕ) (d : X) → i < length xs
    → filter_map h (take (i + 1) xs) ≡ filter_map h (take i xs) ++ option_to_list (h (get_or xs i d))
picked-more h [] i d b = absurd (omega arith)
picked-more h (x ∷ xs) zero d b = cons-list (h x)
picked-more h (x ∷ xs) (suc i) d b =
    let e : suc i + 1 ≡ suc (i + 1) = omega arith in
    rw e (ap (cons_option (h x)) (picked-more h xs i d (omega arith)) ∙ cons-more (h x) (filter_map h (take i xs)) (option_to_list (h (get_or xs i d))))

map-option : {Y Z : Type 0} (f : Y → Z) (ys : List Y) (o : Option Y) → map f (ys ++ option_to_list o) ≡ map f ys ++ option_to_list (option_map f o)
map-option f [] None = refl
map-option f [] (Some y) = refl
map-option f (y ∷ ys) o = ap (λ zs. f y ∷ zs) (map-option f ys o)

pub parts-more : {X Y Z : Type 0} (f : Y → Z) (h : X → Option Y) (xs : List X) (i : ℕ) (x : X) (part : Option Z) (before after : List Z)
    → i < length xs → x ≡ get_or xs i x → part ≡ option_map f (h x)
    → before ≡ map f (filter_map h (take i xs)) → after ≡ before ++ option_to_list part
    → after ≡ map f (filter_map h (take (i + 1) xs))
parts-more f h xs i x part before after b here is so_far step =
    step ∙ ap (λ zs. zs ++ option_to_list part) so_far
    ∙ ap (λ o. map f (filter_map h (take i xs)) ++ option_to_list o) (is ∙ ap (λ y. option_map f (h y)) here)
    ∙ sym (map-option f (filter_map h (take i xs)) (h (get_or xs i x)))
    ∙ sym (ap (map f) (picked-more h xs i x b))
