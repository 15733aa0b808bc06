-- Lists that are made element by element, and the places that are kept of versions.
use Rattle.std.proofs.Common.{◌≡◌, ◌<◌, ℕ, zero, suc, ◌+◌, List, [], ◌∷◌, ◌++◌, Bool, true, false, cond, length, map, get_or, take, drop, Some, refl, sym, ap, ap₂, ◌∙◌, arith, append_assoc, drop-cons}
use Rattle.std.specs.Prelude.{slice_get}
use Rattle.std.specs.List.{range_with_len, enumerate_from, filter}
use Rattle.std.proofs.lemmas.List.{take_more}
use Rattle.std.proofs.lemmas.List.FromFn.{get_or-map-range_with_len, length-map-range_with_len}
use Rattle.std.proofs.lemmas.Option.{get_or_from_slice_get}
use Rattle.ipa_plan.specs.Plans.{version_place}
use Rattle.ipa_plan.specs.Numbering.{places_of}

pub range_next : (a n j : ℕ) → a + n ≡ j → range_with_len a n ++ j ∷ [] ≡ range_with_len a (n + 1)
range_next a zero j e = ap (λ k. k ∷ []) (omega (arith, e))
range_next a (suc n) j e = let next : suc n + 1 ≡ suc (n + 1) = omega arith in rw next (ap (λ ks. a ∷ ks) (range_next (a + 1) n j (omega (arith, e))))

map-push : {X Y : Type 0} (g : X → Y) (xs : List X) (x : X) → map g (xs ++ x ∷ []) ≡ map g xs ++ g x ∷ []
map-push g [] x = refl
map-push g (y ∷ xs) x = ap (λ ys. g y ∷ ys) (map-push g xs x)

-- one element more
pub mapped_more : {X Y : Type 0} (g : X → Y) (xs : List X) (i : ℕ) (x : X) (y : Y) (before after : List Y) → i < length xs → x ≡ get_or xs i x → y ≡ g x
    → before ≡ map g (take i xs) → after ≡ before ++ y ∷ [] → after ≡ map g (take (i + 1) xs)
mapped_more g xs i x y before after lt is made h push =
    push ∙ ap (λ ys. ys ++ y ∷ []) h ∙ ap (λ z. map g (take i xs) ++ z ∷ []) made ∙ sym (map-push g (take i xs) x)
    ∙ sym (ap (map g) (take_more xs i x lt ∙ ap (λ z. take i xs ++ z ∷ []) (sym is)))

-- the place that the code has kept is the version's
pub place_kept : (live : List Bool) (places : List ℕ) (n x : ℕ) → places ≡ places_of live → slice_get places n ≡ Some x → n < length live → x ≡ version_place live n
place_kept live places n x same here lt =
    sym (get_or_from_slice_get places n x 0 here) ∙ ap (λ zs. get_or zs n 0) same
    ∙ get_or-map-range_with_len (version_place live) 0 (length live) n n 0 lt (omega arith)

pub length-places_of : (live : List Bool) → length (places_of live) ≡ length live
length-places_of live = length-map-range_with_len (version_place live) 0 (length live)

-- ---- what is made of the elements that pass, by their numbers

rest_is : {X : Type 0} (xs : List X) (i : ℕ) (x : X) → i < length xs → x ≡ get_or xs i x → drop i xs ≡ x ∷ drop (i + 1) xs
rest_is xs i x lt is =
    let next : suc i ≡ i + 1 = omega arith in
    drop-cons xs i x lt ∙ ap₂ (λ y k. y ∷ drop k xs) (sym is) next

-- what is left from a number on
abbrev pub made_from : {X Y : Type 0} → (ℕ × X → Y) → (ℕ → Bool) → ℕ → List X → List Y
made_from {X} g p i xs = map g (filter (λ (e : ℕ × X). p e.0) (enumerate_from i (drop i xs)))

next_made : {X Y : Type 0} (g : ℕ × X → Y) (p : ℕ → Bool) (xs : List X) (i : ℕ) (x : X) (b : Bool) → i < length xs → x ≡ get_or xs i x → p i ≡ b
    → made_from g p i xs ≡ cond b (g (i, x) ∷ made_from g p (i + 1) xs) (made_from g p (i + 1) xs)
next_made {X} {Y} g p xs i x b lt is test =
    ap (λ ys. map g (filter (λ (e : ℕ × X). p e.0) (enumerate_from i ys))) (rest_is xs i x lt is)
    ∙ ap (λ c. map g (cond c ((i, x) ∷ rest) rest)) test ∙ by b
  where
    rest : List (ℕ × X)
    rest = filter (λ (e : ℕ × X). p e.0) (enumerate_from (i + 1) (drop (i + 1) xs))

    by : (c : Bool) → map g (cond c ((i, x) ∷ rest) rest) ≡ cond c (g (i, x) ∷ map g rest) (map g rest)
    by true = refl
    by false = refl

-- one that passes is added to those that are made
pub made_more : {X Y : Type 0} (g : ℕ × X → Y) (p : ℕ → Bool) (xs : List X) (i : ℕ) (x : X) (before after whole : List Y) (y : Y) → i < length xs → x ≡ get_or xs i x → p i ≡ true
    → y ≡ g (i, x) → after ≡ before ++ y ∷ [] → before ++ made_from g p i xs ≡ whole → after ++ made_from g p (i + 1) xs ≡ whole
made_more g p xs i x before after whole y lt is test made push h =
    ap (λ ys. ys ++ made_from g p (i + 1) xs) (push ∙ ap (λ z. before ++ z ∷ []) made)
    ∙ append_assoc before (g (i, x) ∷ []) (made_from g p (i + 1) xs)
    ∙ ap (λ ys. before ++ ys) (sym (next_made g p xs i x true lt is test)) ∙ h

-- one that does not is passed over
pub made_still : {X Y : Type 0} (g : ℕ × X → Y) (p : ℕ → Bool) (xs : List X) (i : ℕ) (x : X) (before after whole : List Y) → i < length xs → x ≡ get_or xs i x → p i ≡ false
    → after ≡ before → before ++ made_from g p i xs ≡ whole → after ++ made_from g p (i + 1) xs ≡ whole
made_still g p xs i x before after whole lt is test same h =
    ap₂ (λ ys zs. ys ++ zs) same (sym (next_made g p xs i x false lt is test)) ∙ h
