-- Lists that are made element by element, and what stands in lists of numbers and symbols.
use Rattle.std.proofs.Common.{◌≡◌, ◌<◌, ℕ, zero, suc, ◌+◌, List, [], ◌∷◌, ◌++◌, length, map, get_or, take, refl, sym, ap, ◌∙◌, arith, Some}
use Rattle.std.specs.Prelude.{slice_get}
use Rattle.std.specs.List.{range_with_len}
use Rattle.std.proofs.lemmas.List.{take_more}
use Rattle.std.proofs.lemmas.Option.{get_or_from_slice_get, slice_get-get_or}

pub range_next : (a n j : ℕ) → a + n ≡ j → range_with_len a n ++ j ∷ [] ≡ range_with_len a (n + 1)
range_next a zero j e = ap (λ k. k ∷ []) (omega (arith, e))
range_next a (suc n) j e = let next : suc n + 1 ≡ suc (n + 1) = omega arith in rw next (ap (λ ks. a ∷ ks) (range_next (a + 1) n j (omega (arith, e))))

pub number_there : (a n k : ℕ) → k < n → slice_get (range_with_len a n) k ≡ Some (a + k)
number_there a zero k lt = absurd (omega (arith, lt))
number_there a (suc n) zero lt = let same : a ≡ a + 0 = omega arith in ap (λ (j : ℕ). Some j) same
number_there a (suc n) (suc k) lt = let same : a + 1 + k ≡ a + suc k = omega arith in number_there (a + 1) n k (omega (arith, lt)) ∙ ap (λ (j : ℕ). Some j) same

-- a mapped list has the mapped element
pub map_here : {X Y : Type 0} (f : X → Y) (xs : List X) (i : ℕ) (x : X) → slice_get xs i ≡ Some x → slice_get (map f xs) i ≡ Some (f x)
map_here f [] i x h = cc
map_here f (y ∷ xs) zero x h = ap (λ z. Some (f z)) (cc)
map_here f (y ∷ xs) (suc i) x h = map_here f xs i x h

pub map_push : {X Y : Type 0} (g : X → Y) (xs : List X) (x : X) → map g (xs ++ x ∷ []) ≡ map g xs ++ g x ∷ []
map_push g [] x = refl
map_push g (y ∷ xs) x = ap (λ ys. g y ∷ ys) (map_push g xs x)

-- one element more
pub mapped_more : {X Y : Type 0} (g : X → Y) (xs : List X) (i : ℕ) (x : X) (y : Y) (before after : List Y) → i < length xs → x ≡ get_or xs i x → y ≡ g x
    → before ≡ map g (take i xs) → after ≡ before ++ y ∷ [] → after ≡ map g (take (i + 1) xs)
mapped_more g xs i x y before after lt is made h push =
    push ∙ ap (λ ys. ys ++ y ∷ []) h ∙ ap (λ z. map g (take i xs) ++ z ∷ []) made ∙ sym (map_push g (take i xs) x)
    ∙ sym (ap (map g) (take_more xs i x lt ∙ ap (λ z. take i xs ++ z ∷ []) (sym is)))

-- what is made of the numbers up to one more
pub numbered_more : {Y : Type 0} (g : ℕ → Y) (n : ℕ) (y : Y) (before after : List Y) → y ≡ g n → before ≡ map g (range_with_len 0 n) → after ≡ before ++ y ∷ []
    → after ≡ map g (range_with_len 0 (n + 1))
numbered_more g n y before after made h push =
    let last : 0 + n ≡ n = omega arith in
    push ∙ ap (λ ys. ys ++ y ∷ []) h ∙ ap (λ z. map g (range_with_len 0 n) ++ z ∷ []) made ∙ sym (map_push g (range_with_len 0 n) n) ∙ ap (map g) (range_next 0 n n last)

-- what is made of a number stands at its place
pub made_at : {Y : Type 0} (g : ℕ → Y) (count : ℕ) (ys : List Y) (k : ℕ) (y : Y) → k < count → ys ≡ map g (range_with_len 0 count) → slice_get ys k ≡ Some y → y ≡ g k
made_at g count ys k y lt is here =
    let first : 0 + k ≡ k = omega arith in
    let made = map_here g (range_with_len 0 count) k k (number_there 0 count k lt ∙ ap (λ (j : ℕ). Some j) first) in
    let same : Some y ≡ Some (g k) = sym here ∙ ap (λ zs. slice_get zs k) is ∙ made in
    cc

pub element_at : {X : Type 0} (xs : List X) (i : ℕ) (x : X) → i < length xs → x ≡ get_or xs i x → slice_get xs i ≡ Some x
element_at [] i x lt is = absurd (omega (arith, lt))
element_at (y ∷ ys) zero x lt is = ap (λ (z : _). Some z) (sym is)
element_at (y ∷ ys) (suc i) x lt is = element_at ys i x (omega (arith, lt)) is

-- the element at a place, whatever would stand past the end
pub same_item : {X : Type 0} (xs : List X) (i : ℕ) (d : X) → i < length xs → get_or xs i d ≡ get_or xs i (get_or xs i d)
same_item [] i d lt = absurd (omega (arith, lt))
same_item (x ∷ xs) zero d lt = refl
same_item (x ∷ xs) (suc i) d lt =
    let inside : i < length xs = omega (arith, lt) in
    sym (get_or_from_slice_get xs i (get_or xs i d) (get_or xs i d) (slice_get-get_or xs i d inside))
