-- A list at one of its elements, for loops that may leave early.
use Rattle.std.proofs.Common.{◌≡◌, ◌+◌, ◌<◌, ℕ, zero, suc, List, [], ◌∷◌, ◌++◌, length, drop, take, get_or, map, Some, arith, ap}
use Rattle.std.specs.Prelude.{slice_get}

-- what is left there begins with it
pub drop_here : {X : Type 0} (xs : List X) (i : ℕ) (x : X) → slice_get xs i ≡ Some x → drop i xs ≡ x ∷ drop (i + 1) xs
drop_here [] i x h = cc
drop_here (y ∷ xs) zero x h = grind arith
drop_here (y ∷ xs) (suc i) x h = let e : suc i + 1 ≡ suc (i + 1) = omega arith in rw e (drop_here xs i x h)

-- it comes next to those before it
pub take_here : {X : Type 0} (xs : List X) (i : ℕ) (x : X) → slice_get xs i ≡ Some x → take (i + 1) xs ≡ take i xs ++ x ∷ []
take_here [] i x h = cc
take_here (y ∷ xs) zero x h = grind arith
take_here (y ∷ xs) (suc i) x h = let e : suc i + 1 ≡ suc (i + 1) = omega arith in rw e (ap (λ ys. y ∷ ys) (take_here xs i x h))

-- a mapped list has the mapped element
pub map_here : {X Y : Type 0} (f : X → Y) (xs : List X) (i : ℕ) (x : X) → slice_get xs i ≡ Some x → slice_get (map f xs) i ≡ Some (f x)
map_here f [] i x h = cc
map_here f (y ∷ xs) zero x h = ap (λ z. Some (f z)) (cc)
map_here f (y ∷ xs) (suc i) x h = map_here f xs i x h

pub slice_get_at : {X : Type 0} (xs : List X) (i : ℕ) (x : X) → i < length xs → x ≡ get_or xs i x → slice_get xs i ≡ Some x
slice_get_at [] i x h e = absurd (omega arith)
slice_get_at (y ∷ xs) zero x h e = cc
slice_get_at (y ∷ xs) (suc i) x h e = slice_get_at xs i x (omega arith) e
