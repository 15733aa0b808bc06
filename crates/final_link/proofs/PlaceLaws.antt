-- Places one behind the other.
use Rattle.std.proofs.Common.{◌≡◌, ℕ, ◌+◌, ◌<◌, ◌≤◌, List, [], ◌∷◌, ◌++◌, length, get_or, drop, refl, arith}
use Rattle.std.proofs.lemmas.List.{at_drop_more}
use Rattle.final_link.specs.Symbols.{end_of}

-- the end is not before the begin
pub end_grows : {X : Type 0} (size : X → ℕ) (at : ℕ) (xs : List X) → at ≤ end_of size at xs
end_grows size at [] = omega arith
end_grows size at (x ∷ xs) = omega (arith, end_grows size (at + size x) xs)

pub end_append : {X : Type 0} (size : X → ℕ) (at : ℕ) (xs ys : List X) → end_of size at (xs ++ ys) ≡ end_of size (end_of size at xs) ys
end_append size at [] ys = refl
end_append size at (x ∷ xs) ys = end_append size (at + size x) xs ys

-- the next item ends before the end
pub next_ends : {X : Type 0} (size : X → ℕ) (at total : ℕ) (xs : List X) (i : ℕ) (x : X) → i < length xs → end_of size at (drop i xs) ≡ total → at + size (get_or xs i x) ≤ total
next_ends size at total xs i x lt e = omega (arith, e, at_drop_more (end_of size at) xs i x lt, end_grows size (at + size (get_or xs i x)) (drop (i + 1) xs))
