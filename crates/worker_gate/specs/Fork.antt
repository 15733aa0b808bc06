-- Rows of works before and after a fork.
use Rattle.std.specs.Prelude.{List, [], ◌∷◌}

-- the rows are of one length, and each work is related to the one at its place
abbrev pub Each : {A : Type 0} → (A → A → Type 0) → List A → List A → Type 0
Each R [] [] = Unit {0}
Each R [] (y ∷ ys) = ⊥
Each R (x ∷ xs) [] = ⊥
Each R (x ∷ xs) (y ∷ ys) = R x y × Each R xs ys
