-- Elements of lists by their places.
use Rattle.std.proofs.Common.{◌≡◌, ℕ, zero, suc, List, [], ◌∷◌, Some, All, subst}
use Rattle.std.specs.Prelude.{slice_get}
use Rattle.std.proofs.lemmas.List.Elements.{All-head, All-tail}

-- one value under two
pub some_same : {T : Type 0} (x y : T) → Some x ≡ Some y → x ≡ y
some_same x y e = cc

-- what holds of all holds of the one at a place
pub all_at : {T : Type 0} (P : T → Type 0) (xs : List T) (i : ℕ) (x : T) → slice_get xs i ≡ Some x → All P xs → P x
all_at P [] i x e h = cc
all_at P (y ∷ ys) zero x e h = subst P (some_same y x e) (All-head P y ys h)
all_at P (y ∷ ys) (suc i) x e h = all_at P ys i x e (All-tail P y ys h)
