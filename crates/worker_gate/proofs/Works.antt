-- Two rows of works, one behind the other.
use Rattle.std.proofs.Common.{List, [], ◌∷◌, ◌++◌}
use Rattle.worker_gate.specs.Fork.{Each}

pub each_append : {A : Type 0} (R : A → A → Type 0) (xs ys zs ws : List A) → Each R xs ys → Each R zs ws → Each R (xs ++ zs) (ys ++ ws)
each_append R [] [] zs ws h k = k
each_append R [] (y ∷ ys) zs ws h k = absurd h
each_append R (x ∷ xs) [] zs ws h k = absurd h
each_append R (x ∷ xs) (y ∷ ys) zs ws h k = (h.0, each_append R xs ys zs ws h.1 k)
