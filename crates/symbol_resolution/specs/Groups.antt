-- What stands under a name, in order.
use Rattle.std.specs.Prelude.{ℕ, List, map, filter}
use Rattle.std.specs.Str.{bytes_eq}
use denote.Ref.{Bor}

-- values under names that are lent, by the names' bytes
abbrev pub named : {T : Type 0} → List (Bor (List ℕ) × T) → List (List ℕ × T)
named es = map (λ e. (e.0.now, e.1)) es

-- the values under one name
abbrev pub of_name : {T : Type 0} → List ℕ → List (List ℕ × T) → List T
of_name name es = map (λ e. e.1) (filter (λ e. bytes_eq name e.0) es)
