-- Values under names, in order.
use Rattle.std.specs.Prelude.{ℕ, List, map, filter, slice_get, unwrap_or}
use Rattle.std.specs.Str.{bytes_eq}
use denote.Ref.{Bor}

-- what stands under a name
abbrev pub of_name : {T : Type 0} → List ℕ → List (List ℕ × T) → List T
of_name name es = map (λ e. e.1) (filter (λ e. bytes_eq name e.0) es)

-- the first of them, or another value where there is none
abbrev pub value_of : {T : Type 0} → T → List ℕ → List (List ℕ × T) → T
value_of other name es = unwrap_or (slice_get (of_name name es) 0) other

-- names by their bytes
abbrev pub named : {T : Type 0} → List (Bor (List ℕ) × T) → List (List ℕ × T)
named es = map (λ e. (e.0.now, e.1)) es
