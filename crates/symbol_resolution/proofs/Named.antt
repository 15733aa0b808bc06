-- What stands under a name, by references and by bytes.
use Rattle.std.proofs.Common.{◌≡◌, ℕ, List, [], ◌∷◌, Bool, true, false, cond, map, filter, refl, ap}
use Rattle.std.specs.Str.{bytes_eq}
use denote.Ref.{Bor}
use Rattle.symbol_resolution.specs.Groups.{named, of_name}

taken : {T : Type 0} (b : Bool) (name : List ℕ) (e : Bor (List ℕ) × T) (es : List (Bor (List ℕ) × T)) → of_name name (named es) ≡ map (λ p. p.1) (filter (λ p. bytes_eq name p.0.now) es)
    → map (λ p. p.1) (cond b ((e.0.now, e.1) ∷ filter (λ p. bytes_eq name p.0) (named es)) (filter (λ p. bytes_eq name p.0) (named es))) ≡ map (λ p. p.1) (cond b (e ∷ filter (λ p. bytes_eq name p.0.now) es) (filter (λ p. bytes_eq name p.0.now) es))
taken true name e es h = ap (λ xs. e.1 ∷ xs) h
taken false name e es h = h

pub of_name-named : {T : Type 0} (name : List ℕ) (es : List (Bor (List ℕ) × T)) → of_name name (named es) ≡ map (λ e. e.1) (filter (λ e. bytes_eq name e.0.now) es)
of_name-named name [] = refl
of_name-named name (e ∷ es) = taken (bytes_eq name e.0.now) name e es (of_name-named name es)
