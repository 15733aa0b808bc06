-- The first fault of a list, from one element on.
use Rattle.std.proofs.Common.{◌≡◌, ◌+◌, ℕ, List, [], ◌∷◌, drop, Some, None, refl, ap, ◌∙◌}
use Rattle.std.specs.Prelude.{slice_get, Option}
use Rattle.gimple_ir.specs.declared.fault.TypeFault.{TypeFault}
use Rattle.gimple_ir.specs.Checks.{first_of, faults_from}
use Rattle.gimple_checks.proofs.Lists.{drop_here}

first_of-one : (o : Option TypeFault) → first_of (o ∷ []) ≡ o
first_of-one None = refl
first_of-one (Some f) = refl

-- the element has none
pub faults-none : {X : Type 0} (fault : ℕ → X → Option TypeFault) (xs : List X) (i : ℕ) (x : X) → slice_get xs i ≡ Some x
    → fault i x ≡ None → faults_from fault i (drop i xs) ≡ faults_from fault (i + 1) (drop (i + 1) xs)
faults-none fault xs i x here e =
    ap (faults_from fault i) (drop_here xs i x here)
    ∙ ap (λ o. first_of (o ∷ faults_from fault (i + 1) (drop (i + 1) xs) ∷ [])) e
    ∙ first_of-one (faults_from fault (i + 1) (drop (i + 1) xs))

-- the element has one
pub faults-some : {X : Type 0} (fault : ℕ → X → Option TypeFault) (xs : List X) (i : ℕ) (x : X) (f : TypeFault)
    → slice_get xs i ≡ Some x → fault i x ≡ Some f → faults_from fault i (drop i xs) ≡ Some f
faults-some fault xs i x f here e =
    ap (faults_from fault i) (drop_here xs i x here)
    ∙ ap (λ o. first_of (o ∷ faults_from fault (i + 1) (drop (i + 1) xs) ∷ [])) e
