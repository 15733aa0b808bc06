-- A version of few components that passes few arguments has a frame of few slots.
use Rattle.std.proofs.Common.{◌≡◌, ◌≤◌, ℕ, List, [], ◌∷◌, refl, ap, ◌∙◌, subst}
use Rattle.std.specs.Prelude.{max}
use Rattle.gimple_ir.specs.declared.versioned.Step.{Step}
use Rattle.gimple_ir.specs.declared.versioned.Step.TheVariants.{Call}
use Rattle.gimple_ir.specs.declared.versioned.VersionedFunction.{VersionedFunction}
use Rattle.gimple_meaning.specs.Versioned.{passed_in, most_passed, IsVersioned}
use Rattle.rv64_frame.specs.Frames.{passed_of, outgoing_of, HasFewSlots}

same_passed : (s : Step) → passed_in s ≡ passed_of s
same_passed (Call to call args) = refl
same_passed _ = refl

same_most : (ss : List Step) → most_passed ss ≡ outgoing_of ss
same_most [] = refl
same_most (s ∷ ss) = ap (λ (n : ℕ). max n (most_passed ss)) (same_passed s) ∙ ap (max (passed_of s)) (same_most ss)

pub few_slots : (f : VersionedFunction) → IsVersioned f → HasFewSlots f
few_slots f v = record { components = v.components; arguments = subst (λ n. n ≤ 64) (same_most f.body) v.arguments }
