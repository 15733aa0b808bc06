-- How the parts of a token are written.
use Rattle.std.specs.Prelude.{◌≡◌, ℕ, Bool, true, List, [], ◌∷◌}
use Rattle.gimple_tokens.specs.declared.token.Suffix.{Suffix}
use Rattle.gimple_tokens.specs.declared.token.Suffix.TheVariants.{Plain, U, L, Ul}

abbrev pub suffix_text : Suffix → List ℕ
suffix_text Plain = []
suffix_text U = 117 ∷ []
suffix_text L = 108 ∷ []
suffix_text Ul = 117 ∷ 108 ∷ []

abbrev pub AllTrue : (ℕ → Bool) → List ℕ → Type 0
AllTrue p [] = Unit {0}
AllTrue p (b ∷ bs) = (p b ≡ true) × AllTrue p bs
