-- The lines of a text, one line at a time.
use Rattle.std.proofs.Common.{◌≡◌, ◌≢◌, ◌==◌, inl, inr, ℕ, suc, false, List, [], ◌∷◌, ◌++◌, Option, Some, None, refl, ap, ◌∙◌, arith}
use Rattle.std.proofs.lemmas.Bool.Decides.{nat_tests}
use Rattle.std.specs.Prelude.{All, IfSome}
use Rattle.cursors.specs.Lines.{IsNoNewline, IsLineAt, lines_of}

goes_on : (b : ℕ) → b ≢ 10 → (b == 10) ≡ false
goes_on b other = grind (arith, nat_tests)

behind : (b : ℕ) (line : List ℕ) → All IsNoNewline (b ∷ line) → All IsNoNewline line
behind b line h k d lt = h (suc k) d (omega arith)

line_then : (line rest : List ℕ) → All IsNoNewline line → lines_of (line ++ 10 ∷ rest) ≡ line ∷ lines_of rest
line_then [] rest h = refl
line_then (b ∷ line) rest h = rw (goes_on b (h 0 0 (omega arith)), line_then line rest (behind b line h)) refl

last_line : (line : List ℕ) → line ≢ [] → All IsNoNewline line → lines_of line ≡ line ∷ []
last_line [] some h = absurd (some refl)
last_line (b ∷ []) some h = rw (goes_on b (h 0 0 (omega arith))) refl
last_line (b ∷ c ∷ line) some h = rw (goes_on b (h 0 0 (omega arith)), last_line (c ∷ line) (λ e. cc) (behind b (c ∷ line) h)) refl

line_at : (old new line : List ℕ) → IsLineAt old new (Some line) → lines_of old ≡ line ∷ lines_of new
line_at old new line (some, h, inl then) = ap lines_of then ∙ line_then line new h
line_at old new line (some, h, inr (last, end)) = rw (end, last_line old some (rw last h), last) refl

-- the line at the front, and the lines behind it
pub lines_at : (old new : List ℕ) (line : Option (List ℕ)) → IsLineAt old new line → IfSome line (λ line. lines_of old ≡ line ∷ lines_of new)
lines_at old new None h = tt
lines_at old new (Some line) h = line_at old new line h
