-- What one piece does to the tokens of a text.
use Rattle.std.proofs.Common.{◌≡◌, ℕ, zero, suc, ◌+◌, List, [], ◌∷◌, drop, refl, ap}
use Rattle.std.specs.Prelude.{◌==◌, if◌then◌else◌}
use Rattle.gimple_tokens.specs.declared.token.TextKind.{TextKind}
use Rattle.gimple_tokens.specs.Tokens.{Lexeme, End, Bad, Gap, Whole, Fault, Placed, placed, followed, passing, piece_at, tokens_from}

pub skips : (line n : ℕ) (bs : List ℕ) → tokens_from line n bs ≡ tokens_from line 0 (drop n bs)
unfolding tokens_from
skips line zero bs = refl
skips line (suc n) [] = refl
skips line (suc n) (b ∷ bs) = skips line n bs

passing-gap : (line b n : ℕ) (bs : List ℕ) → passing line b (Gap n) (λ at n. tokens_from at n bs) ≡ tokens_from (if b == 10 then line + 1 else line) 0 (drop n bs)
passing-gap line b n bs = skips (if b == 10 then line + 1 else line) n bs

pub after_gap : (line b n : ℕ) (bs text : List ℕ) → text ≡ b ∷ bs → Gap n ≡ piece_at b bs → tokens_from line 0 text ≡ tokens_from (if b == 10 then line + 1 else line) 0 (drop n bs)
unfolding tokens_from
after_gap line b n bs text e p = rw (e, ← p) (skips (if b == 10 then line + 1 else line) n bs)

pub at_token : (line b n : ℕ) (t : Lexeme) (bs text : List ℕ) → text ≡ b ∷ bs → Whole t n ≡ piece_at b bs → tokens_from line 0 text ≡ followed (placed t line) (tokens_from line 0 (drop n bs))
unfolding tokens_from
at_token line b n t bs text e p = rw (e, ← p) (ap (followed (placed t line)) (skips line n bs))

pub at_fault : (line b : ℕ) (kind : TextKind) (bs text : List ℕ) (rest : List Placed) → text ≡ b ∷ bs → Fault kind ≡ piece_at b bs → tokens_from line 0 text ≡ followed (placed (Bad kind) line) rest
unfolding tokens_from
at_fault line b kind bs text rest e p = rw (e, ← p) refl

pub at_end : (line : ℕ) (text : List ℕ) (rest : List Placed) → text ≡ [] → tokens_from line 0 text ≡ followed (placed End line) rest
unfolding tokens_from
at_end line text rest e = rw e refl
