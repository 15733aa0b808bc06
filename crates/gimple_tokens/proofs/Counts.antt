-- A text has at most one token more than it has bytes.
use Rattle.std.proofs.Common.{ℕ, zero, suc, ◌+◌, ◌≤◌, Bool, true, false, List, [], ◌∷◌, length, arith}
use Rattle.std.specs.Prelude.{◌==◌, if◌then◌else◌}
use Rattle.gimple_tokens.specs.Tokens.{Piece, Gap, Whole, Fault, Placed, ends, passing, piece_at, tokens_from}

no-more : (b : Bool) (ts : List Placed) (k : ℕ) → length ts ≤ k → length (if b then [] else ts) ≤ k
no-more true ts k h = omega arith
no-more false ts k h = h

passing-few : (line b k : ℕ) (p : Piece) (go : ℕ → ℕ → List Placed) → ((at n : ℕ) → length (go at n) ≤ k + 1) → length (passing line b p go) ≤ k + 2
passing-few line b k (Gap n) go f = omega (arith, f (if b == 10 then line + 1 else line) n)
passing-few line b k (Whole t n) go f = omega (arith, no-more (ends t) (go line n) (k + 1) (f line n))
passing-few line b k (Fault kind) go f = omega arith

pub few-from : (line skip : ℕ) (bs : List ℕ) → length (tokens_from line skip bs) ≤ length bs + 1
unfolding tokens_from
few-from line skip [] = omega arith
few-from line (suc n) (b ∷ bs) = omega (arith, few-from line n bs)
few-from line zero (b ∷ bs) = omega (arith, passing-few line b (length bs) (piece_at b bs) (λ at n. tokens_from at n bs) (λ at n. few-from at n bs))
