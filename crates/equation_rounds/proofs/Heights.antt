-- A number that rises at each step down bounds the chains.
use Rattle.std.proofs.Common.{◌≢◌, ℕ, zero, suc, ◌≤◌, arith}
use Rattle.equation_rounds.specs.Systems.{Equations, Counts, IsBelow, Chain}

pub chain-le : {V : Type 0} (e : Equations V) (rank : V → ℕ) → ((a b : V) → Counts e a → IsBelow e a b → a ≢ b → suc (rank b) ≤ rank a) → (n : ℕ) (a : V) → Chain e n a → n ≤ rank a
chain-le e rank rises zero a c = omega arith
chain-le e rank rises (suc n) a (b, counts, below, apart, c) =
    let before = chain-le e rank rises n b c in
    let here = rises a b counts below apart in
    omega (arith, before, here)
