-- A text has at least as many bytes as lines.
use Rattle.std.proofs.Common.{◌≡◌, ℕ, suc, ◌≤◌, List, [], ◌∷◌, Bool, true, false, cond, length, eqb, arith}
use Rattle.cursors.specs.Lines.{lines_of, onto_first}

onto_first-short : (byte : ℕ) (lines : List (List ℕ)) (n : ℕ) → length lines ≤ n → length (onto_first byte lines) ≤ suc n
onto_first-short byte [] n h = omega arith
onto_first-short byte (line ∷ lines) n h = omega arith

by : (b : Bool) (byte : ℕ) (lines : List (List ℕ)) (n : ℕ) → length lines ≤ n → length (cond b ([] ∷ lines) (onto_first byte lines)) ≤ suc n
by true byte lines n h = omega arith
by false byte lines n h = onto_first-short byte lines n h

pub length-lines_of : (text : List ℕ) → length (lines_of text) ≤ length text
length-lines_of [] = omega arith
length-lines_of (byte ∷ bytes) = by (eqb byte 10) byte (lines_of bytes) (length bytes) (length-lines_of bytes)
