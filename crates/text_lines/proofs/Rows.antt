-- One more of a list that is read.
use Rattle.std.proofs.Common.{◌≡◌, ℕ, suc, ◌+◌, ◌-◌, ◌<◌, List, [], ◌∷◌, ◌++◌, Result, Ok, Err, refl, ap, ◌∙◌, sym, append_assoc, arith}
use Rattle.text_lines.specs.declared.fault.LineError.{LineError}
use Rattle.text_lines.specs.declared.fault.LineError.TheVariants.{BadLine, NoMemory}
use Rattle.text_lines.specs.Lines.{Lines}
use Rattle.text_lines.specs.Reading.{◌then◌, in_front, counted, after_these, Refuses}

after_these-in_front : {A : Type 0} (firsts : List A) (a : A) (r : Result (List A × Lines) ℕ) → after_these firsts (in_front a r) ≡ after_these (firsts ++ a ∷ []) r
after_these-in_front firsts a (Ok r) = ap (λ xs. Ok (xs, r.1)) (sym (append_assoc firsts (a ∷ []) r.0))
after_these-in_front firsts a (Err line) = refl

one_less : (count place : ℕ) → place < count → count - place ≡ suc (count - (place + 1))
one_less count place h = omega arith

next_of : {A : Type 0} (read : ℕ → Lines → Result (A × Lines) ℕ) (count place : ℕ) (lines : Lines) → place < count
    → counted read (count - place) place lines ≡ read place lines then (λ first. in_front first.0 (counted read (count - (place + 1)) (place + 1) first.1))
next_of read count place lines h = ap (λ n. counted read n place lines) (one_less count place h)

-- a refusal of one refuses the whole
pub refused_at : {A : Type 0} (read : ℕ → Lines → Result (A × Lines) ℕ) (e : LineError) (firsts : List A) (count place : ℕ) (lines : Lines) (whole : Result (List A × Lines) ℕ)
    → place < count → Refuses e (read place lines) → after_these firsts (counted read (count - place) place lines) ≡ whole → Refuses e whole
refused_at read (BadLine line) firsts count place lines whole lt is h =
    sym h ∙ ap (after_these firsts) (next_of read count place lines lt ∙ ap (λ r. r then (λ first. in_front first.0 (counted read (count - (place + 1)) (place + 1) first.1))) is)
refused_at read NoMemory firsts count place lines whole lt is h = tt

-- what one gives goes behind what is read
pub taken_at : {A : Type 0} (read : ℕ → Lines → Result (A × Lines) ℕ) (firsts : List A) (a : A) (count place : ℕ) (lines rest : Lines) (whole : Result (List A × Lines) ℕ)
    → place < count → read place lines ≡ Ok (a, rest) → after_these firsts (counted read (count - place) place lines) ≡ whole
    → after_these (firsts ++ a ∷ []) (counted read (count - (place + 1)) (place + 1) rest) ≡ whole
taken_at read firsts a count place lines rest whole lt is h =
    sym (after_these-in_front firsts a (counted read (count - (place + 1)) (place + 1) rest))
    ∙ ap (after_these firsts) (sym (next_of read count place lines lt ∙ ap (λ r. r then (λ first. in_front first.0 (counted read (count - (place + 1)) (place + 1) first.1))) is)) ∙ h
