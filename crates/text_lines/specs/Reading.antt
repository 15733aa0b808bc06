-- Readers of lines: the value and the lines after it, or the number of the first line that is bad. A line that is missing
-- is the one behind the last.
use Rattle.std.specs.Prelude.{◌≡◌, ℕ, zero, suc, ◌+◌, List, [], ◌∷◌, ◌++◌, Option, Some, None, Result, Ok, Err}
use Rattle.text_lines.specs.declared.fault.LineError.{LineError}
use Rattle.text_lines.specs.declared.fault.LineError.TheVariants as errors
use Rattle.text_lines.specs.Lines.{Lines}

-- ---- what a call gives

-- the bad line is the one that reading meets, unless memory ran out
abbrev pub Refuses : {A : Type 0} → LineError → Result A ℕ → Type 0
Refuses (errors.BadLine line) read = read ≡ Err line
Refuses errors.NoMemory read = Unit {0}

-- what a call returned, and the lines that it left, are what reading gives
abbrev pub Gives : {A : Type 0} → Result A LineError → Lines → Result (A × Lines) ℕ → Type 0
Gives (Ok a) lines read = read ≡ Ok (a, lines)
Gives (Err e) lines read = Refuses e read

-- the same of a reader of all lines
abbrev pub GivesAll : {A : Type 0} → Result A LineError → Result A ℕ → Type 0
GivesAll (Ok a) read = read ≡ Ok a
GivesAll (Err e) read = Refuses e read

-- ---- readers

-- the line with this number has to give something
abbrev pub taken : {A : Type 0} → ℕ → List (List ℕ) → Option A → Result (A × Lines) ℕ
taken number rest None = Err number
taken number rest (Some a) = Ok (a, record { number = number + 1; rest = rest })

abbrev pub line_from : {A : Type 0} → (List ℕ → Option A) → ℕ → List (List ℕ) → Result (A × Lines) ℕ
line_from read number [] = Err number
line_from read number (line ∷ rest) = taken number rest (read line)

-- the next line, by what a line gives
abbrev pub line_by : {A : Type 0} → (List ℕ → Option A) → Lines → Result (A × Lines) ℕ
line_by read lines = line_from read lines.number lines.rest

infixl 10 ◌then◌
abbrev pub ◌then◌ : {A B : Type 0} → Result A ℕ → (A → Result B ℕ) → Result B ℕ
(Ok a) then f = f a
(Err line) then f = Err line

-- one more in front of what is read
abbrev pub in_front : {A : Type 0} → A → Result (List A × Lines) ℕ → Result (List A × Lines) ℕ
in_front a (Ok r) = Ok (a ∷ r.0, r.1)
in_front a (Err line) = Err line

-- so many, one after the other; a reader knows its place
abbrev pub counted : {A : Type 0} → (ℕ → Lines → Result (A × Lines) ℕ) → (count place : ℕ) → Lines → Result (List A × Lines) ℕ
counted read zero place lines = Ok ([], lines)
counted read (suc count) place lines = read place lines then (λ first. in_front first.0 (counted read count (place + 1) first.1))

abbrev pub after_these : {A : Type 0} → List A → Result (List A × Lines) ℕ → Result (List A × Lines) ℕ
after_these firsts (Ok r) = Ok (firsts ++ r.0, r.1)
after_these firsts (Err line) = Err line

abbrev pub end_from : {A : Type 0} → A → ℕ → List (List ℕ) → Result A ℕ
end_from a number [] = Ok a
end_from a number (line ∷ rest) = Err number

-- no line is left
abbrev pub at_end : {A : Type 0} → A → Lines → Result A ℕ
at_end a lines = end_from a lines.number lines.rest
