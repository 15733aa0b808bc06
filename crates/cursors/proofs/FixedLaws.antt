-- A number in n bytes, the low one first: the bytes that are read are its spelling, and the spelling is read as it.
use Rattle.std.proofs.Common.{◌≡◌, ℕ, zero, suc, ◌+◌, ◌*◌, ◌/◌, ◌%◌, ◌^◌, ◌<◌, false, nat_lt, List, [], ◌∷◌, ◌++◌, length, get_or, Result, Ok, Err, refl, sym, ap, ◌∙◌, length-append, arith}
use Rattle.std.proofs.Math.Nat.{div-div-eq-div-mul, pow-succ'}
use Rattle.std.proofs.lemmas.Bool.Decides.{nat_tests}
use Rattle.std.proofs.lemmas.List.{take_at, drop_at}
use Rattle.std.specs.Int.{byte_at, bytes_low_first}
use Rattle.byteorder.specs.Endian.{little_number}
use Rattle.byteorder.specs.Numbers.{little_from-cons, little_from-append, little_number-reads_back, length-bytes_low_first}
use Rattle.cursors.specs.declared.cursor.ReadError.{ReadError}
use Rattle.cursors.specs.Cursor.{Cursor, at}
use Rattle.cursors.specs.Reading.{slice_at, le_at}

-- the byte above byte i of x is byte i of x / 256
byte_above : (i x : ℕ) → byte_at (suc i) x ≡ byte_at i (x / 256)
byte_above zero x = refl
byte_above (suc i) x = ap (λ (y : ℕ). y % 256) (ap (λ (p : ℕ). x / p) (pow-succ' 256 (suc i)) ∙ sym (div-div-eq-div-mul x 256 (256 ^ suc i)))

bytes_above : (i n x : ℕ) → bytes_low_first (suc i) n x ≡ bytes_low_first i n (x / 256)
bytes_above i zero x = refl
bytes_above i (suc n) x = rw (byte_above i x, bytes_above (suc i) n x) refl

-- the bytes are the spelling of the number that they are read as
pub le_spells : (n : ℕ) (bytes : List ℕ) → ((i : ℕ) → get_or bytes i 0 < 256) → length bytes ≡ n → bytes_low_first 0 n (little_number n bytes) ≡ bytes
le_spells zero [] fits len = refl
le_spells zero (b ∷ bs) fits len = absurd (omega arith)
le_spells (suc n) [] fits len = absurd (omega arith)
le_spells (suc n) (b ∷ bs) fits len =
    let low = fits 0 in
    let number : little_number (suc n) (b ∷ bs) ≡ b + 256 * little_number n bs = ap (λ (m : ℕ). b + 256 * m) (little_from-cons 0 n b bs) in
    let first : (b + 256 * little_number n bs) % 256 ≡ b = omega (arith, low) in
    let rest : (b + 256 * little_number n bs) / 256 ≡ little_number n bs = omega (arith, low) in
    rw (number, bytes_above 0 n (b + 256 * little_number n bs), first, rest, le_spells n bs (λ i. fits (suc i)) (omega arith)) refl

-- the spelling of a number is read as it
le_read : (n x : ℕ) → x < 256 ^ n → little_number n (bytes_low_first 0 n x) ≡ x
le_read n x lt = sym (little_from-append n (bytes_low_first 0 n x) [] (omega (arith, length-bytes_low_first 0 n x))) ∙ little_number-reads_back n x [] lt

not_short : (n : ℕ) (text rest : List ℕ) → length text ≡ n → nat_lt (length (text ++ rest)) n ≡ false
not_short n text rest len = grind (arith, nat_tests, length-append text rest)

-- n bytes are lent, whatever follows
pub slice_again : (n end : ℕ) (text rest : List ℕ) → length text ≡ n → slice_at n (at end (text ++ rest)) ≡ Ok (text, at end rest)
slice_again n end text rest len = rw (not_short n text rest len, take_at text rest n len, drop_at text rest n len) refl

-- what is spelled so is read, whatever follows
pub le_again : (n x end : ℕ) (rest : List ℕ) → x < 256 ^ n → le_at n (at end (bytes_low_first 0 n x ++ rest)) ≡ Ok (x, at end rest)
le_again n x end rest lt =
    let text = bytes_low_first 0 n x in
    let len : length text ≡ n = length-bytes_low_first 0 n x in
    rw (not_short n text rest len, take_at text rest n len, drop_at text rest n len, le_read n x lt) refl

abbrev pub as_ok : ℕ → Result ℕ ReadError
as_ok n = Ok n

abbrev Slice : Type 0
Slice = Result (List ℕ × Cursor) ReadError

abbrev lent : List ℕ × Cursor → Slice
lent x = Ok x

same_slice : (x y : List ℕ × Cursor) → lent x ≡ lent y → x ≡ y
same_slice x y e = cc

not_refused : (error : ReadError) (x : List ℕ × Cursor) (s : Slice) → s ≡ Err error → s ≡ lent x → ⊥
not_refused error x s e f = cc

slice_of : (n x : ℕ) (old : Cursor) (rest : List ℕ) → old.rest ≡ bytes_low_first 0 n x ++ rest → slice_at n old ≡ lent (bytes_low_first 0 n x, at old.end rest)
slice_of n x old rest e = ap (λ (t : List ℕ). slice_at n (at old.end t)) e ∙ slice_again n old.end (bytes_low_first 0 n x) rest (length-bytes_low_first 0 n x)

-- a read of n bytes where the spelling of x stands gives them and leaves the rest
pub le_only : (n : ℕ) (old new : Cursor) (field : List ℕ) (y : ℕ) → slice_at n old ≡ Ok (field, new) → y ≡ little_number n field
    → (x : ℕ) (rest : List ℕ) → x < 256 ^ n → old.rest ≡ bytes_low_first 0 n x ++ rest → (y ≡ x) × (new.rest ≡ rest)
le_only n old new field y read value x rest lt e =
    let same = same_slice (field, new) (bytes_low_first 0 n x, at old.end rest) (sym read ∙ slice_of n x old rest e) in
    (value ∙ ap (λ (s : List ℕ × Cursor). little_number n s.0) same ∙ le_read n x lt, ap (λ (s : List ℕ × Cursor). s.1.rest) same)

-- and isn't refused
pub le_stands : (n : ℕ) (old : Cursor) (error : ReadError) → slice_at n old ≡ Err error → (x : ℕ) (rest : List ℕ) → old.rest ≡ bytes_low_first 0 n x ++ rest → ⊥
le_stands n old error refused x rest e = not_refused error (bytes_low_first 0 n x, at old.end rest) (slice_at n old) refused (slice_of n x old rest e)
