-- Readers of fields: the value and the place after it, or the offset of the first byte of the first field that is bad.
-- Nothing here is about statements or declarations.
use Rattle.std.specs.Prelude.{◌≡◌, ℕ, zero, suc, ◌+◌, ◌-◌, ◌^◌, ◌≤◌, ◌==◌, List, [], ◌∷◌, ◌++◌, length, Option, Some, None, Result, Ok, Err, Bool, nat_lt, if◌then◌else◌}
use Rattle.cursors.specs.declared.cursor.ReadError.{ReadError}
use Rattle.cursors.specs.Cursor.{Cursor, at, offset_of, is_nil}
use Rattle.cursors.specs.Reading.{byte_at, slice_at, uleb_at}
use Rattle.module_stream.specs.declared.fault.StreamError.{StreamError}
use Rattle.module_stream.specs.declared.fault.StreamError.TheVariants as errors

abbrev pub Reader : Type 0 → Type 0
Reader A = Cursor → Result (A × Cursor) ℕ

infixl 10 ◌>>=◌
abbrev pub ◌>>=◌ : {A B : Type 0} → Result A ℕ → (A → Result B ℕ) → Result B ℕ
(Ok x) >>= f = f x
(Err e) >>= f = Err e

-- ---- what a call gives

-- the fault is the one that reading meets, unless memory ran out
abbrev pub Fails : {A : Type 0} → StreamError → Result A ℕ → Type 0
Fails errors.NoMemory read = Unit {0}
Fails (errors.BadStream offset) read = read ≡ Err offset

-- what a call returned, and the place that it left, are what reading gives
abbrev pub Gives : {A : Type 0} → Result A StreamError → Cursor → Result (A × Cursor) ℕ → Type 0
Gives (Ok x) new read = read ≡ Ok (x, new)
Gives (Err e) new read = Fails e read

-- the same of a value that is seen by view
abbrev pub GivesSeen : {X A : Type 0} → (X → A) → Result X StreamError → Cursor → Result (A × Cursor) ℕ → Type 0
GivesSeen view (Ok x) new read = read ≡ Ok (view x, new)
GivesSeen view (Err e) new read = Fails e read

-- the same of a reader of all bytes
abbrev pub GivesAll : {A : Type 0} → Result A StreamError → Result A ℕ → Type 0
GivesAll (Ok x) read = read ≡ Ok x
GivesAll (Err e) read = Fails e read

-- the same of a value that is seen by view
abbrev pub GivesAllSeen : {X A : Type 0} → (X → A) → Result X StreamError → Result A ℕ → Type 0
GivesAllSeen view (Ok x) read = read ≡ Ok (view x)
GivesAllSeen view (Err e) read = Fails e read

-- the offset of a fault is at most this
abbrev pub IsWithin : {A : Type 0} → ℕ → Result A StreamError → Type 0
IsWithin most (Ok x) = Unit {0}
IsWithin most (Err errors.NoMemory) = Unit {0}
IsWithin most (Err (errors.BadStream offset)) = offset ≤ most

-- ---- fields

-- what a cursor gives, bad at the offset of the field
abbrev pub field : {A : Type 0} → ℕ → Result (A × Cursor) ReadError → Result (A × Cursor) ℕ
field offset (Ok x) = Ok x
field offset (Err e) = Err offset

unfoldable pub byte : Cursor → Result (ℕ × Cursor) ℕ
byte c = field (offset_of c) (byte_at c)

-- a number in its shortest form, and below the limit
unfoldable pub number_below : ℕ → Cursor → Result (ℕ × Cursor) ℕ
number_below limit c =
    field (offset_of c) (uleb_at c) >>= λ x. if nat_lt x.0 limit then Ok x else Err (offset_of c)

-- n bytes of the field at the offset
unfoldable pub bytes_of_field : ℕ → ℕ → Cursor → Result (List ℕ × Cursor) ℕ
bytes_of_field offset n c = field offset (slice_at n c)

-- a length, and as many bytes
unfoldable pub text : Cursor → Result (List ℕ × Cursor) ℕ
text c = number_below (2 ^ 64) c >>= λ n. bytes_of_field (offset_of c) n.0 n.1

-- the field has to pass a test
abbrev pub passing : {A : Type 0} → (A → Bool) → Reader A → Cursor → Result (A × Cursor) ℕ
passing test read c = read c >>= λ x. if test x.0 then Ok x else Err (offset_of c)

-- the entry under a number
abbrev pub pick : {A : Type 0} → ℕ → List (ℕ × A) → Option A
pick k [] = None
pick k (row ∷ rows) = if k == row.0 then Some row.1 else pick k rows

abbrev pub known : {A : Type 0} → ℕ → Option A → Cursor → Result (A × Cursor) ℕ
known offset None d = Err offset
known offset (Some x) d = Ok (x, d)

-- one byte that stands for something
abbrev pub coded : {A : Type 0} → List (ℕ × A) → Cursor → Result (A × Cursor) ℕ
coded table c = byte c >>= λ k. known (offset_of c) (pick k.0 table) k.1

-- ---- readers made of readers

-- no bytes
abbrev pub nothing : {A : Type 0} → A → Cursor → Result (A × Cursor) ℕ
nothing x c = Ok (x, c)

abbrev pub made : {A B : Type 0} → (A → B) → Reader A → Cursor → Result (B × Cursor) ℕ
made make read c = read c >>= λ x. Ok (make x.0, x.1)

-- one after the other
abbrev pub both : {A B : Type 0} → Reader A → Reader B → Cursor → Result ((A × B) × Cursor) ℕ
both first second c = first c >>= λ x. second x.1 >>= λ y. Ok ((x.0, y.0), y.1)

-- the second as the first says
abbrev pub depends : {A B : Type 0} → Reader A → (A → Reader B) → Cursor → Result ((A × B) × Cursor) ℕ
depends first second c = first c >>= λ x. second x.0 x.1 >>= λ y. Ok ((x.0, y.0), y.1)

unfoldable pub repeated : {A : Type 0} → Reader A → ℕ → Cursor → Result (List A × Cursor) ℕ
repeated read zero c = Ok ([], c)
repeated read (suc n) c = read c >>= λ x. repeated read n x.1 >>= λ y. Ok (x.0 ∷ y.0, y.1)

-- a count below 2 ^ 32, and as many
abbrev pub counted : {A : Type 0} → Reader A → Cursor → Result (List A × Cursor) ℕ
counted read c = number_below (2 ^ 32) c >>= λ n. repeated read n.0 n.1

-- one for each of the bounds, in order
unfoldable pub in_turn : {B A : Type 0} → (B → Reader A) → List B → Cursor → Result (List A × Cursor) ℕ
in_turn read [] c = Ok ([], c)
in_turn read (b ∷ bs) c = read b c >>= λ x. in_turn read bs x.1 >>= λ y. Ok (x.0 ∷ y.0, y.1)

-- what is read, after items that were there before
abbrev pub after : {A : Type 0} → List A → Result (List A × Cursor) ℕ → Result (List A × Cursor) ℕ
after front read = read >>= λ x. Ok (front ++ x.0, x.1)

-- what was read of bytes that begin at an offset
abbrev pub shifted : {A : Type 0} → ℕ → Result A ℕ → Result A ℕ
shifted start (Ok x) = Ok x
shifted start (Err e) = Err (start + e)

-- a length and as many bytes, of which all are read: the field is bad where fewer stand after it
abbrev pub sized : {A : Type 0} → (List ℕ → Result A ℕ) → Cursor → Result (A × Cursor) ℕ
sized read c = text c >>= λ t. shifted (offset_of t.1 - length t.0) (read t.0) >>= λ x. Ok (x, t.1)

-- all of the bytes: those that are left over are bad at the first of them
abbrev pub whole : {A : Type 0} → Reader A → List ℕ → Result A ℕ
whole read bytes = read (at (length bytes) bytes) >>= λ x. if is_nil x.1.rest then Ok x.0 else Err (offset_of x.1)
