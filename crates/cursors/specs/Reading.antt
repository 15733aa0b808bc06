-- What a read of a field gives at a place: the value and the place after it, or the fault with the offset of the field.
use Rattle.std.specs.Prelude.{◌≡◌, ℕ, ◌^◌, ◌-◌, List, [], ◌∷◌, length, take, drop, Option, Some, None, Result, Ok, Err, ◌&&◌, nat_lt, ◌==◌, slice_index, if◌then◌else◌}
use Rattle.byteorder.specs.Endian.{little_number}
use Rattle.cursors.specs.declared.cursor.ReadError.{ReadError}
use Rattle.cursors.specs.declared.cursor.ReadError.TheVariants.{Short, NotShortest, TooWide}
use Rattle.cursors.specs.Cursor.{Cursor, at, offset_of}
use Rattle.cursors.specs.Leb128.{group_len, number_of}

abbrev pub same : {A : Type 0} → A → A
same x = x

-- What a call returned, seen by view, and the place that it left are what the read gives. A refusal leaves the place.
abbrev pub Gives : {X Y : Type 0} → (X → Y) → Result X ReadError → Cursor → Cursor → Result (Y × Cursor) ReadError → Type 0
Gives view (Ok x) old new read = read ≡ Ok (view x, new)
Gives view (Err e) old new read = (read ≡ Err e) × (new ≡ old)

abbrev pub byte_by : List ℕ → Cursor → Result (ℕ × Cursor) ReadError
byte_by [] c = Err (Short (offset_of c))
byte_by (b ∷ bs) c = Ok (b, at c.end bs)

-- a byte
abbrev pub byte_at : Cursor → Result (ℕ × Cursor) ReadError
byte_at c = byte_by c.rest c

-- n bytes
abbrev pub slice_at : ℕ → Cursor → Result (List ℕ × Cursor) ReadError
slice_at n c = if nat_lt (length c.rest) n then Err (Short (offset_of c)) else Ok (take n c.rest, at c.end (drop n c.rest))

-- a number in n bytes, the low one first
abbrev pub le_at : ℕ → Cursor → Result (ℕ × Cursor) ReadError
le_at n c = if nat_lt (length c.rest) n then Err (Short (offset_of c)) else Ok (little_number n (take n c.rest), at c.end (drop n c.rest))

-- A number whose group has n bytes, or whose group doesn't end. It is too wide before anything else is wrong with it.
abbrev pub uleb_by_group : Option ℕ → Cursor → Result (ℕ × Cursor) ReadError
uleb_by_group None c = if nat_lt (number_of c.rest) (2 ^ 64) then Err (Short (offset_of c)) else Err (TooWide (offset_of c))
uleb_by_group (Some n) c =
    if nat_lt (number_of (take n c.rest)) (2 ^ 64)
    then (if nat_lt 1 n && slice_index (take n c.rest) (n - 1) == 0 then Err (NotShortest (offset_of c)) else Ok (number_of (take n c.rest), at c.end (drop n c.rest)))
    else Err (TooWide (offset_of c))

-- a number in shortest LEB128
abbrev pub uleb_at : Cursor → Result (ℕ × Cursor) ReadError
uleb_at c = uleb_by_group (group_len c.rest) c
