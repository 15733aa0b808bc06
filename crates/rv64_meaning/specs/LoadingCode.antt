-- What the code knows of an image while it looks for faults: fields as offset, width and number, and which sizes are in range.
use Rattle.std.specs.Prelude.{ℕ, ◌+◌, ◌≤◌, ◌^◌, Bool, List, length, nat_le, ◌&&◌}
use Rattle.rv64_meaning.specs.Loading.{Field, is, text_size, stored_size, data_size}

-- an offset, a width and a number
abbrev pub Number : Type 0
Number = ℕ × ℕ × ℕ

abbrev pub is_field : List ℕ → Number → Field
is_field image f = is image f.0 f.1 f.2

abbrev pub fits_header : Number → Bool
fits_header f = nat_le f.1 8 && nat_le (f.0 + f.1) 176

-- the header is whole, and its text's size is in range
abbrev pub HasText : List ℕ → Type 0
HasText image = (176 ≤ length image) × (text_size image ≤ 2 ^ 27)

-- so are the data's sizes
abbrev pub HasSizes : List ℕ → Type 0
HasSizes image = (176 ≤ length image) × (text_size image ≤ 2 ^ 27) × (stored_size image ≤ data_size image) × (data_size image ≤ 2 ^ 28)
