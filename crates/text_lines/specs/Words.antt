-- The words of a line, which single spaces separate, and the names among them.
use Rattle.std.specs.Prelude.{ℕ, ◌==◌, ◌&&◌, List, length, nat_le, Bool, if◌then◌else◌, Option, None, Some}
use Rattle.std.specs.List.{list_all, slice_split}

abbrev pub is_space : ℕ → Bool
is_space byte = byte == 32

abbrev pub words_of : List ℕ → List (List ℕ)
words_of line = slice_split is_space line

-- a byte from 0x21 to 0x7e
abbrev pub is_printable : ℕ → Bool
is_printable byte = nat_le 0x21 byte && nat_le byte 0x7e

-- 1 to 300 printable bytes
abbrev pub is_name : List ℕ → Bool
is_name word = nat_le 1 (length word) && nat_le (length word) 300 && list_all is_printable word

abbrev pub name_of : List ℕ → Option (List ℕ)
name_of word = if is_name word then Some word else None
