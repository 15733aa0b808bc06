-- What a name is: of a symbol, a file or a word of a format; and of an item of a text, which has fewer.
use Rattle.std.specs.Prelude.{ℕ, ◌≤◌, List, [], ◌∷◌, ◌++◌, length, All, Bool, false, not, ◌&&◌, ◌||◌, nat_eq, nat_le, codes}
use Rattle.std.specs.List.{list_all, list_any, starts_with}
use Rattle.std.specs.Str.{bytes_eq}

abbrev pub IsPrintable : ℕ → Type 0
IsPrintable byte = (0x21 ≤ byte) × (byte ≤ 0x7e)

-- 1 to 300 printable bytes
pub record IsName (bytes : List ℕ) : Type 0 where
  pub some : 1 ≤ length bytes
  pub bounded : length bytes ≤ 300
  pub printable : All IsPrintable bytes

-- ---- names of items, fields, variables and labels

abbrev pub is_between : ℕ → ℕ → ℕ → Bool
is_between low high n = nat_le low n && nat_le n high

-- A to Z, a to z, and the underscore
abbrev pub is_letter : ℕ → Bool
is_letter byte = is_between 65 90 byte || is_between 97 122 byte || nat_eq byte 95

abbrev pub is_digit : ℕ → Bool
is_digit byte = is_between 48 57 byte

abbrev pub begins_with_letter : List ℕ → Bool
begins_with_letter [] = false
begins_with_letter (byte ∷ bytes) = is_letter byte

abbrev pub keywords : List (List ℕ)
keywords =
    codes "int" ∷ codes "unsigned" ∷ codes "long" ∷ codes "char" ∷ codes "struct" ∷ codes "static" ∷ codes "extern"
    ∷ codes "weak" ∷ codes "void" ∷ codes "if" ∷ codes "else" ∷ codes "goto" ∷ codes "switch" ∷ codes "case"
    ∷ codes "default" ∷ codes "return" ∷ []

-- one of the names, byte by byte
abbrev pub is_among : List (List ℕ) → List ℕ → Bool
is_among names bytes = list_any (bytes_eq bytes) names

-- a letter or underscore, then letters, digits and underscores; at most 255 bytes, and no keyword
abbrev pub is_identifier : List ℕ → Bool
is_identifier bytes =
    begins_with_letter bytes && list_all (λ byte. is_letter byte || is_digit byte) bytes && nat_le (length bytes) 255
    && not (is_among keywords bytes)

-- a name that only the three builtin functions have
abbrev pub is_builtin : List ℕ → Bool
is_builtin bytes = starts_with nat_eq bytes (codes "__builtin_")

-- some name stands among those before it, of which `before` are known
abbrev pub repeats_after : List (List ℕ) → List (List ℕ) → Bool
repeats_after before [] = false
repeats_after before (name ∷ names) = is_among before name || repeats_after (before ++ name ∷ []) names

-- some name stands twice
abbrev pub repeats : List (List ℕ) → Bool
repeats names = repeats_after [] names
