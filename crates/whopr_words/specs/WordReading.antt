-- Reading the words of a line, one after the other: the value and the words after it, or nothing.
use Rattle.std.specs.Prelude.{◌≡◌, ℕ, ◌&&◌, List, [], ◌∷◌, nat_le, Bool, true, false, if◌then◌else◌, Option, None, Some}
use Rattle.std.specs.Str.{bytes_eq}
use Rattle.cursors.specs.Decimals.{decimal_value}

infixl 10 ◌>>=◌
abbrev pub ◌>>=◌ : {A B : Type 0} → Option A → (A → Option B) → Option B
None >>= f = None
(Some a) >>= f = f a

abbrev pub when : {A : Type 0} → Bool → Option A → Option A
when true a = a
when false a = None

abbrev pub is_nil : {A : Type 0} → List A → Bool
is_nil [] = true
is_nil (x ∷ xs) = false

-- the words after this one
abbrev pub word_is : List ℕ → List (List ℕ) → Option (List (List ℕ))
word_is key [] = None
word_is key (word ∷ words) = if bytes_eq word key then Some words else None

abbrev pub with_rest : {A : Type 0} → List (List ℕ) → Option A → Option (A × List (List ℕ))
with_rest words None = None
with_rest words (Some a) = Some (a, words)

-- what the next word gives
abbrev pub first_by : {A : Type 0} → (List ℕ → Option A) → List (List ℕ) → Option (A × List (List ℕ))
first_by read [] = None
first_by read (word ∷ words) = with_rest words (read word)

abbrev pub within : (low high : ℕ) → Option ℕ → Option ℕ
within low high None = None
within low high (Some n) = if nat_le low n && nat_le n high then Some n else None

-- the number between these two whose decimal the word is
abbrev pub number_within : (low high : ℕ) → List ℕ → Option ℕ
number_within low high word = within low high (decimal_value word)

-- the number behind a keyword
unfoldable pub number_by : List ℕ → (low high : ℕ) → List (List ℕ) → Option (ℕ × List (List ℕ))
number_by key low high words = word_is key words >>= λ rest. first_by (number_within low high) rest

-- ---- what a call gives

-- what a call found, and the words that it left
abbrev pub Finds : {A : Type 0} → Option A → List (List ℕ) → Option (A × List (List ℕ)) → Type 0
Finds None words read = read ≡ None
Finds (Some a) words read = read ≡ Some (a, words)

-- whether the word is there, and the words that are left
abbrev pub Follows : Bool → List (List ℕ) → Option (List (List ℕ)) → Type 0
Follows true words read = read ≡ Some words
Follows false words read = read ≡ None
