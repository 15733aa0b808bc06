-- The text of a token is read as that token, where what follows does not go on with it.
use Rattle.std.proofs.Common.{◌≡◌, ℕ, zero, suc, ◌+◌, ◌-◌, ◌*◌, ◌/◌, ◌%◌, ◌<◌, ◌≤◌, ◌^◌, Bool, true, false, List, [], ◌∷◌, ◌++◌, length, drop, Some, refl, sym, ap, ◌∙◌, arith, append_assoc, length-append}
use Rattle.std.specs.Prelude.{fold, nat_lt, ◌&&◌, ◌==◌}
use Rattle.std.specs.List.{prefix_len}
use Rattle.std.specs.Fmt.{decimal}
use Rattle.std.proofs.lemmas.List.{take_at, drop_at}
use Rattle.std.proofs.lemmas.Bool.{lt-ltb}
use Rattle.std.proofs.lemmas.Bool.Decides.{nat_tests}
use Rattle.std.proofs.lemmas.Fmt.{decimal_by_steps}
use Rattle.gimple_tokens.specs.declared.token.Mark.{Mark}
use Rattle.gimple_tokens.specs.declared.token.Mark.TheVariants as mark
use Rattle.gimple_tokens.specs.declared.token.Suffix.{Suffix}
use Rattle.gimple_tokens.specs.declared.token.Suffix.TheVariants.{Plain, U, L, Ul}
use Rattle.gimple_tokens.specs.Tokens.{Lexeme, Number, Sign, Whole, Placed, placed, ends, followed, is_space, is_bad, is_letter, is_digit, is_word_byte, word_of, word_at, value_of, suffix_at, suffix_len, number_at, sign_at, piece_at, tokens_from}
use Rattle.text_laws.specs.Written.{suffix_text, AllTrue}
use Rattle.gimple_tokens.proofs.Steps.{at_token}

pub space : (line : ℕ) (r : List ℕ) → tokens_from line 0 (32 ∷ r) ≡ tokens_from line 0 r
unfolding tokens_from piece_at
space line r = refl

pub newline : (line : ℕ) (r : List ℕ) → tokens_from line 0 (10 ∷ r) ≡ tokens_from (line + 1) 0 r
unfolding tokens_from piece_at
newline line r = refl

-- ---- signs

abbrev pub first_is : (ℕ → Bool) → List ℕ → Bool
first_is p [] = false
first_is p (b ∷ bs) = p b

-- the text of a sign
abbrev pub sign_text : Mark → List ℕ
sign_text mark.Semicolon = 59 ∷ []
sign_text mark.Colon = 58 ∷ []
sign_text mark.Comma = 44 ∷ []
sign_text mark.Dot = 46 ∷ []
sign_text mark.Minus = 45 ∷ []
sign_text mark.Plus = 43 ∷ []
sign_text mark.Asterisk = 42 ∷ []
sign_text mark.Slash = 47 ∷ []
sign_text mark.Percent = 37 ∷ []
sign_text mark.Ampersand = 38 ∷ []
sign_text mark.VerticalBar = 124 ∷ []
sign_text mark.Caret = 94 ∷ []
sign_text mark.Tilde = 126 ∷ []
sign_text mark.Equals = 61 ∷ []
sign_text mark.EqualsEquals = 61 ∷ 61 ∷ []
sign_text mark.NotEquals = 33 ∷ 61 ∷ []
sign_text mark.Less = 60 ∷ []
sign_text mark.LessEquals = 60 ∷ 61 ∷ []
sign_text mark.Greater = 62 ∷ []
sign_text mark.GreaterEquals = 62 ∷ 61 ∷ []
sign_text mark.ShiftLeft = 60 ∷ 60 ∷ []
sign_text mark.ShiftRight = 62 ∷ 62 ∷ []
sign_text mark.OpenRound = 40 ∷ []
sign_text mark.CloseRound = 41 ∷ []
sign_text mark.OpenSquare = 91 ∷ []
sign_text mark.CloseSquare = 93 ∷ []
sign_text mark.OpenCurly = 123 ∷ []
sign_text mark.CloseCurly = 125 ∷ []

-- any sign before a space
pub sign_space : (line : ℕ) (m : Mark) (r : List ℕ) → tokens_from line 0 (sign_text m ++ (32 ∷ r)) ≡ placed (Sign m) line ∷ tokens_from line 0 r
unfolding tokens_from piece_at sign_at
sign_space line mark.Semicolon r = refl
sign_space line mark.Colon r = refl
sign_space line mark.Comma r = refl
sign_space line mark.Dot r = refl
sign_space line mark.Minus r = refl
sign_space line mark.Plus r = refl
sign_space line mark.Asterisk r = refl
sign_space line mark.Slash r = refl
sign_space line mark.Percent r = refl
sign_space line mark.Ampersand r = refl
sign_space line mark.VerticalBar r = refl
sign_space line mark.Caret r = refl
sign_space line mark.Tilde r = refl
sign_space line mark.Equals r = refl
sign_space line mark.EqualsEquals r = refl
sign_space line mark.NotEquals r = refl
sign_space line mark.Less r = refl
sign_space line mark.LessEquals r = refl
sign_space line mark.Greater r = refl
sign_space line mark.GreaterEquals r = refl
sign_space line mark.ShiftLeft r = refl
sign_space line mark.ShiftRight r = refl
sign_space line mark.OpenRound r = refl
sign_space line mark.CloseRound r = refl
sign_space line mark.OpenSquare r = refl
sign_space line mark.CloseSquare r = refl
sign_space line mark.OpenCurly r = refl
sign_space line mark.CloseCurly r = refl

-- a sign that no other begins with
abbrev pub IsAlone : Mark → Type 0
IsAlone mark.Semicolon = Unit {0}
IsAlone mark.Colon = Unit {0}
IsAlone mark.Comma = Unit {0}
IsAlone mark.Dot = Unit {0}
IsAlone mark.Minus = Unit {0}
IsAlone mark.Plus = Unit {0}
IsAlone mark.Asterisk = Unit {0}
IsAlone mark.Percent = Unit {0}
IsAlone mark.Ampersand = Unit {0}
IsAlone mark.VerticalBar = Unit {0}
IsAlone mark.Caret = Unit {0}
IsAlone mark.Tilde = Unit {0}
IsAlone mark.OpenRound = Unit {0}
IsAlone mark.CloseRound = Unit {0}
IsAlone mark.OpenSquare = Unit {0}
IsAlone mark.CloseSquare = Unit {0}
IsAlone mark.OpenCurly = Unit {0}
IsAlone mark.CloseCurly = Unit {0}
IsAlone _ = ⊥

pub sign : (line : ℕ) (m : Mark) (r : List ℕ) → IsAlone m → tokens_from line 0 (sign_text m ++ r) ≡ placed (Sign m) line ∷ tokens_from line 0 r
unfolding tokens_from piece_at sign_at
sign line mark.Semicolon r h = refl
sign line mark.Colon r h = refl
sign line mark.Comma r h = refl
sign line mark.Dot r h = refl
sign line mark.Minus r h = refl
sign line mark.Plus r h = refl
sign line mark.Asterisk r h = refl
sign line mark.Percent r h = refl
sign line mark.Ampersand r h = refl
sign line mark.VerticalBar r h = refl
sign line mark.Caret r h = refl
sign line mark.Tilde r h = refl
sign line mark.OpenRound r h = refl
sign line mark.CloseRound r h = refl
sign line mark.OpenSquare r h = refl
sign line mark.CloseSquare r h = refl
sign line mark.OpenCurly r h = refl
sign line mark.CloseCurly r h = refl
sign line _ r h = absurd h

-- ---- words

pub prefix-all : (p : ℕ → Bool) (bs r : List ℕ) → AllTrue p bs → first_is p r ≡ false → prefix_len p (bs ++ r) ≡ length bs
prefix-all p [] [] h e = refl
prefix-all p [] (b ∷ r) h e = rw e refl
prefix-all p (b ∷ bs) r h e = rw (h.0, prefix-all p bs r h.1 e) (omega arith)

pub letter_space : (b : ℕ) → is_letter b ≡ true → is_space b ≡ false
letter_space b h = grind (arith, nat_tests)

pub letter_bad : (b : ℕ) → is_letter b ≡ true → is_bad b ≡ false
letter_bad b h = grind (arith, nat_tests)

-- a word, which no letter or digit follows
pub record IsWord (w : List ℕ) : Type 0 where
  pub first : ℕ
  pub more : List ℕ
  pub is : w ≡ first ∷ more
  pub letter : is_letter first ≡ true
  pub all : AllTrue is_word_byte more

word-piece : (b : ℕ) (bs r : List ℕ) → is_letter b ≡ true → AllTrue is_word_byte bs → first_is is_word_byte r ≡ false → Whole (word_of (b ∷ bs)) (length bs) ≡ piece_at b (bs ++ r)
unfolding piece_at word_at
word-piece b bs r letter all stop = rw (letter_bad b letter, letter_space b letter, letter, prefix-all is_word_byte bs r all stop, take_at bs r (length bs) refl) refl

followed-on : (t : Lexeme) (line : ℕ) (rest : List Placed) → ends t ≡ false → followed (placed t line) rest ≡ placed t line ∷ rest
followed-on t line rest h = rw h refl

pub word : (line : ℕ) (w r : List ℕ) (t : Lexeme) → IsWord w → word_of w ≡ t → ends t ≡ false → first_is is_word_byte r ≡ false → tokens_from line 0 (w ++ r) ≡ placed t line ∷ tokens_from line 0 r
word line w r t h is goes stop =
    let piece : Whole t (length h.more) ≡ piece_at h.first (h.more ++ r) = sym (ap (λ (u : Lexeme). Whole u (length h.more)) (ap word_of (sym h.is) ∙ is)) ∙ word-piece h.first h.more r h.letter h.all stop in
    at_token line h.first (length h.more) t (h.more ++ r) (w ++ r) (ap (λ (l : List ℕ). l ++ r) h.is) piece
    ∙ followed-on t line (tokens_from line 0 (drop (length h.more) (h.more ++ r))) goes
    ∙ ap (λ (l : List ℕ). placed t line ∷ tokens_from line 0 l) (drop_at h.more r (length h.more) refl)

-- ---- numbers

-- digits that spell a number, without a leading zero
pub record IsNumber (n : ℕ) (ds : List ℕ) : Type 0 where
  pub first : ℕ
  pub more : List ℕ
  pub is : ds ≡ first ∷ more
  pub digit : is_digit first ≡ true
  pub all : AllTrue is_digit more
  pub led : (0 < n → 48 < first) × (n ≡ 0 → more ≡ [])
  pub value : value_of ds ≡ n

all-push : (p : ℕ → Bool) (ds : List ℕ) (d : ℕ) → AllTrue p ds → p d ≡ true → AllTrue p (ds ++ d ∷ [])
all-push p [] d h e = (e, tt)
all-push p (b ∷ ds) d h e = (h.0, all-push p ds d h.1 e)

value-push : (n : ℕ) (ds : List ℕ) (d : ℕ) → fold (λ n d. n * 10 + (d - 48)) n (ds ++ d ∷ []) ≡ fold (λ n d. n * 10 + (d - 48)) n ds * 10 + (d - 48)
value-push n [] d = refl
value-push n (b ∷ ds) d = value-push (n * 10 + (b - 48)) ds d

digit-is : (n : ℕ) → n < 10 → is_digit (48 + n) ≡ true
digit-is n h = grind (arith, nat_tests)

one-digit : (n : ℕ) → n < 10 → IsNumber n ((48 + n) ∷ [])
one-digit n h = record { first = 48 + n; more = []; is = refl; digit = digit-is n h; all = tt; led = ((λ p. omega arith), λ e. refl); value = omega arith }

more-digits : (n : ℕ) (ds : List ℕ) → 10 ≤ n → IsNumber (n / 10) ds → IsNumber n (ds ++ ((48 + n % 10) ∷ []))
more-digits n ds h i =
    let some : 0 < n / 10 = omega arith in
    record {
      first = i.first;
      more = i.more ++ (48 + n % 10) ∷ [];
      is = ap (λ (l : List ℕ). l ++ (48 + n % 10) ∷ []) i.is;
      digit = i.digit;
      all = all-push is_digit i.more (48 + n % 10) i.all (digit-is (n % 10) (omega arith));
      led = ((λ p. i.led.0 some), λ e. absurd (omega arith));
      value = value-push 0 ds (48 + n % 10) ∙ rw i.value (omega arith);
    }

pub decimal_is : (n : ℕ) → n < 2 ^ 64 → IsNumber n (decimal n)
decimal_is n h = decimal_by_steps IsNumber one-digit more-digits n h

digit_letter : (b : ℕ) → is_digit b ≡ true → is_letter b ≡ false
digit_letter b h = grind (arith, nat_tests)

digit_space : (b : ℕ) → is_digit b ≡ true → is_space b ≡ false
digit_space b h = grind (arith, nat_tests)

digit_bad : (b : ℕ) → is_digit b ≡ true → is_bad b ≡ false
digit_bad b h = grind (arith, nat_tests)

not_digit : (b : ℕ) → is_word_byte b ≡ false → is_digit b ≡ false
not_digit b h = grind (arith, nat_tests)

not_u : (b : ℕ) → is_word_byte b ≡ false → (b == 117) ≡ false
not_u b h = grind (arith, nat_tests)

not_l : (b : ℕ) → is_word_byte b ≡ false → (b == 108) ≡ false
not_l b h = grind (arith, nat_tests)

-- the suffix is the one that is written
suffix-is : (s : Suffix) (r : List ℕ) → first_is is_word_byte r ≡ false → suffix_at (suffix_text s ++ r) ≡ s
suffix-is Plain [] h = refl
suffix-is Plain (b ∷ []) h = rw (not_u b h, not_l b h) refl
suffix-is Plain (b ∷ c ∷ r) h = rw (not_u b h, not_l b h) refl
suffix-is U [] h = refl
suffix-is U (b ∷ r) h = rw (not_l b h) refl
suffix-is L [] h = refl
suffix-is L (b ∷ r) h = refl
suffix-is Ul r h = refl

suffix-stops : (s : Suffix) (r : List ℕ) → first_is is_word_byte r ≡ false → first_is is_digit (suffix_text s ++ r) ≡ false
suffix-stops Plain [] h = refl
suffix-stops Plain (b ∷ r) h = not_digit b h
suffix-stops U r h = refl
suffix-stops L r h = refl
suffix-stops Ul r h = refl

suffix-length : (s : Suffix) → length (suffix_text s) ≡ suffix_len s
suffix-length Plain = refl
suffix-length U = refl
suffix-length L = refl
suffix-length Ul = refl

and-false : (b : Bool) → (b && false) ≡ false
and-false true = refl
and-false false = refl

no-zero : (n b : ℕ) (bs : List ℕ) → (0 < n → 48 < b) × (n ≡ 0 → bs ≡ []) → (b == 48 && nat_lt 0 (length bs)) ≡ false
no-zero zero b bs led = rw (led.1 refl) (and-false (b == 48))
no-zero (suc n) b bs led = let h : 48 < b = led.0 (omega arith) in let e : (b == 48) ≡ false = grind (arith, nat_tests) in rw e refl

number-piece : (n b : ℕ) (bs tail : List ℕ) (s : Suffix) → is_digit b ≡ true → AllTrue is_digit bs → first_is is_digit tail ≡ false → (b == 48 && nat_lt 0 (length bs)) ≡ false → value_of (b ∷ bs) ≡ n → n < 2 ^ 64 → suffix_at tail ≡ s
    → Whole (Number (Some n) s) (length bs + suffix_len s) ≡ piece_at b (bs ++ tail)
unfolding piece_at number_at
number-piece n b bs tail s digit all stop led value fits suffix =
    rw (digit_bad b digit, digit_space b digit, digit_letter b digit, digit, prefix-all is_digit bs tail all stop, take_at bs tail (length bs) refl, drop_at bs tail (length bs) refl, suffix, led, value, lt-ltb n (2 ^ 64) fits) refl

drop-both : (bs ss r : List ℕ) → drop (length bs + length ss) (bs ++ (ss ++ r)) ≡ r
drop-both bs ss r = ap (drop (length bs + length ss)) (sym (append_assoc bs ss r)) ∙ drop_at (bs ++ ss) r (length bs + length ss) (length-append bs ss)

pub number : (line n : ℕ) (s : Suffix) (r : List ℕ) → n < 2 ^ 64 → first_is is_word_byte r ≡ false → tokens_from line 0 (decimal n ++ (suffix_text s ++ r)) ≡ placed (Number (Some n) s) line ∷ tokens_from line 0 r
number line n s r fits stop =
    let d = decimal_is n fits in
    let tail = suffix_text s ++ r in
    let piece = number-piece n d.first d.more tail s d.digit d.all (suffix-stops s r stop) (no-zero n d.first d.more d.led) (sym (ap value_of d.is) ∙ d.value) fits (suffix-is s r stop) in
    at_token line d.first (length d.more + suffix_len s) (Number (Some n) s) (d.more ++ tail) (decimal n ++ tail) (ap (λ (l : List ℕ). l ++ tail) d.is) piece
    ∙ ap (λ (l : List ℕ). placed (Number (Some n) s) line ∷ tokens_from line 0 l) (ap (λ (k : ℕ). drop (length d.more + k) (d.more ++ tail)) (sym (suffix-length s)) ∙ drop-both d.more (suffix_text s) r)
