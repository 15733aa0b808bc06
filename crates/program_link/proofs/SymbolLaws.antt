-- The symbols of an image are all different: what stands behind the first `.` of a symbol tells them apart.
use Rattle.std.proofs.Common.{◌≡◌, ℕ, ◌+◌, ◌^◌, ◌<◌, zero, suc, Bool, true, false, true≢false, cond, List, [], ◌∷◌, ◌++◌, length, get_or, drop, ◌%◌, refl, sym, ap, ap₂, ◌∙◌, arith}
use Rattle.std.specs.Prelude.{◌==◌, nat_eq, nat_le, not, ◌&&◌, ◌||◌, codes, decimal}
use Rattle.std.specs.List.{AllByRecursion, list_all}
use Rattle.std.specs.Str.{bytes_eq}
use Rattle.std.specs.Str.Parse.{digits_value}
use Rattle.std.proofs.lemmas.Bool.Decides.{nat_tests}
use Rattle.std.proofs.lemmas.Fmt.{decimal_is_IsNumeral, decimal_by_steps}
use Rattle.std.proofs.lemmas.Slice.Eq.{bytes_eq-Decides}
use Rattle.gimple_ir.specs.Names.{is_among, is_identifier, is_letter, is_digit, begins_with_letter, keywords, repeats, repeats_after}
use Rattle.func_summary.proofs.Checked.{both-true}
use Rattle.ipa_plan.specs.Rules.{constant_suffix, reduced_suffix, symbol_of}
use Rattle.program_link.specs.Known.{symbol_by}

-- ---- different names

unfoldable pub Apart : List (List ℕ) → Type 0
Apart [] = Unit {0}
Apart (name ∷ names) = AllByRecursion (λ n. name ≡ n → ⊥) names × Apart names

neither : (b c : Bool) → (b || c) ≡ false → (b ≡ false) × (c ≡ false)
neither true c h = cc
neither false c h = (refl, h)

either_none : (b c : Bool) → b ≡ false → c ≡ false → (b || c) ≡ false
either_none b c e h = rw (e, h) refl

other_name : (b : Bool) (name n : List ℕ) → bytes_eq n name ≡ b → (name ≡ n → ⊥) → bytes_eq n name ≡ false
other_name true name n e differ = absurd (differ (sym ((bytes_eq-Decides n name).0 e)))
other_name false name n e differ = e

among_push : (before : List (List ℕ)) (name n : List ℕ) → is_among before n ≡ false → (name ≡ n → ⊥) → is_among (before ++ name ∷ []) n ≡ false
among_push [] name n none differ = either_none (bytes_eq n name) false (other_name (bytes_eq n name) name n refl differ) refl
among_push (b ∷ before) name n none differ =
    let both = neither (bytes_eq n b) (is_among before n) none in
    either_none (bytes_eq n b) (is_among (before ++ name ∷ []) n) both.0 (among_push before name n both.1 differ)

all_push : (before names : List (List ℕ)) (name : List ℕ) → AllByRecursion (λ n. is_among before n ≡ false) names → AllByRecursion (λ n. name ≡ n → ⊥) names
    → AllByRecursion (λ n. is_among (before ++ name ∷ []) n ≡ false) names
all_push before [] name none differ = tt
all_push before (n ∷ names) name none differ = (among_push before name n none.0 differ.0, all_push before names name none.1 differ.1)

once_from : (before names : List (List ℕ)) → AllByRecursion (λ n. is_among before n ≡ false) names → Apart names → repeats_after before names ≡ false
unfolding Apart
once_from before [] none apart = refl
once_from before (name ∷ names) none apart =
    either_none (is_among before name) (repeats_after (before ++ name ∷ []) names) none.0
    (once_from (before ++ name ∷ []) names (all_push before names name none.1 apart.0) apart.1)

among_none : (names : List (List ℕ)) → AllByRecursion (λ n. is_among [] n ≡ false) names
among_none [] = tt
among_none (name ∷ names) = (refl, among_none names)

pub apart_once : (names : List (List ℕ)) → Apart names → repeats names ≡ false
apart_once names apart = once_from [] names (among_none names) apart

-- ---- two lists behind one another

joined_by : (name : List ℕ) (xs ys : List (List ℕ)) → AllByRecursion (λ n. name ≡ n → ⊥) xs → AllByRecursion (λ n. name ≡ n → ⊥) ys → AllByRecursion (λ n. name ≡ n → ⊥) (xs ++ ys)
joined_by name [] ys h g = g
joined_by name (x ∷ xs) ys h g = (h.0, joined_by name xs ys h.1 g)

pub apart_append : (xs ys : List (List ℕ)) → Apart xs → Apart ys → AllByRecursion (λ x. AllByRecursion (λ y. x ≡ y → ⊥) ys) xs → Apart (xs ++ ys)
unfolding Apart
apart_append [] ys h g both = g
apart_append (x ∷ xs) ys h g both = (joined_by x xs ys h.0 both.0, apart_append xs ys h.1 g both.1)

-- ---- behind the first `.`

pub behind : List ℕ → List ℕ
behind [] = []
behind (byte ∷ bytes) = cond (nat_eq byte 46) bytes (behind bytes)

word_by : (byte : ℕ) → (is_letter byte || is_digit byte) ≡ true → nat_eq byte 46 ≡ false
word_by byte h = grind (arith, nat_tests)

pub behind_word : (word rest : List ℕ) → list_all (λ byte. is_letter byte || is_digit byte) word ≡ true → behind (word ++ 46 ∷ rest) ≡ rest
unfolding behind
behind_word [] rest h = refl
behind_word (byte ∷ word) rest h =
    let both = both-true (is_letter byte || is_digit byte) (list_all (λ byte. is_letter byte || is_digit byte) word) h in
    ap (λ (b : Bool). cond b (word ++ 46 ∷ rest) (behind (word ++ 46 ∷ rest))) (word_by byte both.0) ∙ behind_word word rest both.1

words_only : (name : List ℕ) → is_identifier name ≡ true → list_all (λ byte. is_letter byte || is_digit byte) name ≡ true
words_only name h =
    let word = list_all (λ byte. is_letter byte || is_digit byte) name in
    let first = both-true (begins_with_letter name && word && nat_le (length name) 255) (not (is_among keywords name)) h in
    let second = both-true (begins_with_letter name && word) (nat_le (length name) 255) first.0 in
    (both-true (begins_with_letter name) word second.0).1

-- of a version: the digits of its function's number, and the suffixes
pub behind_version : (name : List ℕ) (f n : ℕ) (r : Bool) → is_identifier name ≡ true → behind (symbol_of name f n r) ≡ decimal f ++ (constant_suffix n ++ reduced_suffix r)
behind_version name f n r h = behind_word name (decimal f ++ (constant_suffix n ++ reduced_suffix r)) (words_only name h)

pub behind_array : (name : List ℕ) (n : ℕ) → is_identifier name ≡ true → behind (symbol_by name (codes ".a") n) ≡ 97 ∷ decimal n
behind_array name n h = behind_word name (97 ∷ decimal n) (words_only name h)

-- ---- numbers in decimal

pub same_number : (n k : ℕ) → n < 2 ^ 64 → k < 2 ^ 64 → decimal n ≡ decimal k → n ≡ k
same_number n k h g e = sym (decimal_is_IsNumeral n h).1 ∙ ap (digits_value 10) e ∙ (decimal_is_IsNumeral k g).1

begins_low : (n : ℕ) (rest : List ℕ) → n < 2 ^ 64 → (0 < length (decimal n ++ rest)) × (get_or (decimal n ++ rest) 0 0 < 58)
begins_low n rest h =
    front (decimal n)
    (decimal_by_steps (λ k ds. (0 < length ds) × (get_or ds 0 0 < 58)) (λ k lt. (omega arith, omega (arith, lt))) (λ k ds least more. first_kept ds (48 + k % 10) more) n h)
  where
    first_kept : (ds : List ℕ) (d : ℕ) → (0 < length ds) × (get_or ds 0 0 < 58) → (0 < length (ds ++ d ∷ [])) × (get_or (ds ++ d ∷ []) 0 0 < 58)
    first_kept [] d h = absurd (omega (arith, h.0))
    first_kept (x ∷ ds) d h = (omega arith, h.1)

    front : (ds : List ℕ) → (0 < length ds) × (get_or ds 0 0 < 58) → (0 < length (ds ++ rest)) × (get_or (ds ++ rest) 0 0 < 58)
    front [] h = absurd (omega (arith, h.0))
    front (x ∷ ds) h = (omega arith, h.1)

no_letter : (n : ℕ) (rest more : List ℕ) → n < 2 ^ 64 → decimal n ++ rest ≡ 97 ∷ more → ⊥
no_letter n rest more h e = omega (arith, (begins_low n rest h).1, ap (λ (l : List ℕ). get_or l 0 0) e)

not_empty : (n : ℕ) (rest : List ℕ) → n < 2 ^ 64 → decimal n ++ rest ≡ [] → ⊥
not_empty n rest h e = omega (arith, (begins_low n rest h).0, ap length e)

-- ---- digits in front

abbrev Digits : List ℕ → Type 0
Digits ds = AllByRecursion (λ d. is_digit d ≡ true) ds

-- what begins with no digit, or is empty
abbrev NoDigit : List ℕ → Type 0
NoDigit rest = is_digit (get_or rest 0 0) ≡ false

digits_more : (ds : List ℕ) (d : ℕ) → Digits ds → is_digit d ≡ true → Digits (ds ++ d ∷ [])
digits_more [] d h is = (is, tt)
digits_more (x ∷ ds) d h is = (h.0, digits_more ds d h.1 is)

digit_of : (k : ℕ) → k < 10 → is_digit (48 + k) ≡ true
digit_of k lt = grind (arith, nat_tests)

digits_only : (n : ℕ) → n < 2 ^ 64 → Digits (decimal n)
digits_only n h =
    decimal_by_steps (λ k ds. Digits ds) (λ k lt. (digit_of k lt, tt)) (λ k ds least more. digits_more ds (48 + k % 10) more (digit_of (k % 10) (omega arith))) n h

-- the digits in front are the same, and so is what stands behind them
digits_apart : (xs ys r s : List ℕ) → Digits xs → Digits ys → NoDigit r → NoDigit s → xs ++ r ≡ ys ++ s → (xs ≡ ys) × (r ≡ s)
digits_apart [] [] r s h g p q e = (refl, e)
digits_apart [] (y ∷ ys) r s h g p q e = absurd (true≢false (sym g.0 ∙ sym (ap (λ (l : List ℕ). is_digit (get_or l 0 0)) e) ∙ p))
digits_apart (x ∷ xs) [] r s h g p q e = absurd (true≢false (sym h.0 ∙ ap (λ (l : List ℕ). is_digit (get_or l 0 0)) e ∙ q))
digits_apart (x ∷ xs) (y ∷ ys) r s h g p q e =
    let rest = digits_apart xs ys r s h.1 g.1 p q (ap (λ (l : List ℕ). drop 1 l) e) in
    (ap₂ (λ (z : ℕ) (zs : List ℕ). z ∷ zs) (ap (λ (l : List ℕ). get_or l 0 0) e) rest.0, rest.1)

reduced_no_digit : (r : Bool) → NoDigit (reduced_suffix r)
reduced_no_digit true = refl
reduced_no_digit false = refl

not_first : (n : ℕ) → (suc n == 0) ≡ false
not_first n = grind (arith, nat_tests)

later_suffix : (n : ℕ) → constant_suffix (suc n) ≡ codes ".constprop." ++ decimal (suc n)
later_suffix n = ap (λ (b : Bool). cond b [] (codes ".constprop." ++ decimal (suc n))) (not_first n)

suffixes_no_digit : (n : ℕ) (r : Bool) → NoDigit (constant_suffix n ++ reduced_suffix r)
suffixes_no_digit zero r = reduced_no_digit r
suffixes_no_digit (suc n) r = ap (λ (xs : List ℕ). is_digit (get_or (xs ++ reduced_suffix r) 0 0)) (later_suffix n)

-- a first version has no suffix of a constant
first_alone : (k : ℕ) (r : Bool) (rest : List ℕ) → reduced_suffix r ≡ codes ".constprop." ++ rest → ⊥
first_alone k true rest e = omega (arith, ap (λ (l : List ℕ). get_or l 1 0) e)
first_alone k false rest e = omega (arith, ap length e)

same_suffix : (n k : ℕ) (r s : Bool) → n < 2 ^ 64 → k < 2 ^ 64 → constant_suffix n ++ reduced_suffix r ≡ constant_suffix k ++ reduced_suffix s → n ≡ k
same_suffix zero zero r s h g e = refl
same_suffix zero (suc k) r s h g e = absurd (first_alone k r (decimal (suc k) ++ reduced_suffix s) (e ∙ ap (λ (xs : List ℕ). xs ++ reduced_suffix s) (later_suffix k)))
same_suffix (suc n) zero r s h g e = absurd (first_alone n s (decimal (suc n) ++ reduced_suffix r) (sym e ∙ ap (λ (xs : List ℕ). xs ++ reduced_suffix r) (later_suffix n)))
same_suffix (suc n) (suc k) r s h g e =
    let whole = sym (ap (λ (xs : List ℕ). xs ++ reduced_suffix r) (later_suffix n)) ∙ e ∙ ap (λ (xs : List ℕ). xs ++ reduced_suffix s) (later_suffix k) in
    let same : decimal (suc n) ++ reduced_suffix r ≡ decimal (suc k) ++ reduced_suffix s = ap (λ (l : List ℕ). drop 11 l) whole in
    let parts = digits_apart (decimal (suc n)) (decimal (suc k)) (reduced_suffix r) (reduced_suffix s) (digits_only (suc n) h) (digits_only (suc k) g) (reduced_no_digit r) (reduced_no_digit s) same in
    same_number (suc n) (suc k) h g parts.0

-- ---- symbols

-- a symbol tells the function and the number of its version
pub same_version : (a b : List ℕ) (f g n k : ℕ) (r s : Bool) → is_identifier a ≡ true → is_identifier b ≡ true → f < 2 ^ 64 → g < 2 ^ 64 → n < 2 ^ 64 → k < 2 ^ 64
    → symbol_of a f n r ≡ symbol_of b g k s → (f ≡ g) × (n ≡ k)
same_version a b f g n k r s named also hf hg hn hk e =
    let first = constant_suffix n ++ reduced_suffix r in
    let second = constant_suffix k ++ reduced_suffix s in
    let same = sym (behind_version a f n r named) ∙ ap behind e ∙ behind_version b g k s also in
    let parts = digits_apart (decimal f) (decimal g) first second (digits_only f hf) (digits_only g hg) (suffixes_no_digit n r) (suffixes_no_digit k s) same in
    (same_number f g hf hg parts.0, same_suffix n k r s hn hk parts.1)

pub arrays_differ : (a b : List ℕ) (n k : ℕ) → is_identifier a ≡ true → is_identifier b ≡ true → n < 2 ^ 64 → k < 2 ^ 64 → (n ≡ k → ⊥)
    → symbol_by a (codes ".a") n ≡ symbol_by b (codes ".a") k → ⊥
arrays_differ a b n k named also h g differ e =
    let same = sym (behind_array a n named) ∙ ap behind e ∙ behind_array b k also in
    differ (same_number n k h g (ap (λ (l : List ℕ). drop 1 l) same))

pub kinds_differ : (a b : List ℕ) (f n k : ℕ) (r : Bool) → is_identifier a ≡ true → is_identifier b ≡ true → f < 2 ^ 64
    → symbol_of a f n r ≡ symbol_by b (codes ".a") k → ⊥
kinds_differ a b f n k r named also h e =
    no_letter f (constant_suffix n ++ reduced_suffix r) (decimal k) h (sym (behind_version a f n r named) ∙ ap behind e ∙ behind_array b k also)

pub stubs_differ : (codes "__builtin_putchar" ≡ codes "__builtin_getchar") → ⊥
stubs_differ e = omega (arith, ap (λ (l : List ℕ). get_or l 10 0) e)

pub putchar_no_version : (a : List ℕ) (f n : ℕ) (r : Bool) → is_identifier a ≡ true → f < 2 ^ 64 → codes "__builtin_putchar" ≡ symbol_of a f n r → ⊥
unfolding behind
putchar_no_version a f n r named h e = not_empty f (constant_suffix n ++ reduced_suffix r) h (sym (ap behind e ∙ behind_version a f n r named))

pub getchar_no_version : (a : List ℕ) (f n : ℕ) (r : Bool) → is_identifier a ≡ true → f < 2 ^ 64 → codes "__builtin_getchar" ≡ symbol_of a f n r → ⊥
unfolding behind
getchar_no_version a f n r named h e = not_empty f (constant_suffix n ++ reduced_suffix r) h (sym (ap behind e ∙ behind_version a f n r named))

pub putchar_no_array : (a : List ℕ) (n : ℕ) → is_identifier a ≡ true → codes "__builtin_putchar" ≡ symbol_by a (codes ".a") n → ⊥
unfolding behind
putchar_no_array a n named e = omega (arith, ap length (ap behind e ∙ behind_array a n named))

pub getchar_no_array : (a : List ℕ) (n : ℕ) → is_identifier a ≡ true → codes "__builtin_getchar" ≡ symbol_by a (codes ".a") n → ⊥
unfolding behind
getchar_no_array a n named e = omega (arith, ap length (ap behind e ∙ behind_array a n named))
