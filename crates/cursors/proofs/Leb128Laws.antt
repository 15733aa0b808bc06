-- The spellings of numbers: each number has one, and none begins another.
use Rattle.std.proofs.Common.{◌≡◌, ℕ, zero, suc, ◌+◌, ◌*◌, ◌/◌, ◌%◌, ◌^◌, ◌<◌, ◌≤◌, cond, ltb, List, [], ◌∷◌, ◌++◌, length, get_or, take, Option, Some, None, refl, sym, ap, subst, ◌∙◌, arith, ◌⊎◌, inl, inr}
use Rattle.std.specs.Prelude.{option_map}
use Rattle.std.proofs.lemmas.Bool.{lt-ltb, le-ltb, cases_lt}
use Rattle.cursors.specs.Leb128.{IsUleb, uleb_of, uleb_by, group_len, number_of}

abbrev pub IsBytes : List ℕ → Type 0
IsBytes bytes = (i : ℕ) → get_or bytes i 0 < 256

-- 128 ^ k
abbrev pub room : ℕ → ℕ
room zero = 1
room (suc k) = 128 * room k

goes_on : (b : ℕ) (bs : List ℕ) (n high : ℕ) → 128 ≤ b → b < 256 → 0 < high → n + 128 ≡ b + 128 * high → IsUleb bs high → IsUleb (b ∷ bs) n
goes_on b [] n high ge lt some e h = absurd h
goes_on b (c ∷ bs) n high ge lt some e h = (ge, lt, high, some, e, h)

one_byte : (n : ℕ) (more : List ℕ) → n < 128 → IsUleb (cond (ltb n 128) (n ∷ []) more) n
one_byte n more small = rw (lt-ltb n 128 small) (small, refl)

by_is : (k n : ℕ) → n < room (suc k) → IsUleb (uleb_by (suc k) n) n
by_is zero n lt = one_byte n ((128 + n % 128) ∷ []) (omega arith)
by_is (suc k) n lt =
    elim (cases_lt n 128) [
      | inl small ↦ one_byte n ((128 + n % 128) ∷ uleb_by (suc k) (n / 128)) small
      | inr large ↦ rw (le-ltb n 128 large) (goes_on (128 + n % 128) (uleb_by (suc k) (n / 128)) n (n / 128) (omega arith) (omega arith) (omega arith) (omega arith) (by_is k (n / 128) (omega arith)))
    ]

pub uleb_is : (n : ℕ) → n < 2 ^ 64 → IsUleb (uleb_of n) n
unfolding uleb_of
uleb_is n lt = by_is 9 n (omega arith)

-- a number has one spelling
pub one_spelling : (a b : List ℕ) (n : ℕ) → IsUleb a n → IsUleb b n → a ≡ b
one_spelling [] b n h k = absurd h
one_spelling (x ∷ a) [] n h k = absurd k
one_spelling (x ∷ []) (y ∷ []) n h k = ap (λ (z : ℕ). z ∷ []) (sym h.1 ∙ k.1)
one_spelling (x ∷ []) (y ∷ c ∷ b) n h k = absurd (omega (arith, h.0, h.1, k.0, k.3, k.4))
one_spelling (x ∷ c ∷ a) (y ∷ []) n h k = absurd (omega (arith, k.0, k.1, h.0, h.3, h.4))
one_spelling (x ∷ c ∷ a) (y ∷ d ∷ b) n h k =
    let e : x ≡ y = omega (arith, h.0, h.1, h.4, k.0, k.1, k.4) in
    let high : h.2 ≡ k.2 = omega (arith, h.0, h.1, h.4, k.0, k.1, k.4) in
    let more : (c ∷ a) ≡ (d ∷ b) = one_spelling (c ∷ a) (d ∷ b) k.2 (subst (λ z. IsUleb (c ∷ a) z) high h.5) k.5 in
    cc

-- no spelling begins another
pub one_form : (a b x y : List ℕ) (m n : ℕ) → IsUleb a m → IsUleb b n → a ++ x ≡ b ++ y → (a ≡ b) × (m ≡ n)
one_form [] b x y m n h k e = absurd h
one_form (p ∷ a) [] x y m n h k e = absurd k
one_form (p ∷ []) (q ∷ []) x y m n h k e = let same : p ≡ q = cc in (cc, h.1 ∙ same ∙ sym k.1)
one_form (p ∷ []) (q ∷ d ∷ b) x y m n h k e = let same : p ≡ q = cc in absurd (omega (arith, h.0, k.0))
one_form (p ∷ c ∷ a) (q ∷ []) x y m n h k e = let same : p ≡ q = cc in absurd (omega (arith, h.0, k.0))
one_form (p ∷ c ∷ a) (q ∷ d ∷ b) x y m n h k e =
    let same : p ≡ q = cc in
    let tails : (c ∷ a) ++ x ≡ (d ∷ b) ++ y = cc in
    let more = one_form (c ∷ a) (d ∷ b) x y h.2 k.2 h.5 k.5 tails in
    (let t : (c ∷ a) ≡ (d ∷ b) = more.0 in cc, let t : h.2 ≡ k.2 = more.1 in omega (arith, h.4, k.4))

-- ---- what is read is spelled so

abbrev some : ℕ → Option ℕ
some n = Some n

mapped : (o : Option ℕ) (k : ℕ) → option_map (λ n. n + 1) o ≡ Some k → (j : ℕ) × (o ≡ Some j) × (k ≡ suc j)
mapped None k e = absurd cc
mapped (Some j) k e = (j, refl, let f : j + 1 ≡ k = cc in omega arith)

one_is : (j k : ℕ) → some j ≡ some k → k ≡ j
one_is j k e = cc

small_group : (b : ℕ) (o : Option ℕ) (k : ℕ) → b < 128 → cond (ltb b 128) (Some 1) o ≡ Some k → k ≡ 1
small_group b o k small e = one_is 1 k (rw (lt-ltb b 128 small) at e)

large_group : (b : ℕ) (o : Option ℕ) (k : ℕ) → 128 ≤ b → cond (ltb b 128) (Some 1) (option_map (λ n. n + 1) o) ≡ Some k → (j : ℕ) × (o ≡ Some j) × (k ≡ suc j)
large_group b o k large e = mapped o k (rw (le-ltb b 128 large) at e)

pub no_empty : (bytes : List ℕ) → group_len bytes ≡ Some 0 → ⊥
no_empty [] e = cc
no_empty (b ∷ bs) e =
    elim (cases_lt b 128) [
      | inl small ↦ let f = small_group b (option_map (λ n. n + 1) (group_len bs)) 0 small e in omega arith
      | inr large ↦ let f = large_group b (group_len bs) 0 large e in omega (arith, f.2)
    ]

group_tail : (b : ℕ) (bs : List ℕ) (k : ℕ) → 128 ≤ b → group_len (b ∷ bs) ≡ Some (suc k) → group_len bs ≡ Some k
group_tail b bs k large e =
    let f = large_group b (group_len bs) (suc k) large e in
    let same : f.0 ≡ k = omega (arith, f.2) in
    f.1 ∙ ap some same

-- a group whose last byte isn't 0 spells more than 0
some_group : (bytes : List ℕ) (k : ℕ) → group_len bytes ≡ Some (suc k) → 0 < get_or bytes k 0 → 0 < number_of (take (suc k) bytes)
some_group [] k e last = absurd cc
some_group (b ∷ bs) zero e last =
    elim (cases_lt b 128) [
      | inl small ↦ omega arith
      | inr large ↦ absurd (no_empty bs (group_tail b bs 0 large e))
    ]
some_group (b ∷ bs) (suc k) e last =
    elim (cases_lt b 128) [
      | inl small ↦ absurd (omega (arith, small_group b (option_map (λ n. n + 1) (group_len bs)) (suc (suc k)) small e))
      | inr large ↦ omega (arith, some_group bs k (group_tail b bs (suc k) large e) last)
    ]

-- the bytes of a group in shortest form spell its number
pub group_is : (bytes : List ℕ) (k : ℕ) → IsBytes bytes → group_len bytes ≡ Some (suc k) → (0 < k → 0 < get_or bytes k 0) → IsUleb (take (suc k) bytes) (number_of (take (suc k) bytes))
group_is [] k fits e last = absurd cc
group_is (b ∷ bs) zero fits e last =
    elim (cases_lt b 128) [
      | inl small ↦ (small, omega arith)
      | inr large ↦ absurd (no_empty bs (group_tail b bs 0 large e))
    ]
group_is (b ∷ bs) (suc k) fits e last =
    elim (cases_lt b 128) [
      | inl small ↦ absurd (omega (arith, small_group b (option_map (λ n. n + 1) (group_len bs)) (suc (suc k)) small e))
      | inr large ↦
          let tail = group_tail b bs (suc k) large e in
          let high = some_group bs k tail (last (omega arith)) in
          let rest = group_is bs k (λ i. fits (suc i)) tail (λ _. last (omega arith)) in
          goes_on b (take (suc k) bs) (number_of (take (suc (suc k)) (b ∷ bs))) (number_of (take (suc k) bs)) large (fits 0) high (omega (arith, fits 0)) rest
    ]

-- ---- what is spelled is read

pub group_of : (text rest : List ℕ) (n : ℕ) → IsUleb text n → group_len (text ++ rest) ≡ Some (length text)
group_of [] rest n h = absurd h
group_of (b ∷ []) rest n h = rw (lt-ltb b 128 h.0) refl
group_of (b ∷ c ∷ text) rest n h = rw (le-ltb b 128 h.0, group_of (c ∷ text) rest h.2 h.5) (ap some (omega arith))

pub number_is : (text : List ℕ) (n : ℕ) → IsUleb text n → number_of text ≡ n
number_is [] n h = absurd h
number_is (b ∷ []) n h = omega (arith, h.0, h.1)
number_is (b ∷ c ∷ text) n h = omega (arith, h.0, h.1, h.4, number_is (c ∷ text) h.2 h.5)

pub some_last : (text : List ℕ) (n k : ℕ) → IsUleb text n → length text ≡ suc k → (0 < k) ⊎ (0 < n) → 0 < get_or text k 0
some_last [] n k h len some = absurd h
some_last (b ∷ []) n zero h len some = elim some [ inl long ↦ absurd (omega arith) | inr more ↦ omega (arith, h.1) ]
some_last (b ∷ []) n (suc k) h len some = absurd (omega arith)
some_last (b ∷ c ∷ text) n zero h len some = absurd (omega arith)
some_last (b ∷ c ∷ text) n (suc k) h len some = some_last (c ∷ text) h.2 k h.5 (omega arith) (inr h.3)

pub some_bytes : (text : List ℕ) (n : ℕ) → IsUleb text n → 0 < length text
some_bytes [] n h = absurd h
some_bytes (b ∷ text) n h = omega arith

-- ---- a byte at a time

pub put_more : (rest : ℕ) (tail : List ℕ) → 128 ≤ rest → IsUleb tail (rest / 128) → IsUleb ((128 + rest % 128) ∷ tail) rest
put_more rest tail large h = goes_on (128 + rest % 128) tail rest (rest / 128) (omega arith) (omega arith) (omega arith) (omega arith) h

pub put_last : (text : List ℕ) (n : ℕ) → n < 2 ^ 64 → IsUleb text n → text ≡ uleb_of n
put_last text n lt h = one_spelling text (uleb_of n) n h (uleb_is n lt)

-- after one byte there is room for the bytes that are left
pub room_next : (rest len : ℕ) → 128 ≤ rest → (k : ℕ) × (len + suc k ≡ 10) × (rest < room (suc k)) → (k : ℕ) × (len + 1 + suc k ≡ 10) × (rest / 128 < room (suc k))
room_next rest len large (zero, whole, lt) = absurd (omega arith)
room_next rest len large (suc k, whole, lt) = (k, omega arith, omega arith)
