-- Bytes of memory as parts of lists, and the numbers that they spell.
use Rattle.std.proofs.Common.{◌≡◌, ℕ, zero, suc, ◌+◌, ◌-◌, ◌*◌, ◌/◌, ◌%◌, ◌^◌, ◌<◌, ◌≤◌, ◌≢◌, ◌⊎◌, inl, inr, true, List, [], ◌∷◌, length, get_or, take, drop, length-take-le, get_or-take, refl, sym, ap, ◌∙◌, arith}
use Rattle.std.specs.Prelude.{IsTrue, nat_le, nat_lt, ◌==◌, ◌&&◌, ◌||◌, if◌then◌else◌, slice_index, slice_set}
use Rattle.std.proofs.Math.Seq.{drop-cons}
use Rattle.std.proofs.lemmas.Bool.{cases_lt, cases_eq, le-leb, lt-leb, lt-ltb, le-ltb, and_from, and_left, and_right, cond-true, cond-false}
use Rattle.std.proofs.lemmas.List.{get_or-set_same, get_or-set_other, drop-drop}
use Rattle.std.proofs.lemmas.Bool.Decides.{nat_tests}
use Rattle.rv64_meaning.specs.Loading.{memory_of}
use Rattle.std.proofs.lemmas.Nat.{pow-add, shr-shr}
use Rattle.rv64_meaning.specs.Machine.{Segments, load, store, store_bytes, bytes_from, in_text, fetch}
use Rattle.rv64_isa.specs.Words.{instr_of}
use Rattle.rv64_meaning.specs.Bytes.{number_of}

-- a load is the number in the bytes
pub load-number : (n : ℕ) (mem : ℕ → ℕ) (a : ℕ) → load n mem a ≡ number_of (bytes_from n mem a)
unfolding load bytes_from number_of
load-number zero mem a = refl
load-number (suc n) mem a = ap (λ x. mem a + 256 * x) (load-number n mem (a + 1))

-- memory that holds a list from an address has its parts there
pub bytes_of_list : (n a k : ℕ) (mem : ℕ → ℕ) (xs : List ℕ) → k + n ≤ length xs → ((q : ℕ) → q < n → mem (a + q) ≡ get_or xs (k + q) 0) → bytes_from n mem a ≡ take n (drop k xs)
unfolding bytes_from
bytes_of_list zero a k mem xs h at = refl
bytes_of_list (suc n) a k mem xs h at =
    let first : a + 0 ≡ a = omega arith in
    let place : k + 0 ≡ k = omega arith in
    let here : mem a ≡ get_or xs k 0 = ap mem (sym first) ∙ at 0 (omega arith) ∙ ap (λ i. get_or xs i 0) place in
    let rest = bytes_of_list n (a + 1) (suc k) mem xs (omega arith) (λ q l. let e : a + 1 + q ≡ a + suc q = omega arith in let f : k + suc q ≡ suc k + q = omega arith in ap mem e ∙ at (suc q) (omega arith) ∙ ap (λ i. get_or xs i 0) f) in
    ap (λ x. x ∷ bytes_from n mem (a + 1)) here ∙ ap (λ ys. get_or xs k 0 ∷ ys) rest ∙ sym (ap (take (suc n)) (drop-cons xs k 0 (omega arith)))

-- one more byte in front of a number
pub number_none : number_of [] ≡ 0
unfolding number_of
number_none = refl

pub number_more : (xs : List ℕ) (i value byte : ℕ) → i < length xs → value ≡ number_of (drop (suc i) xs) → byte ≡ get_or xs i 0 → value * 256 + byte ≡ number_of (drop i xs)
unfolding number_of
number_more xs i value byte h v b =
    let flip : value * 256 + byte ≡ byte + 256 * value = omega arith in
    flip ∙ ap (λ x. x + 256 * value) b ∙ ap (λ x. get_or xs i 0 + 256 * x) v ∙ sym (ap number_of (drop-cons xs i 0 h))

pub value_fits : (v k byte : ℕ) → v < 2 ^ (8 * k) → byte < 256 → v * 256 + byte < 2 ^ (8 * suc k)
value_fits v k byte h b =
    let size : 8 * k + 8 ≡ 8 * suc k = omega arith in
    let e = ap (λ n. 2 ^ n) (sym size) ∙ pow-add 2 (8 * k) 8 in
    omega (arith, e)

pub length-bytes_from : (n : ℕ) (mem : ℕ → ℕ) (a : ℕ) → length (bytes_from n mem a) ≡ n
unfolding bytes_from
length-bytes_from zero mem a = refl
length-bytes_from (suc n) mem a = ap suc (length-bytes_from n mem (a + 1))

-- bytes of the data segment and of the text
pub memory_data : (text bytes : List ℕ) (start a q : ℕ) → start ≤ a → memory_of text start bytes (a + q) ≡ get_or bytes (a - start + q) 0
memory_data text bytes start a q h =
    let e : a + q - start ≡ a - start + q = omega arith in
    cond-true _ _ _ (le-leb start (a + q) (omega arith)) ∙ ap (λ i. get_or bytes i 0) e

pub memory_text : (text bytes : List ℕ) (start a q : ℕ) → 65536 ≤ a → a + q < start → memory_of text start bytes (a + q) ≡ get_or text (a - 65536 + q) 0
memory_text text bytes start a q low h =
    let e : a + q - 65536 ≡ a - 65536 + q = omega arith in
    cond-false _ _ _ (lt-leb start (a + q) h) ∙ ap (λ i. get_or text i 0) e

-- what lies in one segment lies in the data segment if it begins there, and else in the text
abbrev Inside : ℕ → ℕ → ℕ → ℕ → ℕ → Type 0
Inside t start d a n = IsTrue ((nat_le 65536 a && nat_le (a + n) (65536 + t)) || (nat_le start a && nat_le (a + n) (start + d)))

pub room_data : (t start d a n : ℕ) → Inside t start d a n → 65536 + t ≤ start → start ≤ a → a - start + n ≤ d
room_data t start d a n h apart low = grind (arith, nat_tests)

pub room_text : (t start d a n : ℕ) → Inside t start d a n → a < start → (65536 ≤ a) × (a - 65536 + n ≤ t)
room_text t start d a n h high = (grind (arith, nat_tests), grind (arith, nat_tests))

pub part_of_data : (text bytes : List ℕ) (start a n : ℕ) → Inside (length text) start (length bytes) a n → 65536 + length text ≤ start → start ≤ a → take n (drop (a - start) bytes) ≡ bytes_from n (memory_of text start bytes) a
part_of_data text bytes start a n h apart low =
    sym (bytes_of_list n a (a - start) (memory_of text start bytes) bytes (room_data (length text) start (length bytes) a n h apart low) (λ q l. memory_data text bytes start a q low))

pub part_of_text : (text bytes : List ℕ) (start a n : ℕ) → Inside (length text) start (length bytes) a n → 65536 + length text ≤ start → a < start → take n (drop (a - 65536) text) ≡ bytes_from n (memory_of text start bytes) a
part_of_text text bytes start a n h apart high =
    let r = room_text (length text) start (length bytes) a n h high in
    sym (bytes_of_list n a (a - 65536) (memory_of text start bytes) text r.1 (λ q l. memory_text text bytes start a q r.0 (omega (arith, r.0, r.1))))

pub range_is : {X : Type 0} (xs : List X) (k n : ℕ) → take (k + n - k) (drop k xs) ≡ take n (drop k xs)
range_is xs k n = let e : k + n - k ≡ n = omega arith in ap (λ i. take i (drop k xs)) e

pub number_of_four : (xs : List ℕ) → length xs ≡ 4 → number_of xs ≡ get_or xs 0 0 + 256 * (get_or xs 1 0 + 256 * (get_or xs 2 0 + 256 * (get_or xs 3 0 + 256 * 0)))
unfolding number_of
number_of_four [] h = omega (arith, h)
number_of_four (a ∷ []) h = omega (arith, h)
number_of_four (a ∷ b ∷ []) h = omega (arith, h)
number_of_four (a ∷ b ∷ c ∷ []) h = omega (arith, h)
number_of_four (a ∷ b ∷ c ∷ d ∷ []) h = refl
number_of_four (a ∷ b ∷ c ∷ d ∷ e ∷ es) h = let x : 4 < length (a ∷ b ∷ c ∷ d ∷ e ∷ es) = omega arith in omega (arith, h, x)

-- memory with n bytes from an address given by their places
abbrev pub placed : (ℕ → ℕ) → ℕ → (ℕ → ℕ) → ℕ → ℕ → ℕ
placed f n mem a q = if nat_le a q && nat_lt q (a + n) then f (q - a) else mem q

placed_in : (f : ℕ → ℕ) (n : ℕ) (mem : ℕ → ℕ) (a q : ℕ) → a ≤ q → q < a + n → placed f n mem a q ≡ f (q - a)
placed_in f n mem a q h l = cond-true _ _ _ (and_from _ _ (le-leb a q h) (lt-ltb q (a + n) l))

placed_out : (f : ℕ → ℕ) (n : ℕ) (mem : ℕ → ℕ) (a q : ℕ) → ((q < a) ⊎ (a + n ≤ q)) → placed f n mem a q ≡ mem q
placed_out f n mem a q (inl h) = cond-false _ _ _ (and_left _ _ (lt-leb a q h))
placed_out f n mem a q (inr h) = cond-false _ _ _ (and_right _ _ (le-ltb q (a + n) h))

pub placed_none : (f : ℕ → ℕ) (mem : ℕ → ℕ) (a q : ℕ) → placed f 0 mem a q ≡ mem q
placed_none f mem a q = elim (cases_lt q a) [ inl h ↦ placed_out f 0 mem a q (inl h) | inr h ↦ placed_out f 0 mem a q (inr (omega arith)) ]

placed_next : (f : ℕ → ℕ) (i : ℕ) (mem : ℕ → ℕ) (a q : ℕ) → a + i ≢ q → placed f i mem a q ≡ placed f (i + 1) mem a q
placed_next f i mem a q ne =
    elim (cases_lt q a) [
      | inl h ↦ placed_out f i mem a q (inl h) ∙ sym (placed_out f (i + 1) mem a q (inl h))
      | inr h ↦ elim (cases_lt q (a + i)) [
        | inl k ↦ placed_in f i mem a q h k ∙ sym (placed_in f (i + 1) mem a q h (omega arith))
        | inr k ↦ placed_out f i mem a q (inr k) ∙ sym (placed_out f (i + 1) mem a q (inr (omega (arith, ne))))
      ]
    ]

memory_at : (text bytes : List ℕ) (start q : ℕ) → start ≤ q → memory_of text start bytes q ≡ get_or bytes (q - start) 0
memory_at text bytes start q h = cond-true _ _ _ (le-leb start q h)

memory_below : (text bytes : List ℕ) (start q : ℕ) → q < start → memory_of text start bytes q ≡ get_or text (q - 65536) 0
memory_below text bytes start q h = cond-false _ _ _ (lt-leb start q h)

memory_other : (text bytes : List ℕ) (start k byte q : ℕ) → start + k ≢ q → memory_of text start (slice_set bytes k byte) q ≡ memory_of text start bytes q
memory_other text bytes start k byte q ne =
    elim (cases_lt q start) [
      | inl h ↦ memory_below text (slice_set bytes k byte) start q h ∙ sym (memory_below text bytes start q h)
      | inr h ↦
          let other : q - start ≢ k = omega (arith, ne) in
          memory_at text (slice_set bytes k byte) start q h ∙ get_or-set_other bytes k (q - start) byte 0 other ∙ sym (memory_at text bytes start q h)
    ]

-- one more byte behind
pub placed_step : (f : ℕ → ℕ) (mem : ℕ → ℕ) (start i a byte q : ℕ) (text bytes : List ℕ) → start ≤ a → a + i < start + length bytes → byte ≡ f i → ((p : ℕ) → memory_of text start bytes p ≡ placed f i mem a p) → memory_of text start (slice_set bytes (a - start + i) byte) q ≡ placed f (i + 1) mem a q
placed_step f mem start i a byte q text bytes low within b before =
    elim (cases_eq (a + i) q) [
      | inl same ↦
          let k : q - start ≡ a - start + i = omega arith in
          let n : i ≡ q - a = omega arith in
          let room : a - start + i < length bytes = omega arith in
          memory_at text (slice_set bytes (a - start + i) byte) start q (omega arith)
          ∙ ap (λ p. get_or (slice_set bytes (a - start + i) byte) p 0) k ∙ get_or-set_same bytes (a - start + i) byte 0 room ∙ b
          ∙ ap f n ∙ sym (placed_in f (i + 1) mem a q (omega arith) (omega arith))
      | inr ne ↦
          let ne2 : start + (a - start + i) ≢ q = omega (arith, ne) in
          memory_other text bytes start (a - start + i) byte q ne2 ∙ before q ∙ placed_next f i mem a q ne
    ]

-- stores are bytes so placed
pub store_placed : (n : ℕ) (mem : ℕ → ℕ) (a v q : ℕ) → store n mem a v q ≡ placed (λ j. v / 2 ^ (8 * j) % 256) n mem a q
unfolding store
store_placed n mem a v q = refl

placed_same : (f g : ℕ → ℕ) (n m : ℕ) (mem : ℕ → ℕ) (a q : ℕ) → n ≡ m → ((j : ℕ) → j < n → f j ≡ g j) → placed f n mem a q ≡ placed g m mem a q
placed_same f g n m mem a q e same =
    elim (cases_lt q a) [
      | inl h ↦ placed_out f n mem a q (inl h) ∙ sym (placed_out g m mem a q (inl h))
      | inr h ↦ elim (cases_lt q (a + n)) [
        | inl k ↦ placed_in f n mem a q h k ∙ same (q - a) (omega arith) ∙ sym (placed_in g m mem a q h (omega (arith, e)))
        | inr k ↦ placed_out f n mem a q (inr k) ∙ sym (placed_out g m mem a q (inr (omega (arith, e))))
      ]
    ]

pub store_bytes_placed : (n : ℕ) (xs : List ℕ) (mem : ℕ → ℕ) (a q : ℕ) → n ≤ length xs → placed (slice_index xs) n mem a q ≡ store_bytes (take n xs) mem a q
unfolding store_bytes
store_bytes_placed n xs mem a q h =
    placed_same (slice_index xs) (slice_index (take n xs)) n (length (take n xs)) mem a q (sym (length-take-le n xs h)) (λ j l. sym (get_or-take n xs j 0 l))

pub rest_step : (v i rest : ℕ) → rest ≡ v / 2 ^ (8 * i) → rest / 256 ≡ v / 2 ^ (8 * (i + 1))
rest_step v i rest e =
    let size : 8 * i + 8 ≡ 8 * (i + 1) = omega arith in
    ap (λ n. n / 256) e ∙ shr-shr v (8 * i) 8 ∙ ap (λ n. v / 2 ^ n) size

-- what lies in the data segment
pub within_data : (start d a n : ℕ) → IsTrue (nat_le start a && nat_le (a + n) (start + d)) → (start ≤ a) × (a + n ≤ start + d)
within_data start d a n h = (grind (arith, nat_tests), grind (arith, nat_tests))

pub store_none : (mem : ℕ → ℕ) (a v q : ℕ) → mem q ≡ store 0 mem a v q
store_none mem a v q = sym (store_placed 0 mem a v q ∙ placed_none (λ j. v / 2 ^ (8 * j) % 256) mem a q)

pub store_step : (mem : ℕ → ℕ) (start i a v byte q : ℕ) (text bytes : List ℕ) → start ≤ a → a + i < start + length bytes → byte ≡ v / 2 ^ (8 * i) % 256 → ((p : ℕ) → memory_of text start bytes p ≡ store i mem a v p) → memory_of text start (slice_set bytes (a - start + i) byte) q ≡ store (i + 1) mem a v q
store_step mem start i a v byte q text bytes low within b before =
    placed_step (λ j. v / 2 ^ (8 * j) % 256) mem start i a byte q text bytes low within b (λ p. before p ∙ store_placed i mem a v p) ∙ sym (store_placed (i + 1) mem a v q)

pub bytes_none : (xs : List ℕ) (mem : ℕ → ℕ) (a q : ℕ) → mem q ≡ store_bytes (take 0 xs) mem a q
bytes_none xs mem a q = sym (sym (store_bytes_placed 0 xs mem a q (omega arith)) ∙ placed_none (slice_index xs) mem a q)

pub bytes_step : (mem : ℕ → ℕ) (start i a byte q : ℕ) (xs text bytes : List ℕ) → start ≤ a → a + i < start + length bytes → i < length xs → byte ≡ get_or xs i 0 → ((p : ℕ) → memory_of text start bytes p ≡ store_bytes (take i xs) mem a p) → memory_of text start (slice_set bytes (a - start + i) byte) q ≡ store_bytes (take (i + 1) xs) mem a q
bytes_step mem start i a byte q xs text bytes low within more b before =
    placed_step (slice_index xs) mem start i a byte q text bytes low within b (λ p. before p ∙ sym (store_bytes_placed i xs mem a p (omega arith))) ∙ store_bytes_placed (i + 1) xs mem a q (omega arith)

pub text_room : (a t : ℕ) → (nat_le 65536 a && nat_le (a + 4) (65536 + t)) ≡ true → a - 65536 + 4 ≤ t
text_room a t h = grind (arith, nat_tests)

pub fetch_here : (m : Segments) (a : ℕ) → a % 4 ≡ 0 → in_text m a 4 ≡ true → fetch m a ≡ instr_of (load 4 (slice_index m.text) (a - 65536))
fetch_here m a z t =
    let e : (a % 4 == 0) ≡ true = grind (arith, nat_tests) in
    cond-true _ _ _ (and_from _ _ e t)

-- the word of a text
pub word_in_text : (text : List ℕ) (at : ℕ) → at + 4 ≤ length text → load 4 (slice_index text) at ≡ number_of (take 4 (drop at text))
word_in_text text at h = load-number 4 (slice_index text) at ∙ ap number_of (bytes_of_list 4 at at (slice_index text) text h (λ q l. refl))

pub dropped : (xs : List ℕ) (k n : ℕ) → drop (k + n) xs ≡ drop n (drop k xs)
dropped xs k n = sym (drop-drop n k xs)
