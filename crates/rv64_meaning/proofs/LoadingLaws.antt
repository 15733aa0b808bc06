-- Fields of an image, and the first that is wrong.
use Rattle.std.proofs.Common.{◌≡◌, ℕ, zero, suc, ◌+◌, ◌-◌, ◌≤◌, true, false, List, [], ◌∷◌, ◌++◌, length, take, drop, Some, None, refl, sym, ap, ◌∙◌, arith}
use Rattle.std.specs.Prelude.{slice_index, replicate, min}
use Rattle.std.proofs.Common.{inl, inr}
use Rattle.std.proofs.lemmas.Bool.{cases_lt}
use Rattle.std.proofs.Math.Nat.{min-eq_left}
use Rattle.std.proofs.Math.Path.{fun_ext}
use Rattle.std.proofs.lemmas.List.{length-drop, take_all}
use Rattle.std.specs.Option.{option_or}
use Rattle.rv64_meaning.specs.Machine.{State}
use Rattle.rv64_meaning.specs.Bytes.{number_of}
use Rattle.rv64_meaning.specs.Loading.{Field, number_at, first_wrong, memory_of, text_of, data_of, data_start, start_of}
use Rattle.rv64_meaning.proofs.ByteLaws.{load-number, bytes_of_list}

-- the number in a field
pub number_there : (image : List ℕ) (at n : ℕ) → at + n ≤ length image → number_of (take n (drop at image)) ≡ number_at image at n
number_there image at n h =
    sym (load-number n (slice_index image) at ∙ ap number_of (bytes_of_list n at at (slice_index image) image h (λ q l. refl)))

-- the first wrong field of two lists
pub wrong-append : (xs ys : List Field) → first_wrong (xs ++ ys) ≡ option_or (first_wrong xs) (first_wrong ys)
wrong-append [] ys = refl
wrong-append ((at, true) ∷ xs) ys = wrong-append xs ys
wrong-append ((at, false) ∷ xs) ys = refl

-- the first that is wrong, where some or none of the first fields is
pub wrong_front : (xs ys : List Field) (at : ℕ) → first_wrong xs ≡ Some at → first_wrong (xs ++ ys) ≡ Some at
wrong_front xs ys at h = wrong-append xs ys ∙ ap (λ o. option_or o (first_wrong ys)) h

pub wrong_behind : (xs ys : List Field) → first_wrong xs ≡ None → first_wrong (xs ++ ys) ≡ first_wrong ys
wrong_behind xs ys h = wrong-append xs ys ∙ ap (λ o. option_or o (first_wrong ys)) h

-- the part of a stretch that is present
present : (image : List ℕ) (from to : ℕ) → from ≤ length image → from ≤ to → take (min to (length image) - from) (drop from image) ≡ take (to - from) (drop from image)
present image from to here order =
    let count = length-drop from image in
    elim (cases_lt (length image) to) [
      | inl past ↦
          let short : min to (length image) ≡ length image = grind arith in
          ap (λ k. take (k - from) (drop from image)) short ∙ take_all (length image - from) (drop from image) (omega (arith, count)) ∙ sym (take_all (to - from) (drop from image) (omega (arith, count)))
      | inr whole ↦ let same : min to (length image) ≡ to = min-eq_left whole in ap (λ k. take (k - from) (drop from image)) same
    ]

-- registers at the start
zeros : (n r : ℕ) → slice_index (replicate n 0) r ≡ 0
zeros zero r = refl
zeros (suc n) zero = refl
zeros (suc n) (suc r) = zeros n r

-- the state of a hart at the start of an image
pub started : (image input text bytes : List ℕ) (start : ℕ) → text ≡ text_of image → bytes ≡ data_of image → start ≡ data_start image →
    let at_start : State = record { reg = slice_index (replicate 32 0); pc = 65536; mem = memory_of text start bytes; input = drop 0 input; output = [] } in
    at_start ≡ start_of image input
started image input text bytes start t b s =
    let made : (ℕ → ℕ) → List ℕ → ℕ → List ℕ → State = λ reg xs at ys. record { reg = reg; pc = 65536; mem = memory_of xs at ys; input = input; output = [] } in
    ap (λ reg. made reg text start bytes) (fun_ext (zeros 32))
    ∙ ap (λ xs. made (λ r. 0) xs start bytes) t
    ∙ ap (λ at. made (λ r. 0) (text_of image) at bytes) s
    ∙ ap (λ ys. made (λ r. 0) (text_of image) (data_start image) ys) b
