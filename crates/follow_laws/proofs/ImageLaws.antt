-- What the machine finds in a text that is built of code.
use Rattle.std.proofs.Common.{◌≡◌, ℕ, ◌+◌, ◌-◌, ◌*◌, ◌/◌, ◌%◌, ◌^◌, ◌<◌, ◌≤◌, true, List, [], ◌∷◌, ◌++◌, length, take, drop, Some, refl, sym, ap, ◌∙◌, subst, arith, append_assoc, length-append}
use Rattle.std.specs.Prelude.{slice_index}
use Rattle.std.proofs.Math.Seq.{drop-append_seam}
use Rattle.std.proofs.lemmas.Bool.{and_from, le-leb}
use Rattle.rv64_isa.specs.declared.instr.Instr.{Instr}
use Rattle.rv64_isa.specs.Words.{InRange, word_of, instr_of}
use Rattle.rv64_isa.proofs.WordLaws.{word_of_lt, instr_of-word_of}
use Rattle.rv64_meaning.specs.Machine.{Segments, load, in_text, fetch}
use Rattle.rv64_meaning.specs.Bytes.{number_of}
use Rattle.rv64_meaning.proofs.ByteLaws.{fetch_here, word_in_text}
use Rattle.final_link.specs.Image.{word_bytes, code_bytes, AllInRange}
use Rattle.final_link.proofs.CodeLaws.{code_bytes-cons}
use Rattle.follow_laws.specs.Relation.{StandsAt}

-- ---- bytes of code

length-word_bytes : (i : Instr) → length (word_bytes i) ≡ 4
unfolding word_bytes
length-word_bytes i = refl

pub length-code_bytes : (xs : List Instr) → length (code_bytes xs) ≡ 4 * length xs
unfolding code_bytes
length-code_bytes [] = refl
length-code_bytes (x ∷ xs) = omega (arith, length-append (word_bytes x) (code_bytes xs), length-word_bytes x, length-code_bytes xs)

-- ---- words of the text

four_bytes : (n : ℕ) → n < 2 ^ 32 → n % 256 + 256 * (n / 256 % 256 + 256 * (n / 65536 % 256 + 256 * (n / 16777216 % 256 + 256 * 0))) ≡ n
four_bytes n h = omega arith

word_number : (i : Instr) (rest : List ℕ) → InRange i → number_of (take 4 (word_bytes i ++ rest)) ≡ word_of i
unfolding number_of word_bytes
word_number i rest h = four_bytes (word_of i) (word_of_lt i h)

fetched : (m : Segments) (i : Instr) (pre rest : List ℕ) → m.text ≡ pre ++ (word_bytes i ++ rest) → length pre % 4 ≡ 0 → InRange i → fetch m (0x10000 + length pre) ≡ Some i
fetched m i pre rest e even h =
    let at = length pre in
    let len = ap length e in
    let all = length-append pre (word_bytes i ++ rest) in
    let some = length-append (word_bytes i) rest in
    let four = length-word_bytes i in
    let room : at + 4 ≤ length m.text = omega (arith, len, all, some, four) in
    let inside : in_text m (0x10000 + at) 4 ≡ true = and_from _ _ (le-leb 0x10000 (0x10000 + at) (omega arith)) (le-leb (0x10000 + at + 4) (0x10000 + length m.text) (omega (arith, room))) in
    let place : 0x10000 + at - 0x10000 ≡ at = omega arith in
    fetch_here m (0x10000 + at) (omega (arith, even)) inside
    ∙ ap (λ k. instr_of (load 4 (slice_index m.text) k)) place
    ∙ ap instr_of (word_in_text m.text at room ∙ ap (λ (l : List ℕ). number_of (take 4 (drop at l))) e ∙ ap (λ (l : List ℕ). number_of (take 4 l)) (drop-append_seam pre (word_bytes i ++ rest)) ∙ word_number i rest h)
    ∙ instr_of-word_of i h

pub stands_in : (m : Segments) (is : List Instr) (pre post : List ℕ) → m.text ≡ pre ++ (code_bytes is ++ post) → length pre % 4 ≡ 0 → AllInRange is → StandsAt m (0x10000 + length pre) is
stands_in m [] pre post e even h = tt
stands_in m (i ∷ is) pre post e even h =
    let here = e ∙ ap (λ (l : List ℕ). pre ++ l) (ap (λ (l : List ℕ). l ++ post) (code_bytes-cons i is) ∙ append_assoc (word_bytes i) (code_bytes is) post) in
    let len = length-append pre (word_bytes i) in
    let four = length-word_bytes i in
    let place : 0x10000 + length (pre ++ word_bytes i) ≡ 0x10000 + length pre + 4 = omega (arith, len, four) in (
      fetched m i pre (code_bytes is ++ post) here even h.0,
      subst (λ n. StandsAt m n is) place (stands_in m is (pre ++ word_bytes i) post (here ∙ sym (append_assoc pre (word_bytes i) (code_bytes is ++ post))) (omega (arith, len, four, even)) h.1),
    )

-- ---- numbers of the file

pub eight_bytes : (n : ℕ) → n < 2 ^ 64
    → n % 256 + 256 * (n / 256 ^ 1 % 256 + 256 * (n / 256 ^ 2 % 256 + 256 * (n / 256 ^ 3 % 256 + 256 * (n / 256 ^ 4 % 256 + 256 * (n / 256 ^ 5 % 256 + 256 * (n / 256 ^ 6 % 256 + 256 * (n / 256 ^ 7 % 256 + 256 * 0))))))) ≡ n
eight_bytes n h = omega arith

pub same_start : (n : ℕ) → 0x10000 + (n + 4095) / 4096 * 4096 ≡ (0x10000 + n + 4095) / 4096 * 4096
same_start n = omega arith
