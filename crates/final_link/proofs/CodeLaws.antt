-- The bytes of instructions behind one another.
use Rattle.std.proofs.Common.{◌≡◌, ℕ, zero, suc, ◌+◌, ◌<◌, List, [], ◌∷◌, ◌++◌, length, get_or, take, refl, ap, sym, ◌∙◌, arith, append_assoc}
use Rattle.std.specs.Prelude.{Result, Ok, Err, OnOk}
use Rattle.std.proofs.lemmas.List.{take_more, append-nil}
use Rattle.rv64_isa.specs.declared.instr.Instr.{Instr}
use Rattle.rv64_isa.specs.Words.{InRange}
use Rattle.final_link.specs.Image.{word_bytes, code_bytes, AllInRange}

pub code_bytes-nil : code_bytes [] ≡ []
unfolding code_bytes
code_bytes-nil = refl

pub code_bytes-cons : (i : Instr) (is : List Instr) → code_bytes (i ∷ is) ≡ word_bytes i ++ code_bytes is
unfolding code_bytes
code_bytes-cons i is = refl

pub code_bytes-append : (xs ys : List Instr) → code_bytes (xs ++ ys) ≡ code_bytes xs ++ code_bytes ys
unfolding code_bytes
code_bytes-append [] ys = refl
code_bytes-append (x ∷ xs) ys = ap (λ (bs : List ℕ). word_bytes x ++ bs) (code_bytes-append xs ys) ∙ sym (append_assoc (word_bytes x) (code_bytes xs) (code_bytes ys))

pub in_range-at : (is : List Instr) (k : ℕ) (d : Instr) → AllInRange is → k < length is → InRange (get_or is k d)
in_range-at [] k d all lt = absurd (omega arith)
in_range-at (i ∷ is) zero d all lt = all.0
in_range-at (i ∷ is) (suc k) d all lt = in_range-at is k d all.1 (omega arith)

-- one more instruction
pub code_bytes-take : (is : List Instr) (k : ℕ) (d : Instr) → k < length is → code_bytes (take (k + 1) is) ≡ code_bytes (take k is) ++ word_bytes (get_or is k d)
code_bytes-take is k d lt =
    ap code_bytes (take_more is k d lt) ∙ code_bytes-append (take k is) (get_or is k d ∷ [])
    ∙ ap (λ (bs : List ℕ). code_bytes (take k is) ++ bs) (code_bytes-cons (get_or is k d) [] ∙ ap (λ (bs : List ℕ). word_bytes (get_or is k d) ++ bs) code_bytes-nil ∙ append-nil (word_bytes (get_or is k d)))

-- ---- on success

pub on_ok : {T E : Type 0} (r : Result T E) (P Q : Type 0) → (P → Q) → OnOk r P → OnOk r Q
on_ok (Ok x) P Q f p = f p
on_ok (Err e) P Q f p = p

-- two pieces of code
pub two-codes : (a b c : List ℕ) (xs ys : List Instr) → b ≡ a ++ code_bytes xs → c ≡ b ++ code_bytes ys → c ≡ a ++ code_bytes (xs ++ ys)
two-codes a b c xs ys e f = f ∙ ap (λ (l : List ℕ). l ++ code_bytes ys) e ∙ append_assoc a (code_bytes xs) (code_bytes ys) ∙ ap (λ (l : List ℕ). a ++ l) (sym (code_bytes-append xs ys))
