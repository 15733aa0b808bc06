-- Reading one thing after the other, as a loop does.
use Rattle.std.proofs.Common.{◌≡◌, ℕ, zero, suc, ◌-◌, ◌+◌, ◌≤◌, ◌<◌, ◌^◌, List, [], ◌∷◌, ◌++◌, length, Result, Ok, Err, refl, sym, ap, subst, ◌∙◌, append_assoc, arith}
use Rattle.std.specs.Prelude.{IfOk}
use Rattle.std.proofs.lemmas.List.{append-nil}
use Rattle.cursors.specs.Cursor.{Cursor}
use Rattle.module_stream.specs.declared.fault.StreamError.{StreamError}
use Rattle.module_stream.specs.declared.fault.StreamError.TheVariants as errors
use Rattle.module_stream.specs.Readers.{Reader, ◌>>=◌, Fails, Gives, repeated, after}
use Rattle.module_stream.proofs.Exact.{ok_is, bind_ok}

-- n are left
abbrev pub SoFar : {A : Type 0} → Reader A → List A → ℕ → Cursor → Result (List A × Cursor) ℕ → Type 0
SoFar read front n c total = after front (repeated read n c) ≡ total

pub after-nil : {A : Type 0} (read : Result (List A × Cursor) ℕ) → after [] read ≡ read
after-nil (Ok x) = refl
after-nil (Err e) = refl

pub starts : {A : Type 0} (read : Reader A) (front : List A) (n : ℕ) (c : Cursor) → SoFar read front (n - 0) c (after front (repeated read n c))
starts read front n c = let k : n - 0 ≡ n = omega arith in rw k refl

regroup : {A : Type 0} (front : List A) (x : A) (read : Result (List A × Cursor) ℕ) → after front (read >>= λ y. Ok (x ∷ y.0, y.1)) ≡ after (front ++ x ∷ []) read
regroup front x (Ok y) = ap (λ xs. Ok (xs, y.1)) (simp append_assoc)
regroup front x (Err e) = refl

pub goes_on : {A : Type 0} (read : Reader A) (front : List A) (count i : ℕ) (c d : Cursor) (x : A) (total : Result (List A × Cursor) ℕ) → i < count → read c ≡ Ok (x, d)
    → SoFar read front (count - i) c total → SoFar read (front ++ x ∷ []) (count - (i + 1)) d total
unfolding repeated
goes_on read front count i c d x total lt h so_far =
    let k : count - i ≡ suc (count - (i + 1)) = omega arith in
    let one : after front (repeated read (count - i) c) ≡ after (front ++ x ∷ []) (repeated read (count - (i + 1)) d) = rw (k, h) (regroup front x (repeated read (count - (i + 1)) d)) in
    sym one ∙ so_far

pub ends : {A : Type 0} (read : Reader A) (e : StreamError) (front : List A) (count i : ℕ) (c : Cursor) (total : Result (List A × Cursor) ℕ) → i < count → Fails e (read c)
    → SoFar read front (count - i) c total → Fails e total
unfolding repeated
ends read errors.NoMemory front count i c total lt h so_far = tt
ends read (errors.BadStream offset) front count i c total lt h so_far =
    let k : count - i ≡ suc (count - (i + 1)) = omega arith in
    let one : after front (repeated read (count - i) c) ≡ Err offset = rw (k, h) refl in
    sym so_far ∙ one

pub is_done : {A : Type 0} (read : Reader A) (front : List A) (count i : ℕ) (c : Cursor) (total : Result (List A × Cursor) ℕ) → count ≤ i → SoFar read front (count - i) c total → total ≡ Ok (front, c)
unfolding repeated
is_done read front count i c total le so_far =
    let k : count - i ≡ 0 = omega arith in
    let one : after front (repeated read (count - i) c) ≡ Ok (front, c) = rw k (ap (λ xs. Ok (xs, c)) (append-nil front)) in
    sym so_far ∙ one

-- as many are read as the count says
pub repeated-length : {A : Type 0} (read : Reader A) (n : ℕ) (c d : Cursor) (xs : List A) → repeated read n c ≡ Ok (xs, d) → length xs ≡ n
unfolding repeated
repeated-length read zero c d xs e = ap (λ z. length z.0) (sym (ok_is ([], c) (xs, d) e))
repeated-length read (suc n) c d xs e =
    let a = bind_ok (read c) (λ x. repeated read n x.1 >>= λ y. Ok (x.0 ∷ y.0, y.1)) (xs, d) e in
    let b = bind_ok (repeated read n a.0.1) (λ y. Ok (a.0.0 ∷ y.0, y.1)) (xs, d) a.2 in
    ap (λ z. length z.0) (sym (ok_is (a.0.0 ∷ b.0.0, b.0.1) (xs, d) b.2)) ∙ ap suc (repeated-length read n a.0.1 b.0.1 b.0.0 b.1)

-- after no items
pub after_none : {A : Type 0} (items : List A) (result : Result (List A) StreamError) (d : Cursor) (read : Result (List A × Cursor) ℕ) → items ≡ [] → Gives result d (after items read) → Gives result d read
after_none items result d read none h =
    subst (λ r. Gives result d r) (ap (λ front. after front read) none ∙ after-nil read) h

-- a list of as many as a count says has a length that fits the count
pub few_repeated : {A : Type 0} (read : Reader A) (n : ℕ) (c d : Cursor) (result : Result (List A) StreamError) → n < 2 ^ 32 → Gives result d (repeated read n c) → IfOk result (λ xs. length xs < 2 ^ 32)
few_repeated read n c d (Ok xs) lt h = omega (arith, repeated-length read n c d xs h)
few_repeated read n c d (Err e) lt h = tt
