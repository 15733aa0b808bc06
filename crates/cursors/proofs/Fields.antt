-- A field that is read is the field that was written, and what was written is read again.
use Rattle.std.proofs.Common.{◌≡◌, ℕ, zero, suc, ◌+◌, ◌-◌, ◌^◌, ◌<◌, Bool, true, false, ◌&&◌, cond, ltb, eqb, nat_lt, List, ◌++◌, length, get_or, take, drop, Option, Some, None, Result, Ok, Err, refl, sym, ap, subst, ◌∙◌, arith, inl}
use Rattle.std.proofs.lemmas.Bool.{lt-ltb, ltb-true}
use Rattle.std.proofs.lemmas.Bool.Decides.{nat_tests}
use Rattle.std.proofs.lemmas.List.{take_at, drop_at, take-append-drop, get_or-drop, get_or-take}
use Rattle.cursors.specs.declared.cursor.ReadError.{ReadError}
use Rattle.cursors.specs.declared.cursor.ReadError.TheVariants.{Short, NotShortest, TooWide}
use Rattle.cursors.specs.Cursor.{Cursor, at, offset_of}
use Rattle.cursors.specs.Leb128.{IsUleb, uleb_of, group_len, number_of}
use Rattle.std.specs.Prelude.{IfOk}
use Rattle.cursors.specs.Reading.{same, Gives, uleb_by_group, uleb_at}
use Rattle.cursors.proofs.Leb128Laws.{IsBytes, uleb_is, one_spelling, group_is, group_of, number_is, some_last, some_bytes, no_empty}

-- what a read took from the front
pub record Took (c : Cursor) (text : List ℕ) (d : Cursor) : Type 0 where
  pub parts : c.rest ≡ text ++ d.rest
  pub end : d.end ≡ c.end
  pub fits : IsBytes d.rest

abbrev done : ℕ × Cursor → Result (ℕ × Cursor) ReadError
done x = Ok x

abbrev as_ok : ℕ → Result ℕ ReadError
as_ok n = Ok n

ok_is : (x y : ℕ × Cursor) → done x ≡ done y → x ≡ y
ok_is x y e = cc

pub IsBytes-drop : (n : ℕ) (bytes : List ℕ) → IsBytes bytes → IsBytes (drop n bytes)
IsBytes-drop n bytes h i = rw get_or-drop (h (n + i))

-- what is read where a test is passed
guarded : (b : Bool) (e : ReadError) (x y : ℕ × Cursor) → cond b (Err e) (Ok x) ≡ Ok y → (b ≡ false) × (x ≡ y)
guarded true e x y h = absurd cc
guarded false e x y h = (refl, cc)

allowed : (b : Bool) (e : ReadError) (r : Result (ℕ × Cursor) ReadError) (y : ℕ × Cursor) → cond b r (Err e) ≡ Ok y → (b ≡ true) × (r ≡ Ok y)
allowed true e r y h = (refl, h)
allowed false e r y h = absurd cc

no_end : (b : Bool) (e f : ReadError) (y : ℕ × Cursor) → cond b (Err e) (Err f) ≡ done y → ⊥
no_end true e f y h = cc
no_end false e f y h = cc

-- the last byte of a longer group isn't 0
last_byte : (k : ℕ) (bytes : List ℕ) → (ltb 1 (suc k) && eqb (get_or (take (suc k) bytes) (suc k - 1) 0) 0) ≡ false → 0 < k → 0 < get_or bytes k 0
last_byte zero bytes h lt = absurd (omega arith)
last_byte (suc k) bytes h lt = grind (arith, nat_tests, get_or-take (suc (suc k)) bytes (suc k) 0 (omega arith))

uleb_took : (o : Option ℕ) (c d : Cursor) (n : ℕ) → IsBytes c.rest → group_len c.rest ≡ o → uleb_by_group o c ≡ Ok (n, d) → Took c (uleb_of n) d × (n < 2 ^ 64)
uleb_took None c d n fits g e = absurd (no_end (nat_lt (number_of c.rest) (2 ^ 64)) (Short (offset_of c)) (TooWide (offset_of c)) (n, d) e)
uleb_took (Some zero) c d n fits g e = absurd (no_empty c.rest g)
uleb_took (Some (suc k)) c d n fits g e =
    let a = allowed (ltb (number_of (take (suc k) c.rest)) (2 ^ 64)) (TooWide (offset_of c)) _ (n, d) e in
    let b = guarded (ltb 1 (suc k) && eqb (get_or (take (suc k) c.rest) (suc k - 1) 0) 0) (NotShortest (offset_of c)) (number_of (take (suc k) c.rest), at c.end (drop (suc k) c.rest)) (n, d) a.1 in
    let below : number_of (take (suc k) c.rest) < 2 ^ 64 = ltb-true _ _ a.0 in
    let spelled = group_is c.rest k fits g (last_byte k c.rest b.0) in
    let text : take (suc k) c.rest ≡ uleb_of (number_of (take (suc k) c.rest)) = one_spelling _ _ _ spelled (uleb_is _ below) in
    let parts : c.rest ≡ uleb_of (number_of (take (suc k) c.rest)) ++ drop (suc k) c.rest = sym (take-append-drop (suc k) c.rest) ∙ ap (λ (t : List ℕ). t ++ drop (suc k) c.rest) text in
    subst (λ (x : ℕ × Cursor). Took c (uleb_of x.0) x.1 × (x.0 < 2 ^ 64)) b.1 (record { parts = parts; end = refl; fits = IsBytes-drop (suc k) c.rest fits }, below)

-- What is read is spelled so.
pub uleb_takes : (c d : Cursor) (n : ℕ) → IsBytes c.rest → uleb_at c ≡ Ok (n, d) → Took c (uleb_of n) d × (n < 2 ^ 64)
uleb_takes c d n fits e = uleb_took (group_len c.rest) c d n fits refl e

shortest : (k : ℕ) (text : List ℕ) (n : ℕ) → IsUleb text n → length text ≡ suc k → (ltb 1 (suc k) && eqb (get_or text (suc k - 1) 0) 0) ≡ false
shortest zero text n h len = refl
shortest (suc k) text n h len = grind (arith, nat_tests, some_last text n (suc k) h len (inl (omega arith)))

again : (k end : ℕ) (text rest : List ℕ) (n : ℕ) → n < 2 ^ 64 → IsUleb text n → length text ≡ suc k → uleb_at (at end (text ++ rest)) ≡ Ok (n, at end rest)
again k end text rest n lt h len =
    rw (group_of text rest n h, take_at text rest (length text) refl, drop_at text rest (length text) refl, number_is text n h, lt-ltb n (2 ^ 64) lt, len, shortest k text n h len) refl

-- What is spelled so is read, whatever follows.
pub uleb_again : (n end : ℕ) (rest : List ℕ) → n < 2 ^ 64 → uleb_at (at end (uleb_of n ++ rest)) ≡ Ok (n, at end rest)
uleb_again n end rest lt =
    let h = uleb_is n lt in
    again (length (uleb_of n) - 1) end (uleb_of n) rest n lt h (omega (arith, some_bytes (uleb_of n) n h))

pub uleb_found : (r : Result ℕ ReadError) (old new : Cursor) → IsBytes old.rest → Gives same r old new (uleb_at old) → IfOk r (λ n. (n < 2 ^ 64) × (old.rest ≡ uleb_of n ++ new.rest))
uleb_found (Ok n) old new fits e = let t = uleb_takes old new n fits e in (t.1, t.0.parts)
uleb_found (Err e) old new fits h = tt

given : (r : Result ℕ ReadError) (old new : Cursor) (n end : ℕ) (rest : List ℕ) → Gives same r old new (Ok (n, at end rest)) → (r ≡ Ok n) × (new.rest ≡ rest)
given (Ok m) old new n end rest e = let same : (n, at end rest) ≡ (m, new) = ok_is (n, at end rest) (m, new) e in (ap (λ (x : ℕ × Cursor). as_ok x.0) (sym same), ap (λ (x : ℕ × Cursor). x.1.rest) (sym same))
given (Err d) old new n end rest h = absurd (let e = h.0 in cc)

pub uleb_only : (r : Result ℕ ReadError) (old new : Cursor) → Gives same r old new (uleb_at old) → (n : ℕ) (rest : List ℕ) → n < 2 ^ 64 → old.rest ≡ uleb_of n ++ rest → (r ≡ Ok n) × (new.rest ≡ rest)
uleb_only r old new h n rest lt e =
    let read : uleb_at old ≡ Ok (n, at old.end rest) = ap (λ (t : List ℕ). uleb_at (at old.end t)) e ∙ uleb_again n old.end rest lt in
    given r old new n old.end rest (subst (Gives same r old new) read h)

-- by reading both
pub same_spelling : (m n : ℕ) (x y : List ℕ) → m < 2 ^ 64 → n < 2 ^ 64 → uleb_of m ++ x ≡ uleb_of n ++ y → (m ≡ n) × (x ≡ y)
same_spelling m n x y h k e =
    let same : (m, at 0 x) ≡ (n, at 0 y) = ok_is (m, at 0 x) (n, at 0 y) (sym (uleb_again m 0 x h) ∙ ap (λ (t : List ℕ). uleb_at (at 0 t)) e ∙ uleb_again n 0 y k) in
    (ap (λ z. z.0) same, ap (λ z. z.1.rest) same)
