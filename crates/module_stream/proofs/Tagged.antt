-- Values of several forms, each with a code in front: what is read is spelled so, and what is spelled so is read.
use Rattle.std.proofs.Common.{◌≡◌, ℕ, List, [], ◌∷◌, ◌++◌, Result, Ok, refl, sym, ap, subst}
use Rattle.cursors.specs.Cursor.{Cursor, at}
use Rattle.cursors.proofs.Leb128Laws.{IsBytes}
use Rattle.cursors.proofs.Fields.{Took}
use Rattle.module_stream.specs.Readers.{Reader, ◌>>=◌, coded, made}
use Rattle.module_stream.proofs.Exact.{Exact, IsTable, ok_is, bind_ok, Took-then, coded_exact, made_takes}

-- what was taken is the fields of a value of the form
abbrev pub TookForm : {S K : Type 0} → (S → K) → (S → List ℕ) → (S → Type 0) → K → Cursor → Cursor → S → Type 0
TookForm form_of fields G k c d s = Took c (fields s) d × G s × (form_of s ≡ k)

-- a form that is made of fields
pub form_takes : {A S K : Type 0} {w : A → List ℕ} {F : A → Type 0} {r : Reader A} (form_of : S → K) (fields : S → List ℕ) (G : S → Type 0) (k : K) (make : A → S) → Exact w F r
    → ((x : A) → fields (make x) ≡ w x) → ((x : A) → form_of (make x) ≡ k) → ((x : A) → F x → G (make x))
    → (c d : Cursor) (s : S) → IsBytes c.rest → made make r c ≡ Ok (s, d) → TookForm form_of fields G k c d s
form_takes form_of fields G k make law spells names fit c d s fits e =
    let m = made_takes law make c d s fits e in
    subst (λ z. TookForm form_of fields G k c d z) m.3 (subst (λ t. Took c t d) (sym (spells m.0)) m.1, fit m.0 m.2, names m.0)

abbrev done : {A : Type 0} → A → Cursor → Result (A × Cursor) ℕ
done x c = Ok (x, c)

-- a form with no fields
pub bare_takes : {S K : Type 0} (form_of : S → K) (fields : S → List ℕ) (G : S → Type 0) (k : K) (s : S) → fields s ≡ [] → form_of s ≡ k → G s
    → (c d : Cursor) (t : S) → IsBytes c.rest → done s c ≡ Ok (t, d) → TookForm form_of fields G k c d t
bare_takes form_of fields G k s spells names fit c d t fits e =
    subst (λ z. TookForm form_of fields G k c z.1 z.0) (ok_is (s, c) (t, d) e) (record { parts = ap (λ (b : List ℕ). b ++ c.rest) (sym spells); end = refl; fits = fits }, fit, names)

tagged_takes : {S K : Type 0} (code : K → ℕ) (table : List (ℕ × K)) (form_of : S → K) (fields : S → List ℕ) (G : S → Type 0) (read : K → Reader S) → IsTable code table
    → ((k : K) (c d : Cursor) (s : S) → IsBytes c.rest → read k c ≡ Ok (s, d) → TookForm form_of fields G k c d s)
    → (c d : Cursor) (s : S) → IsBytes c.rest → (coded table c >>= λ k. read k.0 k.1) ≡ Ok (s, d) → Took c (code (form_of s) ∷ fields s) d × G s
tagged_takes code table form_of fields G read is takes c d s fits e =
    let a = bind_ok (coded table c) (λ k. read k.0 k.1) (s, d) e in
    let t = (coded_exact code table is).takes c a.0.1 a.0.0 fits a.1 in
    let m = takes a.0.0 a.0.1 d s t.0.fits a.2 in
    (subst (λ k. Took c (code k ∷ fields s) d) (sym m.2) (Took-then c a.0.1 d (code a.0.0 ∷ []) (fields s) t.0 m.0), m.1)

-- the code and the fields of the form that it stands for
pub tagged_exact : {S K : Type 0} (code : K → ℕ) (table : List (ℕ × K)) (form_of : S → K) (fields : S → List ℕ) (G : S → Type 0) (read : K → Reader S) → IsTable code table
    → ((k : K) (c d : Cursor) (s : S) → IsBytes c.rest → read k c ≡ Ok (s, d) → TookForm form_of fields G k c d s)
    → ((s : S) (end : ℕ) (rest : List ℕ) → G s → read (form_of s) (at end (fields s ++ rest)) ≡ Ok (s, at end rest))
    → Exact (λ s. code (form_of s) ∷ fields s) G (λ c. coded table c >>= λ k. read k.0 k.1)
tagged_exact code table form_of fields G read is takes again = record {
  takes = tagged_takes code table form_of fields G read is takes;
  again = λ s end rest h. rw ((coded_exact code table is).again (form_of s) end (fields s ++ rest) tt) (again s end rest h);
}
