-- The loops that test and read a file.
use Rattle.std.proofs.Common.{◌≡◌, ℕ, suc, ◌+◌, ◌-◌, ◌*◌, ◌<◌, ◌≤◌, ◌≢◌, Bool, true, false, cond, eqb, List, [], ◌∷◌, ◌++◌, length, drop, Option, Some, None, refl, sym, ◌∙◌, append_assoc, arith}
use Rattle.std.proofs.lemmas.List.{append-nil, drop_all, length-drop}
use Rattle.std.specs.Prelude.{◌||◌, not, bit_and, position, IfNone}
use Rattle.std.specs.List.{list_any, position_from}
use Rattle.std.proofs.lemmas.Iterator.Adapters.{position_from-zero}
use Rattle.std.proofs.lemmas.Bool.{eqb-true}
use Rattle.std.proofs.lemmas.Bool.Decides.{nat_tests}
use Rattle.elf_container.specs.declared.headers.Header.{Header}
use Rattle.elf_container.specs.Reading.{mismatch, difference, header_at, headers_at, is_compressed}

no_more : (from : ℕ) (xs : List ℕ) → mismatch from xs [] ≡ None
no_more from [] = refl
no_more from (x ∷ xs) = refl

pub mismatch_ends : (from place : ℕ) (xs ys : List ℕ) → length ys ≤ place → mismatch (from + place) (drop place xs) (drop place ys) ≡ None
mismatch_ends from place xs ys le = rw (drop_all place ys le) (no_more (from + place) (drop place xs))

pub headers_go : (done : List Header) (count place at : ℕ) (bytes : List ℕ) (all : List Header) → place < count → done ++ headers_at (count - place) (at + 64 * place) bytes ≡ all
    → (done ++ header_at (at + 64 * place) bytes ∷ []) ++ headers_at (count - (place + 1)) (at + 64 * (place + 1)) bytes ≡ all
unfolding headers_at
headers_go done count place at bytes all lt so_far =
    let k : count - place ≡ suc (count - (place + 1)) = omega arith in
    let next : at + 64 * (place + 1) ≡ (at + 64 * place) + 64 = omega arith in
    let one : done ++ headers_at (count - place) (at + 64 * place) bytes ≡ (done ++ header_at (at + 64 * place) bytes ∷ []) ++ headers_at (count - (place + 1)) (at + 64 * (place + 1)) bytes =
    rw (k, next) (sym (append_assoc done (header_at (at + 64 * place) bytes ∷ []) (headers_at (count - (place + 1)) ((at + 64 * place) + 64) bytes))) in
    sym one ∙ so_far

pub headers_end : (done : List Header) (count place at : ℕ) (bytes : List ℕ) (all : List Header) → count ≤ place → done ++ headers_at (count - place) (at + 64 * place) bytes ≡ all → done ≡ all
unfolding headers_at
headers_end done count place at bytes all le so_far =
    let k : count - place ≡ 0 = omega arith in
    let one : done ++ headers_at (count - place) (at + 64 * place) bytes ≡ done = rw k (append-nil done) in
    sym one ∙ so_far

one_ended : (from : ℕ) (a b : List ℕ) → length a ≢ length b → (0 < length a → 0 < length b → ⊥) → difference from a b ≡ Some from
one_ended from [] [] differ ended = absurd (differ refl)
one_ended from [] (y ∷ b) differ ended = refl
one_ended from (x ∷ a) [] differ ended = refl
one_ended from (x ∷ a) (y ∷ b) differ ended = absurd (ended (omega arith) (omega arith))

pub difference_ends : (place : ℕ) (xs ys : List ℕ) → place ≤ length xs → place ≤ length ys → length xs ≢ length ys → (place < length xs → place < length ys → ⊥) → difference place (drop place xs) (drop place ys) ≡ Some place
difference_ends place xs ys left right differ ended =
    one_ended place (drop place xs) (drop place ys) (λ e. differ (omega (arith, length-drop place xs, length-drop place ys)))
    (λ h k. ended (omega (arith, length-drop place xs)) (omega (arith, length-drop place ys)))

chosen : (b : Bool) (from : ℕ) (more : Option ℕ) → cond b more (Some from) ≡ None → (b ≡ true) × (more ≡ None)
chosen true from more e = (refl, e)
chosen false from more e = absurd cc

-- what does not differ is the same
pub no_difference : (from : ℕ) (xs ys : List ℕ) → difference from xs ys ≡ None → xs ≡ ys
no_difference from [] [] e = refl
no_difference from [] (y ∷ ys) e = absurd cc
no_difference from (x ∷ xs) [] e = absurd cc
no_difference from (x ∷ xs) (y ∷ ys) e =
    let a = chosen (eqb x y) from (difference (from + 1) xs ys) e in
    let same : x ≡ y = eqb-true x y a.0 in
    let more : xs ≡ ys = no_difference (from + 1) xs ys a.1 in
    cc

equal : (x : ℕ) → eqb x x ≡ true
equal x = grind (arith, nat_tests)

pub same_all : (from : ℕ) (xs : List ℕ) → difference from xs xs ≡ None
same_all from [] = refl
same_all from (x ∷ xs) = rw (equal x) (same_all (from + 1) xs)

-- ---- the first element that passes a test

neither : (a b : Bool) → (a || b) ≡ false → (a ≡ false) × (b ≡ false)
neither true b e = absurd cc
neither false b e = (refl, e)

not_here : (b : Bool) (i : ℕ) (more : Option ℕ) → cond b (Some i) more ≡ None → (b ≡ false) × (more ≡ None)
not_here true i more e = absurd cc
not_here false i more e = (refl, e)

none_from : {X : Type 0} (test : X → Bool) (i : ℕ) (xs : List X) → list_any test xs ≡ false → position_from test i xs ≡ None
none_from test i [] e = refl
none_from test i (x ∷ xs) e =
    let parts = neither (test x) (list_any test xs) e in
    rw (parts.0) (none_from test (i + 1) xs parts.1)

any_from : {X : Type 0} (test : X → Bool) (i : ℕ) (xs : List X) → position_from test i xs ≡ None → list_any test xs ≡ false
any_from test i [] e = refl
any_from test i (x ∷ xs) e =
    let parts = not_here (test x) i (position_from test (i + 1) xs) e in
    rw (parts.0) (any_from test (i + 1) xs parts.1)

-- the place of the first that passes is none exactly where no element passes
pub position_none : {X : Type 0} (test : X → Bool) (xs : List X) → list_any test xs ≡ false → position test xs ≡ None
position_none test xs e = position_from-zero test xs ∙ none_from test 0 xs e

pub none_passes : {X : Type 0} (test : X → Bool) (xs : List X) → position test xs ≡ None → list_any test xs ≡ false
none_passes test xs e = any_from test 0 xs (sym (position_from-zero test xs) ∙ e)

-- what a call that looks for the first finds where it finds none
pub none_found : {X : Type 0} (test : X → Bool) (xs : List X) (r : Option ℕ) → r ≡ position test xs → IfNone r (list_any test xs ≡ false)
none_found test xs None e = none_passes test xs (sym e)
none_found test xs (Some i) e = tt

zero_if : (n : ℕ) → not (eqb n 0) ≡ false → n ≡ 0
zero_if n e = grind (arith, nat_tests)

-- a header without the flag of compressed sections
pub uncompressed : (h : Header) → is_compressed h ≡ false → bit_and h.flags 0x800 ≡ 0
uncompressed h e = zero_if (bit_and h.flags 0x800) e
