-- The names of an object are those of its code with its own first: where each stands, how many there are, and that none stands twice.
use Rattle.std.proofs.Common.{◌≡◌, ℕ, suc, ◌+◌, ◌<◌, Bool, true, false, cond, not, ◌||◌, List, [], ◌∷◌, ◌++◌, length, refl, sym, ap, ◌∙◌, subst, arith}
use Rattle.std.specs.Prelude.{nat_le, if◌then◌else◌}
use Rattle.std.specs.List.{AllByRecursion}
use Rattle.std.specs.Str.{bytes_eq}
use Rattle.std.specs.Cmp.{nat_eq_equiv}
use Rattle.std.specs.Cmp.Lexicographic.{lists_equiv}
use Rattle.std.proofs.lemmas.Bool.Decides.{nat_tests}
use Rattle.std.proofs.lemmas.List.Folds.{list_any-append}
use Rattle.std.proofs.lemmas.Slice.Eq.{bytes_eq-Decides}
use Rattle.gimple_ir.specs.Names.{is_among, repeats, repeats_after}
use Rattle.rv64_select.specs.Selected.{place_of}
use Rattle.program_link.specs.Objects.{others, object_place}

neither : (a b : Bool) → (a || b) ≡ false → (a ≡ false) × (b ≡ false)
neither true b e = absurd cc
neither false b e = (refl, e)

turned : (a b : List ℕ) → bytes_eq a b ≡ bytes_eq b a
turned a b = (lists_equiv nat_eq_equiv).symm a b

same_by : (a b : List ℕ) → bytes_eq a b ≡ true → a ≡ b
same_by a b e = (bytes_eq-Decides a b).0 e

-- ---- no name twice

abbrev pub Distinct : List (List ℕ) → Type 0
Distinct [] = Unit {0}
Distinct (name ∷ names) = (is_among names name ≡ false) × Distinct names

-- none of the names stands among others
abbrev NoneAmong : List (List ℕ) → List (List ℕ) → Type 0
NoneAmong before names = AllByRecursion (λ name. is_among before name ≡ false) names

none_before : (before : List (List ℕ)) (last : List ℕ) (names : List (List ℕ)) → NoneAmong (before ++ last ∷ []) names → NoneAmong before names
none_before before last [] h = tt
none_before before last (name ∷ names) h =
    ((neither _ _ (sym (list_any-append (bytes_eq name) before (last ∷ [])) ∙ h.0)).0, none_before before last names h.1)

last_once : (before : List (List ℕ)) (last : List ℕ) (names : List (List ℕ)) → NoneAmong (before ++ last ∷ []) names → is_among names last ≡ false
last_once before last [] h = refl
last_once before last (name ∷ names) h =
    let both = neither _ _ (sym (list_any-append (bytes_eq name) before (last ∷ [])) ∙ h.0) in
    let other : bytes_eq last name ≡ false = turned last name ∙ (neither _ _ both.1).0 in
    rw other (last_once before last names h.1)

none_with : (before : List (List ℕ)) (last : List ℕ) (names : List (List ℕ)) → NoneAmong before names → is_among names last ≡ false → NoneAmong (before ++ last ∷ []) names
none_with before last [] h e = tt
none_with before last (name ∷ names) h e =
    let both = neither _ _ e in
    let other : bytes_eq name last ≡ false = turned name last ∙ both.0 in
    (list_any-append (bytes_eq name) before (last ∷ []) ∙ rw (h.0, other) refl, none_with before last names h.1 both.1)

none_yet : (names : List (List ℕ)) → NoneAmong [] names
none_yet [] = tt
none_yet (name ∷ names) = (refl, none_yet names)

distinct_after : (before names : List (List ℕ)) → repeats_after before names ≡ false → NoneAmong before names × Distinct names
distinct_after before [] e = (tt, tt)
distinct_after before (name ∷ names) e =
    let both = neither _ _ e in
    let rest = distinct_after (before ++ name ∷ []) names both.1 in
    ((both.0, none_before before name names rest.0), (last_once before name names rest.0, rest.1))

once_after : (before names : List (List ℕ)) → NoneAmong before names → Distinct names → repeats_after before names ≡ false
once_after before [] h d = refl
once_after before (name ∷ names) h d = rw h.0 (once_after (before ++ name ∷ []) names (none_with before name names h.1 d.0) d.1)

pub distinct : (names : List (List ℕ)) → repeats names ≡ false → Distinct names
distinct names e = (distinct_after [] names e).1

once : (names : List (List ℕ)) → Distinct names → repeats names ≡ false
once names d = once_after [] names (none_yet names) d

-- ---- without its own

among_by : (b : Bool) (name other : List ℕ) (names kept : List (List ℕ)) → is_among (other ∷ names) name ≡ false → is_among kept name ≡ false
    → is_among (cond b (other ∷ kept) kept) name ≡ false
among_by true name other names kept e h = let new : bytes_eq name other ≡ false = (neither (bytes_eq name other) (is_among names name) e).0 in rw new h
among_by false name other names kept e h = h

others_among : (own name : List ℕ) (names : List (List ℕ)) → is_among names name ≡ false → is_among (others own names) name ≡ false
others_among own name [] e = refl
others_among own name (other ∷ names) e =
    among_by (not (bytes_eq own other)) name other names (others own names) e (others_among own name names ((neither _ _ e).1))

own_by : (b : Bool) (own other : List ℕ) (kept : List (List ℕ)) → bytes_eq own other ≡ b → is_among kept own ≡ false → is_among (cond (not b) (other ∷ kept) kept) own ≡ false
own_by true own other kept e h = h
own_by false own other kept e h = rw e h

own_gone : (own : List ℕ) (names : List (List ℕ)) → is_among (others own names) own ≡ false
own_gone own [] = refl
own_gone own (other ∷ names) = own_by (bytes_eq own other) own other (others own names) refl (own_gone own names)

distinct_by : (b : Bool) (name : List ℕ) (kept : List (List ℕ)) → is_among kept name ≡ false → Distinct kept → Distinct (cond b (name ∷ kept) kept)
distinct_by true name kept e d = (e, d)
distinct_by false name kept e d = d

others_distinct : (own : List ℕ) (names : List (List ℕ)) → Distinct names → Distinct (others own names)
others_distinct own [] d = tt
others_distinct own (name ∷ names) d =
    distinct_by (not (bytes_eq own name)) name (others own names) (others_among own name names d.0) (others_distinct own names d.1)

-- its own first, no name stands twice
pub own_first_once : (own : List ℕ) (names : List (List ℕ)) → repeats names ≡ false → repeats (own ∷ others own names) ≡ false
own_first_once own names e = once (own ∷ others own names) (own_gone own names, others_distinct own names (distinct names e))

others_all : (own : List ℕ) (names : List (List ℕ)) → is_among names own ≡ false → others own names ≡ names
others_all own [] e = refl
others_all own (name ∷ names) e =
    let both = neither (bytes_eq own name) (is_among names own) e in
    let new : bytes_eq own name ≡ false = both.0 in
    rw new (ap (λ (more : List (List ℕ)). name ∷ more) (others_all own names both.1))

-- ---- places

place_here : (b : Bool) (n : ℕ) → cond (not b) (1 + n) 0 ≡ object_place 0 (cond (not b) (1 + n) 0)
place_here true n = refl
place_here false n = grind (arith, nat_tests)

place_at_head : (own : ℕ) → 1 ≡ object_place (1 + own) 0
place_at_head own = grind (arith, nat_tests)

place_own : (own n : ℕ) → 0 ≡ object_place own n → 0 ≡ object_place (1 + own) (1 + n)
place_own own n e = grind (arith, nat_tests)

place_later : (m own n : ℕ) → 1 + m ≡ object_place own n → 1 + (1 + m) ≡ object_place (1 + own) (1 + n)
place_later m own n e = grind (arith, nat_tests)

place_behind : (b c : Bool) (m own n : ℕ) → (b ≡ true → c ≡ false) → (b ≡ false → cond (not c) (1 + m) 0 ≡ object_place own n)
    → cond (not c) (1 + cond (not b) (1 + m) 0) 0 ≡ object_place (1 + own) (cond (not b) (1 + n) 0)
place_behind true true m own n h g = absurd (let e = h refl in cc)
place_behind true false m own n h g = place_at_head own
place_behind false true m own n h g = place_own own n (g refl)
place_behind false false m own n h g = place_later m own n (g refl)

inside_by : (n m : ℕ) (b : Bool) → b ≡ false → cond (not b) (1 + n) 0 < suc m → n < m
inside_by n m true e h = absurd cc
inside_by n m false e h = omega arith

apart_by : (own name q : List ℕ) → bytes_eq own name ≡ false → bytes_eq q name ≡ true → bytes_eq q own ≡ false
apart_by own name q e f = subst (λ (r : List ℕ). bytes_eq r own ≡ false) (sym (same_by q name f)) (turned name own ∙ e)

first_by : (b : Bool) (own q name : List ℕ) (names : List (List ℕ)) → bytes_eq own name ≡ b → is_among names name ≡ false → place_of (name ∷ names) q < length (name ∷ names)
    → (place_of names q < length names → cond (not (bytes_eq q own)) (1 + place_of (others own names) q) 0 ≡ object_place (place_of names own) (place_of names q))
    → cond (not (bytes_eq q own)) (1 + place_of (cond (not b) (name ∷ others own names) (others own names)) q) 0
    ≡ object_place (cond (not b) (1 + place_of names own) 0) (cond (not (bytes_eq q name)) (1 + place_of names q) 0)
first_by true own q name names e new h before =
    let same : own ≡ name = same_by own name e in
    let all : others own names ≡ names = others_all own names (subst (λ (r : List ℕ). is_among names r ≡ false) (sym same) new) in
    rw all (subst (λ (r : List ℕ). cond (not (bytes_eq q r)) (1 + place_of names q) 0 ≡ object_place 0 (cond (not (bytes_eq q name)) (1 + place_of names q) 0)) (sym same) (place_here (bytes_eq q name) (place_of names q)))
first_by false own q name names e new h before =
    place_behind (bytes_eq q name) (bytes_eq q own) (place_of (others own names) q) (place_of names own) (place_of names q) (apart_by own name q e)
    (λ f. before (inside_by (place_of names q) (length names) (bytes_eq q name) f (omega arith)))

-- where a name stands with its own first
pub own_first_place : (own q : List ℕ) (names : List (List ℕ)) → Distinct names → place_of names q < length names
    → place_of (own ∷ others own names) q ≡ object_place (place_of names own) (place_of names q)
own_first_place own q [] d h = absurd (omega arith)
own_first_place own q (name ∷ names) d h = first_by (bytes_eq own name) own q name names refl d.0 h (own_first_place own q names d.1)

-- ---- their number

-- the first place that is not cited yet, with its own first
abbrev pub next_place : ℕ → ℕ → ℕ
next_place own next = if nat_le next own then next + 1 else next

count_here : (n : ℕ) → next_place 0 (suc n) ≡ suc n
count_here n = grind (arith, nat_tests)

count_behind : (own n m : ℕ) → next_place own n ≡ suc m → next_place (1 + own) (suc n) ≡ suc (suc m)
count_behind own n m e = grind (arith, nat_tests)

count_by_own : (b : Bool) (own name : List ℕ) (names : List (List ℕ)) → bytes_eq own name ≡ b → is_among names name ≡ false
    → next_place (place_of names own) (length names) ≡ suc (length (others own names))
    → next_place (cond (not b) (1 + place_of names own) 0) (suc (length names)) ≡ suc (length (cond (not b) (name ∷ others own names) (others own names)))
count_by_own true own name names e new before =
    let all : others own names ≡ names = others_all own names (subst (λ (r : List ℕ). is_among names r ≡ false) (sym (same_by own name e)) new) in
    rw all (count_here (length names))
count_by_own false own name names e new before = count_behind (place_of names own) (length names) (length (others own names)) before

pub own_first_count : (own : List ℕ) (names : List (List ℕ)) → Distinct names → next_place (place_of names own) (length names) ≡ suc (length (others own names))
own_first_count own [] d = refl
own_first_count own (name ∷ names) d = count_by_own (bytes_eq own name) own name names refl d.0 (own_first_count own names d.1)
