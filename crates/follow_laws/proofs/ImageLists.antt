-- Elements of lists by their places: in lists that are joined, filtered, or laid out one behind the other.
use Rattle.std.proofs.Common.{◌≡◌, ℕ, zero, suc, ◌+◌, ◌%◌, ◌<◌, ◌≤◌, Bool, true, false, cond, List, [], ◌∷◌, ◌++◌, length, take, filter, map, All, Some, None, refl, sym, ap, ◌∙◌, subst, eqb-true, arith, append_assoc, append-nil}
use Rattle.std.specs.Prelude.{slice_get, unwrap_or, nat_eq, ◌||◌}
use Rattle.std.specs.List.{find, list_any}
use Rattle.std.specs.Str.{bytes_eq}
use Rattle.std.specs.Cmp.{nat_eq_equiv}
use Rattle.std.specs.Cmp.Lexicographic.{lists_equiv}
use Rattle.std.proofs.lemmas.List.Elements.{All-head, All-tail}
use Rattle.std.proofs.lemmas.List.Folds.{list_any-append}
use Rattle.gimple_ir.specs.Names.{is_among, repeats_after}
use Rattle.final_link.specs.Names.{value_of}
use Rattle.final_link.specs.Symbols.{end_of, places_of}
use Rattle.final_link.proofs.PlaceLaws.{end_grows}

-- ---- elements

pub some_is : {X : Type 0} (x y : X) → Some x ≡ Some y → x ≡ y
some_is x y e = cc

pub none_there : {X : Type 0} {Goal : Type 0} (x : X) → None ≡ Some x → Goal
none_there x e = absurd cc

pub all_at : {X : Type 0} (P : X → Type 0) (xs : List X) (i : ℕ) (x : X) → slice_get xs i ≡ Some x → All P xs → P x
all_at P [] i x e h = none_there x e
all_at P (y ∷ ys) zero x e h = subst P (some_is y x e) (All-head P y ys h)
all_at P (y ∷ ys) (suc i) x e h = all_at P ys i x e (All-tail P y ys h)

pub in_front : {X : Type 0} (xs ys : List X) (i : ℕ) (x : X) → slice_get xs i ≡ Some x → slice_get (xs ++ ys) i ≡ Some x
in_front [] ys i x e = none_there x e
in_front (y ∷ xs) ys zero x e = e
in_front (y ∷ xs) ys (suc i) x e = in_front xs ys i x e

pub behind : {X : Type 0} (xs ys : List X) (i : ℕ) → slice_get (xs ++ ys) (length xs + i) ≡ slice_get ys i
behind [] ys i = let e : 0 + i ≡ i = omega arith in ap (slice_get ys) e
behind (x ∷ xs) ys i = let e : suc (length xs) + i ≡ suc (length xs + i) = omega arith in ap (slice_get (x ∷ (xs ++ ys))) e ∙ behind xs ys i

-- ---- tests

kept_here : {X : Type 0} (b : Bool) (x : X) (xs : List X) → b ≡ true → slice_get (cond b (x ∷ xs) xs) 0 ≡ Some x
kept_here true x xs e = refl
kept_here false x xs e = absurd cc

kept_later : {X : Type 0} (b : Bool) (x y : X) (xs : List X) (i : ℕ) → slice_get xs i ≡ Some y → (j : ℕ) × (slice_get (cond b (x ∷ xs) xs) j ≡ Some y)
kept_later true x y xs i e = (suc i, e)
kept_later false x y xs i e = (i, e)

pub filtered : {X : Type 0} (p : X → Bool) (xs : List X) (i : ℕ) (x : X) → slice_get xs i ≡ Some x → p x ≡ true → (j : ℕ) × (slice_get (filter p xs) j ≡ Some x)
filtered p [] i x e h = none_there x e
filtered p (y ∷ xs) zero x e h =
    let same = some_is y x e in
    (0, kept_here (p y) y (filter p xs) (ap p same ∙ h) ∙ ap Some same)
filtered p (y ∷ xs) (suc i) x e h =
    let later = filtered p xs i x e h in
    kept_later (p y) y x (filter p xs) later.0 later.1

number_by : (b : Bool) (n k : ℕ) (ks : List ℕ) → nat_eq n k ≡ b → (b || list_any (nat_eq n) ks) ≡ true → (list_any (nat_eq n) ks ≡ true → (i : ℕ) × (slice_get ks i ≡ Some n)) → (i : ℕ) × (slice_get (k ∷ ks) i ≡ Some n)
number_by true n k ks h e later = (0, ap Some (sym (eqb-true n k h)))
number_by false n k ks h e later = let found = later e in (suc found.0, found.1)

pub number_found : (n : ℕ) (ks : List ℕ) → list_any (nat_eq n) ks ≡ true → (i : ℕ) × (slice_get ks i ≡ Some n)
number_found n [] e = absurd cc
number_found n (k ∷ ks) e = number_by (nat_eq n k) n k ks refl e (number_found n ks)

passes_by : {X : Type 0} (b : Bool) (p : X → Bool) (y : X) (ys : List X) (x : X) → p y ≡ b → cond b (Some y) (find p ys) ≡ Some x → (find p ys ≡ Some x → p x ≡ true) → p x ≡ true
passes_by true p y ys x h e later = ap p (sym (some_is y x e)) ∙ h
passes_by false p y ys x h e later = later e

pub find_passes : {X : Type 0} (p : X → Bool) (xs : List X) (x : X) → find p xs ≡ Some x → p x ≡ true
find_passes p [] x e = none_there x e
find_passes p (y ∷ ys) x e = passes_by (p y) p y ys x refl e (find_passes p ys x)

-- what a mapped list has at a place
pub mapped_at : {X Y : Type 0} (f : X → Y) (xs : List X) (i : ℕ) (y : Y) → slice_get (map f xs) i ≡ Some y → (x : X) × (slice_get xs i ≡ Some x) × (f x ≡ y)
mapped_at f [] i y e = none_there y e
mapped_at f (x ∷ xs) zero y e = (x, refl, some_is (f x) y e)
mapped_at f (x ∷ xs) (suc i) y e = mapped_at f xs i y e

pub at_mapped : {X Y : Type 0} (f : X → Y) (xs : List X) (i : ℕ) (x : X) → slice_get xs i ≡ Some x → slice_get (map f xs) i ≡ Some (f x)
at_mapped f [] i x e = none_there x e
at_mapped f (y ∷ xs) zero x e = ap (λ z. Some (f z)) (some_is y x e)
at_mapped f (y ∷ xs) (suc i) x e = at_mapped f xs i x e

-- ---- items one behind the other

pub place_at : {X : Type 0} (name : X → List ℕ) (size : X → ℕ) (at : ℕ) (xs : List X) (i : ℕ) (x : X) → slice_get xs i ≡ Some x
    → slice_get (places_of name size at xs) i ≡ Some (name x, end_of size at (take i xs))
place_at name size at [] i x e = none_there x e
place_at name size at (y ∷ xs) zero x e = ap (λ z. Some (name z, at)) (some_is y x e)
place_at name size at (y ∷ xs) (suc i) x e = place_at name size (at + size y) xs i x e

-- the item at a place ends before all do, and before a later one begins
pub ends_within : {X : Type 0} (size : X → ℕ) (at : ℕ) (xs : List X) (i : ℕ) (x : X) → slice_get xs i ≡ Some x → end_of size at (take i xs) + size x ≤ end_of size at xs
ends_within size at [] i x e = none_there x e
ends_within size at (y ∷ xs) zero x e = let same = ap size (some_is y x e) in omega (arith, same, end_grows size (at + size y) xs)
ends_within size at (y ∷ xs) (suc i) x e = ends_within size (at + size y) xs i x e

pub ends_before : {X : Type 0} (size : X → ℕ) (at : ℕ) (xs : List X) (i j : ℕ) (x : X) → slice_get xs i ≡ Some x → i < j → end_of size at (take i xs) + size x ≤ end_of size at (take j xs)
ends_before size at [] i j x e less = none_there x e
ends_before size at (y ∷ xs) zero zero x e less = absurd (omega arith)
ends_before size at (y ∷ xs) (suc i) zero x e less = absurd (omega arith)
ends_before size at (y ∷ xs) zero (suc j) x e less = let same = ap size (some_is y x e) in omega (arith, same, end_grows size (at + size y) (take j xs))
ends_before size at (y ∷ xs) (suc i) (suc j) x e less = ends_before size (at + size y) xs i j x e (omega (arith, less))

pub end_aligned : {X : Type 0} (size : X → ℕ) (at : ℕ) (xs : List X) → ((x : X) → size x % 8 ≡ 0) → at % 8 ≡ 0 → end_of size at xs % 8 ≡ 0
end_aligned size at [] h e = e
end_aligned size at (x ∷ xs) h e = let one = h x in end_aligned size (at + size x) xs h (omega (arith, one, e))

-- ---- names

neither : (a b : Bool) → (a || b) ≡ false → (a ≡ false) × (b ≡ false)
neither true b e = absurd cc
neither false b e = (refl, e)

pub same_bytes : (name : List ℕ) → bytes_eq name name ≡ true
same_bytes name = (lists_equiv nat_eq_equiv).refl name

not_before : (before names : List (List ℕ)) (i : ℕ) (name : List ℕ) → repeats_after before names ≡ false → slice_get names i ≡ Some name → is_among before name ≡ false
not_before before [] i name h e = none_there name e
not_before before (n ∷ names) zero name h e =
    let same = some_is n name e in
    ap (is_among before) (sym same) ∙ (neither (is_among before n) (repeats_after (before ++ n ∷ []) names) h).0
not_before before (n ∷ names) (suc i) name h e =
    let more = not_before (before ++ n ∷ []) names i name (neither (is_among before n) (repeats_after (before ++ n ∷ []) names) h).1 e in
    (neither (is_among before name) (is_among (n ∷ []) name) (sym (list_any-append (bytes_eq name) before (n ∷ [])) ∙ more)).0

-- of two lists of names the second
pub repeats_behind : (before xs ys : List (List ℕ)) → repeats_after before (xs ++ ys) ≡ false → repeats_after (before ++ xs) ys ≡ false
repeats_behind before [] ys h = ap (λ (l : List (List ℕ)). repeats_after l ys) (append-nil before) ∙ h
repeats_behind before (x ∷ xs) ys h =
    ap (λ (l : List (List ℕ)). repeats_after l ys) (sym (append_assoc before (x ∷ []) xs))
    ∙ repeats_behind (before ++ x ∷ []) xs ys (neither (is_among before x) (repeats_after (before ++ x ∷ []) (xs ++ ys)) h).1

name_at : {T : Type 0} (es : List (List ℕ × T)) (i : ℕ) (e : List ℕ × T) → slice_get es i ≡ Some e → slice_get (map (λ (e : List ℕ × T). e.0) es) i ≡ Some e.0
name_at [] i e h = none_there e h
name_at (x ∷ es) zero e h = ap (λ (y : List ℕ × _). Some y.0) (some_is x e h)
name_at (x ∷ es) (suc i) e h = name_at es i e h

-- where no name stands twice, the value under a name is the one that stands with it
pub value_at : {T : Type 0} (other : T) (before : List (List ℕ)) (es : List (List ℕ × T)) (i : ℕ) (name : List ℕ) (v : T) → repeats_after before (map (λ (e : List ℕ × T). e.0) es) ≡ false
    → slice_get es i ≡ Some (name, v) → value_of other name es ≡ v
value_at other before [] i name v h e = none_there (name, v) e
value_at {T} other before (x ∷ es) zero name v h e =
    let same = some_is x (name, v) e in
    let rest = filter (λ (e : List ℕ × T). bytes_eq name e.0) es in
    ap (λ b. unwrap_or (slice_get (map (λ (e : List ℕ × T). e.1) (cond b (x ∷ rest) rest)) 0) other) (ap (λ (y : List ℕ × T). bytes_eq name y.0) same ∙ same_bytes name) ∙ ap (λ (y : List ℕ × T). y.1) same
value_at {T} other before (x ∷ es) (suc i) name v h e =
    let rest = filter (λ (e : List ℕ × T). bytes_eq name e.0) es in
    let names = map (λ (e : List ℕ × T). e.0) es in
    let later = (neither (is_among before x.0) (repeats_after (before ++ x.0 ∷ []) names) h).1 in
    let among = not_before (before ++ x.0 ∷ []) names i name later (name_at es i (name, v) e) in
    let last = (neither (is_among before name) (is_among (x.0 ∷ []) name) (sym (list_any-append (bytes_eq name) before (x.0 ∷ [])) ∙ among)).1 in
    let differ = (neither (bytes_eq name x.0) false last).0 in
    ap (λ b. unwrap_or (slice_get (map (λ (e : List ℕ × T). e.1) (cond b (x ∷ rest) rest)) 0) other) differ ∙ value_at other (before ++ x.0 ∷ []) es i name v later e
