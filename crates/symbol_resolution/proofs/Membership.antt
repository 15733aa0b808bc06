-- What stands at some place of a list, and what a search by a test or by a name finds.
use Rattle.std.proofs.Common.{◌≡◌, ◌⊎◌, inl, inr, ◌+◌, ℕ, zero, suc, List, [], ◌∷◌, ◌++◌, map, Bool, true, false, Some, None, cond, refl, sym, ap, ap₂, ◌∙◌, arith, subst}
use Rattle.std.specs.Prelude.{◌&&◌, All, Option, slice_get, nat_eq}
use Rattle.std.specs.List.{filter, filter_map, flat_map, list_any, find, cons_option, enumerate_from}
use Rattle.std.specs.Str.{bytes_eq}
use Rattle.std.proofs.lemmas.Bool.Decides.{nat_tests}
use Rattle.std.proofs.lemmas.List.Elements.{All-nil, All-cons}
use Rattle.symbol_resolution.specs.Groups.{of_name}

abbrev pub Has : {X : Type 0} → List X → X → Type 0
Has xs x = (i : ℕ) × (slice_get xs i ≡ Some x)

pub later : {X : Type 0} (y : X) (xs : List X) (x : X) → Has xs x → Has (y ∷ xs) x
later y xs x h = (suc h.0, h.1)

pub has_left : {X : Type 0} (xs ys : List X) (x : X) → Has xs x → Has (xs ++ ys) x
has_left xs ys x h = left xs ys x h.0 h.1
  where
    left : {X : Type 0} (xs ys : List X) (x : X) (i : ℕ) → slice_get xs i ≡ Some x → Has (xs ++ ys) x
    left [] ys x i e = cc
    left (y ∷ xs) ys x zero e = (zero, e)
    left (y ∷ xs) ys x (suc i) e = later y (xs ++ ys) x (left xs ys x i e)

pub has_right : {X : Type 0} (xs ys : List X) (x : X) → Has ys x → Has (xs ++ ys) x
has_right [] ys x h = h
has_right (y ∷ xs) ys x h = later y (xs ++ ys) x (has_right xs ys x h)

pub has_either : {X : Type 0} (xs ys : List X) (x : X) (i : ℕ) → slice_get (xs ++ ys) i ≡ Some x → Has xs x ⊎ Has ys x
has_either [] ys x i e = inr (i, e)
has_either (y ∷ xs) ys x zero e = inl (zero, e)
has_either (y ∷ xs) ys x (suc i) e = sooner (has_either xs ys x i e)
  where
    sooner : Has xs x ⊎ Has ys x → Has (y ∷ xs) x ⊎ Has ys x
    sooner (inl h) = inl (later y xs x h)
    sooner (inr h) = inr h

pub has_all : {X : Type 0} (P : X → Type 0) (xs : List X) → ((x : X) → Has xs x → P x) → All P xs
has_all P [] h = All-nil P
has_all P (x ∷ xs) h = All-cons P x xs (h x (zero, refl)) (has_all P xs (λ y has. h y (later x xs y has)))

-- ---- tests of numbers and bytes

pub equal_numbers : (a b : ℕ) → nat_eq a b ≡ true → a ≡ b
equal_numbers a b h = grind (arith, nat_tests)

pub number-itself : (a : ℕ) → nat_eq a a ≡ true
number-itself a = grind (arith, nat_tests)

pub bytes-itself : (xs : List ℕ) → bytes_eq xs xs ≡ true
bytes-itself [] = refl
bytes-itself (x ∷ xs) = ap₂ (λ a b. a && b) (number-itself x) (bytes-itself xs)

-- ---- a search by a test

pub found_has : {X : Type 0} (p : X → Bool) (xs : List X) (x : X) → find p xs ≡ Some x → Has xs x × (p x ≡ true)
found_has p [] x h = cc
found_has p (y ∷ xs) x h = by (λ k. found_has p xs x k) (p y) refl h
  where
    by : (find p xs ≡ Some x → Has xs x × (p x ≡ true)) → (b : Bool) → p y ≡ b → cond (p y) (Some y) (find p xs) ≡ Some x → Has (y ∷ xs) x × (p x ≡ true)
    by rest_has true e h =
        let same : Some y ≡ Some x = sym (ap (λ b. cond b (Some y) (find p xs)) e) ∙ h in
        let one : y ≡ x = cc in
        ((zero, same), sym (ap p one) ∙ e)
    by rest_has false e h =
        let rest = rest_has (sym (ap (λ b. cond b (Some y) (find p xs)) e) ∙ h) in
        (later y xs x rest.0, rest.1)

pub has_found : {X : Type 0} (p : X → Bool) (xs : List X) (x : X) (i : ℕ) → slice_get xs i ≡ Some x → p x ≡ true → (y : X) × (find p xs ≡ Some y)
has_found p [] x i h t = cc
has_found p (y ∷ xs) x zero h t =
    let same : y ≡ x = cc in
    (y, ap (λ b. cond b (Some y) (find p xs)) (ap p same ∙ t))
has_found p (y ∷ xs) x (suc i) h t = by (p y) refl (has_found p xs x i h t)
  where
    by : (b : Bool) → p y ≡ b → (z : _) × (find p xs ≡ Some z) → (z : _) × (cond (p y) (Some y) (find p xs) ≡ Some z)
    by true e rest = (y, ap (λ b. cond b (Some y) (find p xs)) e)
    by false e rest = (rest.0, ap (λ b. cond b (Some y) (find p xs)) e ∙ rest.1)

-- ---- under a name

pub named_has : {T : Type 0} (name : List ℕ) (es : List (List ℕ × T)) (x : T) (i : ℕ) → slice_get (of_name name es) i ≡ Some x
    → (e : List ℕ × T) × (Has es e) × (bytes_eq name e.0 ≡ true) × (e.1 ≡ x)
named_has name [] x i h = cc
named_has {T} name (e ∷ es) x i h = by (λ i k. named_has name es x i k) (bytes_eq name e.0) refl i h
  where
    Named : List (List ℕ × T) → Type 0
    Named es = (e : List ℕ × T) × (Has es e) × (bytes_eq name e.0 ≡ true) × (e.1 ≡ x)

    more : Named es → Named (e ∷ es)
    more rest = (rest.0, later e es rest.0 rest.1, rest.2, rest.3)

    by : ((i : ℕ) → slice_get (of_name name es) i ≡ Some x → Named es) → (b : Bool) → bytes_eq name e.0 ≡ b → (i : ℕ) → slice_get (map (λ e. e.1) (cond (bytes_eq name e.0) (e ∷ filter (λ e. bytes_eq name e.0) es) (filter (λ e. bytes_eq name e.0) es))) i ≡ Some x → Named (e ∷ es)
    by rest false t i h = more (rest i (sym (ap (λ b. slice_get (map (λ e. e.1) (cond b (e ∷ filter (λ e. bytes_eq name e.0) es) (filter (λ e. bytes_eq name e.0) es))) i) t) ∙ h))
    by rest true t zero h =
        let same : Some e.1 ≡ Some x = sym (ap (λ b. slice_get (map (λ e. e.1) (cond b (e ∷ filter (λ e. bytes_eq name e.0) es) (filter (λ e. bytes_eq name e.0) es))) zero) t) ∙ h in
        (e, (zero, refl), t, cc)
    by rest true t (suc i) h = more (rest i (sym (ap (λ b. slice_get (map (λ e. e.1) (cond b (e ∷ filter (λ e. bytes_eq name e.0) es) (filter (λ e. bytes_eq name e.0) es))) (suc i)) t) ∙ h))

pub has_named : {T : Type 0} (name : List ℕ) (es : List (List ℕ × T)) (e : List ℕ × T) (i : ℕ) → slice_get es i ≡ Some e → bytes_eq name e.0 ≡ true → Has (of_name name es) e.1
has_named name [] e i h t = cc
has_named name (d ∷ es) e zero h t =
    let same : d ≡ e = cc in (
      zero,
      ap (λ b. slice_get (map (λ e. e.1) (cond b (d ∷ filter (λ e. bytes_eq name e.0) es) (filter (λ e. bytes_eq name e.0) es))) zero) (ap (λ (d : List ℕ × _). bytes_eq name d.0) same ∙ t)
          ∙ ap (λ (d : List ℕ × _). Some d.1) same,
    )
has_named {T} name (d ∷ es) e (suc i) h t = by (bytes_eq name d.0) refl (has_named name es e i h t)
  where
    by : (b : Bool) → bytes_eq name d.0 ≡ b → Has (of_name name es) e.1 → Has (of_name name (d ∷ es)) e.1
    by false u rest = (rest.0, ap (λ b. slice_get (map (λ e. e.1) (cond b (d ∷ filter (λ e. bytes_eq name e.0) es) (filter (λ e. bytes_eq name e.0) es))) rest.0) u ∙ rest.1)
    by true u rest = (suc rest.0, ap (λ b. slice_get (map (λ e. e.1) (cond b (d ∷ filter (λ e. bytes_eq name e.0) es) (filter (λ e. bytes_eq name e.0) es))) (suc rest.0)) u ∙ rest.1)

-- ---- through other lists

pub has_mapped : {X Y : Type 0} (r : X → Y) (xs : List X) (y : Y) (i : ℕ) → slice_get (map r xs) i ≡ Some y → (x : X) × (slice_get xs i ≡ Some x) × (r x ≡ y)
has_mapped r [] y i h = cc
has_mapped r (x ∷ xs) y zero h = (x, refl, cc)
has_mapped r (x ∷ xs) y (suc i) h = has_mapped r xs y i h

pub mapped_at : {X Y : Type 0} (r : X → Y) (xs : List X) (x : X) (i : ℕ) → slice_get xs i ≡ Some x → slice_get (map r xs) i ≡ Some (r x)
mapped_at r [] x i h = cc
mapped_at r (y ∷ xs) x zero h = let same : y ≡ x = cc in ap (λ y. Some (r y)) same
mapped_at r (y ∷ xs) x (suc i) h = mapped_at r xs x i h

pub has_joined : {X Y : Type 0} (r : X → List Y) (xs : List X) (x : X) (i : ℕ) (y : Y) → slice_get xs i ≡ Some x → Has (r x) y → Has (flat_map r xs) y
has_joined r [] x i y h k = cc
has_joined {X} {Y} r (z ∷ xs) x zero y h k = let same : x ≡ z = cc in has_left (r z) (flat_map r xs) y (subst (λ (z : X). Has (r z) y) same k)
has_joined r (z ∷ xs) x (suc i) y h k = has_right (r z) (flat_map r xs) y (has_joined r xs x i y h k)

pub has_numbered : {X : Type 0} (n : ℕ) (xs : List X) (x : X) (i j : ℕ) → n + i ≡ j → slice_get xs i ≡ Some x → Has (enumerate_from n xs) (j, x)
has_numbered n [] x i j e h = cc
has_numbered {X} n (y ∷ xs) x zero j e h =
    let same : y ≡ x = cc in
    let first : n ≡ j = omega (arith, e) in
    (zero, ap₂ (λ (a : ℕ) (b : X). let pair : ℕ × X = (a, b) in Some pair) first same)
has_numbered n (y ∷ xs) x (suc i) j e h = later (n, y) (enumerate_from (n + 1) xs) (j, x) (has_numbered (n + 1) xs x i j (omega (arith, e)) h)

pub numbered_has : {X : Type 0} (n : ℕ) (xs : List X) (e : ℕ × X) (i : ℕ) → slice_get (enumerate_from n xs) i ≡ Some e → (e.0 ≡ n + i) × (slice_get xs i ≡ Some e.1)
numbered_has n [] e i h = cc
numbered_has {X} n (y ∷ xs) e zero h =
    let same : (n, y) ≡ e = cc in
    (sym (ap (λ (e : ℕ × X). e.0) same) ∙ omega arith, ap (λ (e : ℕ × X). Some e.1) same)
numbered_has n (y ∷ xs) e (suc i) h =
    let rest = numbered_has (n + 1) xs e i h in
    (rest.0 ∙ omega arith, rest.1)

pub has_chosen : {X Y : Type 0} (h : X → Option Y) (xs : List X) (x : X) (i : ℕ) (y : Y) → slice_get xs i ≡ Some x → h x ≡ Some y → Has (filter_map h xs) y
has_chosen h [] x i y e t = cc
has_chosen {X} {Y} h (z ∷ xs) x zero y e t =
    let same : z ≡ x = cc in
    (zero, ap (λ (o : Option Y). slice_get (cons_option o (filter_map h xs)) zero) (ap h same ∙ t))
has_chosen {X} {Y} h (z ∷ xs) x (suc i) y e t = by (h z) (has_chosen h xs x i y e t)
  where
    by : (o : Option Y) → Has (filter_map h xs) y → Has (cons_option o (filter_map h xs)) y
    by None rest = rest
    by (Some w) rest = later w (filter_map h xs) y rest

pub chosen_has : {X Y : Type 0} (h : X → Option Y) (xs : List X) (y : Y) (i : ℕ) → slice_get (filter_map h xs) i ≡ Some y → (x : X) × (Has xs x) × (h x ≡ Some y)
chosen_has h [] y i e = cc
chosen_has {X} {Y} h (z ∷ xs) y i e = by (λ i k. chosen_has h xs y i k) (h z) refl i e
  where
    Chosen : List X → Type 0
    Chosen xs = (x : X) × (Has xs x) × (h x ≡ Some y)

    more : Chosen xs → Chosen (z ∷ xs)
    more rest = (rest.0, later z xs rest.0 rest.1, rest.2)

    by : ((i : ℕ) → slice_get (filter_map h xs) i ≡ Some y → Chosen xs) → (o : Option Y) → h z ≡ o → (i : ℕ) → slice_get (cons_option o (filter_map h xs)) i ≡ Some y → Chosen (z ∷ xs)
    by rest None t i e = more (rest i e)
    by rest (Some w) t zero e = let same : w ≡ y = cc in (z, (zero, refl), t ∙ ap (λ w. Some w) same)
    by rest (Some w) t (suc i) e = more (rest i e)

pub has_any : (k : ℕ) (xs : List ℕ) (i : ℕ) → slice_get xs i ≡ Some k → list_any (nat_eq k) xs ≡ true
has_any k [] i h = cc
has_any k (x ∷ xs) zero h = let same : x ≡ k = cc in grind (arith, nat_tests)
has_any k (x ∷ xs) (suc i) h = let rest = has_any k xs i h in grind (arith, nat_tests)
