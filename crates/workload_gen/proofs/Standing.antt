-- Where functions stand in a module's list: the number at a place has that place, so no two names are equal.
use Rattle.std.proofs.Common.{◌≡◌, ℕ, zero, suc, ◌+◌, ◌*◌, ◌-◌, ◌/◌, ◌<◌, ◌≤◌, ◌^◌, List, [], ◌∷◌, ◌++◌, cond, map, take, length, Bool, true, false, not, ◌&&◌, nat_eq, codes, refl, arith, sym, ap, subst, append_assoc, ◌∙◌, inl, inr, if◌then◌else◌}
use Rattle.std.specs.List.{range_with_len, slice_index_or}
use Rattle.std.specs.Str.{bytes_eq}
use Rattle.std.proofs.lemmas.Bool.{eq-eqb, cases_lt, true≢false}
use Rattle.std.proofs.lemmas.Fmt.{decimal_injective}
use Rattle.std.proofs.lemmas.List.{length-append, length-map, map-append, get_or_append_left, get_or-append-add, get_or-map, get_or-take, get_or_default, length-take-le}
use Rattle.std.proofs.Math.Seq.{get_or-append_seam}
use Rattle.std.proofs.lemmas.List.Folds.{list_any_none}
use Rattle.std.proofs.lemmas.List.FromFn.{get_or-range_with_len, length-range_with_len}
use Rattle.std.proofs.lemmas.Slice.Eq.{bytes_eq-Decides}
use Rattle.gimple_ir.specs.declared.types.Function.{Function}
use Rattle.gimple_ir.specs.Names.{is_among}
use Rattle.workload_gen.specs.declared.choices.Choice.{Choice}
use Rattle.workload_gen.specs.Functions.{name_of, declaration, definition, main_of}
use Rattle.workload_gen.specs.Modules.{own_choices, has_call_to, is_declared, declared_below, place_in, definitions_from, main_in, functions_of}
use Rattle.workload_gen.proofs.Declaring.{declared_below-none, declared_below-more}
use Rattle.workload_gen.proofs.Calling.{length-own_choices, false_where}
use Rattle.workload_gen.proofs.Placing.{place_of-own, place_of-other}

-- ---- what is declared

-- a declared number below a limit, and its place among the declared
record IsDeclaredAt (own : List Choice) (m i limit n : ℕ) : Type 0 where
  other : nat_eq (n / 50) m ≡ false
  place : length (declared_below own m n) ≡ i
  below : n < limit

not_own : (a b : Bool) → (a && not b) ≡ true → b ≡ false
not_own true false h = refl
not_own true true h = absurd (cc h)
not_own false b h = absurd (cc h)

declared_last : (own : List Choice) (m n i d : ℕ) (b : Bool) → is_declared own m n ≡ b → length (declared_below own m n) ≤ i
    → i < length (declared_below own m n ++ cond b (n ∷ []) [])
    → IsDeclaredAt own m i (n + 1) (slice_index_or (declared_below own m n ++ cond b (n ∷ []) []) i d)
declared_last own m n i d false is high inside =
    let list = declared_below own m n in
    let long = length-append list [] in
    absurd (omega (arith, long, high, inside))
declared_last own m n i d true is high inside =
    let list = declared_below own m n in
    let long = length-append list (n ∷ []) in
    let last : i ≡ length list = omega (arith, long, high, inside) in
    let at : slice_index_or (list ++ n ∷ []) i d ≡ n = ap (λ (k : ℕ). slice_index_or (list ++ n ∷ []) k d) last ∙ get_or-append_seam list n [] d in
    subst (λ (x : ℕ). IsDeclaredAt own m i (n + 1) x) (sym at)
    (record { other = not_own (has_call_to own m n) (nat_eq (n / 50) m) is; place = sym last; below = omega arith })

declared_one_more : (own : List Choice) (m n i d : ℕ) (b : Bool) → is_declared own m n ≡ b
    → (i < length (declared_below own m n) → IsDeclaredAt own m i n (slice_index_or (declared_below own m n) i d))
    → i < length (declared_below own m n ++ cond b (n ∷ []) [])
    → IsDeclaredAt own m i (n + 1) (slice_index_or (declared_below own m n ++ cond b (n ∷ []) []) i d)
declared_one_more own m n i d b is before inside =
    let list = declared_below own m n in
    elim (cases_lt i (length list)) [
      | inl low ↦
          let at = get_or_append_left list (cond b (n ∷ []) []) d i low in
          let h = before low in
          subst (λ (x : ℕ). IsDeclaredAt own m i (n + 1) x) (sym at) (record { other = h.other; place = h.place; below = omega (arith, h.below) })
      | inr high ↦ declared_last own m n i d b is high inside
    ]

declared_at : (own : List Choice) (m n i d : ℕ) → i < length (declared_below own m n)
    → IsDeclaredAt own m i n (slice_index_or (declared_below own m n) i d)
declared_at own m zero i d inside =
    let none = ap length (declared_below-none own m) in
    absurd (omega (arith, none, inside))
declared_at own m (suc n) i d inside =
    let e : suc n ≡ n + 1 = omega arith in
    let more : declared_below own m (suc n) ≡ declared_below own m n ++ cond (is_declared own m n) (n ∷ []) [] =
    ap (declared_below own m) e ∙ declared_below-more own m n in
    let here = declared_one_more own m n i d (is_declared own m n) refl (λ low. declared_at own m n i d low)
    (subst (λ (xs : List ℕ). i < length xs) more inside) in
    subst (λ (k : ℕ). IsDeclaredAt own m i k (slice_index_or (declared_below own m (suc n)) i d)) (sym e)
    (subst (λ (xs : List ℕ). IsDeclaredAt own m i (n + 1) (slice_index_or xs i d)) (sym more) here)

-- ---- the numbers of a module, declared ones first

abbrev pub numbers_of : List Choice → ℕ → List ℕ
numbers_of choices m =
    declared_below (own_choices choices m) m (length choices) ++ range_with_len (50 * m) (length (own_choices choices m))

-- the number at a place
pub record StandsAt (choices : List Choice) (m i n : ℕ) : Type 0 where
  pub place : place_in choices m n ≡ i
  pub below : n < length choices

pub stands_at : (choices : List Choice) (m i d : ℕ) → i < length (numbers_of choices m) → StandsAt choices m i (slice_index_or (numbers_of choices m) i d)
stands_at choices m i d inside =
    let own = own_choices choices m in
    let list = declared_below own m (length choices) in
    let range = range_with_len (50 * m) (length own) in
    let long = length-own_choices choices m in
    elim (cases_lt i (length list)) [
      | inl low ↦
          let h = declared_at own m (length choices) i d low in
          let at = get_or_append_left list range d i low in
          subst (λ (n : ℕ). StandsAt choices m i n) (sym at)
          (record { place = place_of-other own m (length choices) (slice_index_or list i d) h.other ∙ h.place; below = h.below })
      | inr high ↦
          let t = i - length list in
          let e : length list + t ≡ i = omega (arith, high) in
          let all = length-append list range in
          let many = length-range_with_len (50 * m) (length own) in
          let small : t < length own = omega (arith, all, many, high, inside) in
          let at : slice_index_or (list ++ range) i d ≡ 50 * m + t =
          ap (λ (k : ℕ). slice_index_or (list ++ range) k d) (sym e) ∙ get_or-append-add list range t d ∙ get_or-range_with_len (50 * m) (length own) t d small in
          let mine = place_of-own own m (length choices) (50 * m + t) (eq-eqb ((50 * m + t) / 50) m (omega (arith, small, long))) in
          subst (λ (n : ℕ). StandsAt choices m i n) (sym at)
          (record { place = mine ∙ omega (arith, e, small, long); below = omega (arith, small, long) })
    ]

-- ---- names

abbrev pub names_in : List Function → List (List ℕ)
names_in functions = map (λ (f : Function). f.name) functions

names-append : (xs ys : List Function) → names_in (xs ++ ys) ≡ names_in xs ++ names_in ys
names-append xs ys = map-append (λ (f : Function). f.name) xs ys

declared_names : (numbers : List ℕ) → names_in (map declaration numbers) ≡ map name_of numbers
unfolding declaration
declared_names [] = refl
declared_names (n ∷ ns) = ap (λ names. name_of n ∷ names) (declared_names ns)

defined_names : (place : ℕ → ℕ) (n : ℕ) (own : List Choice) → names_in (definitions_from place n own) ≡ map name_of (range_with_len n (length own))
unfolding definitions_from definition
defined_names place n [] = refl
defined_names place n (c ∷ cs) = ap (λ names. name_of n ∷ names) (defined_names place (n + 1) cs)

main_names : (choices : List Choice) (state : ℕ) (b : Bool) (place : ℕ → ℕ)
    → names_in (if b then main_of place (length choices) state ∷ [] else []) ≡ (if b then codes "main" ∷ [] else [])
unfolding main_of
main_names choices state true place = refl
main_names choices state false place = refl

-- the name of `main`, in the first module
abbrev main_name : ℕ → List (List ℕ)
main_name m = if nat_eq m 0 then codes "main" ∷ [] else []

pub names_are : (choices : List Choice) (state m : ℕ) → names_in (functions_of choices state m) ≡ map name_of (numbers_of choices m) ++ main_name m
unfolding functions_of main_in
names_are choices state m =
    let own = own_choices choices m in
    let list = declared_below own m (length choices) in
    let place = place_in choices m in
    let defined = definitions_from place (50 * m) own in
    let last = if nat_eq m 0 then main_of place (length choices) state ∷ [] else [] in
    let range = range_with_len (50 * m) (length own) in
    let back : names_in (defined ++ last) ≡ map name_of range ++ main_name m =
    names-append defined last ∙ ap (λ xs. xs ++ names_in last) (defined_names place (50 * m) own)
    ∙ ap (λ xs. map name_of range ++ xs) (main_names choices state (nat_eq m 0) place) in
    names-append (map declaration list) (defined ++ last) ∙ ap (λ xs. xs ++ names_in (defined ++ last)) (declared_names list)
    ∙ ap (λ xs. map name_of list ++ xs) back ∙ sym (append_assoc (map name_of list) (map name_of range) (main_name m))
    ∙ ap (λ xs. xs ++ main_name m) (sym (map-append name_of list range))

abbrev tail_of : List ℕ → List ℕ
tail_of [] = []
tail_of (b ∷ bs) = bs

name_of_injective : (x y : ℕ) → x < 2 ^ 32 → y < 2 ^ 32 → name_of x ≡ name_of y → x ≡ y
name_of_injective x y a b e = decimal_injective x y (omega (arith, a)) (omega (arith, b)) (ap tail_of e)

abbrev begins_with_f : List ℕ → Bool
begins_with_f [] = false
begins_with_f (b ∷ bs) = nat_eq b 102

name_of_is_not_main : (x : ℕ) → name_of x ≡ codes "main" → ⊥
name_of_is_not_main x e = true≢false (ap begins_with_f e)

-- the name at a place below those of the numbers
name_at : (choices : List Choice) (m i : ℕ) (e : List ℕ) → i < length (numbers_of choices m)
    → slice_index_or (map name_of (numbers_of choices m) ++ main_name m) i e ≡ name_of (slice_index_or (numbers_of choices m) i 0)
name_at choices m i e inside =
    let numbers = numbers_of choices m in
    let long = length-map numbers name_of in
    get_or_append_left (map name_of numbers) (main_name m) e i (omega (arith, long, inside)) ∙ get_or-map name_of numbers i 0 e inside

length-main_name : (b : Bool) → length (if b then codes "main" ∷ [] else []) ≤ 1
length-main_name true = omega arith
length-main_name false = omega arith

main_name_first : (b : Bool) (t : ℕ) (e : List ℕ) → t < length (if b then codes "main" ∷ [] else [])
    → slice_index_or (if b then codes "main" ∷ [] else []) t e ≡ codes "main"
main_name_first true zero e inside = refl
main_name_first true (suc t) e inside = absurd (omega (arith, inside))
main_name_first false t e inside = absurd (omega (arith, inside))

-- no two names are equal
abbrev AreApart : List (List ℕ) → Type 0
AreApart names = (i j : ℕ) (e : List ℕ) → i < j → j < length names → slice_index_or names i e ≡ slice_index_or names j e → ⊥

numbers_apart : (choices : List Choice) (m i j : ℕ) → length choices < 2 ^ 32 → i < j → j < length (numbers_of choices m)
    → name_of (slice_index_or (numbers_of choices m) i 0) ≡ name_of (slice_index_or (numbers_of choices m) j 0) → ⊥
numbers_apart choices m i j few before inside same =
    let x = stands_at choices m i 0 (omega (arith, before, inside)) in
    let y = stands_at choices m j 0 inside in
    let e = name_of_injective _ _ (omega (arith, x.below, few)) (omega (arith, y.below, few)) same in
    let at : i ≡ j = sym x.place ∙ ap (place_in choices m) e ∙ y.place in
    omega (arith, at, before)

names_apart : (choices : List Choice) (m : ℕ) → length choices < 2 ^ 32 → AreApart (map name_of (numbers_of choices m) ++ main_name m)
names_apart choices m few i j e before inside same =
    let numbers = numbers_of choices m in
    let names = map name_of numbers in
    let long = length-map numbers name_of in
    let all = length-append names (main_name m) in
    let one = length-main_name (nat_eq m 0) in
    elim (cases_lt j (length numbers)) [
      | inl low ↦
          numbers_apart choices m i j few before low
          (sym (name_at choices m i e (omega (arith, before, low))) ∙ same ∙ name_at choices m j e low)
      | inr high ↦
          let t = j - length names in
          let is : length names + t ≡ j = omega (arith, high, long) in
          let last : slice_index_or (names ++ main_name m) j e ≡ codes "main" =
          ap (λ (k : ℕ). slice_index_or (names ++ main_name m) k e) (sym is) ∙ get_or-append-add names (main_name m) t e
          ∙ main_name_first (nat_eq m 0) t e (omega (arith, is, all, inside)) in
          name_of_is_not_main _ (sym (name_at choices m i e (omega (arith, before, high, long, all, one, inside))) ∙ same ∙ last)
    ]

among_none : (names : List (List ℕ)) (i : ℕ) (e : List ℕ) → AreApart names → i < length names → is_among (take i names) (slice_index_or names i e) ≡ false
among_none names i e apart inside =
    let name = slice_index_or names i e in
    list_any_none (bytes_eq name) (take i names) (λ k d small.
    let long = length-take-le i names (omega (arith, inside)) in
    let at = get_or-take i names k d (omega (arith, small, long)) in
    let other = λ (h : bytes_eq name (slice_index_or (take i names) k d) ≡ true).
    let same = (bytes_eq-Decides name (slice_index_or (take i names) k d)).0 h in
    apart k i e (omega (arith, small, long)) inside (get_or_default names k e d (omega (arith, small, long, inside)) ∙ sym at ∙ sym same) in
    false_where (bytes_eq name (slice_index_or (take i names) k d)) other)

-- no function has the name of one that stands before it
pub name_is_new : (choices : List Choice) (state m i : ℕ) (e : List ℕ) → length choices < 2 ^ 32 → i < length (functions_of choices state m)
    → is_among (take i (names_in (functions_of choices state m))) (slice_index_or (names_in (functions_of choices state m)) i e) ≡ false
name_is_new choices state m i e few inside =
    let functions = functions_of choices state m in
    let are = names_are choices state m in
    let long = length-map functions (λ (f : Function). f.name) in
    subst (λ (names : List (List ℕ)). is_among (take i names) (slice_index_or names i e) ≡ false) (sym are)
    (among_none (map name_of (numbers_of choices m) ++ main_name m) i e (names_apart choices m few) (omega (arith, long, inside, ap length are)))
