-- Tables with a row for each key, made of the items with that key; one item more changes the row of its key alone.
use Rattle.std.proofs.Common.{◌≡◌, ◌+◌, ◌<◌, ◌≤◌, ℕ, zero, suc, List, [], ◌∷◌, ◌++◌, length, get_or, set, replicate, map, Bool, true, false, cond, refl, sym, ap, ap₂, ◌∙◌, ⊎_elim, arith, not, ◌||◌}
use Rattle.std.specs.Prelude.{nat_eq, All, ◌^◌}
use Rattle.std.specs.List.{filter, range_with_len, list_any}
use Rattle.std.proofs.lemmas.Bool.{cases_eq}
use Rattle.std.proofs.lemmas.Bool.Decides.{nat_tests}
use Rattle.std.proofs.lemmas.List.{append-nil, append_assoc, length-set, same_lists, get_or-set_same, get_or-set_other, set_past, length_push}
use Rattle.std.proofs.lemmas.List.Elements.{filter-append}
use Rattle.std.proofs.lemmas.List.Folds.{list_any-append}
use Rattle.std.proofs.lemmas.List.FromFn.{map-range_with_len_more, length-map-range_with_len, get_or-map-range_with_len}
use Rattle.std.proofs.lemmas.List.Sums.{length-filter, count_by-le-length}
use Rattle.func_summary.specs.declared.places.Place.{Place}
use Rattle.func_summary.specs.declared.assignments.Assignment.{Assignment}
use Rattle.func_summary.specs.declared.assignments.Assigned.TheVariants.{Never, Once, Often}
use Rattle.gimple_ir.specs.declared.summary.JumpFunction.{JumpFunction}
use Rattle.gimple_ir.specs.declared.summary.JumpFunction.TheVariants as jump
use Rattle.func_summary.specs.JumpFunctions.{sole_value}
use Rattle.func_summary.specs.Summaries.{facts_of}
use Rattle.func_summary.specs.Tables.{assigned_of, assigned_more, facts_more, facts_table, HasRoom}

abbrev keyed : {X : Type 0} → (X → ℕ) → ℕ → List X → List X
keyed key j xs = filter (λ y. nat_eq (key y) j) xs

abbrev rows : {X V : Type 0} → (X → ℕ) → (List X → V) → ℕ → List X → List V
rows key of n xs = map (λ j. of (keyed key j xs)) (range_with_len 0 n)

pub nat_eq-same : (a b : ℕ) → a ≡ b → nat_eq a b ≡ true
nat_eq-same a b h = grind (arith, nat_tests)

pub nat_eq-other : (a b : ℕ) → (a ≡ b → ⊥) → nat_eq a b ≡ false
nat_eq-other a b h = grind (arith, nat_tests)

keyed-last : {X : Type 0} (key : X → ℕ) (j : ℕ) (xs : List X) (x : X) → key x ≡ j → keyed key j (xs ++ x ∷ []) ≡ keyed key j xs ++ x ∷ []
keyed-last key j xs x h =
    filter-append (λ y. nat_eq (key y) j) xs (x ∷ [])
    ∙ ap (λ b. keyed key j xs ++ cond b (x ∷ []) []) (nat_eq-same (key x) j h)

keyed-other : {X : Type 0} (key : X → ℕ) (j : ℕ) (xs : List X) (x : X) → (key x ≡ j → ⊥) → keyed key j (xs ++ x ∷ []) ≡ keyed key j xs
keyed-other key j xs x h =
    filter-append (λ y. nat_eq (key y) j) xs (x ∷ [])
    ∙ ap (λ b. keyed key j xs ++ cond b (x ∷ []) []) (nat_eq-other (key x) j h)
    ∙ append-nil (keyed key j xs)

pub rows_more : {X V : Type 0} (key : X → ℕ) (of : List X → V) (n : ℕ) (xs : List X) (x : X) (table : List V) (v : V)
    → table ≡ rows key of n xs → v ≡ of (keyed key (key x) xs ++ x ∷ []) → set table (key x) v ≡ rows key of n (xs ++ x ∷ [])
rows_more {X} {V} key of n xs x table v is here =
    same_lists (set table (key x) v) (rows key of n (xs ++ x ∷ [])) (long ∙ sym (length-map-range_with_len after 0 n)) at
  where
    after : ℕ → V
    after j = of (keyed key j (xs ++ x ∷ []))

    before : ℕ → V
    before j = of (keyed key j xs)

    long : length (set table (key x) v) ≡ n
    long = length-set table (key x) v ∙ ap length is ∙ length-map-range_with_len before 0 n

    wide : length table ≡ n
    wide = ap length is ∙ length-map-range_with_len before 0 n

    at : (k : ℕ) (d : V) → k < length (set table (key x) v) → get_or (set table (key x) v) k d ≡ get_or (rows key of n (xs ++ x ∷ [])) k d
    at k d h =
        let inside : k < n = omega (arith, long, h) in
        let right = sym (get_or-map-range_with_len after 0 n k k d inside (omega arith)) in
        ⊎_elim
        (λ same. let e = keyed-last key k xs x same in
        rw (sym same) (get_or-set_same table (key x) v d (omega (arith, wide, inside, same))) ∙ here ∙ ap (λ j. of (keyed key j xs ++ x ∷ [])) same ∙ sym (ap of e) ∙ right)
        (λ other. get_or-set_other table (key x) k v d (λ e. other (sym e)) ∙ ap (λ t. get_or t k d) is
        ∙ get_or-map-range_with_len before 0 n k k d inside (omega arith) ∙ sym (ap of (keyed-other key k xs x other)) ∙ right)
        (cases_eq (key x) k)

-- an item whose key has no row
pub rows_past : {X V : Type 0} (key : X → ℕ) (of : List X → V) (n : ℕ) (xs : List X) (x : X) (table : List V)
    → table ≡ rows key of n xs → length table ≤ key x → table ≡ rows key of n (xs ++ x ∷ [])
rows_past key of n xs x table is h =
    sym (set_past table (key x) (of (keyed key (key x) xs ++ x ∷ [])) h) ∙ rows_more key of n xs x table (of (keyed key (key x) xs ++ x ∷ [])) is refl

pub length-rows : {X V : Type 0} (key : X → ℕ) (of : List X → V) (n : ℕ) (xs : List X) (table : List V) → table ≡ rows key of n xs → length table ≡ n
length-rows key of n xs table is = ap length is ∙ length-map-range_with_len (λ j. of (keyed key j xs)) 0 n

-- the row at a key
pub rows_at : {X V : Type 0} (key : X → ℕ) (of : List X → V) (n : ℕ) (xs : List X) (table : List V) (k : ℕ) (d : V)
    → table ≡ rows key of n xs → k < length table → get_or table k d ≡ of (keyed key k xs)
rows_at key of n xs table k d is h =
    let wide = ap length is ∙ length-map-range_with_len (λ j. of (keyed key j xs)) 0 n in
    ap (λ t. get_or t k d) is ∙ get_or-map-range_with_len (λ j. of (keyed key j xs)) 0 n k k d (omega (arith, wide, h)) (omega arith)

-- no items
pub rows_none : {V : Type 0} (v : V) (a n : ℕ) → replicate n v ≡ map (λ (j : ℕ). v) (range_with_len a n)
rows_none v a zero = refl
rows_none v a (suc n) = ap (λ vs. v ∷ vs) (rows_none v (a + 1) n)

-- one more of a list made from a function of the number
pub made_more : {X : Type 0} (f : ℕ → X) (old now new : List X) (i : ℕ) (x : X) → now ≡ old ++ map f (range_with_len 0 i) → new ≡ now ++ x ∷ [] → x ≡ f i
    → new ≡ old ++ map f (range_with_len 0 (i + 1))
made_more f old now new i x before push is =
    push ∙ ap (λ ys. ys ++ x ∷ []) before ∙ append_assoc old (map f (range_with_len 0 i)) (x ∷ [])
    ∙ ap (λ y. old ++ (map f (range_with_len 0 i) ++ y ∷ [])) is
    ∙ ap (λ ys. old ++ ys) (sym (map-range_with_len_more f 0 i i (omega arith)))

-- ---- the two tables

pub assigned_of-more : (before : List Assignment) (a : Assignment) → assigned_of (before ++ a ∷ []) ≡ assigned_more (assigned_of before) a.value
assigned_of-more [] a = refl
assigned_of-more (b ∷ []) a = refl
assigned_of-more (b ∷ c ∷ before) a = refl

or-last : (a b : Bool) → (a || (b || false)) ≡ (a || b)
or-last true b = refl
or-last false true = refl
or-last false false = refl

-- what a row says of the assignments

pub sole-never : (js : List Assignment) → assigned_of js ≡ Never → jump.Unknown ≡ sole_value js
sole-never [] h = refl
sole-never (a ∷ []) h = cc
sole-never (a ∷ b ∷ js) h = refl

pub sole-once : (js : List Assignment) (v : JumpFunction) → assigned_of js ≡ Once v → v ≡ sole_value js
sole-once [] v h = cc
sole-once (a ∷ []) v h = cc
sole-once (a ∷ b ∷ js) v h = cc

pub sole-often : (js : List Assignment) → assigned_of js ≡ Often → jump.Unknown ≡ sole_value js
sole-often [] h = refl
sole-often (a ∷ []) h = cc
sole-often (a ∷ b ∷ js) h = refl

some-left : (a : Assignment) (js : List Assignment) → false ≡ nat_eq (length (a ∷ js)) 0
some-left a js = sym (nat_eq-other (length (a ∷ js)) 0 (λ e. absurd (omega (arith, e))))

pub count-never : (js : List Assignment) → assigned_of js ≡ Never → true ≡ nat_eq (length js) 0
count-never [] h = refl
count-never (a ∷ []) h = cc
count-never (a ∷ b ∷ js) h = cc

pub count-once : (js : List Assignment) (v : JumpFunction) → assigned_of js ≡ Once v → false ≡ nat_eq (length js) 0
count-once [] v h = cc
count-once (a ∷ js) v h = some-left a js

pub count-often : (js : List Assignment) → assigned_of js ≡ Often → false ≡ nat_eq (length js) 0
count-often [] h = cc
count-often (a ∷ js) h = some-left a js

pub facts_of-more : (before : List Place) (p : Place) → facts_of (before ++ p ∷ []) ≡ facts_more (facts_of before) p
facts_of-more before p =
    let used = list_any-append (λ q. not q.is_argument) before (p ∷ []) ∙ or-last (list_any (λ q. not q.is_argument) before) (not p.is_argument) in
    ap₂ (λ w u. record { weight = w; used_here = u }) (length_push before p) used

-- fewer than 2^32 places leave room for one more
pub facts_table-HasRoom : (n : ℕ) (places : List Place) → length places + 1 < 2 ^ 32 → All HasRoom (facts_table n places)
facts_table-HasRoom n places h k d inside =
    let named = λ (q : Place). nat_eq q.component k in
    let at = rows_at (λ q. q.component) facts_of n places (facts_table n places) k d refl inside in
    rw at (omega (arith, h, length-filter named places, count_by-le-length named places))
