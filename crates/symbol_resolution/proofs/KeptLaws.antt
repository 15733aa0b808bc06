-- How many definitions are kept, and the numbers of lists of them in a row.
use Rattle.std.proofs.Common.{◌≡◌, ℕ, ◌+◌, ◌<◌, ◌≤◌, List, [], ◌∷◌, ◌++◌, length, map, Option, Some, None, Bool, true, false, sum_by, get_or, drop, refl, sym, ap, ◌∙◌, arith, append_assoc}
use denote.Ref.{Bor}
use Rattle.std.proofs.lemmas.List.{length-append, length-map, at_drop_more}
use Rattle.std.proofs.lemmas.List.Sums.{sum_by-cons}
use Rattle.gimple_ir.specs.Checks.{is_extern}
use Rattle.gimple_ir.specs.declared.types.Linkage.{Linkage}
use Rattle.gimple_ir.specs.declared.types.Linkage.TheVariants.{Extern, Strong, Weak, Static}
use Rattle.gimple_ir.specs.declared.types.Array.{Array}
use Rattle.gimple_ir.specs.declared.types.Function.{Function}
use Rattle.gimple_ir.specs.declared.types.Module.{Module}
use Rattle.lto_object.specs.Objects.{ObjectData}
use Rattle.symbol_resolution.specs.declared.marks.Mark.{Mark}
use Rattle.symbol_resolution.specs.declared.numbers.Numbered.{Numbered}
use Rattle.symbol_resolution.specs.Kept.{KeptFunction, KeptArray, kept_as, with_kept, kept_function, kept_functions_in, kept_functions, kept_array, kept_arrays_in, kept_arrays}
use Rattle.symbol_resolution.specs.Groups.{named}
use Rattle.symbol_resolution.specs.Numbers.{is_static, with_number, function_numbers, array_numbers}

-- a declaration is not kept
pub kept_is_defined : (marks : List (List ℕ × Mark)) (function : Bool) (object place : ℕ) (linkage : Linkage) (name : List ℕ) (exported : Bool)
    → kept_as marks function object place linkage name ≡ Some exported → is_extern linkage ≡ false
kept_is_defined marks function object place Extern name exported h = absurd cc
kept_is_defined marks function object place Strong name exported h = refl
kept_is_defined marks function object place Weak name exported h = refl
kept_is_defined marks function object place Static name exported h = refl

at_most_one : {A : Type 0} (found : Option Bool) (kept : Bool → A) (rest : List A) (n : ℕ) → length rest ≤ n → length (with_kept found kept rest) ≤ 1 + n
at_most_one None kept rest n h = omega (arith, h)
at_most_one (Some exported) kept rest n h = omega (arith, h)

pub few_functions_in : (marks : List (List ℕ × Mark)) (object : ℕ) (source : Module) (place : ℕ) (fs : List Function) → length (kept_functions_in marks object source place fs) ≤ length fs
few_functions_in marks object source place [] = omega arith
few_functions_in marks object source place (f ∷ fs) =
    let most = at_most_one (kept_as marks true object place f.linkage f.name) (kept_function object source place f) (kept_functions_in marks object source (place + 1) fs) (length fs) (few_functions_in marks object source (place + 1) fs) in
    omega (arith, most)

pub few_arrays_in : (marks : List (List ℕ × Mark)) (object place : ℕ) (items : List Array) → length (kept_arrays_in marks object place items) ≤ length items
few_arrays_in marks object place [] = omega arith
few_arrays_in marks object place (a ∷ items) =
    let most = at_most_one (kept_as marks false object place a.linkage a.name) (kept_array object place a) (kept_arrays_in marks object (place + 1) items) (length items) (few_arrays_in marks object (place + 1) items) in
    omega (arith, most)

pub few_functions : (marks : List (List ℕ × Mark)) (object : ℕ) (os : List ObjectData) → length (kept_functions marks object os) ≤ sum_by (λ o. length o.source.functions) os
few_functions marks object [] = omega arith
few_functions marks object (o ∷ os) =
    let here = few_functions_in marks object o.source 0 o.source.functions in
    let rest = few_functions marks (object + 1) os in
    omega (arith, here, rest, length-append (kept_functions_in marks object o.source 0 o.source.functions) (kept_functions marks (object + 1) os), sum_by-cons (λ (x : ObjectData). length x.source.functions) o os)

pub few_arrays : (marks : List (List ℕ × Mark)) (object : ℕ) (os : List ObjectData) → length (kept_arrays marks object os) ≤ sum_by (λ o. length o.source.arrays) os
few_arrays marks object [] = omega arith
few_arrays marks object (o ∷ os) =
    let here = few_arrays_in marks object 0 o.source.arrays in
    let rest = few_arrays marks (object + 1) os in
    omega (arith, here, rest, length-append (kept_arrays_in marks object 0 o.source.arrays) (kept_arrays marks (object + 1) os), sum_by-cons (λ (x : ObjectData). length x.source.arrays) o os)

-- ---- numbers of lists in a row

pub function_numbers-append : (n : ℕ) (xs ys : List KeptFunction) → function_numbers n (xs ++ ys) ≡ function_numbers n xs ++ function_numbers (n + length xs) ys
function_numbers-append n [] ys = let e : n ≡ n + 0 = omega arith in ap (λ (k : ℕ). function_numbers k ys) e
function_numbers-append n (x ∷ xs) ys =
    let e : n + 1 + length xs ≡ n + length (x ∷ xs) = omega arith in
    ap (λ (rest : List (List ℕ × Numbered)). (x.function.name, with_number n x.object x.place (is_static x.function.linkage)) ∷ rest)
    (function_numbers-append (n + 1) xs ys ∙ ap (λ (k : ℕ). function_numbers (n + 1) xs ++ function_numbers k ys) e)

pub array_numbers-append : (n : ℕ) (xs ys : List KeptArray) → array_numbers n (xs ++ ys) ≡ array_numbers n xs ++ array_numbers (n + length xs) ys
array_numbers-append n [] ys = let e : n ≡ n + 0 = omega arith in ap (λ (k : ℕ). array_numbers k ys) e
array_numbers-append n (x ∷ xs) ys =
    let e : n + 1 + length xs ≡ n + length (x ∷ xs) = omega arith in
    ap (λ (rest : List (List ℕ × Numbered)). (x.item.name, with_number n x.object x.place (is_static x.item.linkage)) ∷ rest)
    (array_numbers-append (n + 1) xs ys ∙ ap (λ (k : ℕ). array_numbers (n + 1) xs ++ array_numbers k ys) e)

pub length-function_numbers : (n : ℕ) (xs : List KeptFunction) → length (function_numbers n xs) ≡ length xs
length-function_numbers n [] = refl
length-function_numbers n (x ∷ xs) = let rest = length-function_numbers (n + 1) xs in omega (arith, rest)

pub length-array_numbers : (n : ℕ) (xs : List KeptArray) → length (array_numbers n xs) ≡ length xs
length-array_numbers n [] = refl
length-array_numbers n (x ∷ xs) = let rest = length-array_numbers (n + 1) xs in omega (arith, rest)

-- ---- one object more

functions_step : (marks : List (List ℕ × Mark)) (object : ℕ) (os : List ObjectData) (o : ObjectData) → object < length os → o ≡ get_or os object o
    → kept_functions marks object (drop object os) ≡ kept_functions_in marks object o.source 0 o.source.functions ++ kept_functions marks (object + 1) (drop (object + 1) os)
functions_step marks object os o h is =
    at_drop_more (kept_functions marks object) os object o h ∙ ap (λ (x : ObjectData). kept_functions marks object (x ∷ drop (object + 1) os)) (sym is)

pub functions_grown : (marks : List (List ℕ × Mark)) (object : ℕ) (os : List ObjectData) (o : ObjectData) (whole old new : List (List ℕ × Numbered)) → object < length os → o ≡ get_or os object o
    → new ≡ old ++ function_numbers (length old) (kept_functions_in marks object o.source 0 o.source.functions)
    → old ++ function_numbers (length old) (kept_functions marks object (drop object os)) ≡ whole
    → new ++ function_numbers (length new) (kept_functions marks (object + 1) (drop (object + 1) os)) ≡ whole
functions_grown marks object os o whole old new h is made before =
    let kept = kept_functions_in marks object o.source 0 o.source.functions in
    let rest = kept_functions marks (object + 1) (drop (object + 1) os) in
    let len = ap length made ∙ length-append old (function_numbers (length old) kept) ∙ ap (λ (k : ℕ). length old + k) (length-function_numbers (length old) kept) in
    ap (λ (k : ℕ). new ++ function_numbers k rest) len
    ∙ ap (λ (xs : List (List ℕ × Numbered)). xs ++ function_numbers (length old + length kept) rest) made
    ∙ append_assoc old (function_numbers (length old) kept) (function_numbers (length old + length kept) rest)
    ∙ ap (λ (xs : List (List ℕ × Numbered)). old ++ xs) (sym (function_numbers-append (length old) kept rest))
    ∙ ap (λ (ks : List KeptFunction). old ++ function_numbers (length old) ks) (sym (functions_step marks object os o h is))
    ∙ before

arrays_step : (marks : List (List ℕ × Mark)) (object : ℕ) (os : List ObjectData) (o : ObjectData) → object < length os → o ≡ get_or os object o
    → kept_arrays marks object (drop object os) ≡ kept_arrays_in marks object 0 o.source.arrays ++ kept_arrays marks (object + 1) (drop (object + 1) os)
arrays_step marks object os o h is =
    at_drop_more (kept_arrays marks object) os object o h ∙ ap (λ (x : ObjectData). kept_arrays marks object (x ∷ drop (object + 1) os)) (sym is)

pub arrays_grown : (marks : List (List ℕ × Mark)) (object : ℕ) (os : List ObjectData) (o : ObjectData) (whole old new : List (List ℕ × Numbered)) → object < length os → o ≡ get_or os object o
    → new ≡ old ++ array_numbers (length old) (kept_arrays_in marks object 0 o.source.arrays)
    → old ++ array_numbers (length old) (kept_arrays marks object (drop object os)) ≡ whole
    → new ++ array_numbers (length new) (kept_arrays marks (object + 1) (drop (object + 1) os)) ≡ whole
arrays_grown marks object os o whole old new h is made before =
    let kept = kept_arrays_in marks object 0 o.source.arrays in
    let rest = kept_arrays marks (object + 1) (drop (object + 1) os) in
    let len = ap length made ∙ length-append old (array_numbers (length old) kept) ∙ ap (λ (k : ℕ). length old + k) (length-array_numbers (length old) kept) in
    ap (λ (k : ℕ). new ++ array_numbers k rest) len
    ∙ ap (λ (xs : List (List ℕ × Numbered)). xs ++ array_numbers (length old + length kept) rest) made
    ∙ append_assoc old (array_numbers (length old) kept) (array_numbers (length old + length kept) rest)
    ∙ ap (λ (xs : List (List ℕ × Numbered)). old ++ xs) (sym (array_numbers-append (length old) kept rest))
    ∙ ap (λ (ks : List KeptArray). old ++ array_numbers (length old) ks) (sym (arrays_step marks object os o h is))
    ∙ before

-- ---- one definition more

pub functions_in_step : (marks : List (List ℕ × Mark)) (object : ℕ) (source : Module) (place : ℕ) (fs : List Function) (f : Function) → place < length fs → f ≡ get_or fs place f
    → kept_functions_in marks object source place (drop place fs) ≡ with_kept (kept_as marks true object place f.linkage f.name) (kept_function object source place f) (kept_functions_in marks object source (place + 1) (drop (place + 1) fs))
functions_in_step marks object source place fs f h is =
    at_drop_more (kept_functions_in marks object source place) fs place f h ∙ ap (λ (x : Function). kept_functions_in marks object source place (x ∷ drop (place + 1) fs)) (sym is)

pub none_kept : {A B : Type 0} (g : A → B) (found : Option Bool) (kept : Bool → A) (rest all : List A) (old new whole : List B)
    → found ≡ None → new ≡ old → all ≡ with_kept found kept rest → old ++ map g all ≡ whole → new ++ map g rest ≡ whole
none_kept g found kept rest all old new whole none made split before =
    ap (λ xs. xs ++ map g rest) made
    ∙ ap (λ xs. old ++ map g xs) (sym (split ∙ ap (λ o. with_kept o kept rest) none))
    ∙ before

pub some_kept : {A B : Type 0} (g : A → B) (found : Option Bool) (exported : Bool) (kept : Bool → A) (rest all : List A) (old new whole : List B) (m : B)
    → found ≡ Some exported → m ≡ g (kept exported) → new ≡ old ++ m ∷ [] → all ≡ with_kept found kept rest → old ++ map g all ≡ whole → new ++ map g rest ≡ whole
some_kept g found exported kept rest all old new whole m some m_is made split before =
    ap (λ xs. xs ++ map g rest) made
    ∙ append_assoc old (m ∷ []) (map g rest)
    ∙ ap (λ y. old ++ (y ∷ map g rest)) m_is
    ∙ ap (λ xs. old ++ map g xs) (sym (split ∙ ap (λ o. with_kept o kept rest) some))
    ∙ before

pub length-named : {T : Type 0} (es : List (Bor (List ℕ) × T)) → length (named es) ≡ length es
length-named es = length-map es (λ e. (e.0.now, e.1))
