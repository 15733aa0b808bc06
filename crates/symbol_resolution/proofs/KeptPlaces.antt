-- What is kept of lists of definitions, and the number under which each is found by its name.
use Rattle.std.proofs.Common.{◌≡◌, ◌⊎◌, inl, inr, ◌+◌, ℕ, zero, suc, List, [], ◌∷◌, ◌++◌, Bool, true, false, Some, None, refl, sym, ap, ap₂, ◌∙◌, arith, subst}
use Rattle.std.specs.Prelude.{Option, slice_get}
use Rattle.std.specs.List.{find}
use Rattle.std.specs.Option.{option_map_or}
use Rattle.std.specs.Str.{bytes_eq}
use Rattle.gimple_ir.specs.declared.types.Array.{Array}
use Rattle.gimple_ir.specs.declared.types.Function.{Function}
use Rattle.gimple_ir.specs.declared.types.Module.{Module}
use Rattle.lto_object.specs.Objects.{ObjectData}
use Rattle.symbol_resolution.specs.declared.marks.Mark.{Mark}
use Rattle.symbol_resolution.specs.declared.numbers.Numbered.{Numbered}
use Rattle.symbol_resolution.specs.Groups.{of_name}
use Rattle.symbol_resolution.specs.Kept.{KeptFunction, KeptArray, kept_as, with_kept, kept_function, kept_functions_in, kept_functions, kept_array, kept_arrays_in, kept_arrays}
use Rattle.symbol_resolution.specs.Numbers.{is_static, with_number, function_numbers, array_numbers}
use Rattle.symbol_resolution.proofs.Membership.{Has, later, has_left, has_right, has_either, found_has, has_found, named_has, has_named}

-- ---- kept, place by place

abbrev selected : {X K : Type 0} → (ℕ → X → Option Bool) → (ℕ → X → Bool → K) → ℕ → List X → List K
selected keep make n [] = []
selected keep make n (x ∷ xs) = with_kept (keep n x) (make n x) (selected keep make (n + 1) xs)

record IsSelected {X K : Type 0} (keep : ℕ → X → Option Bool) (make : ℕ → X → Bool → K) (n : ℕ) (xs : List X) (k : K) : Type 0 where
  index : ℕ
  number : ℕ
  item : X
  exported : Bool
  at : n + index ≡ number
  here : slice_get xs index ≡ Some item
  keeps : keep number item ≡ Some exported
  made : make number item exported ≡ k

selected_at : {X K : Type 0} (keep : ℕ → X → Option Bool) (make : ℕ → X → Bool → K) (n : ℕ) (xs : List X) (k : K) (i : ℕ) → slice_get (selected keep make n xs) i ≡ Some k
    → IsSelected keep make n xs k
selected_at keep make n [] k i h = cc
selected_at {X} {K} keep make n (x ∷ xs) k i h = by (λ i h. selected_at keep make (n + 1) xs k i h) (keep n x) refl i h
  where
    more : IsSelected keep make (n + 1) xs k → IsSelected keep make n (x ∷ xs) k
    more s = record { index = suc s.index; number = s.number; item = s.item; exported = s.exported; at = let e = s.at in omega (arith, e); here = s.here; keeps = s.keeps; made = s.made }

    by : ((i : ℕ) → slice_get (selected keep make (n + 1) xs) i ≡ Some k → IsSelected keep make (n + 1) xs k) → (o : Option Bool) → keep n x ≡ o
        → (i : ℕ) → slice_get (with_kept o (make n x) (selected keep make (n + 1) xs)) i ≡ Some k → IsSelected keep make n (x ∷ xs) k
    by rest None t i h = more (rest i h)
    by rest (Some e) t zero h = record { index = 0; number = n; item = x; exported = e; at = omega arith; here = refl; keeps = t; made = cc }
    by rest (Some e) t (suc i) h = more (rest i h)

past_kept : {K : Type 0} (o : Option Bool) (make : Bool → K) (rest : List K) (k : K) → Has rest k → Has (with_kept o make rest) k
past_kept None make rest k h = h
past_kept (Some e) make rest k h = later (make e) rest k h

has_selected : {X K : Type 0} (keep : ℕ → X → Option Bool) (make : ℕ → X → Bool → K) (n : ℕ) (xs : List X) (x : X) (e : Bool) (i j : ℕ) → slice_get xs i ≡ Some x → n + i ≡ j
    → keep j x ≡ Some e → Has (selected keep make n xs) (make j x e)
has_selected keep make n [] x e i j h at t = cc
has_selected keep make n (y ∷ xs) x e zero j h at t =
    let same : y ≡ x = cc in
    let first : n ≡ j = omega (arith, at) in
    let told : keep n y ≡ Some e = ap₂ keep first same ∙ t in
    (zero, ap (λ o. slice_get (with_kept o (make n y) (selected keep make (n + 1) xs)) zero) told ∙ ap₂ (λ a b. Some (make a b e)) first same)
has_selected keep make n (y ∷ xs) x e (suc i) j h at t =
    past_kept (keep n y) (make n y) (selected keep make (n + 1) xs) (make j x e) (has_selected keep make (n + 1) xs x e i j h (omega (arith, at)) t)

abbrev joined : {X K : Type 0} → (ℕ → X → List K) → ℕ → List X → List K
joined part n [] = []
joined part n (x ∷ xs) = part n x ++ joined part (n + 1) xs

record IsJoined {X K : Type 0} (part : ℕ → X → List K) (n : ℕ) (xs : List X) (k : K) : Type 0 where
  index : ℕ
  number : ℕ
  item : X
  at : n + index ≡ number
  here : slice_get xs index ≡ Some item
  has : Has (part number item) k

joined_at : {X K : Type 0} (part : ℕ → X → List K) (n : ℕ) (xs : List X) (k : K) (i : ℕ) → slice_get (joined part n xs) i ≡ Some k → IsJoined part n xs k
joined_at part n [] k i h = cc
joined_at {X} {K} part n (x ∷ xs) k i h = by (λ i h. joined_at part (n + 1) xs k i h) (has_either (part n x) (joined part (n + 1) xs) k i h)
  where
    by : ((i : ℕ) → slice_get (joined part (n + 1) xs) i ≡ Some k → IsJoined part (n + 1) xs k) → Has (part n x) k ⊎ Has (joined part (n + 1) xs) k → IsJoined part n (x ∷ xs) k
    by rest (inl here) = record { index = 0; number = n; item = x; at = omega arith; here = refl; has = here }
    by rest (inr there) =
        let s = rest there.0 there.1 in
        record { index = suc s.index; number = s.number; item = s.item; at = let e = s.at in omega (arith, e); here = s.here; has = s.has }

has_joined_part : {X K : Type 0} (part : ℕ → X → List K) (n : ℕ) (xs : List X) (x : X) (k : K) (i j : ℕ) → slice_get xs i ≡ Some x → n + i ≡ j → Has (part j x) k → Has (joined part n xs) k
has_joined_part part n [] x k i j h at has = cc
has_joined_part {X} {K} part n (y ∷ xs) x k zero j h at has =
    let same : x ≡ y = cc in
    let first : j ≡ n = omega (arith, at) in
    has_left (part n y) (joined part (n + 1) xs) k (subst (λ (m : ℕ). Has (part m y) k) first (subst (λ (z : X). Has (part j z) k) same has))
has_joined_part part n (y ∷ xs) x k (suc i) j h at has =
    has_right (part n y) (joined part (n + 1) xs) k (has_joined_part part (n + 1) xs x k i j h (omega (arith, at)) has)

-- ---- functions

functions_selected : (marks : List (List ℕ × Mark)) (object : ℕ) (source : Module) (n : ℕ) (fs : List Function)
    → kept_functions_in marks object source n fs ≡ selected (λ place f. kept_as marks true object place f.linkage f.name) (kept_function object source) n fs
functions_selected marks object source n [] = refl
functions_selected marks object source n (f ∷ fs) =
    ap (with_kept (kept_as marks true object n f.linkage f.name) (kept_function object source n f)) (functions_selected marks object source (n + 1) fs)

functions_joined : (marks : List (List ℕ × Mark)) (n : ℕ) (os : List ObjectData)
    → kept_functions marks n os ≡ joined (λ object o. kept_functions_in marks object o.source 0 o.source.functions) n os
functions_joined marks n [] = refl
functions_joined marks n (o ∷ os) = ap (λ rest. kept_functions_in marks n o.source 0 o.source.functions ++ rest) (functions_joined marks (n + 1) os)

-- a function that is kept stands in its object, and its name or linkage keeps it
pub record IsKeptFunction (objects : List ObjectData) (marks : List (List ℕ × Mark)) (k : KeptFunction) : Type 0 where
  pub owner : ObjectData
  pub owner_is : slice_get objects k.object ≡ Some owner
  pub source : k.source ≡ owner.source
  pub here : slice_get owner.source.functions k.place ≡ Some k.function
  pub kept : kept_as marks true k.object k.place k.function.linkage k.function.name ≡ Some k.exported

pub kept_function_at : (objects : List ObjectData) (marks : List (List ℕ × Mark)) (k : KeptFunction) (i : ℕ) → slice_get (kept_functions marks 0 objects) i ≡ Some k → IsKeptFunction objects marks k
kept_function_at objects marks k i h =
    let part = λ (object : ℕ) (o : ObjectData). kept_functions_in marks object o.source 0 o.source.functions in
    let j = joined_at part 0 objects k i (sym (ap (λ ks. slice_get ks i) (functions_joined marks 0 objects)) ∙ h) in
    let keep = λ (place : ℕ) (f : Function). kept_as marks true j.number place f.linkage f.name in
    let s = selected_at keep (kept_function j.number j.item.source) 0 j.item.source.functions k j.has.0
    (sym (ap (λ ks. slice_get ks j.has.0) (functions_selected marks j.number j.item.source 0 j.item.source.functions)) ∙ j.has.1) in
    let object : j.index ≡ j.number = (let e = j.at in omega (arith, e)) in
    let place : s.index ≡ s.number = (let e = s.at in omega (arith, e)) in
    subst (IsKeptFunction objects marks) s.made
    (record {
      owner = j.item;
      owner_is = sym (ap (slice_get objects) object) ∙ j.here;
      source = refl {a = j.item.source};
      here = sym (ap (slice_get j.item.source.functions) place) ∙ s.here;
      kept = s.keeps;
    })

pub has_kept_function : (objects : List ObjectData) (marks : List (List ℕ × Mark)) (object place : ℕ) (o : ObjectData) (f : Function) (exported : Bool)
    → slice_get objects object ≡ Some o → slice_get o.source.functions place ≡ Some f → kept_as marks true object place f.linkage f.name ≡ Some exported
    → Has (kept_functions marks 0 objects) (kept_function object o.source place f exported)
has_kept_function objects marks object place o f exported owner here kept =
    let part = λ (object : ℕ) (o : ObjectData). kept_functions_in marks object o.source 0 o.source.functions in
    let k = kept_function object o.source place f exported in
    let inside = has_selected (λ place f. kept_as marks true object place f.linkage f.name) (kept_function object o.source) 0 o.source.functions f exported place place here (omega arith) kept in
    let in_object : Has (kept_functions_in marks object o.source 0 o.source.functions) k = subst (λ ks. Has ks k) (sym (functions_selected marks object o.source 0 o.source.functions)) inside in
    subst (λ ks. Has ks k) (sym (functions_joined marks 0 objects)) (has_joined_part part 0 objects o k object object owner (omega arith) in_object)

-- ---- arrays

arrays_selected : (marks : List (List ℕ × Mark)) (object n : ℕ) (items : List Array)
    → kept_arrays_in marks object n items ≡ selected (λ place a. kept_as marks false object place a.linkage a.name) (kept_array object) n items
arrays_selected marks object n [] = refl
arrays_selected marks object n (a ∷ items) =
    ap (with_kept (kept_as marks false object n a.linkage a.name) (kept_array object n a)) (arrays_selected marks object (n + 1) items)

arrays_joined : (marks : List (List ℕ × Mark)) (n : ℕ) (os : List ObjectData)
    → kept_arrays marks n os ≡ joined (λ object o. kept_arrays_in marks object 0 o.source.arrays) n os
arrays_joined marks n [] = refl
arrays_joined marks n (o ∷ os) = ap (λ rest. kept_arrays_in marks n 0 o.source.arrays ++ rest) (arrays_joined marks (n + 1) os)

-- an array that is kept stands in its object, and its name or linkage keeps it
pub record IsKeptArray (objects : List ObjectData) (marks : List (List ℕ × Mark)) (k : KeptArray) : Type 0 where
  pub owner : ObjectData
  pub owner_is : slice_get objects k.object ≡ Some owner
  pub here : slice_get owner.source.arrays k.place ≡ Some k.item
  pub kept : kept_as marks false k.object k.place k.item.linkage k.item.name ≡ Some k.exported

pub kept_array_at : (objects : List ObjectData) (marks : List (List ℕ × Mark)) (k : KeptArray) (i : ℕ) → slice_get (kept_arrays marks 0 objects) i ≡ Some k → IsKeptArray objects marks k
kept_array_at objects marks k i h =
    let part = λ (object : ℕ) (o : ObjectData). kept_arrays_in marks object 0 o.source.arrays in
    let j = joined_at part 0 objects k i (sym (ap (λ ks. slice_get ks i) (arrays_joined marks 0 objects)) ∙ h) in
    let keep = λ (place : ℕ) (a : Array). kept_as marks false j.number place a.linkage a.name in
    let s = selected_at keep (kept_array j.number) 0 j.item.source.arrays k j.has.0
    (sym (ap (λ ks. slice_get ks j.has.0) (arrays_selected marks j.number 0 j.item.source.arrays)) ∙ j.has.1) in
    let object : j.index ≡ j.number = (let e = j.at in omega (arith, e)) in
    let place : s.index ≡ s.number = (let e = s.at in omega (arith, e)) in
    subst (IsKeptArray objects marks) s.made
    (record {
      owner = j.item;
      owner_is = sym (ap (slice_get objects) object) ∙ j.here;
      here = sym (ap (slice_get j.item.source.arrays) place) ∙ s.here;
      kept = s.keeps;
    })

pub has_kept_array : (objects : List ObjectData) (marks : List (List ℕ × Mark)) (object place : ℕ) (o : ObjectData) (a : Array) (exported : Bool)
    → slice_get objects object ≡ Some o → slice_get o.source.arrays place ≡ Some a → kept_as marks false object place a.linkage a.name ≡ Some exported
    → Has (kept_arrays marks 0 objects) (kept_array object place a exported)
has_kept_array objects marks object place o a exported owner here kept =
    let part = λ (object : ℕ) (o : ObjectData). kept_arrays_in marks object 0 o.source.arrays in
    let k = kept_array object place a exported in
    let inside = has_selected (λ place a. kept_as marks false object place a.linkage a.name) (kept_array object) 0 o.source.arrays a exported place place here (omega arith) kept in
    let in_object : Has (kept_arrays_in marks object 0 o.source.arrays) k = subst (λ ks. Has ks k) (sym (arrays_selected marks object 0 o.source.arrays)) inside in
    subst (λ ks. Has ks k) (sym (arrays_joined marks 0 objects)) (has_joined_part part 0 objects o k object object owner (omega arith) in_object)

-- ---- numbers

abbrev entries : {K : Type 0} → (K → List ℕ) → (ℕ → K → Numbered) → ℕ → List K → List (List ℕ × Numbered)
entries name make n [] = []
entries name make n (k ∷ ks) = (name k, make n k) ∷ entries name make (n + 1) ks

entry_at : {K : Type 0} (name : K → List ℕ) (make : ℕ → K → Numbered) (n : ℕ) (ks : List K) (e : List ℕ × Numbered) (i : ℕ) → slice_get (entries name make n ks) i ≡ Some e
    → (k : K) × (j : ℕ) × (n + i ≡ j) × (slice_get ks i ≡ Some k) × (e.0 ≡ name k) × (e.1 ≡ make j k)
entry_at name make n [] e i h = cc
entry_at {K} name make n (k ∷ ks) e zero h =
    let same : (name k, make n k) ≡ e = cc in
    (k, n, omega arith, refl, sym (ap (λ (e : List ℕ × Numbered). e.0) same), sym (ap (λ (e : List ℕ × Numbered). e.1) same))
entry_at name make n (k ∷ ks) e (suc i) h =
    let rest = entry_at name make (n + 1) ks e i h in
    let at = rest.2 in
    (rest.0, rest.1, omega (arith, at), rest.3, rest.4, rest.5)

has_entry : {K : Type 0} (name : K → List ℕ) (make : ℕ → K → Numbered) (n : ℕ) (ks : List K) (k : K) (i j : ℕ) → slice_get ks i ≡ Some k → n + i ≡ j
    → Has (entries name make n ks) (name k, make j k)
has_entry name make n [] k i j h at = cc
has_entry {K} name make n (l ∷ ks) k zero j h at =
    let same : l ≡ k = cc in
    let first : n ≡ j = omega (arith, at) in
    (zero, ap₂ (λ (m : ℕ) (k : K). let e : List ℕ × Numbered = (name k, make m k) in Some e) first same)
has_entry name make n (l ∷ ks) k (suc i) j h at = later (name l, make n l) (entries name make (n + 1) ks) (name k, make j k) (has_entry name make (n + 1) ks k i j h (omega (arith, at)))

-- what a search under a name finds: the number is a place
pub record IsFound {K : Type 0} (name : K → List ℕ) (make : ℕ → K → Numbered) (test : Numbered → Bool) (ks : List K) (text : List ℕ) (number : ℕ) : Type 0 where
  pub kept : K
  pub here : slice_get ks number ≡ Some kept
  pub named : bytes_eq text (name kept) ≡ true
  pub passes : test (make number kept) ≡ true

found_number : {K : Type 0} (name : K → List ℕ) (make : ℕ → K → Numbered) (test : Numbered → Bool) (ks : List K) (text : List ℕ) (k : K) (i : ℕ)
    → ((n : ℕ) (k : K) → (make n k).number ≡ n) → slice_get ks i ≡ Some k → bytes_eq text (name k) ≡ true → test (make i k) ≡ true
    → IsFound name make test ks text (option_map_or (λ k. k.number) (find test (of_name text (entries name make 0 ks))) 0)
found_number {K} name make test ks text k i numbers here same passes =
    let all = entries name make 0 ks in
    let entry = has_entry name make 0 ks k i i here (omega arith) in
    let under = has_named text all (name k, make i k) entry.0 entry.1 same in
    let some = has_found test (of_name text all) (make i k) under.0 under.1 passes in
    let has = found_has test (of_name text all) some.0 some.1 in
    let its = named_has text all some.0 has.0.0 has.0.1 in
    let at = entry_at name make 0 ks its.0 its.1.0 its.1.1 in
    let place : its.1.0 ≡ at.1 = (let e = at.2 in omega (arith, e)) in
    let value : some.0 ≡ make at.1 at.0 = sym its.3 ∙ at.5 in
    let number : option_map_or (λ k. k.number) (find test (of_name text all)) 0 ≡ at.1 =
    ap (λ (o : Option Numbered). option_map_or (λ k. k.number) o 0) some.1 ∙ ap (λ (n : Numbered). n.number) value ∙ numbers at.1 at.0 in
    subst (IsFound name make test ks text) (sym number)
    (record {
      kept = at.0;
      here = sym (ap (slice_get ks) place) ∙ at.3;
      named = sym (ap (bytes_eq text) at.4) ∙ its.2;
      passes = sym (ap test value) ∙ has.1;
    })

abbrev pub function_name : KeptFunction → List ℕ
function_name k = k.function.name

abbrev pub function_entry : ℕ → KeptFunction → Numbered
function_entry n k = with_number n k.object k.place (is_static k.function.linkage)

function_entries : (n : ℕ) (ks : List KeptFunction) → function_numbers n ks ≡ entries function_name function_entry n ks
function_entries n [] = refl
function_entries n (k ∷ ks) = ap (λ (rest : List (List ℕ × Numbered)). (k.function.name, function_entry n k) ∷ rest) (function_entries (n + 1) ks)

pub function_found : (test : Numbered → Bool) (ks : List KeptFunction) (text : List ℕ) (k : KeptFunction) (i : ℕ)
    → slice_get ks i ≡ Some k → bytes_eq text k.function.name ≡ true → test (function_entry i k) ≡ true
    → IsFound function_name function_entry test ks text (option_map_or (λ k. k.number) (find test (of_name text (function_numbers 0 ks))) 0)
function_found test ks text k i here same passes =
    subst (λ all. IsFound function_name function_entry test ks text (option_map_or (λ k. k.number) (find test (of_name text all)) 0)) (sym (function_entries 0 ks))
    (found_number function_name function_entry test ks text k i (λ n k. refl) here same passes)

abbrev pub array_name : KeptArray → List ℕ
array_name k = k.item.name

abbrev pub array_entry : ℕ → KeptArray → Numbered
array_entry n k = with_number n k.object k.place (is_static k.item.linkage)

array_entries : (n : ℕ) (ks : List KeptArray) → array_numbers n ks ≡ entries array_name array_entry n ks
array_entries n [] = refl
array_entries n (k ∷ ks) = ap (λ (rest : List (List ℕ × Numbered)). (k.item.name, array_entry n k) ∷ rest) (array_entries (n + 1) ks)

pub array_found : (test : Numbered → Bool) (ks : List KeptArray) (text : List ℕ) (k : KeptArray) (i : ℕ)
    → slice_get ks i ≡ Some k → bytes_eq text k.item.name ≡ true → test (array_entry i k) ≡ true
    → IsFound array_name array_entry test ks text (option_map_or (λ k. k.number) (find test (of_name text (array_numbers 0 ks))) 0)
array_found test ks text k i here same passes =
    subst (λ all. IsFound array_name array_entry test ks text (option_map_or (λ k. k.number) (find test (of_name text all)) 0)) (sym (array_entries 0 ks))
    (found_number array_name array_entry test ks text k i (λ n k. refl) here same passes)
