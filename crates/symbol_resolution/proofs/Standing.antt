-- What each name of an object stands for in the merged program: a static name for its own definition, any other for the one that
-- prevails, whose types are the same.
use Rattle.std.proofs.Common.{◌≡◌, ◌⊎◌, inl, inr, ℕ, List, map, Bool, true, false, Some, None, refl, sym, ap, ap₂, ◌∙◌, subst}
use Rattle.std.specs.Prelude.{◌||◌, if◌then◌else◌, Option, slice_get, nat_eq, codes}
use Rattle.std.specs.List.{list_any}
use Rattle.std.specs.Option.{option_map_or, option_and_then}
use Rattle.std.specs.Str.{bytes_eq}
use Rattle.std.specs.Cmp.Lexicographic.{pointwise}
use Rattle.std.proofs.lemmas.Option.{same_Some}
use Rattle.gimple_ir.specs.declared.types.Linkage.{Linkage}
use Rattle.gimple_ir.specs.declared.types.Linkage.TheVariants.{Strong}
use Rattle.gimple_ir.specs.declared.types.ScalarType.TheVariants.{Int}
use Rattle.gimple_ir.specs.declared.types.ResultType.{ResultType}
use Rattle.gimple_ir.specs.declared.types.ResultType.TheVariants as returned
use Rattle.gimple_ir.specs.declared.types.Array.{Array}
use Rattle.gimple_ir.specs.declared.types.Function.{Function}
use Rattle.func_summary.proofs.Checked.{both-true, same_type-is}
use Rattle.lto_object.specs.declared.symbol.Symbol.{Symbol}
use Rattle.lto_object.specs.Objects.{ObjectData, named_arrays, named_functions}
use Rattle.lto_object.proofs.FormLaws.{same_bytes}
use Rattle.resolution_text.specs.declared.fault.ResolutionKind.TheVariants.{NoMain}
use Rattle.resolution_text.specs.declared.fault.ResolutionError.TheVariants.{AtName}
use Rattle.symbol_resolution.specs.declared.marks.Mark.{Mark}
use Rattle.symbol_resolution.specs.Marks.{mark_of, prevailing_mark}
use Rattle.symbol_resolution.specs.NameFaults.{same_result, same_element, parameters_of, same_components, same_function, same_array, function_at, array_at, both, functions_match, arrays_match, is_int, is_main, is_main_at, main_fault}
use Rattle.symbol_resolution.specs.Kept.{KeptFunction, KeptArray, is_exporting, is_exported, kept_function, kept_functions, kept_array, kept_arrays}
use Rattle.symbol_resolution.specs.Numbers.{is_static, function_numbers, array_numbers, stands_for, number_of, function_number, array_number, main_number}
use Rattle.symbol_resolution.proofs.Membership.{Has, has_named, equal_numbers, number-itself, bytes-itself}
use Rattle.symbol_resolution.proofs.ListedSymbols.{symbol_of_array, symbol_of_function, array_listed, function_listed}
use Rattle.symbol_resolution.proofs.MarkFacts.{settled}
use Rattle.symbol_resolution.proofs.KeptPlaces.{kept_function_at, has_kept_function, kept_array_at, has_kept_array, IsFound, function_name, function_entry, function_found, array_name, array_entry, array_found}
use Rattle.symbol_resolution.proofs.StatementKinds.{types_of}
use Rattle.symbol_resolution.proofs.Prevailing.{IsLink, arrays_matched, at_mark, bytes-same, defined_array, defined_function, element_is, functions_matched, open_sees, open_so, parameters_are, result_is, seen_kept_by, static_kept, static_places, static_so}

-- a function of the merged program that a name of an object stands for
pub record StandsForFunction (ks : List KeptFunction) (g : Function) (number : ℕ) : Type 0 where
  pub kept : KeptFunction
  pub here : slice_get ks number ≡ Some kept
  pub result : g.result ≡ kept.function.result
  pub parameters : map types_of (parameters_of g) ≡ map types_of (parameters_of kept.function)

pub record StandsForArray (ks : List KeptArray) (a : Array) (number : ℕ) : Type 0 where
  pub kept : KeptArray
  pub here : slice_get ks number ≡ Some kept
  pub element : a.element ≡ kept.item.element

function_there : (objects : List ObjectData) (object place : ℕ) (o : ObjectData) (f : Function) → slice_get objects object ≡ Some o → slice_get o.source.functions place ≡ Some f
    → function_at objects object place ≡ Some f
function_there objects object place o f owner here = ap (option_and_then (λ o. slice_get o.source.functions place)) owner ∙ here

array_there : (objects : List ObjectData) (object place : ℕ) (o : ObjectData) (a : Array) → slice_get objects object ≡ Some o → slice_get o.source.arrays place ≡ Some a
    → array_at objects object place ≡ Some a
array_there objects object place o a owner here = ap (option_and_then (λ o. slice_get o.source.arrays place)) owner ∙ here

-- ---- functions

static_function : (objects : List ObjectData) (marks : List (List ℕ × Mark)) (object place : ℕ) (o : ObjectData) (g : Function)
    → slice_get objects object ≡ Some o → slice_get o.source.functions place ≡ Some g → is_static g.linkage ≡ true
    → StandsForFunction (kept_functions marks 0 objects) g (number_of (function_numbers 0 (kept_functions marks 0 objects)) object place g.linkage g.name)
static_function objects marks object place o g owner here static =
    let ks = kept_functions marks 0 objects in
    let own = kept_function object o.source place g false in
    let has = has_kept_function objects marks object place o g false owner here (static_kept marks true object place g.linkage g.name static) in
    let test = stands_for object place g.linkage in
    let found = function_found test ks g.name own has.0 has.1 (bytes-itself g.name)
    (static_so (is_static g.linkage) (is_static g.linkage) (nat_eq object object) (nat_eq place place) static static (number-itself object) (number-itself place)) in
    let k = found.kept in
    let places = static_places (is_static g.linkage) (is_static k.function.linkage) (nat_eq k.object object) (nat_eq k.place place) static found.passes in
    let its = kept_function_at objects marks k (number_of (function_numbers 0 ks) object place g.linkage g.name) found.here in
    let there = function_there objects k.object k.place its.owner k.function its.owner_is its.here in
    let same : g ≡ k.function =
    same_Some g k.function (sym (function_there objects object place o g owner here)
    ∙ ap₂ (function_at objects) (sym (equal_numbers k.object object places.0)) (sym (equal_numbers k.place place places.1)) ∙ there) in
    record { kept = k; here = found.here; result = ap (λ (f : Function). f.result) same; parameters = ap (λ (f : Function). map types_of (parameters_of f)) same }

-- a kept function under a name that others see is the one that prevails
prevailing_function : (objects : List ObjectData) (marks : List (List ℕ × Mark)) (name : List ℕ) (m : Mark) (k : KeptFunction) (i : ℕ)
    → prevailing_mark name marks ≡ Some m → slice_get (kept_functions marks 0 objects) i ≡ Some k → bytes_eq name k.function.name ≡ true → is_static k.function.linkage ≡ false
    → (function_at objects m.object m.place ≡ Some k.function) × (k.exported ≡ is_exported k.function.name m.word)
prevailing_function objects marks name m k i found here named seen =
    let its = kept_function_at objects marks k i here in
    let by = seen_kept_by marks true k.object k.place k.function.linkage k.function.name k.exported seen its.kept in
    let same : by.mark ≡ m = same_Some by.mark m (sym by.found ∙ ap (λ (s : List ℕ). prevailing_mark s marks) (sym (same_bytes name k.function.name named)) ∙ found) in
    let at = at_mark true k.object k.place by.mark by.at in (
      ap₂ (function_at objects) (sym (at.1 ∙ ap (λ (m : Mark). m.object) same)) (sym (at.2 ∙ ap (λ (m : Mark). m.place) same))
          ∙ function_there objects k.object k.place its.owner k.function its.owner_is its.here,
      by.exports ∙ ap (λ (m : Mark). is_exported k.function.name m.word) same,
    )

-- what is found under the name of one that prevails
found_prevailing : (objects : List ObjectData) (marks : List (List ℕ × Mark)) (name : List ℕ) (m : Mark) (object place : ℕ) (l : Linkage) → IsLink objects marks
    → prevailing_mark name marks ≡ Some m → m.function ≡ true → is_static l ≡ false
    → IsFound function_name function_entry (stands_for object place l) (kept_functions marks 0 objects) name (number_of (function_numbers 0 (kept_functions marks 0 objects)) object place l name)
found_prevailing objects marks name m object place l link found sort seen =
    let ks = kept_functions marks 0 objects in
    let it = defined_function objects marks name m link found sort in
    let exported = is_exported it.item.name m.word in
    let k = kept_function m.object it.owner.source m.place it.item exported in
    let has = has_kept_function objects marks m.object m.place it.owner it.item exported it.owner_is it.here it.kept in
    function_found (stands_for object place l) ks name k has.0 has.1 (bytes-same name it.item.name it.named)
    (open_so (is_static l) (is_static it.item.linkage) (nat_eq m.object object) (nat_eq m.place place) seen it.seen)

seen_function : (objects : List ObjectData) (marks : List (List ℕ × Mark)) (object place : ℕ) (o : ObjectData) (g : Function) → IsLink objects marks
    → slice_get objects object ≡ Some o → slice_get o.source.functions place ≡ Some g → list_any (nat_eq place) (named_functions o.source.functions) ≡ true → is_static g.linkage ≡ false
    → StandsForFunction (kept_functions marks 0 objects) g (number_of (function_numbers 0 (kept_functions marks 0 objects)) object place g.linkage g.name)
seen_function objects marks object place o g link owner here named seen =
    let ks = kept_functions marks 0 objects in
    let number = number_of (function_numbers 0 ks) object place g.linkage g.name in
    let symbol = symbol_of_function place g in
    let listed = function_listed o.source place g here seen named in
    let mark = link.has_mark object o symbol owner (subst (λ (ss : List Symbol). Has ss symbol) (sym (link.real object o owner).symbols) listed) in
    let own = mark_of object symbol mark.0 in
    let under = has_named g.name marks (g.name, own) mark.1.0 mark.1.1 (bytes-itself g.name) in
    let prevailing = settled objects marks g.name own under.0 link.names under.1 in
    let m = prevailing.mark in
    let match = functions_matched m.function true (functions_match objects m own) (arrays_match objects m own) (prevailing.same own under.0 under.1) refl in
    let found = found_prevailing objects marks g.name m object place g.linkage link prevailing.found match.0 seen in
    let k = found.kept in
    let k_seen = open_sees (is_static g.linkage) (is_static k.function.linkage) (nat_eq k.object object) (nat_eq k.place place) seen found.passes in
    let it = prevailing_function objects marks g.name m k number prevailing.found found.here found.named k_seen in
    let same : same_function k.function g ≡ true =
    sym (ap₂ (both same_function) it.0 (function_there objects object place o g owner here)) ∙ match.1 in
    let two = both-true (same_result k.function.result g.result) (pointwise same_components (parameters_of k.function) (parameters_of g)) same in
    record {
      kept = k;
      here = found.here;
      result = sym (result_is k.function.result g.result two.0);
      parameters = sym (parameters_are (parameters_of k.function) (parameters_of g) two.1);
    }

static_or : (b : Bool) → (b ≡ true) ⊎ (b ≡ false)
static_or true = inl refl
static_or false = inr refl

-- the number that a function of an object has in the merged program
pub function_stands : (objects : List ObjectData) (marks : List (List ℕ × Mark)) (object place : ℕ) (o : ObjectData) (g : Function) → IsLink objects marks
    → slice_get objects object ≡ Some o → slice_get o.source.functions place ≡ Some g → list_any (nat_eq place) (named_functions o.source.functions) ≡ true
    → StandsForFunction (kept_functions marks 0 objects) g (function_number (function_numbers 0 (kept_functions marks 0 objects)) object o.source place)
function_stands objects marks object place o g link owner here named =
    let numbers = function_numbers 0 (kept_functions marks 0 objects) in
    let is : function_number numbers object o.source place ≡ number_of numbers object place g.linkage g.name =
    ap (λ (f : Option Function). option_map_or (λ f. number_of numbers object place f.linkage f.name) f 0) here in
    subst (StandsForFunction (kept_functions marks 0 objects) g) (sym is) (by (static_or (is_static g.linkage)))
  where
    by : (is_static g.linkage ≡ true) ⊎ (is_static g.linkage ≡ false)
        → StandsForFunction (kept_functions marks 0 objects) g (number_of (function_numbers 0 (kept_functions marks 0 objects)) object place g.linkage g.name)
    by (inl static) = static_function objects marks object place o g owner here static
    by (inr seen) = seen_function objects marks object place o g link owner here named seen

-- ---- arrays

static_array : (objects : List ObjectData) (marks : List (List ℕ × Mark)) (object place : ℕ) (o : ObjectData) (a : Array)
    → slice_get objects object ≡ Some o → slice_get o.source.arrays place ≡ Some a → is_static a.linkage ≡ true
    → StandsForArray (kept_arrays marks 0 objects) a (number_of (array_numbers 0 (kept_arrays marks 0 objects)) object place a.linkage a.name)
static_array objects marks object place o a owner here static =
    let ks = kept_arrays marks 0 objects in
    let own = kept_array object place a false in
    let has = has_kept_array objects marks object place o a false owner here (static_kept marks false object place a.linkage a.name static) in
    let test = stands_for object place a.linkage in
    let found = array_found test ks a.name own has.0 has.1 (bytes-itself a.name)
    (static_so (is_static a.linkage) (is_static a.linkage) (nat_eq object object) (nat_eq place place) static static (number-itself object) (number-itself place)) in
    let k = found.kept in
    let places = static_places (is_static a.linkage) (is_static k.item.linkage) (nat_eq k.object object) (nat_eq k.place place) static found.passes in
    let its = kept_array_at objects marks k (number_of (array_numbers 0 ks) object place a.linkage a.name) found.here in
    let there = array_there objects k.object k.place its.owner k.item its.owner_is its.here in
    let same : a ≡ k.item =
    same_Some a k.item (sym (array_there objects object place o a owner here)
    ∙ ap₂ (array_at objects) (sym (equal_numbers k.object object places.0)) (sym (equal_numbers k.place place places.1)) ∙ there) in
    record { kept = k; here = found.here; element = ap (λ (a : Array). a.element) same }

prevailing_array : (objects : List ObjectData) (marks : List (List ℕ × Mark)) (name : List ℕ) (m : Mark) (k : KeptArray) (i : ℕ)
    → prevailing_mark name marks ≡ Some m → slice_get (kept_arrays marks 0 objects) i ≡ Some k → bytes_eq name k.item.name ≡ true → is_static k.item.linkage ≡ false
    → array_at objects m.object m.place ≡ Some k.item
prevailing_array objects marks name m k i found here named seen =
    let its = kept_array_at objects marks k i here in
    let by = seen_kept_by marks false k.object k.place k.item.linkage k.item.name k.exported seen its.kept in
    let same : by.mark ≡ m = same_Some by.mark m (sym by.found ∙ ap (λ (s : List ℕ). prevailing_mark s marks) (sym (same_bytes name k.item.name named)) ∙ found) in
    let at = at_mark false k.object k.place by.mark by.at in
    ap₂ (array_at objects) (sym (at.1 ∙ ap (λ (m : Mark). m.object) same)) (sym (at.2 ∙ ap (λ (m : Mark). m.place) same))
    ∙ array_there objects k.object k.place its.owner k.item its.owner_is its.here

found_prevailing_array : (objects : List ObjectData) (marks : List (List ℕ × Mark)) (name : List ℕ) (m : Mark) (object place : ℕ) (l : Linkage) → IsLink objects marks
    → prevailing_mark name marks ≡ Some m → m.function ≡ false → is_static l ≡ false
    → IsFound array_name array_entry (stands_for object place l) (kept_arrays marks 0 objects) name (number_of (array_numbers 0 (kept_arrays marks 0 objects)) object place l name)
found_prevailing_array objects marks name m object place l link found sort seen =
    let ks = kept_arrays marks 0 objects in
    let it = defined_array objects marks name m link found sort in
    let exported = is_exported it.item.name m.word in
    let k = kept_array m.object m.place it.item exported in
    let has = has_kept_array objects marks m.object m.place it.owner it.item exported it.owner_is it.here it.kept in
    array_found (stands_for object place l) ks name k has.0 has.1 (bytes-same name it.item.name it.named)
    (open_so (is_static l) (is_static it.item.linkage) (nat_eq m.object object) (nat_eq m.place place) seen it.seen)

seen_array : (objects : List ObjectData) (marks : List (List ℕ × Mark)) (object place : ℕ) (o : ObjectData) (a : Array) → IsLink objects marks
    → slice_get objects object ≡ Some o → slice_get o.source.arrays place ≡ Some a → list_any (nat_eq place) (named_arrays o.source.functions) ≡ true → is_static a.linkage ≡ false
    → StandsForArray (kept_arrays marks 0 objects) a (number_of (array_numbers 0 (kept_arrays marks 0 objects)) object place a.linkage a.name)
seen_array objects marks object place o a link owner here named seen =
    let ks = kept_arrays marks 0 objects in
    let number = number_of (array_numbers 0 ks) object place a.linkage a.name in
    let symbol = symbol_of_array place a in
    let listed = array_listed o.source place a here seen named in
    let mark = link.has_mark object o symbol owner (subst (λ (ss : List Symbol). Has ss symbol) (sym (link.real object o owner).symbols) listed) in
    let own = mark_of object symbol mark.0 in
    let under = has_named a.name marks (a.name, own) mark.1.0 mark.1.1 (bytes-itself a.name) in
    let prevailing = settled objects marks a.name own under.0 link.names under.1 in
    let m = prevailing.mark in
    let match = arrays_matched m.function false (functions_match objects m own) (arrays_match objects m own) (prevailing.same own under.0 under.1) refl in
    let found = found_prevailing_array objects marks a.name m object place a.linkage link prevailing.found match.0 seen in
    let k = found.kept in
    let k_seen = open_sees (is_static a.linkage) (is_static k.item.linkage) (nat_eq k.object object) (nat_eq k.place place) seen found.passes in
    let it = prevailing_array objects marks a.name m k number prevailing.found found.here found.named k_seen in
    let same : same_array k.item a ≡ true = sym (ap₂ (both same_array) it (array_there objects object place o a owner here)) ∙ match.1 in
    record {
      kept = k;
      here = found.here;
      element = sym (element_is k.item.element a.element (both-true (same_element k.item.element a.element) (nat_eq k.item.length a.length) same).0);
    }

-- the number that an array of an object has in the merged program
pub array_stands : (objects : List ObjectData) (marks : List (List ℕ × Mark)) (object place : ℕ) (o : ObjectData) (a : Array) → IsLink objects marks
    → slice_get objects object ≡ Some o → slice_get o.source.arrays place ≡ Some a → list_any (nat_eq place) (named_arrays o.source.functions) ≡ true
    → StandsForArray (kept_arrays marks 0 objects) a (array_number (array_numbers 0 (kept_arrays marks 0 objects)) object o.source place)
array_stands objects marks object place o a link owner here named =
    let numbers = array_numbers 0 (kept_arrays marks 0 objects) in
    let is : array_number numbers object o.source place ≡ number_of numbers object place a.linkage a.name =
    ap (λ (f : Option Array). option_map_or (λ a. number_of numbers object place a.linkage a.name) f 0) here in
    subst (StandsForArray (kept_arrays marks 0 objects) a) (sym is) (by (static_or (is_static a.linkage)))
  where
    by : (is_static a.linkage ≡ true) ⊎ (is_static a.linkage ≡ false)
        → StandsForArray (kept_arrays marks 0 objects) a (number_of (array_numbers 0 (kept_arrays marks 0 objects)) object place a.linkage a.name)
    by (inl static) = static_array objects marks object place o a owner here static
    by (inr seen) = seen_array objects marks object place o a link owner here named seen

-- ---- main

-- `main` is kept, exported, and has no parameters and an `int` as its result
pub record IsMain (ks : List KeptFunction) (number : ℕ) : Type 0 where
  pub kept : KeptFunction
  pub here : slice_get ks number ≡ Some kept
  pub exported : kept.exported ≡ true
  pub parameters : kept.function.parameters ≡ 0
  pub result : kept.function.result ≡ returned.Scalar Int

or_true : (a b : Bool) → b ≡ true → (a || b) ≡ true
or_true true b h = refl
or_true false b h = h

int_is : (r : ResultType) → is_int r ≡ true → r ≡ returned.Scalar Int
int_is returned.Void h = cc
int_is (returned.Scalar ty) h = ap returned.Scalar (same_type-is ty Int h)

main_passes : (b : Bool) → (if b then None else Some (AtName NoMain (codes "main"))) ≡ None → b ≡ true
main_passes true h = refl
main_passes false h = cc

main_by : (objects : List ObjectData) (marks : List (List ℕ × Mark)) (o : Option Mark) → IsLink objects marks → prevailing_mark (codes "main") marks ≡ o → is_main_at objects o ≡ true
    → IsMain (kept_functions marks 0 objects) (main_number (function_numbers 0 (kept_functions marks 0 objects)))
main_by objects marks None link is h = cc
main_by objects marks (Some m) link is h =
    let two = both-true m.function (option_map_or is_main (function_at objects m.object m.place) false) h in
    let found = found_prevailing objects marks (codes "main") m 0 0 Strong link is two.0 refl in
    let k = found.kept in
    let number = main_number (function_numbers 0 (kept_functions marks 0 objects)) in
    let seen = open_sees false (is_static k.function.linkage) (nat_eq k.object 0) (nat_eq k.place 0) refl found.passes in
    let it = prevailing_function objects marks (codes "main") m k number is found.here found.named seen in
    let named = same_bytes (codes "main") k.function.name found.named in
    let each = both-true (is_int k.function.result) (nat_eq k.function.parameters 0) (sym (ap (λ (o : Option Function). option_map_or is_main o false) it.0) ∙ two.1) in
    record {
      kept = k;
      here = found.here;
      exported = it.1 ∙ or_true (is_exporting m.word) (bytes_eq k.function.name (codes "main")) (bytes-same k.function.name (codes "main") (sym named));
      parameters = equal_numbers k.function.parameters 0 each.1;
      result = int_is k.function.result each.0;
    }

pub main_stands : (objects : List ObjectData) (marks : List (List ℕ × Mark)) → IsLink objects marks → main_fault objects marks ≡ None
    → IsMain (kept_functions marks 0 objects) (main_number (function_numbers 0 (kept_functions marks 0 objects)))
main_stands objects marks link h = main_by objects marks (prevailing_mark (codes "main") marks) link refl (main_passes (is_main_at objects (prevailing_mark (codes "main") marks)) h)
