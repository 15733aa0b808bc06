-- The merged program of real objects is true of their whole program.
use Rattle.std.proofs.Common.{◌≡◌, ◌+◌, ◌≤◌, ℕ, suc, List, [], ◌∷◌, length, map, Bool, true, false, Some, None, cond, refl, sym, ap, ap₂, ◌∙◌, arith, subst}
use Rattle.std.specs.Prelude.{All, Option, slice_get, nat_eq, Result, Ok, IsSomeAnd}
use Rattle.std.specs.List.{filter_map, cons_option, sum_by}
use Rattle.std.specs.Option.{option_map, option_map_or, option_and_then}
use Rattle.std.proofs.lemmas.Option.{same_Some}
use Rattle.std.proofs.lemmas.List.{length-map, length-append}
use Rattle.std.proofs.lemmas.List.Elements.{All-map}
use Rattle.std.proofs.lemmas.List.Sums.{sum_by-cons}
use Rattle.gimple_ir.specs.declared.types.Array.{Array}
use Rattle.gimple_ir.specs.declared.types.Function.{Function}
use Rattle.gimple_ir.specs.declared.types.Module.{Module}
use Rattle.gimple_ir.specs.declared.types.Program.{Program}
use Rattle.gimple_ir.specs.declared.types.Statement.{Statement}
use Rattle.gimple_ir.specs.declared.types.ResultType.TheVariants as returned
use Rattle.gimple_ir.specs.declared.types.ScalarType.TheVariants.{Int}
use Rattle.gimple_ir.specs.declared.merged.Merged.{Merged}
use Rattle.gimple_ir.specs.declared.merged.MergedArray.{MergedArray}
use Rattle.gimple_ir.specs.declared.merged.MergedFunction.{MergedFunction}
use Rattle.gimple_ir.specs.Checks.{scope_in}
use Rattle.gimple_ir.specs.Programs.{IsProgramArray, IsProgramFunction}
use Rattle.func_summary.specs.Summaries.{arrays_in, summary_of}
use Rattle.func_summary.specs.Summarised.{module_of, IsSmallFunction, IsSmallArray, IsTrueOf, IsSummarised}
use Rattle.func_summary.proofs.Checked.{all_at, all-from_places, statement-passes}
use Rattle.lto_object.specs.Objects.{ObjectData, IsObject, functions_in}
use Rattle.resolution_text.specs.declared.resolution.Resolution.{Resolution}
use Rattle.resolution_text.specs.declared.fault.ResolutionError.{ResolutionError}
use Rattle.resolution_text.specs.declared.fault.ResolutionError.TheVariants.{AtLine}
use Rattle.resolution_text.specs.declared.fault.ResolutionKind.TheVariants.{FileCount}
use Rattle.symbol_resolution.specs.declared.marks.Mark.{Mark}
use Rattle.symbol_resolution.specs.declared.numbers.Numbered.{Numbered}
use Rattle.symbol_resolution.specs.LineFaults.{line_fault, files_fault}
use Rattle.symbol_resolution.specs.Marks.{marks_of}
use Rattle.symbol_resolution.specs.NameFaults.{function_at, names_fault, main_fault}
use Rattle.symbol_resolution.specs.Kept.{KeptFunction, KeptArray, with_kept, kept_as, kept_function, kept_functions_in, kept_functions, kept_array, kept_arrays_in, kept_arrays}
use Rattle.symbol_resolution.specs.Numbers.{is_static, with_number, function_numbers, array_numbers, is_local_function, merged_function_numbers, merged_array_numbers, function_number, array_number, main_number}
use Rattle.symbol_resolution.specs.Linking.{linked_summary, linked_function}
use Rattle.symbol_resolution.specs.Merging.{merged_function, merged_array, merged_by, unless, merged_of, program_function, program_functions, program_of, AreFew}
use Rattle.symbol_resolution.specs.Laws.{MergedLaw}
use Rattle.symbol_resolution.proofs.Membership.{Has, has_mapped, mapped_at, equal_numbers}
use Rattle.symbol_resolution.proofs.MarkFacts.{mark_at, mark_of_symbol}
use Rattle.symbol_resolution.proofs.KeptPlaces.{IsKeptFunction, kept_function_at, kept_array_at}
use Rattle.symbol_resolution.proofs.StatementKinds.{ArrayLink, FunctionLink}
use Rattle.symbol_resolution.proofs.Prevailing.{IsLink, kept_defined}
use Rattle.symbol_resolution.proofs.Standing.{function_stands, array_stands, IsMain, main_stands}
use Rattle.symbol_resolution.proofs.CheckedItems.{FunctionFacts, function_facts, array_facts, at_below, arrays_known, functions_known, array_named, function_named}
use Rattle.symbol_resolution.proofs.LinkedFunctions.{summary_linked, well_formed, small}

-- ---- no fault

files_right : (b : Bool) (faults : Option ResolutionError) → cond b faults (Some (AtLine FileCount 1)) ≡ None → (b ≡ true) × (faults ≡ None)
files_right true faults h = (refl, h)
files_right false faults h = cc

unless-ok : {A : Type 0} (fault : Option ResolutionError) (more : Result A ResolutionError) (x : A) → unless fault more ≡ Ok x → (fault ≡ None) × (more ≡ Ok x)
unless-ok None more x h = (refl, h)
unless-ok (Some e) more x h = cc

record IsMerged (objects : List ObjectData) (names : List (List ℕ)) (r : Resolution) (merged : Merged) : Type 0 where
  lines : line_fault objects names r ≡ None
  symbols : names_fault objects (marks_of objects r) (marks_of objects r) ≡ None
  main : main_fault objects (marks_of objects r) ≡ None
  is : merged ≡ merged_by objects (marks_of objects r)

merged_parts : (objects : List ObjectData) (names : List (List ℕ)) (r : Resolution) (merged : Merged) → merged_of objects names r ≡ Ok merged → IsMerged objects names r merged
unfolding merged_of
merged_parts objects names r merged h =
    let all : Result Merged ResolutionError = Ok (merged_by objects (marks_of objects r)) in
    let main = unless (main_fault objects (marks_of objects r)) all in
    let symbols = unless (names_fault objects (marks_of objects r) (marks_of objects r)) main in
    let first = unless-ok (line_fault objects names r) symbols merged h in
    let second = unless-ok (names_fault objects (marks_of objects r) (marks_of objects r)) main merged first.1 in
    let third = unless-ok (main_fault objects (marks_of objects r)) all merged second.1 in
    let last : all ≡ Ok merged = third.1 in
    record { lines = first.0; symbols = second.0; main = third.0; is = cc }

linked : (objects : List ObjectData) (names : List (List ℕ)) (r : Resolution) → All IsObject objects → length names ≡ length objects → line_fault objects names r ≡ None
    → names_fault objects (marks_of objects r) (marks_of objects r) ≡ None → IsLink objects (marks_of objects r)
linked objects names r real long lines symbols =
    let files = files_right (nat_eq (length r.files) (length objects)) (files_fault 2 names objects r.files) lines in
    record {
      real = λ i o here. all_at IsObject objects real i o here;
      marked = λ i e here. mark_at 0 2 names objects r.files e i here long files.1;
      has_mark = λ i o s here has. mark_of_symbol 0 2 names objects r.files i i o s (omega arith) here has long (equal_numbers (length r.files) (length objects) files.0) files.1;
      names = symbols;
    }

-- ---- the program by what is kept

abbrev function_of : (functions arrays : List (List ℕ × Numbered)) → KeptFunction → Function
function_of functions arrays k = linked_function functions arrays k.object k.source k.function

abbrev item_of : KeptArray → Array
item_of k = k.item

abbrev program_by : List KeptFunction → List KeptArray → Program
program_by ks items = record { arrays = map item_of items; functions = map (function_of (function_numbers 0 ks) (array_numbers 0 items)) ks; main = main_number (function_numbers 0 ks) }

functions_numbered : (objects : List ObjectData) (marks : List (List ℕ × Mark)) (functions arrays : List (List ℕ × Numbered)) (n : ℕ) (ks : List KeptFunction)
    → ((i : ℕ) (k : KeptFunction) → slice_get ks i ≡ Some k → IsKeptFunction objects marks k)
    → merged_function_numbers objects n (map (merged_function functions arrays) ks) ≡ function_numbers n ks
functions_numbered objects marks functions arrays n [] kept = refl
functions_numbered objects marks functions arrays n (k ∷ ks) kept =
    let its = kept 0 k refl in
    let there : function_at objects k.object k.place ≡ Some k.function = ap (option_and_then (λ o. slice_get o.source.functions k.place)) its.owner_is ∙ its.here in
    let local : is_local_function objects (merged_function functions arrays k) ≡ is_static k.function.linkage = ap (λ (f : Option Function). option_map_or (λ g. is_static g.linkage) f false) there in
    ap₂ (λ (b : Bool) (rest : List (List ℕ × Numbered)). (k.function.name, with_number n k.object k.place b) ∷ rest) local
    (functions_numbered objects marks functions arrays (n + 1) ks (λ i k here. kept (suc i) k here))

arrays_numbered : (n : ℕ) (items : List KeptArray) → merged_array_numbers n (map merged_array items) ≡ array_numbers n items
arrays_numbered n [] = refl
arrays_numbered n (k ∷ items) = ap (λ (rest : List (List ℕ × Numbered)). (k.item.name, with_number n k.object k.place (is_static k.item.linkage)) ∷ rest) (arrays_numbered (n + 1) items)

functions_made : (objects : List ObjectData) (marks : List (List ℕ × Mark)) (functions arrays f a : List (List ℕ × Numbered)) (ks : List KeptFunction)
    → ((i : ℕ) (k : KeptFunction) → slice_get ks i ≡ Some k → IsKeptFunction objects marks k)
    → filter_map (program_function objects functions arrays) (map (merged_function f a) ks) ≡ map (function_of functions arrays) ks
functions_made objects marks functions arrays f a [] kept = refl
functions_made objects marks functions arrays f a (k ∷ ks) kept =
    let its = kept 0 k refl in
    let made : program_function objects functions arrays (merged_function f a k) ≡ Some (function_of functions arrays k) =
    ap (option_and_then (λ o. option_map (linked_function functions arrays k.object o.source) (slice_get o.source.functions k.place))) its.owner_is
    ∙ ap (option_map (linked_function functions arrays k.object its.owner.source)) its.here
    ∙ ap (λ (m : Module). Some (linked_function functions arrays k.object m k.function)) (sym its.source) in
    ap₂ cons_option made (functions_made objects marks functions arrays f a ks (λ i k here. kept (suc i) k here))

items_made : (items : List KeptArray) → map (λ (a : MergedArray). a.item) (map merged_array items) ≡ map item_of items
items_made [] = refl
items_made (k ∷ items) = ap (λ (rest : List Array). k.item ∷ rest) (items_made items)

program_is : (objects : List ObjectData) (marks : List (List ℕ × Mark)) → program_of objects (merged_by objects marks) ≡ program_by (kept_functions marks 0 objects) (kept_arrays marks 0 objects)
unfolding program_of
program_is objects marks =
    let ks = kept_functions marks 0 objects in
    let items = kept_arrays marks 0 objects in
    let f = function_numbers 0 ks in
    let a = array_numbers 0 items in
    let kept = λ (i : ℕ) (k : KeptFunction) (here : slice_get ks i ≡ Some k). kept_function_at objects marks k i here in
    let functions : program_functions objects (merged_by objects marks) ≡ map (function_of f a) ks =
    ap₂ (λ (x y : List (List ℕ × Numbered)). filter_map (program_function objects x y) (map (merged_function f a) ks)) (functions_numbered objects marks f a 0 ks kept) (arrays_numbered 0 items)
    ∙ functions_made objects marks f a f a ks kept in
    ap₂ (λ (xs : List Array) (fs : List Function). let p : Program = record { arrays = xs; functions = fs; main = main_number f } in p) (items_made items) functions

-- ---- few

few_functions_in : (marks : List (List ℕ × Mark)) (object : ℕ) (source : Module) (place : ℕ) (fs : List Function) → length (kept_functions_in marks object source place fs) ≤ length fs
few_functions_in marks object source place [] = omega arith
few_functions_in marks object source place (f ∷ fs) =
    by (kept_as marks true object place f.linkage f.name) (few_functions_in marks object source (place + 1) fs)
  where
    by : (o : Option Bool) → length (kept_functions_in marks object source (place + 1) fs) ≤ length fs
        → length (with_kept o (kept_function object source place f) (kept_functions_in marks object source (place + 1) fs)) ≤ suc (length fs)
    by None h = omega (arith, h)
    by (Some e) h = omega (arith, h)

few_functions : (marks : List (List ℕ × Mark)) (n : ℕ) (os : List ObjectData) → length (kept_functions marks n os) ≤ sum_by (λ o. length o.source.functions) os
few_functions marks n [] = omega arith
few_functions marks n (o ∷ os) =
    omega (
      arith,
      length-append (kept_functions_in marks n o.source 0 o.source.functions) (kept_functions marks (n + 1) os),
      few_functions_in marks n o.source 0 o.source.functions,
      few_functions marks (n + 1) os,
      sum_by-cons (λ (o : ObjectData). length o.source.functions) o os,
    )

few_arrays_in : (marks : List (List ℕ × Mark)) (object place : ℕ) (items : List Array) → length (kept_arrays_in marks object place items) ≤ length items
few_arrays_in marks object place [] = omega arith
few_arrays_in marks object place (a ∷ items) =
    by (kept_as marks false object place a.linkage a.name) (few_arrays_in marks object (place + 1) items)
  where
    by : (o : Option Bool) → length (kept_arrays_in marks object (place + 1) items) ≤ length items
        → length (with_kept o (kept_array object place a) (kept_arrays_in marks object (place + 1) items)) ≤ suc (length items)
    by None h = omega (arith, h)
    by (Some e) h = omega (arith, h)

few_arrays : (marks : List (List ℕ × Mark)) (n : ℕ) (os : List ObjectData) → length (kept_arrays marks n os) ≤ sum_by (λ o. length o.source.arrays) os
few_arrays marks n [] = omega arith
few_arrays marks n (o ∷ os) =
    omega (
      arith,
      length-append (kept_arrays_in marks n 0 o.source.arrays) (kept_arrays marks (n + 1) os),
      few_arrays_in marks n 0 o.source.arrays,
      few_arrays marks (n + 1) os,
      sum_by-cons (λ (o : ObjectData). length o.source.arrays) o os,
    )

as_many_arrays : (n : ℕ) (items : List KeptArray) → length (array_numbers n items) ≡ length items
as_many_arrays n [] = refl
as_many_arrays n (k ∷ items) = ap suc (as_many_arrays (n + 1) items)

-- ---- what statements lead to

array_leads : (objects : List ObjectData) (marks : List (List ℕ × Mark)) (object place : ℕ) (o : ObjectData) (f : Function) → IsLink objects marks
    → slice_get objects object ≡ Some o → slice_get o.source.functions place ≡ Some f → FunctionFacts o.source f
    → (i : ℕ) (s : Statement) (k : ℕ) → slice_get f.body i ≡ Some s → Has (arrays_in s) k
    → ArrayLink o.source.arrays (map item_of (kept_arrays marks 0 objects)) k (array_number (array_numbers 0 (kept_arrays marks 0 objects)) object o.source k)
array_leads objects marks object place o f link owner here facts i s k at has =
    let known = statement-passes (scope_in o.source f) s (facts.kinds i s at) in
    let item = at_below o.source.arrays k (arrays_known (scope_in o.source f) s known.0 k has) in
    let stands = array_stands objects marks object k o item.0 link owner item.1 (array_named o.source place f i s k here at has) in
    record {
      from = item.0;
      to = stands.kept.item;
      from_is = item.1;
      to_is = mapped_at item_of (kept_arrays marks 0 objects) stands.kept (array_number (array_numbers 0 (kept_arrays marks 0 objects)) object o.source k) stands.here;
      element = stands.element;
    }

function_leads : (objects : List ObjectData) (marks : List (List ℕ × Mark)) (object place : ℕ) (o : ObjectData) (f : Function) → IsLink objects marks
    → slice_get objects object ≡ Some o → slice_get o.source.functions place ≡ Some f → FunctionFacts o.source f
    → (i : ℕ) (s : Statement) (k : ℕ) → slice_get f.body i ≡ Some s → Has (functions_in s) k
    → FunctionLink o.source.functions (program_by (kept_functions marks 0 objects) (kept_arrays marks 0 objects)).functions k (function_number (function_numbers 0 (kept_functions marks 0 objects)) object o.source k)
function_leads objects marks object place o f link owner here facts i s k at has =
    let ks = kept_functions marks 0 objects in
    let numbers = function_numbers 0 ks in
    let arrays = array_numbers 0 (kept_arrays marks 0 objects) in
    let known = statement-passes (scope_in o.source f) s (facts.kinds i s at) in
    let item = at_below o.source.functions k (functions_known (scope_in o.source f) s known.0 k has) in
    let stands = function_stands objects marks object k o item.0 link owner item.1 (function_named o.source place f i s k here at has) in
    let its = kept_function_at objects marks stands.kept (function_number numbers object o.source k) stands.here in
    let from_facts = function_facts o.source k item.0 (link.real object o owner).checked item.1 in
    let to_facts = function_facts its.owner.source stands.kept.place stands.kept.function (link.real stands.kept.object its.owner its.owner_is).checked its.here in
    record {
      from = item.0;
      to = function_of numbers arrays stands.kept;
      from_is = item.1;
      to_is = mapped_at (function_of numbers arrays) ks stands.kept (function_number numbers object o.source k) stands.here;
      result = stands.result;
      parameters = stands.parameters;
      from_fits = from_facts.stated.parameters;
      to_fits = to_facts.stated.parameters;
    }

-- ---- each function and array

kept_function_fits : (objects : List ObjectData) (marks : List (List ℕ × Mark)) (i : ℕ) (k : KeptFunction) → IsLink objects marks → slice_get (kept_functions marks 0 objects) i ≡ Some k
    → let p = program_by (kept_functions marks 0 objects) (kept_arrays marks 0 objects) in
    let f = function_of (function_numbers 0 (kept_functions marks 0 objects)) (array_numbers 0 (kept_arrays marks 0 objects)) k in
    IsProgramFunction p f × IsSmallFunction f
kept_function_fits objects marks i k link here =
    let ks = kept_functions marks 0 objects in
    let items = kept_arrays marks 0 objects in
    let numbers = function_numbers 0 ks in
    let arrays = array_numbers 0 items in
    let its = kept_function_at objects marks k i here in
    let checked = (link.real k.object its.owner its.owner_is).checked in
    let facts = function_facts its.owner.source k.place k.function checked its.here in
    let defined = kept_defined marks true k.object k.place k.function.linkage k.function.name k.exported its.kept in
    let f = function_of numbers arrays k in
    let same : linked_function numbers arrays k.object its.owner.source k.function ≡ f = ap (λ (m : Module). linked_function numbers arrays k.object m k.function) (sym its.source) in (
      subst (IsProgramFunction (program_by ks items)) same
          (well_formed numbers arrays k.object k.place its.owner.source k.function (program_by ks items) checked its.here defined
          (array_leads objects marks k.object k.place its.owner k.function link its.owner_is its.here facts)
          (function_leads objects marks k.object k.place its.owner k.function link its.owner_is its.here facts)),
      subst IsSmallFunction same (small numbers arrays k.object its.owner.source k.function facts defined),
    )

kept_array_fits : (objects : List ObjectData) (marks : List (List ℕ × Mark)) (i : ℕ) (k : KeptArray) → IsLink objects marks → slice_get (kept_arrays marks 0 objects) i ≡ Some k
    → IsProgramArray k.item × IsSmallArray k.item
kept_array_fits objects marks i k link here =
    let its = kept_array_at objects marks k i here in
    let facts = array_facts its.owner.source k.place k.item (link.real k.object its.owner its.owner_is).checked its.here in (
      record {
        defined = kept_defined marks false k.object k.place k.item.linkage k.item.name k.exported its.kept;
        initial = facts.stated.initial;
        within = facts.within;
      },
      record { name = facts.stated.name; elements = facts.elements },
    )

-- what is known of a merged function is true of its function
summary_true : (objects : List ObjectData) (marks : List (List ℕ × Mark)) (i : ℕ) (k : KeptFunction) → IsLink objects marks → slice_get (kept_functions marks 0 objects) i ≡ Some k
    → let functions = function_numbers 0 (kept_functions marks 0 objects) in
    let arrays = array_numbers 0 (kept_arrays marks 0 objects) in
    IsTrueOf (program_by (kept_functions marks 0 objects) (kept_arrays marks 0 objects)) (merged_function functions arrays k) (function_of functions arrays k)
summary_true objects marks i k link here =
    let ks = kept_functions marks 0 objects in
    let items = kept_arrays marks 0 objects in
    let numbers = function_numbers 0 ks in
    let arrays = array_numbers 0 items in
    let p = program_by ks items in
    let its = kept_function_at objects marks k i here in
    let facts = function_facts its.owner.source k.place k.function (link.real k.object its.owner its.owner_is).checked its.here in
    let long : length p.arrays ≡ length arrays = length-map items item_of ∙ sym (as_many_arrays 0 items) in
    record {
      name = refl;
      result = refl;
      types = refl;
      summary =
          subst (λ (m : Module). linked_summary numbers arrays k.object m (summary_of m k.function) ≡ summary_of (module_of p) (linked_function numbers arrays k.object m k.function)) (sym its.source)
          (summary_linked numbers arrays k.object its.owner.source k.function p facts long);
    }

-- ---- the whole

fits : (objects : List ObjectData) (marks : List (List ℕ × Mark)) → IsLink objects marks → IsMain (kept_functions marks 0 objects) (main_number (function_numbers 0 (kept_functions marks 0 objects)))
    → AreFew objects → IsSummarised (program_by (kept_functions marks 0 objects) (kept_arrays marks 0 objects)) (merged_by objects marks)
fits objects marks link main few =
    let ks = kept_functions marks 0 objects in
    let items = kept_arrays marks 0 objects in
    let numbers = function_numbers 0 ks in
    let arrays = array_numbers 0 items in
    let p = program_by ks items in
    let f = function_of numbers arrays in
    let number = main_number numbers in
    let main_here : slice_get p.functions number ≡ Some (f main.kept) = mapped_at f ks main.kept number main.here in
    let main_merged : slice_get (map (merged_function numbers arrays) ks) number ≡ Some (merged_function numbers arrays main.kept) = mapped_at (merged_function numbers arrays) ks main.kept number main.here in
    record {
      program = record {
        arrays = All-map IsProgramArray item_of items (all-from_places (λ k. IsProgramArray (item_of k)) items (λ i k here. (kept_array_fits objects marks i k link here).0));
        functions = All-map (IsProgramFunction p) f ks (all-from_places (λ k. IsProgramFunction p (f k)) ks (λ i k here. (kept_function_fits objects marks i k link here).0));
        main = subst (λ (o : Option Function). IsSomeAnd o (λ f. (f.parameters ≡ 0) × (f.result ≡ returned.Scalar Int))) (sym main_here) (main.parameters, main.result);
      };
      functions = All-map IsSmallFunction f ks (all-from_places (λ k. IsSmallFunction (f k)) ks (λ i k here. (kept_function_fits objects marks i k link here).1));
      arrays = All-map IsSmallArray item_of items (all-from_places (λ k. IsSmallArray (item_of k)) items (λ i k here. (kept_array_fits objects marks i k link here).1));
      few_functions = omega (arith, length-map ks f, few_functions marks 0 objects, few.functions);
      few_arrays = omega (arith, length-map items item_of, few_arrays marks 0 objects, few.arrays);
      one_each = length-map ks (merged_function numbers arrays) ∙ sym (length-map ks f);
      summaries = λ n g h there here.
          let k = has_mapped f ks h n here in
          let l = has_mapped (merged_function numbers arrays) ks g n there in
          let same : l.0 ≡ k.0 = same_Some l.0 k.0 (sym l.1 ∙ k.1) in
          let told : merged_function numbers arrays k.0 ≡ g = ap (merged_function numbers arrays) (sym same) ∙ l.2 in
          subst (λ (h : Function). IsTrueOf p g h) k.2 (subst (λ (g : MergedFunction). IsTrueOf p g (f k.0)) told (summary_true objects marks n k.0 link k.1));
      items = items_made items;
      names = All-map (λ (a : MergedArray). a.name ≡ a.item.name) merged_array items (all-from_places (λ k. (merged_array k).name ≡ (merged_array k).item.name) items (λ i k here. refl));
      main = refl;
      exported = subst (λ (o : Option MergedFunction). IsSomeAnd o (λ g. g.exported ≡ true)) (sym main_merged) main.exported;
    }

pub merged_law : MergedLaw
merged_law objects names r merged real few long h =
    let parts = merged_parts objects names r merged h in
    let marks = marks_of objects r in
    let link = linked objects names r real long parts.lines parts.symbols in
    let main = main_stands objects marks link parts.main in
    subst (λ (merged : Merged). IsSummarised (program_of objects merged) merged) (sym parts.is)
    (subst (λ (p : Program). IsSummarised p (merged_by objects marks)) (sym (program_is objects marks)) (fits objects marks link main few))
