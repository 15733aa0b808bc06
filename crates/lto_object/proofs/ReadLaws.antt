-- The object of a checked module is read as that module.
use Rattle.std.proofs.Common.{◌≡◌, ℕ, suc, ◌+◌, ◌^◌, ◌<◌, ◌≤◌, List, [], ◌∷◌, ◌++◌, length, map, Bool, true, false, cond, Option, Some, None, Result, Ok, Err, refl, sym, ap, ap₂, subst, ◌∙◌, arith}
use Rattle.std.specs.Prelude.{All, slice_get, codes, IfOk}
use Rattle.std.proofs.lemmas.List.{length-map}
use Rattle.std.specs.List.{AllByRecursion}
use Rattle.std.proofs.lemmas.List.Elements.{All-nil, All-cons, recursion_from_All}
use Rattle.gimple_ir.specs.declared.types.Function.{Function}
use Rattle.gimple_ir.specs.declared.types.Module.{Module}
use Rattle.gimple_ir.specs.declared.types.Statement.{Statement}
use Rattle.gimple_ir.specs.Programs.{IsChecked, IsStated}
use Rattle.module_stream.specs.declared.bounds.BodyBounds.{BodyBounds}
use Rattle.module_stream.specs.Fields.{FitEach}
use Rattle.module_stream.specs.Bodies.{body_of, FitsBody}
use Rattle.module_stream.specs.Declarations.{decls_of, AreDeclarations, without_body, without_bodies}
use Rattle.module_stream.specs.DeclarationReading.{read_decls}
use Rattle.module_stream.proofs.DeclarationLaws.{decls_again}
use Rattle.module_stream.proofs.BodyLaws.{decls_of-without_bodies, without_bodies-declared, declared-stated}
use Rattle.elf_container.specs.declared.sections.OwnSection.{OwnSection}
use Rattle.elf_container.specs.Layout.{layout_of}
use Rattle.elf_container.specs.ObjectReading.{part}
use Rattle.elf_container.proofs.ReadAgain.{read_again}
use Rattle.func_summary.specs.Summaries.{summary_of}
use Rattle.func_summary.proofs.Checked.{all-from_places, all_at}
use Rattle.lto_object.specs.declared.fault.ObjectFault.{ObjectFault}
use Rattle.lto_object.specs.declared.fault.ObjectError.{ObjectError}
use Rattle.lto_object.specs.Bounds.{is_defined, defined_of, bounds_of, bounds_in, HasFewNames, HasBounds}
use Rattle.lto_object.specs.BodyStream.{bodies_of, bodies_bytes, FitBodies, read_bodies}
use Rattle.lto_object.specs.SummaryStream.{summaries_bytes, FitsSummary, FitSummaries, read_summaries}
use Rattle.lto_object.specs.SymbolStream.{stored_of, symbols_bytes, FitSymbols, read_symbols}
use Rattle.lto_object.specs.Objects.{summaries_of, symbols_of, section_of, sections_with, sections_of, object_of, ObjectData, IsObject}
use Rattle.lto_object.specs.declared.streams.Streams.{Streams}
use Rattle.lto_object.specs.Forms.{IsForm}
use Rattle.lto_object.specs.Streamed.{AreStreams}
use Rattle.lto_object.specs.ObjectReading.{◌>>=◌, read_file, with_bodies, Stored, read_streams, checked as checked_of, read_of, Gives}
use Rattle.lto_object.proofs.BodyLaws.{bodies_again}
use Rattle.lto_object.proofs.SummaryLaws.{summaries_again}
use Rattle.lto_object.proofs.SymbolLaws.{symbols_again}
use Rattle.lto_object.proofs.CheckedFacts.{Facts, facts, few_variables, few_labels, has_counts}
use Rattle.lto_object.proofs.BodyFits.{body_fits}
use Rattle.lto_object.proofs.SummaryFits.{summary_fits}
use Rattle.lto_object.proofs.SymbolFits.{symbols_fit, container}
use Rattle.lto_object.proofs.SizeLaws.{section_small}
use Rattle.lto_object.proofs.FormLaws.{form_good}
use Rattle.lto_object.proofs.CheckLaws.{IsSummed, true_summaries_good, symbols_good}
use Rattle.lto_object.proofs.FilledLaws.{with_count, refilled_module, filled_decls, filled_bounds, filled_bodies, with_bodies-stated}

-- ---- the streams fit the module without its bodies

-- of functions without their bodies the bounds are the same
bare_by : (g : Function → BodyBounds) → ((f : Function) → g (without_body f) ≡ g f) → (fs : List Function) → map g (defined_of (map without_body fs)) ≡ map g (defined_of fs)
bare_by g h [] = refl
bare_by g h (f ∷ fs) = by (is_defined f) (bare_by g h fs)
  where
    by : (b : Bool) → map g (defined_of (map without_body fs)) ≡ map g (defined_of fs) → map g (cond b (without_body f ∷ defined_of (map without_body fs)) (defined_of (map without_body fs))) ≡ map g (cond b (f ∷ defined_of fs) (defined_of fs))
    by true later = ap₂ (λ x xs. x ∷ xs) (h f) later
    by false later = later

bare_bounds : (m : Module) → bounds_in (without_bodies m) ≡ bounds_in m
bare_bounds m =
    bare_by (bounds_of (without_bodies m)) (λ f. refl) m.functions
    ∙ ap (λ (n : ℕ). map (with_count m n) (defined_of m.functions)) (length-map m.functions without_body)

each_fits : {A : Type 0} (P : BodyBounds → A → Type 0) (g : Function → BodyBounds) (h : Function → A) (fs : List Function) → ((i : ℕ) (f : Function) → slice_get fs i ≡ Some f → P (g f) (h f)) → FitEach P (map g (defined_of fs)) (map h (defined_of fs))
each_fits P g h [] k = tt
each_fits P g h (f ∷ fs) k = by (is_defined f) (k 0 f refl) (each_fits P g h fs (λ i x here. k (suc i) x here))
  where
    by : (b : Bool) → P (g f) (h f) → FitEach P (map g (defined_of fs)) (map h (defined_of fs)) → FitEach P (map g (cond b (f ∷ defined_of fs) (defined_of fs))) (map h (cond b (f ∷ defined_of fs) (defined_of fs)))
    by true one later = (one, later)
    by false one later = later

bodies_fit : (m : Module) → IsChecked m → FitBodies (without_bodies m) (bodies_of m.functions)
bodies_fit m checked =
    subst (λ (bs : List BodyBounds). FitEach FitsBody bs (bodies_of m.functions)) (sym (bare_bounds m))
    (each_fits FitsBody (bounds_of m) (λ f. f.body) m.functions (λ i f here. body_fits m f checked (facts m i f checked here)))

pub true_summaries_fit : (m : Module) → IsChecked m → FitSummaries m (summaries_of m)
true_summaries_fit m checked = each_fits FitsSummary (bounds_of m) (summary_of m) m.functions (λ i f here. summary_fits m i f checked here)

summaries_fit : (m : Module) → IsChecked m → FitSummaries (without_bodies m) (summaries_of m)
summaries_fit m checked = subst (λ (bs : List BodyBounds). FitEach FitsSummary bs (summaries_of m)) (sym (bare_bounds m)) (true_summaries_fit m checked)

few_names : (m : Module) → IsChecked m → All HasFewNames m.functions
few_names m checked = all-from_places HasFewNames m.functions (λ i f here. let k = facts m i f checked here in record { variables = omega (arith, few_variables m f checked k); labels = omega (arith, few_labels m f k) })

mapped_all : {X Y : Type 0} (P : Y → Type 0) (g : X → Y) (xs : List X) → ((i : ℕ) (x : X) → slice_get xs i ≡ Some x → P (g x)) → All P (map g xs)
mapped_all P g [] h = All-nil P
mapped_all P g (x ∷ xs) h = All-cons P (g x) (map g xs) (h 0 x refl) (mapped_all P g xs (λ i y here. h (suc i) y here))

pub checked_bounds : (m : Module) → IsChecked m → HasBounds m
checked_bounds m checked = record {
  arrays = omega (arith, checked.stated.items);
  functions = omega (arith, checked.stated.items);
  each = few_names m checked;
}

-- each function with a body has bounds that its true summary fits
pub summed : (m : Module) → IsChecked m → AllByRecursion (λ g. is_defined g ≡ true → IsSummed m g) m.functions
summed m checked =
    recursion_from_All (λ g. is_defined g ≡ true → IsSummed m g) m.functions (all-from_places (λ g. is_defined g ≡ true → IsSummed m g) m.functions (λ i f here e. of_function i f here (facts m i f checked here)))
  where
    of_function : (i : ℕ) (f : Function) → slice_get m.functions i ≡ Some f → Facts m f → IsSummed m f
    of_function i f here k = record {
      counts = record { variables = omega (arith, few_variables m f checked k); labels = omega (arith, few_labels m f k); arrays = omega (arith, checked.stated.items); functions = omega (arith, checked.stated.items) };
      fits = summary_fits m i f checked here;
    }

bare_has_bounds : (m : Module) → IsChecked m → HasBounds (without_bodies m)
bare_has_bounds m checked = record {
  arrays = omega (arith, checked.stated.items);
  functions = omega (arith, checked.stated.items, length-map m.functions without_body);
  each = mapped_all HasFewNames without_body m.functions (λ i f here. let k = all_at HasFewNames m.functions (few_names m checked) i f here in record { variables = k.variables; labels = k.labels });
}

-- ---- what is read

abbrev stored_as : Module → Stored
stored_as m = record { source = m; summaries = summaries_of m; symbols = map stored_of (symbols_of m) }

abbrev sections_by : Module → List OwnSection
sections_by m = sections_with (1 ∷ []) (decls_of m) (bodies_bytes (bodies_of m.functions)) (summaries_bytes (summaries_of m)) (symbols_bytes (map stored_of (symbols_of m)))

streams_read : (m : Module) → IsChecked m → length (layout_of (sections_by m)) < 2 ^ 64 → read_streams (sections_by m) ≡ Ok (stored_as m)
unfolding read_streams
streams_read m checked small =
    let bodies = bodies_of m.functions in
    let bounds = bare_has_bounds m checked in
    let d : read_decls (decls_of m) ≡ Ok (without_bodies m) = ap read_decls (sym (decls_of-without_bodies m)) ∙ decls_again (without_bodies m) (without_bodies-declared m checked.stated (has_counts m checked)) in
    let few : length (bodies_bytes bodies) < 2 ^ 64 = omega (arith, small, section_small (sections_by m) 2 (section_of (codes ".gnu.lto_.bodies") (bodies_bytes bodies)) refl) in
    let b : read_bodies (without_bodies m) (bodies_bytes bodies) ≡ Ok bodies = bodies_again (without_bodies m) bounds bodies (bodies_fit m checked) few in
    let s : read_summaries (without_bodies m) (summaries_bytes (summaries_of m)) ≡ Ok (summaries_of m) = summaries_again (without_bodies m) bounds (summaries_of m) (summaries_fit m checked) in
    let y : read_symbols (symbols_bytes (map stored_of (symbols_of m))) ≡ Ok (map stored_of (symbols_of m)) = symbols_again (map stored_of (symbols_of m)) (symbols_fit m checked) in
    rw (d, b, s, y, refilled_module m checked.stated) refl

all_checked : (m : Module) → IsChecked m → checked_of (stored_as m) ≡ Ok m
unfolding checked_of
all_checked m checked = rw (checked.faultless, true_summaries_good m, symbols_good m) refl

file_read : (m : Module) → length (layout_of (sections_by m)) < 2 ^ 64 → read_file (layout_of (sections_by m)) ≡ Ok (sections_by m)
unfolding read_file
file_read m small =
    let version = 1 ∷ [] in
    let found = read_again (layout_of (sections_by m)) (sections_by m) small (container version (decls_of m) (bodies_bytes (bodies_of m.functions)) (summaries_bytes (summaries_of m)) (symbols_bytes (map stored_of (symbols_of m)))) refl in
    let good = form_good (decls_of m) (bodies_bytes (bodies_of m.functions)) (summaries_bytes (summaries_of m)) (symbols_bytes (map stored_of (symbols_of m))) in
    rw (found, good) refl

laid : (m : Module) → object_of m ≡ layout_of (sections_by m)
unfolding object_of sections_of
laid m = refl

-- the object of a checked module is read as that module
pub object_read : (m : Module) (bytes : List ℕ) → IsChecked m → length bytes < 2 ^ 64 → bytes ≡ object_of m → read_of bytes ≡ Ok m
unfolding read_of
object_read m bytes checked small e =
    let is = e ∙ laid m in
    let few : length (layout_of (sections_by m)) < 2 ^ 64 = omega (arith, small, ap length is) in
    ap read_all is ∙ rw (file_read m few, streams_read m checked few) (all_checked m checked)
  where
    read_all : List ℕ → Result Module ObjectFault
    read_all file = read_file file >>= λ ss. read_streams ss >>= λ o. checked_of o

pub gives_only : (r : Result ObjectData ObjectError) (bytes : List ℕ) (m : Module) → read_of bytes ≡ Ok m → Gives r (read_of bytes) → Gives r (Ok m)
gives_only r bytes m e h = subst (λ read. Gives r read) e h

-- ---- what was read is the object

-- what a call gave, where it is known what that is
pub same_then : {X E : Type 0} (r : Result X E) (v : X) (P : X → Type 0) → IfOk r (λ x. x ≡ v) → P v → IfOk r P
same_then (Ok x) v P e p = subst P (sym e) p
same_then (Err error) v P e p = tt

object_is : (bytes : List ℕ) (ss : List OwnSection) (s : Streams) (o : ObjectData) → bytes ≡ layout_of ss → IsForm ss → AreStreams ss s → IsObject o → o.source ≡ s.source
    → (s.summaries ≡ o.summaries) × (s.symbols ≡ map stored_of o.symbols) → bytes ≡ object_of o.source
object_is bytes ss s o laid_so form streams object source same =
    let decls : part 1 ss ≡ decls_of o.source = streams.declarations ∙ ap decls_of (sym source) in
    let bodies : part 2 ss ≡ bodies_bytes (bodies_of o.source.functions) = streams.spelled_bodies ∙ ap (λ (m : Module). bodies_bytes (bodies_of m.functions)) (sym source) in
    let summaries : part 3 ss ≡ summaries_bytes (summaries_of o.source) = streams.spelled_summaries ∙ ap summaries_bytes (same.0 ∙ object.summaries) in
    let symbols : part 4 ss ≡ symbols_bytes (map stored_of (symbols_of o.source)) = streams.spelled_symbols ∙ ap symbols_bytes (same.1 ∙ ap (map stored_of) object.symbols) in
    laid_so ∙ ap layout_of (form ∙ parts_same decls bodies summaries symbols) ∙ sym (laid o.source)
  where
    parts_same : {d e b c t u y z : List ℕ} → d ≡ e → b ≡ c → t ≡ u → y ≡ z → sections_with (1 ∷ []) d b t y ≡ sections_with (1 ∷ []) e c u z
    parts_same p q r s = rw (p, q, r, s) refl

pub object_found : (r : Result ObjectData ObjectError) (bytes : List ℕ) (ss : List OwnSection) (s : Streams) → bytes ≡ layout_of ss → IsForm ss → AreStreams ss s
    → IfOk r IsObject → IfOk r (λ o. o.source ≡ s.source) → IfOk r (λ o. (s.summaries ≡ o.summaries) × (s.symbols ≡ map stored_of o.symbols)) → IfOk r (λ o. IsObject o × (bytes ≡ object_of o.source))
object_found (Ok o) bytes ss s laid_so form streams object source same = (object, object_is bytes ss s o laid_so form streams object source same)
object_found (Err e) bytes ss s laid_so form streams object source same = tt

-- ---- what the streams hold

pub streams_are : (ss : List OwnSection) (declared : Module) (bodies : List (List Statement)) (s : Streams) → AreDeclarations declared → length declared.structs + length declared.arrays + length declared.functions < 2 ^ 32
    → part 1 ss ≡ decls_of declared → FitBodies declared bodies → part 2 ss ≡ bodies_bytes bodies → FitSummaries declared s.summaries → part 3 ss ≡ summaries_bytes s.summaries → part 4 ss ≡ symbols_bytes s.symbols
    → s.source ≡ with_bodies declared bodies → map (λ b. b.now) s.bodies.items ≡ map body_of bodies → AreStreams ss s
streams_are ss declared bodies s are few decls fit bytes summaries spelled symbols source lent =
    let filled : bodies_of s.source.functions ≡ bodies = ap (λ (m : Module). bodies_of m.functions) source ∙ filled_bodies declared bodies fit in
    record {
      stated = subst (λ (m : Module). IsStated m) (sym source) (with_bodies-stated declared bodies (declared-stated declared are few) fit);
      fit = subst (λ (bs : List BodyBounds). FitEach FitsSummary bs s.summaries) (sym (ap bounds_in source ∙ filled_bounds declared bodies)) summaries;
      declarations = decls ∙ sym (ap decls_of source ∙ filled_decls declared bodies);
      spelled_bodies = bytes ∙ ap bodies_bytes (sym filled);
      spelled_summaries = spelled;
      spelled_symbols = symbols;
      lent = lent ∙ ap (map body_of) (sym filled);
    }
