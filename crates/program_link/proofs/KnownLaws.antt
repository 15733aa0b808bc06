-- What the parts of a plan name and do not define are names of its image: the stubs, the versions and the arrays.
use Rattle.std.proofs.Common.{◌≡◌, ℕ, zero, suc, ◌+◌, ◌<◌, Bool, true, false, cond, not, ◌||◌, List, [], ◌∷◌, ◌++◌, length, map, filter, Option, Some, refl, sym, ap, ap₂, ◌∙◌, subst, arith}
use Rattle.std.specs.Prelude.{All, nat_eq, slice_get, unwrap_or, codes}
use Rattle.std.specs.List.{AllByRecursion, list_any, fold}
use Rattle.std.specs.Option.{option_map_or}
use Rattle.std.specs.Str.{bytes_eq}
use Rattle.std.proofs.lemmas.List.{map-append}
use Rattle.std.proofs.lemmas.List.Elements.{All-nil, All-cons, recursion_from_All}
use Rattle.std.proofs.lemmas.List.Folds.{list_any-append}
use Rattle.std.proofs.lemmas.Slice.Eq.{bytes_eq-Decides}
use Rattle.elf_container.specs.declared.relocatable.RelocObject.{RelocObject}
use Rattle.gimple_ir.specs.declared.types.Function.{Function}
use Rattle.gimple_ir.specs.declared.types.Program.{Program}
use Rattle.gimple_ir.specs.declared.unit.ArrayUse.{ArrayUse}
use Rattle.gimple_ir.specs.declared.merged.Merged.{Merged}
use Rattle.gimple_ir.specs.declared.plan.CallPlan.{CallPlan}
use Rattle.gimple_ir.specs.declared.plan.Plan.{Plan}
use Rattle.gimple_ir.specs.declared.plan.Version.{Version}
use Rattle.gimple_ir.specs.declared.versioned.VersionedFunction.{VersionedFunction}
use Rattle.gimple_ir.specs.Names.{is_among}
use Rattle.func_summary.specs.Summaries.{arrays_of, edges_of}
use Rattle.func_summary.specs.Summarised.{module_of, IsSummarised}
use Rattle.func_summary.proofs.Checked.{place_inside}
use Rattle.ipa_plan.specs.Rules.{Choice, IsPlanned}
use Rattle.ipa_transform.specs.Versioned.{versioned_of}
use Rattle.rv64_select.specs.declared.item.Symbol.{Symbol}
use Rattle.rv64_select.specs.declared.item.Symbol.TheVariants as symbols
use Rattle.rv64_select.specs.declared.references.Reference.{Reference}
use Rattle.rv64_select.specs.Assembly.{assembly_of}
use Rattle.rv64_select.specs.Code.{symbol_name}
use Rattle.rv64_select.specs.Selected.{with_name, with_reference, references, names_of_code}
use Rattle.rv64_select.specs.Items.{SymbolFits}
use Rattle.gimple_meaning.specs.Versioned.{IsVersioned}
use Rattle.rv64_select.proofs.Fits.{assembly_fits, references_fit}
use Rattle.final_link.specs.Arrays.{size_of, is_zeroed, array_symbol}
use Rattle.final_link.specs.Image.{round_up}
use Rattle.final_link.specs.Stubs.{functions_address}
use Rattle.final_link.specs.Members.{members_from, version_size}
use Rattle.final_link.specs.Symbols.{places_of, version_symbols, code_end, arrays_in_order, array_symbols, symbols_of}
use Rattle.final_link.specs.Placing.{IsKnown, names_of}
use Rattle.program_link.specs.Versions.{array_use, symbol_at, call_use, member_of, functions_of}
use Rattle.program_link.specs.Objects.{own_symbol, other_symbol, others, other_names, object_of}
use Rattle.program_link.proofs.Facts.{same_number}
use Rattle.program_link.proofs.Fitting.{version_fits}
use Rattle.program_link.proofs.VersionFacts.{IsAt, found_at, VersionFacts, versions_have}

-- ---- names among others

same_name : (name : List ℕ) → bytes_eq name name ≡ true
same_name name = (bytes_eq-Decides name name).1 refl

or_true : (b c : Bool) → c ≡ true → (b || c) ≡ true
or_true true c e = refl
or_true false c e = e

first_among : (name : List ℕ) (names : List (List ℕ)) → is_among (name ∷ names) name ≡ true
first_among name names = ap (λ (b : Bool). b || is_among names name) (same_name name)

later_among : (name first : List ℕ) (names : List (List ℕ)) → is_among names name ≡ true → is_among (first ∷ names) name ≡ true
later_among name first names e = or_true (bytes_eq name first) (is_among names name) e

among_front : (name : List ℕ) (xs ys : List (List ℕ)) → is_among xs name ≡ true → is_among (xs ++ ys) name ≡ true
among_front name xs ys e = list_any-append (bytes_eq name) xs ys ∙ ap (λ (b : Bool). b || is_among ys name) e

among_back : (name : List ℕ) (xs ys : List (List ℕ)) → is_among ys name ≡ true → is_among (xs ++ ys) name ≡ true
among_back name xs ys e = list_any-append (bytes_eq name) xs ys ∙ or_true (is_among xs name) (is_among ys name) e

-- an element that passes is among those that pass
picked_among : {X : Type 0} (g : X → List ℕ) (p : X → Bool) (xs : List X) (k : ℕ) (x : X) → slice_get xs k ≡ Some x → p x ≡ true → is_among (map g (filter p xs)) (g x) ≡ true
picked_among g p [] k x here passes = cc
picked_among {X} g p (y ∷ ys) zero x here passes =
    let same : y ≡ x = cc in
    let rest = filter p ys in
    ap (λ (z : X). is_among (map g (cond (p z) (z ∷ rest) rest)) (g x)) same
    ∙ ap (λ (b : Bool). is_among (map g (cond b (x ∷ rest) rest)) (g x)) passes ∙ first_among (g x) (map g rest)
picked_among g p (y ∷ ys) (suc k) x here passes = by (p y) (picked_among g p ys k x here passes)
  where
    by : (b : Bool) → is_among (map g (filter p ys)) (g x) ≡ true → is_among (map g (cond b (y ∷ filter p ys) (filter p ys))) (g x) ≡ true
    by true e = later_among (g x) (g y) (map g (filter p ys)) e
    by false e = e

-- ---- the names of the image

pub places_names : {X : Type 0} (name : X → List ℕ) (size : X → ℕ) (at : ℕ) (xs : List X) → map (λ e. e.0) (places_of name size at xs) ≡ map name xs
places_names name size at [] = refl
places_names name size at (x ∷ xs) = ap (λ (names : List (List ℕ)). name x ∷ names) (places_names name size (at + size x) xs)

abbrev pub stub_names : List (List ℕ)
stub_names = codes "__builtin_putchar" ∷ codes "__builtin_getchar" ∷ []

abbrev version_names : Plan → List (List ℕ)
version_names plan = map (λ v. v.symbol) plan.versions

abbrev array_names : Merged → Plan → List (List ℕ)
array_names merged plan = map (array_symbol merged) (arrays_in_order merged plan.arrays)

abbrev pub image_names : Merged → Plan → List (List ℕ)
image_names merged plan = stub_names ++ (version_names plan ++ array_names merged plan)

abbrev Named : Merged → Plan → List ℕ → Type 0
Named merged plan name = is_among (image_names merged plan) name ≡ true

pub names_are : (merged : Merged) (plan : Plan) (parts : List RelocObject) → names_of plan merged parts ≡ image_names merged plan
unfolding symbols_of
names_are merged plan parts =
    let first = λ (e : List ℕ × ℕ). e.0 in
    let members = members_from 0 parts in
    let kept = plan.arrays in
    let versions = version_symbols members plan.versions in
    let arrays = array_symbols merged kept (code_end members plan.versions) in
    ap (λ (names : List (List ℕ)). stub_names ++ names)
    (map-append first versions arrays
    ∙ ap₂ (λ (a b : List (List ℕ)). a ++ b) (places_names (λ (v : Version). v.symbol) (version_size members) functions_address plan.versions)
    (places_names (array_symbol merged) (size_of merged) (round_up 4096 (code_end members plan.versions)) (arrays_in_order merged kept)))

putchar_named : (merged : Merged) (plan : Plan) → Named merged plan (codes "__builtin_putchar")
putchar_named merged plan = first_among (codes "__builtin_putchar") (codes "__builtin_getchar" ∷ (version_names plan ++ array_names merged plan))

getchar_named : (merged : Merged) (plan : Plan) → Named merged plan (codes "__builtin_getchar")
getchar_named merged plan =
    later_among (codes "__builtin_getchar") (codes "__builtin_putchar") (codes "__builtin_getchar" ∷ (version_names plan ++ array_names merged plan))
    (first_among (codes "__builtin_getchar") (version_names plan ++ array_names merged plan))

-- ---- versions and kept arrays

version_among : (vs : List Version) (k : ℕ) (v : Version) → slice_get vs k ≡ Some v → is_among (map (λ v. v.symbol) vs) v.symbol ≡ true
version_among [] k v here = cc
version_among (w ∷ vs) zero v here =
    let same : w ≡ v = cc in
    ap (λ (x : Version). is_among (map (λ (v : Version). v.symbol) (x ∷ vs)) v.symbol) same ∙ first_among v.symbol (map (λ (x : Version). x.symbol) vs)
version_among (w ∷ vs) (suc k) v here = later_among v.symbol w.symbol (map (λ (x : Version). x.symbol) vs) (version_among vs k v here)

symbol_named : (merged : Merged) (plan : Plan) (place : ℕ) (v : Version) → slice_get plan.versions place ≡ Some v → Named merged plan (symbol_at plan place)
symbol_named merged plan place v here =
    let symbol : symbol_at plan place ≡ v.symbol = ap (λ (o : Option Version). option_map_or (λ (w : Version). w.symbol) o []) here in
    subst (Named merged plan) (sym symbol)
    (among_back v.symbol stub_names (version_names plan ++ array_names merged plan)
    (among_front v.symbol (version_names plan) (array_names merged plan) (version_among plan.versions place v here)))

-- where a number stands
number_at : (k : ℕ) (ns : List ℕ) → list_any (nat_eq k) ns ≡ true → (i : ℕ) × (slice_get ns i ≡ Some k)
number_at k [] h = cc
number_at k (n ∷ ns) h = by (nat_eq k n) refl h (number_at k ns)
  where
    by : (b : Bool) → nat_eq k n ≡ b → (b || list_any (nat_eq k) ns) ≡ true → (list_any (nat_eq k) ns ≡ true → (i : ℕ) × (slice_get ns i ≡ Some k)) → (i : ℕ) × (slice_get (n ∷ ns) i ≡ Some k)
    by true same either rest = (0, ap (λ (j : ℕ). Some j) (sym (same_number k n same)))
    by false same either rest = let later = rest either in (suc later.0, later.1)

-- the symbol of a kept array
kept_named : (merged : Merged) (kept : List ℕ) (k : ℕ) → list_any (nat_eq k) kept ≡ true → is_among (map (array_symbol merged) (arrays_in_order merged kept)) (array_symbol merged k) ≡ true
kept_named merged kept k stands =
    ap (λ (names : List (List ℕ)). is_among names name) (map-append (array_symbol merged) stored zeroed) ∙ by (is_zeroed merged k) refl
  where
    name : List ℕ
    name = array_symbol merged k

    stored : List ℕ
    stored = filter (λ (number : ℕ). not (is_zeroed merged number)) kept

    zeroed : List ℕ
    zeroed = filter (is_zeroed merged) kept

    here : (i : ℕ) × (slice_get kept i ≡ Some k)
    here = number_at k kept stands

    by : (b : Bool) → is_zeroed merged k ≡ b → is_among (map (array_symbol merged) stored ++ map (array_symbol merged) zeroed) name ≡ true
    by true e = among_back name (map (array_symbol merged) stored) (map (array_symbol merged) zeroed) (picked_among (array_symbol merged) (is_zeroed merged) kept here.0 k here.1 e)
    by false e =
        among_front name (map (array_symbol merged) stored) (map (array_symbol merged) zeroed)
        (picked_among (array_symbol merged) (λ (number : ℕ). not (is_zeroed merged number)) kept here.0 k here.1 (ap not e))

array_named : (merged : Merged) (plan : Plan) (k : ℕ) → list_any (nat_eq k) plan.arrays ≡ true → Named merged plan (array_symbol merged k)
array_named merged plan k kept =
    let name = array_symbol merged k in
    among_back name stub_names (version_names plan ++ array_names merged plan)
    (among_back name (version_names plan) (array_names merged plan) (kept_named merged plan.arrays k kept))

-- ---- the calls and arrays of a version

calls_named : (plan : Plan) (P : List ℕ → Type 0) (cs : List CallPlan) → ((k : ℕ) (c : CallPlan) → slice_get cs k ≡ Some c → P (symbol_at plan c.target))
    → AllByRecursion P (map (λ c. c.symbol) (map (call_use plan) cs))
calls_named plan P [] each = tt
calls_named plan P (c ∷ cs) each = (each 0 c refl, calls_named plan P cs (λ k d at. each (suc k) d at))

-- a call's target is a version
pub target_there : (p : Program) (merged : Merged) (plan : Plan) (choice : Choice) (version : Version) (f : Function) → VersionFacts p merged plan choice version f
    → (k : ℕ) (c : CallPlan) → slice_get version.calls k ≡ Some c → IsAt plan.versions c.target
target_there p merged plan choice version f known k c at =
    let inside : k < length (edges_of f) = omega (arith, place_inside version.calls k c at, known.count) in
    let edge = found_at (edges_of f) k inside in
    let call = known.calls k edge.element c edge.here at in
    record { element = call.target; here = call.there }

uses_named : (merged : Merged) (plan : Plan) (P : List ℕ → Type 0) (xs : List ℕ) → ((k : ℕ) → list_any (nat_eq k) plan.arrays ≡ true → P (array_symbol merged k))
    → AllByRecursion (λ a. list_any (nat_eq a) plan.arrays ≡ true) xs → AllByRecursion (λ u. P u.symbol) (map (array_use merged) xs)
uses_named merged plan P [] each h = tt
uses_named merged plan P (x ∷ xs) each h = (each x h.0, uses_named merged plan P xs each h.1)

-- ---- the names of a version's code

call_at : (P : List ℕ → Type 0) (xs : List (List ℕ)) (k : ℕ) → k < length xs → AllByRecursion P xs → P (unwrap_or (slice_get xs k) [])
call_at P [] k lt h = absurd (omega (arith, lt))
call_at P (x ∷ xs) zero lt h = h.0
call_at P (x ∷ xs) (suc k) lt h = call_at P xs k (omega (arith, lt)) h.1

use_at : (P : List ℕ → Type 0) (us : List ArrayUse) (k : ℕ) → k < length us → AllByRecursion (λ u. P u.symbol) us → P (option_map_or (λ u. u.symbol) (slice_get us k) [])
use_at P [] k lt h = absurd (omega (arith, lt))
use_at P (u ∷ us) zero lt h = h.0
use_at P (u ∷ us) (suc k) lt h = use_at P us k (omega (arith, lt)) h.1

-- what holds of the names that a version has
record HoldsOf (P : List ℕ → Type 0) (f : VersionedFunction) : Type 0 where
  putchar : P (codes "__builtin_putchar")
  getchar : P (codes "__builtin_getchar")
  calls : AllByRecursion P f.calls
  arrays : AllByRecursion (λ u. P u.symbol) f.arrays

symbol_holds : (P : List ℕ → Type 0) (f : VersionedFunction) (s : Symbol) → HoldsOf P f → SymbolFits f s → P (symbol_name f s)
symbol_holds P f symbols.Putchar h fits = h.putchar
symbol_holds P f symbols.Getchar h fits = h.getchar
symbol_holds P f (symbols.Target call) h fits = call_at P f.calls call fits h.calls
symbol_holds P f (symbols.Array array) h fits = use_at P f.arrays array fits h.arrays

one_more : (P : List ℕ → Type 0) (names : List (List ℕ)) (name : List ℕ) → AllByRecursion P names → P name → AllByRecursion P (with_name names name)
one_more P names name h k = by (is_among names name)
  where
    behind : (xs : List (List ℕ)) → AllByRecursion P xs → AllByRecursion P (xs ++ name ∷ [])
    behind [] g = (k, tt)
    behind (x ∷ xs) g = (g.0, behind xs g.1)

    by : (b : Bool) → AllByRecursion P (cond b names (names ++ name ∷ []))
    by true = h
    by false = behind names h

names_hold : (P : List ℕ → Type 0) (f : VersionedFunction) (names : List (List ℕ)) (refs : List Reference) → HoldsOf P f → AllByRecursion P names
    → AllByRecursion (λ r. SymbolFits f r.symbol) refs → AllByRecursion P (fold (with_reference f) names refs)
names_hold P f names [] h k fits = k
names_hold P f names (r ∷ refs) h k fits =
    names_hold P f (with_reference f names r) refs h (one_more P names (symbol_name f r.symbol) k (symbol_holds P f r.symbol h fits.0)) fits.1

code_holds : (P : List ℕ → Type 0) (f : VersionedFunction) → HoldsOf P f → IsVersioned f → AllByRecursion P (names_of_code f)
unfolding names_of_code
code_holds P f h versioned = names_hold P f [] (references (assembly_of f)) h tt (references_fit f 0 (assembly_of f) (assembly_fits f versioned))

others_hold : (P : List ℕ → Type 0) (own : List ℕ) (names : List (List ℕ)) → AllByRecursion P names → AllByRecursion P (others own names)
others_hold P own [] h = tt
others_hold P own (name ∷ names) h = by (not (bytes_eq own name)) (others_hold P own names h.1)
  where
    by : (b : Bool) → AllByRecursion P (others own names) → AllByRecursion P (cond b (name ∷ others own names) (others own names))
    by true k = (h.0, k)
    by false k = k

-- ---- the parts

others_known : (names xs : List (List ℕ)) → AllByRecursion (λ x. is_among names x ≡ true) xs → AllByRecursion (IsKnown names) (map other_symbol xs)
others_known names [] h = tt
others_known names (x ∷ xs) h = (λ e. h.0, others_known names xs h.1)

all_from : {X : Type 0} (P : X → Type 0) (xs : List X) → AllByRecursion P xs → All P xs
all_from P [] h = All-nil P
all_from P (x ∷ xs) h = All-cons P x xs h.0 (all_from P xs h.1)

object_known : (names : List (List ℕ)) (f : VersionedFunction) → AllByRecursion (λ x. is_among names x ≡ true) (other_names f) → All (IsKnown names) (object_of f).symbols
unfolding object_of
object_known names f h =
    all_from (IsKnown names) (own_symbol f ∷ map other_symbol (other_names f)) (λ e. cc, others_known names (other_names f) h)

part_known : (p : Program) (merged : Merged) (plan : Plan) (choice : Choice) (version : Version) (f : Function) → IsSummarised p merged → VersionFacts p merged plan choice version f
    → All (IsKnown (image_names merged plan)) (object_of (versioned_of (member_of p merged plan version f))).symbols
part_known p merged plan choice version f summarised known =
    let P = Named merged plan in
    let v = versioned_of (member_of p merged plan version f) in
    let holds : HoldsOf P v = record {
      putchar = putchar_named merged plan;
      getchar = getchar_named merged plan;
      calls = calls_named plan P version.calls (λ k c at. let target = target_there p merged plan choice version f known k c at in symbol_named merged plan c.target target.element target.here);
      arrays = uses_named merged plan P (arrays_of (module_of p) f) (array_named merged plan)
          (recursion_from_All (λ (a : ℕ). list_any (nat_eq a) plan.arrays ≡ true) (arrays_of (module_of p) f) known.arrays);
    } in
    object_known (image_names merged plan) v (others_hold P v.symbol (names_of_code v) (code_holds P v holds (version_fits p merged plan choice version f summarised known)))

pub mapped_all : (Q : RelocObject → Type 0) (fs : List VersionedFunction) → AllByRecursion (λ f. Q (object_of f)) fs → AllByRecursion Q (map object_of fs)
mapped_all Q [] h = tt
mapped_all Q (f ∷ fs) h = (h.0, mapped_all Q fs h.1)

-- What a part names and does not define is a name of the image.
pub names_known : (p : Program) (merged : Merged) (plan : Plan) → IsSummarised p merged → IsPlanned merged plan
    → All (λ o. All (IsKnown (names_of plan merged (map object_of (functions_of p merged plan)))) o.symbols) (map object_of (functions_of p merged plan))
names_known p merged plan summarised planned =
    let parts = map object_of (functions_of p merged plan) in
    let Q = λ (o : RelocObject). All (IsKnown (image_names merged plan)) o.symbols in
    subst (λ (names : List (List ℕ)). All (λ (o : RelocObject). All (IsKnown names) o.symbols) parts) (sym (names_are merged plan parts))
    (all_from Q parts
    (mapped_all Q (functions_of p merged plan)
    (versions_have p merged plan (λ (f : VersionedFunction). Q (object_of f)) summarised planned (λ version f known. part_known p merged plan planned.choice version f summarised known))))
