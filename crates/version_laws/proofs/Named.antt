-- The symbols that versions name stand for versions of the functions, and for the arrays, that statements name.
use Rattle.std.proofs.Common.{◌≡◌, ◌^◌, ◌<◌, ℕ, List, [], ◌∷◌, length, map, Bool, true, false, true≢false, cond, eqb, eqb-true, eq-eqb, Some, refl, sym, ap, ◌∙◌, subst, ◌||◌, drop, arith}
use Rattle.std.specs.Prelude.{All, ◌&&◌, not, slice_get, filter, unwrap_or, nat_eq, nat_lt}
use Rattle.std.specs.List.{list_any, position_or_len}
use Rattle.std.specs.Option.{option_map_or}
use Rattle.std.specs.Str.{bytes_eq}
use Rattle.std.proofs.lemmas.Bool.Decides.{nat_tests}
use Rattle.std.proofs.lemmas.List.{length-map}
use Rattle.std.proofs.lemmas.List.Elements.{All-append, All-filter, All-head, All-tail, All-weaker}
use Rattle.std.proofs.lemmas.List.Folds.{list_any-append}
use Rattle.std.proofs.lemmas.Slice.Eq.{bytes_eq-Decides}
use Rattle.gimple_ir.specs.declared.types.Array.{Array}
use Rattle.gimple_ir.specs.declared.types.Program.{Program}
use Rattle.gimple_ir.specs.declared.plan.Version.{Version}
use Rattle.gimple_ir.specs.declared.plan.Plan.{Plan}
use Rattle.gimple_ir.specs.declared.merged.Merged.{Merged}
use Rattle.gimple_ir.specs.declared.merged.MergedArray.{MergedArray}
use Rattle.gimple_ir.specs.declared.versioned.VersionedFunction.{VersionedFunction}
use Rattle.gimple_ir.specs.Programs.{IsIdentifier}
use Rattle.func_summary.specs.Summarised.{IsSmallArray, IsSummarised}
use Rattle.func_summary.proofs.Checked.{both-true, all_at}
use Rattle.ipa_plan.specs.Rules.{is_reduced, IsPlanned}
use Rattle.final_link.specs.Arrays.{array_symbol, is_zeroed, stored_arrays, zeroed_arrays}
use Rattle.final_link.specs.Symbols.{arrays_in_order}
use Rattle.final_link.specs.Names.{value_of}
use Rattle.final_link.specs.Placing.{is_first_of}
use Rattle.program_link.specs.Versions.{version_in, functions_of}
use Rattle.program_link.proofs.Facts.{same_number}
use Rattle.program_link.proofs.SymbolLaws.{behind, behind_array, same_version}
use Rattle.program_link.proofs.SymbolLaws.{same_number as same_decimal}
use Rattle.version_laws.specs.States.{function_of_version}
use Rattle.version_laws.specs.Linked.{linked}
use Rattle.version_laws.proofs.Lists.{there, mapped_at, from_mapped, first_passing}
use Rattle.version_laws.proofs.Standing.{standing}

-- ---- functions

-- where a version stands, its function is known
pub function_there : (p : Program) (plan : Plan) (place : ℕ) (v : Version) → slice_get plan.versions place ≡ Some v → function_of_version p plan place ≡ v.function
function_there p plan place v at = ap (λ o. option_map_or (λ (w : Version). w.function) o (length p.functions)) at

-- two versions of one symbol are one
same_version_place : (p : Program) (merged : Merged) (plan : Plan) → IsSummarised p merged → IsPlanned merged plan → (place other : ℕ) (v w : Version)
    → slice_get plan.versions place ≡ Some v → slice_get plan.versions other ≡ Some w → v.symbol ≡ w.symbol → place ≡ other
same_version_place p merged plan summarised planned place other v w at also same =
    let k = standing p merged plan summarised planned place v at in
    let l = standing p merged plan summarised planned other w also in
    let numbers = same_version k.0.name l.0.name v.function w.function v.number w.number (is_reduced k.1.known.function v.bindings v.result) (is_reduced l.1.known.function w.bindings w.result)
    k.1.facts.name l.1.facts.name (omega (arith, k.1.inside, summarised.few_functions)) (omega (arith, l.1.inside, summarised.few_functions)) (omega (arith, k.1.known.few)) (omega (arith, l.1.known.few))
    (sym k.1.symbol ∙ same ∙ l.1.symbol) in
    by (nat_lt place other) (nat_lt other place) refl refl numbers
  where
    by : (a b : Bool) → nat_lt place other ≡ a → nat_lt other place ≡ b → (v.function ≡ w.function) × (v.number ≡ w.number) → place ≡ other
    by true b first second numbers =
        let below_other : place < other = grind (arith, nat_tests) in
        let before = planned.ordered place other v w below_other at also in
        absurd (omega (arith, before.numbers numbers.0, numbers.1))
    by false true first second numbers =
        let below_place : other < place = grind (arith, nat_tests) in
        let before = planned.ordered other place w v below_place also at in
        absurd (omega (arith, before.numbers (sym numbers.0), numbers.1))
    by false false first second numbers = grind (arith, nat_tests)

-- a version's symbol names it
pub place_named : (p : Program) (merged : Merged) (plan : Plan) → IsSummarised p merged → IsPlanned merged plan → (place : ℕ) (v : Version) → slice_get plan.versions place ≡ Some v
    → (linked p merged plan).function_named v.symbol ≡ place
place_named p merged plan summarised planned place v at =
    let test = λ (f : VersionedFunction). bytes_eq v.symbol f.symbol in
    let fs = functions_of p merged plan in
    let own = mapped_at (version_in p merged plan) plan.versions place v at in
    let r = first_passing test fs place (version_in p merged plan v) own ((bytes_eq-Decides v.symbol v.symbol).1 refl) in
    let from = from_mapped (version_in p merged plan) plan.versions (position_or_len test fs) r.0 r.1 in
    let w = from.0 in
    let same : v.symbol ≡ w.symbol =
    (bytes_eq-Decides v.symbol r.0.symbol).0 r.2 ∙ ap (λ (f : VersionedFunction). f.symbol) (sym from.2) in
    sym (same_version_place p merged plan summarised planned place (position_or_len test fs) v w at from.1 same)

-- a run begins with a version of `main`
pub record Begins (p : Program) (merged : Merged) (plan : Plan) : Type 0 where
  pub version : Version
  pub at : slice_get plan.versions (linked p merged plan).main ≡ Some version
  pub is : version.function ≡ p.main

pub begins_at : (p : Program) (merged : Merged) (plan : Plan) → IsSummarised p merged → IsPlanned merged plan → Begins p merged plan
begins_at p merged plan summarised planned =
    let first = planned.main summarised.exported in
    let v = first.1 in
    let r = first_passing (is_first_of merged.main) plan.versions first.0 v first.2 (passes v first.3.0 first.3.1) in
    let both = both-true (eqb r.0.function merged.main) (eqb r.0.number 0) r.2 in
    record { version = r.0; at = r.1; is = eqb-true r.0.function merged.main both.0 ∙ summarised.main }
  where
    and_true : (a b : Bool) → a ≡ true → b ≡ true → (a && b) ≡ true
    and_true true b e h = h
    and_true false b e h = absurd (true≢false (sym e))

    passes : (v : Version) → v.function ≡ merged.main → v.number ≡ 0 → is_first_of merged.main v ≡ true
    passes v of number = and_true (eqb v.function merged.main) (eqb v.number 0) (eq-eqb v.function merged.main of) (eq-eqb v.number 0 number)

pub main_same : (p : Program) (merged : Merged) (plan : Plan) → IsSummarised p merged → IsPlanned merged plan → function_of_version p plan (linked p merged plan).main ≡ p.main
main_same p merged plan summarised planned =
    let first = begins_at p merged plan summarised planned in
    function_there p plan (linked p merged plan).main first.version first.at ∙ first.is

-- ---- arrays

-- the arrays of the link are the program's
pub same_arrays : (p : Program) (merged : Merged) (plan : Plan) → IsSummarised p merged → (linked p merged plan).arrays ≡ p.arrays
same_arrays p merged plan summarised = summarised.items

-- one of those that pass a test, which passes it
still_there : (z : ℕ → Bool) (k : ℕ) → z k ≡ true → (ks : List ℕ) → list_any (nat_eq k) ks ≡ true → list_any (nat_eq k) (filter z ks) ≡ true
still_there z k passes [] h = h
still_there z k passes (j ∷ ks) h = by (nat_eq k j) (z j) refl refl (still_there z k passes ks) h
  where
    by : (c b : Bool) → nat_eq k j ≡ c → z j ≡ b → (list_any (nat_eq k) ks ≡ true → list_any (nat_eq k) (filter z ks) ≡ true) → (c || list_any (nat_eq k) ks) ≡ true
        → list_any (nat_eq k) (cond b (j ∷ filter z ks) (filter z ks)) ≡ true
    by true true same test later more = ap (λ (c : Bool). c || list_any (nat_eq k) (filter z ks)) same
    by true false same test later more = absurd (true≢false (sym passes ∙ ap z (same_number k j same) ∙ test))
    by false true same test later more = ap (λ (c : Bool). c || list_any (nat_eq k) (filter z ks)) same ∙ later more
    by false false same test later more = later more

or_true : (a : Bool) → (a || true) ≡ true
or_true true = refl
or_true false = refl

in_order : (merged : Merged) (k : ℕ) (ks : List ℕ) → list_any (nat_eq k) ks ≡ true → list_any (nat_eq k) (arrays_in_order merged ks) ≡ true
in_order merged k ks h = list_any-append (nat_eq k) (stored_arrays merged ks) (zeroed_arrays merged ks) ∙ by (is_zeroed merged k) refl
  where
    by : (b : Bool) → is_zeroed merged k ≡ b → (list_any (nat_eq k) (stored_arrays merged ks) || list_any (nat_eq k) (zeroed_arrays merged ks)) ≡ true
    by true zeroed =
        ap (λ (c : Bool). list_any (nat_eq k) (stored_arrays merged ks) || c) (still_there (is_zeroed merged) k zeroed ks h)
        ∙ or_true (list_any (nat_eq k) (stored_arrays merged ks))
    by false zeroed =
        ap (λ (c : Bool). c || list_any (nat_eq k) (zeroed_arrays merged ks)) (still_there (λ n. not (is_zeroed merged n)) k (ap not zeroed) ks h)

abbrev name_of : Merged → ℕ → List ℕ
name_of merged number = option_map_or (λ (a : MergedArray). a.name) (slice_get merged.arrays number) []

-- a number of an array, by whose symbol it is known
record IsNumber (merged : Merged) (number : ℕ) : Type 0 where
  few : number < 2 ^ 64
  name : IsIdentifier (name_of merged number)

same_array : (merged : Merged) (k j : ℕ) → IsNumber merged k → IsNumber merged j → array_symbol merged k ≡ array_symbol merged j → k ≡ j
same_array merged k j own other same =
    same_decimal k j own.few other.few
    (ap (λ (bytes : List ℕ). drop 1 bytes) (sym (behind_array (name_of merged k) k own.name) ∙ ap behind same ∙ behind_array (name_of merged j) j other.name))

-- of some arrays, each of which has its number under its symbol, one is found by its own
value_found : (merged : Merged) (k other : ℕ) → IsNumber merged k → (ks : List ℕ) → All (IsNumber merged) ks → list_any (nat_eq k) ks ≡ true
    → value_of other (array_symbol merged k) (map (λ j. (array_symbol merged j, j)) ks) ≡ k
value_found merged k other own [] all h = absurd (true≢false (sym h))
value_found merged k other own (j ∷ ks) all h =
    by (bytes_eq (array_symbol merged k) (array_symbol merged j)) refl (value_found merged k other own ks (All-tail (IsNumber merged) j ks all))
  where
    later : (c : Bool) → nat_eq k j ≡ c → bytes_eq (array_symbol merged k) (array_symbol merged j) ≡ false → (c || list_any (nat_eq k) ks) ≡ true → list_any (nat_eq k) ks ≡ true
    later true same differ more =
        absurd (true≢false (sym ((bytes_eq-Decides (array_symbol merged k) (array_symbol merged j)).1 (ap (array_symbol merged) (same_number k j same))) ∙ differ))
    later false same differ more = more

    rest : List (List ℕ × ℕ)
    rest = filter (λ e. bytes_eq (array_symbol merged k) e.0) (map (λ n. (array_symbol merged n, n)) ks)

    by : (b : Bool) → bytes_eq (array_symbol merged k) (array_symbol merged j) ≡ b
        → (list_any (nat_eq k) ks ≡ true → unwrap_or (slice_get (map (λ e. e.1) rest) 0) other ≡ k)
        → unwrap_or (slice_get (map (λ e. e.1) (cond b ((array_symbol merged j, j) ∷ rest) rest)) 0) other ≡ k
    by true test found =
        sym (same_array merged k j own (All-head (IsNumber merged) j ks all) ((bytes_eq-Decides (array_symbol merged k) (array_symbol merged j)).0 test))
    by false test found = found (later (nat_eq k j) refl test h)

-- each array of the link has a name
is_number : (p : Program) (merged : Merged) → IsSummarised p merged → (array : ℕ) → array < length merged.arrays → IsNumber merged array
is_number p merged summarised array lt =
    let count : length merged.arrays ≡ length p.arrays =
    sym (length-map merged.arrays (λ (a : MergedArray). a.item)) ∙ ap (λ (xs : List Array). length xs) summarised.items in
    let r = there merged.arrays array lt in
    let item = mapped_at (λ (a : MergedArray). a.item) merged.arrays array r.0 r.1 in
    let small = all_at IsSmallArray p.arrays summarised.arrays array r.0.item (ap (λ (xs : List Array). slice_get xs array) (sym summarised.items) ∙ item) in
    let named : name_of merged array ≡ r.0.item.name =
    ap (λ o. option_map_or (λ (a : MergedArray). a.name) o []) r.1 ∙ all_at (λ (a : MergedArray). a.name ≡ a.item.name) merged.arrays summarised.names array r.0 r.1 in
    record { few = omega (arith, lt, count, summarised.few_arrays); name = subst IsIdentifier (sym named) small.name }

-- a kept array's symbol names it
pub array_found : (p : Program) (merged : Merged) (plan : Plan) → IsSummarised p merged → IsPlanned merged plan → (array : ℕ) → array < length p.arrays → list_any (nat_eq array) plan.arrays ≡ true
    → (linked p merged plan).array_named (array_symbol merged array) ≡ array
array_found p merged plan summarised planned array lt kept =
    let count : length merged.arrays ≡ length p.arrays =
    sym (length-map merged.arrays (λ (a : MergedArray). a.item)) ∙ ap (λ (xs : List Array). length xs) summarised.items in
    let numbers = All-weaker (λ (a : ℕ). a < length merged.arrays) (IsNumber merged) (is_number p merged summarised) plan.arrays planned.arrays in
    let all = All-append (IsNumber merged) (stored_arrays merged plan.arrays) (zeroed_arrays merged plan.arrays)
    (All-filter (λ n. not (is_zeroed merged n)) (IsNumber merged) plan.arrays numbers) (All-filter (is_zeroed merged) (IsNumber merged) plan.arrays numbers) in
    value_found merged array (length merged.arrays) (is_number p merged summarised array (omega (arith, lt, count))) (arrays_in_order merged plan.arrays) all
    (in_order merged array plan.arrays kept)
