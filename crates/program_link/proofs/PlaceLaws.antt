-- The objects of a plan's versions can be placed: no two symbols are alike, each version is defined once, and the text is short.
use Rattle.std.proofs.Common.{◌≡◌, ℕ, zero, suc, ◌+◌, ◌*◌, ◌^◌, ◌<◌, ◌≤◌, Bool, true, false, cond, not, List, [], ◌∷◌, ◌++◌, length, map, filter, Some, None, refl, sym, ap, ◌∙◌, subst, arith}
use Rattle.std.specs.Prelude.{All, slice_get, sum_by, codes}
use Rattle.std.specs.List.{AllByRecursion}
use Rattle.std.specs.Option.{option_map_or}
use Rattle.std.specs.Str.{bytes_eq}
use Rattle.std.proofs.lemmas.List.{length-map}
use Rattle.std.proofs.lemmas.List.Elements.{recursion_from_All, All-from_recursion, All-weaker}
use Rattle.std.proofs.lemmas.List.Sums.{sum_by-cons}
use Rattle.std.proofs.lemmas.Slice.Eq.{bytes_eq-Decides}
use Rattle.elf_container.specs.declared.relocatable.RelocObject.{RelocObject}
use Rattle.elf_container.specs.Relocatable.{IsObject, ObjectFits}
use Rattle.gimple_ir.specs.declared.types.Function.{Function}
use Rattle.gimple_ir.specs.declared.types.Program.{Program}
use Rattle.gimple_ir.specs.declared.merged.Merged.{Merged}
use Rattle.gimple_ir.specs.declared.merged.MergedArray.{MergedArray}
use Rattle.gimple_ir.specs.declared.plan.Plan.{Plan}
use Rattle.gimple_ir.specs.declared.plan.Version.{Version}
use Rattle.gimple_ir.specs.declared.versioned.VersionedFunction.{VersionedFunction}
use Rattle.gimple_ir.specs.Names.{is_identifier, repeats}
use Rattle.gimple_ir.specs.Programs.{IsIdentifier}
use Rattle.func_summary.specs.Summarised.{IsSmallArray, IsSummarised}
use Rattle.func_summary.proofs.Checked.{place_inside}
use Rattle.ipa_plan.specs.Rules.{Choice, is_reduced, symbol_of, IsVersionIn, IsBefore, IsOrdered, IsPlanned}
use Rattle.ipa_transform.specs.Versioned.{versioned_of}
use Rattle.rv64_frame.specs.Frames.{HasFewSlots}
use Rattle.rv64_frame.specs.Frames as frames
use Rattle.gimple_meaning.specs.Versioned.{bound_of}
use Rattle.rv64_select.specs.Selected.{words_of_code}
use Rattle.rv64_select.proofs.FewSlots.{few_slots}
use Rattle.rv64_select.proofs.Bounds.{assembly-short}
use Rattle.final_link.specs.declared.members.Member.{Member}
use Rattle.final_link.specs.Stubs.{start_address, functions_address}
use Rattle.final_link.specs.Names.{of_name}
use Rattle.final_link.specs.Arrays.{is_zeroed, array_symbol, stored_arrays, zeroed_arrays}
use Rattle.final_link.specs.Members.{HasFrame, members_from, member_words, frame_size}
use Rattle.final_link.specs.Symbols.{end_of, code_end, arrays_in_order}
use Rattle.final_link.specs.Placing.{IsPlaceable, names_of}
use Rattle.follow_laws.specs.Direct.{code_size}
use Rattle.program_link.specs.Known.{symbol_by, IsPart}
use Rattle.program_link.specs.Versions.{member_of, version_in, functions_of}
use Rattle.program_link.specs.Objects.{object_of}
use Rattle.program_link.specs.Linking.{limits_of, first_passed, code_sum}
use Rattle.program_link.proofs.VersionFacts.{version_facts, version_has, versions_have}
use Rattle.program_link.proofs.Fitting.{version_fits, version_bound}
use Rattle.program_link.proofs.PartFrame.{has_frame, frame_is}
use Rattle.program_link.proofs.PlanLaws.{main_stands, items_all, arrays_defined, limits_kept, same_symbols}
use Rattle.program_link.proofs.KnownLaws.{names_are, names_known}
use Rattle.program_link.proofs.DirectLaws.{entries_from, entry_at, members_are, words_same, all_stand, ends_same}
use Rattle.program_link.proofs.Summing.{Climbs, climbing}
use Rattle.program_link.proofs.SymbolLaws.{Apart, apart_once, apart_append, same_version, arrays_differ, kinds_differ, stubs_differ, putchar_no_version, getchar_no_version, putchar_no_array, getchar_no_array}

-- ---- lists

kept_by : {X : Type 0} (P : X → Type 0) (b : Bool) (x : X) (xs : List X) → P x → AllByRecursion P xs → AllByRecursion P (cond b (x ∷ xs) xs)
kept_by P true x xs here h = (here, h)
kept_by P false x xs here h = h

kept_all : {X : Type 0} (P : X → Type 0) (p : X → Bool) (xs : List X) → AllByRecursion P xs → AllByRecursion P (filter p xs)
kept_all P p [] h = tt
kept_all P p (x ∷ xs) h = kept_by P (p x) x (filter p xs) h.0 (kept_all P p xs h.1)

both_all : {X : Type 0} (P : X → Type 0) (xs ys : List X) → AllByRecursion P xs → AllByRecursion P ys → AllByRecursion P (xs ++ ys)
both_all P [] ys h g = g
both_all P (x ∷ xs) ys h g = (h.0, both_all P xs ys h.1 g)

weaker : {X : Type 0} (P Q : X → Type 0) (xs : List X) → ((x : X) → P x → Q x) → AllByRecursion P xs → AllByRecursion Q xs
weaker P Q [] f h = tt
weaker P Q (x ∷ xs) f h = (f x h.0, weaker P Q xs f h.1)

-- ---- different numbers

abbrev Different : List ℕ → Type 0
Different [] = Unit {0}
Different (n ∷ ns) = AllByRecursion (λ k. n ≡ k → ⊥) ns × Different ns

different_by : (b : Bool) (n : ℕ) (ns : List ℕ) → AllByRecursion (λ k. n ≡ k → ⊥) ns → Different ns → Different (cond b (n ∷ ns) ns)
different_by true n ns here h = (here, h)
different_by false n ns here h = h

kept_different : (p : ℕ → Bool) (ns : List ℕ) → Different ns → Different (filter p ns)
kept_different p [] h = tt
kept_different p (n ∷ ns) h = different_by (p n) n (filter p ns) (kept_all (λ (k : ℕ). n ≡ k → ⊥) p ns h.0) (kept_different p ns h.1)

joined_different : (ns ks : List ℕ) → Different ns → Different ks → AllByRecursion (λ n. AllByRecursion (λ k. n ≡ k → ⊥) ks) ns → Different (ns ++ ks)
joined_different [] ks h g apart = g
joined_different (n ∷ ns) ks h g apart = (both_all (λ (k : ℕ). n ≡ k → ⊥) ns ks h.0 apart.0, joined_different ns ks h.1 g apart.1)

-- numbers that climb differ
above : (n least : ℕ) (ns : List ℕ) → n < least → Climbs least ns → AllByRecursion (λ k. n ≡ k → ⊥) ns
unfolding Climbs
above n least [] lt h = tt
above n least (k ∷ ks) lt h = (λ e. omega (arith, e, lt, h.0), above n (k + 1) ks (omega (arith, lt, h.0)) h.1)

climbs_differ : (least : ℕ) (ns : List ℕ) → Climbs least ns → Different ns
unfolding Climbs
climbs_differ least [] h = tt
climbs_differ least (n ∷ ns) h = (above n (n + 1) ns (omega arith) h.1, climbs_differ (n + 1) ns h.1)

passing_by : {X : Type 0} (p : X → Bool) (b : Bool) (x : X) (xs : List X) → p x ≡ b → AllByRecursion (λ y. p y ≡ true) xs → AllByRecursion (λ y. p y ≡ true) (cond b (x ∷ xs) xs)
passing_by p true x xs e h = (e, h)
passing_by p false x xs e h = h

passing : {X : Type 0} (p : X → Bool) (xs : List X) → AllByRecursion (λ y. p y ≡ true) (filter p xs)
passing p [] = tt
passing p (x ∷ xs) = passing_by p (p x) x (filter p xs) refl (passing p xs)

clash : (b : Bool) → not b ≡ true → b ≡ true → ⊥
clash true missed met = cc
clash false missed met = cc

other_kind : (p : ℕ → Bool) (n : ℕ) (ks : List ℕ) → not (p n) ≡ true → AllByRecursion (λ k. p k ≡ true) ks → AllByRecursion (λ k. n ≡ k → ⊥) ks
other_kind p n [] missed met = tt
other_kind p n (k ∷ ks) missed met = (λ e. clash (p n) missed (ap p e ∙ met.0), other_kind p n ks missed met.1)

other_kinds : (p : ℕ → Bool) (ns ks : List ℕ) → AllByRecursion (λ n. not (p n) ≡ true) ns → AllByRecursion (λ k. p k ≡ true) ks → AllByRecursion (λ n. AllByRecursion (λ k. n ≡ k → ⊥) ks) ns
other_kinds p [] ks missed met = tt
other_kinds p (n ∷ ns) ks missed met = (other_kind p n ks missed.0 met, other_kinds p ns ks missed.1 met)

parted_different : (p : ℕ → Bool) (ns : List ℕ) → Different ns → Different (filter (λ n. not (p n)) ns ++ filter p ns)
parted_different p ns h =
    let missed = λ (n : ℕ). not (p n) in
    joined_different (filter missed ns) (filter p ns) (kept_different missed ns h) (kept_different p ns h)
    (other_kinds p (filter missed ns) (filter p ns) (passing missed ns) (passing p ns))

-- ---- the versions

-- what is asked of a version's frame, code and symbol
record Bounded (p : Program) (merged : Merged) (plan : Plan) (version : Version) : Type 0 where
  slots : HasFewSlots (version_in p merged plan version)
  bound : bound_of (version_in p merged plan version) ≤ version.size
  name : List ℕ
  named : is_identifier name ≡ true
  reduced : Bool
  symbol : version.symbol ≡ symbol_of name version.function version.number reduced
  few : version.number < 2 ^ 32
  inside : version.function < length merged.functions

bounded : (p : Program) (merged : Merged) (plan : Plan) (choice : Choice) → IsSummarised p merged → (version : Version) → IsVersionIn merged plan choice version → Bounded p merged plan version
bounded p merged plan choice summarised version known =
    let k = version_facts p merged plan choice version summarised known in
    let facts = k.1 in
    record {
      slots = version_has p merged plan choice HasFewSlots summarised (λ v f h. few_slots (versioned_of (member_of p merged plan v f)) (version_fits p merged plan choice v f summarised h)) version known;
      bound = subst (λ (f : Function). bound_of (versioned_of (member_of p merged plan version f)) ≤ version.size)
          (sym facts.is) (omega (arith, version_bound p merged plan choice version k.0 summarised facts, facts.size));
      name = k.0.name;
      named = facts.facts.name;
      reduced = is_reduced facts.known.function version.bindings version.result;
      symbol = facts.symbol;
      few = known.few;
      inside = place_inside merged.functions version.function known.function known.there;
    }

all_bounded : (p : Program) (merged : Merged) (plan : Plan) → IsSummarised p merged → IsPlanned merged plan → AllByRecursion (Bounded p merged plan) plan.versions
all_bounded p merged plan summarised planned =
    recursion_from_All (Bounded p merged plan) plan.versions
    (All-weaker (IsVersionIn merged plan planned.choice) (Bounded p merged plan) (bounded p merged plan planned.choice summarised) plan.versions planned.versions)

all_few : (p : Program) (merged : Merged) (plan : Plan) → IsSummarised p merged → IsPlanned merged plan → AllByRecursion HasFewSlots (functions_of p merged plan)
all_few p merged plan summarised planned = versions_have p merged plan HasFewSlots summarised planned (λ v f h. few_slots (versioned_of (member_of p merged plan v f)) (version_fits p merged plan planned.choice v f summarised h))

-- the size of each frame is read from the words
pub framed : (p : Program) (merged : Merged) (plan : Plan) → IsSummarised p merged → IsPlanned merged plan
    → AllByRecursion (λ f. frame_size (words_of_code f) ≡ frames.frame_size f) (functions_of p merged plan)
framed p merged plan summarised planned =
    weaker HasFewSlots (λ (f : VersionedFunction). frame_size (words_of_code f) ≡ frames.frame_size f) (functions_of p merged plan) frame_is (all_few p merged plan summarised planned)

-- ---- the symbols of versions

abbrev symbols_in : List Version → List (List ℕ)
symbols_in versions = map (λ v. v.symbol) versions

-- a version whose symbol has its numbers
record IsNamed (v : Version) : Type 0 where
  name : List ℕ
  named : is_identifier name ≡ true
  reduced : Bool
  symbol : v.symbol ≡ symbol_of name v.function v.number reduced
  small : v.function < 2 ^ 64
  few : v.number < 2 ^ 64

all_named : (p : Program) (merged : Merged) (plan : Plan) (vs : List Version) → length merged.functions < 2 ^ 32 → AllByRecursion (Bounded p merged plan) vs → AllByRecursion IsNamed vs
all_named p merged plan [] few h = tt
all_named p merged plan (v ∷ vs) few h =
    (record { name = h.0.name; named = h.0.named; reduced = h.0.reduced; symbol = h.0.symbol; small = omega (arith, h.0.inside, few); few = omega (arith, h.0.few) }, all_named p merged plan vs few h.1)

-- those that stand before one another differ
later_versions : (v : Version) (vs : List Version) → IsNamed v → AllByRecursion IsNamed vs → ((j : ℕ) (w : Version) → slice_get vs j ≡ Some w → IsBefore v w)
    → AllByRecursion (λ symbol. v.symbol ≡ symbol → ⊥) (symbols_in vs)
later_versions v [] here h before = tt
later_versions v (w ∷ vs) here h before = (
  λ e.
      let same = same_version here.name h.0.name v.function w.function v.number w.number here.reduced h.0.reduced here.named h.0.named here.small h.0.small here.few h.0.few (sym here.symbol ∙ e ∙ h.0.symbol) in
      omega (arith, (before 0 w refl).numbers same.0, same.1),
  later_versions v vs here h.1 (λ j x at. before (suc j) x at),
)

versions_apart : (vs : List Version) → AllByRecursion IsNamed vs → IsOrdered vs → Apart (symbols_in vs)
unfolding Apart
versions_apart [] h ordered = tt
versions_apart (v ∷ vs) h ordered = (
  later_versions v vs h.0 h.1 (λ j w at. ordered 0 (suc j) v w (omega arith) refl at),
  versions_apart vs h.1 (λ i j x y lt at there. ordered (suc i) (suc j) x y (omega (arith, lt)) at there),
)

no_version : (stub : List ℕ) (vs : List Version) → ((a : List ℕ) (f n : ℕ) (r : Bool) → is_identifier a ≡ true → f < 2 ^ 64 → stub ≡ symbol_of a f n r → ⊥)
    → AllByRecursion IsNamed vs → AllByRecursion (λ symbol. stub ≡ symbol → ⊥) (symbols_in vs)
no_version stub [] law h = tt
no_version stub (v ∷ vs) law h = (λ e. law h.0.name v.function v.number h.0.reduced h.0.named h.0.small (e ∙ h.0.symbol), no_version stub vs law h.1)

-- ---- the symbols of arrays

abbrev array_name : Merged → ℕ → List ℕ
array_name merged number = option_map_or (λ a. a.name) (slice_get merged.arrays number) []

record HasSymbol (merged : Merged) (number : ℕ) : Type 0 where
  named : is_identifier (array_name merged number) ≡ true
  small : number < 2 ^ 64

named_at : (arrays : List MergedArray) (number : ℕ) → AllByRecursion (λ x. is_identifier x.name ≡ true) arrays → number < length arrays
    → is_identifier (option_map_or (λ a. a.name) (slice_get arrays number) []) ≡ true
named_at [] number h lt = absurd (omega (arith, lt))
named_at (a ∷ arrays) zero h lt = h.0
named_at (a ∷ arrays) (suc number) h lt = named_at arrays number h.1 (omega (arith, lt))

pub same_length : (p : Program) (merged : Merged) → IsSummarised p merged → length merged.arrays ≡ length p.arrays
same_length p merged summarised = sym (length-map merged.arrays (λ (a : MergedArray). a.item)) ∙ ap length summarised.items

-- the names of all arrays
renamed : (a : MergedArray) → a.name ≡ a.item.name → IsIdentifier a.item.name → IsIdentifier a.name
renamed a e h = subst IsIdentifier (sym e) h

all_renamed : (xs : List MergedArray) → AllByRecursion (λ a. a.name ≡ a.item.name) xs → AllByRecursion (λ a. IsSmallArray a.item) xs → AllByRecursion (λ a. IsIdentifier a.name) xs
all_renamed [] e h = tt
all_renamed (x ∷ xs) e h = (renamed x e.0 h.0.name, all_renamed xs e.1 h.1)

pub arrays_named : (p : Program) (merged : Merged) → IsSummarised p merged → AllByRecursion (λ a. IsIdentifier a.name) merged.arrays
arrays_named p merged summarised =
    all_renamed merged.arrays (recursion_from_All (λ (a : MergedArray). a.name ≡ a.item.name) merged.arrays summarised.names)
    (recursion_from_All (λ (a : MergedArray). IsSmallArray a.item) merged.arrays (items_all p merged IsSmallArray summarised summarised.arrays))

all_have : (p : Program) (merged : Merged) (plan : Plan) → IsSummarised p merged → IsPlanned merged plan → AllByRecursion (HasSymbol merged) plan.arrays
all_have p merged plan summarised planned =
    let names = arrays_named p merged summarised in
    let few = same_length p merged summarised in
    recursion_from_All (HasSymbol merged) plan.arrays
    (All-weaker (λ (n : ℕ). n < length merged.arrays) (HasSymbol merged) (λ n lt. record { named = named_at merged.arrays n names lt; small = omega (arith, lt, few, summarised.few_arrays) }) plan.arrays planned.arrays)

later_arrays : (merged : Merged) (n : ℕ) (ns : List ℕ) → HasSymbol merged n → AllByRecursion (HasSymbol merged) ns → AllByRecursion (λ k. n ≡ k → ⊥) ns
    → AllByRecursion (λ symbol. array_symbol merged n ≡ symbol → ⊥) (map (array_symbol merged) ns)
later_arrays merged n [] here h differ = tt
later_arrays merged n (k ∷ ns) here h differ =
    (arrays_differ (array_name merged n) (array_name merged k) n k here.named h.0.named here.small h.0.small differ.0, later_arrays merged n ns here h.1 differ.1)

arrays_apart : (merged : Merged) (ns : List ℕ) → AllByRecursion (HasSymbol merged) ns → Different ns → Apart (map (array_symbol merged) ns)
unfolding Apart
arrays_apart merged [] h differ = tt
arrays_apart merged (n ∷ ns) h differ = (later_arrays merged n ns h.0 h.1 differ.0, arrays_apart merged ns h.1 differ.1)

no_array : (merged : Merged) (symbol : List ℕ) (ns : List ℕ) → ((a : List ℕ) (n : ℕ) → is_identifier a ≡ true → symbol ≡ symbol_by a (codes ".a") n → ⊥)
    → AllByRecursion (HasSymbol merged) ns → AllByRecursion (λ other. symbol ≡ other → ⊥) (map (array_symbol merged) ns)
no_array merged symbol [] law h = tt
no_array merged symbol (n ∷ ns) law h = (law (array_name merged n) n h.0.named, no_array merged symbol ns law h.1)

no_arrays : (merged : Merged) (vs : List Version) (ns : List ℕ) → AllByRecursion IsNamed vs → AllByRecursion (HasSymbol merged) ns
    → AllByRecursion (λ x. AllByRecursion (λ y. x ≡ y → ⊥) (map (array_symbol merged) ns)) (symbols_in vs)
no_arrays merged [] ns h g = tt
no_arrays merged (v ∷ vs) ns h g = (
  no_array merged v.symbol ns (λ a n named e. kinds_differ h.0.name a v.function v.number n h.0.reduced h.0.named named h.0.small (sym h.0.symbol ∙ e)) g,
  no_arrays merged vs ns h.1 g,
)

-- ---- all symbols

stubs_apart : (versions arrays : List (List ℕ)) → AllByRecursion (λ n. codes "__builtin_putchar" ≡ n → ⊥) (versions ++ arrays) → AllByRecursion (λ n. codes "__builtin_getchar" ≡ n → ⊥) (versions ++ arrays)
    → Apart (versions ++ arrays) → Apart (codes "__builtin_putchar" ∷ (codes "__builtin_getchar" ∷ (versions ++ arrays)))
unfolding Apart
stubs_apart versions arrays putchar getchar apart = ((stubs_differ, putchar), (getchar, apart))

versions_named : (p : Program) (merged : Merged) (plan : Plan) → IsSummarised p merged → IsPlanned merged plan → AllByRecursion IsNamed plan.versions
versions_named p merged plan summarised planned =
    all_named p merged plan plan.versions (omega (arith, summarised.one_each, summarised.few_functions)) (all_bounded p merged plan summarised planned)

pub all_differ : (p : Program) (merged : Merged) (plan : Plan) (parts : List RelocObject) → IsSummarised p merged → IsPlanned merged plan → repeats (names_of plan merged parts) ≡ false
all_differ p merged plan parts summarised planned =
    let kept = plan.arrays in
    let order = arrays_in_order merged kept in
    let versions = symbols_in plan.versions in
    let arrays = map (array_symbol merged) order in
    let named = versions_named p merged plan summarised planned in
    let all = all_have p merged plan summarised planned in
    let have = both_all (HasSymbol merged) (stored_arrays merged kept) (zeroed_arrays merged kept)
    (kept_all (HasSymbol merged) (λ (n : ℕ). not (is_zeroed merged n)) kept all) (kept_all (HasSymbol merged) (is_zeroed merged) kept all) in
    let different = parted_different (is_zeroed merged) kept (climbs_differ 0 kept (climbing kept planned.ascending)) in
    let apart = apart_append versions arrays (versions_apart plan.versions named planned.ordered) (arrays_apart merged order have different) (no_arrays merged plan.versions order named have) in
    let putchar = both_all (λ (n : List ℕ). codes "__builtin_putchar" ≡ n → ⊥) versions arrays (no_version (codes "__builtin_putchar") plan.versions putchar_no_version named)
    (no_array merged (codes "__builtin_putchar") order putchar_no_array have) in
    let getchar = both_all (λ (n : List ℕ). codes "__builtin_getchar" ≡ n → ⊥) versions arrays (no_version (codes "__builtin_getchar") plan.versions getchar_no_version named)
    (no_array merged (codes "__builtin_getchar") order getchar_no_array have) in
    ap repeats (names_are merged plan parts)
    ∙ apart_once (codes "__builtin_putchar" ∷ (codes "__builtin_getchar" ∷ (versions ++ arrays))) (stubs_apart versions arrays putchar getchar apart)

-- ---- each version is defined once

abbrev count_named : List ℕ → List (List ℕ × Member) → ℕ
count_named name es = length (of_name name es)

passed_over : (b : Bool) (name other : List ℕ) (count : ℕ) (e : List ℕ × Member) (es : List (List ℕ × Member)) → bytes_eq name other ≡ b → (other ≡ name → ⊥) → length (map (λ x. x.1) es) ≡ count
    → length (map (λ x. x.1) (cond b (e ∷ es) es)) ≡ count
passed_over true name other count e es is differ h = absurd (differ (sym ((bytes_eq-Decides name other).0 is)))
passed_over false name other count e es is differ h = h

none_named : (name : List ℕ) (part : ℕ) (fs : List VersionedFunction) → AllByRecursion (λ other. name ≡ other → ⊥) (map (λ f. f.symbol) fs) → count_named name (entries_from part fs) ≡ 0
none_named name part [] h = refl
none_named name part (f ∷ fs) h =
    passed_over (bytes_eq name f.symbol) name f.symbol 0 (entry_at part f) (filter (λ (e : List ℕ × Member). bytes_eq name e.0) (entries_from (part + 1) fs)) refl
    (λ e. h.0 (sym e)) (none_named name (part + 1) fs h.1)

later_once : (part : ℕ) (f : VersionedFunction) (es : List (List ℕ × Member)) (names : List (List ℕ)) → AllByRecursion (λ n. f.symbol ≡ n → ⊥) names
    → AllByRecursion (λ n. count_named n es ≡ 1) names → AllByRecursion (λ n. count_named n (entry_at part f ∷ es) ≡ 1) names
later_once part f es [] differ h = tt
later_once part f es (n ∷ names) differ h = (
  passed_over (bytes_eq n f.symbol) n f.symbol 1 (entry_at part f) (filter (λ (e : List ℕ × Member). bytes_eq n e.0) es) refl differ.0 h.0,
  later_once part f es names differ.1 h.1,
)

once_here : (b : Bool) (e : List ℕ × Member) (es : List (List ℕ × Member)) → b ≡ true → length (map (λ x. x.1) es) ≡ 0 → length (map (λ x. x.1) (cond b (e ∷ es) es)) ≡ 1
once_here true e es is h = ap suc h
once_here false e es is h = cc

once_in : (part : ℕ) (fs : List VersionedFunction) → Apart (map (λ f. f.symbol) fs) → AllByRecursion (λ n. count_named n (entries_from part fs) ≡ 1) (map (λ f. f.symbol) fs)
unfolding Apart
once_in part [] apart = tt
once_in part (f ∷ fs) apart = (
  once_here (bytes_eq f.symbol f.symbol) (entry_at part f) (filter (λ (e : List ℕ × Member). bytes_eq f.symbol e.0) (entries_from (part + 1) fs)) ((bytes_eq-Decides f.symbol f.symbol).1 refl)
      (none_named f.symbol (part + 1) fs apart.0),
  later_once part f (entries_from (part + 1) fs) (map (λ (g : VersionedFunction). g.symbol) fs) apart.0 (once_in (part + 1) fs apart.1),
)

unmapped : (P : List ℕ → Type 0) (vs : List Version) → AllByRecursion P (map (λ v. v.symbol) vs) → AllByRecursion (λ v. P v.symbol) vs
unmapped P [] h = tt
unmapped P (v ∷ vs) h = (h.0, unmapped P vs h.1)

all_once : (p : Program) (merged : Merged) (plan : Plan) → IsSummarised p merged → IsPlanned merged plan
    → AllByRecursion (λ v. count_named v.symbol (members_from 0 (map object_of (functions_of p merged plan))) ≡ 1) plan.versions
all_once p merged plan summarised planned =
    let fs = functions_of p merged plan in
    let names = map (λ (f : VersionedFunction). f.symbol) fs in
    let same = same_symbols p merged plan in
    let apart : Apart names = subst Apart same (versions_apart plan.versions (versions_named p merged plan summarised planned) planned.ordered) in
    let once = subst (λ (es : List (List ℕ × Member)). AllByRecursion (λ (n : List ℕ). count_named n es ≡ 1) names) (sym (members_are 0 fs)) (once_in 0 fs apart) in
    let members = members_from 0 (map object_of fs) in
    unmapped (λ (n : List ℕ). count_named n members ≡ 1) plan.versions
    (subst (λ (ns : List (List ℕ)). AllByRecursion (λ (n : List ℕ). count_named n members ≡ 1) ns) (sym same) once)

-- ---- their frames

object_at : (fs : List VersionedFunction) (i : ℕ) (f : VersionedFunction) → slice_get fs i ≡ Some f → slice_get (map object_of fs) i ≡ Some (object_of f)
object_at [] i f here = cc
object_at (g ∷ fs) zero f here = let same : g ≡ f = cc in ap (λ (h : VersionedFunction). Some (object_of h)) same
object_at (g ∷ fs) (suc i) f here = object_at fs i f here

frames_from : (parts : List RelocObject) (part : ℕ) (fs : List VersionedFunction) → AllByRecursion HasFewSlots fs
    → ((i : ℕ) (f : VersionedFunction) → slice_get fs i ≡ Some f → slice_get parts (part + i) ≡ Some (object_of f))
    → AllByRecursion (λ e. HasFrame (member_words parts e.1)) (entries_from part fs)
frames_from parts part [] few found = tt
frames_from parts part (f ∷ fs) few found =
    let here : part + 0 ≡ part = omega arith in
    let first = subst (λ (k : ℕ). slice_get parts k ≡ Some (object_of f)) here (found 0 f refl) in
    let next = λ (i : ℕ). let e : part + suc i ≡ part + 1 + i = omega arith in e in (
      subst HasFrame (sym (words_same parts part f first)) (has_frame f few.0),
      frames_from parts (part + 1) fs few.1 (λ i g at. subst (λ (k : ℕ). slice_get parts k ≡ Some (object_of g)) (next i) (found (suc i) g at)),
    )

all_framed : (p : Program) (merged : Merged) (plan : Plan) → IsSummarised p merged → IsPlanned merged plan
    → AllByRecursion (λ e. HasFrame (member_words (map object_of (functions_of p merged plan)) e.1)) (members_from 0 (map object_of (functions_of p merged plan)))
all_framed p merged plan summarised planned =
    let fs = functions_of p merged plan in
    let parts = map object_of fs in
    let first = λ (i : ℕ). let e : i ≡ 0 + i = omega arith in e in
    subst (λ (es : List (List ℕ × Member)). AllByRecursion (λ (e : List ℕ × Member). HasFrame (member_words parts e.1)) es) (sym (members_are 0 fs))
    (frames_from parts 0 fs (all_few p merged plan summarised planned) (λ i f here. subst (λ (k : ℕ). slice_get parts k ≡ Some (object_of f)) (first i) (object_at fs i f here)))

-- ---- the text

one_longer : (at size bound most rest all last : ℕ) → size ≤ bound → bound ≤ most → last ≤ at + size + rest → all ≡ most + rest → last ≤ at + all
one_longer at size bound most rest all last h g more e = omega (arith, h, g, more, e)

end_within : (p : Program) (merged : Merged) (plan : Plan) (at : ℕ) (vs : List Version) → AllByRecursion (Bounded p merged plan) vs
    → end_of code_size at (map (version_in p merged plan) vs) ≤ at + sum_by (λ v. v.size) vs
end_within p merged plan at [] h = omega arith
end_within p merged plan at (v ∷ vs) h =
    let f = version_in p merged plan v in
    let size = λ (w : Version). w.size in
    one_longer at (code_size f) (bound_of f) v.size (sum_by size vs) (sum_by size (v ∷ vs))
    (end_of code_size (at + code_size f) (map (version_in p merged plan) vs))
    (assembly-short f h.0.slots) h.0.bound (end_within p merged plan (at + code_size f) vs h.1) (sum_by-cons size v vs)

-- the code of the versions is at most twice as long as the bounds of all functions allow
pub code_within : (p : Program) (merged : Merged) (plan : Plan) → IsSummarised p merged → IsPlanned merged plan
    → end_of code_size functions_address (functions_of p merged plan) ≤ functions_address + 2 * code_sum merged
code_within p merged plan summarised planned =
    omega (arith, end_within p merged plan functions_address plan.versions (all_bounded p merged plan summarised planned), planned.grown)

short_text : (last direct code : ℕ) → last ≡ direct → direct ≤ functions_address + 2 * code → code ≤ 2 ^ 25 → last ≤ start_address + 2 ^ 27
short_text last direct code e h g = omega (arith, e, h, g)

text_short : (p : Program) (merged : Merged) (plan : Plan) → IsSummarised p merged → IsPlanned merged plan → code_sum merged ≤ 2 ^ 25 → AllByRecursion IsObject (map object_of (functions_of p merged plan))
    → code_end (members_from 0 (map object_of (functions_of p merged plan))) plan.versions ≤ start_address + 2 ^ 27
text_short p merged plan summarised planned within objects =
    let fs = functions_of p merged plan in
    let vs = plan.versions in
    let parts = map object_of fs in
    let stand = all_stand [] fs vs parts refl (same_symbols p merged plan) (all_once p merged plan summarised planned) objects (framed p merged plan summarised planned) in
    short_text (code_end (members_from 0 parts) vs) (end_of code_size functions_address fs) (code_sum merged) (ends_same parts functions_address vs fs stand)
    (code_within p merged plan summarised planned) within

-- ---- what can be placed

pub placeable : (p : Program) (merged : Merged) (plan : Plan) → IsSummarised p merged → IsPlanned merged plan → first_passed (limits_of merged) ≡ None
    → All IsPart (map object_of (functions_of p merged plan)) → IsPlaceable plan merged (map object_of (functions_of p merged plan))
placeable p merged plan summarised planned within parts =
    let os = map object_of (functions_of p merged plan) in
    let members = members_from 0 os in
    let limits = limits_kept merged within in
    let objects = All-weaker IsPart IsObject (λ (o : RelocObject) (h : IsPart o). h.object) os parts in
    record {
      main = main_stands p merged plan summarised planned;
      arrays = planned.arrays;
      ascending = planned.ascending;
      defined = arrays_defined p merged summarised;
      differ = all_differ p merged plan os summarised planned;
      objects = objects;
      fits = All-weaker IsPart ObjectFits (λ (o : RelocObject) (h : IsPart o). h.fits) os parts;
      once = All-from_recursion (λ (v : Version). count_named v.symbol members ≡ 1) plan.versions (all_once p merged plan summarised planned);
      frames = All-from_recursion (λ (e : List ℕ × Member). HasFrame (member_words os e.1)) members (all_framed p merged plan summarised planned);
      known = names_known p merged plan summarised planned;
      text = text_short p merged plan summarised planned limits.code (recursion_from_All IsObject os objects);
      size = limits.arrays;
    }
