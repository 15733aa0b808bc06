-- A version of which nothing is known and that needs all its components: its bindings, what a call passes to it, its symbol, and the order
-- and the sizes of such versions.
use Rattle.std.proofs.Common.{◌≡◌, ◌<◌, ◌≤◌, ◌+◌, ℕ, zero, suc, List, [], ◌∷◌, ◌++◌, Bool, true, false, cond, map, replicate, Some, refl, sym, ap, ◌∙◌, append-nil, arith}
use Rattle.std.specs.Prelude.{◌&&◌, ◌||◌, not, slice_get, sum_by, codes, decimal}
use Rattle.std.specs.List.{range_with_len, enumerate_from, filter, list_any}
use Rattle.std.specs.List.Sorted.{IsStrictlyIncreasing}
use Rattle.std.specs.Option.{option_map}
use Rattle.std.proofs.lemmas.List.Kept.{AllPairs-from_increasing}
use Rattle.std.proofs.lemmas.List.Sums.{sum_by-cons}
use Rattle.std.proofs.lemmas.Option.{slice_get-map, slice_get_within, get_or_from_slice_get}
use Rattle.gimple_ir.specs.Statements.{is_void}
use Rattle.gimple_ir.specs.declared.types.Value.{Value}
use Rattle.gimple_ir.specs.declared.lattice.Binding.TheVariants.{Arg}
use Rattle.gimple_ir.specs.declared.lattice.Lattice.TheVariants.{Const, Bottom}
use Rattle.gimple_ir.specs.declared.plan.Version.{Version}
use Rattle.gimple_ir.specs.declared.merged.Merged.{Merged}
use Rattle.gimple_ir.specs.declared.merged.MergedFunction.{MergedFunction}
use Rattle.call_graph.specs.Live.{marked}
use Rattle.ipa_plan.specs.Plans.{bindings_of, version_symbol, version_of}
use Rattle.ipa_plan.specs.Vectors.{lattice_at}
use Rattle.ipa_plan.specs.Rules.{bindings_by, kept_from, is_dead, is_reduced, symbol_of, IsOrdered}

-- ---- one version

-- each component is the next argument
pub all_bound : (i k n : ℕ) → map Arg (range_with_len k n) ≡ bindings_by (λ c. true) i k (replicate n Bottom)
all_bound i k zero = refl
all_bound i k (suc n) =
    let next : k + 1 ≡ suc k = omega arith in
    ap (λ bs. Arg k ∷ bs) (ap (λ j. map Arg (range_with_len j n)) next ∙ all_bound (i + 1) (suc k) n)

-- so that all are passed
pub all_kept : (i k n : ℕ) → range_with_len i n ≡ kept_from i (map Arg (range_with_len k n))
all_kept i k zero = refl
all_kept i k (suc n) = ap (λ ns. i ∷ ns) (all_kept (i + 1) (k + 1) n)

pub none_known : (n i : ℕ) (x : Value) → lattice_at (replicate n Bottom) i ≡ Const x → ⊥
none_known zero i x h = cc
none_known (suc n) zero x h = cc
none_known (suc n) (suc i) x h = none_known n i x h

none_dead : (ns : List ℕ) → list_any is_dead (map Arg ns) ≡ false
none_dead [] = refl
none_dead (n ∷ ns) = none_dead ns

pub whole_symbol : (g : MergedFunction) (n count : ℕ) → version_symbol g.name n ≡ symbol_of g.name n 0 (is_reduced g (bindings_of count) true)
whole_symbol g n count =
    ap (λ ds. g.name ++ (codes "." ++ ds)) (sym (append-nil (decimal n)))
    ∙ ap (λ b. symbol_of g.name n 0 (b || (not true && not (is_void g.result)))) (sym (none_dead (range_with_len 0 count)))

-- ---- all versions

-- those whose functions ascend are in order
pub ordered_from : (vs : List Version) → IsStrictlyIncreasing (map (λ (v : Version). v.function) vs) → IsOrdered vs
ordered_from vs ascending i j v w lt here there =
    let numbers = map (λ (x : Version). x.function) vs in
    let first : slice_get numbers i ≡ Some v.function = slice_get-map (λ (x : Version). x.function) vs i ∙ ap (option_map (λ (x : Version). x.function)) here in
    let second : slice_get numbers j ≡ Some w.function = slice_get-map (λ (x : Version). x.function) vs j ∙ ap (option_map (λ (x : Version). x.function)) there in
    let less = AllPairs-from_increasing numbers ascending i j 0 lt (slice_get_within numbers j w.function second) in
    let below : v.function < w.function =
    omega (arith, less, get_or_from_slice_get numbers i v.function 0 first, get_or_from_slice_get numbers j w.function 0 second)
    in
    record { functions = omega (arith, below); numbers = λ same. absurd (omega (arith, below, same)) }

-- the versions of some functions are no larger than all functions
pub sizes_listed : (merged : Merged) (live : List Bool) (a : ℕ) (fs : List MergedFunction)
    → sum_by (λ (v : Version). v.size) (map (λ (e : ℕ × MergedFunction). version_of merged live e.0 e.1) (filter (λ (e : ℕ × MergedFunction). marked live e.0) (enumerate_from a fs)))
    ≤ sum_by (λ (g : MergedFunction). g.summary.code_bound) fs
sizes_listed merged live a [] = omega arith
sizes_listed merged live a (f ∷ fs) = by (marked live a) (sizes_listed merged live (a + 1) fs)
  where
    rest : List (ℕ × MergedFunction)
    rest = filter (λ (e : ℕ × MergedFunction). marked live e.0) (enumerate_from (a + 1) fs)

    versions : List (ℕ × MergedFunction) → List Version
    versions es = map (λ (e : ℕ × MergedFunction). version_of merged live e.0 e.1) es

    size : Version → ℕ
    size v = v.size

    bound : MergedFunction → ℕ
    bound g = g.summary.code_bound

    by : (b : Bool) → sum_by size (versions rest) ≤ sum_by bound fs → sum_by size (versions (cond b ((a, f) ∷ rest) rest)) ≤ sum_by bound (f ∷ fs)
    by true h = omega (arith, h, sum_by-cons size (version_of merged live a f) (versions rest), sum_by-cons bound f fs)
    by false h = omega (arith, h, sum_by-cons bound f fs)
