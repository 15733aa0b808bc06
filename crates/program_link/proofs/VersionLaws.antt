-- The laws of the versions of a program under its plan.
use Rattle.std.proofs.Common.{◌≡◌, ◌+◌, ℕ, List, [], ◌∷◌, ◌++◌, Bool, true, false, cond, not, map, filter, refl, sym, ap, ap₂, ◌∙◌, arith}
use Rattle.std.specs.Prelude.{All, sum_by, nat_eq}
use Rattle.std.specs.List.{list_any}
use Rattle.std.proofs.lemmas.List.{map-append}
use Rattle.std.proofs.lemmas.List.Elements.{All-from_recursion, All-map, All-weaker}
use Rattle.std.proofs.lemmas.List.Sums.{sum_by-append, sum_by-cons}
use Rattle.gimple_ir.specs.declared.types.Function.{Function}
use Rattle.gimple_ir.specs.declared.types.Program.{Program}
use Rattle.gimple_ir.specs.declared.merged.Merged.{Merged}
use Rattle.gimple_ir.specs.declared.merged.MergedArray.{MergedArray}
use Rattle.gimple_ir.specs.declared.plan.Plan.{Plan}
use Rattle.gimple_ir.specs.declared.plan.Version.{Version}
use Rattle.gimple_ir.specs.declared.versioned.VersionedFunction.{VersionedFunction}
use Rattle.gimple_ir.specs.Names.{repeats}
use Rattle.func_summary.specs.Summaries.{arrays_of}
use Rattle.func_summary.specs.Summarised.{module_of}
use Rattle.ipa_plan.specs.Rules.{Choice}
use Rattle.gimple_meaning.specs.Versioned.{IsVersioned}
use Rattle.final_link.specs.Arrays.{array_size, array_symbol, size_of, is_zeroed}
use Rattle.final_link.specs.Image.{round_up}
use Rattle.final_link.specs.Stubs.{functions_address}
use Rattle.final_link.specs.Symbols.{end_of, places_of, array_symbols, arrays_in_order}
use Rattle.follow_laws.specs.Direct.{code_size, direct_symbols}
use Rattle.program_link.specs.Versions.{array_use, functions_of}
use Rattle.program_link.specs.Laws.{VersionsFit, SymbolsAgree, SymbolsDiffer, IsKeptUse, UsesKept, TextSmall, ArraysSmall}
use Rattle.program_link.proofs.VersionFacts.{VersionFacts, versions_have}
use Rattle.program_link.proofs.Fitting.{version_fits}
use Rattle.program_link.proofs.PlanLaws.{limits_kept, same_symbols}
use Rattle.program_link.proofs.KnownLaws.{places_names, stub_names, image_names, names_are}
use Rattle.program_link.proofs.PlaceLaws.{all_differ, code_within}
use Rattle.program_link.proofs.Summing.{climbing, some_of_all}

pub versions_fit : VersionsFit
versions_fit p merged plan summarised planned =
    All-from_recursion IsVersioned (functions_of p merged plan) (versions_have p merged plan IsVersioned summarised planned (λ version f known. version_fits p merged plan planned.choice version f summarised known))

pub symbols_agree : SymbolsAgree
symbols_agree p merged plan summarised planned = sym (same_symbols p merged plan)

direct_names : (merged : Merged) (plan : Plan) (fs : List VersionedFunction) → map (λ f. f.symbol) fs ≡ map (λ v. v.symbol) plan.versions
    → map (λ e. e.0) (direct_symbols fs merged plan.arrays) ≡ image_names merged plan
unfolding direct_symbols
direct_names merged plan fs same =
    let first = λ (e : List ℕ × ℕ). e.0 in
    let symbol = λ (f : VersionedFunction). f.symbol in
    let text_end = end_of code_size functions_address fs in
    ap (λ (names : List (List ℕ)). stub_names ++ names)
    (map-append first (places_of symbol code_size functions_address fs) (array_symbols merged plan.arrays text_end)
    ∙ ap₂ (λ (a b : List (List ℕ)). a ++ b) (places_names symbol code_size functions_address fs ∙ same)
    (places_names (array_symbol merged) (size_of merged) (round_up 4096 text_end) (arrays_in_order merged plan.arrays)))

pub symbols_differ : SymbolsDiffer
symbols_differ p merged plan summarised planned =
    ap repeats (direct_names merged plan (functions_of p merged plan) (sym (same_symbols p merged plan)) ∙ sym (names_are merged plan [])) ∙ all_differ p merged plan [] summarised planned

kept_use : (merged : Merged) (plan : Plan) (number : ℕ) → list_any (nat_eq number) plan.arrays ≡ true → IsKeptUse merged plan (array_use merged number)
kept_use merged plan number kept = (kept, refl)

kept_uses : (p : Program) (merged : Merged) (plan : Plan) (choice : Choice) (version : Version) (f : Function) → VersionFacts p merged plan choice version f
    → All (IsKeptUse merged plan) (map (array_use merged) (arrays_of (module_of p) f))
kept_uses p merged plan choice version f known =
    All-map (IsKeptUse merged plan) (array_use merged) (arrays_of (module_of p) f)
    (All-weaker (λ (a : ℕ). list_any (nat_eq a) plan.arrays ≡ true) (λ (a : ℕ). IsKeptUse merged plan (array_use merged a)) (kept_use merged plan) (arrays_of (module_of p) f) known.arrays)

pub uses_kept : UsesKept
uses_kept p merged plan summarised planned =
    let uses = λ (f : VersionedFunction). All (IsKeptUse merged plan) f.arrays in
    All-from_recursion uses (functions_of p merged plan) (versions_have p merged plan uses summarised planned (kept_uses p merged plan planned.choice))

-- ---- the sizes

pub text_small : TextSmall
text_small p merged plan summarised planned within =
    let limits = limits_kept merged within in
    omega (arith, code_within p merged plan summarised planned, limits.code)

ends_at : {X : Type 0} (size : X → ℕ) (at : ℕ) (xs : List X) → end_of size at xs ≡ at + sum_by size xs
ends_at size at [] = let nil : sum_by size [] ≡ 0 = refl in omega (arith, nil)
ends_at size at (x ∷ xs) = omega (arith, ends_at size (at + size x) xs, sum_by-cons size x xs)

parted_sum : (w : ℕ → ℕ) (p : ℕ → Bool) (ns : List ℕ) → sum_by w (filter (λ n. not (p n)) ns ++ filter p ns) ≡ sum_by w ns
parted_sum w p [] = refl
parted_sum w p (n ∷ ns) = by (p n) (parted_sum w p ns)
  where
    front : List ℕ
    front = filter (λ (k : ℕ). not (p k)) ns

    back : List ℕ
    back = filter p ns

    by : (b : Bool) → sum_by w (front ++ back) ≡ sum_by w ns → sum_by w (cond (not b) (n ∷ front) front ++ cond b (n ∷ back) back) ≡ sum_by w (n ∷ ns)
    by true h = omega (arith, h, sum_by-append w front (n ∷ back), sum_by-append w front back, sum_by-cons w n back, sum_by-cons w n ns)
    by false h = omega (arith, h, sum_by-cons w n (front ++ back), sum_by-cons w n ns)

pub arrays_small : ArraysSmall
arrays_small p merged plan summarised planned within =
    let kept = plan.arrays in
    let limits = limits_kept merged within in
    omega (
      arith,
      ends_at (size_of merged) 0 (arrays_in_order merged kept),
      parted_sum (size_of merged) (is_zeroed merged) kept,
      some_of_all (λ (a : MergedArray). array_size a.item) merged.arrays kept (climbing kept planned.ascending) planned.arrays,
      limits.arrays,
    )
