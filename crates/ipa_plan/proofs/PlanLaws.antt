-- The plan of a merged program, by what is known of its versions and arrays.
use Rattle.std.proofs.Common.{◌≡◌, ◌<◌, ◌+◌, ℕ, List, Bool, true, length, map, get_or, Some, None, refl, sym, ap, ap₂, ◌∙◌, subst, arith}
use Rattle.std.specs.Prelude.{All, Option, slice_get, IsSomeAnd}
use Rattle.std.specs.Option.{option_map, option_map_or}
use Rattle.std.specs.List.Sorted.{IsStrictlyIncreasing}
use Rattle.std.proofs.lemmas.List.{length-map, length-replicate}
use Rattle.std.proofs.lemmas.Option.{slice_get-map, slice_get-get_or}
use Rattle.gimple_ir.specs.declared.summary.Edge.{Edge}
use Rattle.gimple_ir.specs.declared.lattice.Lattice.TheVariants.{Bottom}
use Rattle.gimple_ir.specs.declared.plan.Version.{Version}
use Rattle.gimple_ir.specs.declared.plan.Plan.{Plan}
use Rattle.gimple_ir.specs.declared.merged.Merged.{Merged}
use Rattle.gimple_ir.specs.declared.merged.MergedFunction.{MergedFunction}
use Rattle.call_graph.specs.Live.{marked, MarksLive}
use Rattle.call_graph.specs.Keeping.{kept_of, is_kept}
use Rattle.func_summary.proofs.Checked.{all_at}
use Rattle.ipa_plan.specs.Plans.{all_of, call_plan, version_of, version_place, versions_by, plan_by, IsPlanOf, CanBePlanned}
use Rattle.ipa_plan.specs.Rules.{Choice, IsCallOf, IsRoot, IsVersionIn, IsFirstOf, IsPlanned}
use Rattle.ipa_plan.specs.Laws.{PlanLaw, OnePlan}
use Rattle.ipa_plan.proofs.Living.{called_live, exported_live, named_kept, at_place, listed, functions_listed, passing_ascend, passing_below, same_flags}
use Rattle.ipa_plan.proofs.Whole.{all_bound, all_kept, none_known, whole_symbol, ordered_from, sizes_listed}

-- every component is needed, and every result is given
abbrev everything : Choice
everything = record { needed = λ function component. true; results = λ function. true }

-- the plan with its parts
abbrev shown : Merged → List Bool → Plan
shown merged live = record { versions = versions_by merged live; arrays = kept_of merged live; code = 1 }

-- the version of a live function stands at its place
version_there : (merged : Merged) (live : List Bool) (n : ℕ) (g : MergedFunction) → slice_get merged.functions n ≡ Some g → marked live n ≡ true
    → slice_get (versions_by merged live) (version_place live n) ≡ Some (version_of merged live n g)
version_there merged live n g here is =
    at_place (λ (e : ℕ × MergedFunction). version_of merged live e.0 e.1) (marked live) 0 live merged.functions n n g (λ k. ap (marked live) (at_zero k)) here is (at_zero n)
  where
    at_zero : (k : ℕ) → 0 + k ≡ k
    at_zero k = omega arith

-- a call of a live function
call_in : (merged : Merged) (live : List Bool) (n : ℕ) (g : MergedFunction) → CanBePlanned merged → MarksLive merged live → slice_get merged.functions n ≡ Some g → marked live n ≡ true
    → (k : ℕ) (e : Edge) → slice_get g.summary.edges k ≡ Some e → IsCallOf (shown merged live) everything (version_of merged live n g) e (call_plan merged live e)
call_in merged live n g can marks here is k e at =
    let callees = all_at (λ (f : MergedFunction). All (λ (x : Edge). x.callee < length merged.functions) f.summary.edges) merged.functions can.callees n g here in
    let within : e.callee < length merged.functions = all_at (λ (x : Edge). x.callee < length merged.functions) g.summary.edges callees k e at in
    let h = get_or merged.functions e.callee g in
    let stands = slice_get-get_or merged.functions e.callee g within in
    let count = length h.summary.params in
    record {
      target = version_of merged live e.callee h;
      there = version_there merged live e.callee h stands (called_live merged live n g k e marks here is at);
      callee = refl;
      kept = ap (λ o. all_of (option_map_or (λ (f : MergedFunction). length f.summary.params) o 0)) stands ∙ all_kept 0 0 count;
      constant = λ i x known. absurd (none_known count i x known);
      needed = λ i source a passed from needed. refl;
      result = λ assigns. refl;
    }

mapped_at : {X Y : Type 0} (v : X → Y) (xs : List X) (k : ℕ) (x : X) (y : Y) → slice_get xs k ≡ Some x → slice_get (map v xs) k ≡ Some y → v x ≡ y
mapped_at v xs k x y here there =
    let same : Some (v x) ≡ Some y = sym (slice_get-map v xs k ∙ ap (option_map v) here) ∙ there in
    cc

root_in : (merged : Merged) (live : List Bool) (n : ℕ) (g : MergedFunction) → IsRoot everything (version_of merged live n g)
root_in merged live n g = record { unknown = none_known (length g.summary.params); needed = λ i within. refl; result = refl }

version_in : (merged : Merged) (live : List Bool) (n : ℕ) (g : MergedFunction) → CanBePlanned merged → MarksLive merged live → slice_get merged.functions n ≡ Some g → marked live n ≡ true
    → IsVersionIn merged (shown merged live) everything (version_of merged live n g)
version_in merged live n g can marks here is = record {
  function = g;
  there = here;
  vector = length-replicate (length g.summary.params) Bottom;
  typed = λ i x known. absurd (none_known (length g.summary.params) i x known);
  root = λ exported. root_in merged live n g;
  used = λ i facts at is_used. refl;
  bindings = all_bound 0 0 (length g.summary.params);
  result = refl;
  symbol = whole_symbol g n (length g.summary.params);
  few = omega arith;
  size = refl;
  calls = length-map g.summary.edges (call_plan merged live);
  each = λ k e c at made.
      subst (IsCallOf (shown merged live) everything (version_of merged live n g) e) (mapped_at (call_plan merged live) g.summary.edges k e c at made)
      (call_in merged live n g can marks here is k e at);
  arrays = named_kept merged live n g can.arrays marks here is;
}

abbrev HasMain : Merged → Plan → Type 0
HasMain merged plan = (place : ℕ) × (v : Version) × (slice_get plan.versions place ≡ Some v) × IsFirstOf merged.main v

main_there : (merged : Merged) (live : List Bool) → MarksLive merged live → (o : Option MergedFunction) → slice_get merged.functions merged.main ≡ o → IsSomeAnd o (λ g. g.exported ≡ true)
    → HasMain merged (shown merged live)
main_there merged live marks None here e = absurd e
main_there merged live marks (Some g) here e =
    (version_place live merged.main, version_of merged live merged.main g, version_there merged live merged.main g here (exported_live merged live merged.main g marks here e), (refl, refl))

planned_shown : (merged : Merged) (live : List Bool) → CanBePlanned merged → MarksLive merged live → IsPlanned merged (shown merged live)
planned_shown merged live can marks = record {
  choice = everything;
  versions =
      listed (IsVersionIn merged (shown merged live) everything) (λ (e : ℕ × MergedFunction). version_of merged live e.0 e.1) (marked live) 0 merged.functions
      (λ i j g e here is.
      let same : i ≡ j = omega (arith, e) in
      version_in merged live j g can marks (ap (slice_get merged.functions) (sym same) ∙ here) is);
  ordered = ordered_from (versions_by merged live) (subst IsStrictlyIncreasing (sym (functions_listed merged live 0 merged.functions)) (passing_ascend (marked live) (length merged.functions)));
  grown = omega (arith, sizes_listed merged live 0 merged.functions);
  arrays = passing_below (is_kept merged live) (length merged.arrays);
  ascending = passing_ascend (is_kept merged live) (length merged.arrays);
  main = main_there merged live marks (slice_get merged.functions merged.main) refl;
}

plan_shown : (merged : Merged) (live : List Bool) → shown merged live ≡ plan_by merged live
unfolding plan_by
plan_shown merged live = refl

abbrev pub made_of : List Version → List ℕ → Plan
made_of versions arrays = record { versions = versions; arrays = arrays; code = 1 }

-- the plan is made of its parts
pub plan_made : (merged : Merged) (live : List Bool) (versions : List Version) (arrays : List ℕ) → MarksLive merged live → versions ≡ versions_by merged live → arrays ≡ kept_of merged live
    → IsPlanOf merged (made_of versions arrays)
plan_made merged live versions arrays marks e f = record { live = live; marks = marks; is = ap₂ made_of e f ∙ plan_shown merged live }

pub plan_law : PlanLaw
plan_law merged plan can is =
    subst (IsPlanned merged) (plan_shown merged is.live ∙ sym is.is) (planned_shown merged is.live can is.marks)

-- there is one list of marks
same_marks : (merged : Merged) (xs ys : List Bool) → MarksLive merged xs → MarksLive merged ys → xs ≡ ys
same_marks merged xs ys a b =
    same_flags xs ys (a.one_each ∙ sym b.one_each) (λ n h. (b.exact n).1 ((a.exact n).0 h)) (λ n h. (a.exact n).1 ((b.exact n).0 h))

pub one_plan : OnePlan
one_plan merged a b is_a is_b = is_a.is ∙ ap (plan_by merged) (same_marks merged is_a.live is_b.live is_a.marks is_b.marks) ∙ sym is_b.is
