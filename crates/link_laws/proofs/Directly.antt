-- The plan of a program that passes no limit has a direct image, by what is known of its versions.
use Rattle.std.proofs.Common.{◌≡◌, List, [], ◌∷◌, map, None, sym, ap, ◌∙◌, subst}
use Rattle.std.specs.Prelude.{All}
use Rattle.std.specs.List.{AllByRecursion}
use Rattle.std.specs.Option.{option_map_or}
use Rattle.std.proofs.lemmas.List.Elements.{recursion_from_All, All-from_recursion, All-weaker}
use Rattle.gimple_ir.specs.declared.types.Array.{Array}
use Rattle.gimple_ir.specs.declared.types.ElementType.TheVariants as element
use Rattle.gimple_ir.specs.declared.types.Program.{Program}
use Rattle.gimple_ir.specs.declared.merged.Merged.{Merged}
use Rattle.gimple_ir.specs.declared.merged.MergedArray.{MergedArray}
use Rattle.gimple_ir.specs.declared.plan.Plan.{Plan}
use Rattle.gimple_ir.specs.declared.unit.ArrayUse.{ArrayUse}
use Rattle.gimple_ir.specs.declared.versioned.VersionedFunction.{VersionedFunction}
use Rattle.gimple_ir.specs.Programs.{IsProgramArray}
use Rattle.func_summary.specs.Summarised.{IsSummarised}
use Rattle.ipa_plan.specs.Rules.{IsPlanned}
use Rattle.program_link.specs.Versions.{functions_of}
use Rattle.program_link.specs.Linking.{limits_of, first_passed}
use Rattle.program_link.specs.Laws.{VersionsFit, SymbolsAgree, SymbolsDiffer, MainStands, IsKeptUse, UsesKept, TextSmall, ArraysSmall}
use Rattle.follow_laws.specs.DirectImages.{UseIsKept, IsDirect}

-- ---- arrays

-- a merged array is the program's
item_holds : (P : Array → Type 0) (xs : List MergedArray) → AllByRecursion P (map (λ a. a.item) xs) → AllByRecursion (λ a. P a.item) xs
item_holds P [] h = tt
item_holds P (x ∷ xs) h = (h.0, item_holds P xs h.1)

arrays_defined : (p : Program) (merged : Merged) → IsSummarised p merged → All (λ (a : MergedArray). IsProgramArray a.item) merged.arrays
arrays_defined p merged s =
    All-from_recursion (λ (a : MergedArray). IsProgramArray a.item) merged.arrays
    (item_holds IsProgramArray merged.arrays (subst (AllByRecursion IsProgramArray) (sym s.items) (recursion_from_All IsProgramArray p.arrays s.program.arrays)))

use_kept : (merged : Merged) (plan : Plan) (u : ArrayUse) → IsKeptUse merged plan u → UseIsKept plan merged u
use_kept merged plan u h = record {
  number = u.local;
  kept = h.0;
  symbol = ap (λ (x : ArrayUse). x.symbol) h.1;
  element = λ a at. sym (ap (λ (x : ArrayUse). x.element) h.1 ∙ ap (λ o. option_map_or (λ (x : MergedArray). x.item.element) o element.UnsignedChar) at);
}

-- ---- all of it

-- what is known of the versions of a program under its plan
pub record Known : Type 0 where
  pub fit : VersionsFit
  pub agree : SymbolsAgree
  pub differ : SymbolsDiffer
  pub main : MainStands
  pub uses : UsesKept
  pub text : TextSmall
  pub arrays : ArraysSmall

pub is_direct : Known → (p : Program) (merged : Merged) (plan : Plan) → IsSummarised p merged → IsPlanned merged plan → first_passed (limits_of merged) ≡ None → IsDirect plan merged (functions_of p merged plan)
is_direct known p merged plan s planned within = record {
  versioned = known.fit p merged plan s planned;
  differ = known.differ p merged plan s planned;
  arrays = arrays_defined p merged s;
  uses = All-weaker (λ (f : VersionedFunction). All (IsKeptUse merged plan) f.arrays) (λ (f : VersionedFunction). All (UseIsKept plan merged) f.arrays)
      (λ f h. All-weaker (IsKeptUse merged plan) (UseIsKept plan merged) (use_kept merged plan) f.arrays h) (functions_of p merged plan) (known.uses p merged plan s planned);
  symbols = known.agree p merged plan s planned;
  main = known.main p merged plan s planned;
  text = known.text p merged plan s planned within;
  size = known.arrays p merged plan s planned within;
}
