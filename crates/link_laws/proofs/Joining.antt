-- The laws of linking, by what is known of the plan, its versions, the image and the machine, and by what the versions keep of the program.
use Rattle.std.proofs.Common.{◌≡◌, ℕ, List, None, subst, sym}
use Rattle.gimple_ir.specs.declared.types.Program.{Program}
use Rattle.gimple_ir.specs.declared.merged.Merged.{Merged}
use Rattle.gimple_ir.specs.declared.plan.Plan.{Plan}
use Rattle.gimple_meaning.specs.Run.{src}
use Rattle.gimple_meaning.specs.Shown.{shown_of, FollowsOn}
use Rattle.gimple_meaning.specs.Keeping.{KeepsFollows}
use Rattle.func_summary.specs.Summarised.{IsSummarised}
use Rattle.ipa_plan.specs.Plans.{IsPlanOf}
use Rattle.ipa_plan.specs.Rules.{IsPlanned}
use Rattle.ipa_plan.specs.Laws.{PlanLaw, SummarisedLaw}
use Rattle.rv64_meaning.specs.Loading.{segments_of, start_of, load_fault_of, run_of}
use Rattle.follow_laws.specs.Direct.{direct_image}
use Rattle.follow_laws.specs.Follows.{shown_by, Follows}
use Rattle.program_link.specs.Versions.{functions_of}
use Rattle.program_link.specs.Linking.{limits_of, first_passed}
use Rattle.follow_laws.specs.Starts.{MachineFollows}
use Rattle.version_laws.specs.States.{versions_view}
use Rattle.gimple_meaning.specs.Linked.{linked_run}
use Rattle.version_laws.specs.Linked.{result_type_of, linked}
use Rattle.version_laws.specs.Laws.{VersionsLaw, TypedLaw}
use Rattle.follow_laws.specs.DirectImages.{IsDirect, layout_of, DirectLoads, DirectIsPlaced}
use Rattle.follow_laws.specs.FirstStates.{StartIsAtStart}
use Rattle.link_laws.specs.Laws.{LinkedLoads, LinkedFollows}
use Rattle.link_laws.proofs.Directly.{Known, is_direct}

module _ (known : Known) (plan_law : PlanLaw) (summarised : SummarisedLaw) where
  -- what any plan keeps to
  planned_of : (p : Program) (merged : Merged) (plan : Plan) → IsSummarised p merged → IsPlanOf merged plan → IsPlanned merged plan
  planned_of p merged plan s is = plan_law merged plan (summarised p merged s) is

  direct_of : (p : Program) (merged : Merged) (plan : Plan) → IsSummarised p merged → IsPlanOf merged plan → first_passed (limits_of merged) ≡ None → IsDirect plan merged (functions_of p merged plan)
  direct_of p merged plan s is within = is_direct known p merged plan s (planned_of p merged plan s is) within

  pub linked_loads : DirectLoads → LinkedLoads
  linked_loads loads p merged image s within k =
      subst (λ (x : List ℕ). load_fault_of x ≡ None) (sym k.is) (loads k.plan merged (functions_of p merged k.plan) (direct_of p merged k.plan s k.planned within))

  -- the machine follows the versions, which keep the program
  pub linked_follows : DirectIsPlaced → StartIsAtStart → MachineFollows → TypedLaw → VersionsLaw → KeepsFollows → FollowsOn → LinkedFollows
  linked_follows is_placed starts machine typed versions keeps on p merged image s within k =
      let plan = k.plan in
      let fs = functions_of p merged plan in
      let planned = planned_of p merged plan s k.planned in
      let direct = direct_of p merged plan s k.planned within in
      let made = direct_image plan merged fs in
      let results = result_type_of p plan in
      subst (λ (x : List ℕ). Follows x p) (sym k.is)
      (λ input bytes.
      on (λ n. shown_by (run_of made input n)) (λ n. shown_of (linked_run (linked p merged plan) input n)) (λ n. shown_of (src p input n))
      (machine (segments_of made) (layout_of plan merged fs) (linked p merged plan) (is_placed plan merged fs results direct) (typed p merged plan s planned) input (start_of made input)
      (starts plan merged fs results input direct bytes))
      (keeps (versions_view p plan) (src p input) (linked_run (linked p merged plan) input) (versions p merged plan s planned input)))
