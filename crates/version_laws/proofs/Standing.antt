-- The version of a function under a plan, and what is known of it.
use Rattle.std.proofs.Common.{◌≡◌, ℕ, Some, ap}
use Rattle.std.specs.Prelude.{slice_get}
use Rattle.gimple_ir.specs.declared.types.Function.{Function}
use Rattle.gimple_ir.specs.declared.types.Program.{Program}
use Rattle.gimple_ir.specs.declared.plan.Version.{Version}
use Rattle.gimple_ir.specs.declared.plan.Plan.{Plan}
use Rattle.gimple_ir.specs.declared.merged.Merged.{Merged}
use Rattle.gimple_ir.specs.declared.versioned.VersionedFunction.{VersionedFunction}
use Rattle.func_summary.specs.Summarised.{IsSummarised}
use Rattle.func_summary.proofs.Checked.{all_at}
use Rattle.ipa_plan.specs.Rules.{Choice, IsVersionIn, IsPlanned}
use Rattle.ipa_transform.specs.Versioned.{versioned_of}
use Rattle.program_link.specs.Versions.{member_of, version_in}
use Rattle.program_link.proofs.VersionFacts.{VersionFacts, version_facts}

-- as the back end takes it
abbrev pub version_at : Program → Merged → Plan → Version → Function → VersionedFunction
version_at p merged plan v f = versioned_of (member_of p merged plan v f)

-- its function, and what is known of it
pub standing : (p : Program) (merged : Merged) (plan : Plan) → IsSummarised p merged → (planned : IsPlanned merged plan) → (place : ℕ) (v : Version) → slice_get plan.versions place ≡ Some v
    → (f : Function) × VersionFacts p merged plan planned.choice v f
standing p merged plan summarised planned place v at =
    version_facts p merged plan planned.choice v summarised (all_at (IsVersionIn merged plan planned.choice) plan.versions planned.versions place v at)

pub version_same : (p : Program) (merged : Merged) (plan : Plan) (choice : Choice) (v : Version) (f : Function) → VersionFacts p merged plan choice v f → version_in p merged plan v ≡ version_at p merged plan v f
version_same p merged plan choice v f k = ap (λ (g : Function). versioned_of (member_of p merged plan v g)) k.is
