-- How a machine begins with the image of a plan: at the start stub, with the first numbers of the arrays.
use Rattle.std.specs.Prelude.{ℕ, List}
use Rattle.gimple_ir.specs.declared.types.ScalarType.{ScalarType}
use Rattle.gimple_ir.specs.declared.merged.Merged.{Merged}
use Rattle.gimple_ir.specs.declared.plan.Plan.{Plan}
use Rattle.gimple_ir.specs.declared.versioned.VersionedFunction.{VersionedFunction}
use Rattle.rv64_meaning.specs.Loading.{segments_of, start_of}
use Rattle.follow_laws.specs.Follows.{AreBytes}
use Rattle.follow_laws.specs.Direct.{direct_image}
use Rattle.follow_laws.specs.Starts.{AtStart}
use Rattle.follow_laws.specs.Plans.{linked_of}
use Rattle.follow_laws.specs.DirectImages.{layout_of, IsDirect}

-- what the law of the machine asks of a state at the start of a run
abbrev pub StartIsAtStart : Type 0
StartIsAtStart =
    (plan : Plan) (merged : Merged) (functions : List VersionedFunction) (results : ℕ → ScalarType) (input : List ℕ) → IsDirect plan merged functions → AreBytes input
    → AtStart (segments_of (direct_image plan merged functions)) (layout_of plan merged functions) (linked_of plan merged functions results) input (start_of (direct_image plan merged functions) input)
