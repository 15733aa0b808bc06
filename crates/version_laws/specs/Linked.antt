-- What a whole program is linked as under a plan: the plan's versions, and what each gives.
use Rattle.std.specs.Prelude.{ℕ, slice_get}
use Rattle.std.specs.Option.{option_map_or}
use Rattle.gimple_ir.specs.declared.types.ScalarType.{ScalarType}
use Rattle.gimple_ir.specs.declared.types.ScalarType.TheVariants.{Int}
use Rattle.gimple_ir.specs.declared.types.ResultType.{ResultType}
use Rattle.gimple_ir.specs.declared.types.ResultType.TheVariants as returned
use Rattle.gimple_ir.specs.declared.types.Program.{Program}
use Rattle.gimple_ir.specs.declared.plan.Plan.{Plan}
use Rattle.gimple_ir.specs.declared.merged.Merged.{Merged}
use Rattle.program_link.specs.Versions.{functions_of}
use Rattle.gimple_meaning.specs.Linked.{LinkedProgram}
use Rattle.follow_laws.specs.Plans.{linked_of}
use Rattle.version_laws.specs.States.{function_of_version}

-- a function that gives nothing has no use of a type
abbrev pub given_type : ResultType → ScalarType
given_type returned.Void = Int
given_type (returned.Scalar type) = type

-- what the version at a place gives, where it gives something
abbrev pub result_type_of : Program → Plan → ℕ → ScalarType
result_type_of p plan place = option_map_or (λ f. given_type f.result) (slice_get p.functions (function_of_version p plan place)) Int

abbrev pub linked : Program → Merged → Plan → LinkedProgram
linked p merged plan = linked_of plan merged (functions_of p merged plan) (result_type_of p plan)
