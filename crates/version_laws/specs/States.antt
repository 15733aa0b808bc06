-- How the versions of a plan stand for the whole program: each version for its function, with all components but those that are given up.
use Rattle.std.specs.Prelude.{ℕ, Bool, true, not, length, slice_get}
use Rattle.std.specs.Option.{option_map_or}
use Rattle.gimple_ir.specs.declared.types.Program.{Program}
use Rattle.gimple_ir.specs.declared.plan.Version.{Version}
use Rattle.gimple_ir.specs.declared.plan.Plan.{Plan}
use Rattle.gimple_meaning.specs.Keeping.{View}
use Rattle.ipa_plan.specs.Rules.{is_dead}

-- the function of the version at a place; past the end of the program where there is none
abbrev pub function_of_version : Program → Plan → ℕ → ℕ
function_of_version p plan place = option_map_or (λ v. v.function) (slice_get plan.versions place) (length p.functions)

-- every component but a parameter component that is bound to nothing
abbrev pub is_alive : Version → ℕ → Bool
is_alive v i = option_map_or (λ b. not (is_dead b)) (slice_get v.bindings i) true

abbrev pub versions_view : Program → Plan → View
versions_view p plan = record {
  function_of = function_of_version p plan;
  keeps = λ place step i. option_map_or (λ v. is_alive v i) (slice_get plan.versions place) true;
}
