-- The image of a whole program, or the first limit that it passes.
use Rattle.std.specs.Prelude.{◌≡◌, ℕ, ◌^◌, List, [], ◌∷◌, length, sum_by, if◌then◌else◌, nat_lt, Option, Some, None, Result, Ok, Err, Vec}
use Rattle.std.specs.declared.alloc.Global.{Global}
use Rattle.gimple_ir.specs.declared.types.Program.{Program}
use Rattle.gimple_ir.specs.declared.merged.Merged.{Merged}
use Rattle.gimple_ir.specs.declared.plan.Plan.{Plan}
use Rattle.ipa_plan.specs.Plans.{IsPlanOf}
use Rattle.final_link.specs.Arrays.{array_size}
use Rattle.follow_laws.specs.Direct.{direct_image}
use Rattle.program_link.specs.declared.fault.LinkError.{LinkError}
use Rattle.program_link.specs.declared.fault.LinkError.TheVariants.{Limit, NoMemory}
use Rattle.program_link.specs.declared.fault.LimitFault.{LimitFault}
use Rattle.program_link.specs.declared.fault.Quantity.TheVariants.{LinkFunctions, LinkCode, LinkData}
use Rattle.program_link.specs.Versions.{functions_of}

-- ---- the limits, in the order in which they are looked for

abbrev pub code_sum : Merged → ℕ
code_sum merged = sum_by (λ g. g.summary.code_bound) merged.functions

abbrev pub data_sum : Merged → ℕ
data_sum merged = sum_by (λ a. array_size a.item) merged.arrays

abbrev pub limits_of : Merged → List LimitFault
limits_of merged =
    record { quantity = LinkFunctions; number = length merged.functions; limit = 20000 }
    ∷ record { quantity = LinkCode; number = code_sum merged; limit = 2 ^ 25 }
    ∷ record { quantity = LinkData; number = data_sum merged; limit = 2 ^ 26 }
    ∷ []

-- the first that is passed
abbrev pub first_passed : List LimitFault → Option LimitFault
first_passed [] = None
first_passed (l ∷ ls) = if nat_lt l.limit l.number then Some l else first_passed ls

-- ---- the image, or the first refusal

-- the code of the plan's versions and the kept arrays, at their final addresses
pub record IsImageOf (p : Program) (merged : Merged) (image : List ℕ) : Type 0 where
  pub plan : Plan
  pub planned : IsPlanOf merged plan
  pub is : image ≡ direct_image plan merged (functions_of p merged plan)

-- what the call answers: this, or that there was no memory
abbrev pub Links : Program → Merged → Result (Vec ℕ Global) LinkError → Type 0
Links p merged (Ok image) = (first_passed (limits_of merged) ≡ None) × IsImageOf p merged image.items
Links p merged (Err (Limit passed)) = first_passed (limits_of merged) ≡ Some passed
Links p merged (Err NoMemory) = Unit {0}
