-- The stream of summaries: one for each function that has a body, in order, with no count in front. A component's number is
-- below the count of all components of the function, not only of those of its parameters.
use Rattle.std.specs.Prelude.{ℕ, ◌+◌, ◌-◌, ◌^◌, ◌<◌, ◌==◌, List, [], ◌∷◌, ◌++◌, Option, Some, None, Result, if◌then◌else◌}
use Rattle.std.specs.List.{flat_map}
use Rattle.cursors.specs.Cursor.{Cursor}
use Rattle.cursors.specs.Leb128.{uleb_of}
use Rattle.gimple_ir.specs.Values.{IsValue}
use Rattle.gimple_ir.specs.declared.types.Module.{Module}
use Rattle.gimple_ir.specs.declared.summary.JumpFunction.{JumpFunction}
use Rattle.gimple_ir.specs.declared.summary.JumpFunction.TheVariants as jump
use Rattle.gimple_ir.specs.declared.summary.EdgeArg.{EdgeArg}
use Rattle.gimple_ir.specs.declared.summary.Edge.{Edge}
use Rattle.gimple_ir.specs.declared.summary.ParamFacts.{ParamFacts}
use Rattle.gimple_ir.specs.declared.summary.Summary.{Summary}
use Rattle.module_stream.specs.declared.bounds.BodyBounds.{BodyBounds}
use Rattle.module_stream.specs.Codes.{type_table, type_code, unary_table, unary_code, binary_table, binary_code, flag_table, flag_code}
use Rattle.module_stream.specs.Fields.{counted_of, FitsAll, FitEach, typed_value_of}
use Rattle.module_stream.specs.Bodies.{component_count}
use Rattle.module_stream.specs.BodyReading.{component_at, typed_value_at}
use Rattle.module_stream.specs.Readers.{◌>>=◌, number_below, coded, nothing, made, both, counted, in_turn, whole}
use Rattle.lto_object.specs.declared.jump_codes.JumpKind.{JumpKind}
use Rattle.lto_object.specs.declared.jump_codes.JumpKind.TheVariants as kind
use Rattle.lto_object.specs.Bounds.{bounds_in}
use Rattle.lto_object.specs.JumpCodes.{jump_table, jump_code, kind_of}

-- ---- the spelling

-- what stands after the kind
abbrev pub jump_fields_of : JumpFunction → List ℕ
jump_fields_of jump.Unknown = []
jump_fields_of (jump.Const v) = typed_value_of v
jump_fields_of (jump.Pass x) = uleb_of x
jump_fields_of (jump.Unary op x) = unary_code op ∷ uleb_of x
jump_fields_of (jump.Convert ty x) = type_code ty ∷ uleb_of x
jump_fields_of (jump.Left op x v) = binary_code op ∷ (uleb_of x ++ typed_value_of v)
jump_fields_of (jump.Right op v x) = binary_code op ∷ (typed_value_of v ++ uleb_of x)

abbrev pub jump_bytes : JumpFunction → List ℕ
jump_bytes j = jump_code (kind_of j) ∷ jump_fields_of j

-- 0 for none, else 1 plus the component
abbrev pub source_number : Option ℕ → ℕ
source_number None = 0
source_number (Some x) = x + 1

abbrev pub argument_bytes : EdgeArg → List ℕ
argument_bytes a = jump_bytes a.jump ++ uleb_of (source_number a.source)

abbrev pub edge_bytes : Edge → List ℕ
edge_bytes e = uleb_of e.statement ++ (uleb_of e.callee ++ (flag_code e.assigns ∷ counted_of argument_bytes e.args))

abbrev pub facts_bytes : ParamFacts → List ℕ
facts_bytes p = uleb_of p.weight ++ (flag_code p.used_here ∷ [])

abbrev pub summary_bytes : Summary → List ℕ
summary_bytes s = uleb_of s.code_bound ++ (counted_of facts_bytes s.params ++ (counted_of uleb_of s.arrays ++ counted_of edge_bytes s.edges))

abbrev pub summaries_bytes : List Summary → List ℕ
summaries_bytes summaries = flat_map summary_bytes summaries

-- ---- what can be stored within bounds

abbrev pub FitsJump : BodyBounds → JumpFunction → Type 0
FitsJump b jump.Unknown = Unit {0}
FitsJump b (jump.Const v) = IsValue v
FitsJump b (jump.Pass x) = x < component_count b
FitsJump b (jump.Unary op x) = x < component_count b
FitsJump b (jump.Convert ty x) = x < component_count b
FitsJump b (jump.Left op x v) = (x < component_count b) × IsValue v
FitsJump b (jump.Right op v x) = IsValue v × (x < component_count b)

abbrev pub FitsSource : BodyBounds → Option ℕ → Type 0
FitsSource b None = Unit {0}
FitsSource b (Some x) = x < component_count b

pub record FitsArgument (b : BodyBounds) (a : EdgeArg) : Type 0 where
  pub jump : FitsJump b a.jump
  pub source : FitsSource b a.source

pub record FitsEdge (b : BodyBounds) (e : Edge) : Type 0 where
  pub statement : e.statement < 2 ^ 32
  pub callee : e.callee < b.functions
  pub args : FitsAll (FitsArgument b) e.args

pub record FitsSummary (b : BodyBounds) (s : Summary) : Type 0 where
  pub bound : s.code_bound < 2 ^ 64
  pub params : FitsAll (λ p. p.weight < 2 ^ 32) s.params
  pub arrays : FitsAll (λ array. array < b.arrays) s.arrays
  pub edges : FitsAll (FitsEdge b) s.edges

-- one for each function that has a body, with numbers that the module has
abbrev pub FitSummaries : Module → List Summary → Type 0
FitSummaries m summaries = FitEach FitsSummary (bounds_in m) summaries

-- ---- reading

unfoldable pub jump_fields_at : BodyBounds → JumpKind → Cursor → Result (JumpFunction × Cursor) ℕ
jump_fields_at b kind.Unknown c = nothing jump.Unknown c
jump_fields_at b kind.Const c = made (λ v. jump.Const v) typed_value_at c
jump_fields_at b kind.Pass c = made (λ x. jump.Pass x) (component_at b) c
jump_fields_at b kind.Unary c = made (λ x. jump.Unary x.0 x.1) (both (coded unary_table) (component_at b)) c
jump_fields_at b kind.Convert c = made (λ x. jump.Convert x.0 x.1) (both (coded type_table) (component_at b)) c
jump_fields_at b kind.Left c =
    made (λ x. jump.Left x.0 x.1.0 x.1.1) (both (coded binary_table) (both (component_at b) typed_value_at)) c
jump_fields_at b kind.Right c =
    made (λ x. jump.Right x.0 x.1.0 x.1.1) (both (coded binary_table) (both typed_value_at (component_at b))) c

unfoldable pub jump_at : BodyBounds → Cursor → Result (JumpFunction × Cursor) ℕ
jump_at b c = coded jump_table c >>= λ k. jump_fields_at b k.0 k.1

abbrev pub source_from : ℕ → Option ℕ
source_from n = if n == 0 then None else Some (n - 1)

unfoldable pub source_at : BodyBounds → Cursor → Result (Option ℕ × Cursor) ℕ
source_at b = made source_from (number_below (component_count b + 1))

unfoldable pub argument_at : BodyBounds → Cursor → Result (EdgeArg × Cursor) ℕ
argument_at b = made (λ x. record { jump = x.0; source = x.1 }) (both (jump_at b) (source_at b))

unfoldable pub edge_at : BodyBounds → Cursor → Result (Edge × Cursor) ℕ
edge_at b =
    made (λ x. record { statement = x.0; callee = x.1.0; assigns = x.1.1.0; args = x.1.1.1 })
    (both (number_below (2 ^ 32)) (both (number_below b.functions) (both (coded flag_table) (counted (argument_at b)))))

unfoldable pub facts_at : Cursor → Result (ParamFacts × Cursor) ℕ
facts_at = made (λ x. record { weight = x.0; used_here = x.1 }) (both (number_below (2 ^ 32)) (coded flag_table))

unfoldable pub summary_at : BodyBounds → Cursor → Result (Summary × Cursor) ℕ
summary_at b =
    made (λ x. record { code_bound = x.0; params = x.1.0; arrays = x.1.1.0; edges = x.1.1.1 })
    (both (number_below (2 ^ 64)) (both (counted facts_at) (both (counted (number_below b.arrays)) (counted (edge_at b)))))

unfoldable pub summaries_within : List BodyBounds → List ℕ → Result (List Summary) ℕ
summaries_within bounds bytes = whole (in_turn summary_at bounds) bytes

-- the summaries of the module that all of the bytes spell, or the offset of the first byte of the first bad field
abbrev pub read_summaries : Module → List ℕ → Result (List Summary) ℕ
read_summaries m bytes = summaries_within (bounds_in m) bytes
