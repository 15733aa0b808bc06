-- The stream of bodies: of each function that has one, in order, the body's byte length and the body.
use Rattle.std.specs.Prelude.{ℕ, List, map, Result}
use Rattle.std.specs.List.{flat_map}
use Rattle.cursors.specs.Cursor.{Cursor}
use Rattle.gimple_ir.specs.declared.types.Statement.{Statement}
use Rattle.gimple_ir.specs.declared.types.Function.{Function}
use Rattle.gimple_ir.specs.declared.types.Module.{Module}
use Rattle.module_stream.specs.declared.bounds.BodyBounds.{BodyBounds}
use Rattle.module_stream.specs.Fields.{FitEach, text_of}
use Rattle.module_stream.specs.Bodies.{body_of, FitsBody}
use Rattle.module_stream.specs.BodyReading.{read_body}
use Rattle.module_stream.specs.Readers.{in_turn, sized, whole}
use Rattle.lto_object.specs.Bounds.{defined_of, bounds_in}

-- ---- the spelling

-- the bodies of the functions that have one
abbrev pub bodies_of : List Function → List (List Statement)
bodies_of functions = map (λ f. f.body) (defined_of functions)

abbrev pub stored_body_of : List Statement → List ℕ
stored_body_of body = text_of (body_of body)

abbrev pub bodies_bytes : List (List Statement) → List ℕ
bodies_bytes bodies = flat_map stored_body_of bodies

-- one for each function that has a body, with numbers that the module has
abbrev pub FitBodies : Module → List (List Statement) → Type 0
FitBodies m bodies = FitEach FitsBody (bounds_in m) bodies

-- ---- reading

unfoldable pub stored_body_at : BodyBounds → Cursor → Result (List Statement × Cursor) ℕ
stored_body_at b = sized (read_body b)

unfoldable pub bodies_within : List BodyBounds → List ℕ → Result (List (List Statement)) ℕ
bodies_within bounds bytes = whole (in_turn stored_body_at bounds) bytes

-- the bodies of the module that all of the bytes spell, or the offset of the first byte of the first bad field
abbrev pub read_bodies : Module → List ℕ → Result (List (List Statement)) ℕ
read_bodies m bytes = bodies_within (bounds_in m) bytes
