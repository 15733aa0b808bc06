-- What the interpreter plans at a statement that is no call: the acts of `Source` as small data, and what they stand for.
use Rattle.std.specs.Prelude.{ℕ, ◌+◌, ◌≡◌, ℤ, pos, List, [], ◌∷◌, Option, Some, None, Bool, true, IfSome, if◌then◌else◌, slice_get, slice_set, option_and_then, unsigned_abs}
use Rattle.std.specs.Option.{option_map, is_some}
use Rattle.std.specs.Ordering.{int_eq}
use Rattle.gimple_ir.specs.Values.{IsValue, unary_of, convert_of, value_of}
use Rattle.gimple_ir.specs.Statements.{component_types}
use Rattle.gimple_ir.specs.Programs.{IsElement}
use Rattle.gimple_ir.specs.declared.types.ScalarType.TheVariants.{Int}
use Rattle.gimple_ir.specs.declared.types.BinaryOp.{BinaryOp}
use Rattle.gimple_ir.specs.declared.types.UnaryOp.{UnaryOp}
use Rattle.gimple_ir.specs.declared.types.Value.{Value}
use Rattle.gimple_ir.specs.declared.types.Array.{Array}
use Rattle.gimple_ir.specs.declared.types.Arg.{Arg}
use Rattle.gimple_ir.specs.declared.types.Arg.TheVariants.{One, Whole}
use Rattle.gimple_ir.specs.declared.types.Variable.{Variable}
use Rattle.gimple_ir.specs.declared.types.Function.{Function}
use Rattle.gimple_ir.specs.declared.types.Statement.{Statement}
use Rattle.gimple_ir.specs.declared.types.Statement.TheVariants.{Nop, Label, Goto, Cond, Switch, ReturnVoid, Return, Copy, Unary, Convert, Binary, Load, Store as StoreTo, CopyStruct, Call, Putchar, Getchar, Exit}
use Rattle.gimple_meaning.specs.declared.moves.Move.{Move}
use Rattle.gimple_meaning.specs.declared.moves.Move.TheVariants as move
use Rattle.gimple_meaning.specs.Acts.{Store, Act, Fault, Goes, Leaves, Exits, low_byte, value_at, sets, copied, operation_of, case_label, element_type, element_at, loaded, stored, with_element, read_byte, unread}
use Rattle.gimple_meaning.specs.Source.{place_of, struct_pairs}

abbrev pub on : {T : Type 0} → Option T → (T → Move) → Move
on None plan = move.Fault
on (Some v) plan = plan v

-- ---- what statements compute

abbrev pub unary_on : UnaryOp → Option Value → Option Value
unary_on op x = option_and_then (unary_of op) x

abbrev pub operation_on : BinaryOp → Option Value → Option Value → Option Value
operation_on op x y = option_and_then (λ a. option_and_then (operation_of op a) y) x

abbrev pub converted_on : List Variable → ℕ → Option Value → Option Value
converted_on variables to x = option_and_then (λ a. option_map (λ ty. convert_of ty a) (slice_get (component_types variables) to)) x

abbrev pub loaded_at : List Array → List (List ℤ) → ℕ → ℤ → Option Value
loaded_at declared numbers array z =
    option_and_then (λ element. option_map (loaded element) (element_at numbers array z)) (element_type declared array)

abbrev pub loaded_on : List Array → List (List ℤ) → ℕ → Option Value → Option Value
loaded_on declared numbers array x = option_and_then (λ i. loaded_at declared numbers array i.num) x

abbrev pub store_on : List Array → List (List ℤ) → ℕ → Option Value → Option Value → Move
store_on declared numbers array x y =
    on x (λ i. on y (λ v. on (element_type declared array) (λ element. on (element_at numbers array i.num) (λ before. move.Store array (unsigned_abs i.num) (stored element v.num)))))

-- ---- plans

abbrev pub move_of : Function → List Array → List (Option Value) → List (List ℤ) → Statement → Move
move_of f declared cells numbers Nop = move.Next
move_of f declared cells numbers (Label l) = move.Next
move_of f declared cells numbers (Goto l) = move.Jump l
move_of f declared cells numbers (Cond op left right met missed) =
    on (operation_on op (value_at cells left) (value_at cells right)) (λ v. move.Jump (if int_eq v.num (pos 0) then missed else met))
move_of f declared cells numbers (Switch a cases otherwise) = on (value_at cells a) (λ v. move.Jump (case_label cases v.num otherwise))
move_of f declared cells numbers ReturnVoid = move.Leave None
move_of f declared cells numbers (Return o) = on (value_at cells o) (λ v. move.Leave (Some v))
move_of f declared cells numbers (Copy to from) = on (value_at cells from) (λ v. move.Assign to v)
move_of f declared cells numbers (Unary to op from) = on (unary_on op (value_at cells from)) (λ v. move.Assign to v)
move_of f declared cells numbers (Convert to from) = on (converted_on f.variables to (value_at cells from)) (λ v. move.Assign to v)
move_of f declared cells numbers (Binary to op left right) =
    on (operation_on op (value_at cells left) (value_at cells right)) (λ v. move.Assign to v)
move_of f declared cells numbers (Load to array index) = on (loaded_on declared numbers array (value_at cells index)) (λ v. move.Assign to v)
move_of f declared cells numbers (StoreTo array index from) = store_on declared numbers array (value_at cells index) (value_at cells from)
move_of f declared cells numbers (CopyStruct to from) = move.CopyStruct to from
move_of f declared cells numbers (Call to g args) = move.Fault
move_of f declared cells numbers (Putchar o) = on (value_at cells o) (λ v. move.Print (low_byte v.num))
move_of f declared cells numbers (Getchar to) = move.Read to
move_of f declared cells numbers (Exit o) = on (value_at cells o) (λ v. move.End (low_byte v.num))

-- what a plan holds is in range: a number that is stored, in that of the elements of its array
abbrev pub MoveFits : List Array → Move → Type 0
MoveFits declared (move.Assign to v) = IsValue v
MoveFits declared (move.Leave value) = IfSome value IsValue
MoveFits declared (move.Store array i z) = IfSome (element_type declared array) (λ element. IsElement element z)
MoveFits declared _ = Unit {0}

abbrev pub FitsAny : Move → Type 0
FitsAny m = (declared : List Array) → MoveFits declared m

-- the act of a plan
abbrev pub act_of : Function → ℕ → Store → Move → Act
act_of f place s move.Fault = Fault
act_of f place s move.Next = Goes (place + 1) s []
act_of f place s (move.Jump l) = Goes (place_of f.body l) s []
act_of f place s (move.Assign to v) = sets place s to v
act_of f place s (move.Store array i z) = Goes (place + 1) (record s { arrays = with_element s.arrays array i z }) []
act_of f place s (move.CopyStruct to from) = Goes (place + 1) (record s { cells = copied s.cells (struct_pairs f.variables to from) }) []
act_of f place s (move.Print byte) = Goes (place + 1) s (byte ∷ [])
act_of f place s (move.Read None) = Goes (place + 1) (record s { input = unread s.input }) []
act_of f place s (move.Read (Some to)) =
    Goes (place + 1) (record s { cells = slice_set s.cells to (Some (value_of Int (read_byte s.input))); input = unread s.input }) []
act_of f place s (move.Leave value) = Leaves value
act_of f place s (move.End status) = Exits status

-- ---- calls

abbrev pub IsCallOf : Statement → ℕ → List Arg → Type 0
IsCallOf (Call to g args) h passed = (g ≡ h) × (args ≡ passed)
IsCallOf _ h passed = ⊥

-- an argument is set, or a whole struct
abbrev pub passes : List (Option Value) → Arg → Bool
passes cells (One o) = is_some (value_at cells o)
passes cells (Whole v) = true

abbrev pub IsPlain : Statement → Type 0
IsPlain (Call to g args) = ⊥
IsPlain _ = Unit {0}
