-- The rows of the step table as laws: from related states, where the program's next step is of a form, the machine answers it, by
-- the words of the step alone and with no trap between.
use Rattle.std.specs.Prelude.{◌≡◌, ℕ, List, Option, Some}
use Rattle.gimple_ir.specs.declared.types.UnaryOp.{UnaryOp}
use Rattle.gimple_ir.specs.declared.types.BinaryOp.{BinaryOp}
use Rattle.gimple_ir.specs.declared.types.Operand.{Operand}
use Rattle.gimple_ir.specs.declared.types.Case.{Case}
use Rattle.gimple_ir.specs.declared.versioned.Pair.{Pair}
use Rattle.gimple_ir.specs.declared.versioned.Step.{Step}
use Rattle.gimple_ir.specs.declared.versioned.Step.TheVariants.{Nop, Label, Goto, Cond, Switch, Return, Copies, Unary, Convert, Binary, Load, Store, Call, Putchar, Getchar, Exit}
use Rattle.gimple_meaning.specs.Systems.{Machine, Running, step}
use Rattle.rv64_meaning.specs.Machine.{Segments, State}
use Rattle.gimple_meaning.specs.Linked.{LinkedProgram, linked_system, step_now, steps_left}
use Rattle.gimple_meaning.specs.Typed.{ProgramTyped}
use Rattle.follow_laws.specs.Layouts.{Layout, IsPlaced}
use Rattle.follow_laws.specs.Related.{Related, Answers}

-- the machine answers each step of this form
abbrev pub Row : Step → Type 0
Row form =
    (m : Segments) (l : Layout) (p : LinkedProgram) → IsPlaced m l p → ProgramTyped p → (q : Machine) (s : State) → Related l p q s → step_now p q ≡ Some form
    → Answers m l p s (steps_left p q) (step (linked_system p) (Running q))

abbrev pub NopRow : Type 0
NopRow = Row Nop

abbrev pub LabelRow : Type 0
LabelRow = (label : ℕ) → Row (Label label)

abbrev pub GotoRow : Type 0
GotoRow = (label : ℕ) → Row (Goto label)

abbrev pub CopiesRow : Type 0
CopiesRow = (pairs : List Pair) → Row (Copies pairs)

abbrev pub UnaryRow : Type 0
UnaryRow = (to : ℕ) (op : UnaryOp) (a : Operand) → Row (Unary to op a)

abbrev pub ConvertRow : Type 0
ConvertRow = (to : ℕ) (a : Operand) → Row (Convert to a)

abbrev pub BinaryRow : Type 0
BinaryRow = (to : ℕ) (op : BinaryOp) (a b : Operand) → Row (Binary to op a b)

abbrev pub CondRow : Type 0
CondRow = (op : BinaryOp) (a b : Operand) (met missed : ℕ) → Row (Cond op a b met missed)

abbrev pub SwitchRow : Type 0
SwitchRow = (on : Operand) (cases : List Case) (otherwise : ℕ) → Row (Switch on cases otherwise)

abbrev pub LoadRow : Type 0
LoadRow = (to array : ℕ) (index : Operand) → Row (Load to array index)

abbrev pub StoreRow : Type 0
StoreRow = (array : ℕ) (index from : Operand) → Row (Store array index from)

abbrev pub CallRow : Type 0
CallRow = (to : Option ℕ) (call : ℕ) (args : List Operand) → Row (Call to call args)

abbrev pub ReturnRow : Type 0
ReturnRow = (a : Option Operand) → Row (Return a)

abbrev pub PutcharRow : Type 0
PutcharRow = (a : Operand) → Row (Putchar a)

abbrev pub GetcharRow : Type 0
GetcharRow = (to : Option ℕ) → Row (Getchar to)

abbrev pub ExitRow : Type 0
ExitRow = (a : Operand) → Row (Exit a)
