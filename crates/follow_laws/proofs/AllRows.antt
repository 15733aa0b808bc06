-- The rows of all forms of a step.
use Rattle.gimple_ir.specs.declared.types.UnaryOp.{UnaryOp}
use Rattle.gimple_ir.specs.declared.types.UnaryOp.TheVariants as unary
use Rattle.gimple_ir.specs.declared.versioned.Step.TheVariants.{Nop, Label, Goto, Cond, Switch, Return, Copies, Unary, Convert, Binary, Load, Store, Call, Putchar, Getchar, Exit}
use Rattle.follow_laws.specs.Rows.{NopRow, LabelRow, GotoRow, CopiesRow, UnaryRow, ConvertRow, BinaryRow, CondRow, SwitchRow, LoadRow, StoreRow, CallRow, ReturnRow, PutcharRow, GetcharRow, ExitRow}
use Rattle.follow_laws.specs.Starts.{MachineFollows}
use Rattle.follow_laws.proofs.Answering.{row}
use Rattle.follow_laws.proofs.PlainRows.{nop_at, label_at, goto_at, copies_at}
use Rattle.follow_laws.proofs.ValueRows.{UnaryComputes, unary_at, convert_at, binary_at}
use Rattle.follow_laws.proofs.TestRows.{cond_at, switch_at}
use Rattle.follow_laws.proofs.NumbersComputed.{binary_computes}
use Rattle.follow_laws.proofs.NumbersBranches.{comparison_branches}
use Rattle.follow_laws.proofs.ArrayRows.{load_at, store_at}
use Rattle.follow_laws.proofs.BuiltinRows.{putchar_at, getchar_at, exit_at}
use Rattle.follow_laws.proofs.ReturnRows.{return_at}
use Rattle.follow_laws.proofs.CallRows.{call_at}
use Rattle.follow_laws.proofs.Sums.{neg_computes, not_computes, convert_computes, same_forms}
use Rattle.follow_laws.proofs.Following.{AllRows, start_follows}

pub nop_row : NopRow
nop_row m l p w typed q s = row m l p Nop (nop_at m l p w typed) q s

pub label_row : LabelRow
label_row x m l p w typed q s = row m l p (Label x) (label_at m l p w typed x) q s

pub goto_row : GotoRow
goto_row x m l p w typed q s = row m l p (Goto x) (goto_at m l p w typed x) q s

pub copies_row : CopiesRow
copies_row x m l p w typed q s = row m l p (Copies x) (copies_at m l p w typed x) q s

unary_computes : (op : UnaryOp) → UnaryComputes op
unary_computes unary.Neg = neg_computes
unary_computes unary.Not = not_computes

pub unary_row : UnaryRow
unary_row to op x m l p w typed q s = row m l p (Unary to op x) (unary_at m l p w typed to op x (unary_computes op)) q s

pub convert_row : ConvertRow
convert_row to x m l p w typed q s = row m l p (Convert to x) (convert_at m l p w typed to x convert_computes) q s

pub binary_row : BinaryRow
binary_row to op x y m l p w typed q s = row m l p (Binary to op x y) (binary_at m l p w typed to op x y (binary_computes op)) q s

pub cond_row : CondRow
cond_row op x y met missed m l p w typed q s = row m l p (Cond op x y met missed) (cond_at m l p w typed op x y met missed (comparison_branches op)) q s

pub switch_row : SwitchRow
switch_row on cases otherwise m l p w typed q s = row m l p (Switch on cases otherwise) (switch_at m l p w typed on cases otherwise same_forms) q s

pub putchar_row : PutcharRow
putchar_row x m l p w typed q s = row m l p (Putchar x) (putchar_at m l p w typed x) q s

pub getchar_row : GetcharRow
getchar_row x m l p w typed q s = row m l p (Getchar x) (getchar_at m l p w typed x) q s

pub exit_row : ExitRow
exit_row x m l p w typed q s = row m l p (Exit x) (exit_at m l p w typed x) q s

pub call_row : CallRow
call_row to n args m l p w typed q s = row m l p (Call to n args) (call_at m l p w typed to n args) q s

pub return_row : ReturnRow
return_row x m l p w typed q s = row m l p (Return x) (return_at m l p w typed x) q s

pub load_row : LoadRow
load_row to array index m l p w typed q s = row m l p (Load to array index) (load_at m l p w typed to array index) q s

pub store_row : StoreRow
store_row array index from m l p w typed q s = row m l p (Store array index from) (store_at m l p w typed array index from) q s

all_rows : AllRows
all_rows Nop = nop_row
all_rows (Label x) = label_row x
all_rows (Goto x) = goto_row x
all_rows (Cond op x y met missed) = cond_row op x y met missed
all_rows (Switch on cases otherwise) = switch_row on cases otherwise
all_rows (Return x) = return_row x
all_rows (Copies x) = copies_row x
all_rows (Unary to op x) = unary_row to op x
all_rows (Convert to x) = convert_row to x
all_rows (Binary to op x y) = binary_row to op x y
all_rows (Load to array x) = load_row to array x
all_rows (Store array x y) = store_row array x y
all_rows (Call to n args) = call_row to n args
all_rows (Putchar x) = putchar_row x
all_rows (Getchar x) = getchar_row x
all_rows (Exit x) = exit_row x

pub machine_follows : MachineFollows
machine_follows m l p w typed input s a = start_follows m l p w typed all_rows input s a
