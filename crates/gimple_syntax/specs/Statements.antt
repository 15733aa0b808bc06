-- Statements with numbers in place of names. A name that names nothing of the sort that its place asks for becomes a number
-- that names nothing. A statement in which a struct stands where a component must has no numbers: one of the same labels and
-- the same fault, a wrong type, stands for it.
use Rattle.std.specs.Prelude.{ℕ, ◌+◌, pos, List, [], ◌∷◌, ◌++◌, length, map, slice_get, Bool, true, false, ◌&&◌, not, if◌then◌else◌, nat_eq, Option, Some, None, min, codes}
use Rattle.std.specs.List.{list_any, filter_map, flat_map}
use Rattle.std.specs.Option.{option_map_or, option_to_list}
use Rattle.std.specs.Str.{bytes_eq}
use Rattle.gimple_ir.specs.declared.types.ScalarType.{ScalarType}
use Rattle.gimple_ir.specs.declared.types.ScalarType.TheVariants.{Int, LongInt}
use Rattle.gimple_ir.specs.declared.types.ResultType.{ResultType}
use Rattle.gimple_ir.specs.declared.types.ResultType.TheVariants as returned
use Rattle.gimple_ir.specs.declared.types.UnaryOp.TheVariants.{Neg, Not}
use Rattle.gimple_ir.specs.declared.types.BinaryOp.TheVariants.{Add}
use Rattle.gimple_ir.specs.declared.types.Operand.{Operand}
use Rattle.gimple_ir.specs.declared.types.Operand.TheVariants.{Component, Literal}
use Rattle.gimple_ir.specs.declared.types.Arg.{Arg}
use Rattle.gimple_ir.specs.declared.types.Arg.TheVariants as argument
use Rattle.gimple_ir.specs.declared.types.Case.{Case}
use Rattle.gimple_ir.specs.declared.types.Statement.{Statement}
use Rattle.gimple_ir.specs.declared.types.Statement.TheVariants.{Nop, Label, Goto, Cond, Switch, ReturnVoid, Return, Copy, Unary, Convert, Binary, Load, Store, CopyStruct, Call, Putchar, Getchar, Exit}
use Rattle.gimple_ir.specs.Lattices.{same_type}
use Rattle.gimple_grammar.specs.declared.syntax.Operand.{Operand as Written}
use Rattle.gimple_grammar.specs.declared.syntax.Right.{Right}
use Rattle.gimple_grammar.specs.declared.syntax.Right.TheVariants as right
use Rattle.gimple_grammar.specs.declared.syntax.Tail.{Tail}
use Rattle.gimple_grammar.specs.declared.syntax.Tail.TheVariants as tail
use Rattle.gimple_grammar.specs.declared.syntax.Condition.{Condition}
use Rattle.gimple_grammar.specs.declared.syntax.CaseLabel.{CaseLabel}
use Rattle.gimple_grammar.specs.declared.syntax.Choice.{Choice}
use Rattle.gimple_grammar.specs.declared.syntax.Form.{Form}
use Rattle.gimple_grammar.specs.declared.syntax.Form.TheVariants as form
use Rattle.gimple_grammar.specs.declared.syntax.Line.{Line}
use Rattle.gimple_syntax.specs.Numbers.{nothing, number_of, at_number, item_number, value_of}
use Rattle.gimple_syntax.specs.declared.named.Named.{Named}
use Rattle.gimple_syntax.specs.declared.named.Named.TheVariants.{Unknown, Whole, Single}
use Rattle.gimple_syntax.specs.Places.{Names, types_of, named_by, operand_named}

-- ---- stand-ins

abbrev pub unknown : Operand
unknown = Component nothing

abbrev pub zero_of : ScalarType → Operand
zero_of ty = Literal (record { ty = ty; num = pos 0 })

-- a type other than this one
abbrev pub other_type : ScalarType → ScalarType
other_type Int = LongInt
other_type _ = Int

-- __builtin_putchar (0l); has a wrong type
abbrev pub ill_typed : Statement
ill_typed = Putchar (zero_of LongInt)

-- a sum is no comparison
abbrev pub ill_typed_condition : ℕ → ℕ → Statement
ill_typed_condition met missed = Cond Add (zero_of Int) (zero_of Int) met missed

-- the last case has another type than the first operand
abbrev pub ill_typed_switch : List Case → ℕ → Statement
ill_typed_switch cases otherwise =
    Switch (zero_of Int) (cases ++ record { value = record { ty = LongInt; num = pos 0 }; label = otherwise } ∷ []) otherwise

abbrev pub ill_typed_return : ResultType → Statement
ill_typed_return returned.Void = Return (zero_of Int)
ill_typed_return (returned.Scalar ty) = Return (zero_of (other_type ty))

-- ---- operands

-- A statement by what its operands name: what it is where one names nothing, else where one is a whole struct, else by
-- their numbers.
abbrev pub by_one : Named → Statement → Statement → (Operand → Statement) → Statement
by_one Unknown unknown_one ill give = unknown_one
by_one (Whole v) unknown_one ill give = ill
by_one (Single a) unknown_one ill give = give a

abbrev pub by_two : Named → Named → Statement → Statement → (Operand → Operand → Statement) → Statement
by_two Unknown b unknown_one ill give = unknown_one
by_two (Whole v) b unknown_one ill give = by_one b unknown_one ill (λ x. ill)
by_two (Single a) b unknown_one ill give = by_one b unknown_one ill (give a)

abbrev pub by_three : Named → Named → Named → Statement → Statement → (Operand → Operand → Operand → Statement) → Statement
by_three Unknown b c unknown_one ill give = unknown_one
by_three (Whole v) b c unknown_one ill give = by_two b c unknown_one ill (λ x y. ill)
by_three (Single a) b c unknown_one ill give = by_two b c unknown_one ill (give a)

-- the component that an operand is; no literal is a target
abbrev pub component : Operand → ℕ
component (Component x) = x
component (Literal value) = nothing

abbrev pub is_unknown : Named → Bool
is_unknown Unknown = true
is_unknown _ = false

abbrev pub unknown_statement : Statement
unknown_statement = Putchar unknown

-- ---- arguments and calls

abbrev pub argument_of : Named → Arg
argument_of Unknown = argument.One unknown
argument_of (Whole v) = argument.Whole v
argument_of (Single a) = argument.One a

abbrev pub arguments_of : Names → List Written → List Arg
arguments_of n args = map (λ a. argument_of (operand_named n a)) args

-- ---- what stands after `=`, with the target

abbrev pub array_named : Names → List ℕ → Named
array_named n name =
    let number = item_number n.arrays name in
    if nat_eq number nothing then Unknown else Single (Component number)

abbrev pub component_types : Names → List ScalarType
component_types n = flat_map (λ d. types_of n.structs d.ty) n.variables

abbrev pub has_type : Names → ScalarType → Operand → Bool
has_type n ty x = option_map_or (same_type ty) (slice_get (component_types n) (component x)) false

abbrev pub copied : Named → Named → Statement
copied Unknown from = unknown_statement
copied (Whole s) Unknown = unknown_statement
copied (Whole s) (Whole t) = CopyStruct s t
copied (Whole s) (Single a) = ill_typed
copied (Single x) from = by_one from unknown_statement ill_typed (Copy (component x))

-- the type that is written is that of the target
abbrev pub converted : Names → ScalarType → Operand → Operand → Statement
converted n ty x a = if has_type n ty x then Convert (component x) a else ill_typed

-- everything but the target of the call is as it should be
abbrev pub is_sound_call : Names → ℕ → List Written → Bool
is_sound_call n function args =
    option_map_or (nat_eq (length args)) (at_number n.arities function) false
    && not (list_any (λ a. is_unknown (operand_named n a)) args)

abbrev pub call_into : Names → Named → ℕ → List Written → Statement
call_into n Unknown function args = Call (Some nothing) function (arguments_of n args)
call_into n (Whole v) function args = if is_sound_call n function args then ill_typed else Call None function (arguments_of n args)
call_into n (Single x) function args = Call (Some (component x)) function (arguments_of n args)

-- x = __builtin_getchar ();
abbrev pub is_getchar : List ℕ → List Written → Bool
is_getchar name args = bytes_eq name (codes "__builtin_getchar") && nat_eq (length args) 0

abbrev pub called_into : Names → Named → List ℕ → List Written → Statement
called_into n to name args =
    if is_getchar name args then by_one to unknown_statement ill_typed (λ x. Getchar (Some (component x)))
    else call_into n to (item_number n.functions name) args

unfoldable pub assigned : Names → Named → Right → Statement
assigned n to (right.Value a) = copied to (operand_named n a)
assigned n to (right.Binary b) =
    by_three to (operand_named n b.left) (operand_named n b.right) unknown_statement ill_typed (λ x l r. Binary (component x) b.op l r)
assigned n to (right.Negate a) = by_two to (operand_named n a) unknown_statement ill_typed (λ x from. Unary (component x) Neg from)
assigned n to (right.Complement a) = by_two to (operand_named n a) unknown_statement ill_typed (λ x from. Unary (component x) Not from)
assigned n to (right.Convert ty a) = by_two to (operand_named n a) unknown_statement ill_typed (converted n ty)
assigned n to (right.Load array index) =
    by_three to (array_named n array) (operand_named n index) unknown_statement ill_typed (λ x a i. Load (component x) (component a) i)
assigned n to (right.Call name args) = called_into n to name args

-- ---- statements that begin with a name

-- a builtin function of one operand
abbrev pub builtin_of_one : Names → List ℕ → Written → Statement
builtin_of_one n name a =
    if bytes_eq name (codes "__builtin_putchar") then by_one (operand_named n a) unknown_statement ill_typed Putchar
    else if bytes_eq name (codes "__builtin_exit") then by_one (operand_named n a) unknown_statement ill_typed Exit
    else Call None (item_number n.functions name) (arguments_of n (a ∷ []))

abbrev pub called : Names → List ℕ → List Written → Statement
called n name [] = if is_getchar name [] then Getchar None else Call None (item_number n.functions name) []
called n name (a ∷ []) = builtin_of_one n name a
called n name (a ∷ (b ∷ rest)) = Call None (item_number n.functions name) (arguments_of n (a ∷ (b ∷ rest)))

abbrev pub stored : Names → List ℕ → Written → Written → Statement
stored n array index from =
    by_three (array_named n array) (operand_named n index) (operand_named n from) unknown_statement ill_typed (λ a i b. Store (component a) i b)

abbrev pub variable_named : Names → List ℕ → Option (List ℕ) → Named
variable_named n name field = named_by n (record { name = name; field = field })

unfoldable pub named_statement : Names → ℕ → List ℕ → Tail → Statement
named_statement n labels name tail.Label = Label (min labels nothing)
named_statement n labels name (tail.Call args) = called n name args
named_statement n labels name (tail.Store index from) = stored n name index from
named_statement n labels name (tail.Assign r) = assigned n (variable_named n name None) r
named_statement n labels name (tail.AssignField field r) = assigned n (variable_named n name (Some field)) r

-- ---- other statements

abbrev pub condition_of : Names → Condition → Statement
condition_of n c =
    let met = number_of n.labels c.met in
    let missed = number_of n.labels c.missed in
    by_two (operand_named n c.left) (operand_named n c.right) (Cond c.op unknown unknown met missed)
    (ill_typed_condition met missed) (λ l r. Cond c.op l r met missed)

abbrev pub case_of : Names → CaseLabel → Case
case_of n c = record { value = value_of c.value; label = number_of n.labels c.label }

abbrev pub switch_of : Names → Choice → Statement
switch_of n c =
    let cases = map (case_of n) c.cases in
    let otherwise = number_of n.labels c.otherwise in
    by_one (operand_named n c.on) (Switch unknown cases otherwise) (ill_typed_switch cases otherwise) (λ a. Switch a cases otherwise)

abbrev pub return_of : Names → ResultType → Option Written → Statement
return_of n result None = ReturnVoid
return_of n result (Some a) = by_one (operand_named n a) (Return unknown) (ill_typed_return result) Return

-- a statement of a function with this result, after so many labels
unfoldable pub statement_of : Names → ResultType → ℕ → Form → Statement
statement_of n result labels form.Empty = Nop
statement_of n result labels (form.Goto label) = Goto (number_of n.labels label)
statement_of n result labels (form.If c) = condition_of n c
statement_of n result labels (form.Switch c) = switch_of n c
statement_of n result labels (form.Return a) = return_of n result a
statement_of n result labels (form.Named name t) = named_statement n labels name t

-- ---- bodies

abbrev pub label_name : Form → Option (List ℕ)
label_name (form.Named name tail.Label) = Some name
label_name _ = None

-- the labels of a body, in order
abbrev pub label_names : List Line → List (List ℕ)
label_names lines = filter_map (λ l. label_name l.form) lines

-- one label or none
abbrev pub labels_at : Form → List (List ℕ)
labels_at f = option_to_list (label_name f)

-- the statements of the lines, after so many labels
unfoldable pub statements_from : Names → ResultType → ℕ → List Line → List Statement
statements_from n result labels [] = []
statements_from n result labels (l ∷ ls) =
    statement_of n result labels l.form ∷ statements_from n result (labels + length (labels_at l.form)) ls
