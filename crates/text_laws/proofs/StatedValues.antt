-- The literals of a statement that is made from its syntax lie in their types' ranges.
use Rattle.std.proofs.Common.{ℕ, ◌+◌, pos, Bool, true, false, Option, Some, None, List, [], ◌∷◌, length, map, arith}
use Rattle.std.specs.Prelude.{All, nat_eq, min, codes, if◌then◌else◌}
use Rattle.std.specs.List.{position}
use Rattle.std.specs.Option.{option_map_or}
use Rattle.std.specs.Str.{bytes_eq}
use Rattle.std.proofs.lemmas.Int.{ints}
use Rattle.std.proofs.lemmas.List.Elements.{All-nil, All-cons, All-push, All-map}
use Rattle.gimple_ir.specs.declared.types.ScalarType.{ScalarType}
use Rattle.gimple_ir.specs.declared.types.ScalarType.TheVariants.{Int, UnsignedInt, LongInt, LongUnsignedInt}
use Rattle.gimple_ir.specs.declared.types.ResultType.{ResultType}
use Rattle.gimple_ir.specs.declared.types.ResultType.TheVariants as returned
use Rattle.gimple_ir.specs.declared.types.UnaryOp.TheVariants.{Neg, Not}
use Rattle.gimple_ir.specs.declared.types.Operand.{Operand}
use Rattle.gimple_ir.specs.declared.types.Operand.TheVariants.{Component}
use Rattle.gimple_ir.specs.declared.types.Case.{Case}
use Rattle.gimple_ir.specs.declared.types.Statement.{Statement}
use Rattle.gimple_ir.specs.declared.types.Statement.TheVariants.{Switch, Return, Copy, Unary, Convert, Binary, Load, Store, Call, Putchar, Getchar, Exit}
use Rattle.gimple_ir.specs.Values.{InRange, IsValue}
use Rattle.gimple_ir.specs.Programs.{IsOperand, IsArgument, HasValues}
use Rattle.gimple_ir.proofs.WellFormed.{reduced-InRange}
use Rattle.gimple_grammar.specs.declared.syntax.«Type».{«Type» as WrittenType}
use Rattle.gimple_grammar.specs.declared.syntax.«Type».TheVariants as types
use Rattle.gimple_grammar.specs.declared.syntax.Place.{Place}
use Rattle.gimple_grammar.specs.declared.syntax.Operand.{Operand as Written}
use Rattle.gimple_grammar.specs.declared.syntax.Operand.TheVariants as written
use Rattle.gimple_grammar.specs.declared.syntax.Declared.{Declared}
use Rattle.gimple_grammar.specs.declared.syntax.StructText.{StructText}
use Rattle.gimple_grammar.specs.declared.syntax.Right.{Right}
use Rattle.gimple_grammar.specs.declared.syntax.Right.TheVariants as right
use Rattle.gimple_grammar.specs.declared.syntax.Tail.{Tail}
use Rattle.gimple_grammar.specs.declared.syntax.Tail.TheVariants as tail
use Rattle.gimple_grammar.specs.declared.syntax.CaseLabel.{CaseLabel}
use Rattle.gimple_grammar.specs.declared.syntax.Form.{Form}
use Rattle.gimple_grammar.specs.declared.syntax.Form.TheVariants as form
use Rattle.gimple_grammar.specs.declared.syntax.Line.{Line}
use Rattle.gimple_syntax.specs.Numbers.{nothing, number_of, at_number, item_number, type_of_suffix, signed}
use Rattle.gimple_syntax.specs.declared.named.Named.{Named}
use Rattle.gimple_syntax.specs.declared.named.Named.TheVariants.{Unknown, Whole, Single}
use Rattle.gimple_syntax.specs.Places.{Names, first_component, field_at, variable_at, named_by, operand_named, struct_named}
use Rattle.gimple_syntax.specs.Statements.{unknown, unknown_statement, ill_typed, ill_typed_switch, ill_typed_return, other_type, by_one, by_two, by_three, component, argument_of, arguments_of, array_named, has_type, copied, converted, is_sound_call, call_into, is_getchar, called_into, assigned, builtin_of_one, called, stored, variable_named, named_statement, case_of, statement_of, labels_at, statements_from}

-- ---- operands

abbrev IsFit : Named → Type 0
IsFit Unknown = Unit {0}
IsFit (Whole v) = Unit {0}
IsFit (Single a) = IsOperand a

field-place : (n : Names) (v : ℕ) (o : Option ℕ) → IsFit (option_map_or (λ place. Single (Component (min (first_component n v + place) nothing))) o Unknown)
field-place n v None = tt
field-place n v (Some place) = tt

field-fits : (n : Names) (v : ℕ) (field : List ℕ) (o : Option StructText) → IsFit (field_at n v field o)
field-fits n v field None = tt
field-fits n v field (Some s) = field-place n v (position (λ f. bytes_eq field f.name) s.fields)

variable-fits : (n : Names) (v : ℕ) (ty : WrittenType) (field : Option (List ℕ)) → IsFit (variable_at n v ty field)
variable-fits n v (types.Scalar ty) None = tt
variable-fits n v (types.Scalar ty) (Some f) = tt
variable-fits n v (types.Struct tag) None = tt
variable-fits n v (types.Struct tag) (Some f) = field-fits n v f (struct_named n.structs tag)

place-by : (n : Names) (v : ℕ) (field : Option (List ℕ)) (o : Option Declared) → IsFit (option_map_or (λ d. variable_at n v d.ty field) o Unknown)
place-by n v field None = tt
place-by n v field (Some d) = variable-fits n v d.ty field

place-fits : (n : Names) (p : Place) → IsFit (named_by n p)
unfolding named_by
place-fits n p = place-by n (number_of (map (λ d. d.name) n.variables) p.name) p.field (at_number n.variables (number_of (map (λ d. d.name) n.variables) p.name))

operand-fits : (n : Names) (a : Written) → IsFit (operand_named n a)
operand-fits n (written.Place p) = place-fits n p
operand-fits n (written.Literal l) = reduced-InRange (type_of_suffix l.suffix) (signed l)

array-by : (b : Bool) (number : ℕ) → IsFit (if b then Unknown else Single (Component number))
array-by true number = tt
array-by false number = tt

array-fits : (n : Names) (name : List ℕ) → IsFit (array_named n name)
array-fits n name = array-by (nat_eq (item_number n.arrays name) nothing) (item_number n.arrays name)

-- ---- stand-ins

zero-fits : (ty : ScalarType) → InRange ty (pos 0)
zero-fits Int = grind (arith, ints)
zero-fits UnsignedInt = grind (arith, ints)
zero-fits LongInt = grind (arith, ints)
zero-fits LongUnsignedInt = grind (arith, ints)

ill-values : HasValues ill_typed
ill-values = zero-fits LongInt

ill-return : (r : ResultType) → HasValues (ill_typed_return r)
ill-return returned.Void = zero-fits Int
ill-return (returned.Scalar ty) = zero-fits (other_type ty)

abbrev IsFitCase : Case → Type 0
IsFitCase c = IsValue c.value

ill-switch : (cases : List Case) (otherwise : ℕ) → All IsFitCase cases → HasValues (ill_typed_switch cases otherwise)
ill-switch cases otherwise h = (zero-fits Int, All-push IsFitCase cases _ h (zero-fits LongInt))

-- ---- statements by what their operands name

one-values : (x : Named) (u i : Statement) (give : Operand → Statement) → IsFit x → HasValues u → HasValues i → ((a : Operand) → IsOperand a → HasValues (give a)) → HasValues (by_one x u i give)
one-values Unknown u i give x hu hi f = hu
one-values (Whole v) u i give x hu hi f = hi
one-values (Single a) u i give x hu hi f = f a x

two-values : (x y : Named) (u i : Statement) (give : Operand → Operand → Statement) → IsFit x → IsFit y → HasValues u → HasValues i
    → ((a b : Operand) → IsOperand a → IsOperand b → HasValues (give a b)) → HasValues (by_two x y u i give)
two-values Unknown y u i give x fy hu hi f = hu
two-values (Whole v) y u i give x fy hu hi f = one-values y u i (λ b. i) fy hu hi (λ b p. hi)
two-values (Single a) y u i give x fy hu hi f = one-values y u i (give a) fy hu hi (λ b p. f a b x p)

three-values : (x y z : Named) (u i : Statement) (give : Operand → Operand → Operand → Statement) → IsFit x → IsFit y → IsFit z → HasValues u → HasValues i
    → ((a b c : Operand) → IsOperand a → IsOperand b → IsOperand c → HasValues (give a b c)) → HasValues (by_three x y z u i give)
three-values Unknown y z u i give x fy fz hu hi f = hu
three-values (Whole v) y z u i give x fy fz hu hi f = two-values y z u i (λ b c. i) fy fz hu hi (λ b c p q. hi)
three-values (Single a) y z u i give x fy fz hu hi f = two-values y z u i (give a) fy fz hu hi (λ b c p q. f a b c x p q)

-- ---- calls

argument-values : (x : Named) → IsFit x → IsArgument (argument_of x)
argument-values Unknown h = tt
argument-values (Whole v) h = tt
argument-values (Single a) h = h

each-argument : (n : Names) (args : List Written) → All (λ a. IsArgument (argument_of (operand_named n a))) args
each-argument n [] = All-nil (λ a. IsArgument (argument_of (operand_named n a)))
each-argument n (a ∷ more) = All-cons (λ b. IsArgument (argument_of (operand_named n b))) a more (argument-values (operand_named n a) (operand-fits n a)) (each-argument n more)

arguments-values : (n : Names) (args : List Written) → All IsArgument (arguments_of n args)
arguments-values n args = All-map IsArgument (λ a. argument_of (operand_named n a)) args (each-argument n args)

either-values : (b : Bool) (x y : Statement) → HasValues x → HasValues y → HasValues (if b then x else y)
either-values true x y p q = p
either-values false x y p q = q

call-values : (n : Names) (to : Named) (function : ℕ) (args : List Written) → HasValues (call_into n to function args)
call-values n Unknown function args = arguments-values n args
call-values n (Whole v) function args =
    either-values (is_sound_call n function args) ill_typed (Call None function (arguments_of n args)) ill-values (arguments-values n args)
call-values n (Single x) function args = arguments-values n args

called-into : (n : Names) (to : Named) (name : List ℕ) (args : List Written) → IsFit to → HasValues (called_into n to name args)
called-into n to name args h =
    either-values (is_getchar name args) (by_one to unknown_statement ill_typed (λ x. Getchar (Some (component x)))) (call_into n to (item_number n.functions name) args)
    (one-values to unknown_statement ill_typed (λ x. Getchar (Some (component x))) h tt ill-values (λ a p. tt))
    (call-values n to (item_number n.functions name) args)

builtin-values : (n : Names) (name : List ℕ) (a : Written) → HasValues (builtin_of_one n name a)
builtin-values n name a =
    either-values (bytes_eq name (codes "__builtin_putchar")) _ _
    (one-values (operand_named n a) unknown_statement ill_typed Putchar (operand-fits n a) tt ill-values (λ b p. p))
    (either-values (bytes_eq name (codes "__builtin_exit")) _ _
    (one-values (operand_named n a) unknown_statement ill_typed Exit (operand-fits n a) tt ill-values (λ b p. p))
    (arguments-values n (a ∷ [])))

called-values : (n : Names) (name : List ℕ) (args : List Written) → HasValues (called n name args)
called-values n name [] = either-values (is_getchar name []) (Getchar None) (Call None (item_number n.functions name) []) tt (arguments-values n [])
called-values n name (a ∷ []) = builtin-values n name a
called-values n name (a ∷ (b ∷ rest)) = arguments-values n (a ∷ (b ∷ rest))

-- ---- what stands after "="

copied-values : (to from : Named) → IsFit to → IsFit from → HasValues (copied to from)
copied-values Unknown from h k = tt
copied-values (Whole s) Unknown h k = tt
copied-values (Whole s) (Whole t) h k = tt
copied-values (Whole s) (Single a) h k = ill-values
copied-values (Single x) from h k = one-values from unknown_statement ill_typed (Copy (component x)) k tt ill-values (λ a p. p)

converted-values : (n : Names) (ty : ScalarType) (x a : Operand) → IsOperand a → HasValues (converted n ty x a)
converted-values n ty x a h = either-values (has_type n ty x) (Convert (component x) a) ill_typed h ill-values

assigned-values : (n : Names) (to : Named) (r : Right) → IsFit to → HasValues (assigned n to r)
unfolding assigned
assigned-values n to (right.Value a) h = copied-values to (operand_named n a) h (operand-fits n a)
assigned-values n to (right.Binary b) h =
    three-values to (operand_named n b.left) (operand_named n b.right) unknown_statement ill_typed (λ x l r. Binary (component x) b.op l r) h
    (operand-fits n b.left) (operand-fits n b.right) tt ill-values (λ x l r p q s. (q, s))
assigned-values n to (right.Negate a) h = two-values to (operand_named n a) unknown_statement ill_typed (λ x from. Unary (component x) Neg from) h (operand-fits n a) tt ill-values (λ x f p q. q)
assigned-values n to (right.Complement a) h = two-values to (operand_named n a) unknown_statement ill_typed (λ x from. Unary (component x) Not from) h (operand-fits n a) tt ill-values (λ x f p q. q)
assigned-values n to (right.Convert ty a) h = two-values to (operand_named n a) unknown_statement ill_typed (converted n ty) h (operand-fits n a) tt ill-values (λ x f p q. converted-values n ty x f q)
assigned-values n to (right.Load array index) h =
    three-values to (array_named n array) (operand_named n index) unknown_statement ill_typed (λ x a i. Load (component x) (component a) i) h
    (array-fits n array) (operand-fits n index) tt ill-values (λ x a i p q s. s)
assigned-values n to (right.Call name args) h = called-into n to name args h

stored-values : (n : Names) (array : List ℕ) (index from : Written) → HasValues (stored n array index from)
stored-values n array index from =
    three-values (array_named n array) (operand_named n index) (operand_named n from) unknown_statement ill_typed (λ a i b. Store (component a) i b)
    (array-fits n array) (operand-fits n index) (operand-fits n from) tt ill-values (λ a i b p q s. (q, s))

named-values : (n : Names) (labels : ℕ) (name : List ℕ) (t : Tail) → HasValues (named_statement n labels name t)
unfolding named_statement
named-values n labels name tail.Label = tt
named-values n labels name (tail.Call args) = called-values n name args
named-values n labels name (tail.Store index from) = stored-values n name index from
named-values n labels name (tail.Assign r) = assigned-values n (variable_named n name None) r (place-fits n (record { name = name; field = None }))
named-values n labels name (tail.AssignField f r) = assigned-values n (variable_named n name (Some f)) r (place-fits n (record { name = name; field = Some f }))

-- ---- bodies

cases-values : (n : Names) (cases : List CaseLabel) → All IsFitCase (map (case_of n) cases)
cases-values n [] = All-nil IsFitCase
cases-values n (c ∷ cs) = All-cons IsFitCase (case_of n c) (map (case_of n) cs) (reduced-InRange (type_of_suffix c.value.suffix) (signed c.value)) (cases-values n cs)

statement-values : (n : Names) (r : ResultType) (labels : ℕ) (f : Form) → HasValues (statement_of n r labels f)
unfolding statement_of
statement-values n r labels form.Empty = tt
statement-values n r labels (form.Goto label) = tt
statement-values n r labels (form.If c) =
    two-values (operand_named n c.left) (operand_named n c.right) _ _ _ (operand-fits n c.left) (operand-fits n c.right) (tt, tt) (zero-fits Int, zero-fits Int) (λ a b p q. (p, q))
statement-values n r labels (form.Switch c) =
    let cases = map (case_of n) c.cases in
    let otherwise = number_of n.labels c.otherwise in
    let all = cases-values n c.cases in
    one-values (operand_named n c.on) (Switch unknown cases otherwise) (ill_typed_switch cases otherwise) (λ a. Switch a cases otherwise) (operand-fits n c.on) (tt, all) (ill-switch cases otherwise all) (λ a p. (p, all))
statement-values n r labels (form.Return None) = tt
statement-values n r labels (form.Return (Some a)) = one-values (operand_named n a) (Return unknown) (ill_typed_return r) Return (operand-fits n a) tt (ill-return r) (λ b p. p)
statement-values n r labels (form.Named name t) = named-values n labels name t

pub body-values : (n : Names) (r : ResultType) (labels : ℕ) (ls : List Line) → All HasValues (statements_from n r labels ls)
unfolding statements_from
body-values n r labels [] = All-nil HasValues
body-values n r labels (l ∷ ls) =
    let more = labels + length (labels_at l.form) in
    All-cons HasValues (statement_of n r labels l.form) (statements_from n r more ls) (statement-values n r labels l.form) (body-values n r more ls)
