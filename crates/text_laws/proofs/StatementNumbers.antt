-- The statement that is read of a checked function's statement is that statement.
use Rattle.std.proofs.Common.{◌≡◌, ◌<◌, ◌≤◌, ℕ, List, [], ◌∷◌, length, map, min, Bool, true, false, refl, sym, ap, ap₂, ◌∙◌, arith, codes}
use Rattle.std.specs.Prelude.{Option, Some, None, slice_get, All, IfSome, ◌&&◌, if◌then◌else◌, nat_lt, nat_eq}
use Rattle.std.specs.List.{list_all, zip}
use Rattle.std.specs.Option.{option_map_or}
use Rattle.std.specs.Str.{bytes_eq}
use Rattle.std.proofs.lemmas.Slice.Eq.{bytes_eq-Decides}
use Rattle.std.proofs.lemmas.List.Elements.{All-head, All-tail}
use Rattle.gimple_ir.specs.declared.types.ResultType.{ResultType}
use Rattle.gimple_ir.specs.declared.types.VarType.{VarType}
use Rattle.gimple_ir.specs.declared.types.VarType.TheVariants as variable
use Rattle.gimple_ir.specs.declared.types.UnaryOp.{UnaryOp}
use Rattle.gimple_ir.specs.declared.types.UnaryOp.TheVariants.{Neg, Not}
use Rattle.gimple_ir.specs.declared.types.Operand.{Operand}
use Rattle.gimple_ir.specs.declared.types.Operand.TheVariants.{Component, Literal}
use Rattle.gimple_ir.specs.declared.types.Arg.{Arg}
use Rattle.gimple_ir.specs.declared.types.Arg.TheVariants as argument
use Rattle.gimple_ir.specs.declared.types.Case.{Case}
use Rattle.gimple_ir.specs.declared.types.Statement.{Statement}
use Rattle.gimple_ir.specs.declared.types.Statement.TheVariants.{Nop, Label, Goto, Cond, Switch, ReturnVoid, Return, Copy, Unary, Convert, Binary, Load, Store, CopyStruct, Call, Putchar, Getchar, Exit}
use Rattle.gimple_ir.specs.declared.types.Variable.{Variable}
use Rattle.gimple_ir.specs.declared.types.Function.{Function}
use Rattle.gimple_ir.specs.declared.types.Module.{Module}
use Rattle.gimple_ir.specs.Names.{is_builtin}
use Rattle.gimple_ir.specs.Statements.{ByNumber, knows, knows_component, knows_operand, knows_argument, knows_target, knows_array, knows_function, knows_label, counts_arguments, types_fit, is_struct, same_struct, structs_fit, copies_struct, whole_fits, argument_fits, arguments_fit, result_fits, type_of_call}
use Rattle.gimple_ir.specs.Checks.{scope_in, label_of, goes_within}
use Rattle.gimple_ir.specs.Programs.{IsOperand, IsArgument, HasValues}
use Rattle.gimple_ir.specs.Values.{IsValue}
use Rattle.gimple_grammar.specs.declared.syntax.Operand.{Operand as Written}
use Rattle.gimple_grammar.specs.declared.syntax.Right.{Right}
use Rattle.gimple_grammar.specs.declared.syntax.Right.TheVariants as right
use Rattle.gimple_syntax.specs.declared.named.Named.{Named}
use Rattle.gimple_syntax.specs.declared.named.Named.TheVariants.{Whole, Single}
use Rattle.gimple_syntax.specs.Numbers.{nothing, number_of, item_number}
use Rattle.gimple_syntax.specs.Places.{Names, named_by, operand_named}
use Rattle.gimple_syntax.specs.Statements.{by_one, by_two, by_three, unknown_statement, ill_typed, ill_typed_condition, ill_typed_switch, ill_typed_return, unknown, component, argument_of as argument_read, arguments_of, array_named, has_type, copied, converted, called_into, assigned as assigned_read, called as called_read, named_statement, case_of as case_read, statement_of}
use Rattle.gimple_print.specs.Statements.{name_at}
use Rattle.text_laws.specs.Syntax.{names_in, place_of, place_at, type_at, operand_of, whole_of, argument_of, assigned_by, assigned, unary_of, case_of, called, form_of}
use Rattle.text_laws.proofs.Known.{both_true, below_true, same_number}
use Rattle.text_laws.proofs.Literals.{value_is}
use Rattle.text_laws.proofs.Components.{names_read}

-- the names of a function stand for the numbers for which they are written
pub record AreNumbers (m : Module) (f : Function) : Type 0 where
  pub component : (x : ℕ) → knows_component (scope_in m f) x ≡ true → named_by (names_read m f) (place_at (names_in m f) x) ≡ Single (Component x)
  pub typed : (x : ℕ) → knows_component (scope_in m f) x ≡ true → has_type (names_read m f) (type_at (names_in m f) x) (Component x) ≡ true
  pub whole : (v : ℕ) (w : Variable) → slice_get f.variables v ≡ Some w → is_struct w.ty ≡ true → operand_named (names_read m f) (whole_of (names_in m f) v) ≡ Whole v
  pub label : (l : ℕ) → l < length f.labels → number_of f.labels (name_at f.labels l) ≡ l
  pub array : (a : ℕ) → knows_array (scope_in m f) a ≡ true → array_named (names_read m f) (name_at (names_in m f).arrays a) ≡ Single (Component a)
  pub function : (g : ℕ) → knows_function (scope_in m f) g ≡ true → item_number (names_read m f).functions (name_at (names_in m f).functions g) ≡ g
  pub callable : (g : ℕ) → knows_function (scope_in m f) g ≡ true → is_builtin (name_at (names_in m f).functions g) ≡ false
  pub parameters : (g : ℕ) (called : Function) → slice_get m.functions g ≡ Some called → called.parameters ≤ length called.variables

-- ---- operands

one_is : (a : Named) (x : Operand) (u i : Statement) (give : Operand → Statement) → a ≡ Single x → by_one a u i give ≡ give x
one_is a x u i give e = rw e refl

two_is : (a b : Named) (x y : Operand) (u i : Statement) (give : Operand → Operand → Statement) → a ≡ Single x → b ≡ Single y → by_two a b u i give ≡ give x y
two_is a b x y u i give e d = rw (e, d) refl

three_is : (a b c : Named) (x y z : Operand) (u i : Statement) (give : Operand → Operand → Operand → Statement) → a ≡ Single x → b ≡ Single y → c ≡ Single z
    → by_three a b c u i give ≡ give x y z
three_is a b c x y z u i give e d h = rw (e, d, h) refl

operand_is : (m : Module) (f : Function) → AreNumbers m f → (a : Operand) → IsOperand a → knows_operand (scope_in m f) a ≡ true
    → operand_named (names_read m f) (operand_of (names_in m f) a) ≡ Single a
operand_is m f k (Component x) v h = k.component x h
operand_is m f k (Literal value) v h = ap (λ w. Single (Literal w)) (value_is value v)

-- ---- arguments

passes_some : {X : Type 0} (t : X → Bool) (o : Option X) → option_map_or t o false ≡ true → (x : X) × (o ≡ Some x) × (t x ≡ true)
passes_some t None h = cc
passes_some t (Some x) h = (x, refl, h)

structs_both : (v w : VarType) → same_struct v w ≡ true → (is_struct v ≡ true) × (is_struct w ≡ true)
structs_both (variable.Scalar a) w h = cc
structs_both (variable.Struct k) (variable.Scalar b) h = cc
structs_both (variable.Struct k) (variable.Struct l) h = (refl, refl)

argument_is : (m : Module) (f : Function) → AreNumbers m f → (a : Arg) (parameter : Variable) → IsArgument a → knows_argument (scope_in m f) a ≡ true
    → argument_fits (scope_in m f) a parameter ≡ true
    → argument_read (operand_named (names_read m f) (argument_of (names_in m f) a)) ≡ a
argument_is m f k (argument.One a) parameter v h fits = ap argument_read (operand_is m f k a v h)
argument_is m f k (argument.Whole x) parameter v h fits =
    let w = passes_some (λ (w : Variable). whole_fits ByNumber w parameter) (slice_get f.variables x) fits in
    ap argument_read (k.whole x w.0 w.1 (structs_both w.0.ty parameter.ty w.2).0)

arguments_are : (m : Module) (f : Function) → AreNumbers m f → (args : List Arg) (parameters : List Variable) → All IsArgument args
    → list_all (knows_argument (scope_in m f)) args ≡ true → length args ≤ length parameters
    → list_all (λ pair. argument_fits (scope_in m f) pair.0 pair.1) (zip args parameters) ≡ true
    → arguments_of (names_read m f) (map (argument_of (names_in m f)) args) ≡ args
arguments_are m f k [] parameters all h many fits = refl
arguments_are m f k (a ∷ args) [] all h many fits = absurd (omega arith)
arguments_are m f k (a ∷ args) (p ∷ parameters) all h many fits =
    let sc = scope_in m f in
    let known = both_true (knows_argument sc a) (list_all (knows_argument sc) args) h in
    let fit = both_true (argument_fits sc a p) (list_all (λ pair. argument_fits sc pair.0 pair.1) (zip args parameters)) fits in
    ap₂ (λ b bs. b ∷ bs) (argument_is m f k a p (All-head IsArgument a args all) known.0 fit.0)
    (arguments_are m f k args parameters (All-tail IsArgument a args all) known.1 (omega arith) fit.1)

call_arguments : (m : Module) (f : Function) → AreNumbers m f → (g : ℕ) (args : List Arg) → All IsArgument args
    → list_all (knows_argument (scope_in m f)) args ≡ true → option_map_or (λ (called : Function). nat_eq (length args) called.parameters) (slice_get m.functions g) true ≡ true
    → arguments_fit (scope_in m f) g args ≡ true
    → arguments_of (names_read m f) (map (argument_of (names_in m f)) args) ≡ args
call_arguments m f k g args all h counts fits =
    let sc = scope_in m f in
    let c = passes_some (λ (called : Function). list_all (λ pair. argument_fits sc pair.0 pair.1) (zip args called.variables)) (slice_get m.functions g) fits in
    let counted : nat_eq (length args) c.0.parameters ≡ true = sym (ap (λ o. option_map_or (λ (called : Function). nat_eq (length args) called.parameters) o true) c.1) ∙ counts in
    arguments_are m f k args c.0.variables all h (omega (arith, same_number (length args) c.0.parameters counted, k.parameters g c.0 c.1)) c.2

-- ---- calls

-- no name of an item is that of a builtin function
other : (name builtin : List ℕ) → is_builtin name ≡ false → is_builtin builtin ≡ true → bytes_eq name builtin ≡ false
other name builtin h b = by (bytes_eq name builtin) refl
  where
    by : (t : Bool) → bytes_eq name builtin ≡ t → t ≡ false
    by false e = refl
    by true e =
        let same : name ≡ builtin = (bytes_eq-Decides name builtin).0 e in
        absurd (let no = sym b ∙ ap is_builtin (sym same) ∙ h in cc)

call_is : (n : Names) (name : List ℕ) (args : List Written) → is_builtin name ≡ false → called_read n name args ≡ Call None (item_number n.functions name) (arguments_of n args)
call_is n name [] h = rw (other name (codes "__builtin_getchar") h refl) refl
call_is n name (a ∷ []) h = rw (other name (codes "__builtin_putchar") h refl, other name (codes "__builtin_exit") h refl) refl
call_is n name (a ∷ (b ∷ rest)) h = refl

call_into_is : (n : Names) (x : ℕ) (name : List ℕ) (args : List Written) → is_builtin name ≡ false
    → called_into n (Single (Component x)) name args ≡ Call (Some x) (item_number n.functions name) (arguments_of n args)
call_into_is n x name args h = rw (other name (codes "__builtin_getchar") h refl) refl

-- ---- what is assigned

assigned_by_is : (n : Names) (result : ResultType) (labels : ℕ) (name : List ℕ) (field : Option (List ℕ)) (r : Right)
    → statement_of n result labels (assigned_by name field r) ≡ assigned_read n (named_by n (place_of name field)) r
unfolding statement_of named_statement
assigned_by_is n result labels name None r = refl
assigned_by_is n result labels name (Some field) r = refl

assigned_is : (m : Module) (f : Function) → AreNumbers m f → (result : ResultType) (labels to : ℕ) (r : Right) → knows_component (scope_in m f) to ≡ true
    → statement_of (names_read m f) result labels (assigned (names_in m f) to r) ≡ assigned_read (names_read m f) (Single (Component to)) r
assigned_is m f k result labels to r h =
    let p = place_at (names_in m f) to in
    assigned_by_is (names_read m f) result labels p.name p.field r ∙ ap (λ z. assigned_read (names_read m f) z r) (k.component to h)

-- ---- statements

-- a label that stands has the number of labels before it
abbrev pub IsCounted : ℕ → Statement → Type 0
IsCounted labels st = IfSome (label_of st) (λ l. (l ≡ labels) × (labels ≤ nothing))

cases_are : (m : Module) (f : Function) → AreNumbers m f → (cases : List Case) → All (λ c. IsValue c.value) cases
    → list_all (λ c. nat_lt c.label (length f.labels)) cases ≡ true
    → map (case_read (names_read m f)) (map (case_of (names_in m f)) cases) ≡ cases
cases_are m f k [] all h = refl
cases_are m f k (c ∷ cases) all h =
    let low = both_true (nat_lt c.label (length f.labels)) (list_all (λ (c : Case). nat_lt c.label (length f.labels)) cases) h in
    let same : case_read (names_read m f) (case_of (names_in m f) c) ≡ c =
    ap₂ (λ v l. record { value = v; label = l }) (value_is c.value (All-head (λ (c : Case). IsValue c.value) c cases all)) (k.label c.label (below_true c.label (length f.labels) low.0)) in
    ap₂ (λ b bs. b ∷ bs) same (cases_are m f k cases (All-tail (λ (c : Case). IsValue c.value) c cases all) low.1)

unary_is : (n : Names) (x : ℕ) (op : UnaryOp) (from : Written) (a : Operand) → operand_named n from ≡ Single a
    → assigned_read n (Single (Component x)) (unary_of op from) ≡ Unary x op a
unfolding assigned_read
unary_is n x Neg from a e = one_is (operand_named n from) a unknown_statement ill_typed (λ y. Unary x Neg y) e
unary_is n x Not from a e = one_is (operand_named n from) a unknown_statement ill_typed (λ y. Unary x Not y) e

called_is : (m : Module) (f : Function) → AreNumbers m f → (result : ResultType) (labels : ℕ) (to : Option ℕ) (g : ℕ) (args : List Arg)
    → knows_target (scope_in m f) to ≡ true → knows_function (scope_in m f) g ≡ true
    → arguments_of (names_read m f) (map (argument_of (names_in m f)) args) ≡ args
    → statement_of (names_read m f) result labels (called (names_in m f) to (name_at (names_in m f).functions g) (map (argument_of (names_in m f)) args)) ≡ Call to g args
unfolding statement_of named_statement assigned_read
called_is m f k result labels None g args target known are =
    call_is (names_read m f) (name_at (names_in m f).functions g) (map (argument_of (names_in m f)) args) (k.callable g known)
    ∙ ap₂ (λ h bs. Call None h bs) (k.function g known) are
called_is m f k result labels (Some x) g args target known are =
    assigned_is m f k result labels x (right.Call (name_at (names_in m f).functions g) (map (argument_of (names_in m f)) args)) target
    ∙ call_into_is (names_read m f) x (name_at (names_in m f).functions g) (map (argument_of (names_in m f)) args) (k.callable g known)
    ∙ ap₂ (λ h bs. Call (Some x) h bs) (k.function g known) are

getchar_is : (m : Module) (f : Function) → AreNumbers m f → (result : ResultType) (labels : ℕ) (to : Option ℕ) → knows_target (scope_in m f) to ≡ true
    → statement_of (names_read m f) result labels (called (names_in m f) to (codes "__builtin_getchar") []) ≡ Getchar to
unfolding statement_of named_statement assigned_read
getchar_is m f k result labels None h = refl
getchar_is m f k result labels (Some x) h = assigned_is m f k result labels x (right.Call (codes "__builtin_getchar") []) h

label_is : (labels l : ℕ) → l ≡ labels → labels ≤ nothing → Label (min labels nothing) ≡ Label l
label_is labels l e h = ap Label (omega arith)

copy_is : (m : Module) (f : Function) → AreNumbers m f → (to from : ℕ) → copies_struct (scope_in m f) to from ≡ true
    → copied (operand_named (names_read m f) (whole_of (names_in m f) to)) (operand_named (names_read m f) (whole_of (names_in m f) from)) ≡ CopyStruct to from
copy_is m f k to from h =
    let v = passes_some (λ (v : Variable). option_map_or (structs_fit ByNumber v) (slice_get f.variables from) false) (slice_get f.variables to) h in
    let w = passes_some (structs_fit ByNumber v.0) (slice_get f.variables from) v.2 in
    let both = structs_both v.0.ty w.0.ty w.2 in
    ap₂ copied (k.whole to v.0 v.1 both.0) (k.whole from w.0 w.1 both.1)

pub statement_is : (m : Module) (f : Function) → AreNumbers m f → (result : ResultType) (labels : ℕ) (st : Statement)
    → HasValues st → knows (scope_in m f) st ≡ true → counts_arguments (scope_in m f) st ≡ true → types_fit (scope_in m f) st ≡ true
    → goes_within (length f.labels) st ≡ true → IsCounted labels st
    → statement_of (names_read m f) result labels (form_of (names_in m f) st) ≡ st
unfolding form_of statement_of named_statement assigned_read
statement_is m f k result labels Nop v h c t g i = refl
statement_is m f k result labels (Label l) v h c t g i = label_is labels l i.0 i.1
statement_is m f k result labels (Goto l) v h c t g i = ap Goto (k.label l (below_true l (length f.labels) g))
statement_is m f k result labels (Cond op a b met missed) v h c t g i =
    let sc = scope_in m f in
    let gn = names_read m f in
    let sn = names_in m f in
    let three = both_true (knows_operand sc a && knows_operand sc b && knows_label sc met) (knows_label sc missed) h in
    let two = both_true (knows_operand sc a && knows_operand sc b) (knows_label sc met) three.0 in
    let one = both_true (knows_operand sc a) (knows_operand sc b) two.0 in
    let low = both_true (nat_lt met (length f.labels)) (nat_lt missed (length f.labels)) g in
    let x = number_of f.labels (name_at f.labels met) in
    let y = number_of f.labels (name_at f.labels missed) in
    two_is (operand_named gn (operand_of sn a)) (operand_named gn (operand_of sn b)) a b (Cond op unknown unknown x y) (ill_typed_condition x y) (λ l r. Cond op l r x y)
    (operand_is m f k a v.0 one.0) (operand_is m f k b v.1 one.1)
    ∙ ap₂ (λ x y. Cond op a b x y) (k.label met (below_true met (length f.labels) low.0)) (k.label missed (below_true missed (length f.labels) low.1))
statement_is m f k result labels (Switch a cases otherwise) v h c t g i =
    let sc = scope_in m f in
    let gn = names_read m f in
    let sn = names_in m f in
    let two = both_true (knows_operand sc a && knows_label sc otherwise) (list_all (λ (c : Case). knows_label sc c.label) cases) h in
    let one = both_true (knows_operand sc a) (knows_label sc otherwise) two.0 in
    let low = both_true (nat_lt otherwise (length f.labels)) (list_all (λ (c : Case). nat_lt c.label (length f.labels)) cases) g in
    let cs = map (case_read gn) (map (case_of sn) cases) in
    let o = number_of f.labels (name_at f.labels otherwise) in
    one_is (operand_named gn (operand_of sn a)) a (Switch unknown cs o) (ill_typed_switch cs o) (λ a. Switch a cs o) (operand_is m f k a v.0 one.0)
    ∙ ap₂ (λ cs o. Switch a cs o) (cases_are m f k cases v.1 low.1) (k.label otherwise (below_true otherwise (length f.labels) low.0))
statement_is m f k result labels ReturnVoid v h c t g i = refl
statement_is m f k result labels (Return a) v h c t g i =
    one_is (operand_named (names_read m f) (operand_of (names_in m f) a)) a (Return unknown) (ill_typed_return result) Return (operand_is m f k a v h)
statement_is m f k result labels (Copy to a) v h c t g i =
    let one = both_true (knows_component (scope_in m f) to) (knows_operand (scope_in m f) a) h in
    assigned_is m f k result labels to (right.Value (operand_of (names_in m f) a)) one.0
    ∙ one_is (operand_named (names_read m f) (operand_of (names_in m f) a)) a unknown_statement ill_typed (Copy to) (operand_is m f k a v one.1)
statement_is m f k result labels (Unary to op a) v h c t g i =
    let one = both_true (knows_component (scope_in m f) to) (knows_operand (scope_in m f) a) h in
    assigned_is m f k result labels to (unary_of op (operand_of (names_in m f) a)) one.0
    ∙ unary_is (names_read m f) to op (operand_of (names_in m f) a) a (operand_is m f k a v one.1)
statement_is m f k result labels (Convert to a) v h c t g i =
    let gn = names_read m f in
    let sn = names_in m f in
    let one = both_true (knows_component (scope_in m f) to) (knows_operand (scope_in m f) a) h in
    assigned_is m f k result labels to (right.Convert (type_at sn to) (operand_of sn a)) one.0
    ∙ one_is (operand_named gn (operand_of sn a)) a unknown_statement ill_typed (converted gn (type_at sn to) (Component to)) (operand_is m f k a v one.1)
    ∙ ap (λ b. if b then Convert to a else ill_typed) (k.typed to one.0)
statement_is m f k result labels (Binary to op a b) v h c t g i =
    let sc = scope_in m f in
    let gn = names_read m f in
    let sn = names_in m f in
    let two = both_true (knows_component sc to && knows_operand sc a) (knows_operand sc b) h in
    let one = both_true (knows_component sc to) (knows_operand sc a) two.0 in
    assigned_is m f k result labels to (right.Binary (record { left = operand_of sn a; op = op; right = operand_of sn b })) one.0
    ∙ two_is (operand_named gn (operand_of sn a)) (operand_named gn (operand_of sn b)) a b unknown_statement ill_typed (λ l r. Binary to op l r)
    (operand_is m f k a v.0 one.1) (operand_is m f k b v.1 two.1)
statement_is m f k result labels (Load to array a) v h c t g i =
    let sc = scope_in m f in
    let gn = names_read m f in
    let sn = names_in m f in
    let two = both_true (knows_component sc to && knows_array sc array) (knows_operand sc a) h in
    let one = both_true (knows_component sc to) (knows_array sc array) two.0 in
    let name = name_at sn.arrays array in
    assigned_is m f k result labels to (right.Load name (operand_of sn a)) one.0
    ∙ two_is (array_named gn name) (operand_named gn (operand_of sn a)) (Component array) a unknown_statement ill_typed (λ x i. Load to (component x) i)
    (k.array array one.1) (operand_is m f k a v two.1)
statement_is m f k result labels (Store array a b) v h c t g i =
    let sc = scope_in m f in
    let gn = names_read m f in
    let sn = names_in m f in
    let two = both_true (knows_array sc array && knows_operand sc a) (knows_operand sc b) h in
    let one = both_true (knows_array sc array) (knows_operand sc a) two.0 in
    let name = name_at sn.arrays array in
    three_is (array_named gn name) (operand_named gn (operand_of sn a)) (operand_named gn (operand_of sn b)) (Component array) a b unknown_statement ill_typed (λ x i y. Store (component x) i y)
    (k.array array one.0) (operand_is m f k a v.0 one.1) (operand_is m f k b v.1 two.1)
statement_is m f k result labels (CopyStruct to from) v h c t g i = copy_is m f k to from t
statement_is m f k result labels (Call to f' args) v h c t g i =
    let sc = scope_in m f in
    let two = both_true (knows_target sc to && knows_function sc f') (list_all (knows_argument sc) args) h in
    let one = both_true (knows_target sc to) (knows_function sc f') two.0 in
    let fit = both_true (arguments_fit sc f' args) (result_fits sc to (type_of_call sc f')) t in
    called_is m f k result labels to f' args one.0 one.1 (call_arguments m f k f' args v two.1 c fit.0)
statement_is m f k result labels (Putchar a) v h c t g i =
    one_is (operand_named (names_read m f) (operand_of (names_in m f) a)) a unknown_statement ill_typed Putchar (operand_is m f k a v h)
statement_is m f k result labels (Getchar to) v h c t g i = getchar_is m f k result labels to h
statement_is m f k result labels (Exit a) v h c t g i =
    one_is (operand_named (names_read m f) (operand_of (names_in m f) a)) a unknown_statement ill_typed Exit (operand_is m f k a v h)
