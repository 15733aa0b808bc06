-- The statements of a function are read back from their lines.
use Rattle.std.proofs.Common.{◌≡◌, ℕ, ◌+◌, List, [], ◌∷◌, ◌++◌, length, Option, Some, None, refl, ap, subst, ◌∙◌, arith, append_assoc}
use Rattle.std.specs.Prelude.{map, codes}
use Rattle.std.specs.List.{flat_map, AllByRecursion}
use Rattle.std.proofs.lemmas.List.Concat.{flat_map-cons}
use Rattle.gimple_ir.specs.declared.types.UnaryOp.{UnaryOp}
use Rattle.gimple_ir.specs.declared.types.UnaryOp.TheVariants.{Neg, Not}
use Rattle.gimple_ir.specs.declared.types.Operand.{Operand}
use Rattle.gimple_ir.specs.declared.types.Operand.TheVariants.{Component, Literal}
use Rattle.gimple_ir.specs.declared.types.Arg.{Arg}
use Rattle.gimple_ir.specs.declared.types.Arg.TheVariants.{One, Whole}
use Rattle.gimple_ir.specs.declared.types.Case.{Case}
use Rattle.gimple_ir.specs.declared.types.Function.{Function}
use Rattle.gimple_ir.specs.declared.types.Module.{Module}
use Rattle.gimple_ir.specs.declared.types.Statement.{Statement}
use Rattle.gimple_ir.specs.declared.types.Statement.TheVariants.{Nop, Label, Goto, Cond, Switch, ReturnVoid, Return, Copy, Unary, Convert, Binary, Load, Store, CopyStruct, Call, Putchar, Getchar, Exit}
use Rattle.gimple_ir.specs.Values.{IsValue}
use Rattle.gimple_ir.specs.Programs.{IsIdentifier}
use Rattle.gimple_tokens.specs.declared.token.Mark.TheVariants as mark
use Rattle.gimple_tokens.specs.Tokens.{Sign, tokens_from}
use Rattle.gimple_grammar.specs.Grammar.{Only, Begins, spellings, at_line}
use Rattle.gimple_grammar.specs.Pieces.{one_of, operand, argument, arguments}
use Rattle.gimple_grammar.specs.Statements.{form, statement}
use Rattle.gimple_grammar.specs.declared.syntax.Operand.{Operand as OperandText}
use Rattle.gimple_grammar.specs.declared.syntax.Right.{Right}
use Rattle.gimple_grammar.specs.declared.syntax.Right.TheVariants as rights
use Rattle.gimple_grammar.proofs.Laws.{begins-append, at-line}
use Rattle.gimple_print.specs.Words.{scalar_text, literal_text}
use Rattle.gimple_print.specs.Statements.{names_in as printed_in, name_at, component_text, component_type_text, operand_text, operation_text, target_text, argument_text, arguments_text, statement_text, indent_text, line_text}
use Rattle.text_laws.specs.Syntax.{literal_of, names_in, place_at, type_at, operand_of, argument_of, whole_of, assigned, called, form_of, lines_from}
use Rattle.text_laws.proofs.Spaced.{space, newline, sign}
use Rattle.text_laws.proofs.Pieces.{done, sign_then, IsReadAs, part_then, place_text, IsField, place_read, operand_literal, literal_read, AreRead, arguments_read}
use Rattle.text_laws.proofs.Rights.{IsRightText, value_right, binary_right, negate_right, complement_right, convert_right, load_right, AreArguments, call_right}
use Rattle.text_laws.proofs.Forms.{Stands, IsFormText, empty_form, goto_form, bare_return, return_form, if_form, IsCaseRead, switch_form, label_form, call_form, store_form, assigned_form}

-- ---- what a statement needs, to be read back

-- the component has a name, and both tables have it
pub record HasPlace (m : Module) (f : Function) (x : ℕ) : Type 0 where
  pub text : component_text (printed_in m f) x ≡ place_text (place_at (names_in m f) x).name (place_at (names_in m f) x).field
  pub name : IsIdentifier (place_at (names_in m f) x).name
  pub field : IsField (place_at (names_in m f) x).field
  pub ty : component_type_text (printed_in m f) x ≡ scalar_text (type_at (names_in m f) x)

abbrev pub HasLabel : Function → ℕ → Type 0
HasLabel f l = IsIdentifier (name_at f.labels l)

abbrev pub HasVariable : Module → Function → ℕ → Type 0
HasVariable m f v = IsIdentifier (name_at (names_in m f).variables v)

abbrev pub HasArray : Module → Function → ℕ → Type 0
HasArray m f a = IsIdentifier (name_at (names_in m f).arrays a)

abbrev pub HasFunction : Module → Function → ℕ → Type 0
HasFunction m f g = IsIdentifier (name_at (names_in m f).functions g)

abbrev pub HasOperand : Module → Function → Operand → Type 0
HasOperand m f (Component x) = HasPlace m f x
HasOperand m f (Literal v) = IsValue v

abbrev pub HasArgument : Module → Function → Arg → Type 0
HasArgument m f (One a) = HasOperand m f a
HasArgument m f (Whole v) = HasVariable m f v

abbrev pub HasTarget : Module → Function → Option ℕ → Type 0
HasTarget m f None = Unit {0}
HasTarget m f (Some x) = HasPlace m f x

abbrev pub HasCase : Function → Case → Type 0
HasCase f c = IsValue c.value × HasLabel f c.label

-- no literal is negated
abbrev pub MayApply : UnaryOp → Operand → Type 0
MayApply Neg (Component x) = Unit {0}
MayApply Neg (Literal v) = ⊥
MayApply Not a = Unit {0}

abbrev pub IsPrintable : Module → Function → Statement → Type 0
IsPrintable m f Nop = Unit {0}
IsPrintable m f (Label l) = HasLabel f l
IsPrintable m f (Goto l) = HasLabel f l
IsPrintable m f (Cond op a b met missed) = HasOperand m f a × HasOperand m f b × HasLabel f met × HasLabel f missed
IsPrintable m f (Switch a cases otherwise) = HasOperand m f a × HasLabel f otherwise × AllByRecursion (HasCase f) cases
IsPrintable m f ReturnVoid = Unit {0}
IsPrintable m f (Return a) = HasOperand m f a
IsPrintable m f (Copy to a) = HasPlace m f to × HasOperand m f a
IsPrintable m f (Unary to op a) = HasPlace m f to × HasOperand m f a × MayApply op a
IsPrintable m f (Convert to a) = HasPlace m f to × HasOperand m f a
IsPrintable m f (Binary to op a b) = HasPlace m f to × HasOperand m f a × HasOperand m f b
IsPrintable m f (Load to array a) = HasPlace m f to × HasArray m f array × HasOperand m f a
IsPrintable m f (Store array a b) = HasArray m f array × HasOperand m f a × HasOperand m f b
IsPrintable m f (CopyStruct to from) = HasVariable m f to × HasVariable m f from
IsPrintable m f (Call to g args) = HasTarget m f to × HasFunction m f g × AllByRecursion (HasArgument m f) args
IsPrintable m f (Putchar a) = HasOperand m f a
IsPrintable m f (Getchar to) = HasTarget m f to
IsPrintable m f (Exit a) = HasOperand m f a

-- ---- operands, arguments and cases

component_read : (m : Module) (f : Function) (x : ℕ) → HasPlace m f x → IsReadAs (operand.spelling (operand_of (names_in m f) (Component x))) (component_text (printed_in m f) x)
component_read m f x h line r stop = rw h.text (place_read (place_at (names_in m f) x).name (place_at (names_in m f) x).field h.name h.field line r stop)

operand_read : (m : Module) (f : Function) (a : Operand) → HasOperand m f a → IsReadAs (operand.spelling (operand_of (names_in m f) a)) (operand_text (printed_in m f) a)
operand_read m f (Component x) h = component_read m f x h
operand_read m f (Literal v) h = operand_literal v h

argument_read : (m : Module) (f : Function) (a : Arg) → HasArgument m f a → IsReadAs (operand.spelling (argument_of (names_in m f) a)) (argument_text (printed_in m f) a)
argument_read m f (One a) h = operand_read m f a h
argument_read m f (Whole v) h = place_read (name_at (names_in m f).variables v) None h tt

each_argument : (m : Module) (f : Function) (args : List Arg) → AllByRecursion (HasArgument m f) args → AreRead (argument_of (names_in m f)) (argument_text (printed_in m f)) args
each_argument m f [] h = tt
each_argument m f (a ∷ args) h = (argument_read m f a h.0, each_argument m f args h.1)

all_arguments : (m : Module) (f : Function) (args : List Arg) → AllByRecursion (HasArgument m f) args → AreArguments (map (argument_of (names_in m f)) args) (arguments_text (printed_in m f) args)
all_arguments m f args h line r = arguments_read (argument_of (names_in m f)) (argument_text (printed_in m f)) args line r (each_argument m f args h)

one_argument : (a : OperandText) (ta : List ℕ) → IsReadAs (operand.spelling a) ta → AreArguments (a ∷ []) ta
unfolding arguments argument one_of
one_argument a ta h line r = part_then line (operand.spelling a) ta (41 ∷ r) h refl (sign_then line mark.CloseRound r tt (done line r))

no_argument : AreArguments [] []
unfolding arguments
no_argument line r = sign_then line mark.CloseRound r tt (done line r)

each_case : (f : Function) (cs : List Case) → AllByRecursion (HasCase f) cs → AllByRecursion (IsCaseRead (λ c. literal_of c.value) (λ c. literal_text c.value) (λ c. name_at f.labels c.label)) cs
each_case f [] h = tt
each_case f (c ∷ cs) h = ((literal_read c.value h.0.0, h.0.1), each_case f cs h.1)

-- ---- statements

assigned_read : (m : Module) (f : Function) (x : ℕ) (right : Right) (text : List ℕ) → HasPlace m f x → IsRightText right text → IsFormText (assigned (names_in m f) x right) (component_text (printed_in m f) x ++ (codes " = " ++ text))
assigned_read m f x right text h reads line r = rw h.text (assigned_form (place_at (names_in m f) x).name (place_at (names_in m f) x).field right text h.name h.field reads line r)

called_read : (m : Module) (f : Function) (to : Option ℕ) (n : List ℕ) (args : List OperandText) (ta : List ℕ) → HasTarget m f to → IsIdentifier n → AreArguments args ta
    → IsFormText (called (names_in m f) to n args) (target_text (printed_in m f) to ++ (n ++ (codes " (" ++ (ta ++ codes ");"))))
called_read m f None n args ta h name reads line r = call_form n args ta name reads line r
called_read m f (Some x) n args ta h name reads line r =
    rw (append_assoc (component_text (printed_in m f) x) (codes " = ") (n ++ (codes " (" ++ (ta ++ codes ");"))))
    (assigned_read m f x (rights.Call n args) (n ++ (codes " (" ++ (ta ++ codes ");"))) h (call_right n args ta name reads) line r)

negated_read : (m : Module) (f : Function) (to x : ℕ) → HasPlace m f to → HasPlace m f x → IsFormText (form_of (names_in m f) (Unary to Neg (Component x))) (statement_text (printed_in m f) (Unary to Neg (Component x)))
unfolding form_of
negated_read m f to x h k =
    assigned_read m f to (rights.Negate (operand_of (names_in m f) (Component x))) (codes "-" ++ (component_text (printed_in m f) x ++ codes ";")) h
    (λ line r. rw k.text (negate_right (place_at (names_in m f) x).name (place_at (names_in m f) x).field k.name k.field line r))

converted_read : (m : Module) (f : Function) (to : ℕ) (a : Operand) → HasPlace m f to → HasOperand m f a → IsFormText (form_of (names_in m f) (Convert to a)) (statement_text (printed_in m f) (Convert to a))
unfolding form_of
converted_read m f to a h k =
    assigned_read m f to (rights.Convert (type_at (names_in m f) to) (operand_of (names_in m f) a)) (codes "(" ++ (component_type_text (printed_in m f) to ++ (codes ") " ++ (operand_text (printed_in m f) a ++ codes ";")))) h
    (λ line r. rw h.ty (convert_right (type_at (names_in m f) to) (operand_of (names_in m f) a) (operand_text (printed_in m f) a) (operand_read m f a k) line r))

pub statement_read : (m : Module) (f : Function) (st : Statement) → IsPrintable m f st → IsFormText (form_of (names_in m f) st) (statement_text (printed_in m f) st)
unfolding form_of
statement_read m f Nop h = empty_form
statement_read m f (Label l) h = label_form (name_at f.labels l) h
statement_read m f (Goto l) h = goto_form (name_at f.labels l) h
statement_read m f (Cond op a b met missed) h =
    if_form (operand_of (names_in m f) a) (operand_of (names_in m f) b) op (name_at f.labels met) (name_at f.labels missed) (operand_text (printed_in m f) a) (operand_text (printed_in m f) b) (operand_read m f a h.0) (operand_read m f b h.1) h.2 h.3
statement_read m f (Switch a cases otherwise) h =
    switch_form (operand_of (names_in m f) a) (operand_text (printed_in m f) a) (name_at f.labels otherwise) (λ c. literal_of c.value) (λ c. literal_text c.value) (λ c. name_at f.labels c.label) cases (operand_read m f a h.0) h.1 (each_case f cases h.2)
statement_read m f ReturnVoid h = bare_return
statement_read m f (Return a) h = return_form (operand_of (names_in m f) a) (operand_text (printed_in m f) a) (operand_read m f a h)
statement_read m f (Copy to a) h =
    assigned_read m f to (rights.Value (operand_of (names_in m f) a)) (operand_text (printed_in m f) a ++ codes ";") h.0 (value_right (operand_of (names_in m f) a) (operand_text (printed_in m f) a) (operand_read m f a h.1))
statement_read m f (Unary to Neg (Component x)) h = negated_read m f to x h.0 h.1
statement_read m f (Unary to Neg (Literal v)) h = absurd h.2
statement_read m f (Unary to Not a) h =
    assigned_read m f to (rights.Complement (operand_of (names_in m f) a)) (codes "~" ++ (operand_text (printed_in m f) a ++ codes ";")) h.0 (complement_right (operand_of (names_in m f) a) (operand_text (printed_in m f) a) (operand_read m f a h.1))
statement_read m f (Convert to a) h = converted_read m f to a h.0 h.1
statement_read m f (Binary to op a b) h =
    assigned_read m f to (rights.Binary (record { left = operand_of (names_in m f) a; op = op; right = operand_of (names_in m f) b })) (operation_text (printed_in m f) op a b ++ codes ";") h.0
    (binary_right (operand_of (names_in m f) a) (operand_of (names_in m f) b) op (operand_text (printed_in m f) a) (operand_text (printed_in m f) b) (operand_read m f a h.1) (operand_read m f b h.2))
statement_read m f (Load to array a) h =
    let n = name_at (names_in m f).arrays array in
    assigned_read m f to (rights.Load n (operand_of (names_in m f) a)) (n ++ (codes "[" ++ (operand_text (printed_in m f) a ++ codes "];"))) h.0
    (load_right n (operand_of (names_in m f) a) (operand_text (printed_in m f) a) h.1 (operand_read m f a h.2))
statement_read m f (Store array a b) h =
    store_form (name_at (names_in m f).arrays array) (operand_of (names_in m f) a) (operand_of (names_in m f) b) (operand_text (printed_in m f) a) (operand_text (printed_in m f) b) h.0 (operand_read m f a h.1) (operand_read m f b h.2)
statement_read m f (CopyStruct to from) h =
    let n = name_at (names_in m f).variables from in
    assigned_form (name_at (names_in m f).variables to) None (rights.Value (whole_of (names_in m f) from)) (n ++ codes ";") h.0 tt
    (value_right (whole_of (names_in m f) from) n (place_read n None h.1 tt))
statement_read m f (Call to g args) h =
    called_read m f to (name_at (names_in m f).functions g) (map (argument_of (names_in m f)) args) (arguments_text (printed_in m f) args) h.0 h.1 (all_arguments m f args h.2)
statement_read m f (Putchar a) h =
    call_form (codes "__builtin_putchar") (operand_of (names_in m f) a ∷ []) (operand_text (printed_in m f) a) refl (one_argument (operand_of (names_in m f) a) (operand_text (printed_in m f) a) (operand_read m f a h))
statement_read m f (Getchar to) h = called_read m f to (codes "__builtin_getchar") [] [] h refl no_argument
statement_read m f (Exit a) h =
    call_form (codes "__builtin_exit") (operand_of (names_in m f) a ∷ []) (operand_text (printed_in m f) a) refl (one_argument (operand_of (names_in m f) a) (operand_text (printed_in m f) a) (operand_read m f a h))

-- ---- lines

two_spaces : (line : ℕ) (r : List ℕ) → tokens_from line 0 (32 ∷ 32 ∷ r) ≡ tokens_from line 0 r
two_spaces line r = space line (32 ∷ r) ∙ space line r

indent_read : (st : Statement) (line : ℕ) (r : List ℕ) → tokens_from line 0 (indent_text st ++ r) ≡ tokens_from line 0 r
indent_read Nop line r = two_spaces line r
indent_read (Label l) line r = refl
indent_read (Goto l) line r = two_spaces line r
indent_read (Cond op a b met missed) line r = two_spaces line r
indent_read (Switch a cases otherwise) line r = two_spaces line r
indent_read ReturnVoid line r = two_spaces line r
indent_read (Return a) line r = two_spaces line r
indent_read (Copy to a) line r = two_spaces line r
indent_read (Unary to op a) line r = two_spaces line r
indent_read (Convert to a) line r = two_spaces line r
indent_read (Binary to op a b) line r = two_spaces line r
indent_read (Load to array a) line r = two_spaces line r
indent_read (Store array a b) line r = two_spaces line r
indent_read (CopyStruct to from) line r = two_spaces line r
indent_read (Call to g args) line r = two_spaces line r
indent_read (Putchar a) line r = two_spaces line r
indent_read (Getchar to) line r = two_spaces line r
indent_read (Exit a) line r = two_spaces line r

line_read : (m : Module) (f : Function) (st : Statement) (line : ℕ) (r : List ℕ) → IsPrintable m f st
    → Begins (statement.spelling (record { line = line; form = form_of (names_in m f) st })) (tokens_from line 0 (line_text (printed_in m f) st ++ r)) (tokens_from (line + 1) 0 r)
unfolding statement
line_read m f st line r h =
    let es = form.spelling (form_of (names_in m f) st) in
    let text = statement_text (printed_in m f) st in
    let one : Stands es line (text ++ (10 ∷ r)) (tokens_from line 0 (10 ∷ r)) = statement_read m f st h line (10 ∷ r) in
    let here : Begins (at_line line es) (tokens_from line 0 (text ++ (10 ∷ r))) (tokens_from line 0 (10 ∷ r)) =
    subst (λ k. Begins (at_line k es) (tokens_from line 0 (text ++ (10 ∷ r))) (tokens_from line 0 (10 ∷ r))) one.here (at-line es (tokens_from line 0 (text ++ (10 ∷ r))) (tokens_from line 0 (10 ∷ r)) one.reads.begins) in
    let whole : tokens_from line 0 (line_text (printed_in m f) st ++ r) ≡ tokens_from line 0 (text ++ (10 ∷ r)) =
    ap (tokens_from line 0) (append_assoc (indent_text st) (text ++ (10 ∷ [])) r) ∙ indent_read st line ((text ++ (10 ∷ [])) ++ r) ∙ ap (tokens_from line 0) (append_assoc text (10 ∷ []) r) in
    rw (whole, ← newline line r) here

pub lines_read : (m : Module) (f : Function) (line : ℕ) (body : List Statement) (r : List ℕ) → AllByRecursion (IsPrintable m f) body
    → Begins (spellings statement (lines_from (names_in m f) line body) ++ Only (Sign mark.CloseCurly) ∷ []) (tokens_from line 0 (flat_map (line_text (printed_in m f)) body ++ (125 ∷ r))) (tokens_from (line + length body) 0 r)
lines_read m f line [] r h = rw (sign line mark.CloseCurly r tt) (refl, ap (λ (k : ℕ). tokens_from k 0 r) (omega arith))
lines_read m f line (st ∷ body) r h =
    let rest = flat_map (line_text (printed_in m f)) body ++ (125 ∷ r) in
    let first = statement.spelling (record { line = line; form = form_of (names_in m f) st }) in
    let later = spellings statement (lines_from (names_in m f) (line + 1) body) in
    let whole : flat_map (line_text (printed_in m f)) (st ∷ body) ++ (125 ∷ r) ≡ line_text (printed_in m f) st ++ rest =
    ap (λ (x : List ℕ). x ++ (125 ∷ r)) (flat_map-cons (line_text (printed_in m f)) st body) ∙ append_assoc (line_text (printed_in m f) st) (flat_map (line_text (printed_in m f)) body) (125 ∷ r) in
    let last : line + 1 + length body ≡ line + length (st ∷ body) = omega arith in
    rw (whole, append_assoc first later (Only (Sign mark.CloseCurly) ∷ []), ← last)
    (begins-append first (later ++ Only (Sign mark.CloseCurly) ∷ []) (tokens_from line 0 (line_text (printed_in m f) st ++ rest)) (tokens_from (line + 1) 0 rest) (tokens_from (line + 1 + length body) 0 r) (line_read m f st line rest h.0) (lines_read m f (line + 1) body r h.1))
