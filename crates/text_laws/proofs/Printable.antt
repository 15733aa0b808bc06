-- The statements of a definition in a checked module have all that they need to be read back from their text.
use Rattle.std.proofs.Common.{◌≡◌, ℕ, zero, suc, ◌<◌, Bool, true, false, List, [], ◌∷◌, length, Option, Some, None, sym, subst, arith}
use Rattle.std.specs.Prelude.{map, ◌&&◌, ◌||◌, not, nat_lt, slice_get, MatchOption}
use Rattle.std.specs.List.{AllByRecursion, list_all, list_any}
use Rattle.std.proofs.lemmas.List.{length-map}
use Rattle.std.proofs.lemmas.Bool.Decides.{nat_tests}
use Rattle.gimple_ir.specs.declared.fault.TypeKind.TheVariants.{DoubleName, UnknownName, TooMany, BadLabel, OpenEnd, WrongCount, WrongType, NegLiteral, BadCase}
use Rattle.gimple_ir.specs.declared.types.ScalarType.{ScalarType}
use Rattle.gimple_ir.specs.declared.types.VarType.{VarType}
use Rattle.gimple_ir.specs.declared.types.VarType.TheVariants as variable
use Rattle.gimple_ir.specs.declared.types.UnaryOp.{UnaryOp}
use Rattle.gimple_ir.specs.declared.types.UnaryOp.TheVariants.{Neg, Not}
use Rattle.gimple_ir.specs.declared.types.Operand.{Operand}
use Rattle.gimple_ir.specs.declared.types.Operand.TheVariants.{Component, Literal}
use Rattle.gimple_ir.specs.declared.types.Arg.{Arg}
use Rattle.gimple_ir.specs.declared.types.Arg.TheVariants.{One, Whole}
use Rattle.gimple_ir.specs.declared.types.Case.{Case}
use Rattle.gimple_ir.specs.declared.types.StructDef.{StructDef}
use Rattle.gimple_ir.specs.declared.types.Function.{Function}
use Rattle.gimple_ir.specs.declared.types.Module.{Module}
use Rattle.gimple_ir.specs.declared.types.Statement.{Statement}
use Rattle.gimple_ir.specs.declared.types.Statement.TheVariants.{Nop, Label, Goto, Cond, Switch, ReturnVoid, Return, Copy, Unary, Convert, Binary, Load, Store, CopyStruct, Call, Putchar, Getchar, Exit}
use Rattle.gimple_ir.specs.Names.{is_builtin, repeats}
use Rattle.gimple_ir.specs.Values.{IsValue}
use Rattle.gimple_ir.specs.Statements.{component_types, knows_component, knows_operand, knows_variable, knows_argument, knows_target, knows_array, knows_function, knows_label, knows, counts_arguments, types_fit, negates_literal, cases_ascend, statement_kind}
use Rattle.gimple_ir.specs.Checks.{is_extern, knows_struct, counts_fit, label_of, goes_within, labels_stand, ends_closed, head_kind, scope_in}
use Rattle.gimple_ir.specs.Programs.{IsIdentifier, IsOperand, IsArgument, HasValues, AgreesIn, IsStatedStruct, IsStatedArray, IsStatedFunction, IsChecked}
use Rattle.gimple_print.specs.Statements.{name_at}
use Rattle.text_laws.specs.Syntax.{fields_of, types_by}
use Rattle.text_laws.proofs.StatementTexts.{HasPlace, HasLabel, HasVariable, HasArray, HasFunction, HasOperand, HasArgument, HasTarget, HasCase, MayApply, IsPrintable}
use Rattle.text_laws.proofs.Tables.{HasNamedFields, has_place, types_agree}
use Rattle.text_laws.proofs.CheckedFunctions.{each, each-weaker, each-both, both-are, each-passes, five-pass, IsCheckedFunction, function_checked, statements_pass, PutsBelow, labels_are}

below : (a b : ℕ) → nat_lt a b ≡ true → a < b
below a b e = grind (arith, nat_tests, e)

-- ---- what the numbers in a function name

-- each number below the count names something
pub record NamesAll (m : Module) (f : Function) : Type 0 where
  pub places : (x : ℕ) → x < length (component_types f.variables) → HasPlace m f x
  pub variables : (v : ℕ) → v < length f.variables → HasVariable m f v
  pub labels : (l : ℕ) → l < length f.labels → HasLabel f l
  pub arrays : (a : ℕ) → a < length m.arrays → HasArray m f a
  pub functions : (g : ℕ) → g < length m.functions → HasFunction m f g

named-at : (names : List (List ℕ)) (n : ℕ) → AllByRecursion IsIdentifier names → n < length names → IsIdentifier (name_at names n)
named-at [] n h less = absurd (omega (arith, less))
named-at (name ∷ names) zero h less = h.0
named-at (name ∷ names) (suc n) h less = named-at names n h.1 (omega (arith, less))

each-map : {X : Type 0} (name : X → List ℕ) (xs : List X) → AllByRecursion (λ x. IsIdentifier (name x)) xs → AllByRecursion IsIdentifier (map name xs)
each-map name [] h = tt
each-map name (x ∷ xs) h = (h.0, each-map name xs h.1)

-- names of the elements of a list
named : {X : Type 0} (name : X → List ℕ) (xs : List X) → AllByRecursion (λ x. IsIdentifier (name x)) xs → (n : ℕ) → n < length xs → IsIdentifier (name_at (map name xs) n)
named name xs h n less = named-at (map name xs) n (each-map name xs h) (subst (λ k. n < k) (sym (length-map xs name)) less)

struct-agrees : (structs : List StructDef) (n : ℕ) (types : List ScalarType) → MatchOption (slice_get structs n) (Unit {0}) (λ s. types ≡ map (λ field. field.ty) s.fields) → n < length structs
    → types ≡ map (λ field. field.ty) (fields_of structs n)
struct-agrees [] n types h less = absurd (omega (arith, less))
struct-agrees (s ∷ structs) zero types h less = h
struct-agrees (s ∷ structs) (suc n) types h less = struct-agrees structs n types h (omega (arith, less))

type-agrees : (structs : List StructDef) (ty : VarType) (types : List ScalarType) → AgreesIn structs ty types → knows_struct (length structs) ty ≡ true → types ≡ types_by structs ty
type-agrees structs (variable.Scalar ty) types h e = h
type-agrees structs (variable.Struct n) types h e = struct-agrees structs n types h (below n (length structs) e)

abbrev HeadPasses : Module → Function → Type 0
HeadPasses m f = (list_all (λ v. knows_struct (length m.structs) v.ty) f.variables ≡ true) × (labels_stand f ≡ true)

head_passes : (m : Module) (f : Function) (double : Bool) → head_kind double (length m.structs) f ≡ None → HeadPasses m f
head_passes m f double e =
    let known = list_all (λ v. knows_struct (length m.structs) v.ty) f.variables in
    let plain = not (is_builtin f.name) && not (list_any (λ v. is_builtin v.name) f.variables) in
    let five = five-pass (not double && not (repeats (map (λ v. v.name) f.variables))) (plain && known) (counts_fit f) (labels_stand f) (is_extern f.linkage || ends_closed f.body) DoubleName UnknownName TooMany BadLabel OpenEnd e in
    ((both-are plain known five.1).1, five.3)

names_all : (m : Module) (f : Function) → IsChecked m → IsCheckedFunction m f → NamesAll m f
names_all m f h g =
    let variables = each (λ v. IsIdentifier v.name × AgreesIn m.structs v.ty v.types) f.variables g.stated.variables in
    let names = each-weaker (λ v. IsIdentifier v.name × AgreesIn m.structs v.ty v.types) (λ v. IsIdentifier v.name) (λ v p. p.0) f.variables variables in
    let known = each-passes (λ v. knows_struct (length m.structs) v.ty) f.variables (head_passes m f g.double g.head).0 in
    let both = each-both (λ v. IsIdentifier v.name × AgreesIn m.structs v.ty v.types) (λ v. knows_struct (length m.structs) v.ty ≡ true) f.variables variables known in
    let agree = each-weaker (λ v. (IsIdentifier v.name × AgreesIn m.structs v.ty v.types) × (knows_struct (length m.structs) v.ty ≡ true)) (λ v. v.types ≡ types_by m.structs v.ty) (λ v p. type-agrees m.structs v.ty v.types p.0.1 p.1) f.variables both in
    let fields = each-weaker IsStatedStruct HasNamedFields (λ s p. each (λ field. IsIdentifier field.name) s.fields p.fields) m.structs (each IsStatedStruct m.structs h.stated.structs) in
    let arrays = each-weaker IsStatedArray (λ a. IsIdentifier a.name) (λ a p. p.name) m.arrays (each IsStatedArray m.arrays h.stated.arrays) in
    let functions = each-weaker (IsStatedFunction m.structs) (λ k. IsIdentifier k.name) (λ k p. p.name) m.functions (each (IsStatedFunction m.structs) m.functions h.stated.functions) in
    record {
      places = λ x less. has_place m f x names fields (subst (λ types. x < length types) (types_agree m.structs f.variables agree) less);
      variables = λ v less. named (λ w. w.name) f.variables names v less;
      labels = λ l less. named-at f.labels l (each IsIdentifier f.labels g.stated.labels) less;
      arrays = λ a less. named (λ b. b.name) m.arrays arrays a less;
      functions = λ k less. named (λ j. j.name) m.functions functions k less;
    }

-- ---- the parts of a statement

place_has : (m : Module) (f : Function) (x : ℕ) → NamesAll m f → knows_component (scope_in m f) x ≡ true → HasPlace m f x
place_has m f x n e = n.places x (below x (length (component_types f.variables)) e)

operand_has : (m : Module) (f : Function) (a : Operand) → NamesAll m f → IsOperand a → knows_operand (scope_in m f) a ≡ true → HasOperand m f a
operand_has m f (Component x) n v e = place_has m f x n e
operand_has m f (Literal value) n v e = v

variable_has : (m : Module) (f : Function) (v : ℕ) → NamesAll m f → knows_variable (scope_in m f) v ≡ true → HasVariable m f v
variable_has m f v n e = n.variables v (below v (length f.variables) e)

argument_has : (m : Module) (f : Function) (a : Arg) → NamesAll m f → IsArgument a → knows_argument (scope_in m f) a ≡ true → HasArgument m f a
argument_has m f (One a) n v e = operand_has m f a n v e
argument_has m f (Whole w) n v e = variable_has m f w n e

arguments_have : (m : Module) (f : Function) (args : List Arg) → NamesAll m f → AllByRecursion IsArgument args → list_all (knows_argument (scope_in m f)) args ≡ true → AllByRecursion (HasArgument m f) args
arguments_have m f args n v e =
    each-weaker (λ a. IsArgument a × (knows_argument (scope_in m f) a ≡ true)) (HasArgument m f) (λ a p. argument_has m f a n p.0 p.1) args
    (each-both IsArgument (λ a. knows_argument (scope_in m f) a ≡ true) args v (each-passes (knows_argument (scope_in m f)) args e))

target_has : (m : Module) (f : Function) (to : Option ℕ) → NamesAll m f → knows_target (scope_in m f) to ≡ true → HasTarget m f to
target_has m f None n e = tt
target_has m f (Some x) n e = place_has m f x n e

label_has : (m : Module) (f : Function) (l : ℕ) → NamesAll m f → nat_lt l (length f.labels) ≡ true → HasLabel f l
label_has m f l n e = n.labels l (below l (length f.labels) e)

cases_have : (m : Module) (f : Function) (cs : List Case) → NamesAll m f → AllByRecursion (λ c. IsValue c.value) cs → list_all (λ c. nat_lt c.label (length f.labels)) cs ≡ true → AllByRecursion (HasCase f) cs
cases_have m f cs n v e =
    each-weaker (λ c. IsValue c.value × (nat_lt c.label (length f.labels) ≡ true)) (HasCase f) (λ c p. (p.0, label_has m f c.label n p.1)) cs
    (each-both (λ c. IsValue c.value) (λ c. nat_lt c.label (length f.labels) ≡ true) cs v (each-passes (λ c. nat_lt c.label (length f.labels)) cs e))

array_has : (m : Module) (f : Function) (a : ℕ) → NamesAll m f → knows_array (scope_in m f) a ≡ true → HasArray m f a
array_has m f a n e = n.arrays a (below a (length m.arrays) e)

function_has : (m : Module) (f : Function) (g : ℕ) → NamesAll m f → knows_function (scope_in m f) g ≡ true → HasFunction m f g
function_has m f g n e = n.functions g (below g (length m.functions) e)

may_apply : (to : ℕ) (op : UnaryOp) (a : Operand) → not (negates_literal (Unary to op a)) ≡ true → MayApply op a
may_apply to Neg (Component x) e = tt
may_apply to Neg (Literal v) e = absurd cc
may_apply to Not a e = tt

-- ---- statements

pub record Passes (m : Module) (f : Function) (st : Statement) : Type 0 where
  pub values : HasValues st
  pub puts : PutsBelow (length f.labels) (label_of st)
  pub goes : goes_within (length f.labels) st ≡ true
  pub knows : knows (scope_in m f) st ≡ true
  pub negates : not (negates_literal st) ≡ true

two_known : (m : Module) (f : Function) (to : ℕ) (a : Operand) → NamesAll m f → IsOperand a → (knows_component (scope_in m f) to && knows_operand (scope_in m f) a) ≡ true → HasPlace m f to × HasOperand m f a
two_known m f to a n v e =
    let p = both-are (knows_component (scope_in m f) to) (knows_operand (scope_in m f) a) e in
    (place_has m f to n p.0, operand_has m f a n v p.1)

statement_printable : (m : Module) (f : Function) (st : Statement) → NamesAll m f → Passes m f st → IsPrintable m f st
statement_printable m f Nop n h = tt
statement_printable m f (Label l) n h = n.labels l h.puts
statement_printable m f (Goto l) n h = label_has m f l n h.goes
statement_printable m f (Cond op a b met missed) n h =
    let s = scope_in m f in
    let all = both-are (knows_operand s a && knows_operand s b && knows_label s met) (knows_label s missed) h.knows in
    let three = both-are (knows_operand s a && knows_operand s b) (knows_label s met) all.0 in
    let two = both-are (knows_operand s a) (knows_operand s b) three.0 in
    let to = both-are (nat_lt met (length f.labels)) (nat_lt missed (length f.labels)) h.goes in
    (operand_has m f a n h.values.0 two.0, operand_has m f b n h.values.1 two.1, label_has m f met n to.0, label_has m f missed n to.1)
statement_printable m f (Switch a cases otherwise) n h =
    let s = scope_in m f in
    let all = both-are (knows_operand s a && knows_label s otherwise) (list_all (λ c. knows_label s c.label) cases) h.knows in
    let two = both-are (knows_operand s a) (knows_label s otherwise) all.0 in
    let to = both-are (nat_lt otherwise (length f.labels)) (list_all (λ c. nat_lt c.label (length f.labels)) cases) h.goes in
    (operand_has m f a n h.values.0 two.0, label_has m f otherwise n to.0, cases_have m f cases n (each (λ c. IsValue c.value) cases h.values.1) to.1)
statement_printable m f ReturnVoid n h = tt
statement_printable m f (Return a) n h = operand_has m f a n h.values h.knows
statement_printable m f (Copy to a) n h = two_known m f to a n h.values h.knows
statement_printable m f (Unary to op a) n h = let p = two_known m f to a n h.values h.knows in (p.0, p.1, may_apply to op a h.negates)
statement_printable m f (Convert to a) n h = two_known m f to a n h.values h.knows
statement_printable m f (Binary to op a b) n h =
    let s = scope_in m f in
    let all = both-are (knows_component s to && knows_operand s a) (knows_operand s b) h.knows in
    let p = two_known m f to a n h.values.0 all.0 in
    (p.0, p.1, operand_has m f b n h.values.1 all.1)
statement_printable m f (Load to array a) n h =
    let s = scope_in m f in
    let all = both-are (knows_component s to && knows_array s array) (knows_operand s a) h.knows in
    let two = both-are (knows_component s to) (knows_array s array) all.0 in
    (place_has m f to n two.0, array_has m f array n two.1, operand_has m f a n h.values all.1)
statement_printable m f (Store array a b) n h =
    let s = scope_in m f in
    let all = both-are (knows_array s array && knows_operand s a) (knows_operand s b) h.knows in
    let two = both-are (knows_array s array) (knows_operand s a) all.0 in
    (array_has m f array n two.0, operand_has m f a n h.values.0 two.1, operand_has m f b n h.values.1 all.1)
statement_printable m f (CopyStruct to from) n h =
    let s = scope_in m f in
    let two = both-are (knows_variable s to) (knows_variable s from) h.knows in
    (variable_has m f to n two.0, variable_has m f from n two.1)
statement_printable m f (Call to g args) n h =
    let s = scope_in m f in
    let all = both-are (knows_target s to && knows_function s g) (list_all (knows_argument s) args) h.knows in
    let two = both-are (knows_target s to) (knows_function s g) all.0 in
    (target_has m f to n two.0, function_has m f g n two.1, arguments_have m f args n (each IsArgument args h.values) all.1)
statement_printable m f (Putchar a) n h = operand_has m f a n h.values h.knows
statement_printable m f (Getchar to) n h = target_has m f to n h.knows
statement_printable m f (Exit a) n h = operand_has m f a n h.values h.knows

abbrev Facts : Module → Function → Statement → Type 0
Facts m f st = (HasValues st × (statement_kind (scope_in m f) st ≡ None)) × (PutsBelow (length f.labels) (label_of st) × (goes_within (length f.labels) st ≡ true))

passes : (m : Module) (f : Function) (st : Statement) → Facts m f st → Passes m f st
passes m f st h =
    let s = scope_in m f in
    let five = five-pass (knows s st) (counts_arguments s st) (types_fit s st) (not (negates_literal st)) (cases_ascend st) UnknownName WrongCount WrongType NegLiteral BadCase h.0.1 in
    record { values = h.0.0; puts = h.1.0; goes = h.1.1; knows = five.0; negates = five.3 }

pub printable : (m : Module) (i : ℕ) (f : Function) → IsChecked m → slice_get m.functions i ≡ Some f → is_extern f.linkage ≡ false → AllByRecursion (IsPrintable m f) f.body
printable m i f h at defined =
    let g = function_checked m i f h at in
    let labels = labels_are f (head_passes m f g.double g.head).1 in
    let n = names_all m f h g in
    let one = each-both HasValues (λ st. statement_kind (scope_in m f) st ≡ None) f.body (each HasValues f.body g.stated.values) (statements_pass m f g defined) in
    let two = each-both (λ st. PutsBelow (length f.labels) (label_of st)) (λ st. goes_within (length f.labels) st ≡ true) f.body labels.puts labels.goes in
    let all = each-both (λ st. HasValues st × (statement_kind (scope_in m f) st ≡ None)) (λ st. PutsBelow (length f.labels) (label_of st) × (goes_within (length f.labels) st ≡ true)) f.body one two in
    each-weaker (Facts m f) (IsPrintable m f) (λ st p. statement_printable m f st n (passes m f st p)) f.body all
