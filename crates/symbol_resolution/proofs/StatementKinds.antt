-- A statement that is well kinded in its module, under numbers that lead to definitions of the same types, is well kinded in the program.
use Rattle.std.proofs.Common.{◌≡◌, ◌<◌, ◌≤◌, ℕ, zero, suc, List, [], ◌∷◌, length, map, take, Bool, true, false, Some, None, refl, sym, ap, ap₂, ◌∙◌, arith, subst}
use Rattle.std.specs.Prelude.{◌&&◌, not, All, Option, slice_get, nat_lt, nat_eq, MatchOption}
use Rattle.std.specs.List.{list_all, zip}
use Rattle.std.specs.Option.{option_map, option_map_or, option_and_then}
use Rattle.std.specs.Cmp.Lexicographic.{pointwise}
use Rattle.std.proofs.lemmas.Bool.Decides.{nat_tests}
use Rattle.std.proofs.lemmas.Option.{slice_get_within}
use Rattle.std.proofs.lemmas.List.Elements.{All-head}
use Rattle.gimple_ir.specs.declared.types.ScalarType.{ScalarType}
use Rattle.gimple_ir.specs.declared.types.ScalarType.TheVariants.{Int, UnsignedInt, LongInt, LongUnsignedInt}
use Rattle.gimple_ir.specs.declared.types.ElementType.{ElementType}
use Rattle.gimple_ir.specs.declared.types.VarType.{VarType}
use Rattle.gimple_ir.specs.declared.types.VarType.TheVariants as variable
use Rattle.gimple_ir.specs.declared.types.Operand.{Operand}
use Rattle.gimple_ir.specs.declared.types.Operand.TheVariants.{Component, Literal}
use Rattle.gimple_ir.specs.declared.types.Arg.{Arg}
use Rattle.gimple_ir.specs.declared.types.Arg.TheVariants.{One, Whole}
use Rattle.gimple_ir.specs.declared.types.StructDef.{StructDef}
use Rattle.gimple_ir.specs.declared.types.Array.{Array}
use Rattle.gimple_ir.specs.declared.types.Function.{Function}
use Rattle.gimple_ir.specs.declared.types.Variable.{Variable}
use Rattle.gimple_ir.specs.declared.types.Module.{Module}
use Rattle.gimple_ir.specs.declared.types.Program.{Program}
use Rattle.gimple_ir.specs.declared.types.Statement.{Statement}
use Rattle.gimple_ir.specs.declared.types.Statement.TheVariants.{Load, Store, Call, CopyStruct}
use Rattle.gimple_ir.specs.declared.fault.TypeKind.{TypeKind}
use Rattle.gimple_ir.specs.declared.fault.TypeKind.TheVariants.{UnknownName, WrongCount, WrongType, NegLiteral, BadCase}
use Rattle.gimple_ir.specs.Lattices.{same_type}
use Rattle.gimple_ir.specs.Statements.{Scope, ByNumber, ByTypes, component_types, knows, knows_component, knows_operand, knows_argument, knows_target, knows_array, knows_function, counts_arguments, types_fit, type_of, type_of_component, type_of_call, type_of_result, read_type, alike, is_of_type, is_struct, same_struct, structs_fit, whole_fits, argument_fits, arguments_fit, result_fits, negates_literal, cases_ascend, first_failed, statement_kind}
use Rattle.gimple_ir.specs.Checks.{scope_in, knows_struct}
use Rattle.gimple_ir.specs.Programs.{AgreesIn, scope_of}
use Rattle.func_summary.specs.Summaries.{arrays_in}
use Rattle.func_summary.proofs.Checked.{both-true, below, same_type-is}
use Rattle.lto_object.specs.Objects.{functions_in}
use Rattle.symbol_resolution.proofs.Membership.{equal_numbers}
use Rattle.symbol_resolution.proofs.Renumbering.{renumbered, renumbered_function}

abbrev pub types_of : Variable → List ScalarType
types_of v = v.types

-- an array of the module, and one of the program that stands for it
pub record ArrayLink (xs ys : List Array) (k n : ℕ) : Type 0 where
  pub from : Array
  pub to : Array
  pub from_is : slice_get xs k ≡ Some from
  pub to_is : slice_get ys n ≡ Some to
  pub element : from.element ≡ to.element

-- a function of the module, and one of the program that stands for it
pub record FunctionLink (xs ys : List Function) (k n : ℕ) : Type 0 where
  pub from : Function
  pub to : Function
  pub from_is : slice_get xs k ≡ Some from
  pub to_is : slice_get ys n ≡ Some to
  pub result : from.result ≡ to.result
  pub parameters : map types_of (take from.parameters from.variables) ≡ map types_of (take to.parameters to.variables)
  pub from_fits : from.parameters ≤ length from.variables
  pub to_fits : to.parameters ≤ length to.variables

-- a variable has its type's components, and names a struct of the module
pub record IsTyped (structs : List StructDef) (v : Variable) : Type 0 where
  pub agrees : AgreesIn structs v.ty v.types
  pub known : knows_struct (length structs) v.ty ≡ true

-- ---- tests

and-true : (a b : Bool) → a ≡ true → b ≡ true → (a && b) ≡ true
and-true a b h k = ap₂ (λ x y. x && y) h k

is-below : (a b : ℕ) → a < b → nat_lt a b ≡ true
is-below a b h = grind (arith, nat_tests)

same_type-refl : (a : ScalarType) → same_type a a ≡ true
same_type-refl Int = refl
same_type-refl UnsignedInt = refl
same_type-refl LongInt = refl
same_type-refl LongUnsignedInt = refl

pointwise-refl : (xs : List ScalarType) → pointwise same_type xs xs ≡ true
pointwise-refl [] = refl
pointwise-refl (x ∷ xs) = and-true (same_type x x) (pointwise same_type xs xs) (same_type-refl x) (pointwise-refl xs)

pointwise-same : (xs ys : List ScalarType) → xs ≡ ys → pointwise same_type xs ys ≡ true
pointwise-same xs ys e = subst (λ (zs : List ScalarType). pointwise same_type xs zs ≡ true) e (pointwise-refl xs)

pub five_pass : (a b c d e : Bool) (j k l n o : TypeKind) → first_failed ((a, j) ∷ (b, k) ∷ (c, l) ∷ (d, n) ∷ (e, o) ∷ []) ≡ None
    → (a ≡ true) × (b ≡ true) × (c ≡ true) × (d ≡ true) × (e ≡ true)
five_pass true true true true true j k l n o h = (refl, refl, refl, refl, refl)
five_pass true true true true false j k l n o h = cc
five_pass true true true false e j k l n o h = cc
five_pass true true false d e j k l n o h = cc
five_pass true false c d e j k l n o h = cc
five_pass false b c d e j k l n o h = cc

five_none : (a b c d e : Bool) (j k l n o : TypeKind) → a ≡ true → b ≡ true → c ≡ true → d ≡ true → e ≡ true
    → first_failed ((a, j) ∷ (b, k) ∷ (c, l) ∷ (d, n) ∷ (e, o) ∷ []) ≡ None
five_none true true true true true j k l n o ha hb hc hd he = refl
five_none true true true true false j k l n o ha hb hc hd he = cc
five_none true true true false e j k l n o ha hb hc hd he = cc
five_none true true false d e j k l n o ha hb hc hd he = cc
five_none true false c d e j k l n o ha hb hc hd he = cc
five_none false b c d e j k l n o ha hb hc hd he = cc

-- the statement passes, test by test
passes : (s t : Scope) (st out : Statement) → statement_kind s st ≡ None
    → (knows s st ≡ true → knows t out ≡ true) → (counts_arguments s st ≡ true → counts_arguments t out ≡ true)
    → (knows s st ≡ true → counts_arguments s st ≡ true → types_fit s st ≡ true → types_fit t out ≡ true)
    → not (negates_literal st) ≡ not (negates_literal out) → cases_ascend st ≡ cases_ascend out
    → statement_kind t out ≡ None
passes s t st out h knew counted fitted negated ascended =
    let all = five_pass (knows s st) (counts_arguments s st) (types_fit s st) (not (negates_literal st)) (cases_ascend st) UnknownName WrongCount WrongType NegLiteral BadCase h in
    five_none (knows t out) (counts_arguments t out) (types_fit t out) (not (negates_literal out)) (cases_ascend out) UnknownName WrongCount WrongType NegLiteral BadCase
    (knew all.0) (counted all.1) (fitted all.0 all.1 all.2) (sym negated ∙ all.3) (sym ascended ∙ all.4)

-- ---- structs by their components

no_struct : (n : ℕ) (xs : List StructDef) → slice_get xs n ≡ None → n < length xs → (A : Type 0) → A
no_struct n [] e h A = absurd (omega (arith, h))
no_struct zero (x ∷ xs) e h A = cc
no_struct (suc n) (x ∷ xs) e h A = no_struct n xs e (omega (arith, h)) A

one_fits : (structs : List StructDef) (ty : VarType) (types : List ScalarType) (found : Option ScalarType) → AgreesIn structs ty types
    → is_of_type ty found ≡ true → option_map_or (λ t. pointwise same_type (t ∷ []) types) found false ≡ true
one_fits structs (variable.Scalar ty) types None agrees h = cc
one_fits structs (variable.Scalar ty) types (Some t) agrees h =
    pointwise-same (t ∷ []) types (ap (λ (x : ScalarType). x ∷ []) (sym (same_type-is ty t h)) ∙ sym agrees)
one_fits structs (variable.Struct n) types found agrees h = cc

struct_types : (structs : List StructDef) (m n : ℕ) (a b : List ScalarType) (o : Option StructDef) → slice_get structs n ≡ o → m ≡ n → n < length structs
    → AgreesIn structs (variable.Struct m) a → AgreesIn structs (variable.Struct n) b → a ≡ b
struct_types structs m n a b None e same h agrees_a agrees_b = no_struct n structs e h (a ≡ b)
struct_types structs m n a b (Some s) e same h agrees_a agrees_b =
    let of_a : MatchOption (Some s) (Unit {0}) (λ s. a ≡ map (λ field. field.ty) s.fields) =
    subst (λ (o : Option StructDef). MatchOption o (Unit {0}) (λ s. a ≡ map (λ field. field.ty) s.fields)) (ap (slice_get structs) same ∙ e) agrees_a in
    let of_b : MatchOption (Some s) (Unit {0}) (λ s. b ≡ map (λ field. field.ty) s.fields) =
    subst (λ (o : Option StructDef). MatchOption o (Unit {0}) (λ s. b ≡ map (λ field. field.ty) s.fields)) e agrees_b in
    of_a ∙ sym of_b

whole_fits_by : (structs : List StructDef) (a b : VarType) (xs ys : List ScalarType) → AgreesIn structs a xs → AgreesIn structs b ys → knows_struct (length structs) b ≡ true
    → same_struct a b ≡ true → (is_struct a ≡ true) × (is_struct b ≡ true) × (xs ≡ ys)
whole_fits_by structs (variable.Scalar ty) b xs ys agrees_a agrees_b known h = cc
whole_fits_by structs (variable.Struct m) (variable.Scalar ty) xs ys agrees_a agrees_b known h = cc
whole_fits_by structs (variable.Struct m) (variable.Struct n) xs ys agrees_a agrees_b known h =
    (refl, refl, struct_types structs m n xs ys (slice_get structs n) refl (equal_numbers m n h) (below n (length structs) known) agrees_a agrees_b)

-- ---- arguments

whole_argument : (m : Module) (o : Option Variable) (g h : Variable) → ((v : Variable) → o ≡ Some v → IsTyped m.structs v)
    → IsTyped m.structs g → g.types ≡ h.types
    → option_map_or (λ w. whole_fits ByNumber w g) o false ≡ true → option_map_or (λ w. whole_fits ByTypes w h) o false ≡ true
whole_argument m None g h typed own same fits = cc
whole_argument m (Some w) g h typed own same fits =
    let its = typed w refl in
    let all = whole_fits_by m.structs w.ty g.ty w.types g.types its.agrees own.agrees own.known fits in
    and-true (is_struct w.ty) (pointwise same_type w.types h.types) all.0 (pointwise-same w.types h.types (all.2 ∙ same))

one_argument : (m : Module) (f : Function) (p : Program) (c a : ℕ → ℕ) (x : Arg) (g h : Variable)
    → ((i : ℕ) (v : Variable) → slice_get f.variables i ≡ Some v → IsTyped m.structs v)
    → IsTyped m.structs g → g.types ≡ h.types
    → argument_fits (scope_in m f) x g ≡ true → argument_fits (scope_of p (renumbered_function c a f)) x h ≡ true
one_argument m f p c a (One (Component x)) g h typed own same fits =
    subst (λ (types : List ScalarType). option_map_or (λ t. pointwise same_type (t ∷ []) types) (slice_get (component_types f.variables) x) false ≡ true) same
    (one_fits m.structs g.ty g.types (slice_get (component_types f.variables) x) own.agrees fits)
one_argument m f p c a (One (Literal v)) g h typed own same fits =
    subst (λ (types : List ScalarType). option_map_or (λ t. pointwise same_type (t ∷ []) types) (Some v.ty) false ≡ true) same
    (one_fits m.structs g.ty g.types (Some v.ty) own.agrees fits)
one_argument m f p c a (Whole v) g h typed own same fits =
    whole_argument m (slice_get f.variables v) g h (typed v) own same fits

first_same : (x y : List ScalarType) (xs ys : List (List ScalarType)) → x ∷ xs ≡ y ∷ ys → (x ≡ y) × (xs ≡ ys)
first_same x y xs ys e = (cc, cc)

all_arguments : (m : Module) (f : Function) (p : Program) (c a : ℕ → ℕ) (args : List Arg) (gs hs : List Variable) (n : ℕ)
    → ((i : ℕ) (v : Variable) → slice_get f.variables i ≡ Some v → IsTyped m.structs v)
    → ((i : ℕ) (v : Variable) → slice_get gs i ≡ Some v → IsTyped m.structs v)
    → length args ≡ n → n ≤ length gs → n ≤ length hs → map types_of (take n gs) ≡ map types_of (take n hs)
    → list_all (λ pair. argument_fits (scope_in m f) pair.0 pair.1) (zip args gs) ≡ true
    → list_all (λ pair. argument_fits (scope_of p (renumbered_function c a f)) pair.0 pair.1) (zip args hs) ≡ true
all_arguments m f p c a [] gs hs n typed own count few fewer same fits = refl
all_arguments m f p c a (x ∷ args) [] hs n typed own count few fewer same fits = absurd (omega (arith, count, few))
all_arguments m f p c a (x ∷ args) (g ∷ gs) [] n typed own count few fewer same fits = refl
all_arguments m f p c a (x ∷ args) (g ∷ gs) (h ∷ hs) zero typed own count few fewer same fits = absurd (omega (arith, count))
all_arguments m f p c a (x ∷ args) (g ∷ gs) (h ∷ hs) (suc n) typed own count few fewer same fits =
    let each = first_same g.types h.types (map types_of (take n gs)) (map types_of (take n hs)) same in
    let two = both-true (argument_fits (scope_in m f) x g) (list_all (λ pair. argument_fits (scope_in m f) pair.0 pair.1) (zip args gs)) fits in
    and-true (argument_fits (scope_of p (renumbered_function c a f)) x h)
    (list_all (λ pair. argument_fits (scope_of p (renumbered_function c a f)) pair.0 pair.1) (zip args hs))
    (one_argument m f p c a x g h typed (own 0 g refl) each.0 two.0)
    (all_arguments m f p c a args gs hs n typed (λ i v here. own (suc i) v here) (omega (arith, count)) (omega (arith, few)) (omega (arith, fewer)) each.1 two.1)

-- ---- a statement

as_many : (n : ℕ) (vs : List Variable) → n ≤ length vs → length (map types_of (take n vs)) ≡ n
as_many zero vs h = refl
as_many (suc n) [] h = absurd (omega (arith, h))
as_many (suc n) (v ∷ vs) h = ap suc (as_many n vs (omega (arith, h)))

same_element_type : (xs ys : List Array) (k n : ℕ) → ArrayLink xs ys k n
    → option_map (λ a. read_type a.element) (slice_get xs k) ≡ option_map (λ a. read_type a.element) (slice_get ys n)
same_element_type xs ys k n link =
    ap (option_map (λ a. read_type a.element)) link.from_is ∙ ap (λ (e : ElementType). Some (read_type e)) link.element
    ∙ sym (ap (option_map (λ a. read_type a.element)) link.to_is)

array_known : (xs ys : List Array) (k n : ℕ) → ArrayLink xs ys k n → nat_lt n (length ys) ≡ true
array_known xs ys k n link = is-below n (length ys) (slice_get_within ys n link.to link.to_is)

load_kept : (m : Module) (p : Program) (f : Function) (c a : ℕ → ℕ) (to array : ℕ) (index : Operand) → ArrayLink m.arrays p.arrays array (a array)
    → statement_kind (scope_in m f) (Load to array index) ≡ None → statement_kind (scope_of p (renumbered_function c a f)) (Load to (a array) index) ≡ None
load_kept m p f c a to array index link h =
    let s = scope_in m f in
    let t = scope_of p (renumbered_function c a f) in
    passes s t (Load to array index) (Load to (a array) index) h
    (λ k.
    let two = both-true (knows_component s to && knows_array s array) (knows_operand s index) k in
    let one = both-true (knows_component s to) (knows_array s array) two.0 in
    and-true (knows_component t to && knows_array t (a array)) (knows_operand s index)
    (and-true (knows_component s to) (knows_array t (a array)) one.0 (array_known m.arrays p.arrays array (a array) link)) two.1)
    (λ k. refl)
    (λ k n fits. subst (λ (ty : Option ScalarType). alike (type_of_component s to) ty ≡ true) (same_element_type m.arrays p.arrays array (a array) link) fits)
    refl refl

store_kept : (m : Module) (p : Program) (f : Function) (c a : ℕ → ℕ) (array : ℕ) (index from : Operand) → ArrayLink m.arrays p.arrays array (a array)
    → statement_kind (scope_in m f) (Store array index from) ≡ None → statement_kind (scope_of p (renumbered_function c a f)) (Store (a array) index from) ≡ None
store_kept m p f c a array index from link h =
    let s = scope_in m f in
    let t = scope_of p (renumbered_function c a f) in
    passes s t (Store array index from) (Store (a array) index from) h
    (λ k.
    let two = both-true (knows_array s array && knows_operand s index) (knows_operand s from) k in
    let one = both-true (knows_array s array) (knows_operand s index) two.0 in
    and-true (knows_array t (a array) && knows_operand s index) (knows_operand s from)
    (and-true (knows_array t (a array)) (knows_operand s index) (array_known m.arrays p.arrays array (a array) link) one.1) two.1)
    (λ k. refl)
    (λ k n fits. subst (λ (ty : Option ScalarType). alike ty (type_of s from) ≡ true) (same_element_type m.arrays p.arrays array (a array) link) fits)
    refl refl

-- two struct variables that are alike by number are alike by their components
copied_by : (m : Module) (v w : Option Variable) → ((x : Variable) → v ≡ Some x → IsTyped m.structs x) → ((x : Variable) → w ≡ Some x → IsTyped m.structs x)
    → option_map_or (λ x. option_map_or (structs_fit ByNumber x) w false) v false ≡ true
    → option_map_or (λ x. option_map_or (structs_fit ByTypes x) w false) v false ≡ true
copied_by m None w typed_v typed_w h = cc
copied_by m (Some x) None typed_v typed_w h = cc
copied_by m (Some x) (Some y) typed_v typed_w h =
    let of_x = typed_v x refl in
    let of_y = typed_w y refl in
    let all = whole_fits_by m.structs x.ty y.ty x.types y.types of_x.agrees of_y.agrees of_y.known h in
    and-true (is_struct x.ty && is_struct y.ty) (pointwise same_type x.types y.types) (and-true (is_struct x.ty) (is_struct y.ty) all.0 all.1) (pointwise-same x.types y.types all.2)

copy_kept : (m : Module) (p : Program) (f : Function) (c a : ℕ → ℕ) (to from : ℕ)
    → ((i : ℕ) (v : Variable) → slice_get f.variables i ≡ Some v → IsTyped m.structs v)
    → statement_kind (scope_in m f) (CopyStruct to from) ≡ None → statement_kind (scope_of p (renumbered_function c a f)) (CopyStruct to from) ≡ None
copy_kept m p f c a to from typed h =
    passes (scope_in m f) (scope_of p (renumbered_function c a f)) (CopyStruct to from) (CopyStruct to from) h
    (λ k. k) (λ k. k)
    (λ k n fits. copied_by m (slice_get f.variables to) (slice_get f.variables from) (typed to) (typed from) fits)
    refl refl

call_kept : (m : Module) (p : Program) (f : Function) (c a : ℕ → ℕ) (to : Option ℕ) (g : ℕ) (args : List Arg)
    → ((i : ℕ) (v : Variable) → slice_get f.variables i ≡ Some v → IsTyped m.structs v)
    → ((k : ℕ) (called : Function) → slice_get m.functions k ≡ Some called → (i : ℕ) (v : Variable) → slice_get called.variables i ≡ Some v → IsTyped m.structs v)
    → FunctionLink m.functions p.functions g (c g)
    → statement_kind (scope_in m f) (Call to g args) ≡ None → statement_kind (scope_of p (renumbered_function c a f)) (Call to (c g) args) ≡ None
call_kept m p f c a to g args typed own link h =
    let s = scope_in m f in
    let t = scope_of p (renumbered_function c a f) in
    let count : link.from.parameters ≡ link.to.parameters =
    sym (as_many link.from.parameters link.from.variables link.from_fits) ∙ ap length link.parameters ∙ as_many link.to.parameters link.to.variables link.to_fits in
    let at_from = λ (o : Option Function). option_map_or (λ called. nat_eq (length args) called.parameters) o true in
    passes s t (Call to g args) (Call to (c g) args) h
    (λ k.
    let two = both-true (knows_target s to && knows_function s g) (list_all (knows_argument s) args) k in
    let one = both-true (knows_target s to) (knows_function s g) two.0 in
    and-true (knows_target t to && knows_function t (c g)) (list_all (knows_argument t) args)
    (and-true (knows_target t to) (knows_function t (c g)) one.0 (is-below (c g) (length p.functions) (slice_get_within p.functions (c g) link.to link.to_is))) two.1)
    (λ k. ap at_from link.to_is ∙ ap (nat_eq (length args)) (sym count) ∙ sym (ap at_from link.from_is) ∙ k)
    (λ k n fits.
    let two = both-true (arguments_fit s g args) (result_fits s to (type_of_call s g)) fits in
    let counted : nat_eq (length args) link.from.parameters ≡ true = sym (ap at_from link.from_is) ∙ n in
    let fitted : list_all (λ pair. argument_fits s pair.0 pair.1) (zip args link.from.variables) ≡ true =
    sym (ap (λ (o : Option Function). option_map_or (λ called. list_all (λ pair. argument_fits s pair.0 pair.1) (zip args called.variables)) o false) link.from_is) ∙ two.0 in
    let there : list_all (λ pair. argument_fits t pair.0 pair.1) (zip args link.to.variables) ≡ true =
    all_arguments m f p c a args link.from.variables link.to.variables link.from.parameters typed (own g link.from link.from_is)
    (equal_numbers (length args) link.from.parameters counted) link.from_fits (omega (arith, count, link.to_fits))
    (link.parameters ∙ ap (λ (n : ℕ). map types_of (take n link.to.variables)) (sym count)) fitted in
    let result : type_of_call s g ≡ type_of_call t (c g) =
    ap (option_and_then (λ called. type_of_result called.result)) link.from_is ∙ ap type_of_result link.result
    ∙ sym (ap (option_and_then (λ called. type_of_result called.result)) link.to_is) in
    and-true (arguments_fit t (c g) args) (result_fits t to (type_of_call t (c g)))
    (ap (λ (o : Option Function). option_map_or (λ called. list_all (λ pair. argument_fits t pair.0 pair.1) (zip args called.variables)) o false) link.to_is ∙ there)
    (subst (λ (ty : Option ScalarType). result_fits s to ty ≡ true) result two.1))
    refl refl

pub statement_kept : (m : Module) (p : Program) (f : Function) (c a : ℕ → ℕ) (st : Statement)
    → ((i : ℕ) (v : Variable) → slice_get f.variables i ≡ Some v → IsTyped m.structs v)
    → ((k : ℕ) (called : Function) → slice_get m.functions k ≡ Some called → (i : ℕ) (v : Variable) → slice_get called.variables i ≡ Some v → IsTyped m.structs v)
    → All (λ k. ArrayLink m.arrays p.arrays k (a k)) (arrays_in st) → All (λ k. FunctionLink m.functions p.functions k (c k)) (functions_in st)
    → statement_kind (scope_in m f) st ≡ None → statement_kind (scope_of p (renumbered_function c a f)) (renumbered c a st) ≡ None
statement_kept m p f c a (Load to array index) typed own arrays functions h =
    load_kept m p f c a to array index (All-head (λ k. ArrayLink m.arrays p.arrays k (a k)) array [] arrays) h
statement_kept m p f c a (Store array index from) typed own arrays functions h =
    store_kept m p f c a array index from (All-head (λ k. ArrayLink m.arrays p.arrays k (a k)) array [] arrays) h
statement_kept m p f c a (CopyStruct to from) typed own arrays functions h = copy_kept m p f c a to from typed h
statement_kept m p f c a (Call to g args) typed own arrays functions h =
    call_kept m p f c a to g args typed own (All-head (λ k. FunctionLink m.functions p.functions k (c k)) g [] functions) h
statement_kept m p f c a s typed own arrays functions h = h
