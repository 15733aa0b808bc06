-- What a checked module gives of each of its functions.
use Rattle.std.proofs.Common.{◌≡◌, ◌+◌, ◌*◌, ◌<◌, ◌≤◌, ℕ, zero, suc, List, [], ◌∷◌, ◌++◌, length, map, get_or, Bool, true, false, Some, None, refl, sym, ap, ap₂, ◌∙◌, arith, subst}
use Rattle.std.specs.Prelude.{◌&&◌, ◌||◌, if◌then◌else◌, not, All, Option, slice_get, nat_le, nat_lt}
use Rattle.std.specs.List.{flat_map, list_all, list_any}
use Rattle.std.proofs.lemmas.Bool.Decides.{nat_tests}
use Rattle.std.proofs.lemmas.Option.{slice_get-get_or, get_or_from_slice_get}
use Rattle.std.proofs.lemmas.List.{length-append}
use Rattle.std.proofs.lemmas.List.Concat.{length-flat_map}
use Rattle.std.proofs.lemmas.List.Elements.{All-nil, All-cons, All-head, All-tail, All-append}
use Rattle.std.proofs.lemmas.List.FromFn.{length-map-range_with_len}
use Rattle.std.proofs.lemmas.List.Sums.{sum_by-le-sum_by}
use Rattle.gimple_ir.specs.declared.types.ScalarType.{ScalarType}
use Rattle.gimple_ir.specs.declared.types.ScalarType.TheVariants.{Int, UnsignedInt, LongInt, LongUnsignedInt}
use Rattle.gimple_ir.specs.declared.types.Value.{Value}
use Rattle.gimple_ir.specs.declared.types.BinaryOp.{BinaryOp}
use Rattle.gimple_ir.specs.declared.types.BinaryOp.TheVariants.{Add, Sub, Mul, Div, Rem, And, Or, Xor, Shl, Shr, Eq, Ne, Lt, Le, Gt, Ge}
use Rattle.gimple_ir.specs.declared.types.Operand.{Operand}
use Rattle.gimple_ir.specs.declared.types.Operand.TheVariants.{Component, Literal}
use Rattle.gimple_ir.specs.declared.types.Arg.{Arg}
use Rattle.gimple_ir.specs.declared.types.Arg.TheVariants.{One, Whole}
use Rattle.gimple_ir.specs.declared.types.Variable.{Variable}
use Rattle.gimple_ir.specs.declared.types.Function.{Function}
use Rattle.gimple_ir.specs.declared.types.Module.{Module}
use Rattle.gimple_ir.specs.declared.types.Statement.{Statement}
use Rattle.gimple_ir.specs.declared.types.Statement.TheVariants.{Nop, Label, Goto, Cond, Switch, ReturnVoid, Return, Copy, Unary, Convert, Binary, Load, Store, CopyStruct, Call, Putchar, Getchar, Exit}
use Rattle.gimple_ir.specs.declared.fault.TypeFault.{TypeFault}
use Rattle.gimple_ir.specs.declared.fault.TypeKind.{TypeKind}
use Rattle.gimple_ir.specs.declared.fault.TypeKind.TheVariants.{DoubleName, UnknownName, TooMany, BadLabel, OpenEnd, WrongCount, WrongType, NegLiteral, BadCase}
use Rattle.gimple_ir.specs.Lattices.{same_type}
use Rattle.gimple_ir.specs.Values.{TypesFit}
use Rattle.gimple_ir.specs.CodeBound.{components_in, components_of, parameter_components, argument_operands, operands_in, code_bound_of}
use Rattle.gimple_ir.specs.Statements.{Scope, component_types, knows, knows_component, knows_operand, knows_argument, knows_target, knows_array, knows_function, type_of, alike, binary_fits, types_fit, counts_arguments, negates_literal, cases_ascend, first_failed, statement_kind}
use Rattle.gimple_ir.specs.Checks.{first_of, faults_from, fault_at, struct_fault, array_fault, function_fault, statements_fault, names_before, is_extern, head_kind, bound_kind, scope_in, body_of, counts_fit, labels_stand, ends_closed, knows_struct}
use Rattle.gimple_ir.specs.Names.{is_between, is_among, is_builtin, repeats}
use Rattle.gimple_ir.specs.Programs.{IsChecked, IsStatedFunction, HasValues, IsOperand}
use Rattle.func_summary.specs.Summaries.{operand_places, argument_places, operands_of, places_of, place_of_field, arrays_in}
use Rattle.func_summary.specs.Ready.{CanUnary, CanBinary, CanCompute, IsArgumentIn, HasArgumentsIn, IsArrayOf, IsReady}

-- ---- a test that passes

pub both-true : (a b : Bool) → (a && b) ≡ true → (a ≡ true) × (b ≡ true)
both-true true b h = (refl, h)
both-true false b h = cc

pub below : (a b : ℕ) → nat_lt a b ≡ true → a < b
below a b h = grind (arith, nat_tests)

pub within : (a b : ℕ) → nat_le a b ≡ true → a ≤ b
within a b h = grind (arith, nat_tests)

-- ---- no fault

first_of-none : (a : Option TypeFault) (rest : List (Option TypeFault)) → first_of (a ∷ rest) ≡ None → (a ≡ None) × (first_of rest ≡ None)
first_of-none None rest h = (refl, h)
first_of-none (Some f) rest h = cc

pub three-none : (a b c : Option TypeFault) → first_of (a ∷ b ∷ c ∷ []) ≡ None → (a ≡ None) × (b ≡ None) × (c ≡ None)
three-none a b c h =
    let later = first_of-none a (b ∷ c ∷ []) h in
    let last = first_of-none b (c ∷ []) later.1 in
    (later.0, last.0, (first_of-none c [] last.1).0)

pub first_failed-none : (b : Bool) (k : TypeKind) (rest : List (Bool × TypeKind)) → first_failed ((b, k) ∷ rest) ≡ None → b ≡ true
first_failed-none true k rest h = refl
first_failed-none false k rest h = cc

pub three-pass : (a b c : Bool) (j k l : TypeKind) (rest : List (Bool × TypeKind)) → first_failed ((a, j) ∷ (b, k) ∷ (c, l) ∷ rest) ≡ None
    → (a ≡ true) × (b ≡ true) × (c ≡ true)
three-pass true true true j k l rest h = (refl, refl, refl)
three-pass true true false j k l rest h = cc
three-pass true false c j k l rest h = cc
three-pass false b c j k l rest h = cc

pub counts-pass : (double : Bool) (structs : ℕ) (f : Function) → head_kind double structs f ≡ None → counts_fit f ≡ true
counts-pass double structs f h =
    (three-pass (not double && not (repeats (map (λ v. v.name) f.variables)))
    (not (is_builtin f.name) && not (list_any (λ v. is_builtin v.name) f.variables) && list_all (λ v. knows_struct structs v.ty) f.variables)
    (counts_fit f) DoubleName UnknownName TooMany ((labels_stand f, BadLabel) ∷ (is_extern f.linkage || ends_closed f.body, OpenEnd) ∷ []) h).2

pub bound-passes : (f : Function) → bound_kind f ≡ None → nat_le (code_bound_of f) 524288 ≡ true
bound-passes f h = first_failed-none (nat_le (code_bound_of f) 524288) TooMany [] h

pub statement-passes : (sc : Scope) (s : Statement) → statement_kind sc s ≡ None → (knows sc s ≡ true) × (counts_arguments sc s ≡ true) × (types_fit sc s ≡ true)
statement-passes sc s h =
    three-pass (knows sc s) (counts_arguments sc s) (types_fit sc s) UnknownName WrongCount WrongType
    ((not (negates_literal s), NegLiteral) ∷ (cases_ascend s, BadCase) ∷ []) h

pub fault_at-none : (item st : ℕ) (o : Option TypeKind) → fault_at item st o ≡ None → o ≡ None
fault_at-none item st None h = refl
fault_at-none item st (Some k) h = cc

pub faults_from-none : {X : Type 0} (fault : ℕ → X → Option TypeFault) (n : ℕ) (xs : List X) → faults_from fault n xs ≡ None
    → (i : ℕ) (x : X) → slice_get xs i ≡ Some x → fault (n + i) x ≡ None
faults_from-none fault n [] h i x here = cc
faults_from-none fault n (y ∷ xs) h zero x here =
    let same : x ≡ y = cc in
    ap₂ fault (omega arith) same ∙ (first_of-none (fault n y) (faults_from fault (n + 1) xs ∷ []) h).0
faults_from-none fault n (y ∷ xs) h (suc i) x here =
    let rest = (first_of-none (fault n y) (faults_from fault (n + 1) xs ∷ []) h).1 in
    ap (λ k. fault k x) (omega arith) ∙ faults_from-none fault (n + 1) xs (first_of-none (faults_from fault (n + 1) xs) [] rest).0 i x here

-- ---- types that are alike

pub same_type-is : (a b : ScalarType) → same_type a b ≡ true → a ≡ b
same_type-is Int Int h = refl
same_type-is Int UnsignedInt h = cc
same_type-is Int LongInt h = cc
same_type-is Int LongUnsignedInt h = cc
same_type-is UnsignedInt Int h = cc
same_type-is UnsignedInt UnsignedInt h = refl
same_type-is UnsignedInt LongInt h = cc
same_type-is UnsignedInt LongUnsignedInt h = cc
same_type-is LongInt Int h = cc
same_type-is LongInt UnsignedInt h = cc
same_type-is LongInt LongInt h = refl
same_type-is LongInt LongUnsignedInt h = cc
same_type-is LongUnsignedInt Int h = cc
same_type-is LongUnsignedInt UnsignedInt h = cc
same_type-is LongUnsignedInt LongInt h = cc
same_type-is LongUnsignedInt LongUnsignedInt h = refl

alike-both : (to : Option ScalarType) (a b : ScalarType) → (alike to (Some a) && alike to (Some b)) ≡ true → a ≡ b
alike-both None a b h = cc
alike-both (Some t) a b h =
    let each = both-true (same_type t a) (same_type t b) h in
    sym (same_type-is t a each.0) ∙ same_type-is t b each.1

binary-fits : (op : BinaryOp) (to : Option ScalarType) (a b : Value) → binary_fits op to (Some a.ty) (Some b.ty) ≡ true → TypesFit op a b
binary-fits Add to a b h = alike-both to a.ty b.ty h
binary-fits Sub to a b h = alike-both to a.ty b.ty h
binary-fits Mul to a b h = alike-both to a.ty b.ty h
binary-fits Div to a b h = alike-both to a.ty b.ty h
binary-fits Rem to a b h = alike-both to a.ty b.ty h
binary-fits And to a b h = alike-both to a.ty b.ty h
binary-fits Or to a b h = alike-both to a.ty b.ty h
binary-fits Xor to a b h = alike-both to a.ty b.ty h
binary-fits Shl to a b h = tt
binary-fits Shr to a b h = tt
binary-fits Eq to a b h = same_type-is a.ty b.ty (both-true (alike to (Some Int)) (same_type a.ty b.ty) h).1
binary-fits Ne to a b h = same_type-is a.ty b.ty (both-true (alike to (Some Int)) (same_type a.ty b.ty) h).1
binary-fits Lt to a b h = same_type-is a.ty b.ty (both-true (alike to (Some Int)) (same_type a.ty b.ty) h).1
binary-fits Le to a b h = same_type-is a.ty b.ty (both-true (alike to (Some Int)) (same_type a.ty b.ty) h).1
binary-fits Gt to a b h = same_type-is a.ty b.ty (both-true (alike to (Some Int)) (same_type a.ty b.ty) h).1
binary-fits Ge to a b h = same_type-is a.ty b.ty (both-true (alike to (Some Int)) (same_type a.ty b.ty) h).1

-- ---- one statement

can_unary : (a : Operand) → IsOperand a → CanUnary a
can_unary (Component x) v = tt
can_unary (Literal value) v = v

can_binary : (sc : Scope) (to : ℕ) (op : BinaryOp) (a b : Operand) → IsOperand a × IsOperand b → types_fit sc (Binary to op a b) ≡ true → CanBinary op a b
can_binary sc to op (Component x) b v h = tt
can_binary sc to op (Literal x) (Component y) v h = tt
can_binary sc to op (Literal x) (Literal y) v h = (v.0, v.1, binary-fits op (type_of sc (Component to)) x y h)

can_compute : (sc : Scope) (s : Statement) → HasValues s → types_fit sc s ≡ true → CanCompute s
can_compute sc Nop v h = tt
can_compute sc (Label l) v h = tt
can_compute sc (Goto l) v h = tt
can_compute sc (Cond op a b met missed) v h = tt
can_compute sc (Switch a cases otherwise) v h = tt
can_compute sc ReturnVoid v h = tt
can_compute sc (Return a) v h = tt
can_compute sc (Copy to a) v h = tt
can_compute sc (Unary to op a) v h = can_unary a v
can_compute sc (Convert to a) v h = can_unary a v
can_compute sc (Binary to op a b) v h = can_binary sc to op a b v h
can_compute sc (Load to array a) v h = tt
can_compute sc (Store array a b) v h = tt
can_compute sc (CopyStruct to from) v h = tt
can_compute sc (Call to f args) v h = tt
can_compute sc (Putchar a) v h = tt
can_compute sc (Getchar to) v h = tt
can_compute sc (Exit a) v h = tt

argument_in : (sc : Scope) (a : Arg) → knows_argument sc a ≡ true → IsArgumentIn sc.function.variables a
argument_in sc (One (Component x)) h =
    omega (arith, below x (length (component_types sc.function.variables)) h, length-flat_map (λ (v : Variable). v.types) sc.function.variables)
argument_in sc (One (Literal v)) h = tt
argument_in sc (Whole v) h = tt

arguments_in : (sc : Scope) (args : List Arg) → list_all (knows_argument sc) args ≡ true → All (IsArgumentIn sc.function.variables) args
arguments_in sc [] h = All-nil (IsArgumentIn sc.function.variables)
arguments_in sc (a ∷ args) h =
    let each = both-true (knows_argument sc a) (list_all (knows_argument sc) args) h in
    All-cons (IsArgumentIn sc.function.variables) a args (argument_in sc a each.0) (arguments_in sc args each.1)

has_arguments : (sc : Scope) (s : Statement) → knows sc s ≡ true → HasArgumentsIn sc.function.variables s
has_arguments sc Nop h = tt
has_arguments sc (Label l) h = tt
has_arguments sc (Goto l) h = tt
has_arguments sc (Cond op a b met missed) h = tt
has_arguments sc (Switch a cases otherwise) h = tt
has_arguments sc ReturnVoid h = tt
has_arguments sc (Return a) h = tt
has_arguments sc (Copy to a) h = tt
has_arguments sc (Unary to op a) h = tt
has_arguments sc (Convert to a) h = tt
has_arguments sc (Binary to op a b) h = tt
has_arguments sc (Load to array a) h = tt
has_arguments sc (Store array a b) h = tt
has_arguments sc (CopyStruct to from) h = tt
has_arguments sc (Call to g args) h = arguments_in sc args (both-true (knows_target sc to && knows_function sc g) (list_all (knows_argument sc) args) h).1
has_arguments sc (Putchar a) h = tt
has_arguments sc (Getchar to) h = tt
has_arguments sc (Exit a) h = tt

has_arrays : (m : Module) (f : Function) (s : Statement) → knows (scope_in m f) s ≡ true → All (IsArrayOf m) (arrays_in s)
has_arrays m f Nop h = All-nil (IsArrayOf m)
has_arrays m f (Label l) h = All-nil (IsArrayOf m)
has_arrays m f (Goto l) h = All-nil (IsArrayOf m)
has_arrays m f (Cond op a b met missed) h = All-nil (IsArrayOf m)
has_arrays m f (Switch a cases otherwise) h = All-nil (IsArrayOf m)
has_arrays m f ReturnVoid h = All-nil (IsArrayOf m)
has_arrays m f (Return a) h = All-nil (IsArrayOf m)
has_arrays m f (Copy to a) h = All-nil (IsArrayOf m)
has_arrays m f (Unary to op a) h = All-nil (IsArrayOf m)
has_arrays m f (Convert to a) h = All-nil (IsArrayOf m)
has_arrays m f (Binary to op a b) h = All-nil (IsArrayOf m)
has_arrays m f (Load to array a) h = All-cons (IsArrayOf m) array [] (below array (length m.arrays) (both-true (knows_component (scope_in m f) to) (knows_array (scope_in m f) array) (both-true (knows_component (scope_in m f) to && knows_array (scope_in m f) array) (knows_operand (scope_in m f) a) h).0).1) (All-nil (IsArrayOf m))
has_arrays m f (Store array a b) h = All-cons (IsArrayOf m) array [] (below array (length m.arrays) (both-true (knows_array (scope_in m f) array) (knows_operand (scope_in m f) a) (both-true (knows_array (scope_in m f) array && knows_operand (scope_in m f) a) (knows_operand (scope_in m f) b) h).0).0) (All-nil (IsArrayOf m))
has_arrays m f (CopyStruct to from) h = All-nil (IsArrayOf m)
has_arrays m f (Call to g args) h = All-nil (IsArrayOf m)
has_arrays m f (Putchar a) h = All-nil (IsArrayOf m)
has_arrays m f (Getchar to) h = All-nil (IsArrayOf m)
has_arrays m f (Exit a) h = All-nil (IsArrayOf m)

few_one : (is_argument : Bool) (a : Operand) → length (operand_places is_argument a) ≤ 1
few_one is_argument (Component x) = omega arith
few_one is_argument (Literal v) = omega arith

few_two : (a b : Operand) → length (operand_places false a ++ operand_places false b) ≤ 2
few_two a b = omega (arith, length-append (operand_places false a) (operand_places false b), few_one false a, few_one false b)

few_argument : (variables : List Variable) (a : Arg) → length (argument_places variables a) ≤ argument_operands variables a
few_argument variables (One a) = few_one true a
few_argument variables (Whole v) = omega (arith, length-map-range_with_len (place_of_field variables true v) 0 (components_of variables v))

-- no more places than operands
few_places : (variables : List Variable) (s : Statement) → length (operands_of variables s) ≤ operands_in variables s
few_places variables Nop = omega arith
few_places variables (Label l) = omega arith
few_places variables (Goto l) = omega arith
few_places variables (Cond op a b met missed) = few_two a b
few_places variables (Switch a cases otherwise) = omega (arith, few_one false a)
few_places variables ReturnVoid = omega arith
few_places variables (Return a) = omega (arith, few_one false a)
few_places variables (Copy to a) = omega (arith, few_one false a)
few_places variables (Unary to op a) = omega (arith, few_one false a)
few_places variables (Convert to a) = omega (arith, few_one false a)
few_places variables (Binary to op a b) = few_two a b
few_places variables (Load to array a) = omega (arith, few_one false a)
few_places variables (Store array a b) = few_two a b
few_places variables (CopyStruct to from) = omega (arith, length-map-range_with_len (place_of_field variables false from) 0 (components_of variables from))
few_places variables (Call to f args) = omega (arith, length-flat_map (argument_places variables) args, sum_by-le-sum_by (λ a. length (argument_places variables a)) (argument_operands variables) args (few_argument variables))
few_places variables (Putchar a) = omega (arith, few_one false a)
few_places variables (Getchar to) = omega arith
few_places variables (Exit a) = omega (arith, few_one false a)

-- ---- the whole body

pub all-from_places : {X : Type 0} (P : X → Type 0) (xs : List X) → ((i : ℕ) (x : X) → slice_get xs i ≡ Some x → P x) → All P xs
all-from_places P xs h k d inside = h k (get_or xs k d) (slice_get-get_or xs k d inside)

pub place_inside : {X : Type 0} (xs : List X) (i : ℕ) (x : X) → slice_get xs i ≡ Some x → i < length xs
place_inside [] i x here = cc
place_inside (y ∷ xs) zero x here = omega arith
place_inside (y ∷ xs) (suc i) x here = omega (arith, place_inside xs i x here)

pub all_at : {X : Type 0} (P : X → Type 0) (xs : List X) → All P xs → (i : ℕ) (x : X) → slice_get xs i ≡ Some x → P x
all_at P xs all i x here = subst P (get_or_from_slice_get xs i x x here) (all i x (place_inside xs i x here))

pub all_flat_map : {X Y : Type 0} (P : Y → Type 0) (g : X → List Y) (xs : List X) → All (λ x. All P (g x)) xs → All P (flat_map g xs)
all_flat_map P g [] all = All-nil P
all_flat_map P g (x ∷ xs) all =
    All-append P (g x) (flat_map g xs) (All-head (λ y. All P (g y)) x xs all) (all_flat_map P g xs (All-tail (λ y. All P (g y)) x xs all))

pub few_in_all : (f : Function) → length (places_of f) ≤ code_bound_of f
few_in_all f =
    let places = length-flat_map (operands_of f.variables) f.body in
    let fewer = sum_by-le-sum_by (λ s. length (operands_of f.variables s)) (λ s. 7 + 11 * operands_in f.variables s) f.body (λ s. omega (arith, few_places f.variables s)) in
    omega (arith, places, fewer)

-- the body of a function whose statements have no fault
pub body-none : (m : Module) (f : Function) (e : Bool) → e ≡ is_extern f.linkage → (is_extern f.linkage ≡ true → f.body ≡ [])
    → (item : ℕ) → faults_from (λ place st. fault_at item place (statement_kind (scope_in m f) st)) 0 (body_of f) ≡ None
    → (i : ℕ) (s : Statement) → slice_get f.body i ≡ Some s → statement_kind (scope_in m f) s ≡ None
body-none m f true e empty item h i s here =
    let gone = sym (ap (λ b. slice_get b i) (empty (sym e))) ∙ here in cc
body-none m f false e empty item h i s here =
    let body : body_of f ≡ f.body = ap (λ b. if b then [] else f.body) (sym e) in
    fault_at-none item (0 + i) (statement_kind (scope_in m f) s)
    (faults_from-none (λ place st. fault_at item place (statement_kind (scope_in m f) st)) 0 f.body
    (sym (ap (faults_from (λ place st. fault_at item place (statement_kind (scope_in m f) st)) 0) body) ∙ h) i s here)

statements-few : (e : Bool) (body : List Statement) → (e ≡ true → body ≡ []) → (e || is_between 1 8192 (length body)) ≡ true → length body ≤ 8192
statements-few true body empty h = omega (arith, ap length (empty refl))
statements-few false body empty h = within (length body) 8192 (both-true (nat_le 1 (length body)) (nat_le (length body) 8192) h).1

-- ---- the function

pub ready : (m : Module) (n : ℕ) (f : Function) → IsChecked m → slice_get m.functions n ≡ Some f → IsReady m f
ready m n f checked here =
    let stated = all_at (IsStatedFunction m.structs) m.functions checked.stated.functions n f here in
    let functions = (three-none (faults_from (struct_fault m) 0 m.structs) (faults_from (array_fault m) 0 m.arrays) (faults_from (function_fault m) 0 m.functions) checked.faultless).2 in
    let none = faults_from-none (function_fault m) 0 m.functions functions n f here in
    let item = length m.structs + length m.arrays + (0 + n) in
    let sc = scope_in m f in
    let head = head_kind (is_among (names_before m (0 + n)) f.name) (length m.structs) f in
    let parts = three-none (fault_at item 0 head) (statements_fault sc item (body_of f)) (fault_at item 0 (bound_kind f)) none in
    let counted = counts-pass (is_among (names_before m (0 + n)) f.name) (length m.structs) f (fault_at-none item 0 head parts.0) in
    let counts = both-true (nat_le (components_in f.variables) 1024 && nat_le (parameter_components f) 64) (is_extern f.linkage || is_between 1 8192 (length f.body)) counted in
    let bound = within (code_bound_of f) 524288 (bound-passes f (fault_at-none item 0 (bound_kind f) parts.2)) in
    let empty = λ (e : is_extern f.linkage ≡ true). (stated.declared e).2 in
    let passes = λ (i : ℕ) (s : Statement) (at : slice_get f.body i ≡ Some s). statement-passes sc s (body-none m f (is_extern f.linkage) refl empty item parts.1 i s at) in
    record {
      components = within (components_in f.variables) 1024 (both-true (nat_le (components_in f.variables) 1024) (nat_le (parameter_components f) 64) counts.0).0;
      statements = statements-few (is_extern f.linkage) f.body empty counts.1;
      places = omega (arith, few_in_all f, bound);
      bound = bound;
      computes = all-from_places CanCompute f.body (λ i s at. can_compute sc s (all_at HasValues f.body stated.values i s at) (passes i s at).2);
      arguments = all-from_places (HasArgumentsIn f.variables) f.body (λ i s at. has_arguments sc s (passes i s at).0);
      arrays =
          all_flat_map (IsArrayOf m) arrays_in f.body
          (all-from_places (λ s. All (IsArrayOf m) (arrays_in s)) f.body (λ i s at. has_arrays m f s (passes i s at).0));
    }
