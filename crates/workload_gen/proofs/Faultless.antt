-- A generated function has no fault, if the functions that it calls stand where it says.
use Rattle.std.proofs.Common.{◌≡◌, ℕ, zero, suc, ◌+◌, ◌*◌, ◌-◌, ◌<◌, ◌≤◌, ◌^◌, pos, List, [], ◌∷◌, ◌++◌, length, Bool, true, false, Option, Some, None, IfSome, slice_get, sum_by, All, refl, arith, ap, sym, subst, ◌∙◌, le-leb, append_assoc, if◌then◌else◌}
use Rattle.std.specs.List.{slice_index_or, filter_map}
use Rattle.std.specs.Int.{div_ceil}
use Rattle.std.proofs.lemmas.List.{length-append}
use Rattle.std.proofs.lemmas.List.Elements.{All-from_recursion, All-append, All-cons, All-nil}
use Rattle.std.proofs.lemmas.List.Sums.{sum_by-append, sum_by-cons, list_all-from_AllPass}
use Rattle.std.proofs.lemmas.Option.{slice_get-get_or}
use Rattle.std.proofs.Math.Seq.{get_or-append_seam}
use Rattle.gimple_ir.specs.declared.types.ScalarType.TheVariants.{Int, UnsignedInt}
use Rattle.gimple_ir.specs.declared.types.ResultType.TheVariants as returned
use Rattle.gimple_ir.specs.declared.types.BinaryOp.TheVariants.{Xor}
use Rattle.gimple_ir.specs.declared.types.Operand.{Operand}
use Rattle.gimple_ir.specs.declared.types.Operand.TheVariants.{Component, Literal}
use Rattle.gimple_ir.specs.declared.types.Arg.TheVariants.{One}
use Rattle.gimple_ir.specs.declared.types.Variable.{Variable}
use Rattle.gimple_ir.specs.declared.types.Function.{Function}
use Rattle.gimple_ir.specs.declared.types.Module.{Module}
use Rattle.gimple_ir.specs.declared.types.Statement.{Statement}
use Rattle.gimple_ir.specs.declared.types.Statement.TheVariants.{Binary, Return, Copy, Convert, Putchar}
use Rattle.gimple_ir.specs.declared.fault.TypeFault.{TypeFault}
use Rattle.gimple_ir.specs.declared.fault.TypeKind.TheVariants.{DoubleName, UnknownName, TooMany, BadLabel, OpenEnd}
use Rattle.gimple_ir.specs.Statements.{Scope, statement_kind, first_failed}
use Rattle.gimple_ir.specs.Checks.{faults_from, fault_at, fault_in, head_kind, bound_kind, statements_fault, label_of, goes_within, ends_closed, labels_stand, counts_fit}
use Rattle.gimple_ir.specs.Checks.{body_of as checked_body}
use Rattle.gimple_ir.specs.CodeBound.{operands_in, code_bound_of}
use Rattle.gimple_ir.specs.Programs.{IsStatedFunction, HasValues, IsOperand, IsArgument as IsPassed, IsIdentifier, AgreesIn}
use Rattle.workload_gen.specs.declared.choices.Choice.{Choice}
use Rattle.workload_gen.specs.declared.choices.Call.{Call as Chosen}
use Rattle.workload_gen.specs.Draws.{draw}
use Rattle.workload_gen.specs.Choices.{unsigned, operator_of}
use Rattle.workload_gen.specs.Functions.{parameters, call_to, declaration, definition, main_of, main_body, main_end, rounds, round, body_of, calls, variables, main_variables}
use Rattle.workload_gen.proofs.Numbers.{draw_below}
use Rattle.workload_gen.proofs.Listing.{rounds-none, rounds-more}
use Rattle.workload_gen.proofs.FunctionNames.{name_of-IsIdentifier}
use Rattle.workload_gen.proofs.Bodies.{scope, IsCallable, IsUnsigned, IsUnsignedComponent, call_faultless, drawn_faultless, xor_faultless, unsigned_in_range}

-- ---- faults of lists

pub faults-none : {X : Type 0} (fault : ℕ → X → Option TypeFault) (n : ℕ) (xs : List X)
    → ((i : ℕ) (d : X) → i < length xs → fault (n + i) (slice_index_or xs i d) ≡ None) → faults_from fault n xs ≡ None
faults-none fault n [] each = refl
faults-none fault n (x ∷ xs) each =
    let here : fault n x ≡ None = ap (λ (k : ℕ). fault k x) (omega arith) ∙ each 0 x (omega arith) in
    let rest = faults-none fault (n + 1) xs (λ i d inside.
    ap (λ (k : ℕ). fault k (slice_index_or xs i d)) (omega arith) ∙ each (suc i) d (omega (arith, inside))) in
    rw (here, rest) refl

-- statements without a fault
abbrev pub AreFaultless : Scope → List Statement → Type 0
AreFaultless s body = All (λ st. statement_kind s st ≡ None) body

statements-none : (s : Scope) (item : ℕ) (body : List Statement) → AreFaultless s body → statements_fault s item body ≡ None
statements-none s item body each =
    faults-none (λ place st. fault_at item place (statement_kind s st)) 0 body (λ i d inside. ap (fault_at item (0 + i)) (each i d inside))

abbrev pub module_with : List Function → Module
module_with functions = record { structs = []; arrays = []; functions = functions }

-- a function without a fault, if its name is new, among these
pub record IsFaultless (functions : List Function) (f : Function) : Type 0 where
  pub stated : IsStatedFunction [] f
  pub head : head_kind false 0 f ≡ None
  pub statements : AreFaultless (scope functions f) (checked_body f)
  pub bound : bound_kind f ≡ None

pub fault_in-none : (functions : List Function) (f : Function) (double : Bool) (item : ℕ) → double ≡ false → IsFaultless functions f
    → fault_in (module_with functions) double item f ≡ None
fault_in-none functions f double item new h =
    let middle = statements-none (scope functions f) item (checked_body f) h.statements in
    rw (new, h.head, middle, h.bound) refl

-- ---- variables

abbrev IsStatedVariable : Variable → Type 0
IsStatedVariable v = IsIdentifier v.name × AgreesIn [] v.ty v.types

parameters_stated : All IsStatedVariable parameters
parameters_stated = All-from_recursion IsStatedVariable parameters ((refl, refl), ((refl, refl), tt))

variables_stated : All IsStatedVariable variables
variables_stated = All-from_recursion IsStatedVariable variables ((refl, refl), ((refl, refl), ((refl, refl), ((refl, refl), tt))))

main_variables_stated : All IsStatedVariable main_variables
main_variables_stated = All-from_recursion IsStatedVariable main_variables ((refl, refl), ((refl, refl), ((refl, refl), tt)))

-- ---- declarations

pub declaration_faultless : (functions : List Function) (n : ℕ) → n < 2 ^ 32 → IsFaultless functions (declaration n)
unfolding declaration
declaration_faultless functions n small = record {
  stated = record {
    name = name_of-IsIdentifier n small;
    variables = parameters_stated;
    labels = All-nil _;
    parameters = omega arith;
    values = All-nil _;
    declared = λ e. (refl, refl, refl);
  };
  head = refl;
  statements = All-nil _;
  bound = refl;
}

-- ---- definitions

-- an argument that is an `unsigned int` wherever the variables are those of a definition
pub record IsArgument (functions : List Function) (a : Operand) : Type 0 where
  pub typed : (f : Function) → f.variables ≡ variables → IsUnsigned (scope functions f) a
  pub value : IsOperand a

pub argument_at : (functions : List Function) (b : Bool) (k : ℕ) → k < 2 ^ 32 → IsArgument functions (if b then Component 1 else unsigned k)
argument_at functions true k small = record { typed = λ f e. record { known = rw e refl; typed = rw e refl }; value = tt }
argument_at functions false k small = record { typed = λ f e. record { known = refl; typed = refl }; value = unsigned_in_range k small }

pub record IsSoundCall (functions : List Function) (place : ℕ → ℕ) (call : Chosen) : Type 0 where
  pub callable : IsCallable functions (place call.callee)
  pub argument : IsArgument functions call.argument

-- what is drawn for a definition, and that what it calls stands at its place
pub record IsSound (functions : List Function) (place : ℕ → ℕ) (choice : Choice) : Type 0 where
  pub first_number : ℕ
  pub first : choice.first ≡ operator_of first_number
  pub constant : choice.constant < 2 ^ 32
  pub second_number : ℕ
  pub second : choice.second ≡ operator_of second_number
  pub call : IfSome choice.call (IsSoundCall functions place)

-- variables and result of a definition
record IsLikeDefinition (f : Function) : Type 0 where
  variables : f.variables ≡ variables
  result : f.result ≡ returned.Scalar UnsignedInt

component_0 : (functions : List Function) (f : Function) → IsLikeDefinition f → IsUnsignedComponent (scope functions f) 0
component_0 functions f h = record { known = rw h.variables refl; typed = rw h.variables refl }

component_1 : (functions : List Function) (f : Function) → IsLikeDefinition f → IsUnsignedComponent (scope functions f) 1
component_1 functions f h = record { known = rw h.variables refl; typed = rw h.variables refl }

component_2 : (functions : List Function) (f : Function) → IsLikeDefinition f → IsUnsignedComponent (scope functions f) 2
component_2 functions f h = record { known = rw h.variables refl; typed = rw h.variables refl }

component_3 : (functions : List Function) (f : Function) → IsLikeDefinition f → IsUnsignedComponent (scope functions f) 3
component_3 functions f h = record { known = rw h.variables refl; typed = rw h.variables refl }

read : (s : Scope) (x : ℕ) → IsUnsignedComponent s x → IsUnsigned s (Component x)
read s x h = record { known = h.known; typed = h.typed }

literal : (s : Scope) (n : ℕ) → IsUnsigned s (unsigned n)
literal s n = record { known = refl; typed = refl }

calls_faultless : (functions : List Function) (f : Function) (place : ℕ → ℕ) (o : Option Chosen) → IsLikeDefinition f
    → IfSome o (IsSoundCall functions place) → AreFaultless (scope functions f) (calls place o)
calls_faultless functions f place None like h = All-nil _
calls_faultless functions f place (Some call) like h =
    let s = scope functions f in
    All-cons (λ st. statement_kind s st ≡ None) (call_to (place call.callee) 3 (Component 2) call.argument) []
    (call_faultless functions f (place call.callee) 3 (Component 2) call.argument h.callable (component_3 functions f like)
    (read s 2 (component_2 functions f like)) (h.argument.typed f like.variables))
    (All-nil _)

return_faultless : (functions : List Function) (f : Function) → IsLikeDefinition f → statement_kind (scope functions f) (Return (Component 2)) ≡ None
return_faultless functions f like = rw (like.variables, like.result) refl

body_faultless : (functions : List Function) (f : Function) (place : ℕ → ℕ) (choice : Choice) → IsLikeDefinition f
    → IsSound functions place choice → AreFaultless (scope functions f) (body_of place choice)
body_faultless functions f place choice like sound =
    let s = scope functions f in
    let P = λ (st : Statement). statement_kind s st ≡ None in
    let zeroth = component_0 functions f like in
    let first = component_1 functions f like in
    let second = component_2 functions f like in
    let third = component_3 functions f like in
    let a : P (Binary 2 choice.first (Component 0) (unsigned choice.constant)) =
    rw sound.first (drawn_faultless s sound.first_number 2 (Component 0) (unsigned choice.constant) (record { to = second; left = read s 0 zeroth; right = literal s choice.constant })) in
    let b : P (Binary 3 choice.second (Component 1) (Component 2)) =
    rw sound.second (drawn_faultless s sound.second_number 3 (Component 1) (Component 2) (record { to = third; left = read s 1 first; right = read s 2 second })) in
    let c : P (Binary 2 Xor (Component 2) (Component 3)) = xor_faultless s 2 (Component 2) (Component 3) (record { to = second; left = read s 2 second; right = read s 3 third }) in
    let one = Binary 2 choice.first (Component 0) (unsigned choice.constant) in
    let two = Binary 3 choice.second (Component 1) (Component 2) in
    let three = Binary 2 Xor (Component 2) (Component 3) in
    let end = three ∷ Return (Component 2) ∷ [] in
    let last = All-cons P three (Return (Component 2) ∷ []) c (All-cons P (Return (Component 2)) [] (return_faultless functions f like) (All-nil P)) in
    let rest = All-append P (calls place choice.call) end (calls_faultless functions f place choice.call like sound.call) last in
    All-cons P one (two ∷ (calls place choice.call ++ end)) a (All-cons P two (calls place choice.call ++ end) b rest)

calls_values : (functions : List Function) (place : ℕ → ℕ) (o : Option Chosen) → IfSome o (IsSoundCall functions place) → All HasValues (calls place o)
calls_values functions place None h = All-nil _
calls_values functions place (Some call) h =
    let args = One (Component 2) ∷ One call.argument ∷ [] in
    All-cons HasValues (call_to (place call.callee) 3 (Component 2) call.argument) [] (All-from_recursion IsPassed args (tt, (h.argument.value, tt))) (All-nil _)

body_values : (functions : List Function) (place : ℕ → ℕ) (choice : Choice) → IsSound functions place choice → All HasValues (body_of place choice)
body_values functions place choice sound =
    let one = Binary 2 choice.first (Component 0) (unsigned choice.constant) in
    let two = Binary 3 choice.second (Component 1) (Component 2) in
    let end = Binary 2 Xor (Component 2) (Component 3) ∷ Return (Component 2) ∷ [] in
    let last = All-from_recursion HasValues end ((tt, tt), (tt, tt)) in
    let rest = All-append HasValues (calls place choice.call) end (calls_values functions place choice.call sound.call) last in
    All-cons HasValues one (two ∷ (calls place choice.call ++ end)) (tt, unsigned_in_range choice.constant sound.constant)
    (All-cons HasValues two (calls place choice.call ++ end) (tt, tt) rest)

definition_head : (place : ℕ → ℕ) (n : ℕ) (choice : Choice) (o : Option Chosen) → choice.call ≡ o → head_kind false 0 (definition place n choice) ≡ None
unfolding definition
definition_head place n choice None e = rw e refl
definition_head place n choice (Some call) e = rw e refl

definition_bound : (place : ℕ → ℕ) (n : ℕ) (choice : Choice) (o : Option Chosen) → choice.call ≡ o → bound_kind (definition place n choice) ≡ None
unfolding definition
definition_bound place n choice None e = rw e refl
definition_bound place n choice (Some call) e = rw e refl

pub definition_faultless : (functions : List Function) (place : ℕ → ℕ) (n : ℕ) (choice : Choice) → n < 2 ^ 32 → IsSound functions place choice
    → IsFaultless functions (definition place n choice)
unfolding definition
definition_faultless functions place n choice small sound = record {
  stated = record {
    name = name_of-IsIdentifier n small;
    variables = variables_stated;
    labels = All-nil _;
    parameters = omega arith;
    values = body_values functions place choice sound;
    declared = λ e. absurd (cc e);
  };
  head = definition_head place n choice choice.call refl;
  statements = body_faultless functions (definition place n choice) place choice (record { variables = refl; result = refl }) sound;
  bound = definition_bound place n choice choice.call refl;
}

-- ---- main

-- each tenth function stands at its place
abbrev pub AreCallable : List Function → (ℕ → ℕ) → ℕ → Type 0
AreCallable functions place n = (k : ℕ) → k < n → IsCallable functions (place (10 * k))

rounds_each : (P : Statement → Type 0) (place : ℕ → ℕ) (state n : ℕ)
    → ((k : ℕ) → k < n → All P (round place (10 * k) (draw state k 3))) → All P (rounds place state n)
rounds_each P place state zero each = subst (λ xs. All P xs) (sym (rounds-none place state)) (All-nil P)
rounds_each P place state (suc n) each =
    let e : suc n ≡ n + 1 = omega arith in
    let more = ap (rounds place state) e ∙ rounds-more place state n in
    subst (λ xs. All P xs) (sym more)
    (All-append P (rounds place state n) (round place (10 * n) (draw state n 3)) (rounds_each P place state n (λ k low. each k (omega (arith, low)))) (each n (omega arith)))

length-rounds : (place : ℕ → ℕ) (state n : ℕ) → length (rounds place state n) ≡ 2 * n
length-rounds place state zero = ap length (rounds-none place state)
length-rounds place state (suc n) =
    let e : suc n ≡ n + 1 = omega arith in
    let more = ap (λ (k : ℕ). length (rounds place state k)) e ∙ ap length (rounds-more place state n)
    ∙ length-append (rounds place state n) (round place (10 * n) (draw state n 3)) in
    let before = length-rounds place state n in
    omega (arith, more, before)

abbrev cost : Statement → ℕ
cost st = 7 + 11 * operands_in main_variables st

cost-rounds : (place : ℕ → ℕ) (state n : ℕ) → sum_by cost (rounds place state n) ≡ 58 * n
cost-rounds place state zero = ap (sum_by cost) (rounds-none place state)
cost-rounds place state (suc n) =
    let e : suc n ≡ n + 1 = omega arith in
    let more = ap (λ (k : ℕ). sum_by cost (rounds place state k)) e ∙ ap (sum_by cost) (rounds-more place state n)
    ∙ sum_by-append cost (rounds place state n) (round place (10 * n) (draw state n 3)) in
    let before = cost-rounds place state n in
    omega (arith, more, before)

-- what holds of the first statement, of each round and of the end holds of all statements of `main`
main_each : (P : Statement → Type 0) (place : ℕ → ℕ) (count state : ℕ) → P (Copy 0 (unsigned 0))
    → ((k : ℕ) → k < div_ceil count 10 → All P (round place (10 * k) (draw state k 3))) → All P main_end → All P (main_body place count state)
unfolding main_body
main_each P place count state first each last =
    All-cons P (Copy 0 (unsigned 0)) (rounds place state (div_ceil count 10) ++ main_end) first (All-append P (rounds place state (div_ceil count 10)) main_end (rounds_each P place state (div_ceil count 10) each) last)

-- variables and result of `main`
record IsLikeMain (f : Function) : Type 0 where
  variables : f.variables ≡ main_variables
  result : f.result ≡ returned.Scalar Int

round_faultless : (functions : List Function) (f : Function) (place : ℕ → ℕ) (n drawn : ℕ) → IsLikeMain f → IsCallable functions (place n)
    → AreFaultless (scope functions f) (round place n drawn)
round_faultless functions f place n drawn like at =
    let s = scope functions f in
    let P = λ (st : Statement). statement_kind s st ≡ None in
    let zeroth : IsUnsignedComponent s 0 = record { known = rw like.variables refl; typed = rw like.variables refl } in
    let first : IsUnsignedComponent s 1 = record { known = rw like.variables refl; typed = rw like.variables refl } in
    let xor = Binary 0 Xor (Component 0) (Component 1) in
    All-cons P (call_to (place n) 1 (unsigned n) (unsigned drawn)) (xor ∷ []) (call_faultless functions f (place n) 1 (unsigned n) (unsigned drawn) at first (literal s n) (literal s drawn))
    (All-cons P xor [] (xor_faultless s 0 (Component 0) (Component 1) (record { to = zeroth; left = read s 0 zeroth; right = read s 1 first })) (All-nil P))

main_end_faultless : (functions : List Function) (f : Function) → IsLikeMain f → AreFaultless (scope functions f) main_end
main_end_faultless functions f like =
    let s = scope functions f in
    All-from_recursion (λ (st : Statement). statement_kind s st ≡ None) main_end
    (rw (like.variables) refl, (rw (like.variables) refl, (rw (like.result) refl, tt)))

copy_faultless : (functions : List Function) (f : Function) → IsLikeMain f → statement_kind (scope functions f) (Copy 0 (unsigned 0)) ≡ None
copy_faultless functions f like = rw like.variables refl

filter_map-none : {X Y : Type 0} (h : X → Option Y) (xs : List X) → All (λ x. h x ≡ None) xs → filter_map h xs ≡ []
filter_map-none h [] each = refl
filter_map-none h (x ∷ xs) each =
    let here : h x ≡ None = each 0 x (omega arith) in
    rw here (filter_map-none h xs (λ i d inside. each (suc i) d (omega (arith, inside))))

-- no labels, and none gone to
labels_none : (f : Function) → f.labels ≡ [] → All (λ st. label_of st ≡ None) f.body → All (λ st. goes_within 0 st ≡ true) f.body → labels_stand f ≡ true
labels_none f none unlabelled within =
    let all = list_all-from_AllPass (goes_within 0) f.body within in
    rw (none, filter_map-none label_of f.body unlabelled, all) refl

last_of : {X : Type 0} (xs : List X) (x : X) → slice_get (xs ++ x ∷ []) (length (xs ++ x ∷ []) - 1) ≡ Some x
last_of xs x =
    let long = length-append xs (x ∷ []) in
    let e : length (xs ++ x ∷ []) - 1 ≡ length xs = omega (arith, long) in
    ap (slice_get (xs ++ x ∷ [])) e ∙ slice_get-get_or (xs ++ x ∷ []) (length xs) x (omega (arith, long)) ∙ ap (λ y. Some y) (get_or-append_seam xs x [] x)

ends_with_return : (xs : List Statement) (a : Operand) → ends_closed (xs ++ Return a ∷ []) ≡ true
ends_with_return xs a = rw (last_of xs (Return a)) refl

head_passes : (a b c d e : Bool) → a ≡ true → b ≡ true → c ≡ true → d ≡ true → e ≡ true
    → first_failed ((a, DoubleName) ∷ (b, UnknownName) ∷ (c, TooMany) ∷ (d, BadLabel) ∷ (e, OpenEnd) ∷ []) ≡ None
head_passes a b c d e p q r s t = rw (p, q, r, s, t) refl

abbrev zero_int : Operand
zero_int = Literal (record { ty = Int; num = pos 0 })

-- `main` has two parts: all but its last statement, and `return 0;`
main_parts : (place : ℕ → ℕ) (count state : ℕ) → List Statement
main_parts place count state = Copy 0 (unsigned 0) ∷ (rounds place state (div_ceil count 10) ++ (Convert 2 (Component 0) ∷ Putchar (Component 2) ∷ []))

main_ends : (place : ℕ → ℕ) (count state : ℕ) → ends_closed (main_body place count state) ≡ true
unfolding main_body main_parts
main_ends place count state =
    let e = append_assoc (rounds place state (div_ceil count 10)) (Convert 2 (Component 0) ∷ Putchar (Component 2) ∷ []) (Return zero_int ∷ []) in
    ap (λ (xs : List Statement). ends_closed (Copy 0 (unsigned 0) ∷ xs)) (sym e)
    ∙ ends_with_return (main_parts place count state) zero_int

length-main : (place : ℕ → ℕ) (count state : ℕ) → length (main_body place count state) ≡ 4 + 2 * div_ceil count 10
unfolding main_body
length-main place count state =
    let n = div_ceil count 10 in
    let all = length-append (rounds place state n) main_end in
    let many = length-rounds place state n in
    omega (arith, all, many)

cost-main : (place : ℕ → ℕ) (count state : ℕ) → sum_by cost (main_body place count state) ≡ 72 + 58 * div_ceil count 10
unfolding main_body
cost-main place count state =
    let n = div_ceil count 10 in
    let first = sum_by-cons cost (Copy 0 (unsigned 0)) (rounds place state n ++ main_end) in
    let all = sum_by-append cost (rounds place state n) main_end in
    let many = cost-rounds place state n in
    omega (arith, first, all, many)

main_labels : (place : ℕ → ℕ) (count state : ℕ) → labels_stand (main_of place count state) ≡ true
unfolding main_of
main_labels place count state =
    let P = λ (st : Statement). label_of st ≡ None in
    let Q = λ (st : Statement). goes_within 0 st ≡ true in
    labels_none (main_of place count state) refl
    (main_each P place count state refl (λ k low. All-from_recursion P (round place (10 * k) (draw state k 3)) (refl, (refl, tt))) (All-from_recursion P main_end (refl, (refl, (refl, tt)))))
    (main_each Q place count state refl (λ k low. All-from_recursion Q (round place (10 * k) (draw state k 3)) (refl, (refl, tt))) (All-from_recursion Q main_end (refl, (refl, (refl, tt)))))

main_counts : (place : ℕ → ℕ) (count state : ℕ) → count ≤ 22580 → counts_fit (main_of place count state) ≡ true
unfolding main_of
main_counts place count state few =
    let long = length-main place count state in
    rw (le-leb 1 (length (main_body place count state)) (omega (arith, long)), le-leb (length (main_body place count state)) 8192 (omega (arith, long, few))) refl

bound_passes : (b : Bool) → b ≡ true → first_failed ((b, TooMany) ∷ []) ≡ None
bound_passes b e = rw e refl

main_bound : (place : ℕ → ℕ) (count state : ℕ) → count ≤ 22580 → bound_kind (main_of place count state) ≡ None
unfolding main_of
main_bound place count state few =
    let all = cost-main place count state in
    bound_passes _ (le-leb (code_bound_of (main_of place count state)) 524288 (omega (arith, all, few)))

drawn_below_three : (state k : ℕ) → draw state k 3 < 3
drawn_below_three state k = draw_below state k 3 (omega arith)

round_values : (place : ℕ → ℕ) (n drawn : ℕ) → n < 2 ^ 32 → drawn < 2 ^ 32 → All HasValues (round place n drawn)
round_values place n drawn a b =
    let args = One (unsigned n) ∷ One (unsigned drawn) ∷ [] in
    let passed = All-from_recursion IsPassed args (unsigned_in_range n a, (unsigned_in_range drawn b, tt)) in
    All-from_recursion HasValues (round place n drawn) (passed, ((tt, tt), tt))

main_end_values : All HasValues main_end
main_end_values = All-from_recursion HasValues main_end (tt, (tt, (record { above = record { le = tt }; below = record { le = tt } }, tt)))

main_values : (place : ℕ → ℕ) (count state : ℕ) → count ≤ 22580 → All HasValues (main_body place count state)
main_values place count state few =
    main_each HasValues place count state (unsigned_in_range 0 (omega arith))
    (λ k low. round_values place (10 * k) (draw state k 3) (omega (arith, low, few)) (omega (arith, drawn_below_three state k))) main_end_values

pub main_faultless : (functions : List Function) (place : ℕ → ℕ) (count state : ℕ) → count ≤ 22580 → AreCallable functions place (div_ceil count 10)
    → IsFaultless functions (main_of place count state)
unfolding main_of
main_faultless functions place count state few at =
    let f = main_of place count state in
    let like : IsLikeMain f = record { variables = refl; result = refl } in
    record {
      stated = record {
        name = refl;
        variables = main_variables_stated;
        labels = All-nil _;
        parameters = omega arith;
        values = main_values place count state few;
        declared = λ e. absurd (cc e);
      };
      head = head_passes true true _ _ _ refl refl (main_counts place count state few) (main_labels place count state) (main_ends place count state);
      statements = main_each (λ st. statement_kind (scope functions f) st ≡ None) place count state (copy_faultless functions f like)
          (λ k low. round_faultless functions f place (10 * k) (draw state k 3) like (at k low)) (main_end_faultless functions f like);
      bound = main_bound place count state few;
    }
