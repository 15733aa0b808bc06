-- What a version's statements read is alive, and so is what its calls pass for a component that is needed.
use Rattle.std.proofs.Common.{◌≡◌, ◌+◌, ◌<◌, ℕ, zero, suc, List, [], ◌∷◌, ◌++◌, map, Bool, true, false, true≢false, cond, Some, None, refl, sym, ap, ap₂, ◌∙◌, subst, arith}
use Rattle.std.specs.Prelude.{Option, ◌&&◌, ◌||◌, not, slice_get, nat_eq, if◌then◌else◌}
use Rattle.std.specs.List.{flat_map, list_any, range_with_len}
use Rattle.std.specs.Option.{option_map_or}
use Rattle.std.proofs.lemmas.Option.{none-some, same_Some, slice_get_within}
use Rattle.std.proofs.lemmas.Bool.Decides.{nat_tests}
use Rattle.std.proofs.lemmas.List.{map-append}
use Rattle.std.proofs.lemmas.List.Folds.{list_any-append}
use Rattle.gimple_ir.specs.declared.types.Operand.{Operand}
use Rattle.gimple_ir.specs.declared.types.Operand.TheVariants.{Component, Literal}
use Rattle.gimple_ir.specs.declared.types.Arg.{Arg}
use Rattle.gimple_ir.specs.declared.types.Arg.TheVariants.{One, Whole}
use Rattle.gimple_ir.specs.declared.types.Variable.{Variable}
use Rattle.gimple_ir.specs.declared.types.Function.{Function}
use Rattle.gimple_ir.specs.declared.types.Program.{Program}
use Rattle.gimple_ir.specs.declared.types.Statement.{Statement}
use Rattle.gimple_ir.specs.declared.types.Statement.TheVariants.{Cond, Switch, Return, Copy, Unary, Convert, Binary, Load, Store, CopyStruct, Putchar, Exit}
use Rattle.gimple_ir.specs.declared.lattice.Binding.{Binding}
use Rattle.gimple_ir.specs.declared.lattice.Binding.TheVariants as binding
use Rattle.gimple_ir.specs.declared.summary.EdgeArg.{EdgeArg}
use Rattle.gimple_ir.specs.declared.summary.ParamFacts.{ParamFacts}
use Rattle.gimple_ir.specs.declared.summary.Summary.{Summary}
use Rattle.gimple_ir.specs.declared.plan.CallPlan.{CallPlan}
use Rattle.gimple_ir.specs.declared.plan.Version.{Version}
use Rattle.gimple_ir.specs.declared.plan.Plan.{Plan}
use Rattle.gimple_ir.specs.declared.merged.Merged.{Merged}
use Rattle.gimple_ir.specs.CodeBound.{components_of, parameter_components}
use Rattle.gimple_meaning.specs.Source.{first_component, components_from, operands_of}
use Rattle.func_summary.specs.declared.places.Place.{Place}
use Rattle.func_summary.specs.JumpFunctions.{is_parameter, jump_of}
use Rattle.func_summary.specs.Summaries as summaries
use Rattle.func_summary.specs.Summaries.{place_of, operand_places, whole_places, place_of_field, places_of, places_naming, facts_of, is_used_here, params_of, component_argument, field_argument, edge_arguments}
use Rattle.ipa_plan.specs.Rules.{Choice, is_dead, IsCallOf}
use Rattle.program_link.proofs.VersionFacts.{VersionFacts}
use Rattle.version_laws.specs.States.{is_alive}
use Rattle.version_laws.proofs.Lists.{mapped_at, ranged}
use Rattle.version_laws.proofs.Bindings.{binding_says}
use Rattle.version_laws.proofs.Bodies.{edge_with}

-- ---- what is needed is alive

needed_alive : (p : Program) (merged : Merged) (plan : Plan) (choice : Choice) (v : Version) (f : Function) → VersionFacts p merged plan choice v f → (x : ℕ)
    → (x < parameter_components f → choice.needed v.function x ≡ true) → is_alive v x ≡ true
needed_alive p merged plan choice v f k x needed = by (slice_get v.bindings x) refl
  where
    first : 0 + x ≡ x
    first = omega arith

    by : (o : Option Binding) → slice_get v.bindings x ≡ o → option_map_or (λ b. not (is_dead b)) o true ≡ true
    by None at = refl
    by (Some binding.Dead) at =
        let says = binding_says (choice.needed v.function) v.vector v.bindings k.known.bindings x binding.Dead at in
        let inside : x < parameter_components f = omega (arith, slice_get_within v.bindings x binding.Dead at, k.bindings) in
        absurd (true≢false (sym (needed inside) ∙ ap (choice.needed v.function) (sym first) ∙ says))
    by (Some (binding.Const c)) at = refl
    by (Some (binding.Arg n)) at = refl

-- ---- what is used here is needed

-- the place names the component, and is no argument
abbrev names_here : ℕ → Place → Bool
names_here x place = nat_eq place.component x && not place.is_argument

or_left : (a b : Bool) → a ≡ true → (a || b) ≡ true
or_left true b h = refl
or_left false b h = absurd (true≢false (sym h))

or_right : (a b : Bool) → b ≡ true → (a || b) ≡ true
or_right true b h = refl
or_right false b h = h

-- a place of a statement of the body is one of the body
any_in : (g : Statement → List Place) (test : Place → Bool) (body : List Statement) (i : ℕ) (s : Statement) → slice_get body i ≡ Some s → list_any test (g s) ≡ true → list_any test (flat_map g body) ≡ true
any_in g test [] i s at h = absurd (none-some s at)
any_in g test (t ∷ body) zero s at h =
    list_any-append test (g t) (flat_map g body)
    ∙ or_left (list_any test (g t)) (list_any test (flat_map g body)) (ap (λ (u : Statement). list_any test (g u)) (same_Some t s at) ∙ h)
any_in g test (t ∷ body) (suc i) s at h =
    list_any-append test (g t) (flat_map g body) ∙ or_right (list_any test (g t)) (list_any test (flat_map g body)) (any_in g test body i s at h)

-- of those that name the component, one is no argument
used_by : (x : ℕ) (places : List Place) → list_any (names_here x) places ≡ true → is_used_here (places_naming x places) ≡ true
used_by x [] h = h
used_by x (place ∷ places) h = by (nat_eq place.component x) (not place.is_argument) refl h (used_by x places)
  where
    rest : List Place
    rest = places_naming x places

    by : (b c : Bool) → not place.is_argument ≡ c → ((b && c) || list_any (names_here x) places) ≡ true → (list_any (names_here x) places ≡ true → is_used_here rest ≡ true)
        → is_used_here (cond b (place ∷ rest) rest) ≡ true
    by true true e h later = or_left (not place.is_argument) (is_used_here rest) e
    by true false e h later = or_right (not place.is_argument) (is_used_here rest) (later h)
    by false c e h later = later h

used_alive : (p : Program) (merged : Merged) (plan : Plan) (choice : Choice) (v : Version) (f : Function) → VersionFacts p merged plan choice v f → (i : ℕ) (s : Statement) → slice_get f.body i ≡ Some s → (x : ℕ)
    → list_any (names_here x) (summaries.operands_of f.variables s) ≡ true → is_alive v x ≡ true
used_alive p merged plan choice v f k i s at x named =
    needed_alive p merged plan choice v f k x
    (λ inside.
    let facts : ℕ → ParamFacts = λ y. facts_of (places_naming y (places_of f)) in
    let first : 0 + x ≡ x = omega arith in
    let here : slice_get k.known.function.summary.params x ≡ Some (facts x) =
    ap (λ (t : Summary). slice_get t.params x) k.truth.summary ∙ ranged facts 0 (parameter_components f) x inside ∙ ap (λ (y : ℕ). Some (facts y)) first in
    k.known.used x (facts x) here (used_by x (places_of f) (any_in (summaries.operands_of f.variables) (names_here x) f.body i s at named)))

-- ---- what a statement reads, but for arguments

abbrev pub AliveOperand : Version → Operand → Type 0
AliveOperand v (Component x) = is_alive v x ≡ true
AliveOperand v (Literal c) = Unit {0}

abbrev pub Reads : Version → List Variable → Statement → Type 0
Reads v variables (Cond op a b met missed) = AliveOperand v a × AliveOperand v b
Reads v variables (Switch a cases otherwise) = AliveOperand v a
Reads v variables (Return a) = AliveOperand v a
Reads v variables (Copy to a) = AliveOperand v a
Reads v variables (Unary to op a) = AliveOperand v a
Reads v variables (Convert to a) = AliveOperand v a
Reads v variables (Binary to op a b) = AliveOperand v a × AliveOperand v b
Reads v variables (Load to array a) = AliveOperand v a
Reads v variables (Store array a b) = AliveOperand v a × AliveOperand v b
Reads v variables (CopyStruct to from) = (j : ℕ) → j < components_of variables from → is_alive v (first_component variables from + j) ≡ true
Reads v variables (Putchar a) = AliveOperand v a
Reads v variables (Exit a) = AliveOperand v a
Reads v variables _ = Unit {0}

equal_number : (n : ℕ) → nat_eq n n ≡ true
equal_number n = grind (arith, nat_tests)

-- an operand that stands among places
named_operand : (x : ℕ) (rest : List Place) → list_any (names_here x) (operand_places false (Component x) ++ rest) ≡ true
named_operand x rest = or_left (nat_eq x x && true) (list_any (names_here x) rest) (ap (λ (b : Bool). b && true) (equal_number x))

operand_alive : (v : Version) (places : List Place) (a : Operand) → ((x : ℕ) → list_any (names_here x) places ≡ true → is_alive v x ≡ true)
    → ((x : ℕ) → list_any (names_here x) (operand_places false a) ≡ true → list_any (names_here x) places ≡ true) → AliveOperand v a
operand_alive v places (Component x) alive among = alive x (among x (named_operand x []))
operand_alive v places (Literal c) alive among = tt

-- both operands of two
left_among : (a b : Operand) (x : ℕ) → list_any (names_here x) (operand_places false a) ≡ true → list_any (names_here x) (operand_places false a ++ operand_places false b) ≡ true
left_among a b x h = list_any-append (names_here x) (operand_places false a) (operand_places false b) ∙ or_left (list_any (names_here x) (operand_places false a)) _ h

right_among : (a b : Operand) (x : ℕ) → list_any (names_here x) (operand_places false b) ≡ true → list_any (names_here x) (operand_places false a ++ operand_places false b) ≡ true
right_among a b x h = list_any-append (names_here x) (operand_places false a) (operand_places false b) ∙ or_right (list_any (names_here x) (operand_places false a)) _ h

two_alive : (v : Version) (a b : Operand) → ((x : ℕ) → list_any (names_here x) (operand_places false a ++ operand_places false b) ≡ true → is_alive v x ≡ true) → AliveOperand v a × AliveOperand v b
two_alive v a b alive = (
  operand_alive v (operand_places false a ++ operand_places false b) a alive (left_among a b),
  operand_alive v (operand_places false a ++ operand_places false b) b alive (right_among a b),
)

-- a component of a whole struct
whole_named : (variables : List Variable) (from k count j : ℕ) → j < count
    → list_any (names_here (first_component variables from + (k + j))) (map (place_of_field variables false from) (range_with_len k count)) ≡ true
whole_named variables from k zero j lt = absurd (omega (arith, lt))
whole_named variables from k (suc count) zero lt =
    let same : k + 0 ≡ k = omega arith in
    or_left (names_here (first_component variables from + (k + 0)) (place_of_field variables false from k)) _
    (ap (λ (b : Bool). b && true) (ap (λ (n : ℕ). nat_eq (first_component variables from + k) (first_component variables from + n)) same ∙ equal_number (first_component variables from + k)))
whole_named variables from k (suc count) (suc j) lt =
    let same : k + 1 + j ≡ k + suc j = omega arith in
    let later = whole_named variables from (k + 1) count j (omega (arith, lt)) in
    or_right (names_here (first_component variables from + (k + suc j)) (place_of_field variables false from k)) _
    (subst (λ (n : ℕ). list_any (names_here (first_component variables from + n)) (map (place_of_field variables false from) (range_with_len (k + 1) count)) ≡ true) same later)

reads_of : (v : Version) (variables : List Variable) (s : Statement) → ((x : ℕ) → list_any (names_here x) (summaries.operands_of variables s) ≡ true → is_alive v x ≡ true) → Reads v variables s
reads_of v variables (Cond op a b met missed) alive = two_alive v a b alive
reads_of v variables (Switch a cases otherwise) alive = operand_alive v _ a alive (λ x h. h)
reads_of v variables (Return a) alive = operand_alive v _ a alive (λ x h. h)
reads_of v variables (Copy to a) alive = operand_alive v _ a alive (λ x h. h)
reads_of v variables (Unary to op a) alive = operand_alive v _ a alive (λ x h. h)
reads_of v variables (Convert to a) alive = operand_alive v _ a alive (λ x h. h)
reads_of v variables (Binary to op a b) alive = two_alive v a b alive
reads_of v variables (Load to array a) alive = operand_alive v _ a alive (λ x h. h)
reads_of v variables (Store array a b) alive = two_alive v a b alive
reads_of v variables (CopyStruct to from) alive = λ j lt.
    let none : 0 + j ≡ j = omega arith in
    alive (first_component variables from + j)
    (subst (λ (n : ℕ). list_any (names_here (first_component variables from + n)) (whole_places variables false from) ≡ true) none (whole_named variables from 0 (components_of variables from) j lt))
reads_of v variables (Putchar a) alive = operand_alive v _ a alive (λ x h. h)
reads_of v variables (Exit a) alive = operand_alive v _ a alive (λ x h. h)
reads_of v variables _ alive = tt

-- the statement at a place reads what is alive
pub reads_alive : (p : Program) (merged : Merged) (plan : Plan) (choice : Choice) (v : Version) (f : Function) → VersionFacts p merged plan choice v f → (i : ℕ) (s : Statement) → slice_get f.body i ≡ Some s
    → Reads v f.variables s
reads_alive p merged plan choice v f k i s at = reads_of v f.variables s (used_alive p merged plan choice v f k i s at)

-- ---- arguments

-- what the summary says of an argument component
abbrev pub argument_of : Function → Operand → EdgeArg
argument_of f (Component x) = component_argument f x
argument_of f (Literal c) = record { jump = jump_of f (Literal c); source = None }

whole_arguments : (f : Function) (v k count : ℕ) → map (field_argument f v) (range_with_len k count) ≡ map (argument_of f) (components_from (first_component f.variables v + k) count)
whole_arguments f v k zero = refl
whole_arguments f v k (suc count) =
    let next : first_component f.variables v + (k + 1) ≡ first_component f.variables v + k + 1 = omega arith in
    ap (λ (more : List EdgeArg). component_argument f (first_component f.variables v + k) ∷ more)
    (whole_arguments f v (k + 1) count ∙ ap (λ (n : ℕ). map (argument_of f) (components_from n count)) next)

one_argument : (f : Function) (a : Arg) → edge_arguments f a ≡ map (argument_of f) (operands_of f.variables a)
one_argument f (One (Component x)) = refl
one_argument f (One (Literal c)) = refl
one_argument f (Whole v) =
    let none : first_component f.variables v + 0 ≡ first_component f.variables v = omega arith in
    whole_arguments f v 0 (components_of f.variables v) ∙ ap (λ (n : ℕ). map (argument_of f) (components_from n (components_of f.variables v))) none

pub arguments_of : (f : Function) (args : List Arg) → flat_map (edge_arguments f) args ≡ map (argument_of f) (flat_map (operands_of f.variables) args)
arguments_of f [] = refl
arguments_of f (a ∷ args) =
    ap₂ (λ (xs ys : List EdgeArg). xs ++ ys) (one_argument f a) (arguments_of f args)
    ∙ sym (map-append (argument_of f) (operands_of f.variables a) (flat_map (operands_of f.variables) args))

-- the argument component that an operand is
pub argument_at : (f : Function) (args : List Arg) (c : ℕ) (o : Operand) → slice_get (flat_map (operands_of f.variables) args) c ≡ Some o → slice_get (flat_map (edge_arguments f) args) c ≡ Some (argument_of f o)
argument_at f args c o at =
    ap (λ (xs : List EdgeArg). slice_get xs c) (arguments_of f args) ∙ mapped_at (argument_of f) (flat_map (operands_of f.variables) args) c o at

-- what a call passes for a component that its function needs is alive
pub passed_alive : (p : Program) (merged : Merged) (plan : Plan) (choice : Choice) (v : Version) (f : Function) → VersionFacts p merged plan choice v f → (place : ℕ) (to : Option ℕ) (g : ℕ) (args : List Arg) (call : CallPlan)
    → IsCallOf plan choice v (edge_with f place to g args) call → (c : ℕ) → choice.needed g c ≡ true → (o : Operand) → slice_get (flat_map (operands_of f.variables) args) c ≡ Some o → AliveOperand v o
passed_alive p merged plan choice v f k place to g args call rules c needed (Literal x) at = tt
passed_alive p merged plan choice v f k place to g args call rules c needed (Component x) at =
    needed_alive p merged plan choice v f k x
    (λ inside.
    let test : is_parameter f x ≡ true = grind (arith, nat_tests, inside) in
    rules.needed c x (component_argument f x) (argument_at f args c (Component x) at) (ap (λ (b : Bool). if b then Some x else None) test) needed)
