-- Each set component of a frame has the value that its jump function gives on the frame's entry values, from the entry on.
use Rattle.std.proofs.Common.{◌≡◌, ◌+◌, ◌<◌, ◌++◌, ℕ, suc, List, [], ◌∷◌, length, replicate, Bool, true, false, true≢false, Some, None, refl, sym, ap, ◌∙◌, subst, inl, inr, arith}
use Rattle.std.specs.Prelude.{Option, ◌&&◌, if◌then◌else◌, slice_get, slice_set, option_and_then, nat_eq}
use Rattle.std.proofs.lemmas.Bool.Decides.{nat_tests}
use Rattle.std.proofs.lemmas.Option.{same_Some}
use Rattle.gimple_ir.specs.declared.types.ScalarType.{ScalarType}
use Rattle.gimple_ir.specs.declared.types.UnaryOp.{UnaryOp}
use Rattle.gimple_ir.specs.declared.types.BinaryOp.{BinaryOp}
use Rattle.gimple_ir.specs.declared.types.Operand.{Operand}
use Rattle.gimple_ir.specs.declared.types.Operand.TheVariants.{Component, Literal}
use Rattle.gimple_ir.specs.declared.types.Value.{Value}
use Rattle.gimple_ir.specs.declared.types.Function.{Function}
use Rattle.gimple_ir.specs.declared.types.Statement.{Statement}
use Rattle.gimple_ir.specs.declared.types.Statement.TheVariants.{CopyStruct}
use Rattle.gimple_ir.specs.declared.summary.JumpFunction.{JumpFunction}
use Rattle.gimple_ir.specs.declared.summary.JumpFunction.TheVariants as jump
use Rattle.gimple_ir.specs.declared.lattice.Lattice.{Lattice}
use Rattle.gimple_ir.specs.declared.lattice.Lattice.TheVariants.{Top, Const, Bottom}
use Rattle.gimple_ir.specs.Values.{unary_of, binary_of, convert_of}
use Rattle.gimple_ir.specs.CodeBound.{components_of, parameter_components}
use Rattle.gimple_meaning.specs.Acts.{cell, value_at, operands_fit, operation_of}
use Rattle.gimple_meaning.specs.Source.{first_component, taken}
use Rattle.func_summary.specs.declared.assignments.Assignment.{Assignment}
use Rattle.func_summary.specs.JumpFunctions.{is_parameter, copied, computed, unary_jump, convert_jump, binary_jump, assigns, copy_of_field, assignments_in, assignments_to, assignments_of, keeps_entry, over_entry, sole_value, component_jump, jump_of}
use Rattle.ipa_plan.specs.Vectors.{lattice_at, of_result, lifted, jump_under}
use Rattle.version_laws.proofs.Members.{In, in_flat_map, in_filter, in_range}
use Rattle.version_laws.proofs.Cells.{cell-set_other, cell-set_same, cell-taken}

-- the value is what a jump function gives on the entry values
abbrev pub JumpGives : JumpFunction → List (Option Value) → Value → Type 0
JumpGives jump.Unknown entry v = Unit {0}
JumpGives (jump.Const x) entry v = v ≡ x
JumpGives (jump.Pass i) entry v = cell entry i ≡ Some v
JumpGives (jump.Unary op i) entry v = option_and_then (unary_of op) (cell entry i) ≡ Some v
JumpGives (jump.Convert ty i) entry v = option_and_then (λ a. Some (convert_of ty a)) (cell entry i) ≡ Some v
JumpGives (jump.Left op i x) entry v = option_and_then (λ a. binary_of op a x) (cell entry i) ≡ Some v
JumpGives (jump.Right op x i) entry v = option_and_then (λ a. binary_of op x a) (cell entry i) ≡ Some v

abbrev pub Knows : Function → List (Option Value) → List (Option Value) → Type 0
Knows f entry cells = (c : ℕ) (v : Value) → cell cells c ≡ Some v → JumpGives (component_jump f c) entry v

-- a vector holds of entry values: each component is unset or has its constant
abbrev pub Holds : List Lattice → List (Option Value) → Type 0
Holds vector entry = (c : ℕ) (x v : Value) → lattice_at vector c ≡ Const x → cell entry c ≡ Some v → v ≡ x

-- ---- one assignment

guarded : (b : Bool) (j : JumpFunction) (entry : List (Option Value)) (v : Value) → (b ≡ true → JumpGives j entry v) → JumpGives (if b then j else jump.Unknown) entry v
guarded true j entry v h = h refl
guarded false j entry v h = tt

some_given : (n : ℕ) (b : Bool) → nat_eq (suc n) 0 ≡ b → b ≡ false
some_given n false test = refl
some_given n true test = let none : suc n ≡ 0 = grind (arith, nat_tests) in absurd (omega (arith, none))

-- of a component that is assigned so, among other assignments or alone
gives_assigned : (f : Function) (to : ℕ) (entry : List (Option Value)) (v : Value) (value : JumpFunction) (given : List Assignment) (parameter : Bool) → In (assigns to value) given
    → JumpGives (over_entry f value) entry v → keeps_entry f to ≡ (parameter && nat_eq (length given) 0)
    → JumpGives (over_entry f (if parameter then jump.Pass to else sole_value given)) entry v
gives_assigned f to entry v value [] parameter member gives is = absurd member
gives_assigned f to entry v value (a ∷ more) true member gives is =
    guarded (keeps_entry f to) (jump.Pass to) entry v (λ kept. absurd (true≢false (sym kept ∙ is ∙ some_given (length more) (nat_eq (suc (length more)) 0) refl)))
gives_assigned f to entry v value (a ∷ []) false (inl same) gives is =
    subst (λ (b : Assignment). JumpGives (over_entry f b.value) entry v) same gives
gives_assigned f to entry v value (a ∷ []) false (inr member) gives is = absurd member
gives_assigned f to entry v value (a ∷ b ∷ more) false member gives is = tt

assigned_to : (f : Function) (to : ℕ) (value : JumpFunction) → In (assigns to value) (assignments_of f) → In (assigns to value) (assignments_to to (assignments_of f))
assigned_to f to value member =
    let same : nat_eq to to ≡ true = grind (arith, nat_tests) in
    in_filter (λ a. nat_eq a.to to) (assigns to value) (assignments_of f) same member

-- a frame that knows its entry still does after an assignment of its body
pub knows_set : (f : Function) (entry cells : List (Option Value)) (to : ℕ) (x : Option Value) (value : JumpFunction) → Knows f entry cells → In (assigns to value) (assignments_of f)
    → ((v : Value) → x ≡ Some v → JumpGives (over_entry f value) entry v) → Knows f entry (slice_set cells to x)
knows_set f entry cells to x value knows member gives = λ c v is. by c v (nat_eq c to) refl is
  where
    by : (c : ℕ) (v : Value) (same : Bool) → nat_eq c to ≡ same → cell (slice_set cells to x) c ≡ Some v → JumpGives (component_jump f c) entry v
    by c v false test is =
        let other : c ≡ to → ⊥ = grind (arith, nat_tests) in
        knows c v (sym (cell-set_other cells to c x other) ∙ is)
    by c v true test is =
        let same : c ≡ to = grind (arith, nat_tests) in
        let there : cell (slice_set cells to x) to ≡ Some v = subst (λ (i : ℕ). cell (slice_set cells to x) i ≡ Some v) same is in
        subst (λ (i : ℕ). JumpGives (component_jump f i) entry v) (sym same)
        (gives_assigned f to entry v value (assignments_to to (assignments_of f)) (is_parameter f to) (assigned_to f to value member) (gives v (cell-set_same cells to x v there)) refl)

-- ---- what the assignments give

passes_by : (f : Function) (x : ℕ) (parameter unassigned : Bool) (other : JumpFunction) → (parameter && unassigned) ≡ true → keeps_entry f x ≡ true
    → over_entry f (if parameter then jump.Pass x else other) ≡ jump.Pass x
passes_by f x true unassigned other both kept = ap (λ (b : Bool). if b then jump.Pass x else jump.Unknown) kept
passes_by f x false unassigned other both kept = absurd (true≢false (sym both))

-- what keeps its entry value has it
entry_kept : (f : Function) (entry cells : List (Option Value)) (x : ℕ) (a : Value) → Knows f entry cells → keeps_entry f x ≡ true → cell cells x ≡ Some a → cell entry x ≡ Some a
entry_kept f entry cells x a knows kept is =
    subst (λ (j : JumpFunction). JumpGives j entry a)
    (passes_by f x (is_parameter f x) (nat_eq (length (assignments_to x (assignments_of f))) 0) (sole_value (assignments_to x (assignments_of f))) kept kept) (knows x a is)

computed_gives : (f : Function) (entry : List (Option Value)) (r : Option Value) (v : Value) → r ≡ Some v → JumpGives (over_entry f (computed r)) entry v
computed_gives f entry None v is = tt
computed_gives f entry (Some x) v is = sym (same_Some x v is)

pub gives_copy : (f : Function) (entry cells : List (Option Value)) (a : Operand) (v : Value) → Knows f entry cells → value_at cells a ≡ Some v → JumpGives (over_entry f (copied a)) entry v
gives_copy f entry cells (Literal x) v knows is = sym (same_Some x v is)
gives_copy f entry cells (Component x) v knows is = guarded (keeps_entry f x) (jump.Pass x) entry v (λ kept. entry_kept f entry cells x v knows kept is)

pub gives_unary : (f : Function) (entry cells : List (Option Value)) (op : UnaryOp) (a : Operand) (x v : Value) → Knows f entry cells → value_at cells a ≡ Some x → unary_of op x ≡ Some v
    → JumpGives (over_entry f (unary_jump op a)) entry v
gives_unary f entry cells op (Literal y) x v knows is gives = computed_gives f entry (unary_of op y) v (ap (unary_of op) (same_Some y x is) ∙ gives)
gives_unary f entry cells op (Component i) x v knows is gives =
    guarded (keeps_entry f i) (jump.Unary op i) entry v (λ kept. ap (option_and_then (unary_of op)) (entry_kept f entry cells i x knows kept is) ∙ gives)

pub gives_convert : (f : Function) (entry cells : List (Option Value)) (ty : ScalarType) (a : Operand) (x : Value) → Knows f entry cells → value_at cells a ≡ Some x
    → JumpGives (over_entry f (convert_jump (Some ty) a)) entry (convert_of ty x)
gives_convert f entry cells ty (Literal y) x knows is = ap (convert_of ty) (sym (same_Some y x is))
gives_convert f entry cells ty (Component i) x knows is =
    guarded (keeps_entry f i) (jump.Convert ty i) entry (convert_of ty x)
    (λ kept. ap (option_and_then (λ (y : Value). Some (convert_of ty y))) (entry_kept f entry cells i x knows kept is))

-- an operation that is defined is one on two numbers
operation_defined : (op : BinaryOp) (x y v : Value) → operation_of op x y ≡ Some v → binary_of op x y ≡ Some v
operation_defined op x y v is = by (operands_fit op x y) is
  where
    by : (b : Bool) → (if b then binary_of op x y else None) ≡ Some v → binary_of op x y ≡ Some v
    by true h = h
    by false h = cc

gives_both : (f : Function) (entry cells : List (Option Value)) (op : BinaryOp) (a b : Operand) (x y v : Value) → Knows f entry cells → value_at cells a ≡ Some x → value_at cells b ≡ Some y
    → binary_of op x y ≡ Some v → JumpGives (over_entry f (binary_jump op a b)) entry v
gives_both f entry cells op (Literal c) (Literal d) x y v knows is also gives =
    computed_gives f entry (binary_of op c d) v (ap (λ (z : Value). binary_of op z d) (same_Some c x is) ∙ ap (binary_of op x) (same_Some d y also) ∙ gives)
gives_both f entry cells op (Component i) (Literal d) x y v knows is also gives =
    guarded (keeps_entry f i) (jump.Left op i d) entry v
    (λ kept. ap (option_and_then (λ (z : Value). binary_of op z d)) (entry_kept f entry cells i x knows kept is) ∙ ap (binary_of op x) (same_Some d y also) ∙ gives)
gives_both f entry cells op (Literal c) (Component i) x y v knows is also gives =
    guarded (keeps_entry f i) (jump.Right op c i) entry v
    (λ kept. ap (option_and_then (binary_of op c)) (entry_kept f entry cells i y knows kept also) ∙ ap (λ (z : Value). binary_of op z y) (same_Some c x is) ∙ gives)
gives_both f entry cells op (Component i) (Component j) x y v knows is also gives = tt

pub gives_binary : (f : Function) (entry cells : List (Option Value)) (op : BinaryOp) (a b : Operand) (x y v : Value) → Knows f entry cells → value_at cells a ≡ Some x → value_at cells b ≡ Some y
    → operation_of op x y ≡ Some v → JumpGives (over_entry f (binary_jump op a b)) entry v
gives_binary f entry cells op a b x y v knows is also gives = gives_both f entry cells op a b x y v knows is also (operation_defined op x y v gives)

-- an argument that is set is what its jump function gives
pub argument_gives : (f : Function) (entry cells : List (Option Value)) (a : Operand) (v : Value) → Knows f entry cells → value_at cells a ≡ Some v → JumpGives (jump_of f a) entry v
argument_gives f entry cells (Literal x) v knows is = sym (same_Some x v is)
argument_gives f entry cells (Component c) v knows is = knows c v is

-- ---- where the assignments stand

pub assigned_at : (f : Function) (i : ℕ) (s : Statement) (a : Assignment) → slice_get f.body i ≡ Some s → In a (assignments_in f s) → In a (assignments_of f)
assigned_at f i s a here member = in_flat_map (assignments_in f) f.body i s a here member

-- each field of a struct copy
pub fields_assigned : (f : Function) (i to from : ℕ) → slice_get f.body i ≡ Some (CopyStruct to from) → (j : ℕ) → j < components_of f.variables from
    → In (assigns (first_component f.variables to + j) (jump.Pass (first_component f.variables from + j))) (assignments_of f)
fields_assigned f i to from here j lt =
    let first : 0 + j ≡ j = omega arith in
    assigned_at f i (CopyStruct to from) (copy_of_field f.variables to from j) here
    (subst (λ (n : ℕ). In (copy_of_field f.variables to from n) (assignments_in f (CopyStruct to from))) first (in_range (copy_of_field f.variables to from) 0 (components_of f.variables from) j lt))

-- ---- at the entry

pub knows_entry : (f : Function) (more : ℕ) (args : List (Option Value))
    → Knows f (taken 0 (parameter_components f) args ++ replicate more None) (taken 0 (parameter_components f) args ++ replicate more None)
knows_entry f more args = λ c v is. by c v (is_parameter f c) refl is
  where
    entry : List (Option Value)
    entry = taken 0 (parameter_components f) args ++ replicate more None

    by : (c : ℕ) (v : Value) (b : Bool) → is_parameter f c ≡ b → cell entry c ≡ Some v
        → JumpGives (over_entry f (if b then jump.Pass c else sole_value (assignments_to c (assignments_of f)))) entry v
    by c v true test is = guarded (keeps_entry f c) (jump.Pass c) entry v (λ kept. is)
    by c v false test is =
        let inside : c < parameter_components f = (cell-taken (parameter_components f) more c args v is).0 in
        absurd (grind (arith, nat_tests))

-- ---- under a vector

lift_gives : (op : Value → Option Value) (l : Lattice) (a : Option Value) (v x : Value) → ((y z : Value) → l ≡ Const y → a ≡ Some z → z ≡ y)
    → option_and_then op a ≡ Some v → lifted op l ≡ Const x → v ≡ x
lift_gives op Top a v x h gives is = cc
lift_gives op Bottom a v x h gives is = cc
lift_gives op (Const y) None v x h gives is = cc
lift_gives op (Const y) (Some z) v x h gives is = by (op y) (ap op (sym (h y z refl refl)) ∙ gives) is
  where
    by : (r : Option Value) → r ≡ Some v → of_result r ≡ Const x → v ≡ x
    by None e k = cc
    by (Some w) e k = cc

pub jump_holds : (j : JumpFunction) (vector : List Lattice) (entry : List (Option Value)) (v x : Value) → Holds vector entry
    → JumpGives j entry v → jump_under j vector ≡ Const x → v ≡ x
jump_holds jump.Unknown vector entry v x holds gives is = cc
jump_holds (jump.Const y) vector entry v x holds gives is = cc
jump_holds (jump.Pass i) vector entry v x holds gives is = holds i x v is gives
jump_holds (jump.Unary op i) vector entry v x holds gives is = lift_gives (unary_of op) (lattice_at vector i) (cell entry i) v x (holds i) gives is
jump_holds (jump.Convert ty i) vector entry v x holds gives is = lift_gives (λ a. Some (convert_of ty a)) (lattice_at vector i) (cell entry i) v x (holds i) gives is
jump_holds (jump.Left op i y) vector entry v x holds gives is = lift_gives (λ a. binary_of op a y) (lattice_at vector i) (cell entry i) v x (holds i) gives is
jump_holds (jump.Right op y i) vector entry v x holds gives is = lift_gives (λ a. binary_of op y a) (lattice_at vector i) (cell entry i) v x (holds i) gives is
