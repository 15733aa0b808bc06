-- What the checks of a module give of its functions and arrays, for a program that is made of them.
use Rattle.std.proofs.Common.{◌≡◌, ◌+◌, ◌<◌, ◌≤◌, ℕ, zero, suc, List, [], ◌∷◌, length, map, take, Bool, true, false, Some, None, refl, arith, subst}
use Rattle.std.specs.Prelude.{◌&&◌, ◌||◌, not, slice_get, nat_eq, nat_le}
use Rattle.std.specs.List.{list_all, list_any, flat_map}
use Rattle.gimple_ir.specs.declared.types.Array.{Array}
use Rattle.gimple_ir.specs.declared.types.Function.{Function}
use Rattle.gimple_ir.specs.declared.types.Module.{Module}
use Rattle.gimple_ir.specs.declared.types.Variable.{Variable}
use Rattle.gimple_ir.specs.declared.types.Statement.{Statement}
use Rattle.gimple_ir.specs.declared.types.Statement.TheVariants.{Load, Store, Call}
use Rattle.gimple_ir.specs.declared.fault.TypeKind.TheVariants.{DoubleName, UnknownName, TooMany, BadLabel, OpenEnd}
use Rattle.gimple_ir.specs.Names.{is_between, is_among, is_builtin, repeats}
use Rattle.gimple_ir.specs.CodeBound.{components_in, parameter_components, code_bound_of}
use Rattle.gimple_ir.specs.Statements.{Scope, knows, knows_component, knows_operand, knows_argument, knows_target, knows_array, knows_function, statement_kind}
use Rattle.gimple_ir.specs.Checks.{faults_from, fault_at, struct_fault, array_kind, array_fault, function_fault, statements_fault, names_before, is_extern, head_kind, bound_kind, scope_in, body_of, counts_fit, labels_stand, ends_closed, knows_struct}
use Rattle.gimple_ir.specs.Programs.{IsChecked, IsIdentifier, AgreesIn, IsStatedArray, IsStatedFunction}
use Rattle.func_summary.specs.Summaries.{arrays_in}
use Rattle.func_summary.proofs.Checked.{both-true, below, within, three-none, three-pass, fault_at-none, faults_from-none, bound-passes, body-none, all_at}
use Rattle.lto_object.proofs.CheckedFacts.{all_true}
use Rattle.lto_object.specs.Objects.{functions_in, named_arrays, named_functions}
use Rattle.symbol_resolution.proofs.Membership.{Has, has_any, has_joined}
use Rattle.symbol_resolution.proofs.StatementKinds.{IsTyped, five_pass}

-- ---- functions

record Head (m : Module) (f : Function) : Type 0 where
  structs : list_all (λ v. knows_struct (length m.structs) v.ty) f.variables ≡ true
  counts : counts_fit f ≡ true
  labels : labels_stand f ≡ true
  closed : (is_extern f.linkage || ends_closed f.body) ≡ true

head_passes : (m : Module) (double : Bool) (f : Function) → head_kind double (length m.structs) f ≡ None → Head m f
head_passes m double f h =
    let known = list_all (λ v. knows_struct (length m.structs) v.ty) f.variables in
    let builtins = not (is_builtin f.name) && not (list_any (λ v. is_builtin v.name) f.variables) in
    let pass = five_pass (not double && not (repeats (map (λ v. v.name) f.variables))) (builtins && known) (counts_fit f) (labels_stand f) (is_extern f.linkage || ends_closed f.body) DoubleName UnknownName TooMany BadLabel OpenEnd h in
    record { structs = (both-true builtins known pass.1).1; counts = pass.2; labels = pass.3; closed = pass.4 }

-- a function of a checked module
pub record FunctionFacts (m : Module) (f : Function) : Type 0 where
  pub stated : IsStatedFunction m.structs f
  pub typed : (i : ℕ) (v : Variable) → slice_get f.variables i ≡ Some v → IsTyped m.structs v
  pub components : components_in f.variables ≤ 1024
  pub parameters : parameter_components f ≤ 64
  pub statements : (is_extern f.linkage || is_between 1 8192 (length f.body)) ≡ true
  pub bound : code_bound_of f ≤ 524288
  pub labels : labels_stand f ≡ true
  pub closed : (is_extern f.linkage || ends_closed f.body) ≡ true
  pub kinds : (i : ℕ) (s : Statement) → slice_get f.body i ≡ Some s → statement_kind (scope_in m f) s ≡ None

pub function_facts : (m : Module) (n : ℕ) (f : Function) → IsChecked m → slice_get m.functions n ≡ Some f → FunctionFacts m f
function_facts m n f checked here =
    let stated = all_at (IsStatedFunction m.structs) m.functions checked.stated.functions n f here in
    let functions = (three-none (faults_from (struct_fault m) 0 m.structs) (faults_from (array_fault m) 0 m.arrays) (faults_from (function_fault m) 0 m.functions) checked.faultless).2 in
    let none = faults_from-none (function_fault m) 0 m.functions functions n f here in
    let item = length m.structs + length m.arrays + (0 + n) in
    let sc = scope_in m f in
    let double = is_among (names_before m (0 + n)) f.name in
    let parts = three-none (fault_at item 0 (head_kind double (length m.structs) f)) (statements_fault sc item (body_of f)) (fault_at item 0 (bound_kind f)) none in
    let empty = λ (e : is_extern f.linkage ≡ true). (stated.declared e).2 in
    let head = head_passes m double f (fault_at-none item 0 (head_kind double (length m.structs) f) parts.0) in
    let counts = both-true (nat_le (components_in f.variables) 1024 && nat_le (parameter_components f) 64) (is_extern f.linkage || is_between 1 8192 (length f.body)) head.counts in
    let two = both-true (nat_le (components_in f.variables) 1024) (nat_le (parameter_components f) 64) counts.0 in
    record {
      stated = stated;
      typed = λ i v at. record {
        agrees = (all_at (λ (v : Variable). IsIdentifier v.name × AgreesIn m.structs v.ty v.types) f.variables stated.variables i v at).1;
        known = all_true (λ v. knows_struct (length m.structs) v.ty) f.variables head.structs i v at;
      };
      components = within (components_in f.variables) 1024 two.0;
      parameters = within (parameter_components f) 64 two.1;
      statements = counts.1;
      bound = within (code_bound_of f) 524288 (bound-passes f (fault_at-none item 0 (bound_kind f) parts.2));
      labels = head.labels;
      closed = head.closed;
      kinds = λ i s at. body-none m f (is_extern f.linkage) refl empty item parts.1 i s at;
    }

pub defined_or : (e b : Bool) → e ≡ false → (e || b) ≡ true → b ≡ true
defined_or true b h k = cc
defined_or false b h k = k

pub few_statements : (f : Function) → is_extern f.linkage ≡ false → (is_extern f.linkage || is_between 1 8192 (length f.body)) ≡ true → length f.body ≤ 8192
few_statements f defined h =
    within (length f.body) 8192 (both-true (nat_le 1 (length f.body)) (nat_le (length f.body) 8192) (defined_or (is_extern f.linkage) (is_between 1 8192 (length f.body)) defined h)).1

-- ---- arrays

pub record ArrayFacts (a : Array) : Type 0 where
  pub stated : IsStatedArray a
  pub elements : a.length ≤ 67108864
  pub within : length a.initial ≤ a.length

array_few : (double : Bool) (a : Array) → array_kind double a ≡ None → (is_between 1 67108864 a.length && nat_le (length a.initial) a.length) ≡ true
array_few double a h =
    (three-pass (not double) (not (is_builtin a.name)) (is_between 1 67108864 a.length && nat_le (length a.initial) a.length) DoubleName UnknownName TooMany [] h).2

pub array_facts : (m : Module) (n : ℕ) (a : Array) → IsChecked m → slice_get m.arrays n ≡ Some a → ArrayFacts a
array_facts m n a checked here =
    let arrays = (three-none (faults_from (struct_fault m) 0 m.structs) (faults_from (array_fault m) 0 m.arrays) (faults_from (function_fault m) 0 m.functions) checked.faultless).1 in
    let none = faults_from-none (array_fault m) 0 m.arrays arrays n a here in
    let double = is_among (take (0 + n) (map (λ b. b.name) m.arrays)) a.name in
    let passed = both-true (is_between 1 67108864 a.length) (nat_le (length a.initial) a.length) (array_few double a (fault_at-none (length m.structs + (0 + n)) 0 (array_kind double a) none)) in
    record {
      stated = all_at IsStatedArray m.arrays checked.stated.arrays n a here;
      elements = within a.length 67108864 (both-true (nat_le 1 a.length) (nat_le a.length 67108864) passed.0).1;
      within = within (length a.initial) a.length passed.1;
    }

-- ---- what a statement names

pub at_below : {X : Type 0} (xs : List X) (k : ℕ) → k < length xs → (x : X) × (slice_get xs k ≡ Some x)
at_below [] k h = absurd (omega (arith, h))
at_below (x ∷ xs) zero h = (x, refl)
at_below (x ∷ xs) (suc k) h = at_below xs k (omega (arith, h))

-- the numbers are those of arrays and functions of the module
pub arrays_known : (sc : Scope) (s : Statement) → knows sc s ≡ true → (k : ℕ) → Has (arrays_in s) k → k < length sc.arrays
arrays_known sc (Load to array index) h k (zero, e) =
    let same : array ≡ k = cc in
    let lt = below array (length sc.arrays) (both-true (knows_component sc to) (knows_array sc array) (both-true (knows_component sc to && knows_array sc array) (knows_operand sc index) h).0).1 in
    subst (λ (k : ℕ). k < length sc.arrays) same lt
arrays_known sc (Load to array index) h k (suc i, e) = cc
arrays_known sc (Store array index from) h k (zero, e) =
    let same : array ≡ k = cc in
    let lt = below array (length sc.arrays) (both-true (knows_array sc array) (knows_operand sc index) (both-true (knows_array sc array && knows_operand sc index) (knows_operand sc from) h).0).0 in
    subst (λ (k : ℕ). k < length sc.arrays) same lt
arrays_known sc (Store array index from) h k (suc i, e) = cc
arrays_known sc s h k (i, e) = cc

pub functions_known : (sc : Scope) (s : Statement) → knows sc s ≡ true → (k : ℕ) → Has (functions_in s) k → k < length sc.functions
functions_known sc (Call to g args) h k (zero, e) =
    let same : g ≡ k = cc in
    let lt = below g (length sc.functions) (both-true (knows_target sc to) (knows_function sc g) (both-true (knows_target sc to && knows_function sc g) (list_all (knows_argument sc) args) h).0).1 in
    subst (λ (k : ℕ). k < length sc.functions) same lt
functions_known sc (Call to g args) h k (suc i, e) = cc
functions_known sc s h k (i, e) = cc

pub array_named : (m : Module) (place : ℕ) (f : Function) (i : ℕ) (s : Statement) (k : ℕ) → slice_get m.functions place ≡ Some f → slice_get f.body i ≡ Some s → Has (arrays_in s) k
    → list_any (nat_eq k) (named_arrays m.functions) ≡ true
array_named m place f i s k here at has =
    let in_body = has_joined arrays_in f.body s i k at has in
    let in_all = has_joined (λ (f : Function). flat_map arrays_in f.body) m.functions f place k here in_body in
    has_any k (named_arrays m.functions) in_all.0 in_all.1

pub function_named : (m : Module) (place : ℕ) (f : Function) (i : ℕ) (s : Statement) (k : ℕ) → slice_get m.functions place ≡ Some f → slice_get f.body i ≡ Some s → Has (functions_in s) k
    → list_any (nat_eq k) (named_functions m.functions) ≡ true
function_named m place f i s k here at has =
    let in_body = has_joined functions_in f.body s i k at has in
    let in_all = has_joined (λ (f : Function). flat_map functions_in f.body) m.functions f place k here in_body in
    has_any k (named_functions m.functions) in_all.0 in_all.1
