-- What a checked module gives of each of its functions, beside what its summary asks: counts of variables and labels, and of each
-- statement that its names are known, its types fit and its labels stand.
use Rattle.std.proofs.Common.{◌≡◌, ◌+◌, ◌*◌, ◌^◌, ◌<◌, ◌≤◌, ℕ, zero, suc, List, [], ◌∷◌, ◌++◌, length, map, take, Bool, true, false, Some, None, refl, sym, ap, ◌∙◌, arith, subst}
use Rattle.std.specs.Prelude.{◌&&◌, ◌||◌, not, All, Option, slice_get, nat_le, nat_lt, nat_eq, IfSome, MatchOption, sum_by}
use Rattle.std.specs.List.{list_all, list_any, filter_map, cons_option}
use Rattle.std.proofs.lemmas.Bool.Decides.{nat_tests}
use Rattle.std.proofs.lemmas.List.{length-map, length-drop}
use Rattle.std.proofs.lemmas.List.Sums.{sum_by-cons}
use Rattle.gimple_ir.specs.declared.types.VarType.{VarType}
use Rattle.gimple_ir.specs.declared.types.VarType.TheVariants as variable
use Rattle.gimple_ir.specs.declared.types.StructDef.{StructDef}
use Rattle.gimple_ir.specs.declared.types.Array.{Array}
use Rattle.gimple_ir.specs.declared.types.Variable.{Variable}
use Rattle.gimple_ir.specs.declared.types.Function.{Function}
use Rattle.gimple_ir.specs.declared.types.Module.{Module}
use Rattle.gimple_ir.specs.declared.types.Statement.{Statement}
use Rattle.gimple_ir.specs.declared.fault.TypeFault.{TypeFault}
use Rattle.gimple_ir.specs.declared.fault.TypeKind.{TypeKind}
use Rattle.gimple_ir.specs.declared.fault.TypeKind.TheVariants.{DoubleName, UnknownName, TooMany, BadLabel, OpenEnd}
use Rattle.gimple_ir.specs.Names.{is_between, is_among, is_builtin, repeats}
use Rattle.gimple_ir.specs.CodeBound.{components_in, parameter_components, operands_in, code_bound_of}
use Rattle.gimple_ir.specs.Statements.{Scope, knows, counts_arguments, types_fit, first_failed, statement_kind}
use Rattle.gimple_ir.specs.Checks.{first_of, faults_from, fault_at, struct_kind, struct_fault, array_kind, array_fault, function_fault, statements_fault, names_before, is_extern, head_kind, bound_kind, scope_in, body_of, counts_fit, label_of, counts_up, labels_in_order, goes_within, goals_stand, labels_stand, ends_closed, knows_struct}
use Rattle.gimple_ir.specs.Programs.{IsStatedStruct, IsStatedArray, IsStatedFunction, IsChecked, AgreesIn, HasValues, IsIdentifier}
use Rattle.module_stream.specs.Declarations.{NamesStruct, HasArrayCounts, HasFunctionCounts, HasCounts, locals_of}
use Rattle.func_summary.proofs.Checked.{both-true, below, within, three-none, three-pass, first_failed-none, statement-passes, bound-passes, fault_at-none, faults_from-none, body-none, all-from_places, all_at}
use Rattle.lto_object.proofs.Elements.{not_past}

-- ---- tests that pass

five-pass : (a b c d e : Bool) (j k l n o : TypeKind) → first_failed ((a, j) ∷ (b, k) ∷ (c, l) ∷ (d, n) ∷ (e, o) ∷ []) ≡ None
    → (a ≡ true) × (b ≡ true) × (c ≡ true) × (d ≡ true) × (e ≡ true)
five-pass true true true true true j k l n o h = (refl, refl, refl, refl, refl)
five-pass true true true true false j k l n o h = cc
five-pass true true true false e j k l n o h = cc
five-pass true true false d e j k l n o h = cc
five-pass true false c d e j k l n o h = cc
five-pass false b c d e j k l n o h = cc

pub all_true : {X : Type 0} (p : X → Bool) (xs : List X) → list_all p xs ≡ true → (i : ℕ) (x : X) → slice_get xs i ≡ Some x → p x ≡ true
all_true p [] h i x here = cc
all_true p (y ∷ xs) h zero x here = let same : x ≡ y = cc in ap p same ∙ (both-true (p y) (list_all p xs) h).0
all_true p (y ∷ xs) h (suc i) x here = all_true p xs (both-true (p y) (list_all p xs) h).1 i x here

-- ---- the head of a function

-- what is checked before its statements
pub record Head (m : Module) (f : Function) : Type 0 where
  pub structs : list_all (λ v. knows_struct (length m.structs) v.ty) f.variables ≡ true
  pub counts : counts_fit f ≡ true
  pub labels : labels_stand f ≡ true

head-pass : (m : Module) (double : Bool) (f : Function) → head_kind double (length m.structs) f ≡ None → Head m f
head-pass m double f h =
    let known = list_all (λ v. knows_struct (length m.structs) v.ty) f.variables in
    let builtins = not (is_builtin f.name) && not (list_any (λ v. is_builtin v.name) f.variables) in
    let pass = five-pass (not double && not (repeats (map (λ v. v.name) f.variables))) (builtins && known) (counts_fit f) (labels_stand f) (is_extern f.linkage || ends_closed f.body) DoubleName UnknownName TooMany BadLabel OpenEnd h in
    record { structs = (both-true builtins known pass.1).1; counts = pass.2; labels = pass.3 }

-- all that is known of a function of a checked module
pub record Facts (m : Module) (f : Function) : Type 0 where
  pub stated : IsStatedFunction m.structs f
  pub head : Head m f
  pub bound : code_bound_of f ≤ 524288
  pub passes : (i : ℕ) (s : Statement) → slice_get f.body i ≡ Some s → (knows (scope_in m f) s ≡ true) × (counts_arguments (scope_in m f) s ≡ true) × (types_fit (scope_in m f) s ≡ true)

pub facts : (m : Module) (n : ℕ) (f : Function) → IsChecked m → slice_get m.functions n ≡ Some f → Facts m f
facts m n f checked here =
    let stated = all_at (IsStatedFunction m.structs) m.functions checked.stated.functions n f here in
    let functions = (three-none (faults_from (struct_fault m) 0 m.structs) (faults_from (array_fault m) 0 m.arrays) (faults_from (function_fault m) 0 m.functions) checked.faultless).2 in
    let none = faults_from-none (function_fault m) 0 m.functions functions n f here in
    let item = length m.structs + length m.arrays + (0 + n) in
    let sc = scope_in m f in
    let head = head_kind (is_among (names_before m (0 + n)) f.name) (length m.structs) f in
    let parts = three-none (fault_at item 0 head) (statements_fault sc item (body_of f)) (fault_at item 0 (bound_kind f)) none in
    let empty = λ (e : is_extern f.linkage ≡ true). (stated.declared e).2 in
    record {
      stated = stated;
      head = head-pass m (is_among (names_before m (0 + n)) f.name) f (fault_at-none item 0 head parts.0);
      bound = within (code_bound_of f) 524288 (bound-passes f (fault_at-none item 0 (bound_kind f) parts.2));
      passes = λ i s at. statement-passes sc s (body-none m f (is_extern f.linkage) refl empty item parts.1 i s at);
    }

-- ---- structs and arrays

struct_few : (double : Bool) (s : StructDef) → struct_kind double s ≡ None → is_between 1 8 (length s.fields) ≡ true
struct_few double s h =
    (three-pass (not double && not (repeats (map (λ field. field.name) s.fields))) (not (is_builtin s.name) && not (list_any (λ field. is_builtin field.name) s.fields)) (is_between 1 8 (length s.fields)) DoubleName UnknownName TooMany [] h).2

pub struct_at : (m : Module) (n : ℕ) (s : StructDef) → IsChecked m → slice_get m.structs n ≡ Some s → is_between 1 8 (length s.fields) ≡ true
struct_at m n s checked here =
    let structs = (three-none (faults_from (struct_fault m) 0 m.structs) (faults_from (array_fault m) 0 m.arrays) (faults_from (function_fault m) 0 m.functions) checked.faultless).0 in
    let none = faults_from-none (struct_fault m) 0 m.structs structs n s here in
    let double = is_among (take (0 + n) (map (λ t. t.name) m.structs)) s.name in
    struct_few double s (fault_at-none (0 + n) 0 (struct_kind double s) none)

array_few : (double : Bool) (a : Array) → array_kind double a ≡ None → (is_between 1 67108864 a.length && nat_le (length a.initial) a.length) ≡ true
array_few double a h =
    (three-pass (not double) (not (is_builtin a.name)) (is_between 1 67108864 a.length && nat_le (length a.initial) a.length) DoubleName UnknownName TooMany [] h).2

pub array_at : (m : Module) (n : ℕ) (a : Array) → IsChecked m → slice_get m.arrays n ≡ Some a → HasArrayCounts a
array_at m n a checked here =
    let arrays = (three-none (faults_from (struct_fault m) 0 m.structs) (faults_from (array_fault m) 0 m.arrays) (faults_from (function_fault m) 0 m.functions) checked.faultless).1 in
    let none = faults_from-none (array_fault m) 0 m.arrays arrays n a here in
    let double = is_among (take (0 + n) (map (λ b. b.name) m.arrays)) a.name in
    let passed = both-true (is_between 1 67108864 a.length) (nat_le (length a.initial) a.length) (array_few double a (fault_at-none (length m.structs + (0 + n)) 0 (array_kind double a) none)) in
    let long = within a.length 67108864 (both-true (nat_le 1 a.length) (nat_le a.length 67108864) passed.0).1 in
    record { count = omega (arith, long, within (length a.initial) a.length passed.1); length = omega (arith, long) }

-- ---- counts of variables and labels

-- a variable has a component
some_type : (m : Module) (v : Variable) → IsChecked m → AgreesIn m.structs v.ty v.types → knows_struct (length m.structs) v.ty ≡ true → 1 ≤ length v.types
some_type m v checked agrees known = by v.ty refl
  where
    by_struct : (n : ℕ) (o : Option StructDef) → slice_get m.structs n ≡ o → AgreesIn m.structs (variable.Struct n) v.types → n < length m.structs → 1 ≤ length v.types
    by_struct n None none agrees lt = absurd (not_past m.structs n lt none)
    by_struct n (Some s) some agrees lt =
        let is = subst (λ o. MatchOption o (Unit {0}) (λ (t : StructDef). v.types ≡ map (λ field. field.ty) t.fields)) some agrees in
        let few = within 1 (length s.fields) (both-true (nat_le 1 (length s.fields)) (nat_le (length s.fields) 8) (struct_at m n s checked some)).0 in
        omega (arith, ap length is, length-map s.fields (λ field. field.ty), few)

    by : (ty : VarType) → v.ty ≡ ty → 1 ≤ length v.types
    by (variable.Scalar ty) e =
        let is = subst (λ t. AgreesIn m.structs t v.types) e agrees in omega (arith, ap length is)
    by (variable.Struct n) e =
        by_struct n (slice_get m.structs n) refl (subst (λ t. AgreesIn m.structs t v.types) e agrees) (below n (length m.structs) (sym (ap (knows_struct (length m.structs)) e) ∙ known))

few_of_some : (variables : List Variable) → ((i : ℕ) (v : Variable) → slice_get variables i ≡ Some v → 1 ≤ length v.types) → length variables ≤ components_in variables
few_of_some [] h = omega arith
few_of_some (v ∷ vs) h = omega (arith, h 0 v refl, few_of_some vs (λ i w here. h (suc i) w here), sum_by-cons (λ (w : Variable). length w.types) v vs)

counts_pass : (f : Function) → counts_fit f ≡ true → (components_in f.variables ≤ 1024) × (is_extern f.linkage || is_between 1 8192 (length f.body)) ≡ true
counts_pass f h =
    let two = both-true (nat_le (components_in f.variables) 1024 && nat_le (parameter_components f) 64) (is_extern f.linkage || is_between 1 8192 (length f.body)) h in
    (within (components_in f.variables) 1024 (both-true (nat_le (components_in f.variables) 1024) (nat_le (parameter_components f) 64) two.0).0, two.1)

pub few_components : (m : Module) (f : Function) → Facts m f → components_in f.variables ≤ 1024
few_components m f k = (counts_pass f k.head.counts).0

pub few_variables : (m : Module) (f : Function) → IsChecked m → Facts m f → length f.variables ≤ 1024
few_variables m f checked k =
    let each : (i : ℕ) (v : Variable) → slice_get f.variables i ≡ Some v → 1 ≤ length v.types =
    λ i v here. some_type m v checked (all_at (λ w. IsIdentifier w.name × AgreesIn m.structs w.ty w.types) f.variables k.stated.variables i v here).1 (all_true (λ w. knows_struct (length m.structs) w.ty) f.variables k.head.structs i v here) in
    omega (arith, few_components m f k, few_of_some f.variables each)

wider : (o : Option ℕ) (a b : ℕ) → a ≤ b → IfSome o (λ l. l < a) → IfSome o (λ l. l < b)
wider None a b le h = tt
wider (Some l) a b le h = omega (arith, le, h)

first_label : (k n c : ℕ) → nat_eq k n ≡ true → k < n + suc c
first_label k n c h = grind (arith, nat_tests)

label_step : (t : Statement) (ss : List Statement) (n : ℕ) (o : Option ℕ) → label_of t ≡ o → counts_up n (cons_option o (filter_map label_of ss)) ≡ true
    → ((k : ℕ) → counts_up k (filter_map label_of ss) ≡ true → (i : ℕ) (s : Statement) → slice_get ss i ≡ Some s → IfSome (label_of s) (λ l. l < k + length (filter_map label_of ss)))
    → (i : ℕ) (s : Statement) → slice_get (t ∷ ss) i ≡ Some s → IfSome (label_of s) (λ l. l < n + length (cons_option o (filter_map label_of ss)))
label_step t ss n None e up later zero s here = let same : s ≡ t = cc in rw (ap label_of same ∙ e) tt
label_step t ss n None e up later (suc i) s here = later n up i s here
label_step t ss n (Some k) e up later zero s here =
    let same : s ≡ t = cc in
    rw (ap label_of same ∙ e) (first_label k n (length (filter_map label_of ss)) (both-true (nat_eq k n) (counts_up (n + 1) (filter_map label_of ss)) up).0)
label_step t ss n (Some k) e up later (suc i) s here =
    wider (label_of s) (n + 1 + length (filter_map label_of ss)) (n + length (k ∷ filter_map label_of ss)) (omega arith)
    (later (n + 1) (both-true (nat_eq k n) (counts_up (n + 1) (filter_map label_of ss)) up).1 i s here)

-- a label that stands is below the count of those that stand
counted_labels : (body : List Statement) (n : ℕ) → counts_up n (filter_map label_of body) ≡ true → (i : ℕ) (s : Statement) → slice_get body i ≡ Some s
    → IfSome (label_of s) (λ l. l < n + length (filter_map label_of body))
counted_labels [] n h i s here = cc
counted_labels (t ∷ ss) n h i s here = label_step t ss n (label_of t) refl h (counted_labels ss) i s here

few_labels_of : (body : List Statement) → length (filter_map label_of body) ≤ length body
few_labels_of [] = omega arith
few_labels_of (s ∷ ss) = one_more (label_of s) (filter_map label_of ss) (length ss) (few_labels_of ss)
  where
    one_more : (o : Option ℕ) (ls : List ℕ) (n : ℕ) → length ls ≤ n → length (cons_option o ls) ≤ suc n
    one_more None ls n h = omega (arith, h)
    one_more (Some l) ls n h = omega (arith, h)

pub same_number : (a b : ℕ) → nat_eq a b ≡ true → a ≡ b
same_number a b h = grind (arith, nat_tests)

pub record Labels (f : Function) : Type 0 where
  pub count : length (filter_map label_of f.body) ≡ length f.labels
  pub stands : (i : ℕ) (s : Statement) → slice_get f.body i ≡ Some s → IfSome (label_of s) (λ l. l < length f.labels)
  pub goes : (i : ℕ) (s : Statement) → slice_get f.body i ≡ Some s → goes_within (length f.labels) s ≡ true

pub labels : (m : Module) (f : Function) → Facts m f → Labels f
labels m f k =
    let all = both-true (labels_in_order (length f.labels) f.body && goals_stand (length f.labels) f.body) (not (repeats f.labels)) k.head.labels in
    let two = both-true (labels_in_order (length f.labels) f.body) (goals_stand (length f.labels) f.body) all.0 in
    let order = both-true (counts_up 0 (filter_map label_of f.body)) (nat_eq (length (filter_map label_of f.body)) (length f.labels)) two.0 in
    let count = same_number (length (filter_map label_of f.body)) (length f.labels) order.1 in
    let total : 0 + length (filter_map label_of f.body) ≡ length f.labels = omega (arith, count) in
    record {
      count = count;
      stands = λ i s here. subst (λ (n : ℕ). IfSome (label_of s) (λ l. l < n)) total (counted_labels f.body 0 order.0 i s here);
      goes = λ i s here. all_true (goes_within (length f.labels)) f.body two.1 i s here;
    }

few_statements : (e : Bool) (body : List Statement) → (e ≡ true → body ≡ []) → (e || is_between 1 8192 (length body)) ≡ true → length body ≤ 8192
few_statements true body empty h = omega (arith, ap length (empty refl))
few_statements false body empty h = within (length body) 8192 (both-true (nat_le 1 (length body)) (nat_le (length body) 8192) h).1

pub few_in_body : (m : Module) (f : Function) → Facts m f → length f.body ≤ 8192
few_in_body m f k = few_statements (is_extern f.linkage) f.body (λ e. (k.stated.declared e).2) (counts_pass f k.head.counts).1

pub few_labels : (m : Module) (f : Function) → Facts m f → length f.labels ≤ 8192
few_labels m f k = omega (arith, (labels m f k).count, few_labels_of f.body, few_in_body m f k)

-- ---- the counts that streams keep

names_struct : (structs : ℕ) (ty : VarType) → knows_struct structs ty ≡ true → NamesStruct structs ty
names_struct structs (variable.Scalar ty) h = tt
names_struct structs (variable.Struct n) h = below n structs h

pub has_counts : (m : Module) → IsChecked m → HasCounts m
has_counts m checked = record {
  structs = all-from_places (λ s. length s.fields < 2 ^ 32) m.structs (λ n s here. omega (arith, within (length s.fields) 8 (both-true (nat_le 1 (length s.fields)) (nat_le (length s.fields) 8) (struct_at m n s checked here)).1));
  arrays = all-from_places HasArrayCounts m.arrays (λ n a here. array_at m n a checked here);
  functions = all-from_places (HasFunctionCounts (length m.structs)) m.functions (λ n f here. of_function f (facts m n f checked here));
}
  where
    of_function : (f : Function) → Facts m f → HasFunctionCounts (length m.structs) f
    of_function f k = record {
      known = all-from_places (λ v. NamesStruct (length m.structs) v.ty) f.variables (λ i v here. names_struct (length m.structs) v.ty (all_true (λ w. knows_struct (length m.structs) w.ty) f.variables k.head.structs i v here));
      parameters = omega (arith, k.stated.parameters, few_variables m f checked k);
      locals = omega (arith, length-drop f.parameters f.variables, few_variables m f checked k);
      labels = omega (arith, few_labels m f k);
    }
