-- What a checked module gives of each of its items.
use Rattle.std.proofs.Common.{◌≡◌, ◌+◌, ◌<◌, ◌≤◌, ℕ, zero, suc, List, [], ◌∷◌, length, map, take, Bool, true, false, Some, None, refl, sym, ap, ap₂, ◌∙◌, arith, subst}
use Rattle.std.specs.Prelude.{◌&&◌, ◌||◌, if◌then◌else◌, not, All, Option, slice_get, nat_le, nat_lt, nat_eq}
use Rattle.std.specs.List.{list_all, list_any, filter_map}
use Rattle.std.proofs.lemmas.Bool.{not-true}
use Rattle.std.proofs.lemmas.Bool.Decides.{nat_tests}
use Rattle.std.proofs.lemmas.Option.{get_or_from_slice_get, slice_get_within}
use Rattle.gimple_ir.specs.declared.types.StructDef.{StructDef}
use Rattle.gimple_ir.specs.declared.types.Array.{Array}
use Rattle.gimple_ir.specs.declared.types.Function.{Function}
use Rattle.gimple_ir.specs.declared.types.Module.{Module}
use Rattle.gimple_ir.specs.declared.types.Statement.{Statement}
use Rattle.gimple_ir.specs.declared.fault.TypeFault.{TypeFault}
use Rattle.gimple_ir.specs.declared.fault.TypeKind.{TypeKind}
use Rattle.gimple_ir.specs.declared.fault.TypeKind.TheVariants.{DoubleName, UnknownName, TooMany, BadLabel, OpenEnd, WrongCount, WrongType, NegLiteral, BadCase}
use Rattle.gimple_ir.specs.Names.{is_between, is_among, is_builtin, repeats}
use Rattle.gimple_ir.specs.CodeBound.{components_in, parameter_components}
use Rattle.gimple_ir.specs.Statements.{Scope, knows, types_fit, counts_arguments, negates_literal, cases_ascend, first_failed, statement_kind}
use Rattle.gimple_ir.specs.Checks.{first_of, faults_from, fault_at, struct_kind, array_kind, struct_fault, array_fault, function_fault, statements_fault, names_before, is_extern, head_kind, bound_kind, scope_in, body_of, counts_fit, label_of, counts_up, labels_in_order, goes_within, goals_stand, labels_stand, ends_closed, knows_struct}
use Rattle.gimple_ir.specs.Programs.{IsChecked, IsStatedFunction}
use Rattle.text_laws.proofs.Finding.{not_second}

-- ---- tests that pass

pub both_true : (a b : Bool) → (a && b) ≡ true → (a ≡ true) × (b ≡ true)
both_true true b h = (refl, h)
both_true false b h = cc

pub within_true : (a b : ℕ) → nat_le a b ≡ true → a ≤ b
within_true a b h = grind (arith, nat_tests)

pub below_true : (a b : ℕ) → nat_lt a b ≡ true → a < b
below_true a b h = grind (arith, nat_tests)

pub same_number : (a b : ℕ) → nat_eq a b ≡ true → a ≡ b
same_number a b h = grind (arith, nat_tests)

-- ---- each element

pub each_of : {X : Type 0} (P : X → Type 0) (xs : List X) → All P xs → (i : ℕ) (x : X) → slice_get xs i ≡ Some x → P x
each_of P xs all i x here = subst P (get_or_from_slice_get xs i x x here) (all i x (slice_get_within xs i x here))

pub list_all_at : {X : Type 0} (t : X → Bool) (xs : List X) → list_all t xs ≡ true → (i : ℕ) (x : X) → slice_get xs i ≡ Some x → t x ≡ true
list_all_at t [] h i x here = cc
list_all_at t (y ∷ xs) h zero x here = let e : y ≡ x = cc in ap t (sym e) ∙ (both_true (t y) (list_all t xs) h).0
list_all_at t (y ∷ xs) h (suc i) x here = list_all_at t xs (both_true (t y) (list_all t xs) h).1 i x here

-- ---- no fault

first_none : (a : Option TypeFault) (rest : List (Option TypeFault)) → first_of (a ∷ rest) ≡ None → (a ≡ None) × (first_of rest ≡ None)
first_none None rest h = (refl, h)
first_none (Some f) rest h = cc

three_none : (a b c : Option TypeFault) → first_of (a ∷ b ∷ c ∷ []) ≡ None → (a ≡ None) × (b ≡ None) × (c ≡ None)
three_none a b c h =
    let later = first_none a (b ∷ c ∷ []) h in
    let last = first_none b (c ∷ []) later.1 in
    (later.0, last.0, (first_none c [] last.1).0)

three_pass : (a b c : Bool) (j k l : TypeKind) (rest : List (Bool × TypeKind)) → first_failed ((a, j) ∷ (b, k) ∷ (c, l) ∷ rest) ≡ None
    → (a ≡ true) × (b ≡ true) × (c ≡ true) × (first_failed rest ≡ None)
three_pass true true true j k l rest h = (refl, refl, refl, h)
three_pass true true false j k l rest h = cc
three_pass true false c j k l rest h = cc
three_pass false b c j k l rest h = cc

fault_none : (item st : ℕ) (o : Option TypeKind) → fault_at item st o ≡ None → o ≡ None
fault_none item st None h = refl
fault_none item st (Some k) h = cc

faults_none : {X : Type 0} (fault : ℕ → X → Option TypeFault) (n : ℕ) (xs : List X) → faults_from fault n xs ≡ None
    → (i : ℕ) (x : X) → slice_get xs i ≡ Some x → fault (n + i) x ≡ None
faults_none fault n [] h i x here = cc
faults_none fault n (y ∷ xs) h zero x here =
    let same : x ≡ y = cc in
    ap₂ fault (omega arith) same ∙ (first_none (fault n y) (faults_from fault (n + 1) xs ∷ []) h).0
faults_none fault n (y ∷ xs) h (suc i) x here =
    let rest = (first_none (fault n y) (faults_from fault (n + 1) xs ∷ []) h).1 in
    ap (λ k. fault k x) (omega arith) ∙ faults_none fault (n + 1) xs (first_none (faults_from fault (n + 1) xs) [] rest).0 i x here

items_none : (m : Module) → IsChecked m
    → (faults_from (struct_fault m) 0 m.structs ≡ None) × (faults_from (array_fault m) 0 m.arrays ≡ None) × (faults_from (function_fault m) 0 m.functions ≡ None)
items_none m checked =
    three_none (faults_from (struct_fault m) 0 m.structs) (faults_from (array_fault m) 0 m.arrays) (faults_from (function_fault m) 0 m.functions) checked.faultless

-- ---- structs

pub record IsKnownStruct (m : Module) (n : ℕ) (s : StructDef) : Type 0 where
  pub first : is_among (take n (map (λ t. t.name) m.structs)) s.name ≡ false
  pub fields : repeats (map (λ field. field.name) s.fields) ≡ false
  pub some : 1 ≤ length s.fields
  pub few : length s.fields ≤ 8

pub known_struct : (m : Module) (n : ℕ) (s : StructDef) → IsChecked m → slice_get m.structs n ≡ Some s → IsKnownStruct m n s
known_struct m n s checked here =
    let double = is_among (take (0 + n) (map (λ t. t.name) m.structs)) s.name in
    let none = faults_none (struct_fault m) 0 m.structs (items_none m checked).0 n s here in
    let pass = three_pass (not double && not (repeats (map (λ field. field.name) s.fields)))
    (not (is_builtin s.name) && not (list_any (λ field. is_builtin field.name) s.fields)) (is_between 1 8 (length s.fields))
    DoubleName UnknownName TooMany [] (fault_none (0 + n) 0 (struct_kind double s) none) in
    let names = both_true (not double) (not (repeats (map (λ field. field.name) s.fields))) pass.0 in
    let count = both_true (nat_le 1 (length s.fields)) (nat_le (length s.fields) 8) pass.2 in
    record {
      first = ap (λ k. is_among (take k (map (λ t. t.name) m.structs)) s.name) (omega arith) ∙ not-true double names.0;
      fields = not-true (repeats (map (λ field. field.name) s.fields)) names.1;
      some = within_true 1 (length s.fields) count.0;
      few = within_true (length s.fields) 8 count.1;
    }

-- ---- arrays

pub record IsKnownArray (m : Module) (n : ℕ) (a : Array) : Type 0 where
  pub first : is_among (take n (map (λ b. b.name) m.arrays)) a.name ≡ false
  pub builtin : is_builtin a.name ≡ false

pub known_array : (m : Module) (n : ℕ) (a : Array) → IsChecked m → slice_get m.arrays n ≡ Some a → IsKnownArray m n a
known_array m n a checked here =
    let double = is_among (take (0 + n) (map (λ b. b.name) m.arrays)) a.name in
    let none = faults_none (array_fault m) 0 m.arrays (items_none m checked).1 n a here in
    let pass = three_pass (not double) (not (is_builtin a.name)) (is_between 1 67108864 a.length && nat_le (length a.initial) a.length)
    DoubleName UnknownName TooMany [] (fault_none (length m.structs + (0 + n)) 0 (array_kind double a) none) in
    record {
      first = ap (λ k. is_among (take k (map (λ b. b.name) m.arrays)) a.name) (omega arith) ∙ not-true double pass.0;
      builtin = not-true (is_builtin a.name) pass.1;
    }

-- ---- functions

pub record IsKnownStatement (sc : Scope) (s : Statement) : Type 0 where
  pub knows : knows sc s ≡ true
  pub counts : counts_arguments sc s ≡ true
  pub types : types_fit sc s ≡ true
  pub negates : negates_literal s ≡ false

pub record IsKnownFunction (m : Module) (n : ℕ) (f : Function) : Type 0 where
  pub first : is_among (take n (map (λ g. g.name) m.functions)) f.name ≡ false
  pub builtin : is_builtin f.name ≡ false
  pub variables : repeats (map (λ v. v.name) f.variables) ≡ false
  pub structs : list_all (λ v. knows_struct (length m.structs) v.ty) f.variables ≡ true
  pub components : components_in f.variables ≤ 1024
  pub few : length f.body ≤ 8192
  pub ascending : counts_up 0 (filter_map label_of f.body) ≡ true
  pub labels : length (filter_map label_of f.body) ≡ length f.labels
  pub distinct : repeats f.labels ≡ false
  pub goals : (i : ℕ) (s : Statement) → slice_get f.body i ≡ Some s → goes_within (length f.labels) s ≡ true
  pub statements : (i : ℕ) (s : Statement) → slice_get f.body i ≡ Some s → IsKnownStatement (scope_in m f) s

known_statement : (sc : Scope) (s : Statement) → statement_kind sc s ≡ None → IsKnownStatement sc s
known_statement sc s h =
    let pass = three_pass (knows sc s) (counts_arguments sc s) (types_fit sc s) UnknownName WrongCount WrongType
    ((not (negates_literal s), NegLiteral) ∷ (cases_ascend s, BadCase) ∷ []) h in
    record { knows = pass.0; counts = pass.1; types = pass.2; negates = not-true (negates_literal s) (one_pass (not (negates_literal s)) NegLiteral ((cases_ascend s, BadCase) ∷ []) pass.3) }
  where
    one_pass : (a : Bool) (j : TypeKind) (rest : List (Bool × TypeKind)) → first_failed ((a, j) ∷ rest) ≡ None → a ≡ true
    one_pass true j rest h = refl
    one_pass false j rest h = cc

-- the body of a function whose statements have no fault
body_none : (m : Module) (f : Function) (e : Bool) → e ≡ is_extern f.linkage → (is_extern f.linkage ≡ true → f.body ≡ [])
    → (item : ℕ) → faults_from (λ place st. fault_at item place (statement_kind (scope_in m f) st)) 0 (body_of f) ≡ None
    → (i : ℕ) (s : Statement) → slice_get f.body i ≡ Some s → statement_kind (scope_in m f) s ≡ None
body_none m f true e empty item h i s here =
    let gone = sym (ap (λ b. slice_get b i) (empty (sym e))) ∙ here in cc
body_none m f false e empty item h i s here =
    let body : body_of f ≡ f.body = ap (λ b. if b then [] else f.body) (sym e) in
    fault_none item (0 + i) (statement_kind (scope_in m f) s)
    (faults_none (λ place st. fault_at item place (statement_kind (scope_in m f) st)) 0 f.body
    (sym (ap (faults_from (λ place st. fault_at item place (statement_kind (scope_in m f) st)) 0) body) ∙ h) i s here)

few_statements : (e : Bool) (body : List Statement) → (e ≡ true → body ≡ []) → (e || is_between 1 8192 (length body)) ≡ true → length body ≤ 8192
few_statements true body empty h = omega (arith, ap length (empty refl))
few_statements false body empty h = within_true (length body) 8192 (both_true (nat_le 1 (length body)) (nat_le (length body) 8192) h).1

pub known_function : (m : Module) (n : ℕ) (f : Function) → IsChecked m → slice_get m.functions n ≡ Some f → IsKnownFunction m n f
known_function m n f checked here =
    let stated = each_of (IsStatedFunction m.structs) m.functions checked.stated.functions n f here in
    let none = faults_none (function_fault m) 0 m.functions (items_none m checked).2 n f here in
    let item = length m.structs + length m.arrays + (0 + n) in
    let double = is_among (names_before m (0 + n)) f.name in
    let parts = three_none (fault_at item 0 (head_kind double (length m.structs) f)) (statements_fault (scope_in m f) item (body_of f)) (fault_at item 0 (bound_kind f)) none in
    let repeated = repeats (map (λ v. v.name) f.variables) in
    let builtins = list_any (λ v. is_builtin v.name) f.variables in
    let structs = list_all (λ v. knows_struct (length m.structs) v.ty) f.variables in
    let few = is_extern f.linkage || is_between 1 8192 (length f.body) in
    let pass = three_pass (not double && not repeated) (not (is_builtin f.name) && not builtins && structs) (counts_fit f) DoubleName UnknownName TooMany
    ((labels_stand f, BadLabel) ∷ (is_extern f.linkage || ends_closed f.body, OpenEnd) ∷ [])
    (fault_none item 0 (head_kind double (length m.structs) f) parts.0) in
    let names = both_true (not double) (not repeated) pass.0 in
    let known = both_true (not (is_builtin f.name) && not builtins) structs pass.1 in
    let counts = both_true (nat_le (components_in f.variables) 1024 && nat_le (parameter_components f) 64) few pass.2 in
    let empty = λ (e : is_extern f.linkage ≡ true). (stated.declared e).2 in
    let order = labels_in_order (length f.labels) f.body in
    let goals = goals_stand (length f.labels) f.body in
    let labels = both_true (order && goals) (not (repeats f.labels)) (labels_pass (labels_stand f) (is_extern f.linkage || ends_closed f.body) pass.3) in
    let stand = both_true order goals labels.0 in
    let ordered = both_true (counts_up 0 (filter_map label_of f.body)) (nat_eq (length (filter_map label_of f.body)) (length f.labels)) stand.0 in
    record {
      first = ap (λ k. is_among (take k (map (λ g. g.name) m.functions)) f.name) (omega arith)
          ∙ not_second (map (λ a. a.name) m.arrays) (take (0 + n) (map (λ g. g.name) m.functions)) f.name (not-true double names.0);
      builtin = not-true (is_builtin f.name) (both_true (not (is_builtin f.name)) (not builtins) known.0).0;
      variables = not-true repeated names.1;
      structs = known.1;
      components = within_true (components_in f.variables) 1024 (both_true (nat_le (components_in f.variables) 1024) (nat_le (parameter_components f) 64) counts.0).0;
      few = few_statements (is_extern f.linkage) f.body empty counts.1;
      ascending = ordered.0;
      labels = same_number (length (filter_map label_of f.body)) (length f.labels) ordered.1;
      distinct = not-true (repeats f.labels) labels.1;
      goals = list_all_at (goes_within (length f.labels)) f.body stand.1;
      statements = λ i s at. known_statement (scope_in m f) s (body_none m f (is_extern f.linkage) refl empty item parts.1 i s at);
    }
  where
    labels_pass : (a b : Bool) → first_failed ((a, BadLabel) ∷ (b, OpenEnd) ∷ []) ≡ None → a ≡ true
    labels_pass true b h = refl
    labels_pass false b h = cc
