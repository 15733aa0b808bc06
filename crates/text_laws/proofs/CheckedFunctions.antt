-- What holds of each item and statement of a checked module, one fact at a time.
use Rattle.std.proofs.Common.{◌≡◌, ℕ, zero, suc, ◌+◌, ◌<◌, Bool, true, false, List, [], ◌∷◌, length, Option, Some, None, refl, subst, arith}
use Rattle.std.specs.Prelude.{◌&&◌, not, if◌then◌else◌, nat_eq, slice_get, All}
use Rattle.std.specs.List.{AllByRecursion, list_all, filter_map, cons_option}
use Rattle.std.proofs.lemmas.List.Elements.{All-head, All-tail}
use Rattle.std.proofs.lemmas.Bool.Decides.{nat_tests}
use Rattle.gimple_ir.specs.declared.fault.TypeFault.{TypeFault}
use Rattle.gimple_ir.specs.declared.fault.TypeKind.{TypeKind}
use Rattle.gimple_ir.specs.declared.types.Function.{Function}
use Rattle.gimple_ir.specs.declared.types.Module.{Module}
use Rattle.gimple_ir.specs.declared.types.Statement.{Statement}
use Rattle.gimple_ir.specs.Names.{repeats}
use Rattle.gimple_ir.specs.Statements.{first_failed, Scope, statement_kind}
use Rattle.gimple_ir.specs.Checks.{first_of, faults_from, fault_at, struct_fault, array_fault, is_extern, label_of, counts_up, labels_in_order, goes_within, goals_stand, labels_stand, head_kind, scope_in, body_of, statements_fault, bound_kind, names_before, function_fault, fault_of}
use Rattle.gimple_ir.specs.Names.{is_among}
use Rattle.gimple_ir.specs.Programs.{IsStatedFunction, IsChecked}

-- ---- lists

pub each : {X : Type 0} (P : X → Type 0) (xs : List X) → All P xs → AllByRecursion P xs
each P [] h = tt
each P (x ∷ xs) h = (All-head P x xs h, each P xs (All-tail P x xs h))

pub each-weaker : {X : Type 0} (P Q : X → Type 0) → ((x : X) → P x → Q x) → (xs : List X) → AllByRecursion P xs → AllByRecursion Q xs
each-weaker P Q f [] h = tt
each-weaker P Q f (x ∷ xs) h = (f x h.0, each-weaker P Q f xs h.1)

pub each-both : {X : Type 0} (P Q : X → Type 0) (xs : List X) → AllByRecursion P xs → AllByRecursion Q xs → AllByRecursion (λ x. P x × Q x) xs
each-both P Q [] h k = tt
each-both P Q (x ∷ xs) h k = ((h.0, k.0), each-both P Q xs h.1 k.1)

some-same : {X : Type 0} (x y : X) → Some x ≡ Some y → x ≡ y
some-same x y e = cc

pub each-at : {X : Type 0} (P : X → Type 0) (xs : List X) (i : ℕ) (x : X) → AllByRecursion P xs → slice_get xs i ≡ Some x → P x
each-at P [] i x h e = absurd cc
each-at P (y ∷ ys) zero x h e = subst P (some-same y x e) h.0
each-at P (y ∷ ys) (suc i) x h e = each-at P ys i x h.1 e

pub both-are : (a b : Bool) → (a && b) ≡ true → (a ≡ true) × (b ≡ true)
both-are true b e = (refl, e)
both-are false b e = absurd cc

pub each-passes : {X : Type 0} (p : X → Bool) (xs : List X) → list_all p xs ≡ true → AllByRecursion (λ x. p x ≡ true) xs
each-passes p [] e = tt
each-passes p (x ∷ xs) e = let h = both-are (p x) (list_all p xs) e in (h.0, each-passes p xs h.1)

-- ---- no fault

pub none-first : (o : Option TypeFault) (rest : List (Option TypeFault)) → first_of (o ∷ rest) ≡ None → (o ≡ None) × (first_of rest ≡ None)
none-first None rest e = (refl, e)
none-first (Some fault) rest e = absurd cc

pub none-each : {X : Type 0} (fault : ℕ → X → Option TypeFault) (n : ℕ) (xs : List X) (i : ℕ) (x : X) → faults_from fault n xs ≡ None → slice_get xs i ≡ Some x → (k : ℕ) × (fault k x ≡ None)
none-each fault n [] i x e at = absurd cc
none-each fault n (y ∷ ys) zero x e at =
    let h = none-first (fault n y) (faults_from fault (n + 1) ys ∷ []) e in (n, subst (λ z. fault n z ≡ None) (some-same y x at) h.0)
none-each fault n (y ∷ ys) (suc i) x e at =
    let h = none-first (fault n y) (faults_from fault (n + 1) ys ∷ []) e in
    none-each fault (n + 1) ys i x (none-first (faults_from fault (n + 1) ys) [] h.1).0 at

pub none-at : (item st : ℕ) (o : Option TypeKind) → fault_at item st o ≡ None → o ≡ None
none-at item st None e = refl
none-at item st (Some kind) e = absurd cc

pub five-pass : (a b c d e : Bool) (ka kb kc kd ke : TypeKind) → first_failed ((a, ka) ∷ (b, kb) ∷ (c, kc) ∷ (d, kd) ∷ (e, ke) ∷ []) ≡ None
    → (a ≡ true) × (b ≡ true) × (c ≡ true) × (d ≡ true) × (e ≡ true)
five-pass true true true true true ka kb kc kd ke h = (refl, refl, refl, refl, refl)
five-pass false b c d e ka kb kc kd ke h = absurd cc
five-pass true false c d e ka kb kc kd ke h = absurd cc
five-pass true true false d e ka kb kc kd ke h = absurd cc
five-pass true true true false e ka kb kc kd ke h = absurd cc
five-pass true true true true false ka kb kc kd ke h = absurd cc

-- ---- a module

pub record NoFaults (m : Module) : Type 0 where
  pub structs : faults_from (struct_fault m) 0 m.structs ≡ None
  pub arrays : faults_from (array_fault m) 0 m.arrays ≡ None
  pub functions : faults_from (function_fault m) 0 m.functions ≡ None

pub no_faults : (m : Module) → fault_of m ≡ None → NoFaults m
no_faults m e =
    let one = none-first (faults_from (struct_fault m) 0 m.structs) (faults_from (array_fault m) 0 m.arrays ∷ faults_from (function_fault m) 0 m.functions ∷ []) e in
    let two = none-first (faults_from (array_fault m) 0 m.arrays) (faults_from (function_fault m) 0 m.functions ∷ []) one.1 in
    let three = none-first (faults_from (function_fault m) 0 m.functions) [] two.1 in
    record { structs = one.0; arrays = two.0; functions = three.0 }

-- ---- a function

body-is : {X : Type 0} (b : Bool) (xs : List X) → b ≡ false → (if b then [] else xs) ≡ xs
body-is true xs e = absurd cc
body-is false xs e = refl

pub record IsCheckedFunction (m : Module) (f : Function) : Type 0 where
  pub stated : IsStatedFunction m.structs f
  pub double : Bool
  pub head : head_kind double (length m.structs) f ≡ None
  pub item : ℕ
  pub statements : statements_fault (scope_in m f) item (body_of f) ≡ None

pub function_checked : (m : Module) (i : ℕ) (f : Function) → IsChecked m → slice_get m.functions i ≡ Some f → IsCheckedFunction m f
function_checked m i f h at =
    let none = none-each (function_fault m) 0 m.functions i f (no_faults m h.faultless).functions at in
    let place = none.0 in
    let double = is_among (names_before m place) f.name in
    let item = length m.structs + length m.arrays + place in
    let kind = head_kind double (length m.structs) f in
    let later = statements_fault (scope_in m f) item (body_of f) in
    let one = none-first (fault_at item 0 kind) (later ∷ fault_at item 0 (bound_kind f) ∷ []) none.1 in
    let two = none-first later (fault_at item 0 (bound_kind f) ∷ []) one.1 in
    record {
      stated = each-at (IsStatedFunction m.structs) m.functions i f (each (IsStatedFunction m.structs) m.functions h.stated.functions) at;
      double = double;
      head = none-at item 0 kind one.0;
      item = item;
      statements = two.0;
    }

statements-each : (s : Scope) (item n : ℕ) (body : List Statement) → faults_from (λ place st. fault_at item place (statement_kind s st)) n body ≡ None → AllByRecursion (λ st. statement_kind s st ≡ None) body
statements-each s item n [] e = tt
statements-each s item n (st ∷ body) e =
    let rest = faults_from (λ place st. fault_at item place (statement_kind s st)) (n + 1) body in
    let h = none-first (fault_at item n (statement_kind s st)) (rest ∷ []) e in
    (none-at item n (statement_kind s st) h.0, statements-each s item (n + 1) body (none-first rest [] h.1).0)

-- each statement of a definition passes the checks
pub statements_pass : (m : Module) (f : Function) → IsCheckedFunction m f → is_extern f.linkage ≡ false → AllByRecursion (λ st. statement_kind (scope_in m f) st ≡ None) f.body
statements_pass m f h e = subst (λ body. AllByRecursion (λ st. statement_kind (scope_in m f) st ≡ None) body) (body-is (is_extern f.linkage) f.body e) (statements-each (scope_in m f) h.item 0 (body_of f) h.statements)

-- ---- labels

-- the label that a statement puts
abbrev pub PutsBelow : ℕ → Option ℕ → Type 0
PutsBelow count None = Unit {0}
PutsBelow count (Some l) = l < count

same-number : (a b : ℕ) → nat_eq a b ≡ true → a ≡ b
same-number a b e = grind (arith, nat_tests)

counts-below : (n : ℕ) (ks : List ℕ) → counts_up n ks ≡ true → AllByRecursion (λ k. k < n + length ks) ks
counts-below n [] e = tt
counts-below n (k ∷ ks) e =
    let h = both-are (nat_eq k n) (counts_up (n + 1) ks) e in
    let is = same-number k n h.0 in
    (omega (arith, is), each-weaker (λ j. j < n + 1 + length ks) (λ j. j < n + length (k ∷ ks)) (λ j less. omega (arith, less)) ks (counts-below (n + 1) ks h.1))

put-below : (count : ℕ) (o : Option ℕ) (ls : List ℕ) → AllByRecursion (λ l. l < count) (cons_option o ls) → PutsBelow count o × AllByRecursion (λ l. l < count) ls
put-below count None ls h = (tt, h)
put-below count (Some l) ls h = h

puts-below : (count : ℕ) (body : List Statement) → AllByRecursion (λ l. l < count) (filter_map label_of body) → AllByRecursion (λ st. PutsBelow count (label_of st)) body
puts-below count [] h = tt
puts-below count (st ∷ body) h = let p = put-below count (label_of st) (filter_map label_of body) h in (p.0, puts-below count body p.1)

pub record LabelsStand (f : Function) : Type 0 where
  pub puts : AllByRecursion (λ st. PutsBelow (length f.labels) (label_of st)) f.body
  pub goes : AllByRecursion (λ st. goes_within (length f.labels) st ≡ true) f.body

pub labels_are : (f : Function) → labels_stand f ≡ true → LabelsStand f
labels_are f e =
    let count = length f.labels in
    let ls = filter_map label_of f.body in
    let all = both-are (labels_in_order count f.body && goals_stand count f.body) (not (repeats f.labels)) e in
    let two = both-are (labels_in_order count f.body) (goals_stand count f.body) all.0 in
    let order = both-are (counts_up 0 ls) (nat_eq (length ls) count) two.0 in
    let many = same-number (length ls) count order.1 in
    record {
      puts = puts-below count f.body (each-weaker (λ l. l < 0 + length ls) (λ l. l < count) (λ l less. omega (arith, less, many)) ls (counts-below 0 ls order.0));
      goes = each-passes (goes_within count) f.body two.1;
    }
