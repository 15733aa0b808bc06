-- What a program whose summaries are true gives of each of its functions.
use Rattle.std.proofs.Common.{◌≡◌, ◌+◌, ◌<◌, ◌≤◌, ℕ, zero, suc, List, [], ◌∷◌, length, Bool, true, Some, None, refl, ap, ◌∙◌, arith, subst}
use Rattle.std.specs.Prelude.{◌&&◌, not, Option, slice_get, nat_eq, IfSome}
use Rattle.std.specs.List.{list_all, filter_map, cons_option}
use Rattle.std.proofs.lemmas.Bool.Decides.{nat_tests}
use Rattle.gimple_ir.specs.declared.types.Function.{Function}
use Rattle.gimple_ir.specs.declared.types.Program.{Program}
use Rattle.gimple_ir.specs.declared.types.Statement.{Statement}
use Rattle.gimple_ir.specs.declared.merged.Merged.{Merged}
use Rattle.gimple_ir.specs.Names.{repeats}
use Rattle.gimple_ir.specs.CodeBound.{components_in, parameter_components, code_bound_of}
use Rattle.gimple_ir.specs.Statements.{knows, counts_arguments, types_fit, statement_kind}
use Rattle.gimple_ir.specs.Checks.{label_of, counts_up, labels_in_order, goes_within, goals_stand, labels_stand}
use Rattle.gimple_ir.specs.Programs.{IsIdentifier, IsProgramFunction, scope_of}
use Rattle.func_summary.specs.Summarised.{IsSmallFunction, IsSummarised}
use Rattle.func_summary.proofs.Checked.{both-true, statement-passes, all_at}

pub three_true : (a b c : Bool) → (a && b && c) ≡ true → (a ≡ true) × (b ≡ true) × (c ≡ true)
three_true a b c h =
    let two = both-true (a && b) c h in
    let one = both-true a b two.0 in
    (one.0, one.1, two.1)

pub four_true : (a b c d : Bool) → (a && b && c && d) ≡ true → (a ≡ true) × (b ≡ true) × (c ≡ true) × (d ≡ true)
four_true a b c d h =
    let last = both-true (a && b && c) d h in
    let three = three_true a b c last.0 in
    (three.0, three.1, three.2, last.1)

pub all_true : {X : Type 0} (p : X → Bool) (xs : List X) → list_all p xs ≡ true → (i : ℕ) (x : X) → slice_get xs i ≡ Some x → p x ≡ true
all_true p [] h i x here = cc
all_true p (y ∷ xs) h zero x here = let same : x ≡ y = cc in ap p same ∙ (both-true (p y) (list_all p xs) h).0
all_true p (y ∷ xs) h (suc i) x here = all_true p xs (both-true (p y) (list_all p xs) h).1 i x here

-- ---- labels

one_label : (k n c : ℕ) → nat_eq k n ≡ true → k < n + suc c
one_label k n c h = grind (arith, nat_tests)

farther : (o : Option ℕ) (a b : ℕ) → a ≤ b → IfSome o (λ l. l < a) → IfSome o (λ l. l < b)
farther None a b le h = tt
farther (Some l) a b le h = omega (arith, le, h)

label_step : (t : Statement) (ss : List Statement) (n : ℕ) (o : Option ℕ) → label_of t ≡ o → counts_up n (cons_option o (filter_map label_of ss)) ≡ true
    → ((k : ℕ) → counts_up k (filter_map label_of ss) ≡ true → (i : ℕ) (s : Statement) → slice_get ss i ≡ Some s → IfSome (label_of s) (λ l. l < k + length (filter_map label_of ss)))
    → (i : ℕ) (s : Statement) → slice_get (t ∷ ss) i ≡ Some s → IfSome (label_of s) (λ l. l < n + length (cons_option o (filter_map label_of ss)))
label_step t ss n None e up later zero s here = let same : s ≡ t = cc in rw (ap label_of same ∙ e) tt
label_step t ss n None e up later (suc i) s here = later n up i s here
label_step t ss n (Some k) e up later zero s here =
    let same : s ≡ t = cc in
    rw (ap label_of same ∙ e) (one_label k n (length (filter_map label_of ss)) (both-true (nat_eq k n) (counts_up (n + 1) (filter_map label_of ss)) up).0)
label_step t ss n (Some k) e up later (suc i) s here =
    farther (label_of s) (n + 1 + length (filter_map label_of ss)) (n + length (k ∷ filter_map label_of ss)) (omega arith)
    (later (n + 1) (both-true (nat_eq k n) (counts_up (n + 1) (filter_map label_of ss)) up).1 i s here)

-- a label that stands is below the count of those that stand
counted_labels : (body : List Statement) (n : ℕ) → counts_up n (filter_map label_of body) ≡ true → (i : ℕ) (s : Statement) → slice_get body i ≡ Some s
    → IfSome (label_of s) (λ l. l < n + length (filter_map label_of body))
counted_labels [] n h i s here = cc
counted_labels (t ∷ ss) n h i s here = label_step t ss n (label_of t) refl h (counted_labels ss) i s here

few_labels : (body : List Statement) → length (filter_map label_of body) ≤ length body
few_labels [] = omega arith
few_labels (s ∷ ss) = by (label_of s) (few_labels ss)
  where
    by : (o : Option ℕ) → length (filter_map label_of ss) ≤ length ss → length (cons_option o (filter_map label_of ss)) ≤ suc (length ss)
    by None h = omega (arith, h)
    by (Some l) h = omega (arith, h)

pub same_number : (a b : ℕ) → nat_eq a b ≡ true → a ≡ b
same_number a b h = grind (arith, nat_tests)

-- the labels of a statement are below their count
pub record HasLabels (f : Function) (s : Statement) : Type 0 where
  pub stands : IfSome (label_of s) (λ l. l < length f.labels)
  pub goes : goes_within (length f.labels) s ≡ true

label_count : (f : Function) → labels_stand f ≡ true → length f.labels ≤ length f.body
label_count f h =
    let all = both-true (labels_in_order (length f.labels) f.body && goals_stand (length f.labels) f.body) (not (repeats f.labels)) h in
    let two = both-true (labels_in_order (length f.labels) f.body) (goals_stand (length f.labels) f.body) all.0 in
    let order = both-true (counts_up 0 (filter_map label_of f.body)) (nat_eq (length (filter_map label_of f.body)) (length f.labels)) two.0 in
    omega (arith, same_number (length (filter_map label_of f.body)) (length f.labels) order.1, few_labels f.body)

labels_there : (f : Function) → labels_stand f ≡ true → (i : ℕ) (s : Statement) → slice_get f.body i ≡ Some s → HasLabels f s
labels_there f h i s here =
    let all = both-true (labels_in_order (length f.labels) f.body && goals_stand (length f.labels) f.body) (not (repeats f.labels)) h in
    let two = both-true (labels_in_order (length f.labels) f.body) (goals_stand (length f.labels) f.body) all.0 in
    let order = both-true (counts_up 0 (filter_map label_of f.body)) (nat_eq (length (filter_map label_of f.body)) (length f.labels)) two.0 in
    let count = same_number (length (filter_map label_of f.body)) (length f.labels) order.1 in
    let total : 0 + length (filter_map label_of f.body) ≡ length f.labels = omega (arith, count) in
    record {
      stands = subst (λ (n : ℕ). IfSome (label_of s) (λ l. l < n)) total (counted_labels f.body 0 order.0 i s here);
      goes = all_true (goes_within (length f.labels)) f.body two.1 i s here;
    }

-- ---- functions

-- all that is known of a function of the program
pub record Facts (p : Program) (f : Function) : Type 0 where
  pub sound : IsProgramFunction p f
  pub name : IsIdentifier f.name
  pub components : components_in f.variables ≤ 1024
  pub parameters : parameter_components f ≤ 64
  pub statements : length f.body ≤ 8192
  pub bound : code_bound_of f ≤ 524288
  pub few : length f.labels ≤ 8192
  pub labels : (i : ℕ) (s : Statement) → slice_get f.body i ≡ Some s → HasLabels f s
  pub passes : (i : ℕ) (s : Statement) → slice_get f.body i ≡ Some s → (knows (scope_of p f) s ≡ true) × (counts_arguments (scope_of p f) s ≡ true) × (types_fit (scope_of p f) s ≡ true)

pub facts : (p : Program) (merged : Merged) (n : ℕ) (f : Function) → IsSummarised p merged → slice_get p.functions n ≡ Some f → Facts p f
facts p merged n f summarised here =
    let sound = all_at (IsProgramFunction p) p.functions summarised.program.functions n f here in
    let small = all_at IsSmallFunction p.functions summarised.functions n f here in
    record {
      sound = sound;
      name = small.name;
      components = small.components;
      parameters = small.parameters;
      statements = small.statements;
      bound = small.code;
      few = omega (arith, label_count f sound.labels, small.statements);
      labels = labels_there f sound.labels;
      passes = λ i s at. statement-passes (scope_of p f) s (all_at (λ (t : Statement). statement_kind (scope_of p f) t ≡ None) f.body sound.statements i s at);
    }
