-- The lines of a checked function's body are read as its labels and its statements.
use Rattle.std.proofs.Common.{◌≡◌, ◌+◌, ◌≤◌, ℕ, suc, List, [], ◌∷◌, ◌++◌, length, map, true, refl, sym, ap, ap₂, ◌∙◌, arith, append_assoc}
use Rattle.std.specs.Prelude.{Option, Some, None, slice_get, IfSome, nat_eq}
use Rattle.std.proofs.lemmas.List.{length-append}
use Rattle.std.specs.List.{filter_map, cons_option}
use Rattle.std.specs.Option.{option_map, option_to_list}
use Rattle.gimple_ir.specs.declared.types.ResultType.{ResultType}
use Rattle.gimple_ir.specs.declared.types.Statement.{Statement}
use Rattle.gimple_ir.specs.declared.types.Statement.TheVariants.{Nop, Label, Goto, Cond, Switch, ReturnVoid, Return, Copy, Unary, Convert, Binary, Load, Store, CopyStruct, Call, Putchar, Getchar, Exit}
use Rattle.gimple_ir.specs.declared.types.Function.{Function}
use Rattle.gimple_ir.specs.declared.types.Module.{Module}
use Rattle.gimple_ir.specs.Statements.{knows, counts_arguments, types_fit}
use Rattle.gimple_ir.specs.Checks.{scope_in, label_of, counts_up, goes_within}
use Rattle.gimple_ir.specs.Programs.{HasValues}
use Rattle.gimple_grammar.specs.declared.syntax.Operand.{Operand as Written}
use Rattle.gimple_grammar.specs.declared.syntax.Right.{Right}
use Rattle.gimple_syntax.specs.Numbers.{nothing}
use Rattle.gimple_syntax.specs.Statements.{label_name, label_names, labels_at, statements_from}
use Rattle.gimple_print.specs.Statements.{name_at}
use Rattle.text_laws.specs.Syntax.{Names, names_in, assigned_by, called, form_of, lines_from}
use Rattle.text_laws.proofs.Known.{both_true, same_number}
use Rattle.text_laws.proofs.Components.{names_read}
use Rattle.text_laws.proofs.StatementNumbers.{AreNumbers, statement_is}

-- ---- labels

no_label : (name : List ℕ) (field : Option (List ℕ)) (r : Right) → label_name (assigned_by name field r) ≡ None
no_label name None r = refl
no_label name (Some field) r = refl

no_label_call : (n : Names) (to : Option ℕ) (name : List ℕ) (args : List Written) → label_name (called n to name args) ≡ None
no_label_call n None name args = refl
no_label_call n (Some x) name args = no_label _ _ _

label_name_is : (n : Names) (st : Statement) → label_name (form_of n st) ≡ option_map (name_at n.labels) (label_of st)
unfolding form_of
label_name_is n Nop = refl
label_name_is n (Label l) = refl
label_name_is n (Goto l) = refl
label_name_is n (Cond op a b met missed) = refl
label_name_is n (Switch a cases otherwise) = refl
label_name_is n ReturnVoid = refl
label_name_is n (Return a) = refl
label_name_is n (Copy to a) = no_label _ _ _
label_name_is n (Unary to op a) = no_label _ _ _
label_name_is n (Convert to a) = no_label _ _ _
label_name_is n (Binary to op a b) = no_label _ _ _
label_name_is n (Load to array a) = no_label _ _ _
label_name_is n (Store array a b) = refl
label_name_is n (CopyStruct to from) = refl
label_name_is n (Call to f args) = no_label_call n to _ _
label_name_is n (Putchar a) = refl
label_name_is n (Getchar to) = no_label_call n to _ _
label_name_is n (Exit a) = refl

map_cons : {X Y : Type 0} (g : X → Y) (o : Option X) (xs : List X) → cons_option (option_map g o) (map g xs) ≡ map g (cons_option o xs)
map_cons g None xs = refl
map_cons g (Some x) xs = refl

names_of_lines : (n : Names) (line : ℕ) (body : List Statement) → label_names (lines_from n line body) ≡ map (name_at n.labels) (filter_map label_of body)
names_of_lines n line [] = refl
names_of_lines n line (st ∷ body) =
    ap₂ cons_option (label_name_is n st) (names_of_lines n (line + 1) body) ∙ map_cons (name_at n.labels) (label_of st) (filter_map label_of body)

name_behind : (before after : List (List ℕ)) (name : List ℕ) → name_at (before ++ name ∷ after) (length before) ≡ name
name_behind [] after name = refl
name_behind (b ∷ before) after name = name_behind before after name

in_order : (before labels : List (List ℕ)) (ks : List ℕ) → counts_up (length before) ks ≡ true → length ks ≡ length labels → map (name_at (before ++ labels)) ks ≡ labels
in_order before [] [] h many = refl
in_order before [] (k ∷ ks) h many = absurd (omega arith)
in_order before (l ∷ labels) [] h many = absurd (omega arith)
in_order before (l ∷ labels) (k ∷ ks) h many =
    let each = both_true (nat_eq k (length before)) (counts_up (length before + 1) ks) h in
    ap₂ (λ x xs. x ∷ xs) (ap (name_at (before ++ l ∷ labels)) (same_number k (length before) each.0) ∙ name_behind before labels l)
    (ap (λ (ns : List (List ℕ)). map (name_at ns) ks) (sym (append_assoc before (l ∷ []) labels))
    ∙ in_order (before ++ l ∷ []) labels ks (ap (λ n. counts_up n ks) (length-append before (l ∷ [])) ∙ each.1) (omega arith))

-- the labels of the lines are those of the function
pub labels_are : (m : Module) (f : Function) (line : ℕ) → counts_up 0 (filter_map label_of f.body) ≡ true → length (filter_map label_of f.body) ≡ length f.labels
    → label_names (lines_from (names_in m f) line f.body) ≡ f.labels
labels_are m f line h many = names_of_lines (names_in m f) line f.body ∙ in_order [] f.labels (filter_map label_of f.body) h many

pub labels_few : (body : List Statement) → length (filter_map label_of body) ≤ length body
labels_few [] = omega arith
labels_few (st ∷ body) = by (label_of st) (labels_few body)
  where
    by : (o : Option ℕ) → length (filter_map label_of body) ≤ length body → length (cons_option o (filter_map label_of body)) ≤ length (st ∷ body)
    by None h = omega arith
    by (Some l) h = omega arith

-- ---- statements

-- a statement in which the checks find nothing
pub record IsSound (m : Module) (f : Function) (st : Statement) : Type 0 where
  pub values : HasValues st
  pub knows : knows (scope_in m f) st ≡ true
  pub counts : counts_arguments (scope_in m f) st ≡ true
  pub types : types_fit (scope_in m f) st ≡ true
  pub goals : goes_within (length f.labels) st ≡ true

next : {X : Type 0} (labels : ℕ) (o : Option ℕ) (name : ℕ → X) (ks : List ℕ) → counts_up labels (cons_option o ks) ≡ true → labels + length (cons_option o ks) ≤ nothing
    → IfSome o (λ l. (l ≡ labels) × (labels ≤ nothing))
    × (counts_up (labels + length (option_to_list (option_map name o))) ks ≡ true)
    × (labels + length (option_to_list (option_map name o)) + length ks ≤ nothing)
next labels None name ks h few = (tt, ap (λ n. counts_up n ks) (omega arith) ∙ h, omega (arith, few))
next labels (Some l) name ks h few =
    let each = both_true (nat_eq l labels) (counts_up (labels + 1) ks) h in
    ((same_number l labels each.0, omega (arith, few)), each.1, omega (arith, few))

pub body_is : (m : Module) (f : Function) → AreNumbers m f → (result : ResultType) (labels line : ℕ) (body : List Statement)
    → ((i : ℕ) (st : Statement) → slice_get body i ≡ Some st → IsSound m f st)
    → counts_up labels (filter_map label_of body) ≡ true → labels + length (filter_map label_of body) ≤ nothing
    → statements_from (names_read m f) result labels (lines_from (names_in m f) line body) ≡ body
unfolding statements_from
body_is m f k result labels line [] sound h few = refl
body_is m f k result labels line (st ∷ body) sound h few =
    let s = sound 0 st refl in
    let gn = names_read m f in
    let sn = names_in m f in
    let parts = next labels (label_of st) (name_at f.labels) (filter_map label_of body) h few in
    let count : labels + length (labels_at (form_of sn st)) ≡ labels + length (option_to_list (option_map (name_at f.labels) (label_of st))) =
    ap (λ o. labels + length (option_to_list o)) (label_name_is sn st) in
    ap₂ (λ x xs. x ∷ xs) (statement_is m f k result labels st s.values s.knows s.counts s.types s.goals parts.0)
    (ap (λ n. statements_from gn result n (lines_from sn (line + 1) body)) count
    ∙ body_is m f k result (labels + length (option_to_list (option_map (name_at f.labels) (label_of st)))) (line + 1) body (λ i x at. sound (suc i) x at) parts.1 parts.2)
