-- A body and its steps: the step, the label and the call at each place.
use Rattle.std.proofs.Common.{◌≡◌, ◌+◌, ◌<◌, ℕ, zero, suc, List, [], ◌∷◌, ◌++◌, length, map, Bool, cond, Some, None, refl, sym, ap, ap₂, ◌∙◌, subst, arith, append_assoc, length-append}
use Rattle.std.specs.Prelude.{Option, slice_get, option_map, is_some, take}
use Rattle.std.specs.List.{flat_map, filter_map, enumerate_from, cons_option}
use Rattle.std.specs.Option.{option_map_or}
use Rattle.std.proofs.lemmas.Option.{none-some, same_Some}
use Rattle.std.proofs.lemmas.List.Folds.{flat_map-map}
use Rattle.std.proofs.lemmas.List.FromFn.{length-map-range_with_len}
use Rattle.std.proofs.lemmas.List.Sums.{sum_by-cons}
use Rattle.gimple_ir.specs.declared.types.ScalarType.{ScalarType}
use Rattle.gimple_ir.specs.declared.types.Operand.{Operand}
use Rattle.gimple_ir.specs.declared.types.Operand.TheVariants.{Component, Literal}
use Rattle.gimple_ir.specs.declared.types.Arg.{Arg}
use Rattle.gimple_ir.specs.declared.types.Arg.TheVariants.{One, Whole}
use Rattle.gimple_ir.specs.declared.types.Variable.{Variable}
use Rattle.gimple_ir.specs.declared.types.Function.{Function}
use Rattle.gimple_ir.specs.declared.types.Program.{Program}
use Rattle.gimple_ir.specs.declared.types.Statement.{Statement}
use Rattle.gimple_ir.specs.declared.types.Statement.TheVariants.{Label, Call}
use Rattle.gimple_ir.specs.declared.summary.Edge.{Edge}
use Rattle.gimple_ir.specs.declared.plan.CallPlan.{CallPlan}
use Rattle.gimple_ir.specs.declared.plan.Version.{Version}
use Rattle.gimple_ir.specs.declared.plan.Plan.{Plan}
use Rattle.gimple_ir.specs.declared.merged.Merged.{Merged}
use Rattle.gimple_ir.specs.declared.unit.CallUse.{CallUse}
use Rattle.gimple_ir.specs.declared.unit.Member.{Member}
use Rattle.gimple_ir.specs.declared.versioned.VersionedFunction.{VersionedFunction}
use Rattle.gimple_ir.specs.CodeBound.{components_of}
use Rattle.gimple_ir.specs.Statements.{component_types}
use Rattle.gimple_meaning.specs.Source.{components_from, pairs_from}
use Rattle.gimple_meaning.specs.Source as source
use Rattle.gimple_meaning.specs.Steps as steps
use Rattle.func_summary.specs.Summaries.{edge_arguments, edge_of, edges_of}
use Rattle.ipa_transform.specs.Versioned.{first_component, field_count, operands_of, struct_pairs, picked, kept_of, step_of, calls_in, steps_of}
use Rattle.func_summary.proofs.Checked.{place_inside}
use Rattle.ipa_plan.specs.Rules.{Choice, kept_from, IsCallOf}
use Rattle.program_link.specs.Versions.{call_use}
use Rattle.gimple_meaning.specs.Linked.{LinkedProgram, linked_step}
use Rattle.version_laws.proofs.Lists.{there, mapped_at}
use Rattle.program_link.proofs.VersionFacts.{VersionFacts}

-- ---- places

-- how many functions were called before the statement at a place, n before the first
abbrev pub calls_before : ℕ → List Statement → ℕ → ℕ
calls_before n [] place = n
calls_before n (s ∷ ss) zero = n
calls_before n (s ∷ ss) (suc place) = calls_before (n + calls_in s) ss place

pub step_at : (m : Member) (n : ℕ) (ss : List Statement) (place : ℕ) → slice_get (steps_of m n ss) place ≡ option_map (step_of m (calls_before n ss place)) (slice_get ss place)
step_at m n [] place = refl
step_at m n (s ∷ ss) zero = refl
step_at m n (s ∷ ss) (suc place) = step_at m (n + calls_in s) ss place

same_label : (w : Member) (p : LinkedProgram) (v : VersionedFunction) (n l : ℕ) (s : Statement) → steps.is_label l (linked_step p v (step_of w n s)) ≡ source.is_label l s
same_label w p v n l (Label k) = refl
same_label w p v n l _ = refl

pub same_place : (w : Member) (p : LinkedProgram) (v : VersionedFunction) (n l : ℕ) (ss : List Statement)
    → steps.place_of (map (linked_step p v) (steps_of w n ss)) l ≡ source.place_of ss l
same_place w p v n l [] = refl
same_place w p v n l (s ∷ ss) =
    ap₂ (λ (b : Bool) (k : ℕ). cond b 0 (suc k)) (same_label w p v n l s) (same_place w p v (n + calls_in s) l ss)

-- ---- calls

abbrev pub edge_with : Function → ℕ → Option ℕ → ℕ → List Arg → Edge
edge_with f place to g args = record { statement = place; callee = g; assigns = is_some to; args = flat_map (edge_arguments f) args }

pub first_after : {A : Type 0} (pre : List A) (x : A) (more : List A) → slice_get (pre ++ (x ∷ more)) (length pre) ≡ Some x
first_after [] x more = refl
first_after (y ∷ pre) x more = first_after pre x more

joined : (pre : List Edge) (o : Option Edge) (rest : List Edge) → (pre ++ cons_option o []) ++ rest ≡ pre ++ cons_option o rest
joined pre None rest = append_assoc pre [] rest
joined pre (Some e) rest = append_assoc pre (e ∷ []) rest

one_call : (f : Function) (place : ℕ) (s : Statement) → length (cons_option (edge_of f place s) []) ≡ calls_in s
one_call f place (Call to g args) = refl
one_call f place _ = refl

edge_at : (f : Function) (place : ℕ) (pre : List Edge) (ss : List Statement) (i : ℕ) (to : Option ℕ) (g : ℕ) (args : List Arg) → slice_get ss i ≡ Some (Call to g args)
    → (at : ℕ) × (slice_get (pre ++ filter_map (λ pair. edge_of f pair.0 pair.1) (enumerate_from place ss)) (calls_before (length pre) ss i) ≡ Some (edge_with f at to g args))
edge_at f place pre [] i to g args here = absurd (none-some (Call to g args) here)
edge_at f place pre (s ∷ ss) zero to g args here =
    let rest = filter_map (λ pair. edge_of f pair.0 pair.1) (enumerate_from (place + 1) ss) in
    let same : s ≡ Call to g args = same_Some s (Call to g args) here in (
      place,
      subst (λ (z : Statement). slice_get (pre ++ cons_option (edge_of f place z) rest) (length pre) ≡ Some (edge_with f place to g args)) (sym same)
          (first_after pre (edge_with f place to g args) rest),
    )
edge_at f place pre (s ∷ ss) (suc i) to g args here =
    let rest = filter_map (λ pair. edge_of f pair.0 pair.1) (enumerate_from (place + 1) ss) in
    let one = cons_option (edge_of f place s) [] in
    let h = edge_at f (place + 1) (pre ++ one) ss i to g args here in
    let count : length (pre ++ one) ≡ length pre + calls_in s = length-append pre one ∙ ap (λ (k : ℕ). length pre + k) (one_call f place s) in (
      h.0,
      subst (λ (z : List Edge). slice_get z (calls_before (length pre + calls_in s) ss i) ≡ Some (edge_with f h.0 to g args)) (joined pre (edge_of f place s) rest)
          (subst (λ (z : ℕ). slice_get ((pre ++ one) ++ rest) (calls_before z ss i) ≡ Some (edge_with f h.0 to g args)) count h.1),
    )

-- ---- operands

abbrev pub types_of : List Variable → List (List ScalarType)
types_of variables = map (λ (v : Variable). v.types) variables

pub types_same : (variables : List Variable) → flat_map (λ (types : List ScalarType). types) (types_of variables) ≡ component_types variables
types_same variables = flat_map-map (λ (types : List ScalarType). types) (λ (w : Variable). w.types) variables

first_same : (vs : List Variable) (v : ℕ) → first_component (types_of vs) v ≡ source.first_component vs v
first_same [] zero = refl
first_same [] (suc v) = refl
first_same (w ∷ ws) zero = refl
first_same (w ∷ ws) (suc v) =
    omega (arith, first_same ws v, sum_by-cons (λ (types : List ScalarType). length types) w.types (take v (types_of ws)), sum_by-cons (λ (x : Variable). length x.types) w (take v ws))

count_same : (vs : List Variable) (v : ℕ) → field_count (types_of vs) v ≡ components_of vs v
count_same [] v = refl
count_same (w ∷ ws) zero = refl
count_same (w ∷ ws) (suc v) = count_same ws v

operand_same : (vs : List Variable) (a : Arg) → operands_of (types_of vs) a ≡ source.operands_of vs a
operand_same vs (One a) = refl
operand_same vs (Whole v) = ap₂ (λ (first count : ℕ). components_from first count) (first_same vs v) (count_same vs v)

pub operands_same : (vs : List Variable) (args : List Arg) → flat_map (operands_of (types_of vs)) args ≡ flat_map (source.operands_of vs) args
operands_same vs [] = refl
operands_same vs (a ∷ args) = ap₂ (λ (xs ys : List Operand). xs ++ ys) (operand_same vs a) (operands_same vs args)

pub pairs_same : (vs : List Variable) (to from : ℕ) → struct_pairs (types_of vs) to from ≡ source.struct_pairs vs to from
pairs_same vs to from =
    ap₂ (λ (first count : ℕ). pairs_from first (first_component (types_of vs) from) count) (first_same vs to) (count_same vs from)
    ∙ ap (λ (first : ℕ). pairs_from (source.first_component vs to) first (components_of vs from)) (first_same vs from)

length-components_from : (first count : ℕ) → length (components_from first count) ≡ count
length-components_from first zero = refl
length-components_from first (suc n) = ap suc (length-components_from (first + 1) n)

one_count : (f : Function) (a : Arg) → length (edge_arguments f a) ≡ length (source.operands_of f.variables a)
one_count f (One (Component x)) = refl
one_count f (One (Literal v)) = refl
one_count f (Whole v) =
    length-map-range_with_len _ 0 (components_of f.variables v) ∙ sym (length-components_from (source.first_component f.variables v) (components_of f.variables v))

pub argument_count : (f : Function) (args : List Arg) → length (flat_map (edge_arguments f) args) ≡ length (flat_map (source.operands_of f.variables) args)
argument_count f [] = refl
argument_count f (a ∷ args) =
    length-append (edge_arguments f a) (flat_map (edge_arguments f) args)
    ∙ ap₂ (λ (j k : ℕ). j + k) (one_count f a) (argument_count f args)
    ∙ sym (length-append (source.operands_of f.variables a) (flat_map (source.operands_of f.variables) args))

-- ---- calls of a version

-- the call at a place, before which n functions are called
pub record CallStands (plan : Plan) (choice : Choice) (v : Version) (f : Function) (n : ℕ) (to : Option ℕ) (g : ℕ) (args : List Arg) : Type 0 where
  pub call : CallPlan
  pub place : ℕ
  pub edge_is : slice_get (edges_of f) n ≡ Some (edge_with f place to g args)
  pub planned : slice_get v.calls n ≡ Some call
  pub rules : IsCallOf plan choice v (edge_with f place to g args) call
  pub symbol : slice_get (map (λ (c : CallUse). c.symbol) (map (call_use plan) v.calls)) n ≡ Some rules.target.symbol
  pub passed : picked (flat_map (operands_of (types_of f.variables)) args) (kept_of (map (call_use plan) v.calls) n)
      ≡ picked (flat_map (source.operands_of f.variables) args) (kept_from 0 rules.target.bindings)

pub call_stands : (p : Program) (merged : Merged) (plan : Plan) (choice : Choice) (v : Version) (f : Function) → VersionFacts p merged plan choice v f → (i : ℕ) (to : Option ℕ) (g : ℕ) (args : List Arg)
    → slice_get f.body i ≡ Some (Call to g args) → CallStands plan choice v f (calls_before 0 f.body i) to g args
call_stands p merged plan choice v f k i to g args here =
    let n = calls_before 0 f.body i in
    let e = edge_at f 0 [] f.body i to g args here in
    let edge = edge_with f e.0 to g args in
    let inside : n < length v.calls = omega (arith, place_inside (edges_of f) n edge e.1, k.count) in
    let r = there v.calls n inside in
    let c = r.0 in
    let rules = k.calls n edge c e.1 r.1 in
    let uses : slice_get (map (call_use plan) v.calls) n ≡ Some (call_use plan c) = mapped_at (call_use plan) v.calls n c r.1 in
    let kept : kept_of (map (call_use plan) v.calls) n ≡ kept_from 0 rules.target.bindings = ap (λ o. option_map_or (λ (u : CallUse). u.kept) o []) uses ∙ rules.kept in
    record {
      call = c;
      place = e.0;
      edge_is = e.1;
      planned = r.1;
      rules = rules;
      symbol =
          mapped_at (λ (u : CallUse). u.symbol) (map (call_use plan) v.calls) n (call_use plan c) uses
          ∙ ap (λ (o : Option Version). Some (option_map_or (λ (w : Version). w.symbol) o [])) rules.there;
      passed = ap₂ (λ (xs : List Operand) (ks : List ℕ). picked xs ks) (operands_same f.variables args) kept;
    }
