-- Each label of a function stands once in its version.
use Rattle.std.proofs.Common.{◌≡◌, ◌+◌, ◌<◌, ◌≤◌, ℕ, zero, suc, List, [], ◌∷◌, length, Bool, true, false, true≢false, ◌≢◌, cond, eqb, eq-eqb, ne_eqb, Some, None, refl, sym, ap, ◌∙◌, subst, arith}
use Rattle.std.specs.Prelude.{Option, ◌&&◌, not, slice_get, nat_eq}
use Rattle.std.specs.List.{filter_map, cons_option}
use Rattle.std.proofs.lemmas.Option.{none-some, same_Some}
use Rattle.gimple_ir.specs.declared.types.Function.{Function}
use Rattle.gimple_ir.specs.declared.types.Program.{Program}
use Rattle.gimple_ir.specs.declared.types.Statement.{Statement}
use Rattle.gimple_ir.specs.declared.types.Statement.TheVariants.{Label}
use Rattle.gimple_ir.specs.declared.plan.Version.{Version}
use Rattle.gimple_ir.specs.declared.plan.Plan.{Plan}
use Rattle.gimple_ir.specs.declared.merged.Merged.{Merged}
use Rattle.gimple_ir.specs.declared.unit.Member.{Member}
use Rattle.gimple_ir.specs.declared.versioned.Step.{Step}
use Rattle.gimple_ir.specs.declared.versioned.Step.TheVariants as form
use Rattle.gimple_ir.specs.Names.{repeats}
use Rattle.gimple_ir.specs.Checks.{label_of, counts_up, labels_in_order, goals_stand, labels_stand}
use Rattle.gimple_meaning.specs.Steps.{place_of, is_label}
use Rattle.func_summary.proofs.Checked.{both-true}
use Rattle.ipa_transform.specs.Versioned.{step_of, calls_in, steps_of}
use Rattle.program_link.specs.Versions.{member_of}
use Rattle.program_link.proofs.Facts.{same_number}
use Rattle.gimple_meaning.specs.Typed.{StandsOnce}
use Rattle.version_laws.proofs.Standing.{version_at}

-- the label of a step
abbrev step_label : Step → Option ℕ
step_label (form.Label l) = Some l
step_label _ = None

same_step_label : (w : Member) (n : ℕ) (s : Statement) → step_label (step_of w n s) ≡ label_of s
same_step_label w n (Label l) = refl
same_step_label w n _ = refl

abbrev has_label : ℕ → Option ℕ → Bool
has_label l None = false
has_label l (Some k) = eqb k l

test_label : (l : ℕ) (s : Step) → is_label l s ≡ has_label l (step_label s)
test_label l (form.Label k) = refl
test_label l _ = refl

-- labels from n on stand in order: each of them once, and none below n
record InOrder (n : ℕ) (labels : List ℕ) (steps : List Step) : Type 0 where
  stands : (l : ℕ) → n ≤ l → l < n + length labels → place_of steps l < length steps
  once : (l place : ℕ) → slice_get steps place ≡ Some (form.Label l) → (place ≡ place_of steps l) × (n ≤ l)

next_order : (n : ℕ) (s : Step) (o : Option ℕ) (labels : List ℕ) (steps : List Step) → step_label s ≡ o → counts_up n (cons_option o labels) ≡ true
    → ((k : ℕ) → counts_up k labels ≡ true → InOrder k labels steps) → InOrder n (cons_option o labels) (s ∷ steps)
next_order n s None labels steps is up later =
    let r = later n up in
    record {
      stands = λ l low high. let test : is_label l s ≡ false = test_label l s ∙ ap (has_label l) is in
          subst (λ (b : Bool). cond b 0 (suc (place_of steps l)) < suc (length steps)) (sym test) (omega (arith, r.stands l low high));
      once = λ l place here. once_later l place here;
    }
  where
    once_later : (l place : ℕ) → slice_get (s ∷ steps) place ≡ Some (form.Label l) → (place ≡ place_of (s ∷ steps) l) × (n ≤ l)
    once_later l zero here = absurd (none-some l (sym is ∙ ap step_label (same_Some s (form.Label l) here)))
    once_later l (suc place) here =
        let r = (later n up).once l place here in
        let test : is_label l s ≡ false = test_label l s ∙ ap (has_label l) is in
        (ap suc r.0 ∙ ap (λ (b : Bool). cond b 0 (suc (place_of steps l))) (sym test), r.1)
next_order n s (Some k) labels steps is up later =
    let both = both-true (nat_eq k n) (counts_up (n + 1) labels) up in
    record { stands = stands_here (later (n + 1) both.1) (same_number k n both.0); once = once_here (later (n + 1) both.1) (same_number k n both.0) }
  where
    test : (l : ℕ) → is_label l s ≡ eqb k l
    test l = test_label l s ∙ ap (has_label l) is

    stands_by : (l : ℕ) (b : Bool) → eqb k l ≡ b → (n + 1 ≤ l → place_of steps l < length steps) → k ≡ n → n ≤ l → cond b 0 (suc (place_of steps l)) < suc (length steps)
    stands_by l true e rest same low = omega arith
    stands_by l false e rest same low =
        let other : k ≢ l = λ (equal : k ≡ l). true≢false (sym (eq-eqb k l equal) ∙ e) in
        let above : n + 1 ≤ l = omega (arith, other, same, low) in
        omega (arith, rest above)

    stands_here : InOrder (n + 1) labels steps → k ≡ n → (l : ℕ) → n ≤ l → l < n + suc (length labels) → place_of (s ∷ steps) l < suc (length steps)
    stands_here r same l low high =
        subst (λ (b : Bool). cond b 0 (suc (place_of steps l)) < suc (length steps)) (sym (test l))
        (stands_by l (eqb k l) refl (λ above. r.stands l above (omega (arith, high))) same low)

    once_here : InOrder (n + 1) labels steps → k ≡ n → (l place : ℕ) → slice_get (s ∷ steps) place ≡ Some (form.Label l) → (place ≡ place_of (s ∷ steps) l) × (n ≤ l)
    once_here r same l zero here =
        let equal : k ≡ l = same_Some k l (sym is ∙ ap step_label (same_Some s (form.Label l) here)) in
        (ap (λ (b : Bool). cond b 0 (suc (place_of steps l))) (sym (test l ∙ eq-eqb k l equal)), omega (arith, same, equal))
    once_here r same l (suc place) here =
        let rest = r.once l place here in
        let differ : eqb k l ≡ false = ne_eqb k l (λ (e : k ≡ l). omega (arith, rest.1, same, e)) in
        (ap suc rest.0 ∙ ap (λ (b : Bool). cond b 0 (suc (place_of steps l))) (sym (test l ∙ differ)), omega (arith, rest.1))

ordered : (w : Member) (calls n : ℕ) (ss : List Statement) → counts_up n (filter_map label_of ss) ≡ true → InOrder n (filter_map label_of ss) (steps_of w calls ss)
ordered w calls n [] up = record { stands = λ l low high. absurd (omega (arith, low, high)); once = λ l place here. absurd (none-some (form.Label l) here) }
ordered w calls n (s ∷ ss) up =
    next_order n (step_of w calls s) (label_of s) (filter_map label_of ss) (steps_of w (calls + calls_in s) ss) (same_step_label w calls s) up (λ k counted. ordered w (calls + calls_in s) k ss counted)

pub labels_once : (p : Program) (merged : Merged) (plan : Plan) (v : Version) (f : Function) → labels_stand f ≡ true → (label : ℕ) → label < length f.labels
    → StandsOnce (version_at p merged plan v f).body label
labels_once p merged plan v f h label lt =
    let all = both-true (labels_in_order (length f.labels) f.body && goals_stand (length f.labels) f.body) (not (repeats f.labels)) h in
    let two = both-true (labels_in_order (length f.labels) f.body) (goals_stand (length f.labels) f.body) all.0 in
    let order = both-true (counts_up 0 (filter_map label_of f.body)) (nat_eq (length (filter_map label_of f.body)) (length f.labels)) two.0 in
    let count = same_number (length (filter_map label_of f.body)) (length f.labels) order.1 in
    let r = ordered (member_of p merged plan v f) 0 0 f.body order.0 in
    let low : 0 ≤ label = omega arith in
    record { stands = r.stands label low (omega (arith, lt, count)); once = λ place here. (r.once label place here).0 }
