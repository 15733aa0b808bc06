-- The example plan keeps to the rules: each is computed.
use Rattle.std.proofs.Common.{◌≡◌, ◌<◌, ℕ, zero, suc, [], ◌∷◌, Bool, true, false, true≢false, Some, refl, sym, ap, ◌∙◌, subst, arith}
use Rattle.std.specs.Prelude.{slice_get}
use Rattle.std.proofs.lemmas.Option.{none-some, same_Some}
use Rattle.std.proofs.lemmas.List.Elements.{All-nil, All-cons}
use Rattle.gimple_ir.specs.Values.{IsValue}
use Rattle.gimple_ir.specs.declared.types.ScalarType.TheVariants.{Int}
use Rattle.gimple_ir.specs.declared.types.Value.{Value}
use Rattle.gimple_ir.specs.declared.lattice.Lattice.{Lattice}
use Rattle.gimple_ir.specs.declared.lattice.Lattice.TheVariants.{Const, Bottom}
use Rattle.gimple_ir.specs.declared.summary.JumpFunction.TheVariants as jump
use Rattle.gimple_ir.specs.declared.summary.EdgeArg.{EdgeArg}
use Rattle.gimple_ir.specs.declared.summary.Edge.{Edge}
use Rattle.gimple_ir.specs.declared.summary.ParamFacts.{ParamFacts}
use Rattle.gimple_ir.specs.declared.plan.CallPlan.{CallPlan}
use Rattle.gimple_ir.specs.declared.plan.Version.{Version}
use Rattle.ipa_plan.specs.Vectors.{lattice_at, jump_under}
use Rattle.ipa_plan.specs.Rules.{Choice, IsCallOf, IsVersionIn, IsBefore, IsOrdered}
use Rattle.ipa_plan.specs.Example.{int, argument, call_of_f, main_version, f_version, constant_version, merged, plan, ExamplePlanned}

-- all components of main, and the first of f; the result of main alone
abbrev needed : ℕ → ℕ → Bool
needed zero i = true
needed (suc f) zero = true
needed (suc f) (suc i) = false

abbrev results : ℕ → Bool
results zero = true
results (suc f) = false

choice : Choice
choice = record { needed = needed; results = results }

abbrev is_constant : Lattice → Bool
is_constant (Const x) = true
is_constant _ = false

never : (x : Value) → Bottom ≡ Const x → ⊥
never x e = true≢false (sym (ap is_constant e))

const_is : (x y : Value) → Const x ≡ Const y → x ≡ y
const_is x y e = cc

-- ---- calls of main

-- with 3
first_call : IsCallOf plan choice main_version (call_of_f 0 (jump.Const (int 3)) (jump.Const (int 7))) (record { target = 2; kept = [] })
unfolding choice
first_call = record {
  target = constant_version;
  there = refl;
  callee = refl;
  kept = refl;
  constant = constant;
  needed = λ i source a at given need. refl;
  result = λ e. absurd (true≢false (sym e));
}
  where
    constant : (i : ℕ) (x : Value) → lattice_at constant_version.vector i ≡ Const x
        → (a : EdgeArg) × (slice_get (argument (jump.Const (int 3)) ∷ (argument (jump.Const (int 7)) ∷ [])) i ≡ Some a) × (jump_under a.jump [] ≡ Const x)
    constant zero x e = (argument (jump.Const (int 3)), refl, e)
    constant (suc zero) x e = absurd (never x e)
    constant (suc (suc i)) x e = absurd (never x e)

-- with a byte that is read
second_call : IsCallOf plan choice main_version (call_of_f 2 jump.Unknown (jump.Const (int 8))) (record { target = 1; kept = 0 ∷ [] })
unfolding choice
second_call = record {
  target = f_version;
  there = refl;
  callee = refl;
  kept = refl;
  constant = constant;
  needed = λ i source a at given need. refl;
  result = λ e. absurd (true≢false (sym e));
}
  where
    constant : (i : ℕ) (x : Value) → lattice_at f_version.vector i ≡ Const x
        → (a : EdgeArg) × (slice_get (argument jump.Unknown ∷ (argument (jump.Const (int 8)) ∷ [])) i ≡ Some a) × (jump_under a.jump [] ≡ Const x)
    constant zero x e = absurd (never x e)
    constant (suc zero) x e = absurd (never x e)
    constant (suc (suc i)) x e = absurd (never x e)

main_calls : (k : ℕ) (e : Edge) (c : CallPlan)
    → slice_get (call_of_f 0 (jump.Const (int 3)) (jump.Const (int 7)) ∷ (call_of_f 2 jump.Unknown (jump.Const (int 8)) ∷ [])) k ≡ Some e
    → slice_get main_version.calls k ≡ Some c → IsCallOf plan choice main_version e c
main_calls zero e c at there =
    subst (λ (x : Edge). IsCallOf plan choice main_version x c) (same_Some _ e at)
    (subst (λ (x : CallPlan). IsCallOf plan choice main_version (call_of_f 0 (jump.Const (int 3)) (jump.Const (int 7))) x) (same_Some _ c there) first_call)
main_calls (suc zero) e c at there =
    subst (λ (x : Edge). IsCallOf plan choice main_version x c) (same_Some _ e at)
    (subst (λ (x : CallPlan). IsCallOf plan choice main_version (call_of_f 2 jump.Unknown (jump.Const (int 8))) x) (same_Some _ c there) second_call)
main_calls (suc (suc k)) e c at there = absurd (none-some e at)

-- ---- versions

main_in : IsVersionIn merged plan choice main_version
unfolding choice
main_in = record {
  function = _;
  there = refl;
  vector = refl;
  typed = λ i x e. absurd (never x e);
  root = λ e. record { unknown = λ i x e. absurd (never x e); needed = λ i lt. refl; result = refl };
  used = λ i facts at here. refl;
  bindings = refl;
  result = refl;
  symbol = refl;
  few = omega arith;
  size = refl;
  calls = refl;
  each = main_calls;
  arrays = All-nil _;
}

f_used : (i : ℕ) (facts : ParamFacts) → slice_get (record { weight = 1; used_here = true } ∷ (record { weight = 0; used_here = false } ∷ [])) i ≡ Some facts → facts.used_here ≡ true → needed 1 i ≡ true
f_used zero facts at here = refl
f_used (suc zero) facts at here = absurd (true≢false (sym here ∙ ap (λ (p : ParamFacts). p.used_here) (sym (same_Some (record { weight = 0; used_here = false }) facts at))))
f_used (suc (suc i)) facts at here = absurd (none-some facts at)

f_in : IsVersionIn merged plan choice f_version
unfolding choice
f_in = record {
  function = _;
  there = refl;
  vector = refl;
  typed = typed;
  root = λ e. absurd (true≢false (sym e));
  used = f_used;
  bindings = refl;
  result = refl;
  symbol = refl;
  few = omega arith;
  size = refl;
  calls = refl;
  each = λ k e c at there. absurd (none-some e at);
  arrays = All-nil _;
}
  where
    typed : (i : ℕ) (x : Value) → lattice_at f_version.vector i ≡ Const x → (slice_get (Int ∷ (Int ∷ [])) i ≡ Some x.ty) × IsValue x
    typed zero x e = absurd (never x e)
    typed (suc zero) x e = absurd (never x e)
    typed (suc (suc i)) x e = absurd (never x e)

three : IsValue (int 3)
three = record { above = omega arith; below = omega arith }

constant_in : IsVersionIn merged plan choice constant_version
unfolding choice
constant_in = record {
  function = _;
  there = refl;
  vector = refl;
  typed = typed;
  root = λ e. absurd (true≢false (sym e));
  used = f_used;
  bindings = refl;
  result = refl;
  symbol = refl;
  few = omega arith;
  size = refl;
  calls = refl;
  each = λ k e c at there. absurd (none-some e at);
  arrays = All-nil _;
}
  where
    typed : (i : ℕ) (x : Value) → lattice_at constant_version.vector i ≡ Const x → (slice_get (Int ∷ (Int ∷ [])) i ≡ Some x.ty) × IsValue x
    typed zero x e = subst (λ (v : Value). (slice_get (Int ∷ (Int ∷ [])) 0 ≡ Some v.ty) × IsValue v) (const_is (int 3) x e) (refl, three)
    typed (suc zero) x e = absurd (never x e)
    typed (suc (suc i)) x e = absurd (never x e)

-- ---- the plan

ordered : IsOrdered plan.versions
ordered zero zero v w lt at there = absurd (omega (arith, lt))
ordered (suc i) zero v w lt at there = absurd (omega (arith, lt))
ordered zero (suc zero) v w lt at there =
    subst (λ (x : Version). IsBefore x w) (same_Some main_version v at)
    (subst (λ (x : Version). IsBefore main_version x) (same_Some f_version w there) (record { functions = omega arith; numbers = λ e. absurd (omega (arith, e)) }))
ordered zero (suc (suc zero)) v w lt at there =
    subst (λ (x : Version). IsBefore x w) (same_Some main_version v at)
    (subst (λ (x : Version). IsBefore main_version x) (same_Some constant_version w there) (record { functions = omega arith; numbers = λ e. absurd (omega (arith, e)) }))
ordered (suc zero) (suc zero) v w lt at there = absurd (omega (arith, lt))
ordered (suc zero) (suc (suc zero)) v w lt at there =
    subst (λ (x : Version). IsBefore x w) (same_Some f_version v at)
    (subst (λ (x : Version). IsBefore f_version x) (same_Some constant_version w there) (record { functions = omega arith; numbers = λ e. omega arith }))
ordered (suc (suc i)) (suc zero) v w lt at there = absurd (omega (arith, lt))
ordered (suc (suc i)) (suc (suc zero)) v w lt at there = absurd (omega (arith, lt))
ordered i (suc (suc (suc j))) v w lt at there = absurd (none-some w there)

pub example_planned : ExamplePlanned
example_planned = record {
  choice = choice;
  versions =
      All-cons (IsVersionIn merged plan choice) main_version (f_version ∷ (constant_version ∷ [])) main_in
      (All-cons (IsVersionIn merged plan choice) f_version (constant_version ∷ []) f_in
      (All-cons (IsVersionIn merged plan choice) constant_version [] constant_in (All-nil (IsVersionIn merged plan choice))));
  ordered = ordered;
  grown = omega arith;
  arrays = All-nil (λ a. a < 0);
  ascending = λ i lt. absurd (omega (arith, lt));
  main = λ e. (0, main_version, refl, (refl, refl));
}
