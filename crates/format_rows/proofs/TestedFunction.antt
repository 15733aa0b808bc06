-- A `main` of two calls of putchar and a return, all with literals, is one that `code` takes.
use Rattle.std.proofs.Common.{◌≡◌, ◌+◌, ◌*◌, ◌≤◌, [], ◌∷◌, length, Some, true, sym, ap, subst, arith}
use Rattle.std.specs.Prelude.{All, sum_by}
use Rattle.std.proofs.lemmas.List.Elements.{All-nil, All-cons}
use Rattle.gimple_ir.specs.declared.types.Operand.{Operand}
use Rattle.gimple_ir.specs.declared.types.Operand.TheVariants.{Component, Literal}
use Rattle.gimple_ir.specs.Statements.{is_literal}
use Rattle.gimple_ir.specs.declared.versioned.Step.TheVariants.{Putchar, Return}
use Rattle.gimple_ir.specs.declared.versioned.VersionedFunction.{VersionedFunction}
use Rattle.gimple_meaning.specs.Versioned.{most_passed, operands_in, OperandFits, StepFits, IsVersioned}

literal_fits : (f : VersionedFunction) (o : Operand) → is_literal o ≡ true → OperandFits f o
literal_fits f (Component x) e = cc
literal_fits f (Literal v) e = tt

pub is_versioned : (f : VersionedFunction) (a b c : Operand) → is_literal a ≡ true → is_literal b ≡ true → is_literal c ≡ true → f.types ≡ [] → f.bindings ≡ []
    → f.body ≡ Putchar a ∷ (Putchar b ∷ (Return (Some c) ∷ [])) → IsVersioned f
is_versioned f a b c is_a is_b is_c types bindings body =
    let first = Putchar a in
    let second = Putchar b in
    let last = Return (Some c) in
    let sum = ap (sum_by (λ s. 7 + 11 * operands_in s)) body in
    record {
      components = omega (arith, ap (λ ts. length ts) types);
      arguments = subst (λ ss. most_passed ss ≤ 64) (sym body) (omega arith);
      steps = subst (All (StepFits f)) (sym body)
          (All-cons (StepFits f) first (second ∷ (last ∷ [])) (literal_fits f a is_a)
          (All-cons (StepFits f) second (last ∷ []) (literal_fits f b is_b) (All-cons (StepFits f) last [] (literal_fits f c is_c) (All-nil (StepFits f)))));
      bound = omega (arith, ap (λ bs. length bs) bindings, sum);
    }
