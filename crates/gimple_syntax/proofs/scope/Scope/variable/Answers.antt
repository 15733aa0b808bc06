use Rattle.std.proofs.Common.{◌≡◌, ◌∙◌, ap, sym, arith, false, None, Some}
use Rattle.std.specs.Prelude.{nat_eq, slice_get}
use Rattle.std.specs.Option.{option_copied}
use Rattle.gimple_grammar.specs.declared.syntax.Declared.{Declared}
use Rattle.gimple_syntax.specs.Numbers.{nothing}
use Rattle.gimple_syntax.specs.Places.{Names, variable_at}
use Rattle.gimple_syntax.specs.Items.{names_of}
use Rattle.gimple_syntax.proofs.Variables.{named-at, number-is, stands-at, none-at}
use Rattle.gimple_syntax.proofs.scope.Scope.variable.Goals as goal

pub returns-in-Some : goal.returns-in-Some
returns-in-Some c =
    let n = c.args.self.now in
    let m = names_of c.self.inside.items.now c.self.inside.variables.items c.self.inside.labels in
    let number = c.number-number.result in
    let some : nat_eq number nothing ≡ false = grind (arith, c.if-number.false) in
    let here : slice_get c.self.inside.variables.items number ≡ Some c.in-Some.declared.now =
    stands-at c.self.inside.variables.items c.deref.result.now number c.in-Some.declared.now c.deref.ensures.value c.in-Some.ensures.lookup.0 c.in-Some.ensures.lookup.1 in
    c.variable_at.ensures ∙ ap (λ (d : Declared). variable_at n number d.ty (option_copied c.args.field)) c.get-in-Some.ensures
    ∙ named-at n c.args.name.now (option_copied c.args.field) number (Some c.in-Some.declared.now)
    (number-is m n c.self.inside.variable_numbers c.as_slice.result.now c.args.name.now number c.number-number.ensures c.self.invariant.numbered c.as_slice.ensures.value c.self.view_is)
    some (ap (λ (l : Names). slice_get l.variables number) (sym c.self.view_is) ∙ here)

pub returns-in-None : goal.returns-in-None
returns-in-None c =
    let n = c.args.self.now in
    let m = names_of c.self.inside.items.now c.self.inside.variables.items c.self.inside.labels in
    let number = c.number-number.result in
    let some : nat_eq number nothing ≡ false = grind (arith, c.if-number.false) in
    let here : slice_get c.self.inside.variables.items number ≡ None = none-at c.self.inside.variables.items c.deref.result.now number c.deref.ensures.value c.in-None.ensures.lookup.0 in
    named-at n c.args.name.now (option_copied c.args.field) number None
    (number-is m n c.self.inside.variable_numbers c.as_slice.result.now c.args.name.now number c.number-number.ensures c.self.invariant.numbered c.as_slice.ensures.value c.self.view_is)
    some (ap (λ (l : Names). slice_get l.variables number) (sym c.self.view_is) ∙ here)
