use Rattle.std.proofs.Common.{◌+◌, ◌∙◌, ap, sym, min}
use Rattle.std.specs.List.{position}
use Rattle.std.specs.Option.{option_copied, option_map_or}
use Rattle.std.specs.Str.{bytes_eq}
use Rattle.gimple_ir.specs.declared.types.Operand.TheVariants.{Component}
use Rattle.gimple_syntax.specs.declared.named.Named.TheVariants.{Unknown, Single}
use Rattle.gimple_syntax.specs.Numbers.{nothing}
use Rattle.gimple_syntax.specs.Places.{first_component, field_at}
use Rattle.gimple_syntax.proofs.scope.Scope.field_at.Goals as goal

pub returns : goal.returns
returns c =
    let n = c.args.self.now in
    let v = c.args.variable in
    let field = c.args.field.now in
    c.component_after.ensures
    ∙ ap (λ first. option_map_or (λ p. Single (Component (min (first + p) nothing))) c.field_place-place.result Unknown) c.first_component.ensures
    ∙ ap (λ place. option_map_or (λ p. Single (Component (min (first_component n v + p) nothing))) place Unknown)
    (c.field_place-place.ensures ∙ ap (λ fields. position (λ f. bytes_eq field f.name) fields) c.as_slice.ensures)
    ∙ sym (ap (λ found. field_at n v field (option_copied found)) c.in-Some.is)
