use Rattle.std.proofs.Common.{◌∙◌, ap, sym, subst, ◌++◌, arith}
use Rattle.std.specs.Fmt.{decimal}
use Rattle.gimple_ir.specs.Names.{IsName}
use Rattle.workload_gen.proofs.FunctionNames.{name_of-IsName}
use Rattle.workload_gen.proofs.functions.name_of.Goals as goal

pub name-requires : goal.name-requires
name-requires c =
    let number = c.as_bytes.ensures.value ∙ c.format.ensures.text in
    let text = c.as_slice.ensures.value ∙ c.in_ok-extend_from_slice.ensures.items ∙ ap (λ bytes. c.in_ok-text.text.items ++ bytes) number ∙ ap (λ front. front ++ decimal c.args.number) c.in_ok-text.ensures.items in
    subst IsName (sym text) (name_of-IsName c.args.number (omega arith))
