use Rattle.std.proofs.Common.{◌≡◌, ap, ◌∙◌, subst}
use Rattle.std.specs.Prelude.{IfOk, option_and_then}
use Rattle.elf_container.specs.Reading.{text, named}
use Rattle.elf_container.proofs.NameLaws.{name_window, names_read}
use Rattle.elf_container.proofs.names.name_at.Goals as goal

pub returns-clause-value : goal.returns-clause-value
returns-clause-value c =
    subst (λ t. IfOk c.name_in.result (λ found. found ≡ t)) (ap (λ w. option_and_then named (text w)) c.window.ensures ∙ name_window c.args.at c.args.names.now) c.name_in.ensures

pub returns-clause-name : goal.returns-clause-name
returns-clause-name c = names_read c.name_in.result c.window.result.now c.name_in.ensures
