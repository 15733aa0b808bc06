use Rattle.std.proofs.Common.{◌≡◌, List, ℕ, Some, ap, sym, subst, ◌∙◌}
use Rattle.gimple_ir.specs.Names.{IsName}
use Rattle.text_lines.proofs.Names.{name_of-name}
use Rattle.text_lines.proofs.parts.name.Goals as goal

pub returns-in-Some : goal.returns-in-Some
returns-in-Some c =
    let found = rw c.in-Some.is at c.in_ok-name.ensures in
    ap (λ (n : List ℕ). Some n) found.0 ∙ sym (name_of-name c.args.word.now (subst IsName found.0 found.1))
