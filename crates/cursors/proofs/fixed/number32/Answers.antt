use Rattle.std.proofs.Common.{sym, ap, ◌∙◌, arith}
use Rattle.std.specs.Int.{bytes_low_first}
use Rattle.cursors.specs.Fixed.{le32}
use Rattle.cursors.proofs.FixedLaws.{le_spells}
use Rattle.cursors.proofs.fixed.number32.Goals as goal

pub returns-clause-spelled : goal.returns-clause-spelled
unfolding le32
returns-clause-spelled c = sym (ap (bytes_low_first 0 4) c.read_u32.ensures ∙ le_spells 4 c.args.field.now (λ i. omega (arith, c.type_inv.field i)) c.requires)
