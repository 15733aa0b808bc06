use Rattle.std.proofs.Common.{sym, ap, ◌∙◌, arith}
use Rattle.std.specs.Int.{bytes_low_first}
use Rattle.cursors.specs.Fixed.{le16}
use Rattle.cursors.proofs.FixedLaws.{le_spells}
use Rattle.cursors.proofs.fixed.number16.Goals as goal

pub returns-clause-spelled : goal.returns-clause-spelled
unfolding le16
returns-clause-spelled c = sym (ap (bytes_low_first 0 2) c.read_u16.ensures ∙ le_spells 2 c.args.field.now (λ i. omega (arith, c.type_inv.field i)) c.requires)
