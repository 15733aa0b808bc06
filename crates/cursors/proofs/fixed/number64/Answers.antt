use Rattle.std.proofs.Common.{sym, ap, ◌∙◌, arith}
use Rattle.std.specs.Int.{bytes_low_first}
use Rattle.cursors.specs.Fixed.{le64}
use Rattle.cursors.proofs.FixedLaws.{le_spells}
use Rattle.cursors.proofs.fixed.number64.Goals as goal

pub returns-clause-spelled : goal.returns-clause-spelled
unfolding le64
returns-clause-spelled c = sym (ap (bytes_low_first 0 8) c.read_u64.ensures ∙ le_spells 8 c.args.field.now (λ i. omega (arith, c.type_inv.field i)) c.requires)
