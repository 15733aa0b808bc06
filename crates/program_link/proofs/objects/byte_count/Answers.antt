use Rattle.std.proofs.Common.{arith}
use Rattle.program_link.proofs.PartForm.{words_fit}
use Rattle.program_link.proofs.objects.byte_count.Goals as goal

pub returns-clause-fits : goal.returns-clause-fits
returns-clause-fits c = words_fit c.args.words.now (λ i. omega (arith, c.type_inv.words i))
