use Rattle.std.proofs.Common.{refl}
use Rattle.gimple_syntax.proofs.StandIns.{switch-fails, returned-fails}
use Rattle.gimple_syntax.proofs.laws.stand_ins_are_ill_typed.Goals as goal

pub returns : goal.returns
returns c = record {
  statement = λ s. refl;
  condition = λ s met missed. refl;
  switch = switch-fails;
  returned = returned-fails;
}
