use Rattle.std.proofs.Common.{sym, subst}
use Rattle.cursors.specs.Leb128.{IsUleb}
use Rattle.cursors.proofs.Leb128Laws.{uleb_is, put_last}
use Rattle.cursors.proofs.leb128.spelling_is_shortest.Goals as goal

pub returns : goal.returns
returns c = λ n text lt. (put_last text n lt, λ e. subst (λ t. IsUleb t n) (sym e) (uleb_is n lt))
