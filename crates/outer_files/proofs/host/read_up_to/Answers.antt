use Rattle.std.proofs.Common.{◌++◌, take, ℕ, length-append, arith}
use Rattle.std.proofs.lemmas.List.{length-take}
use Rattle.std.proofs.KnownBytes.{Consumes-trans}
use Rattle.outer_files.proofs.host.read_up_to.Goals as goal

pub returns-then-count-limit-clause-taken : goal.returns-then-count-limit-clause-taken
returns-then-count-limit-clause-taken g c =
    let k = c.in-Ok.ensures in
    (c.loop-bytes.bytes.items ++ take c.in-Ok.count c.read.new.buf, omega (arith, length-append {A = ℕ}, length-take {A = ℕ}, k.bound.0, k.bound.1), Consumes-trans _ _ _ _ _ c.loop-bytes.invariant.taken k.bytes.0)

pub returns-then-is_err-clause-taken : goal.returns-then-is_err-clause-taken
returns-then-is_err-clause-taken g c =
    let k = c.in-Ok.ensures in
    (c.loop-bytes.bytes.items ++ take c.in-Ok.count c.read.new.buf, omega (arith, length-append {A = ℕ}, length-take {A = ℕ}, k.bound.0, k.bound.1), Consumes-trans _ _ _ _ _ c.loop-bytes.invariant.taken k.bytes.0)
