use Rattle.std.proofs.Common.{◌≡◌, take}
use Rattle.lto_object.specs.BodyStream.{bodies_of, bodies_bytes}
use Rattle.lto_object.proofs.bodies.encode_bodies.Given as goal

abbrev pub invariant-loop-function : goal.invariant-loop-function
invariant-loop-function l = l.out.items ≡ bodies_bytes (bodies_of (take l.function-index l.functions))
