use Rattle.std.proofs.Common.{◌≡◌, map, take}
use Rattle.module_stream.specs.Bodies.{body_of}
use Rattle.lto_object.proofs.streams.slices.Given as goal

abbrev pub invariant-loop-body : goal.invariant-loop-body
invariant-loop-body l = map (λ b. b.now) l.slices.items ≡ map body_of (take l.body-index l.bodies)
