use Rattle.std.proofs.Common.{refl}
use Rattle.balanced_partition.proofs.Keeping.{ends_more}
use Rattle.balanced_partition.proofs.versions.ends_of.Goals as goal

pub loop-call-preserved : goal.loop-call-preserved
loop-call-preserved c =
    let calls = c.args.calls.now in
    let i = c.loop-call.call-index in
    let inside = c.requires i _ c.loop-call-test.true in
    ends_more calls i c.args.count _ _ _ c.loop-call.ends.items _ _ c.loop-call-test.true inside.0 inside.1 refl refl c.in_ok-push_at.ensures c.in_ok-push_at-2.ensures c.loop-call.invariant
