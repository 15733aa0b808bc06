use Rattle.std.proofs.Common.{◌≡◌, length, drop, ap, ◌∙◌, arith}
use Rattle.std.proofs.lemmas.List.{length-drop}
use Rattle.elf_container.specs.Entries.{entries}
use Rattle.elf_container.proofs.Tables.{room, entries_go, entries_end}
use Rattle.elf_container.proofs.entries.entries.Goals as goal

pub read-requires : goal.read-requires
read-requires g c = (room g.E.Entry.size c.args.count c.loop.counter (length c.loop.rest.now) c.loop-test.true c.loop.invariant.within).0

pub loop-preserved : goal.loop-preserved
loop-preserved g c =
    let all = entries g.E.Entry.size g.E.Entry.read_in c.args.count c.args.bytes.now in
    let there = room g.E.Entry.size c.args.count c.loop.counter (length c.loop.rest.now) c.loop-test.true c.loop.invariant.within in
    let behind : c.split_at.result.1.now ≡ drop g.E.Entry.size c.loop.rest.now = c.split_at.ensures.back ∙ ap (λ n. drop n c.loop.rest.now) c.size.ensures in
    record {
      value = rw (c.in_ok-push.ensures.items, c.read.ensures, behind) (entries_go g.E.Entry.size g.E.Entry.read_in c.loop.found.items c.args.count c.loop.counter c.loop.rest.now all c.loop-test.true c.loop.invariant.value);
      within = omega (arith, there.1, ap length behind, length-drop g.E.Entry.size c.loop.rest.now);
    }

pub returns : goal.returns
returns g c = entries_end g.E.Entry.size g.E.Entry.read_in c.loop.found.items c.args.count c.loop.counter c.loop.rest.now (entries g.E.Entry.size g.E.Entry.read_in c.args.count c.args.bytes.now) c.loop-test.false c.loop.invariant.value
