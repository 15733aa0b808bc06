use Rattle.std.proofs.Common.{arith}
use Rattle.elf_container.proofs.Tables.{put_more, put_done}
use Rattle.elf_container.proofs.entries.put_all.Goals as goal

pub loop-item-preserved : goal.loop-item-preserved
loop-item-preserved g c = put_more g.S.Spelled.spell c.args.out.now.items c.loop-item.out.items c.put.new.out.items c.args.items.now c.loop-item.item-index c.item-item.result (omega arith) c.item-item.is c.loop-item.invariant c.in_ok-put.ensures

pub returns : goal.returns
returns g c = put_done g.S.Spelled.spell c.args.out.now.items c.loop-item.out.items c.args.items.now c.loop-item.item-index (omega arith) c.loop-item.invariant
