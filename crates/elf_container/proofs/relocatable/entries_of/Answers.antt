use Rattle.std.proofs.Common.{◌≡◌, ◌+◌, length, arith}
use Rattle.elf_container.specs.Relocatable.{entries_from}
use Rattle.elf_container.proofs.ObjectSteps.{list_go, list_end}
use Rattle.elf_container.proofs.relocatable.entries_of.Goals as goal

pub overflow_add-name-in-loop-symbol : goal.overflow_add-name-in-loop-symbol
overflow_add-name-in-loop-symbol c = omega (arith, c.len.ensures.name.bounded, c.len.ensures.value, c.loop-symbol.invariant.small)

pub loop-symbol-preserved : goal.loop-symbol-preserved
loop-symbol-preserved c =
    let next : c.loop-symbol.name + (c.len.result + 1) ≡ c.loop-symbol.name + length c.symbol-item.result.name + 1 = omega (arith, c.len.ensures.value) in
    record {
      value = rw (c.in_ok-push.ensures.items, c.entry_of.ensures, next) (list_go c.loop-symbol.found.items c.loop-symbol.name c.args.symbols.now c.loop-symbol.symbol-index c.symbol-item.result (entries_from 1 c.args.symbols.now) c.loop-symbol-test.true c.symbol-item.is c.loop-symbol.invariant.value);
      small = omega (arith, c.len.ensures.name.bounded, c.len.ensures.value, c.loop-symbol.invariant.small);
    }

pub returns : goal.returns
returns c = list_end c.loop-symbol.found.items c.loop-symbol.name c.args.symbols.now c.loop-symbol.symbol-index (entries_from 1 c.args.symbols.now) c.loop-symbol-test.false c.loop-symbol.invariant.value
