use Rattle.std.proofs.Common.{ℕ, List, ◌≡◌, ◌+◌, ◌||◌, [], map, take, drop, true, false, arith, ap, ◌∙◌, sym}
use Rattle.gimple_ir.specs.Names.{is_among, repeats_after}
use Rattle.elf_container.proofs.NamesSeen.{map_here, slice_get_at}
use Rattle.elf_container.proofs.NamesSeen.{seen-add, repeats_after-here}
use Rattle.elf_container.specs.declared.relocatable.RelSymbol.{RelSymbol}
use Rattle.elf_container.proofs.object_form.repeats.Goals as goal

abbrev name_of : RelSymbol → List ℕ
name_of s = s.name

pub returns-then-branch : goal.returns-then-branch
returns-then-branch c =
    let names = map name_of c.args.symbols.now in
    let i = c.loop-symbol.symbol-index in
    let here =
    map_here name_of c.args.symbols.now i c.symbol-item.result (slice_get_at c.args.symbols.now i c.symbol-item.result (omega arith) c.symbol-item.is)
    in
    let found : is_among (take i names) c.symbol-item.result.name ≡ true =
    sym (c.loop-symbol.invariant.seen c.symbol-item.result.name) ∙ sym c.in_ok-add.ensures.found ∙ c.if-branch.true in
    sym (c.loop-symbol.invariant.rest ∙ repeats_after-here names i c.symbol-item.result.name here
    ∙ ap (λ b. b || repeats_after (take (i + 1) names) (drop (i + 1) names)) found)

pub loop-symbol-preserved : goal.loop-symbol-preserved
loop-symbol-preserved c =
    let names = map name_of c.args.symbols.now in
    let i = c.loop-symbol.symbol-index in
    let here =
    map_here name_of c.args.symbols.now i c.symbol-item.result (slice_get_at c.args.symbols.now i c.symbol-item.result (omega arith) c.symbol-item.is)
    in
    let found : is_among (take i names) c.symbol-item.result.name ≡ false =
    sym (c.loop-symbol.invariant.seen c.symbol-item.result.name) ∙ sym c.in_ok-add.ensures.found ∙ c.if-branch.false in
    record {
      seen = seen-add [] names i c.symbol-item.result.name c.loop-symbol.seen c.add.new.seen here c.loop-symbol.invariant.seen c.in_ok-add.ensures.added;
      rest =
          c.loop-symbol.invariant.rest ∙ repeats_after-here names i c.symbol-item.result.name here
          ∙ ap (λ b. b || repeats_after (take (i + 1) names) (drop (i + 1) names)) found;
    }
