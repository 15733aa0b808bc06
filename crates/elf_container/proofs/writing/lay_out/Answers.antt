use Rattle.std.proofs.Common.{◌≡◌, ◌+◌, ◌∙◌, sym, ap, subst, length, arith}
use Rattle.elf_container.proofs.Places.{zeros_len}
use Rattle.std.specs.Prelude.{IfOk, map}
use Rattle.std.specs.List.{fold}
use Rattle.std.proofs.lemmas.List.{take_all, length-map}
use Rattle.elf_container.specs.Layout.{Parts, start, placed, shstrtab_of, parts_of, file_of, layout_of}
use Rattle.std.specs.Prelude.{All}
use Rattle.std.proofs.lemmas.List.Elements.{All-nil}
use Rattle.gimple_ir.specs.Names.{IsName}
use Rattle.elf_container.specs.Container.{IsWritable, FieldsFit}
use Rattle.elf_container.proofs.Laying.{placed_more, writable_more, placed_same, on_ok}
use Rattle.elf_container.proofs.writing.lay_out.Goals as goal

pub returns-clause-value : goal.returns-clause-value
unfolding layout_of parts_of
returns-clause-value g c =
    let ss = map g.S.Placed.as_own c.args.sections.now in
    let all = ap (λ xs. fold placed start (map g.S.Placed.as_own xs)) (take_all c.loop-section.section-index c.args.sections.now (omega arith)) in
    let before : c.loop-section.laid ≡ fold placed start ss = c.loop-section.invariant.placed ∙ all in
    let after : c.place_names.new.self ≡ parts_of ss = c.in_ok-place_names.ensures.placed ∙ ap (λ p. placed p (shstrtab_of p.names)) before in
    let e = ap (λ p. file_of p (length c.args.sections.now + 2)) after ∙ ap (λ n. file_of (parts_of ss) (n + 2)) (sym (length-map c.args.sections.now g.S.Placed.as_own)) in
    subst (λ t. IfOk c.finish.result (λ bytes. bytes.items ≡ t)) e c.finish.ensures

pub loop-section-init : goal.loop-section-init
loop-section-init g c = record {
  placed = c.in_ok-laid.ensures;
  names = omega (arith, ap (λ (p : Parts). length p.names) c.in_ok-laid.ensures);
  room = omega (arith, ap (λ (p : Parts). length p.file) c.in_ok-laid.ensures, zeros_len 64);
  fit = All-nil IsWritable;
}

pub returns-clause-fit : goal.returns-clause-fit
returns-clause-fit g c =
    on_ok c.finish.result (All IsWritable (map g.S.Placed.as_own c.args.sections.now))
    (subst (λ xs. All IsWritable (map g.S.Placed.as_own xs)) (take_all c.loop-section.section-index c.args.sections.now (omega arith)) c.loop-section.invariant.fit)

pub loop-section-preserved : goal.loop-section-preserved
loop-section-preserved g c =
    let view = g.S.Placed.as_own in
    let xs = c.args.sections.now in
    let i = c.loop-section.section-index in
    let x = c.section-item.result in
    let name = c.as_slice.ensures.value ∙ c.name.ensures in
    record {
      placed = placed_more view xs i x c.loop-section.laid c.place.new.self c.loop-section-test.true c.section-item.is c.loop-section.invariant.placed (c.in_ok-place.ensures.placed ∙ placed_same c.loop-section.laid _ _ _ _ _ _ name c.fields.ensures.value c.bytes.ensures);
      names = omega (arith, c.in_ok-place.ensures.names, ap length c.as_slice.ensures.value, c.as_slice.ensures.name.bounded, c.loop-section.invariant.names);
      room = omega (arith, c.in_ok-place.ensures.room, c.loop-section.invariant.room);
      fit = writable_more view xs i x c.loop-section-test.true c.section-item.is c.loop-section.invariant.fit (record { name = subst IsName c.name.ensures c.as_slice.ensures.name; fields = subst FieldsFit c.fields.ensures.value c.fields.ensures.fit });
    }
