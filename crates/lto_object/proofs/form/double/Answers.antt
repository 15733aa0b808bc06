use Rattle.std.proofs.Common.{◌≡◌, ◌+◌, ℕ, List, Some, [], map, take, drop, cond, true, false, sym, ap, ◌∙◌, arith}
use Rattle.std.specs.Prelude.{◌||◌, slice_get}
use Rattle.std.specs.Str.{bytes_eq}
use Rattle.gimple_ir.specs.Names.{is_among}
use Rattle.elf_container.specs.Views.{owned}
use Rattle.elf_container.specs.SeenNames.{holds}
use Rattle.elf_container.proofs.NamesSeen.{map_here, slice_get_at, seen-add}
use Rattle.lto_object.specs.Forms.{all_names, double_from}
use Rattle.lto_object.proofs.LoopLaws.{name_here, double_here}
use Rattle.lto_object.proofs.form.double.Goals as goal

pub returns-then-branch-clause-value : goal.returns-then-branch-clause-value
returns-then-branch-clause-value c =
    let ss = map owned c.args.sections.now in
    let i = c.loop-place.place in
    let s = c.index-sections-place.result in
    let here : slice_get (all_names ss) i ≡ Some s.name = name_here ss i (owned s) (map_here owned c.args.sections.now i s (slice_get_at c.args.sections.now i s (omega arith) c.index-sections-place.is)) in
    let found : is_among (take i (all_names ss)) s.name ≡ true =
    sym (c.loop-place.invariant.seen s.name) ∙ ap (holds c.loop-place.seen) (sym c.as_str.ensures.value) ∙ sym c.in_ok-add.ensures.found ∙ c.if-branch.true in
    sym (c.loop-place.invariant.rest ∙ double_here (all_names ss) i s.name here ∙ ap (λ b. cond b (Some i) (double_from (i + 1) (take (i + 1) (all_names ss)) (drop (i + 1) (all_names ss)))) found)

pub loop-place-preserved : goal.loop-place-preserved
loop-place-preserved c =
    let ss = map owned c.args.sections.now in
    let i = c.loop-place.place in
    let s = c.index-sections-place.result in
    let here : slice_get (all_names ss) i ≡ Some s.name = name_here ss i (owned s) (map_here owned c.args.sections.now i s (slice_get_at c.args.sections.now i s (omega arith) c.index-sections-place.is)) in
    let found : is_among (take i (all_names ss)) s.name ≡ false =
    sym (c.loop-place.invariant.seen s.name) ∙ ap (holds c.loop-place.seen) (sym c.as_str.ensures.value) ∙ sym c.in_ok-add.ensures.found ∙ c.if-branch.false in
    record {
      seen = seen-add [] (all_names ss) i s.name c.loop-place.seen c.add.new.seen here c.loop-place.invariant.seen (λ q. c.in_ok-add.ensures.added q ∙ ap (λ n. bytes_eq q n || holds c.loop-place.seen q) c.as_str.ensures.value);
      rest = c.loop-place.invariant.rest ∙ double_here (all_names ss) i s.name here ∙ ap (λ b. cond b (Some i) (double_from (i + 1) (take (i + 1) (all_names ss)) (drop (i + 1) (all_names ss)))) found;
    }
