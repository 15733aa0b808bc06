use Rattle.std.proofs.Common.{List, [], ◌∷◌, length, ap, sym, subst, length-append, arith}
use Rattle.std.specs.Prelude.{All}
use Rattle.std.proofs.lemmas.List.Elements.{All-nil, All-cons, All-append}
use Rattle.elf_container.specs.declared.sections.OwnSection.{OwnSection}
use Rattle.elf_container.specs.Container.{IsPlain}
use Rattle.bench.proofs.containers.sections.Goals as goal

pub loop-place-preserved : goal.loop-place-preserved
loop-place-preserved c =
    let pushed = c.in_ok-push.ensures.ok in
    record {
      few = omega (arith, simp length-append at (ap length pushed));
      plain =
          subst (λ (ss : List OwnSection). All IsPlain ss) (sym pushed)
          (All-append IsPlain c.loop-place.sections (c.section.result ∷ []) c.loop-place.invariant.plain (All-cons IsPlain c.section.result [] c.section.ensures (All-nil IsPlain)));
    }
