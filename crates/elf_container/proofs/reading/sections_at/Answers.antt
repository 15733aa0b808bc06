use Rattle.std.proofs.Common.{◌≡◌, ◌+◌, length, ◌++◌, ◌∷◌, [], sym, ap, subst, ◌∙◌, arith}
use Rattle.std.specs.Prelude.{map, option_map, IfSome}
use Rattle.std.proofs.lemmas.List.Elements.{All-nil, All-cons, All-append}
use Rattle.elf_container.specs.Container.{IsSection}
use Rattle.std.proofs.lemmas.List.{map_push, length-append}
use Rattle.elf_container.specs.Views.{owned}
use Rattle.elf_container.specs.Reading.{sections_at}
use Rattle.elf_container.proofs.SectionSteps.{goes_on, ends_bad, is_done}
use Rattle.elf_container.proofs.reading.sections_at.Goals as goal

pub returns-in-None-clause-value : goal.returns-in-None-clause-value
returns-in-None-clause-value c =
    let read = sym c.in_ok-section_at.ensures.value ∙ ap (option_map owned) c.in-None.is in
    ends_bad (map owned c.loop-place.sections.items) c.args.at c.loop-place.place c.args.bytes.now c.args.names.now c.args.headers.now _ (sections_at c.args.bytes.now c.args.names.now c.args.at c.args.headers.now) c.loop-place-test.true read c.loop-place.invariant.value

pub loop-place-preserved : goal.loop-place-preserved
loop-place-preserved c =
    let read = sym c.in_ok-section_at.ensures.value ∙ ap (option_map owned) c.in-Some.is in
    let is : IsSection (owned c.in-Some.section) = subst (λ o. IfSome (option_map owned o) IsSection) c.in-Some.is c.in_ok-section_at.ensures.section in
    let pushed : map owned c.push.new.self.items ≡ map owned c.loop-place.sections.items ++ owned c.in-Some.section ∷ [] = rw c.in_ok-push-in-Some.ensures.items (map_push owned c.loop-place.sections.items c.in-Some.section) in
    record {
      value = rw pushed (goes_on (map owned c.loop-place.sections.items) c.args.at c.loop-place.place c.args.bytes.now c.args.names.now c.args.headers.now _ (owned c.in-Some.section) (sections_at c.args.bytes.now c.args.names.now c.args.at c.args.headers.now) c.loop-place-test.true read c.loop-place.invariant.value);
      count = simp length-append at (ap length c.in_ok-push-in-Some.ensures.items) ∙ ap (λ n. n + 1) c.loop-place.invariant.count;
      sections = rw pushed (All-append IsSection (map owned c.loop-place.sections.items) (owned c.in-Some.section ∷ []) c.loop-place.invariant.sections (All-cons IsSection (owned c.in-Some.section) [] is (All-nil IsSection)));
    }

pub returns-clause-value : goal.returns-clause-value
returns-clause-value c = is_done (map owned c.loop-place.sections.items) c.args.at c.loop-place.place c.args.bytes.now c.args.names.now c.args.headers.now (sections_at c.args.bytes.now c.args.names.now c.args.at c.args.headers.now) (omega arith) c.loop-place.invariant.value
