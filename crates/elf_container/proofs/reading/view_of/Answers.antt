use Rattle.std.proofs.Common.{◌≡◌, ◌-◌, ◌≤◌, length, take, vec_len, ap, arith}
use Rattle.std.proofs.lemmas.List.{length-take}
use Rattle.std.specs.Prelude.{map}
use Rattle.elf_container.specs.Views.{owned}
use Rattle.elf_container.proofs.Found.{container_by, popped}
use Rattle.elf_container.proofs.reading.view_of.Goals as goal

pub compared-requires : goal.compared-requires
compared-requires c =
    let all = c.in_ok-sections.sections in
    let rest : length c.pop-last.new.self.items ≡ length (take (vec_len all - 1) all.items) = ap length c.pop-last.ensures.rest in
    let few : length all.items ≤ 65534 = omega (arith, c.in_ok-sections.ensures.count, c.in_ok-headers.ensures.small, ap length c.as_slice.ensures.value) in
    let len : vec_len all ≡ length all.items = all.ok.0 in
    omega (arith, length-take (vec_len all - 1) all.items)

pub returns-clause-container : goal.returns-clause-container
returns-clause-container c =
    let all = c.in_ok-sections.sections in
    container_by c.compared.result (map owned c.pop-last.new.self.items) c.compared.ensures.same
    (popped owned all.items c.pop-last.new.self.items (vec_len all - 1) c.in_ok-sections.ensures.sections c.pop-last.ensures.rest (omega (arith, all.ok.0, c.in_ok-sections.ensures.count, c.in_ok-headers.ensures.small, ap length c.as_slice.ensures.value)))
