use Rattle.std.proofs.Common.{◌≡◌, ◌∙◌, ◌-◌, ◌<◌, ◌≤◌, List, true, false, sym, subst, ap, rules, take, filter}
use Rattle.std.specs.Prelude.{All, nat_lt}
use Rattle.std.specs.List.Sorted.{IsNonDecreasingBy, IsPartitionPoint}
use Rattle.std.proofs.lemmas.List.Sorted.{IsPartitionPoint-from_clause, IsPartitionedBy-ltb, IsNonDecreasingBy-drop}
use Rattle.elf_container.specs.declared.relocatable.Reloc.{Reloc}
use Rattle.final_link.specs.Members.{lies_in, relocations_in}
use Rattle.final_link.proofs.RelocationLaws.{part_ascends, early_first, stretch, all_lie, is_early}
use Rattle.final_link.proofs.members.relocations_of.Goals as goal

pub returns-clause-value : goal.returns-clause-value
returns-clause-value c =
    let m = c.args.member in
    let rs = c.relocations_in-relocations.result.now in
    let from = c.partition_point-from.result in
    let count = c.partition_point-count.result in
    let same = c.relocations_in-relocations.ensures in
    let asc = subst (IsNonDecreasingBy (λ (r : Reloc). r.offset)) (sym same) (part_ascends c.args.parts.now m.part c.requires) in
    let first = IsPartitionPoint-from_clause (λ (r : Reloc). nat_lt r.offset m.start) rs from c.partition_point-from.ensures.partitioned (IsPartitionedBy-ltb (λ (r : Reloc). r.offset) rs m.start asc) (λ a r q k. search rules) in
    let behind = c.split_at.ensures.back in
    let later = subst (IsNonDecreasingBy (λ (r : Reloc). r.offset)) (sym behind) (IsNonDecreasingBy-drop (λ (r : Reloc). r.offset) from rs asc) in
    let last = IsPartitionPoint-from_clause (is_early m.start m.size) c.split_at.result.1.now count c.partition_point-count.ensures.partitioned (early_first m.start m.size c.split_at.result.1.now later) (λ a r q k. search rules) in
    c.split_at-2.ensures.front ∙ ap (take count) behind
    ∙ stretch m rs from count first (subst (λ (l : List Reloc). IsPartitionPoint (λ r. is_early m.start m.size r ≡ true) (λ r. is_early m.start m.size r ≡ false) l count) behind last)
    ∙ ap (filter (lies_in m)) same

pub returns-clause-inside : goal.returns-clause-inside
returns-clause-inside c =
    subst (λ (l : List Reloc). All (λ r. (c.args.member.start ≤ r.offset) × (r.offset - c.args.member.start < c.args.member.size)) l) (sym (returns-clause-value c))
    (all_lie c.args.member (relocations_in c.args.parts.now c.args.member.part))
