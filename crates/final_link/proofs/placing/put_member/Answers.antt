use Rattle.std.proofs.Common.{length, map, ap, ◌∙◌, arith}
use Rattle.final_link.specs.Members.{counted_from}
use Rattle.final_link.specs.Symbols.{address_in}
use Rattle.final_link.proofs.CodeLaws.{on_ok}
use Rattle.final_link.proofs.FillingLaws.{length-filled}
use Rattle.final_link.proofs.placing.put_member.Goals as goal

pub returns-clause-len : goal.returns-clause-len
returns-clause-len c =
    let rs = map (counted_from c.args.member.start) c.relocations_of-relocations.result.now in
    let addresses = address_in c.args.symbols.now c.symbols_of-of_part.result.now in
    let same = ap length c.as_slice.ensures.value ∙ ap length c.fill.ensures ∙ length-filled rs addresses c.args.at c.in_ok-words.words.items ∙ ap length c.in_ok-words.ensures.items in
    on_ok c.put_words.result _ _ (λ e. omega (arith, e, same, c.words_of.ensures.len)) c.put_words.ensures.len
