use Rattle.std.proofs.Common.{◌≡◌, ◌-◌, true, length, take, drop, ap, sym, ◌∙◌}
use Rattle.rv64_isa.specs.Words.{instr_of}
use Rattle.rv64_meaning.specs.Bytes.{number_of}
use Rattle.rv64_meaning.specs.Machine.{in_text}
use Rattle.rv64_meaning.specs.View.{segments_of_hart}
use Rattle.rv64_meaning.proofs.ByteLaws.{word_in_text, text_room, fetch_here, range_is}
use Rattle.rv64_meaning.proofs.hart.Hart.fetch.Goals as goal

pub returns-then-in_text-clause-value : goal.returns-then-in_text-clause-value
returns-then-in_text-clause-value c =
    let h = c.args.self.now in
    let at = h.pc - 65536 in
    let t : in_text (segments_of_hart h) h.pc 4 ≡ true = sym c.in_text.ensures ∙ c.if-in_text.true in
    let room = text_room h.pc (length h.text.items) t in
    let part = range_is c.deref.result.now at 4 ∙ ap (λ xs. take 4 (drop at xs)) c.deref.ensures.value in
    let w = c.word.ensures ∙ ap number_of part ∙ sym (word_in_text h.text.items at room) in
    c.decode.ensures.value ∙ ap instr_of w ∙ sym (fetch_here (segments_of_hart h) h.pc c.if-self-eq0.true t)
