use Rattle.std.proofs.Common.{◌-◌, take, drop, ap, ◌∙◌}
use Rattle.rv64_meaning.proofs.ByteLaws.{part_of_data, part_of_text, range_is}
use Rattle.rv64_meaning.proofs.hart.Hart.bytes.Goals as goal

pub returns-then-self-a : goal.returns-then-self-a
returns-then-self-a c =
    let h = c.args.self.now in
    let k = c.args.a - h.data_start in
    range_is c.deref.result.now k c.args.n ∙ ap (λ xs. take c.args.n (drop k xs)) c.deref.ensures.value
    ∙ part_of_data h.text.items h.data.items h.data_start c.args.a c.args.n c.requires h.apart c.if-self-a.true

pub returns-else-self-a : goal.returns-else-self-a
returns-else-self-a c =
    let h = c.args.self.now in
    let k = c.args.a - 65536 in
    range_is c.deref-else-self-a.result.now k c.args.n ∙ ap (λ xs. take c.args.n (drop k xs)) c.deref-else-self-a.ensures.value
    ∙ part_of_text h.text.items h.data.items h.data_start c.args.a c.args.n c.requires h.apart c.if-self-a.false
