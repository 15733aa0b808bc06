use Rattle.std.proofs.Common.{◌∙◌, ap, arith, []}
use Rattle.gimple_syntax.specs.Table.{Finds, number_in, first_number}
use Rattle.gimple_syntax.proofs.Tables.{numbers-more, take-whole}
use Rattle.gimple_syntax.proofs.table.number_names.Goals as goal

pub loop-place-preserved : goal.loop-place-preserved
loop-place-preserved c = λ q.
    numbers-more c.args.names.now c.loop-place.place (record { ref_ptr = (0, 0); now = [] }) q (number_in c.loop-place.numbers q) (number_in c.number_name.new.numbers q) c.capped.result
    (omega arith) c.capped.ensures (c.loop-place.invariant q) (c.in_ok-number_name.ensures q)

pub returns : goal.returns
unfolding Finds
returns c = λ q.
    c.loop-place.invariant q ∙ ap (λ names. first_number names q) (take-whole (λ n. n.now) c.args.names.now c.loop-place.place (omega arith))
