use Rattle.std.proofs.Common.{◌<◌, ◌++◌, length, get_or, take, sym, ap, ◌∙◌, arith, append_assoc}
use Rattle.std.proofs.lemmas.List.{append-nil}
use Rattle.rv64_isa.specs.declared.instr.Instr.TheVariants.{Lui}
use Rattle.std.specs.Prelude.{pos}
use Rattle.final_link.specs.Image.{code_bytes, word_bytes}
use Rattle.final_link.proofs.CodeLaws.{code_bytes-nil, code_bytes-take, in_range-at}
use Rattle.final_link.proofs.bytes.put_all.Goals as goal

pub loop-instr-init : goal.loop-instr-init
loop-instr-init c = record {
  words = sym (append-nil c.args.out.now.items) ∙ ap (λ bs. c.args.out.now.items ++ bs) (sym code_bytes-nil);
  len = omega arith;
}

pub put-requires : goal.put-requires
put-requires c = in_range-at c.args.instrs.now c.loop-instr.instr-index (Lui 0 (pos 0)) c.requires (omega arith)

pub loop-instr-preserved : goal.loop-instr-preserved
loop-instr-preserved c =
    let lt : c.loop-instr.instr-index < length c.args.instrs.now = omega arith in
    record {
      words = c.in_ok-put.ensures.word ∙ ap (λ bs. bs ++ word_bytes (get_or c.args.instrs.now c.loop-instr.instr-index (Lui 0 (pos 0)))) c.loop-instr.invariant.words
          ∙ append_assoc c.args.out.now.items (code_bytes (take c.loop-instr.instr-index c.args.instrs.now)) (word_bytes (get_or c.args.instrs.now c.loop-instr.instr-index (Lui 0 (pos 0))))
          ∙ ap (λ bs. c.args.out.now.items ++ bs) (sym (code_bytes-take c.args.instrs.now c.loop-instr.instr-index (Lui 0 (pos 0)) lt));
      len = omega (arith, c.in_ok-put.ensures.len, c.loop-instr.invariant.len);
    }
