use Rattle.std.proofs.Common.{◌≡◌, ◌+◌, ◌*◌, ◌++◌, take, vec_len}
use Rattle.final_link.specs.Image.{code_bytes}
use Rattle.final_link.proofs.bytes.put_all.Given as goal

abbrev pub invariant-loop-instr : goal.invariant-loop-instr
invariant-loop-instr l = record {
  words : l.out.items ≡ l.initial.out.items ++ code_bytes (take l.instr-index l.instrs);
  len : vec_len l.out ≡ vec_len l.initial.out + 4 * l.instr-index;
}
