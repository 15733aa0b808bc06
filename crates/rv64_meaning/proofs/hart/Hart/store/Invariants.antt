use Rattle.std.proofs.Common.{◌≡◌, ℕ, ◌*◌, ◌/◌, ◌^◌}
use Rattle.rv64_meaning.specs.Machine.{store}
use Rattle.rv64_meaning.specs.Loading.{memory_of}
use Rattle.rv64_meaning.specs.View.{segments_of_hart}
use Rattle.rv64_meaning.proofs.hart.Hart.store.Given as goal

abbrev pub invariant-loop-i : goal.invariant-loop-i
invariant-loop-i l = record {
  segments : segments_of_hart l.self ≡ segments_of_hart l.fn.self;
  registers : l.self.registers ≡ l.fn.self.registers;
  pc : l.self.pc ≡ l.fn.self.pc;
  input : l.self.input ≡ l.fn.self.input;
  read : l.self.read ≡ l.fn.self.read;
  rest : l.rest ≡ l.v / 2 ^ (8 * l.i);
  bytes : (q : ℕ) → memory_of l.self.text.items l.self.data_start l.self.data.items q ≡ store l.i (memory_of l.fn.self.text.items l.fn.self.data_start l.fn.self.data.items) l.a l.v q;
}
