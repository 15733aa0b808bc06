use Rattle.std.proofs.Common.{◌+◌, ◌-◌, ◌%◌, length, refl, sym, ap, ◌∙◌, arith}
use Rattle.std.proofs.Math.Nat.{div-one}
use Rattle.std.proofs.lemmas.List.{length-set}
use Rattle.rv64_meaning.specs.Machine.{Segments}
use Rattle.rv64_meaning.specs.Loading.{memory_of}
use Rattle.rv64_meaning.specs.View.{segments_of_hart}
use Rattle.rv64_meaning.proofs.ByteLaws.{store_none, store_step, rest_step, within_data}
use Rattle.rv64_meaning.proofs.hart.Hart.store.Goals as goal

pub loop-i-init : goal.loop-i-init
loop-i-init c =
    let h = c.args.self.now in
    record {
      segments = refl;
      registers = refl;
      pc = refl;
      input = refl;
      read = refl;
      rest = sym (div-one c.args.v);
      bytes = λ q. store_none (memory_of h.text.items h.data_start h.data.items) c.args.a c.args.v q;
    }

pub loop-i-preserved : goal.loop-i-preserved
loop-i-preserved c =
    let m = c.loop-i.self in
    let old = c.args.self.now in
    let inv = c.loop-i.invariant in
    let xs = m.data.items in
    let k = c.args.a - m.data_start + c.loop-i.i in
    let byte = c.loop-i.rest % 256 in
    let start_is = ap (λ (s : Segments). s.data_start) inv.segments in
    let end_is = ap (λ (s : Segments). s.data_end) inv.segments in
    let inside = within_data old.data_start (length old.data.items) c.args.a c.args.n c.requires.inside in
    record {
      segments = ap (λ n. record (segments_of_hart m) { data_end = m.data_start + n }) (length-set xs k byte) ∙ inv.segments;
      registers = inv.registers;
      pc = inv.pc;
      input = inv.input;
      read = inv.read;
      rest = rest_step c.args.v c.loop-i.i c.loop-i.rest inv.rest;
      bytes = λ q. store_step (memory_of old.text.items old.data_start old.data.items) m.data_start c.loop-i.i c.args.a c.args.v byte q m.text.items xs (omega (arith, inside.0, start_is)) (omega (arith, inside.1, end_is, c.loop-i-test.true)) (ap (λ n. n % 256) inv.rest) inv.bytes;
    }
