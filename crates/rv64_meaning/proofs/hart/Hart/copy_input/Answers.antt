use Rattle.std.proofs.Common.{ℕ, ◌+◌, ◌-◌, ◌<◌, length, get_or, drop, refl, sym, ap, ◌∙◌, arith}
use Rattle.std.proofs.lemmas.List.{length-set, length-drop, get_or_read, get_or-drop}
use Rattle.std.specs.Global.{Vec}
use Rattle.rv64_meaning.specs.Machine.{Segments}
use Rattle.rv64_meaning.specs.Loading.{memory_of}
use Rattle.rv64_meaning.specs.View.{segments_of_hart}
use Rattle.rv64_meaning.proofs.ByteLaws.{bytes_none, bytes_step, within_data}
use Rattle.rv64_meaning.proofs.hart.Hart.copy_input.Goals as goal

pub loop-i-init : goal.loop-i-init
loop-i-init c =
    let h = c.args.self.now in
    record {
      segments = refl;
      registers = refl;
      pc = refl;
      input = refl;
      read = refl;
      bytes = λ q. bytes_none (drop h.read h.input.items) (memory_of h.text.items h.data_start h.data.items) c.args.a q;
    }

pub loop-i-preserved : goal.loop-i-preserved
loop-i-preserved c =
    let m = c.loop-i.self in
    let old = c.args.self.now in
    let inv = c.loop-i.invariant in
    let xs = m.data.items in
    let i = c.loop-i.i in
    let k = c.args.a - m.data_start + i in
    let byte = c.index-byte.result.now in
    let left = drop old.read old.input.items in
    let start_is = ap (λ (s : Segments). s.data_start) inv.segments in
    let end_is = ap (λ (s : Segments). s.data_end) inv.segments in
    let some : 0 < c.args.n = omega (arith, c.loop-i-test.true) in
    let inside = within_data old.data_start (length old.data.items) c.args.a c.args.n (c.requires.inside some) in
    let more : i < length left = omega (arith, c.requires.left, c.loop-i-test.true) in
    let count = length-drop old.read old.input.items in
    let room : m.read + i < length m.input.items = omega (arith, more, count, inv.read, ap (λ (v : Vec ℕ). length v.items) inv.input) in
    let read = get_or_read m.input.items (m.read + i) byte room c.index-byte.ensures 0
    ∙ ap (λ (v : Vec ℕ). get_or v.items (m.read + i) 0) inv.input
    ∙ ap (λ r. get_or old.input.items (r + i) 0) inv.read
    ∙ sym (get_or-drop old.read old.input.items i 0) in
    record {
      segments = ap (λ n. record (segments_of_hart m) { data_end = m.data_start + n }) (length-set xs k byte) ∙ inv.segments;
      registers = inv.registers;
      pc = inv.pc;
      input = inv.input;
      read = inv.read;
      bytes = λ q. bytes_step (memory_of old.text.items old.data_start old.data.items) m.data_start i c.args.a byte q left m.text.items xs (omega (arith, inside.0, start_is)) (omega (arith, inside.1, end_is, c.loop-i-test.true)) more read inv.bytes;
    }
