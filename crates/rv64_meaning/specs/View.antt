-- What the program's hart stands for: the segments that no step changes, and the machine's state, without the output, which the
-- hart hands on and does not keep.
use Rattle.std.specs.Prelude.{◌≡◌, ℕ, ◌+◌, ◌<◌, [], length, drop, slice_index, ◌||◌, IsTrue}
use Rattle.rv64_meaning.specs.declared.hart.Hart.{Hart}
use Rattle.rv64_meaning.specs.declared.event.Event.{Event}
use Rattle.rv64_meaning.specs.declared.event.Event.TheVariants.{Quiet, Wrote, Ended, Trapped}
use Rattle.rv64_meaning.specs.Machine.{Segments, State, Next, Go, End, Trap, bytes_from, in_text, in_data}
use Rattle.rv64_meaning.specs.Loading.{memory_of}

abbrev pub segments_of_hart : Hart → Segments
segments_of_hart h = record { text = h.text.items; data_start = h.data_start; data_end = h.data_start + length h.data.items }

abbrev pub state_of : Hart → State
state_of h = record { reg = slice_index h.registers; pc = h.pc; mem = memory_of h.text.items h.data_start h.data.items; input = drop h.read h.input.items; output = [] }

-- n bytes from an address lie in one segment
abbrev pub InOneSegment : Segments → ℕ → ℕ → Type 0
InOneSegment m a n = IsTrue (in_text m a n || in_data m a n)

-- what a step did, and the state behind it
abbrev pub Does : Next → Event → Hart → Hart → Type 0
Does (Go t) Quiet old new = (state_of new ≡ t) × (segments_of_hart new ≡ segments_of_hart old)
Does (Go t) (Wrote a n) old new = (record (state_of new) { output = bytes_from n (state_of new).mem a } ≡ t) × (segments_of_hart new ≡ segments_of_hart old) × (0 < n) × InOneSegment (segments_of_hart new) a n
Does (Go t) (Ended status) old new = ⊥
Does (Go t) (Trapped address) old new = ⊥
Does (End status) (Ended s) old new = (s ≡ status) × (new ≡ old)
Does (End status) Quiet old new = ⊥
Does (End status) (Wrote a n) old new = ⊥
Does (End status) (Trapped address) old new = ⊥
Does Trap (Trapped a) old new = (a ≡ old.pc) × (new ≡ old)
Does Trap Quiet old new = ⊥
Does Trap (Wrote a n) old new = ⊥
Does Trap (Ended status) old new = ⊥
