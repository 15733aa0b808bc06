-- Where the newest frame lies: in the stack, above which the others are.
use Rattle.std.proofs.Common.{◌≡◌, ℕ, suc, ◌+◌, ◌-◌, ◌*◌, ◌%◌, ◌^◌, ◌<◌, ◌≤◌, ℤ, true, List, [], ◌∷◌, length, Option, arith}
use Rattle.std.proofs.lemmas.Nat.{mul-le}
use Rattle.gimple_ir.specs.declared.types.Value.{Value}
use Rattle.gimple_ir.specs.declared.versioned.VersionedFunction.{VersionedFunction}
use Rattle.gimple_meaning.specs.Systems.{Frame}
use Rattle.rv64_meaning.specs.Machine.{Segments, State, can_load, can_store}
use Rattle.rv64_abi.specs.Registers.{sp}
use Rattle.rv64_frame.specs.Frames.{frame_size}
use Rattle.follow_laws.proofs.FrameLaws.{data_reached}
use Rattle.gimple_meaning.specs.Linked.{LinkedProgram}
use Rattle.follow_laws.specs.Layouts.{Layout, IsPlaced, top}
use Rattle.follow_laws.specs.Related.{FramesWait, Holds}

pub waiting_below : (l : Layout) (p : LinkedProgram) (mem : ℕ → ℕ) (callee base back : ℕ) (older : List Frame) → FramesWait l p mem callee base back older → base ≤ top l
waiting_below l p mem callee base back [] h = omega (arith, h.0)
waiting_below l p mem callee base back (frame ∷ older) (f, behind, stands, waits, rest) = omega (arith, waiting_below l p mem frame.function (base + frame_size f) behind older rest)

-- each frame is a multiple of 16, and no larger than the largest
pub waiting_aligned : (l : Layout) (p : LinkedProgram) (mem : ℕ → ℕ) (callee base back : ℕ) (older : List Frame) → top l % 16 ≡ 0 → FramesWait l p mem callee base back older → base % 16 ≡ 0
waiting_aligned l p mem callee base back [] e h = omega (arith, h.0, e)
waiting_aligned l p mem callee base back (frame ∷ older) e (f, behind, stands, waits, rest) =
    omega (arith, waiting_aligned l p mem frame.function (base + frame_size f) behind older e rest)

pub waiting_room : (m : Segments) (l : Layout) (p : LinkedProgram) (mem : ℕ → ℕ) (callee base back : ℕ) (older : List Frame) → IsPlaced m l p
    → FramesWait l p mem callee base back older → top l ≤ base + length older * l.frame
waiting_room m l p mem callee base back [] w h = omega (arith, h.0)
waiting_room m l p mem callee base back (frame ∷ older) w (f, behind, stands, waits, rest) =
    let step : suc (length older) * l.frame ≡ l.frame + length older * l.frame = omega arith in
    let size = (w.functions frame.function f stands.known).size in
    omega (arith, waiting_room m l p mem frame.function (base + frame_size f) behind older w rest, size, step)

-- a frame of the function at this address lies in the stack
pub record Room (l : Layout) (f : VersionedFunction) (base : ℕ) : Type 0 where
  pub above : l.stack ≤ base
  pub below : base + frame_size f ≤ top l
  pub aligned : base % 16 ≡ 0

pub top_aligned : (m : Segments) (l : Layout) (p : LinkedProgram) → IsPlaced m l p → top l % 16 ≡ 0
top_aligned m l p w = omega (arith, w.stack_aligned, w.frame_aligned)

pub room_of : (m : Segments) (l : Layout) (p : LinkedProgram) (g : ℕ) (f : VersionedFunction) (cells : List (Option Value)) (older : List Frame) (arrays : List (List ℤ)) (input output : List ℕ) (s : State)
    → IsPlaced m l p → Holds l p g f cells older arrays input output s → Room l f (s.reg sp)
room_of m l p g f cells older arrays input output s w h =
    let base = s.reg 2 in
    let up = base + frame_size f in
    let few = mul-le (suc (length older)) l.frame 4096 l.frame h.depth (omega arith) in
    let step : suc (length older) * l.frame ≡ l.frame + length older * l.frame = omega arith in
    let size = (w.functions g f h.newest.known).size in
    let high = waiting_room m l p s.mem g up h.back older w h.waiting in
    let aligned = waiting_aligned l p s.mem g up h.back older (top_aligned m l p w) h.waiting in
    record {
      above = omega (arith, few, step, size, high);
      below = waiting_below l p s.mem g up h.back older h.waiting;
      aligned = omega (arith, aligned);
    }

-- eight bytes at an offset from the frame's address, below the stack's top
pub record Reached (m : Segments) (base offset : ℕ) : Type 0 where
  pub near : offset < 2 ^ 31 - 2 ^ 11
  pub fits : base + offset < 2 ^ 64
  pub can_load : can_load m (base + offset) 8 ≡ true
  pub can_store : can_store m (base + offset) 8 ≡ true

pub reached : (m : Segments) (l : Layout) (p : LinkedProgram) (f : VersionedFunction) (base offset : ℕ) → IsPlaced m l p → Room l f base → offset % 8 ≡ 0 → base + offset + 8 ≤ top l → Reached m base offset
reached m l p f base offset w room e h =
    let aligned = room.aligned in
    let even : (base + offset) % 8 ≡ 0 = omega (arith, aligned, e) in
    let both = data_reached m (base + offset) 8 even (omega (arith, room.above, w.scratch_above, w.scratch_below)) (omega (arith, h, w.end)) in
    record { near = omega (arith, h, w.near); fits = omega (arith, h, w.near); can_load = both.0; can_store = both.1 }
