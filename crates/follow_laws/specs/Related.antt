-- The relation between a state of a program's run and a state of the machine that runs its image. The machine is at the first word
-- of the step at the newest frame's place. The frames stand one after the other from the stack pointer up to the stack's top, the
-- newest first, each with its function's frame size and with the return address of its call; that of the first is in the start
-- stub. The slot of each component that is set has the value's machine form. The data segment has the arrays. The input that is
-- left and the output are equal.
use Rattle.std.specs.Prelude.{◌≡◌, ◌<◌, ◌≤◌, ◌+◌, ◌*◌, ◌^◌, ℕ, suc, ℤ, pos, true, List, [], ◌∷◌, length, slice_get, Option, Some}
use Rattle.gimple_ir.specs.Programs.{IsElement}
use Rattle.gimple_ir.specs.declared.types.Array.{Array}
use Rattle.gimple_ir.specs.declared.types.ElementType.{ElementType}
use Rattle.gimple_ir.specs.declared.types.Operand.{Operand}
use Rattle.gimple_ir.specs.declared.types.Value.{Value}
use Rattle.gimple_ir.specs.declared.versioned.Step.TheVariants.{Call}
use Rattle.gimple_ir.specs.declared.versioned.VersionedFunction.{VersionedFunction}
use Rattle.gimple_meaning.specs.Acts.{element_at}
use Rattle.gimple_meaning.specs.Systems.{Frame, Machine, most_frames}
use Rattle.gimple_meaning.specs.Systems as program
use Rattle.rv64_isa.specs.Format.{residue}
use Rattle.rv64_meaning.specs.Machine.{Segments, State, load}
use Rattle.rv64_abi.specs.Registers.{sp}
use Rattle.rv64_frame.specs.Frames.{frame_of, frame_size}
use Rattle.rv64_select.specs.Assembly.{argument_items}
use Rattle.rv64_select.specs.Code.{words_in}
use Rattle.final_link.specs.Arrays.{element_size}
use Rattle.follow_laws.specs.Follows.{AreBytes}
use Rattle.follow_laws.specs.Frames.{FrameHeld}
use Rattle.follow_laws.specs.Relation.{Advances, EndsWith}
use Rattle.gimple_meaning.specs.Linked.{LinkedProgram, callee_number, steps_left}
use Rattle.gimple_meaning.specs.Typed.{AreTyped}
use Rattle.follow_laws.specs.Layouts.{Layout, top, place_address, first_return}

-- ---- frames

-- Copies of components that registers have at a place, beside the slots, which have them all. This code keeps none. Code that keeps
-- some says here which; they are asked of the newest frame alone.
abbrev pub CopiesHeld : VersionedFunction → ℕ → (ℕ → ℕ) → List (Option Value) → Type 0
CopiesHeld f place registers components = Unit {0}

-- the components of a frame of the function `f`, which has number `g`, lie at the address `base`; its caller goes on at `back`
pub record FrameStands (p : LinkedProgram) (mem : ℕ → ℕ) (base back g : ℕ) (f : VersionedFunction) (components : List (Option Value)) : Type 0 where
  pub known : slice_get p.functions g ≡ Some f
  pub held : FrameHeld f mem base back components
  pub typed : AreTyped f components

-- the frame waits in a call of the function `callee`, and goes on at the address `back`, behind the words of the call
pub record WaitsFor (l : Layout) (p : LinkedProgram) (frame : Frame) (f : VersionedFunction) (callee back : ℕ) : Type 0 where
  pub to : Option ℕ
  pub call : ℕ
  pub args : List Operand
  pub step : slice_get f.body frame.place ≡ Some (Call to call args)
  pub target : callee_number p f call ≡ callee
  pub return_address : back ≡ place_address l f frame.place + 4 * words_in (argument_items (frame_of f) 0 args) + 8

-- The frames that wait, from the address `base` up to the stack's top. The frame below them is of the function `callee`, and
-- returns to `back`. Without any it is the first frame, of `main`.
abbrev pub FramesWait : Layout → LinkedProgram → (ℕ → ℕ) → (callee base back : ℕ) → List Frame → Type 0
FramesWait l p mem callee base back [] = (base ≡ top l) × (back ≡ first_return) × (callee ≡ p.main)
FramesWait l p mem callee base back (frame ∷ older) =
    (f : VersionedFunction) × (behind : ℕ) × FrameStands p mem base behind frame.function f frame.components × WaitsFor l p frame f callee back
    × FramesWait l p mem frame.function (base + frame_size f) behind older

-- ---- arrays

-- the bits of an element
abbrev pub element_bits : ElementType → ℤ → ℕ
element_bits element z = residue (2 ^ (8 * element_size element)) z

-- an element of a kept array
pub record ElementHeld (l : Layout) (mem : ℕ → ℕ) (array index : ℕ) (a : Array) (z : ℤ) : Type 0 where
  pub within : index < a.length
  pub bits : load (element_size a.element) mem (l.array array + element_size a.element * index) ≡ element_bits a.element z
  pub number : IsElement a.element z

abbrev pub ArraysHeld : Layout → LinkedProgram → (ℕ → ℕ) → List (List ℤ) → Type 0
ArraysHeld l p mem arrays =
    (n i : ℕ) (a : Array) (z : ℤ) → slice_get p.arrays n ≡ Some a → p.is_kept n ≡ true → element_at arrays n (pos i) ≡ Some z → ElementHeld l mem n i a z

-- ---- the relation

-- the machine has the newest frame, which is of the function `f` with number `g`, those that wait, the arrays, the input that is
-- left and the output, wherever it is
pub record Holds (l : Layout) (p : LinkedProgram) (g : ℕ) (f : VersionedFunction) (components : List (Option Value)) (older : List Frame) (arrays : List (List ℤ)) (input output : List ℕ) (s : State) : Type 0 where
  pub back : ℕ
  pub newest : FrameStands p s.mem (s.reg sp) back g f components
  pub waiting : FramesWait l p s.mem g (s.reg sp + frame_size f) back older
  pub depth : suc (length older) ≤ most_frames
  pub arrays_held : ArraysHeld l p s.mem arrays
  pub input_left : s.input ≡ input
  pub input_bytes : AreBytes input
  pub written : s.output ≡ output

-- it has all that, and is at the place of the newest frame
pub record AtFrame (l : Layout) (p : LinkedProgram) (frame : Frame) (older : List Frame) (arrays : List (List ℤ)) (input output : List ℕ) (s : State) : Type 0 where
  pub function : VersionedFunction
  pub holds : Holds l p frame.function function frame.components older arrays input output s
  pub place : s.pc ≡ place_address l function frame.place
  pub copies : CopiesHeld function frame.place s.reg frame.components

abbrev pub RelatedIn : Layout → LinkedProgram → Machine → List Frame → State → Type 0
RelatedIn l p q [] s = ⊥
RelatedIn l p q (frame ∷ older) s = AtFrame l p frame older q.arrays q.input q.output s

abbrev pub Related : Layout → LinkedProgram → Machine → State → Type 0
Related l p q s = RelatedIn l p q q.frames s

-- ---- what a step of the program asks of the machine

-- The machine comes to a state that is related to the program's next one, by a step at least, or else fewer steps are left before
-- the end of the function.
pub record GoesOn (m : Segments) (l : Layout) (p : LinkedProgram) (s : State) (left : ℕ) (new : Machine) : Type 0 where
  pub state : State
  pub advances : Advances m s state left (steps_left p new)
  pub related : Related l p new state

-- it goes on as the program does, or ends as it does; nothing is asked where the program is undefined
abbrev pub Answers : Segments → Layout → LinkedProgram → State → ℕ → program.State → Type 0
Answers m l p s left (program.Running new) = GoesOn m l p s left new
Answers m l p s left (program.Ended old status) = EndsWith m s status old.output
Answers m l p s left (program.Undefined old function place) = Unit {0}
