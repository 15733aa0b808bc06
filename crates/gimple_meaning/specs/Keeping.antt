-- When the run of one program keeps that of another: while the first is defined, the second stands, after as many steps, with the same
-- outcome, arrays, input and output, and with the same frames but for the numbers of functions and for components that are given up.
use Rattle.std.specs.Prelude.{◌≡◌, ℕ, List, [], ◌∷◌, Bool, true, ◌&&◌, Some}
use Rattle.gimple_ir.specs.declared.types.Value.{Value}
use Rattle.gimple_meaning.specs.Acts.{cell}
use Rattle.gimple_meaning.specs.Systems.{Frame, Machine, State, Running, Ended, Undefined}
use Rattle.gimple_meaning.specs.Shown.{shown_of, RunFollows}

-- how a second program stands for a first one
pub record View : Type 0 where
  -- the first's number of each function of the second
  pub function_of : ℕ → ℕ
  -- whether a component of a frame of the second's function at a place has the value that it has in the first
  pub keeps : (function place component : ℕ) → Bool

-- ---- states

pub record FrameKept (view : View) (p q : Frame) : Type 0 where
  pub function : p.function ≡ view.function_of q.function
  pub place : p.place ≡ q.place
  -- what is set in the first
  pub components : (i : ℕ) (v : Value) → view.keeps q.function q.place i ≡ true → cell p.components i ≡ Some v → cell q.components i ≡ Some v

abbrev pub FramesKept : View → List Frame → List Frame → Type 0
FramesKept view [] [] = Unit {0}
FramesKept view [] (q ∷ qs) = ⊥
FramesKept view (p ∷ ps) [] = ⊥
FramesKept view (p ∷ ps) (q ∷ qs) = FrameKept view p q × FramesKept view ps qs

pub record MachineKept (view : View) (m n : Machine) : Type 0 where
  pub arrays : m.arrays ≡ n.arrays
  pub input : m.input ≡ n.input
  pub output : m.output ≡ n.output
  pub frames : FramesKept view m.frames n.frames

-- nothing is owed once the first is undefined
abbrev pub StateKept : View → State → State → Type 0
StateKept view (Undefined m function place) t = Unit {0}
StateKept view (Running m) (Running n) = MachineKept view m n
StateKept view (Running m) (Ended n status) = ⊥
StateKept view (Running m) (Undefined n function place) = ⊥
StateKept view (Ended m status) (Ended n code) = MachineKept view m n × (status ≡ code)
StateKept view (Ended m status) (Running n) = ⊥
StateKept view (Ended m status) (Undefined n function place) = ⊥

-- the second run keeps the first, each by the number of its steps
abbrev pub Keeps : View → (ℕ → State) → (ℕ → State) → Type 0
Keeps view first second = (n : ℕ) → StateKept view (first n) (second n)

-- ---- the laws

-- a run follows what it keeps
abbrev pub KeepsFollows : Type 0
KeepsFollows = (view : View) (first second : ℕ → State) → Keeps view first second → RunFollows (λ n. shown_of (second n)) (λ n. shown_of (first n))

-- a program that stands for one that stands for another
abbrev pub through : View → View → View
through a b = record {
  function_of = λ function. a.function_of (b.function_of function);
  keeps = λ function place i. a.keeps (b.function_of function) place i && b.keeps function place i;
}

abbrev pub KeepsOn : Type 0
KeepsOn = (a b : View) (first second third : ℕ → State) → Keeps a first second → Keeps b second third → Keeps (through a b) first third
