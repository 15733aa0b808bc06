-- What memory keeps where bytes of it stay: loads, frames and arrays.
use Rattle.std.proofs.Common.{◌≡◌, ℕ, zero, suc, ◌+◌, ◌*◌, ◌<◌, ◌≤◌, ◌⊎◌, inl, inr, ℤ, List, [], ◌∷◌, length, Option, refl, ap, ◌∙◌, arith}
use Rattle.std.proofs.lemmas.Bool.{le-ltb, lt-leb, cond-false, and_left, and_right}
use Rattle.gimple_ir.specs.declared.types.ElementType.{ElementType}
use Rattle.gimple_ir.specs.declared.types.ElementType.TheVariants as element
use Rattle.gimple_ir.specs.declared.types.ScalarType.TheVariants.{Int, UnsignedInt, LongInt, LongUnsignedInt}
use Rattle.gimple_ir.specs.declared.types.Value.{Value}
use Rattle.gimple_ir.specs.declared.versioned.VersionedFunction.{VersionedFunction}
use Rattle.gimple_meaning.specs.Systems.{Frame}
use Rattle.rv64_meaning.specs.Machine.{Segments, load, store, store_bytes}
use Rattle.rv64_frame.specs.Frames.{component_slot, return_slot, frame_size}
use Rattle.final_link.specs.Arrays.{element_size}
use Rattle.follow_laws.specs.Frames.{FrameHeld}
use Rattle.gimple_meaning.specs.Linked.{LinkedProgram}
use Rattle.follow_laws.specs.Layouts.{Layout, IsPlaced}
use Rattle.follow_laws.specs.Related.{FrameStands, FramesWait, ArraysHeld}

-- the bytes from an address on are the same, and those below one
abbrev pub SameFrom : ℕ → (ℕ → ℕ) → (ℕ → ℕ) → Type 0
SameFrom base old new = (q : ℕ) → base ≤ q → new q ≡ old q

abbrev pub SameBelow : ℕ → (ℕ → ℕ) → (ℕ → ℕ) → Type 0
SameBelow end old new = (q : ℕ) → q < end → new q ≡ old q

-- ---- loads and stores

pub load_kept : (n : ℕ) (old new : ℕ → ℕ) (a : ℕ) → ((q : ℕ) → a ≤ q → q < a + n → new q ≡ old q) → load n new a ≡ load n old a
unfolding load
load_kept zero old new a h = refl
load_kept (suc n) old new a h =
    ap (λ x. x + 256 * load n new (a + 1)) (h a (omega arith) (omega arith))
    ∙ ap (λ x. old a + 256 * x) (load_kept n old new (a + 1) (λ q b c. h q (omega (arith, b)) (omega (arith, c))))

pub store_kept : (n : ℕ) (mem : ℕ → ℕ) (a v q : ℕ) → ((q < a) ⊎ (a + n ≤ q)) → store n mem a v q ≡ mem q
unfolding store
store_kept n mem a v q (inl h) = cond-false _ _ _ (and_left _ _ (lt-leb a q h))
store_kept n mem a v q (inr h) = cond-false _ _ _ (and_right _ _ (le-ltb q (a + n) h))

pub bytes_kept : (bytes : List ℕ) (mem : ℕ → ℕ) (a q : ℕ) → ((q < a) ⊎ (a + length bytes ≤ q)) → store_bytes bytes mem a q ≡ mem q
unfolding store_bytes
bytes_kept bytes mem a q (inl h) = cond-false _ _ _ (and_left _ _ (lt-leb a q h))
bytes_kept bytes mem a q (inr h) = cond-false _ _ _ (and_right _ _ (le-ltb q (a + length bytes) h))

-- ---- frames

pub held_kept : (f : VersionedFunction) (old new : ℕ → ℕ) (base back : ℕ) (cells : List (Option Value)) → SameFrom (base + component_slot f 0) old new
    → FrameHeld f old base back cells → FrameHeld f new base back cells
held_kept f old new base back cells same h = record {
  long = h.long;
  slots = λ i v e. load_kept 8 old new (base + component_slot f i) (λ q b c. same q (omega (arith, b))) ∙ h.slots i v e;
  back = load_kept 8 old new (base + return_slot f) (λ q b c. same q (omega (arith, b))) ∙ h.back;
}

pub stands_kept : (p : LinkedProgram) (old new : ℕ → ℕ) (base back g : ℕ) (f : VersionedFunction) (cells : List (Option Value)) → SameFrom (base + component_slot f 0) old new
    → FrameStands p old base back g f cells → FrameStands p new base back g f cells
stands_kept p old new base back g f cells same h = record { known = h.known; held = held_kept f old new base back cells same h.held; typed = h.typed }

pub waiting_kept : (l : Layout) (p : LinkedProgram) (old new : ℕ → ℕ) (callee base back : ℕ) (older : List Frame) → SameFrom base old new
    → FramesWait l p old callee base back older → FramesWait l p new callee base back older
waiting_kept l p old new callee base back [] same h = h
waiting_kept l p old new callee base back (frame ∷ older) same (f, behind, stands, waits, rest) = (
  f,
  behind,
  stands_kept p old new base behind frame.function f frame.components (λ q b. same q (omega (arith, b))) stands,
  waits,
  waiting_kept l p old new frame.function (base + frame_size f) behind older (λ q b. same q (omega (arith, b))) rest,
)

-- ---- arrays

-- an element ends within its array
pub element_within : (e : ElementType) (i n : ℕ) → i < n → element_size e * i + element_size e ≤ element_size e * n
element_within element.UnsignedChar i n h = omega (arith, h)
element_within (element.Scalar Int) i n h = omega (arith, h)
element_within (element.Scalar UnsignedInt) i n h = omega (arith, h)
element_within (element.Scalar LongInt) i n h = omega (arith, h)
element_within (element.Scalar LongUnsignedInt) i n h = omega (arith, h)

pub arrays_kept : (m : Segments) (l : Layout) (p : LinkedProgram) (old new : ℕ → ℕ) (arrays : List (List ℤ)) → IsPlaced m l p → SameBelow l.scratch old new
    → ArraysHeld l p old arrays → ArraysHeld l p new arrays
arrays_kept m l p old new arrays w same h n i a z known kept at =
    let e = h n i a z known kept at in
    let placed = w.arrays n a known kept in
    let size = element_size a.element in
    let within = element_within a.element i a.length e.within in
    record {
      within = e.within;
      bits = load_kept size old new (l.array n + size * i) (λ q b c. same q (omega (arith, c, within, placed.below))) ∙ e.bits;
      number = e.number;
    }
