-- An operand into a register, and a register into a component, in a state that holds the frames.
use Rattle.std.proofs.Common.{◌≡◌, ◌≢◌, ℕ, zero, suc, ◌+◌, ◌*◌, ◌^◌, ◌<◌, ◌≤◌, ◌⊎◌, inl, inr, ℤ, List, [], ◌∷◌, length, Option, Some, refl, sym, ap, ◌∙◌, subst, arith}
use Rattle.std.specs.Prelude.{◌==◌, slice_set}
use Rattle.std.proofs.lemmas.Bool.{cond-true, cond-false, eq-eqb, cases_eq, cases_lt}
use Rattle.std.proofs.lemmas.List.{length-set}
use Rattle.gimple_ir.specs.Values.{IsValue}
use Rattle.gimple_ir.specs.Programs.{IsOperand}
use Rattle.gimple_ir.specs.declared.types.Operand.{Operand}
use Rattle.gimple_ir.specs.declared.types.Operand.TheVariants.{Component, Literal}
use Rattle.gimple_ir.specs.declared.types.Value.{Value}
use Rattle.gimple_ir.specs.declared.versioned.VersionedFunction.{VersionedFunction}
use Rattle.gimple_meaning.specs.Acts.{cell, value_at}
use Rattle.gimple_meaning.specs.Systems.{Frame}
use Rattle.rv64_isa.proofs.FormatLaws.{residue_lt}
use Rattle.rv64_meaning.specs.Machine.{Segments, State, read_reg, set_at, load, store}
use Rattle.rv64_meaning.proofs.MemoryLaws.{load_same, load_apart}
use Rattle.rv64_frame.specs.Frames.{component_slot, return_slot, frame_of, frame_size}
use Rattle.rv64_select.specs.Templates.{machine_form}
use Rattle.gimple_meaning.specs.Versioned.{type_of, type_of_component}
use Rattle.rv64_select.specs.Assembly.{set_in}
use Rattle.rv64_select.specs.Code.{operand_code}
use Rattle.gimple_meaning.specs.Versioned.{ComponentFits, OperandFits}
use Rattle.follow_laws.specs.Relation.{StandsAt, ComesTo}
use Rattle.follow_laws.specs.Effects.{Differ, with_register}
use Rattle.follow_laws.specs.Follows.{AreBytes}
use Rattle.follow_laws.specs.Frames.{form_of, FrameHeld}
use Rattle.follow_laws.specs.Selections.{operand_bits, CanRead}
use Rattle.follow_laws.proofs.TemplateLaws.{set_other, store_stores}
use Rattle.follow_laws.proofs.SelectionLaws.{operand_sets}
use Rattle.follow_laws.proofs.FrameLaws.{operand_held}
use Rattle.gimple_meaning.specs.Linked.{LinkedProgram}
use Rattle.gimple_meaning.specs.Typed.{AreTyped}
use Rattle.follow_laws.specs.Layouts.{Layout, IsPlaced}
use Rattle.follow_laws.specs.Related.{FrameStands, FramesWait, Holds}
use Rattle.follow_laws.proofs.Memory.{SameFrom, SameBelow, store_kept, stands_kept, waiting_kept, arrays_kept}
use Rattle.follow_laws.proofs.HeldFrames.{Reached, room_of, reached}
use Rattle.follow_laws.proofs.Lists.{some_same}

-- ---- components

pub cell_set : (cells : List (Option Value)) (i : ℕ) (o : Option Value) → i < length cells → cell (slice_set cells i o) i ≡ o
cell_set [] i o h = absurd (omega (arith, h))
cell_set (x ∷ cells) zero o h = refl
cell_set (x ∷ cells) (suc i) o h = cell_set cells i o (omega (arith, h))

pub cell_elsewhere : (cells : List (Option Value)) (i j : ℕ) (o : Option Value) → i ≢ j → cell (slice_set cells i o) j ≡ cell cells j
cell_elsewhere [] i j o h = refl
cell_elsewhere (x ∷ cells) zero zero o h = absurd (h refl)
cell_elsewhere (x ∷ cells) zero (suc j) o h = refl
cell_elsewhere (x ∷ cells) (suc i) zero o h = refl
cell_elsewhere (x ∷ cells) (suc i) (suc j) o h = cell_elsewhere cells i j o (λ e. h (ap suc e))

-- what may be set in a component: nothing, or a number of its type
abbrev pub FitsComponent : VersionedFunction → ℕ → Option Value → Type 0
FitsComponent f i o = (v : Value) → o ≡ Some v → (v.ty ≡ type_of_component f i) × IsValue v

-- an operand that is set has a number of its type
pub operand_typed : (f : VersionedFunction) (cells : List (Option Value)) (o : Operand) (v : Value) → AreTyped f cells → value_at cells o ≡ Some v → IsOperand o → (v.ty ≡ type_of f o) × IsValue v
operand_typed f cells (Component i) v typed e number = typed i v e
operand_typed f cells (Literal u) v typed e number =
    let same = some_same u v e in
    (ap (λ (x : Value). x.ty) (sym same), subst IsValue same number)

typed_set : (f : VersionedFunction) (cells : List (Option Value)) (i : ℕ) (o : Option Value) → i < length cells → AreTyped f cells → FitsComponent f i o → AreTyped f (slice_set cells i o)
typed_set f cells i o inside typed fits j v e =
    elim (cases_eq i j) [
      | inl same ↦
          let there : o ≡ Some v = sym (cell_set cells i o inside) ∙ ap (cell (slice_set cells i o)) same ∙ e in
          subst (λ k. (v.ty ≡ type_of_component f k) × IsValue v) same (fits v there)
      | inr other ↦ typed j v (sym (cell_elsewhere cells i j o other) ∙ e)
    ]

pub form_lt : (v : Value) → form_of v < 2 ^ (8 * 8)
form_lt v = residue_lt (2 ^ 64) (machine_form v.ty v.num) (omega arith)

-- the bits of what is set
abbrev pub AreBits : Option Value → ℕ → Type 0
AreBits o bits = (v : Value) → o ≡ Some v → bits ≡ form_of v

slot_set : (f : VersionedFunction) (mem : ℕ → ℕ) (base back : ℕ) (cells : List (Option Value)) (i bits : ℕ) (o : Option Value) → FrameHeld f mem base back cells → i < length cells → AreBits o bits
    → (j : ℕ) (v : Value) → cell (slice_set cells i o) j ≡ Some v → load 8 (store 8 mem (base + component_slot f i) bits) (base + component_slot f j) ≡ form_of v
slot_set f mem base back cells i bits o h inside is j v e =
    elim (cases_eq i j) [
      | inl same ↦
          let there : o ≡ Some v = sym (cell_set cells i o inside) ∙ ap (cell (slice_set cells i o)) same ∙ e in
          ap (λ k. load 8 (store 8 mem (base + component_slot f i) bits) (base + component_slot f k)) (sym same)
          ∙ ap (λ x. load 8 (store 8 mem (base + component_slot f i) x) (base + component_slot f i)) (is v there)
          ∙ load_same 8 mem (base + component_slot f i) (form_of v) (form_lt v)
      | inr other ↦ load_apart 8 8 mem (base + component_slot f i) bits (base + component_slot f j) (apart i j other) ∙ h.slots j v (sym (cell_elsewhere cells i j o other) ∙ e)
    ]
  where
    apart : (i j : ℕ) → i ≢ j → ((base + component_slot f j + 8 ≤ base + component_slot f i) ⊎ (base + component_slot f i + 8 ≤ base + component_slot f j))
    apart i j other = elim (cases_lt i j) [ inl less ↦ inr (omega (arith, less)) | inr more ↦ inl (omega (arith, more, other)) ]

pub held_set : (f : VersionedFunction) (mem : ℕ → ℕ) (base back : ℕ) (cells : List (Option Value)) (i bits : ℕ) (o : Option Value) → FrameHeld f mem base back cells → i < length f.types → AreBits o bits
    → FrameHeld f (store 8 mem (base + component_slot f i) bits) base back (slice_set cells i o)
held_set f mem base back cells i bits o h inside is = record {
  long = length-set cells i o ∙ h.long;
  slots = slot_set f mem base back cells i bits o h (omega (arith, inside, h.long)) is;
  back = load_apart 8 8 mem (base + component_slot f i) bits (base + return_slot f) (inr (omega (arith, inside))) ∙ h.back;
}

-- ---- states

pub set_same : (f : ℕ → ℕ) (r v : ℕ) → set_at f r v r ≡ v
set_same f r v = cond-true (r == r) v (f r) (eq-eqb r r refl)

pub reg_read : (s : State) (r : ℕ) → Differ r 0 → read_reg s r ≡ s.reg r
reg_read s r h = cond-false (r == 0) 0 (s.reg r) h

module _ (m : Segments) (l : Layout) (p : LinkedProgram) (w : IsPlaced m l p) (g : ℕ) (f : VersionedFunction) (older : List Frame) (arrays : List (List ℤ)) (input output : List ℕ) where
  -- a state with the same memory, stack pointer, input and output
  pub holds_on : (cells : List (Option Value)) (s t : State) → Holds l p g f cells older arrays input output s → t.reg 2 ≡ s.reg 2 → t.mem ≡ s.mem → t.input ≡ s.input → t.output ≡ s.output
      → Holds l p g f cells older arrays input output t
  holds_on cells s t h sp mem same_input same_output = record {
    back = h.back;
    newest = subst (λ x. FrameStands p x (t.reg 2) h.back g f cells) (sym mem) (subst (λ x. FrameStands p s.mem x h.back g f cells) (sym sp) h.newest);
    waiting = subst (λ x. FramesWait l p x g (t.reg 2 + frame_size f) h.back older) (sym mem) (subst (λ x. FramesWait l p s.mem g (x + frame_size f) h.back older) (sym sp) h.waiting);
    depth = h.depth;
    arrays_held = λ n i a z known kept at. arrays_kept m l p s.mem t.mem arrays w (λ q b. ap (λ (k : ℕ → ℕ). k q) mem) h.arrays_held n i a z known kept at;
    input_left = same_input ∙ h.input_left;
    input_bytes = h.input_bytes;
    written = same_output ∙ h.written;
  }

  -- a state whose memory is the same from the components of the newest frame on, and in the arrays
  pub kept_holds : (cells : List (Option Value)) (new_input new_output : List ℕ) (s t : State) → Holds l p g f cells older arrays input output s → SameFrom (s.reg 2 + component_slot f 0) s.mem t.mem
      → SameBelow l.scratch s.mem t.mem → t.reg 2 ≡ s.reg 2 → t.input ≡ new_input → AreBytes new_input → t.output ≡ new_output → Holds l p g f cells older arrays new_input new_output t
  kept_holds cells new_input new_output s t h from below sp in_is bytes out_is =
      let newest = stands_kept p s.mem t.mem (s.reg 2) h.back g f cells from h.newest in
      let waiting = waiting_kept l p s.mem t.mem g (s.reg 2 + frame_size f) h.back older (λ q b. from q (omega (arith, b))) h.waiting in
      record {
        back = h.back;
        newest = subst (λ n. FrameStands p t.mem n h.back g f cells) (sym sp) newest;
        waiting = subst (λ n. FramesWait l p t.mem g (n + frame_size f) h.back older) (sym sp) waiting;
        depth = h.depth;
        arrays_held = λ n i a z known kept at. arrays_kept m l p s.mem t.mem arrays w below h.arrays_held n i a z known kept at;
        input_left = in_is;
        input_bytes = bytes;
        written = out_is;
      }

  -- the slot of a component of the newest frame
  pub slot_reached : (cells : List (Option Value)) (s : State) (i : ℕ) → Holds l p g f cells older arrays input output s → i < length f.types → Reached m (s.reg 2) (component_slot f i)
  slot_reached cells s i h inside =
      let room = room_of m l p g f cells older arrays input output s w h in
      reached m l p f (s.reg 2) (component_slot f i) w room (omega arith) (omega (arith, room.below, inside))

  can_read : (cells : List (Option Value)) (s : State) (o : Operand) → Holds l p g f cells older arrays input output s → OperandFits f o → CanRead m f s o
  can_read cells s (Component c) h fits = let r = slot_reached cells s c h fits in (r.near, r.fits, r.can_load)
  can_read cells s (Literal v) h fits = tt

  -- an operand is in a register; if it is set, its value's bits
  pub record Got (r : ℕ) (o : Operand) (cells : List (Option Value)) (words : ℕ) (s t : State) : Type 0 where
    pub place : t.pc ≡ s.pc + 4 * words
    pub value : AreBits (value_at cells o) (t.reg r)
    pub others : (q : ℕ) → Differ q r → t.reg q ≡ s.reg q
    pub mem : t.mem ≡ s.mem
    pub holds : Holds l p g f cells older arrays input output t

  pub value_got : (cells : List (Option Value)) (s : State) (r : ℕ) (o : Operand) → Holds l p g f cells older arrays input output s → OperandFits f o → Differ r 0 → Differ 2 r
      → StandsAt m s.pc (operand_code f r o) → ComesTo m s (Got r o cells (length (operand_code f r o)) s)
  value_got cells s r o h fits r_is apart has =
      let bits = operand_bits f s o in
      let u = with_register s r bits (length (operand_code f r o)) in
      record {
        state = u;
        leads = operand_sets m s f r o r_is apart (can_read cells s o h fits) has;
        holds = record {
          place = refl;
          value = λ v e. set_same s.reg r bits ∙ operand_held f s h.back cells o v h.newest.held e;
          others = λ q d. set_other s.reg r bits q d;
          mem = refl;
          holds = holds_on cells s u h (set_other s.reg r bits 2 apart) refl refl refl;
        };
      }

  -- a component has what a register has, or is unset
  pub record Assigned (to : ℕ) (o : Option Value) (cells : List (Option Value)) (words : ℕ) (s t : State) : Type 0 where
    pub place : t.pc ≡ s.pc + 4 * words
    pub others : (q : ℕ) → Differ q 28 → t.reg q ≡ s.reg q
    pub mem : (bits : ℕ) × (t.mem ≡ store 8 s.mem (s.reg 2 + component_slot f to) bits)
    pub holds : Holds l p g f (slice_set cells to o) older arrays input output t

  stored_holds : (cells : List (Option Value)) (s t : State) (to bits : ℕ) (o : Option Value) → Holds l p g f cells older arrays input output s → ComponentFits f to → AreBits o bits → FitsComponent f to o
      → t.reg 2 ≡ s.reg 2 → t.mem ≡ store 8 s.mem (s.reg 2 + component_slot f to) bits → t.input ≡ s.input → t.output ≡ s.output → Holds l p g f (slice_set cells to o) older arrays input output t
  stored_holds cells s t to bits o h inside is fits sp mem same_input same_output =
      let base = s.reg 2 in
      let at = base + component_slot f to in
      let new = store 8 s.mem at bits in
      let room = room_of m l p g f cells older arrays input output s w h in
      let newest : FrameStands p new base h.back g f (slice_set cells to o) = record {
        known = h.newest.known;
        held = held_set f s.mem base h.back cells to bits o h.newest.held inside is;
        typed = typed_set f cells to o (omega (arith, inside, h.newest.held.long)) h.newest.typed fits;
      } in
      let up = base + frame_size f in
      let from : SameFrom up s.mem new = λ q b. store_kept 8 s.mem at bits q (inr (omega (arith, b, inside))) in
      let below : SameBelow l.scratch s.mem new = λ q b. store_kept 8 s.mem at bits q (inl (omega (arith, b, room.above, w.scratch_below))) in
      let waiting = waiting_kept l p s.mem new g up h.back older from h.waiting in
      let old : Holds l p g f (slice_set cells to o) older arrays input output (record s { mem = new }) = record {
        back = h.back;
        newest = newest;
        waiting = waiting;
        depth = h.depth;
        arrays_held = arrays_kept m l p s.mem new arrays w below h.arrays_held;
        input_left = h.input_left;
        input_bytes = h.input_bytes;
        written = h.written;
      } in
      holds_on (slice_set cells to o) (record s { mem = new }) t old sp mem same_input same_output

  pub value_set : (cells : List (Option Value)) (s : State) (to r : ℕ) (o : Option Value) → Holds l p g f cells older arrays input output s → ComponentFits f to → AreBits o (s.reg r) → FitsComponent f to o
      → Differ r 0 → Differ r 28 → StandsAt m s.pc (set_in (frame_of f) r to) → ComesTo m s (Assigned to o cells (length (set_in (frame_of f) r to)) s)
  value_set cells s to r o h inside is fits r_is apart has =
      let reach = slot_reached cells s to h inside in
      let c = store_stores m s r (component_slot f to) apart reach.near reach.fits reach.can_store has in
      let bits : AreBits o (read_reg s r) = λ v e. reg_read s r r_is ∙ is v e in
      record {
        state = c.state;
        leads = c.leads;
        holds = record {
          place = c.holds.place;
          others = c.holds.others;
          mem = (read_reg s r, c.holds.mem);
          holds = stored_holds cells s c.state to (read_reg s r) o h inside bits fits (c.holds.others 2 refl) c.holds.mem c.holds.input c.holds.output;
        };
      }
