-- The row of a return: the frame is given back, and the caller's call is done; the first frame's return ends the run.
use Rattle.std.proofs.Common.{◌≡◌, ℕ, ◌+◌, ◌-◌, ◌*◌, ◌%◌, ◌^◌, ◌<◌, ℤ, pos, List, [], ◌∷◌, ◌++◌, length, Option, Some, None, refl, sym, ap, ◌∙◌, subst, arith, append-nil}
use Rattle.std.specs.Prelude.{slice_get}
use Rattle.std.specs.Option.{option_map}
use Rattle.std.proofs.lemmas.Option.{slice_get-map, none-some}
use Rattle.gimple_ir.specs.Values.{IsValue}
use Rattle.gimple_ir.specs.declared.types.Operand.{Operand}
use Rattle.gimple_ir.specs.declared.types.Value.{Value}
use Rattle.gimple_ir.specs.declared.versioned.Step.{Step}
use Rattle.gimple_ir.specs.declared.versioned.Step.TheVariants.{Return, Call}
use Rattle.gimple_ir.specs.declared.versioned.VersionedFunction.{VersionedFunction}
use Rattle.gimple_meaning.specs.Acts.{Leaves, value_at}
use Rattle.gimple_meaning.specs.Systems.{Frame, Machine, moved, received, resumed, status}
use Rattle.gimple_meaning.specs.Systems as program
use Rattle.gimple_meaning.specs.Steps.{Code, target_of, target_at}
use Rattle.rv64_isa.specs.declared.instr.Instr.TheVariants.{Addi, Ecall}
use Rattle.rv64_meaning.specs.Machine.{Segments, State}
use Rattle.rv64_frame.specs.Frames.{frame_of, frame_size, return_slot}
use Rattle.rv64_select.specs.declared.item.Symbol.TheVariants as symbols
use Rattle.rv64_select.specs.declared.item.Item.TheVariants as item
use Rattle.rv64_select.specs.Assembly.{plain, operand_in, assign_in, argument_items, leave_code}
use Rattle.rv64_select.specs.Code.{words_in}
use Rattle.gimple_meaning.specs.Versioned.{TargetFits, StepFits}
use Rattle.follow_laws.specs.Relation.{StandsAt, ComesTo, EndsWith}
use Rattle.follow_laws.specs.Frames.{form_of}
use Rattle.follow_laws.proofs.WayLaws.{comes_of, comes_to_end}
use Rattle.follow_laws.proofs.TemplateLaws.{leave_returns}
use Rattle.follow_laws.proofs.StubLaws.{exit_ends}
use Rattle.follow_laws.proofs.FrameLaws.{low_byte_kept}
use Rattle.gimple_meaning.specs.Linked.{LinkedProgram, linked_step, linked_code, linked_system}
use Rattle.gimple_meaning.specs.Typed.{ProgramTyped, TargetTyped}
use Rattle.follow_laws.specs.Layouts.{Layout, IsPlaced, places_in, place_address}
use Rattle.follow_laws.specs.Related.{FrameStands, WaitsFor, FramesWait, ArraysHeld, Holds, AtFrame, Answers}
use Rattle.follow_laws.proofs.Lists.{all_at, some_same}
use Rattle.follow_laws.proofs.HeldFrames.{room_of, reached}
use Rattle.follow_laws.proofs.Places.{here}
use Rattle.follow_laws.proofs.Operands.{AreBits, FitsComponent, operand_typed, value_got}
use Rattle.follow_laws.proofs.Words.{Stretch, front_stands, behind, plain_stands, behind_call, behind_items, Reaches, reaches_here, reaches_of, reaches_on, lead_on, ended}
use Rattle.follow_laws.proofs.Answering.{RowAt, works, needing_answers, after_lead}
use Rattle.follow_laws.proofs.PlainRows.{stretch, arrived}
use Rattle.follow_laws.proofs.ValueRows.{assigns}

-- the component that takes the result of a call
receives_here : (p : LinkedProgram) (f : VersionedFunction) (g place : ℕ) (to : Option ℕ) (call : ℕ) (args : List Operand) → slice_get p.functions g ≡ Some f → slice_get f.body place ≡ Some (Call to call args)
    → (linked_system p).receives g place ≡ to
receives_here p f g place to call args known e =
    let code = slice_get-map (linked_code p) p.functions g ∙ ap (option_map (linked_code p)) known in
    let body = slice_get-map (linked_step p f) f.body place ∙ ap (option_map (linked_step p f)) e in
    ap (λ (c : Option Code). target_at c place) code ∙ ap (λ (c : Option Step). target_of c) body

module _ (m : Segments) (l : Layout) (p : LinkedProgram) (w : IsPlaced m l p) (typed : ProgramTyped p) where
  -- ---- behind a call

  -- the code behind the words of a call at which a frame waits
  record Behind (frame : Frame) (f : VersionedFunction) (to : Option ℕ) (back : ℕ) : Type 0 where
    code : Stretch m (places_in l f) back (place_address l f (frame.place + 1)) (plain (assign_in (frame_of f) 10 to))
    near : back < 2 ^ 30
    aligned : back % 4 ≡ 0

  behind_waits : (frame : Frame) (f : VersionedFunction) (callee back : ℕ) (s : State) → (waits : WaitsFor l p frame f callee back) → slice_get p.functions frame.function ≡ Some f → Behind frame f waits.to back
  behind_waits frame f callee back s waits known =
      let at = place_address l f frame.place in
      let form = Call waits.to waits.call waits.args in
      let h = here m l f (record s { pc = at }) frame.place form (w.functions frame.function f known) refl waits.step in
      let places = places_in l f in
      let end = place_address l f (frame.place + 1) in
      let rest = plain (assign_in (frame_of f) 10 waits.to) in
      let passing = argument_items (frame_of f) 0 waits.args in
      let whole : Stretch m places at end (passing ++ (item.Call (symbols.Target waits.call) ∷ rest)) = record { stands = h.code; ends = h.next } in
      let last = behind_items m places at end passing (item.Call (symbols.Target waits.call) ∷ rest) whole in
      let code = behind_call m places (at + 4 * words_in passing) end (symbols.Target waits.call) rest last in
      record {
        code = subst (λ n. Stretch m places n end rest) (sym waits.return_address) code;
        near = omega (arith, waits.return_address, code.ends, h.near);
        aligned = omega (arith, waits.return_address, h.aligned);
      }

  -- the address to which a frame returns
  back_is : (callee base back : ℕ) (older : List Frame) (s : State) → FramesWait l p s.mem callee base back older → (back < 2 ^ 30) × (back % 4 ≡ 0)
  back_is callee base back [] s h = (omega (arith, h.1), omega (arith, h.1))
  back_is callee base back (frame ∷ older) s (f, further, stands, waits, rest) =
      let b = behind_waits frame f callee back s waits stands.known in
      (b.near, b.aligned)

  -- ---- the frame given back

  record Left (g : ℕ) (f : VersionedFunction) (back : ℕ) (u t : State) : Type 0 where
    place : t.pc ≡ back
    stack : t.reg 2 ≡ u.reg 2 + frame_size f
    value : t.reg 10 ≡ u.reg 10
    mem : t.mem ≡ u.mem
    input : t.input ≡ u.input
    output : t.output ≡ u.output

  leaves : (g : ℕ) (f : VersionedFunction) (cells : List (Option Value)) (older : List Frame) (arrays : List (List ℤ)) (input output : List ℕ) (u : State) → (h : Holds l p g f cells older arrays input output u)
      → StandsAt m u.pc (leave_code (frame_size f) (return_slot f)) → ComesTo m u (Left g f h.back u)
  leaves g f cells older arrays input output u h code =
      let base = u.reg 2 in
      let room = room_of m l p g f cells older arrays input output u w h in
      let slot = return_slot f in
      let reach = reached m l p f base slot w room (omega arith) (omega (arith, room.below)) in
      let back = back_is g (base + frame_size f) h.back older u h.waiting in
      let is = h.newest.held.back in
      let c = leave_returns m u (frame_size f) slot (omega (arith, room.below, w.near)) (omega (arith, room.below, w.near)) reach.near reach.can_load (omega (arith, is, back.0)) (omega (arith, is, back.1)) code in
      record {
        state = c.state;
        leads = c.leads;
        holds = record {
          place = c.holds.place ∙ is;
          stack = c.holds.stack;
          value = c.holds.others 10 refl refl refl refl;
          mem = c.holds.mem;
          input = c.holds.input;
          output = c.holds.output;
        };
      }

  -- ---- in the caller

  abbrev FitsResult : ℕ → Option Value → Type 0
  FitsResult g value = (v : Value) → value ≡ Some v → (v.ty ≡ p.result_type g) × IsValue v

  -- the caller's frame is the newest
  caller_holds : (g : ℕ) (f : VersionedFunction) (cells : List (Option Value)) (caller : Frame) (older : List Frame) (arrays : List (List ℤ)) (input output : List ℕ) (u t : State)
      → (h : Holds l p g f cells (caller ∷ older) arrays input output u) → Left g f h.back u t → Holds l p caller.function h.waiting.0 caller.components older arrays input output t
  caller_holds g f cells caller older arrays input output u t h k =
      let fc = h.waiting.0 in
      let up = u.reg 2 + frame_size f in
      let mem = sym k.mem in
      let at = sym k.stack in
      record {
        back = h.waiting.1;
        newest = subst (λ x. FrameStands p x (t.reg 2) h.waiting.1 caller.function fc caller.components) mem (subst (λ n. FrameStands p u.mem n h.waiting.1 caller.function fc caller.components) at h.waiting.2);
        waiting = subst (λ x. FramesWait l p x caller.function (t.reg 2 + frame_size fc) h.waiting.1 older) mem (subst (λ n. FramesWait l p u.mem caller.function (n + frame_size fc) h.waiting.1 older) at h.waiting.4);
        depth = omega (arith, h.depth);
        arrays_held = subst (λ x. ArraysHeld l p x arrays) mem h.arrays_held;
        input_left = k.input ∙ h.input_left;
        input_bytes = h.input_bytes;
        written = k.output ∙ h.written;
      }

  -- the words behind the caller's call
  received_at : (caller : Frame) (older : List Frame) (arrays : List (List ℤ)) (input output : List ℕ) (f : VersionedFunction) (to : Option ℕ) (g : ℕ) (value : Option Value) (t : State)
      → Holds l p caller.function f caller.components older arrays input output t → TargetTyped f to (p.result_type g) → TargetFits f to → FitsResult g value → AreBits value (t.reg 10)
      → Stretch m (places_in l f) t.pc (place_address l f (caller.place + 1)) (plain (assign_in (frame_of f) 10 to))
      → Reaches m t (AtFrame l p (moved caller (caller.place + 1) (received to value caller.components)) older arrays input (output ++ []))
  received_at caller older arrays input output f None g value t h type fits result is code =
      reaches_here m t _ (arrived m l p w typed caller older arrays input output f caller.components (caller.place + 1) t h (ended t.pc (place_address l f (caller.place + 1)) code.ends))
  received_at caller older arrays input output f (Some to) g value t h type fits result is code =
      let fit : FitsComponent f to value = λ v e. let k = result v e in (k.0 ∙ sym type, k.1) in
      reaches_of m t _ (assigns m l p w typed caller older arrays input output f caller.components t to 10 value h fits is fit refl refl code)

  -- ---- what the program makes of it

  gives : (older : List Frame) (q : Machine) (g : ℕ) (f : VersionedFunction) (cells : List (Option Value)) (value : Option Value) (u : State) (left : ℕ) → Holds l p g f cells older q.arrays q.input q.output u
      → StandsAt m u.pc (leave_code (frame_size f) (return_slot f)) → FitsResult g value → AreBits value (u.reg 10) → (g ≡ p.main → (v : Value) × (value ≡ Some v))
      → Answers m l p u left (program.left (linked_system p) q older value)
  gives [] q g f cells value u left h code result is some =
      let c = leaves g f cells [] q.arrays q.input q.output u h code in
      let t = c.state in
      let k = c.holds in
      let there = some h.waiting.2 in
      let v = there.0 in
      let ends = exit_ends m t (subst (λ n. StandsAt m n (Addi 17 0 (pos 93) ∷ (Ecall ∷ []))) (sym (k.place ∙ h.waiting.1)) w.stubs.ending) in
      let byte : t.reg 10 % 2 ^ 8 ≡ status value = ap (λ n. n % 2 ^ 8) (k.value ∙ is v there.1) ∙ (low_byte_kept v.num).1 v.ty ∙ ap status (sym there.1) in
      subst (λ (o : List ℕ). EndsWith m u (status value) o) (k.output ∙ h.written)
      (subst (λ n. EndsWith m u n t.output) byte (comes_to_end m u t (t.reg 10 % 2 ^ 8) t.output (comes_of m u t c.leads) ends))
  gives (caller ∷ older) q g f cells value u left h code result is some =
      let fc = h.waiting.0 in
      let stands = h.waiting.2 in
      let waits = h.waiting.3 in
      let known = stands.known in
      let checked = typed.functions caller.function fc known in
      let form = Call waits.to waits.call waits.args in
      let types = checked.steps caller.place form waits.step in
      let fits = all_at (StepFits fc) fc.body caller.place form waits.step checked.versioned.steps in
      let type = subst (λ n. TargetTyped fc waits.to (p.result_type n)) waits.target types.1 in
      let b = behind_waits caller fc g h.back u waits known in
      let out = sym (append-nil q.output) in
      let same : moved caller (caller.place + 1) (received waits.to value caller.components) ≡ resumed (linked_system p) caller value =
      ap (λ (to : Option ℕ). moved caller (caller.place + 1) (received to value caller.components)) (sym (receives_here p fc caller.function caller.place waits.to waits.call waits.args known waits.step)) in
      works m l p u left _
      (lead_on m u _ _ (leaves g f cells (caller ∷ older) q.arrays q.input q.output u h code)
      (λ t k. reaches_on m t _ _
      (received_at caller older q.arrays q.input q.output fc waits.to g value t (caller_holds g f cells caller older q.arrays q.input q.output u t h k) type fits.0 result (λ v e. k.value ∙ is v e)
      (subst (λ n. Stretch m (places_in l fc) n (place_address l fc (caller.place + 1)) (plain (assign_in (frame_of fc) 10 waits.to))) (sym k.place) b.code))
      (λ x at. reaches_here m x _ (subst (λ (r : Frame). AtFrame l p r older q.arrays q.input q.output x) same (subst (λ (o : List ℕ). AtFrame l p (moved caller (caller.place + 1) (received waits.to value caller.components)) older q.arrays q.input o x) (append-nil q.output) at)))))

  pub return_at : (o : Option Operand) → RowAt m l p (Return o)
  return_at None q frame older s a e =
      let f = a.function in
      let g = frame.function in
      let types = (typed.functions g f a.holds.newest.known).steps frame.place (Return None) e in
      let items = stretch m l p w typed frame older q.arrays q.input q.output s (Return None) a e in
      let code = plain_stands m (places_in l f) s.pc (place_address l f (frame.place + 1)) (leave_code (frame_size f) (return_slot f)) items in
      gives older q g f frame.components None s (length f.body - frame.place) a.holds code (λ v none. absurd (none-some v none)) (λ v none. absurd (none-some v none)) (λ main. absurd (types main))
  return_at (Some x) q frame older s a e =
      let f = a.function in
      let g = frame.function in
      let cells = frame.components in
      let checked = typed.functions g f a.holds.newest.known in
      let form = Return (Some x) in
      let fits = all_at (StepFits f) f.body frame.place form e checked.versioned.steps in
      let types = checked.steps frame.place form e in
      let left = length f.body - frame.place in
      let places = places_in l f in
      let end = place_address l f (frame.place + 1) in
      let get = operand_in (frame_of f) 10 x in
      let code = leave_code (frame_size f) (return_slot f) in
      let items = stretch m l p w typed frame older q.arrays q.input q.output s form a e in
      needing_answers m l p s left (linked_system p) q frame older (value_at cells x) (λ v. Leaves (Some v))
      (λ v ev.
      let c = value_got m l p w g f older q.arrays q.input q.output cells s 10 x a.holds fits refl refl (front_stands m places s.pc end get (plain code) items) in
      let u = c.state in
      let k = c.holds in
      let kind = operand_typed f cells x v a.holds.newest.typed ev types.0 in
      let leave = plain_stands m places u.pc end code (behind m places s.pc end u.pc get (plain code) items k.place) in
      let result : FitsResult g (Some v) = λ y ey. let same = some_same v y ey in (ap (λ (z : Value). z.ty) (sym same) ∙ kind.0 ∙ types.1, subst IsValue same kind.1) in
      after_lead m l p s u left _ c.leads
      (gives older q g f cells (Some v) u left k.holds leave result (λ y ey. k.value v ev ∙ ap form_of (some_same v y ey)) (λ main. (v, refl))))
