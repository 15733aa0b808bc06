-- Rows of the builtin functions: putchar and getchar by their stubs, and exit.
use Rattle.std.proofs.Common.{◌≡◌, ℕ, ◌+◌, ◌-◌, ◌%◌, ◌^◌, ◌<◌, ◌≤◌, ℤ, pos, List, [], ◌∷◌, ◌++◌, length, true, Option, Some, None, inl, inr, refl, sym, ap, ◌∙◌, subst, arith}
use Rattle.std.specs.Prelude.{slice_get, take, drop}
use Rattle.std.proofs.Math.Nat.{mod-one}
use Rattle.std.proofs.lemmas.Int.{ints}
use Rattle.std.proofs.lemmas.Bool.Decides.{nat_tests}
use Rattle.std.proofs.lemmas.List.Elements.{All-head, All-tail}
use Rattle.gimple_ir.specs.Values.{IsValue, value_of}
use Rattle.gimple_ir.specs.declared.types.ScalarType.TheVariants.{Int}
use Rattle.gimple_ir.specs.declared.types.Operand.{Operand}
use Rattle.gimple_ir.specs.declared.types.Value.{Value}
use Rattle.gimple_ir.specs.declared.versioned.Step.TheVariants.{Putchar, Getchar, Exit}
use Rattle.gimple_ir.specs.declared.versioned.VersionedFunction.{VersionedFunction}
use Rattle.gimple_meaning.specs.Acts.{Goes, Exits, value_at, low_byte, read_byte, unread}
use Rattle.gimple_meaning.specs.Systems.{Frame, Machine, store_of}
use Rattle.rv64_isa.specs.declared.instr.Instr.TheVariants.{Addi, Ecall}
use Rattle.rv64_meaning.specs.Machine.{Segments, State, can_store}
use Rattle.rv64_abi.specs.Offsets.{call}
use Rattle.rv64_frame.specs.Frames.{frame_of}
use Rattle.rv64_select.specs.declared.item.Symbol.TheVariants as symbols
use Rattle.rv64_select.specs.declared.item.Item.{Item}
use Rattle.rv64_select.specs.declared.item.Item.TheVariants as item
use Rattle.rv64_select.specs.Assembly.{plain, operand_in, assign_in}
use Rattle.gimple_meaning.specs.Versioned.{StepFits}
use Rattle.final_link.specs.Stubs.{putchar_address, getchar_address}
use Rattle.follow_laws.specs.Relation.{StandsAt, ComesTo, EndsWith}
use Rattle.follow_laws.specs.Follows.{AreBytes}
use Rattle.follow_laws.specs.Effects.{called, next_byte}
use Rattle.follow_laws.specs.Frames.{form_of}
use Rattle.follow_laws.proofs.WayLaws.{reach_on, comes_of, comes_to_end, leads_twice}
use Rattle.follow_laws.proofs.TemplateLaws.{call_goes}
use Rattle.follow_laws.proofs.StubLaws.{exit_ends, putchar_writes, getchar_reads}
use Rattle.follow_laws.proofs.FrameLaws.{low_byte_kept, data_reached}
use Rattle.gimple_meaning.specs.Linked.{LinkedProgram, linked_system}
use Rattle.gimple_meaning.specs.Typed.{ProgramTyped}
use Rattle.follow_laws.specs.Layouts.{Layout, IsPlaced, places_in, place_address}
use Rattle.follow_laws.specs.Related.{Holds, AtFrame}
use Rattle.follow_laws.proofs.Lists.{all_at, some_same}
use Rattle.follow_laws.proofs.Memory.{SameFrom, SameBelow, store_kept, bytes_kept}
use Rattle.follow_laws.proofs.HeldFrames.{room_of}
use Rattle.follow_laws.proofs.Places.{here}
use Rattle.follow_laws.proofs.Operands.{FitsComponent, kept_holds, value_got}
use Rattle.follow_laws.proofs.Words.{Stretch, front_stands, behind, call_stands, behind_call, reaches_here, lead_on, ended}
use Rattle.follow_laws.proofs.Answering.{RowAt, works, needing_answers}
use Rattle.follow_laws.proofs.PlainRows.{stretch, arrived}
use Rattle.follow_laws.proofs.ValueRows.{assigns}

-- a byte is its own form
byte_form : (byte : ℕ) → byte < 2 ^ 8 → byte ≡ form_of (value_of Int (pos byte))
byte_form byte h = grind (arith, nat_tests, ints)

next_form : (input : List ℕ) → AreBytes input → next_byte input ≡ form_of (value_of Int (read_byte input))
next_form [] bytes = refl
next_form (byte ∷ more) bytes = byte_form byte (All-head (λ b. b < 2 ^ 8) byte more bytes)

read_number : (input : List ℕ) → AreBytes input → IsValue (value_of Int (read_byte input))
read_number [] bytes = record { above = omega (arith, ints); below = omega (arith, ints) }
read_number (byte ∷ more) bytes =
    let small = All-head (λ b. b < 2 ^ 8) byte more bytes in
    record { above = omega (arith, ints, small); below = omega (arith, ints, small) }

unread_is : (input : List ℕ) → drop 1 input ≡ unread input
unread_is [] = refl
unread_is (byte ∷ more) = refl

unread_bytes : (input : List ℕ) → AreBytes input → AreBytes (unread input)
unread_bytes [] bytes = bytes
unread_bytes (byte ∷ more) bytes = All-tail (λ b. b < 2 ^ 8) byte more bytes

taken_few : (input : List ℕ) → length (take 1 input) ≤ 1
taken_few [] = omega arith
taken_few (byte ∷ more) = omega arith

module _ (m : Segments) (l : Layout) (p : LinkedProgram) (w : IsPlaced m l p) (typed : ProgramTyped p) where
  -- a state whose memory differs at the scratch byte alone
  pub beside : (g : ℕ) (f : VersionedFunction) (cells : List (Option Value)) (older : List Frame) (arrays : List (List ℤ)) (input output new_input new_output : List ℕ) (s t : State)
      → Holds l p g f cells older arrays input output s → SameFrom l.stack s.mem t.mem → SameBelow l.scratch s.mem t.mem → t.reg 2 ≡ s.reg 2 → t.input ≡ new_input → AreBytes new_input → t.output ≡ new_output
      → Holds l p g f cells older arrays new_input new_output t
  beside g f cells older arrays input output new_input new_output s t h from below sp in_is bytes out_is =
      let room = room_of m l p g f cells older arrays input output s w h in
      kept_holds m l p w g f older arrays input output cells new_input new_output s t h (λ q b. from q (omega (arith, b, room.above))) below sp in_is bytes out_is

  scratch_reached : can_store m l.scratch 1 ≡ true
  scratch_reached =
      let both = data_reached m l.scratch 1 (mod-one l.scratch) w.scratch_above (omega (arith, w.scratch_below, w.end)) in
      both.1

  scratch_near : l.scratch < 2 ^ 31 - 2 ^ 11
  scratch_near = omega (arith, w.scratch_below, w.near)

  pub putchar_at : (x : Operand) → RowAt m l p (Putchar x)
  putchar_at x q frame older s a e =
      let f = a.function in
      let g = frame.function in
      let cells = frame.components in
      let known = a.holds.newest.known in
      let checked = typed.functions g f known in
      let fits = all_at (StepFits f) f.body frame.place (Putchar x) e checked.versioned.steps in
      let left = length f.body - frame.place in
      let places = places_in l f in
      let end = place_address l f (frame.place + 1) in
      let get = operand_in (frame_of f) 10 x in
      let rest = item.Call symbols.Putchar ∷ [] in
      let items = stretch m l p w typed frame older q.arrays q.input q.output s (Putchar x) a e in
      let at = here m l f s frame.place (Putchar x) (w.functions g f known) a.place e in
      needing_answers m l p s left (linked_system p) q frame older (value_at cells x) (λ v. Goes (frame.place + 1) (store_of q frame) (low_byte v.num ∷ []))
      (λ v ev. works m l p s left _
      (reach_on m s _ _ (value_got m l p w g f older q.arrays q.input q.output cells s 10 x a.holds fits refl refl (front_stands m places s.pc end get rest items))
      (λ t k.
      let items_t = behind m places s.pc end t.pc get rest items k.place in
      let back = behind_call m places t.pc end symbols.Putchar [] items_t in
      let ends : end ≡ t.pc + 8 = omega (arith, back.ends) in
      let calls = subst (λ n. StandsAt m t.pc (call t.pc n)) w.stubs.putchar_named (call_stands m places t.pc end symbols.Putchar [] items_t) in
      let u = called t putchar_address in
      let to_u = call_goes m t putchar_address (omega (arith, ends, at.near)) (omega arith) refl calls in
      let z = putchar_writes m u l.scratch scratch_near scratch_reached (omega (arith, ends, at.near)) (omega (arith, k.place, at.aligned)) w.stubs.putchar in
      let v_state = z.state in
      let stored = z.holds.mem in
      let from : SameFrom l.stack t.mem v_state.mem = λ y b. ap (λ (o : ℕ → ℕ). o y) stored ∙ store_kept 1 t.mem l.scratch (t.reg 10) y (inr (omega (arith, b, w.scratch_below))) in
      let below : SameBelow l.scratch t.mem v_state.mem = λ y b. ap (λ (o : ℕ → ℕ). o y) stored ∙ store_kept 1 t.mem l.scratch (t.reg 10) y (inl b) in
      let byte : t.reg 10 % 2 ^ 8 ≡ low_byte v.num = ap (λ n. n % 2 ^ 8) (k.value v ev) ∙ (low_byte_kept v.num).1 v.ty in
      let out : v_state.output ≡ q.output ++ low_byte v.num ∷ [] =
      z.holds.output ∙ ap (λ (o : List ℕ). o ++ (t.reg 10 % 2 ^ 8) ∷ []) k.holds.written ∙ ap (λ n. q.output ++ n ∷ []) byte in
      record {
        state = v_state;
        leads = leads_twice m t u v_state to_u z.leads;
        holds = record {
          function = f;
          holds = beside g f cells older q.arrays q.input q.output q.input (q.output ++ low_byte v.num ∷ []) t v_state k.holds from below z.holds.stack (z.holds.input ∙ k.holds.input_left) k.holds.input_bytes out;
          place = z.holds.place ∙ sym ends;
          copies = tt;
        };
      })))

  -- the stub of getchar, called at the place of the step
  record AfterRead (f : VersionedFunction) (cells : List (Option Value)) (older : List Frame) (g : ℕ) (arrays : List (List ℤ)) (input output : List ℕ) (end : ℕ) (rest : List Item) (t : State) : Type 0 where
    value : t.reg 10 ≡ form_of (value_of Int (read_byte input))
    holds : Holds l p g f cells older arrays (unread input) output t
    code : Stretch m (places_in l f) t.pc end rest

  reads : (to : Option ℕ) (q : Machine) (frame : Frame) (older : List Frame) (s : State) → (a : AtFrame l p frame older q.arrays q.input q.output s) → slice_get a.function.body frame.place ≡ Some (Getchar to)
      → ComesTo m s (AfterRead a.function frame.components older frame.function q.arrays q.input q.output (place_address l a.function (frame.place + 1)) (plain (assign_in (frame_of a.function) 10 to)))
  reads to q frame older s a e =
      let f = a.function in
      let g = frame.function in
      let cells = frame.components in
      let known = a.holds.newest.known in
      let places = places_in l f in
      let end = place_address l f (frame.place + 1) in
      let rest = plain (assign_in (frame_of f) 10 to) in
      let items = stretch m l p w typed frame older q.arrays q.input q.output s (Getchar to) a e in
      let at = here m l f s frame.place (Getchar to) (w.functions g f known) a.place e in
      let back = behind_call m places s.pc end symbols.Getchar rest items in
      let calls = subst (λ n. StandsAt m s.pc (call s.pc n)) w.stubs.getchar_named (call_stands m places s.pc end symbols.Getchar rest items) in
      let u = called s getchar_address in
      let to_u = call_goes m s getchar_address (omega (arith, back.ends, at.near)) (omega arith) refl calls in
      let z = getchar_reads m u l.scratch scratch_near scratch_reached (omega arith) (omega (arith, back.ends, at.near)) (omega (arith, at.aligned)) w.stubs.getchar in
      let t = z.state in
      let few = taken_few s.input in
      let from : SameFrom l.stack s.mem t.mem = λ y b. ap (λ (o : ℕ → ℕ). o y) z.holds.mem ∙ bytes_kept (take 1 s.input) s.mem l.scratch y (inr (omega (arith, b, w.scratch_below, few))) in
      let below : SameBelow l.scratch s.mem t.mem = λ y b. ap (λ (o : ℕ → ℕ). o y) z.holds.mem ∙ bytes_kept (take 1 s.input) s.mem l.scratch y (inl b) in
      let left : t.input ≡ unread q.input = z.holds.input ∙ unread_is s.input ∙ ap unread a.holds.input_left in
      record {
        state = t;
        leads = leads_twice m s u t to_u z.leads;
        holds = record {
          value = z.holds.value ∙ ap next_byte a.holds.input_left ∙ next_form q.input a.holds.input_bytes;
          holds = beside g f cells older q.arrays q.input q.output (unread q.input) q.output s t a.holds from below z.holds.stack left (unread_bytes q.input a.holds.input_bytes) (z.holds.output ∙ a.holds.written);
          code = subst (λ n. Stretch m places n end rest) (sym z.holds.place) back;
        };
      }

  pub getchar_at : (to : Option ℕ) → RowAt m l p (Getchar to)
  getchar_at None q frame older s a e =
      let f = a.function in
      works m l p s _ _
      (lead_on m s _ _ (reads None q frame older s a e)
      (λ t k. reaches_here m t _ (arrived m l p w typed frame older q.arrays (unread q.input) q.output f frame.components (frame.place + 1) t k.holds (ended t.pc (place_address l f (frame.place + 1)) k.code.ends))))
  getchar_at (Some to) q frame older s a e =
      let f = a.function in
      let g = frame.function in
      let checked = typed.functions g f a.holds.newest.known in
      let fits = all_at (StepFits f) f.body frame.place (Getchar (Some to)) e checked.versioned.steps in
      let type = checked.steps frame.place (Getchar (Some to)) e in
      let r = value_of Int (read_byte q.input) in
      let fit : FitsComponent f to (Some r) = λ v ev. let same = some_same r v ev in (ap (λ (x : Value). x.ty) (sym same) ∙ sym type, subst IsValue same (read_number q.input a.holds.input_bytes)) in
      works m l p s _ _
      (reach_on m s _ _ (reads (Some to) q frame older s a e)
      (λ t k. assigns m l p w typed frame older q.arrays (unread q.input) q.output f frame.components t to 10 (Some r) k.holds fits (λ v ev. k.value ∙ ap form_of (some_same r v ev)) fit refl refl k.code))

  pub exit_at : (x : Operand) → RowAt m l p (Exit x)
  exit_at x q frame older s a e =
      let f = a.function in
      let g = frame.function in
      let cells = frame.components in
      let checked = typed.functions g f a.holds.newest.known in
      let fits = all_at (StepFits f) f.body frame.place (Exit x) e checked.versioned.steps in
      let left = length f.body - frame.place in
      let places = places_in l f in
      let end = place_address l f (frame.place + 1) in
      let get = operand_in (frame_of f) 10 x in
      let rest = item.Plain (Addi 17 0 (pos 93)) ∷ (item.Plain Ecall ∷ []) in
      let items = stretch m l p w typed frame older q.arrays q.input q.output s (Exit x) a e in
      needing_answers m l p s left (linked_system p) q frame older (value_at cells x) (λ v. Exits (low_byte v.num))
      (λ v ev.
      let c = value_got m l p w g f older q.arrays q.input q.output cells s 10 x a.holds fits refl refl (front_stands m places s.pc end get rest items) in
      let t = c.state in
      let k = c.holds in
      let ends = exit_ends m t (behind m places s.pc end t.pc get rest items k.place).stands in
      let byte : t.reg 10 % 2 ^ 8 ≡ low_byte v.num = ap (λ n. n % 2 ^ 8) (k.value v ev) ∙ (low_byte_kept v.num).1 v.ty in
      subst (λ (o : List ℕ). EndsWith m s (low_byte v.num) o) k.holds.written
      (subst (λ n. EndsWith m s n t.output) byte (comes_to_end m s t (t.reg 10 % 2 ^ 8) t.output (comes_of m s t c.leads) ends)))
