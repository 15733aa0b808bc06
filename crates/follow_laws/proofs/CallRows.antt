-- The row of a call: the arguments in the outgoing slots, the jump, and the entry of the function that is called.
use Rattle.std.proofs.Common.{◌≡◌, ℕ, zero, suc, ◌+◌, ◌-◌, ◌*◌, ◌^◌, ◌<◌, ◌≤◌, ℤ, List, [], ◌∷◌, ◌++◌, length, Bool, true, false, Option, Some, None, All, inl, inr, refl, sym, ap, ◌∙◌, subst, arith, append_assoc, append-nil, length-append}
use Rattle.std.specs.Prelude.{slice_get, slice_set, map, replicate, nat_lt, unwrap_or, IsSomeAnd}
use Rattle.std.specs.Option.{option_map, option_map_or}
use Rattle.std.proofs.lemmas.Nat.{mul-le}
use Rattle.std.proofs.lemmas.Option.{slice_get-map, slice_get_within, none-some}
use Rattle.std.proofs.lemmas.List.{length-map}
use Rattle.std.proofs.lemmas.List.Elements.{All-head, All-tail}
use borrow.Author.Tests.{ltb-true}
use Rattle.gimple_ir.specs.Values.{IsValue}
use Rattle.gimple_ir.specs.Programs.{IsOperand}
use Rattle.gimple_ir.specs.declared.types.Operand.{Operand}
use Rattle.gimple_ir.specs.declared.types.Value.{Value}
use Rattle.gimple_ir.specs.declared.lattice.Binding.{Binding}
use Rattle.gimple_ir.specs.declared.lattice.Binding.TheVariants as binding
use Rattle.gimple_ir.specs.declared.versioned.Step.{Step}
use Rattle.gimple_ir.specs.declared.versioned.Step.TheVariants.{Call}
use Rattle.gimple_ir.specs.declared.versioned.VersionedFunction.{VersionedFunction}
use Rattle.gimple_meaning.specs.Acts.{Calls, cell, value_at}
use Rattle.gimple_meaning.specs.Systems.{Frame, Machine, fresh, entered, most_frames}
use Rattle.gimple_meaning.specs.Steps.{Code, bound_by, bound, opened, opened_by}
use Rattle.rv64_meaning.specs.Arithmetic.{bits64}
use Rattle.rv64_meaning.specs.Machine.{Segments, State, load, store}
use Rattle.rv64_meaning.proofs.MemoryLaws.{load_same, load_apart}
use Rattle.rv64_abi.specs.Offsets.{call}
use Rattle.rv64_frame.specs.Frames.{passed_of, outgoing_of, outgoing_slot, component_slot, frame_of, frame_size, return_slot, incoming_in}
use Rattle.rv64_select.specs.declared.item.Symbol.TheVariants as symbols
use Rattle.rv64_select.specs.declared.item.Item.{Item}
use Rattle.rv64_select.specs.declared.item.Item.TheVariants as item
use Rattle.rv64_select.specs.Templates.{constant, load_slot, store_slot, machine_form}
use Rattle.gimple_meaning.specs.Versioned.{type_of, type_of_component}
use Rattle.rv64_select.specs.Assembly.{plain, operand_in, set_in, assign_in, enter_code, binding_items, bindings_items, entry_items, argument_items}
use Rattle.rv64_select.specs.Code.{words_in, steps_code}
use Rattle.rv64_select.proofs.Laying.{words-append, words-plain}
use Rattle.gimple_meaning.specs.Versioned.{ComponentFits, OperandFits, StepFits}
use Rattle.follow_laws.specs.Relation.{StandsAt, ComesTo, Leads}
use Rattle.follow_laws.specs.Effects.{with_register, called}
use Rattle.follow_laws.specs.Follows.{AreBytes}
use Rattle.follow_laws.specs.Frames.{form_of}
use Rattle.follow_laws.specs.Selections.{address_of}
use Rattle.follow_laws.proofs.WayLaws.{reach_on, leads_twice, stands_front}
use Rattle.follow_laws.proofs.TemplateLaws.{constant_sets, load_sets, store_stores, call_goes, enter_makes_frame}
use Rattle.follow_laws.proofs.SelectionLaws.{form_fits}
use Rattle.follow_laws.proofs.FrameLaws.{fresh_held}
use Rattle.gimple_meaning.specs.Linked.{LinkedProgram, linked_code, linked_system, callee_number}
use Rattle.gimple_meaning.specs.Typed.{AreTyped, ArgumentsTyped, ProgramTyped}
use Rattle.follow_laws.specs.Layouts.{Layout, IsPlaced, top, places_in, entry_code, place_address}
use Rattle.follow_laws.specs.Related.{FrameStands, WaitsFor, FramesWait, ArraysHeld, Holds, AtFrame, GoesOn, Answers}
use Rattle.follow_laws.proofs.Lists.{all_at, some_same}
use Rattle.follow_laws.proofs.Memory.{SameFrom, SameBelow, store_kept, waiting_kept, arrays_kept}
use Rattle.follow_laws.proofs.HeldFrames.{Room, waiting_room, waiting_below, waiting_aligned, top_aligned, room_of, reached}
use Rattle.follow_laws.proofs.Places.{here, body_at, entry_stands}
use Rattle.follow_laws.proofs.Operands.{AreBits, FitsComponent, operand_typed, form_lt, holds_on, kept_holds, value_got, value_set}
use Rattle.follow_laws.proofs.Words.{Stretch, front_stands, behind, grouped, call_stands, behind_call, Reaches, reaches_here, reaches_of, reaches_on, lead_on, come_on, ended}
use Rattle.follow_laws.proofs.Answering.{RowAt, works, needing_answers}
use Rattle.follow_laws.proofs.PlainRows.{stretch}

-- ---- lists

-- a call passes no more arguments than the frame has outgoing slots
passes_few : (body : List Step) (place : ℕ) (step : Step) → slice_get body place ≡ Some step → passed_of step ≤ outgoing_of body
passes_few [] place step e = cc
passes_few (s ∷ body) zero step e = let same : s ≡ step = cc in subst (λ (x : Step). passed_of x ≤ outgoing_of (s ∷ body)) same (omega arith)
passes_few (s ∷ body) (suc place) step e = omega (arith, passes_few body place step e)

cell-map : (cells : List (Option Value)) (args : List Operand) (j : ℕ) (v : Value) → cell (map (value_at cells) args) j ≡ Some v → (a : Operand) × (slice_get args j ≡ Some a) × (value_at cells a ≡ Some v)
cell-map cells [] j v e = absurd (none-some v e)
cell-map cells (a ∷ args) zero v e = (a, refl, e)
cell-map cells (a ∷ args) (suc j) v e = cell-map cells args j v e

-- the first component that is unset gets something
set-seam : (front back : List (Option Value)) (o : Option Value) → slice_set (front ++ None ∷ back) (length front) o ≡ (front ++ o ∷ []) ++ back
set-seam [] back o = refl
set-seam (x ∷ front) back o = ap (λ (l : List (Option Value)). x ∷ l) (set-seam front back o)

-- the arguments are in slots from an address on
abbrev pub ArgumentsHeld : (ℕ → ℕ) → ℕ → List (Option Value) → Type 0
ArgumentsHeld mem base args = (j : ℕ) (v : Value) → cell args j ≡ Some v → load 8 mem (base + 8 * j) ≡ form_of v

none_set : (n i : ℕ) (v : Value) → cell (replicate n None) i ≡ Some v → ⊥
none_set zero i v e = absurd cc
none_set (suc n) zero v e = absurd cc
none_set (suc n) (suc i) v e = none_set n i v e

place_zero : (l : Layout) (f : VersionedFunction) → place_address l f 0 ≡ body_at l f
place_zero l f = first (body_at l f) f.body
  where
    first : (at : ℕ) (body : List Step) → address_of (places_in l f) f at body 0 ≡ at
    first at [] = refl
    first at (s ∷ body) = refl

module _ (m : Segments) (l : Layout) (p : LinkedProgram) (w : IsPlaced m l p) (typed : ProgramTyped p) where
  -- ---- passing

  -- one argument is in its outgoing slot, and those before it are as they were
  record PassedOne (g : ℕ) (f : VersionedFunction) (cells : List (Option Value)) (older : List Frame) (arrays : List (List ℤ)) (input output : List ℕ) (base j : ℕ) (a : Operand) (words end : ℕ) (rest : List Item) (s t : State) : Type 0 where
    holds : Holds l p g f cells older arrays input output t
    stack : t.reg 2 ≡ base
    place : t.pc ≡ s.pc + 4 * words
    code : Stretch m (places_in l f) t.pc end rest
    given : AreBits (value_at cells a) (load 8 t.mem (base + 8 * j))
    earlier : (i : ℕ) → i < j → load 8 t.mem (base + 8 * i) ≡ load 8 s.mem (base + 8 * i)

  pass_one : (g : ℕ) (f : VersionedFunction) (cells : List (Option Value)) (older : List Frame) (arrays : List (List ℤ)) (input output : List ℕ) (base j : ℕ) (a : Operand) (end : ℕ) (rest : List Item) (s : State)
      → Holds l p g f cells older arrays input output s → s.reg 2 ≡ base → OperandFits f a → j < outgoing_of f.body
      → Stretch m (places_in l f) s.pc end (plain (operand_in (frame_of f) 5 a) ++ (plain (store_slot 5 (outgoing_slot j)) ++ rest))
      → ComesTo m s (PassedOne g f cells older arrays input output base j a (length (operand_in (frame_of f) 5 a) + length (store_slot 5 (outgoing_slot j))) end rest s)
  pass_one g f cells older arrays input output base j a end rest s h at_base fits few items =
      let places = places_in l f in
      let get = operand_in (frame_of f) 5 a in
      let put = store_slot 5 (outgoing_slot j) in
      reach_on m s _ _ (value_got m l p w g f older arrays input output cells s 5 a h fits refl refl (front_stands m places s.pc end get (plain put ++ rest) items))
      (λ u k.
      let items_u = behind m places s.pc end u.pc get (plain put ++ rest) items k.place in
      let sp : u.reg 2 ≡ base = k.others 2 refl ∙ at_base in
      let room = room_of m l p g f cells older arrays input output u w k.holds in
      let reach = reached m l p f (u.reg 2) (8 * j) w room (omega arith) (omega (arith, room.below, few)) in
      let c = store_stores m u 5 (8 * j) refl reach.near reach.fits reach.can_store (front_stands m places u.pc end put rest items_u) in
      let t = c.state in
      let at = base + 8 * j in
      let bits = u.reg 5 in
      let stored : t.mem ≡ store 8 u.mem at bits = c.holds.mem ∙ ap (λ n. store 8 u.mem (n + 8 * j) bits) sp in
      let from : SameFrom (u.reg 2 + component_slot f 0) u.mem t.mem = λ y b. ap (λ (o : ℕ → ℕ). o y) stored ∙ store_kept 8 u.mem at bits y (inr (omega (arith, b, few, sp))) in
      let below : SameBelow l.scratch u.mem t.mem = λ y b. ap (λ (o : ℕ → ℕ). o y) stored ∙ store_kept 8 u.mem at bits y (inl (omega (arith, b, room.above, w.scratch_below, sp))) in
      let held = kept_holds m l p w g f older arrays input output cells input output u t k.holds from below (c.holds.others 2 refl) (c.holds.input ∙ k.holds.input_left) k.holds.input_bytes (c.holds.output ∙ k.holds.written) in
      lead_here t c.leads (record {
        holds = held;
        stack = c.holds.others 2 refl ∙ sp;
        place = omega (arith, c.holds.place, k.place);
        code = behind m places u.pc end t.pc put rest items_u c.holds.place;
        given = λ v e. ap (λ (o : ℕ → ℕ). load 8 o at) stored ∙ ap (λ n. load 8 (store 8 u.mem at n) at) (k.value v e) ∙ load_same 8 u.mem at (form_of v) (form_lt v);
        earlier = λ i less. ap (λ (o : ℕ → ℕ). load 8 o (base + 8 * i)) stored ∙ load_apart 8 8 u.mem at bits (base + 8 * i) (inl (omega (arith, less))) ∙ ap (λ (o : ℕ → ℕ). load 8 o (base + 8 * i)) k.mem;
      }))
    where
      lead_here : {u : State} {P : State → Type 0} (t : State) → Leads m u t → P t → ComesTo m u P
      lead_here t lead held = record { state = t; leads = lead; holds = held }

  -- the arguments from one on
  record Passed (g : ℕ) (f : VersionedFunction) (cells : List (Option Value)) (older : List Frame) (arrays : List (List ℤ)) (input output : List ℕ) (base j : ℕ) (args : List Operand) (end : ℕ) (rest : List Item) (s t : State) : Type 0 where
    holds : Holds l p g f cells older arrays input output t
    stack : t.reg 2 ≡ base
    place : t.pc ≡ s.pc + 4 * words_in (argument_items (frame_of f) j args)
    code : Stretch m (places_in l f) t.pc end rest
    given : (i : ℕ) (v : Value) → cell (map (value_at cells) args) i ≡ Some v → load 8 t.mem (base + 8 * (j + i)) ≡ form_of v
    earlier : (i : ℕ) → i < j → load 8 t.mem (base + 8 * i) ≡ load 8 s.mem (base + 8 * i)

  pass_run : (g : ℕ) (f : VersionedFunction) (cells : List (Option Value)) (older : List Frame) (arrays : List (List ℤ)) (input output : List ℕ) (base j : ℕ) (args : List Operand) (end : ℕ) (rest : List Item) (s : State)
      → Holds l p g f cells older arrays input output s → s.reg 2 ≡ base → All (OperandFits f) args → j + length args ≤ outgoing_of f.body
      → Stretch m (places_in l f) s.pc end (argument_items (frame_of f) j args ++ rest) → Reaches m s (Passed g f cells older arrays input output base j args end rest s)
  pass_run g f cells older arrays input output base j [] end rest s h at_base fits few items =
      reaches_here m s _ (record { holds = h; stack = at_base; place = omega arith; code = items; given = λ i v e. absurd (none-some v e); earlier = λ i less. refl })
  pass_run g f cells older arrays input output base j (a ∷ args) end rest s h at_base fits few items =
      let places = places_in l f in
      let get = operand_in (frame_of f) 5 a in
      let put = store_slot 5 (outgoing_slot j) in
      let others = argument_items (frame_of f) (j + 1) args in
      let more = others ++ rest in
      let parts = grouped m places s.pc end (plain get) (plain put ++ others) rest items in
      let code = subst (λ x. Stretch m places s.pc end (plain get ++ x)) (append_assoc (plain put) others rest) parts in
      let len : words_in (argument_items (frame_of f) j (a ∷ args)) ≡ length get + (length put + words_in others) =
      words-append (plain get) (plain put ++ others) ∙ omega (arith, words-plain get, words-append (plain put) others, words-plain put) in
      reaches_on m s _ _ (reaches_of m s _ (pass_one g f cells older arrays input output base j a end more s h at_base (All-head (OperandFits f) a args fits) (omega (arith, few)) code))
      (λ u k. reaches_on m u _ _ (pass_run g f cells older arrays input output base (j + 1) args end rest u k.holds k.stack (All-tail (OperandFits f) a args fits) (omega (arith, few)) k.code)
      (λ t r. reaches_here m t _ (record {
        holds = r.holds;
        stack = r.stack;
        place = omega (arith, r.place, k.place, len);
        code = r.code;
        given = given a args j t u k.given r.given (λ i less. r.earlier i less);
        earlier = λ i less. r.earlier i (omega (arith, less)) ∙ k.earlier i less;
      })))
    where
      given : (a : Operand) (args : List Operand) (j : ℕ) (t u : State) → AreBits (value_at cells a) (load 8 u.mem (base + 8 * j))
          → ((i : ℕ) (v : Value) → cell (map (value_at cells) args) i ≡ Some v → load 8 t.mem (base + 8 * (j + 1 + i)) ≡ form_of v) → ((i : ℕ) → i < j + 1 → load 8 t.mem (base + 8 * i) ≡ load 8 u.mem (base + 8 * i))
          → (i : ℕ) (v : Value) → cell (map (value_at cells) (a ∷ args)) i ≡ Some v → load 8 t.mem (base + 8 * (j + i)) ≡ form_of v
      given a args j t u first later earlier zero v e =
          let at : j + 0 ≡ j = omega arith in
          ap (λ n. load 8 t.mem (base + 8 * n)) at ∙ earlier j (omega arith) ∙ first v e
      given a args j t u first later earlier (suc i) v e =
          let at : j + suc i ≡ j + 1 + i = omega arith in
          ap (λ n. load 8 t.mem (base + 8 * n)) at ∙ later i v e

  -- ---- the entry

  -- what is asked of a binding of a component
  pub record BindingFits (f : VersionedFunction) (args : List (Option Value)) (k : ℕ) (b : Binding) : Type 0 where
    pub argument : (i : ℕ) → b ≡ binding.Arg i → (i < length args) × FitsComponent f k (cell args i)
    pub constant_fits : (v : Value) → b ≡ binding.Const v → (v.ty ≡ type_of_component f k) × IsValue v

  -- parameters are bound, and the code behind
  record BoundTo (g : ℕ) (f : VersionedFunction) (cells : List (Option Value)) (older : List Frame) (arrays : List (List ℤ)) (input output : List ℕ) (args : List (Option Value)) (base end : ℕ) (rest : List Item) (t : State) : Type 0 where
    holds : Holds l p g f cells older arrays input output t
    stack : t.reg 2 ≡ base
    given : ArgumentsHeld t.mem (base + frame_size f) args
    code : Stretch m (places_in l f) t.pc end rest

  -- a register into the first component that is unset
  bind_set : (g : ℕ) (f : VersionedFunction) (older : List Frame) (arrays : List (List ℤ)) (input output : List ℕ) (args front back : List (Option Value)) (o : Option Value) (k base end : ℕ) (rest : List Item) (u : State)
      → length front ≡ k → Holds l p g f (front ++ None ∷ back) older arrays input output u → u.reg 2 ≡ base → ArgumentsHeld u.mem (base + frame_size f) args → ComponentFits f k → AreBits o (u.reg 5) → FitsComponent f k o
      → Stretch m (places_in l f) u.pc end (plain (set_in (frame_of f) 5 k) ++ rest)
      → ComesTo m u (BoundTo g f ((front ++ o ∷ []) ++ back) older arrays input output args base end rest)
  bind_set g f older arrays input output args front back o k base end rest u len h sp given inside is fits items =
      let set = set_in (frame_of f) 5 k in
      let places = places_in l f in
      let cells = front ++ None ∷ back in
      let same : slice_set cells k o ≡ (front ++ o ∷ []) ++ back = ap (λ n. slice_set cells n o) (sym len) ∙ set-seam front back o in
      let up = base + frame_size f in
      lead_on m u _ _ (value_set m l p w g f older arrays input output cells u k 5 o h inside is fits refl refl (front_stands m places u.pc end set rest items))
      (λ t c. reaches_here m t _ (record {
        holds = subst (λ (x : List (Option Value)). Holds l p g f x older arrays input output t) same c.holds;
        stack = c.others 2 refl ∙ sp;
        given = λ j v e.
            ap (λ (x : ℕ → ℕ). load 8 x (up + 8 * j)) c.mem.1 ∙ load_apart 8 8 u.mem (u.reg 2 + component_slot f k) c.mem.0 (up + 8 * j) (inr (omega (arith, sp, inside))) ∙ given j v e;
        code = behind m places u.pc end t.pc set rest items c.place;
      }))

  bind_one : (g : ℕ) (f : VersionedFunction) (older : List Frame) (arrays : List (List ℤ)) (input output : List ℕ) (args front back : List (Option Value)) (b : Binding) (k base end : ℕ) (rest : List Item) (t : State)
      → length front ≡ k → Holds l p g f (front ++ None ∷ back) older arrays input output t → t.reg 2 ≡ base → ArgumentsHeld t.mem (base + frame_size f) args → base + frame_size f + 8 * length args ≤ top l → ComponentFits f k
      → BindingFits f args k b → Stretch m (places_in l f) t.pc end (binding_items (frame_of f) k b ++ rest)
      → Reaches m t (BoundTo g f ((front ++ bound_by (Some b) args ∷ []) ++ back) older arrays input output args base end rest)
  bind_one g f older arrays input output args front back binding.Dead k base end rest t len h sp given high inside fits items =
      reaches_here m t _ (record {
        holds = subst (λ (x : List (Option Value)). Holds l p g f x older arrays input output t) (sym (append_assoc front (None ∷ []) back)) h;
        stack = sp;
        given = given;
        code = items;
      })
  bind_one g f older arrays input output args front back (binding.Arg i) k base end rest t len h sp given high inside fits items =
      let places = places_in l f in
      let slot = incoming_in (frame_of f) i in
      let get = load_slot 5 slot in
      let set = plain (set_in (frame_of f) 5 k) in
      let fit = fits.argument i refl in
      let room = room_of m l p g f (front ++ None ∷ back) older arrays input output t w h in
      let reach = reached m l p f (t.reg 2) slot w room (omega arith) (omega (arith, high, sp, fit.0)) in
      let parts = grouped m places t.pc end (plain get) set rest items in
      let bits = load 8 t.mem (t.reg 2 + slot) in
      let u = with_register t 5 bits (length get) in
      let first = load_sets m t 5 slot refl refl reach.near reach.fits reach.can_load (front_stands m places t.pc end get (set ++ rest) parts) in
      let held = holds_on m l p w g f older arrays input output (front ++ None ∷ back) t u h refl refl refl refl in
      let at : t.reg 2 + slot ≡ base + frame_size f + 8 * i = omega (arith, sp) in
      let c = bind_set g f older arrays input output args front back (cell args i) k base end rest u len held sp given inside (λ v e. ap (load 8 t.mem) at ∙ given i v e) fit.1 (behind m places t.pc end u.pc get (set ++ rest) parts refl) in
      reaches_of m t _ (record { state = c.state; leads = leads_twice m t u c.state first c.leads; holds = c.holds })
  bind_one g f older arrays input output args front back (binding.Const v) k base end rest t len h sp given high inside fits items =
      let places = places_in l f in
      let number = machine_form v.ty v.num in
      let get = constant 5 number in
      let set = plain (set_in (frame_of f) 5 k) in
      let fit = fits.constant_fits v refl in
      let parts = grouped m places t.pc end (plain get) set rest items in
      let u = with_register t 5 (bits64 number) (length get) in
      let first = constant_sets m t 5 number (form_fits v.ty v.num) refl (front_stands m places t.pc end get (set ++ rest) parts) in
      let held = holds_on m l p w g f older arrays input output (front ++ None ∷ back) t u h refl refl refl refl in
      let is : AreBits (Some v) (bits64 number) = λ y e. ap form_of (some_same v y e) in
      let kind : FitsComponent f k (Some v) = λ y e. let same = some_same v y e in (ap (λ (z : Value). z.ty) (sym same) ∙ fit.0, subst IsValue same fit.1) in
      let c = bind_set g f older arrays input output args front back (Some v) k base end rest u len held sp given inside is kind (behind m places t.pc end u.pc get (set ++ rest) parts refl) in
      reaches_of m t _ (record { state = c.state; leads = leads_twice m t u c.state first c.leads; holds = c.holds })

  -- the frame is open: each parameter is bound
  record Opened (g : ℕ) (f : VersionedFunction) (cells : List (Option Value)) (older : List Frame) (arrays : List (List ℤ)) (input output : List ℕ) (end : ℕ) (t : State) : Type 0 where
    holds : Holds l p g f cells older arrays input output t
    place : t.pc ≡ end

  bind_run : (g : ℕ) (f : VersionedFunction) (older : List Frame) (arrays : List (List ℤ)) (input output : List ℕ) (args front : List (Option Value)) (bs : List Binding) (k n base end : ℕ) (t : State)
      → length front ≡ k → k + n ≡ length f.types → length bs ≤ n → Holds l p g f (front ++ replicate n None) older arrays input output t → t.reg 2 ≡ base → ArgumentsHeld t.mem (base + frame_size f) args
      → base + frame_size f + 8 * length args ≤ top l → ((i : ℕ) (b : Binding) → slice_get bs i ≡ Some b → BindingFits f args (k + i) b) → Stretch m (places_in l f) t.pc end (bindings_items (frame_of f) k bs)
      → Reaches m t (Opened g f ((front ++ bound bs args) ++ replicate (n - length bs) None) older arrays input output end)
  bind_run g f older arrays input output args front [] k n base end t len size few h sp given high fits items =
      let whole : n - 0 ≡ n = omega arith in
      let same : front ++ replicate n None ≡ (front ++ []) ++ replicate (n - 0) None =
      ap (λ (x : List (Option Value)). x ++ replicate n None) (sym (append-nil front)) ∙ ap (λ j. (front ++ []) ++ replicate j None) (sym whole) in
      reaches_here m t _ (record { holds = subst (λ (x : List (Option Value)). Holds l p g f x older arrays input output t) same h; place = ended t.pc end items.ends })
  bind_run g f older arrays input output args front (b ∷ bs) k zero base end t len size few h sp given high fits items = absurd (omega (arith, few))
  bind_run g f older arrays input output args front (b ∷ bs) k (suc n) base end t len size few h sp given high fits items =
      let o = bound_by (Some b) args in
      let next = front ++ o ∷ [] in
      let rest = bindings_items (frame_of f) (k + 1) bs in
      let longer : length next ≡ k + 1 = length-append front (o ∷ []) ∙ ap (λ j. j + 1) len in
      let first : BindingFits f args k b = subst (λ j. BindingFits f args j b) (omega arith) (fits 0 b refl) in
      let later : (i : ℕ) (c : Binding) → slice_get bs i ≡ Some c → BindingFits f args (k + 1 + i) c = λ i c e. subst (λ j. BindingFits f args j c) (omega arith) (fits (suc i) c e) in
      let same : (next ++ bound bs args) ++ replicate (n - length bs) None ≡ (front ++ o ∷ bound bs args) ++ replicate (suc n - suc (length bs)) None =
      ap (λ (x : List (Option Value)). x ++ replicate (n - length bs) None) (append_assoc front (o ∷ []) (bound bs args)) ∙ ap (λ j. (front ++ o ∷ bound bs args) ++ replicate j None) (omega arith) in
      reaches_on m t _ _ (bind_one g f older arrays input output args front (replicate n None) b k base end rest t len h sp given high (omega (arith, size)) first items)
      (λ u c. reaches_on m u _ _ (bind_run g f older arrays input output args next bs (k + 1) n base end u longer (omega (arith, size)) (omega (arith, few)) c.holds c.stack c.given high later c.code)
      (λ x r. reaches_here m x _ (record { holds = subst (λ (y : List (Option Value)). Holds l p g f y older arrays input output x) same r.holds; place = r.place })))

  -- a frame of the called function, in which nothing is set
  record Entering (g : ℕ) (f : VersionedFunction) (older : List Frame) (arrays : List (List ℤ)) (input output : List ℕ) (u t : State) : Type 0 where
    holds : Holds l p g f (replicate (length f.types) None) older arrays input output t
    stack : t.reg 2 + frame_size f ≡ u.reg 2
    place : t.pc ≡ u.pc + 4 * length (enter_code (frame_size f) (return_slot f))
    mem : (bits : ℕ) × (t.mem ≡ store 8 u.mem (t.reg 2 + return_slot f) bits)

  -- a function is about to be entered: its caller's frames wait, and the return address is in ra
  pub record Ready (g back : ℕ) (frames : List Frame) (arrays : List (List ℤ)) (input output : List ℕ) (u : State) : Type 0 where
    pub waiting : FramesWait l p u.mem g (u.reg 2) back frames
    pub room : length frames < most_frames
    pub return_address : u.reg 1 ≡ back
    pub far : back < 2 ^ 64
    pub arrays_held : ArraysHeld l p u.mem arrays
    pub input_left : u.input ≡ input
    pub input_bytes : AreBytes input
    pub written : u.output ≡ output

  enter_run : (frames : List Frame) (arrays : List (List ℤ)) (input output : List ℕ) (g : ℕ) (fn : VersionedFunction) (back : ℕ) (u : State)
      → Ready g back frames arrays input output u → slice_get p.functions g ≡ Some fn → StandsAt m u.pc (enter_code (frame_size fn) (return_slot fn)) → ComesTo m u (Entering g fn frames arrays input output u)
  enter_run frames arrays input output g fn back u h known code =
      let size = frame_size fn in
      let slot = return_slot fn in
      let up = u.reg 2 in
      let base = up - size in
      let high = waiting_room m l p u.mem g up back frames w h.waiting in
      let few = mul-le (suc (length frames)) l.frame 4096 l.frame h.room (omega arith) in
      let step : suc (length frames) * l.frame ≡ l.frame + length frames * l.frame = omega arith in
      let largest = (w.functions g fn known).size in
      let below = waiting_below l p u.mem g up back frames h.waiting in
      let aligned = waiting_aligned l p u.mem g up back frames (top_aligned m l p w) h.waiting in
      let room : Room l fn base = record { above = omega (arith, high, few, step, largest); below = omega (arith, below, high, few, step, largest); aligned = omega (arith, aligned, high, few, step, largest) } in
      let small : size ≤ up = omega (arith, high, few, step, largest) in
      let joined : base + size ≡ up = omega (arith, small) in
      let reach = reached m l p fn base slot w room (omega arith) (omega (arith, room.below)) in
      let c = enter_makes_frame m u size slot (omega (arith, below, w.near)) small reach.near reach.can_store code in
      let t = c.state in
      let k = c.holds in
      let at = base + slot in
      let stored : t.mem ≡ store 8 u.mem at back = k.mem ∙ ap (store 8 u.mem at) h.return_address in
      let saved : load 8 t.mem at ≡ back = ap (λ (x : ℕ → ℕ). load 8 x at) stored ∙ load_same 8 u.mem at back h.far in
      let newest : FrameStands p t.mem base back g fn (replicate (length fn.types) None) = record {
        known = known;
        held = fresh_held fn t.mem base back saved;
        typed = λ i v e. absurd (none_set (length fn.types) i v e);
      } in
      let from : SameFrom up u.mem t.mem = λ y b. ap (λ (x : ℕ → ℕ). x y) stored ∙ store_kept 8 u.mem at back y (inr (omega (arith, b, joined))) in
      let low : SameBelow l.scratch u.mem t.mem = λ y b. ap (λ (x : ℕ → ℕ). x y) stored ∙ store_kept 8 u.mem at back y (inl (omega (arith, b, room.above, w.scratch_below))) in
      let rest = waiting_kept l p u.mem t.mem g up back frames from h.waiting in
      let sp : base ≡ t.reg 2 = sym k.stack in
      record {
        state = t;
        leads = c.leads;
        holds = record {
          holds = record {
            back = back;
            newest = subst (λ n. FrameStands p t.mem n back g fn (replicate (length fn.types) None)) sp newest;
            waiting = subst (λ n. FramesWait l p t.mem g n back frames) (omega (arith, joined, sp)) rest;
            depth = h.room;
            arrays_held = λ n i a z array kept there. arrays_kept m l p u.mem t.mem arrays w low h.arrays_held n i a z array kept there;
            input_left = k.input ∙ h.input_left;
            input_bytes = h.input_bytes;
            written = k.output ∙ h.written;
          };
          stack = omega (arith, joined, sp);
          place = k.place;
          mem = (back, stored ∙ ap (λ n. store 8 u.mem (n + slot) back) sp);
        };
      }

  -- the whole entry of a function
  pub entry_run : (frames : List Frame) (arrays : List (List ℤ)) (input output : List ℕ) (g : ℕ) (fn : VersionedFunction) (back : ℕ) (args : List (Option Value)) (u : State)
      → Ready g back frames arrays input output u → slice_get p.functions g ≡ Some fn → u.pc ≡ l.address fn.symbol → ArgumentsHeld u.mem (u.reg 2) args → u.reg 2 + 8 * length args ≤ top l
      → ((i : ℕ) (b : Binding) → slice_get fn.bindings i ≡ Some b → BindingFits fn args (0 + i) b)
      → ComesTo m u (AtFrame l p (fresh g (opened (linked_code p fn) args)) frames arrays input output)
  entry_run frames arrays input output g fn back args u h known at given high fits =
      let placed = w.functions g fn known in
      let places = places_in l fn in
      let end = body_at l fn in
      let enter = enter_code (frame_size fn) (return_slot fn) in
      let rest = bindings_items (frame_of fn) 0 fn.bindings in
      let stands = stands_front m (l.address fn.symbol) (entry_code l fn) (steps_code places fn end fn.body) (entry_stands m l fn placed) in
      let first : Stretch m places (l.address fn.symbol) end (entry_items (frame_of fn) fn.bindings) = record { stands = stands; ends = refl } in
      let items = subst (λ n. Stretch m places n end (plain enter ++ rest)) (sym at) first in
      let params = (typed.functions g fn known).parameters in
      lead_on m u _ _ (enter_run frames arrays input output g fn back u h known (front_stands m places u.pc end enter rest items))
      (λ t k.
      let up : t.reg 2 + frame_size fn ≡ u.reg 2 = k.stack in
      let slot = t.reg 2 + return_slot fn in
      let given_t : ArgumentsHeld t.mem (t.reg 2 + frame_size fn) args = λ j v e.
      ap (λ (x : ℕ → ℕ). load 8 x (t.reg 2 + frame_size fn + 8 * j)) k.mem.1 ∙ load_apart 8 8 u.mem slot k.mem.0 (t.reg 2 + frame_size fn + 8 * j) (inr (omega arith)) ∙ ap (λ n. load 8 u.mem (n + 8 * j)) up ∙ given j v e in
      reaches_on m t _ _ (bind_run g fn frames arrays input output args [] fn.bindings 0 (length fn.types) (t.reg 2) end t refl (omega arith) params k.holds refl given_t (omega (arith, high, up)) fits (behind m places u.pc end t.pc enter rest items k.place))
      (λ x r. reaches_here m x _ (record { function = fn; holds = r.holds; place = r.place ∙ sym (place_zero l fn); copies = tt })))

  -- ---- the row

  -- what becomes of a call: nothing is asked where it is undefined
  entered_answers : (b : Bool) (o : Option VersionedFunction) (q : Machine) (frame : Frame) (older : List Frame) (g : ℕ) (args : List (Option Value)) (s : State) (left : ℕ) → nat_lt (length (frame ∷ older)) most_frames ≡ b → slice_get p.functions g ≡ o
      → ((fn : VersionedFunction) → slice_get p.functions g ≡ Some fn → length (frame ∷ older) < most_frames → GoesOn m l p s left (record q { frames = fresh g (opened (linked_code p fn) args) ∷ frame ∷ older }))
      → Answers m l p s left (entered q frame older g b (opened_by (option_map (linked_code p) o) args))
  entered_answers true (Some fn) q frame older g args s left room known h = h fn known (ltb-true (length (frame ∷ older)) most_frames room)
  entered_answers true None q frame older g args s left room known h = tt
  entered_answers false o q frame older g args s left room known h = tt

  named : (o : Option (List ℕ)) (g : ℕ) → option_map p.function_named o ≡ Some g → (symbol : List ℕ) × (o ≡ Some symbol) × (p.function_named symbol ≡ g)
  named None g e = absurd (none-some g e)
  named (Some symbol) g e = (symbol, refl, some_same (p.function_named symbol) g e)

  some_and : (P : Operand → Type 0) (o : Option Operand) → IsSomeAnd o P → (a : Operand) × (o ≡ Some a) × P a
  some_and P None h = absurd h
  some_and P (Some a) h = (a, refl, h)

  -- what the called function asks of its arguments
  bindings_fit : (g : ℕ) (f fn : VersionedFunction) (cells : List (Option Value)) (args : List Operand) → slice_get p.functions g ≡ Some fn → AreTyped f cells → All IsOperand args → ArgumentsTyped f fn args
      → (i : ℕ) (b : Binding) → slice_get fn.bindings i ≡ Some b → BindingFits fn (map (value_at cells) args) (0 + i) b
  bindings_fit g f fn cells args known cells_typed numbers types i b at =
      let same : i ≡ 0 + i = omega arith in
      subst (λ n. BindingFits fn (map (value_at cells) args) n b) same (record {
        argument = λ k is.
            let found = some_and (λ a. type_of f a ≡ type_of_component fn i) (slice_get args k) (types i k (at ∙ ap Some is)) in
            let a = found.0 in
            let inside = slice_get_within args k a found.1 in (
              omega (arith, inside, length-map args (value_at cells)),
              λ v e.
                  let c = cell-map cells args k v e in
                  let kind = operand_typed f cells c.0 v cells_typed c.2 (all_at IsOperand args k c.0 c.1 numbers) in
                  let which : c.0 ≡ a = some_same c.0 a (sym c.1 ∙ found.1) in
                  (kind.0 ∙ ap (type_of f) which ∙ found.2, kind.1),
            );
        constant_fits = λ v is. (typed.functions g fn known).constants i v (at ∙ ap Some is);
      })

  pub call_at : (to : Option ℕ) (call_number : ℕ) (args : List Operand) → RowAt m l p (Call to call_number args)
  call_at to call_number args q frame older s a e =
      let f = a.function in
      let cells = frame.components in
      let form = Call to call_number args in
      let known = a.holds.newest.known in
      let checked = typed.functions frame.function f known in
      let fits = all_at (StepFits f) f.body frame.place form e checked.versioned.steps in
      let types = checked.steps frame.place form e in
      let left = length f.body - frame.place in
      let places = places_in l f in
      let end = place_address l f (frame.place + 1) in
      let passing = argument_items (frame_of f) 0 args in
      let target = symbols.Target call_number in
      let rest = item.Call target ∷ plain (assign_in (frame_of f) 10 to) in
      let items = stretch m l p w typed frame older q.arrays q.input q.output s form a e in
      let at = here m l f s frame.place form (w.functions frame.function f known) a.place e in
      let few = passes_few f.body frame.place form e in
      let values = map (value_at cells) args in
      let room = room_of m l p frame.function f cells older q.arrays q.input q.output s w a.holds in
      needing_answers m l p s left (linked_system p) q frame older (slice_get (map p.function_named f.calls) call_number) (λ g. Calls g values)
      (λ g eg.
      let name = named (slice_get f.calls call_number) g (sym (slice_get-map p.function_named f.calls call_number) ∙ eg) in
      let symbol = name.0 in
      let number : callee_number p f call_number ≡ g = ap (λ (o : Option (List ℕ)). option_map_or p.function_named o (length p.functions)) name.1 ∙ name.2 in
      let enters = slice_get-map (linked_code p) p.functions g in
      subst (λ (o : Option Code). Answers m l p s left (entered q frame older g (nat_lt (length (frame ∷ older)) most_frames) (opened_by o values))) (sym enters)
      (entered_answers (nat_lt (length (frame ∷ older)) most_frames) (slice_get p.functions g) q frame older g values s left refl refl
      (λ fn known_fn deep. works m l p s left _
      (come_on m s _ _ (pass_run frame.function f cells older q.arrays q.input q.output (s.reg 2) 0 args end rest s a.holds refl fits.2 (omega (arith, few)) items)
      (λ t k.
      let placed = w.functions g fn known_fn in
      let address = l.address fn.symbol in
      let there : places.symbol target ≡ address =
      ap (λ (o : Option (List ℕ)). l.address (unwrap_or o [])) name.1 ∙ w.calls frame.function call_number f fn symbol known name.1 (ap (slice_get p.functions) name.2 ∙ known_fn) in
      let calls = subst (λ n. StandsAt m t.pc (call t.pc n)) there (call_stands m places t.pc end target (plain (assign_in (frame_of f) 10 to)) k.code) in
      let after = behind_call m places t.pc end target (plain (assign_in (frame_of f) 10 to)) k.code in
      let u = called t address in
      let to_u = call_goes m t address (omega (arith, after.ends, at.near)) (omega (arith, placed.near)) (omega (arith, placed.aligned)) calls in
      let held = holds_on m l p w frame.function f older q.arrays q.input q.output cells t u k.holds refl refl refl refl in
      let waits : WaitsFor l p frame f g (t.pc + 8) = record { to = to; call = call_number; args = args; step = e; target = number; return_address = omega (arith, k.place, a.place) } in
      let given : ArgumentsHeld u.mem (u.reg 2) values = λ j v ev.
      let first : j ≡ 0 + j = omega arith in
      ap (λ n. load 8 t.mem (n + 8 * j)) k.stack ∙ ap (λ n. load 8 t.mem (s.reg 2 + 8 * n)) first ∙ k.given j v ev in
      let ready : Ready g (t.pc + 8) (frame ∷ older) q.arrays q.input q.output u = record {
        waiting = (f, held.back, held.newest, waits, held.waiting);
        room = deep;
        return_address = refl;
        far = omega (arith, after.ends, at.near);
        arrays_held = held.arrays_held;
        input_left = held.input_left;
        input_bytes = held.input_bytes;
        written = held.written;
      } in
      let c = entry_run (frame ∷ older) q.arrays q.input q.output g fn (t.pc + 8) values u ready known_fn refl given
      (omega (arith, k.stack, room.below, few, length-map args (value_at cells)))
      (bindings_fit g f fn cells args known_fn a.holds.newest.typed types.0 (types.2 fn (ap (slice_get p.functions) number ∙ known_fn))) in
      record { state = c.state; leads = leads_twice m t u c.state to_u c.leads; holds = c.holds })))))
