-- Rows of steps that move within a function: those without words, jumps, and copies of components.
use Rattle.std.proofs.Common.{◌≡◌, ℕ, suc, ◌+◌, ◌-◌, ◌^◌, ◌<◌, ℤ, pos, negsuc, ◌-ℤ◌, List, [], ◌∷◌, ◌++◌, length, Option, Some, All, inl, inr, refl, sym, ap, ◌∙◌, subst, arith, append-nil}
use Rattle.std.specs.Prelude.{slice_get, slice_set}
use Rattle.std.specs.List.{flat_map}
use Rattle.std.proofs.lemmas.Bool.{cases_lt}
use Rattle.std.proofs.lemmas.Int.{ints}
use Rattle.std.proofs.lemmas.List.Elements.{All-head, All-tail}
use Rattle.std.proofs.lemmas.Option.{slice_get_within}
use Rattle.gimple_ir.specs.Programs.{IsOperand}
use Rattle.gimple_ir.specs.declared.types.Value.{Value}
use Rattle.gimple_ir.specs.declared.versioned.Pair.{Pair}
use Rattle.gimple_ir.specs.declared.versioned.Step.{Step}
use Rattle.gimple_ir.specs.declared.versioned.Step.TheVariants.{Nop, Label, Goto, Copies}
use Rattle.gimple_ir.specs.declared.versioned.VersionedFunction.{VersionedFunction}
use Rattle.gimple_meaning.specs.Acts.{Goes, value_at, copied}
use Rattle.gimple_meaning.specs.Systems.{Frame, Machine, moved, applied, store_of}
use Rattle.gimple_meaning.specs.Steps.{place_of}
use Rattle.rv64_isa.specs.declared.instr.Instr.TheVariants.{Jal}
use Rattle.rv64_meaning.specs.Arithmetic.{plus}
use Rattle.rv64_meaning.specs.Machine.{Segments, State, Go, fetch, put, goto}
use Rattle.rv64_frame.specs.Frames.{frame_of}
use Rattle.rv64_select.specs.declared.item.Item.{Item}
use Rattle.gimple_meaning.specs.Versioned.{type_of, type_of_component}
use Rattle.rv64_select.specs.Assembly.{plain, operand_in, set_in, pair_items, step_items}
use Rattle.rv64_select.specs.Code.{step_code}
use Rattle.gimple_meaning.specs.Versioned.{ComponentFits, OperandFits, LabelFits, StepFits}
use Rattle.follow_laws.specs.Relation.{ComesTo}
use Rattle.follow_laws.proofs.WayLaws.{one, reach_on}
use Rattle.gimple_meaning.specs.Linked.{LinkedProgram, linked_code, linked_system}
use Rattle.gimple_meaning.specs.Typed.{ProgramTyped}
use Rattle.follow_laws.specs.Layouts.{Layout, IsPlaced, places_in, place_address}
use Rattle.follow_laws.specs.Related.{Holds, AtFrame, Answers}
use Rattle.follow_laws.proofs.Lists.{all_at}
use Rattle.follow_laws.proofs.Places.{here, place_near, label_lands, place_linked}
use Rattle.follow_laws.proofs.Operands.{operand_typed, holds_on, value_got, value_set, FitsComponent}
use Rattle.follow_laws.proofs.Words.{Stretch, front_stands, behind, grouped, Reaches, reaches_here, reaches_of, reaches_on, lead_on, ended}
use Rattle.follow_laws.proofs.Answering.{RowAt, works, rests}

-- a jump lands at its target
jump_reaches : (from to : ℕ) → from < 2 ^ 30 → to < 2 ^ 30 → plus from (pos to -ℤ pos from) ≡ to
jump_reaches from to h k =
    elim (cases_lt to from) [
      | inl less ↦ let d : pos to -ℤ pos from ≡ negsuc (from - suc to) = omega (arith, ints) in ap (plus from) d ∙ omega arith
      | inr more ↦ let d : pos to -ℤ pos from ≡ pos (to - from) = omega (arith, ints) in ap (plus from) d ∙ omega arith
    ]

module _ (m : Segments) (l : Layout) (p : LinkedProgram) (w : IsPlaced m l p) (typed : ProgramTyped p) where
  -- the code of the step at the newest frame's place
  pub stretch : (frame : Frame) (older : List Frame) (arrays : List (List ℤ)) (input output : List ℕ) (s : State) (form : Step) → (a : AtFrame l p frame older arrays input output s)
      → slice_get a.function.body frame.place ≡ Some form → Stretch m (places_in l a.function) s.pc (place_address l a.function (frame.place + 1)) (step_items (frame_of a.function) a.function form)
  stretch frame older arrays input output s form a e =
      let h = here m l a.function s frame.place form (w.functions frame.function a.function a.holds.newest.known) a.place e in
      record { stands = h.code; ends = h.next }

  -- the frame at another place
  pub arrived : (frame : Frame) (older : List Frame) (arrays : List (List ℤ)) (input output : List ℕ) (f : VersionedFunction) (cells : List (Option Value)) (place : ℕ) (t : State)
      → Holds l p frame.function f cells older arrays input output t → t.pc ≡ place_address l f place → AtFrame l p (moved frame place cells) older arrays input (output ++ []) t
  arrived frame older arrays input output f cells place t h at = record {
    function = f;
    holds = subst (λ (o : List ℕ). Holds l p frame.function f cells older arrays input o t) (sym (append-nil output)) h;
    place = at;
    copies = tt;
  }

  -- ---- steps without words

  resting : (q : Machine) (frame : Frame) (older : List Frame) (s : State) (form : Step) → (a : AtFrame l p frame older q.arrays q.input q.output s) → slice_get a.function.body frame.place ≡ Some form
      → step_code (places_in l a.function) a.function s.pc form ≡ []
      → Answers m l p s (length a.function.body - frame.place) (applied (linked_system p) q frame older (Goes (frame.place + 1) (store_of q frame) []))
  resting q frame older s form a e none =
      let f = a.function in
      let h = stretch frame older q.arrays q.input q.output s form a e in
      let at : s.pc ≡ place_address l f (frame.place + 1) = omega (arith, h.ends, ap length none) in
      rests m l p s f frame.function frame.place (moved frame (frame.place + 1) frame.components) _ older refl a.holds.newest.known (slice_get_within f.body frame.place form e) refl
      (arrived frame older q.arrays q.input q.output f frame.components (frame.place + 1) s a.holds at)

  pub nop_at : RowAt m l p Nop
  nop_at q frame older s a e = resting q frame older s Nop a e refl

  pub label_at : (label : ℕ) → RowAt m l p (Label label)
  label_at label q frame older s a e = resting q frame older s (Label label) a e refl

  -- ---- jumps

  -- a jump to a label, from a state that holds the frames
  pub jumps : (frame : Frame) (older : List Frame) (arrays : List (List ℤ)) (input output : List ℕ) (f : VersionedFunction) (cells : List (Option Value)) (label : ℕ) (u : State)
      → Holds l p frame.function f cells older arrays input output u → LabelFits f label → u.pc < 2 ^ 30 → fetch m u.pc ≡ Some (Jal 0 (pos ((places_in l f).label label) -ℤ pos u.pc))
      → ComesTo m u (AtFrame l p (moved frame (place_of (linked_code p f).body label) cells) older arrays input (output ++ []))
  jumps frame older arrays input output f cells label u h fits near code =
      let placed = w.functions frame.function f h.newest.known in
      let checked = typed.functions frame.function f h.newest.known in
      let place = place_of f.body label in
      let target = (places_in l f).label label in
      let lands = label_lands l f label (checked.labels label fits) in
      let far = place_near m l f place placed in
      let same = ap (place_address l f) (place_linked p f f.body label) in
      let t = goto (put u 0 (u.pc + 4)) target in
      record {
        state = t;
        leads = one m u t (Jal 0 (pos target -ℤ pos u.pc)) code (ap (λ a. Go (goto (put u 0 (u.pc + 4)) a)) (jump_reaches u.pc target near (omega (arith, lands, far))));
        holds = arrived frame older arrays input output f cells (place_of (linked_code p f).body label) t (holds_on m l p w frame.function f older arrays input output cells u t h refl refl refl refl) (lands ∙ sym same);
      }

  pub goto_at : (label : ℕ) → RowAt m l p (Goto label)
  goto_at label q frame older s a e =
      let f = a.function in
      let known = a.holds.newest.known in
      let h = stretch frame older q.arrays q.input q.output s (Goto label) a e in
      let near = place_near m l f frame.place (w.functions frame.function f known) in
      let fits = all_at (StepFits f) f.body frame.place (Goto label) e (typed.functions frame.function f known).versioned.steps in
      works m l p s _ _ (jumps frame older q.arrays q.input q.output f frame.components label s a.holds fits (omega (arith, near, a.place)) h.stands.0)

  -- ---- copies

  -- what is copied, and the code behind
  record CopiedTo (g : ℕ) (f : VersionedFunction) (older : List Frame) (arrays : List (List ℤ)) (input output : List ℕ) (cells : List (Option Value)) (end : ℕ) (rest : List Item) (t : State) : Type 0 where
    holds : Holds l p g f cells older arrays input output t
    stretch : Stretch m (places_in l f) t.pc end rest

  -- one pair
  pair_runs : (g : ℕ) (f : VersionedFunction) (older : List Frame) (arrays : List (List ℤ)) (input output : List ℕ) (cells : List (Option Value)) (end : ℕ) (c : Pair) (rest : List Item) (s : State)
      → Holds l p g f cells older arrays input output s → ComponentFits f c.to → OperandFits f c.from → IsOperand c.from → type_of f c.from ≡ type_of_component f c.to
      → Stretch m (places_in l f) s.pc end (pair_items (frame_of f) c ++ rest)
      → ComesTo m s (CopiedTo g f older arrays input output (slice_set cells c.to (value_at cells c.from)) end rest)
  pair_runs g f older arrays input output cells end c rest s h to_fits from_fits number same code =
      let places = places_in l f in
      let get = operand_in (frame_of f) 5 c.from in
      let set = set_in (frame_of f) 5 c.to in
      let parts = grouped m places s.pc end (plain get) (plain set) rest code in
      let o = value_at cells c.from in
      let fits : FitsComponent f c.to o = λ v e. let k = operand_typed f cells c.from v h.newest.typed e number in (k.0 ∙ same, k.1) in
      reach_on m s _ _ (value_got m l p w g f older arrays input output cells s 5 c.from h from_fits refl refl (front_stands m places s.pc end get (plain set ++ rest) parts))
      (λ u k.
      let code_u = behind m places s.pc end u.pc get (plain set ++ rest) parts k.place in
      lead_on m u _ _ (value_set m l p w g f older arrays input output cells u c.to 5 o k.holds to_fits k.value fits refl refl (front_stands m places u.pc end set rest code_u))
      (λ t j. reaches_here m t _ (record { holds = j.holds; stretch = behind m places u.pc end t.pc set rest code_u j.place })))

  copies_run : (g : ℕ) (f : VersionedFunction) (older : List Frame) (arrays : List (List ℤ)) (input output : List ℕ) (cells : List (Option Value)) (end : ℕ) (cs : List Pair) (s : State)
      → Holds l p g f cells older arrays input output s → All (λ c. ComponentFits f c.to × OperandFits f c.from) cs → All (λ c. IsOperand c.from × (type_of f c.from ≡ type_of_component f c.to)) cs
      → Stretch m (places_in l f) s.pc end (flat_map (pair_items (frame_of f)) cs)
      → Reaches m s (CopiedTo g f older arrays input output (copied cells cs) end [])
  copies_run g f older arrays input output cells end [] s h fit types code = reaches_here m s _ (record { holds = h; stretch = code })
  copies_run g f older arrays input output cells end (c ∷ cs) s h fit types code =
      let first = All-head (λ c. ComponentFits f c.to × OperandFits f c.from) c cs fit in
      let kind = All-head (λ c. IsOperand c.from × (type_of f c.from ≡ type_of_component f c.to)) c cs types in
      let rest = flat_map (pair_items (frame_of f)) cs in
      reaches_on m s _ _ (reaches_of m s _ (pair_runs g f older arrays input output cells end c rest s h first.0 first.1 kind.0 kind.1 code))
      (λ t j. copies_run g f older arrays input output (slice_set cells c.to (value_at cells c.from)) end cs t j.holds
      (All-tail (λ c. ComponentFits f c.to × OperandFits f c.from) c cs fit) (All-tail (λ c. IsOperand c.from × (type_of f c.from ≡ type_of_component f c.to)) c cs types) j.stretch)

  pub copies_at : (pairs : List Pair) → RowAt m l p (Copies pairs)
  copies_at [] q frame older s a e = resting q frame older s (Copies []) a e refl
  copies_at (c ∷ cs) q frame older s a e =
      let f = a.function in
      let g = frame.function in
      let known = a.holds.newest.known in
      let cells = frame.components in
      let place = place_address l f (frame.place + 1) in
      let checked = typed.functions g f known in
      let fit = all_at (StepFits f) f.body frame.place (Copies (c ∷ cs)) e checked.versioned.steps in
      let types = checked.steps frame.place (Copies (c ∷ cs)) e in
      let first = All-head (λ c. ComponentFits f c.to × OperandFits f c.from) c cs fit in
      let kind = All-head (λ c. IsOperand c.from × (type_of f c.from ≡ type_of_component f c.to)) c cs types in
      let rest = flat_map (pair_items (frame_of f)) cs in
      works m l p s _ _
      (lead_on m s _ _ (pair_runs g f older q.arrays q.input q.output cells place c rest s a.holds first.0 first.1 kind.0 kind.1 (stretch frame older q.arrays q.input q.output s (Copies (c ∷ cs)) a e))
      (λ t j. reaches_on m t _ _ (copies_run g f older q.arrays q.input q.output (slice_set cells c.to (value_at cells c.from)) place cs t j.holds
      (All-tail (λ c. ComponentFits f c.to × OperandFits f c.from) c cs fit) (All-tail (λ c. IsOperand c.from × (type_of f c.from ≡ type_of_component f c.to)) c cs types) j.stretch)
      (λ u k. reaches_here m u _ (arrived frame older q.arrays q.input q.output f (copied cells (c ∷ cs)) (frame.place + 1) u k.holds (ended u.pc place k.stretch.ends)))))
