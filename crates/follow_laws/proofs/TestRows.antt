-- Rows of steps that test a value and jump: conditions and switches.
use Rattle.std.proofs.Common.{◌≡◌, ℕ, ◌+◌, ◌-◌, ◌*◌, ◌^◌, ◌<◌, ℤ, pos, List, [], ◌∷◌, ◌++◌, length, Bool, true, false, cond, Option, Some, All, refl, sym, ap, ◌∙◌, subst, arith}
use Rattle.std.specs.Prelude.{not, find, ◌==◌, if◌then◌else◌}
use Rattle.std.specs.List.{flat_map}
use Rattle.std.specs.Option.{option_map_or}
use Rattle.std.specs.Ordering.{int_eq}
use Rattle.std.proofs.lemmas.List.Elements.{All-head, All-tail}
use Rattle.gimple_ir.specs.Values.{IsValue, binary_of}
use Rattle.gimple_ir.specs.Statements.{is_comparison}
use Rattle.gimple_ir.specs.declared.types.BinaryOp.{BinaryOp}
use Rattle.gimple_ir.specs.declared.types.Case.{Case}
use Rattle.gimple_ir.specs.declared.types.Operand.{Operand}
use Rattle.gimple_ir.specs.declared.types.Value.{Value}
use Rattle.gimple_ir.specs.declared.versioned.Step.TheVariants.{Cond, Switch}
use Rattle.gimple_ir.specs.declared.versioned.VersionedFunction.{VersionedFunction}
use Rattle.gimple_meaning.specs.Acts.{Goes, needing, value_at, operation_of, case_label}
use Rattle.gimple_meaning.specs.Systems.{Frame, moved, store_of}
use Rattle.gimple_meaning.specs.Steps.{place_of}
use Rattle.rv64_isa.specs.declared.instr.Instr.{Instr}
use Rattle.rv64_isa.specs.declared.instr.Instr.TheVariants.{Bne}
use Rattle.rv64_meaning.specs.Arithmetic.{plus, bits64}
use Rattle.rv64_meaning.specs.Machine.{Segments, State, Go, effect, goto, branch}
use Rattle.rv64_frame.specs.Frames.{frame_of}
use Rattle.rv64_select.specs.declared.item.Item.{Item}
use Rattle.rv64_select.specs.declared.item.Item.TheVariants as item
use Rattle.rv64_select.specs.Operations as selected
use Rattle.rv64_select.specs.Templates.{constant, machine_form}
use Rattle.gimple_meaning.specs.Versioned.{type_of}
use Rattle.rv64_select.specs.Assembly.{plain, operand_in, case_items}
use Rattle.gimple_meaning.specs.Versioned.{LabelFits, StepFits}
use Rattle.follow_laws.specs.Relation.{StandsAt, ComesTo}
use Rattle.follow_laws.specs.Effects.{with_register}
use Rattle.follow_laws.specs.Frames.{form_of}
use Rattle.follow_laws.proofs.WayLaws.{one, leads_twice, reach_on}
use Rattle.follow_laws.proofs.TemplateLaws.{constant_sets}
use Rattle.follow_laws.proofs.SelectionLaws.{form_fits}
use Rattle.gimple_meaning.specs.Linked.{LinkedProgram, linked_code, linked_system}
use Rattle.gimple_meaning.specs.Typed.{ProgramTyped}
use Rattle.follow_laws.specs.Layouts.{Layout, IsPlaced, places_in, place_address}
use Rattle.follow_laws.specs.Related.{Holds, AtFrame}
use Rattle.follow_laws.proofs.Lists.{all_at}
use Rattle.follow_laws.proofs.Places.{place_near}
use Rattle.follow_laws.proofs.Operands.{operand_typed, holds_on, value_got}
use Rattle.follow_laws.proofs.Words.{Stretch, front_stands, behind, grouped, jump_stands, behind_jump}
use Rattle.follow_laws.proofs.Answering.{RowAt, works, needing_answers}
use Rattle.follow_laws.proofs.Types.{operation_is}
use Rattle.follow_laws.proofs.PlainRows.{stretch, jumps}
use Rattle.follow_laws.proofs.ValueRows.{both_got}

-- whether the value of a test is not 0
abbrev pub is_met : Value → Bool
is_met r = if int_eq r.num (pos 0) then false else true

-- The instruction of a comparison goes to the second word behind it where the comparison holds.
pub record Branches (code : List Instr) (a b : ℕ) (met : Bool) : Type 0 where
  pub instruction : Instr
  pub alone : code ≡ instruction ∷ []
  pub goes : (m : Segments) (s : State) → s.reg 5 ≡ a → s.reg 6 ≡ b → effect m instruction s ≡ branch s met (plus s.pc (pos 8))

abbrev pub ComparisonBranches : BinaryOp → Type 0
ComparisonBranches op =
    (v u r : Value) → IsValue v → IsValue u → v.ty ≡ u.ty → binary_of op v u ≡ Some r → Branches (selected.branch op v.ty) (form_of v) (form_of u) (is_met r)

-- equal numbers of one type have equal bits, and no others
abbrev pub SameForms : Type 0
SameForms = (v u : Value) → IsValue v → IsValue u → v.ty ≡ u.ty → (form_of v == form_of u) ≡ int_eq u.num v.num

-- a branch over one word
hop : (n : ℕ) → n < 2 ^ 30 → plus n (pos 8) ≡ n + 8
hop n h = omega arith

module _ (m : Segments) (l : Layout) (p : LinkedProgram) (w : IsPlaced m l p) (typed : ProgramTyped p) (frame : Frame) (older : List Frame) (arrays : List (List ℤ)) (input output : List ℕ) (f : VersionedFunction) where
  -- the machine is at the step of a label
  abbrev AtLabel : List (Option Value) → ℕ → State → Type 0
  AtLabel cells label t = AtFrame l p (moved frame (place_of (linked_code p f).body label) cells) older arrays input (output ++ []) t

  -- a branch that is taken to the second jump where the value is not 0
  chosen : (zero : Bool) (cells : List (Option Value)) (t : State) (end met missed : ℕ) (code : List Instr) (i : Instr) → Holds l p frame.function f cells older arrays input output t → code ≡ i ∷ []
      → Stretch m (places_in l f) t.pc end (plain code ++ (item.Jump missed ∷ (item.Jump met ∷ []))) → end < 2 ^ 30 → LabelFits f met → LabelFits f missed
      → effect m i t ≡ branch t (cond zero false true) (plus t.pc (pos 8)) → ComesTo m t (AtLabel cells (cond zero missed met))
  chosen true cells t end met missed code i h alone items near fits_met fits_missed goes =
      let places = places_in l f in
      let jumps_items = item.Jump missed ∷ (item.Jump met ∷ []) in
      let first = subst (StandsAt m t.pc) alone (front_stands m places t.pc end code jumps_items items) in
      let rest = behind m places t.pc end (t.pc + 4) code jumps_items items (ap (λ (c : List Instr). t.pc + 4 * length c) (sym alone)) in
      let u = goto t (t.pc + 4) in
      let held = holds_on m l p w frame.function f older arrays input output cells t u h refl refl refl refl in
      let c = jumps m l p w typed frame older arrays input output f cells missed u held fits_missed (omega (arith, rest.ends, near)) (jump_stands m places (t.pc + 4) end missed (item.Jump met ∷ []) rest) in
      record { state = c.state; leads = leads_twice m t u c.state (one m t u i first.0 goes) c.leads; holds = c.holds }
  chosen false cells t end met missed code i h alone items near fits_met fits_missed goes =
      let places = places_in l f in
      let jumps_items = item.Jump missed ∷ (item.Jump met ∷ []) in
      let first = subst (StandsAt m t.pc) alone (front_stands m places t.pc end code jumps_items items) in
      let rest = behind m places t.pc end (t.pc + 4) code jumps_items items (ap (λ (c : List Instr). t.pc + 4 * length c) (sym alone)) in
      let next : t.pc + 4 + 4 ≡ t.pc + 8 = omega arith in
      let second = subst (λ n. Stretch m places n end (item.Jump met ∷ [])) next (behind_jump m places (t.pc + 4) end missed (item.Jump met ∷ []) rest) in
      let u = goto t (t.pc + 8) in
      let held = holds_on m l p w frame.function f older arrays input output cells t u h refl refl refl refl in
      let over = hop t.pc (omega (arith, rest.ends, near)) in
      let c = jumps m l p w typed frame older arrays input output f cells met u held fits_met (omega (arith, second.ends, near)) (jump_stands m places (t.pc + 8) end met [] second) in
      record { state = c.state; leads = leads_twice m t u c.state (one m t u i first.0 (goes ∙ ap (λ n. Go (goto t n)) over)) c.leads; holds = c.holds }

  -- ---- the cases of a switch

  abbrev CaseFits : Value → Case → Type 0
  CaseFits v c = IsValue c.value × (c.value.ty ≡ v.ty)

  -- a case's number in t1, and the branch over its jump
  case_runs : (same : Bool) (cells : List (Option Value)) (t : State) (end : ℕ) (v : Value) (c : Case) (more : List Item) (otherwise : ℕ) → Holds l p frame.function f cells older arrays input output t → t.reg 5 ≡ form_of v
      → Stretch m (places_in l f) t.pc end (plain (constant 6 (machine_form c.value.ty c.value.num)) ++ (item.Plain (Bne 5 6 (pos 8)) ∷ (item.Jump c.label ∷ more))) → end < 2 ^ 30 → LabelFits f c.label
      → (form_of v == form_of c.value) ≡ same
      → ((u : State) → Holds l p frame.function f cells older arrays input output u → u.reg 5 ≡ form_of v → Stretch m (places_in l f) u.pc end more → ComesTo m u (AtLabel cells otherwise))
      → ComesTo m t (AtLabel cells (cond same c.label otherwise))
  case_runs same cells t end v c more otherwise h t0 items near fits test on =
      let places = places_in l f in
      let number = machine_form c.value.ty c.value.num in
      let code = constant 6 number in
      let jump_item = item.Jump c.label ∷ more in
      let rest = item.Plain (Bne 5 6 (pos 8)) ∷ jump_item in
      let bits = bits64 number in
      let u = with_register t 6 bits (length code) in
      let first = constant_sets m t 6 number (form_fits c.value.ty c.value.num) refl (front_stands m places t.pc end code rest items) in
      let held = holds_on m l p w frame.function f older arrays input output cells t u h refl refl refl refl in
      let behind_u = behind m places t.pc end u.pc code rest items refl in
      let goes : effect m (Bne 5 6 (pos 8)) u ≡ branch u (not same) (plus u.pc (pos 8)) =
      ap (λ x. branch u (not (x == form_of c.value)) (plus u.pc (pos 8))) t0 ∙ ap (λ b. branch u (not b) (plus u.pc (pos 8))) test in
      let c2 = taken same cells u end v c more otherwise held t0 behind_u near fits goes on in
      record { state = c2.state; leads = leads_twice m t u c2.state first c2.leads; holds = c2.holds }
    where
      taken : (same : Bool) (cells : List (Option Value)) (u : State) (end : ℕ) (v : Value) (c : Case) (more : List Item) (otherwise : ℕ) → Holds l p frame.function f cells older arrays input output u → u.reg 5 ≡ form_of v
          → Stretch m (places_in l f) u.pc end (item.Plain (Bne 5 6 (pos 8)) ∷ (item.Jump c.label ∷ more)) → end < 2 ^ 30 → LabelFits f c.label → effect m (Bne 5 6 (pos 8)) u ≡ branch u (not same) (plus u.pc (pos 8))
          → ((u : State) → Holds l p frame.function f cells older arrays input output u → u.reg 5 ≡ form_of v → Stretch m (places_in l f) u.pc end more → ComesTo m u (AtLabel cells otherwise))
          → ComesTo m u (AtLabel cells (cond same c.label otherwise))
      taken true cells u end v c more otherwise h t0 items near fits goes on =
          let places = places_in l f in
          let rest : Stretch m places (u.pc + 4) end (item.Jump c.label ∷ more) = record { stands = items.stands.1; ends = omega (arith, items.ends) } in
          let t = goto u (u.pc + 4) in
          let held = holds_on m l p w frame.function f older arrays input output cells u t h refl refl refl refl in
          let j = jumps m l p w typed frame older arrays input output f cells c.label t held fits (omega (arith, rest.ends, near)) (jump_stands m places (u.pc + 4) end c.label more rest) in
          record { state = j.state; leads = leads_twice m u t j.state (one m u t (Bne 5 6 (pos 8)) items.stands.0 goes) j.leads; holds = j.holds }
      taken false cells u end v c more otherwise h t0 items near fits goes on =
          let places = places_in l f in
          let rest : Stretch m places (u.pc + 4) end (item.Jump c.label ∷ more) = record { stands = items.stands.1; ends = omega (arith, items.ends) } in
          let next : u.pc + 4 + 4 ≡ u.pc + 8 = omega arith in
          let second = subst (λ n. Stretch m places n end more) next (behind_jump m places (u.pc + 4) end c.label more rest) in
          let t = goto u (u.pc + 8) in
          let held = holds_on m l p w frame.function f older arrays input output cells u t h refl refl refl refl in
          let over = hop u.pc (omega (arith, rest.ends, near)) in
          let j = on t held t0 second in
          record { state = j.state; leads = leads_twice m u t j.state (one m u t (Bne 5 6 (pos 8)) items.stands.0 (goes ∙ ap (λ n. Go (goto u n)) over)) j.leads; holds = j.holds }

  cases_run : (cs : List Case) (cells : List (Option Value)) (t : State) (end otherwise : ℕ) (v : Value) → SameForms → Holds l p frame.function f cells older arrays input output t → t.reg 5 ≡ form_of v → IsValue v
      → All (λ c. LabelFits f c.label) cs → All (CaseFits v) cs → LabelFits f otherwise → end < 2 ^ 30 → Stretch m (places_in l f) t.pc end (flat_map case_items cs ++ (item.Jump otherwise ∷ []))
      → ComesTo m t (AtLabel cells (case_label cs v.num otherwise))
  cases_run [] cells t end otherwise v forms h t0 number labels kinds fits near items =
      jumps m l p w typed frame older arrays input output f cells otherwise t h fits (omega (arith, items.ends, near)) items.stands.0
  cases_run (c ∷ cs) cells t end otherwise v forms h t0 number labels kinds fits near items =
      let places = places_in l f in
      let kind = All-head (CaseFits v) c cs kinds in
      let test = forms v c.value number kind.0 (sym kind.1) in
      let last = item.Jump otherwise ∷ [] in
      let more = flat_map case_items cs ++ last in
      let one_case = case_items c in
      let parts = grouped m places t.pc end one_case (flat_map case_items cs) last items in
      let code = grouped m places t.pc end (plain (constant 6 (machine_form c.value.ty c.value.num))) (item.Plain (Bne 5 6 (pos 8)) ∷ (item.Jump c.label ∷ [])) more parts in
      let r = case_runs (int_eq c.value.num v.num) cells t end v c more (case_label cs v.num otherwise) h t0 code near (All-head (λ c. LabelFits f c.label) c cs labels) test
      (λ u held t0_u rest. cases_run cs cells u end otherwise v forms held t0_u number (All-tail (λ c. LabelFits f c.label) c cs labels) (All-tail (CaseFits v) c cs kinds) fits near rest) in
      let label_is : cond (int_eq c.value.num v.num) c.label (case_label cs v.num otherwise) ≡ case_label (c ∷ cs) v.num otherwise = found (int_eq c.value.num v.num) c (find (λ c. int_eq c.value.num v.num) cs) otherwise in
      record { state = r.state; leads = r.leads; holds = subst (λ n. AtLabel cells n r.state) label_is r.holds }
    where
      found : (b : Bool) (c : Case) (rest : Option Case) (otherwise : ℕ) → cond b c.label (option_map_or (λ c. c.label) rest otherwise) ≡ option_map_or (λ c. c.label) (cond b (Some c) rest) otherwise
      found true c rest otherwise = refl
      found false c rest otherwise = refl

-- ---- the rows

module _ (m : Segments) (l : Layout) (p : LinkedProgram) (w : IsPlaced m l p) (typed : ProgramTyped p) where
  pub cond_at : (op : BinaryOp) (x y : Operand) (met missed : ℕ) → (is_comparison op ≡ true → ComparisonBranches op) → RowAt m l p (Cond op x y met missed)
  cond_at op x y met missed branches q frame older s a e =
      let f = a.function in
      let g = frame.function in
      let cells = frame.components in
      let form = Cond op x y met missed in
      let checked = typed.functions g f a.holds.newest.known in
      let fits = all_at (StepFits f) f.body frame.place form e checked.versioned.steps in
      let types = checked.steps frame.place form e in
      let left = length f.body - frame.place in
      let store = store_of q frame in
      let end = place_address l f (frame.place + 1) in
      let goes = λ (r : Value). Goes (place_of (linked_code p f).body (if int_eq r.num (pos 0) then missed else met)) store [] in
      needing_answers m l p s left (linked_system p) q frame older (value_at cells x) (λ v. needing (value_at cells y) (λ u. needing (operation_of op v u) goes))
      (λ v ev. needing_answers m l p s left (linked_system p) q frame older (value_at cells y) (λ u. needing (operation_of op v u) goes)
      (λ u eu. needing_answers m l p s left (linked_system p) q frame older (operation_of op v u) goes
      (λ r er.
      let kind_x = operand_typed f cells x v a.holds.newest.typed ev types.0 in
      let kind_y = operand_typed f cells y u a.holds.newest.typed eu types.1 in
      let b = branches types.2 v u r kind_x.1 kind_y.1 (kind_x.0 ∙ types.3 ∙ sym kind_y.0) (operation_is op v u r er) in
      let code = selected.branch op (type_of f x) in
      let alone : code ≡ b.instruction ∷ [] = ap (selected.branch op) (sym kind_x.0) ∙ b.alone in
      let jumps_items = item.Jump missed ∷ (item.Jump met ∷ []) in
      works m l p s left _
      (reach_on m s _ _ (both_got m l p w typed frame older q.arrays q.input q.output f cells s x y v u end (plain code ++ jumps_items) a.holds fits.0 fits.1 ev eu
      (stretch m l p w typed frame older q.arrays q.input q.output s form a e))
      (λ t k. chosen m l p w typed frame older q.arrays q.input q.output f (int_eq r.num (pos 0)) cells t end met missed code b.instruction k.holds alone k.code
      (place_near m l f (frame.place + 1) (w.functions g f a.holds.newest.known)) fits.2 fits.3 (b.goes m t k.left k.right))))))

  pub switch_at : (on : Operand) (cases : List Case) (otherwise : ℕ) → SameForms → RowAt m l p (Switch on cases otherwise)
  switch_at on cases otherwise forms q frame older s a e =
      let f = a.function in
      let g = frame.function in
      let cells = frame.components in
      let form = Switch on cases otherwise in
      let checked = typed.functions g f a.holds.newest.known in
      let fits = all_at (StepFits f) f.body frame.place form e checked.versioned.steps in
      let types = checked.steps frame.place form e in
      let left = length f.body - frame.place in
      let end = place_address l f (frame.place + 1) in
      let places = places_in l f in
      let get = operand_in (frame_of f) 5 on in
      let rest = flat_map case_items cases ++ (item.Jump otherwise ∷ []) in
      let items = stretch m l p w typed frame older q.arrays q.input q.output s form a e in
      needing_answers m l p s left (linked_system p) q frame older (value_at cells on) (λ v. Goes (place_of (linked_code p f).body (case_label cases v.num otherwise)) (store_of q frame) [])
      (λ v ev.
      let kind = operand_typed f cells on v a.holds.newest.typed ev types.0 in
      let kinds = subst (λ ty. All (λ c. IsValue c.value × (c.value.ty ≡ ty)) cases) (sym kind.0) types.1 in
      works m l p s left _
      (reach_on m s _ _ (value_got m l p w g f older q.arrays q.input q.output cells s 5 on a.holds fits.0 refl refl (front_stands m places s.pc end get rest items))
      (λ t k. cases_run m l p w typed frame older q.arrays q.input q.output f cases cells t end otherwise v forms k.holds (k.value v ev) kind.1 fits.1 kinds fits.2
      (place_near m l f (frame.place + 1) (w.functions g f a.holds.newest.known)) (behind m places s.pc end t.pc get rest items k.place))))
