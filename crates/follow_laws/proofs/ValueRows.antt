-- Rows of steps that compute a value: unary and binary operations, and conversions.
use Rattle.std.proofs.Common.{◌≡◌, ℕ, ◌+◌, ◌-◌, ℤ, List, [], ◌++◌, length, Option, Some, refl, sym, ap, ◌∙◌, subst}
use Rattle.std.specs.Prelude.{slice_get, slice_set, unwrap_or}
use Rattle.gimple_ir.specs.Values.{IsValue, unary_of, binary_of, convert_of, TypesFit}
use Rattle.gimple_ir.proofs.WellFormed.{reduced-InRange, unary_of-IsValue, binary_of-IsValue}
use Rattle.gimple_ir.specs.Statements.{binary_fits}
use Rattle.gimple_ir.specs.declared.types.ScalarType.{ScalarType}
use Rattle.gimple_ir.specs.declared.types.ScalarType.TheVariants.{Int}
use Rattle.gimple_ir.specs.declared.types.UnaryOp.{UnaryOp}
use Rattle.gimple_ir.specs.declared.types.BinaryOp.{BinaryOp}
use Rattle.gimple_ir.specs.declared.types.Operand.{Operand}
use Rattle.gimple_ir.specs.declared.types.Value.{Value}
use Rattle.gimple_ir.specs.declared.versioned.Step.TheVariants.{Unary, Convert, Binary}
use Rattle.gimple_ir.specs.declared.versioned.VersionedFunction.{VersionedFunction}
use Rattle.gimple_meaning.specs.Acts.{needing, sets, value_at, operation_of}
use Rattle.gimple_meaning.specs.Systems.{Frame, moved, store_of}
use Rattle.rv64_isa.specs.declared.instr.Instr.{Instr}
use Rattle.rv64_meaning.specs.Machine.{Segments, State}
use Rattle.rv64_frame.specs.Frames.{frame_of}
use Rattle.rv64_select.specs.declared.item.Item.{Item}
use Rattle.rv64_select.specs.Operations.{operation, unary_operation, conversion}
use Rattle.gimple_meaning.specs.Versioned.{type_of, type_of_component}
use Rattle.rv64_select.specs.Assembly.{plain, operand_in, set_in}
use Rattle.gimple_meaning.specs.Versioned.{ComponentFits, OperandFits, StepFits}
use Rattle.follow_laws.specs.Relation.{ComesTo}
use Rattle.follow_laws.specs.Effects.{Differ}
use Rattle.follow_laws.specs.Frames.{form_of}
use Rattle.follow_laws.proofs.WayLaws.{reach_on}
use Rattle.gimple_meaning.specs.Linked.{LinkedProgram, linked_system}
use Rattle.gimple_meaning.specs.Typed.{ProgramTyped}
use Rattle.follow_laws.specs.Layouts.{Layout, IsPlaced, places_in, place_address}
use Rattle.follow_laws.specs.Related.{Holds, AtFrame}
use Rattle.follow_laws.proofs.Lists.{all_at, some_same}
use Rattle.follow_laws.proofs.Operands.{AreBits, FitsComponent, operand_typed, holds_on, value_got, value_set}
use Rattle.follow_laws.proofs.Words.{Stretch, front_stands, behind, plain_stands, plain_ends, reaches_here, lead_on, come_on}
use Rattle.follow_laws.proofs.Answering.{RowAt, works, needing_answers}
use Rattle.follow_laws.proofs.Computing.{Computes}
use Rattle.follow_laws.proofs.Types.{if_some, unary_type, binary_type, given_type, Fit, fit_of, operation_is}
use Rattle.follow_laws.proofs.PlainRows.{stretch, arrived}

-- a result that is of a type, and a number of it
pub record ResultOf (code : List Instr) (a b : ℕ) (type : ScalarType) (r : Value) : Type 0 where
  pub computes : Computes code a b (form_of r)
  pub type_is : r.ty ≡ type
  pub number : IsValue r

module _ (m : Segments) (l : Layout) (p : LinkedProgram) (w : IsPlaced m l p) (typed : ProgramTyped p) (frame : Frame) (older : List Frame) (arrays : List (List ℤ)) (input output : List ℕ) (f : VersionedFunction) where
  -- a register into the component of a step, which is then done
  pub assigns : (cells : List (Option Value)) (u : State) (to r : ℕ) (o : Option Value) → Holds l p frame.function f cells older arrays input output u → ComponentFits f to → AreBits o (u.reg r) → FitsComponent f to o
      → Differ r 0 → Differ r 28 → Stretch m (places_in l f) u.pc (place_address l f (frame.place + 1)) (plain (set_in (frame_of f) r to))
      → ComesTo m u (AtFrame l p (moved frame (frame.place + 1) (slice_set cells to o)) older arrays input (output ++ []))
  assigns cells u to r o h inside is fits r_is apart code =
      let set = set_in (frame_of f) r to in
      let places = places_in l f in
      let end = place_address l f (frame.place + 1) in
      lead_on m u _ _ (value_set m l p w frame.function f older arrays input output cells u to r o h inside is fits r_is apart (plain_stands m places u.pc end set code))
      (λ t k. reaches_here m t _ (arrived m l p w typed frame older arrays input output f (slice_set cells to o) (frame.place + 1) t k.holds (k.place ∙ sym (plain_ends m places u.pc end set code))))

  -- instructions that compute, and then the component
  computed_set : (cells : List (Option Value)) (u : State) (to a b : ℕ) (r : Value) (code : List Instr) → Holds l p frame.function f cells older arrays input output u → ComponentFits f to
      → ResultOf code a b (type_of_component f to) r → u.reg 5 ≡ a → u.reg 6 ≡ b
      → Stretch m (places_in l f) u.pc (place_address l f (frame.place + 1)) (plain code ++ plain (set_in (frame_of f) 5 to))
      → ComesTo m u (AtFrame l p (moved frame (frame.place + 1) (slice_set cells to (Some r))) older arrays input (output ++ []))
  computed_set cells u to a b r code h inside result t0 t1 items =
      let set = plain (set_in (frame_of f) 5 to) in
      let places = places_in l f in
      let end = place_address l f (frame.place + 1) in
      come_on m u _ _ (result.computes m u t0 t1 (front_stands m places u.pc end code set items))
      (λ t k.
      let held = holds_on m l p w frame.function f older arrays input output cells u t h (k.others 2 refl) k.mem k.input k.output in
      let is : AreBits (Some r) (t.reg 5) = λ v e. k.value ∙ ap form_of (some_same r v e) in
      let fits : FitsComponent f to (Some r) = λ v e. let same = some_same r v e in (ap (λ (x : Value). x.ty) (sym same) ∙ result.type_is, subst IsValue same result.number) in
      assigns cells t to 5 (Some r) held inside is fits refl refl (behind m places u.pc end t.pc code set items k.place))

  -- of one operand
  pub one_computed : (cells : List (Option Value)) (s : State) (to : ℕ) (x : Operand) (v r : Value) (code : List Instr) → Holds l p frame.function f cells older arrays input output s → ComponentFits f to → OperandFits f x
      → value_at cells x ≡ Some v → ((b : ℕ) → ResultOf code (form_of v) b (type_of_component f to) r)
      → Stretch m (places_in l f) s.pc (place_address l f (frame.place + 1)) (plain (operand_in (frame_of f) 5 x) ++ (plain code ++ plain (set_in (frame_of f) 5 to)))
      → ComesTo m s (AtFrame l p (moved frame (frame.place + 1) (slice_set cells to (Some r))) older arrays input (output ++ []))
  one_computed cells s to x v r code h inside fits e result items =
      let get = operand_in (frame_of f) 5 x in
      let rest = plain code ++ plain (set_in (frame_of f) 5 to) in
      let places = places_in l f in
      let end = place_address l f (frame.place + 1) in
      reach_on m s _ _ (value_got m l p w frame.function f older arrays input output cells s 5 x h fits refl refl (front_stands m places s.pc end get rest items))
      (λ u k. computed_set cells u to (form_of v) (u.reg 6) r code k.holds inside (result (u.reg 6)) (k.value v e) refl (behind m places s.pc end u.pc get rest items k.place))

  -- two operands in t0 and t1, and the code behind
  pub record Both (cells : List (Option Value)) (a b end : ℕ) (rest : List Item) (t : State) : Type 0 where
    pub left : t.reg 5 ≡ a
    pub right : t.reg 6 ≡ b
    pub holds : Holds l p frame.function f cells older arrays input output t
    pub code : Stretch m (places_in l f) t.pc end rest

  pub both_got : (cells : List (Option Value)) (s : State) (x y : Operand) (v u : Value) (end : ℕ) (rest : List Item) → Holds l p frame.function f cells older arrays input output s → OperandFits f x → OperandFits f y
      → value_at cells x ≡ Some v → value_at cells y ≡ Some u → Stretch m (places_in l f) s.pc end (plain (operand_in (frame_of f) 5 x) ++ (plain (operand_in (frame_of f) 6 y) ++ rest))
      → ComesTo m s (Both cells (form_of v) (form_of u) end rest)
  both_got cells s x y v u end rest h x_fits y_fits ex ey items =
      let get_x = operand_in (frame_of f) 5 x in
      let get_y = operand_in (frame_of f) 6 y in
      let places = places_in l f in
      reach_on m s _ _ (value_got m l p w frame.function f older arrays input output cells s 5 x h x_fits refl refl (front_stands m places s.pc end get_x (plain get_y ++ rest) items))
      (λ s1 k.
      let items1 = behind m places s.pc end s1.pc get_x (plain get_y ++ rest) items k.place in
      lead_on m s1 _ _ (value_got m l p w frame.function f older arrays input output cells s1 6 y k.holds y_fits refl refl (front_stands m places s1.pc end get_y rest items1))
      (λ s2 j. reaches_here m s2 _ (record {
        left = j.others 5 refl ∙ k.value v ex;
        right = j.value u ey;
        holds = j.holds;
        code = behind m places s1.pc end s2.pc get_y rest items1 j.place;
      })))

  pub two_computed : (cells : List (Option Value)) (s : State) (to : ℕ) (x y : Operand) (v u r : Value) (code : List Instr) → Holds l p frame.function f cells older arrays input output s → ComponentFits f to
      → OperandFits f x → OperandFits f y → value_at cells x ≡ Some v → value_at cells y ≡ Some u → ResultOf code (form_of v) (form_of u) (type_of_component f to) r
      → Stretch m (places_in l f) s.pc (place_address l f (frame.place + 1)) (plain (operand_in (frame_of f) 5 x) ++ (plain (operand_in (frame_of f) 6 y) ++ (plain code ++ plain (set_in (frame_of f) 5 to))))
      → ComesTo m s (AtFrame l p (moved frame (frame.place + 1) (slice_set cells to (Some r))) older arrays input (output ++ []))
  two_computed cells s to x y v u r code h inside x_fits y_fits ex ey result items =
      let end = place_address l f (frame.place + 1) in
      reach_on m s _ _ (both_got cells s x y v u end (plain code ++ plain (set_in (frame_of f) 5 to)) h x_fits y_fits ex ey items)
      (λ t k. computed_set cells t to (form_of v) (form_of u) r code k.holds inside result k.left k.right k.code)

-- ---- the rows, from what the instructions compute

-- what is owed of a unary operator, of conversions and of a binary operator
abbrev pub UnaryComputes : UnaryOp → Type 0
UnaryComputes op = (v r : Value) (b : ℕ) → IsValue v → unary_of op v ≡ Some r → Computes (unary_operation op v.ty) (form_of v) b (form_of r)

abbrev pub ConversionComputes : Type 0
ConversionComputes = (to : ScalarType) (v : Value) (b : ℕ) → IsValue v → Computes (conversion to v.ty) (form_of v) b (form_of (convert_of to v))

abbrev pub BinaryComputes : BinaryOp → Type 0
BinaryComputes op = (v u r : Value) → IsValue v → IsValue u → TypesFit op v u → binary_of op v u ≡ Some r → Computes (operation op v.ty) (form_of v) (form_of u) (form_of r)

module _ (m : Segments) (l : Layout) (p : LinkedProgram) (w : IsPlaced m l p) (typed : ProgramTyped p) where
  pub unary_at : (to : ℕ) (op : UnaryOp) (x : Operand) → UnaryComputes op → RowAt m l p (Unary to op x)
  unary_at to op x computes q frame older s a e =
      let f = a.function in
      let g = frame.function in
      let cells = frame.components in
      let checked = typed.functions g f a.holds.newest.known in
      let fits = all_at (StepFits f) f.body frame.place (Unary to op x) e checked.versioned.steps in
      let types = checked.steps frame.place (Unary to op x) e in
      let left = length f.body - frame.place in
      needing_answers m l p s left (linked_system p) q frame older (value_at cells x) (λ v. needing (unary_of op v) (λ r. sets frame.place (store_of q frame) to r))
      (λ v ev. needing_answers m l p s left (linked_system p) q frame older (unary_of op v) (λ r. sets frame.place (store_of q frame) to r)
      (λ r er.
      let kind = operand_typed f cells x v a.holds.newest.typed ev types.0 in
      let code = unary_operation op (type_of f x) in
      let result : (b : ℕ) → ResultOf code (form_of v) b (type_of_component f to) r = λ b. record {
        computes = subst (λ ty. Computes (unary_operation op ty) (form_of v) b (form_of r)) kind.0 (computes v r b kind.1 er);
        type_is = if_some (λ (y : Value). y.ty ≡ v.ty) (unary_of op v) r (unary_type op v) er ∙ kind.0 ∙ types.1;
        number = if_some IsValue (unary_of op v) r (unary_of-IsValue op v) er;
      } in
      works m l p s left _
      (one_computed m l p w typed frame older q.arrays q.input q.output f cells s to x v r code a.holds fits.0 fits.1 ev result
      (stretch m l p w typed frame older q.arrays q.input q.output s (Unary to op x) a e))))

  pub convert_at : (to : ℕ) (x : Operand) → ConversionComputes → RowAt m l p (Convert to x)
  convert_at to x computes q frame older s a e =
      let f = a.function in
      let g = frame.function in
      let cells = frame.components in
      let checked = typed.functions g f a.holds.newest.known in
      let fits = all_at (StepFits f) f.body frame.place (Convert to x) e checked.versioned.steps in
      let number = checked.steps frame.place (Convert to x) e in
      let left = length f.body - frame.place in
      let store = store_of q frame in
      needing_answers m l p s left (linked_system p) q frame older (value_at cells x) (λ v. needing (slice_get f.types to) (λ ty. sets frame.place store to (convert_of ty v)))
      (λ v ev. needing_answers m l p s left (linked_system p) q frame older (slice_get f.types to) (λ ty. sets frame.place store to (convert_of ty v))
      (λ ty et.
      let kind = operand_typed f cells x v a.holds.newest.typed ev number in
      let type : ty ≡ type_of_component f to = sym (ap (λ (o : Option ScalarType). unwrap_or o Int) et) in
      let code = conversion (type_of_component f to) (type_of f x) in
      let result : (b : ℕ) → ResultOf code (form_of v) b (type_of_component f to) (convert_of ty v) = λ b. record {
        computes = subst (λ z. Computes (conversion z (type_of f x)) (form_of v) b (form_of (convert_of ty v))) type (subst (λ z. Computes (conversion ty z) (form_of v) b (form_of (convert_of ty v))) kind.0 (computes ty v b kind.1));
        type_is = type;
        number = reduced-InRange ty v.num;
      } in
      works m l p s left _
      (one_computed m l p w typed frame older q.arrays q.input q.output f cells s to x v (convert_of ty v) code a.holds fits.0 fits.1 ev result
      (stretch m l p w typed frame older q.arrays q.input q.output s (Convert to x) a e))))

  pub binary_at : (to : ℕ) (op : BinaryOp) (x y : Operand) → BinaryComputes op → RowAt m l p (Binary to op x y)
  binary_at to op x y computes q frame older s a e =
      let f = a.function in
      let g = frame.function in
      let cells = frame.components in
      let checked = typed.functions g f a.holds.newest.known in
      let fits = all_at (StepFits f) f.body frame.place (Binary to op x y) e checked.versioned.steps in
      let types = checked.steps frame.place (Binary to op x y) e in
      let left = length f.body - frame.place in
      let store = store_of q frame in
      needing_answers m l p s left (linked_system p) q frame older (value_at cells x)
      (λ v. needing (value_at cells y) (λ u. needing (operation_of op v u) (λ r. sets frame.place store to r)))
      (λ v ev. needing_answers m l p s left (linked_system p) q frame older (value_at cells y) (λ u. needing (operation_of op v u) (λ r. sets frame.place store to r))
      (λ u eu. needing_answers m l p s left (linked_system p) q frame older (operation_of op v u) (λ r. sets frame.place store to r)
      (λ r er.
      let kind_x = operand_typed f cells x v a.holds.newest.typed ev types.0 in
      let kind_y = operand_typed f cells y u a.holds.newest.typed eu types.1 in
      let type = type_of_component f to in
      let fit : Fit op type v u = fit_of op type v u
      (ap (λ (ty : ScalarType). binary_fits op (Some type) (Some ty) (Some u.ty)) kind_x.0 ∙ ap (λ (ty : ScalarType). binary_fits op (Some type) (Some (type_of f x)) (Some ty)) kind_y.0 ∙ types.2) in
      let made = operation_is op v u r er in
      let code = operation op (type_of f x) in
      let result : ResultOf code (form_of v) (form_of u) type r = record {
        computes = subst (λ ty. Computes (operation op ty) (form_of v) (form_of u) (form_of r)) kind_x.0 (computes v u r kind_x.1 kind_y.1 fit.operands made);
        type_is = if_some (λ (z : Value). z.ty ≡ given_type op v.ty) (binary_of op v u) r (binary_type op v u) made ∙ sym fit.target;
        number = if_some IsValue (binary_of op v u) r (binary_of-IsValue op v u kind_x.1 kind_y.1 fit.operands) made;
      } in
      works m l p s left _
      (two_computed m l p w typed frame older q.arrays q.input q.output f cells s to x y v u r code a.holds fits.0 fits.1 fits.2 ev eu result
      (stretch m l p w typed frame older q.arrays q.input q.output s (Binary to op x y) a e)))))
