-- Rows of steps that load and store elements of arrays.
use Rattle.std.proofs.Common.{◌≡◌, ◌≢◌, ℕ, zero, suc, ◌+◌, ◌-◌, ◌*◌, ◌%◌, ◌^◌, ◌<◌, ◌≤◌, ◌⊎◌, inl, inr, ℤ, pos, negsuc, true, List, [], ◌∷◌, ◌++◌, length, Option, Some, None, refl, sym, ap, ◌∙◌, subst, arith}
use Rattle.std.specs.Prelude.{slice_get, slice_set, unsigned_abs}
use Rattle.std.specs.Option.{option_map, option_map_or}
use Rattle.std.proofs.lemmas.Bool.{cases_eq, cases_lt}
use Rattle.gimple_ir.specs.Values.{IsValue}
use Rattle.gimple_ir.specs.Programs.{IsElement}
use Rattle.gimple_ir.specs.Statements.{read_type}
use Rattle.gimple_ir.specs.declared.types.Array.{Array}
use Rattle.gimple_ir.specs.declared.types.ElementType.{ElementType}
use Rattle.gimple_ir.specs.declared.types.ElementType.TheVariants as element
use Rattle.gimple_ir.specs.declared.types.Operand.{Operand}
use Rattle.gimple_ir.specs.declared.types.Value.{Value}
use Rattle.gimple_ir.specs.declared.unit.ArrayUse.{ArrayUse}
use Rattle.gimple_ir.specs.declared.versioned.Step.TheVariants.{Load, Store}
use Rattle.gimple_ir.specs.declared.versioned.VersionedFunction.{VersionedFunction}
use Rattle.gimple_meaning.specs.Acts.{Goes, needing, sets, value_at, element_type, element_at, loaded, stored, with_element}
use Rattle.gimple_meaning.specs.Systems.{Frame, moved, store_of}
use Rattle.rv64_isa.specs.declared.instr.Instr.TheVariants.{Lui, Add}
use Rattle.rv64_meaning.specs.Arithmetic.{plus, add, upper}
use Rattle.rv64_meaning.specs.Machine.{Segments, State, Go, put, load, store, can_load, can_store}
use Rattle.rv64_meaning.proofs.MemoryLaws.{load_apart}
use Rattle.rv64_abi.specs.Offsets.{lo, upper_of}
use Rattle.rv64_frame.specs.Frames.{frame_of, frame_size}
use Rattle.rv64_select.specs.declared.item.Symbol.TheVariants as symbols
use Rattle.rv64_select.specs.declared.item.Item.{Item}
use Rattle.rv64_select.specs.declared.item.Item.TheVariants as item
use Rattle.rv64_select.specs.Operations.{scaling, element_load, element_store}
use Rattle.gimple_meaning.specs.Versioned.{type_of_component, element_of}
use Rattle.rv64_select.specs.Assembly.{plain, operand_in, set_in, address_items}
use Rattle.rv64_select.specs.Code.{symbol_name}
use Rattle.gimple_meaning.specs.Versioned.{ComponentFits, OperandFits, ArrayFits, StepFits}
use Rattle.final_link.specs.Arrays.{element_size}
use Rattle.follow_laws.specs.Relation.{ComesTo}
use Rattle.follow_laws.specs.Frames.{form_of}
use Rattle.follow_laws.proofs.WayLaws.{one, then, reach_on, leads_twice}
use Rattle.follow_laws.proofs.FrameLaws.{data_reached}
use Rattle.gimple_meaning.specs.Linked.{LinkedProgram, array_number, linked_system}
use Rattle.gimple_meaning.specs.Typed.{ProgramTyped}
use Rattle.follow_laws.specs.Layouts.{Layout, IsPlaced, array_bytes, places_in, place_address}
use Rattle.follow_laws.specs.Related.{Holds, AtFrame, ArraysHeld, ElementHeld, element_bits}
use Rattle.follow_laws.proofs.Lists.{all_at}
use Rattle.follow_laws.proofs.Memory.{SameFrom, store_kept, stands_kept, waiting_kept, element_within}
use Rattle.follow_laws.proofs.HeldFrames.{room_of}
use Rattle.follow_laws.proofs.Operands.{AreBits, FitsComponent, operand_typed, holds_on, value_got}
use Rattle.follow_laws.proofs.Words.{Stretch, front_stands, behind, grouped, come_on}
use Rattle.follow_laws.proofs.Answering.{RowAt, works, needing_answers}
use Rattle.follow_laws.proofs.PlainRows.{stretch, arrived}
use Rattle.follow_laws.proofs.ValueRows.{assigns, both_got}
use Rattle.follow_laws.proofs.Elements.{form_index, index_small, scales, address_at, element_aligned, elements_apart, extended, element_loads, stored_in, element_stores, loaded_form, loaded_number, stored_number, stored_bits, load_stored, element_there, element_beside, element_elsewhere}

-- ---- the array that a step names, and its element

-- what the function says of the array with this number, and the array itself
record Named (l : Layout) (p : LinkedProgram) (f : VersionedFunction) (array : ℕ) (kind : ElementType) : Type 0 where
  item : Array
  known : slice_get p.arrays (array_number p f array) ≡ Some item
  kept : p.is_kept (array_number p f array) ≡ true
  kind_is : item.element ≡ kind
  base : (places_in l f).symbol (symbols.Array array) ≡ l.array (array_number p f array)

-- where an element lies
abbrev element_place : Layout → LinkedProgram → VersionedFunction → ℕ → ElementType → ℕ → ℕ
element_place l p f array kind index = l.array (array_number p f array) + element_size kind * index

-- The element at an index of an array of the function: which array it is, and where it lies. `kind` is the element type by which
-- the function's code goes.
record Found (m : Segments) (l : Layout) (p : LinkedProgram) (f : VersionedFunction) (array : ℕ) (kind : ElementType) (k : ℤ) : Type 0 where
  named : Named l p f array kind
  index : ℕ
  index_is : k ≡ pos index
  inside : index < named.item.length
  ends : element_size kind * index + element_size kind ≤ array_bytes named.item
  within : element_place l p f array kind index + element_size kind ≤ l.scratch
  near : (places_in l f).symbol (symbols.Array array) + element_size kind * index < 2 ^ 31 - 2 ^ 11
  small : element_size kind * index < 2 ^ 31
  loads : can_load m (element_place l p f array kind index) (element_size kind) ≡ true
  stores : can_store m (element_place l p f array kind index) (element_size kind) ≡ true

there : {T : Type 0} (xs : List T) (i : ℕ) → i < length xs → (x : T) × (slice_get xs i ≡ Some x)
there [] i h = absurd (omega (arith, h))
there (x ∷ xs) zero h = (x, refl)
there (x ∷ xs) (suc i) h = there xs i (omega (arith, h))

array_there : (o : Option Array) (e : ElementType) → option_map (λ (a : Array). a.element) o ≡ Some e → (a : Array) × (o ≡ Some a)
array_there None e h = absurd cc
array_there (Some a) e h = (a, refl)

index_of : (arrays : List (List ℤ)) (n : ℕ) (k z : ℤ) → element_at arrays n k ≡ Some z → (i : ℕ) × (k ≡ pos i)
index_of arrays n (pos i) z e = (i, refl)
index_of arrays n (negsuc i) z e = absurd cc

value_is : (u v : Value) → Some u ≡ Some v → v ≡ u
value_is u v e = cc

array_is : (a b : Array) → Some a ≡ Some b → a ≡ b
array_is a b e = cc

kind_is : (x y : ElementType) → Some x ≡ Some y → x ≡ y
kind_is x y e = cc

module _ (m : Segments) (l : Layout) (p : LinkedProgram) (w : IsPlaced m l p) (g : ℕ) (f : VersionedFunction) where
  named : (array : ℕ) (kind : ElementType) → slice_get p.functions g ≡ Some f → ArrayFits f array → element_type p.arrays (array_number p f array) ≡ Some kind
      → Named l p f array (element_of f array)
  named array kind known fits e =
      let entry = there f.arrays array fits in
      let u = entry.0 in
      let n = array_number p f array in
      let number : n ≡ p.array_named u.symbol = ap (λ (o : Option ArrayUse). option_map_or (λ (x : ArrayUse). p.array_named x.symbol) o (length p.arrays)) entry.1 in
      let element_is : element_of f array ≡ u.element = ap (λ (o : Option ArrayUse). option_map_or (λ (x : ArrayUse). x.element) o element.UnsignedChar) entry.1 in
      let symbol : symbol_name f (symbols.Array array) ≡ u.symbol = ap (λ (o : Option ArrayUse). option_map_or (λ (x : ArrayUse). x.symbol) o []) entry.1 in
      let found = array_there (slice_get p.arrays n) kind e in
      let placed = w.uses g array f u known entry.1 in
      record {
        item = found.0;
        known = found.1;
        kept = ap p.is_kept number ∙ placed.kept;
        kind_is = placed.element found.0 (ap (slice_get p.arrays) (sym number) ∙ found.1) ∙ sym element_is;
        base = ap l.address symbol ∙ placed.address ∙ ap l.array (sym number);
      }

  -- the element type in the program's list is that of the code
  kind_same : (array : ℕ) (e kind : ElementType) → Named l p f array kind → element_type p.arrays (array_number p f array) ≡ Some e → kind ≡ e
  kind_same array e kind a h =
      sym a.kind_is ∙ kind_is a.item.element e (sym (ap (option_map (λ (x : Array). x.element)) a.known) ∙ h)

  -- an element that is there
  found : (arrays : List (List ℤ)) (mem : ℕ → ℕ) (array : ℕ) (kind : ElementType) (k z : ℤ) → Named l p f array kind → ArraysHeld l p mem arrays
      → element_at arrays (array_number p f array) k ≡ Some z → Found m l p f array kind k
  found arrays mem array kind k z a held e =
      let n = array_number p f array in
      let at = index_of arrays n k z e in
      let i = at.0 in
      let start = l.array n in
      let placed = w.arrays n a.item a.known a.kept in
      let h = held n i a.item z a.known a.kept (ap (element_at arrays n) (sym at.1) ∙ e) in
      let ends : element_size kind * i + element_size kind ≤ array_bytes a.item =
      subst (λ (t : ElementType). element_size t * i + element_size t ≤ array_bytes a.item) a.kind_is (element_within a.item.element i a.item.length h.within) in
      let size = element_size kind in
      let within = below start (size * i) size (array_bytes a.item) l.scratch ends placed.below in
      let high : l.scratch < 2 ^ 31 - 2 ^ 11 = omega (arith, w.scratch_below, w.near) in
      let both = data_reached m (start + size * i) size (element_aligned kind start i placed.aligned) (over m.data_start start (size * i) placed.above) (omega (arith, within, w.scratch_below, w.end)) in
      record {
        named = a;
        index = i;
        index_is = at.1;
        inside = h.within;
        ends = ends;
        within = within;
        near = subst (λ b. b + size * i < 2 ^ 31 - 2 ^ 11) (sym a.base) (lower (start + size * i) size l.scratch within high);
        small = least start (size * i) (lower (start + size * i) size l.scratch within high);
        loads = both.0;
        stores = both.1;
      }
    where
      below : (start offset size bytes end : ℕ) → offset + size ≤ bytes → start + bytes ≤ end → start + offset + size ≤ end
      below start offset size bytes end h k = omega (arith, h, k)

      over : (first start offset : ℕ) → first ≤ start → first ≤ start + offset
      over first start offset h = omega (arith, h)

      lower : (place size end : ℕ) → place + size ≤ end → end < 2 ^ 31 - 2 ^ 11 → place < 2 ^ 31 - 2 ^ 11
      lower place size end h k = omega (arith, h, k)

      least : (start offset : ℕ) → start + offset < 2 ^ 31 - 2 ^ 11 → offset < 2 ^ 31
      least start offset h = omega (arith, h)

  -- its number, in memory that has the arrays
  record Number (mem : ℕ → ℕ) (array : ℕ) (kind : ElementType) (index : ℕ) (z : ℤ) : Type 0 where
    bits : load (element_size kind) mem (element_place l p f array kind index) ≡ element_bits kind z
    number : IsElement kind z

  number_found : (arrays : List (List ℤ)) (mem : ℕ → ℕ) (array : ℕ) (kind : ElementType) (k z : ℤ) → (a : Found m l p f array kind k) → ArraysHeld l p mem arrays
      → element_at arrays (array_number p f array) k ≡ Some z → Number mem array kind a.index z
  number_found arrays mem array kind k z a held e =
      let n = array_number p f array in
      let i = a.index in
      let h = held n i a.named.item z a.named.known a.named.kept (ap (element_at arrays n) (sym a.index_is) ∙ e) in
      record {
        bits = subst (λ (t : ElementType). load (element_size t) mem (l.array n + element_size t * i) ≡ element_bits t z) a.named.kind_is h.bits;
        number = subst (λ (t : ElementType). IsElement t z) a.named.kind_is h.number;
      }

-- ---- the address of an element

module _ (m : Segments) (l : Layout) (p : LinkedProgram) (w : IsPlaced m l p) (g : ℕ) (f : VersionedFunction) (older : List Frame) (arrays : List (List ℤ)) (input output : List ℕ) where
  -- t2 has the element's address, but for the lower part of the array's, and t1 is as before
  record Addressed (cells : List (Option Value)) (base offset right end : ℕ) (rest : List Item) (t : State) : Type 0 where
    address : plus (t.reg 7) (lo (pos base)) ≡ base + offset
    kept : t.reg 6 ≡ right
    holds : Holds l p g f cells older arrays input output t
    code : Stretch m (places_in l f) t.pc end rest

  -- the words behind the scaling
  joined : (cells : List (Option Value)) (s : State) (array offset right end : ℕ) (rest : List Item) → Holds l p g f cells older arrays input output s → s.reg 5 ≡ offset → s.reg 6 ≡ right
      → (places_in l f).symbol (symbols.Array array) + offset < 2 ^ 31 - 2 ^ 11
      → Stretch m (places_in l f) s.pc end (item.Upper 7 (symbols.Array array) ∷ (item.Plain (Add 7 7 5) ∷ rest))
      → ComesTo m s (Addressed cells ((places_in l f).symbol (symbols.Array array)) offset right end rest)
  joined cells s array offset right end rest h t0 t1 near items =
      let base = (places_in l f).symbol (symbols.Array array) in
      let high = upper (upper_of (pos base)) in
      let t = put s 7 high in
      let u = put t 7 (add high offset) in
      let added = ap (λ x. Go (put t 7 (add high x))) t0 in
      record {
        state = u;
        leads = then m s t u (Lui 7 (upper_of (pos base))) items.stands.0 refl (one m t u (Add 7 7 5) items.stands.1.0 added);
        holds = record {
          address = address_at base offset near;
          kept = t1;
          holds = holds_on m l p w g f older arrays input output cells s u h refl refl refl refl;
          code = record { stands = items.stands.1.1; ends = omega (arith, items.ends) };
        };
      }

  addressed : (cells : List (Option Value)) (s : State) (e : ElementType) (array i right end : ℕ) (rest : List Item) → Holds l p g f cells older arrays input output s → s.reg 5 ≡ i → s.reg 6 ≡ right
      → element_size e * i < 2 ^ 31 → (places_in l f).symbol (symbols.Array array) + element_size e * i < 2 ^ 31 - 2 ^ 11
      → Stretch m (places_in l f) s.pc end (address_items e array ++ rest)
      → ComesTo m s (Addressed cells ((places_in l f).symbol (symbols.Array array)) (element_size e * i) right end rest)
  addressed cells s e array i right end rest h t0 t1 small near items =
      let places = places_in l f in
      let code = scaling e in
      let last = item.Upper 7 (symbols.Array array) ∷ (item.Plain (Add 7 7 5) ∷ []) in
      let parts = grouped m places s.pc end (plain code) last rest items in
      come_on m s _ _ (scales e i right small m s t0 t1 (front_stands m places s.pc end code (last ++ rest) parts))
      (λ t k.
      let held = holds_on m l p w g f older arrays input output cells s t h (k.others 2 refl) k.mem k.input k.output in
      joined cells t array (element_size e * i) right end rest held k.value (k.others 6 refl ∙ t1) near (behind m places s.pc end t.pc code (last ++ rest) parts k.place))

-- ---- loads

module _ (m : Segments) (l : Layout) (p : LinkedProgram) (w : IsPlaced m l p) (typed : ProgramTyped p) (frame : Frame) (older : List Frame) (arrays : List (List ℤ)) (input output : List ℕ) (f : VersionedFunction) where
  -- the load itself, and the component
  element_set : (cells : List (Option Value)) (s : State) (to array right : ℕ) (kind : ElementType) (k z : ℤ) → (a : Found m l p f array kind k) → ComponentFits f to → type_of_component f to ≡ read_type kind
      → element_at arrays (array_number p f array) k ≡ Some z
      → Addressed m l p w frame.function f older arrays input output cells ((places_in l f).symbol (symbols.Array array)) (element_size kind * a.index) right (place_address l f (frame.place + 1))
      (item.Load kind 5 7 (symbols.Array array) ∷ plain (set_in (frame_of f) 5 to)) s
      → ComesTo m s (AtFrame l p (moved frame (frame.place + 1) (slice_set cells to (Some (loaded kind z)))) older arrays input (output ++ []))
  element_set cells s to array right kind k z a inside type e h =
      let places = places_in l f in
      let base = places.symbol (symbols.Array array) in
      let place = element_place l p f array kind a.index in
      let number = number_found m l p w frame.function f arrays s.mem array kind k z a h.holds.arrays_held e in
      let at = h.address ∙ ap (λ n. n + element_size kind * a.index) a.named.base in
      let value = loaded kind z in
      let t = put s 5 (form_of value) in
      let made = ap (extended kind) number.bits ∙ loaded_form kind z number.number in
      let does = element_loads kind m s (lo (pos base)) place at a.loads ∙ ap (λ x. Go (put s 5 x)) made in
      let held = holds_on m l p w frame.function f older arrays input output cells s t h.holds refl refl refl refl in
      let is : AreBits (Some value) (t.reg 5) = λ v e. ap form_of (sym (value_is value v e)) in
      let fits : FitsComponent f to (Some value) =
      λ v e. let same = value_is value v e in (ap (λ (x : Value). x.ty) same ∙ sym type, subst IsValue (sym same) (loaded_number kind z number.number)) in
      let code : Stretch m places t.pc (place_address l f (frame.place + 1)) (plain (set_in (frame_of f) 5 to)) = record { stands = h.code.stands.1; ends = omega (arith, h.code.ends) } in
      let c = assigns m l p w typed frame older arrays input output f cells t to 5 (Some value) held inside is fits refl refl code in
      record { state = c.state; leads = leads_twice m s t c.state (one m s t (element_load kind 5 7 (lo (pos base))) h.code.stands.0 does) c.leads; holds = c.holds }

  load_runs : (cells : List (Option Value)) (s : State) (to array : ℕ) (x : Operand) (v : Value) (kind : ElementType) (z : ℤ) → Holds l p frame.function f cells older arrays input output s
      → Named l p f array kind → ComponentFits f to → OperandFits f x → type_of_component f to ≡ read_type kind → value_at cells x ≡ Some v → element_at arrays (array_number p f array) v.num ≡ Some z
      → Stretch m (places_in l f) s.pc (place_address l f (frame.place + 1)) (plain (operand_in (frame_of f) 5 x) ++ (address_items kind array ++ (item.Load kind 5 7 (symbols.Array array) ∷ plain (set_in (frame_of f) 5 to))))
      → ComesTo m s (AtFrame l p (moved frame (frame.place + 1) (slice_set cells to (Some (loaded kind z)))) older arrays input (output ++ []))
  load_runs cells s to array x v kind z h name inside fits type ev ez items =
      let places = places_in l f in
      let end = place_address l f (frame.place + 1) in
      let a = found m l p w frame.function f arrays s.mem array kind v.num z name h.arrays_held ez in
      let get = operand_in (frame_of f) 5 x in
      let last = item.Load kind 5 7 (symbols.Array array) ∷ plain (set_in (frame_of f) 5 to) in
      let rest = address_items kind array ++ last in
      reach_on m s _ _ (value_got m l p w frame.function f older arrays input output cells s 5 x h fits refl refl (front_stands m places s.pc end get rest items))
      (λ t k.
      let index = k.value v ev ∙ form_index v a.index a.index_is (index_small kind a.index a.small) in
      reach_on m t _ _ (addressed m l p w frame.function f older arrays input output cells t kind array a.index (t.reg 6) end last k.holds index refl a.small a.near (behind m places s.pc end t.pc get rest items k.place))
      (λ u j. element_set cells u to array (t.reg 6) kind v.num z a inside type ez j))

-- ---- stores

module _ (m : Segments) (l : Layout) (p : LinkedProgram) (w : IsPlaced m l p) (f : VersionedFunction) (arrays : List (List ℤ)) (mem : ℕ → ℕ) (array : ℕ) (kind : ElementType) (k y : ℤ) (bits : ℕ) (a : Found m l p f array kind k) (held : ArraysHeld l p mem arrays) where
  -- memory with the low bytes of a number at the element
  abbrev new_memory : ℕ → ℕ
  new_memory = store (element_size kind) mem (element_place l p f array kind a.index) bits

  abbrev new_arrays : List (List ℤ)
  new_arrays = with_element arrays (array_number p f array) a.index y

  same_item : (item : Array) → slice_get p.arrays (array_number p f array) ≡ Some item → a.named.item ≡ item
  same_item item known = array_is a.named.item item (sym a.named.known ∙ known)

  -- the element itself
  held_there : (item : Array) (z : ℤ) → bits % 2 ^ (8 * element_size kind) ≡ element_bits kind y → IsElement kind y → slice_get p.arrays (array_number p f array) ≡ Some item
      → element_at new_arrays (array_number p f array) (pos a.index) ≡ Some z → ElementHeld l new_memory (array_number p f array) a.index item z
  held_there item z low number known at =
      let n = array_number p f array in
      let same = same_item item known in
      let type : kind ≡ item.element = sym a.named.kind_is ∙ ap (λ (x : Array). x.element) same in
      let is : load (element_size kind) new_memory (l.array n + element_size kind * a.index) ≡ element_bits kind y = load_stored (element_size kind) mem (element_place l p f array kind a.index) bits ∙ low in
      subst (ElementHeld l new_memory n a.index item) (element_there arrays n a.index y z at) (record {
        within = subst (λ (x : Array). a.index < x.length) same a.inside;
        bits = subst (λ (t : ElementType). load (element_size t) new_memory (l.array n + element_size t * a.index) ≡ element_bits t y) type is;
        number = subst (λ (t : ElementType). IsElement t y) type number;
      })

  -- another element of the array
  held_beside : (i : ℕ) (item : Array) (z : ℤ) → a.index ≢ i → slice_get p.arrays (array_number p f array) ≡ Some item
      → element_at new_arrays (array_number p f array) (pos i) ≡ Some z → ElementHeld l new_memory (array_number p f array) i item z
  held_beside i item z other known at =
      let n = array_number p f array in
      let old = held n i item z known a.named.kept (sym (element_beside arrays n a.index i y other) ∙ at) in
      let size = element_size item.element in
      let type : kind ≡ item.element = sym a.named.kind_is ∙ ap (λ (x : Array). x.element) (same_item item known) in
      let kept = subst (λ (t : ElementType). load (element_size t) (store (element_size t) mem (l.array n + element_size t * a.index) bits) (l.array n + element_size t * i) ≡ load (element_size t) mem (l.array n + element_size t * i)) (sym type)
      (load_apart size size mem (l.array n + size * a.index) bits (l.array n + size * i) (apart item.element (l.array n) (cases_lt a.index i))) in
      let same = subst (λ (t : ElementType). load (element_size t) new_memory (l.array n + element_size t * i) ≡ load (element_size t) mem (l.array n + element_size t * i)) type kept in
      record { within = old.within; bits = same ∙ old.bits; number = old.number }
    where
      apart : (t : ElementType) (start : ℕ) → ((a.index < i) ⊎ (i ≤ a.index))
          → ((start + element_size t * i + element_size t ≤ start + element_size t * a.index) ⊎ (start + element_size t * a.index + element_size t ≤ start + element_size t * i))
      apart t start (inl less) = inr (elements_apart t start a.index i less)
      apart t start (inr more) = inl (elements_apart t start i a.index (omega (arith, more, other)))

  -- an element of another array
  held_elsewhere : (n i : ℕ) (item : Array) (z : ℤ) → array_number p f array ≢ n → slice_get p.arrays n ≡ Some item → p.is_kept n ≡ true
      → element_at new_arrays n (pos i) ≡ Some z → ElementHeld l new_memory n i item z
  held_elsewhere n i item z other known kept at =
      let number = array_number p f array in
      let old = held n i item z known kept (sym (element_elsewhere arrays number n a.index i y other) ∙ at) in
      let size = element_size item.element in
      let ends = element_within item.element i item.length old.within in
      let clear = apart (l.array number) (l.array n) (element_size kind * a.index) (element_size kind) (size * i) size (array_bytes a.named.item) (array_bytes item) a.ends ends
      (w.apart number n a.named.item item other a.named.known known a.named.kept kept) in
      record { within = old.within; bits = load_apart size (element_size kind) mem (element_place l p f array kind a.index) bits (l.array n + size * i) clear ∙ old.bits; number = old.number }
    where
      apart : (here there offset size from width bytes many : ℕ) → offset + size ≤ bytes → from + width ≤ many → ((here + bytes ≤ there) ⊎ (there + many ≤ here))
          → ((there + from + width ≤ here + offset) ⊎ (here + offset + size ≤ there + from))
      apart here there offset size from width bytes many h g (inl less) = inr (omega (arith, h, less))
      apart here there offset size from width bytes many h g (inr more) = inl (omega (arith, g, more))

  -- memory has the arrays with the element
  arrays_stored : bits % 2 ^ (8 * element_size kind) ≡ element_bits kind y → IsElement kind y → ArraysHeld l p new_memory new_arrays
  arrays_stored low number n i item z known kept at =
      elim (cases_eq (array_number p f array) n) [
        | inl same ↦ subst (λ x. slice_get p.arrays x ≡ Some item → element_at new_arrays x (pos i) ≡ Some z → ElementHeld l new_memory x i item z) same (λ k e. one_array k e (cases_eq a.index i)) known at
        | inr other ↦ held_elsewhere n i item z other known kept at
      ]
    where
      one_array : slice_get p.arrays (array_number p f array) ≡ Some item → element_at new_arrays (array_number p f array) (pos i) ≡ Some z → ((a.index ≡ i) ⊎ (a.index ≢ i))
          → ElementHeld l new_memory (array_number p f array) i item z
      one_array k e (inl same) = subst (λ x. element_at new_arrays (array_number p f array) (pos x) ≡ Some z → ElementHeld l new_memory (array_number p f array) x item z) same (λ h. held_there item z low number k h) e
      one_array k e (inr other) = held_beside i item z other k e

module _ (m : Segments) (l : Layout) (p : LinkedProgram) (w : IsPlaced m l p) (typed : ProgramTyped p) (frame : Frame) (older : List Frame) (arrays : List (List ℤ)) (input output : List ℕ) (f : VersionedFunction) where
  -- the store itself
  element_put : (cells : List (Option Value)) (s : State) (array : ℕ) (v : Value) (kind : ElementType) (k : ℤ) → (a : Found m l p f array kind k) → v.ty ≡ read_type kind
      → Addressed m l p w frame.function f older arrays input output cells ((places_in l f).symbol (symbols.Array array)) (element_size kind * a.index) (form_of v) (place_address l f (frame.place + 1))
      (item.Store kind 7 6 (symbols.Array array) ∷ []) s
      → ComesTo m s (AtFrame l p (moved frame (frame.place + 1) cells) older (with_element arrays (array_number p f array) (unsigned_abs k) (stored kind v.num)) input (output ++ []))
  element_put cells s array v kind k a type h =
      let g = frame.function in
      let base = (places_in l f).symbol (symbols.Array array) in
      let place = element_place l p f array kind a.index in
      let size = element_size kind in
      let y = stored kind v.num in
      let at = h.address ∙ ap (λ n. n + size * a.index) a.named.base in
      let t = stored_in s size place (form_of v) in
      let does = element_stores kind m s (lo (pos base)) place at a.stores ∙ ap (λ x. Go (stored_in s size place x)) h.kept in
      let old = h.holds in
      let room = room_of m l p g f cells older arrays input output s w old in
      let from : SameFrom l.stack s.mem t.mem = λ q b. store_kept size s.mem place (form_of v) q (inr (omega (arith, b, a.within, w.scratch_below))) in
      let new = with_element arrays (array_number p f array) a.index y in
      let holds : Holds l p g f cells older new input output t = record {
        back = old.back;
        newest = stands_kept p s.mem t.mem (s.reg 2) old.back g f cells (λ q b. from q (omega (arith, b, room.above))) old.newest;
        waiting = waiting_kept l p s.mem t.mem g (s.reg 2 + frame_size f) old.back older (λ q b. from q (omega (arith, b, room.above))) old.waiting;
        depth = old.depth;
        arrays_held = arrays_stored m l p w f arrays s.mem array kind k y (form_of v) a old.arrays_held (stored_bits kind v type) (stored_number kind v.num);
        input_left = old.input_left;
        input_bytes = old.input_bytes;
        written = old.written;
      } in
      let ends : t.pc ≡ place_address l f (frame.place + 1) = sym h.code.ends in
      let index = ap (λ (z : ℤ). with_element arrays (array_number p f array) (unsigned_abs z) y) (sym a.index_is) in
      record {
        state = t;
        leads = one m s t (element_store kind 7 6 (lo (pos base))) h.code.stands.0 does;
        holds = subst (λ (x : List (List ℤ)). AtFrame l p (moved frame (frame.place + 1) cells) older x input (output ++ []) t) index (arrived m l p w typed frame older new input output f cells (frame.place + 1) t holds ends);
      }

  store_runs : (cells : List (Option Value)) (s : State) (array : ℕ) (x z : Operand) (v u : Value) (kind : ElementType) (before : ℤ) → Holds l p frame.function f cells older arrays input output s
      → Named l p f array kind → OperandFits f x → OperandFits f z → u.ty ≡ read_type kind → value_at cells x ≡ Some v → value_at cells z ≡ Some u → element_at arrays (array_number p f array) v.num ≡ Some before
      → Stretch m (places_in l f) s.pc (place_address l f (frame.place + 1)) (plain (operand_in (frame_of f) 5 x) ++ (plain (operand_in (frame_of f) 6 z) ++ (address_items kind array ++ (item.Store kind 7 6 (symbols.Array array) ∷ []))))
      → ComesTo m s (AtFrame l p (moved frame (frame.place + 1) cells) older (with_element arrays (array_number p f array) (unsigned_abs v.num) (stored kind u.num)) input (output ++ []))
  store_runs cells s array x z v u kind before h name x_fits z_fits type ev eu eb items =
      let end = place_address l f (frame.place + 1) in
      let a = found m l p w frame.function f arrays s.mem array kind v.num before name h.arrays_held eb in
      let last = item.Store kind 7 6 (symbols.Array array) ∷ [] in
      let rest = address_items kind array ++ last in
      reach_on m s _ _ (both_got m l p w typed frame older arrays input output f cells s x z v u end rest h x_fits z_fits ev eu items)
      (λ t k.
      let index = k.left ∙ form_index v a.index a.index_is (index_small kind a.index a.small) in
      reach_on m t _ _ (addressed m l p w frame.function f older arrays input output cells t kind array a.index (form_of u) end last k.holds index k.right a.small a.near k.code)
      (λ r j. element_put cells r array u kind v.num a type j))

-- ---- the rows

module _ (m : Segments) (l : Layout) (p : LinkedProgram) (w : IsPlaced m l p) (typed : ProgramTyped p) where
  pub load_at : (to array : ℕ) (x : Operand) → RowAt m l p (Load to array x)
  load_at to array x q frame older s a e =
      let f = a.function in
      let g = frame.function in
      let cells = frame.components in
      let checked = typed.functions g f a.holds.newest.known in
      let fits = all_at (StepFits f) f.body frame.place (Load to array x) e checked.versioned.steps in
      let types = checked.steps frame.place (Load to array x) e in
      let left = length f.body - frame.place in
      let store = store_of q frame in
      let n = array_number p f array in
      let system = linked_system p in
      needing_answers m l p s left system q frame older (value_at cells x)
      (λ v. needing (element_type p.arrays n) (λ kind. needing (element_at q.arrays n v.num) (λ z. sets frame.place store to (loaded kind z))))
      (λ v ev. needing_answers m l p s left system q frame older (element_type p.arrays n) (λ kind. needing (element_at q.arrays n v.num) (λ z. sets frame.place store to (loaded kind z)))
      (λ kind ek. needing_answers m l p s left system q frame older (element_at q.arrays n v.num) (λ z. sets frame.place store to (loaded kind z))
      (λ z ez.
      let name = named m l p w g f array kind a.holds.newest.known fits.1 ek in
      let same = kind_same m l p w g f array kind (element_of f array) name ek in
      let items = stretch m l p w typed frame older q.arrays q.input q.output s (Load to array x) a e in
      works m l p s left _
      (subst (λ (t : ElementType). ComesTo m s (AtFrame l p (moved frame (frame.place + 1) (slice_set cells to (Some (loaded t z)))) older q.arrays q.input (q.output ++ []))) same
      (load_runs m l p w typed frame older q.arrays q.input q.output f cells s to array x v (element_of f array) z a.holds name fits.0 fits.2 types.1 ev ez items)))))

  pub store_at : (array : ℕ) (x z : Operand) → RowAt m l p (Store array x z)
  store_at array x z q frame older s a e =
      let f = a.function in
      let g = frame.function in
      let cells = frame.components in
      let checked = typed.functions g f a.holds.newest.known in
      let fits = all_at (StepFits f) f.body frame.place (Store array x z) e checked.versioned.steps in
      let types = checked.steps frame.place (Store array x z) e in
      let left = length f.body - frame.place in
      let store = store_of q frame in
      let n = array_number p f array in
      let system = linked_system p in
      needing_answers m l p s left system q frame older (value_at cells x)
      (λ v. needing (value_at cells z) (λ u. needing (element_type p.arrays n) (λ kind. needing (element_at q.arrays n v.num) (λ before. Goes (frame.place + 1) (record store { arrays = with_element q.arrays n (unsigned_abs v.num) (stored kind u.num) }) []))))
      (λ v ev. needing_answers m l p s left system q frame older (value_at cells z)
      (λ u. needing (element_type p.arrays n) (λ kind. needing (element_at q.arrays n v.num) (λ before. Goes (frame.place + 1) (record store { arrays = with_element q.arrays n (unsigned_abs v.num) (stored kind u.num) }) [])))
      (λ u eu. needing_answers m l p s left system q frame older (element_type p.arrays n)
      (λ kind. needing (element_at q.arrays n v.num) (λ before. Goes (frame.place + 1) (record store { arrays = with_element q.arrays n (unsigned_abs v.num) (stored kind u.num) }) []))
      (λ kind ek. needing_answers m l p s left system q frame older (element_at q.arrays n v.num)
      (λ before. Goes (frame.place + 1) (record store { arrays = with_element q.arrays n (unsigned_abs v.num) (stored kind u.num) }) [])
      (λ before eb.
      let typed_value = operand_typed f cells z u a.holds.newest.typed eu types.1 in
      let name = named m l p w g f array kind a.holds.newest.known fits.0 ek in
      let same = kind_same m l p w g f array kind (element_of f array) name ek in
      let items = stretch m l p w typed frame older q.arrays q.input q.output s (Store array x z) a e in
      works m l p s left _
      (subst (λ (t : ElementType). ComesTo m s (AtFrame l p (moved frame (frame.place + 1) cells) older (with_element q.arrays n (unsigned_abs v.num) (stored t u.num)) q.input (q.output ++ []))) same
      (store_runs m l p w typed frame older q.arrays q.input q.output f cells s array x z v u (element_of f array) before a.holds name fits.1 fits.2 (typed_value.0 ∙ types.2) ev eu eb items))))))
