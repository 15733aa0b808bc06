-- The start of a whole program's image: its arrays in memory, and the way to the first statement of `main`.
use Rattle.std.proofs.Common.{◌≡◌, ℕ, suc, ◌+◌, ◌-◌, ◌*◌, ◌<◌, inl, inr, ℤ, pos, true, List, [], length, get_or, take, Option, Some, None, refl, sym, ap, ◌∙◌, subst, arith}
use Rattle.std.specs.Prelude.{slice_get, replicate, IsSome}
use Rattle.std.specs.List.{find, flat_map}
use Rattle.std.specs.Option.{option_map_or, option_and_then}
use Rattle.std.proofs.Math.Nat.{mul_comm}
use Rattle.std.proofs.lemmas.Nat.{mul-le}
use Rattle.std.proofs.lemmas.List.{get_or_append_left, get_or-append_right}
use Rattle.std.proofs.lemmas.List.Folds.{find_at}
use Rattle.std.proofs.lemmas.Grind.{flat_map-append}
use Rattle.gimple_ir.specs.Programs.{IsElement, IsProgramArray}
use Rattle.gimple_ir.specs.declared.types.Array.{Array}
use Rattle.gimple_ir.specs.declared.types.ElementType.{ElementType}
use Rattle.gimple_ir.specs.declared.types.ElementType.TheVariants as element
use Rattle.gimple_ir.specs.declared.types.ScalarType.{ScalarType}
use Rattle.gimple_ir.specs.declared.types.ScalarType.TheVariants.{Int, UnsignedInt, LongInt, LongUnsignedInt}
use Rattle.gimple_ir.specs.declared.merged.Merged.{Merged}
use Rattle.gimple_ir.specs.declared.merged.MergedArray.{MergedArray}
use Rattle.gimple_ir.specs.declared.plan.Plan.{Plan}
use Rattle.gimple_ir.specs.declared.plan.Version.{Version}
use Rattle.gimple_ir.specs.declared.versioned.VersionedFunction.{VersionedFunction}
use Rattle.gimple_meaning.specs.Systems.{first_numbers, first_arrays}
use Rattle.rv64_meaning.specs.Machine.{Segments, load}
use Rattle.rv64_meaning.specs.Loading.{memory_of, segments_of, start_of}
use Rattle.rv64_meaning.specs.Loading as loading
use Rattle.rv64_meaning.proofs.ByteLaws.{memory_data}
use Rattle.final_link.specs.Stubs.{start_address, start_stub}
use Rattle.final_link.specs.Image.{round_up}
use Rattle.final_link.specs.Names.{value_of}
use Rattle.final_link.specs.Arrays.{element_size, element_bytes, array_size, array_bytes, size_of, bytes_of, stored_arrays, zeroed_arrays}
use Rattle.final_link.specs.Symbols.{end_of}
use Rattle.final_link.specs.Placing.{is_first_of}
use Rattle.final_link.proofs.ArrayLaws.{end_from}
use Rattle.follow_laws.specs.Direct.{direct_symbols, direct_image}
use Rattle.follow_laws.specs.Relation.{StandsAt}
use Rattle.gimple_meaning.specs.Linked.{LinkedProgram}
use Rattle.follow_laws.specs.Layouts.{Layout}
use Rattle.follow_laws.specs.Related.{ElementHeld, ArraysHeld}
use Rattle.follow_laws.specs.Starts.{AtStart}
use Rattle.follow_laws.specs.Images.{Parts, start_in, segments_in, data_in, top_in}
use Rattle.follow_laws.specs.Plans.{linked_of}
use Rattle.follow_laws.specs.DirectImages.{layout_of, IsDirect}
use Rattle.follow_laws.specs.FirstStates.{StartIsAtStart}
use Rattle.follow_laws.proofs.ImageLists.{all_at, mapped_at, at_mapped}
use Rattle.follow_laws.proofs.LoadLaws.{parts_have_data}
use Rattle.follow_laws.proofs.ArrayLaws.{length-element, length-elements, length-bytes, size_at}
use Rattle.follow_laws.proofs.ByteLaws.{zeros_made, zero_at, zeros_behind, byte_at, end_even, element_zeros, zeroed_zero, element_number, load_is, number_at}
use Rattle.follow_laws.proofs.PlacedLaws.{order, parts, layout, text_end, image_is, data_is, fits, segments_are, array_at, start_stands, found}

-- ---- elements of an array

zero_element : (type : ElementType) → IsElement type (pos 0)
zero_element element.UnsignedChar = search arith
zero_element (element.Scalar Int) = search arith
zero_element (element.Scalar UnsignedInt) = search arith
zero_element (element.Scalar LongInt) = search arith
zero_element (element.Scalar LongUnsignedInt) = search arith

-- an element of an array with its first numbers
record First (a : Array) (i : ℕ) (z : ℤ) : Type 0 where
  within : i < a.length
  number : IsElement a.element z
  byte : (q : ℕ) → q < element_size a.element → get_or (array_bytes a) (i * element_size a.element + q) 0 ≡ get_or (element_bytes a.element z) q 0

first_number : (a : Array) (i : ℕ) (z : ℤ) → IsProgramArray a → slice_get (first_numbers a) i ≡ Some z → First a i z
first_number a i z h e =
    let type = a.element in
    let s = element_size type in
    let first = flat_map (element_bytes type) a.initial in
    let zeros : List ℕ = replicate (array_size a - length first) 0 in
    let long = length-elements type a.initial in
    elim (number_at a.initial (a.length - length a.initial) i z e) [
      | inl there ↦ record {
        within = omega (arith, there.1, h.within);
        number = all_at (IsElement type) a.initial i z there.0 h.initial;
        byte = λ q less.
            let place = end_even s a.initial i z there.0 in
            let room = mul-le (suc i) s (length a.initial) s there.1 (omega arith) in
            let step : suc i * s ≡ s + i * s = omega arith in
            get_or_append_left first zeros 0 (i * s + q) (omega (arith, long, room, step, less))
            ∙ ap (λ n. get_or first (n + q) 0) (sym place) ∙ byte_at (element_bytes type) (λ (y : ℤ). s) (length-element type) a.initial i z q there.0 less;
      }
      | inr past ↦ record {
        within = omega (arith, past.1, h.within);
        number = subst (IsElement type) (sym past.2) (zero_element type);
        byte = λ q less.
            let room = mul-le (length a.initial) s i s past.0 (omega arith) in
            get_or-append_right first zeros (length first) (i * s + q) 0 refl (omega (arith, long, room))
            ∙ zero_at zeros (i * s + q - length first) (zeros_made (array_size a - length first)) ∙ sym (zero_at (element_bytes type z) q (element_zeros type z past.2));
      }
    ]

some_of : {X : Type 0} (o : Option X) → IsSome o → (x : X) × (o ≡ Some x)
some_of None h = absurd cc
some_of (Some x) h = (x, refl)

module _ (plan : Plan) (merged : Merged) (functions : List VersionedFunction) (results : ℕ → ScalarType) (h : IsDirect plan merged functions) where
  abbrev l : Layout
  l = layout plan merged functions

  abbrev p : LinkedProgram
  p = linked_of plan merged functions results

  abbrev x : Parts
  x = parts plan merged functions

  abbrev ks : List ℕ
  ks = order plan merged functions

  -- ---- arrays

  -- the data segment begins with the bytes of all arrays in order, and has zeros behind
  data_byte : (k : ℕ) → get_or (data_in x) k 0 ≡ get_or (flat_map (bytes_of merged) ks) k 0
  data_byte k =
      let first = stored_arrays merged plan.arrays in
      let last = zeroed_arrays merged plan.arrays in
      let n = top_in x - start_in x - length x.stored in
      zeros_behind x.stored (replicate n 0) (flat_map (bytes_of merged) last) k (zeros_made n) (zeroed_zero merged plan.arrays)
      ∙ ap (λ (ys : List ℕ). get_or ys k 0) (sym (flat_map-append (bytes_of merged) first last))

  element_held : (text : List ℕ) (n i : ℕ) (a : Array) (z : ℤ) → slice_get p.arrays n ≡ Some a → p.is_kept n ≡ true → slice_get (first_numbers a) i ≡ Some z
      → ElementHeld l (memory_of text (start_in x) (data_in x)) n i a z
  element_held text n i a z there kept e =
      let mem = memory_of text (start_in x) (data_in x) in
      let type = a.element in
      let s = element_size type in
      let from = mapped_at (λ (y : MergedArray). y.item) merged.arrays n a there in
      let is : IsProgramArray a = subst IsProgramArray from.2 (all_at (λ (y : MergedArray). IsProgramArray y.item) merged.arrays n from.0 from.1 h.arrays) in
      let first = first_number a i z is e in
      let place = found plan merged functions h n kept in
      let size = size_of merged in
      let begin = round_up 4096 (text_end plan merged functions) in
      let offset = end_of size 0 (take place.0 ks) in
      let at = array_at plan merged functions h place.0 n place.1 in
      let shift = end_from size begin (take place.0 ks) in
      let start = data_is plan merged functions h in
      let takes : size n ≡ array_size a = size_at merged n from.0 from.1 ∙ ap array_size from.2 in
      let same_bytes : bytes_of merged n ≡ array_bytes a = ap (λ (o : Option MergedArray). option_map_or (λ (y : MergedArray). array_bytes y.item) o []) from.1 ∙ ap array_bytes from.2 in
      let address = l.array n + s * i in
      let flip = mul_comm s i in
      let room = mul-le (suc i) s a.length s first.within (omega arith) in
      let step : suc i * s ≡ s + i * s = omega arith in
      let bytes = element_bytes type z in
      let byte : (q : ℕ) → q < s → mem (address + q) ≡ get_or bytes q 0 = λ q less.
      let where_is : address - start_in x + q ≡ offset + (i * s + q) = omega (arith, at, shift, start, flip) in
      memory_data text (data_in x) (start_in x) address q (omega (arith, at, shift, start))
      ∙ ap (λ k. get_or (data_in x) k 0) where_is ∙ data_byte (offset + (i * s + q))
      ∙ byte_at (bytes_of merged) size (λ k. length-bytes merged k h.arrays) ks place.0 n (i * s + q) place.1 (omega (arith, takes, room, step, less))
      ∙ ap (λ (ys : List ℕ). get_or ys (i * s + q) 0) same_bytes ∙ first.byte q less in
      let long = length-element type z in
      record {
        within = first.within;
        bits = ap (λ k. load k mem address) (sym long) ∙ load_is bytes mem address (λ q less. byte q (omega (arith, less, long))) ∙ element_number type z;
        number = first.number;
      }

  arrays_held : (text : List ℕ) → ArraysHeld l p (memory_of text (start_in x) (data_in x)) (first_arrays p.arrays)
  arrays_held text n i a z there kept e =
      element_held text n i a z there kept (ap (λ (o : Option (List ℤ)). option_and_then (λ (ys : List ℤ). slice_get ys i) o) (sym (at_mapped first_numbers p.arrays n a there)) ∙ e)

  memory_is : (input : List ℕ) → (start_of (direct_image plan merged functions) input).mem ≡ memory_of (loading.text_of (direct_image plan merged functions)) (start_in x) (data_in x)
  memory_is input =
      let image = direct_image plan merged functions in
      let start = ap (λ (m : Segments). m.data_start) (segments_are plan merged functions h) in
      let bytes = ap loading.data_of (image_is plan merged functions) ∙ parts_have_data x (fits plan merged functions h) in
      ap (λ n. memory_of (loading.text_of image) n (loading.data_of image)) start ∙ ap (memory_of (loading.text_of image) (start_in x)) bytes

  pub start_arrays : (input : List ℕ) → ArraysHeld l p (start_of (direct_image plan merged functions) input).mem (first_arrays p.arrays)
  start_arrays input = subst (λ (mem : ℕ → ℕ). ArraysHeld l p mem (first_arrays p.arrays)) (sym (memory_is input)) (arrays_held (loading.text_of (direct_image plan merged functions)))

  -- ---- main

  record MainStands : Type 0 where
    function : VersionedFunction
    known : slice_get p.functions p.main ≡ Some function
    address : x.main ≡ l.address function.symbol

  main_stands : MainStands
  main_stands =
      let v = some_of (find (is_first_of merged.main) plan.versions) h.main in
      let version = v.0 in
      let known : slice_get plan.versions p.main ≡ Some version = sym (find_at (is_first_of merged.main) plan.versions) ∙ v.1 in
      let named = ap (λ (names : List (List ℕ)). slice_get names p.main) h.symbols ∙ at_mapped (λ (y : Version). y.symbol) plan.versions p.main version known in
      let from = mapped_at (λ (f : VersionedFunction). f.symbol) functions p.main version.symbol named in
      record {
        function = from.0;
        known = from.1;
        address = ap (λ (o : Option Version). option_map_or (λ (y : Version). value_of 0 y.symbol (direct_symbols functions merged plan.arrays)) o 0) v.1 ∙ ap l.address (sym from.2);
      }

pub start_is_at_start : StartIsAtStart
start_is_at_start plan merged functions results input h bytes =
    let p = linked_of plan merged functions results in
    let m = segments_in (parts plan merged functions) in
    let main = main_stands plan merged functions results h in
    let image = direct_image plan merged functions in
    subst (λ m. AtStart m (layout_of plan merged functions) p input (start_of image input)) (sym (segments_are plan merged functions h)) (record {
      main = main.function;
      known = main.known;
      stub = subst (λ n. StandsAt m start_address (start_stub (top_in (parts plan merged functions)) n)) main.address (start_stands plan merged functions h);
      place = refl;
      arrays = start_arrays plan merged functions results h input;
      input_left = refl;
      input_bytes = bytes;
      written = refl;
    })
