-- Where the image of a plan has what the program of its symbols asks for.
use Rattle.std.proofs.Common.{◌≡◌, ℕ, ◌+◌, ◌%◌, ◌≤◌, inl, inr, Bool, true, false, List, [], ◌∷◌, ◌++◌, length, take, map, All, Some, None, refl, sym, ap, ◌∙◌, subst, arith}
use Rattle.std.specs.Prelude.{slice_get, nat_eq, codes}
use Rattle.std.specs.List.{list_any, position_or_len}
use Rattle.std.specs.Str.{bytes_eq}
use Rattle.std.proofs.lemmas.Bool.{cases_lt}
use Rattle.std.proofs.Math.Nat.{mul_comm}
use Rattle.std.proofs.lemmas.List.{map-append}
use Rattle.std.proofs.lemmas.List.Folds.{find_at}
use Rattle.std.proofs.lemmas.Slice.Eq.{bytes_eq-Decides}
use Rattle.gimple_ir.specs.Names.{repeats_after}
use Rattle.gimple_ir.specs.declared.types.Array.{Array}
use Rattle.gimple_ir.specs.declared.types.ScalarType.{ScalarType}
use Rattle.gimple_ir.specs.declared.merged.Merged.{Merged}
use Rattle.gimple_ir.specs.declared.merged.MergedArray.{MergedArray}
use Rattle.gimple_ir.specs.declared.plan.Plan.{Plan}
use Rattle.gimple_ir.specs.declared.unit.ArrayUse.{ArrayUse}
use Rattle.gimple_ir.specs.declared.versioned.VersionedFunction.{VersionedFunction}
use Rattle.rv64_meaning.specs.Loading.{segments_of, load_fault_of}
use Rattle.rv64_select.specs.Code.{code_of}
use Rattle.final_link.specs.Stubs.{start_address, functions_address, putchar_address, getchar_address, start_stub, putchar_stub, getchar_stub, stubs}
use Rattle.final_link.specs.Image.{code_bytes, round_up, image_with}
use Rattle.final_link.specs.Arrays.{element_size, array_size, size_of, array_symbol}
use Rattle.final_link.specs.Symbols.{end_of, places_of, stub_symbols, array_symbols, arrays_in_order}
use Rattle.final_link.proofs.ArrayLaws.{end_from}
use Rattle.final_link.proofs.PlaceLaws.{end_grows}
use Rattle.follow_laws.specs.Direct.{code_size, direct_symbols, direct_image}
use Rattle.follow_laws.specs.Relation.{StandsAt}
use Rattle.follow_laws.proofs.ImageLaws.{length-code_bytes}
use Rattle.follow_laws.proofs.WayLaws.{stands_front, stands_back}
use Rattle.follow_laws.specs.Layouts.{Layout, FunctionPlaced, StubsPlaced, ArrayPlaced, UsePlaced, IsPlaced, function_code}
use Rattle.follow_laws.specs.Layouts as machine
use Rattle.follow_laws.specs.Images.{Parts, PartsFit, arrays_in, scratch_in, top_in, start_in, image_in, segments_in}
use Rattle.follow_laws.specs.Plans.{linked_of}
use Rattle.follow_laws.specs.DirectImages.{symbol_address, parts_of, layout_of, UseIsKept, IsDirect, DirectLoads, DirectIsPlaced}
use Rattle.follow_laws.proofs.ImageLists.{some_is, all_at, in_front, behind, number_found, find_passes, mapped_at, at_mapped, place_at, ends_within, ends_before, end_aligned, repeats_behind, value_at}
use Rattle.follow_laws.proofs.LoadLaws.{parts_load, parts_have_segments, parts_have_code}
use Rattle.follow_laws.proofs.CodeLaws.{code_length, codes_encode, codes_length, codes_stand, codes_bytes, codes_aligned, frames_small, frame_within}
use Rattle.follow_laws.proofs.ArrayLaws.{size_aligned, both_end, size_at, ordered}

-- the names of items, whatever stands beside them
names_same : {A : Type 0} (name : A → List ℕ) (size : A → ℕ) (at : ℕ) (xs : List A)
    → map (λ (e : List ℕ × ℕ). e.0) (places_of name size at xs) ≡ map (λ (e : List ℕ × A). e.0) (map (λ x. (name x, x)) xs)
names_same name size at [] = refl
names_same name size at (x ∷ xs) = ap (λ (l : List (List ℕ)). name x ∷ l) (names_same name size (at + size x) xs)

module _ (plan : Plan) (merged : Merged) (functions : List VersionedFunction) where
  abbrev pub order : List ℕ
  order = arrays_in_order merged plan.arrays

  abbrev pub parts : Parts
  parts = parts_of plan merged functions

  abbrev pub layout : Layout
  layout = layout_of plan merged functions

  abbrev pub text_end : ℕ
  text_end = end_of code_size functions_address functions

  pub image_is : direct_image plan merged functions ≡ image_in parts
  unfolding direct_image
  image_is = ap (λ (l : List ℕ). image_with parts.main parts.frame l parts.stored parts.zeroed) (codes_bytes (direct_symbols functions merged plan.arrays) functions_address functions)

  module _ (h : IsDirect plan merged functions) where
    pub data_is : start_in parts ≡ round_up 4096 text_end
    data_is =
        let all = codes_length (symbol_address plan merged functions) functions_address functions in
        let words = length-code_bytes parts.code in
        let same : start_address + (100 + length (code_bytes parts.code)) ≡ text_end = omega (arith, all, words) in
        ap (round_up 4096) same

    pub arrays_are : arrays_in parts ≡ end_of (size_of merged) 0 order
    arrays_are = both_end merged plan.arrays h.arrays

    pub fits : PartsFit parts
    fits =
        let all = codes_length (symbol_address plan merged functions) functions_address functions in
        let frame = frames_small functions h.versioned in
        let total = arrays_are in
        record { text = omega (arith, all, h.text); room = omega (arith, total, h.size, frame.0) }

    pub segments_are : segments_of (direct_image plan merged functions) ≡ segments_in parts
    segments_are = ap segments_of image_is ∙ parts_have_segments parts fits

    pub loads : load_fault_of (direct_image plan merged functions) ≡ None
    loads = ap load_fault_of image_is ∙ parts_load parts fits

    -- ---- symbols

    at_symbol : (i : ℕ) (name : List ℕ) (v : ℕ) → slice_get (direct_symbols functions merged plan.arrays) i ≡ Some (name, v) → layout.address name ≡ v
    at_symbol i name v e = value_at 0 [] (direct_symbols functions merged plan.arrays) i name v h.differ e

    abbrev function_symbols : List (List ℕ × ℕ)
    function_symbols = places_of (λ (f : VersionedFunction). f.symbol) code_size functions_address functions

    abbrev data_symbols : List (List ℕ × ℕ)
    data_symbols = array_symbols merged plan.arrays text_end

    pub function_at : (g : ℕ) (f : VersionedFunction) → slice_get functions g ≡ Some f → layout.address f.symbol ≡ end_of code_size functions_address (take g functions)
    unfolding direct_symbols
    function_at g f e =
        let at = end_of code_size functions_address (take g functions) in
        at_symbol (length stub_symbols + g) f.symbol at
        (behind stub_symbols (function_symbols ++ data_symbols) g ∙ in_front function_symbols data_symbols g (f.symbol, at) (place_at (λ (x : VersionedFunction). x.symbol) code_size functions_address functions g f e))

    pub array_at : (j k : ℕ) → slice_get order j ≡ Some k → layout.array k ≡ end_of (size_of merged) (round_up 4096 text_end) (take j order)
    unfolding direct_symbols
    array_at j k e =
        let at = end_of (size_of merged) (round_up 4096 text_end) (take j order) in
        at_symbol (length stub_symbols + (length function_symbols + j)) (array_symbol merged k) at
        (behind stub_symbols (function_symbols ++ data_symbols) (length function_symbols + j) ∙ behind function_symbols data_symbols j
        ∙ place_at (array_symbol merged) (size_of merged) (round_up 4096 text_end) order j k e)

    putchar_named : layout.address (codes "__builtin_putchar") ≡ putchar_address
    unfolding direct_symbols
    putchar_named = at_symbol 0 (codes "__builtin_putchar") putchar_address refl

    getchar_named : layout.address (codes "__builtin_getchar") ≡ getchar_address
    unfolding direct_symbols
    getchar_named = at_symbol 1 (codes "__builtin_getchar") getchar_address refl

    -- the names of arrays are all different
    array_names : repeats_after (map (λ (e : List ℕ × ℕ). e.0) stub_symbols ++ map (λ (e : List ℕ × ℕ). e.0) function_symbols) (map (λ (e : List ℕ × ℕ). e.0) data_symbols) ≡ false
    unfolding direct_symbols
    array_names =
        let first = map (λ (e : List ℕ × ℕ). e.0) stub_symbols in
        let second = map (λ (e : List ℕ × ℕ). e.0) function_symbols in
        let third = map (λ (e : List ℕ × ℕ). e.0) data_symbols in
        let parted : map (λ (e : List ℕ × ℕ). e.0) (stub_symbols ++ (function_symbols ++ data_symbols)) ≡ first ++ (second ++ third) =
        map-append (λ (e : List ℕ × ℕ). e.0) stub_symbols (function_symbols ++ data_symbols) ∙ ap (λ (l : List (List ℕ)). first ++ l) (map-append (λ (e : List ℕ × ℕ). e.0) function_symbols data_symbols) in
        repeats_behind first second third (repeats_behind [] first (second ++ third) (ap (repeats_after []) (sym parted) ∙ h.differ))

    pub array_named_is : (results : ℕ → ScalarType) (j k : ℕ) → slice_get order j ≡ Some k → (linked_of plan merged functions results).array_named (array_symbol merged k) ≡ k
    array_named_is results j k e =
        let before = map (λ (e : List ℕ × ℕ). e.0) stub_symbols ++ map (λ (e : List ℕ × ℕ). e.0) function_symbols in
        let entries = map (λ k. (array_symbol merged k, k)) order in
        value_at (length merged.arrays) before entries j (array_symbol merged k) k (ap (repeats_after before) (sym (names_same (array_symbol merged) (size_of merged) (round_up 4096 text_end) order)) ∙ array_names)
        (at_mapped (λ k. (array_symbol merged k, k)) order j k e)

    -- ---- the text

    pub all_stand : StandsAt (segments_in parts) start_address (stubs (top_in parts) (scratch_in parts) parts.main ++ parts.code)
    all_stand = parts_have_code parts (codes_encode (symbol_address plan merged functions) functions_address functions h.versioned)

    pub start_stands : StandsAt (segments_in parts) start_address (start_stub (top_in parts) parts.main)
    start_stands =
        let m = segments_in parts in
        let others = putchar_stub (scratch_in parts) ++ getchar_stub (scratch_in parts) in
        stands_front m 0x10000 (start_stub (top_in parts) parts.main) others (stands_front m 0x10000 (stubs (top_in parts) (scratch_in parts) parts.main) parts.code all_stand)

    stubs_placed : StubsPlaced (segments_in parts) layout
    stubs_placed =
        let m = segments_in parts in
        let scratch = scratch_in parts in
        let others = putchar_stub scratch ++ getchar_stub scratch in
        let front = stands_front m 0x10000 (stubs (top_in parts) scratch parts.main) parts.code all_stand in
        let behind_start = stands_back m 0x10000 (start_stub (top_in parts) parts.main) others front in
        record {
          putchar = stands_front m 0x10018 (putchar_stub scratch) (getchar_stub scratch) behind_start;
          getchar = stands_back m 0x10018 (putchar_stub scratch) (getchar_stub scratch) behind_start;
          putchar_named = putchar_named;
          getchar_named = getchar_named;
          ending = start_stands.1.1.1.1;
        }

    function_placed : (g : ℕ) (f : VersionedFunction) → slice_get functions g ≡ Some f → FunctionPlaced (segments_in parts) layout f
    function_placed g f e =
        let m = segments_in parts in
        let at = end_of code_size functions_address (take g functions) in
        let place = function_at g f e in
        let bodies = stands_back m 0x10000 (stubs (top_in parts) (scratch_in parts) parts.main) parts.code all_stand in
        let whole = code_length f layout.address (layout.address f.symbol) in
        record {
          code = subst (λ n. StandsAt m n (code_of layout.address f n)) (sym place) (codes_stand m layout.address functions_address functions g f e bodies);
          near = omega (arith, place, whole, ends_within code_size functions_address functions g f e, h.text);
          aligned = ap (λ n. n % 4) place ∙ codes_aligned functions_address (take g functions) refl;
          size = frame_within functions g f e;
        }

    -- ---- arrays

    pub found : (n : ℕ) → list_any (nat_eq n) plan.arrays ≡ true → (j : ℕ) × (slice_get order j ≡ Some n)
    found n kept = let first = number_found n plan.arrays kept in ordered merged plan.arrays first.0 n first.1

    -- what an array takes
    pub taken : (n : ℕ) (a : Array) → slice_get (map (λ (x : MergedArray). x.item) merged.arrays) n ≡ Some a → machine.array_bytes a ≤ size_of merged n
    taken n a e =
        let there = mapped_at (λ (x : MergedArray). x.item) merged.arrays n a e in
        let size : size_of merged n ≡ array_size a = size_at merged n there.0 there.1 ∙ ap array_size there.2 in
        omega (arith, size, mul_comm a.length (element_size a.element))

    array_placed : (n : ℕ) (a : Array) → slice_get (map (λ (x : MergedArray). x.item) merged.arrays) n ≡ Some a → list_any (nat_eq n) plan.arrays ≡ true → ArrayPlaced (segments_in parts) layout n a
    array_placed n a e kept =
        let place = found n kept in
        let size = size_of merged in
        let from = round_up 4096 text_end in
        let at = array_at place.0 n place.1 in
        let start = data_is in
        let total = arrays_are in
        let within = ends_within size from order place.0 n place.1 in
        let even = end_aligned size from (take place.0 order) (size_aligned merged) (omega arith) in
        record {
          aligned = ap (λ k. k % 8) at ∙ even;
          above = omega (arith, at, start, end_grows size from (take place.0 order));
          below = omega (arith, at, start, total, within, taken n a e, end_from size from order);
        }

    arrays_apart : (results : ℕ → ScalarType) → machine.ArraysApart layout (linked_of plan merged functions results)
    arrays_apart results n k a b differ ea eb kept_a kept_b =
        let i = found n kept_a in
        let j = found k kept_b in
        let size = size_of merged in
        let from = round_up 4096 text_end in
        let at_i = array_at i.0 n i.1 in
        let at_j = array_at j.0 k j.1 in
        elim (cases_lt i.0 j.0) [
          | inl p ↦ inl (omega (arith, at_i, at_j, ends_before size from order i.0 j.0 n i.1 p, taken n a ea))
          | inr p ↦
              elim (cases_lt j.0 i.0) [
                | inl q ↦ inr (omega (arith, at_i, at_j, ends_before size from order j.0 i.0 k j.1 q, taken k b eb))
                | inr q ↦
                    let same : i.0 ≡ j.0 = omega (arith, p, q) in
                    absurd (differ (some_is n k (sym i.1 ∙ ap (slice_get order) same ∙ j.1)))
              ]
        ]

    use_placed : (results : ℕ → ScalarType) (g k : ℕ) (f : VersionedFunction) (u : ArrayUse) → slice_get functions g ≡ Some f → slice_get f.arrays k ≡ Some u → UsePlaced layout (linked_of plan merged functions results) u
    use_placed results g k f u e at =
        let p = linked_of plan merged functions results in
        let use_is = all_at (UseIsKept plan merged) f.arrays k u at (all_at (λ (x : VersionedFunction). All (UseIsKept plan merged) x.arrays) functions g f e h.uses) in
        let place = found use_is.number use_is.kept in
        let named : p.array_named u.symbol ≡ use_is.number = ap p.array_named use_is.symbol ∙ array_named_is results place.0 use_is.number place.1 in
        record {
          kept = ap p.is_kept named ∙ use_is.kept;
          element = λ a there.
              let from = mapped_at (λ (x : MergedArray). x.item) merged.arrays use_is.number a (ap (slice_get p.arrays) (sym named) ∙ there) in
              ap (λ (x : Array). x.element) (sym from.2) ∙ use_is.element from.0 from.1;
          address = ap layout.address use_is.symbol ∙ ap layout.array (sym named);
        }

    call_placed : (symbol : List ℕ) (callee : VersionedFunction) → slice_get functions (position_or_len (λ (f : VersionedFunction). bytes_eq symbol f.symbol) functions) ≡ Some callee → layout.address symbol ≡ layout.address callee.symbol
    call_placed symbol callee e =
        let test : VersionedFunction → Bool = λ (f : VersionedFunction). bytes_eq symbol f.symbol in
        ap layout.address ((bytes_eq-Decides symbol callee.symbol).0 (find_passes test functions callee (find_at test functions ∙ e)))

    pub is_placed : (results : ℕ → ScalarType) → IsPlaced (segments_in parts) layout (linked_of plan merged functions results)
    is_placed results =
        let frame = frames_small functions h.versioned in
        let start = data_is in
        let total = arrays_are in
        record {
          functions = function_placed;
          stubs = stubs_placed;
          arrays = array_placed;
          apart = arrays_apart results;
          uses = use_placed results;
          calls = λ g k f callee symbol known at called. call_placed symbol callee called;
          scratch_above = omega arith;
          scratch_below = omega arith;
          end = refl;
          near = omega (arith, start, total, h.text, h.size, frame.0);
          stack_aligned = omega arith;
          frame_aligned = frame.1;
        }

pub direct_loads : DirectLoads
direct_loads plan merged functions h = loads plan merged functions h

pub direct_is_placed : DirectIsPlaced
direct_is_placed plan merged functions results h =
    subst (λ m. IsPlaced m (layout_of plan merged functions) (linked_of plan merged functions results)) (sym (segments_are plan merged functions h)) (is_placed plan merged functions h results)
