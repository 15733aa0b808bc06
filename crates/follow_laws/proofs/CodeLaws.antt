-- The code of functions at their addresses: each instruction has a word, and each function's code stands where those before it end.
use Rattle.std.proofs.Common.{◌≡◌, ℕ, zero, suc, ◌+◌, ◌*◌, ◌%◌, ◌^◌, ◌≤◌, ℤ, pos, ◌-ℤ◌, Bool, true, false, cond, max, List, [], ◌∷◌, ◌++◌, length, take, All, Some, refl, sym, ap, ◌∙◌, subst, arith, length-append}
use Rattle.std.specs.Prelude.{slice_get}
use Rattle.std.specs.List.{fold}
use Rattle.std.proofs.lemmas.Int.{ints}
use Rattle.std.proofs.lemmas.List.Elements.{All-head, All-tail}
use Rattle.gimple_ir.specs.declared.types.ElementType.{ElementType}
use Rattle.gimple_ir.specs.declared.types.ElementType.TheVariants as elements
use Rattle.gimple_ir.specs.declared.types.ScalarType.TheVariants as types
use Rattle.gimple_ir.specs.declared.versioned.VersionedFunction.{VersionedFunction}
use Rattle.rv64_isa.specs.Format.{IsRegister, IsSigned, IsEven}
use Rattle.rv64_isa.specs.Words.{InRange}
use Rattle.rv64_abi.specs.Offsets.{lo}
use Rattle.rv64_frame.specs.Frames.{frame_size}
use Rattle.rv64_select.specs.declared.item.Item.{Item}
use Rattle.rv64_select.specs.declared.item.Item.TheVariants as item
use Rattle.rv64_select.specs.Operations.{element_load, element_store}
use Rattle.rv64_select.specs.Assembly.{assembly_of}
use Rattle.rv64_select.specs.Code.{Places, words_of, words_in, laid, is_label, label_from, label_offset, resolved, places_of, code_of}
use Rattle.gimple_meaning.specs.Versioned.{IsVersioned}
use Rattle.rv64_select.proofs.FewSlots.{few_slots}
use Rattle.rv64_select.proofs.Laying.{words-cons, length-direct}
use Rattle.rv64_select.proofs.Bounds.{assembly-short}
use Rattle.rv64_select.proofs.Encodes.{distance_fits, lo_fits, upper_fits}
use Rattle.rv64_select.proofs.Fits.{ItemFits, AllFit, assembly_fits}
use Rattle.rv64_meaning.specs.Machine.{Segments}
use Rattle.final_link.specs.Image.{AllInRange, code_bytes}
use Rattle.final_link.specs.Symbols.{end_of}
use Rattle.final_link.proofs.CodeLaws.{code_bytes-nil, code_bytes-append}
use Rattle.follow_laws.specs.Relation.{StandsAt}
use Rattle.follow_laws.specs.Direct.{code_size, direct_code, largest_frame, address_of}
use Rattle.follow_laws.proofs.WayLaws.{stands_front, stands_back}
use Rattle.follow_laws.proofs.EncodingLaws.{all_append, call_encodes}
use Rattle.follow_laws.specs.DirectImages.{code_from}
use Rattle.follow_laws.proofs.ImageLists.{some_is, none_there}

-- ---- one function

abbrev IsPlace : ℕ → Type 0
IsPlace n = (n ≤ 2 ^ 19) × (n % 4 ≡ 0)

place_by : (b : Bool) (at found : ℕ) → IsPlace at → IsPlace found → IsPlace (cond b at found)
place_by true at found h k = h
place_by false at found h k = k

label_place : (l found at : ℕ) (items : List Item) → IsPlace found → at % 4 ≡ 0 → at + 4 * words_in items ≤ 2 ^ 19 → IsPlace (label_from l found at items)
label_place l found at [] h e k = h
label_place l found at (i ∷ is) h e k =
    label_place l (cond (is_label l i) at found) (at + 4 * words_of i) is (place_by (is_label l i) at found (omega (arith, words-cons i is), e) h) (omega arith) (omega (arith, words-cons i is))

abbrev Distance : ℤ → Type 0
Distance d = IsSigned (2 ^ 21) d × IsEven d

jump_fits : (base to from : ℕ) → IsPlace to → IsPlace from → Distance (pos (base + to) -ℤ pos (base + from))
jump_fits base to from h k =
    let same : pos (base + to) -ℤ pos (base + from) ≡ pos to -ℤ pos from = omega (arith, ints) in
    subst Distance (sym same) (distance_fits to from h.0 k.0 h.1 k.1)

load_encodes : (element : ElementType) (rd rs1 : ℕ) (z : ℤ) → IsRegister rd → IsRegister rs1 → InRange (element_load element rd rs1 (lo z))
load_encodes elements.UnsignedChar rd rs1 z h k = (h, k, lo_fits z)
load_encodes (elements.Scalar types.Int) rd rs1 z h k = (h, k, lo_fits z)
load_encodes (elements.Scalar types.UnsignedInt) rd rs1 z h k = (h, k, lo_fits z)
load_encodes (elements.Scalar types.LongInt) rd rs1 z h k = (h, k, lo_fits z)
load_encodes (elements.Scalar types.LongUnsignedInt) rd rs1 z h k = (h, k, lo_fits z)

store_encodes : (element : ElementType) (rs1 rs2 : ℕ) (z : ℤ) → IsRegister rs1 → IsRegister rs2 → InRange (element_store element rs1 rs2 (lo z))
store_encodes elements.UnsignedChar rs1 rs2 z h k = (h, k, lo_fits z)
store_encodes (elements.Scalar types.Int) rs1 rs2 z h k = (h, k, lo_fits z)
store_encodes (elements.Scalar types.UnsignedInt) rs1 rs2 z h k = (h, k, lo_fits z)
store_encodes (elements.Scalar types.LongInt) rs1 rs2 z h k = (h, k, lo_fits z)
store_encodes (elements.Scalar types.LongUnsignedInt) rs1 rs2 z h k = (h, k, lo_fits z)

module _ (f : VersionedFunction) (addresses : List ℕ → ℕ) (base : ℕ) where
  abbrev places : Places
  places = places_of addresses f base

  item_encodes : (off : ℕ) (i : Item) → ((l : ℕ) → IsPlace (label_offset (assembly_of f) l)) → IsPlace off → ItemFits f i → AllInRange (resolved places (base + off) i)
  item_encodes off (item.Plain i) p q h = (h, tt)
  item_encodes off (item.Label l) p q h = tt
  item_encodes off (item.Jump l) p q h = let d = jump_fits base (label_offset (assembly_of f) l) off (p l) q in ((omega arith, d.0, d.1), tt)
  item_encodes off (item.Call s) p q h = call_encodes (base + off) (places.symbol s)
  item_encodes off (item.Upper rd s) p q h = ((h.0, upper_fits (pos (places.symbol s))), tt)
  item_encodes off (item.Load element rd rs1 s) p q h = (load_encodes element rd rs1 (pos (places.symbol s)) h.0 h.1, tt)
  item_encodes off (item.Store element rs1 rs2 s) p q h = (store_encodes element rs1 rs2 (pos (places.symbol s)) h.0 h.1, tt)

  items_encode : (off : ℕ) (items : List Item) → ((l : ℕ) → IsPlace (label_offset (assembly_of f) l)) → off % 4 ≡ 0 → off + 4 * words_in items ≤ 2 ^ 19 → AllFit f items
      → AllInRange (laid (resolved places) (base + off) items)
  items_encode off [] p e k h = tt
  items_encode off (i ∷ is) p e k h =
      let next : base + (off + 4 * words_of i) ≡ base + off + 4 * words_of i = omega arith in
      let more = subst (λ n. AllInRange (laid (resolved places) n is)) next (items_encode (off + 4 * words_of i) is p (omega arith) (omega (arith, words-cons i is)) h.1) in
      all_append (resolved places (base + off) i) (laid (resolved places) (base + off + 4 * words_of i) is) (item_encodes off i p (omega (arith, words-cons i is), e) h.0) more

  pub code_encodes : IsVersioned f → AllInRange (code_of addresses f base)
  code_encodes v =
      let short = assembly-short f (few_slots f v) in
      let small : 4 * words_in (assembly_of f) ≤ 2 ^ 19 = omega (arith, short, v.bound) in
      let zero_place : IsPlace 0 = (omega arith, refl) in
      let here : base + 0 ≡ base = omega arith in
      subst (λ n. AllInRange (laid (resolved places) n (assembly_of f))) here
      (items_encode 0 (assembly_of f) (λ l. label_place l 0 0 (assembly_of f) zero_place refl (omega (arith, small))) refl (omega (arith, small)) (assembly_fits f v))

pub code_length : (f : VersionedFunction) (addresses : List ℕ → ℕ) (base : ℕ) → 4 * length (code_of addresses f base) ≡ code_size f
code_length f addresses base = ap (λ n. 4 * n) (length-direct (places_of addresses f base) base (assembly_of f))

-- ---- all functions

pub codes_encode : (addresses : List ℕ → ℕ) (at : ℕ) (fs : List VersionedFunction) → All IsVersioned fs → AllInRange (code_from addresses at fs)
codes_encode addresses at [] h = tt
codes_encode addresses at (f ∷ fs) h =
    all_append (code_of addresses f at) (code_from addresses (at + code_size f) fs) (code_encodes f addresses at (All-head IsVersioned f fs h)) (codes_encode addresses (at + code_size f) fs (All-tail IsVersioned f fs h))

pub codes_length : (addresses : List ℕ → ℕ) (at : ℕ) (fs : List VersionedFunction) → at + 4 * length (code_from addresses at fs) ≡ end_of code_size at fs
codes_length addresses at [] = omega arith
codes_length addresses at (f ∷ fs) =
    let joined = length-append (code_of addresses f at) (code_from addresses (at + code_size f) fs) in
    let one = code_length f addresses at in
    let more = codes_length addresses (at + code_size f) fs in
    let same : at + 4 * length (code_of addresses f at ++ code_from addresses (at + code_size f) fs) ≡ at + code_size f + 4 * length (code_from addresses (at + code_size f) fs) = omega (arith, joined, one) in
    same ∙ more

pub codes_stand : (m : Segments) (addresses : List ℕ → ℕ) (at : ℕ) (fs : List VersionedFunction) (i : ℕ) (f : VersionedFunction) → slice_get fs i ≡ Some f → StandsAt m at (code_from addresses at fs)
    → StandsAt m (end_of code_size at (take i fs)) (code_of addresses f (end_of code_size at (take i fs)))
codes_stand m addresses at [] i f e h = none_there f e
codes_stand m addresses at (g ∷ fs) zero f e h =
    subst (λ x. StandsAt m at (code_of addresses x at)) (some_is g f e) (stands_front m at (code_of addresses g at) (code_from addresses (at + code_size g) fs) h)
codes_stand m addresses at (g ∷ fs) (suc i) f e h =
    let next = ap (λ n. at + n) (code_length g addresses at) in
    codes_stand m addresses (at + code_size g) fs i f e
    (subst (λ n. StandsAt m n (code_from addresses (at + code_size g) fs)) next (stands_back m at (code_of addresses g at) (code_from addresses (at + code_size g) fs) h))

pub codes_bytes : (symbols : List (List ℕ × ℕ)) (at : ℕ) (fs : List VersionedFunction) → direct_code symbols at fs ≡ code_bytes (code_from (address_of symbols) at fs)
codes_bytes symbols at [] = sym code_bytes-nil
codes_bytes symbols at (f ∷ fs) =
    ap (λ (l : List ℕ). code_bytes (code_of (address_of symbols) f at) ++ l) (codes_bytes symbols (at + code_size f) fs)
    ∙ sym (code_bytes-append (code_of (address_of symbols) f at) (code_from (address_of symbols) (at + code_size f) fs))

pub codes_aligned : (at : ℕ) (fs : List VersionedFunction) → at % 4 ≡ 0 → end_of code_size at fs % 4 ≡ 0
codes_aligned at [] e = e
codes_aligned at (f ∷ fs) e = codes_aligned (at + code_size f) fs (omega (arith, e))

-- ---- frames

abbrev IsFrame : ℕ → Type 0
IsFrame n = (n ≤ 8720) × (n % 16 ≡ 0)

larger : (a b : ℕ) → IsFrame a → IsFrame b → IsFrame (max a b)
larger a b h k = (omega (arith, h.0, k.0), omega (arith, h.1, k.1))

frame_fits : (f : VersionedFunction) → IsVersioned f → IsFrame (frame_size f)
frame_fits f v = (omega (arith, (few_slots f v).components, (few_slots f v).arguments), omega arith)

frames_from : (least : ℕ) (fs : List VersionedFunction) → IsFrame least → All IsVersioned fs → IsFrame (fold (λ largest f. max largest (frame_size f)) least fs)
frames_from least [] h k = h
frames_from least (f ∷ fs) h k = frames_from (max least (frame_size f)) fs (larger least (frame_size f) h (frame_fits f (All-head IsVersioned f fs k))) (All-tail IsVersioned f fs k)

pub frames_small : (fs : List VersionedFunction) → All IsVersioned fs → (largest_frame fs ≤ 8720) × (largest_frame fs % 16 ≡ 0)
frames_small fs h = frames_from 0 fs (omega arith, refl) h

frames_grow : (least : ℕ) (fs : List VersionedFunction) → least ≤ fold (λ largest f. max largest (frame_size f)) least fs
frames_grow least [] = omega arith
frames_grow least (f ∷ fs) = omega (arith, frames_grow (max least (frame_size f)) fs)

frame_within_from : (least : ℕ) (fs : List VersionedFunction) (i : ℕ) (f : VersionedFunction) → slice_get fs i ≡ Some f → frame_size f ≤ fold (λ largest f. max largest (frame_size f)) least fs
frame_within_from least [] i f e = none_there f e
frame_within_from least (g ∷ fs) zero f e = let same = ap frame_size (some_is g f e) in omega (arith, same, frames_grow (max least (frame_size g)) fs)
frame_within_from least (g ∷ fs) (suc i) f e = frame_within_from (max least (frame_size g)) fs i f e

pub frame_within : (fs : List VersionedFunction) (i : ℕ) (f : VersionedFunction) → slice_get fs i ≡ Some f → frame_size f ≤ largest_frame fs
frame_within fs i f e = frame_within_from 0 fs i f e
