-- The words of a version begin with its frame.
use Rattle.std.proofs.Common.{◌≡◌, ℕ, zero, suc, ◌+◌, ◌*◌, ◌/◌, ◌%◌, ◌<◌, ◌≤◌, true, List, [], ◌∷◌, ◌++◌, length, map, refl, sym, ap, ◌∙◌, append_assoc, arith}
use Rattle.std.specs.Prelude.{pos, negsuc, neg_ℤ, nat_le, nat_lt}
use Rattle.std.specs.List.{flat_map}
use Rattle.std.proofs.lemmas.List.{map-append}
use Rattle.std.proofs.lemmas.Bool.Decides.{nat_tests}
use Rattle.rv64_isa.specs.declared.instr.Instr.{Instr}
use Rattle.rv64_isa.specs.declared.instr.Instr.TheVariants.{Add}
use Rattle.rv64_isa.specs.Words.{word_of}
use Rattle.rv64_abi.specs.Registers.{ra, sp, t0}
use Rattle.gimple_ir.specs.declared.versioned.VersionedFunction.{VersionedFunction}
use Rattle.rv64_frame.specs.Frames.{HasFewSlots, outgoing_of, frame_of, frame_size, return_in}
use Rattle.rv64_select.specs.declared.item.Item.{Item}
use Rattle.rv64_select.specs.Templates.{constant_in, constant, store_slot}
use Rattle.rv64_select.specs.Assembly.{plain, enter_code, bindings_items, step_items, assembly_of}
use Rattle.rv64_select.specs.Code.{laid, blank, label_offset, unfilled}
use Rattle.rv64_select.specs.Selected.{words_of_code}
use Rattle.final_link.specs.Members.{frame_constant, frame_code, HasFrame}
use Rattle.final_link.specs.Members as members
use Rattle.final_link.proofs.FrameLaws.{frame_is_read}

-- ---- the constant

tests_agree : (k : ℕ) → nat_lt k 2048 ≡ nat_le (suc k) 2048
tests_agree k = grind (arith, nat_tests)

in_word : (k : ℕ) → k < 8720 → nat_lt k 2147483648 ≡ true
in_word k h = grind (arith, nat_tests)

constant_by : (k : ℕ) → k < 8720 → constant t0 (negsuc k) ≡ frame_constant (suc k)
unfolding constant constant_in
constant_by k h = rw (tests_agree k, in_word k h) refl

frame_constant_is : (size : ℕ) → 16 ≤ size → size ≤ 8720 → constant t0 (neg_ℤ (pos size)) ≡ frame_constant size
frame_constant_is zero h g = absurd (omega arith)
frame_constant_is (suc k) h g = constant_by k (omega arith)

-- ---- instructions as they stand

laid_plain : (labels : ℕ → ℕ) (at : ℕ) (code : List Instr) (rest : List Item) → (more : List Instr) × (laid (blank labels) at (plain code ++ rest) ≡ code ++ more)
laid_plain labels at [] rest = (laid (blank labels) at rest, refl)
laid_plain labels at (i ∷ code) rest =
    let w = laid_plain labels (at + 4 * 1) code rest in
    (w.0, ap (λ more. i ∷ more) w.1)

begins : (size slot : ℕ) (labels : ℕ → ℕ) (rest : List Item) → constant t0 (neg_ℤ (pos size)) ≡ frame_constant size
    → (more : List Instr) × (laid (blank labels) 0 (plain (enter_code size slot) ++ rest) ≡ frame_code size ++ more)
begins size slot labels rest same =
    let w = laid_plain labels 0 (enter_code size slot) rest in
    let kept = store_slot ra slot in (
      kept ++ w.0,
      w.1
          ∙ ap (λ (first : List Instr). (first ++ (Add sp sp t0 ∷ kept)) ++ w.0) same
          ∙ append_assoc (frame_constant size) (Add sp sp t0 ∷ kept) w.0
          ∙ sym (append_assoc (frame_constant size) (Add sp sp t0 ∷ []) (kept ++ w.0)),
    )

-- ---- the frame

sixteens : (n : ℕ) → n * 16 % 16 ≡ 0
sixteens n = omega arith

frame_least : (f : VersionedFunction) → 16 ≤ frame_size f
frame_least f = omega arith

frame_most : (f : VersionedFunction) → HasFewSlots f → frame_size f ≤ 8720
frame_most f h = omega (arith, h.components, h.arguments)

pub has_frame : (f : VersionedFunction) → HasFewSlots f → HasFrame (words_of_code f)
unfolding words_of_code
has_frame f h =
    let size = frame_size f in
    let least = frame_least f in
    let most = frame_most f h in
    let entry = plain (enter_code size (return_in (frame_of f))) in
    let bound = bindings_items (frame_of f) 0 f.bindings in
    let body = flat_map (step_items (frame_of f) f) f.body in
    let labels = label_offset (assembly_of f) in
    let w = begins size (return_in (frame_of f)) labels (bound ++ body) (frame_constant_is size least most) in
    let code : unfilled (assembly_of f) ≡ frame_code size ++ w.0 = ap (laid (blank labels) 0) (append_assoc entry bound body) ∙ w.1 in
    record {
      size = size;
      rest = map word_of w.0;
      begins = ap (map word_of) code ∙ map-append word_of (frame_code size) w.0;
      least = least;
      most = most;
      even = sixteens ((8 * (outgoing_of f.body + length f.types + 1) + 15) / 16);
    }

-- the size that is read from the words
pub frame_is : (f : VersionedFunction) → HasFewSlots f → members.frame_size (words_of_code f) ≡ frame_size f
unfolding has_frame
frame_is f h = frame_is_read (words_of_code f) (has_frame f h)
