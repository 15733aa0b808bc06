-- The size of a frame is read from the words that make it.
use Rattle.std.proofs.Common.{◌≡◌, ℕ, zero, suc, ◌<◌, ◌≤◌, Bool, true, false, List, [], ◌∷◌, ◌++◌, map, refl, ap, ◌∙◌, leb-true, arith}
use Rattle.std.specs.Prelude.{max, pos, neg_ℤ, nat_le, if◌then◌else◌}
use Rattle.std.specs.List.{AllByRecursion, fold}
use Rattle.std.proofs.lemmas.Bool.Decides.{nat_tests}
use Rattle.std.proofs.lemmas.Int.{ints}
use Rattle.rv64_isa.specs.declared.instr.Instr.{Instr}
use Rattle.rv64_isa.specs.declared.instr.Instr.TheVariants.{Lui, Addi, Addiw, Add}
use Rattle.rv64_isa.specs.Words.{word_of}
use Rattle.rv64_abi.specs.Offsets.{lo, upper_of}
use Rattle.elf_container.specs.declared.relocatable.RelocObject.{RelocObject}
use Rattle.gimple_ir.specs.declared.plan.Version.{Version}
use Rattle.final_link.specs.declared.members.Member.{Member}
use Rattle.final_link.specs.Members.{frame_code, frame_size, HasFrame, member_words, version_frame, largest_frame}
use Rattle.final_link.proofs.MemberLaws.{by_name}

abbrev code_by : Bool → ℕ → List Instr
code_by b size = (if b then Addi 5 0 (neg_ℤ (pos size)) ∷ [] else Lui 5 (upper_of (neg_ℤ (pos size))) ∷ Addiw 5 5 (lo (neg_ℤ (pos size))) ∷ []) ++ (Add 2 2 5 ∷ [])

short_frame : (k : ℕ) (rest : List ℕ) → k < 2048 → frame_size (map word_of (code_by true (suc k)) ++ rest) ≡ suc k
unfolding frame_size
short_frame k rest h = grind (arith, nat_tests, ints)

long_frame : (k : ℕ) (rest : List ℕ) → 2048 ≤ k → k < 8720 → frame_size (map word_of (code_by false (suc k)) ++ rest) ≡ suc k
unfolding frame_size
long_frame k rest h g = grind (arith, nat_tests, ints)

frame_by : (b : Bool) (k : ℕ) (rest : List ℕ) → nat_le (suc k) 2048 ≡ b → k < 8720 → frame_size (map word_of (code_by b (suc k)) ++ rest) ≡ suc k
frame_by true k rest e h = short_frame k rest (omega (arith, leb-true (suc k) 2048 e))
frame_by false k rest e h = long_frame k rest (grind (arith, nat_tests)) h

frame_of_size : (size : ℕ) (rest : List ℕ) → 16 ≤ size → size ≤ 8720 → frame_size (map word_of (frame_code size) ++ rest) ≡ size
frame_of_size zero rest least most = absurd (omega arith)
frame_of_size (suc k) rest least most = frame_by (nat_le (suc k) 2048) k rest refl (omega arith)

pub frame_is_read : (words : List ℕ) (h : HasFrame words) → frame_size words ≡ h.size
frame_is_read words h = ap frame_size h.begins ∙ frame_of_size h.size h.rest h.least h.most

-- ---- the largest one

all_small : (parts : List RelocObject) (members : List (List ℕ × Member)) → AllByRecursion (λ e. HasFrame (member_words parts e.1)) members
    → AllByRecursion (λ e. frame_size (member_words parts e.1) ≤ 8720) members
all_small parts [] h = tt
all_small parts (e ∷ es) h = (omega (arith, frame_is_read (member_words parts e.1) h.0, h.0.most), all_small parts es h.1)

no_frame : (parts : List RelocObject) → frame_size (member_words parts (record { part = 0; start = 0; size = 0 })) ≤ 8720
unfolding frame_size
no_frame parts = omega arith

version_small : (parts : List RelocObject) (members : List (List ℕ × Member)) (v : Version) → AllByRecursion (λ e. HasFrame (member_words parts e.1)) members → version_frame parts members v ≤ 8720
version_small parts members v h =
    by_name (λ (m : Member). frame_size (member_words parts m) ≤ 8720) (record { part = 0; start = 0; size = 0 }) v.symbol members (no_frame parts) (all_small parts members h)

largest_from : (parts : List RelocObject) (members : List (List ℕ × Member)) (largest : ℕ) (versions : List Version) → AllByRecursion (λ e. HasFrame (member_words parts e.1)) members
    → largest ≤ 8720 → fold (λ n v. max n (version_frame parts members v)) largest versions ≤ 8720
largest_from parts members largest [] h le = le
largest_from parts members largest (v ∷ vs) h le =
    largest_from parts members (max largest (version_frame parts members v)) vs h (omega (arith, le, version_small parts members v h))

pub largest_small : (parts : List RelocObject) (members : List (List ℕ × Member)) (versions : List Version) → AllByRecursion (λ e. HasFrame (member_words parts e.1)) members
    → largest_frame parts members versions ≤ 8720
largest_small parts members versions h = largest_from parts members 0 versions h (omega arith)
