-- The instructions of the templates are in range.
use Rattle.std.proofs.Common.{◌≡◌, ℕ, zero, suc, ◌^◌, ◌<◌, ◌≤◌, ℤ, pos, negsuc, neg_ℤ, Bool, true, false, cond, List, [], ◌∷◌, ◌++◌, refl, arith}
use Rattle.std.specs.Prelude.{nat_le, ◌-ℤ◌}
use Rattle.std.proofs.lemmas.Int.{ints}
use Rattle.std.proofs.lemmas.Bool.Decides.{nat_tests}
use borrow.Author.Tests.{leb-true}
use Rattle.rv64_isa.specs.declared.instr.Instr.{Instr}
use Rattle.rv64_isa.specs.declared.instr.Instr.TheVariants.{Ld, Sd, Addi, Add, Slli, Jalr}
use Rattle.rv64_isa.specs.Format.{residue, IsSigned, IsRegister}
use Rattle.rv64_isa.proofs.FormatLaws.{residue_lt}
use Rattle.rv64_abi.specs.Offsets.{hi, lo}
use Rattle.rv64_select.specs.Templates.{is_signed_in, long_constant, constant_in, constant, load_slot}
use Rattle.final_link.specs.Image.{AllInRange}
use Rattle.follow_laws.specs.Encodings.{ConstantEncodes, LoadEncodes, StoreEncodes, CallEncodes, EnterEncodes, LeaveEncodes, StubsEncode}
use Rattle.follow_laws.proofs.NumberLaws.{signed_by, signed_12}

lo_fits : (z : ℤ) → IsSigned (2 ^ 12) (lo z)
lo_fits (pos n) = signed_by 2048 (lo (pos n)) (omega (arith, ints)) (omega (arith, ints))
lo_fits (negsuc n) = signed_by 2048 (lo (negsuc n)) (grind (arith, nat_tests, ints)) (grind (arith, nat_tests, ints))

upper_fits : (z : ℤ) → residue (2 ^ 20) (hi z) < 2 ^ 20
upper_fits z = residue_lt (2 ^ 20) (hi z) (omega arith)

pub all_append : (xs ys : List Instr) → AllInRange xs → AllInRange ys → AllInRange (xs ++ ys)
all_append [] ys h k = k
all_append (x ∷ xs) ys h k = (h.0, all_append xs ys h.1 k)

pub stubs_encode : StubsEncode
stubs_encode top scratch main = search (arith, upper_fits, lo_fits)

chosen : (b : Bool) (xs ys : List Instr) → (b ≡ true → AllInRange xs) → AllInRange ys → AllInRange (cond b xs ys)
chosen true xs ys h k = h refl
chosen false xs ys h k = k

constant_in_encodes : (n r : ℕ) (c : ℤ) → IsRegister r → AllInRange (constant_in n r c)
unfolding constant_in
constant_in_encodes zero r c h = tt
constant_in_encodes (suc n) r c h =
    let last = Slli r r (pos 12) ∷ Addi r r (lo c) ∷ [] in
    chosen (is_signed_in 12 c) (Addi r 0 c ∷ []) _ (λ e. ((h, omega arith, signed_12 c e), tt))
    (chosen (is_signed_in 32 c) (long_constant r c) (constant_in n r (hi c) ++ last) (λ _. ((h, upper_fits c), ((h, h, lo_fits c), tt)))
    (all_append (constant_in n r (hi c)) last (constant_in_encodes n r (hi c) h) ((h, h, omega arith), ((h, h, lo_fits c), tt))))

pub constant_encodes : ConstantEncodes
unfolding constant
constant_encodes r c h = constant_in_encodes 4 r c h

short_slot : (slot : ℕ) → nat_le slot 2047 ≡ true → slot < 2048
short_slot slot e = let h : slot ≤ 2047 = leb-true slot 2047 e in omega (arith, h)

pub load_encodes : LoadEncodes
load_encodes r slot h =
    chosen (nat_le slot 2047) (Ld r 2 (pos slot) ∷ []) _ (λ e. ((h, omega arith, short_slot slot e), tt))
    ((h, upper_fits (pos slot)), ((h, h, omega arith), ((h, h, lo_fits (pos slot)), tt)))

pub store_encodes : StoreEncodes
store_encodes r slot h =
    chosen (nat_le slot 2047) (Sd 2 r (pos slot) ∷ []) _ (λ e. ((omega arith, h, short_slot slot e), tt))
    ((omega arith, upper_fits (pos slot)), ((omega arith, omega arith, omega arith), ((omega arith, h, lo_fits (pos slot)), tt)))

pub call_encodes : CallEncodes
call_encodes from to = let d = pos to -ℤ pos from in ((omega arith, upper_fits d), ((omega arith, omega arith, lo_fits d), tt))

pub enter_encodes : EnterEncodes
enter_encodes size slot =
    all_append (constant 5 (neg_ℤ (pos size))) _ (constant_encodes 5 (neg_ℤ (pos size)) (omega arith)) ((omega arith, omega arith, omega arith), store_encodes 1 slot (omega arith))

pub leave_encodes : LeaveEncodes
leave_encodes size slot =
    let last : AllInRange (Add 2 2 5 ∷ Jalr 0 1 (pos 0) ∷ []) = search arith in
    all_append (load_slot 1 slot) _ (load_encodes 1 slot (omega arith)) (all_append (constant 5 (pos size)) _ (constant_encodes 5 (pos size) (omega arith)) last)
