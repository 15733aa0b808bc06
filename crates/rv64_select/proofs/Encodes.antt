-- The instructions of the templates have registers and immediates in range.
use Rattle.std.proofs.Common.{◌≡◌, ℕ, zero, suc, ◌+◌, ◌-◌, ◌%◌, ◌^◌, ◌<◌, ◌≤◌, ℤ, pos, negsuc, neg_ℤ, ◌-ℤ◌, ◌<ℤ◌, Bool, true, false, cond, List, [], ◌∷◌, ◌++◌, inl, inr, refl, sym, subst, arith}
use Rattle.std.specs.Prelude.{nat_le}
use Rattle.std.specs.List.{AllByRecursion}
use Rattle.std.proofs.lemmas.Int.{ints}
use Rattle.std.proofs.lemmas.Bool.{cases_lt}
use Rattle.std.proofs.lemmas.Bool.Decides.{nat_tests}
use borrow.Author.Tests.{leb-true, ltb-true}
use Rattle.gimple_ir.specs.declared.types.ScalarType.{ScalarType}
use Rattle.gimple_ir.specs.declared.types.ScalarType.TheVariants as types
use Rattle.gimple_ir.specs.declared.types.ElementType.{ElementType}
use Rattle.gimple_ir.specs.declared.types.ElementType.TheVariants as elements
use Rattle.gimple_ir.specs.declared.types.UnaryOp.{UnaryOp}
use Rattle.gimple_ir.specs.declared.types.UnaryOp.TheVariants as unary
use Rattle.gimple_ir.specs.declared.types.BinaryOp.{BinaryOp}
use Rattle.gimple_ir.specs.declared.types.BinaryOp.TheVariants as binary
use Rattle.rv64_isa.specs.declared.instr.Instr.{Instr}
use Rattle.rv64_isa.specs.declared.instr.Instr.TheVariants.{Lui, Ld, Sd, Addi, Add, Slli, Jalr}
use Rattle.rv64_isa.specs.Format.{residue, IsSigned, IsEven, IsRegister}
use Rattle.rv64_isa.specs.Words.{InRange}
use Rattle.rv64_isa.proofs.FormatLaws.{residue_lt}
use Rattle.rv64_abi.specs.Offsets.{hi, lo, upper_of}
use Rattle.rv64_select.specs.Templates.{is_signed_in, long_constant, constant_in, constant, load_slot, store_slot}
use Rattle.rv64_select.specs.Operations.{branch, operation, unary_operation, conversion, scaling, element_load, element_store}
use Rattle.rv64_select.specs.Assembly.{enter_code, leave_code}

pub all_append : {X : Type 0} (P : X → Type 0) (xs ys : List X) → AllByRecursion P xs → AllByRecursion P ys → AllByRecursion P (xs ++ ys)
all_append P [] ys h k = k
all_append P (x ∷ xs) ys h k = (h.0, all_append P xs ys h.1 k)

-- ---- numbers

pub signed_by : (half : ℕ) (z : ℤ) → z <ℤ pos half → negsuc half <ℤ z → IsSigned (half + half) z
signed_by half (pos n) h l = omega (arith, ints)
signed_by half (negsuc n) h l = omega (arith, ints)

pub signed_12 : (c : ℤ) → is_signed_in 12 c ≡ true → IsSigned (2 ^ 12) c
signed_12 (pos n) h = ltb-true n 2048 h
signed_12 (negsuc n) h = ltb-true n 2048 h

pub lo_fits : (z : ℤ) → IsSigned (2 ^ 12) (lo z)
lo_fits (pos n) = signed_by 2048 (lo (pos n)) (omega (arith, ints)) (omega (arith, ints))
lo_fits (negsuc n) = signed_by 2048 (lo (negsuc n)) (grind (arith, nat_tests, ints)) (grind (arith, nat_tests, ints))

pub upper_fits : (z : ℤ) → residue (2 ^ 20) (hi z) < 2 ^ 20
upper_fits z = residue_lt (2 ^ 20) (hi z) (omega arith)

abbrev Distance : ℤ → Type 0
Distance d = IsSigned (2 ^ 21) d × IsEven d

-- a jump between even places of a function
pub distance_fits : (to from : ℕ) → to ≤ 2 ^ 19 → from ≤ 2 ^ 19 → to % 4 ≡ 0 → from % 4 ≡ 0 → IsSigned (2 ^ 21) (pos to -ℤ pos from) × IsEven (pos to -ℤ pos from)
distance_fits to from h k e f =
    elim (cases_lt to from) [
      | inl p ↦
          let d = from - suc to in
          let is : pos to -ℤ pos from ≡ negsuc d = omega (arith, ints) in
          subst Distance (sym is) (omega arith, omega arith)
      | inr p ↦
          let d = to - from in
          let is : pos to -ℤ pos from ≡ pos d = omega (arith, ints) in
          subst Distance (sym is) (omega arith, omega arith)
    ]

-- ---- templates

chosen : (b : Bool) (xs ys : List Instr) → (b ≡ true → AllByRecursion InRange xs) → AllByRecursion InRange ys → AllByRecursion InRange (cond b xs ys)
chosen true xs ys h k = h refl
chosen false xs ys h k = k

constant_in_encodes : (n r : ℕ) (c : ℤ) → IsRegister r → AllByRecursion InRange (constant_in n r c)
unfolding constant_in
constant_in_encodes zero r c h = tt
constant_in_encodes (suc n) r c h =
    let last = Slli r r (pos 12) ∷ Addi r r (lo c) ∷ [] in
    chosen (is_signed_in 12 c) (Addi r 0 c ∷ []) (cond (is_signed_in 32 c) (long_constant r c) (constant_in n r (hi c) ++ last)) (λ e. ((h, omega arith, signed_12 c e), tt))
    (chosen (is_signed_in 32 c) (long_constant r c) (constant_in n r (hi c) ++ last) (λ _. ((h, upper_fits c), ((h, h, lo_fits c), tt)))
    (all_append InRange (constant_in n r (hi c)) last (constant_in_encodes n r (hi c) h) ((h, h, omega arith), ((h, h, lo_fits c), tt))))

pub constant_encodes : (r : ℕ) (c : ℤ) → IsRegister r → AllByRecursion InRange (constant r c)
unfolding constant
constant_encodes r c h = constant_in_encodes 4 r c h

short_slot : (slot : ℕ) → nat_le slot 2047 ≡ true → slot < 2048
short_slot slot e = let h : slot ≤ 2047 = leb-true slot 2047 e in omega (arith, h)

pub load_encodes : (r slot : ℕ) → IsRegister r → AllByRecursion InRange (load_slot r slot)
load_encodes r slot h =
    chosen (nat_le slot 2047) (Ld r 2 (pos slot) ∷ []) (Lui r (upper_of (pos slot)) ∷ Add r r 2 ∷ Ld r r (lo (pos slot)) ∷ []) (λ e. ((h, omega arith, short_slot slot e), tt))
    ((h, upper_fits (pos slot)), ((h, h, omega arith), ((h, h, lo_fits (pos slot)), tt)))

pub store_encodes : (r slot : ℕ) → IsRegister r → AllByRecursion InRange (store_slot r slot)
store_encodes r slot h =
    chosen (nat_le slot 2047) (Sd 2 r (pos slot) ∷ []) (Lui 28 (upper_of (pos slot)) ∷ Add 28 28 2 ∷ Sd 28 r (lo (pos slot)) ∷ []) (λ e. ((omega arith, h, short_slot slot e), tt))
    ((omega arith, upper_fits (pos slot)), ((omega arith, omega arith, omega arith), ((omega arith, h, lo_fits (pos slot)), tt)))

pub enter_encodes : (size slot : ℕ) → AllByRecursion InRange (enter_code size slot)
enter_encodes size slot =
    let k = constant 5 (neg_ℤ (pos size)) in
    all_append InRange k (Add 2 2 5 ∷ store_slot 1 slot) (constant_encodes 5 (neg_ℤ (pos size)) (omega arith)) ((omega arith, omega arith, omega arith), store_encodes 1 slot (omega arith))

pub leave_encodes : (size slot : ℕ) → AllByRecursion InRange (leave_code size slot)
leave_encodes size slot =
    let last = Add 2 2 5 ∷ Jalr 0 1 (pos 0) ∷ [] in
    let last_fits : AllByRecursion InRange last = search arith in
    let k = constant 5 (pos size) in
    all_append InRange (load_slot 1 slot) (k ++ last) (load_encodes 1 slot (omega arith)) (all_append InRange k last (constant_encodes 5 (pos size) (omega arith)) last_fits)

-- ---- operators and types

pub branch_encodes : (op : BinaryOp) (ty : ScalarType) → AllByRecursion InRange (branch op ty)
branch_encodes binary.Eq ty = search arith
branch_encodes binary.Ne ty = search arith
branch_encodes binary.Lt types.Int = search arith
branch_encodes binary.Lt types.UnsignedInt = search arith
branch_encodes binary.Lt types.LongInt = search arith
branch_encodes binary.Lt types.LongUnsignedInt = search arith
branch_encodes binary.Ge types.Int = search arith
branch_encodes binary.Ge types.UnsignedInt = search arith
branch_encodes binary.Ge types.LongInt = search arith
branch_encodes binary.Ge types.LongUnsignedInt = search arith
branch_encodes binary.Gt types.Int = search arith
branch_encodes binary.Gt types.UnsignedInt = search arith
branch_encodes binary.Gt types.LongInt = search arith
branch_encodes binary.Gt types.LongUnsignedInt = search arith
branch_encodes binary.Le types.Int = search arith
branch_encodes binary.Le types.UnsignedInt = search arith
branch_encodes binary.Le types.LongInt = search arith
branch_encodes binary.Le types.LongUnsignedInt = search arith
branch_encodes binary.Add ty = tt
branch_encodes binary.Sub ty = tt
branch_encodes binary.Mul ty = tt
branch_encodes binary.Div ty = tt
branch_encodes binary.Rem ty = tt
branch_encodes binary.And ty = tt
branch_encodes binary.Or ty = tt
branch_encodes binary.Xor ty = tt
branch_encodes binary.Shl ty = tt
branch_encodes binary.Shr ty = tt

pub operation_encodes : (op : BinaryOp) (ty : ScalarType) → AllByRecursion InRange (operation op ty)
operation_encodes binary.Add types.Int = search arith
operation_encodes binary.Add types.UnsignedInt = search arith
operation_encodes binary.Add types.LongInt = search arith
operation_encodes binary.Add types.LongUnsignedInt = search arith
operation_encodes binary.Sub types.Int = search arith
operation_encodes binary.Sub types.UnsignedInt = search arith
operation_encodes binary.Sub types.LongInt = search arith
operation_encodes binary.Sub types.LongUnsignedInt = search arith
operation_encodes binary.Mul types.Int = search arith
operation_encodes binary.Mul types.UnsignedInt = search arith
operation_encodes binary.Mul types.LongInt = search arith
operation_encodes binary.Mul types.LongUnsignedInt = search arith
operation_encodes binary.Div types.Int = search arith
operation_encodes binary.Div types.UnsignedInt = search arith
operation_encodes binary.Div types.LongInt = search arith
operation_encodes binary.Div types.LongUnsignedInt = search arith
operation_encodes binary.Rem types.Int = search arith
operation_encodes binary.Rem types.UnsignedInt = search arith
operation_encodes binary.Rem types.LongInt = search arith
operation_encodes binary.Rem types.LongUnsignedInt = search arith
operation_encodes binary.And ty = search arith
operation_encodes binary.Or ty = search arith
operation_encodes binary.Xor ty = search arith
operation_encodes binary.Shl types.Int = search arith
operation_encodes binary.Shl types.UnsignedInt = search arith
operation_encodes binary.Shl types.LongInt = search arith
operation_encodes binary.Shl types.LongUnsignedInt = search arith
operation_encodes binary.Shr types.Int = search arith
operation_encodes binary.Shr types.UnsignedInt = search arith
operation_encodes binary.Shr types.LongInt = search arith
operation_encodes binary.Shr types.LongUnsignedInt = search arith
operation_encodes binary.Eq ty = search arith
operation_encodes binary.Ne ty = search arith
operation_encodes binary.Lt types.Int = search arith
operation_encodes binary.Lt types.UnsignedInt = search arith
operation_encodes binary.Lt types.LongInt = search arith
operation_encodes binary.Lt types.LongUnsignedInt = search arith
operation_encodes binary.Gt types.Int = search arith
operation_encodes binary.Gt types.UnsignedInt = search arith
operation_encodes binary.Gt types.LongInt = search arith
operation_encodes binary.Gt types.LongUnsignedInt = search arith
operation_encodes binary.Le types.Int = search arith
operation_encodes binary.Le types.UnsignedInt = search arith
operation_encodes binary.Le types.LongInt = search arith
operation_encodes binary.Le types.LongUnsignedInt = search arith
operation_encodes binary.Ge types.Int = search arith
operation_encodes binary.Ge types.UnsignedInt = search arith
operation_encodes binary.Ge types.LongInt = search arith
operation_encodes binary.Ge types.LongUnsignedInt = search arith

pub unary_encodes : (op : UnaryOp) (ty : ScalarType) → AllByRecursion InRange (unary_operation op ty)
unary_encodes unary.Neg types.Int = search arith
unary_encodes unary.Neg types.UnsignedInt = search arith
unary_encodes unary.Neg types.LongInt = search arith
unary_encodes unary.Neg types.LongUnsignedInt = search arith
unary_encodes unary.Not ty = search arith

pub conversion_encodes : (to from : ScalarType) → AllByRecursion InRange (conversion to from)
conversion_encodes types.Int from = search arith
conversion_encodes types.UnsignedInt from = search arith
conversion_encodes types.LongInt types.Int = search arith
conversion_encodes types.LongInt types.UnsignedInt = search arith
conversion_encodes types.LongInt types.LongInt = search arith
conversion_encodes types.LongInt types.LongUnsignedInt = search arith
conversion_encodes types.LongUnsignedInt types.Int = search arith
conversion_encodes types.LongUnsignedInt types.UnsignedInt = search arith
conversion_encodes types.LongUnsignedInt types.LongInt = search arith
conversion_encodes types.LongUnsignedInt types.LongUnsignedInt = search arith

pub scaling_encodes : (element : ElementType) → AllByRecursion InRange (scaling element)
scaling_encodes elements.UnsignedChar = tt
scaling_encodes (elements.Scalar types.Int) = search arith
scaling_encodes (elements.Scalar types.UnsignedInt) = search arith
scaling_encodes (elements.Scalar types.LongInt) = search arith
scaling_encodes (elements.Scalar types.LongUnsignedInt) = search arith

pub element_load_encodes : (element : ElementType) (rd rs1 : ℕ) → IsRegister rd → IsRegister rs1 → InRange (element_load element rd rs1 (pos 0))
element_load_encodes elements.UnsignedChar rd rs1 h k = (h, k, omega arith)
element_load_encodes (elements.Scalar types.Int) rd rs1 h k = (h, k, omega arith)
element_load_encodes (elements.Scalar types.UnsignedInt) rd rs1 h k = (h, k, omega arith)
element_load_encodes (elements.Scalar types.LongInt) rd rs1 h k = (h, k, omega arith)
element_load_encodes (elements.Scalar types.LongUnsignedInt) rd rs1 h k = (h, k, omega arith)

pub element_store_encodes : (element : ElementType) (rs1 rs2 : ℕ) → IsRegister rs1 → IsRegister rs2 → InRange (element_store element rs1 rs2 (pos 0))
element_store_encodes elements.UnsignedChar rs1 rs2 h k = (h, k, omega arith)
element_store_encodes (elements.Scalar types.Int) rs1 rs2 h k = (h, k, omega arith)
element_store_encodes (elements.Scalar types.UnsignedInt) rs1 rs2 h k = (h, k, omega arith)
element_store_encodes (elements.Scalar types.LongInt) rs1 rs2 h k = (h, k, omega arith)
element_store_encodes (elements.Scalar types.LongUnsignedInt) rs1 rs2 h k = (h, k, omega arith)
