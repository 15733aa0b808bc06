-- What the instructions of comparisons, shifts, bitwise operators, quotients and remainders compute.
use Rattle.std.proofs.Common.{◌≡◌, ℕ, ◌^◌, ◌<◌, ℤ, pos, ◌*ℤ◌, List, [], ◌∷◌, Bool, true, false, cond, Some, None, refl, sym, ap, ◌∙◌, subst}
use Rattle.std.specs.Prelude.{not, nat_lt, int_lt, int_le, int_div, int_rem, bit_and, bit_or, bit_xor, unsigned_abs}
use Rattle.std.specs.Int.{int_shr}
use Rattle.std.specs.Ordering.{int_eq}
use Rattle.gimple_ir.specs.Values.{InRange, TypesFit, binary_of, value_of, truth_of, can_shift, can_divide, width, reduced, from_residue, residue}
use Rattle.gimple_ir.specs.declared.types.ScalarType.{ScalarType}
use Rattle.gimple_ir.specs.declared.types.ScalarType.TheVariants.{Int, UnsignedInt, LongInt, LongUnsignedInt}
use Rattle.gimple_ir.specs.declared.types.BinaryOp.{BinaryOp}
use Rattle.gimple_ir.specs.declared.types.BinaryOp.TheVariants as binary
use Rattle.gimple_ir.specs.declared.types.Value.{Value}
use Rattle.rv64_isa.specs.declared.instr.Instr.{Instr}
use Rattle.rv64_isa.specs.declared.instr.Instr.TheVariants.{Sltiu, Xori, Sll, Sltu, Xor, Srl, Or, And, Sub, Sra, Div, Divu, Rem, Remu, Sllw, Srlw, Sraw, Divw, Divuw, Remw, Remuw}
use Rattle.rv64_abi.specs.Registers.{t0, t1}
use Rattle.rv64_meaning.specs.Arithmetic.{bits64, sub, bit, sll, srl, sra, sllw, srlw, sraw, div, divu, rem, remu, divw, divuw, remw, remuw}
use Rattle.rv64_meaning.specs.Machine.{Segments, State, Go, effect, put}
use Rattle.rv64_select.specs.Operations.{by_type, both, less, operation}
use Rattle.follow_laws.specs.Frames.{form_of}
use Rattle.follow_laws.proofs.Computing.{Computes, computes_by, computes_on, computes_as}
use Rattle.follow_laws.proofs.ValueRows.{BinaryComputes}
use Rattle.follow_laws.proofs.Forms.{form_below}
use Rattle.follow_laws.proofs.Sums.{add_computes, sub_computes, mul_computes}
use Rattle.follow_laws.proofs.Numbers.{form}
use Rattle.follow_laws.proofs.NumbersTests.{less_by, less_forms, equal_forms, no_difference, a_difference, bit_turned, form_truth, at_most}
use Rattle.follow_laws.proofs.NumbersShifts.{counts, shift_left, shift_right, shifted_left, shifted_right}
use Rattle.follow_laws.proofs.NumbersBits.{Bitwise, and_bitwise, or_bitwise, xor_bitwise, bits_form}
use Rattle.follow_laws.proofs.NumbersQuotients.{quotient, remainder, quotient_form, remainder_form}

-- ---- from numbers to results

-- a result that is there under a test
record Given (b : Bool) (v r : Value) : Type 0 where
  pub holds : b ≡ true
  pub result : v ≡ r

given : (b : Bool) (v r : Value) → cond b (Some v) None ≡ Some r → Given b v r
given true v r e = record { holds = refl; result = cc }
given false v r e = cc

result_is : (code : List Instr) (a b : ℕ) (v r : Value) → v ≡ r → Computes code a b (form_of v) → Computes code a b (form_of r)
result_is code a b v r e c = subst (λ x. Computes code a b (form_of x)) e c

-- an operator on two numbers of one type, with a result of this type
of_one_type : (op : BinaryOp) (can : ScalarType → ℤ → ℤ → Bool) (number : ScalarType → ℤ → ℤ → ℤ)
    → ((v u : Value) → binary_of op v u ≡ cond (can v.ty v.num u.num) (Some (value_of v.ty (number v.ty v.num u.num))) None) → ((v u : Value) → TypesFit op v u → v.ty ≡ u.ty)
    → ((ty : ScalarType) (x y : ℤ) → InRange ty x → InRange ty y → can ty x y ≡ true → Computes (operation op ty) (form ty x) (form ty y) (form ty (number ty x y))) → BinaryComputes op
of_one_type op can number is alike computes v u r hv hu fit e =
    let ty = v.ty in
    let x = v.num in
    let y = u.num in
    let same = alike v u fit in
    let here = given (can ty x y) (value_of ty (number ty x y)) r (sym (is v u) ∙ e) in
    let runs = computes ty x y hv (subst (λ k. InRange k y) (sym same) hu) here.holds in
    result_is (operation op ty) (form_of v) (form_of u) (value_of ty (number ty x y)) r here.result (subst (λ k. Computes (operation op ty) (form ty x) (form k y) (form ty (number ty x y))) same runs)

-- a shift, whose count may be of another type
of_count : (op : BinaryOp) (number : ScalarType → ℤ → ℕ → ℤ)
    → ((v u : Value) → binary_of op v u ≡ cond (can_shift v.ty u.num) (Some (value_of v.ty (number v.ty v.num (unsigned_abs u.num)))) None)
    → ((ty : ScalarType) (z : ℤ) (n : ℕ) → InRange ty z → n < width ty → Computes (operation op ty) (form ty z) n (form ty (number ty z n))) → BinaryComputes op
of_count op number is computes v u r hv hu fit e =
    let ty = v.ty in
    let z = v.num in
    let n = unsigned_abs u.num in
    let here = given (can_shift ty u.num) (value_of ty (number ty z n)) r (sym (is v u) ∙ e) in
    let count = counts ty u.ty u.num here.holds in
    result_is (operation op ty) (form_of v) (form_of u) (value_of ty (number ty z n)) r here.result
    (subst (λ b. Computes (operation op ty) (form ty z) b (form ty (number ty z n))) (sym count.form_is) (computes ty z n hv count.below))

-- a comparison of two numbers of one type, which gives `int` 1 or 0
of_test : (op : BinaryOp) (test : ℤ → ℤ → Bool) → ((v u : Value) → binary_of op v u ≡ truth_of (test v.num u.num)) → ((v u : Value) → TypesFit op v u → v.ty ≡ u.ty)
    → ((ty : ScalarType) (x y : ℤ) → InRange ty x → InRange ty y → Computes (operation op ty) (form ty x) (form ty y) (bit (test x y))) → BinaryComputes op
of_test op test is alike computes v u r hv hu fit e =
    let ty = v.ty in
    let x = v.num in
    let y = u.num in
    let same = alike v u fit in
    let truth = value_of Int (cond (test x y) (pos 1) (pos 0)) in
    let here = given true truth r (sym (is v u) ∙ e) in
    let runs = computes ty x y hv (subst (λ k. InRange k y) (sym same) hu) in
    result_is (operation op ty) (form_of v) (form_of u) truth r here.result
    (computes_as (operation op ty) (form_of v) (form_of u) (bit (test x y)) (form_of truth) (sym (form_truth (test x y))) (subst (λ k. Computes (operation op ty) (form ty x) (form k y) (bit (test x y))) same runs))

-- ---- one instruction

abbrev Does : Instr → (ℕ → ℕ → ℕ) → Type 0
Does i give = (m : Segments) (s : State) → effect m i s ≡ Go (put s 5 (give (s.reg 5) (s.reg 6)))

by_type_does : (ty : ScalarType) (i j k l : Instr) (f g h e : ℕ → ℕ → ℕ) → Does i f → Does j g → Does k h → Does l e → Does (by_type ty i j k l) (by_type ty f g h e)
by_type_does Int i j k l f g h e p q r t = p
by_type_does UnsignedInt i j k l f g h e p q r t = q
by_type_does LongInt i j k l f g h e p q r t = r
by_type_does LongUnsignedInt i j k l f g h e p q r t = t

-- its result by another name
computes_one : (i : Instr) (give : ℕ → ℕ → ℕ) (a b other : ℕ) → Does i give → give a b ≡ other → Computes (i ∷ []) a b other
computes_one i give a b other does e = computes_as (i ∷ []) a b (give a b) other e (computes_by i give a b does)

-- and another behind it, on the result
computes_two : (i j : Instr) (first second : ℕ → ℕ → ℕ) (a b other : ℕ) → Does i first → Does j second → second (first a b) b ≡ other → Computes (i ∷ (j ∷ [])) a b other
computes_two i j first second a b other p q e =
    computes_on (i ∷ []) (j ∷ []) a b (first a b) other (computes_by i first a b p) (computes_one j second (first a b) b other q e)

-- ---- comparisons

less_does : (ty : ScalarType) → Does (less ty t0 t1) (λ a b. bit (less_by ty a b))
less_does Int m s = refl
less_does UnsignedInt m s = refl
less_does LongInt m s = refl
less_does LongUnsignedInt m s = refl

greater_does : (ty : ScalarType) → Does (less ty t1 t0) (λ a b. bit (less_by ty b a))
greater_does Int m s = refl
greater_does UnsignedInt m s = refl
greater_does LongInt m s = refl
greater_does LongUnsignedInt m s = refl

pub equal_computes : BinaryComputes binary.Eq
equal_computes = of_test binary.Eq int_eq (λ v u. refl) (λ v u h. h)
    (λ ty x y h j. computes_two (both Sub) (Sltiu t0 t0 (pos 1)) sub (λ a b. bit (nat_lt a 1)) (form ty x) (form ty y) (bit (int_eq x y)) (λ m s. refl) (λ m s. refl)
    (ap bit (no_difference (form ty x) (form ty y) (form_below (value_of ty x)) (form_below (value_of ty y)) ∙ equal_forms ty x y h j)))

pub differ_computes : BinaryComputes binary.Ne
differ_computes = of_test binary.Ne (λ x y. not (int_eq x y)) (λ v u. refl) (λ v u h. h)
    (λ ty x y h j. computes_two (both Sub) (Sltu t0 0 t0) sub (λ a b. bit (nat_lt 0 a)) (form ty x) (form ty y) (bit (not (int_eq x y))) (λ m s. refl) (λ m s. refl)
    (ap bit (a_difference (form ty x) (form ty y) (form_below (value_of ty x)) (form_below (value_of ty y)) ∙ ap not (equal_forms ty x y h j))))

pub less_computes : BinaryComputes binary.Lt
less_computes = of_test binary.Lt int_lt (λ v u. refl) (λ v u h. h)
    (λ ty x y h j. computes_one (less ty t0 t1) (λ a b. bit (less_by ty a b)) (form ty x) (form ty y) (bit (int_lt x y)) (less_does ty) (ap bit (less_forms ty x y h j)))

pub greater_computes : BinaryComputes binary.Gt
greater_computes = of_test binary.Gt (λ x y. int_lt y x) (λ v u. refl) (λ v u h. h)
    (λ ty x y h j. computes_one (less ty t1 t0) (λ a b. bit (less_by ty b a)) (form ty x) (form ty y) (bit (int_lt y x)) (greater_does ty) (ap bit (less_forms ty y x j h)))

-- a test, turned
turned : (less : Bool) (x y : ℤ) → less ≡ int_lt y x → bit_xor (bit less) (bits64 (pos 1)) ≡ bit (int_le x y)
turned less x y e = bit_turned less ∙ ap (λ b. bit (not b)) e ∙ ap bit (at_most x y)

pub at_most_computes : BinaryComputes binary.Le
at_most_computes = of_test binary.Le int_le (λ v u. refl) (λ v u h. h)
    (λ ty x y h j. computes_two (less ty t1 t0) (Xori t0 t0 (pos 1)) (λ a b. bit (less_by ty b a)) (λ a b. bit_xor a (bits64 (pos 1))) (form ty x) (form ty y) (bit (int_le x y)) (greater_does ty) (λ m s. refl)
    (turned (less_by ty (form ty y) (form ty x)) x y (less_forms ty y x j h)))

pub at_least_computes : BinaryComputes binary.Ge
at_least_computes = of_test binary.Ge (λ x y. int_le y x) (λ v u. refl) (λ v u h. h)
    (λ ty x y h j. computes_two (less ty t0 t1) (Xori t0 t0 (pos 1)) (λ a b. bit (less_by ty a b)) (λ a b. bit_xor a (bits64 (pos 1))) (form ty x) (form ty y) (bit (int_le y x)) (less_does ty) (λ m s. refl)
    (turned (less_by ty (form ty x) (form ty y)) y x (less_forms ty x y h j)))

-- ---- shifts

pub shift_left_computes : BinaryComputes binary.Shl
shift_left_computes = of_count binary.Shl (λ ty z n. reduced ty (z *ℤ pos (2 ^ n))) (λ v u. refl)
    (λ ty z n h j. computes_one (by_type ty (both Sllw) (both Sllw) (both Sll) (both Sll)) (shift_left ty) (form ty z) n (form ty (reduced ty (z *ℤ pos (2 ^ n))))
    (by_type_does ty (both Sllw) (both Sllw) (both Sll) (both Sll) sllw sllw sll sll (λ m s. refl) (λ m s. refl) (λ m s. refl) (λ m s. refl)) (shifted_left ty z n j))

pub shift_right_computes : BinaryComputes binary.Shr
shift_right_computes = of_count binary.Shr (λ ty z n. int_shr z n) (λ v u. refl)
    (λ ty z n h j. computes_one (by_type ty (both Sraw) (both Srlw) (both Sra) (both Srl)) (shift_right ty) (form ty z) n (form ty (int_shr z n))
    (by_type_does ty (both Sraw) (both Srlw) (both Sra) (both Srl) sraw srlw sra srl (λ m s. refl) (λ m s. refl) (λ m s. refl) (λ m s. refl)) (shifted_right ty z n h j))

-- ---- bitwise operators

of_bits : (i : Instr) (op : ℕ → ℕ → ℕ) → Bitwise op → Does i op
    → (ty : ScalarType) (x y : ℤ) → Computes (i ∷ []) (form ty x) (form ty y) (form ty (from_residue ty (op (residue ty x) (residue ty y))))
of_bits i op bits does ty x y = computes_one i op (form ty x) (form ty y) (form ty (from_residue ty (op (residue ty x) (residue ty y)))) does (bits_form op bits ty x y)

pub and_computes : BinaryComputes binary.And
and_computes =
    of_one_type binary.And (λ ty x y. true) (λ ty x y. from_residue ty (bit_and (residue ty x) (residue ty y))) (λ v u. refl) (λ v u h. h)
    (λ ty x y h j can. of_bits (both And) bit_and and_bitwise (λ m s. refl) ty x y)

pub or_computes : BinaryComputes binary.Or
or_computes =
    of_one_type binary.Or (λ ty x y. true) (λ ty x y. from_residue ty (bit_or (residue ty x) (residue ty y))) (λ v u. refl) (λ v u h. h)
    (λ ty x y h j can. of_bits (both Or) bit_or or_bitwise (λ m s. refl) ty x y)

pub xor_computes : BinaryComputes binary.Xor
xor_computes =
    of_one_type binary.Xor (λ ty x y. true) (λ ty x y. from_residue ty (bit_xor (residue ty x) (residue ty y))) (λ v u. refl) (λ v u h. h)
    (λ ty x y h j can. of_bits (both Xor) bit_xor xor_bitwise (λ m s. refl) ty x y)

-- ---- quotients and remainders

pub quotient_computes : BinaryComputes binary.Div
quotient_computes = of_one_type binary.Div can_divide (λ ty x y. int_div x y) (λ v u. refl) (λ v u h. h)
    (λ ty x y h j can. computes_one (by_type ty (both Divw) (both Divuw) (both Div) (both Divu)) (quotient ty) (form ty x) (form ty y) (form ty (int_div x y))
    (by_type_does ty (both Divw) (both Divuw) (both Div) (both Divu) divw divuw div divu (λ m s. refl) (λ m s. refl) (λ m s. refl) (λ m s. refl)) (quotient_form ty x y h j can))

pub remainder_computes : BinaryComputes binary.Rem
remainder_computes = of_one_type binary.Rem can_divide (λ ty x y. int_rem x y) (λ v u. refl) (λ v u h. h)
    (λ ty x y h j can. computes_one (by_type ty (both Remw) (both Remuw) (both Rem) (both Remu)) (remainder ty) (form ty x) (form ty y) (form ty (int_rem x y))
    (by_type_does ty (both Remw) (both Remuw) (both Rem) (both Remu) remw remuw rem remu (λ m s. refl) (λ m s. refl) (λ m s. refl) (λ m s. refl)) (remainder_form ty x y h j can))

-- ---- all operators

pub binary_computes : (op : BinaryOp) → BinaryComputes op
binary_computes binary.Add = add_computes
binary_computes binary.Sub = sub_computes
binary_computes binary.Mul = mul_computes
binary_computes binary.Div = quotient_computes
binary_computes binary.Rem = remainder_computes
binary_computes binary.And = and_computes
binary_computes binary.Or = or_computes
binary_computes binary.Xor = xor_computes
binary_computes binary.Shl = shift_left_computes
binary_computes binary.Shr = shift_right_computes
binary_computes binary.Eq = equal_computes
binary_computes binary.Ne = differ_computes
binary_computes binary.Lt = less_computes
binary_computes binary.Le = at_most_computes
binary_computes binary.Gt = greater_computes
binary_computes binary.Ge = at_least_computes
