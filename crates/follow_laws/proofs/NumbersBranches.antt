-- Where the branches of comparisons go.
use Rattle.std.proofs.Common.{◌≡◌, ℕ, ℤ, pos, [], ◌∷◌, Bool, true, false, cond, refl, sym, ap, ap₂, ◌∙◌, subst}
use Rattle.std.specs.Prelude.{not, ◌==◌, int_lt, int_le, if◌then◌else◌}
use Rattle.std.specs.Ordering.{int_eq}
use Rattle.gimple_ir.specs.Statements.{is_comparison}
use Rattle.gimple_ir.specs.Values.{InRange, binary_of, is_signed, value_of, truth_of}
use Rattle.gimple_ir.specs.declared.types.ScalarType.{ScalarType}
use Rattle.gimple_ir.specs.declared.types.ScalarType.TheVariants.{Int, UnsignedInt, LongInt, LongUnsignedInt}
use Rattle.gimple_ir.specs.declared.types.BinaryOp.{BinaryOp}
use Rattle.gimple_ir.specs.declared.types.BinaryOp.TheVariants as binary
use Rattle.gimple_ir.specs.declared.types.Value.{Value}
use Rattle.rv64_isa.specs.declared.instr.Instr.{Instr}
use Rattle.rv64_isa.specs.declared.instr.Instr.TheVariants.{Beq, Bne, Blt, Bge, Bltu, Bgeu}
use Rattle.rv64_abi.specs.Registers.{t0, t1}
use Rattle.rv64_meaning.specs.Arithmetic.{plus}
use Rattle.rv64_meaning.specs.Machine.{Segments, State, effect, branch}
use Rattle.rv64_select.specs.Operations as selected
use Rattle.follow_laws.specs.Frames.{form_of}
use Rattle.follow_laws.proofs.Lists.{some_same}
use Rattle.follow_laws.proofs.TestRows.{is_met, ComparisonBranches}
use Rattle.follow_laws.proofs.Numbers.{form}
use Rattle.follow_laws.proofs.NumbersTests.{less_by, less_forms, equal_forms, at_most}

-- a branch by a test on t0 and t1
abbrev Tests : Instr → (ℕ → ℕ → Bool) → Type 0
Tests i test = (m : Segments) (s : State) → effect m i s ≡ branch s (test (s.reg 5) (s.reg 6)) (plus s.pc (pos 8))

met_truth : (b : Bool) → is_met (value_of Int (cond b (pos 1) (pos 0))) ≡ b
met_truth true = refl
met_truth false = refl

of_branch : (op : BinaryOp) (test : ℤ → ℤ → Bool) (i : ScalarType → Instr) (by : ScalarType → ℕ → ℕ → Bool)
    → ((v u : Value) → binary_of op v u ≡ truth_of (test v.num u.num))
    → ((ty : ScalarType) → selected.branch op ty ≡ i ty ∷ []) → ((ty : ScalarType) → Tests (i ty) (by ty))
    → ((ty : ScalarType) (x y : ℤ) → InRange ty x → InRange ty y → by ty (form ty x) (form ty y) ≡ test x y) → ComparisonBranches op
of_branch op test i by is alone tests same v u r hv hu types e =
    let met = test v.num u.num in
    let found : is_met r ≡ met = ap is_met (sym (some_same (value_of Int (cond met (pos 1) (pos 0))) r (sym (is v u) ∙ e))) ∙ met_truth met in
    let right : form_of u ≡ form v.ty u.num = ap (λ ty. form ty u.num) (sym types) in
    let holds = same v.ty v.num u.num hv (subst (λ ty. InRange ty u.num) (sym types) hu) in
    record {
      instruction = i v.ty;
      alone = alone v.ty;
      goes = λ m s p q. tests v.ty m s ∙ ap₂ (λ a b. branch s (by v.ty a b) (plus s.pc (pos 8))) p (q ∙ right) ∙ ap (λ b. branch s b (plus s.pc (pos 8))) (holds ∙ sym found);
    }

-- ---- instructions by the type

abbrev less_branch : ScalarType → ℕ → ℕ → Instr
less_branch ty a b = if is_signed ty then Blt a b (pos 8) else Bltu a b (pos 8)

abbrev at_least_branch : ScalarType → ℕ → ℕ → Instr
at_least_branch ty a b = if is_signed ty then Bge a b (pos 8) else Bgeu a b (pos 8)

less_tests : (ty : ScalarType) → Tests (less_branch ty t0 t1) (λ a b. less_by ty a b)
less_tests Int m s = refl
less_tests UnsignedInt m s = refl
less_tests LongInt m s = refl
less_tests LongUnsignedInt m s = refl

greater_tests : (ty : ScalarType) → Tests (less_branch ty t1 t0) (λ a b. less_by ty b a)
greater_tests Int m s = refl
greater_tests UnsignedInt m s = refl
greater_tests LongInt m s = refl
greater_tests LongUnsignedInt m s = refl

at_least_tests : (ty : ScalarType) → Tests (at_least_branch ty t0 t1) (λ a b. not (less_by ty a b))
at_least_tests Int m s = refl
at_least_tests UnsignedInt m s = refl
at_least_tests LongInt m s = refl
at_least_tests LongUnsignedInt m s = refl

at_most_tests : (ty : ScalarType) → Tests (at_least_branch ty t1 t0) (λ a b. not (less_by ty b a))
at_most_tests Int m s = refl
at_most_tests UnsignedInt m s = refl
at_most_tests LongInt m s = refl
at_most_tests LongUnsignedInt m s = refl

-- ---- the six comparisons

pub equal_branches : ComparisonBranches binary.Eq
equal_branches = of_branch binary.Eq int_eq (λ ty. Beq t0 t1 (pos 8)) (λ ty a b. a == b) (λ v u. refl) (λ ty. refl) (λ ty m s. refl) equal_forms

pub differ_branches : ComparisonBranches binary.Ne
differ_branches =
    of_branch binary.Ne (λ x y. not (int_eq x y)) (λ ty. Bne t0 t1 (pos 8)) (λ ty a b. not (a == b)) (λ v u. refl) (λ ty. refl) (λ ty m s. refl) (λ ty x y h j. ap not (equal_forms ty x y h j))

pub less_branches : ComparisonBranches binary.Lt
less_branches = of_branch binary.Lt int_lt (λ ty. less_branch ty t0 t1) less_by (λ v u. refl) (λ ty. refl) less_tests less_forms

pub greater_branches : ComparisonBranches binary.Gt
greater_branches = of_branch binary.Gt (λ x y. int_lt y x) (λ ty. less_branch ty t1 t0) (λ ty a b. less_by ty b a) (λ v u. refl) (λ ty. refl) greater_tests (λ ty x y h j. less_forms ty y x j h)

pub at_least_branches : ComparisonBranches binary.Ge
at_least_branches =
    of_branch binary.Ge (λ x y. int_le y x) (λ ty. at_least_branch ty t0 t1) (λ ty a b. not (less_by ty a b)) (λ v u. refl) (λ ty. refl) at_least_tests
    (λ ty x y h j. ap not (less_forms ty x y h j) ∙ at_most y x)

pub at_most_branches : ComparisonBranches binary.Le
at_most_branches =
    of_branch binary.Le int_le (λ ty. at_least_branch ty t1 t0) (λ ty a b. not (less_by ty b a)) (λ v u. refl) (λ ty. refl) at_most_tests
    (λ ty x y h j. ap not (less_forms ty y x j h) ∙ at_most x y)

pub comparison_branches : (op : BinaryOp) → is_comparison op ≡ true → ComparisonBranches op
comparison_branches binary.Eq h = equal_branches
comparison_branches binary.Ne h = differ_branches
comparison_branches binary.Lt h = less_branches
comparison_branches binary.Le h = at_most_branches
comparison_branches binary.Gt h = greater_branches
comparison_branches binary.Ge h = at_least_branches
comparison_branches _ h = cc
