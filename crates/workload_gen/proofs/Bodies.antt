-- The statements that are generated have no fault, whatever is drawn.
use Rattle.std.proofs.Common.{◌≡◌, ℕ, ◌<◌, ◌^◌, List, [], ◌∷◌, length, Bool, true, false, nat_eq, Some, None, slice_get, refl, arith, lt-ltb, le→leb, ◌-◌, if◌then◌else◌, codes}
use Rattle.std.proofs.lemmas.Option.{slice_get_within}
use Rattle.gimple_ir.specs.declared.types.ScalarType.TheVariants.{UnsignedInt}
use Rattle.gimple_ir.specs.declared.types.BinaryOp.{BinaryOp}
use Rattle.gimple_ir.specs.declared.types.BinaryOp.TheVariants.{Add, Sub, Mul, Xor}
use Rattle.gimple_ir.specs.declared.types.Operand.{Operand}
use Rattle.gimple_ir.specs.declared.types.ResultType.TheVariants as returned
use Rattle.gimple_ir.specs.declared.types.Variable.{Variable}
use Rattle.gimple_ir.specs.declared.types.Function.{Function}
use Rattle.gimple_ir.specs.declared.types.Statement.TheVariants.{Binary}
use Rattle.gimple_ir.specs.declared.fault.TypeKind.TheVariants.{UnknownName, WrongCount, WrongType, NegLiteral, BadCase}
use Rattle.gimple_ir.specs.Statements.{Scope, ByNumber, statement_kind, knows, counts_arguments, types_fit, type_of, knows_operand, type_of_component, knows_component, first_failed}
use Rattle.gimple_ir.specs.Programs.{IsOperand}
use Rattle.workload_gen.specs.Choices.{operator_of, unsigned}
use Rattle.workload_gen.specs.Functions.{scalar, call_to}

-- a function that takes two numbers and gives one
pub record TakesTwo (f : Function) : Type 0 where
  pub more : List Variable
  pub parameters : f.parameters ≡ 2
  pub variables : f.variables ≡ scalar (codes "a") UnsignedInt ∷ scalar (codes "b") UnsignedInt ∷ more
  pub result : f.result ≡ returned.Scalar UnsignedInt

-- such a function stands at the place
pub record IsCallable (functions : List Function) (place : ℕ) : Type 0 where
  pub called : Function
  pub here : slice_get functions place ≡ Some called
  pub takes : TakesTwo called

-- ---- statements of a function in a module without structs and arrays

abbrev pub scope : List Function → Function → Scope
scope functions f = record { structs = ByNumber; arrays = []; functions = functions; function = f }

-- an operand that is an `unsigned int`
pub record IsUnsigned (s : Scope) (a : Operand) : Type 0 where
  pub known : knows_operand s a ≡ true
  pub typed : type_of s a ≡ Some UnsignedInt

pub record IsUnsignedComponent (s : Scope) (x : ℕ) : Type 0 where
  pub known : knows_component s x ≡ true
  pub typed : type_of_component s x ≡ Some UnsignedInt

call_known : (functions : List Function) (f : Function) (place x : ℕ) (a b : Operand) → IsCallable functions place → IsUnsignedComponent (scope functions f) x
    → IsUnsigned (scope functions f) a → IsUnsigned (scope functions f) b → knows (scope functions f) (call_to place x a b) ≡ true
call_known functions f place x a b at to left right =
    let within = lt-ltb place (length functions) (slice_get_within functions place at.called at.here) in
    rw (to.known, within, left.known, right.known) refl

call_counts : (functions : List Function) (f : Function) (place x : ℕ) (a b : Operand) → IsCallable functions place
    → counts_arguments (scope functions f) (call_to place x a b) ≡ true
call_counts functions f place x a b at = rw (at.here, at.takes.parameters) refl

call_typed : (functions : List Function) (f : Function) (place x : ℕ) (a b : Operand) → IsCallable functions place → IsUnsignedComponent (scope functions f) x
    → IsUnsigned (scope functions f) a → IsUnsigned (scope functions f) b → types_fit (scope functions f) (call_to place x a b) ≡ true
call_typed functions f place x a b at to left right =
    rw (at.here, at.takes.variables, at.takes.result, to.typed, left.typed, right.typed) refl

pub passes : (a b c d e : Bool) → a ≡ true → b ≡ true → c ≡ true → d ≡ true → e ≡ true
    → first_failed ((a, UnknownName) ∷ (b, WrongCount) ∷ (c, WrongType) ∷ (d, NegLiteral) ∷ (e, BadCase) ∷ []) ≡ None
passes a b c d e p q r s t = rw (p, q, r, s, t) refl

pub call_faultless : (functions : List Function) (f : Function) (place x : ℕ) (a b : Operand) → IsCallable functions place
    → IsUnsignedComponent (scope functions f) x → IsUnsigned (scope functions f) a → IsUnsigned (scope functions f) b
    → statement_kind (scope functions f) (call_to place x a b) ≡ None
call_faultless functions f place x a b at to left right =
    passes _ _ _ true true (call_known functions f place x a b at to left right) (call_counts functions f place x a b at)
    (call_typed functions f place x a b at to left right) refl refl

-- the operator that is chosen by three tests
abbrev pub operator : Bool → Bool → Bool → BinaryOp
operator b c d = if b then Add else (if c then Sub else (if d then Mul else Xor))

-- an operation on `unsigned int`s
pub record IsUnsignedOperation (s : Scope) (x : ℕ) (a b : Operand) : Type 0 where
  pub to : IsUnsignedComponent s x
  pub left : IsUnsigned s a
  pub right : IsUnsigned s b

binary_typed : (s : Scope) (c d e : Bool) (x : ℕ) (a b : Operand) → IsUnsignedOperation s x a b → types_fit s (Binary x (operator c d e) a b) ≡ true
binary_typed s true d e x a b h = rw (h.to.typed, h.left.typed, h.right.typed) refl
binary_typed s false true e x a b h = rw (h.to.typed, h.left.typed, h.right.typed) refl
binary_typed s false false true x a b h = rw (h.to.typed, h.left.typed, h.right.typed) refl
binary_typed s false false false x a b h = rw (h.to.typed, h.left.typed, h.right.typed) refl

pub binary_faultless : (s : Scope) (c d e : Bool) (x : ℕ) (a b : Operand) → IsUnsignedOperation s x a b
    → statement_kind s (Binary x (operator c d e) a b) ≡ None
binary_faultless s c d e x a b h =
    passes _ true _ true true (rw (h.to.known, h.left.known, h.right.known) refl) refl (binary_typed s c d e x a b h) refl refl

pub drawn_faultless : (s : Scope) (k x : ℕ) (a b : Operand) → IsUnsignedOperation s x a b → statement_kind s (Binary x (operator_of k) a b) ≡ None
drawn_faultless s k x a b h = binary_faultless s (nat_eq k 0) (nat_eq k 1) (nat_eq k 2) x a b h

pub xor_faultless : (s : Scope) (x : ℕ) (a b : Operand) → IsUnsignedOperation s x a b → statement_kind s (Binary x Xor a b) ≡ None
xor_faultless s x a b h = binary_faultless s false false false x a b h

-- ---- numbers

pub unsigned_in_range : (n : ℕ) → n < 2 ^ 32 → IsOperand (unsigned n)
unsigned_in_range n small = record { above = record { le = le→leb 0 n (omega arith) }; below = record { le = le→leb n (2 ^ 32 - 1) (omega (arith, small)) } }
