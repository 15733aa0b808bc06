-- The types of what operations give.
use Rattle.std.proofs.Common.{◌≡◌, ℤ, Bool, true, false, Option, Some, None, refl, sym, ◌∙◌, subst}
use Rattle.std.specs.Prelude.{◌&&◌, IfSome, if◌then◌else◌}
use Rattle.std.proofs.lemmas.Bool.{and_parts}
use Rattle.gimple_ir.specs.Lattices.{same_type}
use Rattle.gimple_ir.specs.Statements.{is_comparison, binary_fits}
use Rattle.gimple_ir.specs.Values.{in_range, value_of, result_of, unary_of, binary_of, TypesFit}
use Rattle.gimple_ir.specs.declared.types.ScalarType.{ScalarType}
use Rattle.gimple_ir.specs.declared.types.ScalarType.TheVariants.{Int, UnsignedInt, LongInt, LongUnsignedInt}
use Rattle.gimple_ir.specs.declared.types.UnaryOp.{UnaryOp}
use Rattle.gimple_ir.specs.declared.types.UnaryOp.TheVariants.{Neg, Not}
use Rattle.gimple_ir.specs.declared.types.BinaryOp.{BinaryOp}
use Rattle.gimple_ir.specs.declared.types.BinaryOp.TheVariants.{Add, Sub, Mul, Div, Rem, And, Or, Xor, Shl, Shr, Eq, Ne, Lt, Le, Gt, Ge}
use Rattle.gimple_ir.specs.declared.types.Value.{Value}
use Rattle.gimple_meaning.specs.Acts.{operands_fit, operation_of}

pub same_type_is : (a b : ScalarType) → same_type a b ≡ true → a ≡ b
same_type_is Int Int e = refl
same_type_is UnsignedInt UnsignedInt e = refl
same_type_is LongInt LongInt e = refl
same_type_is LongUnsignedInt LongUnsignedInt e = refl
same_type_is Int UnsignedInt e = cc
same_type_is Int LongInt e = cc
same_type_is Int LongUnsignedInt e = cc
same_type_is UnsignedInt Int e = cc
same_type_is UnsignedInt LongInt e = cc
same_type_is UnsignedInt LongUnsignedInt e = cc
same_type_is LongInt Int e = cc
same_type_is LongInt UnsignedInt e = cc
same_type_is LongInt LongUnsignedInt e = cc
same_type_is LongUnsignedInt Int e = cc
same_type_is LongUnsignedInt UnsignedInt e = cc
same_type_is LongUnsignedInt LongInt e = cc

-- what holds of a result, where there is one
pub if_some : {T : Type 0} (P : T → Type 0) (o : Option T) (x : T) → IfSome o P → o ≡ Some x → P x
if_some P o x h e = subst (λ p. IfSome p P) e h

-- the type of what an operator gives on operands of a type
abbrev pub given_type : BinaryOp → ScalarType → ScalarType
given_type op ty = if is_comparison op then Int else ty

tested : (t : Bool) (v : Value) (ty : ScalarType) → v.ty ≡ ty → IfSome (if t then Some v else None) (λ r. r.ty ≡ ty)
tested true v ty h = h
tested false v ty h = tt

pub result_type : (ty : ScalarType) (z : ℤ) → IfSome (result_of ty z) (λ r. r.ty ≡ ty)
result_type Int z = tested (in_range Int z) (value_of Int z) Int refl
result_type UnsignedInt z = refl
result_type LongInt z = tested (in_range LongInt z) (value_of LongInt z) LongInt refl
result_type LongUnsignedInt z = refl

pub unary_type : (op : UnaryOp) (v : Value) → IfSome (unary_of op v) (λ r. r.ty ≡ v.ty)
unary_type Neg v = result_type v.ty _
unary_type Not v = refl

pub binary_type : (op : BinaryOp) (a b : Value) → IfSome (binary_of op a b) (λ r. r.ty ≡ given_type op a.ty)
binary_type Add a b = result_type a.ty _
binary_type Sub a b = result_type a.ty _
binary_type Mul a b = result_type a.ty _
binary_type Div a b = tested _ _ a.ty refl
binary_type Rem a b = tested _ _ a.ty refl
binary_type And a b = refl
binary_type Or a b = refl
binary_type Xor a b = refl
binary_type Shl a b = tested _ _ a.ty refl
binary_type Shr a b = tested _ _ a.ty refl
binary_type Eq a b = refl
binary_type Ne a b = refl
binary_type Lt a b = refl
binary_type Le a b = refl
binary_type Gt a b = refl
binary_type Ge a b = refl

-- ---- what the checks say of the operands and the target

pub record Fit (op : BinaryOp) (to : ScalarType) (a b : Value) : Type 0 where
  pub operands : TypesFit op a b
  pub target : to ≡ given_type op a.ty

three_alike : (to a b : ScalarType) → (same_type to a && same_type to b) ≡ true → (a ≡ b) × (to ≡ a)
three_alike to a b e =
    let h = and_parts (same_type to a) (same_type to b) e in
    let x = same_type_is to a h.0 in
    (sym x ∙ same_type_is to b h.1, x)

compared : (to a b : ScalarType) → (same_type to Int && same_type a b) ≡ true → (a ≡ b) × (to ≡ Int)
compared to a b e =
    let h = and_parts (same_type to Int) (same_type a b) e in
    (same_type_is a b h.1, same_type_is to Int h.0)

pub fit_of : (op : BinaryOp) (to : ScalarType) (a b : Value) → binary_fits op (Some to) (Some a.ty) (Some b.ty) ≡ true → Fit op to a b
fit_of Add to a b e = let h = three_alike to a.ty b.ty e in record { operands = h.0; target = h.1 }
fit_of Sub to a b e = let h = three_alike to a.ty b.ty e in record { operands = h.0; target = h.1 }
fit_of Mul to a b e = let h = three_alike to a.ty b.ty e in record { operands = h.0; target = h.1 }
fit_of Div to a b e = let h = three_alike to a.ty b.ty e in record { operands = h.0; target = h.1 }
fit_of Rem to a b e = let h = three_alike to a.ty b.ty e in record { operands = h.0; target = h.1 }
fit_of And to a b e = let h = three_alike to a.ty b.ty e in record { operands = h.0; target = h.1 }
fit_of Or to a b e = let h = three_alike to a.ty b.ty e in record { operands = h.0; target = h.1 }
fit_of Xor to a b e = let h = three_alike to a.ty b.ty e in record { operands = h.0; target = h.1 }
fit_of Shl to a b e = record { operands = tt; target = same_type_is to a.ty e }
fit_of Shr to a b e = record { operands = tt; target = same_type_is to a.ty e }
fit_of Eq to a b e = let h = compared to a.ty b.ty e in record { operands = h.0; target = h.1 }
fit_of Ne to a b e = let h = compared to a.ty b.ty e in record { operands = h.0; target = h.1 }
fit_of Lt to a b e = let h = compared to a.ty b.ty e in record { operands = h.0; target = h.1 }
fit_of Le to a b e = let h = compared to a.ty b.ty e in record { operands = h.0; target = h.1 }
fit_of Gt to a b e = let h = compared to a.ty b.ty e in record { operands = h.0; target = h.1 }
fit_of Ge to a b e = let h = compared to a.ty b.ty e in record { operands = h.0; target = h.1 }

-- operands of one type fit a comparison
pub compared_fit : (op : BinaryOp) (a b : Value) → is_comparison op ≡ true → a.ty ≡ b.ty → TypesFit op a b
compared_fit Eq a b c e = e
compared_fit Ne a b c e = e
compared_fit Lt a b c e = e
compared_fit Le a b c e = e
compared_fit Gt a b c e = e
compared_fit Ge a b c e = e
compared_fit Add a b c e = e
compared_fit Sub a b c e = e
compared_fit Mul a b c e = e
compared_fit Div a b c e = e
compared_fit Rem a b c e = e
compared_fit And a b c e = e
compared_fit Or a b c e = e
compared_fit Xor a b c e = e
compared_fit Shl a b c e = tt
compared_fit Shr a b c e = tt

-- an operation that is defined
pub operation_is : (op : BinaryOp) (a b r : Value) → operation_of op a b ≡ Some r → binary_of op a b ≡ Some r
operation_is op a b r e = fitting (operands_fit op a b) e
  where
    fitting : (t : Bool) → (if t then binary_of op a b else None) ≡ Some r → binary_of op a b ≡ Some r
    fitting true h = h
    fitting false h = cc
