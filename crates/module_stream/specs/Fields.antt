-- The one spelling of what many streams are made of: names, values, and lists with their count in front.
use Rattle.std.specs.Prelude.{ℕ, ◌^◌, ◌<◌, List, [], ◌∷◌, ◌++◌, length, All, ℤ, pos, unsigned_abs}
use Rattle.std.specs.Int.{int_rem_euclid}
use Rattle.std.specs.List.{flat_map}
use Rattle.cursors.specs.Leb128.{uleb_of}
use Rattle.gimple_ir.specs.Values.{modulus, residue, from_residue}
use Rattle.gimple_ir.specs.declared.types.Value.{Value}
use Rattle.gimple_ir.specs.declared.types.ElementType.{ElementType}
use Rattle.gimple_ir.specs.declared.types.ElementType.TheVariants as element
use Rattle.module_stream.specs.Codes.{type_code}

-- a count, and as many
abbrev pub counted_of : {A : Type 0} → (A → List ℕ) → List A → List ℕ
counted_of write xs = uleb_of (length xs) ++ flat_map write xs

-- the count fits a u32, and P holds of each
abbrev pub FitsAll : {A : Type 0} → (A → Type 0) → List A → Type 0
FitsAll P xs = (length xs < 2 ^ 32) × All P xs

-- as many as there are bounds, and P holds of each within its own
abbrev pub FitEach : {B A : Type 0} → (B → A → Type 0) → List B → List A → Type 0
FitEach P [] [] = Unit {0}
FitEach P [] (x ∷ xs) = ⊥
FitEach P (b ∷ bs) [] = ⊥
FitEach P (b ∷ bs) (x ∷ xs) = P b x × FitEach P bs xs

-- a length, and as many bytes
abbrev pub text_of : List ℕ → List ℕ
text_of bytes = uleb_of (length bytes) ++ bytes

-- a value modulo 2^width; what its type is stands before it, or elsewhere
abbrev pub value_bytes : Value → List ℕ
value_bytes v = uleb_of (residue v.ty v.num)

-- the same with its type in front
abbrev pub typed_value_of : Value → List ℕ
typed_value_of v = type_code v.ty ∷ value_bytes v

-- ---- elements of arrays

abbrev pub element_modulus : ElementType → ℕ
element_modulus (element.Scalar ty) = modulus ty
element_modulus element.UnsignedChar = 2 ^ 8

abbrev pub element_residue : ElementType → ℤ → ℕ
element_residue e z = unsigned_abs (int_rem_euclid z (pos (element_modulus e)))

abbrev pub element_from : ElementType → ℕ → ℤ
element_from (element.Scalar ty) n = from_residue ty n
element_from element.UnsignedChar n = pos n

abbrev pub element_of : ElementType → ℤ → List ℕ
element_of e z = uleb_of (element_residue e z)
