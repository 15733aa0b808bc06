-- How types, linkages, operators and literals are written (C17, 6.7 and 6.5, for the forms that the language has).
use Rattle.std.specs.Prelude.{ℕ, List, [], ◌++◌, codes}
use Rattle.std.specs.Fmt.{signed_decimal}
use Rattle.gimple_ir.specs.declared.types.ScalarType.{ScalarType}
use Rattle.gimple_ir.specs.declared.types.ScalarType.TheVariants.{Int, UnsignedInt, LongInt, LongUnsignedInt}
use Rattle.gimple_ir.specs.declared.types.ElementType.{ElementType}
use Rattle.gimple_ir.specs.declared.types.ElementType.TheVariants as element
use Rattle.gimple_ir.specs.declared.types.ResultType.{ResultType}
use Rattle.gimple_ir.specs.declared.types.ResultType.TheVariants as returned
use Rattle.gimple_ir.specs.declared.types.Linkage.{Linkage}
use Rattle.gimple_ir.specs.declared.types.Linkage.TheVariants.{Extern, Strong, Weak, Static}
use Rattle.gimple_ir.specs.declared.types.UnaryOp.{UnaryOp}
use Rattle.gimple_ir.specs.declared.types.UnaryOp.TheVariants.{Neg, Not}
use Rattle.gimple_ir.specs.declared.types.BinaryOp.{BinaryOp}
use Rattle.gimple_ir.specs.declared.types.BinaryOp.TheVariants.{Add, Sub, Mul, Div, Rem, And, Or, Xor, Shl, Shr, Eq, Ne, Lt, Le, Gt, Ge}
use Rattle.gimple_ir.specs.declared.types.Value.{Value}

-- one text and then another: as ◌++◌, but grouped to the right
infixr 65 ◌⧺◌
abbrev pub ◌⧺◌ : List ℕ → List ℕ → List ℕ
front ⧺ rest = front ++ rest

-- ---- types and linkages

abbrev pub scalar_text : ScalarType → List ℕ
scalar_text Int = codes "int"
scalar_text UnsignedInt = codes "unsigned int"
scalar_text LongInt = codes "long int"
scalar_text LongUnsignedInt = codes "long unsigned int"

abbrev pub element_text : ElementType → List ℕ
element_text (element.Scalar ty) = scalar_text ty
element_text element.UnsignedChar = codes "unsigned char"

abbrev pub result_text : ResultType → List ℕ
result_text returned.Void = codes "void"
result_text (returned.Scalar ty) = scalar_text ty

-- with the space that follows; a strong definition has no word
abbrev pub linkage_text : Linkage → List ℕ
linkage_text Extern = codes "extern "
linkage_text Strong = []
linkage_text Weak = codes "weak "
linkage_text Static = codes "static "

-- ---- operators

abbrev pub unary_text : UnaryOp → List ℕ
unary_text Neg = codes "-"
unary_text Not = codes "~"

abbrev pub binary_text : BinaryOp → List ℕ
binary_text Add = codes "+"
binary_text Sub = codes "-"
binary_text Mul = codes "*"
binary_text Div = codes "/"
binary_text Rem = codes "%"
binary_text And = codes "&"
binary_text Or = codes "|"
binary_text Xor = codes "^"
binary_text Shl = codes "<<"
binary_text Shr = codes ">>"
binary_text Eq = codes "=="
binary_text Ne = codes "!="
binary_text Lt = codes "<"
binary_text Le = codes "<="
binary_text Gt = codes ">"
binary_text Ge = codes ">="

-- ---- literals

-- the suffix that gives a literal its type
abbrev pub suffix_text : ScalarType → List ℕ
suffix_text Int = []
suffix_text UnsignedInt = codes "u"
suffix_text LongInt = codes "l"
suffix_text LongUnsignedInt = codes "ul"

-- a decimal, with `-` directly before it where it is negative, and the suffix
abbrev pub literal_text : Value → List ℕ
literal_text v = signed_decimal v.num ⧺ suffix_text v.ty
