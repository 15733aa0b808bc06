-- The binary operators as signs.
use Rattle.std.specs.Prelude.{Option, Some, None}
use Rattle.gimple_ir.specs.declared.types.BinaryOp.{BinaryOp}
use Rattle.gimple_ir.specs.declared.types.BinaryOp.TheVariants.{Add, Sub, Mul, Div, Rem, And, Or, Xor, Shl, Shr, Eq, Ne, Lt, Le, Gt, Ge}
use Rattle.gimple_tokens.specs.declared.token.Mark.{Mark}
use Rattle.gimple_tokens.specs.declared.token.Mark.TheVariants.{Minus, Plus, Asterisk, Slash, Percent, Ampersand, VerticalBar, Caret, EqualsEquals, NotEquals, Less, LessEquals, Greater, GreaterEquals, ShiftLeft, ShiftRight}
use Rattle.gimple_tokens.specs.Tokens.{Lexeme, Sign}

abbrev pub mark_of : BinaryOp → Mark
mark_of Add = Plus
mark_of Sub = Minus
mark_of Mul = Asterisk
mark_of Div = Slash
mark_of Rem = Percent
mark_of And = Ampersand
mark_of Or = VerticalBar
mark_of Xor = Caret
mark_of Shl = ShiftLeft
mark_of Shr = ShiftRight
mark_of Eq = EqualsEquals
mark_of Ne = NotEquals
mark_of Lt = Less
mark_of Le = LessEquals
mark_of Gt = Greater
mark_of Ge = GreaterEquals

abbrev pub operator_of : Mark → Option BinaryOp
operator_of Plus = Some Add
operator_of Minus = Some Sub
operator_of Asterisk = Some Mul
operator_of Slash = Some Div
operator_of Percent = Some Rem
operator_of Ampersand = Some And
operator_of VerticalBar = Some Or
operator_of Caret = Some Xor
operator_of ShiftLeft = Some Shl
operator_of ShiftRight = Some Shr
operator_of EqualsEquals = Some Eq
operator_of NotEquals = Some Ne
operator_of Less = Some Lt
operator_of LessEquals = Some Le
operator_of Greater = Some Gt
operator_of GreaterEquals = Some Ge
operator_of _ = None

abbrev pub operator_in : Lexeme → Option BinaryOp
operator_in (Sign mark) = operator_of mark
operator_in _ = None
