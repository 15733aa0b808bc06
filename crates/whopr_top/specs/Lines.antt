-- The lines that commands print: how a machine stands, how a program stands, the fault of a text, the fault of an object, a limit that
-- is passed, the fault of a resolution.
use Rattle.std.specs.Prelude.{ℕ, List, [], ◌∷◌, ◌++◌, codes, decimal}
use Rattle.gimple_ir.specs.declared.fault.TypeKind.{TypeKind}
use Rattle.gimple_ir.specs.declared.fault.TypeKind.TheVariants.{DoubleName, UnknownName, TooMany, BadLabel, OpenEnd, WrongCount, WrongType, NegLiteral, BadCase}
use Rattle.gimple_syntax.specs.declared.text.TextKind.{TextKind}
use Rattle.gimple_syntax.specs.declared.text.TextKind.TheVariants.{Byte, Syntax, Literal, Check}
use Rattle.lto_object.specs.declared.fault.ObjectFault.{ObjectFault}
use Rattle.lto_object.specs.declared.fault.ObjectFault.TheVariants.{NotElf, WrongClass, WrongMachine, Truncated, MissingSection, DoubleSection, Compressed, BadVersion, BadStream, Trailing, TypeFault, SummaryDiffers, SymbolsDiffer, BadLayout}
use Rattle.program_link.specs.declared.fault.LimitFault.{LimitFault}
use Rattle.program_link.specs.declared.fault.Quantity.{Quantity}
use Rattle.program_link.specs.declared.fault.Quantity.TheVariants.{LinkFunctions, LinkCode, LinkData}
use Rattle.resolution_text.specs.declared.fault.ResolutionKind.{ResolutionKind}
use Rattle.resolution_text.specs.declared.fault.ResolutionKind.TheVariants.{BadLine, FileCount, FileName, SymbolCount, SymbolName, NativeWord, NoPrevailing, TwoPrevailing, WordKind, TypeMismatch, NoMain}
use Rattle.whopr_top.specs.declared.refusal.ResolutionPlace.{ResolutionPlace}
use Rattle.whopr_top.specs.declared.refusal.ResolutionPlace.TheVariants.{AtLine, AtName}
use Rattle.rv64_meaning.specs.Machine.{Outcome, Running, Ended, Trapped}
use Rattle.gimple_meaning.specs.declared.outcome.Outcome.{Outcome as Standing}
use Rattle.gimple_meaning.specs.declared.outcome.Outcome.TheVariants as stands

abbrev pub line : List ℕ → List ℕ
line text = text ++ 10 ∷ []

-- how a machine stands after its run
abbrev pub outcome_line : Outcome → List ℕ
outcome_line (Running output) = line (codes "running")
outcome_line (Ended status output) = line (codes "ended " ++ decimal status)
outcome_line (Trapped address output) = line (codes "trapped " ++ decimal address)

-- a word of a line, behind a space
abbrev pub spaced : List ℕ → List ℕ
spaced word = codes " " ++ word

-- a program that is undefined at a statement of a function
abbrev pub undefined_line : (function statement : ℕ) → List ℕ
undefined_line function statement = line ((codes "undefined " ++ decimal function) ++ spaced (decimal statement))

-- how a program stands after its run
abbrev pub standing_line : Standing → List ℕ
standing_line stands.Running = line (codes "running")
standing_line (stands.Ended status) = line (codes "ended " ++ decimal status)
standing_line (stands.Undefined function statement) = undefined_line function statement

-- the word of a fault's kind
abbrev pub check_word : TypeKind → List ℕ
check_word DoubleName = codes "DoubleName"
check_word UnknownName = codes "UnknownName"
check_word TooMany = codes "TooMany"
check_word BadLabel = codes "BadLabel"
check_word OpenEnd = codes "OpenEnd"
check_word WrongCount = codes "WrongCount"
check_word WrongType = codes "WrongType"
check_word NegLiteral = codes "NegLiteral"
check_word BadCase = codes "BadCase"

abbrev pub kind_word : TextKind → List ℕ
kind_word Byte = codes "Byte"
kind_word Syntax = codes "Syntax"
kind_word Literal = codes "Literal"
kind_word (Check kind) = check_word kind

-- the line of a text's fault
abbrev pub text_line : ℕ → TextKind → List ℕ
text_line at kind = line ((codes "9 text " ++ (decimal at ++ codes " ")) ++ kind_word kind)

-- the word of an object's fault
abbrev pub object_word : ObjectFault → List ℕ
object_word (NotElf offset) = codes "NotElf"
object_word (WrongClass offset) = codes "WrongClass"
object_word (WrongMachine offset) = codes "WrongMachine"
object_word (Truncated offset) = codes "Truncated"
object_word (MissingSection offset) = codes "MissingSection"
object_word (DoubleSection offset) = codes "DoubleSection"
object_word (Compressed offset) = codes "Compressed"
object_word (BadVersion offset) = codes "BadVersion"
object_word (BadStream offset) = codes "BadStream"
object_word (Trailing offset) = codes "Trailing"
object_word (TypeFault fault) = codes "TypeFault"
object_word (SummaryDiffers function stored found) = codes "SummaryDiffers"
object_word (SymbolsDiffer place) = codes "SymbolsDiffer"
object_word (BadLayout offset) = codes "BadLayout"

-- where an object's fault is: at an offset; for a fault of the checks its kind, its item and its statement
abbrev pub object_place : ObjectFault → List ℕ
object_place (NotElf offset) = spaced (decimal offset)
object_place (WrongClass offset) = spaced (decimal offset)
object_place (WrongMachine offset) = spaced (decimal offset)
object_place (Truncated offset) = spaced (decimal offset)
object_place (MissingSection offset) = spaced (decimal offset)
object_place (DoubleSection offset) = spaced (decimal offset)
object_place (Compressed offset) = spaced (decimal offset)
object_place (BadVersion offset) = spaced (decimal offset)
object_place (BadStream offset) = spaced (decimal offset)
object_place (Trailing offset) = spaced (decimal offset)
object_place (TypeFault fault) = (spaced (check_word fault.kind) ++ spaced (decimal fault.item)) ++ spaced (decimal fault.statement)
object_place (SummaryDiffers function stored found) = spaced (decimal function)
object_place (SymbolsDiffer place) = spaced (decimal place)
object_place (BadLayout offset) = spaced (decimal offset)

-- the line of the fault of the object with this number
abbrev pub object_line : ℕ → ObjectFault → List ℕ
object_line number fault = line (((codes "3 object " ++ (decimal number ++ codes " ")) ++ object_word fault) ++ object_place fault)

-- the word of what has a limit
abbrev pub quantity_word : Quantity → List ℕ
quantity_word LinkFunctions = codes "LinkFunctions"
quantity_word LinkCode = codes "LinkCode"
quantity_word LinkData = codes "LinkData"

-- the line of a number above its limit
abbrev pub limit_line : LimitFault → List ℕ
limit_line passed = line (((codes "4 limit " ++ quantity_word passed.quantity) ++ spaced (decimal passed.number)) ++ spaced (decimal passed.limit))

-- the word of a resolution's fault
abbrev pub resolution_word : ResolutionKind → List ℕ
resolution_word BadLine = codes "BadLine"
resolution_word FileCount = codes "FileCount"
resolution_word FileName = codes "FileName"
resolution_word SymbolCount = codes "SymbolCount"
resolution_word SymbolName = codes "SymbolName"
resolution_word NativeWord = codes "NativeWord"
resolution_word NoPrevailing = codes "NoPrevailing"
resolution_word TwoPrevailing = codes "TwoPrevailing"
resolution_word WordKind = codes "WordKind"
resolution_word TypeMismatch = codes "TypeMismatch"
resolution_word NoMain = codes "NoMain"

-- where it is: at a line of the text, or at a name
abbrev pub resolution_place : ResolutionPlace → List ℕ
resolution_place (AtLine number) = decimal number
resolution_place (AtName name) = name

-- the line of a resolution's fault
abbrev pub resolution_line : ResolutionKind → ResolutionPlace → List ℕ
resolution_line kind place = line ((codes "8 resolution " ++ resolution_word kind) ++ spaced (resolution_place place))

-- the line of a job file's first bad line, by its number
abbrev pub jobs_line : ℕ → List ℕ
jobs_line number = line (codes "10 jobs " ++ decimal number)

-- the line of objects that are too large together
abbrev pub batch_bytes_line : List ℕ
batch_bytes_line = line (codes "4 limit BatchBytes 268435457 268435456")
