-- What a text is read as: a module, or the first fault with its line and kind. First the faults of bytes and syntax count,
-- then those of the checks.
use Rattle.std.specs.Prelude.{◌≡◌, ◌⊎◌, ℕ, ◌+◌, ◌-◌, List, [], ◌++◌, length, filter, slice_get, Bool, true, false, not, ◌&&◌, nat_lt, if◌then◌else◌, Option, Some, None, Result, Ok, Err}
use Rattle.std.specs.List.{list_any, list_all}
use Rattle.std.specs.Option.{option_map_or}
use Rattle.gimple_ir.specs.declared.types.Function.{Function}
use Rattle.gimple_ir.specs.declared.types.Module.{Module}
use Rattle.gimple_ir.specs.declared.fault.TypeFault.{TypeFault}
use Rattle.gimple_ir.specs.declared.fault.TypeKind.{TypeKind}
use Rattle.gimple_ir.specs.declared.fault.TypeKind.TheVariants.{UnknownName, WrongCount, WrongType, NegLiteral, BadCase}
use Rattle.gimple_ir.specs.Names.{is_builtin}
use Rattle.gimple_ir.specs.Checks.{knows_struct, fault_of}
use Rattle.gimple_tokens.specs.declared.token.TextKind.{TextKind as SyntaxKind}
use Rattle.gimple_tokens.specs.declared.token.TextKind.TheVariants as syntax
use Rattle.gimple_tokens.specs.Tokens.{Placed, tokens_of}
use Rattle.gimple_tokens.specs.Reading.{line_of}
use Rattle.gimple_tokens.specs.Stops.{Stuck}
use Rattle.gimple_grammar.specs.declared.syntax.Item.{Item}
use Rattle.gimple_grammar.specs.declared.syntax.Item.TheVariants as item
use Rattle.gimple_grammar.specs.declared.syntax.Line.{Line}
use Rattle.gimple_grammar.specs.declared.syntax.ItemLine.{ItemLine}
use Rattle.gimple_grammar.specs.declared.text.SyntaxFault.{SyntaxFault}
use Rattle.gimple_grammar.specs.declared.text.SyntaxError.{SyntaxError}
use Rattle.gimple_grammar.specs.declared.text.SyntaxError.TheVariants as syntax_error
use Rattle.gimple_grammar.specs.Items.{module_text}
use Rattle.gimple_grammar.specs.Texts.{Spells, IsFirstFault}
use Rattle.gimple_syntax.specs.declared.text.TextFault.{TextFault}
use Rattle.gimple_syntax.specs.declared.text.TextKind.{TextKind}
use Rattle.gimple_syntax.specs.declared.text.TextKind.TheVariants.{Byte, Syntax, Literal, Check}
use Rattle.gimple_syntax.specs.declared.text.TextError.{TextError}
use Rattle.gimple_syntax.specs.declared.text.TextError.TheVariants.{Fault, NoMemory}
use Rattle.gimple_syntax.specs.declared.lines.Sort.{Sort}
use Rattle.gimple_syntax.specs.declared.lines.Sort.TheVariants.{Structs, Arrays, Functions}
use Rattle.gimple_syntax.specs.Items.{module_of}

-- ---- items in the order in which they are checked

abbrev pub is_of : Sort → Item → Bool
is_of Structs (item.Struct s) = true
is_of Arrays (item.ExternArray a) = true
is_of Arrays (item.Array linkage a) = true
is_of Functions (item.ExternFunction f) = true
is_of Functions (item.Function linkage f body) = true
is_of _ _ = false

abbrev pub items_of_sort : Sort → List ItemLine → List ItemLine
items_of_sort sort items = filter (λ i. is_of sort i.item) items

-- by the numbers of items: structs, then arrays, then functions
abbrev pub in_order : List ItemLine → List ItemLine
in_order items = items_of_sort Structs items ++ (items_of_sort Arrays items ++ items_of_sort Functions items)

-- ---- lines

abbrev pub lines_in : Item → List Line
lines_in (item.Function linkage f body) = body.lines
lines_in _ = []

-- the line of a statement of an item
abbrev pub statement_line : ItemLine → ℕ → ℕ
statement_line i statement = option_map_or (λ l. l.line) (slice_get (lines_in i.item) statement) 0

abbrev pub line_in : Bool → ℕ → ItemLine → ℕ
line_in true statement i = statement_line i statement
line_in false statement i = i.line

-- ---- faults of the checks

-- no name of the function itself is unknown
abbrev pub knows_its_names : Module → Function → Bool
knows_its_names m f =
    not (is_builtin f.name) && not (list_any (λ v. is_builtin v.name) f.variables)
    && list_all (λ v. knows_struct (length m.structs) v.ty) f.variables

-- a fault of a statement, not of the item
abbrev pub is_found_in_statement : Module → ℕ → TypeKind → Bool
is_found_in_statement m number UnknownName =
    if nat_lt number (length m.structs + length m.arrays) then false
    else option_map_or (knows_its_names m) (slice_get m.functions (number - (length m.structs + length m.arrays))) false
is_found_in_statement m number WrongCount = true
is_found_in_statement m number WrongType = true
is_found_in_statement m number NegLiteral = true
is_found_in_statement m number BadCase = true
is_found_in_statement m number _ = false

abbrev pub is_in_statement : Module → TypeFault → Bool
is_in_statement m fault = is_found_in_statement m fault.item fault.kind

abbrev pub check_fault : List ItemLine → TypeFault → TextFault
check_fault items fault =
    record {
      line = option_map_or (line_in (is_in_statement (module_of items) fault) fault.statement) (slice_get (in_order items) fault.item) 0;
      kind = Check fault.kind;
    }

-- the module of the items, if it has no fault
abbrev pub checked_by : List ItemLine → Option TypeFault → Result Module TextFault
checked_by items None = Ok (module_of items)
checked_by items (Some fault) = Err (check_fault items fault)

unfoldable pub checked : List ItemLine → Result Module TextFault
checked items = checked_by items (fault_of (module_of items))

-- ---- texts

abbrev pub text_kind : SyntaxKind → TextKind
text_kind syntax.Byte = Byte
text_kind syntax.Syntax = Syntax
text_kind syntax.Literal = Literal

abbrev pub syntax_fault : ℕ → SyntaxKind → TextFault
syntax_fault line kind = record { line = line; kind = text_kind kind }

abbrev pub read_items : Result (List ItemLine × List Placed) Stuck → Result Module TextFault
read_items (Ok x) = checked x.0
read_items (Err s) = Err (syntax_fault (line_of s.rest) s.kind)

-- the module that is read, or the first fault
unfoldable pub read_of : List ℕ → Result Module TextFault
read_of text = read_items (module_text.read (tokens_of text))

-- ---- what a text spells

-- the module of the items that the tokens spell, where the checks find nothing
pub record SpellsModule (text : List ℕ) (m : Module) : Type 0 where
  pub items : List ItemLine
  pub spelled : Spells (tokens_of text) items
  pub numbered : module_of items ≡ m
  pub faultless : fault_of m ≡ None

-- a fault of the syntax: the first token with which no text goes on
pub record IsSyntaxFault (text : List ℕ) (fault : TextFault) : Type 0 where
  pub found : SyntaxFault
  pub same : fault ≡ syntax_fault found.line found.kind
  pub first : IsFirstFault (tokens_of text) found

-- a fault of the checks, in a text of the grammar: the first of them
pub record IsCheckFault (text : List ℕ) (fault : TextFault) : Type 0 where
  pub items : List ItemLine
  pub spelled : Spells (tokens_of text) items
  pub first : checked items ≡ Err fault

abbrev pub HasFault : List ℕ → TextFault → Type 0
HasFault text fault = IsSyntaxFault text fault ⊎ IsCheckFault text fault

-- ---- what a call answers

abbrev pub GivesModule : Result Module TextError → Result Module TextFault → Type 0
GivesModule (Ok m) read = read ≡ Ok m
GivesModule (Err NoMemory) read = Unit {0}
GivesModule (Err (Fault fault)) read = read ≡ Err fault

abbrev pub IsModuleOrMemory : Result Module TextError → Module → Type 0
IsModuleOrMemory (Ok found) m = found ≡ m
IsModuleOrMemory (Err NoMemory) m = Unit {0}
IsModuleOrMemory (Err (Fault fault)) m = ⊥

abbrev pub IfFault : Result Module TextError → (TextFault → Type 0) → Type 0
IfFault (Err (Fault fault)) P = P fault
IfFault _ P = Unit {0}

-- what is answered once the syntax is read, or is not
abbrev pub Finishes : Result Module TextError → Result (List ItemLine) SyntaxError → Type 0
Finishes result (Ok items) = GivesModule result (checked items)
Finishes result (Err syntax_error.NoMemory) = result ≡ Err NoMemory
Finishes result (Err (syntax_error.Fault fault)) = result ≡ Err (Fault (syntax_fault fault.line fault.kind))
