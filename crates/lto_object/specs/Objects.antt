-- The one object of a checked module: a file of five sections, which hold the format's version, the declarations, the bodies, the
-- true summaries, and the symbols.
use Rattle.std.specs.Prelude.{◌≡◌, ℕ, List, [], ◌∷◌, ◌++◌, length, map, take, Bool, true, false, nat_eq, Option, Some, None, slice_get, IsSomeAnd, codes, if◌then◌else◌}
use Rattle.std.specs.List.{filter_map, flat_map, list_any, enumerate_from, range_with_len}
use Rattle.gimple_ir.specs.declared.types.Linkage.{Linkage}
use Rattle.gimple_ir.specs.declared.types.Linkage.TheVariants.{Extern, Strong, Weak, Static}
use Rattle.gimple_ir.specs.declared.types.Array.{Array}
use Rattle.gimple_ir.specs.declared.types.Function.{Function}
use Rattle.gimple_ir.specs.declared.types.Module.{Module}
use Rattle.gimple_ir.specs.declared.types.Statement.{Statement}
use Rattle.gimple_ir.specs.declared.types.Statement.TheVariants.{Call}
use Rattle.gimple_ir.specs.declared.summary.Summary.{Summary}
use Rattle.gimple_ir.specs.Programs.{IsChecked}
use Rattle.elf_container.specs.declared.sections.OwnSection.{OwnSection}
use Rattle.elf_container.specs.Layout.{layout_of}
use Rattle.func_summary.specs.Summaries.{summary_of, arrays_in}
use Rattle.module_stream.specs.Bodies.{body_of}
use Rattle.module_stream.specs.Declarations.{decls_of}
use Rattle.lto_object.specs.declared.sections.TheConstants.{SHT_PROGBITS, SHF_EXCLUDE}
use Rattle.lto_object.specs.declared.symbol.Symbol.{Symbol}
use Rattle.lto_object.specs.Bounds.{is_defined, defined_of}
use Rattle.lto_object.specs.BodyStream.{bodies_of, bodies_bytes}
use Rattle.lto_object.specs.SummaryStream.{summaries_bytes}
use Rattle.lto_object.specs.SymbolStream.{stored_of, symbols_bytes}

-- the number is that of a function with a body
abbrev pub IsDefinition : Module → ℕ → Type 0
IsDefinition m place = IsSomeAnd (slice_get m.functions place) (λ f. is_defined f ≡ true)

-- the true summaries, of the functions that have a body, in order
abbrev pub summaries_of : Module → List Summary
summaries_of m = map (summary_of m) (defined_of m.functions)

-- ---- symbols

abbrev pub functions_in : Statement → List ℕ
functions_in (Call to f args) = f ∷ []
functions_in _ = []

-- the arrays that statements name, as often as they do
abbrev pub named_arrays : List Function → List ℕ
named_arrays functions = flat_map (λ f. flat_map arrays_in f.body) functions

-- the functions that statements name, as often as they do
abbrev pub named_functions : List Function → List ℕ
named_functions functions = flat_map (λ f. flat_map functions_in f.body) functions

-- a definition is listed unless it is static, a declaration where a statement names it
abbrev pub is_listed : Linkage → Bool → Bool
is_listed Extern named = named
is_listed Strong named = true
is_listed Weak named = true
is_listed Static named = false

abbrev pub array_symbol : List ℕ → ℕ → Array → Option Symbol
array_symbol named place a =
    if is_listed a.linkage (list_any (nat_eq place) named)
    then Some (record { name = a.name; function = false; linkage = a.linkage; place = place }) else None

abbrev pub function_symbol : List ℕ → ℕ → Function → Option Symbol
function_symbol named place f =
    if is_listed f.linkage (list_any (nat_eq place) named)
    then Some (record { name = f.name; function = true; linkage = f.linkage; place = place }) else None

abbrev pub array_symbols : List ℕ → List Array → List Symbol
array_symbols named arrays = filter_map (λ pair. array_symbol named pair.0 pair.1) (enumerate_from 0 arrays)

abbrev pub function_symbols : List ℕ → List Function → List Symbol
function_symbols named functions = filter_map (λ pair. function_symbol named pair.0 pair.1) (enumerate_from 0 functions)

-- of the arrays and then of the functions, in order
abbrev pub symbols_of : Module → List Symbol
symbols_of m = array_symbols (named_arrays m.functions) m.arrays ++ function_symbols (named_functions m.functions) m.functions

-- ---- the file

abbrev pub section_of : List ℕ → List ℕ → OwnSection
section_of name bytes = record { name = name; kind = SHT_PROGBITS; flags = SHF_EXCLUDE; link = 0; info = 0; entry_size = 0; bytes = bytes }

-- the five sections with these bytes
abbrev pub sections_with : List ℕ → List ℕ → List ℕ → List ℕ → List ℕ → List OwnSection
sections_with version decls bodies summaries symbols =
    section_of (codes ".gnu.lto_.version") version ∷ section_of (codes ".gnu.lto_.decls") decls ∷ section_of (codes ".gnu.lto_.bodies") bodies
    ∷ section_of (codes ".gnu.lto_.summaries") summaries ∷ section_of (codes ".gnu.lto_.symbols") symbols ∷ []

unfoldable pub sections_of : Module → List OwnSection
sections_of m =
    sections_with (1 ∷ []) (decls_of m) (bodies_bytes (bodies_of m.functions)) (summaries_bytes (summaries_of m)) (symbols_bytes (map stored_of (symbols_of m)))

unfoldable pub object_of : Module → List ℕ
object_of m = layout_of (sections_of m)

-- ---- what contracts see of an object that was read

pub record ObjectData : Type 0 where
  pub source : Module
  pub summaries : List Summary
  pub symbols : List Symbol
  -- the bytes of the bodies of the functions that have one
  pub bodies : List (List ℕ)

-- for each function how many functions with a body stand before it
abbrev pub ranks_of : List Function → List ℕ
ranks_of functions = map (λ place. length (defined_of (take place functions))) (range_with_len 0 (length functions))

-- the module is checked, and all else is that of the module
pub record IsObject (o : ObjectData) : Type 0 where
  pub checked : IsChecked o.source
  pub summaries : o.summaries ≡ summaries_of o.source
  pub symbols : o.symbols ≡ symbols_of o.source
  pub bodies : o.bodies ≡ map body_of (bodies_of o.source.functions)
