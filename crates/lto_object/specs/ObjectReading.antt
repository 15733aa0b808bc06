-- Reading an object, up to the first fault: of the file, of its sections, of the four streams in order, of the module by its checks,
-- of the summaries, and of the symbols.
use Rattle.std.specs.Prelude.{◌≡◌, ℕ, ◌+◌, List, [], ◌∷◌, drop, Bool, ◌&&◌, ◌==◌, Option, Some, None, option_map, unwrap_or, slice_get, Result, Ok, Err, if◌then◌else◌}
use Rattle.std.specs.Str.{bytes_eq}
use Rattle.gimple_ir.specs.declared.types.Function.{Function}
use Rattle.gimple_ir.specs.declared.types.Module.{Module}
use Rattle.gimple_ir.specs.declared.types.Statement.{Statement}
use Rattle.gimple_ir.specs.declared.summary.Summary.{Summary}
use Rattle.gimple_ir.specs.Checks.{fault_of}
use Rattle.elf_container.specs.declared.fault.ElfKind.TheVariants as elf
use Rattle.elf_container.specs.declared.fault.ElfKind.{ElfKind}
use Rattle.elf_container.specs.declared.fault.ElfFault.{ElfFault}
use Rattle.elf_container.specs.declared.sections.OwnSection.{OwnSection}
use Rattle.elf_container.specs.Offsets.{offset_of}
use Rattle.elf_container.specs.Reading.{read_of as read_sections}
use Rattle.elf_container.specs.ObjectReading.{part}
use Rattle.func_summary.specs.Summaries.{summary_of}
use Rattle.module_stream.specs.Codes.{flag_code, linkage_code}
use Rattle.module_stream.specs.DeclarationReading.{read_decls}
use Rattle.lto_object.specs.declared.fault.ObjectFault.{ObjectFault}
use Rattle.lto_object.specs.declared.fault.ObjectFault.TheVariants.{NotElf, WrongClass, WrongMachine, Truncated, Compressed, BadStream, Trailing, TypeFault, SummaryDiffers, SymbolsDiffer, BadLayout}
use Rattle.lto_object.specs.declared.fault.ObjectError.{ObjectError}
use Rattle.lto_object.specs.declared.fault.ObjectError.TheVariants as errors
use Rattle.lto_object.specs.declared.symbol.Symbol.{Symbol}
use Rattle.lto_object.specs.declared.symbols.StoredSymbol.{StoredSymbol}
use Rattle.lto_object.specs.Bounds.{is_defined}
use Rattle.lto_object.specs.Objects.{symbols_of, ObjectData}
use Rattle.lto_object.specs.Forms.{sections_fault}
use Rattle.lto_object.specs.BodyStream.{read_bodies}
use Rattle.lto_object.specs.SummaryStream.{summary_bytes, read_summaries}
use Rattle.lto_object.specs.SymbolStream.{stored_of, read_symbols}

-- ---- steps

infixl 10 ◌>>=◌
abbrev pub ◌>>=◌ : {A B : Type 0} → Result A ObjectFault → (A → Result B ObjectFault) → Result B ObjectFault
(Ok x) >>= f = f x
(Err e) >>= f = Err e

abbrev pub unless : {A : Type 0} → Option ObjectFault → Result A ObjectFault → Result A ObjectFault
unless None more = more
unless (Some fault) more = Err fault

-- ---- the file

abbrev pub fault_by : ElfKind → ℕ → ObjectFault
fault_by elf.NotElf offset = NotElf offset
fault_by elf.WrongClass offset = WrongClass offset
fault_by elf.WrongMachine offset = WrongMachine offset
fault_by elf.Truncated offset = Truncated offset
fault_by elf.Trailing offset = Trailing offset
fault_by elf.Compressed offset = Compressed offset
fault_by elf.BadLayout offset = BadLayout offset

abbrev pub of_file : {A : Type 0} → Result A ElfFault → Result A ObjectFault
of_file (Ok x) = Ok x
of_file (Err fault) = Err (fault_by fault.kind fault.offset)

-- the sections of an object
unfoldable pub read_file : List ℕ → Result (List OwnSection) ObjectFault
read_file bytes = of_file (read_sections bytes) >>= λ ss. unless (sections_fault ss) (Ok ss)

-- ---- the streams

-- what is read of a stream that begins at an offset of the file
abbrev pub of_stream : {A : Type 0} → ℕ → Result A ℕ → Result A ObjectFault
of_stream start (Ok x) = Ok x
of_stream start (Err offset) = Err (BadStream (start + offset))

-- a stream that is the section at a place
abbrev pub stream : {A : Type 0} → (List ℕ → Result A ℕ) → ℕ → List OwnSection → Result A ObjectFault
stream read place ss = of_stream (offset_of ss place) (read (part place ss))

abbrev pub with_body : Function → List Statement → Function
with_body f body = record { name = f.name; linkage = f.linkage; result = f.result; parameters = f.parameters; variables = f.variables; labels = f.labels; body = body }

-- the functions with the bodies, of which each that is not extern takes the next
abbrev pub filled : List Function → List (List Statement) → List Function
filled [] bodies = []
filled (f ∷ fs) bodies =
    if is_defined f then with_body f (unwrap_or (slice_get bodies 0) []) ∷ filled fs (drop 1 bodies)
    else with_body f [] ∷ filled fs bodies

abbrev pub with_bodies : Module → List (List Statement) → Module
with_bodies m bodies = record { structs = m.structs; arrays = m.arrays; functions = filled m.functions bodies }

-- what the streams hold: the module, and the summaries and symbols that are stored
pub record Stored : Type 0 where
  pub source : Module
  pub summaries : List Summary
  pub symbols : List StoredSymbol

unfoldable pub read_streams : List OwnSection → Result Stored ObjectFault
read_streams ss =
    stream read_decls 1 ss >>= λ declared. stream (read_bodies declared) 2 ss >>= λ bodies. stream (read_summaries declared) 3 ss >>= λ summaries.
    stream read_symbols 4 ss >>= λ symbols. Ok (record { source = with_bodies declared bodies; summaries = summaries; symbols = symbols })

-- ---- the checks

abbrev pub type_fault : Module → Option ObjectFault
type_fault m = option_map (λ fault. TypeFault fault) (fault_of m)

-- two summaries are the same where they are spelled alike
abbrev pub same_summary : Summary → Summary → Bool
same_summary s t = bytes_eq (summary_bytes s) (summary_bytes t)

-- the stored summary is not the true one
abbrev pub summary_fault : Module → ℕ → Function → Summary → Option ObjectFault
summary_fault m place f stored =
    if same_summary stored (summary_of m f) then None else Some (SummaryDiffers place stored (summary_of m f))

abbrev pub first : Option ObjectFault → Option ObjectFault → Option ObjectFault
first None more = more
first (Some fault) more = Some fault

-- the first fault of the summaries of functions, of which the first has a place, and each that is not extern the next summary
abbrev pub summaries_fault_from : Module → ℕ → List Function → List Summary → Option ObjectFault
summaries_fault_from m place [] stored = None
summaries_fault_from m place (f ∷ fs) [] = None
summaries_fault_from m place (f ∷ fs) (s ∷ stored) =
    if is_defined f then first (summary_fault m place f s) (summaries_fault_from m (place + 1) fs stored)
    else summaries_fault_from m (place + 1) fs (s ∷ stored)

abbrev pub summaries_fault : Module → List Summary → Option ObjectFault
summaries_fault m stored = summaries_fault_from m 0 m.functions stored

abbrev pub same_symbol : StoredSymbol → StoredSymbol → Bool
same_symbol s t = flag_code s.function == flag_code t.function && linkage_code s.linkage == linkage_code t.linkage && bytes_eq s.name t.name

-- the first place, of which the first is given, where the stored symbols are not those of the module
abbrev pub differs_from : ℕ → List StoredSymbol → List Symbol → Option ℕ
differs_from place [] [] = None
differs_from place [] (s ∷ ss) = Some place
differs_from place (t ∷ stored) [] = Some place
differs_from place (t ∷ stored) (s ∷ ss) = if same_symbol t (stored_of s) then differs_from (place + 1) stored ss else Some place

abbrev pub symbols_fault : Module → List StoredSymbol → Option ObjectFault
symbols_fault m stored = option_map (λ place. SymbolsDiffer place) (differs_from 0 stored (symbols_of m))

-- the module, where nothing is wrong with it, its summaries and its symbols
unfoldable pub checked : Stored → Result Module ObjectFault
checked o =
    unless (type_fault o.source) (unless (summaries_fault o.source o.summaries) (unless (symbols_fault o.source o.symbols) (Ok o.source)))

-- ---- the whole

-- the module of an object, or the object's first fault
unfoldable pub read_of : List ℕ → Result Module ObjectFault
read_of bytes = read_file bytes >>= λ ss. read_streams ss >>= λ o. checked o

-- ---- what a call answers

-- the fault that reading gives, or want of memory
abbrev pub Fails : {A : Type 0} → ObjectError → Result A ObjectFault → Type 0
Fails errors.NoMemory read = Unit {0}
Fails (errors.Fault fault) read = read ≡ Err fault

-- what reading gives, unless memory ran out
abbrev pub GivesSeen : {X A : Type 0} → (X → A) → Result X ObjectError → Result A ObjectFault → Type 0
GivesSeen view (Ok x) read = read ≡ Ok (view x)
GivesSeen view (Err e) read = Fails e read

-- an object by its module
abbrev pub Gives : Result ObjectData ObjectError → Result Module ObjectFault → Type 0
Gives result read = GivesSeen (λ o. o.source) result read
