-- The resolution of a link: PREVAILING_DEF for the prevailing definition of `main`, PREVAILING_DEF_IRONLY for that of each other
-- name, PREEMPTED_IR for all other definitions and RESOLVED_IR for declarations, with the number of the file from 1. Or its
-- first fault, by the names in the order of their first symbols: two strong definitions, or none at all.
use Rattle.std.specs.Prelude.{◌≡◌, ⊤, ◌⊎◌, ℕ, ◌+◌, List, [], ◌∷◌, map, Bool, false, ◌&&◌, nat_eq, Option, Some, None, Result, Ok, Err, codes, if◌then◌else◌}
use Rattle.std.specs.Str.{bytes_eq}
use Rattle.gimple_ir.specs.Checks.{is_extern}
use Rattle.lto_object.specs.Objects.{ObjectData}
use Rattle.resolution_text.specs.declared.resolution.Word.{Word}
use Rattle.resolution_text.specs.declared.resolution.Word.TheVariants.{PrevailingDef, PrevailingDefIronly, PreemptedIr, ResolvedIr}
use Rattle.resolution_text.specs.declared.resolution.Resolved.{Resolved}
use Rattle.resolution_text.specs.declared.resolution.ResolvedFile.{ResolvedFile}
use Rattle.resolution_text.specs.declared.resolution.Resolution.{Resolution}
use Rattle.resolution_text.specs.declared.fault.ResolutionKind.{ResolutionKind}
use Rattle.resolution_text.specs.declared.fault.ResolutionError.{ResolutionError}
use Rattle.resolution_text.specs.declared.fault.ResolutionError.TheVariants.{AtName, NoMemory}
use Rattle.symbol_resolution.specs.declared.definitions.SymbolPlace.{SymbolPlace}
use Rattle.symbol_resolution.specs.Symbols.{LinkSymbol, symbols_in, symbols_of_link, prevailing, name_fault}

abbrev pub is_at : Option SymbolPlace → SymbolPlace → Bool
is_at None at = false
is_at (Some first) at = nat_eq first.object at.object && nat_eq first.place at.place

-- the word of a symbol, by where the prevailing one of its name stands
abbrev pub word_by : Option SymbolPlace → LinkSymbol → Word
word_by prevails s =
    if is_extern s.symbol.linkage then ResolvedIr
    else if is_at prevails s.at then (if bytes_eq s.symbol.name (codes "main") then PrevailingDef else PrevailingDefIronly)
    else PreemptedIr

-- the line of a symbol, by what prevails under each name
abbrev pub resolved_by : (List ℕ → Option SymbolPlace) → LinkSymbol → Resolved
resolved_by prevails s = record { word = word_by (prevails s.symbol.name) s; name = s.symbol.name; id = s.at.object + 1 }

abbrev pub files_from : (List ℕ → Option SymbolPlace) → ℕ → List ObjectData → List (List ℕ) → List ResolvedFile
files_from prevails object [] names = []
files_from prevails object (o ∷ os) [] = []
files_from prevails object (o ∷ os) (name ∷ names) =
    record { name = name; words = map (resolved_by prevails) (symbols_in object 0 o.symbols) } ∷ files_from prevails (object + 1) os names

abbrev pub fault_with : List ℕ → Option ResolutionKind → Option ResolutionError → Option ResolutionError
fault_with name None next = next
fault_with name (Some kind) next = Some (AtName kind name)

-- the fault of the first symbol's name that has one, by what is wrong with each name
abbrev pub first_fault : (List ℕ → Option ResolutionKind) → List LinkSymbol → Option ResolutionError
first_fault wrong [] = None
first_fault wrong (s ∷ ss) = fault_with s.symbol.name (wrong s.symbol.name) (first_fault wrong ss)

abbrev pub or_fault : Option ResolutionError → List ResolvedFile → Result Resolution ResolutionError
or_fault None files = Ok (record { files = files })
or_fault (Some e) files = Err e

-- the resolution of objects under their names, or the first fault
abbrev pub resolve_of : List ObjectData → List (List ℕ) → Result Resolution ResolutionError
resolve_of objects names =
    let symbols = symbols_of_link objects in
    or_fault (first_fault (λ name. name_fault name symbols) symbols) (files_from (λ name. prevailing name symbols) 0 objects names)

-- a check passed, or gave the fault, unless memory ran out
abbrev pub GivesFault : Result ⊤ ResolutionError → Option ResolutionError → Type 0
GivesFault (Ok x) fault = fault ≡ None
GivesFault (Err e) fault = (fault ≡ Some e) ⊎ (e ≡ NoMemory)
