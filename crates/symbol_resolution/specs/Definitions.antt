-- What the symbols of a name come to, which is all that is kept of them.
use Rattle.std.specs.Prelude.{ℕ, List, unwrap_or, false, ◌||◌, Option, Some, None, if◌then◌else◌}
use Rattle.std.specs.Option.{option_or, is_some}
use Rattle.std.specs.Str.{bytes_eq}
use Rattle.std.specs.HashMap.{HashMap, get_by}
use denote.Ref.{Bor}
use Rattle.gimple_ir.specs.declared.types.Linkage.{Linkage}
use Rattle.gimple_ir.specs.declared.types.Linkage.TheVariants.{Extern, Strong, Weak, Static}
use Rattle.resolution_text.specs.declared.fault.ResolutionKind.{ResolutionKind}
use Rattle.symbol_resolution.specs.declared.definitions.SymbolPlace.{SymbolPlace}
use Rattle.symbol_resolution.specs.declared.definitions.Definitions.{Definitions}
use Rattle.symbol_resolution.specs.Symbols.{LinkSymbol, is_strong, is_weak, first_of, is_doubled, kind_by}

abbrev pub no_definitions : Definitions
no_definitions = record { strong = None; weak = None; doubled = false }

abbrev pub definitions_of : List ℕ → List LinkSymbol → Definitions
definitions_of name symbols = record { strong = first_of is_strong name symbols; weak = first_of is_weak name symbols; doubled = is_doubled name symbols }

-- with one more symbol of the name
abbrev pub with_linkage : Definitions → SymbolPlace → Linkage → Definitions
with_linkage d at Extern = d
with_linkage d at Strong = record { strong = option_or d.strong (Some at); weak = d.weak; doubled = d.doubled || is_some d.strong }
with_linkage d at Weak = record { strong = d.strong; weak = option_or d.weak (Some at); doubled = d.doubled }
with_linkage d at Static = d

-- with one more symbol of any name
abbrev pub with_symbol : List ℕ → Definitions → LinkSymbol → Definitions
with_symbol name d s = if bytes_eq name s.symbol.name then with_linkage d s.at s.symbol.linkage else d

abbrev pub prevailing_by : Definitions → Option SymbolPlace
prevailing_by d = option_or d.strong d.weak

-- ---- by a table of names

abbrev pub Table : Type 0 → Type 0
Table S = HashMap (Bor (List ℕ)) Definitions S

-- what is kept of a name
abbrev pub kept : {S : Type 0} → Table S → List ℕ → Definitions
kept table name = unwrap_or (get_by (λ k. bytes_eq name k.now) table) no_definitions

abbrev pub prevailing_in : {S : Type 0} → Table S → List ℕ → Option SymbolPlace
prevailing_in table name = prevailing_by (kept table name)

abbrev pub kind_in : {S : Type 0} → Table S → List ℕ → Option ResolutionKind
kind_in table name = kind_by (kept table name).doubled (prevailing_by (kept table name))
