-- The symbols of a link, and what prevails under a name: of its definitions the first strong one, or else the first weak one.
use Rattle.std.specs.Prelude.{ℕ, ◌+◌, List, [], ◌∷◌, ◌++◌, Bool, true, false, ◌&&◌, Option, Some, None, nat_lt, count_by, if◌then◌else◌}
use Rattle.std.specs.List.{find}
use Rattle.std.specs.Option.{option_map, option_or, is_some}
use Rattle.std.specs.Str.{bytes_eq}
use Rattle.gimple_ir.specs.declared.types.Linkage.{Linkage}
use Rattle.gimple_ir.specs.declared.types.Linkage.TheVariants.{Extern, Strong, Weak, Static}
use Rattle.lto_object.specs.declared.symbol.Symbol.{Symbol}
use Rattle.lto_object.specs.Objects.{ObjectData}
use Rattle.resolution_text.specs.declared.fault.ResolutionKind.{ResolutionKind}
use Rattle.resolution_text.specs.declared.fault.ResolutionKind.TheVariants.{TwoPrevailing, NoPrevailing}
use Rattle.symbol_resolution.specs.declared.definitions.SymbolPlace.{SymbolPlace}

-- a symbol of the link, and where it stands
pub record LinkSymbol : Type 0 where
  pub at : SymbolPlace
  pub symbol : Symbol

-- the symbols of an object, numbered from a place on
abbrev pub symbols_in : ℕ → ℕ → List Symbol → List LinkSymbol
symbols_in object place [] = []
symbols_in object place (s ∷ ss) = record { at = record { object = object; place = place }; symbol = s } ∷ symbols_in object (place + 1) ss

-- those of objects, numbered from an object on
abbrev pub symbols_from : ℕ → List ObjectData → List LinkSymbol
symbols_from object [] = []
symbols_from object (o ∷ os) = symbols_in object 0 o.symbols ++ symbols_from (object + 1) os

-- all symbols, in order
abbrev pub symbols_of_link : List ObjectData → List LinkSymbol
symbols_of_link objects = symbols_from 0 objects

abbrev pub is_strong : Linkage → Bool
is_strong Extern = false
is_strong Strong = true
is_strong Weak = false
is_strong Static = false

abbrev pub is_weak : Linkage → Bool
is_weak Extern = false
is_weak Strong = false
is_weak Weak = true
is_weak Static = false

-- a symbol of the name that has such a linkage
abbrev pub defines : (Linkage → Bool) → List ℕ → LinkSymbol → Bool
defines linked name s = bytes_eq name s.symbol.name && linked s.symbol.linkage

abbrev pub first_of : (Linkage → Bool) → List ℕ → List LinkSymbol → Option SymbolPlace
first_of linked name symbols = option_map (λ s. s.at) (find (defines linked name) symbols)

abbrev pub prevailing : List ℕ → List LinkSymbol → Option SymbolPlace
prevailing name symbols = option_or (first_of is_strong name symbols) (first_of is_weak name symbols)

-- the name has two strong definitions
abbrev pub is_doubled : List ℕ → List LinkSymbol → Bool
is_doubled name symbols = nat_lt 1 (count_by (defines is_strong name) symbols)

abbrev pub kind_by : Bool → Option SymbolPlace → Option ResolutionKind
kind_by doubled prevails = if doubled then Some TwoPrevailing else if is_some prevails then None else Some NoPrevailing

-- what is wrong with a name
abbrev pub name_fault : List ℕ → List LinkSymbol → Option ResolutionKind
name_fault name symbols = kind_by (is_doubled name symbols) (prevailing name symbols)
