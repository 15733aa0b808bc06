-- The first fault and the files of lists in a row, and by tables that are alike.
use Rattle.std.proofs.Common.{◌≡◌, ℕ, ◌+◌, ◌<◌, List, [], ◌∷◌, ◌++◌, map, length, get_or, drop, Option, Some, None, refl, ap, ◌∙◌}
use Rattle.std.proofs.lemmas.List.{at_drop_more}
use Rattle.std.specs.Option.{option_or}
use Rattle.lto_object.specs.Objects.{ObjectData}
use Rattle.resolution_text.specs.declared.resolution.Resolved.{Resolved}
use Rattle.resolution_text.specs.declared.resolution.ResolvedFile.{ResolvedFile}
use Rattle.resolution_text.specs.declared.fault.ResolutionKind.{ResolutionKind}
use Rattle.resolution_text.specs.declared.fault.ResolutionError.{ResolutionError}
use Rattle.symbol_resolution.specs.declared.definitions.SymbolPlace.{SymbolPlace}
use Rattle.symbol_resolution.specs.Symbols.{LinkSymbol, symbols_in, symbols_from}
use Rattle.symbol_resolution.specs.Resolving.{word_by, resolved_by, files_from, first_fault, fault_with}

with_or : (name : List ℕ) (kind : Option ResolutionKind) (a b c : Option ResolutionError) → a ≡ option_or b c → fault_with name kind a ≡ option_or (fault_with name kind b) c
with_or name None a b c h = h
with_or name (Some kind) a b c h = refl

first_fault-append : (wrong : List ℕ → Option ResolutionKind) (xs ys : List LinkSymbol) → first_fault wrong (xs ++ ys) ≡ option_or (first_fault wrong xs) (first_fault wrong ys)
first_fault-append wrong [] ys = refl
first_fault-append wrong (x ∷ xs) ys = with_or x.symbol.name (wrong x.symbol.name) _ _ _ (first_fault-append wrong xs ys)

-- of the objects from one on: its own first fault, or that of the objects after it
pub fault_of_next : (wrong : List ℕ → Option ResolutionKind) (n : ℕ) (os : List ObjectData) (o : ObjectData) → n < length os → o ≡ get_or os n o
    → first_fault wrong (symbols_from n (drop n os)) ≡ option_or (first_fault wrong (symbols_in n 0 o.symbols)) (first_fault wrong (symbols_from (n + 1) (drop (n + 1) os)))
fault_of_next wrong n os o h is =
    at_drop_more (λ rest. first_fault wrong (symbols_from n rest)) os n o h
    ∙ rw (← is) (first_fault-append wrong (symbols_in n 0 o.symbols) (symbols_from (n + 1) (drop (n + 1) os)))

-- ---- tables that are alike

pub same_fault : (f g : List ℕ → Option ResolutionKind) → ((name : List ℕ) → f name ≡ g name) → (ss : List LinkSymbol) → first_fault f ss ≡ first_fault g ss
same_fault f g same [] = refl
same_fault f g same (s ∷ ss) =
    ap (λ kind. fault_with s.symbol.name kind (first_fault f ss)) (same s.symbol.name)
    ∙ ap (fault_with s.symbol.name (g s.symbol.name)) (same_fault f g same ss)

same_words : (f g : List ℕ → Option SymbolPlace) → ((name : List ℕ) → f name ≡ g name) → (ss : List LinkSymbol) → map (resolved_by f) ss ≡ map (resolved_by g) ss
same_words f g same [] = refl
same_words f g same (s ∷ ss) =
    ap (λ (place : Option SymbolPlace). record { word = word_by place s; name = s.symbol.name; id = s.at.object + 1 } ∷ map (resolved_by f) ss) (same s.symbol.name)
    ∙ ap (λ (more : List Resolved). resolved_by g s ∷ more) (same_words f g same ss)

pub same_files : (f g : List ℕ → Option SymbolPlace) → ((name : List ℕ) → f name ≡ g name) → (n : ℕ) (os : List ObjectData) (names : List (List ℕ)) → files_from f n os names ≡ files_from g n os names
same_files f g same n [] names = refl
same_files f g same n (o ∷ os) [] = refl
same_files f g same n (o ∷ os) (name ∷ names) =
    ap (λ (words : List Resolved). record { name = name; words = words } ∷ files_from f (n + 1) os names) (same_words f g same (symbols_in n 0 o.symbols))
    ∙ ap (λ (more : List ResolvedFile). record { name = name; words = map (resolved_by g) (symbols_in n 0 o.symbols) } ∷ more) (same_files f g same (n + 1) os names)
