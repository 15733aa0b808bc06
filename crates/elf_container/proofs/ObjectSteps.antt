-- The loops that test, list and name what an object has.
use Rattle.std.proofs.Common.{◌≡◌, ℕ, ◌+◌, ◌-◌, ◌/◌, ◌%◌, ◌<◌, ◌≤◌, Bool, true, false, eqb, List, [], ◌∷◌, ◌++◌, length, get_or, drop, Option, Some, None, refl, sym, ap, ◌∙◌, append_assoc, arith}
use Rattle.std.specs.Prelude.{◌&&◌, nat_le, option_map}
use Rattle.std.proofs.lemmas.List.{append-nil, at_drop_more, at_drop_all}
use Rattle.std.proofs.lemmas.Bool.Decides.{nat_tests}
use Rattle.elf_container.specs.declared.entries.Sym.{Sym}
use Rattle.elf_container.specs.declared.relocatable.RelSymbol.{RelSymbol}
use Rattle.elf_container.specs.declared.relocatable.Reloc.{Reloc}
use Rattle.elf_container.specs.Reading.{name_at}
use Rattle.elf_container.specs.Relocatable.{entry_by, entries_from, fills, reach, relocs_from, after, named_in_order, fill_from}
use Rattle.elf_container.specs.ObjectReading.{symbol_by, named_by}

-- ---- relocations

pub relocs_go : (least : ℕ) (words : List ℕ) (rs : List Reloc) (i : ℕ) (d : Reloc) (all : Bool) → i < length rs
    → (nat_le least (get_or rs i d).offset && eqb ((get_or rs i d).offset % 4) 0 && fills (get_or rs i d).kind ((get_or rs i d).offset / 4) words) ≡ true
    → relocs_from least words (drop i rs) ≡ all → relocs_from ((get_or rs i d).offset + reach (get_or rs i d).kind) words (drop (i + 1) rs) ≡ all
relocs_go least words rs i d all lt test so_far =
    let one : relocs_from least words (drop i rs) ≡ relocs_from ((get_or rs i d).offset + reach (get_or rs i d).kind) words (drop (i + 1) rs) =
    at_drop_more (relocs_from least words) rs i d lt ∙ rw test refl in
    sym one ∙ so_far

pub named_go : (next count : ℕ) (rs : List Reloc) (i : ℕ) (d : Reloc) (later : ℕ) (all : Bool) → i < length rs → after next (get_or rs i d).symbol ≡ Some later
    → named_in_order next count (drop i rs) ≡ all → named_in_order later count (drop (i + 1) rs) ≡ all
named_go next count rs i d later all lt test so_far =
    let one : named_in_order next count (drop i rs) ≡ named_in_order later count (drop (i + 1) rs) =
    at_drop_more (named_in_order next count) rs i d lt ∙ rw test refl in
    sym one ∙ so_far

-- ---- members

fill_step : (at end : ℕ) (s : RelSymbol) (rest : List RelSymbol) (start : ℕ) → s.start ≡ Some start → (eqb start at && eqb (s.size % 4) 0 && nat_le s.size (end - at)) ≡ true
    → fill_from at end (s ∷ rest) ≡ fill_from (at + s.size) end rest
fill_step at end s rest start e test = rw (e, test) refl

pub fill_go : (at end : ℕ) (ss : List RelSymbol) (i : ℕ) (s : RelSymbol) (start : ℕ) (all : Bool) → i < length ss → s ≡ get_or ss i s → s.start ≡ Some start
    → (eqb start at && eqb (s.size % 4) 0 && nat_le s.size (end - at)) ≡ true → fill_from at end (drop i ss) ≡ all → fill_from (at + s.size) end (drop (i + 1) ss) ≡ all
fill_go at end ss i s start all lt is e test so_far =
    let here : fill_from at end (drop i ss) ≡ fill_from at end (s ∷ drop (i + 1) ss) = at_drop_more (fill_from at end) ss i s lt ∙ ap (λ x. fill_from at end (x ∷ drop (i + 1) ss)) (sym is) in
    sym (here ∙ fill_step at end s (drop (i + 1) ss) start e test) ∙ so_far

last_of : (a b c : Bool) → ((a && b) && c) ≡ true → c ≡ true
last_of true true c e = e
last_of true false c e = absurd cc
last_of false b c e = absurd cc

up_to : (a b : ℕ) → nat_le a b ≡ true → a ≤ b
up_to a b e = grind (arith, nat_tests)

pub fill_within : (at end size start : ℕ) → at ≤ end → (eqb start at && eqb (size % 4) 0 && nat_le size (end - at)) ≡ true → at + size ≤ end
fill_within at end size start le test =
    let h : size ≤ end - at = up_to size (end - at) (last_of (eqb start at) (eqb (size % 4) 0) (nat_le size (end - at)) test) in
    omega (arith, h)

-- ---- entries of symbols

pub list_go : (found : List Sym) (name : ℕ) (ss : List RelSymbol) (i : ℕ) (s : RelSymbol) (all : List Sym) → i < length ss → s ≡ get_or ss i s → found ++ entries_from name (drop i ss) ≡ all
    → (found ++ entry_by name s.size s.start ∷ []) ++ entries_from (name + length s.name + 1) (drop (i + 1) ss) ≡ all
list_go found name ss i s all lt is so_far =
    let here : entries_from name (drop i ss) ≡ entries_from name (s ∷ drop (i + 1) ss) = at_drop_more (entries_from name) ss i s lt ∙ ap (λ x. entries_from name (x ∷ drop (i + 1) ss)) (sym is) in
    append_assoc found (entry_by name s.size s.start ∷ []) (entries_from (name + length s.name + 1) (drop (i + 1) ss)) ∙ sym (ap (λ t. found ++ t) here) ∙ so_far

pub list_end : (found : List Sym) (name : ℕ) (ss : List RelSymbol) (i : ℕ) (all : List Sym) → length ss ≤ i → found ++ entries_from name (drop i ss) ≡ all → found ≡ all
list_end found name ss i all le so_far = sym (append-nil found) ∙ sym (ap (λ t. found ++ t) (at_drop_all (entries_from name) ss i le)) ∙ so_far

-- ---- symbols of entries

regroup : (front : List RelSymbol) (s : RelSymbol) (o : Option (List RelSymbol)) → option_map (λ more. front ++ more) (option_map (λ more. s ∷ more) o) ≡ option_map (λ more. (front ++ s ∷ []) ++ more) o
regroup front s None = refl
regroup front s (Some more) = ap (λ t. Some t) (sym (append_assoc front (s ∷ []) more))

pub symbols_go : (front : List RelSymbol) (strings : List ℕ) (es : List Sym) (i : ℕ) (d : Sym) (name : List ℕ) (all : Option (List RelSymbol)) → i < length es
    → name_at (get_or es i d).name strings ≡ Some name → option_map (λ more. front ++ more) (named_by strings (drop i es)) ≡ all
    → option_map (λ more. (front ++ symbol_by (get_or es i d) name ∷ []) ++ more) (named_by strings (drop (i + 1) es)) ≡ all
symbols_go front strings es i d name all lt found so_far =
    let one : named_by strings (drop i es) ≡ option_map (λ more. symbol_by (get_or es i d) name ∷ more) (named_by strings (drop (i + 1) es)) =
    at_drop_more (named_by strings) es i d lt ∙ rw found refl in
    sym (ap (option_map (λ more. front ++ more)) one ∙ regroup front (symbol_by (get_or es i d) name) (named_by strings (drop (i + 1) es))) ∙ so_far
