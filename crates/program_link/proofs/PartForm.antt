-- The form of an object whose symbols are its own and others: its relocations, its symbols, and the numbers in them.
use Rattle.std.proofs.Common.{◌≡◌, ℕ, suc, get_or, ◌+◌, ◌-◌, ◌*◌, ◌/◌, ◌%◌, ◌^◌, ◌<◌, ◌≤◌, Bool, true, false, cond, eqb, List, [], ◌∷◌, length, map, Option, Some, None, refl, sym, ap, ap₂, ◌∙◌, inl, inr, ◌⊎◌, length-append, arith}
use Rattle.std.specs.Prelude.{◌&&◌, nat_le, nat_lt, count_by, slice_get}
use Rattle.std.specs.Option.{option_map_or}
use Rattle.std.specs.List.{flat_map, list_all, AllByRecursion}
use Rattle.std.proofs.lemmas.Bool.Decides.{nat_tests}
use Rattle.std.proofs.lemmas.List.Sums.{sum_by-cons}
use Rattle.std.proofs.lemmas.Option.{slice_get_within}
use Rattle.elf_container.specs.declared.relocatable.RelSymbol.{RelSymbol}
use Rattle.elf_container.specs.declared.relocatable.Reloc.{Reloc}
use Rattle.elf_container.specs.Relocatable.{name_bytes, is_defined, is_undefined, fill_from, is_auipc, is_lui, is_load, is_store, next_is_jalr, fills, fills_by, reach, relocs_from, after, named_in_order, SymbolFits, RelocFits}
use Rattle.gimple_ir.specs.declared.versioned.VersionedFunction.{VersionedFunction}
use Rattle.rv64_select.specs.declared.references.Reference.{Reference}
use Rattle.rv64_select.specs.Code.{symbol_name}
use Rattle.rv64_select.specs.Selected.{place_of, relocation_of}
use Rattle.program_link.specs.Objects.{defined_symbol, other_symbol, others, object_place, placed}
use Rattle.program_link.proofs.OwnFirst.{Distinct, own_first_place, next_place}

-- ---- the words that relocations fill

pub relocs_placed : (own least : ℕ) (words : List ℕ) (rs : List Reloc) → relocs_from least words (map (placed own) rs) ≡ relocs_from least words rs
relocs_placed own least words [] = refl
relocs_placed own least words (r ∷ rs) =
    ap (λ rest. cond (nat_le least r.offset && eqb (r.offset % 4) 0 && fills r.kind (r.offset / 4) words) rest false) (relocs_placed own (r.offset + reach r.kind) words rs)

kind_by : (a b c d : Bool) (k : ℕ) (p q s t : Bool) → eqb k 19 ≡ a → eqb k 26 ≡ b → eqb k 27 ≡ c → eqb k 28 ≡ d → cond a p (cond b q (cond c s (d && t))) ≡ true → k < 2 ^ 32
kind_by true b c d k p q s t e f g h l = grind (arith, nat_tests)
kind_by false true c d k p q s t e f g h l = grind (arith, nat_tests)
kind_by false false true d k p q s t e f g h l = grind (arith, nat_tests)
kind_by false false false true k p q s t e f g h l = grind (arith, nat_tests)
kind_by false false false false k p q s t e f g h l = absurd cc

filled_by : (kind : ℕ) (o next : Option ℕ) (words : List ℕ) (place : ℕ) → slice_get words place ≡ o → fills_by kind o next ≡ true → (place < length words) × (kind < 2 ^ 32)
filled_by kind None next words place e h = absurd cc
filled_by kind (Some w) next words place e h = (
  slice_get_within words place w e,
  kind_by (eqb kind 19) (eqb kind 26) (eqb kind 27) (eqb kind 28) kind (is_auipc w && next_is_jalr next) (is_lui w) (is_load w) (is_store w) refl refl refl refl h,
)

filled : (kind place : ℕ) (words : List ℕ) → fills kind place words ≡ true → (place < length words) × (kind < 2 ^ 32)
unfolding fills
filled kind place words e = filled_by kind (slice_get words place) (slice_get words (place + 1)) words place refl e

all_three : (a b c : Bool) → ((a && b) && c) ≡ true → (a ≡ true) × (b ≡ true) × (c ≡ true)
all_three true true c e = (refl, refl, e)
all_three true false c e = absurd cc
all_three false b c e = absurd cc

chosen : (b rest : Bool) → cond b rest false ≡ true → (b ≡ true) × (rest ≡ true)
chosen true rest e = (refl, e)
chosen false rest e = absurd cc

reach_by : (b : Bool) → (4 ≤ cond b 8 4) × (cond b 8 4 ≤ 8)
reach_by true = (omega arith, omega arith)
reach_by false = (omega arith, omega arith)

le_of : (a b : ℕ) → nat_le a b ≡ true → a ≤ b
le_of a b e = grind (arith, nat_tests)

eq_of : (a b : ℕ) → eqb a b ≡ true → a ≡ b
eq_of a b e = grind (arith, nat_tests)

abbrev Lies : List ℕ → Reloc → Type 0
Lies words r = (r.offset < 4 * length words) × (r.kind < 2 ^ 32)

-- they are no more than the words and one, and lie in the words
relocs_few : (least : ℕ) (words : List ℕ) (rs : List Reloc) → relocs_from least words rs ≡ true → least ≤ 4 * length words + 4
    → (least + 4 * length rs ≤ 4 * length words + 4) × AllByRecursion (Lies words) rs
relocs_few least words [] e h = (omega arith, tt)
relocs_few least words (r ∷ rs) e h =
    let both = chosen _ _ e in
    let tests = all_three _ _ _ both.0 in
    let here = filled r.kind (r.offset / 4) words tests.2 in
    let low : least ≤ r.offset = le_of _ _ tests.0 in
    let whole : r.offset % 4 ≡ 0 = eq_of _ _ tests.1 in
    let size = reach_by (eqb r.kind 19) in
    let inside : r.offset < 4 * length words = omega (arith, here.0, whole) in
    let step : r.offset + reach r.kind ≤ 4 * length words + 4 = omega (arith, here.0, whole, size.1) in
    let rest = relocs_few (r.offset + reach r.kind) words rs both.1 step in
    (omega (arith, rest.0, low, size.0), ((inside, here.1), rest.1))

-- ---- the symbols that relocations name, in order

option_true : (o : Option ℕ) (count : ℕ) (rs : List Reloc) → option_map_or (λ later. named_in_order later count rs) o false ≡ true
    → (later : ℕ) × (o ≡ Some later) × (named_in_order later count rs ≡ true)
option_true None count rs e = absurd cc
option_true (Some later) count rs e = (later, refl, e)

after_by : (b c : Bool) (next symbol later : ℕ) → nat_lt symbol next ≡ b → eqb symbol next ≡ c → cond b (Some next) (cond c (Some (next + 1)) None) ≡ Some later
    → ((symbol < next) × (later ≡ next)) ⊎ ((symbol ≡ next) × (later ≡ next + 1))
after_by true c next symbol later e f g = inl (grind (arith, nat_tests), cc)
after_by false true next symbol later e f g = inr (grind (arith, nat_tests), cc)
after_by false false next symbol later e f g = absurd cc

after_is : (next symbol later : ℕ) → after next symbol ≡ Some later → ((symbol < next) × (later ≡ next)) ⊎ ((symbol ≡ next) × (later ≡ next + 1))
after_is next symbol later e = after_by (nat_lt symbol next) (eqb symbol next) next symbol later refl refl e

after_below : (next symbol : ℕ) → symbol < next → after next symbol ≡ Some next
after_below next symbol h = grind (arith, nat_tests)

after_at : (next symbol later : ℕ) → symbol ≡ next → later ≡ next + 1 → after next symbol ≡ Some later
after_at next symbol later e f = grind (arith, nat_tests)

below_placed : (own next symbol : ℕ) → symbol < next → object_place own symbol < next_place own next
below_placed own next symbol h = grind (arith, nat_tests)

own_placed : (own next symbol : ℕ) → symbol ≡ next → symbol ≡ own → object_place own symbol < next_place own next
own_placed own next symbol h e = grind (arith, nat_tests)

own_next : (own next : ℕ) → next ≡ own → next_place own (next + 1) ≡ next_place own next
own_next own next e = grind (arith, nat_tests)

other_placed : (own next symbol : ℕ) → symbol ≡ next → eqb next own ≡ false → object_place own symbol ≡ next_place own next
other_placed own next symbol h e = grind (arith, nat_tests)

other_next : (own next : ℕ) → eqb next own ≡ false → next_place own (next + 1) ≡ next_place own next + 1
other_next own next e = grind (arith, nat_tests)

after_at_placed : (b : Bool) (own next symbol later : ℕ) → eqb next own ≡ b → symbol ≡ next → later ≡ next + 1 → after (next_place own next) (object_place own symbol) ≡ Some (next_place own later)
after_at_placed true own next symbol later t e f =
    let is : next ≡ own = eq_of next own t in
    let same : next_place own later ≡ next_place own next = ap (next_place own) f ∙ own_next own next is in
    after_below (next_place own next) (object_place own symbol) (own_placed own next symbol e (e ∙ is)) ∙ ap (λ n. Some n) (sym same)
after_at_placed false own next symbol later t e f =
    after_at (next_place own next) (object_place own symbol) (next_place own later) (other_placed own next symbol e t) (ap (next_place own) f ∙ other_next own next t)

after_placed : (own next symbol later : ℕ) → after next symbol ≡ Some later → after (next_place own next) (object_place own symbol) ≡ Some (next_place own later)
after_placed own next symbol later e = elim (after_is next symbol later e) [
  | inl h ↦ after_below (next_place own next) (object_place own symbol) (below_placed own next symbol h.0) ∙ ap (λ n. Some (next_place own n)) (sym h.1)
  | inr h ↦ after_at_placed (eqb next own) own next symbol later refl h.0 h.1
]

named_end : (own next count : ℕ) → next ≡ count → eqb (next_place own next) (next_place own count) ≡ true
named_end own next count e = rw e (same (next_place own count))
  where
    same : (n : ℕ) → eqb n n ≡ true
    same n = grind (arith, nat_tests)

pub named_placed : (own next count : ℕ) (rs : List Reloc) → named_in_order next count rs ≡ true
    → named_in_order (next_place own next) (next_place own count) (map (placed own) rs) ≡ true
named_placed own next count [] e = named_end own next count (eq_of next count e)
named_placed own next count (r ∷ rs) e =
    let w = option_true (after next r.symbol) count rs e in
    let here : after (next_place own next) (object_place own r.symbol) ≡ Some (next_place own w.0) = after_placed own next r.symbol w.0 w.1 in
    rw here (named_placed own w.0 count rs w.2)

after_order : (next symbol later : ℕ) → after next symbol ≡ Some later → (symbol < later) × (next ≤ later) × (later ≤ next + 1)
after_order next symbol later e = elim (after_is next symbol later e) [
  | inl h ↦ (omega (arith, h.0, h.1), omega (arith, h.1), omega (arith, h.1))
  | inr h ↦ (omega (arith, h.0, h.1), omega (arith, h.1), omega (arith, h.1))
]

symbols_below : (bound : ℕ) (rs : List Reloc) (count : ℕ) → count ≤ bound → AllByRecursion (λ r. r.symbol < count) rs → AllByRecursion (λ r. r.symbol < bound) rs
symbols_below bound [] count h all = tt
symbols_below bound (r ∷ rs) count h all = (omega (arith, all.0), symbols_below bound rs count h all.1)

-- each names a symbol, and they are no fewer than the symbols that were not named before
pub named_below : (next count : ℕ) (rs : List Reloc) → named_in_order next count rs ≡ true → (next ≤ count) × (count ≤ next + length rs) × AllByRecursion (λ r. r.symbol < count) rs
named_below next count [] e = let h = eq_of next count e in (omega arith, omega arith, tt)
named_below next count (r ∷ rs) e =
    let w = option_true (after next r.symbol) count rs e in
    let order = after_order next r.symbol w.0 w.1 in
    let rest = named_below w.0 count rs w.2 in
    (omega (arith, order.1, rest.0), omega (arith, order.2, rest.1), (omega (arith, order.0, rest.0), rest.2))

-- ---- relocations by places in the object

pub relocations_placed : (f : VersionedFunction) (own : List ℕ) (names : List (List ℕ)) (refs : List Reference) → Distinct names
    → AllByRecursion (λ r. r.symbol < length names) (map (relocation_of f names) refs)
    → map (placed (place_of names own)) (map (relocation_of f names) refs) ≡ map (relocation_of f (own ∷ others own names)) refs
relocations_placed f own names [] d all = refl
relocations_placed f own names (r ∷ rs) d all =
    let made : ℕ → Reloc = λ n. record { offset = r.offset; kind = r.kind; symbol = n } in
    ap₂ (λ (x : Reloc) (xs : List Reloc). x ∷ xs) (ap made (sym (own_first_place own (symbol_name f r.symbol) names d all.0))) (relocations_placed f own names rs d all.1)

-- ---- symbols

pub names_again : (names : List (List ℕ)) → map (λ (s : RelSymbol). s.name) (map other_symbol names) ≡ names
names_again [] = refl
names_again (name ∷ names) = ap (λ more. name ∷ more) (names_again names)

others_undefined : (names : List (List ℕ)) → list_all is_undefined (map other_symbol names) ≡ true
others_undefined [] = refl
others_undefined (name ∷ names) = others_undefined names

none_defined : (names : List (List ℕ)) → count_by is_defined (map other_symbol names) ≡ 0
none_defined [] = refl
none_defined (name ∷ names) = omega (arith, none_defined names)

pub one_defined : (own : List ℕ) (n : ℕ) (names : List (List ℕ)) → count_by is_defined (defined_symbol own n ∷ map other_symbol names) ≡ 1
one_defined own n names =
    sum_by-cons (λ (s : RelSymbol). cond (is_defined s) 1 0) (defined_symbol own n) (map other_symbol names) ∙ ap (λ (m : ℕ). 1 + m) (none_defined names)

fill_others : (end : ℕ) (names : List (List ℕ)) → fill_from end end (map other_symbol names) ≡ true
fill_others end [] = grind (arith, nat_tests)
fill_others end (name ∷ names) = let e : eqb end end ≡ true = grind (arith, nat_tests) in rw e (others_undefined names)

whole_words : (n : ℕ) → eqb (4 * n % 4) 0 ≡ true
whole_words n = grind (arith, nat_tests)

no_more : (n : ℕ) → nat_le n (n - 0) ≡ true
no_more n = grind (arith, nat_tests)

pub fill_own : (own : List ℕ) (n : ℕ) (names : List (List ℕ)) → fill_from 0 (4 * n) (defined_symbol own (4 * n) ∷ map other_symbol names) ≡ true
fill_own own n names = let e : 0 + 4 * n ≡ 4 * n = omega arith in rw (whole_words n, no_more (4 * n), e) (fill_others (4 * n) names)

-- ---- numbers

pub strings_short : (symbols : List RelSymbol) → AllByRecursion SymbolFits symbols → length (flat_map name_bytes symbols) ≤ 301 * length symbols
strings_short [] h = omega arith
strings_short (s ∷ ss) h =
    omega (arith, length-append (name_bytes s) (flat_map name_bytes ss), length-append s.name (0 ∷ []), h.0.name.bounded, strings_short ss h.1)

fit_by : (words : List ℕ) (count : ℕ) (rs : List Reloc) → 4 * length words ≤ 2 ^ 19 → count ≤ 2 ^ 18 → AllByRecursion (Lies words) rs → AllByRecursion (λ r. r.symbol < count) rs → AllByRecursion RelocFits rs
fit_by words count [] h g lie named = tt
fit_by words count (r ∷ rs) h g lie named =
    (record { offset = omega (arith, lie.0.0); kind = lie.0.1; symbol = omega (arith, named.0) }, fit_by words count rs h g lie.1 named.1)

-- the names of code are few
pub names_few : (words : List ℕ) (count : ℕ) (rs : List Reloc) → 4 * length words ≤ 2 ^ 19 → relocs_from 0 words rs ≡ true → named_in_order 0 count rs ≡ true
    → (count ≤ 2 ^ 18) × AllByRecursion (λ r. r.symbol < 2 ^ 32 - 1) rs
names_few words count rs h fill named =
    let lie = relocs_few 0 words rs fill (omega arith) in
    let below = named_below 0 count rs named in
    let few : count ≤ 2 ^ 18 = omega (arith, lie.0, below.1) in
    (few, symbols_below (2 ^ 32 - 1) rs count (omega arith) below.2)

pub words_fit : (words : List ℕ) → ((k : ℕ) → get_or words k 0 < 2 ^ 32) → AllByRecursion (λ w. w < 2 ^ 32) words
words_fit [] h = tt
words_fit (w ∷ ws) h = (h 0, words_fit ws (λ k. h (suc k)))

-- the symbols are few, and the relocations fit
pub relocations_fit : (words : List ℕ) (count : ℕ) (rs : List Reloc) → 4 * length words ≤ 2 ^ 19 → relocs_from 0 words rs ≡ true → named_in_order 1 count rs ≡ true
    → (count ≤ 2 ^ 18) × AllByRecursion RelocFits rs
relocations_fit words count rs h fill named =
    let lie = relocs_few 0 words rs fill (omega arith) in
    let below = named_below 1 count rs named in
    let few : count ≤ 2 ^ 18 = omega (arith, lie.0, below.1) in
    (few, fit_by words count rs h few lie.1 below.2)
