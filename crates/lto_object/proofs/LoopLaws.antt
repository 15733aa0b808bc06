-- One step of each loop over sections, functions and symbols.
use Rattle.std.proofs.Common.{length-append, ◌≡◌, ◌+◌, ◌<◌, ◌≤◌, ℕ, zero, suc, List, [], ◌∷◌, ◌++◌, length, map, take, drop, get_or, reverse, Result, Ok, Err, Bool, true, false, cond, Option, Some, None, refl, sym, ap, ap₂, ◌∙◌, append_assoc, ⊎_elim, arith}
use Rattle.std.specs.Prelude.{slice_get, unwrap_or, ◌||◌, ◌&&◌, option_to_list, nat_eq, is_ok, MatchResult}
use Rattle.std.specs.List.{filter, filter_map, cons_option, enumerate_from, list_any, list_all, range_with_len}
use Rattle.std.specs.Str.{bytes_eq}
use Rattle.std.proofs.lemmas.Bool.{cases_lt}
use Rattle.std.proofs.lemmas.List.{reverse-append, append-nil, get_or_default, drop_all, length-map, length-drop, length-take, map-append}
use Rattle.std.proofs.lemmas.List.Folds.{list_any_at, list_any_none}
use Rattle.std.proofs.lemmas.List.Elements.{filter-append, filter_map-append}
use Rattle.std.proofs.lemmas.List.FromFn.{map-range_with_len_more}
use Rattle.gimple_ir.specs.declared.types.Linkage.{Linkage}
use Rattle.gimple_ir.specs.declared.types.Array.{Array}
use Rattle.gimple_ir.specs.declared.types.Function.{Function}
use Rattle.gimple_ir.specs.declared.types.Module.{Module}
use Rattle.gimple_ir.specs.declared.types.Statement.{Statement}
use Rattle.gimple_ir.specs.declared.summary.Summary.{Summary}
use Rattle.gimple_ir.specs.Names.{is_among}
use Rattle.gimple_checks.proofs.Lists.{drop_here, take_here, map_here, slice_get_at}
use Rattle.elf_container.specs.declared.sections.OwnSection.{OwnSection}
use Rattle.elf_container.specs.Layout.{shstrtab_name}
use Rattle.func_summary.specs.Summaries.{summary_of}
use Rattle.func_summary.proofs.Calls.{given_here}
use Rattle.func_summary.proofs.Keyed.{nat_eq-same, nat_eq-other}
use Rattle.lto_object.specs.declared.fault.ObjectFault.{ObjectFault}
use Rattle.lto_object.proofs.SummaryFits.{few_filter}
use Rattle.lto_object.specs.declared.symbol.Symbol.{Symbol}
use Rattle.lto_object.specs.declared.symbols.StoredSymbol.{StoredSymbol}
use Rattle.lto_object.specs.Bounds.{is_defined, defined_of}
use Rattle.lto_object.specs.SymbolStream.{stored_of}
use Rattle.lto_object.specs.Objects.{is_listed, array_symbol, function_symbol, array_symbols, function_symbols}
use Rattle.lto_object.specs.Forms.{all_names, double_from, has_form, misplaced_from}
use Rattle.lto_object.specs.ObjectReading.{with_body, filled, summary_fault, first, summaries_fault_from, same_symbol, differs_from}

-- ---- names

pub in_front : {X : Type 0} (xs ys : List X) (i : ℕ) (x : X) → slice_get xs i ≡ Some x → slice_get (xs ++ ys) i ≡ Some x
in_front [] ys i x h = cc
in_front (z ∷ xs) ys zero x h = h
in_front (z ∷ xs) ys (suc i) x h = in_front xs ys i x h

pub behind : {X : Type 0} (xs : List X) (y : X) → slice_get (xs ++ y ∷ []) (length xs) ≡ Some y
behind [] y = refl
behind (x ∷ xs) y = behind xs y

-- the name of the section at a place
pub name_here : (ss : List OwnSection) (i : ℕ) (s : OwnSection) → slice_get ss i ≡ Some s → slice_get (all_names ss) i ≡ Some s.name
name_here ss i s here = in_front (map (λ r. r.name) ss) (shstrtab_name ∷ []) i s.name (map_here (λ (r : OwnSection). r.name) ss i s here)

name_last : (ss : List OwnSection) (n : ℕ) → n ≡ length (map (λ (r : OwnSection). r.name) ss) → slice_get (all_names ss) n ≡ Some shstrtab_name
name_last ss n e = rw e (behind (map (λ (r : OwnSection). r.name) ss) shstrtab_name)

pub double_here : (names : List (List ℕ)) (i : ℕ) (name : List ℕ) → slice_get names i ≡ Some name
    → double_from i (take i names) (drop i names) ≡ cond (is_among (take i names) name) (Some i) (double_from (i + 1) (take (i + 1) names) (drop (i + 1) names))
double_here names i name here =
    ap (double_from i (take i names)) (drop_here names i name here)
    ∙ ap (λ front. cond (is_among (take i names) name) (Some i) (double_from (i + 1) front (drop (i + 1) names))) (sym (take_here names i name here))

-- ---- the form

pub misplaced_here : (names : List (List ℕ)) (ss : List OwnSection) (i : ℕ) (name : List ℕ) (s : OwnSection) → slice_get names i ≡ Some name → slice_get ss i ≡ Some s
    → misplaced_from i (drop i names) (drop i ss) ≡ cond (has_form name s) (misplaced_from (i + 1) (drop (i + 1) names) (drop (i + 1) ss)) (Some i)
misplaced_here names ss i name s n h = ap₂ (misplaced_from i) (drop_here names i name n) (drop_here ss i s h)

first_absent : (place : ℕ) (names : List (List ℕ)) → 1 ≤ length names → misplaced_from place names [] ≡ Some place
first_absent place [] h = absurd (omega (arith, h))
first_absent place (name ∷ names) h = refl

first_surplus : (place : ℕ) (ss : List OwnSection) → 1 ≤ length ss → misplaced_from place [] ss ≡ Some place
first_surplus place [] h = absurd (omega (arith, h))
first_surplus place (s ∷ ss) h = refl

pub sections_end : {X Y : Type 0} (f : X → List ℕ) (g : Y → OwnSection) (xs : List X) (ys : List Y) (i : ℕ) → i < length xs → length ys ≤ i → misplaced_from i (map f (drop i xs)) (map g (drop i ys)) ≡ Some i
sections_end f g xs ys i lt le =
    ap (λ zs. misplaced_from i (map f (drop i xs)) (map g zs)) (drop_all i ys le)
    ∙ first_absent i (map f (drop i xs)) (omega (arith, lt, length-map (drop i xs) f, length-drop i xs))

pub names_end : {X Y : Type 0} (f : X → List ℕ) (g : Y → OwnSection) (xs : List X) (ys : List Y) (i : ℕ) → length xs ≤ i → i < length ys → misplaced_from i (map f (drop i xs)) (map g (drop i ys)) ≡ Some i
names_end f g xs ys i le lt =
    ap (λ zs. misplaced_from i (map f zs) (map g (drop i ys))) (drop_all i xs le)
    ∙ first_surplus i (map g (drop i ys)) (omega (arith, lt, length-map (drop i ys) g, length-drop i ys))

-- ---- symbols

pub array_here : (named : List ℕ) (arrays : List Array) (i : ℕ) (a : Array) → slice_get arrays i ≡ Some a → array_symbols named (take (i + 1) arrays) ≡ array_symbols named (take i arrays) ++ cons_option (array_symbol named i a) []
array_here named arrays i a here = given_here (λ pair. array_symbol named pair.0 pair.1) arrays i a here

pub function_here : (named : List ℕ) (functions : List Function) (i : ℕ) (f : Function) → slice_get functions i ≡ Some f → function_symbols named (take (i + 1) functions) ≡ function_symbols named (take i functions) ++ cons_option (function_symbol named i f) []
function_here named functions i f here = given_here (λ pair. function_symbol named pair.0 pair.1) functions i f here

-- ---- functions that have a body

pub defined_here : (fs : List Function) (i : ℕ) (f : Function) → slice_get fs i ≡ Some f → defined_of (take (i + 1) fs) ≡ defined_of (take i fs) ++ cond (is_defined f) (f ∷ []) []
defined_here fs i f here = ap defined_of (take_here fs i f here) ∙ filter-append is_defined (take i fs) (f ∷ [])

pub filled_here : (fs : List Function) (bodies : List (List Statement)) (i : ℕ) (f : Function) → slice_get fs i ≡ Some f
    → filled (drop i fs) bodies ≡ with_body f (cond (is_defined f) (unwrap_or (slice_get bodies 0) []) []) ∷ filled (drop (i + 1) fs) (cond (is_defined f) (drop 1 bodies) bodies)
filled_here fs bodies i f here = ap (λ gs. filled gs bodies) (drop_here fs i f here) ∙ by (is_defined f)
  where
    by : (b : Bool) → cond b (with_body f (unwrap_or (slice_get bodies 0) []) ∷ filled (drop (i + 1) fs) (drop 1 bodies)) (with_body f [] ∷ filled (drop (i + 1) fs) bodies)
        ≡ with_body f (cond b (unwrap_or (slice_get bodies 0) []) []) ∷ filled (drop (i + 1) fs) (cond b (drop 1 bodies) bodies)
    by true = refl
    by false = refl

-- the last of a list, which is the first of it turned round
pub last_first : {X : Type 0} (old new : List X) (o : Option X) (d : X) → old ≡ new ++ option_to_list o → (o ≡ None → new ≡ []) → (unwrap_or o d ≡ unwrap_or (slice_get (reverse old) 0) d) × (reverse new ≡ drop 1 (reverse old))
last_first old new None d e none =
    let nothing : old ≡ [] = e ∙ append-nil new ∙ none refl in
    rw (nothing, none refl) (refl, refl)
last_first old new (Some x) d e none =
    let turned : reverse old ≡ x ∷ reverse new = ap reverse e ∙ reverse-append new (x ∷ []) in
    rw turned (refl, refl)

-- ---- summaries

pub summary_here : (m : Module) (fs : List Function) (stored : List Summary) (i k : ℕ) (f : Function) (s : Summary) → slice_get fs i ≡ Some f → slice_get stored k ≡ Some s
    → summaries_fault_from m i (drop i fs) (drop k stored) ≡ cond (is_defined f) (first (summary_fault m i f s) (summaries_fault_from m (i + 1) (drop (i + 1) fs) (drop (k + 1) stored))) (summaries_fault_from m (i + 1) (drop (i + 1) fs) (drop k stored))
summary_here m fs stored i k f s here at =
    ap₂ (summaries_fault_from m i) (drop_here fs i f here) (drop_here stored k s at)
    ∙ ap (λ rest. cond (is_defined f) (first (summary_fault m i f s) (summaries_fault_from m (i + 1) (drop (i + 1) fs) (drop (k + 1) stored))) (summaries_fault_from m (i + 1) (drop (i + 1) fs) rest)) (sym (drop_here stored k s at))

-- ---- stored symbols

pub symbol_here : (stored : List StoredSymbol) (ss : List Symbol) (i : ℕ) (t : StoredSymbol) (s : Symbol) → slice_get stored i ≡ Some t → slice_get ss i ≡ Some s
    → differs_from i (drop i stored) (drop i ss) ≡ cond (same_symbol t (stored_of s)) (differs_from (i + 1) (drop (i + 1) stored) (drop (i + 1) ss)) (Some i)
symbol_here stored ss i t s at here = ap₂ (differs_from i) (drop_here stored i t at) (drop_here ss i s here)

-- ---- a number among ascending ones

pub search_is : (xs : List ℕ) (x : ℕ) (r : Result ℕ ℕ)
    → MatchResult r (λ i. (i < length xs) × (get_or xs i 0 ≡ x)) (λ i. (i ≤ length xs) × ((k : ℕ) → k < i → get_or xs k 0 < x) × ((k : ℕ) → i ≤ k → k < length xs → x < get_or xs k 0))
    → is_ok r ≡ list_any (nat_eq x) xs
search_is xs x (Ok i) h = sym (list_any_at (nat_eq x) xs i 0 h.0 (nat_eq-same x (get_or xs i 0) (sym h.1)))
search_is xs x (Err i) h = sym (list_any_none (nat_eq x) xs none)
  where
    none : (k d : ℕ) → k < length xs → nat_eq x (get_or xs k d) ≡ false
    none k d lt =
        let here : get_or xs k d ≡ get_or xs k 0 = get_or_default xs k d 0 lt in
        nat_eq-other x (get_or xs k d) (⊎_elim
        (λ below e. absurd (omega (arith, e, here, h.1 k below)))
        (λ above e. absurd (omega (arith, e, here, h.2 k above lt)))
        (cases_lt k i))

pub stored_end : (stored : List StoredSymbol) (ss : List Symbol) (i : ℕ) → length stored ≤ i → i < length ss → differs_from i (drop i stored) (drop i ss) ≡ Some i
stored_end stored ss i le lt =
    ap (λ ts. differs_from i ts (drop i ss)) (drop_all i stored le) ∙ missing i (drop i ss) (omega (arith, lt, length-drop i ss))
  where
    missing : (k : ℕ) (rest : List Symbol) → 1 ≤ length rest → differs_from k [] rest ≡ Some k
    missing k [] h = absurd (omega (arith, h))
    missing k (s ∷ rest) h = refl

pub symbols_end : (stored : List StoredSymbol) (ss : List Symbol) (i : ℕ) → i < length stored → length ss ≤ i → differs_from i (drop i stored) (drop i ss) ≡ Some i
symbols_end stored ss i lt le =
    ap (differs_from i (drop i stored)) (drop_all i ss le) ∙ surplus i (drop i stored) (omega (arith, lt, length-drop i stored))
  where
    surplus : (k : ℕ) (rest : List StoredSymbol) → 1 ≤ length rest → differs_from k rest [] ≡ Some k
    surplus k [] h = absurd (omega (arith, h))
    surplus k (t ∷ rest) h = refl

-- ---- ranks

pub few_defined : (fs : List Function) (i : ℕ) → length (defined_of (take i fs)) ≤ length fs
few_defined fs i = omega (arith, few_filter is_defined (take i fs), length-take i fs)

pub count_here : (fs : List Function) (i : ℕ) (f : Function) → slice_get fs i ≡ Some f → length (defined_of (take i fs)) + length (defined_of (f ∷ [])) ≡ length (defined_of (take (i + 1) fs))
count_here fs i f here =
    sym (ap length (ap defined_of (take_here fs i f here) ∙ filter-append is_defined (take i fs) (f ∷ [])) ∙ length-append (defined_of (take i fs)) (defined_of (f ∷ [])))

-- ---- true summaries

pub undefined_here : (g : Function → Summary) (fs : List Function) (i : ℕ) (f : Function) → slice_get fs i ≡ Some f → is_defined f ≡ false → map g (defined_of (take i fs)) ≡ map g (defined_of (take (i + 1) fs))
undefined_here g fs i f here e = sym (ap (map g) (defined_here fs i f here ∙ ap (λ b. defined_of (take i fs) ++ cond b (f ∷ []) []) e ∙ append-nil (defined_of (take i fs))))

pub summed_here : (g : Function → Summary) (fs : List Function) (i : ℕ) (f : Function) → slice_get fs i ≡ Some f → is_defined f ≡ true → map g (defined_of (take i fs)) ++ g f ∷ [] ≡ map g (defined_of (take (i + 1) fs))
summed_here g fs i f here e =
    sym (ap (map g) (defined_here fs i f here ∙ ap (λ b. defined_of (take i fs) ++ cond b (f ∷ []) []) e) ∙ map-append g (defined_of (take i fs)) (f ∷ []))

-- ---- symbols by the same names

abbrev Same : List ℕ → List ℕ → Type 0
Same a b = (x : ℕ) → list_any (nat_eq x) a ≡ list_any (nat_eq x) b

listed_same : {P : Type 0} (g h : P → Option Symbol) → ((p : P) → g p ≡ h p) → (ps : List P) → filter_map g ps ≡ filter_map h ps
listed_same g h e [] = refl
listed_same g h e (p ∷ ps) = ap₂ cons_option (e p) (listed_same g h e ps)

pub arrays_same : (a b : List ℕ) (arrays : List Array) → Same a b → array_symbols a arrays ≡ array_symbols b arrays
arrays_same a b arrays e =
    listed_same (λ pair. array_symbol a pair.0 pair.1) (λ pair. array_symbol b pair.0 pair.1)
    (λ pair. ap (λ t. cond (is_listed pair.1.linkage t) (Some (record { name = pair.1.name; function = false; linkage = pair.1.linkage; place = pair.0 })) None) (e pair.0)) (enumerate_from 0 arrays)

pub functions_same : (a b : List ℕ) (functions : List Function) → Same a b → function_symbols a functions ≡ function_symbols b functions
functions_same a b functions e =
    listed_same (λ pair. function_symbol a pair.0 pair.1) (λ pair. function_symbol b pair.0 pair.1)
    (λ pair. ap (λ t. cond (is_listed pair.1.linkage t) (Some (record { name = pair.1.name; function = true; linkage = pair.1.linkage; place = pair.0 })) None) (e pair.0)) (enumerate_from 0 functions)

-- ---- the listing loops

-- one that is not listed leaves the list
pub not_listed : (b : Bool) (s : Symbol) (front before after now : List Symbol) → now ≡ front ++ before → b ≡ false → after ≡ before ++ cons_option (cond b (Some s) None) [] → now ≡ front ++ after
not_listed true s front before after now so_far e is = cc
not_listed false s front before after now so_far e is = so_far ∙ ap (λ t. front ++ t) (sym (is ∙ append-nil before))

-- one that is listed comes next
pub is_next : (b : Bool) (s : Symbol) (front before after now new : List Symbol) → now ≡ front ++ before → new ≡ now ++ s ∷ [] → b ≡ true → after ≡ before ++ cons_option (cond b (Some s) None) [] → new ≡ front ++ after
is_next true s front before after now new so_far push e is =
    push ∙ ap (λ t. t ++ s ∷ []) so_far ∙ append_assoc front before (s ∷ []) ∙ ap (λ t. front ++ t) (sym is)
is_next false s front before after now new so_far push e is = cc

abbrev symbol_as : List ℕ → Bool → Linkage → ℕ → Symbol
symbol_as n f l p = record { name = n; function = f; linkage = l; place = p }

pub renamed : (front new : List Symbol) (n m : List ℕ) (f : Bool) (l : Linkage) (p : ℕ) → new ≡ front ++ symbol_as n f l p ∷ [] → n ≡ m → new ≡ front ++ symbol_as m f l p ∷ []
renamed front new n m f l p e same = e ∙ ap (λ k. front ++ symbol_as k f l p ∷ []) same

-- ---- one summary of the stored ones

abbrev Rest : Module → List Function → List Summary → ℕ → ℕ → Option ObjectFault
Rest m fs stored i k = summaries_fault_from m i (drop i fs) (drop k stored)

pub summary_skipped : (m : Module) (fs : List Function) (stored : List Summary) (i k : ℕ) (f : Function) (s : Summary) → slice_get fs i ≡ Some f → slice_get stored k ≡ Some s → is_defined f ≡ false → Rest m fs stored i k ≡ Rest m fs stored (i + 1) k
summary_skipped m fs stored i k f s here at e =
    summary_here m fs stored i k f s here at ∙ ap (λ b. cond b (first (summary_fault m i f s) (Rest m fs stored (i + 1) (k + 1))) (Rest m fs stored (i + 1) k)) e

pub summary_none : (m : Module) (fs : List Function) (stored : List Summary) (i k : ℕ) (f : Function) (s : Summary) → slice_get fs i ≡ Some f → slice_get stored k ≡ Some s → is_defined f ≡ true → summary_fault m i f s ≡ None → Rest m fs stored i k ≡ Rest m fs stored (i + 1) (k + 1)
summary_none m fs stored i k f s here at e none =
    summary_here m fs stored i k f s here at ∙ ap (λ b. cond b (first (summary_fault m i f s) (Rest m fs stored (i + 1) (k + 1))) (Rest m fs stored (i + 1) k)) e
    ∙ ap (λ o. first o (Rest m fs stored (i + 1) (k + 1))) none

pub summary_some : (m : Module) (fs : List Function) (stored : List Summary) (i k : ℕ) (f : Function) (s : Summary) (fault : ObjectFault) → slice_get fs i ≡ Some f → slice_get stored k ≡ Some s → is_defined f ≡ true → summary_fault m i f s ≡ Some fault → Rest m fs stored i k ≡ Some fault
summary_some m fs stored i k f s fault here at e some =
    summary_here m fs stored i k f s here at ∙ ap (λ b. cond b (first (summary_fault m i f s) (Rest m fs stored (i + 1) (k + 1))) (Rest m fs stored (i + 1) k)) e
    ∙ ap (λ o. first o (Rest m fs stored (i + 1) (k + 1))) some
