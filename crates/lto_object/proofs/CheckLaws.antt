-- Stored summaries and symbols that have no fault are those of the module, and those of the module have none.
use Rattle.std.proofs.Common.{◌≡◌, ℕ, ◌+◌, List, [], ◌∷◌, ◌++◌, length, map, Bool, true, false, cond, Option, Some, None, refl, sym, ap, ap₂, ◌∙◌, arith}
use Rattle.std.specs.Prelude.{◌&&◌, ◌==◌, option_map}
use Rattle.std.specs.List.{AllByRecursion}
use Rattle.std.specs.Str.{bytes_eq}
use Rattle.std.proofs.lemmas.Bool.{eqb-true}
use Rattle.std.proofs.lemmas.Bool.Decides.{nat_tests}
use Rattle.std.proofs.lemmas.List.{append-nil}
use Rattle.std.proofs.lemmas.Slice.Eq.{bytes_eq-Decides}
use Rattle.gimple_ir.specs.declared.types.Linkage.{Linkage}
use Rattle.gimple_ir.specs.declared.types.Linkage.TheVariants as linkage
use Rattle.gimple_ir.specs.declared.types.Function.{Function}
use Rattle.gimple_ir.specs.declared.types.Module.{Module}
use Rattle.gimple_ir.specs.declared.summary.Summary.{Summary}
use Rattle.module_stream.specs.Codes.{flag_code, linkage_code}
use Rattle.module_stream.specs.Fields.{FitEach}
use Rattle.module_stream.proofs.Exact.{begins_none}
use Rattle.module_stream.proofs.OperandLaws.{AreCounts}
use Rattle.func_summary.specs.Summaries.{summary_of}
use Rattle.lto_object.specs.declared.fault.ObjectFault.{ObjectFault}
use Rattle.lto_object.specs.declared.fault.ObjectFault.TheVariants.{SummaryDiffers, SymbolsDiffer}
use Rattle.lto_object.specs.declared.symbol.Symbol.{Symbol}
use Rattle.lto_object.specs.declared.symbols.StoredSymbol.{StoredSymbol}
use Rattle.lto_object.specs.Bounds.{is_defined, defined_of, bounds_of}
use Rattle.lto_object.specs.SummaryStream.{summary_bytes, FitsSummary}
use Rattle.lto_object.specs.SymbolStream.{stored_of}
use Rattle.lto_object.specs.Objects.{summaries_of, symbols_of}
use Rattle.lto_object.specs.ObjectReading.{same_summary, summary_fault, first, summaries_fault_from, summaries_fault, same_symbol, differs_from, symbols_fault}
use Rattle.lto_object.proofs.SummaryLaws.{summary_exact}

-- ---- summaries

same_bytes : (xs ys : List ℕ) → bytes_eq xs ys ≡ true → xs ≡ ys
same_bytes xs ys h = (bytes_eq-Decides xs ys).0 h

-- of two that fit one function
same_is : (m : Module) (f : Function) (s t : Summary) → AreCounts (bounds_of m f) → FitsSummary (bounds_of m f) s → FitsSummary (bounds_of m f) t → same_summary s t ≡ true → s ≡ t
same_is m f s t counts hs ht same =
    (begins_none (summary_exact (bounds_of m f) counts) s t [] [] hs ht (append-nil (summary_bytes s) ∙ same_bytes (summary_bytes s) (summary_bytes t) same ∙ sym (append-nil (summary_bytes t)))).0

-- what is asked of each function that has a body
pub record IsSummed (m : Module) (f : Function) : Type 0 where
  pub counts : AreCounts (bounds_of m f)
  pub fits : FitsSummary (bounds_of m f) (summary_of m f)

first_none : (a b : Option ObjectFault) → first a b ≡ None → (a ≡ None) × (b ≡ None)
first_none None b h = (refl, h)
first_none (Some f) b h = cc

none_same : (m : Module) (place : ℕ) (f : Function) (s : Summary) → summary_fault m place f s ≡ None → same_summary s (summary_of m f) ≡ true
none_same m place f s h = by (same_summary s (summary_of m f)) refl h
  where
    by : (b : Bool) → same_summary s (summary_of m f) ≡ b → cond b None (Some (SummaryDiffers place s (summary_of m f))) ≡ None → same_summary s (summary_of m f) ≡ true
    by true e n = e
    by false e n = cc

pub none_left : (m : Module) (place : ℕ) (fs : List Function) → summaries_fault_from m place fs [] ≡ None
none_left m place [] = refl
none_left m place (f ∷ fs) = refl

abbrev Within : Module → List Function → List Summary → Type 0
Within m fs stored = FitEach FitsSummary (map (bounds_of m) (defined_of fs)) stored

summaries_step : (m : Module) (place : ℕ) (f : Function) (fs : List Function) → (is_defined f ≡ true → IsSummed m f)
    → ((ss : List Summary) → Within m fs ss → summaries_fault_from m (place + 1) fs ss ≡ None → ss ≡ map (summary_of m) (defined_of fs))
    → (b : Bool) → is_defined f ≡ b → (ss : List Summary) → FitEach FitsSummary (map (bounds_of m) (cond b (f ∷ defined_of fs) (defined_of fs))) ss → summaries_fault_from m place (f ∷ fs) ss ≡ None
    → ss ≡ map (summary_of m) (cond b (f ∷ defined_of fs) (defined_of fs))
summaries_step m place f fs summed later true e [] v n = absurd v
summaries_step m place f fs summed later true e (s ∷ ss) v n =
    let here : cond (is_defined f) (first (summary_fault m place f s) (summaries_fault_from m (place + 1) fs ss)) (summaries_fault_from m (place + 1) fs (s ∷ ss)) ≡ None = n in
    let both = first_none (summary_fault m place f s) (summaries_fault_from m (place + 1) fs ss) (rw e at here) in
    let k = summed e in
    ap₂ (λ t ts. t ∷ ts) (same_is m f s (summary_of m f) k.counts v.0 k.fits (none_same m place f s both.0)) (later ss v.1 both.1)
summaries_step m place f fs summed later false e [] v n = later [] v (none_left m (place + 1) fs)
summaries_step m place f fs summed later false e (s ∷ ss) v n =
    let here : cond (is_defined f) (first (summary_fault m place f s) (summaries_fault_from m (place + 1) fs ss)) (summaries_fault_from m (place + 1) fs (s ∷ ss)) ≡ None = n in
    later (s ∷ ss) v (rw e at here)

summaries_are : (m : Module) (place : ℕ) (fs : List Function) (stored : List Summary) → AllByRecursion (λ g. is_defined g ≡ true → IsSummed m g) fs → Within m fs stored → summaries_fault_from m place fs stored ≡ None → stored ≡ map (summary_of m) (defined_of fs)
summaries_are m place [] [] summed w h = refl
summaries_are m place [] (s ∷ stored) summed w h = absurd w
summaries_are m place (f ∷ fs) stored summed w h =
    summaries_step m place f fs summed.0 (λ ss v n. summaries_are m (place + 1) fs ss summed.1 v n) (is_defined f) refl stored w h

alike : (s : Summary) → same_summary s s ≡ true
alike s = (bytes_eq-Decides (summary_bytes s) (summary_bytes s)).1 refl

no_fault : (m : Module) (place : ℕ) (f : Function) → summary_fault m place f (summary_of m f) ≡ None
no_fault m place f = rw (alike (summary_of m f)) refl

good_step : (m : Module) (place : ℕ) (f : Function) (fs : List Function) → summaries_fault_from m (place + 1) fs (map (summary_of m) (defined_of fs)) ≡ None
    → (b : Bool) → is_defined f ≡ b → (ss : List Summary) → ss ≡ map (summary_of m) (defined_of fs) → summaries_fault_from m place (f ∷ fs) (cond b (summary_of m f ∷ ss) ss) ≡ None
good_step m place f fs later true e ss is = rw (e, no_fault m place f, is) later
good_step m place f fs later false e [] is = refl
good_step m place f fs later false e (s ∷ ss) is = rw (e, is) later

cond_map : (m : Module) (f : Function) (fs : List Function) (b : Bool) → map (summary_of m) (cond b (f ∷ fs) fs) ≡ cond b (summary_of m f ∷ map (summary_of m) fs) (map (summary_of m) fs)
cond_map m f fs true = refl
cond_map m f fs false = refl

summaries_good : (m : Module) (place : ℕ) (fs : List Function) → summaries_fault_from m place fs (map (summary_of m) (defined_of fs)) ≡ None
summaries_good m place [] = refl
summaries_good m place (f ∷ fs) =
    ap (summaries_fault_from m place (f ∷ fs)) (cond_map m f (defined_of fs) (is_defined f))
    ∙ good_step m place f fs (summaries_good m (place + 1) fs) (is_defined f) refl (map (summary_of m) (defined_of fs)) refl

pub none_differs : (m : Module) (stored : List Summary) → AllByRecursion (λ g. is_defined g ≡ true → IsSummed m g) m.functions → Within m m.functions stored → summaries_fault m stored ≡ None → stored ≡ summaries_of m
none_differs m stored summed w h = summaries_are m 0 m.functions stored summed w h

pub true_summaries_good : (m : Module) → summaries_fault m (summaries_of m) ≡ None
true_summaries_good m = summaries_good m 0 m.functions

-- ---- symbols

flag_is : (a b : Bool) → flag_code a ≡ flag_code b → a ≡ b
flag_is true true h = refl
flag_is true false h = cc
flag_is false true h = cc
flag_is false false h = refl

linkage_is : (a b : Linkage) → linkage_code a ≡ linkage_code b → a ≡ b
linkage_is linkage.Extern linkage.Extern h = refl
linkage_is linkage.Extern linkage.Strong h = cc
linkage_is linkage.Extern linkage.Weak h = cc
linkage_is linkage.Extern linkage.Static h = cc
linkage_is linkage.Strong linkage.Extern h = cc
linkage_is linkage.Strong linkage.Strong h = refl
linkage_is linkage.Strong linkage.Weak h = cc
linkage_is linkage.Strong linkage.Static h = cc
linkage_is linkage.Weak linkage.Extern h = cc
linkage_is linkage.Weak linkage.Strong h = cc
linkage_is linkage.Weak linkage.Weak h = refl
linkage_is linkage.Weak linkage.Static h = cc
linkage_is linkage.Static linkage.Extern h = cc
linkage_is linkage.Static linkage.Strong h = cc
linkage_is linkage.Static linkage.Weak h = cc
linkage_is linkage.Static linkage.Static h = refl

three-true : (a b c : Bool) → (a && b && c) ≡ true → (a ≡ true) × (b ≡ true) × (c ≡ true)
three-true true true true h = (refl, refl, refl)
three-true true true false h = cc
three-true true false c h = cc
three-true false b c h = cc

abbrev symbol_as : List ℕ → Bool → Linkage → StoredSymbol
symbol_as n f l = record { name = n; function = f; linkage = l }

same : (a b : List ℕ) (c d : Bool) (e g : Linkage) → a ≡ b → c ≡ d → e ≡ g → symbol_as a c e ≡ symbol_as b d g
same a b c d e g p q r = rw (p, q, r) refl

symbol_is : (s t : StoredSymbol) → same_symbol s t ≡ true → s ≡ t
symbol_is s t h =
    let each = three-true (flag_code s.function == flag_code t.function) (linkage_code s.linkage == linkage_code t.linkage) (bytes_eq s.name t.name) h in
    let f : s.function ≡ t.function = flag_is s.function t.function (eqb-true (flag_code s.function) (flag_code t.function) each.0) in
    let l : s.linkage ≡ t.linkage = linkage_is s.linkage t.linkage (eqb-true (linkage_code s.linkage) (linkage_code t.linkage) each.1) in
    let n : s.name ≡ t.name = same_bytes s.name t.name each.2 in
    same s.name t.name s.function t.function s.linkage t.linkage n f l

equal_numbers : (n : ℕ) → (n == n) ≡ true
equal_numbers n = grind (arith, nat_tests)

symbol_same : (s : StoredSymbol) → same_symbol s s ≡ true
symbol_same s = rw (equal_numbers (flag_code s.function), equal_numbers (linkage_code s.linkage), (bytes_eq-Decides s.name s.name).1 refl) refl

pub stored_are : (place : ℕ) (stored : List StoredSymbol) (ss : List Symbol) → differs_from place stored ss ≡ None → stored ≡ map stored_of ss
stored_are place [] [] h = refl
stored_are place [] (s ∷ ss) h = cc
stored_are place (t ∷ stored) [] h = cc
stored_are place (t ∷ stored) (s ∷ ss) h = by (same_symbol t (stored_of s)) refl h (stored_are (place + 1) stored ss)
  where
    by : (b : Bool) → same_symbol t (stored_of s) ≡ b → cond b (differs_from (place + 1) stored ss) (Some place) ≡ None → (differs_from (place + 1) stored ss ≡ None → stored ≡ map stored_of ss) → t ∷ stored ≡ stored_of s ∷ map stored_of ss
    by true e n later = ap₂ (λ x xs. x ∷ xs) (symbol_is t (stored_of s) e) (later n)
    by false e n later = cc

stored_good : (place : ℕ) (ss : List Symbol) → differs_from place (map stored_of ss) ss ≡ None
stored_good place [] = refl
stored_good place (s ∷ ss) = rw (symbol_same (stored_of s)) (stored_good (place + 1) ss)

mapped_none : {X : Type 0} (f : X → ObjectFault) (o : Option X) → option_map f o ≡ None → o ≡ None
mapped_none f None h = refl
mapped_none f (Some x) h = cc

pub no_symbol_differs : (m : Module) (stored : List StoredSymbol) → symbols_fault m stored ≡ None → stored ≡ map stored_of (symbols_of m)
no_symbol_differs m stored h = stored_are 0 stored (symbols_of m) (mapped_none (λ place. SymbolsDiffer place) (differs_from 0 stored (symbols_of m)) h)

pub symbols_good : (m : Module) → symbols_fault m (map stored_of (symbols_of m)) ≡ None
symbols_good m = rw (stored_good 0 (symbols_of m)) refl
