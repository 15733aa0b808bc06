-- The symbols of a module: each is one of its arrays or functions that is not static, and what statements name is listed.
use Rattle.std.proofs.Common.{◌≡◌, ◌⊎◌, inl, inr, ℕ, Bool, true, false, Some, None, cond, refl, sym, ap, ◌∙◌, arith}
use Rattle.std.specs.Prelude.{slice_get, nat_eq}
use Rattle.std.specs.List.{list_any, enumerate_from}
use Rattle.std.proofs.lemmas.Option.{cond_some}
use Rattle.gimple_ir.specs.declared.types.Linkage.{Linkage}
use Rattle.gimple_ir.specs.declared.types.Linkage.TheVariants.{Extern, Strong, Weak, Static}
use Rattle.gimple_ir.specs.declared.types.Array.{Array}
use Rattle.gimple_ir.specs.declared.types.Function.{Function}
use Rattle.gimple_ir.specs.declared.types.Module.{Module}
use Rattle.lto_object.specs.declared.symbol.Symbol.{Symbol}
use Rattle.lto_object.specs.Objects.{is_listed, array_symbol, function_symbol, array_symbols, function_symbols, symbols_of, named_arrays, named_functions}
use Rattle.symbol_resolution.specs.Numbers.{is_static}
use Rattle.symbol_resolution.proofs.Membership.{Has, has_left, has_right, has_either, has_numbered, numbered_has, has_chosen, chosen_has}

pub record IsArraySymbol (m : Module) (s : Symbol) : Type 0 where
  pub item : Array
  pub here : slice_get m.arrays s.place ≡ Some item
  pub name : s.name ≡ item.name
  pub linkage : s.linkage ≡ item.linkage
  pub seen : is_static item.linkage ≡ false
  pub sort : s.function ≡ false

pub record IsFunctionSymbol (m : Module) (s : Symbol) : Type 0 where
  pub item : Function
  pub here : slice_get m.functions s.place ≡ Some item
  pub name : s.name ≡ item.name
  pub linkage : s.linkage ≡ item.linkage
  pub seen : is_static item.linkage ≡ false
  pub sort : s.function ≡ true

listed_seen : (l : Linkage) (b : Bool) → is_listed l b ≡ true → is_static l ≡ false
listed_seen Extern b h = refl
listed_seen Strong b h = refl
listed_seen Weak b h = refl
listed_seen Static b h = cc

seen_listed : (l : Linkage) (b : Bool) → is_static l ≡ false → b ≡ true → is_listed l b ≡ true
seen_listed Extern b h k = k
seen_listed Strong b h k = refl
seen_listed Weak b h k = refl
seen_listed Static b h k = cc

array_from : (m : Module) (s : Symbol) → Has (array_symbols (named_arrays m.functions) m.arrays) s → IsArraySymbol m s
array_from m s h =
    let named = named_arrays m.functions in
    let chosen = chosen_has (λ pair. array_symbol named pair.0 pair.1) (enumerate_from 0 m.arrays) s h.0 h.1 in
    let at = numbered_has 0 m.arrays chosen.0 chosen.1.0 chosen.1.1 in
    let made : Symbol = record { name = chosen.0.1.name; function = false; linkage = chosen.0.1.linkage; place = chosen.0.0 } in
    let both = cond_some (is_listed chosen.0.1.linkage (list_any (nat_eq chosen.0.0) named)) made s chosen.2 in
    let place : s.place ≡ chosen.1.0 = sym (ap (λ (s : Symbol). s.place) both.1) ∙ at.0 ∙ omega arith in
    record {
      item = chosen.0.1;
      here = ap (slice_get m.arrays) place ∙ at.1;
      name = sym (ap (λ (s : Symbol). s.name) both.1);
      linkage = sym (ap (λ (s : Symbol). s.linkage) both.1);
      seen = listed_seen chosen.0.1.linkage (list_any (nat_eq chosen.0.0) named) both.0;
      sort = sym (ap (λ (s : Symbol). s.function) both.1);
    }

function_from : (m : Module) (s : Symbol) → Has (function_symbols (named_functions m.functions) m.functions) s → IsFunctionSymbol m s
function_from m s h =
    let named = named_functions m.functions in
    let chosen = chosen_has (λ pair. function_symbol named pair.0 pair.1) (enumerate_from 0 m.functions) s h.0 h.1 in
    let at = numbered_has 0 m.functions chosen.0 chosen.1.0 chosen.1.1 in
    let made : Symbol = record { name = chosen.0.1.name; function = true; linkage = chosen.0.1.linkage; place = chosen.0.0 } in
    let both = cond_some (is_listed chosen.0.1.linkage (list_any (nat_eq chosen.0.0) named)) made s chosen.2 in
    let place : s.place ≡ chosen.1.0 = sym (ap (λ (s : Symbol). s.place) both.1) ∙ at.0 ∙ omega arith in
    record {
      item = chosen.0.1;
      here = ap (slice_get m.functions) place ∙ at.1;
      name = sym (ap (λ (s : Symbol). s.name) both.1);
      linkage = sym (ap (λ (s : Symbol). s.linkage) both.1);
      seen = listed_seen chosen.0.1.linkage (list_any (nat_eq chosen.0.0) named) both.0;
      sort = sym (ap (λ (s : Symbol). s.function) both.1);
    }

pub symbol_from : (m : Module) (s : Symbol) → Has (symbols_of m) s → IsArraySymbol m s ⊎ IsFunctionSymbol m s
symbol_from m s h = by (has_either (array_symbols (named_arrays m.functions) m.arrays) (function_symbols (named_functions m.functions) m.functions) s h.0 h.1)
  where
    by : Has (array_symbols (named_arrays m.functions) m.arrays) s ⊎ Has (function_symbols (named_functions m.functions) m.functions) s → IsArraySymbol m s ⊎ IsFunctionSymbol m s
    by (inl h) = inl (array_from m s h)
    by (inr h) = inr (function_from m s h)

abbrev pub symbol_of_array : ℕ → Array → Symbol
symbol_of_array place a = record { name = a.name; function = false; linkage = a.linkage; place = place }

abbrev pub symbol_of_function : ℕ → Function → Symbol
symbol_of_function place f = record { name = f.name; function = true; linkage = f.linkage; place = place }

pub array_listed : (m : Module) (place : ℕ) (a : Array) → slice_get m.arrays place ≡ Some a → is_static a.linkage ≡ false → list_any (nat_eq place) (named_arrays m.functions) ≡ true
    → Has (symbols_of m) (symbol_of_array place a)
array_listed m place a here seen named =
    let at = has_numbered 0 m.arrays a place place (omega arith) here in
    has_left (array_symbols (named_arrays m.functions) m.arrays) (function_symbols (named_functions m.functions) m.functions) (symbol_of_array place a)
    (has_chosen (λ pair. array_symbol (named_arrays m.functions) pair.0 pair.1) (enumerate_from 0 m.arrays) (place, a) at.0 (symbol_of_array place a) at.1
    (ap (λ b. cond b (Some (symbol_of_array place a)) None) (seen_listed a.linkage (list_any (nat_eq place) (named_arrays m.functions)) seen named)))

pub function_listed : (m : Module) (place : ℕ) (f : Function) → slice_get m.functions place ≡ Some f → is_static f.linkage ≡ false → list_any (nat_eq place) (named_functions m.functions) ≡ true
    → Has (symbols_of m) (symbol_of_function place f)
function_listed m place f here seen named =
    let at = has_numbered 0 m.functions f place place (omega arith) here in
    has_right (array_symbols (named_arrays m.functions) m.arrays) (function_symbols (named_functions m.functions) m.functions) (symbol_of_function place f)
    (has_chosen (λ pair. function_symbol (named_functions m.functions) pair.0 pair.1) (enumerate_from 0 m.functions) (place, f) at.0 (symbol_of_function place f) at.1
    (ap (λ b. cond b (Some (symbol_of_function place f)) None) (seen_listed f.linkage (list_any (nat_eq place) (named_functions m.functions)) seen named)))
