-- Each generated module is checked.
use Rattle.std.proofs.Common.{◌≡◌, ℕ, zero, suc, ◌+◌, ◌*◌, ◌-◌, ◌/◌, ◌<◌, ◌≤◌, List, [], ◌∷◌, ◌++◌, cond, map, take, length, max, Bool, true, false, not, ◌&&◌, nat_eq, nat_lt, Option, Some, None, IfSome, slice_get, All, refl, arith, ap, sym, subst, ◌∙◌, append_assoc, eqb-true, inl, inr, if◌then◌else◌}
use Rattle.std.specs.List.{slice_index_or, range_with_len}
use Rattle.std.specs.Int.{div_ceil}
use Rattle.std.proofs.lemmas.Bool.Decides.{eqb_tells}
use Rattle.std.proofs.lemmas.List.{length-append, length-map, get_or_append_left, get_or-map}
use Rattle.std.proofs.lemmas.List.Elements.{All-append, All-cons, All-nil, All-map}
use Rattle.std.proofs.lemmas.List.FromFn.{get_or-range_with_len, length-range_with_len, get_or-map-range_with_len}
use Rattle.std.proofs.lemmas.Option.{slice_get-get_or}
use Rattle.gimple_ir.specs.declared.types.Function.{Function}
use Rattle.gimple_ir.specs.declared.types.Module.{Module}
use Rattle.gimple_ir.specs.Checks.{faults_from, function_fault, fault_of}
use Rattle.gimple_ir.specs.Programs.{IsChecked}
use Rattle.gimple_ir.specs.Names.{is_among}
use Rattle.workload_gen.specs.declared.choices.Choice.{Choice}
use Rattle.workload_gen.specs.declared.choices.Call.{Call}
use Rattle.workload_gen.specs.Draws.{draw, after}
use Rattle.workload_gen.specs.Choices.{argument_of, call_of, calls_of, choice_of, choices_of, start}
use Rattle.workload_gen.specs.Functions.{declaration, definition, main_of}
use Rattle.workload_gen.specs.Modules.{own_choices, is_declared, has_call_to, declared_below, place_in, definitions_from, main_in, functions_of, module_of, modules_of}
use Rattle.workload_gen.specs.Places.{AreForward, IsCalled}
use Rattle.workload_gen.proofs.Numbers.{draw_below, chosen, first_choices_forward}
use Rattle.workload_gen.proofs.Declaring.{declared_below-more}
use Rattle.workload_gen.proofs.Calling.{length-own_choices, get_or-own_choices}
use Rattle.workload_gen.proofs.Placing.{place_of-own, place_of-other, length-declared}
use Rattle.workload_gen.proofs.Listing.{own_called, main_called, length-choices_of}
use Rattle.workload_gen.proofs.Standing.{names_in, numbers_of, stands_at, name_is_new}
use Rattle.workload_gen.proofs.Bodies.{TakesTwo, IsCallable}
use Rattle.workload_gen.proofs.Faultless.{module_with, IsFaultless, IsSound, IsSoundCall, argument_at, faults-none, fault_in-none, declaration_faultless, definition_faultless, main_faultless}

-- ---- what is drawn

-- a function as it is drawn
pub record IsDrawn (choice : Choice) : Type 0 where
  pub count : ℕ
  pub number : ℕ
  pub state : ℕ
  pub is : choice ≡ choice_of count number state

drawn_call : (functions : List Function) (place : ℕ → ℕ) (b : Bool) (count number state : ℕ)
    → IfSome (if b then Some (call_of count number state) else None) (λ (call : Call). IsCallable functions (place call.callee))
    → IfSome (if b then Some (call_of count number state) else None) (IsSoundCall functions place)
unfolding call_of argument_of
drawn_call functions place false count number state h = tt
drawn_call functions place true count number state h =
    record { callable = h; argument = argument_at functions (nat_eq (draw (after 1 state) 0 2) 1) (draw (after 1 state) 1 4) (omega (arith, draw_below (after 1 state) 1 4 (omega arith))) }

drawn_sound : (functions : List Function) (place : ℕ → ℕ) (count number state : ℕ)
    → IfSome (choice_of count number state).call (λ (call : Call). IsCallable functions (place call.callee))
    → IsSound functions place (choice_of count number state)
unfolding choice_of calls_of
drawn_sound functions place count number state h = record {
  first_number = draw state 0 4;
  first = refl;
  constant = omega (arith, draw_below state 1 1000 (omega arith));
  second_number = draw state 2 4;
  second = refl;
  call = drawn_call functions place (nat_lt (number + 1) count) count number (after 3 state) h;
}

sound : (functions : List Function) (place : ℕ → ℕ) (choice : Choice) → IsDrawn choice
    → IfSome choice.call (λ (call : Call). IsCallable functions (place call.callee)) → IsSound functions place choice
sound functions place choice d h =
    subst (IsSound functions place) (sym d.is)
    (drawn_sound functions place d.count d.number d.state (subst (λ (c : Choice). IfSome c.call (λ (call : Call). IsCallable functions (place call.callee))) d.is h))

-- ---- what is called stands at its place

declared_below-mono : (own : List Choice) (m n k : ℕ) → length (declared_below own m n) ≤ length (declared_below own m (n + k))
declared_below-mono own m n zero = let e : n + zero ≡ n = omega arith in rw e (omega arith)
declared_below-mono own m n (suc k) =
    let e : n + suc k ≡ n + k + 1 = omega arith in
    let before = declared_below-mono own m n k in
    let more = ap length (ap (declared_below own m) e ∙ declared_below-more own m (n + k)) in
    let parts = length-append (declared_below own m (n + k)) (cond (is_declared own m (n + k)) ((n + k) ∷ []) []) in
    omega (arith, before, more, parts)

one_more : (b : Bool) (n : ℕ) → b ≡ true → length (cond b (n ∷ []) []) ≡ 1
one_more b n e = rw e refl

declared_true : (a b : Bool) → a ≡ true → b ≡ false → (a && not b) ≡ true
declared_true a b e f = rw (e, f) refl

place_within : (choices : List Choice) (m n : ℕ) → AreForward choices → 50 * m ≤ length choices → IsCalled choices m n
    → place_in choices m n < length (numbers_of choices m)
place_within choices m n forward low called =
    let own = own_choices choices m in
    let count = length choices in
    let list = declared_below own m count in
    let range = range_with_len (50 * m) (length own) in
    let all = length-append list range in
    let many = length-range_with_len (50 * m) (length own) in
    let long = length-own_choices choices m in
    let there = called.there in
    elim (eqb_tells (n / 50) m) [
      | inl e ↦
          let at = place_of-own own m count n e.0 in
          let same = e.1 in
          omega (arith, at, all, many, long, there, same)
      | inr e ↦
          let at = place_of-other own m count n e.0 in
          let declared = declared_true (has_call_to own m n) (nat_eq (n / 50) m) called.called e.0 in
          let more = ap length (declared_below-more own m n) in
          let parts = length-append (declared_below own m n) (cond (is_declared own m n) (n ∷ []) []) in
          let one = one_more (is_declared own m n) n declared in
          let whole : n + 1 + (count - (n + 1)) ≡ count = omega (arith, there) in
          let grows = subst (λ (k : ℕ). length (declared_below own m (n + 1)) ≤ length (declared_below own m k)) whole (declared_below-mono own m (n + 1) (count - (n + 1))) in
          omega (arith, at, all, more, parts, one, grows)
    ]

-- ---- the functions of a module

definitions_each : (P : Function → Type 0) (place : ℕ → ℕ) (n : ℕ) (own : List Choice)
    → ((i : ℕ) (d : Choice) → i < length own → P (definition place (n + i) (slice_index_or own i d))) → All P (definitions_from place n own)
unfolding definitions_from
definitions_each P place n [] each = All-nil P
definitions_each P place n (c ∷ cs) each =
    let at : n + 0 ≡ n = omega arith in
    let here = subst (λ (k : ℕ). P (definition place k c)) at (each 0 c (omega arith)) in
    let rest = definitions_each P place (n + 1) cs (λ i d inside.
    let next : n + suc i ≡ n + 1 + i = omega arith in
    subst (λ (k : ℕ). P (definition place k (slice_index_or cs i d))) next (each (suc i) d (omega (arith, inside)))) in
    All-cons P (definition place n c) (definitions_from place (n + 1) cs) here rest

declaration_takes : (n : ℕ) → TakesTwo (declaration n)
unfolding declaration
declaration_takes n = record { more = []; parameters = refl; variables = refl; result = refl }

definition_takes : (place : ℕ → ℕ) (n : ℕ) (choice : Choice) → TakesTwo (definition place n choice)
unfolding definition
definition_takes place n choice = record { more = _; parameters = refl; variables = refl; result = refl }

length-definitions : (place : ℕ → ℕ) (n : ℕ) (own : List Choice) → length (definitions_from place n own) ≡ length own
unfolding definitions_from
length-definitions place n [] = refl
length-definitions place n (c ∷ cs) = ap suc (length-definitions place (n + 1) cs)

-- declared and defined functions
abbrev common : List Choice → ℕ → List Function
common choices m =
    map declaration (declared_below (own_choices choices m) m (length choices))
    ++ definitions_from (place_in choices m) (50 * m) (own_choices choices m)

common_and_main : (choices : List Choice) (state m : ℕ) → functions_of choices state m ≡ common choices m ++ main_in choices state m
unfolding functions_of
common_and_main choices state m =
    sym (append_assoc (map declaration (declared_below (own_choices choices m) m (length choices)))
    (definitions_from (place_in choices m) (50 * m) (own_choices choices m)) (main_in choices state m))

length-common : (choices : List Choice) (m : ℕ) → length (common choices m) ≡ length (numbers_of choices m)
length-common choices m =
    let own = own_choices choices m in
    let list = declared_below own m (length choices) in
    let defined = definitions_from (place_in choices m) (50 * m) own in
    let a = length-append (map declaration list) defined in
    let b = length-map list declaration in
    let c = length-definitions (place_in choices m) (50 * m) own in
    let d = length-append list (range_with_len (50 * m) (length own)) in
    let e = length-range_with_len (50 * m) (length own) in
    omega (arith, a, b, c, d, e)

common_take_two : (choices : List Choice) (m : ℕ) → All TakesTwo (common choices m)
common_take_two choices m =
    let own = own_choices choices m in
    let list = declared_below own m (length choices) in
    All-append TakesTwo (map declaration list) (definitions_from (place_in choices m) (50 * m) own)
    (All-map TakesTwo declaration list (λ i d inside. declaration_takes (slice_index_or list i d)))
    (definitions_each TakesTwo (place_in choices m) (50 * m) own (λ i d inside. definition_takes (place_in choices m) (50 * m + i) (slice_index_or own i d)))

callable : (choices : List Choice) (state m n : ℕ) → AreForward choices → 50 * m ≤ length choices → IsCalled choices m n
    → IsCallable (functions_of choices state m) (place_in choices m n)
callable choices state m n forward low called =
    let place = place_in choices m n in
    let all = common choices m in
    let within = place_within choices m n forward low called in
    let long = length-common choices m in
    let d = declaration 0 in
    let inside : place < length all = omega (arith, within, long) in
    let more = length-append all (main_in choices state m) in
    let here = slice_get-get_or (all ++ main_in choices state m) place d (omega (arith, inside, more)) in
    let left = ap (λ (f : Function). Some f) (get_or_append_left all (main_in choices state m) d place inside) in
    record {
      called = slice_index_or all place d;
      here = ap (λ (fs : List Function). slice_get fs place) (common_and_main choices state m) ∙ here ∙ left;
      takes = common_take_two choices m place d inside;
    }

-- what is asked of the choices of a program
pub record AreSound (choices : List Choice) : Type 0 where
  pub forward : AreForward choices
  pub few : length choices ≤ 22580
  pub drawn : (i : ℕ) (d : Choice) → i < length choices → IsDrawn (slice_index_or choices i d)

if_some_mapped : {A : Type 0} (P Q : A → Type 0) (o : Option A) → ((x : A) → P x → Q x) → IfSome o P → IfSome o Q
if_some_mapped P Q None f h = tt
if_some_mapped P Q (Some x) f h = f x h

own_sound : (choices : List Choice) (state m i : ℕ) (d : Choice) → AreSound choices → 50 * m ≤ length choices → i < length (own_choices choices m)
    → IsSound (functions_of choices state m) (place_in choices m) (slice_index_or (own_choices choices m) i d)
own_sound choices state m i d h low inside =
    let own = own_choices choices m in
    let long = length-own_choices choices m in
    let at = get_or-own_choices choices m i d (omega (arith, inside, long)) in
    let drawn = subst IsDrawn (sym at) (h.drawn (50 * m + i) d (omega (arith, inside, long))) in
    sound (functions_of choices state m) (place_in choices m) (slice_index_or own i d) drawn
    (if_some_mapped (λ (call : Call). IsCalled choices m call.callee) (λ (call : Call). IsCallable (functions_of choices state m) (place_in choices m call.callee))
    (slice_index_or own i d).call (λ call called. callable choices state m call.callee h.forward low called) (own_called choices own m i d h.forward refl inside))

if_main : (P : Function → Type 0) (b : Bool) (f : Function) → (b ≡ true → P f) → All P (if b then f ∷ [] else [])
if_main P true f h = All-cons P f [] (h refl) (All-nil P)
if_main P false f h = All-nil P

main_in_faultless : (choices : List Choice) (state m : ℕ) → AreSound choices → 50 * m ≤ length choices
    → All (IsFaultless (functions_of choices state m)) (main_in choices state m)
unfolding main_in
main_in_faultless choices state m h low =
    let functions = functions_of choices state m in
    let place = place_in choices m in
    if_main (IsFaultless functions) (nat_eq m 0) (main_of place (length choices) state) (λ e.
    let first = eqb-true m 0 e in
    main_faultless functions place (length choices) state h.few
    (λ k inside. callable choices state m (10 * k) h.forward low (main_called choices m k first (omega (arith, inside)))))

functions_faultless : (choices : List Choice) (state m : ℕ) → AreSound choices → 50 * m ≤ length choices
    → All (IsFaultless (functions_of choices state m)) (functions_of choices state m)
functions_faultless choices state m h low =
    let functions = functions_of choices state m in
    let P = IsFaultless functions in
    let own = own_choices choices m in
    let list = declared_below own m (length choices) in
    let long = length-own_choices choices m in
    let numbers = numbers_of choices m in
    let few = h.few in
    let declared = All-map P declaration list (λ i d inside.
    let more = length-append list (range_with_len (50 * m) (length own)) in
    let at = stands_at choices m i d (omega (arith, inside, more)) in
    let left = get_or_append_left list (range_with_len (50 * m) (length own)) d i inside in
    declaration_faultless functions (slice_index_or list i d) (omega (arith, at.below, left, few))) in
    let defined = definitions_each P (place_in choices m) (50 * m) own (λ i d inside.
    definition_faultless functions (place_in choices m) (50 * m + i) (slice_index_or own i d) (omega (arith, inside, long, few)) (own_sound choices state m i d h low inside)) in
    subst (All P) (sym (common_and_main choices state m))
    (All-append P (common choices m) (main_in choices state m)
    (All-append P (map declaration list) (definitions_from (place_in choices m) (50 * m) own) declared defined) (main_in_faultless choices state m h low))

-- ---- modules

no_fault_with : (choices : List Choice) (state m : ℕ) → AreSound choices → 50 * m ≤ length choices
    → faults_from (function_fault (module_with (functions_of choices state m))) 0 (functions_of choices state m) ≡ None
no_fault_with choices state m h low =
    let functions = functions_of choices state m in
    let few = h.few in
    faults-none (function_fault (module_with functions)) 0 functions (λ i d inside.
    let f = slice_index_or functions i d in
    let named = get_or-map (λ (g : Function). g.name) functions i d f.name inside in
    let new = name_is_new choices state m i f.name (omega (arith, few)) inside in
    let at : 0 + i ≡ i = omega arith in
    ap (λ (k : ℕ). function_fault (module_with functions) k f) at
    ∙ fault_in-none functions f (is_among (take i (names_in functions)) f.name) (0 + 0 + i)
    (ap (is_among (take i (names_in functions))) (sym named) ∙ new) (functions_faultless choices state m h low i d inside))

length-if : (b : Bool) (f : Function) → length (if b then f ∷ [] else []) ≤ 1
length-if true f = omega arith
length-if false f = omega arith

length-main_in : (choices : List Choice) (state m : ℕ) → length (main_in choices state m) ≤ 1
unfolding main_in
length-main_in choices state m = length-if (nat_eq m 0) (main_of (place_in choices m) (length choices) state)

fault_none : (functions : List Function) → faults_from (function_fault (module_with functions)) 0 functions ≡ None → fault_of (module_with functions) ≡ None
fault_none functions e = rw e refl

pub module_checked : (choices : List Choice) (state m : ℕ) → AreSound choices → 50 * m ≤ length choices → IsChecked (module_of choices state m)
unfolding module_of
module_checked choices state m h low =
    let functions = functions_of choices state m in
    let few = h.few in
    let many = ap length (common_and_main choices state m) ∙ length-append (common choices m) (main_in choices state m) in
    let common_many = length-common choices m in
    let own = own_choices choices m in
    let numbers_many = length-append (declared_below own m (length choices)) (range_with_len (50 * m) (length own)) in
    let range_many = length-range_with_len (50 * m) (length own) in
    let within = length-declared choices m h.forward low in
    let one = length-main_in choices state m in
    let each = functions_faultless choices state m h low in
    record {
      stated = record {
        structs = All-nil _;
        arrays = All-nil _;
        functions = λ i d inside. (each i d inside).stated;
        items = omega (arith, many, common_many, numbers_many, range_many, within, one, few);
      };
      faultless = fault_none functions (no_fault_with choices state m h low);
    }

choice_at : (seed count i : ℕ) (d : Choice) → i < count → slice_index_or (choices_of seed count) i d ≡ chosen seed count i
unfolding choices_of
choice_at seed count i d inside = get_or-map-range_with_len (chosen seed count) 0 count i i d inside (omega arith)

choices_forward : (seed count : ℕ) → AreForward (choices_of seed count)
unfolding choices_of
choices_forward seed count = first_choices_forward seed count count (choices_of seed count) refl refl

choices_sound : (seed count : ℕ) → count ≤ 22580 → AreSound (choices_of seed count)
choices_sound seed count few =
    let long = length-choices_of seed count in
    record {
      forward = choices_forward seed count;
      few = omega (arith, long, few);
      drawn = λ i d inside. subst IsDrawn (sym (choice_at seed count i d (omega (arith, inside, long)))) (record { count = count; number = i; state = start seed count i; is = refl });
    }

all_checked : (seed count : ℕ) → count ≤ 22580 → All IsChecked (modules_of seed count)
unfolding modules_of
all_checked seed count few =
    let many = max 1 (div_ceil count 50) in
    let long = length-choices_of seed count in
    let choices = choices_of seed count in
    All-map IsChecked (module_of choices (start seed count count)) (range_with_len 0 many) (λ i d inside.
    let at = get_or-range_with_len 0 many i d (omega (arith, inside, length-range_with_len 0 many)) in
    let more = length-range_with_len 0 many in
    module_checked choices (start seed count count) (slice_index_or (range_with_len 0 many) i d) (choices_sound seed count few) (omega (arith, at, inside, more, long)))

pub modules_checked : (seed count : ℕ) (modules : List Module) → modules ≡ modules_of seed count → count ≤ 22580 → All IsChecked modules
modules_checked seed count modules are few = subst (All IsChecked) (sym are) (all_checked seed count few)
