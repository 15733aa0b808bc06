-- Which functions a module calls: those of its own that stand later, and up to seven further; and all tenth ones.
use Rattle.std.proofs.Common.{◌≡◌, ℕ, zero, suc, ◌+◌, ◌*◌, ◌-◌, ◌/◌, ◌%◌, ◌<◌, ◌≤◌, List, [], length, drop, min, Bool, true, false, not, ◌&&◌, ◌||◌, nat_eq, Option, Some, None, refl, arith, sym, ap, ◌∙◌, inl, inr}
use Rattle.std.specs.List.{list_any, slice_index_or}
use Rattle.std.specs.Option.{option_map_or}
use Rattle.std.proofs.lemmas.Bool.{eqb-true, eq-eqb, ne_eqb}
use Rattle.std.proofs.lemmas.Bool.Decides.{eqb_tells}
use Rattle.std.proofs.lemmas.List.{length-take, length-drop, get_or-take, get_or-drop}
use Rattle.std.proofs.lemmas.List.Folds.{Any-from_list_any}
use Rattle.std.proofs.Math.Bool.{and-false}
use Rattle.workload_gen.specs.declared.choices.Choice.{Choice}
use Rattle.workload_gen.specs.declared.choices.Call.{Call}
use Rattle.workload_gen.specs.Modules.{calls_function, own_choices, has_call_to, is_declared, declared_below}
use Rattle.workload_gen.specs.Places.{AreForward, Reaches}
use Rattle.workload_gen.proofs.Declaring.{declared_below-none, declared_below_same, DeclaresNone}

pub length-own_choices : (choices : List Choice) (m : ℕ) → length (own_choices choices m) ≡ min 50 (length choices - 50 * m)
length-own_choices choices m = length-take 50 (drop (50 * m) choices) ∙ ap (min 50) (length-drop (50 * m) choices)

pub get_or-own_choices : (choices : List Choice) (m k : ℕ) (d : Choice) → k < 50 → slice_index_or (own_choices choices m) k d ≡ slice_index_or choices (50 * m + k) d
get_or-own_choices choices m k d small = get_or-take 50 (drop (50 * m) choices) k d small ∙ get_or-drop (50 * m) choices k d

record CallsTo (n : ℕ) (o : Option Call) : Type 0 where
  call : Call
  is : o ≡ Some call
  to : call.callee ≡ n

calls_to : (n : ℕ) (o : Option Call) → option_map_or (λ call. nat_eq call.callee n) o false ≡ true → CallsTo n o
calls_to n None h = absurd (cc h)
calls_to n (Some call) h = record { call = call; is = refl; to = eqb-true call.callee n h }

-- a function that one of the module's functions calls stands later than the first, and at most seven after the last
pub record IsAhead (choices : List Choice) (m n : ℕ) : Type 0 where
  pub above : 50 * m < n
  pub near : n < 50 * m + length (own_choices choices m) + 7

pub called_ahead : (choices : List Choice) (m n : ℕ) → AreForward choices
    → list_any (calls_function n) (own_choices choices m) ≡ true → IsAhead choices m n
called_ahead choices m n forward h =
    let found = Any-from_list_any (calls_function n) (own_choices choices m) h in
    let k = found.0 in
    let x = found.1 in
    let inside = found.2 in
    let long = length-own_choices choices m in
    let small : k < 50 = omega (arith, inside, long) in
    let at = sym (get_or-own_choices choices m k x small) ∙ found.3 in
    let to = calls_to n x.call found.4 in
    let goes = forward (50 * m + k) x (omega (arith, inside, long)) to.call (ap (λ (c : Choice). c.call) at ∙ to.is) in
    let callee = to.to in
    record { above = omega (arith, goes.0, callee); near = omega (arith, goes.1, callee, inside) }

pub false_where : (b : Bool) → (b ≡ true → ⊥) → b ≡ false
false_where true h = absurd (h refl)
false_where false h = refl

calls_none : (a b c : Bool) → a ≡ false → b ≡ false → ((a || (b && c)) && not false) ≡ false
calls_none a b c e f = rw (e, f) refl

or_false : (a b c : Bool) → b ≡ false → (a || (b && c)) ≡ true → a ≡ true
or_false true b c e h = refl
or_false false b c e h = absurd (cc (h, e))

-- what a module other than the first calls is ahead
pub called_elsewhere : (choices : List Choice) (m n : ℕ) → AreForward choices → 0 < m → has_call_to (own_choices choices m) m n ≡ true → IsAhead choices m n
called_elsewhere choices m n forward some h =
    called_ahead choices m n forward (or_false _ (nat_eq m 0) (nat_eq (n % 10) 0) (ne_eqb m 0 (λ e. omega (arith, e, some))) h)

own_is_not_declared : (a b : Bool) → b ≡ true → (a && not b) ≡ false
own_is_not_declared a b e = ap (λ x. a && not x) e ∙ and-false a

uncalled_is_not_declared : (a b : Bool) → a ≡ false → (a && not b) ≡ false
uncalled_is_not_declared a b e = ap (λ x. x && not b) e

-- no function before the module's end is declared
is_declared_before : (choices : List Choice) (m j : ℕ) → AreForward choices → j < 50 * m + length (own_choices choices m)
    → is_declared (own_choices choices m) m j ≡ false
is_declared_before choices zero j forward high =
    let long = length-own_choices choices zero in
    own_is_not_declared (has_call_to (own_choices choices zero) zero j) (nat_eq (j / 50) zero) (eq-eqb (j / 50) zero (omega (arith, long, high)))
is_declared_before choices (suc m) j forward high =
    let long = length-own_choices choices (suc m) in
    let own = own_choices choices (suc m) in
    elim (eqb_tells (j / 50) (suc m)) [
      | inl e ↦ own_is_not_declared (has_call_to own (suc m) j) (nat_eq (j / 50) (suc m)) e.0
      | inr e ↦
          let none = false_where (has_call_to own (suc m) j) (λ h.
          let ahead = called_elsewhere choices (suc m) j forward (omega arith) h in
          e.1 (omega (arith, ahead.above, high, long))) in
          uncalled_is_not_declared (has_call_to own (suc m) j) (nat_eq (j / 50) (suc m)) none
    ]

pub declares_none_before : (choices : List Choice) (m : ℕ) → AreForward choices → DeclaresNone (own_choices choices m) m 0 (50 * m + length (own_choices choices m))
declares_none_before choices m forward = λ j low high. is_declared_before choices m j forward (omega (arith, high))

pub declared_below-end : (choices : List Choice) (m : ℕ) → AreForward choices → declared_below (own_choices choices m) m (50 * m + length (own_choices choices m)) ≡ []
declared_below-end choices m forward =
    let own = own_choices choices m in
    let e : 0 + (50 * m + length own) ≡ 50 * m + length own = omega arith in
    ap (declared_below own m) (sym e) ∙ declared_below_same own m 0 (50 * m + length own) (declares_none_before choices m forward) ∙ declared_below-none own m

-- from the limit on no function is declared
uncalled : (choices : List Choice) (m limit j : ℕ) → Reaches choices m limit → limit ≤ j → j < length choices → is_declared (own_choices choices m) m j ≡ false
uncalled choices m limit j reaches low there =
    let own = own_choices choices m in
    let none = false_where (has_call_to own m j) (λ h.
    let below = reaches.each j (record { called = h; there = there }) in
    absurd (omega (arith, below, low))) in
    uncalled_is_not_declared (has_call_to own m j) (nat_eq (j / 50) m) none

pub declared_below-limit : (choices : List Choice) (m limit : ℕ) → Reaches choices m limit → limit ≤ length choices
    → declared_below (own_choices choices m) m limit ≡ declared_below (own_choices choices m) m (length choices)
declared_below-limit choices m limit reaches within =
    let own = own_choices choices m in
    let e : limit + (length choices - limit) ≡ length choices = omega arith in
    sym (ap (declared_below own m) (sym e) ∙ declared_below_same own m limit (length choices - limit) (λ j low high. uncalled choices m limit j reaches low (omega (arith, high, within))))

above_none : (m : ℕ) → (m ≡ 0 → ⊥) → 0 < m
above_none zero h = absurd (h refl)
above_none (suc m) h = omega arith

-- `main` reaches all functions
pub Reaches-all : (choices : List Choice) (m : ℕ) → Reaches choices m (length choices)
Reaches-all choices m = record { each = λ n h. h.there }

pub Reaches-near : (choices : List Choice) (m limit : ℕ) → AreForward choices → (m ≡ 0 → ⊥)
    → limit ≡ 50 * m + length (own_choices choices m) + min (length choices - (50 * m + length (own_choices choices m))) 7
    → 50 * m ≤ length choices → Reaches choices m limit
Reaches-near choices m limit forward some e within = record {
  each = λ n h.
      let ahead = called_elsewhere choices m n forward (above_none m some) h.called in
      let long = length-own_choices choices m in
      omega (arith, ahead.near, h.there, e, long, within);
}

-- what a module calls does not stand before it
pub called_from : (choices : List Choice) (m n : ℕ) → AreForward choices → has_call_to (own_choices choices m) m n ≡ true → 50 * m ≤ n
called_from choices zero n forward h = omega arith
called_from choices (suc m) n forward h =
    let ahead = called_elsewhere choices (suc m) n forward (omega arith) h in
    omega (arith, ahead.above)
