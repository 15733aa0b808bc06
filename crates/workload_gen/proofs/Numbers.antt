-- States and choices, one function after the other.
use Rattle.std.proofs.Common.{◌≡◌, ℕ, ◌+◌, ◌-◌, ◌/◌, ◌^◌, ◌<◌, ◌≤◌, Bool, true, false, if◌then◌else◌, nat_lt, min, Some, None, length, List, [], ◌∷◌, ◌++◌, map, refl, arith, add-one, sym, ap, ◌∙◌}
use Rattle.std.specs.List.{range_with_len, slice_index_or}
use Rattle.std.proofs.lemmas.Bool.{ltb-true}
use Rattle.std.proofs.Math.Nat.{mod-lt}
use Rattle.std.proofs.lemmas.List.FromFn.{map-range_with_len_more, length-map-range_with_len, get_or-map-range_with_len}
use Rattle.workload_gen.specs.declared.choices.Choice.{Choice}
use Rattle.workload_gen.specs.declared.choices.Call.{Call}
use Rattle.workload_gen.specs.Draws.{next, after, draw}
use Rattle.workload_gen.specs.Choices.{start, after_choice, call_of, calls_of, choice_of, choices_of}
use Rattle.workload_gen.specs.Places.{AreForward}

pub start-first : (seed count : ℕ) → start seed count 0 ≡ seed
unfolding start
start-first seed count = refl

pub start-next : (seed count number : ℕ) → start seed count (number + 1) ≡ after_choice count number (start seed count number)
unfolding start
start-next seed count number = rw add-one refl

-- the function of a number, as it is drawn from the seed
abbrev pub chosen : ℕ → ℕ → ℕ → Choice
chosen seed count number = choice_of count number (start seed count number)

-- the first functions, as they are drawn
abbrev pub first_choices : ℕ → ℕ → ℕ → List Choice
first_choices seed count many = map (chosen seed count) (range_with_len 0 many)

pub first_choices_more : (seed count many state : ℕ) (choice : Choice) (before after : List Choice)
    → state ≡ start seed count many → choice ≡ choice_of count many state → before ≡ first_choices seed count many
    → after ≡ before ++ choice ∷ [] → after ≡ first_choices seed count (many + 1)
first_choices_more seed count many state choice before after s c b a =
    let e = map-range_with_len_more (chosen seed count) 0 many many (omega arith) in
    let f = c ∙ ap (choice_of count many) s in
    a ∙ ap (λ xs. xs ++ choice ∷ []) b ∙ ap (λ x. first_choices seed count many ++ x ∷ []) f ∙ sym e

pub first_choices_all : (seed count many : ℕ) (choices : List Choice) → many ≡ count
    → choices ≡ first_choices seed count many → choices ≡ choices_of seed count
unfolding choices_of
first_choices_all seed count many choices e c = c ∙ ap (first_choices seed count) e

-- ---- calls go forward

pub draw_below : (state others bound : ℕ) → 0 < bound → draw state others bound < bound
draw_below state others bound some = mod-lt (next (after others state) / 2 ^ 33) some

record IsSomeIf (b : Bool) (x call : Call) : Type 0 where
  holds : b ≡ true
  same : x ≡ call

some_if : (b : Bool) (x call : Call) → (if b then Some x else None) ≡ Some call → IsSomeIf b x call
some_if true x call e = record { holds = refl; same = cc }
some_if false x call e = absurd (cc e)

calls_of_forward : (count number state : ℕ) (call : Call) → calls_of count number state ≡ Some call
    → (number < call.callee) × (call.callee ≤ number + 7) × (call.callee < count)
unfolding calls_of call_of
calls_of_forward count number state call e =
    let is = some_if (nat_lt (number + 1) count) (call_of count number state) call e in
    let more = ltb-true (number + 1) count is.holds in
    let callee = ap (λ (c : Call). c.callee) is.same in
    let below = draw_below state 0 (min 7 (count - 1 - number)) (omega (arith, more)) in
    (omega (arith, callee, below), omega (arith, callee, below), omega (arith, callee, below, more))

choice_of_forward : (count number state : ℕ) (call : Call) → (choice_of count number state).call ≡ Some call
    → (number < call.callee) × (call.callee ≤ number + 7) × (call.callee < count)
unfolding choice_of
choice_of_forward count number state call e = calls_of_forward count number (after 3 state) call e

pub first_choices_forward : (seed count many : ℕ) (choices : List Choice) → many ≡ count → choices ≡ first_choices seed count many → AreForward choices
first_choices_forward seed count many choices all is number other inside call e =
    let long = ap length is ∙ length-map-range_with_len (chosen seed count) 0 many in
    let here = get_or-map-range_with_len (chosen seed count) 0 many number number other (omega (arith, long, inside)) (omega arith) in
    let it = sym (ap (λ (c : Choice). c.call) (ap (λ (xs : List Choice). slice_index_or xs number other) is ∙ here)) ∙ e in
    let goes = choice_of_forward count number (start seed count number) call it in
    (goes.0, goes.1, omega (arith, goes.2, long, all))
