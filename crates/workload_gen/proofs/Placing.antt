-- Places of the functions that a module calls.
use Rattle.std.proofs.Common.{◌≡◌, ℕ, ◌+◌, ◌*◌, ◌-◌, ◌/◌, ◌%◌, ◌<◌, ◌≤◌, List, length, true, false, if◌then◌else◌, nat_eq, arith, sym, ap, subst, ◌∙◌}
use Rattle.std.specs.List.{slice_index_or}
use Rattle.std.proofs.lemmas.Bool.{eq-eqb, ne_eqb}
use Rattle.std.proofs.lemmas.List.FromFn.{get_or-map-range_with_len}
use Rattle.workload_gen.specs.declared.choices.Choice.{Choice}
use Rattle.workload_gen.specs.Modules.{own_choices, declared_below, place_of, place_in}
use Rattle.workload_gen.specs.Places.{AreForward, IsCalled, AreCounts, Reaches}
use Rattle.workload_gen.proofs.Declaring.{length-declared_below-le}
use Rattle.workload_gen.proofs.Calling.{length-own_choices, declared_below-end, called_from}

-- the functions that a module declares stand after its own
pub length-declared : (choices : List Choice) (m : ℕ) → AreForward choices → 50 * m ≤ length choices
    → length (declared_below (own_choices choices m) m (length choices)) + (50 * m + length (own_choices choices m)) ≤ length choices
length-declared choices m forward some =
    let own = own_choices choices m in
    let end = 50 * m + length own in
    let long = length-own_choices choices m in
    let e : end + (length choices - end) ≡ length choices = omega (arith, long, some) in
    let none = ap length (declared_below-end choices m forward) in
    let few = subst (λ (n : ℕ). length (declared_below own m n) ≤ length (declared_below own m end) + (length choices - end)) e (length-declared_below-le own m end (length choices - end)) in
    omega (arith, few, none, long, some)

pub place_of-own : (own : List Choice) (m count n : ℕ) → nat_eq (n / 50) m ≡ true → place_of own m count n ≡ length (declared_below own m count) + n % 50
unfolding place_of
place_of-own own m count n e = ap (λ b. if b then length (declared_below own m count) + n % 50 else length (declared_below own m n)) e

pub place_of-other : (own : List Choice) (m count n : ℕ) → nat_eq (n / 50) m ≡ false → place_of own m count n ≡ length (declared_below own m n)
unfolding place_of
place_of-other own m count n e = ap (λ b. if b then length (declared_below own m count) + n % 50 else length (declared_below own m n)) e

pub place_in-own : (choices : List Choice) (m n many : ℕ) → AreForward choices → IsCalled choices m n
    → n < 50 * m + length (own_choices choices m) → many ≡ length (declared_below (own_choices choices m) m (length choices))
    → many + n % 50 ≡ place_in choices m n
place_in-own choices m n many forward called high is =
    let own = own_choices choices m in
    let long = length-own_choices choices m in
    let low = called_from choices m n forward called.called in
    ap (λ (x : ℕ). x + n % 50) is ∙ sym (place_of-own own m (length choices) n (eq-eqb (n / 50) m (omega (arith, long, low, high))))

pub place_in-other : (choices : List Choice) (m n end : ℕ) (before : List ℕ) → AreForward choices → IsCalled choices m n
    → end ≡ 50 * m + length (own_choices choices m) → AreCounts (own_choices choices m) m end before
    → Reaches choices m (end + length before) → end ≤ n → (place d : ℕ) → place ≡ slice_index_or before (n - end) d
    → place ≡ place_in choices m n
place_in-other choices m n end before forward called is counts reaches low place d at =
    let own = own_choices choices m in
    let long = length-own_choices choices m in
    let below = reaches.each n called in
    let there = called.there in
    let other = place_of-other own m (length choices) n (ne_eqb (n / 50) m (λ e. omega (arith, e, is, long, low, there))) in
    let f = λ (x : ℕ). length (declared_below own m x) in
    let value = get_or-map-range_with_len f end (length before) (n - end) n d (omega (arith, below, low)) (omega (arith, low)) in
    at ∙ ap (λ (xs : List ℕ). slice_index_or xs (n - end) d) counts ∙ value ∙ sym other
