-- What the bindings of a version say of the components that it needs and of the arguments that it takes.
use Rattle.std.proofs.Common.{◌≡◌, ◌+◌, ◌<◌, ℕ, zero, suc, List, [], ◌∷◌, ◌++◌, length, Bool, true, false, Some, refl, sym, ap, ◌∙◌, subst, arith, append_assoc, length-append}
use Rattle.std.specs.Prelude.{All, Option, slice_get}
use Rattle.std.specs.Option.{option_map_or}
use Rattle.std.proofs.lemmas.Option.{none-some, same_Some}
use Rattle.std.proofs.lemmas.List.Elements.{All-nil, All-cons, All-head, All-tail}
use Rattle.gimple_ir.specs.declared.lattice.Lattice.{Lattice}
use Rattle.gimple_ir.specs.declared.lattice.Lattice.TheVariants.{Top, Const, Bottom}
use Rattle.gimple_ir.specs.declared.lattice.Binding.{Binding}
use Rattle.gimple_ir.specs.declared.lattice.Binding.TheVariants as binding
use Rattle.ipa_plan.specs.Vectors.{lattice_at}
use Rattle.ipa_plan.specs.Rules.{bound_as, next_argument, bindings_by, kept_here, kept_from}
use Rattle.ipa_transform.specs.Versioned.{picked}
use Rattle.version_laws.proofs.Lists.{there}

-- ---- what a binding says

-- `kept` are the arguments that the function takes
abbrev pub Says : (ℕ → Bool) → ℕ → List Lattice → List ℕ → ℕ → Binding → Type 0
Says needed first ls kept i binding.Dead = needed (first + i) ≡ false
Says needed first ls kept i (binding.Const x) = lattice_at ls i ≡ Const x
Says needed first ls kept i (binding.Arg k) = (needed (first + i) ≡ true) × (slice_get kept k ≡ Some (first + i))

says_later : (needed : ℕ → Bool) (first : ℕ) (l : Lattice) (ls : List Lattice) (kept : List ℕ) (i : ℕ) (b : Binding) → Says needed (first + 1) ls kept i b → Says needed first (l ∷ ls) kept (suc i) b
says_later needed first l ls kept i binding.Dead h = let e : first + 1 + i ≡ first + suc i = omega arith in subst (λ n. needed n ≡ false) e h
says_later needed first l ls kept i (binding.Const x) h = h
says_later needed first l ls kept i (binding.Arg k) h =
    let e : first + 1 + i ≡ first + suc i = omega arith in
    (subst (λ n. needed n ≡ true) e h.0, h.1 ∙ ap (λ (n : ℕ). Some n) e)

after : (before : List ℕ) (n : ℕ) (more : List ℕ) → slice_get (before ++ n ∷ more) (length before) ≡ Some n
after [] n more = refl
after (x ∷ before) n more = after before n more

argument_here : (needed : ℕ → Bool) (first k : ℕ) (before more : List ℕ) → length before ≡ k → needed first ≡ true → (needed (first + 0) ≡ true) × (slice_get (before ++ first ∷ more) k ≡ Some (first + 0))
argument_here needed first k before more size is =
    let e : first ≡ first + 0 = omega arith in
    (subst (λ n. needed n ≡ true) e is, subst (λ m. slice_get (before ++ first ∷ more) m ≡ Some first) size (after before first more) ∙ ap (λ (n : ℕ). Some n) e)

says_here : (needed : ℕ → Bool) (first k : ℕ) (ls : List Lattice) (before more : List ℕ) (need : Bool) (l : Lattice) → length before ≡ k → needed first ≡ need
    → Says needed first (l ∷ ls) (before ++ kept_here first (bound_as need k l) more) 0 (bound_as need k l)
says_here needed first k ls before more false l size is = let e : first ≡ first + 0 = omega arith in subst (λ n. needed n ≡ false) e is
says_here needed first k ls before more true (Const x) size is = refl
says_here needed first k ls before more true Top size is = argument_here needed first k before more size is
says_here needed first k ls before more true Bottom size is = argument_here needed first k before more size is

-- the arguments that are taken before the next component
next_before : ℕ → Binding → List ℕ → List ℕ
next_before first (binding.Arg k) before = before ++ first ∷ []
next_before first binding.Dead before = before
next_before first (binding.Const x) before = before

next_size : (first k : ℕ) (before : List ℕ) (b : Binding) → length before ≡ k → length (next_before first b before) ≡ next_argument b k
unfolding next_before
next_size first k before (binding.Arg m) size = let one : length (first ∷ []) ≡ 1 = refl in omega (arith, length-append before (first ∷ []), one, size)
next_size first k before binding.Dead size = size
next_size first k before (binding.Const x) size = size

next_same : (first : ℕ) (before more : List ℕ) (b : Binding) → next_before first b before ++ more ≡ before ++ kept_here first b more
unfolding next_before
next_same first before more (binding.Arg k) = append_assoc before (first ∷ []) more
next_same first before more binding.Dead = refl
next_same first before more (binding.Const x) = refl

says : (needed : ℕ → Bool) (first k : ℕ) (ls : List Lattice) (before : List ℕ) (i : ℕ) (b : Binding) → length before ≡ k → slice_get (bindings_by needed first k ls) i ≡ Some b
    → Says needed first ls (before ++ kept_from first (bindings_by needed first k ls)) i b
says needed first k [] before i b size is = absurd (none-some b is)
says needed first k (l ∷ ls) before zero b size is =
    let one = bound_as (needed first) k l in
    let more = kept_from (first + 1) (bindings_by needed (first + 1) (next_argument one k) ls) in
    subst (λ (z : Binding). Says needed first (l ∷ ls) (before ++ kept_here first one more) 0 z) (same_Some one b is)
    (says_here needed first k ls before more (needed first) l size refl)
says needed first k (l ∷ ls) before (suc i) b size is =
    let one = bound_as (needed first) k l in
    let rest = bindings_by needed (first + 1) (next_argument one k) ls in
    says_later needed first l ls (before ++ kept_here first one (kept_from (first + 1) rest)) i b
    (subst (λ (z : List ℕ). Says needed (first + 1) ls z i b) (next_same first before (kept_from (first + 1) rest) one)
    (says needed (first + 1) (next_argument one k) ls (next_before first one before) i b (next_size first k before one size) is))

-- of all components of a version
pub binding_says : (needed : ℕ → Bool) (vector : List Lattice) (bindings : List Binding) → bindings ≡ bindings_by needed 0 0 vector → (i : ℕ) (b : Binding) → slice_get bindings i ≡ Some b
    → Says needed 0 vector (kept_from 0 bindings) i b
binding_says needed vector bindings made i b is =
    let there = says needed 0 0 vector [] i b refl (ap (λ (bs : List Binding). slice_get bs i) (sym made) ∙ is) in
    subst (λ (bs : List Binding). Says needed 0 vector (kept_from 0 bs) i b) (sym made) there

-- ---- the arguments that are taken

here_below : (first count : ℕ) (b : Binding) (more : List ℕ) → first < count → All (λ j. j < count) more → All (λ j. j < count) (kept_here first b more)
here_below first count (binding.Arg k) more lt all = All-cons (λ j. j < count) first more lt all
here_below first count binding.Dead more lt all = all
here_below first count (binding.Const x) more lt all = all

kept_below_from : (first count : ℕ) (bs : List Binding) → first + length bs ≡ count → All (λ j. j < count) (kept_from first bs)
kept_below_from first count [] is = All-nil (λ j. j < count)
kept_below_from first count (b ∷ bs) is =
    here_below first count b (kept_from (first + 1) bs) (omega (arith, is)) (kept_below_from (first + 1) count bs (omega (arith, is)))

pub kept_below : (bs : List Binding) → All (λ j. j < length bs) (kept_from 0 bs)
kept_below bs = kept_below_from 0 (length bs) bs (omega arith)

-- what is picked at places that are all there stands in the order of the places
pub picked_at : {X : Type 0} (xs : List X) (places : List ℕ) → All (λ j. j < length xs) places → (k i : ℕ) → slice_get places k ≡ Some i → slice_get (picked xs places) k ≡ slice_get xs i
picked_at xs [] all k i here = absurd (none-some i here)
picked_at {X} xs (j ∷ places) all k i here =
    let r = there xs j (All-head (λ n. n < length xs) j places all) in
    ap (λ (o : Option X). slice_get (option_map_or (λ x. x ∷ []) o [] ++ picked xs places) k) r.1
    ∙ by r.0 r.1 k here (λ m is. picked_at xs places (All-tail (λ n. n < length xs) j places all) m i is)
  where
    by : (x : X) → slice_get xs j ≡ Some x → (m : ℕ) → slice_get (j ∷ places) m ≡ Some i → ((n : ℕ) → slice_get places n ≡ Some i → slice_get (picked xs places) n ≡ slice_get xs i)
        → slice_get (x ∷ picked xs places) m ≡ slice_get xs i
    by x at zero is later = sym at ∙ ap (slice_get xs) (same_Some j i is)
    by x at (suc m) is later = later m is
