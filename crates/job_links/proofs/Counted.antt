-- Faults that are counted, one job after the other.
use Rattle.std.proofs.Common.{◌≡◌, ℕ, ◌+◌, ◌<◌, ◌≤◌, List, [], ◌∷◌, ◌++◌, sym, ◌∙◌, ap, refl, arith, length, take, get_or}
use Rattle.std.specs.Prelude.{sum_by}
use Rattle.std.proofs.lemmas.List.{take_more, take_all}
use Rattle.std.proofs.lemmas.List.Sums.{sum_by-append}
use Rattle.outer_files.specs.Outside.{Rose, RoseBy}
use Rattle.job_links.specs.Linking.{IsCounted}

sum_one : {X : Type 0} (f : X → ℕ) (x : X) → sum_by f (x ∷ []) ≡ f x
sum_one f x = grind arith

pub sum_push : {X : Type 0} (f : X → ℕ) (xs : List X) (x : X) → sum_by f (xs ++ x ∷ []) ≡ sum_by f xs + f x
sum_push f xs x = sum_by-append f xs (x ∷ []) ∙ ap (λ n. sum_by f xs + n) (sum_one f x)

pub sum_more : {X : Type 0} (f : X → ℕ) (xs : List X) (i : ℕ) (x : X) → i < length xs → x ≡ get_or xs i x → sum_by f (take (i + 1) xs) ≡ sum_by f (take i xs) + f x
sum_more f xs i x lt is = ap (λ (t : List _). sum_by f t) (take_more xs i x lt ∙ ap (λ z. take i xs ++ z ∷ []) (sym is)) ∙ sum_push f (take i xs) x

pub rose_none : (before now : ℕ) → before ≤ now → RoseBy 0 before now
rose_none before now le = omega (arith, le)

pub rose_one : (before now : ℕ) → Rose before now → RoseBy 1 before now
rose_one before now rose = omega (arith, rose)

pub rose_then : (n m all before between now : ℕ) → all ≡ n + m → RoseBy n before between → RoseBy m between now → RoseBy all before now
rose_then n m all before between now is a b = rw is (omega (arith, a, b))

pub rose_later : (n before between now : ℕ) → RoseBy n before between → between ≤ now → RoseBy n before now
rose_later n before between now a le = omega (arith, a, le)

pub rose_sooner : (n before between now : ℕ) → before ≤ between → RoseBy n between now → RoseBy n before now
rose_sooner n before between now le a = omega (arith, a, le)

-- one more job
pub counted_more : {A B : Type 0} (f : A → ℕ) (g : B → ℕ) (xs : List A) (ys : List B) (i : ℕ) (x : A) (y : B) (before between now : ℕ) → i < length xs → x ≡ get_or xs i x
    → IsCounted (sum_by f (take i xs)) (sum_by g ys) before between → IsCounted (f x) (g y) between now
    → IsCounted (sum_by f (take (i + 1) xs)) (sum_by g (ys ++ y ∷ [])) before now
counted_more f g xs ys i x y before between now lt is a b =
    (a.0 + b.0, omega (arith, sum_more f xs i x lt is, sum_push g ys y, a.1, b.1), rose_then a.0 b.0 (a.0 + b.0) before between now refl a.2 b.2)

pub counted_all : {A : Type 0} (f : A → ℕ) (xs : List A) (i n before now : ℕ) → length xs ≤ i → IsCounted (sum_by f (take i xs)) n before now → IsCounted (sum_by f xs) n before now
counted_all f xs i n before now past a = (a.0, a.1 ∙ ap (λ (t : List _). sum_by f t + a.0) (take_all i xs past), a.2)
