-- Beginnings of one list, and of a legal history.
use Rattle.std.proofs.Common.{◌≡◌, ℕ, ◌≤◌, List, [], ◌∷◌, ◌++◌, length, Bool, true, false, cond, ltb, append_assoc, append-nil, length-append, refl, sym, ap, ◌∙◌, subst, arith}
use mathlib.Core.List.{IsPrefix}
use Rattle.std.proofs.lemmas.Bool.Decides.{nat_tests}
use Rattle.list_counts.specs.Counts.{AllAscend}
use Rattle.cache_lock.specs.Sequential.{IsLegal, state_after}
use Rattle.cache_lock.specs.Locking.{longer, shorter}
use Rattle.list_counts.proofs.Sums.{ascends_below}

module _ {A : Type 0} where
  pub prefix_refl : (xs : List A) → IsPrefix xs xs
  prefix_refl xs = ([], append-nil xs)

  pub prefix_is : (xs ys : List A) → xs ≡ ys → IsPrefix xs ys
  prefix_is xs ys e = subst (λ l. IsPrefix xs l) e (prefix_refl xs)

  pub prefix_trans : (xs ys zs : List A) → IsPrefix xs ys → IsPrefix ys zs → IsPrefix xs zs
  prefix_trans xs ys zs a b = (a.0 ++ b.0, sym (append_assoc xs a.0 b.0) ∙ ap (λ l. l ++ b.0) a.1 ∙ b.1)

  pub prefix_more : (xs ys zs : List A) → IsPrefix xs ys → IsPrefix xs (ys ++ zs)
  prefix_more xs ys zs a = prefix_trans xs ys (ys ++ zs) a (zs, refl)

  pub prefix_length : (xs ys : List A) → IsPrefix xs ys → length xs ≤ length ys
  prefix_length xs ys a = let e = length-append xs a.0 in let f = ap length a.1 in omega arith

  head_same : (x y : A) (xs ys : List A) → x ∷ xs ≡ y ∷ ys → x ≡ y
  head_same x y xs ys e = cc

  tail_same : (x y : A) (xs ys : List A) → x ∷ xs ≡ y ∷ ys → xs ≡ ys
  tail_same x y xs ys e = cc

  -- of two beginnings of one list the shorter begins the longer
  pub prefix_of : (xs ys log : List A) → IsPrefix xs log → IsPrefix ys log → length xs ≤ length ys → IsPrefix xs ys
  prefix_of [] ys log a b h = (ys, refl)
  prefix_of (x ∷ xs) [] log a b h = absurd (omega arith)
  prefix_of (x ∷ xs) (y ∷ ys) [] a b h = absurd (let e = ap length a.1 in omega arith)
  prefix_of (x ∷ xs) (y ∷ ys) (z ∷ zs) a b h =
      let r = prefix_of xs ys zs (a.0, tail_same x z (xs ++ a.0) zs a.1) (b.0, tail_same y z (ys ++ b.0) zs b.1) (omega arith) in
      let same : x ≡ y = head_same x z (xs ++ a.0) zs a.1 ∙ sym (head_same y z (ys ++ b.0) zs b.1) in
      (r.0, λ k. same k ∷ r.1 k)

  pub shorter_begins : (xs ys log : List A) → IsPrefix xs log → IsPrefix ys log → IsPrefix (shorter xs ys) (longer xs ys)
  shorter_begins xs ys log a b = begins (ltb (length xs) (length ys)) refl
    where
      begins : (t : Bool) → ltb (length xs) (length ys) ≡ t → IsPrefix (cond t xs ys) (cond t ys xs)
      begins true e = prefix_of xs ys log a b (grind (arith, nat_tests))
      begins false e = prefix_of ys xs log b a (grind (arith, nat_tests))

  pub longer_fits : (P : List A → Type 0) (xs ys : List A) → P xs → P ys → P (longer xs ys)
  longer_fits P xs ys a b = fits (ltb (length xs) (length ys))
    where
      fits : (t : Bool) → P (cond t ys xs)
      fits true = b
      fits false = a

  pub longer_left : (xs ys : List A) → length xs ≤ length (longer xs ys)
  longer_left xs ys = fits (ltb (length xs) (length ys)) refl
    where
      fits : (t : Bool) → ltb (length xs) (length ys) ≡ t → length xs ≤ length (cond t ys xs)
      fits true e = grind (arith, nat_tests)
      fits false e = grind (arith, nat_tests)

  pub longer_right : (xs ys : List A) → length ys ≤ length (longer xs ys)
  longer_right xs ys = fits (ltb (length xs) (length ys)) refl
    where
      fits : (t : Bool) → ltb (length xs) (length ys) ≡ t → length ys ≤ length (cond t ys xs)
      fits true e = grind (arith, nat_tests)
      fits false e = grind (arith, nat_tests)

pub all_below : (high more : ℕ) (ls : List (List ℕ)) → high ≤ more → AllAscend high ls → AllAscend more ls
all_below high more [] h a = tt
all_below high more (l ∷ ls) h a = (ascends_below 0 high more l h a.0, all_below high more ls h a.1)

pub all_append : (high : ℕ) (xs ys : List (List ℕ)) → AllAscend high xs → AllAscend high ys → AllAscend high (xs ++ ys)
all_append high [] ys a b = b
all_append high (x ∷ xs) ys a b = (a.0, all_append high xs ys a.1 b)

module _ {S E : Type 0} (possible : S → E → Type 0) (after : S → E → S) where
  pub legal_front : (s : S) (xs ys : List E) → IsLegal possible after s (xs ++ ys) → IsLegal possible after s xs
  legal_front s [] ys l = tt
  legal_front s (x ∷ xs) ys l = (l.0, legal_front (after s x) xs ys l.1)

  pub legal_prefix : (s : S) (xs log : List E) → IsPrefix xs log → IsLegal possible after s log → IsLegal possible after s xs
  legal_prefix s xs log a l = legal_front s xs a.0 (subst (IsLegal possible after s) (sym a.1) l)

  pub legal_snoc : (s : S) (xs : List E) (e : E) → IsLegal possible after s xs → possible (state_after after s xs) e → IsLegal possible after s (xs ++ e ∷ [])
  legal_snoc s [] e l p = (p, tt)
  legal_snoc s (x ∷ xs) e l p = (l.0, legal_snoc (after s x) xs e l.1 p)

  pub state_snoc : (s : S) (xs : List E) (e : E) → state_after after s (xs ++ e ∷ []) ≡ after (state_after after s xs) e
  state_snoc s [] e = refl
  state_snoc s (x ∷ xs) e = state_snoc (after s x) xs e
