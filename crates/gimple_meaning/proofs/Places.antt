-- A label's place, as code finds it.
use Rattle.std.proofs.Common.{◌≡◌, ◌<◌, ℕ, suc, refl, ◌∙◌, List, [], ◌∷◌, Some, None, Bool, true, false, length, arith, ◌+◌}
use Rattle.std.specs.Prelude.{position, nat_lt, cond, not, if◌then◌else◌, unwrap_or}
use Rattle.std.specs.List.{position_or_len}
use Rattle.std.proofs.lemmas.Bool.Decides.{nat_tests}
use Rattle.gimple_ir.specs.declared.types.Statement.{Statement}
use Rattle.gimple_meaning.specs.Source.{is_label, place_of}

place_by : (b : Bool) (n m : ℕ) → n ≡ m → (if b then 0 else suc n) ≡ cond (not b) (1 + m) 0
place_by true n m h = refl
place_by false n m h = omega (arith, h)

pub place_is : (l : ℕ) (body : List Statement) → place_of body l ≡ position_or_len (is_label l) body
place_is l [] = refl
place_is l (s ∷ ss) = place_by (is_label l s) (place_of ss l) (position_or_len (is_label l) ss) (place_is l ss)

within : (p : Statement → Bool) (body : List Statement) → position_or_len p body < suc (length body)
within p [] = omega arith
within p (s ∷ ss) = by_test (p s) (within p ss)
  where
    by_test : (b : Bool) → position_or_len p ss < suc (length ss) → cond (not b) (1 + position_or_len p ss) 0 < suc (suc (length ss))
    by_test true h = omega arith
    by_test false h = omega (arith, h)

pub place_found : (l : ℕ) (body : List Statement) → place_of body l ≡ unwrap_or (position (is_label l) body) (length body)
place_found l body = place_is l body ∙ by_test (nat_lt (position_or_len (is_label l) body) (length body)) refl
  where
    at_end : nat_lt (position_or_len (is_label l) body) (length body) ≡ false → position_or_len (is_label l) body ≡ length body
    at_end e = let h = within (is_label l) body in grind (arith, nat_tests)

    by_test : (b : Bool) → nat_lt (position_or_len (is_label l) body) (length body) ≡ b → position_or_len (is_label l) body ≡ unwrap_or (cond b (Some (position_or_len (is_label l) body)) None) (length body)
    by_test true e = refl
    by_test false e = at_end e
