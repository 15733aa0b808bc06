-- Zeros at the end of a list.
use Rattle.std.proofs.Common.{◌≡◌, ◌-◌, suc, List, [], ◌∷◌, length, take, true, false, refl, sym, ap, ◌∙◌, arith}
use Rattle.std.specs.Prelude.{ℤ}
use Rattle.gimple_syntax.specs.Numbers.{shortened, put_front, ends_in_zero}

pub ends-more : (z y : ℤ) (zs : List ℤ) → ends_in_zero (z ∷ (y ∷ zs)) ≡ ends_in_zero (y ∷ zs)
ends-more z y zs =
    let a : length (z ∷ (y ∷ zs)) - 1 ≡ suc (length zs) = omega arith in
    let b : length (y ∷ zs) - 1 ≡ length zs = omega arith in
    rw (a, b) refl

-- a list that ends in none
pub shortened-is : (zs : List ℤ) → ends_in_zero zs ≡ false → shortened zs ≡ zs
shortened-is [] e = refl
shortened-is (z ∷ []) e = rw e refl
shortened-is (z ∷ (y ∷ zs)) e = ap (put_front z) (shortened-is (y ∷ zs) (sym (ends-more z y zs) ∙ e))

-- the last taken off
pub shortened-drop : (zs : List ℤ) → ends_in_zero zs ≡ true → shortened (take (length zs - 1) zs) ≡ shortened zs
shortened-drop [] e = absurd cc
shortened-drop (z ∷ []) e = rw e refl
shortened-drop (z ∷ (y ∷ zs)) e =
    let a : length (z ∷ (y ∷ zs)) - 1 ≡ suc (length zs) = omega arith in
    let b : length (y ∷ zs) - 1 ≡ length zs = omega arith in
    let rest : shortened (take (length zs) (y ∷ zs)) ≡ shortened (y ∷ zs) =
    ap (λ n. shortened (take n (y ∷ zs))) (sym b) ∙ shortened-drop (y ∷ zs) (sym (ends-more z y zs) ∙ e) in
    ap (λ n. shortened (take n (z ∷ (y ∷ zs)))) a ∙ ap (put_front z) rest
