-- The labels that stand from one statement on.
use Rattle.std.proofs.Common.{◌≡◌, ◌+◌, ℕ, List, ◌∷◌, drop, false, ap, ◌∙◌, sym, Some, arith}
use Rattle.std.proofs.lemmas.Bool.Decides.{nat_tests}
use Rattle.std.specs.Prelude.{slice_get, Option}
use Rattle.std.specs.List.{filter_map, cons_option}
use Rattle.gimple_ir.specs.declared.types.Statement.{Statement}
use Rattle.gimple_ir.specs.Checks.{label_of, counts_up}
use Rattle.gimple_checks.proofs.Lists.{drop_here}

pub labels-here : (body : List Statement) (i : ℕ) (s : Statement) (l : Option ℕ) → slice_get body i ≡ Some s → l ≡ label_of s
    → filter_map label_of (drop i body) ≡ cons_option l (filter_map label_of (drop (i + 1) body))
labels-here body i s l here is =
    ap (filter_map label_of) (drop_here body i s here)
    ∙ ap (λ o. cons_option o (filter_map label_of (drop (i + 1) body))) (sym is)

pub counts_up-wrong : (n k : ℕ) (ks : List ℕ) → (k ≡ n → ⊥) → counts_up n (k ∷ ks) ≡ false
counts_up-wrong n k ks h = grind (arith, nat_tests)

pub counts_up-right : (n k : ℕ) (ks : List ℕ) → k ≡ n → counts_up n (k ∷ ks) ≡ counts_up (n + 1) ks
counts_up-right n k ks h = grind (arith, nat_tests)
