-- The statements of a body, one after the other.
use Rattle.std.proofs.Common.{◌≡◌, ◌+◌, ◌<◌, ℕ, zero, suc, List, [], ◌∷◌, ◌++◌, length, get_or, drop, refl, sym, ap, ◌∙◌, arith, append_assoc}
use Rattle.gimple_ir.specs.declared.types.ResultType.{ResultType}
use Rattle.gimple_ir.specs.declared.types.Statement.{Statement}
use Rattle.gimple_grammar.specs.declared.syntax.Line.{Line}
use Rattle.gimple_syntax.specs.Places.{Names}
use Rattle.gimple_syntax.specs.Statements.{labels_at, statement_of, statements_from}
use Rattle.gimple_syntax.proofs.Parts.{drop-here}

statements-here : (n : Names) (returned : ResultType) (k : ℕ) (lines : List Line) (i : ℕ) (x : Line) → i < length lines → x ≡ get_or lines i x
    → statements_from n returned k (drop i lines)
    ≡ statement_of n returned k x.form ∷ statements_from n returned (k + length (labels_at x.form)) (drop (i + 1) lines)
unfolding statements_from
statements-here n returned k lines i x b here =
    ap (statements_from n returned k) (drop-here lines i x b ∙ ap (λ y. y ∷ drop (i + 1) lines) (sym here))

pub statements-more : (n : Names) (returned : ResultType) (lines : List Line) (i : ℕ) (x : Line) (k more : ℕ) (s : Statement) (found after all : List Statement)
    → i < length lines → x ≡ get_or lines i x → s ≡ statement_of n returned k x.form → more ≡ length (labels_at x.form)
    → after ≡ found ++ s ∷ [] → found ++ statements_from n returned k (drop i lines) ≡ all
    → after ++ statements_from n returned (k + more) (drop (i + 1) lines) ≡ all
statements-more n returned lines i x k more s found after all b here is count pushed so_far =
    let rest = statements_from n returned (k + length (labels_at x.form)) (drop (i + 1) lines) in
    ap (λ m. after ++ statements_from n returned (k + m) (drop (i + 1) lines)) count
    ∙ ap (λ ss. ss ++ rest) pushed
    ∙ append_assoc found (s ∷ []) rest
    ∙ ap (λ t. found ++ (t ∷ rest)) is
    ∙ sym (ap (λ ss. found ++ ss) (statements-here n returned k lines i x b here))
    ∙ so_far

nothing-left : {X : Type 0} (xs : List X) (i : ℕ) → length xs ≡ i → drop i xs ≡ []
nothing-left [] i e = rw (← e) refl
nothing-left (x ∷ xs) zero e = absurd (omega arith)
nothing-left (x ∷ xs) (suc i) e = nothing-left xs i (omega arith)

append-none : {X : Type 0} (xs : List X) → xs ++ [] ≡ xs
append-none [] = refl
append-none (x ∷ xs) = ap (λ ys. x ∷ ys) (append-none xs)

pub statements-done : (n : Names) (returned : ResultType) (lines : List Line) (i k : ℕ) (found all : List Statement) → length lines ≡ i
    → found ++ statements_from n returned k (drop i lines) ≡ all → found ≡ all
unfolding statements_from
statements-done n returned lines i k found all e so_far =
    sym (append-none found) ∙ sym (ap (λ ls. found ++ statements_from n returned k ls) (nothing-left lines i e)) ∙ so_far
