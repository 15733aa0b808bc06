-- The first component of each variable.
use Rattle.std.proofs.Common.{◌≡◌, ◌+◌, ◌<◌, ℕ, zero, suc, List, [], ◌∷◌, ◌++◌, length, get_or, take, drop, min, refl, sym, ap, ◌∙◌, append_assoc, arith, length-append}
use Rattle.std.specs.Prelude.{sum_by}
use Rattle.std.proofs.lemmas.List.Sums.{sum_by-cons}
use Rattle.gimple_ir.specs.declared.types.ScalarType.{ScalarType}
use Rattle.gimple_grammar.specs.declared.syntax.Declared.{Declared}
use Rattle.gimple_grammar.specs.declared.syntax.StructText.{StructText}
use Rattle.gimple_syntax.specs.Numbers.{nothing}
use Rattle.gimple_syntax.specs.Places.{types_of}
use Rattle.gimple_syntax.specs.Layouts.{firsts_from}

-- from one variable on
firsts-here : (structs : List StructText) (vs : List Declared) (i : ℕ) (d : Declared) (k : ℕ) → i < length vs
    → firsts_from structs k (drop i vs)
    ≡ min k nothing ∷ firsts_from structs (k + length (types_of structs (get_or vs i d).ty)) (drop (i + 1) vs)
firsts-here structs [] i d k h = absurd (omega arith)
firsts-here structs (v ∷ vs) zero d k h = refl
firsts-here structs (v ∷ vs) (suc i) d k h =
    let e : suc i + 1 ≡ suc (i + 1) = omega arith in rw e (firsts-here structs vs i d k (omega arith))

pub firsts-more : (structs : List StructText) (vs : List Declared) (i : ℕ) (d : Declared) (firsts after all : List ℕ) (types : List ScalarType) (first : ℕ)
    → i < length vs → first ≡ min (length types) nothing → after ≡ firsts ++ first ∷ []
    → firsts ++ firsts_from structs (length types) (drop i vs) ≡ all
    → after ++ firsts_from structs (length (types ++ types_of structs (get_or vs i d).ty)) (drop (i + 1) vs) ≡ all
firsts-more structs vs i d firsts after all types first below is pushed so_far =
    let rest = drop (i + 1) vs in
    let more = types_of structs (get_or vs i d).ty in
    ap (λ k. after ++ firsts_from structs k rest) (length-append types more)
    ∙ ap (λ xs. xs ++ firsts_from structs (length types + length more) rest) pushed
    ∙ append_assoc firsts (first ∷ []) (firsts_from structs (length types + length more) rest)
    ∙ ap (λ f. firsts ++ (f ∷ firsts_from structs (length types + length more) rest)) is
    ∙ sym (ap (λ xs. firsts ++ xs) (firsts-here structs vs i d (length types) below))
    ∙ so_far

-- ---- one variable

pub length-firsts : (structs : List StructText) (k : ℕ) (ds : List Declared) → length (firsts_from structs k ds) ≡ length ds
length-firsts structs k [] = refl
length-firsts structs k (d ∷ ds) = ap (λ n. suc n) (length-firsts structs (k + length (types_of structs d.ty)) ds)

pub first-at : (structs : List StructText) (k : ℕ) (ds : List Declared) (v e : ℕ) → v < length ds
    → get_or (firsts_from structs k ds) v e ≡ min (k + sum_by (λ d. length (types_of structs d.ty)) (take v ds)) nothing
first-at structs k [] v e h = absurd (omega arith)
first-at structs k (d ∷ ds) zero e h = ap (λ n. min n nothing) (omega arith)
first-at structs k (d ∷ ds) (suc v) e h =
    first-at structs (k + length (types_of structs d.ty)) ds v e (omega arith)
    ∙ ap (λ n. min n nothing) (omega (arith, sum_by-cons (λ (x : Declared). length (types_of structs x.ty)) d (take v ds)))

pub first-of : (structs : List StructText) (ds : List Declared) (v e : ℕ) → v < length ds
    → get_or (firsts_from structs 0 ds) v e ≡ min (sum_by (λ d. length (types_of structs d.ty)) (take v ds)) nothing
first-of structs ds v e h = first-at structs 0 ds v e h ∙ ap (λ n. min n nothing) (omega arith)
