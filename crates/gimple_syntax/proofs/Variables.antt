-- What a name of a variable names, by the number of the name.
use Rattle.std.proofs.Common.{◌≡◌, ◌<◌, ◌≤◌, ℕ, List, length, map, get_or, true, false, Option, Some, None, refl, sym, ap, ◌∙◌, arith}
use Rattle.std.specs.Prelude.{nat_eq, nat_lt, slice_get}
use Rattle.std.proofs.lemmas.Option.{slice_get_read, slice_get_past}
use Rattle.std.specs.Option.{option_map_or}
use Rattle.gimple_grammar.specs.declared.syntax.Declared.{Declared}
use Rattle.gimple_syntax.specs.declared.named.Named.TheVariants.{Unknown}
use Rattle.gimple_syntax.specs.Numbers.{nothing, number_of}
use Rattle.gimple_syntax.specs.Places.{Names, variable_at, named_by}
use Rattle.gimple_syntax.specs.Statements.{variable_named}

pub named-at : (n : Names) (name : List ℕ) (field : Option (List ℕ)) (number : ℕ) (found : Option Declared) → number ≡ number_of (map (λ d. d.name) n.variables) name
    → nat_eq number nothing ≡ false → slice_get n.variables number ≡ found
    → option_map_or (λ d. variable_at n number d.ty field) found Unknown ≡ variable_named n name field
unfolding named_by
named-at n name field number found is some here = rw (← is, some, here) refl

-- the number of the name, where the names are kept apart
pub number-is : (m n : Names) (names : List (List ℕ)) (given name : List ℕ) (number : ℕ) → number ≡ number_of names given → names ≡ map (λ d. d.name) m.variables → given ≡ name → m ≡ n
    → number ≡ number_of (map (λ d. d.name) n.variables) name
number-is m n names given name number is numbered same view =
    is ∙ ap (λ ns. number_of ns given) numbered ∙ ap (λ q. number_of (map (λ (d : Declared). d.name) m.variables) q) same
    ∙ ap (λ (l : Names). number_of (map (λ (d : Declared). d.name) l.variables) name) view

-- what stands at a place, where the list is looked at as another
pub stands-at : (xs ys : List Declared) (i : ℕ) (x : Declared) → ys ≡ xs → true ≡ nat_lt i (length ys) → x ≡ get_or ys i x → slice_get xs i ≡ Some x
stands-at xs ys i x same below here =
    let within : i < length ys = grind (arith, below) in
    ap (λ zs. slice_get zs i) (sym same) ∙ slice_get_read ys (length ys) i x refl within here

pub none-at : (xs ys : List Declared) (i : ℕ) → ys ≡ xs → false ≡ nat_lt i (length ys) → slice_get xs i ≡ None
none-at xs ys i same above =
    let past : length ys ≤ i = grind (arith, above) in
    ap (λ zs. slice_get zs i) (sym same) ∙ slice_get_past ys i past
