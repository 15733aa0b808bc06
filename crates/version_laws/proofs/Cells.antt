-- Components that are read and written, and those of new frames.
use Rattle.std.proofs.Common.{◌≡◌, ◌+◌, ◌<◌, ℕ, zero, suc, List, [], ◌∷◌, ◌++◌, length, map, replicate, Some, None, refl, sym, ap, ◌∙◌, arith}
use Rattle.std.specs.Prelude.{Option, slice_get, slice_set, option_and_then}
use Rattle.std.proofs.lemmas.Option.{none-some}
use Rattle.gimple_ir.specs.declared.types.Operand.{Operand}
use Rattle.gimple_ir.specs.declared.types.Value.{Value}
use Rattle.gimple_ir.specs.declared.lattice.Binding.{Binding}
use Rattle.gimple_meaning.specs.Acts.{cell, value_at}
use Rattle.gimple_meaning.specs.Source.{taken}
use Rattle.gimple_meaning.specs.Steps.{bound_by}

-- ---- writes

pub cell-set_other : (xs : List (Option Value)) (i j : ℕ) (x : Option Value) → (j ≡ i → ⊥) → cell (slice_set xs i x) j ≡ cell xs j
cell-set_other [] i j x other = refl
cell-set_other (y ∷ ys) zero zero x other = absurd (other refl)
cell-set_other (y ∷ ys) zero (suc j) x other = refl
cell-set_other (y ∷ ys) (suc i) zero x other = refl
cell-set_other (y ∷ ys) (suc i) (suc j) x other = cell-set_other ys i j x (λ (same : j ≡ i). other (ap suc same))

-- what is set in the component that was written is what was written
pub cell-set_same : (xs : List (Option Value)) (i : ℕ) (x : Option Value) (v : Value) → cell (slice_set xs i x) i ≡ Some v → x ≡ Some v
cell-set_same [] i x v is = absurd (none-some v is)
cell-set_same (y ∷ ys) zero x v is = is
cell-set_same (y ∷ ys) (suc i) x v is = cell-set_same ys i x v is

-- of as many components the one at this place is written too
pub cell-set_there : (xs ys : List (Option Value)) (i : ℕ) (x y : Option Value) (v : Value) → length xs ≡ length ys
    → cell (slice_set xs i x) i ≡ Some v → cell (slice_set ys i y) i ≡ y
cell-set_there [] ys i x y v size is = absurd (none-some v is)
cell-set_there (a ∷ xs) [] i x y v size is = absurd (omega (arith, size))
cell-set_there (a ∷ xs) (b ∷ ys) zero x y v size is = refl
cell-set_there (a ∷ xs) (b ∷ ys) (suc i) x y v size is = cell-set_there xs ys i x y v (omega (arith, size)) is

pub length-slice_set : (xs : List (Option Value)) (i : ℕ) (x : Option Value) → length (slice_set xs i x) ≡ length xs
length-slice_set [] i x = refl
length-slice_set (y ∷ ys) zero x = refl
length-slice_set (y ∷ ys) (suc i) x = ap suc (length-slice_set ys i x)

-- ---- new frames

cell-unset : (n c : ℕ) → cell (replicate n None) c ≡ None
cell-unset zero c = refl
cell-unset (suc n) zero = refl
cell-unset (suc n) (suc c) = cell-unset n c

-- what is set in a new frame of the source is a parameter, from its argument
taken_from : (k n more c : ℕ) (args : List (Option Value)) (v : Value) → cell (taken k n args ++ replicate more None) c ≡ Some v → (c < n) × (cell args (k + c) ≡ Some v)
taken_from k zero more c args v is = absurd (none-some v (sym (cell-unset more c) ∙ is))
taken_from k (suc n) more zero args v is = let here : k + 0 ≡ k = omega arith in (omega arith, ap (cell args) here ∙ is)
taken_from k (suc n) more (suc c) args v is =
    let later = taken_from (k + 1) n more c args v is in
    let next : k + suc c ≡ k + 1 + c = omega arith in
    (omega (arith, later.0), ap (cell args) next ∙ later.1)

pub cell-taken : (n more c : ℕ) (args : List (Option Value)) (v : Value) → cell (taken 0 n args ++ replicate more None) c ≡ Some v → (c < n) × (cell args c ≡ Some v)
cell-taken n more c args v is =
    let there = taken_from 0 n more c args v is in
    let here : c ≡ 0 + c = omega arith in
    (there.0, ap (cell args) here ∙ there.1)

pub length-taken : (k n : ℕ) (args : List (Option Value)) → length (taken k n args) ≡ n
length-taken k zero args = refl
length-taken k (suc n) args = ap suc (length-taken (k + 1) n args)

-- a component of a new frame of a version is what its binding says
pub cell-opened : (bindings : List Binding) (args : List (Option Value)) (more c : ℕ)
    → cell (map (λ b. bound_by (Some b) args) bindings ++ replicate more None) c ≡ bound_by (slice_get bindings c) args
cell-opened [] args more c = cell-unset more c
cell-opened (b ∷ bs) args more zero = refl
cell-opened (b ∷ bs) args more (suc c) = cell-opened bs args more c

-- ---- arguments

pub cell-passed : (cells : List (Option Value)) (args : List Operand) (k : ℕ) → cell (map (value_at cells) args) k ≡ option_and_then (value_at cells) (slice_get args k)
cell-passed cells [] k = refl
cell-passed cells (a ∷ more) zero = refl
cell-passed cells (a ∷ more) (suc k) = cell-passed cells more k
