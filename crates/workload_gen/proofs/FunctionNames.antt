-- The names of functions are names.
use Rattle.std.proofs.Common.{◌≡◌, ℕ, zero, suc, ◌+◌, ◌∷◌, [], ◌<◌, ◌^◌, ◌%◌, Bool, true, ◌||◌, ◌&&◌, length, All, refl, arith, ◌∙◌, le-leb}
use Rattle.std.specs.Fmt.{decimal}
use Rattle.std.specs.List.{slice_index_or, list_all}
use Rattle.std.proofs.lemmas.List.Folds.{list_all-append}
use Rattle.std.proofs.lemmas.Bool.Decides.{nat_tests}
use Rattle.std.proofs.lemmas.Fmt.{decimal_by_steps, length-decimal-le}
use Rattle.std.proofs.lemmas.List.Elements.{All-append}
use Rattle.gimple_ir.specs.Names.{IsName, IsPrintable, is_letter, is_digit}
use Rattle.gimple_ir.specs.Programs.{IsIdentifier}
use Rattle.workload_gen.specs.Functions.{name_of}

single : (b : ℕ) → IsPrintable b → (k d : ℕ) → k < 1 → IsPrintable (slice_index_or (b ∷ []) k d)
single b p zero d h = p
single b p (suc k) d h = absurd (omega arith)

IsPrintable-digit : (n : ℕ) → n < 10 → All IsPrintable ((48 + n) ∷ [])
IsPrintable-digit n small = single (48 + n) (omega arith, omega arith)

pub IsPrintable-decimal : (n : ℕ) → n < 2 ^ 64 → All IsPrintable (decimal n)
IsPrintable-decimal =
    decimal_by_steps (λ n ds. All IsPrintable ds) IsPrintable-digit
    (λ n ds low before. All-append IsPrintable ds ((48 + n % 10) ∷ []) before (IsPrintable-digit (n % 10) (omega arith)))

pub name_of-IsName : (n : ℕ) → n < 2 ^ 32 → IsName (name_of n)
name_of-IsName n small =
    let short = length-decimal-le 10 n (omega arith) (omega arith) (omega arith) in
    record {
      some = omega arith;
      bounded = omega (arith, short);
      printable = All-append IsPrintable (102 ∷ []) (decimal n) (single 102 (omega arith, omega arith)) (IsPrintable-decimal n (omega arith));
    }

both_true : (a b : Bool) → a ≡ true → b ≡ true → (a && b) ≡ true
both_true a b e f = rw (e, f) refl

is_word-digit : (n : ℕ) → n < 10 → list_all (λ byte. is_letter byte || is_digit byte) ((48 + n) ∷ []) ≡ true
is_word-digit n small = grind (arith, nat_tests)

is_word-decimal : (n : ℕ) → n < 2 ^ 64 → list_all (λ byte. is_letter byte || is_digit byte) (decimal n) ≡ true
is_word-decimal =
    decimal_by_steps (λ n ds. list_all (λ byte. is_letter byte || is_digit byte) ds ≡ true) is_word-digit
    (λ n ds low before. list_all-append (λ byte. is_letter byte || is_digit byte) ds ((48 + n % 10) ∷ [])
    ∙ both_true _ _ before (is_word-digit (n % 10) (omega arith)))

pub name_of-IsIdentifier : (n : ℕ) → n < 2 ^ 32 → IsIdentifier (name_of n)
name_of-IsIdentifier n small =
    let short = length-decimal-le 10 n (omega arith) (omega arith) (omega arith) in
    rw (is_word-decimal n (omega (arith, small)), le-leb (suc (length (decimal n))) 255 (omega (arith, short))) refl
