-- Elements of arrays: what is read is spelled so, and what is spelled so is read.
use Rattle.std.proofs.Common.{◌≡◌, ◌≢◌, ℕ, zero, suc, ◌+◌, ◌-◌, ◌^◌, ◌<◌, ◌≤◌, Bool, true, false, eqb, List, [], ◌∷◌, ◌++◌, length, get_or, take, drop, Some, refl, sym, ap, subst, ◌∙◌, arith}
use Rattle.std.specs.Prelude.{ℤ, pos, negsuc, unsigned_abs, not, All, IfSome, slice_get}
use Rattle.std.specs.Int.{int_rem_euclid}
use Rattle.std.specs.List.{flat_map}
use Rattle.std.proofs.Math.Nat.{mod-eq_of_lt}
use Rattle.std.proofs.Math.Dec.{eqb-suc-zero}
use Rattle.std.proofs.Math.Seq.{split_at}
use Rattle.std.proofs.lemmas.Bool.{eqb-true}
use Rattle.std.proofs.lemmas.Bool.Decides.{nat_tests}
use Rattle.std.proofs.lemmas.Int.{ints}
use Rattle.std.proofs.lemmas.Grind.{flat_map-append}
use Rattle.std.proofs.lemmas.List.{append-nil, length-append, length-take-le, drop_all}
use Rattle.std.proofs.lemmas.List.Concat.{flat_map-cons}
use Rattle.std.proofs.lemmas.List.Elements.{All-nil, All-push, All-take, All-get_or}
use Rattle.std.proofs.lemmas.Option.{slice_get-get_or}
use Rattle.cursors.specs.Leb128.{uleb_of}
use Rattle.gimple_ir.specs.Programs.{IsElement}
use Rattle.gimple_ir.proofs.Ranges.{residue-lt}
use Rattle.gimple_ir.proofs.WellFormed.{from_residue-InRange}
use Rattle.gimple_ir.specs.declared.types.ScalarType.TheVariants.{Int, UnsignedInt, LongInt, LongUnsignedInt}
use Rattle.gimple_ir.specs.declared.types.ElementType.{ElementType}
use Rattle.gimple_ir.specs.declared.types.ElementType.TheVariants as element
use Rattle.module_stream.specs.Fields.{counted_of, element_modulus, element_residue, element_from, element_of}
use Rattle.module_stream.specs.Readers.{number_below}
use Rattle.module_stream.specs.DeclarationReading.{element_at, last_element_at, elements_at, initial_limit, initial_at}
use Rattle.module_stream.proofs.Exact.{Exact, IsMade, number_exact, passing_exact, nothing_exact, both_exact, depends_exact, made_exact, exact_as, if_exact, repeated_exact}
use Rattle.module_stream.proofs.OperandLaws.{back_by, value_back, value_same, modulus-le}

-- ---- one element

element_modulus-le : (e : ElementType) → element_modulus e ≤ 2 ^ 64
element_modulus-le (element.Scalar ty) = modulus-le ty
element_modulus-le element.UnsignedChar = omega arith

element_back : (e : ElementType) (n : ℕ) → n < element_modulus e → element_residue e (element_from e n) ≡ n
element_back (element.Scalar ty) n lt = value_back ty n lt
element_back element.UnsignedChar n lt = back_by true (2 ^ 8) n lt

element_in : (e : ElementType) (n : ℕ) → n < element_modulus e → IsElement e (element_from e n)
element_in (element.Scalar ty) n lt = from_residue-InRange ty n lt
element_in element.UnsignedChar n lt = grind (arith, ints)

char_same : (z : ℤ) → IsElement element.UnsignedChar z → pos (unsigned_abs (int_rem_euclid z (pos (2 ^ 8)))) ≡ z
char_same (pos a) h = let small : a < 2 ^ 8 = omega (arith, ints) in ap pos (mod-eq_of_lt small)
char_same (negsuc a) h = absurd (omega (arith, ints))

element_same : (e : ElementType) (z : ℤ) → IsElement e z → element_from e (element_residue e z) ≡ z
element_same (element.Scalar ty) z h = value_same ty z h
element_same element.UnsignedChar z h = char_same z h

char_residue-lt : (z : ℤ) → IsElement element.UnsignedChar z → unsigned_abs (int_rem_euclid z (pos (2 ^ 8))) < 2 ^ 8
char_residue-lt (pos a) h = omega arith
char_residue-lt (negsuc a) h = absurd (omega (arith, ints))

element_residue-lt : (e : ElementType) (z : ℤ) → IsElement e z → element_residue e z < element_modulus e
element_residue-lt (element.Scalar ty) z h = residue-lt ty z
element_residue-lt element.UnsignedChar z h = char_residue-lt z h

pub element_exact : (e : ElementType) → Exact (element_of e) (IsElement e) (element_at e)
unfolding element_at
element_exact e = made_exact (element_from e) (element_of e) (IsElement e) (element_residue e) (number_exact (element_modulus e) (element_modulus-le e))
    (record {
      spelled = λ n lt. ap uleb_of (element_back e n lt);
      fits = element_in e;
      parts = element_residue-lt e;
      back = element_same e;
    })

-- ---- the last element

zero_from : (e : ElementType) → element_from e 0 ≡ pos 0
zero_from (element.Scalar Int) = refl
zero_from (element.Scalar UnsignedInt) = refl
zero_from (element.Scalar LongInt) = refl
zero_from (element.Scalar LongUnsignedInt) = refl
zero_from element.UnsignedChar = refl

some_values : (e : ElementType) → 0 < element_modulus e
some_values (element.Scalar Int) = omega arith
some_values (element.Scalar UnsignedInt) = omega arith
some_values (element.Scalar LongInt) = omega arith
some_values (element.Scalar LongUnsignedInt) = omega arith
some_values element.UnsignedChar = omega arith

zero_residue : (e : ElementType) → element_residue e (pos 0) ≡ 0
zero_residue e = mod-eq_of_lt (some_values e)

abbrev isn't_zero : ℕ → Bool
isn't_zero n = not (eqb n 0)

zero_is : (n : ℕ) → n ≡ 0 → isn't_zero n ≡ true → ⊥
zero_is n is e = grind (arith, nat_tests)

isn't_zero-true : (n : ℕ) → (n ≡ 0 → ⊥) → isn't_zero n ≡ true
isn't_zero-true zero h = absurd (h refl)
isn't_zero-true (suc n) h = ap not (eqb-suc-zero n)

last_made : (e : ElementType) → IsMade uleb_of (λ n. (n < element_modulus e) × (isn't_zero n ≡ true)) (element_from e) (element_of e) (λ z. IsElement e z × (z ≢ pos 0)) (element_residue e)
last_made e = record {
  spelled = λ n h. ap uleb_of (element_back e n h.0);
  fits = λ n h. (element_in e n h.0, λ is. zero_is n (sym (element_back e n h.0) ∙ ap (element_residue e) is ∙ zero_residue e) h.1);
  parts = λ z h. (element_residue-lt e z h.0, isn't_zero-true (element_residue e z) (λ is. h.1 (sym (element_same e z h.0) ∙ ap (element_from e) is ∙ zero_from e)));
  back = λ z h. element_same e z h.0;
}

pub last_element_exact : (e : ElementType) → Exact (element_of e) (λ z. IsElement e z × (z ≢ pos 0)) (last_element_at e)
unfolding last_element_at
last_element_exact e = made_exact (element_from e) (element_of e) (λ z. IsElement e z × (z ≢ pos 0)) (element_residue e)
    (passing_exact isn't_zero (number_exact (element_modulus e) (element_modulus-le e))) (last_made e)

-- ---- so many elements, of which the last isn't 0

pub record FitElements (e : ElementType) (n : ℕ) (zs : List ℤ) : Type 0 where
  pub count : length zs ≡ n
  pub each : All (IsElement e) zs
  pub shortest : IfSome (slice_get zs (length zs - 1)) (λ z. z ≢ pos 0)

abbrev with_last : List ℤ × ℤ → List ℤ
with_last x = x.0 ++ x.1 ∷ []

abbrev without_last : List ℤ → List ℤ × ℤ
without_last zs = (take (length zs - 1) zs, get_or zs (length zs - 1) (pos 0))

last_is : (zs : List ℤ) (z : ℤ) → slice_get (zs ++ z ∷ []) (length (zs ++ z ∷ []) - 1) ≡ Some z
last_is zs z = simp length-append (at_end zs)
  where
    at_end : (ys : List ℤ) → slice_get (ys ++ z ∷ []) (length ys + 1 - 1) ≡ Some z
    at_end ys = let e : length ys + 1 - 1 ≡ length ys = omega arith in rw e (there ys)
      where
        there : (xs : List ℤ) → slice_get (xs ++ z ∷ []) (length xs) ≡ Some z
        there [] = refl
        there (x ∷ xs) = there xs

with_last-spelled : (e : ElementType) (x : List ℤ × ℤ) → flat_map (element_of e) (with_last x) ≡ flat_map (element_of e) x.0 ++ element_of e x.1
with_last-spelled e x =
    flat_map-append (element_of e) x.0 (x.1 ∷ [])
    ∙ ap (λ t. flat_map (element_of e) x.0 ++ t) (flat_map-cons (element_of e) x.1 [] ∙ append-nil (element_of e x.1))

split_last : (zs : List ℤ) → 0 < length zs → with_last (without_last zs) ≡ zs
split_last zs lt =
    let last : length zs - 1 < length zs = omega arith in
    let none : drop (suc (length zs - 1)) zs ≡ [] = drop_all (suc (length zs - 1)) zs (omega arith) in
    sym (split_at zs (length zs - 1) (pos 0) last ∙ ap (λ t. take (length zs - 1) zs ++ get_or zs (length zs - 1) (pos 0) ∷ t) none)

elements_made : (e : ElementType) (n : ℕ) → 0 < n → IsMade (λ (x : List ℤ × ℤ). flat_map (element_of e) x.0 ++ element_of e x.1) (λ x. ((length x.0 ≡ n - 1) × All (IsElement e) x.0) × (IsElement e x.1 × (x.1 ≢ pos 0))) with_last (flat_map (element_of e)) (FitElements e n) without_last
elements_made e n lt = record {
  spelled = λ x h. with_last-spelled e x;
  fits = λ x h. record {
    count = length-append x.0 (x.1 ∷ []) ∙ (let is = h.0.0 in omega arith);
    each = All-push (IsElement e) x.0 x.1 h.0.1 h.1.0;
    shortest = subst (λ o. IfSome o (λ z. z ≢ pos 0)) (sym (last_is x.0 x.1)) h.1.1;
  };
  parts = λ zs h.
      let last : length zs - 1 < length zs = omega (arith, h.count) in (
        (length-take-le (length zs - 1) zs (omega arith) ∙ (let is = h.count in omega arith), All-take (IsElement e) (length zs - 1) zs h.each),
        (All-get_or (IsElement e) zs (length zs - 1) (pos 0) last h.each, subst (λ o. IfSome o (λ z. z ≢ pos 0)) (slice_get-get_or zs (length zs - 1) (pos 0) last) h.shortest),
      );
  back = λ zs h. split_last zs (omega (arith, h.count));
}

no_elements : (zs : List ℤ) → length zs ≡ 0 → zs ≡ []
no_elements [] e = refl
no_elements (z ∷ zs) e = absurd cc

pub elements_exact : (e : ElementType) (n : ℕ) → Exact (flat_map (element_of e)) (FitElements e n) (elements_at e n)
unfolding elements_at
elements_exact e n = if_exact (eqb n 0)
    (λ is.
    let none : n ≡ 0 = eqb-true n 0 is in
    exact_as (flat_map (element_of e)) (FitElements e n) (nothing_exact [])
    (λ zs h. ap (flat_map (element_of e)) h)
    (λ zs h. subst (FitElements e n) (sym h) (record { count = sym none; each = All-nil (IsElement e); shortest = tt }))
    (λ zs h. no_elements zs (h.count ∙ none)))
    (λ is.
    let some : 0 < n = grind (arith, nat_tests) in
    made_exact with_last (flat_map (element_of e)) (FitElements e n) without_last (both_exact (repeated_exact (element_exact e) (n - 1)) (last_element_exact e)) (elements_made e n some))

-- ---- initial values

pub record FitInitial (is_declared : Bool) (e : ElementType) (zs : List ℤ) : Type 0 where
  pub count : length zs < initial_limit is_declared
  pub each : All (IsElement e) zs
  pub shortest : IfSome (slice_get zs (length zs - 1)) (λ z. z ≢ pos 0)

limit-le : (b : Bool) → initial_limit b ≤ 2 ^ 64
limit-le true = omega arith
limit-le false = omega arith

pub initial_exact : (is_declared : Bool) (e : ElementType) → Exact (counted_of (element_of e)) (FitInitial is_declared e) (initial_at is_declared e)
unfolding initial_at
initial_exact is_declared e = made_exact (λ (x : ℕ × List ℤ). x.1) (counted_of (element_of e)) (FitInitial is_declared e) (λ zs. (length zs, zs))
    (depends_exact uleb_of (λ n. n < initial_limit is_declared) (number_below (initial_limit is_declared)) (λ _. flat_map (element_of e)) (FitElements e) (elements_at e)
    (number_exact (initial_limit is_declared) (limit-le is_declared)) (λ n _. elements_exact e n))
    (record {
      spelled = λ x h. ap (λ n. uleb_of n ++ flat_map (element_of e) x.1) h.1.count;
      fits = λ x h. record { count = subst (λ n. n < initial_limit is_declared) (sym h.1.count) h.0; each = h.1.each; shortest = h.1.shortest };
      parts = λ zs h. (h.count, record { count = refl; each = h.each; shortest = h.shortest });
      back = λ zs h. refl;
    })
