-- Bytes by their places: in lists that are joined, in elements of arrays, and in memory.
use Rattle.std.proofs.Common.{◌≡◌, ℕ, zero, suc, ◌+◌, ◌-◌, ◌*◌, ◌/◌, ◌%◌, ◌^◌, ◌<◌, ◌≤◌, ◌⊎◌, inl, inr, ℤ, pos, negsuc, Bool, true, false, cond, List, [], ◌∷◌, ◌++◌, length, get_or, take, filter, Option, Some, None, refl, sym, ap, ◌∙◌, subst, arith}
use Rattle.std.specs.Prelude.{slice_get, replicate}
use Rattle.std.specs.List.{flat_map, list_all}
use Rattle.std.specs.Ordering.{int_eq}
use Rattle.std.specs.Option.{option_map_or}
use Rattle.std.proofs.lemmas.Bool.{and_parts}
use Rattle.std.proofs.lemmas.Bool.Decides.{Decides-int_eq}
use Rattle.std.proofs.lemmas.List.{get_or_append_left, get_or-append-add}
use Rattle.gimple_ir.specs.declared.types.ElementType.{ElementType}
use Rattle.gimple_ir.specs.declared.types.ElementType.TheVariants as element
use Rattle.gimple_ir.specs.declared.types.ScalarType.TheVariants.{Int, UnsignedInt, LongInt, LongUnsignedInt}
use Rattle.gimple_ir.specs.declared.merged.Merged.{Merged}
use Rattle.gimple_ir.specs.declared.merged.MergedArray.{MergedArray}
use Rattle.rv64_isa.specs.Format.{residue}
use Rattle.rv64_isa.proofs.FormatLaws.{residue_lt}
use Rattle.rv64_meaning.specs.Machine.{load}
use Rattle.rv64_meaning.specs.Bytes.{number_of}
use Rattle.final_link.specs.Image.{word, xword}
use Rattle.final_link.specs.Arrays.{low_bits, element_bytes, array_size, array_bytes, is_all_zero, bytes_of, is_zeroed}
use Rattle.final_link.specs.Symbols.{end_of}
use Rattle.final_link.proofs.ArrayLaws.{end_from}
use Rattle.follow_laws.proofs.ImageLaws.{eight_bytes}
use Rattle.follow_laws.specs.Related.{element_bits}
use Rattle.follow_laws.proofs.ImageLists.{some_is, none_there}

-- ---- zeros

abbrev pub AreZeros : List ℕ → Type 0
AreZeros [] = Unit {0}
AreZeros (x ∷ xs) = (x ≡ 0) × AreZeros xs

pub zeros_joined : (xs ys : List ℕ) → AreZeros xs → AreZeros ys → AreZeros (xs ++ ys)
zeros_joined [] ys h k = k
zeros_joined (x ∷ xs) ys h k = (h.0, zeros_joined xs ys h.1 k)

pub zeros_made : (n : ℕ) → AreZeros (replicate n 0)
zeros_made zero = tt
zeros_made (suc n) = (refl, zeros_made n)

pub zero_at : (xs : List ℕ) (q : ℕ) → AreZeros xs → get_or xs q 0 ≡ 0
zero_at [] q h = refl
zero_at (x ∷ xs) zero h = h.0
zero_at (x ∷ xs) (suc q) h = zero_at xs q h.1

-- lists that go on with zeros have the same bytes
pub zeros_behind : (xs ys zs : List ℕ) (q : ℕ) → AreZeros ys → AreZeros zs → get_or (xs ++ ys) q 0 ≡ get_or (xs ++ zs) q 0
zeros_behind [] ys zs q h k = zero_at ys q h ∙ sym (zero_at zs q k)
zeros_behind (x ∷ xs) ys zs zero h k = refl
zeros_behind (x ∷ xs) ys zs (suc q) h k = zeros_behind xs ys zs q h k

-- ---- lists one behind the other

pub byte_at : {X : Type 0} (f : X → List ℕ) (size : X → ℕ) → ((x : X) → length (f x) ≡ size x) → (xs : List X) (j : ℕ) (x : X) (q : ℕ) → slice_get xs j ≡ Some x → q < size x
    → get_or (flat_map f xs) (end_of size 0 (take j xs) + q) 0 ≡ get_or (f x) q 0
byte_at f size len [] j x q e less = none_there x e
byte_at f size len (y ∷ xs) zero x q e less =
    let same = some_is y x e in
    let here : 0 + q ≡ q = omega arith in
    let long = len y in
    let size_same = ap size same in
    ap (λ n. get_or (f y ++ flat_map f xs) n 0) here ∙ get_or_append_left (f y) (flat_map f xs) 0 q (omega (arith, long, size_same, less)) ∙ ap (λ z. get_or (f z) q 0) same
byte_at f size len (y ∷ xs) (suc j) x q e less =
    let long = len y in
    let place : end_of size (0 + size y) (take j xs) + q ≡ length (f y) + (end_of size 0 (take j xs) + q) = omega (arith, long, end_from size (0 + size y) (take j xs)) in
    ap (λ n. get_or (f y ++ flat_map f xs) n 0) place ∙ get_or-append-add (f y) (flat_map f xs) (end_of size 0 (take j xs) + q) 0 ∙ byte_at f size len xs j x q e less

-- items of one size
pub end_even : {X : Type 0} (s : ℕ) (xs : List X) (i : ℕ) (x : X) → slice_get xs i ≡ Some x → end_of (λ (y : X). s) 0 (take i xs) ≡ i * s
end_even s [] i x e = none_there x e
end_even s (y ∷ xs) zero x e = omega arith
end_even {X} s (y ∷ xs) (suc i) x e =
    let step : suc i * s ≡ s + i * s = omega arith in
    omega (arith, step, end_from (λ (y : X). s) (0 + s) (take i xs), end_even s xs i x e)

-- ---- elements

element_zero : (type : ElementType) → AreZeros (element_bytes type (pos 0))
unfolding word xword
element_zero element.UnsignedChar = (refl, tt)
element_zero (element.Scalar Int) = (refl, (refl, (refl, (refl, tt))))
element_zero (element.Scalar UnsignedInt) = (refl, (refl, (refl, (refl, tt))))
element_zero (element.Scalar LongInt) = (refl, (refl, (refl, (refl, (refl, (refl, (refl, (refl, tt))))))))
element_zero (element.Scalar LongUnsignedInt) = (refl, (refl, (refl, (refl, (refl, (refl, (refl, (refl, tt))))))))

pub element_zeros : (type : ElementType) (z : ℤ) → z ≡ pos 0 → AreZeros (element_bytes type z)
element_zeros type z e = subst (λ y. AreZeros (element_bytes type y)) (sym e) (element_zero type)

elements_zero : (type : ElementType) (zs : List ℤ) → list_all (λ z. int_eq z (pos 0)) zs ≡ true → AreZeros (flat_map (element_bytes type) zs)
elements_zero type [] h = tt
elements_zero type (z ∷ zs) h =
    let both = and_parts (int_eq z (pos 0)) (list_all (λ y. int_eq y (pos 0)) zs) h in
    zeros_joined (element_bytes type z) (flat_map (element_bytes type) zs) (element_zeros type z ((Decides-int_eq z (pos 0)).0 both.0)) (elements_zero type zs both.1)

array_zero : (o : Option MergedArray) → option_map_or (λ a. is_all_zero a.item) o true ≡ true → AreZeros (option_map_or (λ a. array_bytes a.item) o [])
array_zero None h = tt
array_zero (Some a) h =
    let first = flat_map (element_bytes a.item.element) a.item.initial in
    zeros_joined first (replicate (array_size a.item - length first) 0) (elements_zero a.item.element a.item.initial h) (zeros_made (array_size a.item - length first))

zeroed_by : (b : Bool) (merged : Merged) (k : ℕ) (ks : List ℕ) → is_zeroed merged k ≡ b → AreZeros (flat_map (bytes_of merged) ks) → AreZeros (flat_map (bytes_of merged) (cond b (k ∷ ks) ks))
zeroed_by true merged k ks e h = zeros_joined (bytes_of merged k) (flat_map (bytes_of merged) ks) (array_zero (slice_get merged.arrays k) e) h
zeroed_by false merged k ks e h = h

pub zeroed_zero : (merged : Merged) (ks : List ℕ) → AreZeros (flat_map (bytes_of merged) (filter (is_zeroed merged) ks))
zeroed_zero merged [] = tt
zeroed_zero merged (k ∷ ks) = zeroed_by (is_zeroed merged k) merged k (filter (is_zeroed merged) ks) refl (zeroed_zero merged ks)

-- ---- numbers

low_is : (bits : ℕ) (z : ℤ) → low_bits bits z ≡ residue (2 ^ bits) z
low_is bits (pos n) = refl
low_is bits (negsuc n) = refl

four_bytes : (n : ℕ) → n < 2 ^ 32 → n % 256 + 256 * (n / 256 % 256 + 256 * (n / 65536 % 256 + 256 * (n / 16777216 % 256 + 256 * 0))) ≡ n
four_bytes n h = omega arith

number_of_word : (n : ℕ) → n < 2 ^ 32 → number_of (word n) ≡ n
unfolding number_of word
number_of_word n h = four_bytes n h

number_of_xword : (n : ℕ) → n < 2 ^ 64 → number_of (xword n) ≡ n
unfolding number_of xword
number_of_xword n h = eight_bytes n h

number_of_byte : (n : ℕ) → number_of (n ∷ []) ≡ n
unfolding number_of
number_of_byte n = omega arith

small_by : (bits : ℕ) (z : ℤ) → 0 < 2 ^ bits → low_bits bits z < 2 ^ bits
small_by bits z h = subst (λ n. n < 2 ^ bits) (sym (low_is bits z)) (residue_lt (2 ^ bits) z h)

pub element_number : (type : ElementType) (z : ℤ) → number_of (element_bytes type z) ≡ element_bits type z
element_number element.UnsignedChar z = number_of_byte (low_bits 8 z) ∙ low_is 8 z
element_number (element.Scalar Int) z = number_of_word (low_bits 32 z) (small_by 32 z (omega arith)) ∙ low_is 32 z
element_number (element.Scalar UnsignedInt) z = number_of_word (low_bits 32 z) (small_by 32 z (omega arith)) ∙ low_is 32 z
element_number (element.Scalar LongInt) z = number_of_xword (low_bits 64 z) (small_by 64 z (omega arith)) ∙ low_is 64 z
element_number (element.Scalar LongUnsignedInt) z = number_of_xword (low_bits 64 z) (small_by 64 z (omega arith)) ∙ low_is 64 z

-- memory that has bytes from an address on has their number there
pub load_is : (bytes : List ℕ) (mem : ℕ → ℕ) (a : ℕ) → ((q : ℕ) → q < length bytes → mem (a + q) ≡ get_or bytes q 0) → load (length bytes) mem a ≡ number_of bytes
unfolding load number_of
load_is [] mem a h = refl
load_is (x ∷ xs) mem a h =
    let here : a + 0 ≡ a = omega arith in
    let first : mem a ≡ x = ap mem (sym here) ∙ h 0 (omega arith) in
    let rest = load_is xs mem (a + 1) (λ q less. let next : a + 1 + q ≡ a + suc q = omega arith in ap mem next ∙ h (suc q) (omega (arith, less))) in
    ap (λ n. n + 256 * load (length xs) mem (a + 1)) first ∙ ap (λ n. x + 256 * n) rest

-- ---- first numbers

made_at : (n i : ℕ) (z : ℤ) → slice_get (replicate n (pos 0)) i ≡ Some z → (i < n) × (z ≡ pos 0)
made_at zero i z e = none_there z e
made_at (suc n) zero z e = (omega arith, sym (some_is (pos 0) z e))
made_at (suc n) (suc i) z e = let more = made_at n i z e in (omega (arith, more.0), more.1)

-- a number is one of the first ones, or else it is 0
pub number_at : (xs : List ℤ) (n i : ℕ) (z : ℤ) → slice_get (xs ++ replicate n (pos 0)) i ≡ Some z
    → ((slice_get xs i ≡ Some z) × (i < length xs)) ⊎ ((length xs ≤ i) × (i < length xs + n) × (z ≡ pos 0))
number_at [] n i z e = let made = made_at n i z e in inr (omega arith, omega (arith, made.0), made.1)
number_at (x ∷ xs) n zero z e = inl (e, omega arith)
number_at (x ∷ xs) n (suc i) z e =
    elim (number_at xs n i z e) [
      | inl h ↦ inl (h.0, omega (arith, h.1))
      | inr h ↦ inr (omega (arith, h.0), omega (arith, h.1), h.2)
    ]
