-- The structs and arrays that are made of named items are as a module asks, and so are the types of variables.
use Rattle.std.proofs.Common.{◌≡◌, ◌≢◌, ℕ, zero, suc, ◌+◌, ◌-◌, ◌≤◌, ◌%◌, ℤ, pos, Bool, true, false, Option, Some, None, List, [], ◌∷◌, length, map, refl, ap, subst, arith}
use Rattle.std.specs.Prelude.{All, IfSome, MatchOption, slice_get, nat_eq, nat_le, ◌≤ℤ◌, if◌then◌else◌}
use Rattle.std.specs.List.{filter_map, cons_option}
use Rattle.std.specs.Option.{option_map, option_map_or}
use Rattle.std.specs.Ordering.{int_eq}
use Rattle.std.proofs.lemmas.Int.{ints}
use Rattle.std.proofs.lemmas.Bool.{le-leb}
use Rattle.std.proofs.lemmas.Bool.Decides.{nat_tests}
use Rattle.std.proofs.lemmas.Option.{slice_get-map, slice_get_within}
use Rattle.std.proofs.lemmas.List.Elements.{All-nil, All-cons, All-head, All-tail, All-map}
use Rattle.gimple_ir.specs.declared.types.ScalarType.{ScalarType}
use Rattle.gimple_ir.specs.declared.types.ElementType.{ElementType}
use Rattle.gimple_ir.specs.declared.types.ElementType.TheVariants as element
use Rattle.gimple_ir.specs.declared.types.Linkage.{Linkage}
use Rattle.gimple_ir.specs.declared.types.StructDef.{StructDef}
use Rattle.gimple_ir.specs.declared.types.Module.{Module}
use Rattle.gimple_ir.specs.declared.fault.TypeFault.{TypeFault}
use Rattle.gimple_ir.specs.declared.fault.TypeKind.{TypeKind}
use Rattle.gimple_ir.specs.Names.{is_between}
use Rattle.gimple_ir.specs.Statements.{first_failed}
use Rattle.gimple_ir.specs.Checks.{is_extern, first_of, faults_from, fault_at, struct_fault, fault_of}
use Rattle.gimple_ir.specs.Programs.{IsIdentifier, IsElement, AgreesIn, IsStatedStruct, IsStatedArray}
use Rattle.gimple_ir.proofs.WellFormed.{reduced-InRange}
use Rattle.gimple_grammar.specs.declared.syntax.Literal.{Literal}
use Rattle.gimple_grammar.specs.declared.syntax.FieldText.{FieldText}
use Rattle.gimple_grammar.specs.declared.syntax.StructText.{StructText}
use Rattle.gimple_grammar.specs.declared.syntax.ArrayText.{ArrayText}
use Rattle.gimple_grammar.specs.declared.syntax.«Type».{«Type» as TheType}
use Rattle.gimple_grammar.specs.declared.syntax.«Type».TheVariants as types
use Rattle.gimple_syntax.specs.Numbers.{nothing, signed, element_of, put_front, shortened}
use Rattle.gimple_syntax.specs.Places.{struct_number, usable, var_type, types_of}
use Rattle.gimple_syntax.specs.Items.{field_of, struct_of, array_of}
use Rattle.text_laws.proofs.NamedTexts.{IsNamedStruct}

-- ---- lists

picked : {Y : Type 0} (Q : Y → Type 0) (o : Option Y) (ys : List Y) → IfSome o Q → All Q ys → All Q (cons_option o ys)
picked Q None ys q h = h
picked Q (Some y) ys q h = All-cons Q y ys q h

pub all-picked : {X Y : Type 0} (f : X → Option Y) (P : X → Type 0) (Q : Y → Type 0) → ((x : X) → P x → IfSome (f x) Q) → (xs : List X) → All P xs → All Q (filter_map f xs)
all-picked f P Q step [] h = All-nil Q
all-picked f P Q step (x ∷ xs) h = picked Q (f x) (filter_map f xs) (step x (All-head P x xs h)) (all-picked f P Q step xs (All-tail P x xs h))

all-at : {X : Type 0} (P : X → Type 0) (xs : List X) (n : ℕ) → All P xs → IfSome (slice_get xs n) P
all-at P [] n h = tt
all-at P (x ∷ xs) zero h = All-head P x xs h
all-at P (x ∷ xs) (suc n) h = all-at P xs n (All-tail P x xs h)

-- ---- structs

pub struct-stated : (s : StructText) → IsNamedStruct s → IsStatedStruct (struct_of s)
struct-stated s h = record { name = h.name; fields = All-map (λ field. IsIdentifier field.name) field_of s.fields h.fields }

-- ---- arrays

byte-fits : (n : ℕ) → (pos 0 ≤ℤ pos (n % 256)) × (pos (n % 256) ≤ℤ pos 255)
byte-fits n = (omega (arith, ints), omega (arith, ints))

element-fits : (e : ElementType) (l : Literal) → IsElement e (element_of e l)
element-fits (element.Scalar ty) l = reduced-InRange ty (signed l)
element-fits element.UnsignedChar l = byte-fits l.number

elements-fit : (e : ElementType) (ls : List Literal) → All (IsElement e) (map (element_of e) ls)
elements-fit e [] = All-nil (IsElement e)
elements-fit e (l ∷ ls) = All-cons (IsElement e) (element_of e l) (map (element_of e) ls) (element-fits e l) (elements-fit e ls)

one-left : (P : ℤ → Type 0) (b : Bool) (z : ℤ) → P z → All P (if b then [] else z ∷ [])
one-left P true z p = All-nil P
one-left P false z p = All-cons P z [] p (All-nil P)

front-all : (P : ℤ → Type 0) (z : ℤ) (ys : List ℤ) → P z → All P ys → All P (put_front z ys)
front-all P z [] p h = one-left P (int_eq z (pos 0)) z p
front-all P z (y ∷ ys) p h = All-cons P z (y ∷ ys) p h

shortened-all : (P : ℤ → Type 0) (zs : List ℤ) → All P zs → All P (shortened zs)
shortened-all P [] h = h
shortened-all P (z ∷ zs) h = front-all P z (shortened zs) (All-head P z zs h) (shortened-all P zs (All-tail P z zs h))

abbrev IsNotZero : ℤ → Type 0
IsNotZero z = z ≢ pos 0

abbrev EndsInNone : List ℤ → Type 0
EndsInNone zs = IfSome (slice_get zs (length zs - 1)) IsNotZero

not-zero : (z : ℤ) → int_eq z (pos 0) ≡ false → z ≢ pos 0
not-zero z e h = let zero_is : int_eq z (pos 0) ≡ true = rw h refl in cc

one-ends : (b : Bool) (z : ℤ) → int_eq z (pos 0) ≡ b → EndsInNone (if b then [] else z ∷ [])
one-ends true z e = tt
one-ends false z e = not-zero z e

front-ends : (z : ℤ) (ys : List ℤ) → EndsInNone ys → EndsInNone (put_front z ys)
front-ends z [] h = one-ends (int_eq z (pos 0)) z refl
front-ends z (y ∷ ys) h =
    let a : length (z ∷ (y ∷ ys)) - 1 ≡ suc (length ys) = omega arith in
    let b : length (y ∷ ys) - 1 ≡ length ys = omega arith in
    rw a (subst (λ (n : ℕ). IfSome (slice_get (y ∷ ys) n) IsNotZero) b h)

shortened-ends : (zs : List ℤ) → EndsInNone (shortened zs)
shortened-ends [] = tt
shortened-ends (z ∷ zs) = front-ends z (shortened zs) (shortened-ends zs)

none-left : (e : ElementType) (ls : List Literal) → ls ≡ [] → shortened (map (element_of e) ls) ≡ []
none-left e ls h = rw h refl

pub array-stated : (l : Linkage) (a : ArrayText) → IsIdentifier a.name → (is_extern l ≡ true → a.initial ≡ []) → IsStatedArray (array_of (record { linkage = l; text = a }))
array-stated l a name declared = record {
  name = name;
  initial = shortened-all (IsElement a.element) (map (element_of a.element) a.initial) (elements-fit a.element a.initial);
  shortest = shortened-ends (map (element_of a.element) a.initial);
  declared = λ e. none-left a.element a.initial (declared e);
}

-- ---- faultless structs have at most 8 fields

two-none : (o p : Option TypeFault) → first_of (o ∷ p ∷ []) ≡ None → (o ≡ None) × (p ≡ None)
two-none None None e = (refl, refl)
two-none None (Some f) e = absurd cc
two-none (Some f) p e = absurd cc

none-first : (o p q : Option TypeFault) → first_of (o ∷ p ∷ q ∷ []) ≡ None → o ≡ None
none-first None p q e = refl
none-first (Some f) p q e = absurd cc

each-none : {X : Type 0} (fault : ℕ → X → Option TypeFault) (P : X → Type 0) → ((n : ℕ) (x : X) → fault n x ≡ None → P x) → (n : ℕ) (xs : List X) → faults_from fault n xs ≡ None → All P xs
each-none fault P f n [] e = All-nil P
each-none fault P f n (x ∷ xs) e =
    let both = two-none (fault n x) (faults_from fault (n + 1) xs) e in
    All-cons P x xs (f n x both.0) (each-none fault P f (n + 1) xs both.1)

no-kind : (item place : ℕ) (o : Option TypeKind) → fault_at item place o ≡ None → o ≡ None
no-kind item place None e = refl
no-kind item place (Some k) e = absurd cc

third-holds : (a b c : Bool) (i j k : TypeKind) → first_failed ((a, i) ∷ (b, j) ∷ (c, k) ∷ []) ≡ None → c ≡ true
third-holds true true true i j k e = refl
third-holds true true false i j k e = absurd cc
third-holds true false c i j k e = absurd cc
third-holds false b c i j k e = absurd cc

within : (n : ℕ) → is_between 1 8 n ≡ true → n ≤ 8
within n e = grind (arith, nat_tests)

abbrev HasFewFields : StructDef → Type 0
HasFewFields s = length s.fields ≤ 8

struct-few : (m : Module) (place : ℕ) (s : StructDef) → struct_fault m place s ≡ None → HasFewFields s
struct-few m place s e = within (length s.fields) (third-holds _ _ (is_between 1 8 (length s.fields)) _ _ _ (no-kind place 0 _ e))

structs-few : (m : Module) → fault_of m ≡ None → All HasFewFields m.structs
structs-few m e = each-none (struct_fault m) HasFewFields (struct-few m) 0 m.structs (none-first (faults_from (struct_fault m) 0 m.structs) _ _ e)

-- ---- types of variables

abbrev HasFewTexts : StructText → Type 0
HasFewTexts s = length s.fields ≤ 8

length-fields : (fs : List FieldText) → length (map field_of fs) ≡ length fs
length-fields [] = refl
length-fields (f ∷ fs) = ap suc (length-fields fs)

texts-few : (ss : List StructText) → All HasFewFields (map struct_of ss) → All HasFewTexts ss
texts-few [] h = All-nil HasFewTexts
texts-few (s ∷ ss) h =
    All-cons HasFewTexts s ss (omega (arith, length-fields s.fields, All-head HasFewFields (struct_of s) (map struct_of ss) h)) (texts-few ss (All-tail HasFewFields (struct_of s) (map struct_of ss) h))

types-same : (fs : List FieldText) → map (λ field. field.ty) fs ≡ map (λ field. field.ty) (map field_of fs)
types-same [] = refl
types-same (f ∷ fs) = ap (λ (ts : List ScalarType). f.ty ∷ ts) (types-same fs)

abbrev types_at : Option StructText → List ScalarType
types_at o = option_map_or (λ s. map (λ field. field.ty) s.fields) o []

agrees-at : (o : Option StructText) (b : Bool) → (b ≡ true → o ≡ None) → IfSome o HasFewTexts
    → MatchOption (option_map struct_of o) (Unit {0}) (λ s. types_at (usable (if b then None else o)) ≡ map (λ field. field.ty) s.fields)
agrees-at None b f h = tt
agrees-at (Some s) true f h = absurd (let e = f refl in cc)
agrees-at (Some s) false f h = let e : nat_le (length s.fields) 8 ≡ true = le-leb (length s.fields) 8 h in rw e (types-same s.fields)

past-end : {X : Type 0} (xs : List X) (n : ℕ) (o : Option X) → length xs ≤ n → slice_get xs n ≡ o → o ≡ None
past-end xs n None h e = refl
past-end xs n (Some x) h e = absurd (omega (arith, slice_get_within xs n x e))

same-number : (n k : ℕ) → nat_eq n k ≡ true → n ≡ k
same-number n k e = grind (arith, nat_tests)

agrees : (ss : List StructText) → length ss ≤ nothing → All HasFewTexts ss → (ty : TheType) → AgreesIn (map struct_of ss) (var_type ss ty) (types_of ss ty)
agrees ss few h (types.Scalar ty) = refl
agrees ss few h (types.Struct tag) =
    let n = struct_number ss tag in
    rw (slice_get-map struct_of ss n)
    (agrees-at (slice_get ss n) (nat_eq n nothing) (λ e. past-end ss n (slice_get ss n) (omega (arith, same-number n nothing e)) refl) (all-at HasFewTexts ss n h))

pub types-agree : (m : Module) (ss : List StructText) → m.structs ≡ map struct_of ss → fault_of m ≡ None → length ss ≤ nothing → (ty : TheType) → AgreesIn (map struct_of ss) (var_type ss ty) (types_of ss ty)
types-agree m ss e faultless few ty = agrees ss few (texts-few ss (subst (All HasFewFields) e (structs-few m faultless))) ty
