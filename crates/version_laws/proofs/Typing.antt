-- The types of components, operands, fields and arguments of a version are those of its function.
use Rattle.std.proofs.Common.{◌≡◌, ◌+◌, ◌<◌, ◌≤◌, ℕ, zero, suc, List, [], ◌∷◌, ◌++◌, length, map, take, drop, true, false, true≢false, Some, None, refl, sym, ap, ap₂, ◌∙◌, subst, arith, take-append-drop}
use Rattle.std.specs.Prelude.{All, Decides, Option, slice_get, unwrap_or}
use Rattle.std.specs.List.{flat_map, list_all, zip}
use Rattle.std.specs.Option.{option_map_or}
use Rattle.std.specs.Cmp.Lexicographic.{pointwise, pointwise_decides}
use Rattle.std.proofs.lemmas.Option.{none-some, same_Some}
use Rattle.std.proofs.lemmas.Grind.{flat_map-append}
use Rattle.std.proofs.lemmas.List.{map-append}
use Rattle.std.proofs.lemmas.List.Elements.{All-nil, All-cons}
use Rattle.std.proofs.lemmas.List.Sums.{sum_by-cons}
use Rattle.gimple_ir.specs.declared.types.ScalarType.{ScalarType}
use Rattle.gimple_ir.specs.declared.types.ScalarType.TheVariants.{Int, UnsignedInt, LongInt, LongUnsignedInt}
use Rattle.gimple_ir.specs.declared.types.Operand.{Operand}
use Rattle.gimple_ir.specs.declared.types.Operand.TheVariants.{Component, Literal}
use Rattle.gimple_ir.specs.declared.types.Arg.{Arg}
use Rattle.gimple_ir.specs.declared.types.Arg.TheVariants.{One, Whole}
use Rattle.gimple_ir.specs.declared.types.Variable.{Variable}
use Rattle.gimple_ir.specs.declared.types.Function.{Function}
use Rattle.gimple_ir.specs.declared.types.Program.{Program}
use Rattle.gimple_ir.specs.declared.plan.Version.{Version}
use Rattle.gimple_ir.specs.declared.plan.Plan.{Plan}
use Rattle.gimple_ir.specs.declared.merged.Merged.{Merged}
use Rattle.gimple_ir.specs.declared.versioned.Pair.{Pair}
use Rattle.gimple_ir.specs.declared.versioned.VersionedFunction.{VersionedFunction}
use Rattle.gimple_ir.specs.CodeBound.{components_of}
use Rattle.gimple_ir.specs.Lattices.{same_type}
use Rattle.gimple_ir.specs.Statements.{ByTypes, component_types, knows_operand, is_struct, structs_fit, whole_fits, argument_fits, alike}
use Rattle.gimple_ir.specs.Statements as source
use Rattle.gimple_ir.specs.Programs.{IsOperand, scope_of}
use Rattle.gimple_meaning.specs.Source.{first_component, components_from, pairs_from, struct_pairs, operands_of}
use Rattle.func_summary.proofs.Checked.{both-true, below, same_type-is}
use Rattle.gimple_meaning.specs.Versioned.{type_of, type_of_component}
use Rattle.program_link.proofs.Facts.{three_true}
use Rattle.version_laws.proofs.Lists.{there}
use Rattle.version_laws.proofs.Standing.{version_at}
use Rattle.version_laws.proofs.Bodies.{types_same}

-- ---- lists

pub get_front : {X : Type 0} (xs ys : List X) (i : ℕ) → i < length xs → slice_get (xs ++ ys) i ≡ slice_get xs i
get_front [] ys i lt = absurd (omega (arith, lt))
get_front (x ∷ xs) ys zero lt = refl
get_front (x ∷ xs) ys (suc i) lt = get_front xs ys i (omega (arith, lt))

get_back : {X : Type 0} (xs ys : List X) (k i : ℕ) → i ≡ length xs + k → slice_get (xs ++ ys) i ≡ slice_get ys k
get_back [] ys k i is = let same : i ≡ k = omega (arith, is) in ap (slice_get ys) same
get_back (x ∷ xs) ys k zero is = absurd (omega (arith, is))
get_back (x ∷ xs) ys k (suc i) is = get_back xs ys k i (omega (arith, is))

-- ---- components and operands

pub component_type : (p : Program) (merged : Merged) (plan : Plan) (v : Version) (f : Function) (x : ℕ) (ty : ScalarType) → slice_get (component_types f.variables) x ≡ Some ty → type_of_component (version_at p merged plan v f) x ≡ ty
component_type p merged plan v f x ty here =
    ap (λ (types : List ScalarType). unwrap_or (slice_get types x) Int) (types_same f.variables) ∙ ap (λ (o : Option ScalarType). unwrap_or o Int) here

pub operand_type : (p : Program) (merged : Merged) (plan : Plan) (v : Version) (f : Function) (a : Operand) (ty : ScalarType) → source.type_of (scope_of p f) a ≡ Some ty → type_of (version_at p merged plan v f) a ≡ ty
operand_type p merged plan v f (Component x) ty here = component_type p merged plan v f x ty here
operand_type p merged plan v f (Literal x) ty here = same_Some x.ty ty here

pub alike_is : (x y : Option ScalarType) → alike x y ≡ true → (ty : ScalarType) × (x ≡ Some ty) × (y ≡ Some ty)
alike_is (Some a) (Some b) h = (a, refl, ap (λ (t : ScalarType). Some t) (sym (same_type-is a b h)))
alike_is (Some a) None h = absurd (true≢false (sym h))
alike_is None y h = absurd (true≢false (sym h))

pub operands_alike : (p : Program) (merged : Merged) (plan : Plan) (v : Version) (f : Function) (a b : Operand) → alike (source.type_of (scope_of p f) a) (source.type_of (scope_of p f) b) ≡ true
    → type_of (version_at p merged plan v f) a ≡ type_of (version_at p merged plan v f) b
operands_alike p merged plan v f a b h =
    let r = alike_is (source.type_of (scope_of p f) a) (source.type_of (scope_of p f) b) h in
    operand_type p merged plan v f a r.0 r.1 ∙ sym (operand_type p merged plan v f b r.0 r.2)

pub known_type : (p : Program) (merged : Merged) (plan : Plan) (v : Version) (f : Function) (a : Operand) → knows_operand (scope_of p f) a ≡ true → source.type_of (scope_of p f) a ≡ Some (type_of (version_at p merged plan v f) a)
known_type p merged plan v f (Component x) h =
    let r = there (component_types f.variables) x (below x (length (component_types f.variables)) h) in
    r.1 ∙ ap (λ (t : ScalarType). Some t) (sym (component_type p merged plan v f x r.0 r.1))
known_type p merged plan v f (Literal x) h = refl

-- ---- fields

pub field_type : (vs : List Variable) (x : ℕ) (w : Variable) → slice_get vs x ≡ Some w → (j : ℕ) → j < length w.types
    → slice_get (component_types vs) (first_component vs x + j) ≡ slice_get w.types j
field_type [] x w here j lt = absurd (none-some w here)
field_type (y ∷ ys) zero w here j lt =
    let same : y ≡ w = same_Some y w here in
    let first : first_component (y ∷ ys) zero + j ≡ j = omega arith in
    ap (slice_get (component_types (y ∷ ys))) first
    ∙ ap (λ (z : Variable). slice_get (z.types ++ component_types ys) j) same ∙ get_front w.types (component_types ys) j lt
field_type (y ∷ ys) (suc x) w here j lt =
    get_back y.types (component_types ys) (first_component ys x + j) (first_component (y ∷ ys) (suc x) + j)
    (omega (arith, sum_by-cons (λ (v : Variable). length v.types) y (take x ys)))
    ∙ field_type ys x w here j lt

-- a variable's components have the types of its fields
pub fields_typed : (p : Program) (merged : Merged) (plan : Plan) (v : Version) (f : Function) (x : ℕ) (w : Variable) → slice_get f.variables x ≡ Some w → (j : ℕ) (ty : ScalarType) → slice_get w.types j ≡ Some ty → j < length w.types
    → type_of_component (version_at p merged plan v f) (first_component f.variables x + j) ≡ ty
fields_typed p merged plan v f x w here j ty at lt = component_type p merged plan v f (first_component f.variables x + j) ty (field_type f.variables x w here j lt ∙ at)

components_typed : (v : VersionedFunction) (first : ℕ) (types : List ScalarType) → ((j : ℕ) (ty : ScalarType) → slice_get types j ≡ Some ty → j < length types → type_of_component v (first + j) ≡ ty)
    → map (type_of v) (components_from first (length types)) ≡ types
components_typed v first [] each = refl
components_typed v first (t ∷ types) each =
    let begins : first ≡ first + 0 = omega arith in
    let some : 0 < suc (length types) = omega arith in
    ap₂ (λ (x : ScalarType) (xs : List ScalarType). x ∷ xs) (ap (type_of_component v) begins ∙ each 0 t refl some)
    (components_typed v (first + 1) types
    (λ j ty at lt. let next : first + 1 + j ≡ first + suc j = omega arith in ap (type_of_component v) next ∙ each (suc j) ty at (omega (arith, lt))))

count_is : (vs : List Variable) (x : ℕ) (w : Variable) → slice_get vs x ≡ Some w → components_of vs x ≡ length w.types
count_is vs x w here = ap (λ o. option_map_or (λ (v : Variable). length v.types) o 0) here

-- ---- structs

same_type-itself : (a : ScalarType) → same_type a a ≡ true
same_type-itself Int = refl
same_type-itself UnsignedInt = refl
same_type-itself LongInt = refl
same_type-itself LongUnsignedInt = refl

types_decide : (a b : ScalarType) → Decides (same_type a b) (a ≡ b)
types_decide a b = (same_type-is a b, λ (e : a ≡ b). subst (λ (t : ScalarType). same_type a t ≡ true) e (same_type-itself a))

pub same_types : (xs ys : List ScalarType) → pointwise same_type xs ys ≡ true → xs ≡ ys
same_types xs ys h = (pointwise_decides types_decide xs ys).0 h

abbrev PairTyped : VersionedFunction → Pair → Type 0
PairTyped v c = IsOperand c.from × (type_of v c.from ≡ type_of_component v c.to)

pairs_typed : (v : VersionedFunction) (to from n : ℕ) → ((j : ℕ) → j < n → type_of_component v (from + j) ≡ type_of_component v (to + j)) → All (PairTyped v) (pairs_from to from n)
pairs_typed v to from zero each = All-nil (PairTyped v)
pairs_typed v to from (suc n) each =
    let begins : from ≡ from + 0 = omega arith in
    let goes : to + 0 ≡ to = omega arith in
    let some : 0 < suc n = omega arith in
    All-cons (PairTyped v) (record { to = to; from = Component from }) (pairs_from (to + 1) (from + 1) n)
    (tt, ap (type_of_component v) begins ∙ each 0 some ∙ ap (type_of_component v) goes)
    (pairs_typed v (to + 1) (from + 1) n
    (λ j lt.
    let next : from + 1 + j ≡ from + suc j = omega arith in
    let after : to + suc j ≡ to + 1 + j = omega arith in
    ap (type_of_component v) next ∙ each (suc j) (omega (arith, lt)) ∙ ap (type_of_component v) after))

pub copies_typed : (p : Program) (merged : Merged) (plan : Plan) (v : Version) (f : Function) (to from : ℕ) (o q : Option Variable) → slice_get f.variables to ≡ o → slice_get f.variables from ≡ q
    → option_map_or (λ x. option_map_or (structs_fit ByTypes x) q false) o false ≡ true → All (PairTyped (version_at p merged plan v f)) (struct_pairs f.variables to from)
copies_typed p merged plan v f to from None q e g h = absurd (true≢false (sym h))
copies_typed p merged plan v f to from (Some x) None e g h = absurd (true≢false (sym h))
copies_typed p merged plan v f to from (Some x) (Some y) e g h =
    let same = same_types x.types y.types (three_true (is_struct x.ty) (is_struct y.ty) (pointwise same_type x.types y.types) h).2 in
    pairs_typed (version_at p merged plan v f) (first_component f.variables to) (first_component f.variables from) (components_of f.variables from)
    (λ j lt.
    let inside : j < length y.types = omega (arith, lt, count_is f.variables from y g) in
    let r = there y.types j inside in
    let within : j < length x.types = omega (arith, inside, ap (λ (ts : List ScalarType). length ts) same) in
    fields_typed p merged plan v f from y g j r.0 r.1 inside
    ∙ sym (fields_typed p merged plan v f to x e j r.0 (ap (λ (ts : List ScalarType). slice_get ts j) same ∙ r.1) within))

-- ---- arguments

one_typed : (p : Program) (merged : Merged) (plan : Plan) (v : Version) (f : Function) (a : Operand) (w : Variable) (o : Option ScalarType) → source.type_of (scope_of p f) a ≡ o
    → option_map_or (λ ty. pointwise same_type (ty ∷ []) w.types) o false ≡ true → type_of (version_at p merged plan v f) a ∷ [] ≡ w.types
one_typed p merged plan v f a w None e h = absurd (true≢false (sym h))
one_typed p merged plan v f a w (Some ty) e h = ap (λ (t : ScalarType). t ∷ []) (operand_type p merged plan v f a ty e) ∙ same_types (ty ∷ []) w.types h

whole_typed : (p : Program) (merged : Merged) (plan : Plan) (v : Version) (f : Function) (x : ℕ) (w : Variable) (o : Option Variable) → slice_get f.variables x ≡ o
    → option_map_or (λ y. whole_fits ByTypes y w) o false ≡ true → map (type_of (version_at p merged plan v f)) (components_from (first_component f.variables x) (components_of f.variables x)) ≡ w.types
whole_typed p merged plan v f x w None e h = absurd (true≢false (sym h))
whole_typed p merged plan v f x w (Some y) e h =
    ap (λ (n : ℕ). map (type_of (version_at p merged plan v f)) (components_from (first_component f.variables x) n)) (count_is f.variables x y e)
    ∙ components_typed (version_at p merged plan v f) (first_component f.variables x) y.types (fields_typed p merged plan v f x y e)
    ∙ same_types y.types w.types (both-true (is_struct y.ty) (pointwise same_type y.types w.types) h).1

argument_typed : (p : Program) (merged : Merged) (plan : Plan) (v : Version) (f : Function) (a : Arg) (w : Variable) → argument_fits (scope_of p f) a w ≡ true
    → map (type_of (version_at p merged plan v f)) (operands_of f.variables a) ≡ w.types
argument_typed p merged plan v f (One a) w h = one_typed p merged plan v f a w (source.type_of (scope_of p f) a) refl h
argument_typed p merged plan v f (Whole x) w h = whole_typed p merged plan v f x w (slice_get f.variables x) refl h

pub arguments_typed : (p : Program) (merged : Merged) (plan : Plan) (v : Version) (f : Function) (args : List Arg) (ws : List Variable) → length args ≤ length ws
    → list_all (λ pair. argument_fits (scope_of p f) pair.0 pair.1) (zip args ws) ≡ true
    → map (type_of (version_at p merged plan v f)) (flat_map (operands_of f.variables) args) ≡ flat_map (λ (w : Variable). w.types) (take (length args) ws)
arguments_typed p merged plan v f [] [] few h = refl
arguments_typed p merged plan v f [] (w ∷ ws) few h = refl
arguments_typed p merged plan v f (a ∷ args) [] few h = absurd (omega (arith, few))
arguments_typed p merged plan v f (a ∷ args) (w ∷ ws) few h =
    let both = both-true (argument_fits (scope_of p f) a w) (list_all (λ pair. argument_fits (scope_of p f) pair.0 pair.1) (zip args ws)) h in
    map-append (type_of (version_at p merged plan v f)) (operands_of f.variables a) (flat_map (operands_of f.variables) args)
    ∙ ap₂ (λ (xs ys : List ScalarType). xs ++ ys) (argument_typed p merged plan v f a w both.0) (arguments_typed p merged plan v f args ws (omega (arith, few)) both.1)

-- the components of parameters stand first
pub front_types : (ws : List Variable) (n i : ℕ) → i < length (flat_map (λ (w : Variable). w.types) (take n ws)) → slice_get (component_types ws) i ≡ slice_get (flat_map (λ (w : Variable). w.types) (take n ws)) i
front_types ws n i lt =
    let types = λ (w : Variable). w.types in
    ap (λ (xs : List Variable). slice_get (flat_map types xs) i) (sym (take-append-drop n ws))
    ∙ ap (λ (xs : List ScalarType). slice_get xs i) (flat_map-append types (take n ws) (drop n ws))
    ∙ get_front (flat_map types (take n ws)) (flat_map types (drop n ws)) i lt
