-- A component of a checked function has the number that its place is read as.
use Rattle.std.proofs.Common.{◌≡◌, ◌+◌, ◌-◌, ◌<◌, ◌≤◌, ℕ, zero, suc, List, [], ◌∷◌, ◌++◌, length, map, take, min, true, false, inl, inr, refl, sym, ap, ap₂, ◌∙◌, arith, subst}
use Rattle.std.proofs.lemmas.List.{length-map, length-append}
use Rattle.std.specs.Prelude.{Option, Some, None, slice_get, sum_by}
use Rattle.std.specs.List.{flat_map, list_any}
use Rattle.std.specs.Option.{option_map_or}
use Rattle.std.specs.Str.{bytes_eq}
use Rattle.std.proofs.lemmas.Bool.{cases_lt}
use Rattle.std.proofs.lemmas.Option.{slice_get_within}
use Rattle.std.proofs.lemmas.List.Folds.{flat_map-map}
use Rattle.std.proofs.lemmas.Simd.{map-map}
use Rattle.std.proofs.lemmas.List.Concat.{flat_map-cons, length-flat_map}
use Rattle.std.proofs.lemmas.List.Sums.{sum_by-cons}
use Rattle.gimple_ir.specs.declared.types.ScalarType.{ScalarType}
use Rattle.gimple_ir.specs.declared.types.ScalarType.TheVariants.{Int, UnsignedInt, LongInt, LongUnsignedInt}
use Rattle.gimple_ir.specs.declared.types.VarType.{VarType}
use Rattle.gimple_ir.specs.declared.types.VarType.TheVariants as variable
use Rattle.gimple_ir.specs.declared.types.Operand.TheVariants.{Component}
use Rattle.gimple_ir.specs.declared.types.Field.{Field}
use Rattle.gimple_ir.specs.declared.types.StructDef.{StructDef}
use Rattle.gimple_ir.specs.declared.types.Variable.{Variable}
use Rattle.gimple_ir.specs.declared.types.Function.{Function}
use Rattle.gimple_ir.specs.declared.types.Module.{Module}
use Rattle.gimple_ir.specs.Names.{repeats}
use Rattle.gimple_ir.specs.Statements.{is_struct, component_types}
use Rattle.gimple_ir.specs.Programs.{IsChecked}
use Rattle.gimple_grammar.specs.declared.syntax.Place.{Place}
use Rattle.gimple_grammar.specs.declared.syntax.Declared.{Declared}
use Rattle.gimple_grammar.specs.declared.syntax.FieldText.{FieldText}
use Rattle.gimple_syntax.specs.declared.named.Named.TheVariants.{Unknown, Whole, Single}
use Rattle.gimple_syntax.specs.Numbers.{nothing, number_of}
use Rattle.gimple_syntax.specs.Places.{Names, types_of, first_component, field_at, variable_at, place_at, named_by, struct_named}
use Rattle.gimple_ir.specs.Lattices.{same_type}
use Rattle.gimple_syntax.specs.Statements.{component_types as types_read, has_type}
use Rattle.text_laws.specs.Syntax.{fields_of, place_of, places_of, places_by, types_by, struct_name, type_of, declared_of, field_of, struct_of, names_in, place_at as place_written, type_at}
use Rattle.text_laws.proofs.Finding.{number_is, item_at, is_first, place_is, any_of_map, same_bytes, some_is}
use Rattle.text_laws.proofs.Known.{known_struct, known_function}
use Rattle.text_laws.proofs.Variables.{map_at, standing, struct_found, AreTyped, few_variables}

-- ---- lists of lists

get_left : {X : Type 0} (xs ys : List X) (i : ℕ) → i < length xs → slice_get (xs ++ ys) i ≡ slice_get xs i
get_left [] ys i h = absurd (omega arith)
get_left (x ∷ xs) ys zero h = refl
get_left (x ∷ xs) ys (suc i) h = get_left xs ys i (omega arith)

get_right : {X : Type 0} (xs ys : List X) (i : ℕ) → slice_get (xs ++ ys) (length xs + i) ≡ slice_get ys i
get_right [] ys i = ap (slice_get ys) (omega arith)
get_right (x ∷ xs) ys i =
    let e : length (x ∷ xs) + i ≡ suc (length xs + i) = omega arith in
    ap (slice_get (x ∷ (xs ++ ys))) e ∙ get_right xs ys i

-- the list, and the place in it, where an element of all lists stands
pub record Within {X Y : Type 0} (g : X → List Y) (size : X → ℕ) (xs : List X) (k : ℕ) : Type 0 where
  pub number : ℕ
  pub item : X
  pub offset : ℕ
  pub here : slice_get xs number ≡ Some item
  pub inside : offset < length (g item)
  pub place : slice_get (flat_map g xs) k ≡ slice_get (g item) offset
  pub count : k ≡ sum_by size (take number xs) + offset

within_list : {X Y : Type 0} (g : X → List Y) (size : X → ℕ) (xs : List X) (k : ℕ)
    → ((i : ℕ) (x : X) → slice_get xs i ≡ Some x → size x ≡ length (g x)) → k < length (flat_map g xs) → Within g size xs k
within_list g size [] k sized h = absurd (omega arith)
within_list g size (x ∷ xs) k sized h =
    let cons = flat_map-cons g x xs in
    elim (cases_lt k (length (g x))) [
      | inl low ↦ record {
        number = 0;
        item = x;
        offset = k;
        here = refl;
        inside = low;
        place = ap (λ l. slice_get l k) cons ∙ get_left (g x) (flat_map g xs) k low;
        count = omega arith;
      }
      | inr high ↦
          let e : k ≡ length (g x) + (k - length (g x)) = omega (arith, high) in
          let w = within_list g size xs (k - length (g x)) (λ i y at. sized (suc i) y at)
          (omega (arith, high, h, ap length cons, length-append (g x) (flat_map g xs))) in
          record {
            number = suc w.number;
            item = w.item;
            offset = w.offset;
            here = w.here;
            inside = w.inside;
            place =
                ap (λ l. slice_get l k) cons ∙ ap (slice_get (g x ++ flat_map g xs)) e
                ∙ get_right (g x) (flat_map g xs) (k - length (g x)) ∙ w.place;
            count = omega (arith, e, w.count, sized 0 x refl, sum_by-cons size x (take w.number xs));
          }
    ]

-- ---- what is named in a function

-- its names, as they are read from its text
abbrev pub names_read : Module → Function → Names
names_read m f = record {
  structs = map struct_of m.structs;
  variables = map (declared_of m.structs) f.variables;
  labels = f.labels;
  arrays = map (λ a. a.name) m.arrays;
  functions = map (λ g. g.name) m.functions;
  arities = map (λ g. g.parameters) m.functions;
}

-- a name of a variable, and a field
pub variable_is : (m : Module) (n : ℕ) (f : Function) → IsChecked m → slice_get m.functions n ≡ Some f → AreTyped m f.variables
    → (v : ℕ) (w : Variable) → slice_get f.variables v ≡ Some w → (field : Option (List ℕ))
    → named_by (names_read m f) (place_of w.name field) ≡ variable_at (names_read m f) v (type_of m.structs w.ty) field
unfolding named_by
variable_is m n f checked here typed v w at field =
    let known = known_function m n f checked here in
    let low : v < 1024 = omega (arith, slice_get_within f.variables v w at, few_variables m f.variables typed, known.components) in
    let ds = map (declared_of m.structs) f.variables in
    ap (place_at (names_read m f) field)
    (ap (λ ns. number_of ns w.name) (map-map (λ (d : Declared). d.name) (declared_of m.structs) f.variables)
    ∙ number_is (map (λ (v : Variable). v.name) f.variables) v w.name (map_at (λ (v : Variable). v.name) f.variables v w at)
    (is_first (map (λ (v : Variable). v.name) f.variables) v w.name known.variables (map_at (λ (v : Variable). v.name) f.variables v w at)) (omega (arith, low)))
    ∙ ap (λ o. option_map_or (λ (d : Declared). variable_at (names_read m f) v d.ty field) o Unknown)
    (item_at ds v (omega (arith, low)) ∙ map_at (declared_of m.structs) f.variables v w at)

whole_by : (n : Names) (structs : List StructDef) (v : ℕ) (ty : VarType) → is_struct ty ≡ true → variable_at n v (type_of structs ty) None ≡ Whole v
whole_by n structs v (variable.Scalar ty) h = cc
whole_by n structs v (variable.Struct k) h = refl

pub whole_is : (m : Module) (n : ℕ) (f : Function) → IsChecked m → slice_get m.functions n ≡ Some f → AreTyped m f.variables
    → (v : ℕ) (w : Variable) → slice_get f.variables v ≡ Some w → is_struct w.ty ≡ true
    → named_by (names_read m f) (place_of w.name None) ≡ Whole v
whole_is m n f checked here typed v w at struct =
    variable_is m n f checked here typed v w at None ∙ whole_by (names_read m f) m.structs v w.ty struct

-- ---- components

-- the field of a struct
field_is : (n : Names) (v j : ℕ) (s : StructDef) (field : Field) → slice_get s.fields j ≡ Some field → repeats (map (λ (f : Field). f.name) s.fields) ≡ false
    → field_at n v field.name (Some (struct_of s)) ≡ Single (Component (min (first_component n v + j) nothing))
field_is n v j s field at distinct =
    let names = map (λ (f : Field). f.name) s.fields in
    let first : list_any (λ (f : FieldText). bytes_eq field.name f.name) (take j (map field_of s.fields)) ≡ false =
    any_of_map (bytes_eq field.name) (λ (f : FieldText). f.name) (map field_of s.fields) j
    ∙ ap (λ ns. list_any (bytes_eq field.name) (take j ns)) (map-map (λ (f : FieldText). f.name) field_of s.fields)
    ∙ is_first names j field.name distinct (map_at (λ (f : Field). f.name) s.fields j field at) in
    ap (λ o. option_map_or (λ place. Single (Component (min (first_component n v + place) nothing))) o Unknown)
    (place_is (λ (f : FieldText). bytes_eq field.name f.name) (map field_of s.fields) j (field_of field) (map_at field_of s.fields j field at) (same_bytes field.name) first)

-- a place of a variable, by its type
part_is : (m : Module) (n : Names) (v : ℕ) (name : List ℕ) (ty : VarType) (j : ℕ) (p : Place) → IsChecked m → n.structs ≡ map struct_of m.structs
    → first_component n v + j ≤ nothing
    → slice_get (places_by m.structs name ty) j ≡ Some p
    → (p ≡ place_of name p.field) × (variable_at n v (type_of m.structs ty) p.field ≡ Single (Component (first_component n v + j)))
part_is m n v name (variable.Scalar ty) zero p checked structs low here =
    let e : place_of name None ≡ p = some_is (place_of name None) p here in (
      subst (λ (q : Place). q ≡ place_of name q.field) e refl,
      ap (λ (q : Place). variable_at n v (type_of m.structs (variable.Scalar ty)) q.field) (sym e) ∙ ap (λ k. Single (Component k)) (omega arith),
    )
part_is m n v name (variable.Scalar ty) (suc j) p checked structs low here = cc
part_is m n v name (variable.Struct k) j p checked structs low here = by (slice_get m.structs k) refl
  where
    by : (o : Option StructDef) → slice_get m.structs k ≡ o → (p ≡ place_of name p.field) × (variable_at n v (type_of m.structs (variable.Struct k)) p.field ≡ Single (Component (first_component n v + j)))
    by None e =
        let none : slice_get (map (λ (field : Field). place_of name (Some field.name)) (fields_of m.structs k)) j ≡ None =
        ap (λ o. slice_get (map (λ (field : Field). place_of name (Some field.name)) (option_map_or (λ (s : StructDef). s.fields) o [])) j) e in
        cc
    by (Some s) e =
        let place = λ (field : Field). place_of name (Some field.name) in
        let at : slice_get (map place s.fields) j ≡ Some p = sym (ap (λ o. slice_get (map place (option_map_or (λ (s : StructDef). s.fields) o [])) j) e) ∙ here in
        let stands = standing s.fields j (omega (arith, slice_get_within (map place s.fields) j p at, length-map s.fields place)) in
        let field = stands.item in
        let is : place field ≡ p = some_is (place field) p (sym (map_at place s.fields j field stands.here) ∙ at) in
        let tag : struct_name m.structs k ≡ s.name = ap (λ o. option_map_or (λ (s : StructDef). s.name) o []) e in
        let named : struct_named n.structs (struct_name m.structs k) ≡ Some (struct_of s) =
        ap₂ struct_named structs tag ∙ struct_found m k s checked e in (
          subst (λ (q : Place). q ≡ place_of name q.field) is refl,
          ap (λ (q : Place). variable_at n v (type_of m.structs (variable.Struct k)) q.field) (sym is)
              ∙ ap (field_at n v field.name) named
              ∙ field_is n v j s field stands.here (known_struct m k s checked e).fields
              ∙ ap (λ k. Single (Component k)) (omega (arith, low)),
        )

-- ---- all components

flat_lengths : {X Y Z : Type 0} (g : X → List Y) (h : X → List Z) (xs : List X) → ((i : ℕ) (x : X) → slice_get xs i ≡ Some x → length (g x) ≡ length (h x))
    → length (flat_map g xs) ≡ length (flat_map h xs)
flat_lengths g h [] same = refl
flat_lengths g h (x ∷ xs) same =
    ap length (flat_map-cons g x xs) ∙ length-append (g x) (flat_map g xs)
    ∙ ap₂ (λ a b. a + b) (same 0 x refl) (flat_lengths g h xs (λ i y at. same (suc i) y at))
    ∙ sym (ap length (flat_map-cons h x xs) ∙ length-append (h x) (flat_map h xs))

flat_same : {X Y : Type 0} (g h : X → List Y) (xs : List X) → ((i : ℕ) (x : X) → slice_get xs i ≡ Some x → g x ≡ h x) → flat_map g xs ≡ flat_map h xs
flat_same g h [] same = refl
flat_same g h (x ∷ xs) same =
    flat_map-cons g x xs ∙ ap₂ (λ a b. a ++ b) (same 0 x refl) (flat_same g h xs (λ i y at. same (suc i) y at)) ∙ sym (flat_map-cons h x xs)

sum_of_map : {X Y : Type 0} (size : Y → ℕ) (k : X → Y) (xs : List X) (i : ℕ) → sum_by size (take i (map k xs)) ≡ sum_by (λ x. size (k x)) (take i xs)
sum_of_map size k [] zero = refl
sum_of_map size k [] (suc i) = refl
sum_of_map size k (x ∷ xs) zero = refl
sum_of_map size k (x ∷ xs) (suc i) =
    sum_by-cons size (k x) (take i (map k xs)) ∙ ap (λ n. size (k x) + n) (sum_of_map size k xs i) ∙ sym (sum_by-cons (λ x. size (k x)) x (take i xs))

places_many : (structs : List StructDef) (name : List ℕ) (ty : VarType) → length (places_by structs name ty) ≡ length (types_by structs ty)
places_many structs name (variable.Scalar ty) = refl
places_many structs name (variable.Struct k) =
    length-map (fields_of structs k) (λ (field : Field). place_of name (Some field.name)) ∙ sym (length-map (fields_of structs k) (λ (field : Field). field.ty))

pub component_is : (m : Module) (n : ℕ) (f : Function) → IsChecked m → slice_get m.functions n ≡ Some f → AreTyped m f.variables
    → (x : ℕ) → x < length (component_types f.variables)
    → named_by (names_read m f) (place_written (names_in m f) x) ≡ Single (Component x)
component_is m n f checked here typed x inside =
    let gn = names_read m f in
    let vs = f.variables in
    let size = λ (v : Variable). length (types_of (map struct_of m.structs) (type_of m.structs v.ty)) in
    let many : (i : ℕ) (v : Variable) → slice_get vs i ≡ Some v → length (places_of m.structs v) ≡ length v.types =
    λ i v at. places_many m.structs v.name v.ty ∙ ap length (typed i v at).own in
    let all : length (flat_map (places_of m.structs) vs) ≡ length (component_types vs) = flat_lengths (places_of m.structs) (λ (v : Variable). v.types) vs many in
    let few : x < 1024 = omega (arith, inside, length-flat_map (λ (v : Variable). v.types) vs, (known_function m n f checked here).components) in
    let w = within_list (places_of m.structs) size vs x (λ i v at. ap length (typed i v at).named ∙ sym (many i v at)) (omega (arith, all, inside)) in
    let s = standing (places_of m.structs w.item) w.offset w.inside in
    let first : first_component gn w.number ≡ min (sum_by size (take w.number vs)) nothing =
    ap (λ k. min k nothing) (sum_of_map (λ (d : Declared). length (types_of (map struct_of m.structs) d.ty)) (declared_of m.structs) vs w.number) in
    let counted : first_component gn w.number + w.offset ≡ x = omega (arith, first, w.count, few) in
    let part = part_is m gn w.number w.item.name w.item.ty w.offset s.item checked refl (omega (arith, counted, few)) s.here in
    ap (λ o. named_by gn (option_map_or (λ p. p) o (place_of [] None))) (w.place ∙ s.here)
    ∙ ap (named_by gn) part.0
    ∙ variable_is m n f checked here typed w.number w.item w.here s.item.field
    ∙ part.1 ∙ ap (λ k. Single (Component k)) counted

same_itself : (ty : ScalarType) → same_type ty ty ≡ true
same_itself Int = refl
same_itself UnsignedInt = refl
same_itself LongInt = refl
same_itself LongUnsignedInt = refl

pub type_is : (m : Module) (f : Function) → AreTyped m f.variables → (x : ℕ) → x < length (component_types f.variables)
    → has_type (names_read m f) (type_at (names_in m f) x) (Component x) ≡ true
type_is m f typed x inside =
    let vs = f.variables in
    let s = standing (component_types vs) x inside in
    let written : flat_map (λ (v : Variable). types_by m.structs v.ty) vs ≡ component_types vs =
    flat_same (λ (v : Variable). types_by m.structs v.ty) (λ (v : Variable). v.types) vs (λ i v at. (typed i v at).own) in
    let read : types_read (names_read m f) ≡ component_types vs =
    flat_map-map (λ (d : Declared). types_of (map struct_of m.structs) d.ty) (declared_of m.structs) vs
    ∙ flat_same (λ (v : Variable). types_of (map struct_of m.structs) (type_of m.structs v.ty)) (λ (v : Variable). v.types) vs (λ i v at. (typed i v at).named) in
    let own : type_at (names_in m f) x ≡ s.item = ap (λ o. option_map_or (λ ty. ty) o Int) (ap (λ l. slice_get l x) written ∙ s.here) in
    ap₂ (λ ty o. option_map_or (same_type ty) o false) own (ap (λ l. slice_get l x) read ∙ s.here) ∙ same_itself s.item
