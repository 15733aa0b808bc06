-- The variables of a checked function are those that their declarations stand for.
use Rattle.std.proofs.Common.{◌≡◌, ◌<◌, ◌≤◌, ℕ, zero, suc, List, [], ◌∷◌, length, map, true, refl, sym, ap, ap₂, ◌∙◌, arith, subst}
use Rattle.std.proofs.lemmas.List.{length-map}
use Rattle.std.proofs.lemmas.Simd.{map-map}
use Rattle.std.specs.Prelude.{Some, slice_get, nat_le, MatchOption}
use Rattle.std.specs.Option.{option_map, option_map_or}
use Rattle.std.proofs.lemmas.Bool.Decides.{nat_tests}
use Rattle.std.proofs.lemmas.Option.{slice_get-map, slice_get_within}
use Rattle.std.proofs.lemmas.List.Sums.{sum_by-cons}
use Rattle.gimple_ir.specs.declared.types.ScalarType.{ScalarType}
use Rattle.gimple_ir.specs.declared.types.VarType.{VarType}
use Rattle.gimple_ir.specs.declared.types.VarType.TheVariants as variable
use Rattle.gimple_ir.specs.declared.types.Field.{Field}
use Rattle.gimple_ir.specs.declared.types.StructDef.{StructDef}
use Rattle.gimple_ir.specs.declared.types.Variable.{Variable}
use Rattle.gimple_ir.specs.declared.types.Function.{Function}
use Rattle.gimple_ir.specs.declared.types.Module.{Module}
use Rattle.gimple_ir.specs.CodeBound.{components_in}
use Rattle.gimple_ir.specs.Checks.{knows_struct}
use Rattle.gimple_ir.specs.Programs.{IsChecked, IsIdentifier, AgreesIn, IsStatedFunction}
use Rattle.gimple_grammar.specs.declared.syntax.FieldText.{FieldText}
use Rattle.gimple_grammar.specs.declared.syntax.StructText.{StructText}
use Rattle.gimple_syntax.specs.Numbers.{number_of, at_number}
use Rattle.gimple_syntax.specs.Places.{struct_number, usable, struct_named, var_type, types_of, variable_of}
use Rattle.text_laws.specs.Syntax.{fields_of, types_by, struct_name, type_of, declared_of, field_of, struct_of}
use Rattle.text_laws.proofs.Finding.{number_is, item_at}
use Rattle.text_laws.proofs.Known.{each_of, list_all_at, below_true, known_struct, known_function}

pub map_at : {X Y : Type 0} (f : X → Y) (xs : List X) (i : ℕ) (x : X) → slice_get xs i ≡ Some x → slice_get (map f xs) i ≡ Some (f x)
map_at f xs i x here = slice_get-map f xs i ∙ ap (option_map f) here

-- what stands at a place
pub record Standing {X : Type 0} (xs : List X) (i : ℕ) : Type 0 where
  pub item : X
  pub here : slice_get xs i ≡ Some item

pub standing : {X : Type 0} (xs : List X) (i : ℕ) → i < length xs → Standing xs i
standing [] i h = absurd (omega arith)
standing (x ∷ xs) zero h = record { item = x; here = refl }
standing (x ∷ xs) (suc i) h = let s = standing xs i (omega arith) in record { item = s.item; here = s.here }

-- ---- structs

pub struct_is : (m : Module) (n : ℕ) (s : StructDef) → IsChecked m → slice_get m.structs n ≡ Some s → struct_number (map struct_of m.structs) s.name ≡ n
struct_is m n s checked here =
    ap (λ ns. number_of ns s.name) (map-map (λ (s : StructText). s.name) struct_of m.structs)
    ∙ number_is (map (λ t. t.name) m.structs) n s.name (map_at (λ t. t.name) m.structs n s here) (known_struct m n s checked here).first
    (omega (arith, slice_get_within m.structs n s here, checked.stated.items))

usable_is : (s : StructDef) → length s.fields ≤ 8 → usable (Some (struct_of s)) ≡ Some (struct_of s)
usable_is s h =
    let e : nat_le (length (map field_of s.fields)) 8 ≡ true = grind (arith, nat_tests, length-map s.fields field_of) in rw e refl

pub struct_found : (m : Module) (n : ℕ) (s : StructDef) → IsChecked m → slice_get m.structs n ≡ Some s
    → struct_named (map struct_of m.structs) s.name ≡ Some (struct_of s)
struct_found m n s checked here =
    ap (λ k. usable (at_number (map struct_of m.structs) k)) (struct_is m n s checked here)
    ∙ ap usable (item_at (map struct_of m.structs) n (omega (arith, slice_get_within m.structs n s here, checked.stated.items)) ∙ map_at struct_of m.structs n s here)
    ∙ usable_is s (known_struct m n s checked here).few

-- ---- types

pub record IsTyped (m : Module) (ty : VarType) (types : List ScalarType) : Type 0 where
  pub number : var_type (map struct_of m.structs) (type_of m.structs ty) ≡ ty
  pub named : types_of (map struct_of m.structs) (type_of m.structs ty) ≡ types
  pub own : types_by m.structs ty ≡ types
  pub some : 1 ≤ length types

is_typed : (m : Module) (ty : VarType) (types : List ScalarType) → IsChecked m → knows_struct (length m.structs) ty ≡ true → AgreesIn m.structs ty types
    → IsTyped m ty types
is_typed m (variable.Scalar ty) types checked knows agrees = record { number = refl; named = sym agrees; own = sym agrees; some = rw agrees (omega arith) }
is_typed m (variable.Struct n) types checked knows agrees =
    let at = standing m.structs n (below_true n (length m.structs) knows) in
    let s = at.item in
    let name : struct_name m.structs n ≡ s.name = ap (λ o. option_map_or (λ (s : StructDef). s.name) o []) at.here in
    let fields : fields_of m.structs n ≡ s.fields = ap (λ o. option_map_or (λ (s : StructDef). s.fields) o []) at.here in
    let are : types ≡ map (λ field. field.ty) s.fields = subst (λ o. MatchOption o (Unit {0}) (λ (s : StructDef). types ≡ map (λ field. field.ty) s.fields)) at.here agrees in
    record {
      number = ap (λ k. variable.Struct k) (ap (struct_number (map struct_of m.structs)) name ∙ struct_is m n s checked at.here);
      named =
          ap (λ o. option_map_or (λ (s : StructText). map (λ field. field.ty) s.fields) o []) (ap (struct_named (map struct_of m.structs)) name ∙ struct_found m n s checked at.here)
          ∙ map-map (λ (f : FieldText). f.ty) field_of s.fields ∙ sym are;
      own = ap (map (λ (field : Field). field.ty)) fields ∙ sym are;
      some = omega (arith, (known_struct m n s checked at.here).some, ap length are, length-map s.fields (λ (field : Field). field.ty));
    }

-- ---- variables

abbrev pub AreTyped : Module → List Variable → Type 0
AreTyped m vs = (i : ℕ) (v : Variable) → slice_get vs i ≡ Some v → IsTyped m v.ty v.types

pub all_typed : (m : Module) (n : ℕ) (f : Function) → IsChecked m → slice_get m.functions n ≡ Some f → AreTyped m f.variables
all_typed m n f checked here i v at =
    let stated = each_of (IsStatedFunction m.structs) m.functions checked.stated.functions n f here in
    is_typed m v.ty v.types checked
    (list_all_at (λ (v : Variable). knows_struct (length m.structs) v.ty) f.variables (known_function m n f checked here).structs i v at)
    (each_of (λ (v : Variable). IsIdentifier v.name × AgreesIn m.structs v.ty v.types) f.variables stated.variables i v at).1

pub variables_are : (m : Module) (vs : List Variable) → AreTyped m vs → map (variable_of (map struct_of m.structs)) (map (declared_of m.structs) vs) ≡ vs
variables_are m [] typed = refl
variables_are m (v ∷ vs) typed =
    let first = typed 0 v refl in
    let same : variable_of (map struct_of m.structs) (declared_of m.structs v) ≡ v = ap₂ (λ t u. record { name = v.name; ty = t; types = u }) first.number first.named in
    ap₂ (λ w ws. w ∷ ws) same (variables_are m vs (λ i w at. typed (suc i) w at))

-- each has a component
pub few_variables : (m : Module) (vs : List Variable) → AreTyped m vs → length vs ≤ components_in vs
few_variables m [] typed = omega arith
few_variables m (v ∷ vs) typed =
    omega (arith, (typed 0 v refl).some, few_variables m vs (λ i w at. typed (suc i) w at), sum_by-cons (λ (v : Variable). length v.types) v vs)
