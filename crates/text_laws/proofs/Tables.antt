-- What is printed of each component of a function is the text of the place that its syntax has.
use Rattle.std.proofs.Common.{◌≡◌, ℕ, zero, suc, ◌<◌, List, [], ◌∷◌, ◌++◌, length, Some, refl, ap, ◌∙◌, arith}
use Rattle.std.specs.Prelude.{map, slice_get}
use Rattle.std.specs.List.{flat_map, AllByRecursion}
use Rattle.gimple_ir.specs.declared.types.ScalarType.{ScalarType}
use Rattle.gimple_ir.specs.declared.types.VarType.{VarType}
use Rattle.gimple_ir.specs.declared.types.VarType.TheVariants.{Scalar, Struct}
use Rattle.gimple_ir.specs.declared.types.Field.{Field}
use Rattle.gimple_ir.specs.declared.types.StructDef.{StructDef}
use Rattle.gimple_ir.specs.declared.types.Variable.{Variable}
use Rattle.gimple_ir.specs.declared.types.Function.{Function}
use Rattle.gimple_ir.specs.declared.types.Module.{Module}
use Rattle.gimple_ir.specs.Programs.{IsIdentifier}
use Rattle.gimple_grammar.specs.declared.syntax.Place.{Place}
use Rattle.gimple_print.specs.declared.places.Place.{Place as Printed}
use Rattle.gimple_print.specs.Words.{scalar_text}
use Rattle.gimple_print.specs.Places.{field_place, places_by as printed_by, places_of as printed_of}
use Rattle.gimple_print.specs.Statements.{names_in as printed_in}
use Rattle.text_laws.specs.Syntax.{fields_of, place_of, places_by, places_of, types_by, names_in}
use Rattle.text_laws.proofs.Pieces.{place_text, IsField}
use Rattle.text_laws.proofs.StatementTexts.{HasPlace}

-- ---- tables

pub record IsRow (p : Printed) (q : Place) (t : ScalarType) : Type 0 where
  pub text : p.text ≡ place_text q.name q.field
  pub name : IsIdentifier q.name
  pub field : IsField q.field
  pub ty : p.ty ≡ t

-- as many of each, and they agree one by one
abbrev pub Agree : List Printed → List Place → List ScalarType → Type 0
Agree [] [] [] = Unit {0}
Agree (p ∷ ps) (q ∷ qs) (t ∷ ts) = IsRow p q t × Agree ps qs ts
Agree [] [] (t ∷ ts) = ⊥
Agree [] (q ∷ qs) ts = ⊥
Agree (p ∷ ps) [] ts = ⊥
Agree (p ∷ ps) (q ∷ qs) [] = ⊥

agree-append : (ps : List Printed) (qs : List Place) (ts : List ScalarType) (ps' : List Printed) (qs' : List Place) (ts' : List ScalarType) → Agree ps qs ts → Agree ps' qs' ts' → Agree (ps ++ ps') (qs ++ qs') (ts ++ ts')
agree-append [] [] [] ps' qs' ts' h k = k
agree-append (p ∷ ps) (q ∷ qs) (t ∷ ts) ps' qs' ts' h k = (h.0, agree-append ps qs ts ps' qs' ts' h.1 k)
agree-append [] [] (t ∷ ts) ps' qs' ts' h k = absurd h
agree-append [] (q ∷ qs) ts ps' qs' ts' h k = absurd h
agree-append (p ∷ ps) [] ts ps' qs' ts' h k = absurd h
agree-append (p ∷ ps) (q ∷ qs) [] ps' qs' ts' h k = absurd h

record Found (ps : List Printed) (qs : List Place) (ts : List ScalarType) (x : ℕ) : Type 0 where
  p : Printed
  q : Place
  t : ScalarType
  is_p : slice_get ps x ≡ Some p
  is_q : slice_get qs x ≡ Some q
  is_t : slice_get ts x ≡ Some t
  row : IsRow p q t

found : (ps : List Printed) (qs : List Place) (ts : List ScalarType) (x : ℕ) → Agree ps qs ts → x < length ts → Found ps qs ts x
found [] [] [] x h less = absurd (omega (arith, less))
found (p ∷ ps) (q ∷ qs) (t ∷ ts) zero h less = record { p = p; q = q; t = t; is_p = refl; is_q = refl; is_t = refl; row = h.0 }
found (p ∷ ps) (q ∷ qs) (t ∷ ts) (suc x) h less =
    let f = found ps qs ts x h.1 (omega (arith, less)) in
    record { p = f.p; q = f.q; t = f.t; is_p = f.is_p; is_q = f.is_q; is_t = f.is_t; row = f.row }
found [] [] (t ∷ ts) x h less = absurd h
found [] (q ∷ qs) ts x h less = absurd h
found (p ∷ ps) [] ts x h less = absurd h
found (p ∷ ps) (q ∷ qs) [] x h less = absurd h

-- ---- the tables of a function

abbrev pub HasNamedFields : StructDef → Type 0
HasNamedFields s = AllByRecursion (λ field. IsIdentifier field.name) s.fields

fields-named : (structs : List StructDef) (n : ℕ) → AllByRecursion HasNamedFields structs → AllByRecursion (λ field. IsIdentifier field.name) (fields_of structs n)
fields-named [] n h = tt
fields-named (s ∷ structs) zero h = h.0
fields-named (s ∷ structs) (suc n) h = fields-named structs n h.1

agree-fields : (n : List ℕ) (fields : List Field) → IsIdentifier n → AllByRecursion (λ field. IsIdentifier field.name) fields
    → Agree (map (field_place n) fields) (map (λ field. place_of n (Some field.name)) fields) (map (λ field. field.ty) fields)
agree-fields n [] h k = tt
agree-fields n (field ∷ fields) h k = (record { text = refl; name = h; field = k.0; ty = refl }, agree-fields n fields h k.1)

agree-variable : (structs : List StructDef) (n : List ℕ) (ty : VarType) → IsIdentifier n → AllByRecursion HasNamedFields structs → Agree (printed_by structs n ty) (places_by structs n ty) (types_by structs ty)
agree-variable structs n (Scalar ty) h k = (record { text = refl; name = h; field = tt; ty = refl }, tt)
agree-variable structs n (Struct s) h k = agree-fields n (fields_of structs s) h (fields-named structs s k)

agree-variables : (structs : List StructDef) (vs : List Variable) → AllByRecursion (λ v. IsIdentifier v.name) vs → AllByRecursion HasNamedFields structs
    → Agree (printed_of structs vs) (flat_map (places_of structs) vs) (flat_map (λ v. types_by structs v.ty) vs)
agree-variables structs [] h k = tt
agree-variables structs (v ∷ vs) h k =
    agree-append (printed_by structs v.name v.ty) (places_by structs v.name v.ty) (types_by structs v.ty) (printed_of structs vs) (flat_map (places_of structs) vs) (flat_map (λ w. types_by structs w.ty) vs)
    (agree-variable structs v.name v.ty h.0 k) (agree-variables structs vs h.1 k)

-- each number below the count names a component
pub has_place : (m : Module) (f : Function) (x : ℕ) → AllByRecursion (λ v. IsIdentifier v.name) f.variables → AllByRecursion HasNamedFields m.structs → x < length (names_in m f).types → HasPlace m f x
has_place m f x h k less =
    let g = found (printed_in m f).places (names_in m f).places (names_in m f).types x (agree-variables m.structs f.variables h k) less in
    record {
      text = rw (g.is_p, g.is_q) g.row.text;
      name = rw g.is_q g.row.name;
      field = rw g.is_q g.row.field;
      ty = rw (g.is_p, g.is_t) (ap scalar_text g.row.ty);
    }

pub types_agree : (structs : List StructDef) (vs : List Variable) → AllByRecursion (λ v. v.types ≡ types_by structs v.ty) vs → flat_map (λ v. v.types) vs ≡ flat_map (λ v. types_by structs v.ty) vs
types_agree structs [] h = refl
types_agree structs (v ∷ vs) h = ap (λ l. l ++ flat_map (λ w. w.types) vs) h.0 ∙ ap (λ l. types_by structs v.ty ++ l) (types_agree structs vs h.1)
