-- Structs, arrays, functions and modules: what is read is spelled so, and what is spelled so is read.
use Rattle.std.proofs.Common.{◌≡◌, ℕ, zero, suc, ◌^◌, ◌<◌, ◌≤◌, Bool, true, false, cond, eqb, List, [], ◌∷◌, ◌++◌, length, take, drop, Option, Some, None, Result, Ok, refl, sym, ap, ap₂, subst, ◌∙◌, arith}
use Rattle.std.specs.Prelude.{ℤ, All, IfOk, MatchOption, slice_get, map}
use Rattle.std.specs.Option.{option_map_or}
use Rattle.std.proofs.Math.Seq.{take-length}
use Rattle.std.proofs.lemmas.Bool.{eqb-true}
use Rattle.std.proofs.lemmas.List.{length-take, length-take-le, drop_all, take-append-drop}
use Rattle.std.proofs.lemmas.List.Elements.{All-nil, All-append, All-take, All-drop, All-weaker}
use Rattle.cursors.specs.Cursor.{Cursor, at, offset_of}
use Rattle.cursors.specs.Leb128.{uleb_of}
use Rattle.cursors.proofs.Leb128Laws.{IsBytes}
use Rattle.cursors.proofs.Fields.{Took}
use Rattle.gimple_ir.specs.Checks.{is_extern}
use Rattle.gimple_ir.specs.Programs.{IsIdentifier, AgreesIn, HasValues}
use Rattle.gimple_ir.specs.declared.types.ScalarType.{ScalarType}
use Rattle.gimple_ir.specs.declared.types.ScalarType.TheVariants.{Int, UnsignedInt, LongInt, LongUnsignedInt}
use Rattle.gimple_ir.specs.declared.types.ElementType.{ElementType}
use Rattle.gimple_ir.specs.declared.types.Linkage.{Linkage}
use Rattle.gimple_ir.specs.declared.types.ResultType.{ResultType}
use Rattle.gimple_ir.specs.declared.types.VarType.{VarType}
use Rattle.gimple_ir.specs.declared.types.VarType.TheVariants as variable
use Rattle.gimple_ir.specs.declared.types.Field.{Field}
use Rattle.gimple_ir.specs.declared.types.StructDef.{StructDef}
use Rattle.gimple_ir.specs.declared.types.Array.{Array}
use Rattle.gimple_ir.specs.declared.types.Variable.{Variable}
use Rattle.gimple_ir.specs.declared.types.Function.{Function}
use Rattle.gimple_ir.specs.declared.types.Module.{Module}
use Rattle.gimple_ir.specs.declared.types.Statement.{Statement}
use Rattle.module_stream.specs.declared.fault.StreamError.{StreamError}
use Rattle.module_stream.specs.Codes.{type_table, type_code, element_table, element_code, result_table, result_code, linkage_table, linkage_code}
use Rattle.module_stream.specs.Fields.{counted_of, FitsAll, text_of, element_of}
use Rattle.module_stream.specs.Declarations.{field_of, struct_of, array_of, var_type_of, variable_of, parameters_of, inside_of, function_of, decls_of, NamesStruct, IsDeclaredStruct, IsDeclaredArray, IsDeclaredFunction, AreDeclarations, field_types, types_of}
use Rattle.module_stream.specs.Readers.{GivesAll, byte, number_below, pick, known, coded, both, depends, made, counted}
use Rattle.module_stream.specs.DeclarationReading.{name_at, field_at, struct_at, initial_limit, initial_at, array_at, var_type_from, var_type_at, variable_at, inside_at, function_at, module_at, read_decls}
use Rattle.module_stream.proofs.Exact.{Exact, ok_is, bind_ok, known_ok, Took-then, number_exact, byte_takes, byte_again, row_found, coded_exact, nothing_exact, both_exact, depends_exact, made_takes, made_again, made_exact, after_exact, counted_exact, whole_found, whole_again}
use Rattle.module_stream.proofs.Tables.{type_rows, element_rows, result_rows, linkage_rows}
use Rattle.module_stream.proofs.NameLaws.{name_exact}
use Rattle.module_stream.proofs.ElementLaws.{FitInitial, initial_exact}

-- ---- structs

pub field_exact : Exact field_of (λ f. IsIdentifier f.name) field_at
unfolding field_at
field_exact = made_exact (λ (x : ScalarType × List ℕ). record { name = x.1; ty = x.0 }) field_of (λ f. IsIdentifier f.name) (λ f. (f.ty, f.name))
    (both_exact (coded_exact type_code type_table type_rows) name_exact)
    (record { spelled = λ x h. refl; fits = λ x h. h.1; parts = λ f h. (tt, h); back = λ f h. refl })

pub struct_exact : Exact struct_of IsDeclaredStruct struct_at
unfolding struct_at
struct_exact = made_exact (λ (x : List ℕ × List Field). record { name = x.0; fields = x.1 }) struct_of IsDeclaredStruct (λ s. (s.name, s.fields))
    (both_exact name_exact (counted_exact field_exact))
    (record {
      spelled = λ x h. refl;
      fits = λ x h. record { stated = record { name = h.0; fields = h.1.1 }; count = h.1.0 };
      parts = λ s h. (h.stated.name, (h.count, h.stated.fields));
      back = λ s h. refl;
    })

-- ---- arrays

none_below_one : {A : Type 0} (xs : List A) → length xs < 1 → xs ≡ []
none_below_one [] h = refl
none_below_one (x ∷ xs) h = absurd (omega arith)

declared_none : (b : Bool) (e : ElementType) (zs : List ℤ) → FitInitial b e zs → b ≡ true → zs ≡ []
declared_none true e zs h is = none_below_one zs h.count
declared_none false e zs h is = absurd cc

below_limit : (b : Bool) (zs : List ℤ) → length zs < 2 ^ 32 → (b ≡ true → zs ≡ []) → length zs < initial_limit b
below_limit true zs h none = subst (λ (ys : List ℤ). length ys < 1) (sym (none refl)) (omega arith)
below_limit false zs h none = h

few : (b : Bool) (n : ℕ) → n < initial_limit b → n < 2 ^ 32
few true n h = omega arith
few false n h = h

abbrev ArrayTail : Type 0
ArrayTail = List ℕ × (ℕ × List ℤ)

abbrev array_tail : ElementType → ArrayTail → List ℕ
array_tail e x = text_of x.0 ++ (uleb_of x.1.0 ++ counted_of (element_of e) x.1.1)

abbrev FitsArrayTail : Bool → ElementType → ArrayTail → Type 0
FitsArrayTail b e x = IsIdentifier x.0 × ((x.1.0 < 2 ^ 32) × FitInitial b e x.1.1)

abbrev array_rest : ElementType × ArrayTail → List ℕ
array_rest x = (element_code x.0 ∷ []) ++ array_tail x.0 x.1

abbrev FitsArrayRest : Bool → ElementType × ArrayTail → Type 0
FitsArrayRest b x = Unit {0} × FitsArrayTail b x.0 x.1

array_rest_exact : (b : Bool) → Exact array_rest (FitsArrayRest b) (depends (coded element_table) (λ e. both name_at (both (number_below (2 ^ 32)) (initial_at b e))))
array_rest_exact b = depends_exact (λ e. element_code e ∷ []) (λ _. Unit {0}) (coded element_table) array_tail (FitsArrayTail b) (λ e. both name_at (both (number_below (2 ^ 32)) (initial_at b e)))
    (coded_exact element_code element_table element_rows)
    (λ e _. both_exact name_exact (both_exact (number_exact (2 ^ 32) (omega arith)) (initial_exact b e)))

abbrev array_parts : Array → Linkage × (ElementType × ArrayTail)
array_parts a = (a.linkage, (a.element, (a.name, (a.length, a.initial))))

pub array_exact : Exact array_of IsDeclaredArray array_at
unfolding array_at
array_exact = made_exact (λ (x : Linkage × (ElementType × ArrayTail)). record { name = x.1.1.0; linkage = x.0; element = x.1.0; length = x.1.1.1.0; initial = x.1.1.1.1 }) array_of IsDeclaredArray array_parts
    (depends_exact (λ l. linkage_code l ∷ []) (λ _. Unit {0}) (coded linkage_table) (λ _. array_rest) (λ l. FitsArrayRest (is_extern l)) (λ l. depends (coded element_table) (λ e. both name_at (both (number_below (2 ^ 32)) (initial_at (is_extern l) e))))
    (coded_exact linkage_code linkage_table linkage_rows) (λ l _. array_rest_exact (is_extern l)))
    (record {
      spelled = λ x h. refl;
      fits = λ x h. record {
        stated = record {
          name = h.1.1.0;
          initial = h.1.1.1.1.each;
          shortest = h.1.1.1.1.shortest;
          declared = declared_none (is_extern x.0) x.1.0 x.1.1.1.1 h.1.1.1.1;
        };
        length = h.1.1.1.0;
        count = few (is_extern x.0) _ h.1.1.1.1.count;
      };
      parts = λ a h. (
        tt,
        (
          tt,
          (
            h.stated.name,
            (
              h.length,
              record {
                count = below_limit (is_extern a.linkage) a.initial h.count h.stated.declared;
                each = h.stated.initial;
                shortest = h.stated.shortest;
              },
            ),
          ),
        ),
      );
      back = λ a h. refl;
    })

-- ---- variables

-- the first byte of a type is k, and the rest of it was taken
abbrev Continues : ℕ → ℕ → Cursor → Cursor → VarType → Type 0
Continues structs k c d x = (rest : List ℕ) × (var_type_of x ≡ k ∷ rest) × Took c rest d × NamesStruct structs x

scalar_takes : (structs offset k : ℕ) (o : Option ScalarType) (c d : Cursor) (x : VarType) → pick k type_table ≡ o → IsBytes c.rest → made (λ ty. variable.Scalar ty) (known offset o) c ≡ Ok (x, d) → Continues structs k c d x
scalar_takes structs offset k o c d x is fits e =
    let a = bind_ok (known offset o c) (λ y. Ok (variable.Scalar y.0, y.1)) (x, d) e in
    let b = known_ok offset o c a.0 a.1 in
    let code : k ≡ type_code a.0.0 = row_found (λ k y. k ≡ type_code y) k a.0.0 type_table type_rows.rows (is ∙ b.0) in
    subst (λ (z : VarType × Cursor). Continues structs k c z.1 z.0) (ok_is (variable.Scalar a.0.0, a.0.1) (x, d) a.2)
    ([], ap (λ n. n ∷ []) (sym code), record { parts = ap (λ (z : Cursor). z.rest) b.1; end = ap (λ (z : Cursor). z.end) (sym b.1); fits = subst (λ (z : Cursor). IsBytes z.rest) b.1 fits }, tt)

from_takes : (structs : ℕ) → structs ≤ 2 ^ 64 → (t : Bool) (offset k : ℕ) (c d : Cursor) (x : VarType) → eqb k 6 ≡ t → IsBytes c.rest
    → cond t (made (λ n. variable.Struct n) (number_below structs) c) (made (λ ty. variable.Scalar ty) (known offset (pick k type_table)) c) ≡ Ok (x, d) → Continues structs k c d x
from_takes structs le true offset k c d x is fits e =
    let m = made_takes (number_exact structs le) (λ n. variable.Struct n) c d x fits e in
    subst (λ z. Continues structs k c d z) m.3 (uleb_of m.0, ap (λ n. n ∷ uleb_of m.0) (sym (eqb-true k 6 is)), m.1, m.2)
from_takes structs le false offset k c d x is fits e = scalar_takes structs offset k (pick k type_table) c d x refl fits e

var_type_from_takes : (structs : ℕ) → structs ≤ 2 ^ 64 → (offset k : ℕ) (c d : Cursor) (x : VarType) → IsBytes c.rest → var_type_from structs offset k c ≡ Ok (x, d) → Continues structs k c d x
unfolding var_type_from
var_type_from_takes structs le offset k c d x fits e = from_takes structs le (eqb k 6) offset k c d x refl fits e

var_type_takes : (structs : ℕ) → structs ≤ 2 ^ 64 → (c d : Cursor) (x : VarType) → IsBytes c.rest → var_type_at structs c ≡ Ok (x, d) → Took c (var_type_of x) d × NamesStruct structs x
unfolding var_type_at
var_type_takes structs le c d x fits e =
    let a = bind_ok (byte c) (λ k. var_type_from structs (offset_of c) k.0 k.1) (x, d) e in
    let t = byte_takes c a.0.1 a.0.0 fits a.1 in
    let m = var_type_from_takes structs le (offset_of c) a.0.0 a.0.1 d x t.fits a.2 in
    (subst (λ z. Took c z d) (sym m.1) (Took-then c a.0.1 d (a.0.0 ∷ []) m.0 t m.2), m.3)

scalar_from : (structs offset : ℕ) (ty : ScalarType) (c : Cursor) → var_type_from structs offset (type_code ty) c ≡ Ok (variable.Scalar ty, c)
unfolding var_type_from
scalar_from structs offset Int c = refl
scalar_from structs offset UnsignedInt c = refl
scalar_from structs offset LongInt c = refl
scalar_from structs offset LongUnsignedInt c = refl

struct_from : (structs : ℕ) → structs ≤ 2 ^ 64 → (offset n end : ℕ) (rest : List ℕ) → n < structs → var_type_from structs offset 6 (at end (uleb_of n ++ rest)) ≡ Ok (variable.Struct n, at end rest)
unfolding var_type_from
struct_from structs le offset n end rest h = made_again (number_exact structs le) (λ n. variable.Struct n) n end rest h

var_type_again : (structs : ℕ) → structs ≤ 2 ^ 64 → (x : VarType) (end : ℕ) (rest : List ℕ) → NamesStruct structs x → var_type_at structs (at end (var_type_of x ++ rest)) ≡ Ok (x, at end rest)
unfolding var_type_at
var_type_again structs le (variable.Scalar ty) end rest h =
    rw (byte_again (type_code ty) end rest) (scalar_from structs (offset_of (at end (var_type_of (variable.Scalar ty) ++ rest))) ty (at end rest))
var_type_again structs le (variable.Struct n) end rest h =
    rw (byte_again 6 end (uleb_of n ++ rest)) (struct_from structs le (offset_of (at end (var_type_of (variable.Struct n) ++ rest))) n end rest h)

pub var_type_exact : (structs : ℕ) → structs ≤ 2 ^ 64 → Exact var_type_of (NamesStruct structs) (var_type_at structs)
var_type_exact structs le = record { takes = var_type_takes structs le; again = var_type_again structs le }

-- ---- the types of a variable's components

pub record FitsVariable (structs : List StructDef) (v : Variable) : Type 0 where
  pub name : IsIdentifier v.name
  pub known : NamesStruct (length structs) v.ty
  pub types : v.types ≡ types_of structs v.ty

agrees_by : (o : Option StructDef) (types : List ScalarType) → types ≡ option_map_or (λ s. map (λ field. field.ty) s.fields) o [] → MatchOption o (Unit {0}) (λ s. types ≡ map (λ field. field.ty) s.fields)
agrees_by None types e = tt
agrees_by (Some s) types e = e

agrees : (structs : List StructDef) (ty : VarType) (types : List ScalarType) → types ≡ types_of structs ty → AgreesIn structs ty types
agrees structs (variable.Scalar ty) types e = e
agrees structs (variable.Struct n) types e = agrees_by (slice_get structs n) types e

types_by : (structs : List StructDef) (n : ℕ) (types : List ScalarType) → n < length structs → MatchOption (slice_get structs n) (Unit {0}) (λ s. types ≡ map (λ field. field.ty) s.fields) → types ≡ field_types structs n
types_by [] n types lt h = absurd (omega arith)
types_by (s ∷ structs) zero types lt h = h
types_by (s ∷ structs) (suc n) types lt h = types_by structs n types (omega arith) h

types_agree : (structs : List StructDef) (ty : VarType) (types : List ScalarType) → NamesStruct (length structs) ty → AgreesIn structs ty types → types ≡ types_of structs ty
types_agree structs (variable.Scalar ty) types known h = h
types_agree structs (variable.Struct n) types known h = types_by structs n types known h

abbrev made_variable : List StructDef → VarType × List ℕ → Variable
made_variable structs x = record { name = x.1; ty = x.0; types = types_of structs x.0 }

abbrev retyped : Variable → List ScalarType → Variable
retyped v types = record { name = v.name; ty = v.ty; types = types }

pub variable_exact : (structs : List StructDef) → length structs ≤ 2 ^ 64 → Exact variable_of (FitsVariable structs) (variable_at structs)
unfolding variable_at
variable_exact structs le = made_exact (made_variable structs) variable_of (FitsVariable structs) (λ v. (v.ty, v.name))
    (both_exact (var_type_exact (length structs) le) name_exact)
    (record {
      spelled = λ x h. refl;
      fits = λ x h. record { name = h.1; known = h.0; types = refl };
      parts = λ v h. (h.known, h.name);
      back = λ v h. ap (λ (types : List ScalarType). retyped v types) (sym h.types);
    })

-- ---- what stands inside a function

abbrev Inside : Type 0
Inside = List Variable × List (List ℕ)

abbrev inside_bytes : Bool → List Variable → Inside → List ℕ
inside_bytes b parameters x = inside_of b (drop (length parameters) x.0) x.1

-- The variables begin with the parameters; an extern function has no others and no labels.
abbrev FitsInside : List StructDef → Bool → List Variable → Inside → Type 0
FitsInside structs true parameters x = x ≡ (parameters, [])
FitsInside structs false parameters x =
    ((take (length parameters) x.0 ≡ parameters) × FitsAll (FitsVariable structs) (drop (length parameters) x.0)) × FitsAll IsIdentifier x.1

inside_exact : (structs : List StructDef) → length structs ≤ 2 ^ 64 → (b : Bool) (parameters : List Variable) → Exact (inside_bytes b parameters) (FitsInside structs b parameters) (inside_at structs b parameters)
unfolding inside_at
inside_exact structs le true parameters = nothing_exact (parameters, [])
inside_exact structs le false parameters = both_exact (after_exact parameters (counted_exact (variable_exact structs le))) (counted_exact name_exact)

inside_front : (structs : List StructDef) (b : Bool) (parameters : List Variable) (x : Inside) → FitsInside structs b parameters x → take (length parameters) x.0 ≡ parameters
inside_front structs true parameters x h = ap (λ (z : Inside). take (length parameters) z.0) h ∙ take-length parameters
inside_front structs false parameters x h = h.0.0

inside_locals : (structs : List StructDef) (b : Bool) (parameters : List Variable) (x : Inside) → FitsInside structs b parameters x → FitsAll (FitsVariable structs) (drop (length parameters) x.0)
inside_locals structs true parameters x h =
    let none : drop (length parameters) x.0 ≡ [] = ap (λ (z : Inside). drop (length parameters) z.0) h ∙ drop_all (length parameters) parameters (omega arith) in
    subst (λ (vs : List Variable). FitsAll (FitsVariable structs) vs) (sym none) (omega arith, All-nil (FitsVariable structs))
inside_locals structs false parameters x h = h.0.1

inside_labels : (structs : List StructDef) (b : Bool) (parameters : List Variable) (x : Inside) → FitsInside structs b parameters x → FitsAll IsIdentifier x.1
inside_labels structs true parameters x h =
    subst (λ (z : Inside). FitsAll IsIdentifier z.1) (sym h) (omega arith, All-nil IsIdentifier)
inside_labels structs false parameters x h = h.1

inside_declared : (structs : List StructDef) (b : Bool) (parameters : List Variable) (x : Inside) → FitsInside structs b parameters x → b ≡ true → x ≡ (parameters, [])
inside_declared structs true parameters x h is = h
inside_declared structs false parameters x h is = absurd cc

fits_inside : (structs : List StructDef) (b : Bool) (n : ℕ) (x : Inside) → n ≤ length x.0 → FitsAll (FitsVariable structs) (drop n x.0) → FitsAll IsIdentifier x.1
    → (b ≡ true → (length x.0 ≡ n) × (x.1 ≡ [])) → FitsInside structs b (take n x.0) x
fits_inside structs true n x le locals labels none =
    let all : take n x.0 ≡ x.0 = ap (λ k. take k x.0) (sym (none refl).0) ∙ take-length x.0 in
    let E : List Variable → List (List ℕ) → Type 0 = λ vs ls. x ≡ (vs, ls) in
    subst (λ vs. E vs []) (sym all) (subst (λ ls. E x.0 ls) (none refl).1 refl)
fits_inside structs false n x le locals labels none =
    let same : length (take n x.0) ≡ n = length-take-le n x.0 le in
    ((ap (λ k. take k x.0) same, subst (λ k. FitsAll (FitsVariable structs) (drop k x.0)) (sym same) locals), labels)

-- ---- functions

abbrev FunctionRest : Type 0
FunctionRest = ResultType × (List ℕ × (List Variable × Inside))

abbrev function_rest : Bool → FunctionRest → List ℕ
function_rest b x = (result_code x.0 ∷ []) ++ (text_of x.1.0 ++ (counted_of variable_of x.1.1.0 ++ inside_bytes b x.1.1.0 x.1.1.1))

abbrev FitsFunctionRest : List StructDef → Bool → FunctionRest → Type 0
FitsFunctionRest structs b x = Unit {0} × (IsIdentifier x.1.0 × (FitsAll (FitsVariable structs) x.1.1.0 × FitsInside structs b x.1.1.0 x.1.1.1))

function_rest_exact : (structs : List StructDef) → length structs ≤ 2 ^ 64 → (b : Bool) → Exact (function_rest b) (FitsFunctionRest structs b) (both (coded result_table) (both name_at (depends (counted (variable_at structs)) (inside_at structs b))))
function_rest_exact structs le b = both_exact (coded_exact result_code result_table result_rows) (both_exact name_exact
    (depends_exact (counted_of variable_of) (FitsAll (FitsVariable structs)) (counted (variable_at structs)) (inside_bytes b) (FitsInside structs b) (inside_at structs b)
    (counted_exact (variable_exact structs le)) (λ parameters _. inside_exact structs le b parameters)))

abbrev Parts : Type 0
Parts = Linkage × FunctionRest

abbrev made_function : Parts → Function
made_function x = record {
  name = x.1.1.0;
  linkage = x.0;
  result = x.1.0;
  parameters = length x.1.1.1.0;
  variables = x.1.1.1.1.0;
  labels = x.1.1.1.1.1;
  body = [];
}

abbrev function_parts : Function → Parts
function_parts f = (f.linkage, (f.result, (f.name, (parameters_of f, (f.variables, f.labels)))))

abbrev function_bytes : Parts → List ℕ
function_bytes x = (linkage_code x.0 ∷ []) ++ function_rest (is_extern x.0) x.1

abbrev FitsFunction : List StructDef → Parts → Type 0
FitsFunction structs x = Unit {0} × FitsFunctionRest structs (is_extern x.0) x.1

function_spelled : (structs : List StructDef) (x : Parts) → FitsFunction structs x → function_of (made_function x) ≡ function_bytes x
function_spelled structs x h =
    let front = inside_front structs (is_extern x.0) x.1.1.1.0 x.1.1.1.1 h.1.1.1.1 in
    ap (λ (vs : List Variable). linkage_code x.0 ∷ (result_code x.1.0 ∷ (text_of x.1.1.0 ++ (counted_of variable_of vs ++ inside_bytes (is_extern x.0) x.1.1.1.0 x.1.1.1.1)))) front

-- the parameters and the locals
all_fit : (structs : List StructDef) (n : ℕ) (vs : List Variable) → All (FitsVariable structs) (take n vs) → All (FitsVariable structs) (drop n vs) → All (FitsVariable structs) vs
all_fit structs n vs front rest =
    subst (λ (ws : List Variable). All (FitsVariable structs) ws) (take-append-drop n vs) (All-append (FitsVariable structs) (take n vs) (drop n vs) front rest)

no_less : {A : Type 0} (n : ℕ) (vs front : List A) → take n vs ≡ front → length front ≡ n → n ≤ length vs
no_less n vs front e is = omega (arith, length-take n vs, ap length e, is)

function_fits : (structs : List StructDef) (x : Parts) → FitsFunction structs x → IsDeclaredFunction structs (made_function x)
function_fits structs x h =
    let b = is_extern x.0 in
    let ps = x.1.1.1.0 in
    let inside = x.1.1.1.1 in
    let fits : FitsInside structs b ps inside = h.1.1.1.1 in
    let front : take (length ps) inside.0 ≡ ps = inside_front structs b ps inside fits in
    let locals = inside_locals structs b ps inside fits in
    let labels = inside_labels structs b ps inside fits in
    let all : All (FitsVariable structs) inside.0 = all_fit structs (length ps) inside.0 (subst (λ (vs : List Variable). All (FitsVariable structs) vs) (sym front) h.1.1.1.0.1) locals.1 in
    record {
      stated = record {
        name = h.1.1.0;
        variables = All-weaker (FitsVariable structs) (λ v. IsIdentifier v.name × AgreesIn structs v.ty v.types) (λ v k. (k.name, agrees structs v.ty v.types k.types)) inside.0 all;
        labels = labels.1;
        parameters = no_less (length ps) inside.0 ps front refl;
        values = All-nil HasValues;
        declared = λ is. let e = inside_declared structs b ps inside fits is in (ap (λ (z : Inside). length z.0) e, ap (λ (z : Inside). z.1) e, refl);
      };
      known = All-weaker (FitsVariable structs) (λ v. NamesStruct (length structs) v.ty) (λ v k. k.known) inside.0 all;
      parameters = h.1.1.1.0.0;
      locals = locals.0;
      labels = labels.0;
      body = refl;
    }

variable_fits : (structs : List StructDef) (f : Function) → IsDeclaredFunction structs f → All (FitsVariable structs) f.variables
variable_fits structs f h = λ k d lt.
    let named = h.stated.variables k d lt in
    let known = h.known k d lt in
    record { name = named.0; known = known; types = types_agree structs _ _ known named.1 }

function_parts_fit : (structs : List StructDef) (f : Function) → IsDeclaredFunction structs f → FitsFunction structs (function_parts f)
function_parts_fit structs f h =
    let all = variable_fits structs f h in
    let same : length (parameters_of f) ≡ f.parameters = length-take-le f.parameters f.variables h.stated.parameters in
    let few : length (parameters_of f) < 2 ^ 32 = omega (arith, same, h.parameters) in (
      tt,
      (
        tt,
        (
          h.stated.name,
          (
            (few, All-take (FitsVariable structs) f.parameters f.variables all),
            fits_inside structs (is_extern f.linkage) f.parameters (f.variables, f.labels) h.stated.parameters (h.locals, All-drop (FitsVariable structs) f.parameters f.variables all) (h.labels, h.stated.labels) (λ is. let d = h.stated.declared is in (d.0, d.1)),
          ),
        ),
      ),
    )

abbrev of_parts : Function → ℕ → List Statement → Function
of_parts f n body = record { name = f.name; linkage = f.linkage; result = f.result; parameters = n; variables = f.variables; labels = f.labels; body = body }

function_back : (structs : List StructDef) (f : Function) → IsDeclaredFunction structs f → made_function (function_parts f) ≡ f
function_back structs f h =
    let same : length (parameters_of f) ≡ f.parameters = length-take-le f.parameters f.variables h.stated.parameters in
    ap₂ (λ (n : ℕ) (body : List Statement). of_parts f n body) same (sym h.body)

pub function_exact : (structs : List StructDef) → length structs ≤ 2 ^ 64 → Exact function_of (IsDeclaredFunction structs) (function_at structs)
unfolding function_at
function_exact structs le = made_exact made_function function_of (IsDeclaredFunction structs) function_parts
    (depends_exact (λ l. linkage_code l ∷ []) (λ _. Unit {0}) (coded linkage_table) (λ l. function_rest (is_extern l)) (λ l. FitsFunctionRest structs (is_extern l)) (λ l. both (coded result_table) (both name_at (depends (counted (variable_at structs)) (inside_at structs (is_extern l)))))
    (coded_exact linkage_code linkage_table linkage_rows) (λ l _. function_rest_exact structs le (is_extern l)))
    (record { spelled = function_spelled structs; fits = function_fits structs; parts = function_parts_fit structs; back = function_back structs })

-- ---- modules

pub decls_exact : Exact decls_of AreDeclarations module_at
unfolding module_at
decls_exact = made_exact (λ (x : List StructDef × (List Array × List Function)). record { structs = x.0; arrays = x.1.0; functions = x.1.1 }) decls_of AreDeclarations (λ m. (m.structs, (m.arrays, m.functions)))
    (depends_exact (counted_of struct_of) (FitsAll IsDeclaredStruct) (counted struct_at) (λ _ x. counted_of array_of x.0 ++ counted_of function_of x.1) (λ structs x. FitsAll IsDeclaredArray x.0 × FitsAll (IsDeclaredFunction structs) x.1) (λ structs. both (counted array_at) (counted (function_at structs)))
    (counted_exact struct_exact) (λ structs h. both_exact (counted_exact array_exact) (counted_exact (function_exact structs (omega (arith, h.0))))))
    (record {
      spelled = λ x h. refl;
      fits = λ x h. record { structs = h.0; arrays = h.1.0; functions = h.1.1 };
      parts = λ m h. (h.structs, (h.arrays, h.functions));
      back = λ m h. refl;
    })

-- What is read is spelled so.
pub decls_found : (bytes : List ℕ) (r : Result Module StreamError) → IsBytes bytes → GivesAll r (read_decls bytes) → IfOk r (λ m. AreDeclarations m × (bytes ≡ decls_of m))
unfolding read_decls
decls_found bytes r fits h = whole_found decls_exact bytes r fits h

-- What is spelled so is read.
pub decls_again : (m : Module) → AreDeclarations m → read_decls (decls_of m) ≡ Ok m
unfolding read_decls
decls_again m h = whole_again decls_exact m h
