-- The checks of a module, in order. Structs, then arrays, then functions are checked, one item after the other; of an
-- item its names, its counts, its labels, its end, its statements in order, and its code bound. `fault_of` is the first
-- fault. Here a name is compared with those that stand before it; the code looks it up in a map.
use Rattle.std.specs.Prelude.{ℕ, ◌+◌, ◌-◌, List, [], ◌∷◌, ◌++◌, length, map, take, Bool, true, false, not, ◌&&◌, ◌||◌, if◌then◌else◌, nat_eq, nat_lt, nat_le, Option, Some, None, slice_get}
use Rattle.std.specs.List.{list_all, list_any, filter_map}
use Rattle.std.specs.Option.{option_map_or}
use Rattle.gimple_ir.specs.declared.types.VarType.{VarType}
use Rattle.gimple_ir.specs.declared.types.VarType.TheVariants.{Scalar, Struct}
use Rattle.gimple_ir.specs.declared.types.Linkage.{Linkage}
use Rattle.gimple_ir.specs.declared.types.Linkage.TheVariants.{Extern, Strong, Weak, Static}
use Rattle.gimple_ir.specs.declared.types.StructDef.{StructDef}
use Rattle.gimple_ir.specs.declared.types.Array.{Array}
use Rattle.gimple_ir.specs.declared.types.Function.{Function}
use Rattle.gimple_ir.specs.declared.types.Module.{Module}
use Rattle.gimple_ir.specs.declared.types.Statement.{Statement}
use Rattle.gimple_ir.specs.declared.types.Statement.TheVariants.{Label, Goto, Cond, Switch, ReturnVoid, Return}
use Rattle.gimple_ir.specs.declared.fault.TypeFault.{TypeFault}
use Rattle.gimple_ir.specs.declared.fault.TypeKind.{TypeKind}
use Rattle.gimple_ir.specs.declared.fault.TypeKind.TheVariants.{DoubleName, UnknownName, TooMany, BadLabel, OpenEnd}
use Rattle.gimple_ir.specs.Names.{is_between, is_among, is_builtin, repeats}
use Rattle.gimple_ir.specs.CodeBound.{components_in, parameter_components, code_bound_of}
use Rattle.gimple_ir.specs.Statements.{Scope, ByNumber, first_failed, statement_kind}

-- ---- faults in order

-- the first that is one
abbrev pub first_of : List (Option TypeFault) → Option TypeFault
first_of [] = None
first_of (None ∷ rest) = first_of rest
first_of (Some fault ∷ rest) = Some fault

-- the first fault of the elements in order, of which the first has the number n
abbrev pub faults_from : {X : Type 0} → (ℕ → X → Option TypeFault) → ℕ → List X → Option TypeFault
faults_from fault n [] = None
faults_from fault n (x ∷ xs) = first_of (fault n x ∷ faults_from fault (n + 1) xs ∷ [])

abbrev pub fault_at : ℕ → ℕ → Option TypeKind → Option TypeFault
fault_at item statement None = None
fault_at item statement (Some kind) = Some (record { kind = kind; item = item; statement = statement })

-- ---- structs; `double` says that the name stands before

abbrev pub struct_kind : Bool → StructDef → Option TypeKind
struct_kind double s = first_failed (
    (not double && not (repeats (map (λ field. field.name) s.fields)), DoubleName)
    ∷ (not (is_builtin s.name) && not (list_any (λ field. is_builtin field.name) s.fields), UnknownName)
    ∷ (is_between 1 8 (length s.fields), TooMany)
    ∷ [])

abbrev pub struct_fault : Module → ℕ → StructDef → Option TypeFault
struct_fault m place s =
    fault_at place 0 (struct_kind (is_among (take place (map (λ t. t.name) m.structs)) s.name) s)

-- ---- arrays

abbrev pub array_kind : Bool → Array → Option TypeKind
array_kind double a = first_failed (
    (not double, DoubleName)
    ∷ (not (is_builtin a.name), UnknownName)
    ∷ (is_between 1 67108864 a.length && nat_le (length a.initial) a.length, TooMany)
    ∷ [])

abbrev pub array_fault : Module → ℕ → Array → Option TypeFault
array_fault m place a =
    fault_at (length m.structs + place) 0 (array_kind (is_among (take place (map (λ b. b.name) m.arrays)) a.name) a)

-- ---- functions

abbrev pub is_extern : Linkage → Bool
is_extern Extern = true
is_extern Strong = false
is_extern Weak = false
is_extern Static = false

abbrev pub knows_struct : ℕ → VarType → Bool
knows_struct structs (Scalar ty) = true
knows_struct structs (Struct n) = nat_lt n structs

-- components, those of parameters, and unless it is a declaration statements
abbrev pub counts_fit : Function → Bool
counts_fit f =
    nat_le (components_in f.variables) 1024 && nat_le (parameter_components f) 64
    && (is_extern f.linkage || is_between 1 8192 (length f.body))

abbrev pub label_of : Statement → Option ℕ
label_of (Label l) = Some l
label_of _ = None

-- each number is its place in the list, of which the first has the place n
abbrev pub counts_up : ℕ → List ℕ → Bool
counts_up n [] = true
counts_up n (k ∷ ks) = nat_eq k n && counts_up (n + 1) ks

-- the labels that stand are 0, 1, .. in order, as many as the count
abbrev pub labels_in_order : ℕ → List Statement → Bool
labels_in_order count body =
    counts_up 0 (filter_map label_of body) && nat_eq (length (filter_map label_of body)) count

-- the labels that the statement may go to are below the count
abbrev pub goes_within : ℕ → Statement → Bool
goes_within count (Goto l) = nat_lt l count
goes_within count (Cond op a b met missed) = nat_lt met count && nat_lt missed count
goes_within count (Switch a cases otherwise) = nat_lt otherwise count && list_all (λ c. nat_lt c.label count) cases
goes_within count _ = true

abbrev pub goals_stand : ℕ → List Statement → Bool
goals_stand count body = list_all (goes_within count) body

-- each label of the list stands once, in the order of the numbers, no other is used, and their names differ
abbrev pub labels_stand : Function → Bool
labels_stand f =
    labels_in_order (length f.labels) f.body && goals_stand (length f.labels) f.body && not (repeats f.labels)

-- nothing comes after the statement
abbrev pub ends : Statement → Bool
ends (Goto l) = true
ends (Cond op a b met missed) = true
ends (Switch a cases otherwise) = true
ends ReturnVoid = true
ends (Return a) = true
ends _ = false

abbrev pub ends_closed : List Statement → Bool
ends_closed body = option_map_or ends (slice_get body (length body - 1)) false

-- what is checked before the statements
abbrev pub head_kind : Bool → ℕ → Function → Option TypeKind
head_kind double structs f = first_failed (
    (not double && not (repeats (map (λ v. v.name) f.variables)), DoubleName)
    ∷ (
      not (is_builtin f.name) && not (list_any (λ v. is_builtin v.name) f.variables)
          && list_all (λ v. knows_struct structs v.ty) f.variables,
      UnknownName,
    )
    ∷ (counts_fit f, TooMany)
    ∷ (labels_stand f, BadLabel)
    ∷ (is_extern f.linkage || ends_closed f.body, OpenEnd)
    ∷ [])

abbrev pub scope_in : Module → Function → Scope
scope_in m f = record { structs = ByNumber; arrays = m.arrays; functions = m.functions; function = f }

-- a declaration has no statements
abbrev pub body_of : Function → List Statement
body_of f = if is_extern f.linkage then [] else f.body

abbrev pub statements_fault : Scope → ℕ → List Statement → Option TypeFault
statements_fault s item body = faults_from (λ place st. fault_at item place (statement_kind s st)) 0 body

-- at most 512 KiB of code
abbrev pub bound_kind : Function → Option TypeKind
bound_kind f = first_failed ((nat_le (code_bound_of f) 524288, TooMany) ∷ [])

-- arrays and functions share their names
abbrev pub names_before : Module → ℕ → List (List ℕ)
names_before m place = map (λ a. a.name) m.arrays ++ take place (map (λ f. f.name) m.functions)

-- the fault of one function, which is the item of this number
abbrev pub fault_in : Module → Bool → ℕ → Function → Option TypeFault
fault_in m double item f = first_of (
    fault_at item 0 (head_kind double (length m.structs) f)
    ∷ statements_fault (scope_in m f) item (body_of f)
    ∷ fault_at item 0 (bound_kind f)
    ∷ [])

abbrev pub function_fault : Module → ℕ → Function → Option TypeFault
function_fault m place f =
    fault_in m (is_among (names_before m place) f.name) (length m.structs + length m.arrays + place) f

-- ---- modules

-- the first fault of the module
abbrev pub fault_of : Module → Option TypeFault
fault_of m = first_of (
    faults_from (struct_fault m) 0 m.structs
    ∷ faults_from (array_fault m) 0 m.arrays
    ∷ faults_from (function_fault m) 0 m.functions
    ∷ [])
