-- What a checked module gives of each of its items, so that their texts can be read.
use Rattle.std.proofs.Common.{◌≡◌, ℕ, zero, suc, ◌+◌, ◌<◌, ◌≤◌, ◌^◌, Bool, true, false, Some, None, List, [], ◌∷◌, length, map, take, drop, refl, arith}
use Rattle.std.specs.Prelude.{◌&&◌, ◌||◌, not, slice_get, nat_le, nat_lt}
use Rattle.std.specs.List.{list_all, list_any, AllByRecursion}
use Rattle.std.proofs.lemmas.Bool.Decides.{nat_tests}
use Rattle.gimple_ir.specs.declared.types.VarType.{VarType}
use Rattle.gimple_ir.specs.declared.types.VarType.TheVariants as variable_type
use Rattle.gimple_ir.specs.declared.types.StructDef.{StructDef}
use Rattle.gimple_ir.specs.declared.types.Variable.{Variable}
use Rattle.gimple_ir.specs.declared.types.Array.{Array}
use Rattle.gimple_ir.specs.declared.types.Function.{Function}
use Rattle.gimple_ir.specs.declared.types.Module.{Module}
use Rattle.gimple_ir.specs.declared.fault.TypeKind.{TypeKind}
use Rattle.gimple_ir.specs.declared.fault.TypeKind.TheVariants.{DoubleName, UnknownName, TooMany, BadLabel, OpenEnd}
use Rattle.gimple_ir.specs.Names.{is_between, is_among, is_builtin, repeats}
use Rattle.gimple_ir.specs.Statements.{first_failed}
use Rattle.gimple_ir.specs.Checks.{array_fault, array_kind, is_extern, counts_fit, labels_stand, ends_closed, knows_struct}
use Rattle.gimple_ir.specs.Programs.{IsIdentifier, IsElement, AgreesIn, IsStatedStruct, IsStatedArray, IsChecked}
use Rattle.text_laws.specs.Syntax.{struct_name}
use Rattle.text_laws.proofs.CheckedFunctions.{each, each-at, both-are, none-each, none-at, five-pass, no_faults, function_checked}
use Rattle.text_laws.proofs.DeclaredTexts.{HasName, IsDeclared}
use Rattle.text_laws.proofs.ArrayTexts.{IsWritten}
use Rattle.text_laws.proofs.FunctionTexts.{IsWrittenFunction}

-- ---- lists

all_taken : {X : Type 0} (P : X → Type 0) (n : ℕ) (xs : List X) → AllByRecursion P xs → AllByRecursion P (take n xs)
all_taken P zero xs h = tt
all_taken P (suc n) [] h = tt
all_taken P (suc n) (x ∷ xs) h = (h.0, all_taken P n xs h.1)

all_dropped : {X : Type 0} (P : X → Type 0) (n : ℕ) (xs : List X) → AllByRecursion P xs → AllByRecursion P (drop n xs)
all_dropped P zero xs h = h
all_dropped P (suc n) [] h = tt
all_dropped P (suc n) (x ∷ xs) h = all_dropped P n xs h.1

pub by_place : {X : Type 0} (P : X → Type 0) (xs : List X) → ((i : ℕ) (x : X) → slice_get xs i ≡ Some x → P x) → AllByRecursion P xs
by_place P [] h = tt
by_place P (x ∷ xs) h = (h 0 x refl, by_place P xs (λ i y here. h (suc i) y here))

-- ---- structs

abbrev pub IsWrittenStruct : StructDef → Type 0
IsWrittenStruct s = IsIdentifier s.name × AllByRecursion (λ f. IsIdentifier f.name) s.fields

structs-written : (ss : List StructDef) → AllByRecursion IsStatedStruct ss → AllByRecursion IsWrittenStruct ss
structs-written [] h = tt
structs-written (s ∷ ss) h = ((h.0.name, each (λ f. IsIdentifier f.name) s.fields h.0.fields), structs-written ss h.1)

pub written_structs : (m : Module) → IsChecked m → AllByRecursion IsWrittenStruct m.structs
written_structs m c = structs-written m.structs (each IsStatedStruct m.structs c.stated.structs)

-- ---- arrays

small : (n : ℕ) → is_between 1 67108864 n ≡ true → n < 2 ^ 32
small n h = let p = both-are (nat_le 1 n) (nat_le n 67108864) h in let q : n ≤ 67108864 = (let e = p.1 in grind (arith, nat_tests)) in omega arith

three-pass : (a b c : Bool) (ka kb kc : TypeKind) → first_failed ((a, ka) ∷ (b, kb) ∷ (c, kc) ∷ []) ≡ None → c ≡ true
three-pass true true true ka kb kc h = refl
three-pass true true false ka kb kc h = absurd cc
three-pass true false c ka kb kc h = absurd cc
three-pass false b c ka kb kc h = absurd cc

array-written : (m : Module) → IsChecked m → (i : ℕ) (a : Array) → slice_get m.arrays i ≡ Some a → IsWritten a
array-written m c i a here =
    let stated = each-at IsStatedArray m.arrays i a (each IsStatedArray m.arrays c.stated.arrays) here in
    let none = none-each (array_fault m) 0 m.arrays i a (no_faults m c.faultless).arrays here in
    let double = is_among (take none.0 (map (λ b. b.name) m.arrays)) a.name in
    let counts = three-pass (not double) (not (is_builtin a.name)) (is_between 1 67108864 a.length && nat_le (length a.initial) a.length) DoubleName UnknownName TooMany
    (none-at (length m.structs + none.0) 0 (array_kind double a) none.1) in
    record {
      name = stated.name;
      fits = small a.length (both-are (is_between 1 67108864 a.length) (nat_le (length a.initial) a.length) counts).0;
      values = each (IsElement a.element) a.initial stated.initial;
      declared = stated.declared;
    }

pub written_arrays : (m : Module) → IsChecked m → AllByRecursion IsWritten m.arrays
written_arrays m c = by_place IsWritten m.arrays (array-written m c)

-- ---- functions

named_at : (structs : List StructDef) (k : ℕ) → AllByRecursion IsWrittenStruct structs → nat_lt k (length structs) ≡ true → IsIdentifier (struct_name structs k)
named_at [] k h e = absurd (let lt : k < 0 = grind (arith, nat_tests) in omega arith)
named_at (s ∷ ss) zero h e = h.0.0
named_at (s ∷ ss) (suc k) h e = named_at ss k h.1 (let lt : suc k < suc (length ss) = grind (arith, nat_tests) in grind (arith, nat_tests))

has-name : (structs : List StructDef) (ty : VarType) → AllByRecursion IsWrittenStruct structs → knows_struct (length structs) ty ≡ true → HasName structs ty
has-name structs (variable_type.Scalar ty) h e = tt
has-name structs (variable_type.Struct k) h e = named_at structs k h e

declared : (structs : List StructDef) → AllByRecursion IsWrittenStruct structs → (vs : List Variable) → list_all (λ v. knows_struct (length structs) v.ty) vs ≡ true → AllByRecursion (λ v. IsIdentifier v.name × AgreesIn structs v.ty v.types) vs → AllByRecursion (IsDeclared structs) vs
declared structs h [] e s = tt
declared structs h (v ∷ vs) e s =
    let p = both-are (knows_struct (length structs) v.ty) (list_all (λ w. knows_struct (length structs) w.ty) vs) e in
    ((s.0.0, has-name structs v.ty h p.0), declared structs h vs p.1 s.1)

function-written : (m : Module) → IsChecked m → (i : ℕ) (f : Function) → slice_get m.functions i ≡ Some f → IsWrittenFunction m.structs f
function-written m c i f here =
    let h = function_checked m i f c here in
    let free = not (is_builtin f.name) && not (list_any (λ v. is_builtin v.name) f.variables) in
    let known = list_all (λ v. knows_struct (length m.structs) v.ty) f.variables in
    let passes = five-pass (not h.double && not (repeats (map (λ v. v.name) f.variables))) (free && known) (counts_fit f) (labels_stand f) (is_extern f.linkage || ends_closed f.body)
    DoubleName UnknownName TooMany BadLabel OpenEnd h.head in
    let all = declared m.structs (written_structs m c) f.variables (both-are free known passes.1).1 (each (λ v. IsIdentifier v.name × AgreesIn m.structs v.ty v.types) f.variables h.stated.variables) in
    record { name = h.stated.name; parameters = all_taken (IsDeclared m.structs) f.parameters f.variables all; locals = all_dropped (IsDeclared m.structs) f.parameters f.variables all }

pub written_functions : (m : Module) → IsChecked m → AllByRecursion (IsWrittenFunction m.structs) m.functions
written_functions m c = by_place (IsWrittenFunction m.structs) m.functions (function-written m c)
