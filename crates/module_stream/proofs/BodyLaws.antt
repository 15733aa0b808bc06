-- Declarations beside whole modules: bodies change no byte of them, and what is read is well formed.
use Rattle.std.proofs.Common.{◌≡◌, ◌+◌, ◌^◌, ◌<◌, List, [], ◌∷◌, ◌++◌, length, refl, sym, ap, ap₂, ◌∙◌, arith}
use Rattle.std.specs.Prelude.{All, map}
use Rattle.std.specs.List.{flat_map}
use Rattle.std.proofs.lemmas.List.{length-map}
use Rattle.std.proofs.lemmas.List.Concat.{flat_map-cons}
use Rattle.std.proofs.lemmas.List.Elements.{All-nil, All-map, All-weaker}
use Rattle.cursors.specs.Leb128.{uleb_of}
use Rattle.gimple_ir.specs.Programs.{IsStatedStruct, IsStatedArray, IsStatedFunction, IsStated, HasValues}
use Rattle.gimple_ir.specs.declared.types.StructDef.{StructDef}
use Rattle.gimple_ir.specs.declared.types.Function.{Function}
use Rattle.gimple_ir.specs.declared.types.Module.{Module}
use Rattle.module_stream.specs.Fields.{counted_of}
use Rattle.module_stream.specs.Declarations.{struct_of, array_of, function_of, decls_of, IsDeclaredStruct, IsDeclaredArray, IsDeclaredFunction, AreDeclarations, without_body, without_bodies, HasArrayCounts, HasFunctionCounts, HasCounts}

same_bytes : (fs : List Function) → flat_map function_of (map without_body fs) ≡ flat_map function_of fs
same_bytes [] = refl
same_bytes (f ∷ fs) =
    flat_map-cons function_of (without_body f) (map without_body fs)
    ∙ ap (λ t. function_of f ++ t) (same_bytes fs)
    ∙ sym (flat_map-cons function_of f fs)

pub decls_of-without_bodies : (m : Module) → decls_of (without_bodies m) ≡ decls_of m
decls_of-without_bodies m =
    let functions : counted_of function_of (map without_body m.functions) ≡ counted_of function_of m.functions =
    ap₂ (λ n t. uleb_of n ++ t) (length-map m.functions without_body) (same_bytes m.functions) in
    ap (λ t. counted_of struct_of m.structs ++ (counted_of array_of m.arrays ++ t)) functions

-- both facts hold of each
both_hold : {A : Type 0} (P Q R : A → Type 0) → ((x : A) → P x → Q x → R x) → (xs : List A) → All P xs → All Q xs → All R xs
both_hold P Q R join xs p q = λ k d lt. join _ (p k d lt) (q k d lt)

declared_function : (structs : List StructDef) (f : Function) → IsStatedFunction structs f → HasFunctionCounts (length structs) f → IsDeclaredFunction structs (without_body f)
declared_function structs f h k = record {
  stated = record {
    name = h.name;
    variables = h.variables;
    labels = h.labels;
    parameters = h.parameters;
    values = All-nil HasValues;
    declared = λ is. let d = h.declared is in (d.0, d.1, refl);
  };
  known = k.known;
  parameters = k.parameters;
  locals = k.locals;
  labels = k.labels;
  body = refl;
}

pub without_bodies-declared : (m : Module) → IsStated m → HasCounts m → AreDeclarations (without_bodies m)
without_bodies-declared m h k = record {
  structs = (omega (arith, h.items), both_hold IsStatedStruct (λ s. length s.fields < 2 ^ 32) IsDeclaredStruct (λ s stated count. record { stated = stated; count = count }) m.structs h.structs k.structs);
  arrays = (omega (arith, h.items), both_hold IsStatedArray HasArrayCounts IsDeclaredArray (λ a stated counts. record { stated = stated; count = counts.count; length = counts.length }) m.arrays h.arrays k.arrays);
  functions = (omega (arith, h.items, length-map m.functions without_body), All-map (IsDeclaredFunction m.structs) without_body m.functions (both_hold (IsStatedFunction m.structs) (HasFunctionCounts (length m.structs)) (λ f. IsDeclaredFunction m.structs (without_body f)) (declared_function m.structs) m.functions h.functions k.functions));
}

pub declared-stated : (m : Module) → AreDeclarations m → length m.structs + length m.arrays + length m.functions < 2 ^ 32 → IsStated m
declared-stated m h items = record {
  structs = All-weaker IsDeclaredStruct IsStatedStruct (λ s k. k.stated) m.structs h.structs.1;
  arrays = All-weaker IsDeclaredArray IsStatedArray (λ a k. k.stated) m.arrays h.arrays.1;
  functions = All-weaker (IsDeclaredFunction m.structs) (IsStatedFunction m.structs) (λ f k. k.stated) m.functions h.functions.1;
  items = items;
}
