-- Functions with the bodies that were read: what they declare is as before, their bodies are those, and the module is well formed.
use Rattle.std.proofs.Common.{◌≡◌, ℕ, zero, suc, ◌+◌, ◌^◌, ◌<◌, List, [], ◌∷◌, ◌++◌, length, map, drop, Bool, true, false, cond, Option, Some, None, refl, sym, ap, ap₂, ◌∙◌, arith}
use Rattle.std.specs.Prelude.{All, slice_get, unwrap_or, not}
use Rattle.std.specs.List.{flat_map, AllByRecursion}
use Rattle.std.proofs.lemmas.List.Elements.{All-nil, recursion_from_All, All-from_recursion}
use Rattle.cursors.specs.Leb128.{uleb_of}
use Rattle.gimple_ir.specs.declared.types.Operand.{Operand}
use Rattle.gimple_ir.specs.declared.types.Operand.TheVariants.{Component, Literal}
use Rattle.gimple_ir.specs.declared.types.Arg.{Arg}
use Rattle.gimple_ir.specs.declared.types.Arg.TheVariants.{One, Whole}
use Rattle.gimple_ir.specs.declared.types.Case.{Case}
use Rattle.gimple_ir.specs.declared.types.StructDef.{StructDef}
use Rattle.gimple_ir.specs.declared.types.Function.{Function}
use Rattle.gimple_ir.specs.declared.types.Module.{Module}
use Rattle.gimple_ir.specs.declared.types.Statement.{Statement}
use Rattle.gimple_ir.specs.declared.types.Statement.TheVariants.{Nop, Label, Goto, Cond, Switch, ReturnVoid, Return, Copy, Unary, Convert, Binary, Load, Store, CopyStruct, Call, Putchar, Getchar, Exit}
use Rattle.gimple_ir.specs.Checks.{is_extern}
use Rattle.gimple_ir.specs.Programs.{IsOperand, IsArgument, HasValues, IsStatedFunction, IsStated}
use Rattle.gimple_ir.specs.Values.{IsValue}
use Rattle.module_stream.specs.declared.bounds.BodyBounds.{BodyBounds}
use Rattle.module_stream.specs.Fields.{FitsAll, FitEach, counted_of}
use Rattle.module_stream.specs.Bodies.{FitsOperand, FitsArg, FitsCase, type_of, Fits, FitsBody}
use Rattle.module_stream.specs.Declarations.{function_of, decls_of, without_body, without_bodies}
use Rattle.func_summary.proofs.Checked.{all-from_places, all_at}
use Rattle.lto_object.specs.Bounds.{is_defined, defined_of, bounds_of, bounds_in}
use Rattle.lto_object.specs.BodyStream.{bodies_of, FitBodies}
use Rattle.lto_object.specs.ObjectReading.{with_body, filled, with_bodies}

-- ---- what is declared

filled_len : (fs : List Function) (bodies : List (List Statement)) → length (filled fs bodies) ≡ length fs
filled_len [] bodies = refl
filled_len (f ∷ fs) bodies = by (is_defined f) (filled_len fs)
  where
    by : (b : Bool) → ((bs : List (List Statement)) → length (filled fs bs) ≡ length fs) → length (cond b (with_body f (unwrap_or (slice_get bodies 0) []) ∷ filled fs (drop 1 bodies)) (with_body f [] ∷ filled fs bodies)) ≡ suc (length fs)
    by true later = ap suc (later (drop 1 bodies))
    by false later = ap suc (later bodies)

filled_spelled : (fs : List Function) (bodies : List (List Statement)) → flat_map function_of (filled fs bodies) ≡ flat_map function_of fs
filled_spelled [] bodies = refl
filled_spelled (f ∷ fs) bodies = by (is_defined f) (filled_spelled fs)
  where
    by : (b : Bool) → ((bs : List (List Statement)) → flat_map function_of (filled fs bs) ≡ flat_map function_of fs) → flat_map function_of (cond b (with_body f (unwrap_or (slice_get bodies 0) []) ∷ filled fs (drop 1 bodies)) (with_body f [] ∷ filled fs bodies)) ≡ function_of f ++ flat_map function_of fs
    by true later = ap (λ t. function_of f ++ t) (later (drop 1 bodies))
    by false later = ap (λ t. function_of f ++ t) (later bodies)

pub filled_decls : (m : Module) (bodies : List (List Statement)) → decls_of (with_bodies m bodies) ≡ decls_of m
filled_decls m bodies = rw (filled_len m.functions bodies, filled_spelled m.functions bodies) refl

-- the bounds of the functions that have a body
filled_bounds_by : (g : Function → BodyBounds) → ((f : Function) (b : List Statement) → g (with_body f b) ≡ g f) → (fs : List Function) (bodies : List (List Statement)) → map g (defined_of (filled fs bodies)) ≡ map g (defined_of fs)
filled_bounds_by g h [] bodies = refl
filled_bounds_by g h (f ∷ fs) bodies = by (is_defined f) refl (filled_bounds_by g h fs)
  where
    by : (b : Bool) → is_defined f ≡ b → ((bs : List (List Statement)) → map g (defined_of (filled fs bs)) ≡ map g (defined_of fs)) → map g (defined_of (cond b (with_body f (unwrap_or (slice_get bodies 0) []) ∷ filled fs (drop 1 bodies)) (with_body f [] ∷ filled fs bodies))) ≡ map g (cond b (f ∷ defined_of fs) (defined_of fs))
    by true e later = rw e (ap₂ (λ x xs. x ∷ xs) (h f (unwrap_or (slice_get bodies 0) [])) (later (drop 1 bodies)))
    by false e later = rw e (later bodies)

-- the bounds, where the module has so many functions
abbrev pub with_count : Module → ℕ → Function → BodyBounds
with_count m n f = record { types = (bounds_of m f).types; variables = (bounds_of m f).variables; labels = (bounds_of m f).labels; arrays = (bounds_of m f).arrays; functions = n }

pub filled_bounds : (m : Module) (bodies : List (List Statement)) → bounds_in (with_bodies m bodies) ≡ bounds_in m
filled_bounds m bodies =
    filled_bounds_by (bounds_of (with_bodies m bodies)) (λ f b. refl) m.functions bodies
    ∙ ap (λ (n : ℕ). map (with_count m n) (defined_of m.functions)) (filled_len m.functions bodies)

-- ---- the bodies

filled_bodies_by : (g : Function → BodyBounds) (fs : List Function) (bodies : List (List Statement)) → FitEach FitsBody (map g (defined_of fs)) bodies → bodies_of (filled fs bodies) ≡ bodies
filled_bodies_by g [] [] fit = refl
filled_bodies_by g [] (b ∷ bodies) fit = absurd fit
filled_bodies_by g (f ∷ fs) bodies fit = by (is_defined f) refl (filled_bodies_by g fs) bodies fit
  where
    by : (b : Bool) → is_defined f ≡ b → ((bs : List (List Statement)) → FitEach FitsBody (map g (defined_of fs)) bs → bodies_of (filled fs bs) ≡ bs) → (bs : List (List Statement)) → FitEach FitsBody (map g (cond b (f ∷ defined_of fs) (defined_of fs))) bs
        → map (λ (h : Function). h.body) (defined_of (cond b (with_body f (unwrap_or (slice_get bs 0) []) ∷ filled fs (drop 1 bs)) (with_body f [] ∷ filled fs bs))) ≡ bs
    by true e later [] k = absurd k
    by true e later (c ∷ cs) k = rw e (ap (λ t. c ∷ t) (later cs k.1))
    by false e later bs k = rw e (later bs k)

pub filled_bodies : (m : Module) (bodies : List (List Statement)) → FitBodies m bodies → bodies_of (filled m.functions bodies) ≡ bodies
filled_bodies m bodies fit = filled_bodies_by (bounds_of m) m.functions bodies fit

-- a module's own bodies, where declarations have none
refilled : (fs : List Function) → AllByRecursion (λ f. is_defined f ≡ false → f.body ≡ []) fs → filled (map without_body fs) (bodies_of fs) ≡ fs
refilled [] h = refl
refilled (f ∷ fs) h = by (is_defined f) refl h.0 (refilled fs h.1)
  where
    by : (b : Bool) → is_defined f ≡ b → (is_defined f ≡ false → f.body ≡ []) → filled (map without_body fs) (bodies_of fs) ≡ fs
        → cond b (with_body f (unwrap_or (slice_get (map (λ (g : Function). g.body) (cond b (f ∷ defined_of fs) (defined_of fs))) 0) []) ∷ filled (map without_body fs) (drop 1 (map (λ (g : Function). g.body) (cond b (f ∷ defined_of fs) (defined_of fs)))))
        (with_body f [] ∷ filled (map without_body fs) (map (λ (g : Function). g.body) (cond b (f ∷ defined_of fs) (defined_of fs)))) ≡ f ∷ fs
    by true e none later = ap (λ t. f ∷ t) later
    by false e none later = ap₂ (λ x xs. x ∷ xs) (ap (with_body f) (sym (none e))) later

extern_of : (b : Bool) → not b ≡ false → b ≡ true
extern_of true h = refl
extern_of false h = cc

pub refilled_module : (m : Module) → IsStated m → with_bodies (without_bodies m) (bodies_of m.functions) ≡ m
refilled_module m stated =
    ap (λ (fs : List Function). record { structs = m.structs; arrays = m.arrays; functions = fs })
    (refilled m.functions (recursion_from_All (λ f. is_defined f ≡ false → f.body ≡ []) m.functions
    (all-from_places (λ f. is_defined f ≡ false → f.body ≡ []) m.functions (λ i f here e. ((all_at (IsStatedFunction m.structs) m.functions stated.functions i f here).declared (extern_of (is_extern f.linkage) e)).2))))

-- ---- the module is well formed

operand_value : (b : BodyBounds) (a : Operand) → FitsOperand b a → IsOperand a
operand_value b (Component x) h = tt
operand_value b (Literal v) h = h

argument_value : (b : BodyBounds) (a : Arg) → FitsArg b a → IsArgument a
argument_value b (One a) h = operand_value b a h
argument_value b (Whole v) h = tt

arguments_value : (b : BodyBounds) (args : List Arg) → All (FitsArg b) args → All IsArgument args
arguments_value b args h = all-from_places IsArgument args (λ i a here. argument_value b a (all_at (FitsArg b) args h i a here))

statement_value : (b : BodyBounds) (s : Statement) → Fits b s → HasValues s
statement_value b Nop h = tt
statement_value b (Label l) h = tt
statement_value b (Goto l) h = tt
statement_value b (Cond op x y met missed) h = (operand_value b x h.0, operand_value b y h.1)
statement_value b (Switch x cases otherwise) h = (operand_value b x h.0, all-from_places (λ c. IsValue c.value) cases (λ i c here. (all_at (FitsCase b (type_of b x)) cases h.1.1 i c here).value))
statement_value b ReturnVoid h = tt
statement_value b (Return x) h = operand_value b x h
statement_value b (Copy to x) h = operand_value b x h.1
statement_value b (Unary to op x) h = operand_value b x h.1
statement_value b (Convert to x) h = operand_value b x h.1
statement_value b (Binary to op x y) h = (operand_value b x h.1, operand_value b y h.2)
statement_value b (Load to array x) h = operand_value b x h.2
statement_value b (Store array x y) h = (operand_value b x h.1, operand_value b y h.2)
statement_value b (CopyStruct s t) h = tt
statement_value b (Call None f args) h = arguments_value b args h.1.1
statement_value b (Call (Some to) f args) h = arguments_value b args h.2.1
statement_value b (Putchar x) h = operand_value b x h
statement_value b (Getchar None) h = tt
statement_value b (Getchar (Some to)) h = tt
statement_value b (Exit x) h = operand_value b x h

body_values : (b : BodyBounds) (body : List Statement) → FitsBody b body → All HasValues body
body_values b body h = all-from_places HasValues body (λ i s here. statement_value b s (all_at (Fits b) body h.1 i s here))

not_defined : (b : Bool) → not b ≡ true → b ≡ true → (x y : List Statement) → x ≡ y
not_defined true h e x y = cc
not_defined false h e x y = cc

with_stated : (structs : List StructDef) (f : Function) (b : List Statement) → IsStatedFunction structs f → All HasValues b → (is_extern f.linkage ≡ true → b ≡ []) → IsStatedFunction structs (with_body f b)
with_stated structs f b is values empty = record {
  name = is.name;
  variables = is.variables;
  labels = is.labels;
  parameters = is.parameters;
  values = values;
  declared = λ e. ((is.declared e).0, (is.declared e).1, empty e);
}

filled_stated : (structs : List StructDef) (g : Function → BodyBounds) (fs : List Function) (bodies : List (List Statement)) → AllByRecursion (IsStatedFunction structs) fs → FitEach FitsBody (map g (defined_of fs)) bodies → AllByRecursion (IsStatedFunction structs) (filled fs bodies)
filled_stated structs g [] bodies is fit = tt
filled_stated structs g (f ∷ fs) bodies is fit = by (is_defined f) refl is.0 (λ bs k. filled_stated structs g fs bs is.1 k) bodies fit
  where
    by : (b : Bool) → is_defined f ≡ b → IsStatedFunction structs f → ((bs : List (List Statement)) → FitEach FitsBody (map g (defined_of fs)) bs → AllByRecursion (IsStatedFunction structs) (filled fs bs)) → (bs : List (List Statement)) → FitEach FitsBody (map g (cond b (f ∷ defined_of fs) (defined_of fs))) bs
        → AllByRecursion (IsStatedFunction structs) (cond b (with_body f (unwrap_or (slice_get bs 0) []) ∷ filled fs (drop 1 bs)) (with_body f [] ∷ filled fs bs))
    by true e one later [] k = absurd k
    by true e one later (c ∷ cs) k = (with_stated structs f c one (body_values (g f) c k.0) (λ x. not_defined (is_extern f.linkage) e x c []), later cs k.1)
    by false e one later bs k = (with_stated structs f [] one (All-nil HasValues) (λ x. refl), later bs k)

pub with_bodies-stated : (m : Module) (bodies : List (List Statement)) → IsStated m → FitBodies m bodies → IsStated (with_bodies m bodies)
with_bodies-stated m bodies is fit = record {
  structs = is.structs;
  arrays = is.arrays;
  functions = All-from_recursion (IsStatedFunction m.structs) (filled m.functions bodies) (filled_stated m.structs (bounds_of m) m.functions bodies (recursion_from_All (IsStatedFunction m.structs) m.functions is.functions) fit);
  items = rw (filled_len m.functions bodies) is.items;
}
