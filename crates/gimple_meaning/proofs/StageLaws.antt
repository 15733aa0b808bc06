-- A plan's act is that of the statement that it is made for, and what a plan does to the stage is what the act does.
use Rattle.std.proofs.Common.{◌≡◌, ℕ, ℤ, pos, refl, ap, ◌∙◌, List, Option, Some, None, slice_get, option_and_then, unsigned_abs}
use Rattle.std.specs.Prelude.{if◌then◌else◌}
use Rattle.std.specs.Option.{option_map}
use Rattle.std.specs.Ordering.{int_eq}
use Rattle.gimple_ir.specs.Values.{unary_of, convert_of}
use Rattle.gimple_ir.specs.Statements.{component_types}
use Rattle.gimple_ir.specs.declared.types.ElementType.{ElementType}
use Rattle.gimple_ir.specs.declared.types.ScalarType.{ScalarType}
use Rattle.gimple_ir.specs.declared.types.Value.{Value}
use Rattle.gimple_ir.specs.declared.types.Array.{Array}
use Rattle.gimple_ir.specs.declared.types.Arg.{Arg}
use Rattle.gimple_ir.specs.declared.types.Function.{Function}
use Rattle.gimple_ir.specs.declared.types.Statement.{Statement}
use Rattle.gimple_ir.specs.declared.types.Statement.TheVariants.{Nop, Label, Goto, Cond, Switch, ReturnVoid, Return, Copy, Unary, Convert, Binary, Load, Store as StoreTo, CopyStruct, Call, Putchar, Getchar, Exit}
use Rattle.gimple_meaning.specs.declared.moves.Move.{Move}
use Rattle.gimple_meaning.specs.declared.moves.Move.TheVariants as move
use Rattle.gimple_meaning.specs.Acts.{Store, needing, low_byte, value_at, operation_of, case_label, element_type, element_at, loaded, stored}
use Rattle.gimple_meaning.specs.Moves.{on, loaded_on, store_on, move_of, act_of, IsPlain, IsCallOf}
use Rattle.gimple_meaning.specs.Source.{effect}
use Rattle.gimple_meaning.specs.Stages.{call_act}

-- ---- plans

module _ (f : Function) (place : ℕ) (s : Store) where
  on_one : (x : Option Value) (k : Value → Move) → needing x (λ v. act_of f place s (k v)) ≡ act_of f place s (on x k)
  on_one None k = refl
  on_one (Some v) k = refl

  on_unary : (x : Option Value) (g : Value → Option Value) (k : Value → Move)
      → needing x (λ a. needing (g a) (λ v. act_of f place s (k v))) ≡ act_of f place s (on (option_and_then g x) k)
  on_unary None g k = refl
  on_unary (Some a) g k = on_one (g a) k

  on_two : (x y : Option Value) (g : Value → Value → Option Value) (k : Value → Move)
      → needing x (λ a. needing y (λ b. needing (g a b) (λ v. act_of f place s (k v)))) ≡ act_of f place s (on (option_and_then (λ a. option_and_then (g a) y) x) k)
  on_two None y g k = refl
  on_two (Some a) None g k = refl
  on_two (Some a) (Some b) g k = on_one (g a b) k

  on_type : (x : Option Value) (ty : Option ScalarType) (k : Value → Move)
      → needing x (λ a. needing ty (λ t. act_of f place s (k (convert_of t a)))) ≡ act_of f place s (on (option_and_then (λ a. option_map (λ t. convert_of t a) ty) x) k)
  on_type None ty k = refl
  on_type (Some a) None k = refl
  on_type (Some a) (Some t) k = refl

  on_element : (e : Option ElementType) (z : Option ℤ) (k : Value → Move)
      → needing e (λ element. needing z (λ n. act_of f place s (k (loaded element n)))) ≡ act_of f place s (on (option_and_then (λ element. option_map (loaded element) z) e) k)
  on_element None z k = refl
  on_element (Some e) None k = refl
  on_element (Some e) (Some n) k = refl

  on_load : (declared : List Array) (numbers : List (List ℤ)) (array : ℕ) (x : Option Value) (k : Value → Move)
      → needing x (λ i. needing (element_type declared array) (λ element. needing (element_at numbers array i.num) (λ n. act_of f place s (k (loaded element n)))))
      ≡ act_of f place s (on (loaded_on declared numbers array x) k)
  on_load declared numbers array None k = refl
  on_load declared numbers array (Some i) k = on_element (element_type declared array) (element_at numbers array i.num) k

  on_store : (e : Option ElementType) (z : Option ℤ) (array : ℕ) (i v : Value)
      → needing e (λ element. needing z (λ before. act_of f place s (move.Store array (unsigned_abs i.num) (stored element v.num))))
      ≡ act_of f place s (on e (λ element. on z (λ before. move.Store array (unsigned_abs i.num) (stored element v.num))))
  on_store None z array i v = refl
  on_store (Some e) None array i v = refl
  on_store (Some e) (Some n) array i v = refl

  on_stores : (declared : List Array) (array : ℕ) (x y : Option Value)
      → needing x (λ i. needing y (λ v. needing (element_type declared array) (λ element. needing (element_at s.arrays array i.num) (λ before.
      act_of f place s (move.Store array (unsigned_abs i.num) (stored element v.num))))))
      ≡ act_of f place s (store_on declared s.arrays array x y)
  on_stores declared array None y = refl
  on_stores declared array (Some i) None = refl
  on_stores declared array (Some i) (Some v) = on_store (element_type declared array) (element_at s.arrays array i.num) array i v

  pub plan-is : (declared : List Array) (statement : Statement) → IsPlain statement
      → effect declared f place s statement ≡ act_of f place s (move_of f declared s.cells s.arrays statement)
  plan-is declared Nop h = refl
  plan-is declared (Label l) h = refl
  plan-is declared (Goto l) h = refl
  plan-is declared (Cond op left right met missed) h =
      on_two (value_at s.cells left) (value_at s.cells right) (operation_of op) (λ v. move.Jump (if int_eq v.num (pos 0) then missed else met))
  plan-is declared (Switch a cases otherwise) h = on_one (value_at s.cells a) (λ v. move.Jump (case_label cases v.num otherwise))
  plan-is declared ReturnVoid h = refl
  plan-is declared (Return o) h = on_one (value_at s.cells o) (λ v. move.Leave (Some v))
  plan-is declared (Copy to from) h = on_one (value_at s.cells from) (λ v. move.Assign to v)
  plan-is declared (Unary to op from) h = on_unary (value_at s.cells from) (unary_of op) (λ v. move.Assign to v)
  plan-is declared (Convert to from) h = on_type (value_at s.cells from) (slice_get (component_types f.variables) to) (λ v. move.Assign to v)
  plan-is declared (Binary to op left right) h =
      on_two (value_at s.cells left) (value_at s.cells right) (operation_of op) (λ v. move.Assign to v)
  plan-is declared (Load to array index) h = on_load declared s.arrays array (value_at s.cells index) (λ v. move.Assign to v)
  plan-is declared (StoreTo array index from) h = on_stores declared array (value_at s.cells index) (value_at s.cells from)
  plan-is declared (CopyStruct to from) h = refl
  plan-is declared (Call to g args) h = absurd h
  plan-is declared (Putchar o) h = on_one (value_at s.cells o) (λ v. move.Print (low_byte v.num))
  plan-is declared (Getchar None) h = refl
  plan-is declared (Getchar (Some to)) h = refl
  plan-is declared (Exit o) h = on_one (value_at s.cells o) (λ v. move.End (low_byte v.num))

  pub call-is : (declared : List Array) (statement : Statement) (g : ℕ) (args : List Arg) → IsCallOf statement g args
      → effect declared f place s statement ≡ call_act f s.cells g args
  call-is declared (Call to h passed) g args is = ap (λ n. call_act f s.cells n passed) is.0 ∙ ap (call_act f s.cells g) is.1
  call-is declared _ g args is = absurd is
