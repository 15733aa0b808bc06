-- Programs of versioned steps as systems: the lowered source, its versions, and what rewriting and sweeping make of them. A step
-- does what the statement that it comes from does, over components alone; what is unset is carried by copies and calls.
use Rattle.std.specs.Prelude.{ℕ, suc, ◌+◌, ◌-◌, ◌++◌, pos, List, [], ◌∷◌, map, Option, Some, None, Bool, false, if◌then◌else◌, slice_get, slice_set, length, replicate, unsigned_abs, ◌==◌}
use Rattle.std.specs.Ordering.{int_eq}
use Rattle.gimple_ir.specs.Values.{unary_of, convert_of, value_of}
use Rattle.gimple_ir.specs.declared.types.ScalarType.{ScalarType}
use Rattle.gimple_ir.specs.declared.types.ScalarType.TheVariants.{Int}
use Rattle.gimple_ir.specs.declared.types.Value.{Value}
use Rattle.gimple_ir.specs.declared.types.Array.{Array}
use Rattle.gimple_ir.specs.declared.lattice.Binding.{Binding}
use Rattle.gimple_ir.specs.declared.lattice.Binding.TheVariants as binding
use Rattle.gimple_ir.specs.declared.versioned.Step.{Step}
use Rattle.gimple_ir.specs.declared.versioned.Step.TheVariants.{Nop, Label, Goto, Cond, Switch, Return, Copies, Unary, Convert, Binary, Load, Store as StoreTo, Call, Putchar, Getchar, Exit}
use Rattle.gimple_meaning.specs.Acts.{Store, Act, Fault, Goes, Calls, Leaves, Exits, needing, low_byte, cell, value_at, sets, copied, operation_of, case_label, element_type, element_at, loaded, stored, with_element, read_byte, unread}
use Rattle.gimple_meaning.specs.Systems.{System}

-- a function: the type of each component, a binding for each parameter component, and the function of each call
pub record Code : Type 0 where
  pub types : List ScalarType
  pub bindings : List Binding
  pub calls : List ℕ
  pub body : List Step

pub record Codes : Type 0 where
  pub arrays : List Array
  pub functions : List Code

-- ---- steps

abbrev pub is_label : ℕ → Step → Bool
is_label l (Label k) = k == l
is_label l _ = false

abbrev pub place_of : List Step → ℕ → ℕ
place_of [] l = 0
place_of (s ∷ ss) l = if is_label l s then 0 else suc (place_of ss l)

abbrev pub act : List Array → Code → ℕ → Store → Step → Act
act arrays f place s Nop = Goes (place + 1) s []
act arrays f place s (Label l) = Goes (place + 1) s []
act arrays f place s (Goto l) = Goes (place_of f.body l) s []
act arrays f place s (Cond op left right met missed) =
    needing (value_at s.cells left) (λ a. needing (value_at s.cells right) (λ b. needing (operation_of op a b) (λ v. Goes (place_of f.body (if int_eq v.num (pos 0) then missed else met)) s [])))
act arrays f place s (Switch on cases otherwise) = needing (value_at s.cells on) (λ v. Goes (place_of f.body (case_label cases v.num otherwise)) s [])
act arrays f place s (Return None) = Leaves None
act arrays f place s (Return (Some o)) = needing (value_at s.cells o) (λ v. Leaves (Some v))
act arrays f place s (Copies pairs) = Goes (place + 1) (record s { cells = copied s.cells pairs }) []
act arrays f place s (Unary to op from) = needing (value_at s.cells from) (λ a. needing (unary_of op a) (λ v. sets place s to v))
act arrays f place s (Convert to from) = needing (value_at s.cells from) (λ a. needing (slice_get f.types to) (λ ty. sets place s to (convert_of ty a)))
act arrays f place s (Binary to op left right) =
    needing (value_at s.cells left) (λ a. needing (value_at s.cells right) (λ b. needing (operation_of op a b) (λ v. sets place s to v)))
act arrays f place s (Load to array index) =
    needing (value_at s.cells index) (λ i. needing (element_type arrays array) (λ element. needing (element_at s.arrays array i.num) (λ z. sets place s to (loaded element z))))
act arrays f place s (StoreTo array index from) =
    needing (value_at s.cells index) (λ i. needing (value_at s.cells from) (λ v. needing (element_type arrays array) (λ element. needing (element_at s.arrays array i.num) (λ before.
    Goes (place + 1) (record s { arrays = with_element s.arrays array (unsigned_abs i.num) (stored element v.num) }) []))))
act arrays f place s (Call to n args) = needing (slice_get f.calls n) (λ g. Calls g (map (value_at s.cells) args))
act arrays f place s (Putchar o) = needing (value_at s.cells o) (λ v. Goes (place + 1) s (low_byte v.num ∷ []))
act arrays f place s (Getchar None) = Goes (place + 1) (record s { input = unread s.input }) []
act arrays f place s (Getchar (Some to)) =
    Goes (place + 1) (record s { cells = slice_set s.cells to (Some (value_of Int (read_byte s.input))); input = unread s.input }) []
act arrays f place s (Exit o) = needing (value_at s.cells o) (λ v. Exits (low_byte v.num))

-- ---- the system

abbrev pub act_in : List Array → Code → ℕ → Store → Option Step → Act
act_in arrays f place s None = Fault
act_in arrays f place s (Some step) = act arrays f place s step

abbrev pub act_at : List Array → Option Code → ℕ → Store → Act
act_at arrays None place s = Fault
act_at arrays (Some f) place s = act_in arrays f place s (slice_get f.body place)

-- what a parameter component begins with
abbrev pub bound_by : Option Binding → List (Option Value) → Option Value
bound_by None args = None
bound_by (Some binding.Dead) args = None
bound_by (Some (binding.Const v)) args = Some v
bound_by (Some (binding.Arg k)) args = cell args k

abbrev pub bound : List Binding → List (Option Value) → List (Option Value)
bound bindings args = map (λ b. bound_by (Some b) args) bindings

abbrev pub opened : Code → List (Option Value) → List (Option Value)
opened f args = bound f.bindings args ++ replicate (length f.types - length f.bindings) None

abbrev pub opened_by : Option Code → List (Option Value) → Option (List (Option Value))
opened_by None args = None
opened_by (Some f) args = Some (opened f args)

abbrev pub target_of : Option Step → Option ℕ
target_of (Some (Call to n args)) = to
target_of _ = None

abbrev pub target_at : Option Code → ℕ → Option ℕ
target_at None place = None
target_at (Some f) place = target_of (slice_get f.body place)

abbrev pub system_of : Codes → System
system_of codes = record {
  acts = λ f place s. act_at codes.arrays (slice_get codes.functions f) place s;
  enters = λ f args. opened_by (slice_get codes.functions f) args;
  receives = λ f place. target_at (slice_get codes.functions f) place;
}
