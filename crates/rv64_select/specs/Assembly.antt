-- The step table: the code of each step as items, in which labels and symbols stand by name, and no address is needed.
use Rattle.std.specs.Prelude.{ℕ, ◌+◌, pos, neg_ℤ, List, [], ◌∷◌, ◌++◌, map, Option, Some, None}
use Rattle.std.specs.List.{flat_map}
use Rattle.rv64_isa.specs.declared.instr.Instr.{Instr}
use Rattle.rv64_isa.specs.declared.instr.Instr.TheVariants.{Jalr, Addi, Add, Bne, Ecall}
use Rattle.gimple_ir.specs.declared.types.ElementType.{ElementType}
use Rattle.gimple_ir.specs.declared.types.Operand.{Operand}
use Rattle.gimple_ir.specs.declared.types.Operand.TheVariants as operands
use Rattle.gimple_ir.specs.declared.types.Case.{Case}
use Rattle.gimple_ir.specs.declared.lattice.Binding.{Binding}
use Rattle.gimple_ir.specs.declared.lattice.Binding.TheVariants as bindings
use Rattle.gimple_ir.specs.declared.versioned.Pair.{Pair}
use Rattle.gimple_ir.specs.declared.versioned.Step.{Step}
use Rattle.gimple_ir.specs.declared.versioned.Step.TheVariants as steps
use Rattle.gimple_ir.specs.declared.versioned.VersionedFunction.{VersionedFunction}
use Rattle.gimple_meaning.specs.Versioned.{type_of, type_of_component, element_of}
use Rattle.rv64_frame.specs.declared.layout.FrameLayout.{FrameLayout}
use Rattle.rv64_frame.specs.Frames.{outgoing_slot, slot_in, return_in, incoming_in, frame_of}
use Rattle.rv64_abi.specs.Registers.{ra, sp, t0, t1, t2, a0, a7}
use Rattle.rv64_select.specs.declared.item.Symbol.TheVariants as symbols
use Rattle.rv64_select.specs.declared.item.Item.{Item}
use Rattle.rv64_select.specs.declared.item.Item.TheVariants.{Plain, Label, Jump, Call, Upper, Load, Store}
use Rattle.rv64_select.specs.Templates.{constant, load_slot, store_slot, machine_form}
use Rattle.rv64_select.specs.Operations.{branch, operation, unary_operation, conversion, scaling}

-- instructions as they stand
abbrev pub plain : List Instr → List Item
plain code = map Plain code

-- ---- operands and components

-- an operand into a register
abbrev pub operand_in : FrameLayout → ℕ → Operand → List Instr
operand_in layout r (operands.Component c) = load_slot r (slot_in layout c)
operand_in layout r (operands.Literal v) = constant r (machine_form v.ty v.num)

-- a register into a component
abbrev pub set_in : FrameLayout → ℕ → ℕ → List Instr
set_in layout r component = store_slot r (slot_in layout component)

-- a register into a component, if there is one
abbrev pub assign_in : FrameLayout → ℕ → Option ℕ → List Instr
assign_in layout r None = []
assign_in layout r (Some component) = set_in layout r component

-- ---- entry and return

-- makes a frame of this size, and keeps the return address in this slot
abbrev pub enter_code : ℕ → ℕ → List Instr
enter_code size slot = constant t0 (neg_ℤ (pos size)) ++ (Add sp sp t0 ∷ store_slot ra slot)

-- gives such a frame back, and returns
abbrev pub leave_code : ℕ → ℕ → List Instr
leave_code size slot = load_slot ra slot ++ (constant t0 (pos size) ++ (Add sp sp t0 ∷ Jalr 0 ra (pos 0) ∷ []))

-- a parameter component, from what it is bound to
abbrev pub binding_items : FrameLayout → ℕ → Binding → List Item
binding_items layout component bindings.Dead = []
binding_items layout component (bindings.Arg k) = plain (load_slot t0 (incoming_in layout k)) ++ plain (set_in layout t0 component)
binding_items layout component (bindings.Const v) = plain (constant t0 (machine_form v.ty v.num)) ++ plain (set_in layout t0 component)

-- the parameter components from one on
abbrev pub bindings_items : FrameLayout → ℕ → List Binding → List Item
bindings_items layout component [] = []
bindings_items layout component (b ∷ bs) = binding_items layout component b ++ bindings_items layout (component + 1) bs

-- The entry makes the frame and fills the parameters.
abbrev pub entry_items : FrameLayout → List Binding → List Item
entry_items layout bs = plain (enter_code layout.size (return_in layout)) ++ bindings_items layout 0 bs

abbrev pub return_items : FrameLayout → List Item
return_items layout = plain (leave_code layout.size (return_in layout))

-- ---- steps

-- the case goes to its label if the value in t0 is its own
abbrev pub case_items : Case → List Item
case_items c = plain (constant t1 (machine_form c.value.ty c.value.num)) ++ (Plain (Bne t0 t1 (pos 8)) ∷ (Jump c.label ∷ []))

abbrev pub pair_items : FrameLayout → Pair → List Item
pair_items layout p = plain (operand_in layout t0 p.from) ++ plain (set_in layout t0 p.to)

-- the arguments from one on, into the slots of outgoing arguments
abbrev pub argument_items : FrameLayout → ℕ → List Operand → List Item
argument_items layout j [] = []
argument_items layout j (a ∷ others) =
    plain (operand_in layout t0 a) ++ (plain (store_slot t0 (outgoing_slot j)) ++ argument_items layout (j + 1) others)

-- the upper part of the array's address, and the scaled index in t0 behind it, into t2
abbrev pub address_items : ElementType → ℕ → List Item
address_items element array = plain (scaling element) ++ (Upper t2 (symbols.Array array) ∷ (Plain (Add t2 t2 t0) ∷ []))

-- a step of a function with this frame
abbrev pub step_items : FrameLayout → VersionedFunction → Step → List Item
step_items l f steps.Nop = []
step_items l f (steps.Label label) = Label label ∷ []
step_items l f (steps.Goto label) = Jump label ∷ []
step_items l f (steps.Cond op a b met missed) =
    plain (operand_in l t0 a) ++ (plain (operand_in l t1 b) ++ (plain (branch op (type_of f a)) ++ (Jump missed ∷ (Jump met ∷ []))))
step_items l f (steps.Switch a cases otherwise) = plain (operand_in l t0 a) ++ (flat_map case_items cases ++ (Jump otherwise ∷ []))
step_items l f (steps.Return None) = return_items l
step_items l f (steps.Return (Some a)) = plain (operand_in l a0 a) ++ return_items l
step_items l f (steps.Copies pairs) = flat_map (pair_items l) pairs
step_items l f (steps.Unary to op a) = plain (operand_in l t0 a) ++ (plain (unary_operation op (type_of f a)) ++ plain (set_in l t0 to))
step_items l f (steps.Convert to a) =
    plain (operand_in l t0 a) ++ (plain (conversion (type_of_component f to) (type_of f a)) ++ plain (set_in l t0 to))
step_items l f (steps.Binary to op a b) =
    plain (operand_in l t0 a) ++ (plain (operand_in l t1 b) ++ (plain (operation op (type_of f a)) ++ plain (set_in l t0 to)))
step_items l f (steps.Load to array a) = let element = element_of f array in
    plain (operand_in l t0 a) ++ (address_items element array ++ (Load element t0 t2 (symbols.Array array) ∷ plain (set_in l t0 to)))
step_items l f (steps.Store array a b) = let element = element_of f array in
    plain (operand_in l t0 a) ++ (plain (operand_in l t1 b) ++ (address_items element array ++ (Store element t2 t1 (symbols.Array array) ∷ [])))
step_items l f (steps.Call to call args) = argument_items l 0 args ++ (Call (symbols.Target call) ∷ plain (assign_in l a0 to))
step_items l f (steps.Putchar a) = plain (operand_in l a0 a) ++ (Call symbols.Putchar ∷ [])
step_items l f (steps.Getchar to) = Call symbols.Getchar ∷ plain (assign_in l a0 to)
step_items l f (steps.Exit a) = plain (operand_in l a0 a) ++ (Plain (Addi a7 0 (pos 93)) ∷ (Plain Ecall ∷ []))

-- the function with its frame
abbrev pub assembly_of : VersionedFunction → List Item
assembly_of f = entry_items (frame_of f) f.bindings ++ flat_map (step_items (frame_of f) f) f.body
