-- The items of a function that symbols fill have registers in range.
use Rattle.std.proofs.Common.{ℕ, ◌+◌, pos, List, [], ◌∷◌, ◌++◌, Some, None, arith}
use Rattle.std.specs.List.{AllByRecursion, flat_map}
use Rattle.gimple_ir.specs.declared.types.ElementType.{ElementType}
use Rattle.gimple_ir.specs.declared.types.Operand.{Operand}
use Rattle.gimple_ir.specs.declared.types.Case.{Case}
use Rattle.gimple_ir.specs.declared.lattice.Binding.{Binding}
use Rattle.gimple_ir.specs.declared.lattice.Binding.TheVariants as bindings
use Rattle.gimple_ir.specs.declared.versioned.Pair.{Pair}
use Rattle.gimple_ir.specs.declared.versioned.Step.{Step}
use Rattle.gimple_ir.specs.declared.versioned.Step.TheVariants as steps
use Rattle.gimple_ir.specs.declared.versioned.VersionedFunction.{VersionedFunction}
use Rattle.rv64_isa.specs.declared.instr.Instr.{Instr}
use Rattle.rv64_isa.specs.declared.instr.Instr.TheVariants.{Add, Addi, Bne, Ecall}
use Rattle.rv64_isa.specs.Format.{IsRegister}
use Rattle.rv64_frame.specs.declared.layout.FrameLayout.{FrameLayout}
use Rattle.rv64_frame.specs.Frames.{return_in, incoming_in, outgoing_slot, frame_of}
use Rattle.rv64_select.specs.declared.item.Symbol.TheVariants as symbols
use Rattle.rv64_select.specs.declared.item.Item.{Item}
use Rattle.rv64_select.specs.declared.item.Item.TheVariants as item
use Rattle.rv64_select.specs.Templates.{constant, load_slot, store_slot, machine_form}
use Rattle.rv64_select.specs.Operations.{branch, operation, unary_operation, conversion, scaling}
use Rattle.gimple_meaning.specs.Versioned.{type_of, type_of_component, element_of}
use Rattle.rv64_select.specs.Assembly.{plain, operand_in, set_in, assign_in, enter_code, leave_code, binding_items, bindings_items, case_items, pair_items, argument_items, address_items, step_items, assembly_of}

abbrev pub HasRegisters : Item → Type 0
HasRegisters (item.Upper rd s) = IsRegister rd
HasRegisters (item.Load element rd rs1 s) = IsRegister rd × IsRegister rs1
HasRegisters (item.Store element rs1 rs2 s) = IsRegister rs1 × IsRegister rs2
HasRegisters _ = Unit {0}

abbrev AllHave : List Item → Type 0
AllHave items = AllByRecursion HasRegisters items

both : (xs ys : List Item) → AllHave xs → AllHave ys → AllHave (xs ++ ys)
both [] ys h k = k
both (x ∷ xs) ys h k = (h.0, both xs ys h.1 k)

alone : (code : List Instr) → AllHave (plain code)
alone [] = tt
alone (i ∷ is) = (tt, alone is)

-- instructions before other items
front : (code : List Instr) (rest : List Item) → AllHave rest → AllHave (plain code ++ rest)
front code rest h = both (plain code) rest (alone code) h

-- ---- parts

of_binding : (l : FrameLayout) (x : ℕ) (b : Binding) → AllHave (binding_items l x b)
of_binding l x bindings.Dead = tt
of_binding l x (bindings.Arg k) = front (load_slot 5 (incoming_in l k)) (plain (set_in l 5 x)) (alone (set_in l 5 x))
of_binding l x (bindings.Const v) = front (constant 5 (machine_form v.ty v.num)) (plain (set_in l 5 x)) (alone (set_in l 5 x))

of_bindings : (l : FrameLayout) (x : ℕ) (bs : List Binding) → AllHave (bindings_items l x bs)
of_bindings l x [] = tt
of_bindings l x (b ∷ bs) = both (binding_items l x b) (bindings_items l (x + 1) bs) (of_binding l x b) (of_bindings l (x + 1) bs)

of_case : (c : Case) → AllHave (case_items c)
of_case c = front (constant 6 (machine_form c.value.ty c.value.num)) (item.Plain (Bne 5 6 (pos 8)) ∷ (item.Jump c.label ∷ [])) (tt, (tt, tt))

of_cases : (cs : List Case) → AllHave (flat_map case_items cs)
of_cases [] = tt
of_cases (c ∷ cs) = both (case_items c) (flat_map case_items cs) (of_case c) (of_cases cs)

of_pairs : (l : FrameLayout) (ps : List Pair) → AllHave (flat_map (pair_items l) ps)
of_pairs l [] = tt
of_pairs l (p ∷ ps) =
    both (pair_items l p) (flat_map (pair_items l) ps) (front (operand_in l 5 p.from) (plain (set_in l 5 p.to)) (alone (set_in l 5 p.to))) (of_pairs l ps)

of_arguments : (l : FrameLayout) (j : ℕ) (args : List Operand) → AllHave (argument_items l j args)
of_arguments l j [] = tt
of_arguments l j (a ∷ args) =
    front (operand_in l 5 a) (plain (store_slot 5 (outgoing_slot j)) ++ argument_items l (j + 1) args)
    (front (store_slot 5 (outgoing_slot j)) (argument_items l (j + 1) args) (of_arguments l (j + 1) args))

of_address : (element : ElementType) (array : ℕ) → AllHave (address_items element array)
of_address element array =
    let seven : IsRegister 7 = omega arith in
    front (scaling element) (item.Upper 7 (symbols.Array array) ∷ (item.Plain (Add 7 7 5) ∷ [])) (seven, (tt, tt))

-- ---- steps

of_step : (l : FrameLayout) (f : VersionedFunction) (s : Step) → AllHave (step_items l f s)
of_step l f steps.Nop = tt
of_step l f (steps.Label label) = (tt, tt)
of_step l f (steps.Goto label) = (tt, tt)
of_step l f (steps.Cond op a b met missed) =
    let code = branch op (type_of f a) in
    let jumps = item.Jump missed ∷ (item.Jump met ∷ []) in
    front (operand_in l 5 a) (plain (operand_in l 6 b) ++ (plain code ++ jumps)) (front (operand_in l 6 b) (plain code ++ jumps) (front code jumps (tt, (tt, tt))))
of_step l f (steps.Switch a cases otherwise) =
    let last = item.Jump otherwise ∷ [] in
    front (operand_in l 5 a) (flat_map case_items cases ++ last) (both (flat_map case_items cases) last (of_cases cases) (tt, tt))
of_step l f (steps.Return None) = alone (leave_code l.size (return_in l))
of_step l f (steps.Return (Some a)) = front (operand_in l 10 a) (plain (leave_code l.size (return_in l))) (alone (leave_code l.size (return_in l)))
of_step l f (steps.Copies pairs) = of_pairs l pairs
of_step l f (steps.Unary to op a) =
    let code = unary_operation op (type_of f a) in
    front (operand_in l 5 a) (plain code ++ plain (set_in l 5 to)) (front code (plain (set_in l 5 to)) (alone (set_in l 5 to)))
of_step l f (steps.Convert to a) =
    let code = conversion (type_of_component f to) (type_of f a) in
    front (operand_in l 5 a) (plain code ++ plain (set_in l 5 to)) (front code (plain (set_in l 5 to)) (alone (set_in l 5 to)))
of_step l f (steps.Binary to op a b) =
    let code = operation op (type_of f a) in
    front (operand_in l 5 a) (plain (operand_in l 6 b) ++ (plain code ++ plain (set_in l 5 to)))
    (front (operand_in l 6 b) (plain code ++ plain (set_in l 5 to)) (front code (plain (set_in l 5 to)) (alone (set_in l 5 to))))
of_step l f (steps.Load to array a) =
    let element = element_of f array in
    let last = item.Load element 5 7 (symbols.Array array) ∷ plain (set_in l 5 to) in
    front (operand_in l 5 a) (address_items element array ++ last)
    (both (address_items element array) last (of_address element array) ((omega arith, omega arith), alone (set_in l 5 to)))
of_step l f (steps.Store array a b) =
    let element = element_of f array in
    let last = item.Store element 7 6 (symbols.Array array) ∷ [] in
    front (operand_in l 5 a) (plain (operand_in l 6 b) ++ (address_items element array ++ last))
    (front (operand_in l 6 b) (address_items element array ++ last) (both (address_items element array) last (of_address element array) ((omega arith, omega arith), tt)))
of_step l f (steps.Call to call args) =
    both (argument_items l 0 args) (item.Call (symbols.Target call) ∷ plain (assign_in l 10 to)) (of_arguments l 0 args) (tt, alone (assign_in l 10 to))
of_step l f (steps.Putchar a) = front (operand_in l 10 a) (item.Call symbols.Putchar ∷ []) (tt, tt)
of_step l f (steps.Getchar to) = (tt, alone (assign_in l 10 to))
of_step l f (steps.Exit a) = front (operand_in l 10 a) (item.Plain (Addi 17 0 (pos 93)) ∷ (item.Plain Ecall ∷ [])) (tt, (tt, tt))

of_steps : (l : FrameLayout) (f : VersionedFunction) (ss : List Step) → AllHave (flat_map (step_items l f) ss)
of_steps l f [] = tt
of_steps l f (s ∷ ss) = both (step_items l f s) (flat_map (step_items l f) ss) (of_step l f s) (of_steps l f ss)

pub assembly_registers : (f : VersionedFunction) → AllByRecursion HasRegisters (assembly_of f)
assembly_registers f =
    let l = frame_of f in
    both (plain (enter_code l.size (return_in l)) ++ bindings_items l 0 f.bindings) (flat_map (step_items l f) f.body)
    (front (enter_code l.size (return_in l)) (bindings_items l 0 f.bindings) (of_bindings l 0 f.bindings)) (of_steps l f f.body)
