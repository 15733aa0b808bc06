-- The items of a function have registers in range, labels that the function has, and symbols that it names.
use Rattle.std.proofs.Common.{◌≡◌, ℕ, ◌+◌, ◌*◌, ◌%◌, ◌^◌, ◌<◌, ◌≤◌, pos, Bool, true, false, cond, List, [], ◌∷◌, ◌++◌, length, Option, Some, None, refl, arith}
use Rattle.std.specs.Prelude.{All}
use Rattle.std.specs.List.{AllByRecursion, flat_map}
use Rattle.std.proofs.lemmas.List.Elements.{All-head, All-tail}
use Rattle.gimple_ir.specs.declared.types.ElementType.{ElementType}
use Rattle.gimple_ir.specs.declared.types.Operand.{Operand}
use Rattle.gimple_ir.specs.declared.types.Operand.TheVariants as operands
use Rattle.gimple_ir.specs.declared.types.Case.{Case}
use Rattle.gimple_ir.specs.declared.lattice.Binding.{Binding}
use Rattle.gimple_ir.specs.declared.lattice.Binding.TheVariants as bindings
use Rattle.gimple_ir.specs.declared.versioned.Pair.{Pair}
use Rattle.gimple_ir.specs.declared.versioned.Step.{Step}
use Rattle.gimple_ir.specs.declared.versioned.Step.TheVariants as steps
use Rattle.gimple_ir.specs.declared.versioned.VersionedFunction.{VersionedFunction}
use Rattle.rv64_isa.specs.declared.instr.Instr.{Instr}
use Rattle.rv64_isa.specs.declared.instr.Instr.TheVariants.{Add, Addi, Bne, Ecall}
use Rattle.rv64_isa.specs.Format.{IsRegister}
use Rattle.rv64_isa.specs.Words.{InRange}
use Rattle.rv64_frame.specs.declared.layout.FrameLayout.{FrameLayout}
use Rattle.rv64_frame.specs.Frames.{slot_in, return_in, incoming_in, frame_of}
use Rattle.rv64_select.specs.declared.item.Symbol.TheVariants as symbols
use Rattle.rv64_select.specs.declared.item.Item.{Item}
use Rattle.rv64_select.specs.declared.item.Item.TheVariants as item
use Rattle.rv64_select.specs.Templates.{constant, store_slot, machine_form}
use Rattle.rv64_select.specs.Operations.{branch, operation, unary_operation, conversion, scaling}
use Rattle.gimple_meaning.specs.Versioned.{type_of, type_of_component, element_of}
use Rattle.rv64_select.specs.Assembly.{plain, operand_in, set_in, assign_in, enter_code, leave_code, binding_items, bindings_items, case_items, pair_items, argument_items, address_items, step_items, assembly_of}
use Rattle.rv64_select.specs.Code.{words_of, words_in, laid, blank, is_label, label_from, label_offset}
use Rattle.rv64_select.specs.Selected.{reference_of}
use Rattle.rv64_select.specs.Items.{LabelBelow, SymbolFits}
use Rattle.gimple_meaning.specs.Versioned.{StepFits, IsVersioned}
use Rattle.rv64_select.proofs.Laying.{words-cons}
use Rattle.rv64_select.proofs.Encodes.{all_append, constant_encodes, load_encodes, store_encodes, enter_encodes, leave_encodes, branch_encodes, operation_encodes, unary_encodes, conversion_encodes, scaling_encodes, element_load_encodes, element_store_encodes, distance_fits}

abbrev pub ItemFits : VersionedFunction → Item → Type 0
ItemFits f (item.Plain i) = InRange i
ItemFits f (item.Label l) = l < f.labels
ItemFits f (item.Jump l) = l < f.labels
ItemFits f (item.Call s) = SymbolFits f s
ItemFits f (item.Upper rd s) = IsRegister rd × SymbolFits f s
ItemFits f (item.Load element rd rs1 s) = IsRegister rd × IsRegister rs1 × SymbolFits f s
ItemFits f (item.Store element rs1 rs2 s) = IsRegister rs1 × IsRegister rs2 × SymbolFits f s

abbrev pub AllFit : VersionedFunction → List Item → Type 0
AllFit f items = AllByRecursion (ItemFits f) items

both : (f : VersionedFunction) (xs ys : List Item) → AllFit f xs → AllFit f ys → AllFit f (xs ++ ys)
both f xs ys h k = all_append (ItemFits f) xs ys h k

plain_fits : (f : VersionedFunction) (code : List Instr) → AllByRecursion InRange code → AllFit f (plain code)
plain_fits f [] h = tt
plain_fits f (i ∷ is) h = (h.0, plain_fits f is h.1)

-- instructions before other items
front : (f : VersionedFunction) (code : List Instr) (rest : List Item) → AllByRecursion InRange code → AllFit f rest → AllFit f (plain code ++ rest)
front f code rest h k = both f (plain code) rest (plain_fits f code h) k

-- ---- parts

operand_fits : (l : FrameLayout) (r : ℕ) (o : Operand) → IsRegister r → AllByRecursion InRange (operand_in l r o)
operand_fits l r (operands.Component c) h = load_encodes r (slot_in l c) h
operand_fits l r (operands.Literal v) h = constant_encodes r (machine_form v.ty v.num) h

assign_fits : (l : FrameLayout) (r : ℕ) (to : Option ℕ) → IsRegister r → AllByRecursion InRange (assign_in l r to)
assign_fits l r None h = tt
assign_fits l r (Some x) h = store_encodes r (slot_in l x) h

set_fits : (f : VersionedFunction) (l : FrameLayout) (x : ℕ) → AllFit f (plain (set_in l 5 x))
set_fits f l x = plain_fits f (set_in l 5 x) (store_encodes 5 (slot_in l x) (omega arith))

binding_fits : (f : VersionedFunction) (l : FrameLayout) (x : ℕ) (b : Binding) → AllFit f (binding_items l x b)
binding_fits f l x bindings.Dead = tt
binding_fits f l x (bindings.Arg k) = front f _ _ (load_encodes 5 (incoming_in l k) (omega arith)) (set_fits f l x)
binding_fits f l x (bindings.Const v) = front f _ _ (constant_encodes 5 (machine_form v.ty v.num) (omega arith)) (set_fits f l x)

bindings_fit : (f : VersionedFunction) (l : FrameLayout) (x : ℕ) (bs : List Binding) → AllFit f (bindings_items l x bs)
bindings_fit f l x [] = tt
bindings_fit f l x (b ∷ bs) = both f (binding_items l x b) (bindings_items l (x + 1) bs) (binding_fits f l x b) (bindings_fit f l (x + 1) bs)

cases_fit : (f : VersionedFunction) (cs : List Case) → All (λ c. c.label < f.labels) cs → AllFit f (flat_map case_items cs)
cases_fit f [] h = tt
cases_fit f (c ∷ cs) h =
    let form = machine_form c.value.ty c.value.num in
    let goes : InRange (Bne 5 6 (pos 8)) = search arith in
    both f (case_items c) (flat_map case_items cs)
    (front f (constant 6 form) (item.Plain (Bne 5 6 (pos 8)) ∷ (item.Jump c.label ∷ [])) (constant_encodes 6 form (omega arith)) (goes, (All-head (λ d. d.label < f.labels) c cs h, tt)))
    (cases_fit f cs (All-tail (λ d. d.label < f.labels) c cs h))

pairs_fit : (f : VersionedFunction) (l : FrameLayout) (ps : List Pair) → AllFit f (flat_map (pair_items l) ps)
pairs_fit f l [] = tt
pairs_fit f l (p ∷ ps) =
    both f (pair_items l p) (flat_map (pair_items l) ps) (front f (operand_in l 5 p.from) (plain (set_in l 5 p.to)) (operand_fits l 5 p.from (omega arith)) (set_fits f l p.to)) (pairs_fit f l ps)

arguments_fit : (f : VersionedFunction) (l : FrameLayout) (j : ℕ) (args : List Operand) → AllFit f (argument_items l j args)
arguments_fit f l j [] = tt
arguments_fit f l j (a ∷ args) =
    front f (operand_in l 5 a) (plain (store_slot 5 (8 * j)) ++ argument_items l (j + 1) args) (operand_fits l 5 a (omega arith))
    (front f (store_slot 5 (8 * j)) (argument_items l (j + 1) args) (store_encodes 5 (8 * j) (omega arith)) (arguments_fit f l (j + 1) args))

address_fits : (f : VersionedFunction) (element : ElementType) (array : ℕ) → array < length f.arrays → AllFit f (address_items element array)
address_fits f element array h =
    let sum : InRange (Add 7 7 5) = search arith in
    front f (scaling element) (item.Upper 7 (symbols.Array array) ∷ (item.Plain (Add 7 7 5) ∷ [])) (scaling_encodes element) ((omega arith, h), (sum, tt))

-- ---- steps

step_fits : (l : FrameLayout) (f : VersionedFunction) (s : Step) → StepFits f s → AllFit f (step_items l f s)
step_fits l f steps.Nop h = tt
step_fits l f (steps.Label label) h = (h, tt)
step_fits l f (steps.Goto label) h = (h, tt)
step_fits l f (steps.Cond op a b met missed) h =
    let code = branch op (type_of f a) in
    let jumps = item.Jump missed ∷ (item.Jump met ∷ []) in
    front f (operand_in l 5 a) (plain (operand_in l 6 b) ++ (plain code ++ jumps)) (operand_fits l 5 a (omega arith))
    (front f (operand_in l 6 b) (plain code ++ jumps) (operand_fits l 6 b (omega arith)) (front f code jumps (branch_encodes op (type_of f a)) (h.3, (h.2, tt))))
step_fits l f (steps.Switch a cases otherwise) h =
    let last = item.Jump otherwise ∷ [] in
    front f (operand_in l 5 a) (flat_map case_items cases ++ last) (operand_fits l 5 a (omega arith)) (both f (flat_map case_items cases) last (cases_fit f cases h.1) (h.2, tt))
step_fits l f (steps.Return None) h = plain_fits f (leave_code l.size (return_in l)) (leave_encodes l.size (return_in l))
step_fits l f (steps.Return (Some a)) h =
    front f (operand_in l 10 a) (plain (leave_code l.size (return_in l))) (operand_fits l 10 a (omega arith)) (plain_fits f (leave_code l.size (return_in l)) (leave_encodes l.size (return_in l)))
step_fits l f (steps.Copies pairs) h = pairs_fit f l pairs
step_fits l f (steps.Unary to op a) h =
    let code = unary_operation op (type_of f a) in
    front f (operand_in l 5 a) (plain code ++ plain (set_in l 5 to)) (operand_fits l 5 a (omega arith)) (front f code (plain (set_in l 5 to)) (unary_encodes op (type_of f a)) (set_fits f l to))
step_fits l f (steps.Convert to a) h =
    let code = conversion (type_of_component f to) (type_of f a) in
    front f (operand_in l 5 a) (plain code ++ plain (set_in l 5 to)) (operand_fits l 5 a (omega arith))
    (front f code (plain (set_in l 5 to)) (conversion_encodes (type_of_component f to) (type_of f a)) (set_fits f l to))
step_fits l f (steps.Binary to op a b) h =
    let code = operation op (type_of f a) in
    front f (operand_in l 5 a) (plain (operand_in l 6 b) ++ (plain code ++ plain (set_in l 5 to))) (operand_fits l 5 a (omega arith))
    (front f (operand_in l 6 b) (plain code ++ plain (set_in l 5 to)) (operand_fits l 6 b (omega arith)) (front f code (plain (set_in l 5 to)) (operation_encodes op (type_of f a)) (set_fits f l to)))
step_fits l f (steps.Load to array a) h =
    let element = element_of f array in
    let last = item.Load element 5 7 (symbols.Array array) ∷ plain (set_in l 5 to) in
    front f (operand_in l 5 a) (address_items element array ++ last) (operand_fits l 5 a (omega arith))
    (both f (address_items element array) last (address_fits f element array h.1) ((omega arith, omega arith, h.1), set_fits f l to))
step_fits l f (steps.Store array a b) h =
    let element = element_of f array in
    let last = item.Store element 7 6 (symbols.Array array) ∷ [] in
    front f (operand_in l 5 a) (plain (operand_in l 6 b) ++ (address_items element array ++ last)) (operand_fits l 5 a (omega arith))
    (front f (operand_in l 6 b) (address_items element array ++ last) (operand_fits l 6 b (omega arith))
    (both f (address_items element array) last (address_fits f element array h.0) ((omega arith, omega arith, h.0), tt)))
step_fits l f (steps.Call to call args) h =
    both f (argument_items l 0 args) (item.Call (symbols.Target call) ∷ plain (assign_in l 10 to)) (arguments_fit f l 0 args) (h.1, plain_fits f (assign_in l 10 to) (assign_fits l 10 to (omega arith)))
step_fits l f (steps.Putchar a) h = front f (operand_in l 10 a) (item.Call symbols.Putchar ∷ []) (operand_fits l 10 a (omega arith)) (tt, tt)
step_fits l f (steps.Getchar to) h = (tt, plain_fits f (assign_in l 10 to) (assign_fits l 10 to (omega arith)))
step_fits l f (steps.Exit a) h =
    let status : InRange (Addi 17 0 (pos 93)) = search arith in
    front f (operand_in l 10 a) (item.Plain (Addi 17 0 (pos 93)) ∷ (item.Plain Ecall ∷ [])) (operand_fits l 10 a (omega arith)) (status, (tt, tt))

body_fits : (l : FrameLayout) (f : VersionedFunction) (ss : List Step) → All (StepFits f) ss → AllFit f (flat_map (step_items l f) ss)
body_fits l f [] h = tt
body_fits l f (s ∷ ss) h =
    both f (step_items l f s) (flat_map (step_items l f) ss) (step_fits l f s (All-head (StepFits f) s ss h)) (body_fits l f ss (All-tail (StepFits f) s ss h))

pub assembly_fits : (f : VersionedFunction) → IsVersioned f → AllFit f (assembly_of f)
assembly_fits f h =
    let l = frame_of f in
    let entry = plain (enter_code l.size (return_in l)) ++ bindings_items l 0 f.bindings in
    both f entry (flat_map (step_items l f) f.body) (front f (enter_code l.size (return_in l)) (bindings_items l 0 f.bindings) (enter_encodes l.size (return_in l)) (bindings_fit f l 0 f.bindings))
    (body_fits l f f.body h.steps)

-- ---- what follows of all items

label_below : (f : VersionedFunction) (i : Item) → ItemFits f i → LabelBelow f.labels i
label_below f (item.Plain i) h = tt
label_below f (item.Label l) h = h
label_below f (item.Jump l) h = tt
label_below f (item.Call s) h = tt
label_below f (item.Upper rd s) h = tt
label_below f (item.Load element rd rs1 s) h = tt
label_below f (item.Store element rs1 rs2 s) h = tt

pub labels_below : (f : VersionedFunction) (items : List Item) → AllFit f items → AllByRecursion (LabelBelow f.labels) items
labels_below f [] h = tt
labels_below f (i ∷ is) h = (label_below f i h.0, labels_below f is h.1)

reference_fits : (f : VersionedFunction) (at : ℕ) (i : Item) → ItemFits f i → AllByRecursion (λ r. SymbolFits f r.symbol) (reference_of at i)
reference_fits f at (item.Plain i) h = tt
reference_fits f at (item.Label l) h = tt
reference_fits f at (item.Jump l) h = tt
reference_fits f at (item.Call s) h = (h, tt)
reference_fits f at (item.Upper rd s) h = (h.1, tt)
reference_fits f at (item.Load element rd rs1 s) h = (h.2, tt)
reference_fits f at (item.Store element rs1 rs2 s) h = (h.2, tt)

pub references_fit : (f : VersionedFunction) (at : ℕ) (items : List Item) → AllFit f items → AllByRecursion (λ r. SymbolFits f r.symbol) (laid reference_of at items)
references_fit f at [] h = tt
references_fit f at (i ∷ is) h =
    all_append (λ r. SymbolFits f r.symbol) (reference_of at i) (laid reference_of (at + 4 * words_of i) is) (reference_fits f at i h.0) (references_fit f (at + 4 * words_of i) is h.1)

-- ---- labels

abbrev IsPlace : ℕ → Type 0
IsPlace n = (n ≤ 2 ^ 19) × (n % 4 ≡ 0)

place_by : (b : Bool) (at found : ℕ) → IsPlace at → IsPlace found → IsPlace (cond b at found)
place_by true at found h k = h
place_by false at found h k = k

label_place : (l found at : ℕ) (items : List Item) → IsPlace found → at % 4 ≡ 0 → at + 4 * words_in items ≤ 2 ^ 19 → IsPlace (label_from l found at items)
label_place l found at [] h e k = h
label_place l found at (i ∷ is) h e k =
    label_place l (cond (is_label l i) at found) (at + 4 * words_of i) is (place_by (is_label l i) at found (omega (arith, words-cons i is), e) h) (omega arith) (omega (arith, words-cons i is))

item_encodes : (f : VersionedFunction) (labels : ℕ → ℕ) (at : ℕ) (i : Item) → ((l : ℕ) → IsPlace (labels l)) → IsPlace at → ItemFits f i → AllByRecursion InRange (blank labels at i)
item_encodes f labels at (item.Plain i) p q h = (h, tt)
item_encodes f labels at (item.Label l) p q h = tt
item_encodes f labels at (item.Jump l) p q h = let d = distance_fits (labels l) at (p l).0 q.0 (p l).1 q.1 in ((omega arith, d.0, d.1), tt)
item_encodes f labels at (item.Call s) p q h = search arith
item_encodes f labels at (item.Upper rd s) p q h = ((h.0, omega arith), tt)
item_encodes f labels at (item.Load element rd rs1 s) p q h = (element_load_encodes element rd rs1 h.0 h.1, tt)
item_encodes f labels at (item.Store element rs1 rs2 s) p q h = (element_store_encodes element rs1 rs2 h.0 h.1, tt)

items_encode : (f : VersionedFunction) (labels : ℕ → ℕ) (at : ℕ) (items : List Item) → ((l : ℕ) → IsPlace (labels l)) → at % 4 ≡ 0 → at + 4 * words_in items ≤ 2 ^ 19 → AllFit f items
    → AllByRecursion InRange (laid (blank labels) at items)
items_encode f labels at [] p e k h = tt
items_encode f labels at (i ∷ is) p e k h =
    let next = at + 4 * words_of i in
    all_append InRange (blank labels at i) (laid (blank labels) next is) (item_encodes f labels at i p (omega (arith, words-cons i is), e) h.0) (items_encode f labels next is p (omega arith) (omega (arith, words-cons i is)) h.1)

pub assembly_encodes : (f : VersionedFunction) (items : List Item) → 4 * words_in items ≤ 2 ^ 19 → AllFit f items → AllByRecursion InRange (laid (blank (label_offset items)) 0 items)
assembly_encodes f items k h =
    let zero_place : IsPlace 0 = (omega arith, refl) in
    items_encode f (label_offset items) 0 items (λ l. label_place l 0 0 items zero_place refl (omega arith)) refl (omega arith) h
