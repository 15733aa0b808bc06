-- The code of a function is within its bound, row by row.
use Rattle.std.proofs.Common.{◌≡◌, ℕ, zero, suc, ◌+◌, ◌*◌, ◌^◌, ◌<◌, ◌≤◌, ℤ, pos, neg_ℤ, Bool, true, false, cond, List, [], ◌∷◌, ◌++◌, length, Option, Some, None, refl, arith, length-append, lt-ltb}
use Rattle.std.specs.Prelude.{nat_le, sum_by}
use Rattle.std.specs.List.{flat_map}
use Rattle.gimple_ir.specs.declared.types.ScalarType.{ScalarType}
use Rattle.gimple_ir.specs.declared.types.ScalarType.TheVariants as types
use Rattle.gimple_ir.specs.declared.types.ElementType.{ElementType}
use Rattle.gimple_ir.specs.declared.types.ElementType.TheVariants as elements
use Rattle.gimple_ir.specs.declared.types.UnaryOp.{UnaryOp}
use Rattle.gimple_ir.specs.declared.types.UnaryOp.TheVariants as unary
use Rattle.gimple_ir.specs.declared.types.BinaryOp.{BinaryOp}
use Rattle.gimple_ir.specs.declared.types.BinaryOp.TheVariants as binary
use Rattle.gimple_ir.specs.declared.types.Operand.{Operand}
use Rattle.gimple_ir.specs.declared.types.Operand.TheVariants as operands
use Rattle.gimple_ir.specs.declared.types.Case.{Case}
use Rattle.gimple_ir.specs.declared.lattice.Binding.{Binding}
use Rattle.gimple_ir.specs.declared.lattice.Binding.TheVariants as bindings
use Rattle.gimple_ir.specs.declared.versioned.Pair.{Pair}
use Rattle.gimple_ir.specs.declared.versioned.Step.{Step}
use Rattle.gimple_ir.specs.declared.versioned.Step.TheVariants as steps
use Rattle.gimple_ir.specs.declared.versioned.VersionedFunction.{VersionedFunction}
use Rattle.rv64_isa.specs.declared.instr.Instr.{Instr}
use Rattle.rv64_isa.specs.declared.instr.Instr.TheVariants.{Lui, Ld, Sd, Addi, Add, Slli, Jalr, Bne, Ecall}
use Rattle.rv64_abi.specs.Offsets.{hi, lo, upper_of}
use Rattle.rv64_frame.specs.declared.layout.FrameLayout.{FrameLayout}
use Rattle.rv64_frame.specs.Frames.{slot_in, return_in, incoming_in, frame_of, HasFewSlots}
use Rattle.rv64_select.specs.declared.item.Symbol.TheVariants as symbols
use Rattle.rv64_select.specs.declared.item.Item.{Item}
use Rattle.rv64_select.specs.declared.item.Item.TheVariants as item
use Rattle.rv64_select.specs.Templates.{is_signed_in, long_constant, constant_in, constant, load_slot, store_slot, machine_form}
use Rattle.rv64_select.specs.Operations.{branch, operation, unary_operation, conversion, scaling}
use Rattle.gimple_meaning.specs.Versioned.{type_of, type_of_component, element_of}
use Rattle.rv64_select.specs.Assembly.{plain, operand_in, set_in, assign_in, enter_code, leave_code, binding_items, bindings_items, case_items, pair_items, argument_items, address_items, step_items, assembly_of}
use Rattle.rv64_select.specs.Code.{words_in}
use Rattle.gimple_meaning.specs.Versioned.{operands_in, bound_of}
use Rattle.std.proofs.lemmas.List.Sums.{sum_by-cons}
use Rattle.rv64_select.proofs.Laying.{words-cons, words-append, words-plain}

-- ---- templates

chosen : (b : Bool) (xs ys : List Instr) (k : ℕ) → length xs ≤ k → length ys ≤ k → length (cond b xs ys) ≤ k
chosen true xs ys k h l = h
chosen false xs ys k h l = l

constant_in-short : (n r : ℕ) (c : ℤ) → length (constant_in n r c) ≤ 2 * n
unfolding constant_in
constant_in-short zero r c = omega arith
constant_in-short (suc n) r c =
    let last : List Instr = Slli r r (pos 12) ∷ Addi r r (lo c) ∷ [] in
    let deep = constant_in n r (hi c) in
    chosen (is_signed_in 12 c) (Addi r 0 c ∷ []) (cond (is_signed_in 32 c) (long_constant r c) (deep ++ last)) (2 * suc n) (omega arith)
    (chosen (is_signed_in 32 c) (long_constant r c) (deep ++ last) (2 * suc n) (omega arith)
    (omega (arith, constant_in-short n r (hi c), length-append deep last)))

constant-short : (r : ℕ) (c : ℤ) → length (constant r c) ≤ 8
unfolding constant
constant-short r c = constant_in-short 4 r c

constant-word : (r : ℕ) (c : ℤ) → is_signed_in 32 c ≡ true → length (constant r c) ≤ 2
unfolding constant constant_in
constant-word r c e = rw e (chosen (is_signed_in 12 c) (Addi r 0 c ∷ []) (long_constant r c) 2 (omega arith) (omega arith))

load-short : (r slot : ℕ) → length (load_slot r slot) ≤ 3
load-short r slot =
    chosen (nat_le slot 2047) (Ld r 2 (pos slot) ∷ []) (Lui r (upper_of (pos slot)) ∷ Add r r 2 ∷ Ld r r (lo (pos slot)) ∷ []) 3 (omega arith) (omega arith)

store-short : (r slot : ℕ) → length (store_slot r slot) ≤ 3
store-short r slot =
    chosen (nat_le slot 2047) (Sd 2 r (pos slot) ∷ []) (Lui 28 (upper_of (pos slot)) ∷ Add 28 28 2 ∷ Sd 28 r (lo (pos slot)) ∷ []) 3 (omega arith) (omega arith)

operand-short : (l : FrameLayout) (r : ℕ) (o : Operand) → length (operand_in l r o) ≤ 8
operand-short l r (operands.Component c) = let h = load-short r (slot_in l c) in omega (arith, h)
operand-short l r (operands.Literal v) = constant-short r (machine_form v.ty v.num)

assign-short : (l : FrameLayout) (r : ℕ) (to : Option ℕ) → length (assign_in l r to) ≤ 3
assign-short l r None = omega arith
assign-short l r (Some x) = store-short r (slot_in l x)

branch-short : (op : BinaryOp) (ty : ScalarType) → length (branch op ty) ≤ 1
branch-short binary.Eq ty = omega arith
branch-short binary.Ne ty = omega arith
branch-short binary.Lt ty = omega arith
branch-short binary.Ge ty = omega arith
branch-short binary.Gt ty = omega arith
branch-short binary.Le ty = omega arith
branch-short binary.Add ty = omega arith
branch-short binary.Sub ty = omega arith
branch-short binary.Mul ty = omega arith
branch-short binary.Div ty = omega arith
branch-short binary.Rem ty = omega arith
branch-short binary.And ty = omega arith
branch-short binary.Or ty = omega arith
branch-short binary.Xor ty = omega arith
branch-short binary.Shl ty = omega arith
branch-short binary.Shr ty = omega arith

operation-short : (op : BinaryOp) (ty : ScalarType) → length (operation op ty) ≤ 2
operation-short binary.Eq ty = omega arith
operation-short binary.Ne ty = omega arith
operation-short binary.Lt ty = omega arith
operation-short binary.Ge ty = omega arith
operation-short binary.Gt ty = omega arith
operation-short binary.Le ty = omega arith
operation-short binary.Add ty = omega arith
operation-short binary.Sub ty = omega arith
operation-short binary.Mul ty = omega arith
operation-short binary.Div ty = omega arith
operation-short binary.Rem ty = omega arith
operation-short binary.And ty = omega arith
operation-short binary.Or ty = omega arith
operation-short binary.Xor ty = omega arith
operation-short binary.Shl ty = omega arith
operation-short binary.Shr ty = omega arith

unary-short : (op : UnaryOp) (ty : ScalarType) → length (unary_operation op ty) ≤ 1
unary-short unary.Neg ty = omega arith
unary-short unary.Not ty = omega arith

conversion-short : (to from : ScalarType) → length (conversion to from) ≤ 2
conversion-short types.Int from = omega arith
conversion-short types.UnsignedInt from = omega arith
conversion-short types.LongInt types.UnsignedInt = omega arith
conversion-short types.LongInt types.Int = omega arith
conversion-short types.LongInt types.LongInt = omega arith
conversion-short types.LongInt types.LongUnsignedInt = omega arith
conversion-short types.LongUnsignedInt types.UnsignedInt = omega arith
conversion-short types.LongUnsignedInt types.Int = omega arith
conversion-short types.LongUnsignedInt types.LongInt = omega arith
conversion-short types.LongUnsignedInt types.LongUnsignedInt = omega arith

scaling-short : (element : ElementType) → length (scaling element) ≤ 1
scaling-short elements.UnsignedChar = omega arith
scaling-short (elements.Scalar ty) = omega arith

-- ---- parts

-- instructions before other items
front : (code : List Instr) (rest : List Item) (n k : ℕ) → length code ≤ n → words_in rest ≤ k → words_in (plain code ++ rest) ≤ n + k
front code rest n k h l = omega (arith, words-append (plain code) rest, words-plain code)

alone : (code : List Instr) (n : ℕ) → length code ≤ n → words_in (plain code) ≤ n
alone code n h = omega (arith, words-plain code)

joined : (xs ys : List Item) (n k : ℕ) → words_in xs ≤ n → words_in ys ≤ k → words_in (xs ++ ys) ≤ n + k
joined xs ys n k h l = omega (arith, words-append xs ys)

word-fits : (size : ℕ) → size < 2 ^ 31 → (is_signed_in 32 (pos size) ≡ true) × (is_signed_in 32 (neg_ℤ (pos size)) ≡ true)
word-fits zero h = (refl, refl)
word-fits (suc n) h = (lt-ltb (suc n) (2 ^ 31) h, lt-ltb n (2 ^ 31) (omega arith))

enter-short : (size slot : ℕ) → size < 2 ^ 31 → words_in (plain (enter_code size slot)) ≤ 6
enter-short size slot h =
    let k = constant 5 (neg_ℤ (pos size)) in
    let save = store_slot 1 slot in
    alone (enter_code size slot) 6 (omega (arith, constant-word 5 (neg_ℤ (pos size)) (word-fits size h).1, store-short 1 slot, length-append k (Add 2 2 5 ∷ save)))

leave-short : (size slot : ℕ) → size < 2 ^ 31 → words_in (plain (leave_code size slot)) ≤ 7
leave-short size slot h =
    let fetched = load_slot 1 slot in
    let k = constant 5 (pos size) in
    let last : List Instr = Add 2 2 5 ∷ Jalr 0 1 (pos 0) ∷ [] in
    alone (leave_code size slot) 7
    (omega (arith, constant-word 5 (pos size) (word-fits size h).0, load-short 1 slot, length-append fetched (k ++ last), length-append k last))

binding-short : (l : FrameLayout) (x : ℕ) (b : Binding) → words_in (binding_items l x b) ≤ 11
binding-short l x bindings.Dead = omega arith
binding-short l x (bindings.Arg k) =
    let h = front (load_slot 5 (incoming_in l k)) (plain (set_in l 5 x)) 3 3 (load-short 5 (incoming_in l k)) (alone (set_in l 5 x) 3 (store-short 5 (slot_in l x))) in
    omega (arith, h)
binding-short l x (bindings.Const v) =
    front (constant 5 (machine_form v.ty v.num)) (plain (set_in l 5 x)) 8 3 (constant-short 5 (machine_form v.ty v.num)) (alone (set_in l 5 x) 3 (store-short 5 (slot_in l x)))

bindings-short : (l : FrameLayout) (x : ℕ) (bs : List Binding) → words_in (bindings_items l x bs) ≤ 11 * length bs
bindings-short l x [] = omega arith
bindings-short l x (b ∷ bs) =
    let h = joined (binding_items l x b) (bindings_items l (x + 1) bs) 11 (11 * length bs) (binding-short l x b) (bindings-short l (x + 1) bs) in
    omega (arith, h)

case-short : (c : Case) → words_in (case_items c) ≤ 11
case-short c =
    let form = machine_form c.value.ty c.value.num in
    let h = front (constant 6 form) (item.Plain (Bne 5 6 (pos 8)) ∷ (item.Jump c.label ∷ [])) 8 2 (constant-short 6 form) (omega arith) in
    omega (arith, h)

cases-short : (cs : List Case) → words_in (flat_map case_items cs) ≤ 11 * length cs
cases-short [] = omega arith
cases-short (c ∷ cs) =
    let h = joined (case_items c) (flat_map case_items cs) 11 (11 * length cs) (case-short c) (cases-short cs) in
    omega (arith, h)

pair-short : (l : FrameLayout) (p : Pair) → words_in (pair_items l p) ≤ 11
pair-short l p = front (operand_in l 5 p.from) (plain (set_in l 5 p.to)) 8 3 (operand-short l 5 p.from) (alone (set_in l 5 p.to) 3 (store-short 5 (slot_in l p.to)))

pairs-short : (l : FrameLayout) (ps : List Pair) → words_in (flat_map (pair_items l) ps) ≤ 11 * length ps
pairs-short l [] = omega arith
pairs-short l (p ∷ ps) =
    let h = joined (pair_items l p) (flat_map (pair_items l) ps) 11 (11 * length ps) (pair-short l p) (pairs-short l ps) in
    omega (arith, h)

arguments-short : (l : FrameLayout) (j : ℕ) (args : List Operand) → words_in (argument_items l j args) ≤ 11 * length args
arguments-short l j [] = omega arith
arguments-short l j (a ∷ args) =
    let h = front (operand_in l 5 a) (plain (store_slot 5 (8 * j)) ++ argument_items l (j + 1) args) 8 (3 + 11 * length args) (operand-short l 5 a)
    (front (store_slot 5 (8 * j)) (argument_items l (j + 1) args) 3 (11 * length args) (store-short 5 (8 * j)) (arguments-short l (j + 1) args)) in
    omega (arith, h)

address-short : (element : ElementType) (array : ℕ) → words_in (address_items element array) ≤ 3
address-short element array =
    let h = front (scaling element) (item.Upper 7 (symbols.Array array) ∷ (item.Plain (Add 7 7 5) ∷ [])) 1 2 (scaling-short element) (omega arith) in
    omega (arith, h)

set-short : (l : FrameLayout) (x : ℕ) → words_in (plain (set_in l 5 x)) ≤ 3
set-short l x = alone (set_in l 5 x) 3 (store-short 5 (slot_in l x))

-- ---- steps

step-short : (l : FrameLayout) (f : VersionedFunction) (s : Step) → l.size < 2 ^ 31 → words_in (step_items l f s) ≤ 7 + 11 * operands_in s
step-short l f steps.Nop h = omega arith
step-short l f (steps.Label label) h = omega arith
step-short l f (steps.Goto label) h = omega arith
step-short l f (steps.Cond op a b met missed) h =
    let code = branch op (type_of f a) in
    let jumps = item.Jump missed ∷ (item.Jump met ∷ []) in
    let behind = front (operand_in l 6 b) (plain code ++ jumps) 8 3 (operand-short l 6 b) (front code jumps 1 2 (branch-short op (type_of f a)) (omega arith)) in
    let w = front (operand_in l 5 a) (plain (operand_in l 6 b) ++ (plain code ++ jumps)) 8 11 (operand-short l 5 a) behind in
    omega (arith, w)
step-short l f (steps.Switch a cases otherwise) h =
    let last = item.Jump otherwise ∷ [] in
    let behind = joined (flat_map case_items cases) last (11 * length cases) 1 (cases-short cases) (omega arith) in
    let w = front (operand_in l 5 a) (flat_map case_items cases ++ last) 8 (11 * length cases + 1) (operand-short l 5 a) behind in
    omega (arith, w)
step-short l f (steps.Return None) h = let w = leave-short l.size (return_in l) h in omega (arith, w)
step-short l f (steps.Return (Some a)) h =
    let w = front (operand_in l 10 a) (plain (leave_code l.size (return_in l))) 8 7 (operand-short l 10 a) (leave-short l.size (return_in l) h) in
    omega (arith, w)
step-short l f (steps.Copies pairs) h = let w = pairs-short l pairs in omega (arith, w)
step-short l f (steps.Unary to op a) h =
    let code = unary_operation op (type_of f a) in
    let w = front (operand_in l 5 a) (plain code ++ plain (set_in l 5 to)) 8 4 (operand-short l 5 a)
    (front code (plain (set_in l 5 to)) 1 3 (unary-short op (type_of f a)) (set-short l to)) in
    omega (arith, w)
step-short l f (steps.Convert to a) h =
    let code = conversion (type_of_component f to) (type_of f a) in
    let w = front (operand_in l 5 a) (plain code ++ plain (set_in l 5 to)) 8 5 (operand-short l 5 a)
    (front code (plain (set_in l 5 to)) 2 3 (conversion-short (type_of_component f to) (type_of f a)) (set-short l to)) in
    omega (arith, w)
step-short l f (steps.Binary to op a b) h =
    let code = operation op (type_of f a) in
    let behind = front (operand_in l 6 b) (plain code ++ plain (set_in l 5 to)) 8 5 (operand-short l 6 b)
    (front code (plain (set_in l 5 to)) 2 3 (operation-short op (type_of f a)) (set-short l to)) in
    let w = front (operand_in l 5 a) (plain (operand_in l 6 b) ++ (plain code ++ plain (set_in l 5 to))) 8 13 (operand-short l 5 a) behind in
    omega (arith, w)
step-short l f (steps.Load to array a) h =
    let element = element_of f array in
    let last = item.Load element 5 7 (symbols.Array array) ∷ plain (set_in l 5 to) in
    let set = set-short l to in
    let last_short : words_in last ≤ 4 = omega (arith, set, words-cons (item.Load element 5 7 (symbols.Array array)) (plain (set_in l 5 to))) in
    let w = front (operand_in l 5 a) (address_items element array ++ last) 8 7 (operand-short l 5 a) (joined (address_items element array) last 3 4 (address-short element array) last_short) in
    omega (arith, w)
step-short l f (steps.Store array a b) h =
    let element = element_of f array in
    let last = item.Store element 7 6 (symbols.Array array) ∷ [] in
    let behind = front (operand_in l 6 b) (address_items element array ++ last) 8 4 (operand-short l 6 b)
    (joined (address_items element array) last 3 1 (address-short element array) (omega arith)) in
    let w = front (operand_in l 5 a) (plain (operand_in l 6 b) ++ (address_items element array ++ last)) 8 12 (operand-short l 5 a) behind in
    omega (arith, w)
step-short l f (steps.Call to call args) h =
    let last = item.Call (symbols.Target call) ∷ plain (assign_in l 10 to) in
    let set = alone (assign_in l 10 to) 3 (assign-short l 10 to) in
    let last_short : words_in last ≤ 5 = omega (arith, set, words-cons (item.Call (symbols.Target call)) (plain (assign_in l 10 to))) in
    let w = joined (argument_items l 0 args) last (11 * length args) 5 (arguments-short l 0 args) last_short in
    omega (arith, w)
step-short l f (steps.Putchar a) h =
    let w = front (operand_in l 10 a) (item.Call symbols.Putchar ∷ []) 8 2 (operand-short l 10 a) (omega arith) in
    omega (arith, w)
step-short l f (steps.Getchar to) h =
    let set = alone (assign_in l 10 to) 3 (assign-short l 10 to) in
    omega (arith, set, words-cons (item.Call symbols.Getchar) (plain (assign_in l 10 to)))
step-short l f (steps.Exit a) h =
    let w = front (operand_in l 10 a) (item.Plain (Addi 17 0 (pos 93)) ∷ (item.Plain Ecall ∷ [])) 8 2 (operand-short l 10 a) (omega arith) in
    omega (arith, w)

body-short : (l : FrameLayout) (f : VersionedFunction) (ss : List Step) → l.size < 2 ^ 31 → words_in (flat_map (step_items l f) ss) ≤ sum_by (λ s. 7 + 11 * operands_in s) ss
body-short l f [] h = omega arith
body-short l f (s ∷ ss) h =
    let bound = λ (t : Step). 7 + 11 * operands_in t in
    let w = joined (step_items l f s) (flat_map (step_items l f) ss) (bound s) (sum_by bound ss) (step-short l f s h) (body-short l f ss h) in
    omega (arith, w, sum_by-cons bound s ss)

pub assembly-short : (f : VersionedFunction) → HasFewSlots f → 4 * words_in (assembly_of f) ≤ bound_of f
assembly-short f few =
    let l = frame_of f in
    let small : l.size < 2 ^ 31 = omega (arith, few.components, few.arguments) in
    let body = flat_map (step_items l f) f.body in
    let entry = joined (plain (enter_code l.size (return_in l))) (bindings_items l 0 f.bindings) 6 (11 * length f.bindings) (enter-short l.size (return_in l) small) (bindings-short l 0 f.bindings) in
    let front_items = plain (enter_code l.size (return_in l)) ++ bindings_items l 0 f.bindings in
    let all = joined front_items body (6 + 11 * length f.bindings) (sum_by (λ s. 7 + 11 * operands_in s) f.body) entry (body-short l f f.body small) in
    omega (arith, all)
