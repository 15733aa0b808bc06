-- Where the code of a step stands, and where labels lead.
use Rattle.std.proofs.Common.{◌≡◌, ◌≢◌, ℕ, zero, suc, ◌+◌, ◌*◌, ◌%◌, ◌^◌, ◌<◌, ◌≤◌, pos, Bool, true, false, cond, List, [], ◌∷◌, ◌++◌, length, Some, None, refl, sym, ap, ◌∙◌, subst, arith, length-append}
use Rattle.std.specs.Prelude.{slice_get, map}
use Rattle.std.specs.List.{flat_map}
use Rattle.std.proofs.lemmas.Bool.{eqb-true}
use Rattle.gimple_ir.specs.declared.types.Operand.{Operand}
use Rattle.gimple_ir.specs.declared.types.Case.{Case}
use Rattle.gimple_ir.specs.declared.lattice.Binding.{Binding}
use Rattle.gimple_ir.specs.declared.lattice.Binding.TheVariants as bindings
use Rattle.gimple_ir.specs.declared.versioned.Pair.{Pair}
use Rattle.gimple_ir.specs.declared.versioned.Step.{Step}
use Rattle.gimple_ir.specs.declared.versioned.Step.TheVariants as steps
use Rattle.gimple_ir.specs.declared.versioned.VersionedFunction.{VersionedFunction}
use Rattle.gimple_meaning.specs.Steps.{place_of}
use Rattle.gimple_meaning.specs.Steps as meaning
use Rattle.rv64_isa.specs.declared.instr.Instr.{Instr}
use Rattle.rv64_isa.specs.declared.instr.Instr.TheVariants.{Bne, Add, Addi, Ecall}
use Rattle.rv64_meaning.specs.Machine.{Segments, State}
use Rattle.rv64_frame.specs.declared.layout.FrameLayout.{FrameLayout}
use Rattle.rv64_frame.specs.Frames.{frame_of, incoming_in, outgoing_slot, return_in}
use Rattle.rv64_select.specs.declared.item.Symbol.TheVariants as symbols
use Rattle.rv64_select.specs.declared.item.Item.{Item}
use Rattle.rv64_select.specs.declared.item.Item.TheVariants as item
use Rattle.rv64_select.specs.Templates.{constant, load_slot, store_slot, machine_form}
use Rattle.rv64_select.specs.Operations.{branch, operation, unary_operation, conversion, scaling}
use Rattle.gimple_meaning.specs.Versioned.{type_of, type_of_component, element_of}
use Rattle.rv64_select.specs.Assembly.{plain, operand_in, set_in, assign_in, enter_code, leave_code, binding_items, bindings_items, entry_items, return_items, case_items, pair_items, argument_items, address_items, step_items}
use Rattle.rv64_select.specs.Code.{words_of, words_in, is_label, label_from, Places, resolved, step_code, steps_code}
use Rattle.rv64_select.proofs.Laying.{words-cons, words-append, laid-append, length-direct}
use Rattle.follow_laws.specs.Relation.{StandsAt}
use Rattle.follow_laws.specs.Selections.{address_of}
use Rattle.follow_laws.proofs.WayLaws.{stands_back}
use Rattle.follow_laws.proofs.SelectionLaws.{steps_stand}
use Rattle.gimple_meaning.specs.Linked.{LinkedProgram, linked_step}
use Rattle.gimple_meaning.specs.Typed.{StandsOnce}
use Rattle.follow_laws.specs.Layouts.{Layout, FunctionPlaced, places_in, function_code, entry_code, place_address}

-- ---- a function's body

abbrev pub body_at : Layout → VersionedFunction → ℕ
body_at l f = l.address f.symbol + 4 * length (entry_code l f)

code_parts : (l : Layout) (f : VersionedFunction) → function_code l f ≡ entry_code l f ++ steps_code (places_in l f) f (body_at l f) f.body
code_parts l f =
    let entry = entry_items (frame_of f) f.bindings in
    let at = l.address f.symbol in
    laid-append (resolved (places_in l f)) at entry (flat_map (step_items (frame_of f) f) f.body)
    ∙ ap (λ (n : ℕ). entry_code l f ++ steps_code (places_in l f) f (at + 4 * n) f.body) (sym (length-direct (places_in l f) at entry))

pub entry_stands : (m : Segments) (l : Layout) (f : VersionedFunction) → FunctionPlaced m l f → StandsAt m (l.address f.symbol) (entry_code l f ++ steps_code (places_in l f) f (body_at l f) f.body)
entry_stands m l f placed = subst (StandsAt m (l.address f.symbol)) (code_parts l f) placed.code

body_stands : (m : Segments) (l : Layout) (f : VersionedFunction) → FunctionPlaced m l f → StandsAt m (body_at l f) (steps_code (places_in l f) f (body_at l f) f.body)
body_stands m l f placed = stands_back m (l.address f.symbol) (entry_code l f) (steps_code (places_in l f) f (body_at l f) f.body) (entry_stands m l f placed)

body_near : (m : Segments) (l : Layout) (f : VersionedFunction) → FunctionPlaced m l f → body_at l f + 4 * length (steps_code (places_in l f) f (body_at l f) f.body) < 2 ^ 30
body_near m l f placed =
    let body = steps_code (places_in l f) f (body_at l f) f.body in
    omega (arith, placed.near, ap length (code_parts l f), length-append (entry_code l f) body)

-- ---- how far the step at a place is from the body's begin

bytes_before : VersionedFunction → List Step → ℕ → ℕ
bytes_before f [] place = 0
bytes_before f (s ∷ ss) zero = 0
bytes_before f (s ∷ ss) (suc place) = 4 * words_in (step_items (frame_of f) f s) + bytes_before f ss place

address_is : (places : Places) (f : VersionedFunction) (at : ℕ) (ss : List Step) (place : ℕ) → address_of places f at ss place ≡ at + bytes_before f ss place
unfolding bytes_before
address_is places f at [] place = omega arith
address_is places f at (s ∷ ss) zero = omega arith
address_is places f at (s ∷ ss) (suc place) =
    let next = at + 4 * length (step_code places f at s) in
    omega (arith, address_is places f next ss place, length-direct places at (step_items (frame_of f) f s))

before_within : (f : VersionedFunction) (ss : List Step) (place : ℕ) → bytes_before f ss place ≤ 4 * words_in (flat_map (step_items (frame_of f) f) ss)
unfolding bytes_before
before_within f [] place = omega arith
before_within f (s ∷ ss) zero = omega arith
before_within f (s ∷ ss) (suc place) =
    omega (arith, before_within f ss place, words-append (step_items (frame_of f) f s) (flat_map (step_items (frame_of f) f) ss))

-- no place of a function is far
pub place_near : (m : Segments) (l : Layout) (f : VersionedFunction) (place : ℕ) → FunctionPlaced m l f → place_address l f place < 2 ^ 30
place_near m l f place placed =
    let items = flat_map (step_items (frame_of f) f) f.body in
    omega (arith, address_is (places_in l f) f (body_at l f) f.body place, before_within f f.body place, length-direct (places_in l f) (body_at l f) items, body_near m l f placed)

-- ---- the step at a place

pub record Here (m : Segments) (l : Layout) (f : VersionedFunction) (s : State) (place : ℕ) (step : Step) : Type 0 where
  pub code : StandsAt m s.pc (step_code (places_in l f) f s.pc step)
  pub next : place_address l f (place + 1) ≡ s.pc + 4 * length (step_code (places_in l f) f s.pc step)
  pub near : place_address l f (place + 1) < 2 ^ 30
  pub aligned : s.pc % 4 ≡ 0

pub here : (m : Segments) (l : Layout) (f : VersionedFunction) (s : State) (place : ℕ) (step : Step) → FunctionPlaced m l f → s.pc ≡ place_address l f place → slice_get f.body place ≡ Some step → Here m l f s place step
here m l f s place step placed at e =
    let places = places_in l f in
    let body = body_at l f in
    let r = steps_stand m places f body f.body place step e (body_stands m l f placed) in
    let next : place_address l f (place + 1) ≡ place_address l f (suc place) = ap (place_address l f) (omega arith) in
    let back = sym at in
    record {
      code = subst (λ n. StandsAt m n (step_code places f n step)) back r.code;
      next = next ∙ subst (λ n. place_address l f (suc place) ≡ n + 4 * length (step_code places f n step)) back r.next;
      near = place_near m l f (place + 1) placed;
      aligned = omega (arith, at, r.aligned, placed.aligned);
    }

-- ---- labels

-- items without a label
abbrev Unlabelled : List Item → Type 0
Unlabelled [] = Unit {0}
Unlabelled (i ∷ is) = ((l : ℕ) → is_label l i ≡ false) × Unlabelled is

un_append : (xs ys : List Item) → Unlabelled xs → Unlabelled ys → Unlabelled (xs ++ ys)
un_append [] ys h k = k
un_append (x ∷ xs) ys h k = (h.0, un_append xs ys h.1 k)

un_plain : (code : List Instr) → Unlabelled (plain code)
un_plain [] = tt
un_plain (i ∷ is) = (λ l. refl, un_plain is)

un_front : (code : List Instr) (items : List Item) → Unlabelled items → Unlabelled (plain code ++ items)
un_front code items h = un_append (plain code) items (un_plain code) h

un_cases : (cs : List Case) → Unlabelled (flat_map case_items cs)
un_cases [] = tt
un_cases (c ∷ cs) =
    un_append (case_items c) (flat_map case_items cs)
    (un_front (constant 6 (machine_form c.value.ty c.value.num)) (item.Plain (Bne 5 6 (pos 8)) ∷ (item.Jump c.label ∷ [])) (λ l. refl, (λ l. refl, tt))) (un_cases cs)

un_pairs : (l : FrameLayout) (ps : List Pair) → Unlabelled (flat_map (pair_items l) ps)
un_pairs l [] = tt
un_pairs l (c ∷ cs) = un_append (pair_items l c) (flat_map (pair_items l) cs) (un_front (operand_in l 5 c.from) (plain (set_in l 5 c.to)) (un_plain (set_in l 5 c.to))) (un_pairs l cs)

un_arguments : (l : FrameLayout) (j : ℕ) (args : List Operand) → Unlabelled (argument_items l j args)
un_arguments l j [] = tt
un_arguments l j (a ∷ args) =
    let rest = argument_items l (j + 1) args in
    un_front (operand_in l 5 a) (plain (store_slot 5 (outgoing_slot j)) ++ rest) (un_front (store_slot 5 (outgoing_slot j)) rest (un_arguments l (j + 1) args))

un_binding : (l : FrameLayout) (component : ℕ) (b : Binding) → Unlabelled (binding_items l component b)
un_binding l component bindings.Dead = tt
un_binding l component (bindings.Arg k) = un_front (load_slot 5 (incoming_in l k)) (plain (set_in l 5 component)) (un_plain (set_in l 5 component))
un_binding l component (bindings.Const v) = un_front (constant 5 (machine_form v.ty v.num)) (plain (set_in l 5 component)) (un_plain (set_in l 5 component))

un_bindings : (l : FrameLayout) (component : ℕ) (bs : List Binding) → Unlabelled (bindings_items l component bs)
un_bindings l component [] = tt
un_bindings l component (b ∷ bs) = un_append (binding_items l component b) (bindings_items l (component + 1) bs) (un_binding l component b) (un_bindings l (component + 1) bs)

un_entry : (l : FrameLayout) (bs : List Binding) → Unlabelled (entry_items l bs)
un_entry l bs = un_front (enter_code l.size (return_in l)) (bindings_items l 0 bs) (un_bindings l 0 bs)

-- what labels are looked for leaves items without a label as they are
passed_over : (l found at : ℕ) (items : List Item) → Unlabelled items → label_from l found at items ≡ found
passed_over l found at [] h = refl
passed_over l found at (i ∷ is) h =
    ap (λ b. label_from l (cond b at found) (at + 4 * words_of i) is) (h.0 l) ∙ passed_over l found (at + 4 * words_of i) is h.1

label_append : (l found at : ℕ) (xs ys : List Item) → label_from l found at (xs ++ ys) ≡ label_from l (label_from l found at xs) (at + 4 * words_in xs) ys
label_append l found at [] ys = ap (λ n. label_from l found n ys) (omega arith)
label_append l found at (x ∷ xs) ys =
    let next = at + 4 * words_of x in
    let now = cond (is_label l x) at found in
    label_append l now next xs ys ∙ ap (λ n. label_from l (label_from l now next xs) n ys) (omega (arith, words-cons x xs))

-- a label found in the items of a step
step_label : (f : VersionedFunction) (l found at : ℕ) (s : Step) → label_from l found at (step_items (frame_of f) f s) ≡ cond (meaning.is_label l s) at found
step_label f l found at steps.Nop = refl
step_label f l found at (steps.Label k) = refl
step_label f l found at (steps.Goto k) = refl
step_label f l found at (steps.Cond op a b met missed) =
    let n = frame_of f in
    let last = item.Jump missed ∷ (item.Jump met ∷ []) in
    let test = branch op (type_of f a) in
    passed_over l found at (step_items n f (steps.Cond op a b met missed))
    (un_front (operand_in n 5 a) (plain (operand_in n 6 b) ++ (plain test ++ last)) (un_front (operand_in n 6 b) (plain test ++ last) (un_front test last (λ l. refl, (λ l. refl, tt)))))
step_label f l found at (steps.Switch a cases otherwise) =
    let n = frame_of f in
    let last = item.Jump otherwise ∷ [] in
    passed_over l found at (step_items n f (steps.Switch a cases otherwise))
    (un_front (operand_in n 5 a) (flat_map case_items cases ++ last) (un_append (flat_map case_items cases) last (un_cases cases) (λ l. refl, tt)))
step_label f l found at (steps.Return None) = let n = frame_of f in passed_over l found at (return_items n) (un_plain (leave_code n.size (return_in n)))
step_label f l found at (steps.Return (Some a)) =
    let n = frame_of f in
    passed_over l found at (step_items n f (steps.Return (Some a))) (un_front (operand_in n 10 a) (return_items n) (un_plain (leave_code n.size (return_in n))))
step_label f l found at (steps.Copies pairs) = passed_over l found at (flat_map (pair_items (frame_of f)) pairs) (un_pairs (frame_of f) pairs)
step_label f l found at (steps.Unary to op a) =
    let n = frame_of f in
    let set = set_in n 5 to in
    let code = unary_operation op (type_of f a) in
    passed_over l found at (step_items n f (steps.Unary to op a)) (un_front (operand_in n 5 a) (plain code ++ plain set) (un_front code (plain set) (un_plain set)))
step_label f l found at (steps.Convert to a) =
    let n = frame_of f in
    let set = set_in n 5 to in
    let code = conversion (type_of_component f to) (type_of f a) in
    passed_over l found at (step_items n f (steps.Convert to a)) (un_front (operand_in n 5 a) (plain code ++ plain set) (un_front code (plain set) (un_plain set)))
step_label f l found at (steps.Binary to op a b) =
    let n = frame_of f in
    let set = set_in n 5 to in
    let code = operation op (type_of f a) in
    passed_over l found at (step_items n f (steps.Binary to op a b))
    (un_front (operand_in n 5 a) (plain (operand_in n 6 b) ++ (plain code ++ plain set)) (un_front (operand_in n 6 b) (plain code ++ plain set) (un_front code (plain set) (un_plain set))))
step_label f l found at (steps.Load to array a) =
    let n = frame_of f in
    let e = element_of f array in
    let set = set_in n 5 to in
    let address = address_items e array in
    let last = item.Load e 5 7 (symbols.Array array) ∷ plain set in
    passed_over l found at (step_items n f (steps.Load to array a))
    (un_front (operand_in n 5 a) (address ++ last) (un_append address last (un_front (scaling e) (item.Upper 7 (symbols.Array array) ∷ (item.Plain (Add 7 7 5) ∷ [])) (λ l. refl, (λ l. refl, tt))) (λ l. refl, un_plain set)))
step_label f l found at (steps.Store array a b) =
    let n = frame_of f in
    let e = element_of f array in
    let address = address_items e array in
    let last = item.Store e 7 6 (symbols.Array array) ∷ [] in
    passed_over l found at (step_items n f (steps.Store array a b))
    (un_front (operand_in n 5 a) (plain (operand_in n 6 b) ++ (address ++ last)) (un_front (operand_in n 6 b) (address ++ last)
    (un_append address last (un_front (scaling e) (item.Upper 7 (symbols.Array array) ∷ (item.Plain (Add 7 7 5) ∷ [])) (λ l. refl, (λ l. refl, tt))) (λ l. refl, tt))))
step_label f l found at (steps.Call to call args) =
    let n = frame_of f in
    let set = assign_in n 10 to in
    let last = item.Call (symbols.Target call) ∷ plain set in
    passed_over l found at (step_items n f (steps.Call to call args)) (un_append (argument_items n 0 args) last (un_arguments n 0 args) (λ l. refl, un_plain set))
step_label f l found at (steps.Putchar a) =
    let n = frame_of f in
    passed_over l found at (step_items n f (steps.Putchar a)) (un_front (operand_in n 10 a) (item.Call symbols.Putchar ∷ []) (λ l. refl, tt))
step_label f l found at (steps.Getchar to) =
    let n = frame_of f in
    passed_over l found at (step_items n f (steps.Getchar to)) (λ l. refl, un_plain (assign_in n 10 to))
step_label f l found at (steps.Exit a) =
    let n = frame_of f in
    passed_over l found at (step_items n f (steps.Exit a)) (un_front (operand_in n 10 a) (item.Plain (Addi 17 0 (pos 93)) ∷ (item.Plain Ecall ∷ [])) (λ l. refl, (λ l. refl, tt)))

-- only a label is a label
label_step : (l : ℕ) (s : Step) → meaning.is_label l s ≡ true → s ≡ steps.Label l
label_step l (steps.Label k) e = ap steps.Label (eqb-true k l e)
label_step l steps.Nop e = cc
label_step l (steps.Goto k) e = cc
label_step l (steps.Cond op a b met missed) e = cc
label_step l (steps.Switch a cases otherwise) e = cc
label_step l (steps.Return a) e = cc
label_step l (steps.Copies pairs) e = cc
label_step l (steps.Unary to op a) e = cc
label_step l (steps.Convert to a) e = cc
label_step l (steps.Binary to op a b) e = cc
label_step l (steps.Load to array a) e = cc
label_step l (steps.Store array a b) e = cc
label_step l (steps.Call to call args) e = cc
label_step l (steps.Putchar a) e = cc
label_step l (steps.Getchar to) e = cc
label_step l (steps.Exit a) e = cc

missing : (f : VersionedFunction) (label found at : ℕ) (ss : List Step) → ((place : ℕ) → slice_get ss place ≢ Some (steps.Label label)) → label_from label found at (flat_map (step_items (frame_of f) f) ss) ≡ found
missing f label found at [] h = refl
missing f label found at (s ∷ ss) h =
    let items = step_items (frame_of f) f s in
    let rest = flat_map (step_items (frame_of f) f) ss in
    let next = at + 4 * words_in items in
    label_append label found at items rest ∙ ap (λ n. label_from label n next rest) (step_label f label found at s ∙ not_here (meaning.is_label label s) refl)
    ∙ missing f label found next ss (λ place. h (suc place))
  where
    not_here : (b : Bool) → meaning.is_label label s ≡ b → cond b at found ≡ found
    not_here true e = absurd (h zero (ap Some (label_step label s e)))
    not_here false e = refl

found_by : (b : Bool) (f : VersionedFunction) (label found at : ℕ) (s : Step) (ss : List Step) → meaning.is_label label s ≡ b
    → ((start : ℕ) → place_of ss label < length ss → ((place : ℕ) → slice_get ss place ≡ Some (steps.Label label) → place ≡ place_of ss label)
    → label_from label found start (flat_map (step_items (frame_of f) f) ss) ≡ start + bytes_before f ss (place_of ss label))
    → cond b 0 (suc (place_of ss label)) < length (s ∷ ss) → ((place : ℕ) → slice_get (s ∷ ss) place ≡ Some (steps.Label label) → place ≡ cond b 0 (suc (place_of ss label)))
    → label_from label (cond b at found) (at + 4 * words_in (step_items (frame_of f) f s)) (flat_map (step_items (frame_of f) f) ss) ≡ at + bytes_before f (s ∷ ss) (cond b 0 (suc (place_of ss label)))
unfolding bytes_before
found_by true f label found at s ss e ih inside once =
    missing f label at (at + 4 * words_in (step_items (frame_of f) f s)) ss (λ place h. nowhere place (once (suc place) h)) ∙ omega arith
  where
    nowhere : (place : ℕ) → suc place ≡ 0 → ⊥
    nowhere place h = omega (arith, h)
found_by false f label found at s ss e ih inside once =
    let next = at + 4 * words_in (step_items (frame_of f) f s) in
    ih next (omega (arith, inside)) (λ place h. before place (once (suc place) h)) ∙ omega arith
  where
    before : (place : ℕ) → suc place ≡ suc (place_of ss label) → place ≡ place_of ss label
    before place h = omega (arith, h)

found_is : (f : VersionedFunction) (label found at : ℕ) (ss : List Step) → place_of ss label < length ss → ((place : ℕ) → slice_get ss place ≡ Some (steps.Label label) → place ≡ place_of ss label)
    → label_from label found at (flat_map (step_items (frame_of f) f) ss) ≡ at + bytes_before f ss (place_of ss label)
found_is f label found at [] inside once = absurd (omega (arith, inside))
found_is f label found at (s ∷ ss) inside once =
    let items = step_items (frame_of f) f s in
    let rest = flat_map (step_items (frame_of f) f) ss in
    let next = at + 4 * words_in items in
    label_append label found at items rest ∙ ap (λ n. label_from label n next rest) (step_label f label found at s)
    ∙ found_by (meaning.is_label label s) f label found at s ss refl (λ start. found_is f label found start ss) inside once

-- a label is at the address of its step
pub label_lands : (l : Layout) (f : VersionedFunction) (label : ℕ) → StandsOnce f.body label → (places_in l f).label label ≡ place_address l f (place_of f.body label)
label_lands l f label h =
    let entry = entry_items (frame_of f) f.bindings in
    let rest = flat_map (step_items (frame_of f) f) f.body in
    let at = l.address f.symbol in
    let place = place_of f.body label in
    let front = label_append label 0 0 entry rest ∙ ap (λ n. label_from label n (0 + 4 * words_in entry) rest) (passed_over label 0 0 entry (un_entry (frame_of f) f.bindings)) in
    let back = found_is f label 0 (0 + 4 * words_in entry) f.body h.stands h.once in
    omega (arith, front, back, address_is (places_in l f) f (body_at l f) f.body place, length-direct (places_in l f) at entry)

-- ---- the steps with numbers for symbols

label_linked : (p : LinkedProgram) (f : VersionedFunction) (l : ℕ) (s : Step) → meaning.is_label l (linked_step p f s) ≡ meaning.is_label l s
label_linked p f l steps.Nop = refl
label_linked p f l (steps.Label k) = refl
label_linked p f l (steps.Goto k) = refl
label_linked p f l (steps.Cond op a b met missed) = refl
label_linked p f l (steps.Switch a cases otherwise) = refl
label_linked p f l (steps.Return a) = refl
label_linked p f l (steps.Copies pairs) = refl
label_linked p f l (steps.Unary to op a) = refl
label_linked p f l (steps.Convert to a) = refl
label_linked p f l (steps.Binary to op a b) = refl
label_linked p f l (steps.Load to array a) = refl
label_linked p f l (steps.Store array a b) = refl
label_linked p f l (steps.Call to call args) = refl
label_linked p f l (steps.Putchar a) = refl
label_linked p f l (steps.Getchar to) = refl
label_linked p f l (steps.Exit a) = refl

-- labels stand at the same places
pub place_linked : (p : LinkedProgram) (f : VersionedFunction) (ss : List Step) (l : ℕ) → place_of (map (linked_step p f) ss) l ≡ place_of ss l
place_linked p f [] l = refl
place_linked p f (s ∷ ss) l =
    ap (λ b. cond b 0 (suc (place_of (map (linked_step p f) ss) l))) (label_linked p f l s) ∙ ap (λ n. cond (meaning.is_label l s) 0 (suc n)) (place_linked p f ss l)
