-- Relocations fill each word of a function in an object that depends on a symbol, and no other.
use Rattle.std.proofs.Common.{◌≡◌, ℕ, set, ◌+◌, ◌*◌, ◌/◌, ◌%◌, ◌^◌, ◌<◌, ℤ, pos, negsuc, ◌-ℤ◌, List, [], ◌∷◌, ◌++◌, length, map, refl, sym, ap, ◌∙◌, arith, append_assoc, length-append}
use Rattle.std.specs.List.{AllByRecursion}
use Rattle.std.proofs.lemmas.Int.{ints}
use Rattle.std.proofs.lemmas.Nat.{mod_below}
use Rattle.std.proofs.lemmas.List.{map-append, length-map, get_or_at, set_at}
use Rattle.elf_container.specs.declared.relocatable.Reloc.{Reloc}
use Rattle.elf_container.specs.declared.format.TheConstants.{R_RISCV_CALL_PLT, R_RISCV_HI20, R_RISCV_LO12_I, R_RISCV_LO12_S}
use Rattle.gimple_ir.specs.declared.types.ScalarType.TheVariants as types
use Rattle.gimple_ir.specs.declared.types.ElementType.{ElementType}
use Rattle.gimple_ir.specs.declared.types.ElementType.TheVariants as elements
use Rattle.gimple_ir.specs.declared.versioned.VersionedFunction.{VersionedFunction}
use Rattle.rv64_isa.specs.declared.instr.Instr.TheVariants.{Lui, Auipc, Jal, Jalr, Lbu, Lw, Ld, Sb, Sw, Sd}
use Rattle.rv64_isa.specs.Format.{IsRegister, residue}
use Rattle.rv64_isa.specs.Words.{word_of}
use Rattle.rv64_abi.specs.Offsets.{hi, lo, upper_of}
use Rattle.rv64_select.specs.declared.item.Item.{Item}
use Rattle.rv64_select.specs.declared.item.Item.TheVariants as item
use Rattle.rv64_select.specs.declared.references.Reference.{Reference}
use Rattle.rv64_select.specs.Operations.{element_load, element_store}
use Rattle.rv64_select.specs.Assembly.{assembly_of}
use Rattle.rv64_select.specs.Code.{words_of, laid, Places, resolved, direct, symbol_name, places_of, blank, label_offset, unfilled}
use Rattle.rv64_select.specs.Selected.{words_of_code, reference_of, place_of, relocation_of}
use Rattle.final_link.specs.Filling.{upper_field, lower_field, with_upper, with_lower, with_store_lower, changed_at, filled_by, filled}
use Rattle.follow_laws.specs.Patched.{PatchedIsDirect, SameLength}
use Rattle.follow_laws.proofs.RegisterLaws.{HasRegisters, assembly_registers}

-- ---- a word with its field filled

residue_below : (k : ℕ) (z : ℤ) → 0 < k → residue k z < k
residue_below k (pos n) h = mod_below n k h
residue_below k (negsuc n) h = omega arith

-- an upper part u behind an opcode and a register
upper_around : (op rd u w : ℕ) → op < 2 ^ 7 → rd < 2 ^ 5 → u < 2 ^ 20 → w ≡ op + rd * 2 ^ 7
    → w % 2 ^ 12 + u * 2 ^ 12 ≡ op + rd * 2 ^ 7 + u % 2 ^ 20 % 2 ^ 3 * 2 ^ 12 + u % 2 ^ 20 / 2 ^ 3 % 2 ^ 5 * 2 ^ 15 + u % 2 ^ 20 / 2 ^ 8 % 2 ^ 5 * 2 ^ 20 + u % 2 ^ 20 / 2 ^ 13 * 2 ^ 25
upper_around op rd u w h k g e = omega arith

upper_small : (d : ℤ) → upper_field d < 2 ^ 20
upper_small d = residue_below (2 ^ 20) (hi d) (omega arith)

lui_filled : (d : ℤ) (rd : ℕ) → IsRegister rd → with_upper d (word_of (Lui rd (pos 0))) ≡ word_of (Lui rd (upper_of d))
lui_filled d rd h = upper_around 0x37 rd (upper_field d) (word_of (Lui rd (pos 0))) (omega arith) h (upper_small d) (omega arith)

auipc_filled : (d : ℤ) → with_upper d (word_of (Auipc 1 (pos 0))) ≡ word_of (Auipc 1 (upper_of d))
auipc_filled d = upper_around 0x17 1 (upper_field d) (word_of (Auipc 1 (pos 0))) (omega arith) (omega arith) (upper_small d) refl

-- a lower part l behind an opcode, two registers a and b, and funct3 c
lower_around : (op a c b l w : ℕ) → op < 2 ^ 7 → a < 2 ^ 5 → c < 2 ^ 3 → b < 2 ^ 5 → w ≡ op + a * 2 ^ 7 + c * 2 ^ 12 + b * 2 ^ 15
    → w % 2 ^ 20 + l * 2 ^ 20 ≡ op + a * 2 ^ 7 + c * 2 ^ 12 + b * 2 ^ 15 + l % 2 ^ 5 * 2 ^ 20 + l / 2 ^ 5 * 2 ^ 25
lower_around op a c b l w h k g m e = omega arith

jalr_filled : (d : ℤ) → with_lower d (word_of (Jalr 1 1 (pos 0))) ≡ word_of (Jalr 1 1 (lo d))
jalr_filled d = lower_around 0x67 1 0 1 (lower_field d) (word_of (Jalr 1 1 (pos 0))) (omega arith) (omega arith) (omega arith) (omega arith) refl

-- a load by funct3
load_around : (c a b l w : ℕ) → c < 2 ^ 3 → IsRegister a → IsRegister b → w ≡ 0x03 + a * 2 ^ 7 + c * 2 ^ 12 + b * 2 ^ 15
    → w % 2 ^ 20 + l * 2 ^ 20 ≡ 0x03 + a * 2 ^ 7 + c * 2 ^ 12 + b * 2 ^ 15 + l % 2 ^ 5 * 2 ^ 20 + l / 2 ^ 5 * 2 ^ 25
load_around c a b l w g h k e = lower_around 0x03 a c b l w (omega arith) h g k e

load_filled : (element : ElementType) (d : ℤ) (rd rs1 : ℕ) → IsRegister rd → IsRegister rs1
    → with_lower d (word_of (element_load element rd rs1 (pos 0))) ≡ word_of (element_load element rd rs1 (lo d))
load_filled elements.UnsignedChar d rd rs1 h k = load_around 4 rd rs1 (lower_field d) (word_of (Lbu rd rs1 (pos 0))) (omega arith) h k (omega arith)
load_filled (elements.Scalar types.Int) d rd rs1 h k = load_around 2 rd rs1 (lower_field d) (word_of (Lw rd rs1 (pos 0))) (omega arith) h k (omega arith)
load_filled (elements.Scalar types.UnsignedInt) d rd rs1 h k = load_around 2 rd rs1 (lower_field d) (word_of (Lw rd rs1 (pos 0))) (omega arith) h k (omega arith)
load_filled (elements.Scalar types.LongInt) d rd rs1 h k = load_around 3 rd rs1 (lower_field d) (word_of (Ld rd rs1 (pos 0))) (omega arith) h k (omega arith)
load_filled (elements.Scalar types.LongUnsignedInt) d rd rs1 h k = load_around 3 rd rs1 (lower_field d) (word_of (Ld rd rs1 (pos 0))) (omega arith) h k (omega arith)

-- a lower part l around two registers a and b and funct3 c
store_around : (l a b c w : ℕ) → a < 2 ^ 5 → b < 2 ^ 5 → c < 2 ^ 3 → w ≡ 0x23 + c * 2 ^ 12 + a * 2 ^ 15 + b * 2 ^ 20
    → w % 2 ^ 7 + l % 2 ^ 5 * 2 ^ 7 + w / 2 ^ 12 % 2 ^ 13 * 2 ^ 12 + l / 2 ^ 5 * 2 ^ 25 ≡ 0x23 + l % 2 ^ 5 * 2 ^ 7 + c * 2 ^ 12 + a * 2 ^ 15 + b * 2 ^ 20 + l / 2 ^ 5 * 2 ^ 25
store_around l a b c w h k g e = omega arith

store_filled : (element : ElementType) (d : ℤ) (rs1 rs2 : ℕ) → IsRegister rs1 → IsRegister rs2
    → with_store_lower d (word_of (element_store element rs1 rs2 (pos 0))) ≡ word_of (element_store element rs1 rs2 (lo d))
store_filled elements.UnsignedChar d rs1 rs2 h k = store_around (lower_field d) rs1 rs2 0 (word_of (Sb rs1 rs2 (pos 0))) h k (omega arith) (omega arith)
store_filled (elements.Scalar types.Int) d rs1 rs2 h k = store_around (lower_field d) rs1 rs2 2 (word_of (Sw rs1 rs2 (pos 0))) h k (omega arith) (omega arith)
store_filled (elements.Scalar types.UnsignedInt) d rs1 rs2 h k = store_around (lower_field d) rs1 rs2 2 (word_of (Sw rs1 rs2 (pos 0))) h k (omega arith) (omega arith)
store_filled (elements.Scalar types.LongInt) d rs1 rs2 h k = store_around (lower_field d) rs1 rs2 3 (word_of (Sd rs1 rs2 (pos 0))) h k (omega arith) (omega arith)
store_filled (elements.Scalar types.LongUnsignedInt) d rs1 rs2 h k = store_around (lower_field d) rs1 rs2 3 (word_of (Sd rs1 rs2 (pos 0))) h k (omega arith) (omega arith)

-- ---- a word among others

changed_here : (front rest : List ℕ) (w n : ℕ) (change : ℕ → ℕ) → length front ≡ n → changed_at n change (front ++ w ∷ rest) ≡ front ++ change w ∷ rest
changed_here front rest w n change e =
    ap (λ (v : ℕ). set (front ++ w ∷ rest) n (change v)) (get_or_at front w rest 0 n e) ∙ set_at front w rest (change w) n e

call_changed : (front rest : List ℕ) (v w n from to : ℕ) → length front ≡ n
    → filled_by R_RISCV_CALL_PLT n from to (front ++ v ∷ (w ∷ rest)) ≡ front ++ with_upper (pos to -ℤ pos from) v ∷ (with_lower (pos to -ℤ pos from) w ∷ rest)
unfolding filled_by
call_changed front rest v w n from to e =
    let d = pos to -ℤ pos from in
    let u = with_upper d v in
    let longer : length (front ++ u ∷ []) ≡ n + 1 = omega (arith, length-append front (u ∷ [])) in
    ap (changed_at (n + 1) (with_lower d)) (changed_here front (w ∷ rest) v n (with_upper d) e ∙ sym (append_assoc front (u ∷ []) (w ∷ rest)))
    ∙ changed_here (front ++ u ∷ []) rest w (n + 1) (with_lower d) longer
    ∙ append_assoc front (u ∷ []) (with_lower d w ∷ rest)

upper_changed : (front rest : List ℕ) (w n from to : ℕ) → length front ≡ n → filled_by R_RISCV_HI20 n from to (front ++ w ∷ rest) ≡ front ++ with_upper (pos to) w ∷ rest
unfolding filled_by
upper_changed front rest w n from to e = changed_here front rest w n (with_upper (pos to)) e

lower_changed : (front rest : List ℕ) (w n from to : ℕ) → length front ≡ n → filled_by R_RISCV_LO12_I n from to (front ++ w ∷ rest) ≡ front ++ with_lower (pos to) w ∷ rest
unfolding filled_by
lower_changed front rest w n from to e = changed_here front rest w n (with_lower (pos to)) e

store_changed : (front rest : List ℕ) (w n from to : ℕ) → length front ≡ n → filled_by R_RISCV_LO12_S n from to (front ++ w ∷ rest) ≡ front ++ with_store_lower (pos to) w ∷ rest
unfolding filled_by
store_changed front rest w n from to e = changed_here front rest w n (with_store_lower (pos to)) e

-- ---- items

filled-append : (rs ss : List Reloc) (address_of : ℕ → ℕ) (at : ℕ) (words : List ℕ) → filled (rs ++ ss) address_of at words ≡ filled ss address_of at (filled rs address_of at words)
filled-append [] ss address_of at words = refl
filled-append (r ∷ rs) ss address_of at words = filled-append rs ss address_of at (filled_by r.kind (r.offset / 4) (at + r.offset) (address_of r.symbol) words)

all_front : {X : Type 0} (P : X → Type 0) (xs ys : List X) → AllByRecursion P (xs ++ ys) → AllByRecursion P xs
all_front P [] ys h = tt
all_front P (x ∷ xs) ys h = (h.0, all_front P xs ys h.1)

all_back : {X : Type 0} (P : X → Type 0) (xs ys : List X) → AllByRecursion P (xs ++ ys) → AllByRecursion P ys
all_back P [] ys h = h
all_back P (x ∷ xs) ys h = all_back P xs ys h.1

-- a distance between places is that between their addresses
same_distance : (at from to here label : ℕ) → here ≡ at + from → label ≡ at + to → pos to -ℤ pos from ≡ pos label -ℤ pos here
same_distance at from to here label e g = omega (arith, ints)

-- where a function's symbols and labels are, by the addresses of names' places
record Agrees (p : Places) (labels : ℕ → ℕ) (at : ℕ) : Type 0 where
  label : (l : ℕ) → p.label l ≡ at + labels l

abbrev HasAddress : VersionedFunction → List (List ℕ) → (ℕ → ℕ) → Places → Reference → Type 0
HasAddress f names address_of p r = address_of (place_of names (symbol_name f r.symbol)) ≡ p.symbol r.symbol

-- the words of an item between others
item_filled : (f : VersionedFunction) (names : List (List ℕ)) (address_of : ℕ → ℕ) (p : Places) (labels : ℕ → ℕ) (at offset here : ℕ) (i : Item) (front rest : List ℕ)
    → Agrees p labels at → HasRegisters i → here ≡ at + offset → 4 * length front ≡ offset → AllByRecursion (HasAddress f names address_of p) (reference_of offset i)
    → filled (map (relocation_of f names) (reference_of offset i)) address_of at (front ++ (map word_of (blank labels offset i) ++ rest)) ≡ front ++ (map word_of (resolved p here i) ++ rest)
item_filled f names address_of p labels at offset here (item.Plain i) front rest a r e g h = refl
item_filled f names address_of p labels at offset here (item.Label l) front rest a r e g h = refl
item_filled f names address_of p labels at offset here (item.Jump l) front rest a r e g h =
    ap (λ (d : ℤ). front ++ word_of (Jal 0 d) ∷ rest) (same_distance at offset (labels l) here (p.label l) e (a.label l))
item_filled f names address_of p labels at offset here (item.Call s) front rest a r e g h =
    let v = word_of (Auipc 1 (pos 0)) in
    let w = word_of (Jalr 1 1 (pos 0)) in
    let to = p.symbol s in
    let d = pos to -ℤ pos here in
    ap (λ (n : ℕ). filled_by R_RISCV_CALL_PLT (offset / 4) (at + offset) n (front ++ v ∷ (w ∷ rest))) h.0
    ∙ ap (λ (n : ℕ). filled_by R_RISCV_CALL_PLT (offset / 4) n to (front ++ v ∷ (w ∷ rest))) (sym e)
    ∙ call_changed front rest v w (offset / 4) here to (omega arith)
    ∙ ap (λ (n : ℕ). front ++ n ∷ (with_lower d w ∷ rest)) (auipc_filled d)
    ∙ ap (λ (n : ℕ). front ++ word_of (Auipc 1 (upper_of d)) ∷ (n ∷ rest)) (jalr_filled d)
item_filled f names address_of p labels at offset here (item.Upper rd s) front rest a r e g h =
    let w = word_of (Lui rd (pos 0)) in
    ap (λ (n : ℕ). filled_by R_RISCV_HI20 (offset / 4) (at + offset) n (front ++ w ∷ rest)) h.0
    ∙ upper_changed front rest w (offset / 4) (at + offset) (p.symbol s) (omega arith)
    ∙ ap (λ (n : ℕ). front ++ n ∷ rest) (lui_filled (pos (p.symbol s)) rd r)
item_filled f names address_of p labels at offset here (item.Load element rd rs1 s) front rest a r e g h =
    let w = word_of (element_load element rd rs1 (pos 0)) in
    ap (λ (n : ℕ). filled_by R_RISCV_LO12_I (offset / 4) (at + offset) n (front ++ w ∷ rest)) h.0
    ∙ lower_changed front rest w (offset / 4) (at + offset) (p.symbol s) (omega arith)
    ∙ ap (λ (n : ℕ). front ++ n ∷ rest) (load_filled element (pos (p.symbol s)) rd rs1 r.0 r.1)
item_filled f names address_of p labels at offset here (item.Store element rs1 rs2 s) front rest a r e g h =
    let w = word_of (element_store element rs1 rs2 (pos 0)) in
    ap (λ (n : ℕ). filled_by R_RISCV_LO12_S (offset / 4) (at + offset) n (front ++ w ∷ rest)) h.0
    ∙ store_changed front rest w (offset / 4) (at + offset) (p.symbol s) (omega arith)
    ∙ ap (λ (n : ℕ). front ++ n ∷ rest) (store_filled element (pos (p.symbol s)) rs1 rs2 r.0 r.1)

length-resolved : (p : Places) (at : ℕ) (i : Item) → length (resolved p at i) ≡ words_of i
length-resolved p at (item.Plain i) = refl
length-resolved p at (item.Label l) = refl
length-resolved p at (item.Jump l) = refl
length-resolved p at (item.Call s) = refl
length-resolved p at (item.Upper rd s) = refl
length-resolved p at (item.Load element rd rs1 s) = refl
length-resolved p at (item.Store element rs1 rs2 s) = refl

items_filled : (f : VersionedFunction) (names : List (List ℕ)) (address_of : ℕ → ℕ) (p : Places) (labels : ℕ → ℕ) (at offset here : ℕ) (items : List Item) (front : List ℕ)
    → Agrees p labels at → AllByRecursion HasRegisters items → here ≡ at + offset → 4 * length front ≡ offset → AllByRecursion (HasAddress f names address_of p) (laid reference_of offset items)
    → filled (map (relocation_of f names) (laid reference_of offset items)) address_of at (front ++ map word_of (laid (blank labels) offset items)) ≡ front ++ map word_of (direct p here items)
items_filled f names address_of p labels at offset here [] front a r e g h = refl
items_filled f names address_of p labels at offset here (i ∷ is) front a r e g h =
    let next = offset + 4 * words_of i in
    let behind = here + 4 * words_of i in
    let refs = reference_of offset i in
    let later = laid reference_of next is in
    let mine = map (relocation_of f names) refs in
    let others = map (relocation_of f names) later in
    let empty = map word_of (blank labels offset i) in
    let rest = map word_of (laid (blank labels) next is) in
    let full = map word_of (resolved p here i) in
    let long : 4 * length (front ++ full) ≡ next = omega (arith, g, length-append front full, length-map (resolved p here i) word_of, length-resolved p here i) in
    ap (λ (rs : List Reloc). filled rs address_of at (front ++ map word_of (blank labels offset i ++ laid (blank labels) next is))) (map-append (relocation_of f names) refs later)
    ∙ ap (λ (ws : List ℕ). filled (mine ++ others) address_of at (front ++ ws)) (map-append word_of (blank labels offset i) (laid (blank labels) next is))
    ∙ filled-append mine others address_of at (front ++ (empty ++ rest))
    ∙ ap (filled others address_of at) (item_filled f names address_of p labels at offset here i front rest a r.0 e g (all_front (HasAddress f names address_of p) refs later h))
    ∙ ap (filled others address_of at) (sym (append_assoc front full rest))
    ∙ items_filled f names address_of p labels at next behind is (front ++ full) a r.1 (omega arith) long (all_back (HasAddress f names address_of p) refs later h)
    ∙ append_assoc front full (map word_of (direct p behind is))
    ∙ ap (λ (ws : List ℕ). front ++ ws) (sym (map-append word_of (resolved p here i) (direct p behind is)))

pub patched_is_direct : PatchedIsDirect
unfolding words_of_code
patched_is_direct f names address_of addresses at h =
    let items = assembly_of f in
    let p = places_of addresses f at in
    let agrees : Agrees p (label_offset items) at = record { label = λ l. refl } in
    items_filled f names address_of p (label_offset items) at 0 at items [] agrees (assembly_registers f) (omega arith) (omega arith) h

-- ---- how many words

length-blank : (labels : ℕ → ℕ) (at : ℕ) (i : Item) → length (blank labels at i) ≡ words_of i
length-blank labels at (item.Plain i) = refl
length-blank labels at (item.Label l) = refl
length-blank labels at (item.Jump l) = refl
length-blank labels at (item.Call s) = refl
length-blank labels at (item.Upper rd s) = refl
length-blank labels at (item.Load element rd rs1 s) = refl
length-blank labels at (item.Store element rs1 rs2 s) = refl

as_long : (p : Places) (labels : ℕ → ℕ) (offset here : ℕ) (items : List Item) → length (laid (blank labels) offset items) ≡ length (direct p here items)
as_long p labels offset here [] = refl
as_long p labels offset here (i ∷ is) =
    let next = offset + 4 * words_of i in
    let behind = here + 4 * words_of i in
    omega (arith, length-append (blank labels offset i) (laid (blank labels) next is), length-append (resolved p here i) (direct p behind is), length-blank labels offset i, length-resolved p here i, as_long p labels next behind is)

pub same_length : SameLength
unfolding words_of_code
same_length f addresses at =
    let items = assembly_of f in
    length-map (unfilled items) word_of ∙ as_long (places_of addresses f at) (label_offset items) 0 at items
