-- The relocations of a function are at words that they may fill, one behind the other.
use Rattle.std.proofs.Common.{◌≡◌, ℕ, zero, suc, ◌+◌, ◌*◌, ◌/◌, ◌%◌, ◌^◌, ◌<◌, ◌≤◌, pos, true, false, cond, ◌&&◌, ◌||◌, List, [], ◌∷◌, ◌++◌, length, map, Some, refl, sym, ap, ◌∙◌, arith, append_assoc, length-append}
use Rattle.std.specs.Prelude.{◌==◌, nat_le, slice_get}
use Rattle.std.proofs.lemmas.List.{map-append, length-map}
use Rattle.std.proofs.lemmas.Bool.{and_from, eq-eqb, le-leb}
use Rattle.elf_container.specs.declared.format.TheConstants.{R_RISCV_CALL_PLT, R_RISCV_HI20, R_RISCV_LO12_I, R_RISCV_LO12_S}
use Rattle.elf_container.specs.declared.relocatable.Reloc.{Reloc}
use Rattle.elf_container.specs.Relocatable.{opcode, funct3, is_auipc, is_jalr, is_lui, is_load, is_store, fills_by, fills, reach, relocs_from}
use Rattle.gimple_ir.specs.declared.types.ScalarType.TheVariants as types
use Rattle.gimple_ir.specs.declared.types.ElementType.{ElementType}
use Rattle.gimple_ir.specs.declared.types.ElementType.TheVariants as elements
use Rattle.gimple_ir.specs.declared.versioned.VersionedFunction.{VersionedFunction}
use Rattle.rv64_isa.specs.declared.instr.Instr.TheVariants.{Lui, Auipc, Jalr}
use Rattle.rv64_isa.specs.Format.{IsRegister, word_of_fields}
use Rattle.rv64_isa.specs.Words.{word_of}
use Rattle.rv64_select.specs.declared.item.Symbol.{Symbol}
use Rattle.rv64_select.specs.declared.item.Item.{Item}
use Rattle.rv64_select.specs.declared.item.Item.TheVariants as item
use Rattle.rv64_select.specs.declared.references.Reference.{Reference}
use Rattle.rv64_select.specs.Operations.{element_load, element_store}
use Rattle.rv64_select.specs.Assembly.{assembly_of}
use Rattle.rv64_select.specs.Code.{words_of, laid, blank, label_offset}
use Rattle.rv64_select.specs.Selected.{words_of_code, names_of_code, relocations_of_code, reference_of, relocation_of}
use Rattle.gimple_meaning.specs.Versioned.{IsVersioned}
use Rattle.rv64_select.proofs.Laying.{length-blank}
use Rattle.rv64_select.proofs.Fits.{ItemFits, AllFit, assembly_fits}

-- ---- a word among others

get_here : (front : List ℕ) (w : ℕ) (rest : List ℕ) (n : ℕ) → length front ≡ n → slice_get (front ++ w ∷ rest) n ≡ Some w
get_here [] w rest zero e = refl
get_here [] w rest (suc n) e = absurd (omega arith)
get_here (x ∷ xs) w rest zero e = absurd (omega arith)
get_here (x ∷ xs) w rest (suc n) e = get_here xs w rest n (omega arith)

get_next : (front : List ℕ) (v w : ℕ) (rest : List ℕ) (n : ℕ) → suc (length front) ≡ n → slice_get (front ++ v ∷ (w ∷ rest)) n ≡ Some w
get_next [] v w rest zero e = absurd (omega arith)
get_next [] v w rest (suc zero) e = refl
get_next [] v w rest (suc (suc n)) e = absurd (omega arith)
get_next (x ∷ xs) v w rest zero e = absurd (omega arith)
get_next (x ∷ xs) v w rest (suc n) e = get_next xs v w rest n (omega arith)

-- ---- what an unfilled word is

auipc_unfilled : is_auipc (word_of (Auipc 1 (pos 0))) ≡ true
auipc_unfilled = refl

jalr_unfilled : is_jalr (word_of (Jalr 1 1 (pos 0))) ≡ true
jalr_unfilled = refl

lui_by : (w rd : ℕ) → w ≡ 0x37 + rd * 2 ^ 7 → IsRegister rd → is_lui w ≡ true
lui_by w rd e h = and_from (opcode w == 0x37) (w / 2 ^ 12 == 0) (eq-eqb (opcode w) 0x37 (omega arith)) (eq-eqb (w / 2 ^ 12) 0 (omega arith))

lui_unfilled : (rd : ℕ) → IsRegister rd → is_lui (word_of (Lui rd (pos 0))) ≡ true
lui_unfilled rd h = lui_by (word_of (Lui rd (pos 0))) rd (omega arith) h

-- a load by funct3 and registers
abbrev load_word : ℕ → ℕ → ℕ → ℕ
load_word f rd rs1 = word_of_fields (record { opcode = 0x03; rd = rd; funct3 = f; rs1 = rs1; rs2 = 0; funct7 = 0 })

load_kind : (f g : ℕ) → f ≡ g → (g == 4 || g == 2 || g == 3) ≡ true → (f == 4 || f == 2 || f == 3) ≡ true
load_kind f g e h = ap (λ (n : ℕ). n == 4 || n == 2 || n == 3) e ∙ h

load_by : (f rd rs1 : ℕ) → (f == 4 || f == 2 || f == 3) ≡ true → f < 8 → IsRegister rd → IsRegister rs1 → is_load (load_word f rd rs1) ≡ true
load_by f rd rs1 k l h g =
    and_from _ _ (and_from _ _ (eq-eqb _ _ (omega arith)) (load_kind (funct3 (load_word f rd rs1)) f (omega arith) k)) (eq-eqb _ _ (omega arith))

load_unfilled : (element : ElementType) (rd rs1 : ℕ) → IsRegister rd → IsRegister rs1 → is_load (word_of (element_load element rd rs1 (pos 0))) ≡ true
load_unfilled elements.UnsignedChar rd rs1 h k = load_by 4 rd rs1 refl (omega arith) h k
load_unfilled (elements.Scalar types.Int) rd rs1 h k = load_by 2 rd rs1 refl (omega arith) h k
load_unfilled (elements.Scalar types.UnsignedInt) rd rs1 h k = load_by 2 rd rs1 refl (omega arith) h k
load_unfilled (elements.Scalar types.LongInt) rd rs1 h k = load_by 3 rd rs1 refl (omega arith) h k
load_unfilled (elements.Scalar types.LongUnsignedInt) rd rs1 h k = load_by 3 rd rs1 refl (omega arith) h k

-- a store by funct3 and registers
abbrev store_word : ℕ → ℕ → ℕ → ℕ
store_word f rs1 rs2 = word_of_fields (record { opcode = 0x23; rd = 0; funct3 = f; rs1 = rs1; rs2 = rs2; funct7 = 0 })

store_kind : (f g : ℕ) → f ≡ g → (g == 0 || g == 2 || g == 3) ≡ true → (f == 0 || f == 2 || f == 3) ≡ true
store_kind f g e h = ap (λ (n : ℕ). n == 0 || n == 2 || n == 3) e ∙ h

store_by : (f rs1 rs2 : ℕ) → (f == 0 || f == 2 || f == 3) ≡ true → f < 8 → IsRegister rs1 → IsRegister rs2 → is_store (store_word f rs1 rs2) ≡ true
store_by f rs1 rs2 k l h g =
    and_from _ _ (and_from _ _ (and_from _ _ (eq-eqb _ _ (omega arith)) (store_kind (funct3 (store_word f rs1 rs2)) f (omega arith) k)) (eq-eqb _ _ (omega arith))) (eq-eqb _ _ (omega arith))

store_unfilled : (element : ElementType) (rs1 rs2 : ℕ) → IsRegister rs1 → IsRegister rs2 → is_store (word_of (element_store element rs1 rs2 (pos 0))) ≡ true
store_unfilled elements.UnsignedChar rs1 rs2 h k = store_by 0 rs1 rs2 refl (omega arith) h k
store_unfilled (elements.Scalar types.Int) rs1 rs2 h k = store_by 2 rs1 rs2 refl (omega arith) h k
store_unfilled (elements.Scalar types.UnsignedInt) rs1 rs2 h k = store_by 2 rs1 rs2 refl (omega arith) h k
store_unfilled (elements.Scalar types.LongInt) rs1 rs2 h k = store_by 3 rs1 rs2 refl (omega arith) h k
store_unfilled (elements.Scalar types.LongUnsignedInt) rs1 rs2 h k = store_by 3 rs1 rs2 refl (omega arith) h k

-- ---- what a relocation fills

call_fills : (front rest words : List ℕ) (n : ℕ) → length front ≡ n → words ≡ front ++ word_of (Auipc 1 (pos 0)) ∷ (word_of (Jalr 1 1 (pos 0)) ∷ rest) → fills R_RISCV_CALL_PLT n words ≡ true
unfolding fills
call_fills front rest words n e is =
    let v = word_of (Auipc 1 (pos 0)) in
    let w = word_of (Jalr 1 1 (pos 0)) in
    let here : slice_get words n ≡ Some v = ap (λ (ws : List ℕ). slice_get ws n) is ∙ get_here front v (w ∷ rest) n e in
    let next : slice_get words (n + 1) ≡ Some w = ap (λ (ws : List ℕ). slice_get ws (n + 1)) is ∙ get_next front v w rest (n + 1) (omega arith) in
    ap (λ o. fills_by R_RISCV_CALL_PLT o (slice_get words (n + 1))) here ∙ ap (λ o. fills_by R_RISCV_CALL_PLT (Some v) o) next

-- a relocation of one word
one_fills : (kind w : ℕ) (front rest words : List ℕ) (n : ℕ) → ((o : _) → fills_by kind (Some w) o ≡ true) → length front ≡ n → words ≡ front ++ w ∷ rest → fills kind n words ≡ true
unfolding fills
one_fills kind w front rest words n good e is =
    ap (λ o. fills_by kind o (slice_get words (n + 1))) (ap (λ (ws : List ℕ). slice_get ws n) is ∙ get_here front w rest n e) ∙ good (slice_get words (n + 1))

-- ---- one relocation before others

relocs_then : (least : ℕ) (words : List ℕ) (r : Reloc) (rs : List Reloc) → least ≤ r.offset → r.offset % 4 ≡ 0 → fills r.kind (r.offset / 4) words ≡ true
    → relocs_from (r.offset + reach r.kind) words rs ≡ true → relocs_from least words (r ∷ rs) ≡ true
relocs_then least words r rs h e g k =
    let test : (nat_le least r.offset && r.offset % 4 == 0 && fills r.kind (r.offset / 4) words) ≡ true =
    and_from _ _ (and_from _ _ (le-leb least r.offset h) (eq-eqb (r.offset % 4) 0 e)) g in
    ap (λ b. cond b (relocs_from (r.offset + reach r.kind) words rs) false) test ∙ k

-- ---- items

-- the relocations of references by these names
abbrev relocated : VersionedFunction → List (List ℕ) → List Reference → List Reloc
relocated f names refs = map (relocation_of f names) refs

-- the relocation of a symbol at an offset
abbrev relocation_at : VersionedFunction → List (List ℕ) → ℕ → ℕ → Symbol → Reloc
relocation_at f names at kind s = relocation_of f names (record { offset = at; kind = kind; symbol = s })

-- the relocations of an item, before those that are behind it
item_relocs : (f : VersionedFunction) (names : List (List ℕ)) (labels : ℕ → ℕ) (least at : ℕ) (i : Item) (front rest words : List ℕ) (rs : List Reloc)
    → ItemFits f i → least ≤ at → 4 * length front ≡ at → words ≡ front ++ (map word_of (blank labels at i) ++ rest)
    → ((later : ℕ) → later ≤ at + 4 * words_of i → relocs_from later words rs ≡ true)
    → relocs_from least words (relocated f names (reference_of at i) ++ rs) ≡ true
item_relocs f names labels least at (item.Plain i) front rest words rs fit h e is behind = behind least (omega arith)
item_relocs f names labels least at (item.Label l) front rest words rs fit h e is behind = behind least (omega arith)
item_relocs f names labels least at (item.Jump l) front rest words rs fit h e is behind = behind least (omega arith)
item_relocs f names labels least at (item.Call s) front rest words rs fit h e is behind =
    relocs_then least words (relocation_at f names at R_RISCV_CALL_PLT s) rs h (omega arith) (call_fills front rest words (at / 4) (omega arith) is) (behind (at + 8) (omega arith))
item_relocs f names labels least at (item.Upper rd s) front rest words rs fit h e is behind =
    relocs_then least words (relocation_at f names at R_RISCV_HI20 s) rs h (omega arith) (one_fills R_RISCV_HI20 _ front rest words (at / 4) (λ o. lui_unfilled rd fit.0) (omega arith) is) (behind (at + 4) (omega arith))
item_relocs f names labels least at (item.Load element rd rs1 s) front rest words rs fit h e is behind =
    relocs_then least words (relocation_at f names at R_RISCV_LO12_I s) rs h (omega arith) (one_fills R_RISCV_LO12_I _ front rest words (at / 4) (λ o. load_unfilled element rd rs1 fit.0 fit.1) (omega arith) is) (behind (at + 4) (omega arith))
item_relocs f names labels least at (item.Store element rs1 rs2 s) front rest words rs fit h e is behind =
    relocs_then least words (relocation_at f names at R_RISCV_LO12_S s) rs h (omega arith) (one_fills R_RISCV_LO12_S _ front rest words (at / 4) (λ o. store_unfilled element rs1 rs2 fit.0 fit.1) (omega arith) is) (behind (at + 4) (omega arith))

items_relocs : (f : VersionedFunction) (names : List (List ℕ)) (labels : ℕ → ℕ) (least at : ℕ) (items : List Item) (front words : List ℕ)
    → AllFit f items → least ≤ at → 4 * length front ≡ at → words ≡ front ++ map word_of (laid (blank labels) at items)
    → relocs_from least words (relocated f names (laid reference_of at items)) ≡ true
items_relocs f names labels least at [] front words fit h e is = refl
items_relocs f names labels least at (i ∷ is) front words fit h e eq =
    let next = at + 4 * words_of i in
    let here = map word_of (blank labels at i) in
    let rest = map word_of (laid (blank labels) next is) in
    let parted : words ≡ front ++ (here ++ rest) = eq ∙ ap (λ (ws : List ℕ). front ++ ws) (map-append word_of (blank labels at i) (laid (blank labels) next is)) in
    let behind : words ≡ (front ++ here) ++ rest = parted ∙ sym (append_assoc front here rest) in
    let long : 4 * length (front ++ here) ≡ next = omega (arith, length-append front here, length-map (blank labels at i) word_of, length-blank labels at i) in
    let refs = relocated f names (laid reference_of next is) in
    ap (relocs_from least words) (map-append (relocation_of f names) (reference_of at i) (laid reference_of next is))
    ∙ item_relocs f names labels least at i front rest words refs fit.0 h e parted
    (λ (later : ℕ) (k : later ≤ next). items_relocs f names labels later next is (front ++ here) words fit.1 k long behind)

pub whole_fills : (f : VersionedFunction) (words : List ℕ) (relocations : List Reloc) → IsVersioned f → words ≡ words_of_code f → relocations ≡ relocations_of_code f
    → relocs_from 0 words relocations ≡ true
unfolding words_of_code relocations_of_code
whole_fills f words relocations h e g =
    let items = assembly_of f in
    ap (relocs_from 0 words) g ∙ items_relocs f (names_of_code f) (label_offset items) 0 0 items [] words (assembly_fits f h) (omega arith) (omega arith) e
