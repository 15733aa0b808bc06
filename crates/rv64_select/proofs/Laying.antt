-- Items one after the other.
use Rattle.std.proofs.Common.{◌≡◌, ℕ, ◌+◌, ◌*◌, List, [], ◌∷◌, ◌++◌, length, refl, sym, ap, ◌∙◌, arith, append_assoc, length-append}
use Rattle.std.specs.List.{flat_map}
use Rattle.std.proofs.lemmas.List.Sums.{sum_by-append, sum_by-cons}
use Rattle.rv64_isa.specs.declared.instr.Instr.{Instr}
use Rattle.gimple_ir.specs.declared.versioned.Step.{Step}
use Rattle.gimple_ir.specs.declared.versioned.VersionedFunction.{VersionedFunction}
use Rattle.rv64_frame.specs.Frames.{frame_of}
use Rattle.rv64_select.specs.declared.item.Item.{Item}
use Rattle.rv64_select.specs.declared.item.Item.TheVariants.{Plain, Label, Jump, Call, Upper, Load, Store}
use Rattle.rv64_select.specs.Assembly.{plain, step_items}
use Rattle.rv64_select.specs.Code.{words_of, words_in, laid, Places, resolved, direct, blank, step_code, steps_code}

pub words-cons : (i : Item) (is : List Item) → words_in (i ∷ is) ≡ words_of i + words_in is
words-cons i is = sum_by-cons words_of i is

pub words-append : (xs ys : List Item) → words_in (xs ++ ys) ≡ words_in xs + words_in ys
words-append xs ys = sum_by-append words_of xs ys

pub words-plain : (code : List Instr) → words_in (plain code) ≡ length code
words-plain [] = refl
words-plain (i ∷ is) = omega (arith, words-cons (Plain i) (plain is), words-plain is)

pub laid-append : {A : Type 0} (give : ℕ → Item → List A) (at : ℕ) (xs ys : List Item) → laid give at (xs ++ ys) ≡ laid give at xs ++ laid give (at + 4 * words_in xs) ys
laid-append give at [] ys = ap (λ (n : ℕ). laid give n ys) (omega arith)
laid-append {A} give at (x ∷ xs) ys =
    let next = at + 4 * words_of x in
    ap (λ (l : List A). give at x ++ l) (laid-append give next xs ys)
    ∙ sym (append_assoc (give at x) (laid give next xs) (laid give (next + 4 * words_in xs) ys))
    ∙ ap (λ (n : ℕ). (give at x ++ laid give next xs) ++ laid give n ys) (omega (arith, words-cons x xs))

-- what gives as much as an item has words, gives as much as all items have
pub length-laid : {A : Type 0} (give : ℕ → Item → List A) → ((at : ℕ) (i : Item) → length (give at i) ≡ words_of i)
    → (at : ℕ) (items : List Item) → length (laid give at items) ≡ words_in items
length-laid give same at [] = refl
length-laid give same at (i ∷ is) =
    let next = at + 4 * words_of i in
    omega (arith, length-append (give at i) (laid give next is), same at i, length-laid give same next is, words-cons i is)

-- ---- at an address

length-resolved : (p : Places) (at : ℕ) (i : Item) → length (resolved p at i) ≡ words_of i
length-resolved p at (Plain i) = refl
length-resolved p at (Label l) = refl
length-resolved p at (Jump l) = refl
length-resolved p at (Call s) = refl
length-resolved p at (Upper rd s) = refl
length-resolved p at (Load element rd rs1 s) = refl
length-resolved p at (Store element rs1 rs2 s) = refl

pub length-direct : (p : Places) (at : ℕ) (items : List Item) → length (direct p at items) ≡ words_in items
length-direct p at items = length-laid (resolved p) (length-resolved p) at items

pub direct-plain : (p : Places) (at : ℕ) (code : List Instr) → direct p at (plain code) ≡ code
direct-plain p at [] = refl
direct-plain p at (i ∷ is) = ap (λ (l : List Instr). i ∷ l) (direct-plain p (at + 4 * 1) is)

-- instructions as they stand, and the code of what is behind them
pub direct-front : (p : Places) (at : ℕ) (code : List Instr) (items : List Item) → direct p at (plain code ++ items) ≡ code ++ direct p (at + 4 * length code) items
direct-front p at code items =
    laid-append (resolved p) at (plain code) items
    ∙ ap (λ (l : List Instr). l ++ direct p (at + 4 * words_in (plain code)) items) (direct-plain p at code)
    ∙ ap (λ (n : ℕ). code ++ direct p (at + 4 * n) items) (words-plain code)

-- the code of a step, and that of the steps behind it
pub steps-cons : (p : Places) (f : VersionedFunction) (at : ℕ) (s : Step) (ss : List Step)
    → steps_code p f at (s ∷ ss) ≡ step_code p f at s ++ steps_code p f (at + 4 * length (step_code p f at s)) ss
steps-cons p f at s ss =
    let first = step_items (frame_of f) f s in
    laid-append (resolved p) at first (flat_map (step_items (frame_of f) f) ss)
    ∙ ap (λ (n : ℕ). step_code p f at s ++ steps_code p f (at + 4 * n) ss) (sym (length-direct p at first))

-- ---- in an object

pub length-blank : (labels : ℕ → ℕ) (at : ℕ) (i : Item) → length (blank labels at i) ≡ words_of i
length-blank labels at (Plain i) = refl
length-blank labels at (Label l) = refl
length-blank labels at (Jump l) = refl
length-blank labels at (Call s) = refl
length-blank labels at (Upper rd s) = refl
length-blank labels at (Load element rd rs1 s) = refl
length-blank labels at (Store element rs1 rs2 s) = refl
