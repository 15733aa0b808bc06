-- The two readings of a function's assembly: its code at an address, where the addresses of all symbols are known; and its code in
-- an object, in which the fields that depend on symbols are 0.
use Rattle.std.specs.Prelude.{ℕ, ◌+◌, ◌*◌, ◌==◌, pos, ◌-ℤ◌, Bool, false, List, [], ◌∷◌, ◌++◌, sum_by, slice_get, unwrap_or, codes, if◌then◌else◌}
use Rattle.std.specs.Option.{option_map_or}
use Rattle.std.specs.List.{flat_map}
use Rattle.rv64_isa.specs.declared.instr.Instr.{Instr}
use Rattle.rv64_isa.specs.declared.instr.Instr.TheVariants.{Lui, Auipc, Jal, Jalr}
use Rattle.gimple_ir.specs.declared.types.Operand.{Operand}
use Rattle.gimple_ir.specs.declared.versioned.Step.{Step}
use Rattle.gimple_ir.specs.declared.versioned.VersionedFunction.{VersionedFunction}
use Rattle.rv64_frame.specs.Frames.{frame_of}
use Rattle.rv64_abi.specs.Registers.{ra}
use Rattle.rv64_abi.specs.Offsets.{lo, upper_of, call}
use Rattle.rv64_select.specs.declared.item.Symbol.{Symbol}
use Rattle.rv64_select.specs.declared.item.Symbol.TheVariants as symbols
use Rattle.rv64_select.specs.declared.item.Item.{Item}
use Rattle.rv64_select.specs.declared.item.Item.TheVariants as item
use Rattle.rv64_select.specs.Operations.{element_load, element_store}
use Rattle.rv64_select.specs.Assembly.{operand_in, step_items, assembly_of}

-- ---- items at their places

-- how many words an item has
abbrev pub words_of : Item → ℕ
words_of (item.Label l) = 0
words_of (item.Call s) = 2
words_of _ = 1

abbrev pub words_in : List Item → ℕ
words_in items = sum_by words_of items

-- what each item gives where it stands, from a place on, one after the other
abbrev pub laid : {A : Type 0} → (ℕ → Item → List A) → ℕ → List Item → List A
laid give at [] = []
laid give at (i ∷ is) = give at i ++ laid give (at + 4 * words_of i) is

abbrev pub is_label : ℕ → Item → Bool
is_label l (item.Label k) = k == l
is_label l _ = false

-- where a label stands among items from a place on; `found` if it does not
abbrev pub label_from : ℕ → ℕ → ℕ → List Item → ℕ
label_from l found at [] = found
label_from l found at (i ∷ is) = label_from l (if is_label l i then at else found) (at + 4 * words_of i) is

-- how many bytes stand before a label
abbrev pub label_offset : List Item → ℕ → ℕ
label_offset items l = label_from l 0 0 items

-- ---- at an address

-- the addresses of labels and symbols
pub record Places : Type 0 where
  pub label : ℕ → ℕ
  pub symbol : Symbol → ℕ

-- the code of an item at an address
abbrev pub resolved : Places → ℕ → Item → List Instr
resolved p at (item.Plain i) = i ∷ []
resolved p at (item.Label l) = []
resolved p at (item.Jump l) = Jal 0 (pos (p.label l) -ℤ pos at) ∷ []
resolved p at (item.Call s) = call at (p.symbol s)
resolved p at (item.Upper rd s) = Lui rd (upper_of (pos (p.symbol s))) ∷ []
resolved p at (item.Load element rd rs1 s) = element_load element rd rs1 (lo (pos (p.symbol s))) ∷ []
resolved p at (item.Store element rs1 rs2 s) = element_store element rs1 rs2 (lo (pos (p.symbol s))) ∷ []

-- the code of items from an address on
abbrev pub direct : Places → ℕ → List Item → List Instr
direct p at items = laid (resolved p) at items

-- the name of a symbol of a function
abbrev pub symbol_name : VersionedFunction → Symbol → List ℕ
symbol_name f symbols.Putchar = codes "__builtin_putchar"
symbol_name f symbols.Getchar = codes "__builtin_getchar"
symbol_name f (symbols.Target c) = unwrap_or (slice_get f.calls c) []
symbol_name f (symbols.Array a) = option_map_or (λ u. u.symbol) (slice_get f.arrays a) []

-- where labels and symbols are, if the function begins at an address
abbrev pub places_of : (List ℕ → ℕ) → VersionedFunction → ℕ → Places
places_of addresses f at = record { label = λ l. at + label_offset (assembly_of f) l; symbol = λ s. addresses (symbol_name f s) }

-- the code of a function at an address; `addresses` gives the address of each symbol by its name
abbrev pub code_of : (List ℕ → ℕ) → VersionedFunction → ℕ → List Instr
code_of addresses f at = direct (places_of addresses f at) at (assembly_of f)

-- the code of an operand, of a step and of steps one after the other, at an address

abbrev pub operand_code : VersionedFunction → ℕ → Operand → List Instr
operand_code f r a = operand_in (frame_of f) r a

abbrev pub step_code : Places → VersionedFunction → ℕ → Step → List Instr
step_code p f at step = direct p at (step_items (frame_of f) f step)

abbrev pub steps_code : Places → VersionedFunction → ℕ → List Step → List Instr
steps_code p f at steps = direct p at (flat_map (step_items (frame_of f) f) steps)

-- ---- in an object

-- the code of an item at an offset of its function, with 0 in each field that is filled by a symbol
abbrev pub blank : (ℕ → ℕ) → ℕ → Item → List Instr
blank labels at (item.Plain i) = i ∷ []
blank labels at (item.Label l) = []
blank labels at (item.Jump l) = Jal 0 (pos (labels l) -ℤ pos at) ∷ []
blank labels at (item.Call s) = Auipc ra (pos 0) ∷ (Jalr ra ra (pos 0) ∷ [])
blank labels at (item.Upper rd s) = Lui rd (pos 0) ∷ []
blank labels at (item.Load element rd rs1 s) = element_load element rd rs1 (pos 0) ∷ []
blank labels at (item.Store element rs1 rs2 s) = element_store element rs1 rs2 (pos 0) ∷ []

-- the code of a whole function
abbrev pub unfilled : List Item → List Instr
unfilled items = laid (blank (label_offset items)) 0 items
