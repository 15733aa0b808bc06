-- What relocations fill, as the RISC-V psABI has it ("Relocations"): R_RISCV_CALL_PLT an `auipc` and the `jalr` behind
-- it, R_RISCV_HI20 a `lui`, R_RISCV_LO12_I a load, R_RISCV_LO12_S a store. Only the immediate of a word is filled.
use Rattle.std.specs.Prelude.{ℕ, ◌+◌, ◌*◌, ◌/◌, ◌%◌, ◌^◌, ℤ, pos, ◌-ℤ◌, List, [], ◌∷◌, slice_index, slice_set, ◌==◌, if◌then◌else◌}
use Rattle.elf_container.specs.declared.relocatable.Reloc.{Reloc}
use Rattle.elf_container.specs.declared.format.TheConstants.{R_RISCV_CALL_PLT, R_RISCV_HI20, R_RISCV_LO12_I, R_RISCV_LO12_S}
use Rattle.rv64_isa.specs.Format.{residue}
use Rattle.rv64_abi.specs.Offsets.{hi, lo}

-- ---- a word

-- the 20 bits of the upper part of an offset, and the 12 bits of the lower part
abbrev pub upper_field : ℤ → ℕ
upper_field offset = residue (2 ^ 20) (hi offset)

abbrev pub lower_field : ℤ → ℕ
lower_field offset = residue (2 ^ 12) (lo offset)

-- a word of `lui` or `auipc` with the upper part of an offset
abbrev pub with_upper : ℤ → ℕ → ℕ
with_upper offset w = w % 2 ^ 12 + upper_field offset * 2 ^ 12

-- a word of `jalr` or of a load with the lower part of an offset
abbrev pub with_lower : ℤ → ℕ → ℕ
with_lower offset w = w % 2 ^ 20 + lower_field offset * 2 ^ 20

-- a word of a store, which has the lower part's low five bits and its high seven apart
abbrev pub with_store_lower : ℤ → ℕ → ℕ
with_store_lower offset w =
    w % 2 ^ 7 + lower_field offset % 2 ^ 5 * 2 ^ 7 + w / 2 ^ 12 % 2 ^ 13 * 2 ^ 12 + lower_field offset / 2 ^ 5 * 2 ^ 25

-- ---- words

-- words of which the one at a place is changed, if there is one
abbrev pub changed_at : ℕ → (ℕ → ℕ) → List ℕ → List ℕ
changed_at place change words = slice_set words place (change (slice_index words place))

-- the words after a relocation of a kind at a place of them, from this address to that one
unfoldable pub filled_by : ℕ → ℕ → ℕ → ℕ → List ℕ → List ℕ
filled_by kind place from to words =
    if kind == R_RISCV_CALL_PLT then changed_at (place + 1) (with_lower (pos to -ℤ pos from)) (changed_at place (with_upper (pos to -ℤ pos from)) words)
    else (if kind == R_RISCV_HI20 then changed_at place (with_upper (pos to)) words
    else (if kind == R_RISCV_LO12_I then changed_at place (with_lower (pos to)) words
    else (if kind == R_RISCV_LO12_S then changed_at place (with_store_lower (pos to)) words
    else words)))

-- The words after all relocations. The first word is at an address; offsets are counted from there, in bytes, and
-- `address_of` gives the address of a symbol.
abbrev pub filled : List Reloc → (ℕ → ℕ) → ℕ → List ℕ → List ℕ
filled [] address_of at words = words
filled (r ∷ rs) address_of at words = filled rs address_of at (filled_by r.kind (r.offset / 4) (at + r.offset) (address_of r.symbol) words)
