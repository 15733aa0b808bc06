-- An offset in two parts, for an instruction with 20 upper bits and one with 12 lower bits (RISC-V psABI, "Code
-- models": `%hi` and `%lo`, and `R_RISCV_CALL_PLT`).
use Rattle.std.specs.Prelude.{ℕ, ◌^◌, ℤ, pos, ◌+ℤ◌, ◌-ℤ◌, ◌*ℤ◌, List, [], ◌∷◌}
use Rattle.std.specs.Int.{int_shr}
use Rattle.rv64_isa.specs.declared.instr.Instr.{Instr}
use Rattle.rv64_isa.specs.declared.instr.Instr.TheVariants.{Auipc, Jalr}
use Rattle.rv64_abi.specs.Registers.{ra}
use Rattle.rv64_isa.specs.Format.{residue}

-- the upper part: the lower one may be negative, so it is rounded to the nearest
abbrev pub hi : ℤ → ℤ
hi offset = int_shr (offset +ℤ pos 0x800) 12

-- the lower part, from -2048 to 2047
abbrev pub lo : ℤ → ℤ
lo offset = offset -ℤ (pos 4096 *ℤ hi offset)

-- the 20-bit field of `lui` and `auipc` for the upper part
abbrev pub upper_of : ℤ → ℤ
upper_of offset = pos (residue (2 ^ 20) (hi offset))

-- the two instructions of a call, from one address, of another
abbrev pub call : ℕ → ℕ → List Instr
call from to = let distance = pos to -ℤ pos from in Auipc ra (upper_of distance) ∷ Jalr ra ra (lo distance) ∷ []
