-- The three stubs at the front of the text: the start, and the two that a program calls for input and output. They ask
-- the system by `ecall`, with the numbers of Linux for RISC-V: 63 reads, 64 writes, 93 ends.
use Rattle.std.specs.Prelude.{ℕ, pos, negsuc, List, [], ◌∷◌, ◌++◌}
use Rattle.rv64_isa.specs.declared.instr.Instr.{Instr}
use Rattle.rv64_isa.specs.declared.instr.Instr.TheVariants.{Lui, Jalr, Beq, Lbu, Sb, Addi, Ecall}
use Rattle.rv64_abi.specs.Offsets.{lo, upper_of, call}
use Rattle.rv64_abi.specs.Registers.{ra, sp, a0, a1, a2, a7}

abbrev pub start_address : ℕ
start_address = 0x10000

abbrev pub putchar_address : ℕ
putchar_address = 0x10018

abbrev pub getchar_address : ℕ
getchar_address = 0x10038

-- where the functions begin
abbrev pub functions_address : ℕ
functions_address = 0x10064

-- an address into a register
abbrev pub address_code : ℕ → ℕ → List Instr
address_code r address = Lui r (upper_of (pos address)) ∷ Addi r r (lo (pos address)) ∷ []

-- Sets the stack pointer to the stack's top, calls `main`, and ends with what it returns.
abbrev pub start_stub : ℕ → ℕ → List Instr
start_stub top main =
    address_code sp top ++ (call 0x10008 main ++ (Addi a7 0 (pos 93) ∷ Ecall ∷ []))

-- Writes the low 8 bits of a0, by way of the scratch byte.
abbrev pub putchar_stub : ℕ → List Instr
putchar_stub scratch =
    address_code a1 scratch
    ++ (Sb a1 a0 (pos 0) ∷ Addi a0 0 (pos 1) ∷ Addi a2 0 (pos 1) ∷ Addi a7 0 (pos 64) ∷ Ecall ∷ Jalr 0 ra (pos 0) ∷ [])

-- Reads a byte into a0 by way of the scratch byte, or -1 at the end of the input.
abbrev pub getchar_stub : ℕ → List Instr
getchar_stub scratch =
    address_code a1 scratch
    ++ (Addi a0 0 (pos 0) ∷ Addi a2 0 (pos 1) ∷ Addi a7 0 (pos 63) ∷ Ecall
    ∷ Beq a0 0 (pos 12) ∷ Lbu a0 a1 (pos 0) ∷ Jalr 0 ra (pos 0) ∷ Addi a0 0 (negsuc 0) ∷ Jalr 0 ra (pos 0) ∷ [])

abbrev pub stubs : ℕ → ℕ → ℕ → List Instr
stubs top scratch main = start_stub top main ++ (putchar_stub scratch ++ getchar_stub scratch)
